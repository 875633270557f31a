use Rattle.std.proofs.lemmas.Result.{err_from_is_err_and}
use Rattle.transactions.proofs.Copying.{copied_on, copy_stops, copies_end}
use Rattle.transactions.proofs.disk_work.copy_home.Goals as goal

pub loop-i-preserved : goal.loop-i-preserved
loop-i-preserved g c r t more =
    c.loop-i.invariant r t (copied_on g.D.Reader g.D.Disk c.args.log.now c.loop-i.i c.loop-i.disk c.copy_block.new.disk c.loop-i-test.true r t c.in_ok-copy_block.ensures more)

pub returns-in_err-copy_block : goal.returns-in_err-copy_block
returns-in_err-copy_block g c =
    let p = err_from_is_err_and c.from_residual.result c.from_residual.ensures.1 in
    rw (p.1, p.2) (c.loop-i.invariant _ _ (copy_stops g.D.Reader g.D.Disk c.args.log.now c.loop-i.i c.loop-i.disk c.copy_block.new.disk c.loop-i-test.true _ c.in_err-copy_block.ensures))

pub returns : goal.returns
returns g c = c.loop-i.invariant _ _ (copies_end g.D.Reader g.D.Disk c.args.log.now c.loop-i.i c.loop-i.disk c.loop-i-test.false)
