use Rattle.std.proofs.lemmas.Result.{err_from_is_err_and}
use Rattle.transactions.proofs.Copying.{zeroed_on, zeroing_stops, zeroing_ends}
use Rattle.transactions.proofs.recovery.write_zeros.Goals as goal

pub loop-address-preserved : goal.loop-address-preserved
loop-address-preserved g c r t more =
    c.loop-address.invariant r t (zeroed_on g.D.Reader g.D.Disk c.args.n c.loop-address.address c.loop-address.disk c.write.new.self c.loop-address-test.true r t c.in_ok-write.ensures.steps more)

pub returns-in_err-write : goal.returns-in_err-write
returns-in_err-write g c =
    let p = err_from_is_err_and c.from_residual.result c.from_residual.ensures.1 in
    rw (p.1, p.2) (c.loop-address.invariant _ _ (zeroing_stops g.D.Reader g.D.Disk c.args.n c.loop-address.address c.loop-address.disk c.write.new.self c.loop-address-test.true _ c.in_err-write.ensures.steps))

pub returns : goal.returns
returns g c = c.loop-address.invariant _ _ (zeroing_ends g.D.Reader g.D.Disk c.args.n c.loop-address.address c.loop-address.disk c.loop-address-test.false)
