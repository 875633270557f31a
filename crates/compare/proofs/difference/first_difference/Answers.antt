use Rattle.std.proofs.Common.{sym, ◌∙◌, rules}
use Rattle.compare.proofs.Blocks.{first, located}
use Rattle.compare.proofs.difference.first_difference.Goals as goal

pub returns-in_err-offset : goal.returns-in_err-offset
returns-in_err-offset c =
    let is = rw (sym c.first_unequal.ensures.place ∙ c.in_err-offset.was) at (located c.args.address c.args.old.now c.args.new.now) in
    record { value = c.from_residual.ensures ∙ sym is; first = rw (c.from_residual.ensures ∙ sym is) (first c.args.address c.args.old.now c.args.new.now (search rules) (search rules)) }

pub returns : goal.returns
returns c =
    let is = rw (sym c.first_unequal.ensures.place ∙ c.in_ok-offset.was) at (located c.args.address c.args.old.now c.args.new.now) in
    record { value = sym is; first = rw is at (first c.args.address c.args.old.now c.args.new.now (search rules) (search rules)) }
