use Rattle.std.proofs.Common.{ℕ, Bool, eqb, sym, ◌∙◌}
use Rattle.std.proofs.lemmas.List.{take_rest}
use Rattle.script.proofs.Dividing.{split_at, split_none}
use Rattle.script.proofs.piece.split_first.Goals as goal

pub returns-in-Some : goal.returns-in-Some
returns-in-Some c =
    let p : ℕ → Bool = λ b. eqb b c.args.divider in
    simp take_rest (split_at p c.args.text.now c.in-Some.end (sym c.in-Some.is ∙ c.find.ensures))

pub returns-in-None : goal.returns-in-None
returns-in-None c =
    let p : ℕ → Bool = λ b. eqb b c.args.divider in
    split_none p c.args.text.now (sym c.in-None.is ∙ c.find.ensures)
