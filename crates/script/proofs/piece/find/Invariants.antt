use Rattle.std.proofs.Common.{◌≡◌, eqb, drop}
use Rattle.std.specs.List.{position, position_from}
use Rattle.script.proofs.piece.find.Given as goal

abbrev pub invariant-loop-i : goal.invariant-loop-i
invariant-loop-i l = position (λ b. eqb b l.byte) l.text ≡ position_from (λ b. eqb b l.byte) l.i (drop l.i l.text)
