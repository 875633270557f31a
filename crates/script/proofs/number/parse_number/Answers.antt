use Rattle.std.proofs.Common.{◌≡◌, ℕ, List, [], ◌∷◌, length, None, refl, ◌∙◌, arith, true-eqb, false-eqb}
use Rattle.script.specs.Numbers.{number_of, number_after}
use Rattle.script.proofs.Reading.{reads_back}
use Rattle.script.proofs.number.parse_number.Goals as goal

no_digits : (limit : ℕ) (ds : List ℕ) → length ds ≡ 0 → None ≡ number_of limit ds
no_digits limit [] e = refl
no_digits limit (d ∷ ds) e = absurd (omega arith)

some_digits : (limit : ℕ) (ds : List ℕ) → (length ds ≡ 0 → ⊥) → number_after limit 0 ds ≡ number_of limit ds
some_digits limit [] e = absurd (e refl)
some_digits limit (d ∷ ds) e = refl

pub returns-then-is_empty : goal.returns-then-is_empty
returns-then-is_empty c = record { value = no_digits c.args.limit c.args.text.now (true-eqb _ _ c.if-is_empty.ensures); law = reads_back }

pub returns : goal.returns
returns c = record { value = c.read_digits.ensures ∙ some_digits c.args.limit c.args.text.now (false-eqb _ _ c.if-is_empty.ensures); law = reads_back }
