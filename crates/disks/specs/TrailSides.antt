-- A trail as its depth and its eight sides, and the lemma that the sides in use tell both.
use Rattle.std.specs.Prelude.{◌≡◌, ℕ, ◌-◌, ◌≤◌, List, ◌++◌, length, take, replicate}
use Rattle.std.proofs.Common.{arith, ap, sym}
use Rattle.std.proofs.lemmas.List.{length-append, length-replicate, length-take}

-- eight sides, the last ones of no meaning
abbrev pub filled : List ℕ → List ℕ
filled t = t ++ replicate (8 - length t) 0

-- there are no more than fit, and the others are zero
pub record KeepsSides (depth : ℕ) (sides : List ℕ) : Type 0 where
  pub few : depth ≤ 8
  pub others : sides ≡ filled (take depth sides)

pub back : (depth : ℕ) (sides : List ℕ) → KeepsSides depth sides → (length (take depth sides) ≡ depth) × (filled (take depth sides) ≡ sides)
back depth sides k =
    let long = simp (length-append, length-replicate, length-take) at (ap (λ (s : List ℕ). length s) k.others) in
    (simp length-take (omega (arith, k.few)), sym k.others)
