-- A log as its count and its 32 fields, and the lemma that the fields in use tell all.
use Rattle.std.specs.Prelude.{◌≡◌, ℕ, ◌≤◌, List, length, take}
use Rattle.std.proofs.Common.{arith, ap, sym}
use Rattle.std.proofs.lemmas.List.{length-append, length-replicate, length-take}
use Rattle.store.specs.Layout.{filled}

-- there are no more than fit, and the other fields are zero
pub record KeepsFields (count : ℕ) (fields : List ℕ) : Type 0 where
  pub few : count ≤ 32
  pub zeros : fields ≡ filled (take count fields)

pub back : (count : ℕ) (fields : List ℕ) → KeepsFields count fields → (length (take count fields) ≡ count) × (filled (take count fields) ≡ fields)
back count fields k =
    let long = simp (length-append, length-replicate, length-take) at (ap (λ (xs : List ℕ). length xs) k.zeros) in
    (simp length-take (omega (arith, k.few)), sym k.zeros)
