-- Lemmas: the refusals of a pair's calls: past the size, and by the state that the pair had.
use Rattle.std.specs.Prelude.{◌≡◌, ℕ, ◌<◌, Bool, true, false, Err, nat_lt, refl}
use Rattle.std.proofs.Common.{ltb-true, arith}
use Rattle.std.proofs.lemmas.Grind.{common_steps}
use Rattle.disks.specs.Values.{StateValues, On, PastEnd, Answer, answer_by}
use Rattle.disks.specs.Meaning.{Off, AtBlock}
use Rattle.disks.specs.declared.reader.Reader
use Rattle.pair.specs.declared.pair.Pair.{Pair}
use Rattle.pair.specs.Sides.{Sound, view_of}
use Rattle.pair.specs.Calls.{If, IfOn, Within}

module _ {A B : Type 0} (R₀ : Reader.Ghosts A) (R₁ : Reader.Ghosts B) (p q : Pair A B) where
  module _ {X : Type 0} (x : X) (r : Answer X) (P Z : Type 0) where
    abbrev state : StateValues
    state = (view_of R₀ R₁ p).state

    -- a call that is refused unless the pair is on
    pub by_state : (Off state → r ≡ answer_by x state → q ≡ p → Z) → (state ≡ On → P → Z) → IfOn state r p q P → Z
    by_state = grind (arith, common_steps)

  -- a call on block k that is refused past the size, too
  pub at_block : {X : Type 0} (k : ℕ) (x : X) (r : Answer X) (P rule : Type 0) → Sound R₀ R₁ p →
      (k < (view_of R₀ R₁ p).size → (view_of R₀ R₁ p).state ≡ On → P → Sound R₀ R₁ q × rule) →
      Within k (view_of R₀ R₁ p).size r p q (IfOn (view_of R₀ R₁ p).state r p q P) → Sound R₀ R₁ q × AtBlock (view_of R₀ R₁ p) k x r (view_of R₀ R₁ q) rule
  at_block k x r P rule snd f h = go (nat_lt k (view_of R₀ R₁ p).size) refl h
    where
      go : (b : Bool) → nat_lt k (view_of R₀ R₁ p).size ≡ b → If b (IfOn (view_of R₀ R₁ p).state r p q P) ((r ≡ Err PastEnd) × (q ≡ p)) → Sound R₀ R₁ q × AtBlock (view_of R₀ R₁ p) k x r (view_of R₀ R₁ q) rule
      go true e u = by_state x r P _ (λ o a s. grind (arith, common_steps)) (λ o w. let m = f (ltb-true k _ e) o w in grind (arith, common_steps)) u
      go false e u = grind (arith, common_steps)
