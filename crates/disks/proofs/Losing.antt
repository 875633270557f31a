-- A pile is lost exactly if every bottom disk is dead.
use Rattle.std.proofs.Common.{◌≡◌, Bool, true, false, ◌&&◌, refl, ap, ◌∙◌, inl, inr, ⊎_elim}
use borrow.Author.Tests.{clash}
use Rattle.disks.specs.Piles.{bottom, joined, is_dead, lost, LostExactly}

pub both_true : (x y : Bool) → (x && y) ≡ true → (x ≡ true) × (y ≡ true)
both_true true y e = (refl, e)
both_true false y e = absurd (clash e)

pub and_true : (x y : Bool) → x ≡ true → y ≡ true → (x && y) ≡ true
and_true true y e f = f
and_true false y e f = e

pub lost_exactly : LostExactly
lost_exactly (bottom u) = (λ e s h. ap is_dead h ∙ e, λ f. f u refl)
lost_exactly (joined l r) = (
  λ e s h.
      let b = both_true (lost l) (lost r) e in
      ⊎_elim (λ x. (lost_exactly l).0 b.0 s x) (λ x. (lost_exactly r).0 b.1 s x) h,
  λ f. and_true (lost l) (lost r) ((lost_exactly l).1 (λ s x. f s (inl x))) ((lost_exactly r).1 (λ s x. f s (inr x))),
)
