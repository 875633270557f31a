-- The comparison's loop: one address more, or the refusal that ends it.
use Rattle.std.proofs.Common.{◌≡◌, ℕ, zero, suc, ◌+◌, ◌<◌, List, ◌++◌, Ok, Err, Option, add-one}
use Rattle.disks.specs.Meaning.{Content}
use Rattle.std.specs.Option.{option_to_list}
use Rattle.store.specs.LookValues.{LookAnswer, LookRefusalValues}
use Rattle.compare.specs.Outcomes.{StopValues, Refused, Outcome}
use Rattle.compare.specs.Compares.{ComparesAt, Compared, Compares}
use Rattle.compare.specs.declared.difference.Difference.{Difference}
use Rattle.compare.specs.declared.stop.Side.{Side}
use Rattle.compare.specs.declared.stop.Side.TheVariants.{Old, New}

module _ {A B : Type 0} (Look₀ : A → ℕ → LookAnswer Content → A → Type 0) (Look₁ : B → ℕ → LookAnswer Content → B → Type 0) where
  -- an address is refused by one side, at that address
  pub refused_at : (a : ℕ) (s : A) (t : B) (e : StopValues) (s' : A) (t' : B) → ComparesAt Look₀ Look₁ a s t (Err e) s' t' → (side : Side) × (r : LookRefusalValues) × (e ≡ Refused a side r)
  refused_at a s t e s' t' (Err r, l, n) = (Old, r, cc)
  refused_at a s t e s' t' (Ok b, l, (Err r, k, n)) = (New, r, cc)
  refused_at a s t e s' t' (Ok b, l, (Ok c, k, n)) = absurd (cc)

  module _ (a : ℕ) (s m : A) (t k : B) (es : List Difference) (before : Compared Look₀ Look₁ a s t es m k) where
    pub one_more : (ds : List Difference) (d : Option Difference) (s' : A) (t' : B) → ComparesAt Look₀ Look₁ a m k (Ok d) s' t' → ds ≡ es ++ option_to_list d → Compared Look₀ Look₁ (a + 1) s t ds s' t'
    one_more ds d s' t' at e = rw (add-one a) (m, k, es, d, before, at, e)

    pub ends : (n : ℕ) (e : StopValues) (s' : A) (t' : B) → a < n → ComparesAt Look₀ Look₁ a m k (Err e) s' t' → Compares Look₀ Look₁ n s t (Err e) s' t'
    ends n e s' t' lt by =
        let r = refused_at a m k e s' t' by in
        rw r.2 (lt, m, k, es, before, rw r.2 at by)

-- looks of one kind are looks of another: so are the comparisons that they make up
module _ {A B : Type 0} (Look₀ Fewer₀ : A → ℕ → LookAnswer Content → A → Type 0) (Look₁ Fewer₁ : B → ℕ → LookAnswer Content → B → Type 0)
    (to₀ : (s : A) (a : ℕ) (x : LookAnswer Content) (t : A) → Look₀ s a x t → Fewer₀ s a x t) (to₁ : (s : B) (a : ℕ) (x : LookAnswer Content) (t : B) → Look₁ s a x t → Fewer₁ s a x t) where
  at_to : (a : ℕ) (s s' : A) (t t' : B) (x : Outcome (Option Difference)) → ComparesAt Look₀ Look₁ a s t x s' t' → ComparesAt Fewer₀ Fewer₁ a s t x s' t'
  at_to a s s' t t' x (Err e, l, n) = (Err e, to₀ s a (Err e) s' l, n)
  at_to a s s' t t' x (Ok b, l, (y, k, n)) = (Ok b, to₀ s a (Ok b) s' l, (y, to₁ t a y t' k, n))

  compared_to : (a : ℕ) (s s' : A) (t t' : B) (ds : List Difference) → Compared Look₀ Look₁ a s t ds s' t' → Compared Fewer₀ Fewer₁ a s t ds s' t'
  compared_to zero s s' t t' ds c = c
  compared_to (suc a) s s' t t' ds (m, k, es, d, before, at, e) = (m, k, es, d, compared_to a s m t k es before, at_to a m s' k t' (Ok d) at, e)

  pub compares_to : (n : ℕ) (s s' : A) (t t' : B) (x : Outcome (List Difference)) → Compares Look₀ Look₁ n s t x s' t' → Compares Fewer₀ Fewer₁ n s t x s' t'
  compares_to n s s' t t' (Ok ds) c = compared_to n s s' t t' ds c
  compares_to n s s' t t' (Err (Refused a side e)) (lt, m, k, es, before, at) = (lt, m, k, es, compared_to a s m t k es before, at_to a m s' k t' (Err (Refused a side e)) at)
