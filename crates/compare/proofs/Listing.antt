-- An address is listed exactly if its blocks differ.
use Rattle.std.proofs.Common.{◌≡◌, ℕ, zero, suc, ◌<◌, ◌⊎◌, List, [], ◌∷◌, ◌++◌, length, get_or, refl, ap, subst, inl, inr, ⊎_elim, arith}
use Rattle.disks.specs.Meaning.{Content}
use Rattle.std.proofs.lemmas.Bool.{cases_lt}
use Rattle.std.specs.Option.{option_to_list}
use Rattle.compare.proofs.Blocks.{compared}
use Rattle.compare.specs.Differences.{difference, differences, Listed, ListsExactly}
use Rattle.compare.specs.declared.difference.Difference.{Difference}

listed_left : (a : ℕ) (xs ys : List Difference) → Listed a xs → Listed a (xs ++ ys)
listed_left a [] ys l = absurd l
listed_left a (x ∷ xs) ys (inl e) = inl e
listed_left a (x ∷ xs) ys (inr l) = inr (listed_left a xs ys l)

listed_right : (a : ℕ) (xs ys : List Difference) → Listed a ys → Listed a (xs ++ ys)
listed_right a [] ys l = l
listed_right a (x ∷ xs) ys l = inr (listed_right a xs ys l)

listed_either : (a : ℕ) (xs ys : List Difference) → Listed a (xs ++ ys) → Listed a xs ⊎ Listed a ys
listed_either a [] ys l = inr l
listed_either a (x ∷ xs) ys (inl e) = inl (inl e)
listed_either a (x ∷ xs) ys (inr l) = ⊎_elim (λ h. inl (inr h)) inr (listed_either a xs ys l)

-- what the blocks at m add: m alone, where they differ
here_differ : (m a : ℕ) (b c : Content) → Listed a (option_to_list (difference m 0 b c)) → (m ≡ a) × (b ≡ c → ⊥)
here_differ m a b c l = elim (compared m 0 b c) [
  | inl n ↦ absurd (rw n.none at l)
  | inr s ↦ (⊎_elim (λ h. h) absurd (rw s.some at l), λ f. s.differ (ap (λ (t : Content). get_or t s.k 0) f))
]

here_listed : (m : ℕ) (b c : Content) → length b ≡ length c → (b ≡ c → ⊥) → Listed m (option_to_list (difference m 0 b c))
here_listed m b c l ne = elim (compared m 0 b c) [ inl n ↦ absurd (ne (n.equal l)) | inr s ↦ rw s.some (inl refl) ]

module _ (p q : ℕ → Content) where
  differ : (n a : ℕ) → Listed a (differences n p q) → (a < n) × (p a ≡ q a → ⊥)
  differ zero a l = absurd l
  differ (suc m) a l =
      ⊎_elim (λ h. let d = differ m a h in (let lt = d.0 in omega arith, d.1))
      (λ h. let d = here_differ m a (p m) (q m) h in (let at = d.0 in omega arith, subst (λ (i : ℕ). p i ≡ q i → ⊥) d.0 d.1))
      (listed_either a (differences m p q) (option_to_list (difference m 0 (p m) (q m))) l)

  listed : (n a : ℕ) → a < n → length (p a) ≡ length (q a) → (p a ≡ q a → ⊥) → Listed a (differences n p q)
  listed zero a lt l ne = absurd (omega arith)
  listed (suc m) a lt l ne = elim (cases_lt a m) [
    | inl h ↦ listed_left a (differences m p q) _ (listed m a h l ne)
    | inr h ↦ (let at : m ≡ a = omega arith in listed_right a (differences m p q) _ (rw at (here_listed a (p a) (q a) l ne)))
  ]

pub lists_exactly : ListsExactly
lists_exactly = record { differ = λ n p q a l. differ p q n a l; listed = λ n p q a. listed p q n a }
