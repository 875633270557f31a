-- The lists of sides from which a trail lends its own, and sides by their numbers.
use Rattle.std.proofs.Common.{◌≡◌, ◌≤◌, ℕ, zero, suc, ◌==◌, cond, Bool, true, false, List, [], ◌∷◌, ◌++◌, map, slice_index, refl, ap, ◌∙◌, arith}
use Rattle.disks.specs.Values.{side_of, trail_values}
use Rattle.disks.specs.declared.side.Side.{Side}
use Rattle.disks.specs.declared.side.Side.TheVariants.{Zero, One}

-- lists of lists, n deep
abbrev pub Deep : ℕ → Type 0
Deep zero = List Side
Deep (suc n) = List (Deep n)

-- all lists that go on after the chosen sides for n more
abbrev pub lists : (n : ℕ) → List Side → Deep n
lists zero chosen = chosen
lists (suc n) chosen = lists n (chosen ++ Zero ∷ []) ∷ lists n (chosen ++ One ∷ []) ∷ []

-- one of the two, by a number, has that number's side chosen too
pub one_chosen : (n : ℕ) (chosen : List Side) (two : List (Deep n)) (one : Deep n) (k : ℕ) →
    ((z o : Deep n) → two ≡ z ∷ o ∷ [] → one ≡ cond (k == 0) z o) → two ≡ lists (suc n) chosen → one ≡ lists n (chosen ++ side_of k ∷ [])
one_chosen n chosen two one k by is = by (after Zero) (after One) is ∙ go (k == 0)
  where
    after : Side → Deep n
    after s = lists n (chosen ++ s ∷ [])

    go : (b : Bool) → cond b (after Zero) (after One) ≡ after (cond b Zero One)
    go true = refl
    go false = refl

-- the numbers of sides that numbers below two name are these numbers
pub numbers_back : (ns : List ℕ) → ((j : ℕ) → slice_index ns j ≤ 1) → trail_values (map side_of ns) ≡ ns
numbers_back [] below = refl
numbers_back (zero ∷ ns) below = ap (λ (t : List ℕ). 0 ∷ t) (numbers_back ns (λ j. below (suc j)))
numbers_back (suc zero ∷ ns) below = ap (λ (t : List ℕ). 1 ∷ t) (numbers_back ns (λ j. below (suc j)))
numbers_back (suc (suc n) ∷ ns) below = absurd (omega (arith, below 0))
