-- The making of a pair, and its refusals.
use Rattle.std.specs.Prelude.{◌≡◌, ℕ, max, false, cond, List, [], Ok, Err, codes, Result, ◌==◌, nat_lt}
use Rattle.disks.specs.declared.reader.Reader
use Rattle.pair.specs.declared.pair.Pair.{Pair}
use Rattle.pair.specs.declared.refusal.PairRefusal.{PairRefusal}
use Rattle.pair.specs.declared.refusal.PairRefusal.TheVariants.{UnequalSizes, TooHigh}
use Rattle.pair.specs.declared.refusal.Unpaired.{Unpaired}

-- the number of a refusal; no values go with it
abbrev pub pair_numbered : PairRefusal → ℕ × List ℕ
pair_numbered UnequalSizes = (4, [])
pair_numbered TooHigh = (5, [])

-- the meaning of a refusal in words
abbrev pub pair_meaning : PairRefusal → List ℕ
pair_meaning UnequalSizes = codes "pair of unequal sizes"
pair_meaning TooHigh = codes "a side of height 8 or more"

-- the number says all
abbrev pub PairTellsApart : Type 0
PairTellsApart = (x y : PairRefusal) → pair_numbered x ≡ pair_numbered y → x ≡ y

module _ {A B : Type 0} (R₀ : Reader.Ghosts A) (R₁ : Reader.Ghosts B) where
  -- whether the sides make a pair: first by the sizes, then by the heights
  abbrev pub fit_of : A → B → Result Unit PairRefusal
  fit_of a b = cond ((R₀.view a).size == (R₁.view b).size) (cond (nat_lt (max (R₀.view a).height (R₁.view b).height) 8) (Ok tt) (Err TooHigh)) (Err UnequalSizes)

  -- a pair that is not joined; or first by the sizes, then by the heights, a refusal with both sides as they were
  abbrev pub made_of : A → B → Result (Pair A B) (Unpaired A B)
  made_of a b =
      cond ((R₀.view a).size == (R₁.view b).size)
      (cond (nat_lt (max (R₀.view a).height (R₁.view b).height) 8) (Ok (record { side0 = a; side1 = b; joined = false })) (Err (record { refusal = TooHigh; side0 = a; side1 = b })))
      (Err (record { refusal = UnequalSizes; side0 = a; side1 = b }))
