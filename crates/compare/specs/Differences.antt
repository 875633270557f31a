-- Where two blocks differ first, and the differences of two plans.
use Rattle.std.specs.Prelude.{◌≡◌, ℕ, zero, suc, ◌<◌, cond, ◌⊎◌, List, [], ◌∷◌, ◌++◌, length, take, Some, None, Option, ◌==◌, ◌≢◌, slice_index}
use Rattle.disks.specs.Meaning.{Content}
use Rattle.std.specs.Option.{option_to_list}
use Rattle.compare.specs.declared.difference.Difference.{Difference}

-- the first difference of two blocks at address a, whose bytes are given from offset i on
abbrev pub difference : ℕ → ℕ → Content → Content → Option Difference
difference a i [] cs = None
difference a i (b ∷ bs) [] = None
difference a i (b ∷ bs) (c ∷ cs) = cond (b == c) (difference a (suc i) bs cs) (Some (record { address = a; offset = i; old = b; new = c }))

-- all bytes before the offset agree, and those at the offset do not
pub record DiffersAt (a : ℕ) (b c : Content) (d : Difference) : Type 0 where
  pub address : d.address ≡ a
  pub offset : d.offset < 512
  pub before : take d.offset b ≡ take d.offset c
  pub old : d.old ≡ slice_index b d.offset
  pub new : d.new ≡ slice_index c d.offset
  pub differ : d.old ≡ d.new → ⊥

-- no difference, exactly if the blocks are equal
abbrev pub FirstDifference : ℕ → Content → Content → Option Difference → Type 0
FirstDifference a b c None = b ≡ c
FirstDifference a b c (Some d) = DiffersAt a b c d

-- the differences of plans p and q at the first n addresses, in ascending order
abbrev pub differences : ℕ → (ℕ → Content) → (ℕ → Content) → List Difference
differences zero p q = []
differences (suc a) p q = differences a p q ++ option_to_list (difference a 0 (p a) (q a))

-- an address is listed
abbrev pub Listed : ℕ → List Difference → Type 0
Listed a [] = ⊥
Listed a (d ∷ ds) = (d.address ≡ a) ⊎ Listed a ds

-- of blocks of one length: an address is listed exactly if its blocks differ
pub record ListsExactly : Type 0 where
  pub differ : (n : ℕ) (p q : ℕ → Content) (a : ℕ) → Listed a (differences n p q) → (a < n) × (p a ≢ q a)
  pub listed : (n : ℕ) (p q : ℕ → Content) (a : ℕ) → a < n → length (p a) ≡ length (q a) → (p a ≢ q a) → Listed a (differences n p q)
