-- A pile of disks by the states of its bottom disks.
use Rattle.std.specs.Prelude.{◌≡◌, Bool, true, false, ◌&&◌, ◌⊎◌}
use Rattle.disks.specs.Values.{StateValues, On, Dark, Dead}

-- the states of the bottom disks, and how pairs join them
pub data Tree : Type 0 where
  bottom : StateValues → Tree
  joined : Tree → Tree → Tree

-- whether a state is dead
abbrev pub is_dead : StateValues → Bool
is_dead On = false
is_dead (Dark c) = false
is_dead (Dead c) = true

-- a bottom disk is lost if it is dead, a pair if both its sides are
abbrev pub lost : Tree → Bool
lost (bottom s) = is_dead s
lost (joined l r) = lost l && lost r

-- s is the state of one of the bottom disks
abbrev pub Bottom : StateValues → Tree → Type 0
Bottom s (bottom u) = s ≡ u
Bottom s (joined l r) = Bottom s l ⊎ Bottom s r

-- every bottom disk is dead
abbrev pub AllDead : Tree → Type 0
AllDead t = (s : StateValues) → Bottom s t → is_dead s ≡ true

-- a pile is lost exactly if every bottom disk is dead
abbrev pub LostExactly : Type 0
LostExactly = (t : Tree) → (lost t ≡ true → AllDead t) × (AllDead t → lost t ≡ true)
