-- Causes, states and answers as plain values: contracts speak of these, and never of how the code packs them.
use Rattle.std.specs.Prelude.{◌≡◌, ℕ, ◌==◌, cond, List, [], ◌∷◌, map, take, Option, Some, None, Ok, Err, codes, Result}
use Rattle.disks.specs.declared.cause.Call.{Call}
use Rattle.disks.specs.declared.cause.Call.TheVariants.{Read, Write, Barrier, Restart}
use Rattle.disks.specs.declared.cause.Cause.{Cause}
use Rattle.disks.specs.declared.side.Side.{Side}
use Rattle.disks.specs.declared.side.Side.TheVariants.{Zero, One}
use Rattle.disks.specs.declared.trail.Trail.{Trail}
use Rattle.disks.specs.declared.state.State.{State}
use Rattle.disks.specs.declared.state.State.TheVariants as state
use Rattle.disks.specs.declared.refusal.Refusal.{Refusal}
use Rattle.disks.specs.declared.refusal.Refusal.TheVariants as refusal

-- a cause: the call that met the cut or the death (1 read, 2 write, 3 barrier, 4 restart, 0 none: not joined), its block, and the sides of its trail, top pair first
pub record CauseValues : Type 0 where
  pub call : ℕ
  pub block : ℕ
  pub trail : List ℕ

-- a state: on, or off with its cause
pub data StateValues : Type 0 where
  On : StateValues
  Dark : CauseValues → StateValues
  Dead : CauseValues → StateValues

-- a refusal: by the block, or by the state with its cause
pub data RefusalValues : Type 0 where
  PastEnd : RefusalValues
  IsDark : CauseValues → RefusalValues
  IsLost : CauseValues → RefusalValues

-- the number of a call, 0 for none
abbrev pub call_number : Option Call → ℕ
call_number None = 0
call_number (Some (Read k)) = 1
call_number (Some (Write k)) = 2
call_number (Some Barrier) = 3
call_number (Some Restart) = 4

-- the block of a read or a write, else 0
abbrev pub call_block : Option Call → ℕ
call_block None = 0
call_block (Some (Read k)) = k
call_block (Some (Write k)) = k
call_block (Some Barrier) = 0
call_block (Some Restart) = 0

-- the number of a side
abbrev pub side_number : Side → ℕ
side_number Zero = 0
side_number One = 1

-- the side of a number: 0 is side 0, any other is taken for side 1
abbrev pub side_of : ℕ → Side
side_of n = cond (n == 0) Zero One

-- the sides of a trail that are in use, by their numbers
abbrev pub numbers_of : Trail → List ℕ
numbers_of t = take t.depth t.sides

-- the sides of a trail
abbrev pub sides_of : Trail → List Side
sides_of t = map side_of (numbers_of t)

-- the numbers of sides
abbrev pub trail_values : List Side → List ℕ
trail_values t = map side_number t

-- what the code's values say
abbrev pub cause_values : Cause → CauseValues
cause_values c = record { call = c.call; block = c.block; trail = numbers_of c.trail }

abbrev pub state_values : State → StateValues
state_values state.On = On
state_values (state.Dark c) = Dark (cause_values c)
state_values (state.Dead c) = Dead (cause_values c)

abbrev pub refusal_values : Refusal → RefusalValues
refusal_values refusal.PastEnd = PastEnd
refusal_values (refusal.Dark c) = IsDark (cause_values c)
refusal_values (refusal.Lost c) = IsLost (cause_values c)

-- an answer: done with an x, or a refusal
abbrev pub Answer : Type 0 → Type 0
Answer X = Result X RefusalValues

abbrev pub answer_values : {X : Type 0} → Result X Refusal → Answer X
answer_values (Ok x) = Ok x
answer_values (Err e) = Err (refusal_values e)

-- the values of a cause in a row
abbrev pub in_a_row : CauseValues → List ℕ
in_a_row c = c.call ∷ (c.block ∷ c.trail)

-- the number of a refusal, and the values that go with it
abbrev pub numbered : RefusalValues → ℕ × List ℕ
numbered PastEnd = (1, [])
numbered (IsDark c) = (2, in_a_row c)
numbered (IsLost c) = (3, in_a_row c)

-- the meaning of a refusal in words
abbrev pub meaning_of : RefusalValues → List ℕ
meaning_of PastEnd = codes "block at or past the size"
meaning_of (IsDark c) = codes "disk dark"
meaning_of (IsLost c) = codes "lost: disk dead"

-- number and values say all: refusals that differ, differ there
abbrev pub TellsApart : Type 0
TellsApart = (x y : RefusalValues) → numbered x ≡ numbered y → x ≡ y

-- the answer that a state gives: done with x if on, else dark or lost with the state's cause
abbrev pub answer_by : {X : Type 0} → X → StateValues → Answer X
answer_by x On = Ok x
answer_by x (Dark c) = Err (IsDark c)
answer_by x (Dead c) = Err (IsLost c)
