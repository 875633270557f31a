-- The pair's restart, step by step, by its sides' own accounts of their calls.
use Rattle.std.specs.Prelude.{◌≡◌, ℕ, zero, suc, ◌<◌, Bool, true, false, ◌&&◌, Ok, Err, Result}
use Rattle.disks.specs.Values.{StateValues, On, Dark, Dead, RefusalValues, PastEnd, IsDark, IsLost, Answer, answer_by}
use Rattle.disks.specs.Meaning.{Shown}
use Rattle.disks.specs.declared.reader.Reader
use Rattle.disks.specs.declared.disk.Disk
use Rattle.pair.specs.declared.pair.Pair.{Pair}
use Rattle.pair.specs.declared.copy.CopyStop.{CopyStop}
use Rattle.pair.specs.declared.copy.CopyStop.TheVariants.{SourceDied, Ended}
use Rattle.pair.specs.Sides.{state_of, view_of}
use Rattle.pair.specs.Calls.{If, is_dark}

-- complete, or stopped
abbrev pub CopyEnd : Type 0
CopyEnd = Result Unit CopyStop

-- by the answer to the write of what was read
abbrev pub after_write : Answer Unit → CopyEnd
after_write (Ok u) = Ok u
after_write (Err e) = Err Ended

-- by the refusal of the read
abbrev pub after_read : RefusalValues → CopyStop
after_read PastEnd = Ended
after_read (IsDark c) = Ended
after_read (IsLost c) = SourceDied

-- whether the barrier is due after the copy
abbrev pub barrier_due : CopyEnd → Bool
barrier_due (Ok u) = true
barrier_due (Err SourceDied) = true
barrier_due (Err Ended) = false

module _ {A B : Type 0} (R₀ : Reader.Ghosts A) (D₁ : Disk.Ghosts B) where
  -- after the read's answer: what it showed is written
  abbrev pub CopiesNext : Shown → ℕ → B → CopyEnd → B → Type 0
  CopiesNext (Ok c) k b e b' = (r : Answer Unit) × D₁.writes b k c r b' × (e ≡ after_write r)
  CopiesNext (Err x) k b e b' = (b' ≡ b) × (e ≡ Err (after_read x))

  -- block k is read from one disk and written to the other
  abbrev pub CopiesOne : ℕ → A → B → CopyEnd → A → B → Type 0
  CopiesOne k a b e a' b' = (x : Shown) × R₀.reads a k x a' × CopiesNext x k b e b'

  -- the first n blocks, in order, all copied
  abbrev pub Copied : ℕ → A → B → A → B → Type 0
  Copied zero a b a' b' = (a' ≡ a) × (b' ≡ b)
  Copied (suc k) a b a' b' = (a₁ : A) × (b₁ : B) × Copied k a b a₁ b₁ × CopiesOne k a₁ b₁ (Ok tt) a' b'

  -- n blocks, to the end or to the first that stops it
  abbrev pub Copies : ℕ → A → B → CopyEnd → A → B → Type 0
  Copies n a b (Ok u) a' b' = Copied n a b a' b'
  Copies n a b (Err s) a' b' = (k : ℕ) × (a₁ : A) × (b₁ : B) × (k < n) × Copied k a b a₁ b₁ × CopiesOne k a₁ b₁ (Err s) a' b'

  -- every block, then the barrier where it is due
  abbrev pub CopiesOver : A → B → A → B → Type 0
  CopiesOver a b a' b' =
      (e : CopyEnd) × (b₁ : B) × Copies (R₀.view a).size a b e a' b₁ × If (barrier_due e) ((r : Answer Unit) × D₁.barriers b₁ r b') (b' ≡ b₁)

-- an answer that is done
abbrev pub is_done : Answer Unit → Bool
is_done (Ok u) = true
is_done (Err e) = false

-- the part of the sides: side 0 restarts, then, unless that was dark, side 1; if both are done, side 0 is copied over side 1
abbrev pub RestartsSides : {A B : Type 0} → Reader.Ghosts A → Disk.Ghosts A → Disk.Ghosts B → A → B → A → B → Type 0
RestartsSides {A} {B} R₀ D₀ D₁ a b a' b' =
    (r₀ : Answer Unit) × (a₁ : A) × D₀.restarts a r₀ a₁ × If (is_dark r₀) ((a' ≡ a₁) × (b' ≡ b))
    ((r₁ : Answer Unit) × (b₁ : B) × D₁.restarts b r₁ b₁ × If (is_done r₀ && is_done r₁) (CopiesOver R₀ D₁ a₁ b₁ a' b') ((a' ≡ a₁) × (b' ≡ b₁)))

-- joined once a restart leaves the sides so that a joined pair is on
abbrev pub joined_by : StateValues → Bool → Bool
joined_by On j = true
joined_by (Dark c) j = j
joined_by (Dead c) j = j

-- a dead pair refuses a restart, and stays
abbrev pub IfLiving : {S : Type 0} → StateValues → Answer Unit → S → S → Type 0 → Type 0
IfLiving On r p q P = P
IfLiving (Dark c) r p q P = P
IfLiving (Dead c) r p q P = (r ≡ Err (IsLost c)) × (q ≡ p)

module _ {A B : Type 0} (R₀ : Reader.Ghosts A) (D₀ : Disk.Ghosts A) (R₁ : Reader.Ghosts B) (D₁ : Disk.Ghosts B) where
  -- the state that the sides give to a joined pair
  abbrev pub sides_state : Pair A B → StateValues
  sides_state q = state_of true (R₀.view q.side0).state (R₁.view q.side1).state

  -- a restart of a living pair: the sides, then joined and answered by the state that they give
  abbrev pub RestartsLiving : Pair A B → Answer Unit → Pair A B → Type 0
  RestartsLiving p r q =
      RestartsSides R₀ D₀ D₁ p.side0 p.side1 q.side0 q.side1 × (q.joined ≡ joined_by (sides_state q) p.joined) × (r ≡ answer_by tt (sides_state q))

  -- a restart: a dead pair refuses it
  abbrev pub Restarts : Pair A B → Answer Unit → Pair A B → Type 0
  Restarts p r q = IfLiving (view_of R₀ R₁ p).state r p q (RestartsLiving p r q)
