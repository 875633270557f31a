-- Look: what it finds, its steps on a reader, and what it means.
use Rattle.std.specs.Prelude.{◌≡◌, ℕ, ◌-◌, Bool, false, cond, ◌&&◌, Some, None, Ok, Err, MatchBool, Option, ◌==◌, nat_le, nat_lt}
use Rattle.disks.specs.Values.{StateValues, On}
use Rattle.disks.specs.Meaning.{View, Content, Shown, Off, Kept, FacesKeep, NoneGained, Unchanged, Means, ReadMeans}
use Rattle.disks.specs.declared.reader.Reader
use Rattle.store.specs.Layout.{HeaderValues, empty, unpacked}
use Rattle.store.specs.Log.{block_for}
use Rattle.store.specs.LookValues.{LookAnswer, Disk, UnfitSize, NoHeader, PastPlan, look_answer_by}

-- a store takes up 34 to 4,129 blocks
abbrev pub fit : ℕ → Bool
fit size = nat_le 34 size && nat_le size 4129

-- N by the size
abbrev pub plan_of : ℕ → Option ℕ
plan_of size = cond (fit size) (Some (size - 33)) None

-- the header with an empty log, by the size
abbrev pub empty_for : ℕ → Option HeaderValues
empty_for size = cond (fit size) (Some (empty (size - 33))) None

-- sizes 33 and 4,130 are unfit, 34 gives N 1 and 4,129 gives N 4,096
abbrev pub SizeExamples : Type 0
SizeExamples = (plan_of 33 ≡ None) × (plan_of 34 ≡ Some 1) × (plan_of 4129 ≡ Some 4096) × (plan_of 4130 ≡ None)

-- the header that block 0 must hold: a well formed one, of the N that the size gives
abbrev pub header_of : ℕ → Option HeaderValues → LookAnswer HeaderValues
header_of n None = Err NoHeader
header_of n (Some h) = cond (h.n == n) (Ok h) (Err NoHeader)

-- the block at address a, by the header
abbrev pub at_address : LookAnswer HeaderValues → (ℕ → Content) → ℕ → LookAnswer Content
at_address (Ok h) f a = cond (nat_lt a h.n) (Ok (f (block_for h.log a))) (Err PastPlan)
at_address (Err e) f a = Err e

-- what look finds where block k holds f k
abbrev pub found : ℕ → (ℕ → Content) → ℕ → LookAnswer Content
found size f a = at_address (header_of (size - 33) (unpacked (f 0))) f a

-- a read's answer, passed on
abbrev pub passed_on : Shown → LookAnswer Content
passed_on (Ok b) = Ok b
passed_on (Err e) = Err (Disk e)

-- the header that a read of block 0 shows
abbrev pub header_shown : ℕ → Shown → LookAnswer HeaderValues
header_shown n (Ok b) = header_of n (unpacked b)
header_shown n (Err e) = Err (Disk e)

module _ {S : Type 0} (R : Reader.Ghosts S) where
  -- block 0 is read
  abbrev pub ReadsHeader : ℕ → S → LookAnswer HeaderValues → S → Type 0
  ReadsHeader n s h t = (y : Shown) × R.reads s 0 y t × (h ≡ header_shown n y)

  -- the block of the address is read
  abbrev pub ReadsBlock : ℕ → S → LookAnswer Content → S → Type 0
  ReadsBlock k s x t = (y : Shown) × R.reads s k y t × (x ≡ passed_on y)

  -- what follows the header
  abbrev pub ReadsAddress : LookAnswer HeaderValues → S → ℕ → LookAnswer Content → S → Type 0
  ReadsAddress (Ok h) s a x t = MatchBool (nat_lt a h.n) (ReadsBlock (block_for h.log a) s x t) ((x ≡ Err PastPlan) × (t ≡ s))
  ReadsAddress (Err e) s a x t = (x ≡ Err e) × (t ≡ s)

  -- a look at a reader of fit size
  abbrev pub LooksAt : S → ℕ → LookAnswer Content → S → Type 0
  LooksAt s a x t = (h : LookAnswer HeaderValues) × (m : S) × ReadsHeader ((R.view s).size - 33) s h m × ReadsAddress h m a x t

  -- the steps of a look: none at all where the size is unfit
  abbrev pub Looks : S → ℕ → LookAnswer Content → S → Type 0
  Looks s a x t = MatchBool (fit (R.view s).size) (LooksAt s a x t) ((x ≡ Err UnfitSize) × (t ≡ s))

  -- the reader, with each read as it answers and as it means
  abbrev pub met : Reader.Ghosts S
  met = record { view = R.view; sound = R.sound; reads = λ s k y t. R.reads s k y t × Means R.view R.sound s t (λ v w. ReadMeans v k y w) }

-- what look answers at a reader that it leaves in a state
abbrev pub look_answer : View → ℕ → StateValues → LookAnswer Content
look_answer v a st = cond (fit v.size) (look_answer_by (found v.size v.face a) st) (Err UnfitSize)

-- What a look shows and leaves, by the faces. The state that it leaves is free where the reader was on and its size is fit; else nothing changes.
pub record LookMeans (v : View) (a : ℕ) (x : LookAnswer Content) (w : View) : Type 0 where
  pub kept : Kept v w
  pub answer : x ≡ look_answer v a w.state
  pub faces : w.state ≡ On → FacesKeep v w
  pub gained : NoneGained v w
  pub unfit : fit v.size ≡ false → Unchanged v w
  pub off : Off v.state → Unchanged v w
