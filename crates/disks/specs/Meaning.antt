-- What a reader and a disk mean, over the face and the candidates of each block.
use Rattle.std.specs.Prelude.{◌≡◌, ℕ, ◌<◌, ◌≤◌, ◌⊎◌, List, length, Ok, Err, Result, ◌≢◌, slice_index}
use Rattle.disks.specs.Values.{CauseValues, StateValues, On, Dark, Dead, PastEnd, IsLost, Answer, refusal_values, answer_by}
use Rattle.disks.specs.declared.refusal.Refusal.{Refusal}

-- what a block holds
abbrev pub Content : Type 0
Content = List ℕ

-- 512 bytes
pub record Whole (b : Content) : Type 0 where
  pub long : length b ≡ 512
  pub bytes : (i : ℕ) → slice_index b i < 256

-- the answer of a read, with the content that a done one shows
abbrev pub Shown : Type 0
Shown = Answer Content

-- what a reader shows; a block's face is what a read shows, its candidates are the contents that may stand after a cut
pub record View : Type 1 where
  pub size : ℕ
  pub height : ℕ
  pub state : StateValues
  pub face : ℕ → Content
  pub candidate : ℕ → Content → Type 0

-- a read by its answer and what its place holds then
abbrev pub shown : Result Unit Refusal → Content → Shown
shown (Ok u) b = Ok b
shown (Err e) b = Err (refusal_values e)

-- a refused read leaves its place, before p and now q, untouched
abbrev pub Untouched : {E : Type 0} → Result Unit E → Content → Content → Type 0
Untouched (Ok u) p q = Unit {0}
Untouched (Err e) p q = q ≡ p

-- on or dark
abbrev pub Living : StateValues → Type 0
Living On = Unit {0}
Living (Dark c) = Unit {0}
Living (Dead c) = ⊥

-- dark or dead
abbrev pub Off : StateValues → Type 0
Off On = ⊥
Off (Dark c) = Unit {0}
Off (Dead c) = Unit {0}

-- what a cause may hold at a reader of height h
pub record CauseFits (h : ℕ) (c : CauseValues) : Type 0 where
  pub call : c.call ≤ 4
  pub block : (c.call ≢ 1) → (c.call ≢ 2) → c.block ≡ 0
  pub trail : length c.trail ≤ h
  pub sides : (j : ℕ) → slice_index c.trail j ≤ 1

-- a state whose cause, if it has one, is such
abbrev pub StateFits : ℕ → StateValues → Type 0
StateFits h On = Unit {0}
StateFits h (Dark c) = CauseFits h c
StateFits h (Dead c) = CauseFits h c

-- what holds of every sound reader
pub record Proper (v : View) : Type 0 where
  pub size : v.size ≤ 65535
  pub cause : StateFits v.height v.state
  pub faces : (j : ℕ) → j < v.size → Whole (v.face j)
  pub candidates : (j : ℕ) (b : Content) → j < v.size → v.candidate j b → Whole b

-- each block has the same face in w as in v
abbrev pub FacesKeep : View → View → Type 0
FacesKeep v w = (j : ℕ) → j < v.size → w.face j ≡ v.face j

-- no block has a candidate in w that it had not in v
abbrev pub NoneGained : View → View → Type 0
NoneGained v w = (j : ℕ) (b : Content) → j < v.size → w.candidate j b → v.candidate j b

-- each face is a candidate of its block
abbrev pub FacesStand : View → Type 0
FacesStand v = (j : ℕ) → j < v.size → v.candidate j (v.face j)

-- nothing waits: no block has a candidate other than its face
abbrev pub NothingWaits : View → Type 0
NothingWaits v = (j : ℕ) (b : Content) → j < v.size → v.candidate j b → b ≡ v.face j

-- w has the size and the height of v
pub record Kept (v w : View) : Type 0 where
  pub size : w.size ≡ v.size
  pub height : w.height ≡ v.height

-- a call that changes nothing that can be seen
pub record Unchanged (v w : View) : Type 0 where
  pub kept : Kept v w
  pub state : w.state ≡ v.state
  pub faces : FacesKeep v w
  pub gained : NoneGained v w
  pub lost : (j : ℕ) (b : Content) → j < v.size → v.candidate j b → w.candidate j b

-- A read that meets a reader that is on may leave it on, dark or dead, and answers by that.
pub record ReadOn (v : View) (k : ℕ) (x : Shown) (w : View) : Type 0 where
  pub kept : Kept v w
  pub answer : x ≡ answer_by (v.face k) w.state
  pub faces : w.state ≡ On → FacesKeep v w
  pub gained : NoneGained v w

-- Of a write too: if it is done, face k is the new content, and no candidate is gained but that at k.
pub record WriteOn (v : View) (k : ℕ) (b : Content) (r : Answer Unit) (w : View) : Type 0 where
  pub kept : Kept v w
  pub answer : r ≡ answer_by tt w.state
  pub face : w.state ≡ On → w.face k ≡ b
  pub others : w.state ≡ On → (j : ℕ) → j < v.size → (j ≢ k) → w.face j ≡ v.face j
  pub gained : (j : ℕ) (c : Content) → j < v.size → w.candidate j c → v.candidate j c ⊎ ((j ≡ k) × (c ≡ b))

-- Of a barrier: if it is done, faces keep, and each is its block's only candidate.
pub record BarrierOn (v : View) (r : Answer Unit) (w : View) : Type 0 where
  pub kept : Kept v w
  pub answer : r ≡ answer_by tt w.state
  pub faces : w.state ≡ On → FacesKeep v w
  pub stand : w.state ≡ On → FacesStand w
  pub settled : w.state ≡ On → NothingWaits w
  pub gained : NoneGained v w

-- Of a restart of a living disk: if it is done, each face is one of that block's earlier candidates, and there is no other now.
pub record RestartOn (v : View) (r : Answer Unit) (w : View) : Type 0 where
  pub kept : Kept v w
  pub answer : r ≡ answer_by tt w.state
  pub picked : w.state ≡ On → (j : ℕ) → j < v.size → v.candidate j (w.face j)
  pub settled : w.state ≡ On → NothingWaits w
  pub gained : NoneGained v w

-- A call on block k that answers r, and x is what a done answer carries: refused past the size, then by the state; else as the rule says.
pub record AtBlock {X : Type 0} (v : View) (k : ℕ) (x : X) (r : Answer X) (w : View) (rule : Type 0) : Type 0 where
  pub past : v.size ≤ k → (r ≡ Err PastEnd) × Unchanged v w
  pub off : k < v.size → Off v.state → (r ≡ answer_by x v.state) × Unchanged v w
  pub on : k < v.size → v.state ≡ On → rule

-- the four calls
abbrev pub ReadMeans : View → ℕ → Shown → View → Type 0
ReadMeans v k x w = AtBlock v k (v.face k) x w (ReadOn v k x w)

abbrev pub WriteMeans : View → ℕ → Content → Answer Unit → View → Type 0
WriteMeans v k b r w = AtBlock v k tt r w (WriteOn v k b r w)

pub record BarrierMeans (v : View) (r : Answer Unit) (w : View) : Type 0 where
  pub off : Off v.state → (r ≡ answer_by tt v.state) × Unchanged v w
  pub on : v.state ≡ On → BarrierOn v r w

pub record RestartMeans (v : View) (r : Answer Unit) (w : View) : Type 0 where
  pub dead : (c : CauseValues) → v.state ≡ Dead c → (r ≡ Err (IsLost c)) × Unchanged v w
  pub living : Living v.state → RestartOn v r w

-- The laws of a reader and of a disk, over their ghost members.
module _ {S : Type 0} (view : S → View) (sound : S → Type 0) where
  -- a sound reader is left sound, and the call means what its rule says
  abbrev pub Means : S → S → (View → View → Type 0) → Type 0
  Means s t rule = sound s → sound t × rule (view s) (view t)

  -- a sound reader is proper
  abbrev pub ProperLaw : Type 0
  ProperLaw = (s : S) → sound s → Proper (view s)

  -- what the reader does at a call is what the call means
  abbrev pub ReadLaw : (S → ℕ → Shown → S → Type 0) → Type 0
  ReadLaw reads = (s t : S) (k : ℕ) (x : Shown) → reads s k x t → Means s t (λ v w. ReadMeans v k x w)

  -- the same of a write; what is written is a whole block
  abbrev pub WriteLaw : (S → ℕ → Content → Answer Unit → S → Type 0) → Type 0
  WriteLaw writes = (s t : S) (k : ℕ) (b : Content) (r : Answer Unit) → Whole b → writes s k b r t → Means s t (λ v w. WriteMeans v k b r w)

  abbrev pub BarrierLaw : (S → Answer Unit → S → Type 0) → Type 0
  BarrierLaw barriers = (s t : S) (r : Answer Unit) → barriers s r t → Means s t (λ v w. BarrierMeans v r w)

  abbrev pub RestartLaw : (S → Answer Unit → S → Type 0) → Type 0
  RestartLaw restarts = (s t : S) (r : Answer Unit) → restarts s r t → Means s t (λ v w. RestartMeans v r w)

  -- not asked of a disk: while it lives, each face is a candidate of its block
  abbrev pub StandLaw : Type 0
  StandLaw = (s : S) → sound s → Living (view s).state → FacesStand (view s)
