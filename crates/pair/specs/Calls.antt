-- The pair's read, write and barrier, step by step, by its sides' own accounts of their calls.
use Rattle.std.specs.Prelude.{◌≡◌, ℕ, Bool, true, false, Ok, Err, Result, nat_lt}
use Rattle.std.specs.Fn.{Once, FnOnceReturnsAtMut}
use denote.Ref.{MutBor}
use Rattle.disks.specs.declared.refusal.Refusal.{Refusal}
use Rattle.disks.specs.Values.{StateValues, On, Dark, Dead, PastEnd, IsDark, IsLost, Answer, answer_by, answer_values}
use Rattle.disks.specs.Meaning.{Content, Shown}
use Rattle.disks.specs.Trails.{answer_under}
use Rattle.disks.specs.declared.reader.Reader
use Rattle.disks.specs.declared.disk.Disk
use Rattle.pair.specs.declared.pair.Pair.{Pair}
use Rattle.pair.specs.Sides.{view_of}

-- one of two ways
abbrev pub If : Bool → Type 0 → Type 0 → Type 0
If true P Q = P
If false P Q = Q

-- an answer that ends the pair's call
abbrev pub is_dark : Answer Unit → Bool
is_dark (Ok u) = false
is_dark (Err PastEnd) = false
is_dark (Err (IsDark c)) = true
is_dark (Err (IsLost c)) = false

-- on p a call that leaves q is refused past the size with 1, and p stays
abbrev pub Within : {S X : Type 0} → ℕ → ℕ → Answer X → S → S → Type 0 → Type 0
Within k size r p q P = If (nat_lt k size) P ((r ≡ Err PastEnd) × (q ≡ p))

-- a state that is not on refuses the call, and p stays
abbrev pub IfOn : {S X : Type 0} → StateValues → Answer X → S → S → Type 0 → Type 0
IfOn On r p q P = P
IfOn (Dark c) r p q P = (r ≡ Err (IsDark c)) × (q ≡ p)
IfOn (Dead c) r p q P = (r ≡ Err (IsLost c)) × (q ≡ p)

-- one side's part in a write or a barrier: a dead side is left out; the flag says whether the side answered dark
abbrev pub Part : {S : Type 0} → StateValues → (Answer Unit → S → Type 0) → S → Bool → S → Type 0
Part On call s dark t = (r : Answer Unit) × call r t × (dark ≡ is_dark r)
Part (Dark c) call s dark t = (r : Answer Unit) × call r t × (dark ≡ is_dark r)
Part (Dead c) call s dark t = (dark ≡ false) × (t ≡ s)

-- what a closure f does to the side that it is called on
abbrev pub CallOf : {F S : Type 0} → Once F (MutBor S × Unit {0}) (Result Unit Refusal × (MutBor S × Unit {0})) → F → S → Answer Unit → S → Type 0
CallOf g f s r t = (x : Result Unit Refusal) × FnOnceReturnsAtMut g f s x t × (r ≡ answer_values x)

-- a write of content b to block k
abbrev pub WriteOf : {S : Type 0} → Disk.Ghosts S → ℕ → Content → S → Answer Unit → S → Type 0
WriteOf D k b s r t = D.writes s k b r t

module _ {A B : Type 0} (R₀ : Reader.Ghosts A) (R₁ : Reader.Ghosts B) where
  -- side 0, then, unless that answered dark, side 1
  abbrev pub InTurn : (A → Answer Unit → A → Type 0) → (B → Answer Unit → B → Type 0) → A → B → A → B → Type 0
  InTurn call₀ call₁ a b a' b' =
      (dark : Bool) × Part (R₀.view a).state (call₀ a) a dark a' ×
      If dark (b' ≡ b) ((last : Bool) × Part (R₁.view b).state (call₁ b) b last b')

  -- both sides in turn, and the answer that the pair's state gives after them
  abbrev pub Through : (A → Answer Unit → A → Type 0) → (B → Answer Unit → B → Type 0) → Pair A B → Answer Unit → Pair A B → Type 0
  Through call₀ call₁ p r q =
      (q.joined ≡ p.joined) × InTurn call₀ call₁ p.side0 p.side1 q.side0 q.side1 × (r ≡ answer_by tt (view_of R₀ R₁ q).state)

  -- by the state, then both sides in turn
  abbrev pub Passed : (A → Answer Unit → A → Type 0) → (B → Answer Unit → B → Type 0) → Pair A B → Answer Unit → Pair A B → Type 0
  Passed call₀ call₁ p r q = IfOn (view_of R₀ R₁ p).state r p q (Through call₀ call₁ p r q)

  -- that, of the closures f₀ and f₁
  pub record HandedOn {F G : Type 0} (g₀ : Once F (MutBor A × Unit {0}) (Result Unit Refusal × (MutBor A × Unit {0}))) (f₀ : F)
      (g₁ : Once G (MutBor B × Unit {0}) (Result Unit Refusal × (MutBor B × Unit {0}))) (f₁ : G) (p : Pair A B) (r : Answer Unit) (q : Pair A B) : Type 0 where
    pub passed : Passed (CallOf g₀ f₀) (CallOf g₁ f₁) p r q

  -- side 1 is read, and its answer is the pair's
  abbrev pub ReadsSide1 : Pair A B → ℕ → Shown → Pair A B → Type 0
  ReadsSide1 p k x q = (y : Shown) × R₁.reads p.side1 k y q.side1 × (x ≡ answer_under 1 y)

  -- side 1 is not read, and side 0's answer y is the pair's
  abbrev pub Side0Answers : Shown → Pair A B → Shown → Pair A B → Type 0
  Side0Answers y p x q = (q.side1 ≡ p.side1) × (x ≡ answer_under 0 y)

  -- after side 0's answer: side 1 is read if side 0 died
  abbrev pub ReadsNext : Shown → Pair A B → ℕ → Shown → Pair A B → Type 0
  ReadsNext (Ok c) p k x q = Side0Answers (Ok c) p x q
  ReadsNext (Err PastEnd) p k x q = Side0Answers (Err PastEnd) p x q
  ReadsNext (Err (IsDark c)) p k x q = Side0Answers (Err (IsDark c)) p x q
  ReadsNext (Err (IsLost c)) p k x q = ReadsSide1 p k x q

  -- side 0 is read if it lives
  abbrev pub ReadsFirst : StateValues → Pair A B → ℕ → Shown → Pair A B → Type 0
  ReadsFirst On p k x q = (y : Shown) × R₀.reads p.side0 k y q.side0 × ReadsNext y p k x q
  ReadsFirst (Dark c) p k x q = (y : Shown) × R₀.reads p.side0 k y q.side0 × ReadsNext y p k x q
  ReadsFirst (Dead c) p k x q = (q.side0 ≡ p.side0) × ReadsSide1 p k x q

  -- a read: past the size, by the state, then side 0 first
  abbrev pub Reads : Pair A B → ℕ → Shown → Pair A B → Type 0
  Reads p k x q =
      Within k (view_of R₀ R₁ p).size x p q
      (IfOn (view_of R₀ R₁ p).state x p q ((q.joined ≡ p.joined) × ReadsFirst (R₀.view p.side0).state p k x q))

module _ {A B : Type 0} (R₀ : Reader.Ghosts A) (D₀ : Disk.Ghosts A) (R₁ : Reader.Ghosts B) (D₁ : Disk.Ghosts B) where
  -- a write: past the size, by the state, then both sides in turn
  abbrev pub Writes : Pair A B → ℕ → Content → Answer Unit → Pair A B → Type 0
  Writes p k b r q =
      Within k (view_of R₀ R₁ p).size r p q
      (Passed R₀ R₁ (WriteOf D₀ k b) (WriteOf D₁ k b) p r q)

  -- a barrier: by the state, then both sides in turn
  abbrev pub Barriers : Pair A B → Answer Unit → Pair A B → Type 0
  Barriers = Passed R₀ R₁ D₀.barriers D₁.barriers
