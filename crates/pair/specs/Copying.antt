-- Lemmas: what the copy of a restart and the barrier after it leave of two disks that were on.
use Rattle.std.proofs.Common.{◌≡◌, ℕ, zero, suc, ◌<◌, ◌≤◌, ◌⊎◌, Ok, Err, arith}
use Rattle.std.proofs.lemmas.Grind.{common_steps}
use Rattle.disks.specs.Values.{StateValues, On, Dark, Dead, Answer}
use Rattle.disks.specs.Meaning.{View, Content, Kept, FacesKeep, NoneGained, NothingWaits, ReadLaw, WriteLaw, BarrierLaw, ProperLaw}
use Rattle.disks.specs.declared.reader.Reader
use Rattle.disks.specs.declared.disk.Disk
use Rattle.pair.specs.declared.copy.CopyStop.TheVariants.{SourceDied, Ended}
use Rattle.pair.specs.Calls.{If}
use Rattle.pair.specs.Restarts.{CopyEnd, barrier_due, CopiesOne, Copied, Copies, CopiesOver}

abbrev pub IsDead : StateValues → Type 0
IsDead On = ⊥
IsDead (Dark c) = ⊥
IsDead (Dead c) = Unit {0}

abbrev pub NotDark : StateValues → Type 0
NotDark On = Unit {0}
NotDark (Dark c) = ⊥
NotDark (Dead c) = Unit {0}

-- the face is what was copied, or what stood there before
abbrev CopiedOrOld : View → View → View → Type 0
CopiedOrOld v₁ w₁ w = (i : ℕ) → i < v₁.size → (w.face i ≡ v₁.face i) ⊎ (w.face i ≡ w₁.face i)

-- both disks from v₁ and w₁ on, as any part of the copy may leave them
pub record Loose (v₁ w₁ v w : View) : Type 0 where
  pub kept₀ : Kept v₁ v
  pub kept₁ : Kept w₁ w
  pub faces₀ : v.state ≡ On → FacesKeep v₁ v
  pub gained₀ : NoneGained v₁ v
  pub gained₁ : (i : ℕ) (c : Content) → i < v₁.size → w.candidate i c → w₁.candidate i c ⊎ (c ≡ v₁.face i)

-- as copy and barrier leave them
pub record CopiedOver (v₁ w₁ v w : View) : Type 0 where
  pub loose : Loose v₁ w₁ v w
  pub agree : v.state ≡ On → w.state ≡ On → (i : ℕ) → i < v₁.size → w.face i ≡ v₁.face i
  pub faces₁ : NotDark v.state → w.state ≡ On → CopiedOrOld v₁ w₁ w
  pub quiet₁ : NotDark v.state → w.state ≡ On → NothingWaits w

-- as the first k blocks' copy leaves them
record Copying (k : ℕ) (v₁ w₁ v w : View) : Type 0 where
  pub loose : Loose v₁ w₁ v w
  pub on₀ : v.state ≡ On
  pub on₁ : w.state ≡ On
  pub low : (i : ℕ) → i < v₁.size → i < k → w.face i ≡ v₁.face i
  pub high : (i : ℕ) → i < v₁.size → k ≤ i → w.face i ≡ w₁.face i

-- as a copy leaves them whose source died
record Died (v₁ w₁ v w : View) : Type 0 where
  pub loose : Loose v₁ w₁ v w
  pub dead₀ : IsDead v.state
  pub on₁ : w.state ≡ On
  pub faces₁ : CopiedOrOld v₁ w₁ w

-- as a copy leaves them that ended otherwise
record Stopped (v₁ w₁ v w : View) : Type 0 where
  pub loose : Loose v₁ w₁ v w
  pub off : NotDark v.state → w.state ≡ On → ⊥

-- after the copy of block k, by its end
abbrev AfterOne : ℕ → CopyEnd → View → View → View → View → Type 0
AfterOne k (Ok u) v₁ w₁ v w = Copying (suc k) v₁ w₁ v w
AfterOne k (Err SourceDied) v₁ w₁ v w = Died v₁ w₁ v w
AfterOne k (Err Ended) v₁ w₁ v w = Stopped v₁ w₁ v w

module _ {A B : Type 0} (R₀ : Reader.Ghosts A) (R₁ : Reader.Ghosts B) (D₁ : Disk.Ghosts B)
    (proper : ProperLaw R₀.view R₀.sound) (reading : ReadLaw R₀.view R₀.sound R₀.reads)
    (writing : WriteLaw R₁.view R₁.sound D₁.writes) (flushing : BarrierLaw R₁.view R₁.sound D₁.barriers)
    (a₁ : A) (b₁ : B) (sizes : (R₁.view b₁).size ≡ (R₀.view a₁).size) where
  abbrev v₁ : View
  v₁ = R₀.view a₁

  abbrev w₁ : View
  w₁ = R₁.view b₁

  -- both disks sound, and their views as said
  pub record Both (says : View → View → View → View → Type 0) (a : A) (b : B) : Type 0 where
    pub sound₀ : R₀.sound a
    pub sound₁ : R₁.sound b
    pub views : says v₁ w₁ (R₀.view a) (R₁.view b)

  one : (k : ℕ) (a a' : A) (b b' : B) (e : CopyEnd) → Both (Copying k) a b → k < v₁.size → CopiesOne R₀ D₁ k a b e a' b' → Both (AfterOne k e) a' b'
  one = grind (arith, common_steps)

  module _ (fine₀ : R₀.sound a₁) (fine₁ : R₁.sound b₁) (on₀ : (R₀.view a₁).state ≡ On) (on₁ : (R₁.view b₁).state ≡ On) where
    copied : (k : ℕ) → k ≤ v₁.size → (a : A) (b : B) → Copied R₀ D₁ k a₁ b₁ a b → Both (Copying k) a b
    copied zero le a b h = grind (arith, common_steps)
    copied (suc k) le a b h = one k h.0 a h.1 b (Ok tt) (copied k (omega arith) h.0 h.1 h.2) le h.3

    pub copied_over : (a : A) (b : B) → CopiesOver R₀ D₁ a₁ b₁ a b → Both CopiedOver a b
    copied_over a b h = go h.0 h.1 h.2 h.3
      where
        go : (e : CopyEnd) (b₂ : B) → Copies R₀ D₁ v₁.size a₁ b₁ e a b₂ → If (barrier_due e) ((r : Answer Unit) × D₁.barriers b₂ r b) (b ≡ b₂) → Both CopiedOver a b
        go (Ok u) b₂ c x = let k = copied v₁.size (omega arith) a b₂ c in grind (arith, common_steps)
        go (Err SourceDied) b₂ c x = let k = one c.0 c.1 a c.2 b₂ (Err SourceDied) (copied c.0 (omega (arith, c.3)) c.1 c.2 c.4) c.3 c.5 in grind (arith, common_steps)
        go (Err Ended) b₂ c x = let k = one c.0 c.1 a c.2 b₂ (Err Ended) (copied c.0 (omega (arith, c.3)) c.1 c.2 c.4) c.3 c.5 in grind (arith, common_steps)
