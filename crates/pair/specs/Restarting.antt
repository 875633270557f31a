-- Lemmas: restart of a pair keeps the meaning of a disk, by the laws of its sides.
use Rattle.std.proofs.Common.{◌≡◌, ℕ, ◌<◌, Bool, true, false, ◌&&◌, sym, refl, ◌∙◌, arith}
use Rattle.std.proofs.lemmas.Grind.{common_steps}
use Rattle.disks.specs.Values.{StateValues, On, Dark, Dead, Answer, answer_by}
use Rattle.disks.specs.Meaning.{View, Content, Living, Kept, NothingWaits, ReadLaw, WriteLaw, BarrierLaw, RestartLaw, RestartMeans, ProperLaw}
use Rattle.disks.specs.declared.reader.Reader
use Rattle.disks.specs.declared.disk.Disk
use Rattle.pair.specs.declared.pair.Pair.{Pair}
use Rattle.pair.specs.Sides.{LivingCandidate, Sound, view_of}
use Rattle.pair.specs.Calls.{If, is_dark}
use Rattle.pair.specs.Restarts.{is_done, CopiesOver, RestartsSides, Restarts, RestartsLiving, IfLiving}
use Rattle.pair.specs.Copying.{NotDark, copied_over}

-- what the restart leaves of the sides
record Restarted (v w v' w' : View) : Type 0 where
  pub kept₀ : Kept v v'
  pub kept₁ : Kept w w'
  pub gained₀ : (i : ℕ) (c : Content) → i < v.size → Living v'.state → v'.candidate i c → LivingCandidate v w i c
  pub gained₁ : (i : ℕ) (c : Content) → i < v.size → Living w'.state → w'.candidate i c → LivingCandidate v w i c
  pub agree : v'.state ≡ On → w'.state ≡ On → (i : ℕ) → i < v.size → w'.face i ≡ v'.face i
  pub picked₀ : v'.state ≡ On → (i : ℕ) → i < v.size → LivingCandidate v w i (v'.face i)
  pub quiet₀ : v'.state ≡ On → NothingWaits v'
  pub picked₁ : NotDark v'.state → w'.state ≡ On → (i : ℕ) → i < v.size → LivingCandidate v w i (w'.face i)
  pub quiet₁ : NotDark v'.state → w'.state ≡ On → NothingWaits w'

-- one side's restart, of a dead one too
record Again (v v' : View) : Type 0 where
  pub kept : Kept v v'
  pub gained : (i : ℕ) (c : Content) → i < v.size → Living v'.state → v'.candidate i c → Living v.state × v.candidate i c
  pub picked : v'.state ≡ On → (i : ℕ) → i < v.size → Living v.state × v.candidate i (v'.face i)
  pub settled : v'.state ≡ On → NothingWaits v'

module _ {S : Type 0} (R : Reader.Ghosts S) (D : Disk.Ghosts S) (law : RestartLaw R.view R.sound D.restarts) where
  record SideAgain (s : S) (r : Answer Unit) (t : S) : Type 0 where
    pub sound : R.sound t
    pub answer : r ≡ answer_by tt (R.view t).state
    pub again : Again (R.view s) (R.view t)

  side_again : (s t : S) (r : Answer Unit) → R.sound s → D.restarts s r t → SideAgain s r t
  side_again = grind (arith, common_steps)

module _ {A B : Type 0} (R₀ : Reader.Ghosts A) (D₀ : Disk.Ghosts A) (R₁ : Reader.Ghosts B) (D₁ : Disk.Ghosts B)
    (proper : ProperLaw R₀.view R₀.sound) (reading : ReadLaw R₀.view R₀.sound R₀.reads)
    (writing : WriteLaw R₁.view R₁.sound D₁.writes) (flushing : BarrierLaw R₁.view R₁.sound D₁.barriers)
    (restarting₀ : RestartLaw R₀.view R₀.sound D₀.restarts) (restarting₁ : RestartLaw R₁.view R₁.sound D₁.restarts) where
  record Sides (a : A) (b : B) (a' : A) (b' : B) : Type 0 where
    pub sound₀ : R₀.sound a'
    pub sound₁ : R₁.sound b'
    pub restarted : Restarted (R₀.view a) (R₁.view b) (R₀.view a') (R₁.view b')

  module _ (a a₁ : A) (b b₁ : B) (sizes : (R₁.view b).size ≡ (R₀.view a).size) (snd₀ : R₀.sound a₁) (snd₁ : R₁.sound b₁)
      (l : Again (R₀.view a) (R₀.view a₁)) where
    -- both are on: the copy
    copies : Again (R₁.view b) (R₁.view b₁) → (a' : A) (b' : B) → (R₀.view a₁).state ≡ On → (R₁.view b₁).state ≡ On → CopiesOver R₀ D₁ a₁ b₁ a' b' → Sides a b a' b'
    copies m a' b' on₀ on₁ h =
        let d = copied_over R₀ R₁ D₁ proper reading writing flushing a₁ b₁ (m.kept.size ∙ sizes ∙ sym l.kept.size) snd₀ snd₁ on₀ on₁ a' b' h in
        grind (arith, common_steps)

  restarts_sides : (a a' : A) (b b' : B) → R₀.sound a → R₁.sound b → (R₁.view b).size ≡ (R₀.view a).size → RestartsSides R₀ D₀ D₁ a b a' b' → Sides a b a' b'
  restarts_sides a a' b b' snd₀ snd₁ sizes h = first (is_dark h.0) refl h.3
    where
      l : SideAgain R₀ D₀ restarting₀ a h.0 h.1
      l = side_again R₀ D₀ restarting₀ a h.1 h.0 snd₀ h.2

      second : (r₁ : Answer Unit) (b₁ : B) → SideAgain R₁ D₁ restarting₁ b r₁ b₁ → (x : Bool) → (is_done h.0 && is_done r₁) ≡ x → If x (CopiesOver R₀ D₁ h.1 b₁ a' b') ((a' ≡ h.1) × (b' ≡ b₁)) → Sides a b a' b'
      second r₁ b₁ m true e u = copies a h.1 b b₁ sizes l.sound m.sound l.again m.again a' b' (grind (arith, common_steps)) (grind (arith, common_steps)) u
      second r₁ b₁ m false e u = grind (arith, common_steps)

      first : (x : Bool) → is_dark h.0 ≡ x → If x ((a' ≡ h.1) × (b' ≡ b)) ((r₁ : Answer Unit) × (b₁ : B) × D₁.restarts b r₁ b₁ × If (is_done h.0 && is_done r₁) (CopiesOver R₀ D₁ h.1 b₁ a' b') ((a' ≡ h.1) × (b' ≡ b₁))) → Sides a b a' b'
      first true e u = grind (arith, common_steps)
      first false e u = second u.0 u.1 (side_again R₁ D₁ restarting₁ b u.1 u.0 snd₁ u.2) _ refl u.3

  living : (p q : Pair A B) (r : Answer Unit) → Sound R₀ R₁ p → Living (view_of R₀ R₁ p).state → RestartsLiving R₀ D₀ R₁ D₁ p r q → Sound R₀ R₁ q × RestartMeans (view_of R₀ R₁ p) r (view_of R₀ R₁ q)
  living p q r snd li h =
      let s = restarts_sides p.side0 q.side0 p.side1 q.side1 snd.side0 snd.side1 snd.fit.sizes h.0 in
      grind (arith, common_steps)

  pub pair_restarting : RestartLaw (view_of R₀ R₁) (Sound R₀ R₁) (Restarts R₀ D₀ R₁ D₁)
  pair_restarting p q r step snd = at (view_of R₀ R₁ p).state refl step
    where
      at : (s : StateValues) → (view_of R₀ R₁ p).state ≡ s → IfLiving s r p q (RestartsLiving R₀ D₀ R₁ D₁ p r q) → Sound R₀ R₁ q × RestartMeans (view_of R₀ R₁ p) r (view_of R₀ R₁ q)
      at On e h = living p q r snd (grind (arith, common_steps)) h
      at (Dark c) e h = living p q r snd (grind (arith, common_steps)) h
      at (Dead c) e h = grind (arith, common_steps)
