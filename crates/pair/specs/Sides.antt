-- What a pair shows, by what its sides show.
use Rattle.std.specs.Prelude.{◌≡◌, ℕ, ◌+◌, ◌<◌, ◌≤◌, min, max, Bool, true, false, ◌&&◌, ◌⊎◌}
use Rattle.disks.specs.Values.{StateValues, On, Dark, Dead}
use Rattle.disks.specs.Meaning.{View, Content, Living, StandLaw}
use Rattle.disks.specs.Trails.{cause_under, unjoined_cause}
use Rattle.disks.specs.Piles.{Tree, joined, is_dead, AllDead}
use Rattle.disks.specs.declared.reader.Reader
use Rattle.disks.specs.declared.disk.Disk
use Rattle.pair.specs.declared.pair.Pair.{Pair}

-- the state where no living side is dark
abbrev pub if_joined : Bool → StateValues
if_joined true = On
if_joined false = Dark unjoined_cause

-- dead if both sides are, with side 1's cause; else dark by the first living dark side; else on if joined
abbrev pub state_of : Bool → StateValues → StateValues → StateValues
state_of j (Dark c) t = Dark (cause_under 0 c)
state_of j On (Dark d) = Dark (cause_under 1 d)
state_of j (Dead c) (Dark d) = Dark (cause_under 1 d)
state_of j (Dead c) (Dead d) = Dead (cause_under 1 d)
state_of j On On = if_joined j
state_of j On (Dead d) = if_joined j
state_of j (Dead c) On = if_joined j

-- side 0's, or side 1's if side 0 is dead
abbrev pub first_living : {X : Type 0} → StateValues → X → X → X
first_living On x y = x
first_living (Dark c) x y = x
first_living (Dead c) x y = y

-- one more than the taller side's; sides higher than 7 make no pair, so the cap is for the sum in a byte alone
abbrev pub pair_height : ℕ → ℕ → ℕ
pair_height a b = min 7 (max a b) + 1

-- a candidate of a living side
abbrev pub LivingCandidate : View → View → ℕ → Content → Type 0
LivingCandidate v w k b = (Living v.state × v.candidate k b) ⊎ (Living w.state × w.candidate k b)

-- what the pair shows
abbrev pub pair_view : Bool → View → View → View
pair_view j v w = record {
  size = v.size;
  height = pair_height v.height w.height;
  state = state_of j v.state w.state;
  face = λ k. first_living v.state (v.face k) (w.face k);
  candidate = LivingCandidate v w;
}

-- how the sides of a pair go together: of one size, none too high, and with the same faces once joined and on
pub record Fit (j : Bool) (v w : View) : Type 0 where
  pub sizes : w.size ≡ v.size
  pub low : max v.height w.height ≤ 7
  pub agree : j ≡ true → v.state ≡ On → w.state ≡ On → (k : ℕ) → k < v.size → w.face k ≡ v.face k

module _ {A B : Type 0} (R₀ : Reader.Ghosts A) (R₁ : Reader.Ghosts B) where
  abbrev pub view_of : Pair A B → View
  view_of p = pair_view p.joined (R₀.view p.side0) (R₁.view p.side1)

  -- both sides are sound and go together
  pub record Sound (p : Pair A B) : Type 0 where
    pub side0 : R₀.sound p.side0
    pub side1 : R₁.sound p.side1
    pub fit : Fit p.joined (R₀.view p.side0) (R₁.view p.side1)

  -- where the faces of living sides are candidates, so are the faces of a living pair, after a done restart too
  abbrev pub FacesStandToo : Type 0
  FacesStandToo = StandLaw R₀.view R₀.sound → StandLaw R₁.view R₁.sound → StandLaw view_of Sound

  -- one more than the taller side's
  abbrev pub OneHigher : Type 0
  OneHigher = (p : Pair A B) → Sound p → (view_of p).height ≡ max (R₀.view p.side0).height (R₁.view p.side1).height + 1

  -- dead exactly if both sides are
  abbrev pub DeadIfBoth : Type 0
  DeadIfBoth = (p : Pair A B) → is_dead (view_of p).state ≡ (is_dead (R₀.view p.side0).state && is_dead (R₁.view p.side1).state)

-- the bottom disks of both sides
abbrev pub bottoms_of : {A B : Type 0} → Disk.Ghosts A → Disk.Ghosts B → Pair A B → Tree
bottoms_of D₀ D₁ p = joined (D₀.bottoms p.side0) (D₁.bottoms p.side1)

module _ {A B : Type 0} (R₀ : Reader.Ghosts A) (D₀ : Disk.Ghosts A) (R₁ : Reader.Ghosts B) (D₁ : Disk.Ghosts B) where
  -- dead exactly if every bottom disk is, of a pile of pairs too
  abbrev pub DeadWithBottoms : Type 0
  DeadWithBottoms =
      (p : Pair A B) → Sound R₀ R₁ p →
      (is_dead (view_of R₀ R₁ p).state ≡ true → AllDead (bottoms_of D₀ D₁ p)) × (AllDead (bottoms_of D₀ D₁ p) → is_dead (view_of R₀ R₁ p).state ≡ true)
