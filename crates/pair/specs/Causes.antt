-- Lemmas: a pair is proper, and when it is dead.
use Rattle.std.specs.Prelude.{◌≡◌}
use Rattle.std.proofs.Common.{sym, ◌∙◌, arith}
use Rattle.std.proofs.lemmas.Grind.{common_steps}
use Rattle.disks.specs.Meaning.{ProperLaw}
use Rattle.disks.specs.Piles.{is_dead, lost}
use Rattle.disks.specs.declared.reader.Reader
use Rattle.disks.specs.declared.disk.Disk
use Rattle.disks.proofs.Losing.{lost_exactly}
use Rattle.pair.specs.Sides.{view_of, Sound, bottoms_of, DeadWithBottoms}

module _ {A B : Type 0} (R₀ : Reader.Ghosts A) (R₁ : Reader.Ghosts B) where
  pub pair_proper : ProperLaw R₀.view R₀.sound → ProperLaw R₁.view R₁.sound → ProperLaw (view_of R₀ R₁) (Sound R₀ R₁)
  pair_proper = grind (arith, common_steps)

module _ {A B : Type 0} (R₀ : Reader.Ghosts A) (D₀ : Disk.Ghosts A) (R₁ : Reader.Ghosts B) (D₁ : Disk.Ghosts B)
    (losing₀ : (s : A) → R₀.sound s → is_dead (R₀.view s).state ≡ lost (D₀.bottoms s))
    (losing₁ : (s : B) → R₁.sound s → is_dead (R₁.view s).state ≡ lost (D₁.bottoms s)) where
  pub pair_losing : (p : _) → Sound R₀ R₁ p → is_dead (view_of R₀ R₁ p).state ≡ lost (bottoms_of D₀ D₁ p)
  pair_losing = grind (arith, common_steps)

  pub dead_with_bottoms : DeadWithBottoms R₀ D₀ R₁ D₁
  dead_with_bottoms p snd =
      let e = pair_losing p snd in
      (λ d. (lost_exactly (bottoms_of D₀ D₁ p)).0 (sym e ∙ d), λ f. e ∙ (lost_exactly (bottoms_of D₀ D₁ p)).1 f)
