-- Lemmas: write and barrier of a pair keep the meaning of a disk, by the laws of its sides.
use Rattle.std.proofs.Common.{arith}
use Rattle.std.proofs.lemmas.Grind.{common_steps}
use Rattle.disks.specs.Values.{Answer}
use Rattle.disks.specs.Meaning.{WriteLaw, BarrierLaw}
use Rattle.disks.specs.declared.reader.Reader
use Rattle.disks.specs.declared.disk.Disk
use Rattle.pair.specs.Sides.{Sound, view_of}
use Rattle.pair.specs.Calls.{Writes, Barriers}
use Rattle.pair.specs.Refusing.{by_state, at_block}

module _ {A B : Type 0} (R₀ : Reader.Ghosts A) (D₀ : Disk.Ghosts A) (R₁ : Reader.Ghosts B) (D₁ : Disk.Ghosts B) where
  pub pair_writing : WriteLaw R₀.view R₀.sound D₀.writes → WriteLaw R₁.view R₁.sound D₁.writes → WriteLaw (view_of R₀ R₁) (Sound R₀ R₁) (Writes R₀ D₀ R₁ D₁)
  pair_writing law₀ law₁ p q k b r wh step snd = at_block R₀ R₁ p q k tt r _ _ snd (λ lt on h.
      let n₀ = λ (a : Answer Unit) (x : D₀.writes p.side0 k b a q.side0). law₀ p.side0 q.side0 k b a wh x snd.side0 in
      let n₁ = λ (a : Answer Unit) (x : D₁.writes p.side1 k b a q.side1). law₁ p.side1 q.side1 k b a wh x snd.side1 in
      grind (arith, common_steps)) step

  pub pair_flushing : BarrierLaw R₀.view R₀.sound D₀.barriers → BarrierLaw R₁.view R₁.sound D₁.barriers → BarrierLaw (view_of R₀ R₁) (Sound R₀ R₁) (Barriers R₀ D₀ R₁ D₁)
  pair_flushing law₀ law₁ p q r step snd = by_state R₀ R₁ p q tt r _ _
      (λ o a s. grind (arith, common_steps))
      (λ on h.
      let n₀ = λ (a : Answer Unit) (x : D₀.barriers p.side0 a q.side0). law₀ p.side0 q.side0 a x snd.side0 in
      let n₁ = λ (a : Answer Unit) (x : D₁.barriers p.side1 a q.side1). law₁ p.side1 q.side1 a x snd.side1 in
      grind (arith, common_steps))
      step
