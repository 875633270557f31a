-- Lemmas: read of a pair keeps the meaning of a reader, by the laws of its sides.
use Rattle.std.proofs.Common.{arith}
use Rattle.std.proofs.lemmas.Grind.{common_steps}
use Rattle.disks.specs.Meaning.{ReadLaw}
use Rattle.disks.specs.declared.reader.Reader
use Rattle.pair.specs.Sides.{Sound, view_of}
use Rattle.pair.specs.Calls.{Reads}
use Rattle.pair.specs.Refusing.{at_block}

module _ {A B : Type 0} (R₀ : Reader.Ghosts A) (R₁ : Reader.Ghosts B) where
  pub pair_reading : ReadLaw R₀.view R₀.sound R₀.reads → ReadLaw R₁.view R₁.sound R₁.reads → ReadLaw (view_of R₀ R₁) (Sound R₀ R₁) (Reads R₀ R₁)
  pair_reading law₀ law₁ p q k x step snd = at_block R₀ R₁ p q k ((view_of R₀ R₁ p).face k) x _ _ snd (λ lt on h.
      grind (arith, common_steps)) step
