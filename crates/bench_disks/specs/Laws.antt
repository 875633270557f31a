-- What holds of bench disks beside the meaning of a disk.
use Rattle.std.specs.Prelude.{◌≡◌, ℕ, ◌<◌, List, [], ◌∷◌}
use Rattle.disks.specs.Meaning.{Content, Whole, FacesStand}
use Rattle.disks.specs.Blocks.{whole_blocks, block_of, spare}
use Rattle.bench_disks.specs.Waiting.{Held, chosen, newest, cut}
use Rattle.bench_disks.specs.Calls.{Bench, reads, writes, barriers, restarts}
use Rattle.bench_disks.specs.Views.{view_of, SoundHeld, Sound}

-- from d to e the bytes past the last block stayed as they were
abbrev pub SpareStays : Bench → Bench → Type 0
SpareStays d e = spare e.held.memory ≡ spare d.held.memory

-- the laws of a disk whose writes have this effect: each face is a candidate of its block, and no call touches the bytes past the last block
pub record BenchLaws (effect : ℕ → Content → Held → Held) : Type 0 where
  pub stand : (d : Bench) → FacesStand (view_of d)
  pub read : (d : Bench) (k : ℕ) → Sound d → SpareStays d (reads k d).1
  pub write : (d : Bench) (k : ℕ) (b : Content) → Sound d → Whole b → SpareStays d (writes effect k b d).1
  pub barrier : (d : Bench) → Sound d → SpareStays d (barriers d).1
  pub restart : (d : Bench) → Sound d → SpareStays d (restarts d).1

-- after a cut a block holds the newest of the chosen writes to it, else what stood
abbrev pub CutLeaves : Type 0
CutLeaves = (h : Held) (pick k : ℕ) → SoundHeld h → block_of (cut pick h).memory k ≡ newest (chosen pick 0 h.waiting) k (block_of h.memory k)

-- block k of the memory m after a cut, if b and then c waited for it
abbrev pub left_of : ℕ → List ℕ → ℕ → Content → Content → Content
left_of pick m k b c = block_of (cut pick (record { waiting = record { block = k; content = b } ∷ (record { block = k; content = c } ∷ []); memory = m })).memory k

-- where a stands and b, c wait: pick 0 leaves a, 1 b, 2 c, 3 c
pub record CutExamples (m : List ℕ) (k : ℕ) (b c : Content) : Type 0 where
  pub none : left_of 0 m k b c ≡ block_of m k
  pub first : left_of 1 m k b c ≡ b
  pub second : left_of 2 m k b c ≡ c
  pub both : left_of 3 m k b c ≡ c

-- what a cut leaves, for every cut and by example
pub record CutLaws : Type 0 where
  pub leaves : CutLeaves
  pub examples : (m : List ℕ) (k : ℕ) (b c : Content) → k < whole_blocks m → Whole b → Whole c → CutExamples m k b c
