-- What a bench disk shows, and what its making and its calls can leave.
use Rattle.std.specs.Prelude.{◌≡◌, ℕ, ◌<◌, List, [], ◌∷◌, slice_index}
use Rattle.disks.specs.Values.{CauseValues, Dark}
use Rattle.disks.specs.Meaning.{View, Whole, StateFits}
use Rattle.bench_disks.specs.declared.waiting.WaitingWrite.{WaitingWrite}
use Rattle.bench_disks.specs.Waiting.{Held, size_of, face_of, Candidate}
use Rattle.bench_disks.specs.Calls.{Bench}

-- size, height 0, state, faces and candidates
abbrev pub view_of : Bench → View
view_of d = record {
  size = size_of d.held;
  height = 0;
  state = d.state;
  face = face_of d.held;
  candidate = Candidate d.held;
}

-- each write is of a whole block, below n
abbrev pub WholeWrites : ℕ → List WaitingWrite → Type 0
WholeWrites n [] = Unit {0}
WholeWrites n (w ∷ ws) = (w.block < n) × Whole w.content × WholeWrites n ws

-- the memory is bytes, and what waits are whole blocks
pub record SoundHeld (h : Held) : Type 0 where
  pub bytes : (j : ℕ) → slice_index h.memory j < 256
  pub writes : WholeWrites (size_of h) h.waiting

-- what its making and its calls can leave: a cut leaves nothing waiting, so at a dark disk nothing waits
pub record Sound (d : Bench) : Type 0 where
  pub cause : StateFits 0 d.state
  pub dark : (c : CauseValues) → d.state ≡ Dark c → d.held.waiting ≡ []
  pub held : SoundHeld d.held
