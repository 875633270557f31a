-- A disk that is always dark and counts the calls that it refuses.
use Rattle.std.specs.Prelude.{◌≡◌, ℕ, ◌+◌, ◌-◌, ◌^◌, ◌≤◌, min, cond, replicate, Err, nat_lt}
use Rattle.disks.specs.Trails.{cause_at}
use Rattle.disks.specs.Values.{CauseValues, StateValues, Dark, RefusalValues, PastEnd, IsDark, Answer}
use Rattle.disks.specs.Meaning.{View}
use Rattle.odd.specs.declared.AlwaysDark.{AlwaysDark}

-- as after a restart that was cut
abbrev pub dark_cause : CauseValues
dark_cause = cause_at 4 0

abbrev pub dark_state : StateValues
dark_state = Dark dark_cause

-- zeros that nobody can read, and nothing that could stand after a cut
abbrev pub dark_view : AlwaysDark → View
dark_view s = record {
  size = s.size;
  height = 0;
  state = dark_state;
  face = λ k. replicate 512 0;
  candidate = λ k b. ⊥;
}

-- any size that a disk may have
abbrev pub Sound : AlwaysDark → Type 0
Sound s = s.size ≤ 65535

-- the disk with one more refused call counted, as far as the number goes
abbrev pub counted : AlwaysDark → AlwaysDark
counted s = record { size = s.size; refused = min (s.refused + 1) (2 ^ 64 - 1) }

-- a call that is refused by the state, and counted
abbrev pub refuses : AlwaysDark → RefusalValues × AlwaysDark
refuses s = (IsDark dark_cause, counted s)

-- a call on block k, refused past the size first, and counted
abbrev pub refuses_at : ℕ → AlwaysDark → RefusalValues × AlwaysDark
refuses_at k s = (cond (nat_lt k s.size) (IsDark dark_cause) PastEnd, counted s)

-- the answer is that refusal, and the disk is left so
abbrev pub Gives : {X : Type 0} → Answer X → AlwaysDark → RefusalValues × AlwaysDark → Type 0
Gives r t p = (r ≡ Err p.0) × (t ≡ p.1)
