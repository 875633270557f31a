-- The calls of a bench disk: each gives the answer and the disk after it.
use Rattle.std.specs.Prelude.{ℕ, cond, List, [], Some, None, Err, Option, nat_lt}
use Rattle.disks.specs.Values.{CauseValues, StateValues, On, PastEnd, Answer, answer_by}
use Rattle.disks.specs.Meaning.{Content, Shown}
use Rattle.bench.specs.declared.schedule.Step.{Step}
use Rattle.disks.specs.Trails.{cause_at}
use Rattle.bench_disks.specs.Faults.{Outcome, step_for, meets, step_at_restart, restart_outcome}
use Rattle.bench_disks.specs.Waiting.{Held, size_of, face_of, cut, flush}

-- a bench disk: its state, the words left of its schedule, and what it holds
pub record Bench : Type 0 where
  pub state : StateValues
  pub words : List ℕ
  pub held : Held

-- a new disk with these words over this memory: on, with nothing waiting
abbrev pub new_bench : List ℕ → List ℕ → Bench
new_bench words memory = record { state = On; words = words; held = record { waiting = []; memory = memory } }

-- a cut, if there is one
abbrev pub cut_if : Option ℕ → Held → Held
cut_if None h = h
cut_if (Some pick) h = cut pick h

-- the effect f, if the call has it, and then the cut
abbrev pub take_outcome : Outcome → (Held → Held) → Held → Held
take_outcome c f h = cut_if c.cut (cond c.acts (f h) h)

-- a call with the cause c and the effect f takes a step, and goes on by it
abbrev pub by_step : Step × List ℕ → CauseValues → (Held → Held) → Bench → Bench
by_step s c f d = record {
  state = (meets d.state s.0 c).1;
  words = s.1;
  held = take_outcome (meets d.state s.0 c).0 f d.held;
}

-- such a call at the disk as it is
abbrev pub called : CauseValues → (Held → Held) → Bench → Bench
called c f d = by_step (step_for d.state d.words) c f d

-- a call is answered by the state that it leaves: done with x, dark or lost
abbrev pub answered : {X : Type 0} → X → Bench → Answer X × Bench
answered x d = (answer_by x d.state, d)

-- a call on block k that is past the size is refused, and takes no step
abbrev pub within : {X : Type 0} → ℕ → Bench → Answer X × Bench → Answer X × Bench
within k d r = cond (nat_lt k (size_of d.held)) r (Err PastEnd, d)

-- a read has no effect, and shows the face
abbrev pub reads : ℕ → Bench → Shown × Bench
reads k d = within k d (answered (face_of d.held k) (called (cause_at 1 k) (λ h. h) d))

-- the effect of a write is the one thing in which the two bench disks differ
abbrev pub writes : (ℕ → Content → Held → Held) → ℕ → Content → Bench → Answer Unit × Bench
writes effect k b d = within k d (answered tt (called (cause_at 2 k) (effect k b) d))

-- the effect of a barrier is that all stands
abbrev pub barriers : Bench → Answer Unit × Bench
barriers d = answered tt (called (cause_at 3 0) flush d)

-- a restart takes a step; a disk that is on is cut first
abbrev pub restart_by : Step × List ℕ → Bench → Bench
restart_by s d = record {
  state = (restart_outcome d.state s.0).1;
  words = s.1;
  held = cut_if (restart_outcome d.state s.0).0 d.held;
}

-- a restart of the disk as it is
abbrev pub restarts : Bench → Answer Unit × Bench
restarts d = answered tt (restart_by (step_at_restart d.state d.words) d)
