-- What the steps of a schedule do to the calls of a disk and to its state.
use Rattle.std.specs.Prelude.{ℕ, Bool, true, false, List, Some, None, Option}
use Rattle.disks.specs.Trails.{cause_at}
use Rattle.disks.specs.Values.{CauseValues, StateValues, On, Dark, Dead}
use Rattle.bench.specs.declared.schedule.Verb.{Verb}
use Rattle.bench.specs.declared.schedule.Verb.TheVariants.{Go, CutBefore, CutAfter, Kill}
use Rattle.bench.specs.declared.schedule.Step.{Step}
use Rattle.bench.specs.Schedules.{step_from, empty_step}

-- the state that a verb leaves a living disk in
abbrev pub state_by : Verb → CauseValues → StateValues
state_by Go c = On
state_by CutBefore c = Dark c
state_by CutAfter c = Dark c
state_by Kill c = Dead c

-- what it makes of any state: a dead disk stays as it is
abbrev pub changed_by : StateValues → Verb → CauseValues → StateValues
changed_by On v c = state_by v c
changed_by (Dark d) v c = state_by v c
changed_by (Dead d) v c = Dead d

-- what a step does to its call: whether the call has its effect, and then the pick of the cut, if one comes
pub record Outcome : Type 0 where
  pub acts : Bool
  pub cut : Option ℕ

-- the outcome of a call by a verb: goes on, cut before its effect, cut after it, stopped before it
abbrev pub outcome_by : Verb → ℕ → Outcome
outcome_by Go pick = record { acts = true; cut = None }
outcome_by CutBefore pick = record { acts = false; cut = Some pick }
outcome_by CutAfter pick = record { acts = true; cut = Some pick }
outcome_by Kill pick = record { acts = false; cut = None }

-- the outcome of a call that takes this step, or none
abbrev pub outcome_of : Option Step → Outcome
outcome_of None = record { acts = false; cut = None }
outcome_of (Some s) = outcome_by s.verb s.pick

-- the step that a read, a write or a barrier takes of the words, and the words left: only a disk that is on takes one
abbrev pub step_for : StateValues → List ℕ → Step × List ℕ
step_for On ws = step_from ws
step_for (Dark b) ws = (empty_step, ws)
step_for (Dead b) ws = (empty_step, ws)

-- the outcome of such a call with the cause c, and the state that it leaves
abbrev pub meets : StateValues → Step → CauseValues → Outcome × StateValues
meets On s c = (outcome_by s.verb s.pick, state_by s.verb c)
meets (Dark b) s c = (record { acts = false; cut = None }, Dark b)
meets (Dead b) s c = (record { acts = false; cut = None }, Dead b)

-- the step that a restart takes: a disk that is on or dark takes one
abbrev pub step_at_restart : StateValues → List ℕ → Step × List ℕ
step_at_restart On ws = step_from ws
step_at_restart (Dark b) ws = step_from ws
step_at_restart (Dead b) ws = (empty_step, ws)

-- the pick by which a restart cuts a disk that is on, and the state that it leaves
abbrev pub restart_outcome : StateValues → Step → Option ℕ × StateValues
restart_outcome On s = (Some s.pick, state_by s.verb (cause_at 4 0))
restart_outcome (Dark b) s = (None, state_by s.verb (cause_at 4 0))
restart_outcome (Dead b) s = (None, Dead b)
