-- A call of a bench disk, from what its parts did.
use Rattle.std.proofs.Common.{◌≡◌, Some, Option, sym, ap, subst}
use Rattle.bench.specs.declared.schedule.Verb.{Verb}
use Rattle.bench.specs.declared.schedule.Step.{Step}
use Rattle.bench.specs.Schedules.{words_left}
use Rattle.bench_disks.specs.Calls.{Bench, take_outcome, called, answered}
use Rattle.bench_disks.specs.Disks.{bench_of}
use Rattle.bench_disks.specs.Faults.{Outcome, outcome_by, outcome_of, step_for, meets}
use Rattle.bench_disks.specs.Waiting.{Held}
use Rattle.bench_disks.specs.declared.disk.BenchDisk.{BenchDisk}
use Rattle.bench_disks.specs.declared.faults.Faults.{Faults}
use Rattle.disks.specs.Values.{CauseValues, StateValues, Answer, answer_by, state_values}

abbrev Met : Type 0
Met = Outcome × StateValues

abbrev Answered : Type 0
Answered = Answer Unit × Bench

module _ {H : Type 0} (held : H → Held) (old new : BenchDisk H) (c : CauseValues) (f : Held → Held) (faults : Faults) (h : H) (a : Answer Unit) (answers : a ≡ answer_by tt (state_values new.faults.state))
    (words : words_left faults.schedule ≡ (step_for (bench_of held old).state (bench_of held old).words).1) (is : new ≡ record { held = h; faults = faults }) where
  abbrev d : Bench
  d = bench_of held old

  -- the call took a step, or none
  pub took : (o : Option Step) → ◌≡◌ {A = Met} (outcome_of o, state_values faults.state) (meets d.state (step_for d.state d.words).0 c) → held h ≡ take_outcome (outcome_of o) f d.held →
      ◌≡◌ {A = Answered} (a, bench_of held new) (answered tt (called c f d))
  took o e g =
      let m : ◌≡◌ {A = Answered} (answer_by tt (state_values faults.state), record { state = state_values faults.state; words = (step_for d.state d.words).1; held = take_outcome (outcome_of o) f d.held }) (answered tt (called c f d)) =
      ap (λ (m : Met). (answer_by tt m.1, record { state = m.1; words = (step_for d.state d.words).1; held = take_outcome m.0 f d.held })) e in
      let b = ap (bench_of held) is in
      let s = ap (λ (x : BenchDisk H). answer_by {X = Unit} tt (state_values x.faults.state)) is in
      cc

  -- a step with a verb that is known
  pub took_verb : (s : Step) (v : Verb) → s.verb ≡ v → ◌≡◌ {A = Met} (outcome_by s.verb s.pick, state_values faults.state) (meets d.state (step_for d.state d.words).0 c) → held h ≡ take_outcome (outcome_by v s.pick) f d.held →
      ◌≡◌ {A = Answered} (a, bench_of held new) (answered tt (called c f d))
  took_verb s v e m g = took (Some s) m (subst (λ (x : Verb). held h ≡ take_outcome (outcome_by x s.pick) f d.held) (sym e) g)
