use Rattle.std.proofs.Common.{refl, None, ◌∙◌, ap}
use Rattle.bench.specs.declared.schedule.Verb.TheVariants.{Go, CutBefore, CutAfter, Kill}
use Rattle.disks.specs.Values.{cause_values, answer_by, state_values}
use Rattle.disks.specs.declared.state.State.{State}
use Rattle.bench_disks.specs.Waiting.{cut}
use Rattle.bench_disks.proofs.Calling.{took, took_verb}
use Rattle.bench_disks.proofs.disk.BenchDisk.call.Goals as goal
use Rattle.bench_disks.proofs.disk.BenchDisk.call.Goals.{in-Some+in-Go, in-Some+in-CutBefore, in-Some+in-CutAfter, in-Some+in-Kill, in_default}

pub returns : goal.returns
returns g c = λ f has.
    let a = c.answer.ensures ∙ ap (λ (s : State). answer_by tt (state_values s)) c.state.ensures in
    let by = took_verb g.H.Holding.held c.args.self.now c.match-meet.self (cause_values c.args.cause) f c.meet.new.self in
    elim c.match-meet.branch [
      | in-Some+in-Go w ↦
          by _ _ a w.in-Some.ensures.words w.self-is w.in-Some.step Go w.in-Go.is w.in-Some.ensures.outcome (has _ (record { shown = _; shows = refl; left = _; met = w.effect.ensures; leaves = refl }))
      | in-Some+in-CutBefore w ↦ by _ _ a w.in-Some.ensures.words w.self-is w.in-Some.step CutBefore w.in-CutBefore.is w.in-Some.ensures.outcome w.cut.ensures
      | in-Some+in-CutAfter w ↦
          by _ _ a w.in-Some.ensures.words w.self-is w.in-Some.step CutAfter w.in-CutAfter.is w.in-Some.ensures.outcome
          (w.cut-in-CutAfter.ensures ∙ ap (cut w.in-Some.step.pick) (has _ (record { shown = _; shows = refl; left = _; met = w.effect-in-CutAfter.ensures; leaves = refl })))
      | in-Some+in-Kill w ↦ by _ _ a w.in-Some.ensures.words w.self-is w.in-Some.step Kill w.in-Kill.is w.in-Some.ensures.outcome refl
      | in_default w ↦ took g.H.Holding.held c.args.self.now c.match-meet.self (cause_values c.args.cause) f c.meet.new.self _ _ a w.in_default.ensures.words w.self-is None w.in_default.ensures.outcome refl
    ]
