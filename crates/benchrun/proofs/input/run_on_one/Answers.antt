use Rattle.std.proofs.Common.{vec_items, ◌∙◌}
use Rattle.script.specs.Pieces.{lines}
use Rattle.std.proofs.lemmas.Result.{IfOk-weaker}
use Rattle.benchrun.proofs.OnBench.{runs_new}
use Rattle.benchrun.proofs.input.run_on_one.Goals as goal

pub returns : goal.returns
returns g c =
    IfOk-weaker c.finish.result _ _
    (λ s told. runs_new g.D.Reader g.D.Disk g.D.Kind.bench g.D.Kind.effect g.met.D.Kind.by_bench (vec_items c.args.words) _ (lines c.args.calls.now) _ _ _ _ _ c.in_ok-disk.ensures c.in_ok-transcript.ensures (c.deref.ensures.value ∙ c.into_memory-memory.ensures) told)
    c.finish.ensures
