use Rattle.std.proofs.Common.{List, ℕ, codes, string_bytes, IfOk, sym, subst, arith}
use Rattle.std.proofs.lemmas.Slice.Eq.{text_from_reads}
use Rattle.script.specs.Pieces.{lines}
use Rattle.benchrun.specs.Output.{Named}
use Rattle.benchrun.proofs.input.run_named.Goals as goal

pub returns-in-buffered : goal.returns-in-buffered
returns-in-buffered c =
    let is = text_from_reads c.args.name.now (codes "buffered") (omega arith) (search arith) in
    subst (λ (name : List ℕ). IfOk c.run_one-in-buffered.result (λ s. Named name (lines c.args.rest.now) (string_bytes s))) (sym is) c.run_one-in-buffered.ensures
