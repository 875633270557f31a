use Rattle.std.proofs.Common.{ap, arith, rules, vec_items}
use Rattle.std.proofs.Output.{has_written_append, has_written_of_eq}
use Rattle.std.proofs.lemmas.List.{take_all}
use Rattle.compare.specs.Lines.{difference_lines, only_lines}
use Rattle.compare.proofs.report.ComparisonDisplay.fmt.Goals as goal
use Rattle.compare.proofs.report.ComparisonDisplay.fmt.Goals.{in-Some+in_ok-writeln-2, in_default}

pub returns-clause-writes : goal.returns-clause-writes
returns-clause-writes g c p k =
    let items = vec_items c.args.self.now.differences in
    let lines = has_written_of_eq _ _ _ _ _ (ap difference_lines (take_all c.loop-difference.difference-index items (omega arith))) (c.loop-difference.invariant p) in
    has_written_append _ _ _ _ _ _
    (has_written_append _ _ (difference_lines items) _ (only_lines c.args.self.now.only) c.match-lone.f lines (elim c.match-lone.branch [ in-Some+in_ok-writeln-2 w ↦ search rules | in_default w ↦ search rules ]))
    (search rules)
