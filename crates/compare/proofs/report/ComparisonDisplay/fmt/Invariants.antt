use Rattle.std.proofs.Common.{take, vec_items}
use Rattle.std.specs.Fmt.{HasWritten, IsPlainFormatter}
use Rattle.compare.specs.Lines.{difference_lines}
use Rattle.compare.proofs.report.ComparisonDisplay.fmt.Given as goal

abbrev pub invariant-loop-difference : goal.invariant-loop-difference
invariant-loop-difference g l =
    IsPlainFormatter l.initial.f → HasWritten g.W.Write.write_str_gives l.initial.f (difference_lines (take l.difference-index (vec_items l.self.differences))) l.f
