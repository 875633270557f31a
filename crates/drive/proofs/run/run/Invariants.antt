use Rattle.std.proofs.Common.{length, string_bytes}
use Rattle.script.specs.Pieces.{lines}
use Rattle.drive.proofs.Running.{Onward}
use Rattle.drive.proofs.run.run.Given as goal

abbrev pub invariant-loop-line : goal.invariant-loop-line
invariant-loop-line g l = Onward g.D.Reader g.D.Disk (lines l.script) l.initial.disk (string_bytes l.text) (lines l.rest) l.disk

abbrev pub decreases-loop-line : goal.decreases-loop-line
decreases-loop-line g l = length (lines l.rest)
