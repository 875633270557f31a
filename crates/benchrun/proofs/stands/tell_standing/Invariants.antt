use Rattle.std.proofs.Common.{◌≡◌, ◌++◌, string_bytes, codes}
use Rattle.benchrun.specs.Output.{first_bytes}
use Rattle.benchrun.proofs.stands.tell_standing.Given as goal

abbrev pub invariant-loop-block : goal.invariant-loop-block
invariant-loop-block l = string_bytes l.text ≡ codes "stands" ++ first_bytes l.block l.memory
