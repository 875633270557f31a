use Rattle.std.proofs.Common.{rules}
use Rattle.pair.specs.Passing.{call_of}
use Rattle.pair.proofs.pair.calls.call_living.Goals as goal

pub returns-in_default : goal.returns-in_default
returns-in_default g c = let called = call_of g.F.FnOnce c.args.call _ _ c.call.result c.call.ensures in search rules
