use Rattle.std.proofs.Common.{◌≡◌, ◌-◌, ◌*◌, []}
use Rattle.store.specs.Layout.{fields}
use Rattle.store.proofs.Groups.{filling}
use Rattle.store.proofs.header.codec.read_fields.Given as goal

abbrev pub invariant-loop-g : goal.invariant-loop-g
invariant-loop-g l = l.out ≡ filling fields [] l.triples l.g (32 - 2 * l.g)
