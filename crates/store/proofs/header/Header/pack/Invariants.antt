use Rattle.std.proofs.Common.{◌≡◌, ◌-◌, ◌*◌, length}
use Rattle.store.specs.Layout.{front, pairs}
use Rattle.store.specs.LogValues.{log_of}
use Rattle.store.proofs.Groups.{filling}
use Rattle.store.proofs.header.Header.pack.Given as goal

abbrev pub invariant-loop-g : goal.invariant-loop-g
invariant-loop-g l = l.out ≡ filling pairs (front l.self.n (length (log_of l.self.log))) l.pairs l.g (507 - 3 * l.g)
