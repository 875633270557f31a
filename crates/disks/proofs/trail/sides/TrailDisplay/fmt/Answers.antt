use Rattle.std.proofs.Common.{rules, ◌≡◌, length}
use Rattle.std.proofs.Output.{has_written_of_eq}
use Rattle.disks.specs.Values.{numbers_of}
use Rattle.disks.proofs.Trails.{told}
use Rattle.disks.proofs.trail.sides.TrailDisplay.fmt.Goals as goal

pub returns-clause-writes : goal.returns-clause-writes
returns-clause-writes g c p k =
    let some : length (numbers_of c.args.self.now) ≡ 0 → ⊥ = search rules in
    has_written_of_eq _ _ _ _ _ (told (numbers_of c.args.self.now) c.numbers-side-items.result.now c.loop-side.side-index c.numbers-side-items.ensures c.loop-side-test.false some) (c.loop-side.invariant p)
