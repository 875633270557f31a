use Rattle.std.proofs.Common.{arith}
use Rattle.bench_disks.proofs.Cutting.{below_rest}
use Rattle.bench_disks.proofs.cache.Cache.make_room.Goals as goal

pub invariant_of-self : goal.invariant_of-self
invariant_of-self c = record {
  few = omega arith;
  reserved = omega arith;
  placed = below_rest _ _ _ _ _ c.in-Some.ensures.items c.args.self.now.placed c.write.ensures.size;
}
