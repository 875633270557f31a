use Rattle.std.proofs.Common.{refl, ap, ◌∙◌, arith}
use Rattle.bench_disks.specs.Caches.{held as held_of}
use Rattle.bench_disks.specs.Waiting.{Held}
use Rattle.bench_disks.proofs.Cutting.{below_rest, stands, vanishes}
use Rattle.bench_disks.proofs.cache.calls.CacheHolding.cut.Goals as goal
use Rattle.bench_disks.proofs.cache.calls.CacheHolding.cut.Goals.{then-bits-eq1, else-bits-eq1}

pub invariant_of-self : goal.invariant_of-self
invariant_of-self c = record {
  few = omega arith;
  reserved = omega arith;
  placed = below_rest _ _ _ _ _ c.in-Some.ensures.items c.loop-write.self.placed c.write.ensures.size;
}

pub invariant_of-self-else-bits-eq1 : goal.invariant_of-self-else-bits-eq1
invariant_of-self-else-bits-eq1 c = record {
  few = omega arith;
  reserved = omega arith;
  placed = below_rest _ _ _ _ _ c.in-Some.ensures.items c.loop-write.self.placed refl;
}

pub loop-write-preserved : goal.loop-write-preserved
loop-write-preserved c =
    let before = held_of c.loop-write.self in
    elim c.if-bits-eq1.branch [
      | then-bits-eq1 w ↦ stands c.loop-write.bits before _ c.in-Some.write _ _ c.in-Some.ensures.items (ap held_of w.self-is) w.if-bits-eq1.true (ap (λ (h : Held). h.memory) w.write.ensures.after) ∙ c.loop-write.invariant
      | else-bits-eq1 w ↦ vanishes c.loop-write.bits before _ c.in-Some.write _ _ c.in-Some.ensures.items (ap held_of w.self-is) w.if-bits-eq1.false refl ∙ c.loop-write.invariant
    ]
