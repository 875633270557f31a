use Rattle.std.proofs.Common.{rules, sym, ap, ◌∙◌, arith}
use Rattle.disks.specs.Values.{cause_values}
use Rattle.bench_disks.specs.Disks.{bench_of}
use Rattle.bench_disks.specs.Keeping.{bench_proper, read_law}
use Rattle.bench_disks.specs.Waiting.{size_of}
use Rattle.bench_disks.proofs.Reading.{same_if_ok}
use Rattle.bench_disks.proofs.disk.BenchDiskReader.read.Goals as goal

pub face-requires : goal.face-requires
face-requires g c =
    let d = bench_of g.H.Holding.held c.args.self.now in
    let e = bench_of g.H.Holding.held c.call-answer.new.self in
    let h = same_if_ok d e (cause_values c.from.result) c.call-answer.result (c.call-answer.ensures (λ h. h) (λ after r. search rules)) (sym c.is_ok.ensures.value ∙ c.if-is_ok.true) in
    omega (arith, ap size_of h)

pub returns-then-block-size-clause-proper : goal.returns-then-block-size-clause-proper
returns-then-block-size-clause-proper g c = λ snd. (bench_proper _ snd, bench_proper _ snd)

pub returns-then-is_ok-clause-means : goal.returns-then-is_ok-clause-means
returns-then-is_ok-clause-means g c = λ snd. read_law _ _ snd _ _ (search rules)

pub returns-then-is_ok-clause-proper : goal.returns-then-is_ok-clause-proper
returns-then-is_ok-clause-proper g c = λ snd. (bench_proper _ snd, bench_proper _ (returns-then-is_ok-clause-means g c snd).0)

pub returns-else-is_ok-clause-means : goal.returns-else-is_ok-clause-means
returns-else-is_ok-clause-means g c = λ snd. read_law _ _ snd _ _ (search rules)

pub returns-else-is_ok-clause-proper : goal.returns-else-is_ok-clause-proper
returns-else-is_ok-clause-proper g c = λ snd. (bench_proper _ snd, bench_proper _ (returns-else-is_ok-clause-means g c snd).0)
