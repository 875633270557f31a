use Rattle.odd.specs.Keeping.{gives, barrier_law}
use Rattle.odd.proofs.AlwaysDarkDisk.barrier.Goals as goal

pub returns : goal.returns
returns c =
    let g = gives _ _ _ c.refuse.ensures in
    record { steps = g; means = λ snd. barrier_law _ _ snd _ g }
