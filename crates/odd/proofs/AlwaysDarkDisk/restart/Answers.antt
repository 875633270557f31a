use Rattle.odd.specs.Keeping.{gives, restart_law}
use Rattle.odd.proofs.AlwaysDarkDisk.restart.Goals as goal

pub returns : goal.returns
returns c =
    let g = gives _ _ _ c.refuse.ensures in
    record { steps = g; means = λ snd. restart_law _ _ snd _ g }
