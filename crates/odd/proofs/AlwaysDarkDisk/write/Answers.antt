use Rattle.odd.specs.Keeping.{gives, at_block}
use Rattle.odd.proofs.AlwaysDarkDisk.write.Goals as goal

pub returns : goal.returns
returns c =
    let g = gives _ _ _ c.refuse_at.ensures in
    record { steps = g; means = λ snd. at_block _ _ snd _ _ _ _ g }
