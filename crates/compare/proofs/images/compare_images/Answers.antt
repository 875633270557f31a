use Rattle.compare.proofs.images.compare_images.Goals as goal

pub returns : goal.returns
returns c =
    let m = c.compare.ensures.means c.new-old_image.ensures.sound c.new-new_image.ensures.sound in
    rw (← c.new-old_image.ensures.bytes, ← c.new-new_image.ensures.bytes) (record { answer = m.2.answer; counts = c.compare.ensures.counts })
