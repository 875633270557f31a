use Rattle.disks.specs.ImageLaws.{image_proper}
use Rattle.disks.proofs.image.ImageReader.read.Goals as goal

pub returns-then-block-count_blocks-clause-proper : goal.returns-then-block-count_blocks-clause-proper
returns-then-block-count_blocks-clause-proper c snd = (image_proper c.args.self.now snd, image_proper c.args.self.now snd)

pub returns-clause-proper : goal.returns-clause-proper
returns-clause-proper c snd = (image_proper c.args.self.now snd, image_proper c.args.self.now snd)
