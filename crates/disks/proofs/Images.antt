-- What an image's making owes.
use Rattle.std.proofs.Common.{refl}
use Rattle.disks.specs.Images.{KeepsMeaning}
use Rattle.disks.specs.ImageLaws.{image_proper, image_reading}

pub image_keeps : KeepsMeaning
image_keeps = record { proper = image_proper; reading = image_reading; stand = λ i j lt. refl; settled = λ i j b lt e. e }
