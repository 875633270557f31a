use Rattle.std.proofs.lemmas.Iterator.Adapters.{position_from-zero}
use Rattle.script.proofs.piece.find.Goals as goal

pub loop-i-init : goal.loop-i-init
loop-i-init c = position_from-zero _ c.args.text.now
