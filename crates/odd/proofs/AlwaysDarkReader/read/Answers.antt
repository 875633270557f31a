use Rattle.std.proofs.Common.{replicate, refl}
use Rattle.odd.specs.Keeping.{gives, dark_proper, at_block}
use Rattle.odd.proofs.AlwaysDarkReader.read.Goals as goal

pub returns : goal.returns
returns c =
    let g = gives _ _ _ c.refuse_at.ensures in
    record {
      steps = g;
      means = λ snd. at_block _ _ snd _ _ _ _ g;
      place = refl;
      proper = λ snd. (dark_proper c.args.self.now snd, dark_proper c.refuse_at.new.self (at_block c.args.self.now _ snd _ (replicate 512 0) _ Unit g).0);
    }
