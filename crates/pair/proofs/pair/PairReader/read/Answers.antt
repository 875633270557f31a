use Rattle.std.proofs.Common.{rules}
use Rattle.disks.specs.Meaning.{Proper, shown}
use Rattle.pair.specs.Sides.{Sound, view_of}
use Rattle.pair.specs.Calls.{Reads}
use Rattle.pair.specs.Causes.{pair_proper}
use Rattle.pair.specs.Reading.{pair_reading}
use Rattle.pair.proofs.pair.PairReader.read.Given
use Rattle.pair.proofs.pair.PairReader.read.Goals as goal

proper : (g : Given.Over) (p : _) → Sound g.A.Reader g.B.Reader p → Proper (view_of g.A.Reader g.B.Reader p)
proper g = pair_proper g.A.Reader g.B.Reader g.met.A.LawfulReader.proper g.met.B.LawfulReader.proper

pub returns-then-block-size-clause-proper : goal.returns-then-block-size-clause-proper
returns-then-block-size-clause-proper g c snd = (proper g _ snd, proper g _ snd)

pub returns-in_err-answer-clause-proper : goal.returns-in_err-answer-clause-proper
returns-in_err-answer-clause-proper g c snd = (proper g _ snd, proper g _ snd)

pub returns : goal.returns
returns g c =
    let steps : Reads g.A.Reader g.B.Reader c.args.self.now c.args.block (shown c.read_living.result c.read_living.new.place) c.read_living.new.self = search rules in
    let means = pair_reading g.A.Reader g.B.Reader g.met.A.LawfulReader.reading g.met.B.LawfulReader.reading _ _ _ _ steps in
    record {
      steps = steps;
      means = means;
      place = c.read_living.ensures.place;
      proper = λ snd. (proper g _ snd, proper g c.read_living.new.self (means snd).0);
    }
