use Rattle.std.proofs.Common.{sym}
use Rattle.benchrun.proofs.input.run_on_pair.Goals as goal

pub returns : goal.returns
returns c = record {
  side0 = c.in_ok-side0.side0;
  side1 = c.in_ok-side1.side1;
  before = c.in-Ok.pair;
  after = c.run.new.disk;
  whole = c.in_ok-text.field-0.whole;
  new0 = c.in_ok-side0.ensures;
  new1 = c.in_ok-side1.ensures;
  paired = sym c.in-Ok.ensures.value;
  runs = c.in_ok-text.ensures;
}
