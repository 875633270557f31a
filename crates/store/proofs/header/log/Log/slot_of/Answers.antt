use Rattle.std.proofs.Common.{◌≡◌, ◌-◌, length, get_or, sym, arith}
use Rattle.std.proofs.lemmas.Grind.{common_steps}
use Rattle.store.specs.LogValues.{log_of}
use Rattle.store.proofs.Newest.{newest_none, newest_some}
use Rattle.store.proofs.header.log.Log.slot_of.Goals as goal

pub returns-in-empty-clause-value : goal.returns-in-empty-clause-value
returns-in-empty-clause-value c d = sym (newest_none 1 (log_of c.args.self.now) c.args.address d (λ i lt. grind (arith, common_steps, c.loop-log.invariant.passed i)))

pub returns-in-len1-up-clause-value : goal.returns-in-len1-up-clause-value
returns-in-len1-up-clause-value c d =
    let k = length c.loop-log.log.now in
    let last : get_or (log_of c.args.self.now) (k - 1) 0 ≡ c.args.address = grind (arith, common_steps) in
    let newest = newest_some 1 (log_of c.args.self.now) c.args.address d (k - 1) (grind arith) last (λ j lt within. grind (arith, common_steps, c.loop-log.invariant.passed j)) in
    omega arith
