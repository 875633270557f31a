use Rattle.std.proofs.Common.{rules, ◌==◌}
use Rattle.std.proofs.lemmas.Iterator.Adapters.{YieldsList-from_rev_slice}
use Rattle.std.proofs.lemmas.Iterator.Search.{find_from_yields_List}
use borrow.Author.Tests.{tests}
use Rattle.bench_disks.proofs.Newest.{newest_is}
use Rattle.bench_disks.proofs.cache.calls.last_to.Goals as goal

pub returns : goal.returns
returns c = λ standing. newest_is c.args.block c.args.writes.now c.find.result standing
    (find_from_yields_List (λ w. w.block == c.args.block) _ _ c.find.result c.find.ensures.ran (YieldsList-from_rev_slice c.args.writes.now (search rules)) (λ x b q k. search (rules, tests)))
