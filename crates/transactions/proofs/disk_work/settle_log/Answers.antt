use Rattle.std.proofs.Common.{◌<◌, length, arith, rules}
use Rattle.std.proofs.lemmas.Bool.Decides.{nat_tests}
use Rattle.store.specs.Headers.{header_values}
use Rattle.transactions.proofs.Copying.{settles}
use Rattle.transactions.proofs.disk_work.settle_log.Goals as goal

pub returns-clause-steps : goal.returns-clause-steps
returns-clause-steps g c =
    let some : 0 < length (header_values c.args.header.now).log = grind (arith, nat_tests) in
    settles g.D.Reader g.D.Disk _ _ _ _ _ some (search rules)

pub returns-in_err-put_header-clause-steps : goal.returns-in_err-put_header-clause-steps
returns-in_err-put_header-clause-steps g c =
    let some : 0 < length (header_values c.args.header.now).log = grind (arith, nat_tests) in
    settles g.D.Reader g.D.Disk _ _ _ _ _ some (search rules)
