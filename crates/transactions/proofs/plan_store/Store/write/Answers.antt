use Rattle.std.proofs.Common.{arith}
use Rattle.std.proofs.lemmas.Grind.{common_steps}
use Rattle.transactions.specs.Holding.{store_values}
use Rattle.transactions.proofs.Tables.{ordered}
use Rattle.transactions.proofs.Ties.{writes_kept}
use Rattle.transactions.proofs.plan_store.Store.write.Goals as goal

pub returns-clause-keeps : goal.returns-clause-keeps
returns-clause-keeps g c =
    let d = g.met.D.Disk in
    writes_kept g.D.Reader g.D.Disk (record { proper = g.met.D.LawfulReader.proper; reading = g.met.D.LawfulReader.reading; writing = d.writing; flushing = d.flushing; restarting = d.restarting })
    (store_values c.args.self.now) (store_values c.answer.new.self) c.args.address c.args.content.now _ (record { long = c.told-content; bytes = c.fits-content }) (ordered c.answer.new.self) (grind (arith, common_steps))
