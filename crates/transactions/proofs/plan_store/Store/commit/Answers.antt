use Rattle.std.proofs.Common.{arith}
use Rattle.std.proofs.lemmas.Grind.{common_steps}
use Rattle.std.proofs.lemmas.List.{take_all, length-drop}
use Rattle.transactions.specs.Holding.{store_values}
use Rattle.transactions.proofs.Tables.{table_parts, ordered}
use Rattle.transactions.proofs.Ties.{commits_kept}
use Rattle.transactions.proofs.plan_store.Store.commit.Goals as goal

pub returns-clause-steps : goal.returns-clause-steps
returns-clause-steps g c = grind (arith, common_steps, table_parts c.args.self.now, take_all, length-drop)

pub returns-clause-keeps : goal.returns-clause-keeps
returns-clause-keeps g c =
    let d = g.met.D.Disk in
    commits_kept g.D.Reader g.D.Disk (record { proper = g.met.D.LawfulReader.proper; reading = g.met.D.LawfulReader.reading; writing = d.writing; flushing = d.flushing; restarting = d.restarting }) (store_values c.args.self.now) (store_values c.answer.new.self) _ (ordered c.answer.new.self) (returns-clause-steps g c)
