use Rattle.std.proofs.Common.{arith}
use Rattle.std.proofs.lemmas.Grind.{common_steps}
use Rattle.transactions.proofs.Fair.{Lawful}
use Rattle.transactions.proofs.Tables.{ordered}
use Rattle.transactions.proofs.Ties.{settles_kept}
use Rattle.transactions.proofs.plan_store.Store.settle.Given.{Over}
use Rattle.transactions.proofs.plan_store.Store.settle.Goals as goal

laws : (g : Over) → Lawful g.D.Reader g.D.Disk
laws g = let d = g.met.D.Disk in record { proper = g.met.D.LawfulReader.proper; reading = g.met.D.LawfulReader.reading; writing = d.writing; flushing = d.flushing; restarting = d.restarting }

pub returns-in_err-header-clause-keeps : goal.returns-in_err-header-clause-keeps
returns-in_err-header-clause-keeps g c = settles_kept g.D.Reader g.D.Disk (laws g) _ _ _ (ordered c.answer.new.self) (grind (arith, common_steps))

pub returns-clause-keeps : goal.returns-clause-keeps
returns-clause-keeps g c = settles_kept g.D.Reader g.D.Disk (laws g) _ _ _ (ordered c.come_up.new.self) (grind (arith, common_steps))
