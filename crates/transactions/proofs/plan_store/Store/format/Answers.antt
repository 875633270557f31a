use Rattle.std.proofs.Common.{ap, sym, ◌∙◌, arith}
use Rattle.std.proofs.lemmas.Grind.{common_steps}
use Rattle.std.proofs.lemmas.Result.{err_from_is_err_and}
use Rattle.store.specs.Headers.{header_values}
use Rattle.store.specs.Layout.{HeaderValues}
use Rattle.disks.specs.Values.{refusal_values}
use Rattle.transactions.specs.Holding.{store_values}
use Rattle.transactions.proofs.Fair.{Lawful}
use Rattle.transactions.proofs.Tables.{ordered}
use Rattle.transactions.proofs.Ties.{formats_kept, formats_refused, made_fit, refused_work}
use Rattle.transactions.proofs.plan_store.Store.format.Given.{Over}
use Rattle.transactions.proofs.plan_store.Store.format.Goals as goal

laws : (g : Over) → Lawful g.D.Reader g.D.Disk
laws g = let d = g.met.D.Disk in record { proper = g.met.D.LawfulReader.proper; reading = g.met.D.LawfulReader.reading; writing = d.writing; flushing = d.flushing; restarting = d.restarting }

pub returns-in_err-answer-clause-steps : goal.returns-in_err-answer-clause-steps
returns-in_err-answer-clause-steps g c =
    let made = made_fit (g.D.Reader.view c.args.self.now.disk).size (header_values c.in-Some.header) (rw c.size.ensures at c.in-Some.ensures) in
    let n = ap (λ (h : HeaderValues). h.n) made.1 in
    let work = rw n at c.format_disk-work.ensures in
    let refused = refused_work _ _ _ c.answer.ensures.answer c.in_err-answer.was in
    let p = err_from_is_err_and c.from_residual.result c.from_residual.ensures.1 in
    rw (p.1, p.2, refused.2) (formats_refused g.D.Reader g.D.Disk (laws g) (store_values c.args.self.now) (store_values c.answer.new.self) (refusal_values refused.0) c.format_disk-work.new.disk (sym c.ticket_out.ensures ∙ c.if-ticket_out.false) made.0 (rw refused.1 at work) (rw refused.1 at c.answer.ensures.after))

pub returns-in_err-answer-clause-keeps : goal.returns-in_err-answer-clause-keeps
returns-in_err-answer-clause-keeps g c = formats_kept g.D.Reader g.D.Disk (laws g) _ _ _ (ordered c.answer.new.self) (returns-in_err-answer-clause-steps g c)

pub returns-clause-steps : goal.returns-clause-steps
returns-clause-steps g c = grind (arith, common_steps, made_fit (g.D.Reader.view c.args.self.now.disk).size (header_values c.in-Some.header))

pub returns-clause-keeps : goal.returns-clause-keeps
returns-clause-keeps g c = formats_kept g.D.Reader g.D.Disk (laws g) _ _ _ (ordered c.come_up.new.self) (returns-clause-steps g c)
