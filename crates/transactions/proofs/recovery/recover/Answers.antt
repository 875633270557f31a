use Rattle.std.proofs.Common.{Ok, Err, refl, ap, ◌∙◌, sym, subst}
use Rattle.std.proofs.lemmas.Result.{err_from_is_err_and}
use Rattle.store.specs.Headers.{header_values}
use Rattle.transactions.specs.DiskWork.{RecoversAt}
use Rattle.transactions.specs.Recovery.{recovered}
use Rattle.transactions.proofs.recovery.recover.Goals as goal

pub returns : goal.returns
returns g c =
    let r = c.in_ok-header.ensures in
    (Ok tt, c.restart.new.self, c.in_ok-restart.ensures.steps, (Ok (header_values c.in_ok-header.header), c.read_header.new.reader, (r.0, r.1.0, r.2), (Ok tt, c.in_ok-settle_log.ensures.steps, ap (λ h. Ok h) c.in_ok-settle_log.ensures.settled)))

pub returns-in_err-header : goal.returns-in_err-header
returns-in_err-header g c =
    let r = c.in_err-header.ensures in
    let p = err_from_is_err_and c.from_residual-in_err-header.result c.from_residual-in_err-header.ensures.1 in
    subst (λ x. RecoversAt g.D.Reader g.D.Disk c.args.n c.args.disk.now (recovered x) c.read_header.new.reader) (sym p.1)
    (Ok tt, c.restart.new.self, c.in_ok-restart.ensures.steps, (Err _, c.read_header.new.reader, (r.0, r.1.0, r.2), (ap (λ y. Err y) p.2, refl)))

pub returns-in_err-settle_log : goal.returns-in_err-settle_log
returns-in_err-settle_log g c =
    let r = c.in_ok-header.ensures in
    let p = err_from_is_err_and c.from_residual-in_err-settle_log.result c.from_residual-in_err-settle_log.ensures.1 in
    subst (λ x. RecoversAt g.D.Reader g.D.Disk c.args.n c.args.disk.now (recovered x) c.settle_log.new.disk) (sym (p.1 ∙ ap (λ e. Err e) p.2))
    (Ok tt, c.restart.new.self, c.in_ok-restart.ensures.steps, (Ok (header_values c.in_ok-header.header), c.read_header.new.reader, (r.0, r.1.0, r.2), (Err _, c.in_err-settle_log.ensures.steps, refl)))
