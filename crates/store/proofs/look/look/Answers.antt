use Rattle.std.proofs.Common.{◌≡◌, ℕ, ◌+◌, Err, refl, ◌∙◌, arith}
use Rattle.std.proofs.lemmas.Result.{err_from_is_err_and}
use Rattle.disks.specs.Values.{PastEnd}
use Rattle.disks.specs.Meaning.{Content, Means}
use Rattle.disks.specs.declared.reader.Reader
use Rattle.store.specs.Headers.{header_values}
use Rattle.store.specs.LookValues.{LookAnswer, Disk}
use Rattle.store.specs.Looks.{Looks, LookMeans, met}
use Rattle.store.proofs.Looking.{looks_refused, looks_past, looks_read, look_steps, look_means, look_inside}
use Rattle.store.proofs.look.look.Goals as goal

-- an end of look, by its steps and what it leaves in the place
end : {S : Type 0} (R : Reader.Ghosts S) (s t : S) (a : ℕ) (x : LookAnswer Content) (P : Type 0) → Looks (met R) s a x t → P →
    record { steps : Looks R s a x t; means : Means R.view R.sound s t (λ v w. LookMeans v a x w); place : P; inside : R.sound s → x ≡ Err (Disk PastEnd) → ⊥ }
end R s t a x P l p = record { steps = look_steps R s t a x l; means = look_means R s t a x l; place = p; inside = look_inside R s t a x l }

pub returns-in_err-header : goal.returns-in_err-header
returns-in_err-header g c =
    let R = met g.R.Reader in
    let p = err_from_is_err_and c.from_residual-in_err-header.result c.from_residual-in_err-header.ensures.1 in
    let steps = looks_refused R c.args.reader.now _ _ c.args.address c.in_ok-n.n (grind arith) _ c.in_err-header.ensures refl in
    rw (p.1, p.2) (end g.R.Reader _ _ _ _ _ steps refl)

pub returns-then-address-n : goal.returns-then-address-n
returns-then-address-n g c =
    let R = met g.R.Reader in
    let steps = looks_past R c.args.reader.now _ _ c.args.address c.in_ok-n.n (grind arith) (header_values c.in_ok-header.header) c.in_ok-header.ensures c.if-address-n.true refl in
    end g.R.Reader _ _ _ _ _ steps refl

pub returns-in_err-read : goal.returns-in_err-read
returns-in_err-read g c =
    let R = met g.R.Reader in
    let p = err_from_is_err_and c.from_residual-in_err-read.result c.from_residual-in_err-read.ensures.1 in
    let at = c.unwrap_or-block.ensures ∙ c.slot_of.ensures.value (33 + c.args.address) in
    let steps = looks_read R c.args.reader.now _ _ c.args.address c.in_ok-n.n (grind arith) (header_values c.in_ok-header.header) c.unwrap_or-block.result _ c.in_ok-header.ensures c.if-address-n.false at
    (c.in_err-read.ensures.steps, c.in_err-read.ensures.means) in
    rw (p.1, p.2) (end g.R.Reader _ _ _ _ _ steps c.in_err-read.ensures.place)

pub returns : goal.returns
returns g c =
    let R = met g.R.Reader in
    let at = c.unwrap_or-block.ensures ∙ c.slot_of.ensures.value (33 + c.args.address) in
    let steps = looks_read R c.args.reader.now _ _ c.args.address c.in_ok-n.n (grind arith) (header_values c.in_ok-header.header) c.unwrap_or-block.result _ c.in_ok-header.ensures c.if-address-n.false at
    (c.in_ok-read.ensures.steps, c.in_ok-read.ensures.means) in
    end g.R.Reader _ _ _ _ _ steps tt
