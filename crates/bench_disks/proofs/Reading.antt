-- A read that is done found what is held as it was.
use Rattle.std.proofs.Common.{◌≡◌, true, Ok, Err, Result, ap, ◌∙◌, refl}
use Rattle.std.specs.Prelude.{is_ok}
use Rattle.disks.specs.Values.{CauseValues, StateValues, On, Dark, Dead, Answer, answer_values, answer_by}
use Rattle.disks.specs.declared.refusal.Refusal.{Refusal}
use Rattle.bench_disks.specs.Calls.{Bench, called, answered}
use Rattle.bench_disks.specs.Keeping.{done}

on_if_done : (s : StateValues) (r : Result Unit Refusal) (u : Unit) → answer_values r ≡ answer_by tt s → r ≡ Ok u → s ≡ On
on_if_done On r u e f = refl
on_if_done (Dark b) r u e f = let z = ap answer_values f in cc
on_if_done (Dead b) r u e f = let z = ap answer_values f in cc

pub same_if_done : (d e : Bench) (c : CauseValues) (r : Result Unit Refusal) (u : Unit) → ◌≡◌ {A = Answer Unit × Bench} (answer_values r, e) (answered tt (called c (λ h. h) d)) → r ≡ Ok u → e.held ≡ d.held
same_if_done d e c r u q f =
    ap (λ (x : Answer Unit × Bench). x.1.held) q ∙ done c (λ h. h) d (on_if_done (called c (λ h. h) d).state r u (ap (λ (x : Answer Unit × Bench). x.0) q) f)

pub same_if_ok : (d e : Bench) (c : CauseValues) (r : Result Unit Refusal) → ◌≡◌ {A = Answer Unit × Bench} (answer_values r, e) (answered tt (called c (λ h. h) d)) → is_ok r ≡ true → e.held ≡ d.held
same_if_ok d e c (Ok u) q f = same_if_done d e c (Ok u) u q refl
same_if_ok d e c (Err x) q f = cc
