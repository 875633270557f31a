use Rattle.std.proofs.Common.{◌≡◌, sym, append-nil, arith}
use Rattle.std.proofs.lemmas.Result.{err_from_is_err_and}
use Rattle.compare.specs.Compares.{LooksMeant}
use Rattle.compare.proofs.Comparing.{compares_meant}
use Rattle.compare.proofs.Listing.{lists_exactly}
use Rattle.compare.proofs.Turns.{one_more, ends}
use Rattle.compare.proofs.comparison.compare.Goals as goal
use Rattle.compare.proofs.comparison.compare.Goals.{in-Some, in_default}

pub loop-address-preserved : goal.loop-address-preserved
loop-address-preserved g c =
    let more = one_more (LooksMeant g.A.Reader) (LooksMeant g.B.Reader) c.loop-address.address c.args.old.now _ c.args.new.now _ _ c.loop-address.invariant.2 in
    elim c.match-branch-2.branch [
      | in-Some w ↦
          let pushed = w.push_reserved.ensures in
          rw w.differences-is (omega (arith, pushed.len), omega (arith, pushed.capacity), more _ _ _ _ c.in_ok-difference.ensures (rw w.in-Some.is pushed.items))
      | in_default w ↦
          rw w.differences-is (omega arith, omega arith, more _ _ _ _ c.in_ok-difference.ensures (rw w.in_default.is (sym (append-nil _))))
    ]

pub returns : goal.returns
returns g c =
    let all : c.loop-address.address ≡ c.shared_addresses-compared.result = omega arith in
    let m = compares_meant g.A.Reader g.B.Reader c.args.old.now _ c.args.new.now _ _ _ _ _ c.size-old_size.ensures c.size-new_size.ensures
    c.shared_addresses-compared.ensures (rw (← all) c.loop-address.invariant.2) in
    record { steps = m.0; means = m.1; lists = lists_exactly; counts = (cc, cc) }

pub returns-in_err-difference : goal.returns-in_err-difference
returns-in_err-difference g c =
    let p = err_from_is_err_and c.from_residual.result c.from_residual.ensures.1 in
    let stopped = ends (LooksMeant g.A.Reader) (LooksMeant g.B.Reader) c.loop-address.address c.args.old.now _ c.args.new.now _ _ c.loop-address.invariant.2 c.shared_addresses-compared.result _ _ _ (omega arith) c.in_err-difference.ensures in
    let m = compares_meant g.A.Reader g.B.Reader c.args.old.now _ c.args.new.now _ _ _ _ _ c.size-old_size.ensures c.size-new_size.ensures
    c.shared_addresses-compared.ensures stopped in
    rw (p.1, p.2) (record { steps = m.0; means = m.1; lists = lists_exactly; counts = tt })
