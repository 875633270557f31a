-- What the tests of unpack tell.
use Rattle.std.proofs.Common.{◌≡◌, ◌/◌, ◌%◌, ◌≤◌, true, [], ◌∷◌, length, get_or, take, drop, Some, None, Decides, sym, subst, inl, inr, arith}
use Rattle.std.specs.Prelude.{nat_eq, ◌==◌, ◌&&◌}
use Rattle.std.specs.List.{starts_with}
use Rattle.disks.specs.Meaning.{Content}
use Rattle.std.proofs.lemmas.List.{length-take}
use Rattle.std.proofs.lemmas.Bool.{cases_Bool, cond-true, cond-false, false_from_ne_true}
use Rattle.std.proofs.lemmas.Bool.Decides.{nat_tests}
use Rattle.store.specs.Layout.{HeaderValues, n_in, count_in, fields_in, all_zero, all_below, well_formed, unpacked}

-- the mark, as `starts_with` tests it
pub mark_is : (bs : Content) → 2 ≤ length bs → starts_with nat_eq bs (0xB1 ∷ 0x0C ∷ []) ≡ (get_or bs 0 0 == 0xB1 && get_or bs 1 0 == 0x0C)
mark_is [] long = absurd (omega arith)
mark_is (x ∷ []) long = absurd (omega arith)
mark_is (x ∷ y ∷ bs) long = grind (arith, nat_tests)

-- all that unpack tests
pub record WellFormed (bs : Content) : Type 0 where
  pub mark_high : get_or bs 0 0 ≡ 0xB1
  pub mark_low : get_or bs 1 0 ≡ 0x0C
  pub layout : get_or bs 2 0 / 16 ≡ 1
  pub few : count_in bs ≤ 32
  pub zero_bits : get_or bs 4 0 % 4 ≡ 0
  pub below : all_below (n_in bs) (take (count_in bs) (fields_in bs)) ≡ true
  pub blank : all_zero (drop (count_in bs) (fields_in bs)) ≡ true
  pub rest : all_zero (drop 53 bs) ≡ true

pub well_formed_tells : (bs : Content) → Decides (well_formed bs) (WellFormed bs)
unfolding well_formed
well_formed_tells bs = (λ e. search (arith, nat_tests), λ f. grind (arith, nat_tests))

-- the header that stands in the bytes, if they are well formed
abbrev pub header_in : Content → HeaderValues
header_in bs = record { n = n_in bs; log = take (count_in bs) (fields_in bs) }

pub accepted : (bs : Content) → WellFormed bs → unpacked bs ≡ Some (header_in bs)
unfolding unpacked
accepted bs f = cond-true (well_formed bs) _ _ ((well_formed_tells bs).1 f)

pub refused : (bs : Content) → (WellFormed bs → ⊥) → None ≡ unpacked bs
unfolding unpacked
refused bs never = sym (cond-false (well_formed bs) _ _ (false_from_ne_true (well_formed bs) (λ e. never ((well_formed_tells bs).0 e))))

pub unpacks : (bs : Content) (h : HeaderValues) → unpacked bs ≡ Some h → WellFormed bs × (header_in bs ≡ h)
unfolding unpacked
unpacks bs h e = elim (cases_Bool (well_formed bs)) [
  | inl t ↦ let f = (well_formed_tells bs).0 t in (f, cc (accepted bs f))
  | inr t ↦ absurd cc
]

-- the log of a header that was unpacked fits the slots
pub log_fits : (bs : Content) (h : HeaderValues) → unpacked bs ≡ Some h → length h.log ≤ 32
log_fits bs h e =
    let u = unpacks bs h e in
    let few = u.0.few in
    subst (λ (v : HeaderValues). length v.log ≤ 32) u.1 (simp length-take (omega arith))
