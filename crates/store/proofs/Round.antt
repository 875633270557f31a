-- A header packed and unpacked, there and back.
use Rattle.std.proofs.Common.{◌≡◌, ℕ, ◌+◌, ◌-◌, ◌*◌, ◌/◌, ◌%◌, ◌<◌, length, get_or, take, drop, replicate, Some, sym, refl, ap, ◌∙◌, subst, inl, inr, arith}
use Rattle.disks.specs.Meaning.{Content, Whole}
use Rattle.std.specs.List.{AllByRecursion}
use Rattle.std.proofs.ByRecursion.{All-get_or, All-from_get_or, All-append}
use Rattle.std.proofs.lemmas.List.{length-append, length-replicate, length-take-le, length-drop, get_or-replicate, get_or-drop, get_or-take, get_or_past, take_at, drop_at, drop-drop, take-append-drop}
use Rattle.std.proofs.lemmas.Bool.{cases_lt}
use Rattle.store.specs.Layout.{HeaderValues, InRange, filled, pairs, fields, packed, n_in, count_in, fields_in, all_zero, well_formed, unpacked, OnlyPacking, PackedExamples, UnpackedExamples}
use Rattle.store.specs.Bits.{bits, WellFormedExactly}
use Rattle.store.proofs.Bits.{packed_bits, bits_one_to_one}
use Rattle.store.proofs.Fields.{length_pairs, length_fields, fields_pairs, pairs_fields, pairs_bytes, filled_long, filled_small, run_is, below_tells, zeros, zero_replicate, filled_log}
use Rattle.store.proofs.Tests.{WellFormed, header_in, accepted, unpacks}

pub packed_examples : PackedExamples
unfolding packed pairs
packed_examples = (refl, refl)

pub unpacked_examples : UnpackedExamples
unfolding unpacked well_formed fields
unpacked_examples = (refl, refl, refl, refl)

-- a header in its ranges
module _ (h : HeaderValues) (k : InRange h) where
  length_filled : length (filled h.log) ≡ 32
  length_filled = filled_long h.log k.few

  small : AllByRecursion (λ x. x < 4096) (filled h.log)
  small = All-from_get_or _ _ 0 (λ i l. filled_small h k i)

  long : length (pairs (filled h.log)) ≡ 48
  long = length_pairs 16 (filled h.log) length_filled

  bytes : AllByRecursion (λ b. b < 256) (packed h)
  unfolding packed
  bytes =
      let rest = All-from_get_or (λ b. b < 256) (replicate 459 0) 0 (λ i l. omega (arith, get_or-replicate {A = ℕ} 459 i 0 0 l)) in
      (omega arith, (omega arith, (omega arith, (omega arith, (omega arith, All-append _ _ _ (pairs_bytes (filled h.log) small) rest)))))

  length_packed : length (packed h) ≡ 512
  unfolding packed
  length_packed = simp (length-append, length-replicate) (let l = long in omega arith)

  pub packed_whole : Whole (packed h)
  packed_whole =
      let e = length_packed in
      record { long = e; bytes = λ i. elim (cases_lt i 512) [ inl lt ↦ All-get_or _ (packed h) i 0 (omega arith) bytes | inr le ↦ omega (arith, get_or_past (packed h) i 0 (omega arith)) ] }

  n_back : n_in (packed h) ≡ h.n
  unfolding packed
  n_back = omega arith

  count_back : count_in (packed h) ≡ length h.log
  unfolding packed
  count_back = omega arith

  fields_back : fields_in (packed h) ≡ filled h.log
  unfolding packed
  fields_back = ap fields (take_at (pairs (filled h.log)) (replicate 459 0) 48 long) ∙ fields_pairs 16 (filled h.log) length_filled small

  packed_well_formed : WellFormed (packed h)
  unfolding packed
  packed_well_formed = record {
    mark_high = refl;
    mark_low = refl;
    layout = omega arith;
    few = omega arith;
    zero_bits = omega arith;
    below = cc (n_back, count_back, fields_back, take_at h.log (replicate (32 - length h.log) 0) _ refl, (below_tells h.n h.log).1 k.below);
    blank = cc (count_back, fields_back, drop_at h.log (replicate (32 - length h.log) 0) _ refl, zero_replicate (32 - length h.log));
    rest = ap all_zero (drop_at (pairs (filled h.log)) (replicate 459 0) 48 long);
  }

  pub there : unpacked (packed h) ≡ Some h
  there =
      let log_back = take_at h.log (replicate (32 - length h.log) 0) _ refl in
      let told : unpacked (packed h) ≡ Some (record { n = h.n; log = h.log }) = cc (accepted (packed h) packed_well_formed, n_back, count_back, fields_back) in
      told

-- bytes of a block
module _ (bs : Content) (w : Whole bs) where
  length_in : length (take 48 (drop 5 bs)) ≡ 48
  length_in = length-take-le 48 (drop 5 bs) (simp length-drop (let e = w.long in omega arith))

  length_fields_in : length (fields_in bs) ≡ 32
  length_fields_in = length_fields 16 (take 48 (drop 5 bs)) length_in

  pairs_in : pairs (fields_in bs) ≡ take 48 (drop 5 bs)
  pairs_in =
      pairs_fields 16 (take 48 (drop 5 bs)) length_in
      (All-from_get_or _ _ 0 (λ i l. let lt : i < 48 = omega (arith, length_in) in rw (get_or-take, get_or-drop) (w.bytes (5 + i))))

  -- well-formed ones
  module _ (f : WellFormed bs) where
    long_log : length (take (count_in bs) (fields_in bs)) ≡ count_in bs
    long_log = length-take-le (count_in bs) (fields_in bs) (omega (arith, length_fields_in, f.few))

    in_range : InRange (header_in bs)
    in_range = record {
      some = omega arith;
      most = omega (arith, w.bytes 3);
      few = omega (arith, long_log, f.few);
      below = (below_tells (n_in bs) (take (count_in bs) (fields_in bs))).0 f.below;
    }

    as_packed : bs ≡ packed (header_in bs)
    unfolding packed
    as_packed =
        let first = run_is 5 0 bs (let e = w.long in omega arith) in
        let high : 16 + (n_in bs - 1) / 256 ≡ get_or bs 2 0 = omega (arith, w.bytes 3) in
        let low : (n_in bs - 1) % 256 ≡ get_or bs 3 0 = omega (arith, w.bytes 3) in
        let count : length (take (count_in bs) (fields_in bs)) * 4 ≡ get_or bs 4 0 = omega (arith, long_log) in
        let named = filled_log (count_in bs) (fields_in bs) length_fields_in f.few f.blank in
        let rest = zeros (drop 53 bs) f.rest in
        let long : length (drop 53 bs) ≡ 459 = simp length-drop (let e = w.long in omega arith) in
        cc (take-append-drop 5 bs, take-append-drop 48 (drop 5 bs), drop-drop 48 5 bs, pairs_in)

  pub only : OnlyPacking bs
  only h e =
      let u = unpacks bs h e in
      subst (λ (v : HeaderValues). InRange v × (bs ≡ packed v)) u.1 (in_range u.0, as_packed u.0)

  pub exactly : WellFormedExactly bs
  exactly h = (
    λ e. let o = only h e in (o.0, ap bits o.1 ∙ packed_bits h o.0),
    λ k e. let p = packed_whole h k in ap unpacked (bits_one_to_one bs (packed h) (w.long ∙ sym p.long) w.bytes p.bytes (e ∙ sym (packed_bits h k))) ∙ there h k,
  )
