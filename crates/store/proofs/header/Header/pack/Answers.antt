use Rattle.std.proofs.Common.{◌≡◌, ℕ, ◌+◌, ◌-◌, ◌*◌, ◌/◌, ◌<◌, ◌≤◌, List, [], length, get_or, ap, ◌∙◌, arith}
use Rattle.std.specs.List.{flat_map}
use Rattle.std.specs.Simd.{first_chunks}
use Rattle.store.specs.Layout.{HeaderValues, filled, front, pairs, packed, unpacked}
use Rattle.store.specs.Bits.{bits}
use Rattle.store.specs.LogValues.{log_of}
use Rattle.store.specs.Headers.{header_values}
use Rattle.store.proofs.Bits.{packed_bits}
use Rattle.store.proofs.Groups.{filling, fill_more, chunks_below, pairs_chunks, all_filled}
use Rattle.store.proofs.Fields.{filled_long, filled_small}
use Rattle.store.proofs.Round.{there, packed_examples}
use Rattle.store.proofs.header.Header.pack.Goals as goal

pub pack_pair-requires : goal.pack_pair-requires
pack_pair-requires c i =
    let h = c.args.self.now in
    let small : (j : ℕ) → get_or c.fields.result.now j 0 < 4096 = λ j. rw c.fields.ensures (filled_small (header_values h) h.in_range j) in
    rw c.as_chunks.ensures.front (chunks_below 2 _ 4096 c.fields.result.now small c.loop-g.g i)

pub loop-g-preserved : goal.loop-g-preserved
loop-g-preserved c =
    let g = c.loop-g.g in
    let h = c.args.self.now in
    fill_more pairs (front h.n (length (log_of h.log))) c.as_chunks.result.0.now [] g (5 + 3 * g) _ (507 - 3 * g) (507 - 3 * (g + 1)) c.copy_from_slice-in-loop-g.new.self c.loop-g.out c.loop-g.invariant c.loop-g-test.true
    (c.copy_from_slice-in-loop-g.ensures.after ∙ c.pack_pair.ensures) (omega arith) (omega arith) (omega arith)

-- the loop's end is the packed header
end : (h : HeaderValues) → length h.log ≤ 32 → (fields out : List ℕ) (chunks : List (List ℕ)) (g : ℕ) → fields ≡ filled h.log → chunks ≡ first_chunks 2 (length fields / 2) fields → length chunks ≡ length fields / 2 →
    length chunks ≤ g → g ≤ length chunks → out ≡ filling pairs (front h.n (length h.log)) chunks g (507 - 3 * g) → out ≡ packed h
unfolding packed
end h few fields out chunks g is cut count all most out_is =
    let long : length fields ≡ 32 = ap (λ (xs : List ℕ). length xs) is ∙ filled_long h.log few in
    let given = ap (λ (xs : List (List ℕ)). flat_map pairs xs) cut ∙ (pairs_chunks (length fields / 2) fields (omega arith) ∙ ap pairs is) in
    out_is ∙ all_filled pairs (front h.n (length h.log)) chunks g (507 - 3 * g) 459 (pairs (filled h.log)) all (omega arith) given

pub returns : goal.returns
returns c =
    let h = c.args.self.now in
    let value : c.loop-g.out ≡ packed (header_values h) =
    end (header_values h) h.in_range.few c.fields.result.now c.loop-g.out c.as_chunks.result.0.now c.loop-g.g c.fields.ensures c.as_chunks.ensures.front c.as_chunks.ensures.front_len
    c.loop-g-test.false c.loop-g.auto.g-end c.loop-g.invariant in
    record {
      value = value;
      back = ap unpacked value ∙ there (header_values h) h.in_range;
      layout = ap bits value ∙ packed_bits (header_values h) h.in_range;
      examples = packed_examples;
    }
