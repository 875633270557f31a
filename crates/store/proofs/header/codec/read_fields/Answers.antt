use Rattle.std.proofs.Common.{◌≡◌, ℕ, ◌+◌, ◌-◌, ◌*◌, ◌/◌, List, [], length, take, drop, ap, ◌∙◌, arith}
use Rattle.std.specs.List.{flat_map}
use Rattle.std.proofs.lemmas.List.{length-take-le, length-drop, append-nil}
use Rattle.store.specs.Layout.{fields}
use Rattle.store.proofs.Groups.{fill_more, fields_chunks, all_filled}
use Rattle.store.proofs.header.codec.read_fields.Goals as goal

pub loop-g-preserved : goal.loop-g-preserved
loop-g-preserved c =
    let g = c.loop-g.g in
    fill_more fields [] c.as_chunks.result.0.now [] g (2 * g) _ (32 - 2 * g) (32 - 2 * (g + 1)) c.copy_from_slice.new.self c.loop-g.out c.loop-g.invariant c.loop-g-test.true
    (c.copy_from_slice.ensures.after ∙ c.unpack_pair.ensures) (omega arith) (omega arith) (omega arith)

pub returns : goal.returns
returns c =
    let ys : List ℕ = take 48 (drop 5 c.args.bytes.now) in
    let long : length ys ≡ 48 = length-take-le 48 (drop 5 c.args.bytes.now) (simp length-drop (omega arith)) in
    let chunks = ap (λ (xs : List (List ℕ)). flat_map fields xs) c.as_chunks.ensures.front ∙ fields_chunks (length ys / 3) ys (omega arith) in
    c.loop-g.invariant ∙ (all_filled fields [] c.as_chunks.result.0.now c.loop-g.g (32 - 2 * c.loop-g.g) 0 (fields ys) c.loop-g-test.false (omega arith) chunks ∙ append-nil (fields ys))
