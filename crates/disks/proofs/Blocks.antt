-- Getting and putting blocks of bytes in a row.
use Rattle.std.proofs.Common.{◌≡◌, ℕ, ◌+◌, ◌-◌, ◌*◌, ◌<◌, ◌≤◌, Bool, cond, ltb, ◌≢◌, List, ◌++◌, length, take, drop, ap, ◌∙◌, inl, inr, arith}
use borrow.Rule.Slice.PartMut.{put_mid}
use Rattle.std.proofs.lemmas.List.{drop-drop, length-take-le, length-append, length-drop, take_at, drop_at}
use Rattle.std.proofs.lemmas.Slice.{between_is, take-put_mid_below, drop-put_mid}
use Rattle.std.proofs.lemmas.Bool.{cases_lt, lt-ltb, le-ltb}
use Rattle.disks.specs.Meaning.{Content}
use Rattle.disks.specs.Blocks.{whole_blocks, block_of, with_block, BlocksApart}

-- the way of a test on a block, below the size and past it
pub below : {X : Type 0} (k n : ℕ) (x y : X) → k < n → cond (ltb k n) x y ≡ x
below {X} k n x y h = ap (λ (t : Bool). cond {A = X} t x y) (lt-ltb k n h)

pub not_below : {X : Type 0} (k n : ℕ) (x y : X) → n ≤ k → cond (ltb k n) x y ≡ y
not_below {X} k n x y h = ap (λ (t : Bool). cond {A = X} t x y) (le-ltb k n h)

module _ (bytes : List ℕ) (k : ℕ) (b : Content) (within : 512 * k + 512 ≤ length bytes) (whole : length b ≡ 512) where
  -- what the code's copy into a part of a slice comes to
  with_is : with_block bytes k b ≡ put_mid (512 * k) 512 bytes b
  with_is = let d = drop-drop 512 (512 * k) bytes in cc

  there : block_of (with_block bytes k b) k ≡ b
  there =
      let t = length-take-le (512 * k) bytes (omega arith) in
      let d = drop_at (take (512 * k) bytes) (b ++ drop (512 * k + 512) bytes) (512 * k) t in
      ap (take 512) d ∙ take_at b (drop (512 * k + 512) bytes) 512 whole

  long : length (with_block bytes k b) ≡ length bytes
  long = simp (length-append, length-drop) (let t = length-take-le (512 * k) bytes (omega arith) in omega arith)

  past : (n : ℕ) → 512 * k + 512 ≤ n → drop n (with_block bytes k b) ≡ drop n bytes
  past n h = let t = drop-put_mid (512 * k) 512 bytes b n (omega arith) (omega arith) whole in let w = with_is in cc

  block_is : (m : List ℕ) (j : ℕ) → block_of m j ≡ drop (512 * j) (take (512 * j + 512) m)
  block_is m j = let s : 512 * j + 512 - 512 * j ≡ 512 = omega arith in let e = between_is m (512 * j) (512 * j + 512) in cc

  others : (j : ℕ) → j ≢ k → block_of (with_block bytes k b) j ≡ block_of bytes j
  others j ne = elim (cases_lt j k) [
    | inl l ↦
        (let t = take-put_mid_below (512 * k) 512 bytes b (512 * j + 512) (omega arith) (omega arith) in
        let w = with_is in
        let x = block_is (with_block bytes k b) j in
        let y = block_is bytes j in
        cc)
    | inr l ↦ ap (take 512) (past (512 * j) (omega arith))
  ]

pub blocks_apart : BlocksApart
blocks_apart bytes k b lt whole = record {
  there = there bytes k b (omega arith) whole;
  others = others bytes k b (omega arith) whole;
  long = long bytes k b (omega arith) whole;
  spare =
      let l = long bytes k b (omega arith) whole in
      let s : whole_blocks (with_block bytes k b) ≡ whole_blocks bytes = omega arith in
      ap (λ (n : ℕ). drop (512 * n) (with_block bytes k b)) s ∙ past bytes k b (omega arith) whole (512 * whole_blocks bytes) (omega arith);
}

-- the code's copy into a part of the bytes
pub copied_in : (bytes b part : List ℕ) (start k : ℕ) → start ≡ 512 * k → part ≡ b → k < whole_blocks bytes →
    put_mid start (start + 512 - start) bytes part ≡ cond (ltb k (whole_blocks bytes)) (with_block bytes k b) bytes
copied_in bytes b part start k e p lt =
    let s : start + 512 - start ≡ 512 = omega arith in
    let d = drop-drop 512 (512 * k) bytes in
    let t = below k (whole_blocks bytes) (with_block bytes k b) bytes lt in
    cc
