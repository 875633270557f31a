-- Lemmas: an image keeps the meaning of a reader.
use Rattle.std.proofs.Common.{◌≡◌, ℕ, ◌+◌, ◌*◌, ◌<◌, Bool, cond, get_or, List, length, drop, Ok, Err, sym, refl, ap, ◌∙◌, subst, arith, le-ltb, lt-ltb}
use native.Mathlib.Decide.{dec_lt}
use Rattle.std.proofs.lemmas.List.{length-take-le, length-drop, get_or-take, get_or-drop, get_or_past}
use Rattle.disks.specs.Values.{PastEnd}
use Rattle.disks.specs.Meaning.{View, Shown, Whole, Unchanged, ProperLaw, ReadLaw}
use Rattle.disks.specs.Blocks.{whole_blocks, block_of}
use Rattle.disks.specs.Images.{view_of, Sound, Reads}
use Rattle.disks.specs.declared.image.Image.{Image}

-- a view is unchanged by nothing
pub same : (v : View) → Unchanged v v
same v = record {
  kept = record { size = refl; height = refl };
  state = refl;
  faces = λ j lt. refl;
  gained = λ j b lt x. x;
  lost = λ j b lt x. x;
}

-- a block of bytes is whole
pub block_whole : (bytes : List ℕ) (k : ℕ) → ((j : ℕ) → get_or bytes j 0 < 256) → k < whole_blocks bytes → Whole (block_of bytes k)
block_whole bytes k fits lt = record { long = long; bytes = λ i. byte i (dec_lt i 512) }
  where
    long : length (block_of bytes k) ≡ 512
    long = length-take-le 512 (drop (512 * k) bytes) (rw length-drop (omega arith))

    byte : (i : ℕ) → Dec (i < 512) → get_or (block_of bytes k) i 0 < 256
    byte i (yes h) = rw (get_or-take 512 (drop (512 * k) bytes) i 0 h, get_or-drop (512 * k) bytes i 0) (fits (512 * k + i))
    byte i (no h) = let past = get_or_past (block_of bytes k) i 0 (let e = long in omega arith) in omega (arith, past)

pub image_proper : ProperLaw view_of Sound
image_proper s snd = record {
  size = omega arith;
  cause = tt;
  faces = λ j lt. block_whole s.bytes.now j snd lt;
  candidates = λ j b lt e. subst Whole (sym e) (block_whole s.bytes.now j snd lt);
}

-- the answer of a read within the size, and of one past it
abbrev answer : Image → ℕ → Bool → Shown
answer s k within = cond within (Ok (block_of s.bytes.now k)) (Err PastEnd)

pub image_reading : ReadLaw view_of Sound Reads
image_reading s t k x h snd = (
  subst Sound (sym h.0) snd,
  record {
    past = λ le. (h.1 ∙ ap (answer s k) (le-ltb k (whole_blocks s.bytes.now) le), u);
    off = λ lt o. absurd o;
    on = λ lt o. record {
      kept = u.kept;
      answer = h.1 ∙ ap (answer s k) (lt-ltb k (whole_blocks s.bytes.now) lt);
      faces = λ _. u.faces;
      gained = u.gained;
    };
  },
)
  where
    u : Unchanged (view_of s) (view_of t)
    u = subst (λ (i : Image). Unchanged (view_of s) (view_of i)) (sym h.0) (same (view_of s))
