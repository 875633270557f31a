-- Lemmas: what standing, waiting and cutting do to faces and candidates.
use Rattle.std.specs.Prelude.{◌≡◌, ℕ, zero, suc, ◌+◌, ◌*◌, ◌/◌, ◌%◌, ◌^◌, ◌<◌, min, Bool, true, false, cond, ◌⊎◌, List, [], ◌∷◌, ◌++◌, length, take, drop, ◌==◌, ◌≢◌, nat_lt, slice_index, refl}
use Rattle.std.proofs.Common.{sym, ap, subst, ◌∙◌, inl, inr, arith}
use Rattle.std.proofs.lemmas.List.{get_or-drop}
use Rattle.std.proofs.lemmas.Bool.{cases_eq, eq-eqb, ne_eqb, eqb-true}
use Rattle.disks.specs.Meaning.{Content, Whole}
use Rattle.disks.specs.Blocks.{whole_blocks, block_of, with_block, spare}
use Rattle.disks.proofs.Blocks.{blocks_apart}
use Rattle.bench_disks.specs.declared.waiting.WaitingWrite.{WaitingWrite}
use Rattle.bench_disks.specs.Waiting.{Held, size_of, stand, chosen, newest, Waits, face_of, Candidate, put, oldest_stands, room, queue, flush, cut}
use Rattle.bench_disks.specs.Views.{WholeWrites, SoundHeld}

-- bytes stay bytes
abbrev Bytes : List ℕ → Type 0
Bytes xs = (j : ℕ) → slice_index xs j < 256

bytes_append : (xs ys : List ℕ) → Bytes xs → Bytes ys → Bytes (xs ++ ys)
bytes_append [] ys p q j = q j
bytes_append (x ∷ xs) ys p q zero = p 0
bytes_append (x ∷ xs) ys p q (suc j) = bytes_append xs ys (λ i. p (suc i)) q j

bytes_take : (n : ℕ) (xs : List ℕ) → Bytes xs → Bytes (take n xs)
bytes_take zero xs p j = omega arith
bytes_take (suc n) [] p j = omega arith
bytes_take (suc n) (x ∷ xs) p zero = p 0
bytes_take (suc n) (x ∷ xs) p (suc j) = bytes_take n xs (λ i. p (suc i)) j

bytes_with : (m : List ℕ) (k : ℕ) (b : Content) → Bytes m → Whole b → Bytes (with_block m k b)
bytes_with m k b p w =
    bytes_append (take (512 * k) m) (b ++ drop (512 * k + 512) m) (bytes_take (512 * k) m p)
    (bytes_append b (drop (512 * k + 512) m) w.bytes (λ j. rw get_or-drop (p (512 * k + 512 + j))))

-- a block that is put keeps the size, and shows at its own place alone
size_with : (m : List ℕ) (k : ℕ) (b : Content) → k < whole_blocks m → Whole b → whole_blocks (with_block m k b) ≡ whole_blocks m
size_with m k b lt w = ap (λ (n : ℕ). min (n / 512) 65535) (blocks_apart m k b lt w.long).long

block_with : (m : List ℕ) (k : ℕ) (b : Content) (j : ℕ) → k < whole_blocks m → Whole b → block_of (with_block m k b) j ≡ cond (k == j) b (block_of m j)
block_with m k b j lt w = elim (cases_eq j k) [
  | inl e ↦ (let t = eq-eqb k j (sym e) in let p = (blocks_apart m k b lt w.long).there in cc)
  | inr n ↦ (let t = ne_eqb k j (λ e. n (sym e)) in let p = (blocks_apart m k b lt w.long).others j n in cc)
]

-- writes that stand: the size keeps, and each block is the newest of them to it
stand_size : (ws : List WaitingWrite) (m : List ℕ) → WholeWrites (whole_blocks m) ws → whole_blocks (stand ws m) ≡ whole_blocks m
stand_size [] m h = refl
stand_size (w ∷ ws) m h =
    let e = size_with m w.block w.content h.0 h.1 in
    stand_size ws (with_block m w.block w.content) (subst (λ (n : ℕ). WholeWrites n ws) (sym e) h.2) ∙ e

stand_bytes : (ws : List WaitingWrite) (m : List ℕ) → WholeWrites (whole_blocks m) ws → Bytes m → Bytes (stand ws m)
stand_bytes [] m h p = p
stand_bytes (w ∷ ws) m h p =
    let e = size_with m w.block w.content h.0 h.1 in
    stand_bytes ws (with_block m w.block w.content) (subst (λ (n : ℕ). WholeWrites n ws) (sym e) h.2) (bytes_with m w.block w.content p h.1)

stand_spare : (ws : List WaitingWrite) (m : List ℕ) → WholeWrites (whole_blocks m) ws → spare (stand ws m) ≡ spare m
stand_spare [] m h = refl
stand_spare (w ∷ ws) m h =
    let e = size_with m w.block w.content h.0 h.1 in
    stand_spare ws (with_block m w.block w.content) (subst (λ (n : ℕ). WholeWrites n ws) (sym e) h.2) ∙ (blocks_apart m w.block w.content h.0 h.1.long).spare

pub stand_block : (ws : List WaitingWrite) (m : List ℕ) (k : ℕ) → WholeWrites (whole_blocks m) ws → block_of (stand ws m) k ≡ newest ws k (block_of m k)
stand_block [] m k h = refl
stand_block (w ∷ ws) m k h =
    let e = size_with m w.block w.content h.0 h.1 in
    stand_block ws (with_block m w.block w.content) k (subst (λ (n : ℕ). WholeWrites n ws) (sym e) h.2) ∙ ap (newest ws k) (block_with m w.block w.content k h.0 h.1)

-- one write more, the newest
pub newest_push : (ws : List WaitingWrite) (w : WaitingWrite) (k : ℕ) (b : Content) → newest (ws ++ w ∷ []) k b ≡ cond (w.block == k) w.content (newest ws k b)
newest_push [] w k b = refl
newest_push (x ∷ ws) w k b = newest_push ws w k (cond (x.block == k) x.content b)

-- the newest of some writes is one of them, or there is none
newest_waits : (ws : List WaitingWrite) (k : ℕ) (b : Content) → (newest ws k b ≡ b) ⊎ Waits ws k (newest ws k b)
newest_waits [] k b = inl refl
newest_waits (w ∷ ws) k b = go (w.block == k) refl (newest_waits ws k)
  where
    go : (t : Bool) → (w.block == k) ≡ t → ((c : Content) → (newest ws k c ≡ c) ⊎ Waits ws k (newest ws k c)) →
        (newest ws k (cond t w.content b) ≡ b) ⊎ Waits (w ∷ ws) k (newest ws k (cond t w.content b))
    go true e rest = elim (rest w.content) [ inl f ↦ inr (inl (eqb-true w.block k e, f)) | inr f ↦ inr (inr f) ]
    go false e rest = elim (rest b) [ inl f ↦ inl f | inr f ↦ inr (inr f) ]

-- the chosen writes are some of them
pub chosen_whole : (pick i n : ℕ) (ws : List WaitingWrite) → WholeWrites n ws → WholeWrites n (chosen pick i ws)
chosen_whole pick i n [] h = h
chosen_whole pick i n (w ∷ ws) h = go (pick / 2 ^ i % 2 == 1) (chosen_whole pick (suc i) n ws h.2)
  where
    go : (t : Bool) → WholeWrites n (chosen pick (suc i) ws) → WholeWrites n (cond t (w ∷ chosen pick (suc i) ws) (chosen pick (suc i) ws))
    go true rest = (h.0, h.1, rest)
    go false rest = rest

chosen_waits : (pick i k : ℕ) (ws : List WaitingWrite) (b : Content) → Waits (chosen pick i ws) k b → Waits ws k b
chosen_waits pick i k [] b h = h
chosen_waits pick i k (w ∷ ws) b h = go (pick / 2 ^ i % 2 == 1) (chosen_waits pick (suc i) k ws b) h
  where
    go : (t : Bool) → (Waits (chosen pick (suc i) ws) k b → Waits ws k b) → Waits (cond t (w ∷ chosen pick (suc i) ws) (chosen pick (suc i) ws)) k b → Waits (w ∷ ws) k b
    go true rest (inl x) = inl x
    go true rest (inr x) = inr (rest x)
    go false rest x = inr (rest x)

-- what is held goes from h to g: the size and the bytes past the last block keep, it stays sound, and no candidate is gained but those that Gain allows
pub record Goes (h : Held) (Gain : ℕ → Content → Type 0) (g : Held) : Type 0 where
  pub size : size_of g ≡ size_of h
  pub spare : spare g.memory ≡ spare h.memory
  pub sound : SoundHeld g
  pub gained : (j : ℕ) (b : Content) → Candidate g j b → Candidate h j b ⊎ Gain j b

abbrev pub Nothing : ℕ → Content → Type 0
Nothing j b = ⊥

pub stays : (h : Held) (Gain : ℕ → Content → Type 0) → SoundHeld h → Goes h Gain h
stays h Gain snd = record { size = refl; spare = refl; sound = snd; gained = λ j b c. inl c }

-- then something that gains nothing
pub goes_then : (h g f : Held) (Gain : ℕ → Content → Type 0) → Goes h Gain g → Goes g Nothing f → Goes h Gain f
goes_then h g f Gain p q = record {
  size = q.size ∙ p.size;
  spare = q.spare ∙ p.spare;
  sound = q.sound;
  gained = λ j b c. elim (q.gained j b c) [ inl d ↦ p.gained j b d | inr n ↦ absurd n ];
}

-- some of the waiting writes stand, and the others are gone
module _ (h : Held) (snd : SoundHeld h) (ws : List WaitingWrite) (whole : WholeWrites (size_of h) ws) (part : (k : ℕ) (b : Content) → Waits ws k b → Waits h.waiting k b) where
  abbrev after : Held
  after = record { waiting = []; memory = stand ws h.memory }

  picked : (k : ℕ) → Candidate h k (block_of (stand ws h.memory) k)
  picked k = elim (newest_waits ws k (block_of h.memory k)) [
    | inl e ↦ inl (stand_block ws h.memory k whole ∙ e)
    | inr w ↦ inr (subst (λ (b : Content). Waits h.waiting k b) (sym (stand_block ws h.memory k whole)) (part k _ w))
  ]

  settles : (Gain : ℕ → Content → Type 0) → Goes h Gain after
  settles Gain = record {
    size = stand_size ws h.memory whole;
    spare = stand_spare ws h.memory whole;
    sound = record { bytes = stand_bytes ws h.memory whole snd.bytes; writes = tt };
    gained = λ j b c. elim c [ inl e ↦ inl (subst (λ (x : Content). Candidate h j x) (sym e) (picked j)) | inr n ↦ absurd n ];
  }

module _ (h : Held) (snd : SoundHeld h) where
  pub cut_goes : (Gain : ℕ → Content → Type 0) (pick : ℕ) → Goes h Gain (cut pick h)
  cut_goes Gain pick = settles h snd (chosen pick 0 h.waiting) (chosen_whole pick 0 (size_of h) h.waiting snd.writes) (λ k b w. chosen_waits pick 0 k h.waiting b w) Gain

  -- a cut leaves each block one of its candidates
  pub cut_picks : (pick k : ℕ) → Candidate h k (face_of (cut pick h) k)
  cut_picks pick k = picked h snd (chosen pick 0 h.waiting) (chosen_whole pick 0 (size_of h) h.waiting snd.writes) (λ k b w. chosen_waits pick 0 k h.waiting b w) k

  pub flush_goes : Goes h Nothing (flush h)
  flush_goes = settles h snd h.waiting snd.writes (λ k b w. w) Nothing

  pub flush_faces : (k : ℕ) → face_of (flush h) k ≡ face_of h k
  flush_faces k = stand_block h.waiting h.memory k snd.writes

-- a face is a candidate
pub face_stands : (h : Held) (k : ℕ) → Candidate h k (face_of h k)
face_stands h k = newest_waits h.waiting k (block_of h.memory k)

-- what a write does: its block shows the content, the others keep
pub record Wrote (h : Held) (k : ℕ) (b : Content) (g : Held) : Type 0 where
  pub goes : Goes h (λ j c. (j ≡ k) × (c ≡ b)) g
  pub face : face_of g k ≡ b
  pub others : (j : ℕ) → (j ≢ k) → face_of g j ≡ face_of h j

-- a standing block after another was put: that one at its place, else as before
with_cases : (m : List ℕ) (k : ℕ) (b : Content) (j : ℕ) (c : Content) → k < whole_blocks m → Whole b → c ≡ block_of (with_block m k b) j → (c ≡ block_of m j) ⊎ ((k ≡ j) × (c ≡ b))
with_cases m k b j c lt w e = elim (cases_eq j k) [
  | inl f ↦ inr (sym f, e ∙ (ap (block_of (with_block m k b)) f ∙ (blocks_apart m k b lt w.long).there))
  | inr n ↦ inl (e ∙ (blocks_apart m k b lt w.long).others j n)
]

-- a write that stands at once
pub put_goes : (h : Held) (k : ℕ) (b : Content) → SoundHeld h → k < size_of h → Whole b → Goes h (λ j c. (j ≡ k) × (c ≡ b)) (put k b h)
put_goes h k b snd lt w =
    let e = size_with h.memory k b lt w in
    record {
      size = e;
      spare = (blocks_apart h.memory k b lt w.long).spare;
      sound = record { bytes = bytes_with h.memory k b snd.bytes w; writes = subst (λ (n : ℕ). WholeWrites n h.waiting) (sym e) snd.writes };
      gained = λ j c x. elim x [
        | inl f ↦ elim (with_cases h.memory k b j c lt w f) [ inl g ↦ inl (inl g) | inr g ↦ inr (sym g.0, g.1) ]
        | inr f ↦ inl (inr f)
      ];
    }

-- where nothing waits, its block shows it
pub put_wrote : (m : List ℕ) (k : ℕ) (b : Content) → SoundHeld (record { waiting = []; memory = m }) → k < whole_blocks m → Whole b →
    Wrote (record { waiting = []; memory = m }) k b (put k b (record { waiting = []; memory = m }))
put_wrote m k b snd lt w = record {
  goes = put_goes (record { waiting = []; memory = m }) k b snd lt w;
  face = (blocks_apart m k b lt w.long).there;
  others = λ j n. (blocks_apart m k b lt w.long).others j n;
}

-- the oldest write stands
oldest_goes : (ws : List WaitingWrite) (m : List ℕ) → SoundHeld (record { waiting = ws; memory = m }) → Goes (record { waiting = ws; memory = m }) Nothing (oldest_stands ws m)
oldest_goes [] m snd = stays _ Nothing snd
oldest_goes (w ∷ ws) m snd =
    let e = size_with m w.block w.content snd.writes.0 snd.writes.1 in
    record {
      size = e;
      spare = (blocks_apart m w.block w.content snd.writes.0 snd.writes.1.long).spare;
      sound = record { bytes = bytes_with m w.block w.content snd.bytes snd.writes.1; writes = subst (λ (n : ℕ). WholeWrites n ws) (sym e) snd.writes.2 };
      gained = λ j c x. elim x [
        | inl f ↦ elim (with_cases m w.block w.content j c snd.writes.0 snd.writes.1 f) [ inl g ↦ inl (inl g) | inr g ↦ inl (inr (inl g)) ]
        | inr f ↦ inl (inr (inr f))
      ];
    }

oldest_faces : (ws : List WaitingWrite) (m : List ℕ) (k : ℕ) → SoundHeld (record { waiting = ws; memory = m }) → face_of (oldest_stands ws m) k ≡ face_of (record { waiting = ws; memory = m }) k
oldest_faces [] m k snd = refl
oldest_faces (w ∷ ws) m k snd = ap (newest ws k) (block_with m w.block w.content k snd.writes.0 snd.writes.1)

-- there is room for one more
room_goes : (h : Held) → SoundHeld h → Goes h Nothing (room h)
room_goes h snd = go (nat_lt (length h.waiting) 16)
  where
    go : (t : Bool) → Goes h Nothing (cond t h (oldest_stands h.waiting h.memory))
    go true = stays h Nothing snd
    go false = oldest_goes h.waiting h.memory snd

room_faces : (h : Held) (k : ℕ) → SoundHeld h → face_of (room h) k ≡ face_of h k
room_faces h k snd = go (nat_lt (length h.waiting) 16)
  where
    go : (t : Bool) → face_of (cond t h (oldest_stands h.waiting h.memory)) k ≡ face_of h k
    go true = refl
    go false = oldest_faces h.waiting h.memory k snd

-- one write more waits
waits_push : (ws : List WaitingWrite) (w : WaitingWrite) (k : ℕ) (b : Content) → Waits (ws ++ w ∷ []) k b → Waits ws k b ⊎ ((w.block ≡ k) × (b ≡ w.content))
waits_push [] w k b (inl h) = inr h
waits_push [] w k b (inr h) = absurd h
waits_push (x ∷ ws) w k b (inl h) = inl (inl h)
waits_push (x ∷ ws) w k b (inr h) = elim (waits_push ws w k b h) [ inl g ↦ inl (inr g) | inr g ↦ inr g ]

whole_push : (n : ℕ) (ws : List WaitingWrite) (w : WaitingWrite) → WholeWrites n ws → w.block < n → Whole w.content → WholeWrites n (ws ++ w ∷ [])
whole_push n [] w h lt b = (lt, b, tt)
whole_push n (x ∷ ws) w h lt b = (h.0, h.1, whole_push n ws w h.2 lt b)

pub queue_wrote : (h : Held) (k : ℕ) (b : Content) → SoundHeld h → k < size_of h → Whole b → Wrote h k b (queue k b h)
queue_wrote h k b snd lt w = record {
  goes = record {
    size = r.size;
    spare = r.spare;
    sound = record { bytes = r.sound.bytes; writes = whole_push (size_of (room h)) (room h).waiting (record { block = k; content = b }) r.sound.writes (let e = r.size in omega arith) w };
    gained = λ j c x. elim x [
      | inl e ↦ elim (r.gained j c (inl e)) [ inl d ↦ inl d | inr n ↦ absurd n ]
      | inr e ↦ elim (waits_push (room h).waiting (record { block = k; content = b }) j c e) [
        | inl d ↦ elim (r.gained j c (inr d)) [ inl f ↦ inl f | inr n ↦ absurd n ]
        | inr d ↦ inr (sym d.0, d.1)
      ]
    ];
  };
  face = pushed k ∙ (let t = eq-eqb k k refl in cc);
  others = λ j n. pushed j ∙ ((let t = ne_eqb k j (λ e. n (sym e)) in cc) ∙ room_faces h j snd);
}
  where
    r : Goes h Nothing (room h)
    r = room_goes h snd

    pushed : (j : ℕ) → face_of (queue k b h) j ≡ cond (k == j) b (face_of (room h) j)
    pushed j = newest_push (room h).waiting (record { block = k; content = b }) j (block_of (room h).memory j)
