-- What a bench disk holds: blocks that stand, and writes that wait.
use Rattle.std.specs.Prelude.{◌≡◌, ℕ, suc, ◌/◌, ◌%◌, ◌^◌, cond, ◌⊎◌, List, [], ◌∷◌, ◌++◌, length, ◌==◌, nat_lt}
use Rattle.disks.specs.Meaning.{Content}
use Rattle.disks.specs.Blocks.{whole_blocks, block_of, with_block}
use Rattle.bench_disks.specs.declared.waiting.WaitingWrite.{WaitingWrite}

-- the waiting writes, oldest first, and the memory in which blocks stand
pub record Held : Type 0 where
  pub waiting : List WaitingWrite
  pub memory : List ℕ

abbrev pub size_of : Held → ℕ
size_of h = whole_blocks h.memory

-- the memory after the writes stood, oldest first
abbrev pub stand : List WaitingWrite → List ℕ → List ℕ
stand [] m = m
stand (w ∷ ws) m = stand ws (with_block m w.block w.content)

-- the writes, counted from i on, whose bit of the pick is one: that of write i is worth 2 ^ i
abbrev pub chosen : ℕ → ℕ → List WaitingWrite → List WaitingWrite
chosen pick i [] = []
chosen pick i (w ∷ ws) = cond (pick / 2 ^ i % 2 == 1) (w ∷ chosen pick (suc i) ws) (chosen pick (suc i) ws)

-- the newest of the writes to block k, else b
abbrev pub newest : List WaitingWrite → ℕ → Content → Content
newest [] k b = b
newest (w ∷ ws) k b = newest ws k (cond (w.block == k) w.content b)

-- b waits for block k
abbrev pub Waits : List WaitingWrite → ℕ → Content → Type 0
Waits [] k b = ⊥
Waits (w ∷ ws) k b = ((w.block ≡ k) × (b ≡ w.content)) ⊎ Waits ws k b

-- a block's face: the newest waiting write to it, else the standing block
abbrev pub face_of : Held → ℕ → Content
face_of h k = newest h.waiting k (block_of h.memory k)

-- its candidates: the standing block and the waiting writes to it
abbrev pub Candidate : Held → ℕ → Content → Type 0
Candidate h k b = (b ≡ block_of h.memory k) ⊎ Waits h.waiting k b

-- a write that stands at once
abbrev pub put : ℕ → Content → Held → Held
put k b h = record { waiting = h.waiting; memory = with_block h.memory k b }

-- the oldest write stands
abbrev pub oldest_stands : List WaitingWrite → List ℕ → Held
oldest_stands [] m = record { waiting = []; memory = m }
oldest_stands (w ∷ ws) m = record { waiting = ws; memory = with_block m w.block w.content }

-- room for one write more: if 16 wait, the oldest stands
abbrev pub room : Held → Held
room h = cond (nat_lt (length h.waiting) 16) h (oldest_stands h.waiting h.memory)

-- a write that waits
abbrev pub queue : ℕ → Content → Held → Held
queue k b h = record { waiting = (room h).waiting ++ record { block = k; content = b } ∷ []; memory = (room h).memory }

-- all that waits stands
abbrev pub flush : Held → Held
flush h = record { waiting = []; memory = stand h.waiting h.memory }

-- a cut: the chosen writes stand, the others vanish
abbrev pub cut : ℕ → Held → Held
cut pick h = record { waiting = []; memory = stand (chosen pick 0 h.waiting) h.memory }
