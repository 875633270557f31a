-- What diskrun prints.
use Rattle.std.specs.Prelude.{◌≡◌, ℕ, zero, suc, ◌*◌, Bool, true, false, List, [], ◌∷◌, ◌++◌, length, replicate, Ok, codes, decimal, MatchBool, Option, MatchOption, nat_lt, slice_index}
use Rattle.bench_disks.specs.Calls.{Bench, new_bench, reads, writes, barriers, restarts}
use Rattle.bench_disks.specs.Disks.{plain_bench, buffered_bench}
use Rattle.bench_disks.specs.Instances.{Plain, Buffered, plain_reader, plain_disk, buffered_reader, buffered_disk}
use Rattle.bench_disks.specs.Waiting.{Held, put, queue}
use Rattle.disks.specs.Meaning.{Content}
use Rattle.drive.specs.Runs.{RunsBy}
use Rattle.pair.specs.Calls.{Reads, Writes, Barriers}
use Rattle.pair.specs.Making.{made_of}
use Rattle.pair.specs.Restarts.{Restarts}
use Rattle.pair.specs.declared.pair.Pair.{Pair}
use Rattle.script.specs.Pieces.{lines}
use Rattle.script.specs.Words.{LineSays}
use Rattle.std.specs.Str.{bytes_eq}

-- the line that ends a run early
abbrev pub unknown : List ℕ
unknown = codes "?\n"

-- the memory of a new disk: 8 blocks of zeros
unfoldable pub zeros : List ℕ
zeros = replicate 4096 0

-- the first byte of each of the first n blocks of a memory, each after a space
abbrev pub first_bytes : ℕ → List ℕ → List ℕ
first_bytes zero memory = []
first_bytes (suc k) memory = first_bytes k memory ++ (codes " " ++ decimal (slice_index memory (512 * k)))

abbrev pub stands_line : List ℕ → List ℕ
stands_line memory = codes "stands" ++ (first_bytes 8 memory ++ codes "\n")

-- what a run prints last: what stands, if each line was a call
abbrev pub ending : Bool → List ℕ → List ℕ
ending true memory = stands_line memory
ending false memory = []

-- how a write takes effect is the one thing in which the bench disks differ
module _ (effect : ℕ → Content → Held → Held) where
  -- lines that run on a bench disk
  abbrev pub RunsOnBench : List (List ℕ) → Bench → List ℕ → Bool → Bench → Type 0
  RunsOnBench = RunsBy (λ s k x t. (x, t) ≡ reads k s) (λ s k b r t. (r, t) ≡ writes effect k b s) (λ s r t. (r, t) ≡ barriers s) (λ s r t. (r, t) ≡ restarts s)

  -- lines that run on a new disk with these words, and what they print
  abbrev pub RunsNew : List ℕ → List (List ℕ) → List ℕ → Type 0
  RunsNew words ls text =
      (body : List ℕ) × (whole : Bool) × (d : Bench) × RunsOnBench ls (new_bench words zeros) body whole d × (text ≡ body ++ ending whole d.held.memory)

-- lines that run on a pair of a plain and a buffered disk
abbrev pub RunsOnPair : List (List ℕ) → Pair Plain Buffered → List ℕ → Bool → Pair Plain Buffered → Type 0
RunsOnPair =
    RunsBy (Reads plain_reader buffered_reader) (Writes plain_reader plain_disk buffered_reader buffered_disk)
    (Barriers plain_reader plain_disk buffered_reader buffered_disk) (Restarts plain_reader plain_disk buffered_reader buffered_disk)

-- lines that run on a new pair of new disks, side 0 plain and side 1 buffered, each with its words, and what they print
pub record RunsNewPair (words0 words1 : List ℕ) (ls : List (List ℕ)) (text : List ℕ) : Type 0 where
  pub side0 : Plain
  pub side1 : Buffered
  pub before : Pair Plain Buffered
  pub after : Pair Plain Buffered
  pub whole : Bool
  pub new0 : plain_bench side0 ≡ new_bench words0 zeros
  pub new1 : buffered_bench side1 ≡ new_bench words1 zeros
  pub paired : made_of plain_reader buffered_reader side0 side1 ≡ Ok before
  pub runs : RunsOnPair ls before text whole after

-- the first line, or an empty one where there is none
abbrev pub first_line : List (List ℕ) → List ℕ
first_line [] = []
first_line (l ∷ ls) = l

abbrev pub other_lines : List (List ℕ) → List (List ℕ)
other_lines [] = []
other_lines (l ∷ ls) = ls

-- the lines after the disk's name: a schedule, and then the calls
abbrev pub Scheduled : (ℕ → Content → Held → Held) → List (List ℕ) → List ℕ → Type 0
Scheduled effect ls text = (o : Option (List ℕ)) × LineSays (first_line ls) o × MatchOption o (text ≡ unknown) (λ words. RunsNew effect words (other_lines ls) text)

-- the lines after the name of a pair: the schedules of both sides, and then the calls
abbrev pub ScheduledPair : List (List ℕ) → List ℕ → Type 0
ScheduledPair ls text =
    (o0 o1 : Option (List ℕ)) × LineSays (first_line ls) o0 × LineSays (first_line (other_lines ls)) o1 ×
    MatchOption o0 (text ≡ unknown) (λ words0. MatchOption o1 (text ≡ unknown) (λ words1. RunsNewPair words0 words1 (other_lines (other_lines ls)) text))

-- the disk that the first line names
abbrev pub Named : List ℕ → List (List ℕ) → List ℕ → Type 0
Named name ls text =
    MatchBool (bytes_eq name (codes "plain")) (Scheduled put ls text)
    (MatchBool (bytes_eq name (codes "buffered")) (Scheduled queue ls text)
    (MatchBool (bytes_eq name (codes "pair")) (ScheduledPair ls text) (text ≡ unknown)))

-- an input of at most 16,384 bytes by its lines; without a line it names no disk
abbrev pub Prints : List ℕ → List ℕ → Type 0
Prints input text = MatchBool (nat_lt 16384 (length input)) (text ≡ unknown) (Named (first_line (lines input)) (other_lines (lines input)) text)
