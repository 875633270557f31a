use Rattle.std.proofs.Common.{◌≡◌, ◌^◌, ◌<◌, ◌≤◌, ◌∷◌, ◌++◌, vec_items, vec_len, vec_capacity}
use Rattle.std.specs.List.{flat_map, AllByRecursion}
use Rattle.script.specs.Words.{spaced}
use Rattle.script.proofs.schedule_line.read_words.Given as goal

-- there is room for the words to come, and those before were read
abbrev pub invariant-loop : goal.invariant-loop
invariant-loop l = record {
  room : (vec_len l.words ≡ l.counter) × (64 ≤ vec_capacity l.words);
  fit : AllByRecursion (λ w. w < 2 ^ 32) (vec_items l.words);
  read : 32 ∷ l.line ≡ flat_map spaced (vec_items l.words) ++ (32 ∷ l.rest);
}
