-- The text of a schedule: words of 8 hexadecimal digits.
use Rattle.std.specs.Prelude.{◌≡◌, ℕ, zero, suc, ◌+◌, ◌/◌, ◌%◌, ◌^◌, ◌<◌, ◌≤◌, cond, List, [], ◌∷◌, ◌++◌, length, drop, Some, None, Option, ◌≢◌, nat_lt}
use Rattle.std.specs.List.{flat_map, AllByRecursion}

-- a digit as 0 to 9, A to F
abbrev pub hex_char : ℕ → ℕ
hex_char d = cond (nat_lt d 10) (48 + d) (55 + d)

-- the last k hexadecimal digits of n, most significant first
abbrev pub hex_text : ℕ → ℕ → List ℕ
hex_text zero n = []
hex_text (suc k) n = hex_text k (n / 16) ++ (hex_char (n % 16) ∷ [])

-- the text of a word
unfoldable pub word_text : ℕ → List ℕ
word_text w = hex_text 8 w

-- no word is written so
abbrev pub NoWord : List ℕ → Type 0
NoWord text = (w : ℕ) → text ≢ word_text w

-- the word of 32 bits that the text is the text of; none if it is the text of no word
abbrev pub TextSays : List ℕ → Option ℕ → Type 0
TextSays text None = NoWord text
TextSays text (Some w) = (w < 2 ^ 32) × (text ≡ word_text w)

-- no text that begins with a word is this one
abbrev pub StartsNoWord : List ℕ → Type 0
StartsNoWord text = (w : ℕ) (after : List ℕ) → text ≢ word_text w ++ after

-- words of 32 bits that differ are written differently
abbrev pub WordsApart : Type 0
WordsApart = (v w : ℕ) → v < 2 ^ 32 → w < 2 ^ 32 → word_text v ≡ word_text w → v ≡ w

-- a word after a space
abbrev pub spaced : ℕ → List ℕ
spaced w = 32 ∷ word_text w

-- the line of a schedule: a space before each word but the first
abbrev pub schedule_text : List ℕ → List ℕ
schedule_text ws = drop 1 (flat_map spaced ws)

-- the words of 32 bits, at most 64, that the line is the text of; none if it is the text of no 64 words or fewer
abbrev pub LineSays : List ℕ → Option (List ℕ) → Type 0
LineSays line None = (ws : List ℕ) → length ws ≤ 64 → line ≢ schedule_text ws
LineSays line (Some ws) = (length ws ≤ 64) × AllByRecursion (λ w. w < 2 ^ 32) ws × (line ≡ schedule_text ws)

-- schedules of words of 32 bits that differ are written differently
abbrev pub SchedulesApart : Type 0
SchedulesApart = (vs ws : List ℕ) → AllByRecursion (λ w. w < 2 ^ 32) vs → AllByRecursion (λ w. w < 2 ^ 32) ws → schedule_text vs ≡ schedule_text ws → vs ≡ ws
