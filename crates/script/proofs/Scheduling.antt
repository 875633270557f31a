-- The words of a line, one after another.
use Rattle.std.proofs.Common.{◌≡◌, ℕ, suc, ◌+◌, ◌^◌, ◌<◌, ◌≤◌, List, [], ◌∷◌, ◌++◌, length, take, drop, None, sym, refl, ap, ◌∙◌, subst, append_assoc, arith, length-append}
use Rattle.std.proofs.ByRecursion.{All-push}
use Rattle.std.proofs.lemmas.List.{take_at, drop_at, flat_map_more}
use Rattle.std.specs.List.{flat_map, AllByRecursion}
use Rattle.script.specs.Words.{word_text, spaced, schedule_text, LineSays, StartsNoWord, NoWord, SchedulesApart}
use Rattle.script.proofs.Spelling.{length_word, words_apart}

-- two texts that each begin with a word
pub front_word : (v w : ℕ) (s t : List ℕ) → word_text v ++ s ≡ word_text w ++ t → (word_text v ≡ word_text w) × (s ≡ t)
front_word v w s t e = (
  sym (take_at (word_text v) s 8 (length_word v)) ∙ ap (take 8) e ∙ take_at (word_text w) t 8 (length_word w),
  sym (drop_at (word_text v) s 8 (length_word v)) ∙ ap (drop 8) e ∙ drop_at (word_text w) t 8 (length_word w),
)

-- what follows the first word of words, each after a space
later : (v w : ℕ) (s t : List ℕ) → spaced v ++ s ≡ spaced w ++ t → (word_text v ≡ word_text w) × (s ≡ t)
later v w s t e = front_word v w s t (ap (drop 1) e)

-- what is left after some of the words are words too
left_over : (done ws rest : List ℕ) → flat_map spaced done ++ (32 ∷ rest) ≡ flat_map spaced ws → (more : List ℕ) × (length ws ≡ length done + length more) × (32 ∷ rest ≡ flat_map spaced more)
left_over [] ws rest e = (ws, omega arith, e)
left_over (d ∷ ds) [] rest e = let z : ◌≡◌ {A = ℕ} 0 1 = cc in absurd (omega arith)
left_over (d ∷ ds) (w ∷ ws) rest e =
    let p = later d w (flat_map spaced ds ++ (32 ∷ rest)) (flat_map spaced ws) (sym (append_assoc (spaced d) (flat_map spaced ds) (32 ∷ rest)) ∙ e) in
    let r = left_over ds ws rest p.1 in
    (r.0, omega (arith, r.1), r.2)

-- a line with words is the text after a space
pub spaced_line : (line ws : List ℕ) → 0 < length line → line ≡ schedule_text ws → 32 ∷ line ≡ flat_map spaced ws
spaced_line line [] some e = absurd (omega (arith, ap length e))
spaced_line line (w ∷ ws) some e = ap (λ (l : List ℕ). 32 ∷ l) e

first_left : (n : ℕ) (rest more : List ℕ) → 32 ∷ rest ≡ flat_map spaced more → n + length more ≤ 64 →
    ((w : ℕ) (ms : List ℕ) → n + suc (length ms) ≤ 64 → rest ≡ word_text w ++ flat_map spaced ms → ⊥) → ⊥
first_left n rest [] e few bad = let z : ◌≡◌ {A = ℕ} 0 1 = cc in omega arith
first_left n rest (w ∷ ms) e few bad = bad w ms few (ap (drop 1) e)

-- a line of which no further word can be read is the text of no schedule
pub no_more : (line done rest : List ℕ) → 0 < length line → 32 ∷ line ≡ flat_map spaced done ++ (32 ∷ rest) →
    ((w : ℕ) (ms : List ℕ) → length done + suc (length ms) ≤ 64 → rest ≡ word_text w ++ flat_map spaced ms → ⊥) → LineSays line None
no_more line done rest some e bad ws few f =
    let p = left_over done ws rest (sym e ∙ spaced_line line ws some f) in
    first_left (length done) rest p.0 p.2 (omega (arith, p.1)) bad

-- after a word there is a space or the end
pub no_space : (rest after : List ℕ) (v n : ℕ) → rest ≡ word_text v ++ after → (length after ≡ 0 → ⊥) → ((more : List ℕ) → after ≡ 32 ∷ more → ⊥) →
    (w : ℕ) (ms : List ℕ) → n + suc (length ms) ≤ 64 → rest ≡ word_text w ++ flat_map spaced ms → ⊥
no_space rest after v n e some other w [] few f = let p = front_word v w after [] (sym e ∙ f) in some (ap length p.1)
no_space rest after v n e some other w (m ∷ ms) few f = let p = front_word v w after (flat_map spaced (m ∷ ms)) (sym e ∙ f) in other _ p.1

-- one word more
pub word_more : (line done rest after : List ℕ) (v : ℕ) → 32 ∷ line ≡ flat_map spaced done ++ (32 ∷ rest) → rest ≡ word_text v ++ after → 32 ∷ line ≡ flat_map spaced (done ++ (v ∷ [])) ++ after
word_more line done rest after v e f =
    e ∙ ap (λ (r : List ℕ). flat_map spaced done ++ (32 ∷ r)) f ∙ sym (append_assoc (flat_map spaced done) (spaced v) after)
    ∙ ap (λ (t : List ℕ). t ++ after) (flat_map_more spaced [] done v)

spaced_apart : (vs ws : List ℕ) → AllByRecursion (λ w. w < 2 ^ 32) vs → AllByRecursion (λ w. w < 2 ^ 32) ws → flat_map spaced vs ≡ flat_map spaced ws → vs ≡ ws
spaced_apart [] [] f g e = refl
spaced_apart [] (w ∷ ws) f g e = let z : ◌≡◌ {A = ℕ} 0 1 = cc in absurd (omega arith)
spaced_apart (v ∷ vs) [] f g e = let z : ◌≡◌ {A = ℕ} 0 1 = cc in absurd (omega arith)
spaced_apart (v ∷ vs) (w ∷ ws) f g e =
    let p = later v w (flat_map spaced vs) (flat_map spaced ws) e in
    let head = words_apart v w f.0 g.0 p.0 in
    let tail = spaced_apart vs ws f.1 g.1 p.1 in
    cc

-- a word is not nothing
word_some : (w : ℕ) (t : List ℕ) → [] ≡ word_text w ++ t → ⊥
word_some w t e = omega (arith, ap length e, length-append (word_text w) t, length_word w)

pub schedules_apart : SchedulesApart
schedules_apart [] [] f g e = refl
schedules_apart [] (w ∷ ws) f g e = absurd (word_some w (flat_map spaced ws) e)
schedules_apart (v ∷ vs) [] f g e = absurd (word_some v (flat_map spaced vs) (sym e))
schedules_apart (v ∷ vs) (w ∷ ws) f g e = spaced_apart (v ∷ vs) (w ∷ ws) f g (ap (λ (l : List ℕ). 32 ∷ l) e)

-- a text of fewer bytes than a word has
pub too_short : (text : List ℕ) → length text < 8 → StartsNoWord text
too_short text short w after e = omega (arith, ap length e, length-append (word_text w) after, length_word w)

-- a text whose first 8 bytes are no word
pub starts_with_no_word : (text : List ℕ) → NoWord (take 8 text) → StartsNoWord text
starts_with_no_word text none w after e = none w (ap (take 8) e ∙ take_at (word_text w) after 8 (length_word w))

-- one word more that fits
pub fits_more : (vs ws : List ℕ) (w : ℕ) → AllByRecursion (λ w. w < 2 ^ 32) vs → w < 2 ^ 32 → ws ≡ vs ++ (w ∷ []) → AllByRecursion (λ w. w < 2 ^ 32) ws
fits_more vs ws w all small e = subst (λ (us : List ℕ). AllByRecursion (λ w. w < 2 ^ 32) us) (sym e) (All-push (λ w. w < 2 ^ 32) vs w all small)
