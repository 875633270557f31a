-- Hexadecimal digits and the words that they write.
use Rattle.std.proofs.Common.{◌≡◌, ℕ, zero, suc, ◌+◌, ◌*◌, ◌/◌, ◌%◌, ◌^◌, ◌<◌, ◌≤◌, ◌⊎◌, List, [], ◌∷◌, ◌++◌, length, get_or, take, Some, sym, refl, ap, ◌∙◌, subst, ⊎_elim, pow-suc, add-one, arith}
use native.Mathlib.Nat.{pow-le-pow_right}
use Rattle.std.proofs.lemmas.List.{length_push, take_more, take_all, same_from_push, get_or_append_left, get_or_at}
use Rattle.std.proofs.lemmas.Bool.Decides.{nat_tests}
use Rattle.script.specs.Words.{hex_char, hex_text, word_text, NoWord, TextSays, WordsApart}

before_or_last : (i k : ℕ) → i < suc k → (i < k) ⊎ (i ≡ k)
before_or_last i k lt = grind arith

-- k digits are k bytes
pub length_hex : (k n : ℕ) → length (hex_text k n) ≡ k
length_hex zero n = refl
length_hex (suc k) n = length_push (hex_text k (n / 16)) (hex_char (n % 16)) ∙ ap (λ m. m + 1) (length_hex k (n / 16)) ∙ add-one k

-- one digit more
pub hex_more : (k n d : ℕ) → d < 16 → hex_text (k + 1) (n * 16 + d) ≡ hex_text k n ++ (hex_char d ∷ [])
hex_more k n d small =
    let q : (n * 16 + d) / 16 ≡ n = omega arith in
    let r : (n * 16 + d) % 16 ≡ d = omega arith in
    rw (add-one, q, r) refl

-- each byte is a digit
pub hex_place : (k n i : ℕ) → i < k → (d : ℕ) × (d < 16) × (get_or (hex_text k n) i 0 ≡ hex_char d)
hex_place zero n i lt = absurd (omega arith)
hex_place (suc k) n i lt =
    let front = hex_text k (n / 16) in
    let long = length_hex k (n / 16) in
    ⊎_elim
    (λ (before : i < k).
    let rest = hex_place k (n / 16) i before in
    (rest.0, rest.1, get_or_append_left front (hex_char (n % 16) ∷ []) 0 i (omega arith) ∙ rest.2))
    (λ (here : i ≡ k). (n % 16, omega arith, get_or_at front (hex_char (n % 16)) [] 0 i (omega arith)))
    (before_or_last i k lt)

-- digits that differ are written differently
hex_apart : (c d : ℕ) → c < 16 → d < 16 → hex_char c ≡ hex_char d → c ≡ d
hex_apart c d l m e = grind (arith, nat_tests)

div_small : (k n : ℕ) → n < 16 ^ suc k → n / 16 < 16 ^ k
div_small k n l = omega (arith, pow-suc 16 k)

numbers_apart : (k m n : ℕ) → m < 16 ^ k → n < 16 ^ k → hex_text k m ≡ hex_text k n → m ≡ n
numbers_apart zero m n l o e = omega arith
numbers_apart (suc k) m n l o e =
    let p = same_from_push (hex_text k (m / 16)) (hex_text k (n / 16)) (hex_char (m % 16)) (hex_char (n % 16)) e in
    let rest : m / 16 ≡ n / 16 = numbers_apart k (m / 16) (n / 16) (div_small k m l) (div_small k n o) p.0 in
    let last : m % 16 ≡ n % 16 = hex_apart (m % 16) (n % 16) (omega arith) (omega arith) p.1 in
    omega arith

pub words_apart : WordsApart
unfolding word_text
words_apart v w l m e = numbers_apart 8 v w (omega arith) (omega arith) e

-- there is room for a digit more
pub digit_fits : (i n : ℕ) → i < 8 → n < 16 ^ i → n * 16 + 15 < 2 ^ 32
digit_fits i n lt small = let le : 16 ^ i ≤ 16 ^ 7 = pow-le-pow_right {n = 16} (omega arith) {i = i} {j = 7} (omega arith) in omega arith

pub digit_below : (i n d : ℕ) → d < 16 → n < 16 ^ i → n * 16 + d < 16 ^ (i + 1)
digit_below i n d lt small = rw (add-one) (omega (arith, pow-suc 16 i))

-- the digits of a word are those of its text, one by one
pub digits_more : (text : List ℕ) (i n d : ℕ) → i < length text → take i text ≡ hex_text i n → get_or text i 0 ≡ hex_char d → d < 16 → take (i + 1) text ≡ hex_text (i + 1) (n * 16 + d)
digits_more text i n d lt e f small =
    let more = take_more text i 0 lt in
    let last : hex_text i n ++ (get_or text i 0 ∷ []) ≡ hex_text i n ++ (hex_char d ∷ []) = ap (λ x. hex_text i n ++ (x ∷ [])) f in
    more ∙ ap (λ (front : List ℕ). front ++ (get_or text i 0 ∷ [])) e ∙ last ∙ sym (hex_more i n d small)

-- a byte that is no digit stands in no word
pub no_digit_no_word : (text : List ℕ) (i : ℕ) → i < 8 → ((d : ℕ) → d < 16 → get_or text i 0 ≡ hex_char d → ⊥) → NoWord text
unfolding word_text
no_digit_no_word text i lt none w e = let p = hex_place 8 w i lt in none p.0 p.1 (ap (λ (t : List ℕ). get_or t i 0) e ∙ p.2)

pub other_length_no_word : (text : List ℕ) → (length text ≡ 8 → ⊥) → NoWord text
unfolding word_text
other_length_no_word text other w e = other (ap length e ∙ length_hex 8 w)

pub whole_word : (text : List ℕ) (i n : ℕ) → length text ≡ 8 → length text ≤ i → i ≤ 8 → take i text ≡ hex_text i n → n < 16 ^ i → TextSays text (Some n)
unfolding word_text
whole_word text i n long all most e small =
    let same : i ≡ 8 = omega arith in
    let below : n < 16 ^ 8 = subst (λ k. n < 16 ^ k) same small in
    (omega arith, sym (take_all i text (omega arith)) ∙ e ∙ ap (λ k. hex_text k n) same)

-- a word is 8 bytes
pub length_word : (w : ℕ) → length (word_text w) ≡ 8
unfolding word_text
length_word w = length_hex 8 w
