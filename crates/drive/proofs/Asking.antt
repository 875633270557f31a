-- The calls that lines of two words and more ask for.
use Rattle.std.proofs.Common.{◌≡◌, ℕ, true, false, eqb, List, [], ◌∷◌, Some, None, Option, codes, sym, refl, ap, ◌∙◌, ⊎_elim, Bor, arith}
use Rattle.std.proofs.lemmas.Bool.{cases_Bool}
use Rattle.std.proofs.lemmas.Bool.Decides.{nat_tests}
use Rattle.std.proofs.lemmas.List.Splits.{join_with_byte-slice_split}
use Rattle.std.proofs.lemmas.Bool.{and_parts}
use Rattle.std.proofs.lemmas.Slice.Eq.{bytes_eq-Decides}
use Rattle.std.specs.Char.{is_ascii_digit}
use Rattle.std.specs.List.{join_with_byte}
use Rattle.std.specs.Option.{option_map}
use Rattle.std.specs.Str.{bytes_eq, all_ascii_digits}
use Rattle.script.specs.Numbers.{number_of}
use Rattle.script.specs.Pieces.{pieces, pieces_in}
use Rattle.script.proofs.Dividing.{pieces_some}
use Rattle.drive.specs.Calls.{by_words, call_of, write_with}
use Rattle.drive.specs.declared.call.DiskCall.{DiskCall}
use Rattle.drive.specs.declared.call.DiskCall.TheVariants.{Read}

no_space : (b : ℕ) → is_ascii_digit b ≡ true → eqb b 32 ≡ false
no_space b e = grind (arith, nat_tests)

-- a space is no digit
digits_one_word : (text : List ℕ) → all_ascii_digits text ≡ true → pieces 32 text ≡ text ∷ []
digits_one_word [] all = refl
digits_one_word (b ∷ bs) all =
    let p = and_parts (is_ascii_digit b) (all_ascii_digits bs) all in
    rw (no_space b p.0, digits_one_word bs p.1) refl

spaced_no_number : (limit : ℕ) (text p q : List ℕ) (ps : List (List ℕ)) → pieces 32 text ≡ p ∷ (q ∷ ps) → number_of limit text ≡ None
spaced_no_number limit [] p q ps e = cc
spaced_no_number limit (b ∷ bs) p q ps e =
    ⊎_elim
    (λ (all : all_ascii_digits (b ∷ bs) ≡ true). let one = digits_one_word (b ∷ bs) all in cc)
    (λ (other : all_ascii_digits (b ∷ bs) ≡ false). rw other refl)
    (cases_Bool (all_ascii_digits (b ∷ bs)))

one_word : (text p : List ℕ) → pieces 32 text ≡ p ∷ [] → p ≡ text
one_word text p e = ap (join_with_byte 32) (sym e) ∙ join_with_byte-slice_split 32 text

read_of : (words p : List ℕ) (ps : List (List ℕ)) → pieces 32 words ≡ p ∷ ps → option_map Read (number_of 65535 words) ≡ by_words (codes "read" ∷ (p ∷ ps))
read_of words p [] e = ap (λ (t : List ℕ). option_map Read (number_of 65535 t)) (sym (one_word words p e))
read_of words p (q ∷ []) e = rw (spaced_no_number 65535 words p q [] e) refl
read_of words p (q ∷ (r ∷ ps)) e = rw (spaced_no_number 65535 words p q (r ∷ ps) e) refl

no_byte : (block : Option ℕ) → write_with block None ≡ None
no_byte None = refl
no_byte (Some k) = refl

write_of : (block words p : List ℕ) (ps : List (List ℕ)) → pieces 32 words ≡ p ∷ ps →
    write_with (number_of 65535 block) (number_of 255 words) ≡ by_words (codes "write" ∷ (block ∷ (p ∷ ps)))
write_of block words p [] e = ap (λ (t : List ℕ). write_with (number_of 65535 block) (number_of 255 t)) (sym (one_word words p e))
write_of block words p (q ∷ ps) e = rw (spaced_no_number 255 words p q ps e) (no_byte (number_of 65535 block))

other_of : (name p : List ℕ) (ps : List (List ℕ)) → bytes_eq name (codes "read") ≡ false → bytes_eq name (codes "write") ≡ false → ◌≡◌ {A = Option DiskCall} None (by_words (name ∷ (p ∷ ps)))
other_of name p [] read write = rw read refl
other_of name p (q ∷ []) read write = rw write refl
other_of name p (q ∷ (r ∷ ps)) read write = refl

module _ (line name : List ℕ) (after : Option (Bor (List ℕ))) (words : Bor (List ℕ)) (named : pieces 32 line ≡ name ∷ pieces_in 32 after) (more : after ≡ Some words) where
  named_words : (p : List ℕ) × (ps : List (List ℕ)) × (pieces 32 words.now ≡ p ∷ ps) × (pieces 32 line ≡ name ∷ (p ∷ ps))
  named_words =
      let p = pieces_some 32 words.now in
      (p.0, p.1, p.2, named ∙ ap (λ (o : Option (Bor (List ℕ))). name ∷ pieces_in 32 o) more ∙ ap (λ (ps : List (List ℕ)). name ∷ ps) p.2)

  -- a block is all that may follow the name of a read
  pub read_call : bytes_eq name (codes "read") ≡ true → (k : Option ℕ) → k ≡ number_of 65535 words.now → option_map Read k ≡ call_of line
  read_call is k number =
      let p = named_words in
      ap (option_map Read) number ∙ read_of words.now p.0 p.1 p.2 ∙ ap (λ (n : List ℕ). by_words (n ∷ (p.0 ∷ p.1))) (sym ((bytes_eq-Decides name (codes "read")).0 is)) ∙ ap by_words (sym p.3)

  -- a block and a byte are all that may follow the name of a write
  pub write_call : bytes_eq name (codes "write") ≡ true → (block : List ℕ) (rest : Option (Bor (List ℕ))) (byte : Bor (List ℕ)) → pieces 32 words.now ≡ block ∷ pieces_in 32 rest → rest ≡ Some byte →
      (k b : Option ℕ) → k ≡ number_of 65535 block → b ≡ number_of 255 byte.now → write_with k b ≡ call_of line
  write_call is block rest byte divided last k b number fill =
      let p = pieces_some 32 byte.now in
      let two : pieces 32 words.now ≡ block ∷ (p.0 ∷ p.1) = divided ∙ ap (λ (o : Option (Bor (List ℕ))). block ∷ pieces_in 32 o) last ∙ ap (λ (ps : List (List ℕ)). block ∷ ps) p.2 in
      let three : pieces 32 line ≡ name ∷ (block ∷ (p.0 ∷ p.1)) = named ∙ ap (λ (o : Option (Bor (List ℕ))). name ∷ pieces_in 32 o) more ∙ ap (λ (ps : List (List ℕ)). name ∷ ps) two in
      ap (λ (k : Option ℕ). write_with k b) number ∙ ap (write_with (number_of 65535 block)) fill
      ∙ write_of block byte.now p.0 p.1 p.2 ∙ ap (λ (n : List ℕ). by_words (n ∷ (block ∷ (p.0 ∷ p.1)))) (sym ((bytes_eq-Decides name (codes "write")).0 is)) ∙ ap by_words (sym three)

  -- no other name has words after it
  pub other_call : bytes_eq name (codes "read") ≡ false → bytes_eq name (codes "write") ≡ false → None ≡ call_of line
  other_call read write = let p = named_words in other_of name p.0 p.1 read write ∙ ap by_words (sym p.3)
