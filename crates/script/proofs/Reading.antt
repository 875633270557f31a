-- Digits, one after another.
use Rattle.std.proofs.Common.{◌≡◌, ℕ, ◌+◌, ◌-◌, ◌*◌, ◌<◌, ◌≤◌, true, false, cond, ◌&&◌, leb, List, [], ◌∷◌, length, Some, None, decimal, refl, ap, ◌∙◌, arith, rules}
use Rattle.std.proofs.lemmas.Bool.Decides.{nat_tests}
use Rattle.std.proofs.lemmas.Fmt.{digits_decimal, digits_value-decimal, decimal_nonempty}
use Rattle.std.proofs.lemmas.Str.Parse.{IsNumeralModel, numerals_by_value, tells_all_ascii_digits}
use Rattle.std.specs.Str.Parse.{digits_value, digits_value_after}
use Rattle.std.specs.Char.{digit_value, is_ascii_digit}
use Rattle.std.specs.Str.{all_ascii_digits}
use Rattle.script.specs.Numbers.{number_of, number_after, ReadsBack}

-- digits never take a number down
value_ge : (n : ℕ) (ds : List ℕ) → n ≤ digits_value_after 10 n ds
value_ge n [] = omega arith
value_ge n (d ∷ ds) = omega (arith, value_ge (n * 10 + digit_value d) ds)

pub past_limit : (limit n : ℕ) (ds : List ℕ) → limit < n → number_after limit n ds ≡ None
past_limit limit n ds over =
    let e : leb (digits_value_after 10 n ds) limit ≡ false = let h = value_ge n ds in search rules in
    elim (all_ascii_digits ds) as (λ b. cond (b && leb (digits_value_after 10 n ds) limit) (Some (digits_value_after 10 n ds)) None ≡ None) [ true ↦ rw e refl | false ↦ refl ]

pub one_digit : (limit n c : ℕ) (cs : List ℕ) → is_ascii_digit c ≡ true → number_after limit n (c ∷ cs) ≡ number_after limit (n * 10 + (c - 48)) cs
one_digit limit n c cs e =
    let d : digit_value c ≡ c - 48 = grind (arith, nat_tests) in
    rw (e, d) refl

pub no_digit : (limit n c : ℕ) (cs : List ℕ) → is_ascii_digit c ≡ false → number_after limit n (c ∷ cs) ≡ None
no_digit limit n c cs e = rw e refl

pub at_end : (limit n : ℕ) → n ≤ limit → number_after limit n [] ≡ Some n
at_end limit n le = let e : leb n limit ≡ true = search rules in rw e refl

own : IsNumeralModel (λ ds. all_ascii_digits ds ≡ true) (digits_value 10)
own = numerals_by_value (λ ds. all_ascii_digits ds ≡ true) tells_all_ascii_digits

digits_read : (limit : ℕ) (ds : List ℕ) → 0 < length ds → all_ascii_digits ds ≡ true → digits_value 10 ds ≤ limit → number_of limit ds ≡ Some (digits_value 10 ds)
digits_read limit [] some all le = absurd (omega arith)
digits_read limit (d ∷ ds) some all le = let e : leb (digits_value 10 (d ∷ ds)) limit ≡ true = search rules in rw (all, e) refl

pub reads_back : ReadsBack
reads_back limit n le fits =
    let v = digits_value-decimal own n fits in
    digits_read limit (decimal n) (decimal_nonempty n fits) (digits_decimal own n fits) (omega arith) ∙ ap Some v
