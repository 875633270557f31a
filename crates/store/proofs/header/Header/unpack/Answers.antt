use Rattle.std.proofs.Common.{◌≡◌, ℕ, ◌+◌, ◌%◌, ◌<◌, length, get_or, take, drop, None, Option, arith}
use Rattle.disks.specs.Meaning.{Content, Whole}
use Rattle.std.proofs.lemmas.List.{take_all, length-drop}
use Rattle.std.proofs.lemmas.Bool.Decides.{nat_tests}
use Rattle.store.specs.Layout.{HeaderValues, n_in, count_in, fields_in, unpacked, OnlyPacking, UnpackedExamples}
use Rattle.store.specs.LogValues.{log_of}
use Rattle.store.specs.Bits.{WellFormedExactly}
use Rattle.store.proofs.Tests.{mark_is, WellFormed, accepted, refused}
use Rattle.store.proofs.Round.{only, exactly, unpacked_examples}
use Rattle.store.proofs.header.Header.unpack.Goals as goal

-- an end of unpack, by its value alone
end : (bs : Content) → length bs ≡ 512 → ((i : ℕ) → get_or bs i 0 < 256) → (r : Option HeaderValues) → r ≡ unpacked bs → record { value : r ≡ unpacked bs; only : OnlyPacking bs; exactly : WellFormedExactly bs; examples : UnpackedExamples }
end bs long bytes r e = let w : Whole bs = record { long = long; bytes = bytes } in record { value = e; only = only bs w; exactly = exactly bs w; examples = unpacked_examples }

-- the last bytes as the slice that holds_only takes
last : (bs : Content) → length bs ≡ 512 → take 459 (drop 53 bs) ≡ drop 53 bs
last bs e = take_all 459 (drop 53 bs) (simp length-drop (omega arith))

pub returns-in_err-log : goal.returns-in_err-log
returns-in_err-log c =
    let no_log = c.in_err-log.ensures in
    let none : None ≡ unpacked c.args.bytes.now = refused c.args.bytes.now (λ f. grind (arith, nat_tests)) in
    end _ c.told-bytes c.fits-bytes _ (cc)

pub returns-then-not-starts_with : goal.returns-then-not-starts_with
returns-then-not-starts_with c =
    let bs = c.args.bytes.now in
    let tail = last bs c.told-bytes in
    let mark = mark_is bs (omega arith) in
    let low = c.fits-bytes 3 in
    let log = c.in_ok-log.ensures in
    end _ c.told-bytes c.fits-bytes _ (refused bs (λ f. grind (arith, nat_tests)))

pub returns : goal.returns
returns c =
    let bs = c.args.bytes.now in
    let tail = last bs c.told-bytes in
    let mark = mark_is bs (omega arith) in
    let low = c.fits-bytes 3 in
    let log = c.in_ok-log.ensures in
    let f : WellFormed bs = record {
      mark_high = grind (arith, nat_tests);
      mark_low = grind (arith, nat_tests);
      layout = grind arith;
      few = grind (arith, nat_tests);
      zero_bits = grind arith;
      below = grind (arith, nat_tests);
      blank = grind (arith, nat_tests);
      rest = grind arith;
    } in
    let n : c.from_be_bytes-layout.result % 4096 + 1 ≡ n_in bs = omega arith in
    let named : log_of c.in_ok-log.log ≡ take (count_in bs) (fields_in bs) = grind (arith, nat_tests) in
    end _ c.told-bytes c.fits-bytes _ (cc (accepted bs f))
