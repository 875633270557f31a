use Rattle.std.proofs.Common.{ℕ, List, [], ◌∷◌, ◌++◌, length, vec_items, Some, None, sym, ap, ◌∙◌, arith, false-eqb}
use Rattle.std.proofs.lemmas.Bool.Decides.{Decides-eqb}
use Rattle.std.proofs.lemmas.Slice.Eq.{strip_prefix_is}
use Rattle.std.specs.List.{flat_map}
use Rattle.script.specs.Words.{spaced}
use Rattle.script.proofs.Scheduling.{fits_more, no_more, no_space, word_more}
use Rattle.script.proofs.schedule_line.read_words.Goals as goal

pub returns-in_err-rest : goal.returns-in_err-rest
returns-in_err-rest c =
    let done = vec_items c.loop.words in
    let rest = c.loop.rest.now in
    let after = c.in_ok-word.after.now in
    let other = strip_prefix_is Decides-eqb after (32 ∷ []) None c.in_err-rest.ensures.cases in
    rw c.from_residual-in_err-rest.ensures (no_more c.args.line.now done rest c.requires.begins c.loop.invariant.read (no_space rest after c.in_ok-word.word (length done) c.in_ok-word.ensures.1 (false-eqb _ _ c.if-is_empty.ensures) other))

pub loop-preserved : goal.loop-preserved
loop-preserved c =
    let line = c.args.line.now in
    let done = vec_items c.loop.words in
    let after = c.in_ok-word.after.now in
    let ws = vec_items c.push_reserved.new.self in
    let space = strip_prefix_is Decides-eqb after (32 ∷ []) (Some c.in_ok-rest.rest) c.in_ok-rest.ensures.cases in
    let more = word_more line done c.loop.rest.now after c.in_ok-word.word c.loop.invariant.read c.in_ok-word.ensures.1 in
    let items = c.push_reserved.ensures.items in
    let len = c.push_reserved.ensures.len in
    let capacity = c.push_reserved.ensures.capacity in
    record {
      room = (omega arith, omega arith);
      fit = fits_more done ws c.in_ok-word.word c.loop.invariant.fit c.in_ok-word.ensures.0 items;
      read = more ∙ ap (λ (vs : List ℕ). flat_map spaced vs ++ after) (sym items) ∙ ap (λ (t : List ℕ). flat_map spaced ws ++ t) space;
    }
