-- The newest of some writes to a block, as a search from the back finds it.
use Rattle.std.proofs.Common.{◌≡◌, ℕ, Bool, true, false, cond, List, [], ◌∷◌, ◌++◌, reverse, Some, None, Option, Bor, refl, sym, ap, ◌∙◌, ◌==◌}
use Rattle.std.proofs.lemmas.List.{reverse-append}
use Rattle.std.proofs.lemmas.List.Folds.{find-append}
use Rattle.std.specs.List.{find}
use Rattle.std.specs.Option.{option_map, option_map_or, option_or}
use Rattle.disks.specs.Meaning.{Content}
use Rattle.bench_disks.specs.declared.waiting.WaitingWrite.{WaitingWrite}
use Rattle.bench_disks.specs.Waiting.{newest}

-- a write is newer than those before it
pub newest_append : (xs ys : List WaitingWrite) (k : ℕ) (b : Content) → newest (xs ++ ys) k b ≡ newest ys k (newest xs k b)
newest_append [] ys k b = refl
newest_append (x ∷ xs) ys k b = newest_append xs ys k (cond (x.block == k) x.content b)

module _ (k : ℕ) where
  abbrev to_block : WaitingWrite → Bool
  to_block w = w.block == k

  abbrev content_or : Option WaitingWrite → Content → Content
  content_or o b = option_map_or (λ w. w.content) o b

  one_more : (o : Option WaitingWrite) (w : WaitingWrite) (b : Content) → content_or o (cond (to_block w) w.content b) ≡ content_or (option_or o (find to_block (w ∷ []))) b
  one_more (Some x) w b = refl
  one_more None w b = go (to_block w)
    where
      go : (t : Bool) → cond t w.content b ≡ content_or (cond t (Some w) None) b
      go true = refl
      go false = refl

  last_found : (ws : List WaitingWrite) (b : Content) → newest ws k b ≡ content_or (find to_block (reverse ws)) b
  last_found [] b = refl
  last_found (w ∷ ws) b =
      last_found ws (cond (to_block w) w.content b) ∙ one_more (find to_block (reverse ws)) w b
      ∙ ap (λ o. content_or o b) (sym (find-append to_block (reverse ws) (w ∷ [])) ∙ ap (find to_block) (sym (reverse-append (w ∷ []) ws)))

  pub newest_is : (ws : List WaitingWrite) (r : Option (Bor WaitingWrite)) (b : Content) → option_map (λ w. w.now) r ≡ find to_block (reverse ws) → newest ws k b ≡ option_map_or (λ w. w.now.content) r b
  newest_is ws None b e = last_found ws b ∙ ap (λ o. content_or o b) (sym e)
  newest_is ws (Some w) b e = last_found ws b ∙ ap (λ o. content_or o b) (sym e)
