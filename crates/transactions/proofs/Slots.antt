-- Where a write goes, by the table of the code.
use Rattle.std.proofs.Common.{◌≡◌, ℕ, suc, ◌+◌, ◌<◌, ◌≤◌, Bool, true, false, cond, ◌||◌, eqb, ◌⊎◌, List, [], ◌∷◌, ◌++◌, length, take, drop, Some, None, Option, unwrap_or, nat_lt, sym, refl, ap, ◌∙◌, inl, inr, arith}
use Rattle.std.proofs.lemmas.List.{length-take-le, take-append-drop, append_assoc, take_at, drop_at}
use Rattle.std.proofs.lemmas.Bool.{cases_Bool, cond-true, cond-false}
use Rattle.std.proofs.lemmas.Bool.Decides.{nat_tests}
use Rattle.std.specs.Bool.{then_some}
use Rattle.std.specs.Option.{MatchOption}
use Rattle.store.specs.Layout.{HeaderValues, has_room, with_address}
use Rattle.store.specs.Log.{newest}
use Rattle.store.proofs.Looking.{newest_within}
use Rattle.transactions.specs.Stores.{StoreValues, at, member}
use Rattle.transactions.specs.Slots.{open_slot, Notes}

newest_append : (k : ℕ) (xs ys : List ℕ) (a d : ℕ) → newest k (xs ++ ys) a d ≡ newest (k + length xs) ys a (newest k xs a d)
newest_append k [] ys a d = let e : k ≡ k + length {A = ℕ} [] = omega arith in ap (λ (i : ℕ). newest i ys a d) e
newest_append k (x ∷ xs) ys a d =
    let e : suc k + length xs ≡ k + length (x ∷ xs) = omega arith in
    newest_append (suc k) xs ys a (cond (eqb x a) k d) ∙ ap (λ (i : ℕ). newest i ys a (newest k (x ∷ xs) a d)) e

-- an address that is not in the list
newest_miss : (k : ℕ) (ys : List ℕ) (a d : ℕ) → member a ys ≡ false → newest k ys a d ≡ d
newest_miss k [] a d m = refl
newest_miss k (y ∷ ys) a d m = grind (arith, newest_miss (suc k) ys a d)

-- an address that is
newest_hit : (k : ℕ) (ys : List ℕ) (a d e : ℕ) → member a ys ≡ true → (newest k ys a d ≡ newest k ys a e) × (k ≤ newest k ys a d)
newest_hit k [] a d e m = cc
newest_hit k (y ∷ ys) a d e m = late (eqb y a) (cases_Bool (member a ys)) m (newest_hit (suc k) ys a)
  where
    late : (b : Bool) → (member a ys ≡ true) ⊎ (member a ys ≡ false) → (b || member a ys) ≡ true →
        ((d e : ℕ) → member a ys ≡ true → (newest (suc k) ys a d ≡ newest (suc k) ys a e) × (suc k ≤ newest (suc k) ys a d)) →
        (newest (suc k) ys a (cond b k d) ≡ newest (suc k) ys a (cond b k e)) × (k ≤ newest (suc k) ys a (cond b k d))
    late b (inl h) m hit = let more = hit (cond b k d) (cond b k e) h in (more.0, (let l = more.1 in omega arith))
    late true (inr h) m hit = (refl, (let l = newest_miss (suc k) ys a k h in omega arith))
    late false (inr h) m hit = cc

-- the newest slot of the whole table, and that of the open part
module _ {D : Type 0} (s : StoreValues D) (a : ℕ) (o : Option ℕ) (v : (d : ℕ) → unwrap_or o d ≡ newest 1 (s.logged ++ s.opened) a d) where
  parts : (d : ℕ) → unwrap_or o d ≡ newest (1 + length s.logged) s.opened a (newest 1 s.logged a d)
  parts d = v d ∙ newest_append 1 s.logged s.opened a d

  low : newest 1 s.logged a 0 ≤ length s.logged
  low = elim (newest_within 1 s.logged a 0) [ inl h ↦ omega arith | inr h ↦ omega arith ]

  if_open : member a s.opened ≡ true → (unwrap_or o 0 ≡ newest (1 + length s.logged) s.opened a 0) × (1 + length s.logged ≤ unwrap_or o 0)
  if_open m =
      let h = newest_hit (1 + length s.logged) s.opened a (newest 1 s.logged a 0) 0 m in
      (parts 0 ∙ h.0, (let p = parts 0 in let l = h.1 in omega arith))

  if_not : member a s.opened ≡ false → unwrap_or o 0 ≤ length s.logged
  if_not m = let p = parts 0 in let h = newest_miss (1 + length s.logged) s.opened a (newest 1 s.logged a 0) m in let l = low in omega arith

  pub slot_old : unwrap_or o 0 ≤ length s.logged → None ≡ open_slot s a
  slot_old le = grind (arith, if_open)

  pub slot_open : length s.logged < unwrap_or o 0 → Some (unwrap_or o 0) ≡ open_slot s a
  slot_open lt = grind (arith, if_open, if_not)

-- the newest slot of the table, kept if it is past those of the logged part
pub slot_filtered : {D : Type 0} (s : StoreValues D) (a k : ℕ) → k ≡ length s.logged → (o r : Option ℕ) (P : ℕ → Bool → Type 0) → ((d : ℕ) → unwrap_or o d ≡ newest 1 (s.logged ++ s.opened) a d) →
    ((x : ℕ) (b : Bool) → P x b → b ≡ nat_lt k x) → MatchOption o (r ≡ None) (λ x. (b : Bool) × P x b × (r ≡ then_some b x)) → r ≡ open_slot s a
slot_filtered s a k long None r P v test m = m ∙ slot_old s a None v (omega arith)
slot_filtered s a k long (Some x) r P v test m = m.2 ∙ go m.0 (test x m.0 m.1)
  where
    go : (b : Bool) → b ≡ nat_lt k x → then_some b x ≡ open_slot s a
    go true e = slot_open s a (Some x) v (grind (arith, nat_tests))
    go false e = slot_old s a (Some x) v (grind (arith, nat_tests))

-- what open_slot tells of the open writes
module _ {D : Type 0} (s : StoreValues D) (a : ℕ) where
  -- the open write is written again
  pub notes_again : (k : ℕ) → Some k ≡ open_slot s a → Notes s a (Some k) s
  notes_again k e lt =
      let m : member a s.opened ≡ true = grind arith in
      let hit = (newest_hit (1 + length s.logged) s.opened a 0 (1 + length (s.logged ++ s.opened)) m).0 in
      (grind arith, grind arith)

  -- there is no room for another
  pub notes_full : (t : StoreValues D) → None ≡ open_slot s a → (a < s.n → 32 ≤ length (s.logged ++ s.opened)) → t ≡ s → Notes s a None t
  notes_full t none long stays lt =
      let m : member a s.opened ≡ false = grind arith in
      let few = long lt in
      (grind (arith, nat_tests), grind (arith, nat_tests))

  -- a new open write
  pub notes_new : (k : ℕ) (t : StoreValues D) → None ≡ open_slot s a → length (s.logged ++ s.opened) < 32 → k ≡ 1 + length (s.logged ++ s.opened) →
      t ≡ at s.disk s.phase s.out s.n s.logged (s.opened ++ (a ∷ [])) → Notes s a (Some k) t
  notes_new k t none short e changed lt =
      let m : member a s.opened ≡ false = grind arith in
      let miss = newest_miss (1 + length s.logged) s.opened a (1 + length (s.logged ++ s.opened)) m in
      (grind (arith, nat_tests), grind (arith, nat_tests))

-- the table with one more address behind its open part
pub pushed_values : {D : Type 0} (d : D) (p : _) (o : Bool) (h t : HeaderValues) (k a : ℕ) → k ≤ length h.log → t ≡ record { n = h.n; log = h.log ++ (a ∷ []) } →
    at d p o t.n (take k t.log) (drop k t.log) ≡ at d p o h.n (take k h.log) (drop k h.log ++ (a ∷ []))
pushed_values d p o h t k a within e =
    let n : t.n ≡ h.n = ap (λ (x : HeaderValues). x.n) e in
    let split : t.log ≡ take k h.log ++ (drop k h.log ++ (a ∷ [])) = ap (λ (x : HeaderValues). x.log) e ∙ ap (λ (xs : List ℕ). xs ++ (a ∷ [])) (sym (take-append-drop k h.log)) ∙ append_assoc (take k h.log) (drop k h.log) (a ∷ []) in
    let long = length-take-le k h.log within in
    let one : take k t.log ≡ take k h.log = ap (take k) split ∙ take_at (take k h.log) (drop k h.log ++ (a ∷ [])) k long in
    let two : drop k t.log ≡ drop k h.log ++ (a ∷ []) = ap (drop k) split ∙ drop_at (take k h.log) (drop k h.log ++ (a ∷ [])) k long in
    cc

-- what push tells
pub has_room_true : (h : HeaderValues) (a : ℕ) → has_room h a ≡ true → (length h.log < 32) × (with_address h a ≡ record { n = h.n; log = h.log ++ (a ∷ []) })
has_room_true h a e = (grind (arith, nat_tests), cond-true (has_room h a) _ h e)

pub has_room_false : (h : HeaderValues) (a : ℕ) → has_room h a ≡ false → (a < h.n → 32 ≤ length h.log) × (with_address h a ≡ h)
has_room_false h a e = ((λ lt. grind (arith, nat_tests)), cond-false (has_room h a) _ h e)
