-- Every call keeps what ties a store to its disk, and answers no block past the end.
use Rattle.std.proofs.Common.{◌≡◌, ℕ, ◌+◌, ◌-◌, ◌<◌, ◌≤◌, Bool, true, false, not, List, [], ◌∷◌, ◌++◌, length, ◌&&◌, ◌≢◌, Some, None, Ok, Err, Option, Result, sym, refl, ap, ◌∙◌, subst, inl, inr, arith, length-append}
use Rattle.std.proofs.lemmas.List.{append-nil}
use Rattle.std.proofs.lemmas.Bool.{true≢false}
use Rattle.std.proofs.lemmas.Bool.Decides.{nat_tests}
use Rattle.std.specs.Result.{MatchResult, IsErrAnd}
use Rattle.disks.specs.declared.refusal.Refusal.{Refusal}
use Rattle.transactions.specs.declared.store_refusal.StoreRefusal.{StoreRefusal}
use Rattle.transactions.specs.declared.store_refusal.StoreRefusal.TheVariants.{Disk as RefusedBy}
use Rattle.disks.specs.Values.{RefusalValues, PastEnd, Answer, answer_by}
use Rattle.disks.specs.Meaning.{Content, Whole}
use Rattle.disks.specs.declared.reader.Reader
use Rattle.disks.specs.declared.disk.Disk
use Rattle.store.specs.Layout.{HeaderValues, InRange, empty}
use Rattle.store.specs.Looks.{fit, empty_for}
use Rattle.store.proofs.Looking.{newest_within, block_within}
use Rattle.transactions.specs.StoreAnswers.{StoreRefusalValues, Disk, StoreDown, StoreAnswer, by_disk}
use Rattle.transactions.specs.Stores.{PhaseValues, Idle, Open, Down, StoreValues, on, down, is_down, is_open, first, Passes, start_checks, begin_checks, write_checks, read_checks, ticket_checks, write_block, noting}
use Rattle.transactions.specs.DiskWork.{formatting}
use Rattle.transactions.specs.Calls.{after, bare, closed, committed, settled, renewed, formatted, Begins, Abandons, Logs, CommitsIn, Commits, Writes, Reads, Settles, Restarts, Formats}
use Rattle.transactions.specs.Holding.{Ordered, Tied, Kept, Keeps}
use Rattle.transactions.proofs.Fair.{Lawful, Fair, done_on, never_past, fair_putting, fair_reading, fair_heading, fair_settling, fair_formatting}
use Rattle.transactions.proofs.Recovered.{Recovered, recovers_fairly}

-- a size for which there is a header
pub made_fit : (size : ℕ) (h : HeaderValues) → Some h ≡ empty_for size → (fit size ≡ true) × (h ≡ empty (size - 33))
made_fit size h e = (grind arith, grind arith)

-- a store that is up and not open has no ticket out
pub shut_idle : (p : PhaseValues) (o : Bool) → is_open p ≡ (o && not (is_down p)) → is_down p ≡ false → is_open p ≡ false → o ≡ false
shut_idle Idle o e f g = grind arith
shut_idle Open o e f g = cc
shut_idle Down o e f g = cc

-- a refusal of the store is that of its disk's work
pub refused_work : {X : Type 0} (work : Result X Refusal) (r : Result X StoreRefusal) (e : StoreRefusal) → MatchResult work (λ x. r ≡ Ok x) (λ x. IsErrAnd r (λ y. y ≡ RefusedBy x)) → r ≡ Err e →
    (x : Refusal) × (work ≡ Err x) × (e ≡ RefusedBy x)
refused_work (Ok x) r e m is = cc
refused_work (Err x) (Ok u) e m is = elim m [ ]
refused_work (Err x) (Err y) e m is = (x, refl, cc)

past_end : {X : Type 0} (q : Answer X) → by_disk q ≡ Err (Disk PastEnd) → q ≡ Err PastEnd
past_end q e = grind arith

module _ {D : Type 0} (R : Reader.Ghosts D) (W : Disk.Ghosts D) where
  -- a call that is refused by a check, or goes on
  by_checks : {X : Type 0} (o : Option StoreRefusalValues) (s t : StoreValues D) (r : StoreAnswer X) (work : Type 0) → (o ≢ Some (Disk PastEnd)) → Tied R s → Passes o s r t work →
      (o ≡ None → work → Kept R r t) → Kept R r t
  by_checks None s t r work own tie p more = more refl p
  by_checks (Some x) s t r work own tie p more = record { tied = subst (Tied R) (sym p.1) tie; inside = λ q. own cc }

  -- a call that made no disk call
  undisturbed : {X : Type 0} (r : StoreAnswer X) (x : X) (s t : StoreValues D) → Tied R s → Ordered t → r ≡ Ok x → t.disk ≡ s.disk → t.n ≡ s.n → (is_down t.phase ≡ false → is_down s.phase ≡ false) → Kept R r t
  undisturbed r x s t tie ord e d n up = record {
    tied = record {
      ordered = ord;
      sound = subst R.sound (sym d) tie.sound;
      power = λ u. ap (λ (m : D). (R.view m).state) d ∙ tie.power (up u);
      size = λ u. ap (λ (m : D). (R.view m).size) d ∙ tie.size (up u) ∙ ap (λ (k : ℕ). 33 + k) (sym n);
    };
    inside = λ q. cc;
  }

  -- a store that is down on a sound disk
  off : {X : Type 0} (r : StoreAnswer X) (t : StoreValues D) → Ordered t → R.sound t.disk → is_down t.phase ≡ true → (r ≡ Err (Disk PastEnd) → ⊥) → Kept R r t
  off r t ord snd d never = record { tied = record { ordered = ord; sound = snd; power = λ u. absurd (true≢false (sym d ∙ u)); size = λ u. absurd (true≢false (sym d ∙ u)) }; inside = never }

  -- a call whose disk work was fair: by the answer it leaves the store `left`
  worked : {X : Type 0} (x : X) (q : Answer X) (m : D) (n : ℕ) (r : StoreAnswer X) (t : StoreValues D) (left : Answer X → StoreValues D) → Ordered t → Fair R n x q m → r ≡ by_disk q → t ≡ left q →
      ((y : X) → ((left (Ok y)).disk ≡ m) × ((left (Ok y)).n ≡ n)) → ((e : RefusalValues) → ((left (Err e)).disk ≡ m) × (is_down (left (Err e)).phase ≡ true)) → Kept R r t
  worked x (Ok y) m n r t left ord f e is done stopped = record {
    tied = record {
      ordered = ord;
      sound = rw (is, (done y).0) f.sound;
      power = λ u. rw (is, (done y).0) (done_on x y (R.view m).state f.answer);
      size = λ u. rw (is, (done y).0, (done y).1) f.size;
    };
    inside = λ w. cc;
  }
  worked x (Err y) m n r t left ord f e is done stopped =
      off r t ord (rw (is, (stopped y).0) f.sound) (rw is (stopped y).1) (λ w. never_past x (R.view m).state (sym (past_end (Err y) (sym e ∙ w)) ∙ f.answer))

  pub begins_kept : (s t : StoreValues D) (r : StoreAnswer Unit) → Ordered t → Begins s r t → Keeps R s r t
  begins_kept s t r ord w tie =
      by_checks (first (begin_checks s)) s t r _ (grind arith) tie w
      (λ p v. undisturbed r tt s t tie ord v.0 (ap (λ (u : StoreValues D). u.disk) v.1) (ap (λ (u : StoreValues D). u.n) v.1) (λ _. grind arith))

  down_closed : (p : PhaseValues) → is_down (closed p) ≡ is_down p
  down_closed Idle = refl
  down_closed Open = refl
  down_closed Down = refl

  pub abandons_kept : (s t : StoreValues D) (r : StoreAnswer Unit) → Ordered t → Abandons s r t → Keeps R s r t
  abandons_kept s t r ord w tie =
      by_checks (first (ticket_checks s)) s t r _ (grind arith) tie w
      (λ p v. undisturbed r tt s t tie ord v.0 (ap (λ (u : StoreValues D). u.disk) v.1) (ap (λ (u : StoreValues D). u.n) v.1) (λ u. sym (down_closed s.phase) ∙ ap (λ (x : StoreValues D). is_down x.phase) (sym v.1) ∙ u))

  module _ (laws : Lawful R W) where
    write_within : (s : StoreValues D) (a : ℕ) → InRange (record { n = s.n; log = s.logged ++ s.opened }) → write_block s a < 33 + s.n
    write_within s a ok =
        let l = length-append s.logged s.opened in
        let few = ok.few in
        let some = ok.some in
        elim (newest_within (1 + length s.logged) s.opened a (1 + length (s.logged ++ s.opened))) [ inl h ↦ omega arith | inr h ↦ omega arith ]

    pub writes_kept : (s t : StoreValues D) (a : ℕ) (b : Content) (r : StoreAnswer Unit) → Whole b → Ordered t → Writes R W s a b r t → Keeps R s r t
    writes_kept s t a b r whole ord w tie =
        by_checks (first (write_checks s a)) s t r _ (grind arith) tie w
        (λ p v.
        let up : is_down s.phase ≡ false = grind arith in
        let f = fair_putting R W laws s.n (write_block s a) b (write_within s a tie.ordered.table) whole s.disk v.1 v.0 tie.sound (tie.size up) (tie.power up) v.2 in
        worked tt v.0 v.1 s.n r t (λ q. after q (on v.1 (noting s a))) ord f v.3 v.4 (λ y. (refl, refl)) (λ e. (refl, refl)))

    pub reads_kept : (s t : StoreValues D) (a : ℕ) (x : StoreAnswer Content) → Ordered t → Reads R W s a x t → Keeps R s x t
    reads_kept s t a x ord w tie =
        by_checks (first (read_checks s a)) s t x _ (grind arith) tie w
        (λ p v.
        let up : is_down s.phase ≡ false = grind arith in
        let lt : a < s.n = grind (arith, nat_tests) in
        let k = block_within (s.logged ++ s.opened) a s.n (33 + s.n) tie.ordered.table.few lt (omega arith) in
        let f = fair_reading R W laws s.n _ s.disk v.1 v.0 k tie.sound (tie.size up) (tie.power up) v.2 in
        worked _ v.0 v.1 s.n x t (λ y. after y (on v.1 s)) ord f v.3 v.4 (λ y. (refl, refl)) (λ e. (refl, refl)))

    logs_kept : (s t : StoreValues D) (r : StoreAnswer Unit) → Tied R s → Ordered t → is_down s.phase ≡ false → (ys : List ℕ) → Logs R W ys s r t → Kept R r t
    logs_kept s t r tie ord up [] w = undisturbed r tt s t tie ord w.0 (ap (λ (u : StoreValues D). u.disk) w.1) (ap (λ (u : StoreValues D). u.n) w.1) (λ _. up)
    logs_kept s t r tie ord up (a ∷ rest) w =
        let f = fair_heading R W laws s.n (record { n = s.n; log = s.logged ++ s.opened }) tie.ordered.table s.disk w.1 w.0 tie.sound (tie.size up) (tie.power up) w.2 in
        worked tt w.0 w.1 s.n r t (λ q. committed q w.1 s) ord f w.3 w.4 (λ y. (refl, refl)) (λ e. (refl, refl))

    pub commits_kept : (s t : StoreValues D) (r : StoreAnswer Unit) → Ordered t → Commits R W s r t → Keeps R s r t
    commits_kept s t r ord w tie = by_checks (first (ticket_checks s)) s t r _ (grind arith) tie w (λ p v. go s.phase refl v)
      where
        go : (ph : PhaseValues) → s.phase ≡ ph → CommitsIn R W ph s r t → Kept R r t
        go Idle e v = logs_kept s t r tie ord (ap is_down e) s.opened v
        go Open e v = logs_kept s t r tie ord (ap is_down e) s.opened v
        go Down e v =
            off r t ord (subst (λ (x : StoreValues D). R.sound x.disk) (sym v.1) tie.sound) (ap (λ (x : StoreValues D). is_down x.phase) v.1)
            (λ q. let z : ◌≡◌ {A = StoreAnswer Unit} (Err StoreDown) (Err (Disk PastEnd)) = sym v.0 ∙ q in cc)

    pub settles_kept : (s t : StoreValues D) (r : StoreAnswer Unit) → Ordered t → Settles R W s r t → Keeps R s r t
    settles_kept s t r ord w tie =
        by_checks (first (begin_checks s)) s t r _ (grind arith) tie w
        (λ p v.
        let up : is_down s.phase ≡ false = grind arith in
        let shut : is_open s.phase ≡ false = grind arith in
        let f = fair_settling R W laws s.n s.logged (logged up shut) s.disk v.1 v.0 tie.sound (tie.size up) (tie.power up) v.2 in
        worked tt v.0 v.1 s.n r t (λ q. settled q v.1 s) ord f v.3 v.4 (λ y. (refl, refl)) (λ e. (refl, refl)))
      where
        logged : is_down s.phase ≡ false → is_open s.phase ≡ false → InRange (record { n = s.n; log = s.logged })
        logged up shut =
            let none = tie.ordered.closed (shut_idle s.phase s.out tie.ordered.opens up shut) in
            subst (λ (xs : List ℕ). InRange (record { n = s.n; log = xs })) (ap (λ (ys : List ℕ). s.logged ++ ys) none ∙ append-nil s.logged) tie.ordered.table

    -- a size that is fit gives N
    fits : (size : ℕ) → not (fit size) ≡ false → (size ≡ 33 + (size - 33)) × (1 ≤ size - 33) × (size - 33 ≤ 4096)
    fits size e = (grind (arith, nat_tests), grind (arith, nat_tests), grind (arith, nat_tests))

    -- a format that its disk refused
    pub formats_refused : (s t : StoreValues D) (e : RefusalValues) (m : D) → s.out ≡ false → fit (R.view s.disk).size ≡ true → formatting R W ((R.view s.disk).size - 33) s.disk (Err e) m → t ≡ down (on m s) →
        Formats R W s (Err (Disk e)) t
    formats_refused s t e m out ok w is = rw (out, ok) (Err e, m, w, refl, rw out at is)

    pub formats_kept : (s t : StoreValues D) (r : StoreAnswer Unit) → Ordered t → Formats R W s r t → Keeps R s r t
    formats_kept s t r ord w tie =
        by_checks (first (start_checks (λ d. (R.view d).size) s)) s t r _ (grind arith) tie w
        (λ p v.
        let ok = fits (R.view s.disk).size (grind arith) in
        let f = fair_formatting R W laws ((R.view s.disk).size - 33) ok.1 ok.2 s.disk v.1 v.0 tie.sound ok.0 tt v.2 in
        worked tt v.0 v.1 ((R.view s.disk).size - 33) r t (λ q. formatted R W q v.1 s) ord f v.3 v.4 (λ y. (refl, refl)) (λ e. (refl, refl)))

    pub restarts_kept : (s t : StoreValues D) (r : StoreAnswer Unit) → Ordered t → Restarts R W s r t → Keeps R s r t
    restarts_kept s t r ord w tie =
        by_checks (first (start_checks (λ d. (R.view d).size) s)) s t r _ (grind arith) tie w
        (λ p v.
        let ok = fits (R.view s.disk).size (grind arith) in
        go v.0 v.1 (recovers_fairly R W laws ((R.view s.disk).size - 33) s.disk v.1 v.0 tie.sound ok.0 v.2) v.3 v.4)
      where
        go : (x : StoreAnswer HeaderValues) (m : D) → Recovered R W laws ((R.view s.disk).size - 33) x m → r ≡ bare x → t ≡ renewed x m s → Kept R r t
        go (Ok h) m f e is =
            let d = f.done h refl in
            let fair : Fair R ((R.view s.disk).size - 33) tt (Ok tt) m = record { sound = f.sound; size = f.size; answer = sym (ap (answer_by tt) d.0) } in
            worked tt (Ok tt) m ((R.view s.disk).size - 33) r t (λ q. formatted R W q m s) ord fair e (rw d.1 at is) (λ y. (refl, refl)) (λ e. (refl, refl))
        go (Err y) m f e is = off r t ord (rw is f.sound) (rw is refl) (λ q. f.inside (let z = sym e ∙ q in cc))
