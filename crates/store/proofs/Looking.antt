-- Look: its ends, step by step, and what they mean.
use Rattle.std.proofs.Common.{◌≡◌, ℕ, suc, ◌+◌, ◌-◌, ◌<◌, ◌≤◌, Bool, true, false, ltb, ◌⊎◌, List, [], ◌∷◌, length, Some, None, Ok, Err, MatchBool, Option, sym, refl, ap, ◌∙◌, subst, inl, inr, arith}
use Rattle.disks.specs.Values.{StateValues, On, Dark, Dead, PastEnd, answer_by}
use Rattle.disks.specs.Meaning.{View, Content, Shown, Off, Kept, FacesKeep, NoneGained, Unchanged, Means, ReadMeans, ReadOn}
use Rattle.disks.specs.ImageLaws.{same}
use Rattle.disks.proofs.Views.{on_or_off, kept_then, faces_then, gained_then}
use Rattle.disks.specs.declared.reader.Reader
use Rattle.std.proofs.lemmas.Bool.Decides.{nat_tests}
use Rattle.std.proofs.lemmas.Bool.{both_ways, and_parts, leb-true, ltb-true, lt-ltb, le-ltb, cond-true, cond-false}
use Rattle.store.specs.Layout.{HeaderValues, unpacked}
use Rattle.store.specs.Log.{newest, block_for}
use Rattle.store.specs.LookValues.{LookAnswer, LookRefusalValues, Disk, UnfitSize, PastPlan, look_answer_by}
use Rattle.store.specs.Looks.{fit, plan_of, header_of, header_shown, at_address, found, passed_on, ReadsHeader, ReadsAddress, ReadsBlock, LooksAt, Looks, look_answer, LookMeans, met}
use Rattle.store.proofs.Tests.{log_fits}

-- a size that gives N is fit
pub plan_fit : (size n : ℕ) → plan_of size ≡ Some n → (fit size ≡ true) × (n ≡ size - 33)
plan_fit size n e = (grind (arith, nat_tests), grind (arith, nat_tests))

-- a header that is accepted is the one unpacked, and has the N that was asked for
pub header_is : (n : ℕ) (o : Option HeaderValues) (h : HeaderValues) → header_of n o ≡ Ok h → (o ≡ Some h) × (h.n ≡ n)
header_is n None h e = absurd cc
header_is n (Some k) h e = (grind (arith, nat_tests), grind (arith, nat_tests))

pub shown_n : (n : ℕ) (y : Shown) (h : HeaderValues) → Ok h ≡ header_shown n y → h.n ≡ n
shown_n n (Ok b) h e = (header_is n (unpacked b) h (sym e)).1
shown_n n (Err x) h e = absurd cc

pub when_holds : (P Q : Type 0) (b : Bool) → b ≡ true → P → MatchBool b P Q
when_holds P Q b e p = rw e p

pub when_fails : (P Q : Type 0) (b : Bool) → b ≡ false → Q → MatchBool b P Q
when_fails P Q b e q = rw e q

when_map : (P P' Q : Type 0) (b : Bool) → (P → P') → MatchBool b P Q → MatchBool b P' Q
when_map P P' Q true f p = f p
when_map P P' Q false f q = q

-- the three ends of a look at a reader of fit size
module _ {S : Type 0} (R : Reader.Ghosts S) (s m t : S) (a n : ℕ) (planned : plan_of (R.view s).size ≡ Some n) where
  begun : (x : LookAnswer Content) (h : LookAnswer HeaderValues) → ReadsHeader R n s h m → ReadsAddress R h m a x t → Looks R s a x t
  begun x h r next =
      let p = plan_fit (R.view s).size n planned in
      when_holds (LooksAt R s a x t) _ (fit (R.view s).size) p.0 (h, m, subst (λ (k : ℕ). ReadsHeader R k s h m) p.1 r, next)

  pub looks_refused : (e : LookRefusalValues) → ReadsHeader R n s (Err e) m → t ≡ m → Looks R s a (Err e) t
  looks_refused e r stays = begun (Err e) (Err e) r (refl, stays)

  pub looks_past : (h : HeaderValues) → ReadsHeader R n s (Ok h) m → n ≤ a → t ≡ m → Looks R s a (Err PastPlan) t
  looks_past h r le stays =
      let e = shown_n n r.0 h r.2 in
      begun (Err PastPlan) (Ok h) r (when_fails _ ((Err PastPlan ≡ Err PastPlan) × (t ≡ m)) (ltb a h.n) (le-ltb a h.n (omega arith)) (refl, stays))

  pub looks_read : (h : HeaderValues) (k : ℕ) (y : Shown) → ReadsHeader R n s (Ok h) m → a < n → k ≡ block_for h.log a → R.reads m k y t → Looks R s a (passed_on y) t
  looks_read h k y r lt at shown =
      let e = shown_n n r.0 h r.2 in
      begun (passed_on y) (Ok h) r (when_holds (ReadsBlock R (block_for h.log a) m (passed_on y) t) _ (ltb a h.n) (lt-ltb a h.n (omega arith)) (y, subst (λ (b : ℕ). R.reads m b y t) at shown, refl))

-- a slot of the log, or the block given
pub newest_within : (k : ℕ) (log : List ℕ) (a d : ℕ) → newest k log a d < k + length log ⊎ (newest k log a d ≡ d)
newest_within k [] a d = inr refl
newest_within k (x ∷ log) a d = grind (arith, nat_tests, newest_within (suc k) log a k, newest_within (suc k) log a d)

pub block_within : (log : List ℕ) (a n size : ℕ) → length log ≤ 32 → a < n → n ≡ size - 33 → block_for log a < size
block_within log a n size few lt e = grind (arith, newest_within 1 log a (33 + a))

header_by : (n : ℕ) (b : Content) (st : StateValues) → header_shown n (answer_by b st) ≡ look_answer_by (header_of n (unpacked b)) st
header_by n b On = refl
header_by n b (Dark c) = refl
header_by n b (Dead c) = refl

passed_by : (b : Content) (st : StateValues) → passed_on (answer_by b st) ≡ look_answer_by (Ok b) st
passed_by b On = refl
passed_by b (Dark c) = refl
passed_by b (Dead c) = refl

-- what is left of a look at a reader of fit size that is on
record LookOn (v : View) (a : ℕ) (x : LookAnswer Content) (w : View) : Type 0 where
  kept : Kept v w
  answer : x ≡ look_answer_by (found v.size v.face a) w.state
  faces : w.state ≡ On → FacesKeep v w
  gained : NoneGained v w

-- The steps of a look whose reads mean what a reader's do: the same steps, and what they mean together.
module _ {S : Type 0} (R : Reader.Ghosts S) where
  address_steps : (h : LookAnswer HeaderValues) (m t : S) (a : ℕ) (x : LookAnswer Content) → ReadsAddress (met R) h m a x t → ReadsAddress R h m a x t
  address_steps (Ok h) m t a x r = when_map _ _ _ (ltb a h.n) (λ b. (b.0, b.1.0, b.2)) r
  address_steps (Err e) m t a x r = r

  pub look_steps : (s t : S) (a : ℕ) (x : LookAnswer Content) → Looks (met R) s a x t → Looks R s a x t
  look_steps s t a x l =
      when_map (LooksAt (met R) s a x t) (LooksAt R s a x t) _ (fit (R.view s).size)
      (λ l. (l.0, l.1, (l.2.0, l.2.1.0, l.2.2), address_steps l.0 l.1 t a x l.3)) l

  -- a reader that is off after its header was read ends the look
  stops : (h H : LookAnswer HeaderValues) (m t : S) (a : ℕ) (x f : LookAnswer Content) (st : StateValues) → Off st → h ≡ look_answer_by H st →
      ReadsAddress (met R) h m a x t → (x ≡ look_answer_by f st) × (t ≡ m)
  stops h H m t a x f On off e r = absurd off
  stops h H m t a x f (Dark c) off e r = subst (λ (k : LookAnswer HeaderValues). ReadsAddress (met R) k m a x t) e r
  stops h H m t a x f (Dead c) off e r = subst (λ (k : LookAnswer HeaderValues). ReadsAddress (met R) k m a x t) e r

  module _ (s m : S) (a : ℕ) (y : Shown) (read : ReadOn (R.view s) 0 y (R.view m)) where
    -- the look ends where the header was read
    ended : (t : S) (x : LookAnswer Content) → x ≡ look_answer_by (found (R.view s).size (R.view s).face a) (R.view m).state → t ≡ m → LookOn (R.view s) a x (R.view t)
    ended t x e stays =
        subst (λ (u : S). LookOn (R.view s) a x (R.view u)) (sym stays)
        (record { kept = read.kept; answer = e; faces = read.faces; gained = read.gained })

    -- the look ends there with a refusal of its own
    refused : (t : S) (x : LookAnswer Content) (e : LookRefusalValues) → found (R.view s).size (R.view s).face a ≡ Err e → R.sound m → (R.view m).state ≡ On →
        (x ≡ Err e) × (t ≡ m) → R.sound t × LookOn (R.view s) a x (R.view t)
    refused t x e is snd still q = (
      subst R.sound (sym q.1) snd,
      ended t x (q.0 ∙ sym is ∙ sym (ap (look_answer_by (found (R.view s).size (R.view s).face a)) still)) q.1,
    )

    -- the block of the address is read too
    went_on : (t : S) (x : LookAnswer Content) (h : HeaderValues) → (R.view m).state ≡ On → fit (R.view s).size ≡ true →
        header_of ((R.view s).size - 33) (unpacked ((R.view s).face 0)) ≡ Ok h → a < h.n → ReadsBlock (met R) (block_for h.log a) m x t → R.sound m →
        R.sound t × LookOn (R.view s) a x (R.view t)
    went_on t x h still ok is lt r snd = (
      p.0,
      record {
        kept = kept_then v vm w read.kept second.kept;
        answer = r.2 ∙ ap passed_on second.answer ∙ passed_by (vm.face k) w.state ∙ ap (λ z. look_answer_by z w.state) (sym shows);
        faces = λ o. faces_then v vm w read.kept (read.faces still) (second.faces o);
        gained = gained_then v vm w read.kept read.gained second.gained;
      },
    )
      where
        k : ℕ
        k = block_for h.log a

        v : View
        v = R.view s

        vm : View
        vm = R.view m

        w : View
        w = R.view t

        p : R.sound t × ReadMeans vm k r.0 w
        p = r.1.1 snd

        unpacks : (unpacked (v.face 0) ≡ Some h) × (h.n ≡ v.size - 33)
        unpacks = header_is (v.size - 33) (unpacked (v.face 0)) h is

        inside : k < v.size
        inside = block_within h.log a h.n v.size (log_fits (v.face 0) h unpacks.0) lt unpacks.1

        second : ReadOn vm k r.0 w
        second = p.1.on (subst (λ (n : ℕ). k < n) (sym read.kept.size) inside) still

        shows : found v.size v.face a ≡ Ok (vm.face k)
        shows = ap (λ z. at_address z v.face a) is ∙ cond-true (ltb a h.n) _ _ (lt-ltb a h.n lt) ∙ ap (λ (b : Content). Ok b) (sym (read.faces still k inside))

    -- the reader is still on: what follows goes by the header
    by_header : (t : S) (x : LookAnswer Content) → fit (R.view s).size ≡ true → R.sound m → (R.view m).state ≡ On →
        (h : LookAnswer HeaderValues) → header_of ((R.view s).size - 33) (unpacked ((R.view s).face 0)) ≡ h → ReadsAddress (met R) h m a x t → R.sound t × LookOn (R.view s) a x (R.view t)
    by_header t x f snd still (Ok h) is q = go (ltb a h.n) refl q
      where
        go : (b : Bool) → ltb a h.n ≡ b → MatchBool b (ReadsBlock (met R) (block_for h.log a) m x t) ((x ≡ Err PastPlan) × (t ≡ m)) → R.sound t × LookOn (R.view s) a x (R.view t)
        go true l r = went_on t x h still f is (ltb-true a h.n l) r snd
        go false l r = refused t x PastPlan (ap (λ z. at_address z (R.view s).face a) is ∙ cond-false (ltb a h.n) _ _ l) snd still r
    by_header t x f snd still (Err e) is q = refused t x e (ap (λ z. at_address z (R.view s).face a) is) snd still q

    -- the look after its header was read
    after_header : (t : S) (x : LookAnswer Content) (h : LookAnswer HeaderValues) → fit (R.view s).size ≡ true → R.sound m → h ≡ header_shown ((R.view s).size - 33) y →
        ReadsAddress (met R) h m a x t → R.sound t × LookOn (R.view s) a x (R.view t)
    after_header t x h f snd shows q = go (on_or_off (R.view m).state)
      where
        H : LookAnswer HeaderValues
        H = header_of ((R.view s).size - 33) (unpacked ((R.view s).face 0))

        e : h ≡ look_answer_by H (R.view m).state
        e = shows ∙ ap (header_shown ((R.view s).size - 33)) read.answer ∙ header_by ((R.view s).size - 33) ((R.view s).face 0) (R.view m).state

        go : ((R.view m).state ≡ On) ⊎ Off (R.view m).state → R.sound t × LookOn (R.view s) a x (R.view t)
        go (inl still) = by_header t x f snd still H refl (subst (λ (k : LookAnswer HeaderValues). ReadsAddress (met R) k m a x t) (e ∙ ap (look_answer_by H) still) q)
        go (inr off) =
            let z = stops h H m t a x (found (R.view s).size (R.view s).face a) (R.view m).state off e q in
            (subst R.sound (sym z.1) snd, ended t x z.0 z.1)

  pub look_means : (s t : S) (a : ℕ) (x : LookAnswer Content) → Looks (met R) s a x t → Means R.view R.sound s t (λ v w. LookMeans v a x w)
  look_means s t a x l snd = go (fit (R.view s).size) refl l
    where
      v : View
      v = R.view s

      still : t ≡ s → Unchanged v (R.view t)
      still e = subst (λ (u : S). Unchanged v (R.view u)) (sym e) (same v)

      unfit : (x ≡ Err UnfitSize) × (t ≡ s) → fit v.size ≡ false → R.sound t × LookMeans v a x (R.view t)
      unfit q f = (
        subst R.sound (sym q.1) snd,
        record {
          kept = (still q.1).kept;
          answer = q.0 ∙ sym (cond-false (fit v.size) _ _ f);
          faces = λ _. (still q.1).faces;
          gained = (still q.1).gained;
          unfit = λ _. still q.1;
          off = λ _. still q.1;
        },
      )

      at : fit v.size ≡ true → LooksAt (met R) s a x t → (v.state ≡ On) ⊎ Off v.state → R.sound t × LookMeans v a x (R.view t)
      at f l (inr off) =
          let big = leb-true 34 v.size (and_parts _ _ f).0 in
          let r = l.2.1.1 snd in
          let q = r.1.off (omega arith) off in
          let e = l.2.2 ∙ ap (header_shown (v.size - 33)) q.0 ∙ header_by (v.size - 33) (v.face 0) v.state in
          let z = stops l.0 _ l.1 t a x (found v.size v.face a) v.state off e l.3 in
          let u : Unchanged v (R.view t) = subst (λ (m : S). Unchanged v (R.view m)) (sym z.1) q.1 in (
            subst R.sound (sym z.1) r.0,
            record {
              kept = u.kept;
              answer = z.0 ∙ sym (ap (look_answer_by (found v.size v.face a)) u.state) ∙ sym (cond-true (fit v.size) _ _ f);
              faces = λ _. u.faces;
              gained = u.gained;
              unfit = λ g. absurd (both_ways _ g f);
              off = λ _. u;
            },
          )
      at f l (inl on) =
          let big = leb-true 34 v.size (and_parts _ _ f).0 in
          let r = l.2.1.1 snd in
          let p = after_header s l.1 a l.2.0 (r.1.on (omega arith) on) t x l.0 f r.0 l.2.2 l.3 in (
            p.0,
            record {
              kept = p.1.kept;
              answer = p.1.answer ∙ sym (cond-true (fit v.size) _ _ f);
              faces = p.1.faces;
              gained = p.1.gained;
              unfit = λ g. absurd (both_ways _ g f);
              off = λ off. absurd (subst Off on off);
            },
          )

      go : (b : Bool) → fit v.size ≡ b → MatchBool b (LooksAt (met R) s a x t) ((x ≡ Err UnfitSize) × (t ≡ s)) → R.sound t × LookMeans v a x (R.view t)
      go true f l = at f l (on_or_off v.state)
      go false f q = unfit q f

-- look never answers that a block lies past the end
never_past : (v : View) (a : ℕ) (st : StateValues) → look_answer v a st ≡ Err (Disk PastEnd) → ⊥
never_past v a On e = grind (arith, nat_tests)
never_past v a (Dark c) e = grind (arith, nat_tests)
never_past v a (Dead c) e = grind (arith, nat_tests)

pub look_inside : {S : Type 0} (R : Reader.Ghosts S) (s t : S) (a : ℕ) (x : LookAnswer Content) → Looks (met R) s a x t → R.sound s → x ≡ Err (Disk PastEnd) → ⊥
look_inside R s t a x l snd e = never_past (R.view s) a (R.view t).state (sym (look_means R s t a x l snd).1.answer ∙ e)

-- faces that keep below the size show the same
pub answer_keeps : (v w : View) (a : ℕ) (st : StateValues) → Kept v w → FacesKeep v w → look_answer w a st ≡ look_answer v a st
answer_keeps v w a st kept faces =
    let shown : (h : HeaderValues) → unpacked (v.face 0) ≡ Some h → a < h.n → h.n ≡ v.size - 33 → w.face (block_for h.log a) ≡ v.face (block_for h.log a) =
    λ h u lt n. faces (block_for h.log a) (block_within h.log a h.n v.size (log_fits (v.face 0) h u) lt n) in
    grind (arith, nat_tests, faces 0, shown)

-- a done answer is given by a reader that is on
pub answer_on : (v : View) (a : ℕ) (st : StateValues) (b : Content) → Ok b ≡ look_answer v a st → st ≡ On
answer_on v a On b e = refl
answer_on v a (Dark c) b e = grind (arith, nat_tests)
answer_on v a (Dead c) b e = grind (arith, nat_tests)
