-- What a comparison means, from what each of its looks means.
use Rattle.std.proofs.Common.{◌≡◌, ℕ, zero, suc, ◌-◌, ◌<◌, min, Bool, true, false, cond, List, ◌++◌, Some, None, Ok, Err, Option, unwrap_or, sym, refl, ap, ◌∙◌, subst, inl, inr, arith}
use Rattle.disks.specs.Values.{On}
use Rattle.disks.specs.Meaning.{View, Content, Off, Kept, FacesKeep, NoneGained, Unchanged}
use Rattle.disks.specs.ImageLaws.{same}
use Rattle.disks.proofs.Views.{kept_then, faces_then, gained_then, unchanged_then}
use Rattle.disks.specs.declared.reader.Reader
use Rattle.std.proofs.lemmas.Bool.{cases_lt, leb-true, and_parts}
use Rattle.std.specs.Option.{option_to_list}
use Rattle.store.specs.LookValues.{LookAnswer}
use Rattle.store.specs.Looks.{fit, Looks, look_answer}
use Rattle.store.proofs.Looking.{answer_keeps, answer_on}
use Rattle.compare.specs.Differences.{difference, differences}
use Rattle.compare.specs.Outcomes.{StopValues, Refused, Outcome}
use Rattle.compare.specs.Compares.{shared, ComparesAt, Compared, Compares, LooksMeant, shows, block_in, plan, ShowsAll, Left, Meant, CompareMeans}
use Rattle.compare.specs.declared.difference.Difference.{Difference}
use Rattle.compare.proofs.Turns.{compares_to}
use Rattle.compare.specs.declared.stop.Side.TheVariants.{Old, New}

-- one address at least is looked up
shared_some : (m n : ℕ) → 0 < shared m n
shared_some m n = go (fit (min m n)) refl
  where
    go : (b : Bool) → fit (min m n) ≡ b → 0 < unwrap_or (cond b (Some (min m n - 33)) None) 1
    go true f = let big = leb-true 34 (min m n) (and_parts _ _ f).0 in omega arith
    go false f = omega arith

-- done looks leave size, height and faces, and gain no candidate
record Steady (v w : View) : Type 0 where
  kept : Kept v w
  faces : FacesKeep v w
  gained : NoneGained v w
  unfit : fit v.size ≡ false → Unchanged v w
  off : Off v.state → Unchanged v w

steady_same : (v : View) → Steady v v
steady_same v = let u = same v in record { kept = u.kept; faces = u.faces; gained = u.gained; unfit = λ _. u; off = λ _. u }

left_steady : (v w : View) → Steady v w → Left v w
left_steady v w s = record { kept = s.kept; faces = λ _. s.faces; gained = s.gained; unfit = s.unfit; off = s.off }

left_then : (v m w : View) → Steady v m → Left m w → Left v w
left_then v m w s l = record {
  kept = kept_then v m w s.kept l.kept;
  faces = λ o. faces_then v m w s.kept s.faces (l.faces o);
  gained = gained_then v m w s.kept s.gained l.gained;
  unfit = λ f. unchanged_then v m w (s.unfit f) (l.unfit (ap fit s.kept.size ∙ f));
  off = λ o. let u = s.off o in unchanged_then v m w u (l.off (subst Off (sym u.state) o));
}

-- one side: a look after done ones
module _ {S : Type 0} (R : Reader.Ghosts S) (v : View) (m t : S) (a : ℕ) (steady : Steady v (R.view m)) (snd : R.sound m) where
  looked : (x : LookAnswer Content) → LooksMeant R m a x t → R.sound t × Left v (R.view t) × (x ≡ look_answer v a (R.view t).state)
  looked x l =
      let p = l.1 snd in
      let left : Left (R.view m) (R.view t) = record { kept = p.1.kept; faces = p.1.faces; gained = p.1.gained; unfit = p.1.unfit; off = p.1.off } in
      (p.0, left_then v (R.view m) (R.view t) steady left, p.1.answer ∙ answer_keeps v (R.view m) a (R.view t).state steady.kept steady.faces)

  looked_done : (b : Content) → LooksMeant R m a (Ok b) t → R.sound t × Steady v (R.view t) × ((R.view t).state ≡ On) × (shows v a ≡ Ok b)
  looked_done b l =
      let q = looked (Ok b) l in
      let on = answer_on v a (R.view t).state b q.2 in
      (q.0, record { kept = q.1.kept; faces = q.1.faces on; gained = q.1.gained; unfit = q.1.unfit; off = q.1.off }, on, sym (q.2 ∙ ap (look_answer v a) on))

-- what is shown at an address is the plan's block
planned : (v : View) (a : ℕ) (b : Content) → shows v a ≡ Ok b → (plan v a ≡ b) × (shows v a ≡ Ok (plan v a))
planned v a b e = let p : plan v a ≡ b = ap block_in e in (p, e ∙ ap (λ (c : Content). Ok c) (sym p))

shows_more : (v : View) (a : ℕ) → ShowsAll a v → shows v a ≡ Ok (plan v a) → ShowsAll (suc a) v
shows_more v a all here j lt =
    elim (cases_lt j a) [ inl l ↦ all j l | inr g ↦ (let e : a ≡ j = omega arith in subst (λ (i : ℕ). shows v i ≡ Ok (plan v i)) e here) ]

module _ {A B : Type 0} (R₀ : Reader.Ghosts A) (R₁ : Reader.Ghosts B) (s : A) (t : B) (snd₀ : R₀.sound s) (snd₁ : R₁.sound t) where
  -- the first a addresses, compared without a refusal
  record Went (a : ℕ) (ds : List Difference) (m : A) (k : B) : Type 0 where
    sound₀ : R₀.sound m
    sound₁ : R₁.sound k
    old : Steady (R₀.view s) (R₀.view m)
    new : Steady (R₁.view t) (R₁.view k)
    all₀ : ShowsAll a (R₀.view s)
    all₁ : ShowsAll a (R₁.view t)
    list : ds ≡ differences a (plan (R₀.view s)) (plan (R₁.view t))
    on : 0 < a → ((R₀.view m).state ≡ On) × ((R₁.view k).state ≡ On)

  turn : (a : ℕ) (es ds : List Difference) (m s' : A) (k t' : B) (d : Option Difference) → Went a es m k → ComparesAt (LooksMeant R₀) (LooksMeant R₁) a m k (Ok d) s' t' →
      ds ≡ es ++ option_to_list d → Went (suc a) ds s' t'
  turn a es ds m s' k t' d w (Err e, l, n) f = absurd (cc n.0)
  turn a es ds m s' k t' d w (Ok b, l, (Err e, r, n)) f = absurd (cc)
  turn a es ds m s' k t' d w (Ok b, l, (Ok c, r, n)) f =
      let p = looked_done R₀ (R₀.view s) m s' a w.old w.sound₀ b l in
      let q = looked_done R₁ (R₁.view t) k t' a w.new w.sound₁ c r in
      let pb = planned (R₀.view s) a b p.3 in
      let qc = planned (R₁.view t) a c q.3 in
      let is : d ≡ difference a 0 b c = cc in
      record {
        sound₀ = p.0;
        sound₁ = q.0;
        old = p.1;
        new = q.1;
        all₀ = shows_more (R₀.view s) a w.all₀ pb.1;
        all₁ = shows_more (R₁.view t) a w.all₁ qc.1;
        list = cc (f, w.list, is, pb.0, qc.0);
        on = λ _. (p.2, q.2);
      }

  went : (a : ℕ) (ds : List Difference) (m : A) (k : B) → Compared (LooksMeant R₀) (LooksMeant R₁) a s t ds m k → Went a ds m k
  went zero ds m k (e, f, g) = rw (f, g) (record {
    sound₀ = snd₀;
    sound₁ = snd₁;
    old = steady_same (R₀.view s);
    new = steady_same (R₁.view t);
    all₀ = λ j lt. absurd (omega arith);
    all₁ = λ j lt. absurd (omega arith);
    list = e;
    on = λ lt. absurd (omega arith);
  })
  went (suc a) ds s' t' (m, k, es, d, before, at, e) = turn a es ds m s' k t' d (went a es m k before) at e

  -- the refusal of either side at an address
  refused : (a : ℕ) (es : List Difference) (m s' : A) (k t' : B) (e : StopValues) → a < shared (R₀.view s).size (R₁.view t).size → Went a es m k →
      ComparesAt (LooksMeant R₀) (LooksMeant R₁) a m k (Err e) s' t' → R₀.sound s' × R₁.sound t' × Meant (R₀.view s) (R₁.view t) (Err e) (R₀.view s') (R₁.view t')
  refused a es m s' k t' e lt w (Err r, l, (n, stays)) =
      let p = looked R₀ (R₀.view s) m s' a w.old w.sound₀ (Err r) l in
      let is : e ≡ Refused a Old r = cc in
      rw (is, stays) (
        p.0,
        w.sound₁,
        record {
          answer = (lt, w.all₀, w.all₁, p.2, λ some. (w.on some).1);
          old = p.1;
          new = left_steady (R₁.view t) (R₁.view k) w.new;
        },
      )
  refused a es m s' k t' e lt w (Ok b, l, (Err r, y, n)) =
      let p = looked_done R₀ (R₀.view s) m s' a w.old w.sound₀ b l in
      let q = looked R₁ (R₁.view t) k t' a w.new w.sound₁ (Err r) y in
      let is : e ≡ Refused a New r = cc in
      rw is (
        p.0,
        q.0,
        record {
          answer = (lt, shows_more (R₀.view s) a w.all₀ (planned (R₀.view s) a b p.3).1, w.all₁, q.2, p.2);
          old = left_steady (R₀.view s) (R₀.view s') p.1;
          new = q.1;
        },
      )
  refused a es m s' k t' e lt w (Ok b, l, (Ok c, y, n)) = absurd (cc)

  pub compare_means : (x : Outcome (List Difference)) (s' : A) (t' : B) → Compares (LooksMeant R₀) (LooksMeant R₁) (shared (R₀.view s).size (R₁.view t).size) s t x s' t' →
      R₀.sound s' × R₁.sound t' × Meant (R₀.view s) (R₁.view t) x (R₀.view s') (R₁.view t')
  compare_means (Ok ds) s' t' c =
      let w = went (shared (R₀.view s).size (R₁.view t).size) ds s' t' c in
      let on = w.on (shared_some (R₀.view s).size (R₁.view t).size) in (
        w.sound₀,
        w.sound₁,
        record {
          answer = (w.all₀, w.all₁, w.list, on.0, on.1);
          old = left_steady (R₀.view s) (R₀.view s') w.old;
          new = left_steady (R₁.view t) (R₁.view t') w.new;
        },
      )
  compare_means (Err (Refused a side e)) s' t' (lt, m, k, es, before, at) = refused a es m s' k t' (Refused a side e) lt (went a es m k before) at

-- The comparison of k addresses, where sizes m and n were asked for: its steps, and its meaning.
pub compares_meant : {A B : Type 0} (R₀ : Reader.Ghosts A) (R₁ : Reader.Ghosts B) (s s' : A) (t t' : B) (x : Outcome (List Difference)) (m n k : ℕ) →
    m ≡ (R₀.view s).size → n ≡ (R₁.view t).size → k ≡ shared m n → Compares (LooksMeant R₀) (LooksMeant R₁) k s t x s' t' →
    Compares (Looks R₀) (Looks R₁) (shared (R₀.view s).size (R₁.view t).size) s t x s' t' × CompareMeans R₀ R₁ s t x s' t'
compares_meant R₀ R₁ s s' t t' x m n k e f h c =
    let is : k ≡ shared (R₀.view s).size (R₁.view t).size = h ∙ ap (λ (i : ℕ). shared i n) e ∙ ap (shared (R₀.view s).size) f in
    let all = subst (λ (i : ℕ). Compares (LooksMeant R₀) (LooksMeant R₁) i s t x s' t') is c in (
      compares_to (LooksMeant R₀) (Looks R₀) (LooksMeant R₁) (Looks R₁) (λ _ _ _ _ l. l.0) (λ _ _ _ _ l. l.0) (shared (R₀.view s).size (R₁.view t).size) s s' t t' x all,
      λ snd₀ snd₁. compare_means R₀ R₁ s t snd₀ snd₁ x s' t' all,
    )
