-- What recovery leaves of a disk that keeps the meaning of one.
use Rattle.std.proofs.Common.{◌≡◌, ℕ, ◌+◌, Ok, Err, Option, sym, refl, ap, ◌∙◌, subst, arith}
use Rattle.disks.specs.Values.{On, RefusalValues, PastEnd, Answer}
use Rattle.disks.specs.Meaning.{Content, Whole, Shown}
use Rattle.disks.specs.declared.reader.Reader
use Rattle.disks.specs.declared.disk.Disk
use Rattle.store.specs.Layout.{HeaderValues, InRange, empty, unpacked}
use Rattle.store.specs.LookValues as look
use Rattle.store.specs.Looks.{header_of, header_shown, ReadsHeader}
use Rattle.store.proofs.Looking.{header_is}
use Rattle.store.proofs.Round.{exactly}
use Rattle.transactions.specs.StoreAnswers.{StoreAnswer, Disk, from_look}
use Rattle.transactions.specs.DiskWork.{IfDone, settling, emptied, SettlesHeader, RecoversAt}
use Rattle.transactions.proofs.Fair.{Lawful, Fair, done_on, shown_is, never_past, fair_restart, fair_reading, fair_settling}

-- a header that is not accepted
header_refused : (n : ℕ) (o : Option HeaderValues) (e : look.LookRefusalValues) → header_of n o ≡ Err e → e ≡ look.NoHeader
header_refused n o e h = grind arith

module _ {D : Type 0} (R : Reader.Ghosts D) (W : Disk.Ghosts D) (laws : Lawful R W) (n : ℕ) where
  pub record Recovered (x : StoreAnswer HeaderValues) (t : D) : Type 0 where
    pub sound : R.sound t
    pub size : (R.view t).size ≡ 33 + n
    pub done : (h : HeaderValues) → x ≡ Ok h → ((R.view t).state ≡ On) × (h ≡ empty n)
    pub inside : x ≡ Err (Disk PastEnd) → ⊥

  -- it ended with a refusal of the disk
  stopped : {X : Type 0} (y : X) (e : RefusalValues) (x : StoreAnswer HeaderValues) (m t : D) → Fair R n y (Err e) m → x ≡ Err (Disk e) → t ≡ m → Recovered x t
  stopped y e x m t f is stays =
      subst (λ (u : D). Recovered x u) (sym stays) (record {
        sound = f.sound;
        size = f.size;
        done = λ h q. cc;
        inside = λ q. never_past y (R.view m).state (let p : e ≡ PastEnd = cc in sym (ap (λ (z : RefusalValues). Err z) p) ∙ f.answer);
      })

  -- the work of settle after a header that was accepted
  by_work : (h : HeaderValues) (r : Answer Unit) (x : StoreAnswer HeaderValues) (t : D) → h.n ≡ n → Fair R n tt r t → x ≡ emptied R W h.n r → Recovered x t
  by_work h (Ok u) x t e f is = record {
    sound = f.sound;
    size = f.size;
    done = λ k q. (done_on tt u (R.view t).state f.answer, (let z : ◌≡◌ {A = StoreAnswer HeaderValues} (Ok k) (Ok (empty h.n)) = sym q ∙ is in let w : k ≡ empty h.n = cc in w ∙ ap empty e));
    inside = λ q. cc;
  }
  by_work h (Err y) x t e f is = stopped tt y x t t f is refl

  module _ (l t : D) (x : StoreAnswer HeaderValues) (snd : R.sound l) (sz : (R.view l).size ≡ 33 + n) (still : (R.view l).state ≡ On) where
    by_header : (b : Content) → Whole b → (h : look.LookAnswer HeaderValues) → h ≡ header_of n (unpacked b) → SettlesHeader R W h l x t → Recovered x t
    by_header b whole (Ok h) e w =
        let is = header_is n (unpacked b) h (sym e) in
        let ok = ((exactly b whole h).0 is.0).0 in
        let ranged = subst (λ (k : ℕ). InRange (record { n = k; log = h.log })) is.1 ok in
        by_work h w.0 x t is.1 (fair_settling R W laws n h.log ranged l t w.0 snd sz still (subst (λ (k : ℕ). settling R W k h.log l w.0 t) is.1 w.1)) w.2
    by_header b whole (Err e) is w =
        let none = header_refused n (unpacked b) e (sym is) in
        subst (λ (u : D). Recovered x u) (sym w.1) (record {
          sound = snd;
          size = sz;
          done = λ h q. cc;
          inside = λ q. let p : Err (from_look look.NoHeader) ≡ Err (Disk PastEnd) = sym (ap (λ (y : look.LookRefusalValues). Err (from_look y)) none) ∙ sym w.0 ∙ q in cc;
        })

  by_shown : (m l t : D) (x : StoreAnswer HeaderValues) (y : Shown) → Fair R n ((R.view m).face 0) y l → Whole ((R.view m).face 0) →
      (h : look.LookAnswer HeaderValues) → h ≡ header_shown n y → SettlesHeader R W h l x t → Recovered x t
  by_shown m l t x (Ok b) f whole h e w =
      let is = shown_is ((R.view m).face 0) b (R.view l).state f.answer in
      by_header l t x f.sound f.size (done_on ((R.view m).face 0) b (R.view l).state f.answer) b (subst Whole (sym is) whole) h e w
  by_shown m l t x (Err e) f whole h is w =
      let q = subst (λ (k : look.LookAnswer HeaderValues). SettlesHeader R W k l x t) is w in
      stopped ((R.view m).face 0) e x l t f q.0 q.1

  pub recovers_fairly : (s t : D) (x : StoreAnswer HeaderValues) → R.sound s → (R.view s).size ≡ 33 + n → RecoversAt R W n s x t → Recovered x t
  recovers_fairly s t x snd sz w = go w.0 (fair_restart R W laws n s w.1 w.0 snd sz tt w.2) w.3
    where
      m : D
      m = w.1

      go : (q : Answer Unit) → Fair R n tt q m →
          IfDone q (λ u. (h : look.LookAnswer HeaderValues) × (l : D) × ReadsHeader R n m h l × SettlesHeader R W h l x t) (λ e. (x ≡ Err (Disk e)) × (t ≡ m)) → Recovered x t
      go (Ok u) f v =
          let still = done_on tt u (R.view m).state f.answer in
          let read = fair_reading R W laws n 0 m v.1 v.2.0 (omega arith) f.sound f.size still v.2.1 in
          by_shown m v.1 t x v.2.0 read ((laws.proper m f.sound).faces 0 (let z = f.size in omega arith)) v.0 v.2.2 v.3
      go (Err e) f v = stopped tt e x m t f v.0 v.1
