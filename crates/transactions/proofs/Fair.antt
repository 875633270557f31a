-- Work on a disk that keeps the meaning of one: a sound disk of the store's size stays so, and the answer goes by its state.
use Rattle.std.proofs.Common.{◌≡◌, ℕ, zero, suc, ◌+◌, ◌<◌, ◌≤◌, List, [], ◌∷◌, length, get_or, replicate, Ok, Err, sym, refl, ap, ◌∙◌, subst, inl, inr, arith}
use Rattle.std.proofs.lemmas.List.{length-replicate, get_or-replicate, get_or_past}
use Rattle.std.proofs.lemmas.Bool.{cases_lt}
use Rattle.disks.specs.Values.{StateValues, On, Dark, Dead, RefusalValues, PastEnd, Answer, answer_by}
use Rattle.disks.specs.Meaning.{Content, Whole, Shown, Living, RestartMeans, ProperLaw, ReadLaw, WriteLaw, BarrierLaw, RestartLaw}
use Rattle.disks.specs.declared.reader.Reader
use Rattle.disks.specs.declared.disk.Disk
use Rattle.store.specs.Layout.{HeaderValues, InRange, empty, packed}
use Rattle.store.specs.Log.{home}
use Rattle.store.proofs.Round.{packed_whole}
use Rattle.transactions.specs.DiskWork.{Work, IfDone, ◌then◌, nothing, putting, copying, copying_home, heading, settling, zeroing, formatting}

-- a done answer is given by a disk that is on, and none goes past the end
pub done_on : {X : Type 0} (x y : X) (st : StateValues) → Ok y ≡ answer_by x st → st ≡ On
done_on x y st e = grind arith

pub never_past : {X : Type 0} (x : X) (st : StateValues) → Err PastEnd ≡ answer_by x st → ⊥
never_past x st e = grind arith

pub shown_is : (x y : Content) (st : StateValues) → Ok y ≡ answer_by x st → y ≡ x
shown_is x y st e = grind arith

-- a refusal stays the same, whatever a done answer would carry
refused_by : {X Y : Type 0} (x : X) (y : Y) (st : StateValues) (e : RefusalValues) → Err e ≡ answer_by x st → Err e ≡ answer_by y st
refused_by x y st e h = grind arith

zeros_whole : Whole (replicate 512 0)
zeros_whole = record {
  long = length-replicate {A = ℕ} 512 0;
  bytes = λ i. elim (cases_lt i 512) [ inl h ↦ rw (get_or-replicate {A = ℕ} 512 i 0 0 h) (omega arith) | inr h ↦ rw (get_or_past {X = ℕ} (replicate 512 0) i 0 (rw length-replicate h)) (omega arith) ];
}

-- the laws of a disk
pub record Lawful {D : Type 0} (R : Reader.Ghosts D) (W : Disk.Ghosts D) : Type 0 where
  pub proper : ProperLaw R.view R.sound
  pub reading : ReadLaw R.view R.sound R.reads
  pub writing : WriteLaw R.view R.sound W.writes
  pub flushing : BarrierLaw R.view R.sound W.barriers
  pub restarting : RestartLaw R.view R.sound W.restarts

-- what work for N addresses leaves
pub record Fair {D X : Type 0} (R : Reader.Ghosts D) (n : ℕ) (x : X) (r : Answer X) (t : D) : Type 0 where
  pub sound : R.sound t
  pub size : (R.view t).size ≡ 33 + n
  pub answer : r ≡ answer_by x (R.view t).state

-- from a disk that is on, and from a disk in any state
abbrev pub IsOn : StateValues → Type 0
IsOn st = st ≡ On

abbrev pub Any : StateValues → Type 0
Any st = Unit {0}

module _ {D : Type 0} (R : Reader.Ghosts D) (W : Disk.Ghosts D) (laws : Lawful R W) (n : ℕ) where
  abbrev pub Fairly : (StateValues → Type 0) → Work D → Type 0
  Fairly P work = (s t : D) (r : Answer Unit) → R.sound s → (R.view s).size ≡ 33 + n → P (R.view s).state → work s r t → Fair R n tt r t

  -- what follows an answer that went by the state
  pub followed : {X : Type 0} (x : X) (q : Answer X) (m t : D) (r : Answer Unit) (next : X → Type 0) → Fair R n x q m → IfDone q next (λ e. (r ≡ Err e) × (t ≡ m)) →
      ((y : X) → q ≡ Ok y → (R.view m).state ≡ On → next y → Fair R n tt r t) → Fair R n tt r t
  followed x (Ok y) m t r next f w more = more y refl (done_on x y (R.view m).state f.answer) w
  followed x (Err e) m t r next f w more =
      subst (λ (u : D). Fair R n tt r u) (sym w.1) (record { sound = f.sound; size = f.size; answer = w.0 ∙ refused_by x tt (R.view m).state e f.answer })

  pub fair_then : (P : StateValues → Type 0) (A B : Work D) → Fairly P A → Fairly IsOn B → Fairly P (A then B)
  fair_then P A B a b s t r snd sz p w =
      let f = a s w.1 w.0 snd sz p w.2 in
      followed tt w.0 w.1 t r (λ u. B w.1 r t) f w.3 (λ y e still next. b w.1 t r f.sound f.size still next)

  fair_nothing : Fairly IsOn nothing
  fair_nothing s t r snd sz p w = subst (λ (u : D). Fair R n tt r u) (sym w.1) (record { sound = snd; size = sz; answer = w.0 ∙ sym (ap (answer_by tt) p) })

  pub fair_putting : (k : ℕ) (b : Content) → k < 33 + n → Whole b → Fairly IsOn (putting R W k b)
  fair_putting k b lt whole s t r snd sz p w =
      let f = laws.writing s t k b r whole w snd in
      let o = f.1.on (omega arith) p in
      record { sound = f.0; size = o.kept.size ∙ sz; answer = o.answer }

  fair_barrier : Fairly IsOn W.barriers
  fair_barrier s t r snd sz p w =
      let f = laws.flushing s t r w snd in
      let o = f.1.on p in
      record { sound = f.0; size = o.kept.size ∙ sz; answer = o.answer }

  pub fair_reading : (k : ℕ) (s t : D) (x : Shown) → k < 33 + n → R.sound s → (R.view s).size ≡ 33 + n → (R.view s).state ≡ On → R.reads s k x t → Fair R n ((R.view s).face k) x t
  fair_reading k s t x lt snd sz p w =
      let f = laws.reading s t k x w snd in
      let o = f.1.on (omega arith) p in
      record { sound = f.0; size = o.kept.size ∙ sz; answer = o.answer }

  pub fair_restart : Fairly Any W.restarts
  fair_restart s t r snd sz p w = go (R.view s).state refl
    where
      f : R.sound t × RestartMeans (R.view s) r (R.view t)
      f = laws.restarting s t r w snd

      go : (st : StateValues) → (R.view s).state ≡ st → Fair R n tt r t
      go On e = let o = f.1.living (subst Living (sym e) tt) in record { sound = f.0; size = o.kept.size ∙ sz; answer = o.answer }
      go (Dark c) e = let o = f.1.living (subst Living (sym e) tt) in record { sound = f.0; size = o.kept.size ∙ sz; answer = o.answer }
      go (Dead c) e = let o = f.1.dead c e in record { sound = f.0; size = o.1.kept.size ∙ sz; answer = o.0 ∙ sym (ap (answer_by tt) (o.1.state ∙ e)) }

  fair_copying : (k j : ℕ) → k < 33 + n → j < 33 + n → Fairly IsOn (copying R W k j)
  fair_copying k j kl jl s t r snd sz p w =
      let f = fair_reading k s w.1 w.0 kl snd sz p w.2 in
      followed ((R.view s).face k) w.0 w.1 t r (λ b. putting R W j b w.1 r t) f w.3
      (λ b e still next. fair_putting j b jl (subst Whole (sym (shown_is ((R.view s).face k) b (R.view w.1).state (sym e ∙ f.answer))) ((laws.proper s snd).faces k (omega arith))) w.1 t r f.sound f.size still next)

  fair_home : (k : ℕ) (log : List ℕ) → k + length log ≤ 33 → ((i : ℕ) → i < length log → get_or log i 0 < n) → Fairly IsOn (copying_home R W k log)
  fair_home k [] few low = fair_nothing
  fair_home k (a ∷ log) few low =
      let first : a < n = low 0 (omega arith) in
      fair_then IsOn (copying R W k (home a)) (copying_home R W (suc k) log) (fair_copying k (home a) (omega arith) (omega arith)) (fair_home (suc k) log (omega arith) (λ i l. low (suc i) (omega arith)))

  pub fair_heading : (h : HeaderValues) → InRange h → Fairly IsOn (heading R W h)
  fair_heading h ok =
      fair_then IsOn W.barriers (putting R W 0 (packed h) then W.barriers) fair_barrier
      (fair_then IsOn (putting R W 0 (packed h)) W.barriers (fair_putting 0 (packed h) (omega arith) (packed_whole h ok)) fair_barrier)

  in_range_empty : 1 ≤ n → n ≤ 4096 → InRange (empty n)
  in_range_empty some most = record { some = some; most = most; few = omega arith; below = λ i l. absurd (omega arith) }

  pub fair_settling : (log : List ℕ) → InRange (record { n = n; log = log }) → Fairly IsOn (settling R W n log)
  fair_settling [] ok = fair_nothing
  fair_settling (a ∷ log) ok =
      fair_then IsOn (copying_home R W 1 (a ∷ log)) (heading R W (empty n)) (fair_home 1 (a ∷ log) (let f = ok.few in omega arith) ok.below) (fair_heading (empty n) (in_range_empty ok.some ok.most))

  fair_zeroing : (k c : ℕ) → k + c ≤ 33 + n → Fairly IsOn (zeroing R W k c)
  fair_zeroing k zero le = fair_nothing
  fair_zeroing k (suc c) le = fair_then IsOn (putting R W k (replicate 512 0)) (zeroing R W (suc k) c) (fair_putting k (replicate 512 0) (omega arith) zeros_whole) (fair_zeroing (suc k) c (omega arith))

  pub fair_formatting : 1 ≤ n → n ≤ 4096 → Fairly Any (formatting R W n)
  fair_formatting some most =
      fair_then Any W.restarts (zeroing R W (home 0) n then (putting R W 0 (packed (empty n)) then W.barriers)) fair_restart
      (fair_then IsOn (zeroing R W (home 0) n) (putting R W 0 (packed (empty n)) then W.barriers) (fair_zeroing (home 0) n (omega arith))
      (fair_then IsOn (putting R W 0 (packed (empty n))) W.barriers (fair_putting 0 (packed (empty n)) (omega arith) (packed_whole (empty n) (in_range_empty some most))) fair_barrier))
