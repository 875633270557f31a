-- Lemmas: a bench disk keeps the meaning of a disk.
use Rattle.std.specs.Prelude.{◌≡◌, ℕ, ◌<◌, ◌≤◌, Bool, true, false, cond, List, [], ◌∷◌, Err, ◌≢◌, nat_lt}
use Rattle.std.proofs.Math.Path.{refl}
use Rattle.std.proofs.Common.{sym, ap, subst, ◌∙◌, inl, inr, arith}
use Rattle.std.proofs.lemmas.Bool.{ltb-true, ltb-false, cases_eq}
use Rattle.disks.specs.Values.{CauseValues, StateValues, On, Dark, Dead, PastEnd, Answer, answer_by}
use Rattle.disks.specs.Meaning.{Content, Shown, Whole, CauseFits, StateFits, Proper, Off, Kept, Unchanged, NoneGained, AtBlock, ReadOn, WriteOn, RestartOn, ReadMeans, WriteMeans, BarrierMeans, RestartMeans}
use Rattle.disks.specs.Blocks.{block_of}
use Rattle.disks.specs.ImageLaws.{block_whole, same}
use Rattle.bench.specs.declared.schedule.Verb.{Verb}
use Rattle.bench.specs.declared.schedule.Verb.TheVariants.{Go, CutBefore, CutAfter, Kill}
use Rattle.bench_disks.specs.declared.waiting.WaitingWrite.{WaitingWrite}
use Rattle.disks.specs.Trails.{cause_at}
use Rattle.bench_disks.specs.Faults.{state_by, outcome_by}
use Rattle.bench.specs.Schedules.{step_from}
use Rattle.bench_disks.specs.Waiting.{Held, size_of, face_of, newest, Waits, Candidate, flush}
use Rattle.bench_disks.specs.Calls.{Bench, take_outcome, called, answered, within, reads, writes, barriers, restarts}
use Rattle.bench_disks.specs.Views.{view_of, WholeWrites, SoundHeld, Sound}
use Rattle.bench_disks.specs.Holding.{Goes, Nothing, stays, goes_then, cut_goes, cut_picks, flush_goes, flush_faces, face_stands, Wrote}

-- each face and each candidate is whole
waits_whole : (n : ℕ) (ws : List WaitingWrite) (k : ℕ) (b : Content) → WholeWrites n ws → Waits ws k b → Whole b
waits_whole n [] k b h x = absurd x
waits_whole n (w ∷ ws) k b h (inl x) = subst Whole (sym x.1) h.1
waits_whole n (w ∷ ws) k b h (inr x) = waits_whole n ws k b h.2 x

candidate_whole : (h : Held) (k : ℕ) (b : Content) → SoundHeld h → k < size_of h → Candidate h k b → Whole b
candidate_whole h k b snd lt (inl e) = subst Whole (sym e) (block_whole h.memory k snd.bytes lt)
candidate_whole h k b snd lt (inr x) = waits_whole (size_of h) h.waiting k b snd.writes x

pub bench_proper : (d : Bench) → Sound d → Proper (view_of d)
bench_proper d snd = record {
  size = omega arith;
  cause = snd.cause;
  faces = λ j lt. candidate_whole d.held j _ snd.held lt (face_stands d.held j);
  candidates = λ j b lt c. candidate_whole d.held j b snd.held lt c;
}

-- a bench disk after a call: what it holds went on, and its state keeps its rules
pub record After (d : Bench) (Gain : ℕ → Content → Type 0) (e : Bench) : Type 0 where
  pub goes : Goes d.held Gain e.held
  pub cause : StateFits 0 e.state
  pub dark : (c : CauseValues) → e.state ≡ Dark c → e.held.waiting ≡ []

after_sound : (d e : Bench) (Gain : ℕ → Content → Type 0) → After d Gain e → Sound e
after_sound d e Gain a = record { cause = a.cause; dark = a.dark; held = a.goes.sound }

kept : (d e : Bench) (Gain : ℕ → Content → Type 0) → After d Gain e → Kept (view_of d) (view_of e)
kept d e Gain a = record { size = a.goes.size; height = refl }

none_gained : (d e : Bench) → After d Nothing e → NoneGained (view_of d) (view_of e)
none_gained d e a j b lt c = elim (a.goes.gained j b c) [ inl x ↦ x | inr n ↦ absurd n ]

-- where nothing waits, a candidate is the face
only : (h : Held) (k : ℕ) (b : Content) → h.waiting ≡ [] → Candidate h k b → b ≡ face_of h k
only h k b e (inl f) = f ∙ sym (ap (λ (ws : List WaitingWrite). newest ws k (block_of h.memory k)) e)
only h k b e (inr x) = absurd (subst (λ (ws : List WaitingWrite). Waits ws k b) e x)

-- a read, a write or a barrier, by its effect f
module _ (c : CauseValues) (f : Held → Held) (Gain : ℕ → Content → Type 0) (fits : CauseFits 0 c) where
  by_verb : (v : Verb) (pick : ℕ) (us ws : List ℕ) (h : Held) → SoundHeld h → Goes h Gain (f h) →
      After (record { state = On; words = us; held = h }) Gain (record { state = state_by v c; words = ws; held = take_outcome (outcome_by v pick) f h })
  by_verb Go pick us ws h snd g = record { goes = g; cause = tt; dark = λ b e. cc }
  by_verb CutBefore pick us ws h snd g = record { goes = cut_goes h snd Gain pick; cause = fits; dark = λ b e. refl }
  by_verb CutAfter pick us ws h snd g = record {
    goes = goes_then h (f h) _ Gain g (cut_goes (f h) g.sound Nothing pick);
    cause = fits;
    dark = λ b e. refl;
  }
  by_verb Kill pick us ws h snd g = record { goes = stays h Gain snd; cause = fits; dark = λ b e. cc }

  by_state : (s : StateValues) (ws : List ℕ) (h : Held) → Sound (record { state = s; words = ws; held = h }) → Goes h Gain (f h) →
      After (record { state = s; words = ws; held = h }) Gain (called c f (record { state = s; words = ws; held = h }))
  by_state On ws h snd g = by_verb (step_from ws).0.verb (step_from ws).0.pick ws (step_from ws).1 h snd.held g
  by_state (Dark b) ws h snd g = record { goes = stays h Gain snd.held; cause = snd.cause; dark = snd.dark }
  by_state (Dead b) ws h snd g = record { goes = stays h Gain snd.held; cause = snd.cause; dark = snd.dark }

  after : (d : Bench) → Sound d → Goes d.held Gain (f d.held) → After d Gain (called c f d)
  after d snd g = by_state d.state d.words d.held snd g

-- a call that leaves the disk on had its effect
module _ (c : CauseValues) (f : Held → Held) where
  done_by_verb : (v : Verb) (pick : ℕ) (h : Held) → state_by v c ≡ On → take_outcome (outcome_by v pick) f h ≡ f h
  done_by_verb Go pick h e = refl
  done_by_verb CutBefore pick h e = cc
  done_by_verb CutAfter pick h e = cc
  done_by_verb Kill pick h e = cc

  done_by_state : (s : StateValues) (ws : List ℕ) (h : Held) → (called c f (record { state = s; words = ws; held = h })).state ≡ On → (called c f (record { state = s; words = ws; held = h })).held ≡ f h
  done_by_state On ws h e = done_by_verb (step_from ws).0.verb (step_from ws).0.pick h e
  done_by_state (Dark b) ws h e = cc
  done_by_state (Dead b) ws h e = cc

  pub done : (d : Bench) → (called c f d).state ≡ On → (called c f d).held ≡ f d.held
  done d e = done_by_state d.state d.words d.held e

  -- a disk that is off stays as it is
  off_by_state : {X : Type 0} (x : X) (s : StateValues) (ws : List ℕ) (h : Held) → Off s →
      (answer_by x (called c f (record { state = s; words = ws; held = h })).state ≡ answer_by x s)
      × Unchanged (view_of (record { state = s; words = ws; held = h })) (view_of (called c f (record { state = s; words = ws; held = h })))
  off_by_state x On ws h o = absurd o
  off_by_state x (Dark b) ws h o = (refl, same (view_of (record { state = Dark b; words = ws; held = h })))
  off_by_state x (Dead b) ws h o = (refl, same (view_of (record { state = Dead b; words = ws; held = h })))

  off : {X : Type 0} (x : X) (d : Bench) → Off d.state → (answer_by x (called c f d).state ≡ answer_by x d.state) × Unchanged (view_of d) (view_of (called c f d))
  off x d o = off_by_state x d.state d.words d.held o

-- a call on block k, by what it means at a disk that is on
module _ {X : Type 0} (k : ℕ) (d : Bench) (x : X) (c : CauseValues) (f : Held → Held) (Rule : Answer X × Bench → Type 0) (snd : Sound d)
    (rule : k < size_of d.held → d.state ≡ On → Rule (answered x (called c f d))) (sound : k < size_of d.held → Sound (called c f d)) where
  Goal : Answer X × Bench → Type 0
  Goal r = Sound r.1 × AtBlock (view_of d) k x r.0 (view_of r.1) (Rule r)

  by_size : (t : Bool) → nat_lt k (size_of d.held) ≡ t → Goal (cond {A = Answer X × Bench} t (answered x (called c f d)) (Err PastEnd, d))
  unfolding Goal
  by_size true e =
      let lt = ltb-true k (size_of d.held) e in
      (sound lt, record { past = λ le. absurd (omega arith); off = λ _ o. off c f x d o; on = λ _ o. rule lt o })
  by_size false e =
      let le = ltb-false k (size_of d.held) e in
      (snd, record { past = λ _. (refl, same (view_of d)); off = λ lt o. absurd (omega arith); on = λ lt o. absurd (omega arith) })

  at_block : Sound (within k d (answered x (called c f d))).1 × AtBlock (view_of d) k x (within k d (answered x (called c f d))).0 (view_of (within k d (answered x (called c f d))).1) (Rule (within k d (answered x (called c f d))))
  unfolding Goal
  at_block = by_size (nat_lt k (size_of d.held)) refl

-- the cause of a read or a write of a block, and of a barrier or a restart
block_cause : (call k : ℕ) → call ≤ 2 → 1 ≤ call → CauseFits 0 (cause_at call k)
block_cause call k le ge = record { call = omega arith; block = λ a b. absurd (by_two call le ge a b); trail = omega arith; sides = λ j. omega arith }
  where
    by_two : (n : ℕ) → n ≤ 2 → 1 ≤ n → (n ≢ 1) → (n ≢ 2) → ⊥
    by_two n le ge a b = elim (cases_eq n 1) [ inl e ↦ a e | inr e ↦ b (omega arith) ]

whole_cause : (call : ℕ) → call ≤ 4 → CauseFits 0 (cause_at call 0)
whole_cause call le = record { call = le; block = λ a b. refl; trail = omega arith; sides = λ j. omega arith }

pub after_read : (d : Bench) (k : ℕ) → Sound d → After d Nothing (called (cause_at 1 k) (λ h. h) d)
after_read d k snd = after (cause_at 1 k) (λ h. h) Nothing (block_cause 1 k (omega arith) (omega arith)) d snd (stays d.held Nothing snd.held)

pub after_write : (effect : ℕ → Content → Held → Held) (d : Bench) (k : ℕ) (b : Content) → Sound d → Goes d.held (λ j c. (j ≡ k) × (c ≡ b)) (effect k b d.held) →
    After d (λ j c. (j ≡ k) × (c ≡ b)) (called (cause_at 2 k) (effect k b) d)
after_write effect d k b snd g = after (cause_at 2 k) (effect k b) _ (block_cause 2 k (omega arith) (omega arith)) d snd g

pub after_barrier : (d : Bench) → Sound d → After d Nothing (called (cause_at 3 0) flush d)
after_barrier d snd = after (cause_at 3 0) flush Nothing (whole_cause 3 (omega arith)) d snd (flush_goes d.held snd.held)

pub bench_reads : (d : Bench) (k : ℕ) → Sound d → Sound (reads k d).1 × ReadMeans (view_of d) k (reads k d).0 (view_of (reads k d).1)
bench_reads d k snd =
    at_block k d (face_of d.held k) (cause_at 1 k) (λ h. h) (λ (r : Shown × Bench). ReadOn (view_of d) k r.0 (view_of r.1)) snd
    (λ lt on. record {
      kept = kept d _ Nothing a;
      answer = refl;
      faces = λ e j _. ap (λ (h : Held). face_of h j) (done (cause_at 1 k) (λ h. h) d e);
      gained = none_gained d _ a;
    })
    (λ lt. after_sound d _ Nothing a)
  where
    a : After d Nothing (called (cause_at 1 k) (λ h. h) d)
    a = after_read d k snd

-- a write, by what its effect does
pub bench_writes : (effect : ℕ → Content → Held → Held) (d : Bench) (k : ℕ) (b : Content) → Sound d → (k < size_of d.held → Wrote d.held k b (effect k b d.held)) →
    Sound (writes effect k b d).1 × WriteMeans (view_of d) k b (writes effect k b d).0 (view_of (writes effect k b d).1)
bench_writes effect d k b snd wrote =
    at_block k d tt (cause_at 2 k) (effect k b) (λ (r : Answer Unit × Bench). WriteOn (view_of d) k b r.0 (view_of r.1)) snd
    (λ lt on. record {
      kept = kept d _ _ (a lt);
      answer = refl;
      face = λ e. ap (λ (h : Held). face_of h k) (done (cause_at 2 k) (effect k b) d e) ∙ (wrote lt).face;
      others = λ e j _ n. ap (λ (h : Held). face_of h j) (done (cause_at 2 k) (effect k b) d e) ∙ (wrote lt).others j n;
      gained = λ j c _ x. (a lt).goes.gained j c x;
    })
    (λ lt. after_sound d _ _ (a lt))
  where
    a : k < size_of d.held → After d (λ j c. (j ≡ k) × (c ≡ b)) (called (cause_at 2 k) (effect k b) d)
    a lt = after_write effect d k b snd (wrote lt).goes

pub bench_barriers : (d : Bench) → Sound d → Sound (barriers d).1 × BarrierMeans (view_of d) (barriers d).0 (view_of (barriers d).1)
bench_barriers d snd = (
  after_sound d _ Nothing a,
  record {
    off = λ o. off (cause_at 3 0) flush tt d o;
    on = λ on. record {
      kept = kept d _ Nothing a;
      answer = refl;
      faces = λ e j _. ap (λ (h : Held). face_of h j) (held e) ∙ flush_faces d.held snd.held j;
      stand = λ e j _. face_stands (barriers d).1.held j;
      settled = λ e j b _ c. only (barriers d).1.held j b (ap (λ (h : Held). h.waiting) (held e)) c;
      gained = none_gained d _ a;
    };
  },
)
  where
    a : After d Nothing (called (cause_at 3 0) flush d)
    a = after_barrier d snd

    held : (barriers d).1.state ≡ On → (barriers d).1.held ≡ flush d.held
    held e = done (cause_at 3 0) flush d e

-- a restart, by state and verb
restart_verb : (v : Verb) (us ws : List ℕ) (s : StateValues) (h g : Held) → Goes h Nothing g → g.waiting ≡ [] →
    After (record { state = s; words = us; held = h }) Nothing (record { state = state_by v (cause_at 4 0); words = ws; held = g })
restart_verb Go us ws s h g p e = record { goes = p; cause = tt; dark = λ b f. cc }
restart_verb CutBefore us ws s h g p e = record { goes = p; cause = whole_cause 4 (omega arith); dark = λ b f. e }
restart_verb CutAfter us ws s h g p e = record { goes = p; cause = whole_cause 4 (omega arith); dark = λ b f. e }
restart_verb Kill us ws s h g p e = record { goes = p; cause = whole_cause 4 (omega arith); dark = λ b f. e }

restarted : (v : Verb) (us ws : List ℕ) (s : StateValues) (h g : Held) → Goes h Nothing g → g.waiting ≡ [] → ((k : ℕ) → Candidate h k (face_of g k)) →
    RestartOn (view_of (record { state = s; words = us; held = h })) (answer_by tt (state_by v (cause_at 4 0))) (view_of (record { state = state_by v (cause_at 4 0); words = ws; held = g }))
restarted v us ws s h g p e pick =
    let a = restart_verb v us ws s h g p e in
    record {
      kept = kept _ _ Nothing a;
      answer = refl;
      picked = λ _ j _. pick j;
      settled = λ _ j b _ c. only g j b e c;
      gained = none_gained _ _ a;
    }

after_restart_by : (s : StateValues) (ws : List ℕ) (h : Held) → Sound (record { state = s; words = ws; held = h }) →
    After (record { state = s; words = ws; held = h }) Nothing (restarts (record { state = s; words = ws; held = h })).1
after_restart_by On ws h snd = restart_verb (step_from ws).0.verb ws (step_from ws).1 On h _ (cut_goes h snd.held Nothing (step_from ws).0.pick) refl
after_restart_by (Dark b) ws h snd = restart_verb (step_from ws).0.verb ws (step_from ws).1 (Dark b) h h (stays h Nothing snd.held) (snd.dark b refl)
after_restart_by (Dead b) ws h snd = record { goes = stays h Nothing snd.held; cause = snd.cause; dark = snd.dark }

pub after_restart : (d : Bench) → Sound d → After d Nothing (restarts d).1
after_restart d snd = after_restart_by d.state d.words d.held snd

restart_means : (s : StateValues) (ws : List ℕ) (h : Held) → Sound (record { state = s; words = ws; held = h }) →
    RestartMeans (view_of (record { state = s; words = ws; held = h })) (restarts (record { state = s; words = ws; held = h })).0 (view_of (restarts (record { state = s; words = ws; held = h })).1)
restart_means On ws h snd = record {
  dead = λ c e. cc;
  living = λ _. restarted (step_from ws).0.verb ws (step_from ws).1 On h _ (cut_goes h snd.held Nothing (step_from ws).0.pick) refl (λ k. cut_picks h snd.held (step_from ws).0.pick k);
}
restart_means (Dark b) ws h snd = record {
  dead = λ c f. cc;
  living = λ _. restarted (step_from ws).0.verb ws (step_from ws).1 (Dark b) h h (stays h Nothing snd.held) (snd.dark b refl) (λ k. face_stands h k);
}
restart_means (Dead b) ws h snd = record {
  dead = λ c e. (ap (λ (s : StateValues). answer_by tt s) e, same (view_of (record { state = Dead b; words = ws; held = h })));
  living = λ l. absurd l;
}

pub bench_restarts : (d : Bench) → Sound d → Sound (restarts d).1 × RestartMeans (view_of d) (restarts d).0 (view_of (restarts d).1)
bench_restarts d snd = (after_sound d _ Nothing (after_restart d snd), restart_means d.state d.words d.held snd)

-- the same of an answer and a disk that a call gave
module _ (d e : Bench) (snd : Sound d) where
  pub read_law : (k : ℕ) (x : Shown) → ◌≡◌ {A = Shown × Bench} (x, e) (reads k d) → Sound e × ReadMeans (view_of d) k x (view_of e)
  read_law k x q = subst (λ (r : Shown × Bench). Sound r.1 × ReadMeans (view_of d) k r.0 (view_of r.1)) (sym q) (bench_reads d k snd)

  pub write_law : (effect : ℕ → Content → Held → Held) (k : ℕ) (b : Content) (x : Answer Unit) → (k < size_of d.held → Wrote d.held k b (effect k b d.held)) →
      ◌≡◌ {A = Answer Unit × Bench} (x, e) (writes effect k b d) → Sound e × WriteMeans (view_of d) k b x (view_of e)
  write_law effect k b x wrote q = subst (λ (r : Answer Unit × Bench). Sound r.1 × WriteMeans (view_of d) k b r.0 (view_of r.1)) (sym q) (bench_writes effect d k b snd wrote)

  pub barrier_law : (x : Answer Unit) → ◌≡◌ {A = Answer Unit × Bench} (x, e) (barriers d) → Sound e × BarrierMeans (view_of d) x (view_of e)
  barrier_law x q = subst (λ (r : Answer Unit × Bench). Sound r.1 × BarrierMeans (view_of d) r.0 (view_of r.1)) (sym q) (bench_barriers d snd)

  pub restart_law : (x : Answer Unit) → ◌≡◌ {A = Answer Unit × Bench} (x, e) (restarts d) → Sound e × RestartMeans (view_of d) x (view_of e)
  restart_law x q = subst (λ (r : Answer Unit × Bench). Sound r.1 × RestartMeans (view_of d) r.0 (view_of r.1)) (sym q) (bench_restarts d snd)
