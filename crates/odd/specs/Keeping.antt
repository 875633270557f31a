-- Lemmas: a disk that is always dark keeps the meaning of a disk.
use Rattle.std.specs.Prelude.{◌≡◌, ℕ, ◌<◌, Bool, true, false, cond, replicate, Err, nat_lt, slice_index, refl}
use Rattle.std.proofs.Common.{sym, ap, subst, arith}
use Rattle.std.proofs.Math.Decide.{dec_lt}
use Rattle.std.proofs.lemmas.List.{length-replicate, get_or-replicate, get_or_past}
use Rattle.std.proofs.lemmas.Bool.{ltb-true, ltb-false}
use Rattle.disks.specs.Values.{CauseValues, On, Dead, RefusalValues, PastEnd, IsDark, Answer}
use Rattle.disks.specs.Meaning.{Whole, Proper, Unchanged, AtBlock, BarrierMeans, RestartMeans}
use Rattle.odd.specs.declared.AlwaysDark.{AlwaysDark}
use Rattle.odd.specs.Darkness.{dark_cause, dark_state, dark_view, Sound, counted, refuses, refuses_at, Gives}

zeros_whole : Whole (replicate 512 0)
zeros_whole = record { long = length-replicate {A = ℕ} 512 0; bytes = λ i. go i (dec_lt i 512) }
  where
    go : (i : ℕ) → Dec (i < 512) → slice_index (replicate 512 0) i < 256
    go i (yes h) = let e = get_or-replicate {A = ℕ} 512 i 0 0 h in omega (arith, e)
    go i (no h) = let e = get_or_past {X = ℕ} (replicate 512 0) i 0 (let l = length-replicate {A = ℕ} 512 0 in omega (arith, l)) in omega (arith, e)

pub dark_proper : (s : AlwaysDark) → Sound s → Proper (dark_view s)
dark_proper s snd = record {
  size = snd;
  cause = record { call = omega arith; block = λ a b. refl; trail = omega arith; sides = λ j. omega arith };
  faces = λ j lt. zeros_whole;
  candidates = λ j b lt c. absurd c;
}

never_on : {P : Type 0} → dark_state ≡ On → P
never_on e = absurd (let z : ◌≡◌ {A = ℕ} 0 1 = cc in omega arith)

never_dead : {P : Type 0} (c : CauseValues) → dark_state ≡ Dead c → P
never_dead c e = absurd (let z : ◌≡◌ {A = ℕ} 0 1 = cc in omega arith)

-- a refused call changes nothing that can be seen, though it is counted
uncounted : (s : AlwaysDark) → Unchanged (dark_view s) (dark_view (counted s))
uncounted s = record {
  kept = record { size = refl; height = refl };
  state = refl;
  faces = λ j lt. refl;
  gained = λ j b lt c. c;
  lost = λ j b lt c. c;
}

-- what the code gave, as an answer
pub gives : {X : Type 0} (e : RefusalValues) (t : AlwaysDark) (p : RefusalValues × AlwaysDark) → ◌≡◌ {A = RefusalValues × AlwaysDark} (e, t) p → Gives {X = X} (Err e) t p
gives {X} e t p q = (let f : RefusalValues → Answer X = λ e. Err e in ap f (ap (λ (p : RefusalValues × AlwaysDark). p.0) q), ap (λ (p : RefusalValues × AlwaysDark). p.1) q)

module _ (s t : AlwaysDark) (snd : Sound s) where
  by_size : {X : Type 0} (k : ℕ) (x : X) (Rule : Type 0) (b : Bool) → nat_lt k s.size ≡ b → AtBlock (dark_view s) k x (Err (cond b (IsDark dark_cause) PastEnd)) (dark_view (counted s)) Rule
  by_size k x Rule true f =
      let lt = ltb-true k s.size f in
      record { past = λ le. absurd (omega arith); off = λ _ o. (refl, uncounted s); on = λ _ o. never_on o }
  by_size k x Rule false f =
      let le = ltb-false k s.size f in
      record { past = λ _. (refl, uncounted s); off = λ lt o. absurd (omega arith); on = λ _ o. never_on o }

  -- what holds of the answer and the disk that the definition gives holds of those that the call gave
  carried : {X : Type 0} (P : Answer X → AlwaysDark → Type 0) (r : Answer X) (p : RefusalValues × AlwaysDark) → Gives r t p → P (Err p.0) p.1 → P r t
  carried {X} P r p g h = subst (λ (u : AlwaysDark). P r u) (sym g.1) (subst (λ (a : Answer X). P a p.1) (sym g.0) h)

  pub at_block : {X : Type 0} (k : ℕ) (x : X) (r : Answer X) (Rule : Type 0) → Gives r t (refuses_at k s) → Sound t × AtBlock (dark_view s) k x r (dark_view t) Rule
  at_block {X} k x r Rule g = carried (λ r u. Sound u × AtBlock (dark_view s) k x r (dark_view u) Rule) r (refuses_at k s) g (snd, by_size k x Rule (nat_lt k s.size) refl)

  pub barrier_law : (r : Answer Unit) → Gives r t (refuses s) → Sound t × BarrierMeans (dark_view s) r (dark_view t)
  barrier_law r g = carried (λ r u. Sound u × BarrierMeans (dark_view s) r (dark_view u)) r (refuses s) g (snd, record { off = λ o. (refl, uncounted s); on = λ o. never_on o })

  pub restart_law : (r : Answer Unit) → Gives r t (refuses s) → Sound t × RestartMeans (dark_view s) r (dark_view t)
  restart_law r g = carried (λ r u. Sound u × RestartMeans (dark_view s) r (dark_view u)) r (refuses s) g (
    snd,
    record {
      dead = λ c f. never_dead c f;
      living = λ _. record {
        kept = record { size = refl; height = refl };
        answer = refl;
        picked = λ o. never_on o;
        settled = λ o. never_on o;
        gained = λ j b lt c. c;
      };
    },
  )
