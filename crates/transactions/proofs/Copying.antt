-- Work done block by block: the slots copied home, and zeros to the homes.
use Rattle.std.proofs.Common.{◌≡◌, ℕ, suc, ◌+◌, ◌-◌, ◌<◌, ◌≤◌, List, [], ◌∷◌, length, get_or, drop, replicate, Ok, Err, refl, add-one, arith, drop-cons}
use Rattle.std.proofs.lemmas.List.{drop_all}
use Rattle.disks.specs.Values.{RefusalValues, Answer}
use Rattle.disks.specs.declared.reader.Reader
use Rattle.disks.specs.declared.disk.Disk
use Rattle.store.specs.Layout.{empty}
use Rattle.store.specs.Log.{home}
use Rattle.transactions.specs.DiskWork.{◌then◌, putting, copying, copying_home, zeroing, settling, heading}

module _ {D : Type 0} (R : Reader.Ghosts D) (W : Disk.Ghosts D) where
  -- slot 1 + i, of a log
  module _ (log : List ℕ) (i : ℕ) (s m : D) (used : i < length log) where
    first_left : drop i log ≡ get_or log i 0 ∷ drop (i + 1) log
    first_left = rw (add-one, drop-cons log i 0)

    next_slot : suc (1 + i) ≡ 1 + (i + 1)
    next_slot = omega arith

    pub copied_on : (r : Answer Unit) (t : D) → copying R W (1 + i) (home (get_or log i 0)) s (Ok tt) m → copying_home R W (1 + (i + 1)) (drop (i + 1) log) m r t → copying_home R W (1 + i) (drop i log) s r t
    copied_on r t c more = rw (first_left, next_slot) (Ok tt, m, c, more)

    pub copy_stops : (e : RefusalValues) → copying R W (1 + i) (home (get_or log i 0)) s (Err e) m → copying_home R W (1 + i) (drop i log) s (Err e) m
    copy_stops e c = rw first_left (Err e, m, c, (refl, refl))

  pub copies_end : (log : List ℕ) (i : ℕ) (s : D) → length log ≤ i → copying_home R W (1 + i) (drop i log) s (Ok tt) s
  copies_end log i s l = rw (drop_all i log l) (refl, refl)

  pub settles : (n : ℕ) (log : List ℕ) (s : D) (r : Answer Unit) (t : D) → 0 < length log → (copying_home R W 1 log then heading R W (empty n)) s r t → settling R W n log s r t
  settles n [] s r t l w = absurd (omega arith)
  settles n (a ∷ log) s r t l w = w

  -- the home of address i, of n
  module _ (n i : ℕ) (s m : D) (left : i < n) where
    rest : n - i ≡ suc (n - (i + 1))
    rest = omega arith

    next_home : suc (home 0 + i) ≡ home 0 + (i + 1)
    next_home = omega arith

    pub zeroed_on : (r : Answer Unit) (t : D) → putting R W (33 + i) (replicate 512 0) s (Ok tt) m → zeroing R W (home 0 + (i + 1)) (n - (i + 1)) m r t → zeroing R W (home 0 + i) (n - i) s r t
    zeroed_on r t c more = rw (rest, next_home) (Ok tt, m, c, more)

    pub zeroing_stops : (e : RefusalValues) → putting R W (33 + i) (replicate 512 0) s (Err e) m → zeroing R W (home 0 + i) (n - i) s (Err e) m
    zeroing_stops e c = rw rest (Err e, m, c, (refl, refl))

  pub zeroing_ends : (n i : ℕ) (s : D) → n ≤ i → zeroing R W (home 0 + i) (n - i) s (Ok tt) s
  zeroing_ends n i s l = let z : n - i ≡ 0 = omega arith in rw z (refl, refl)
