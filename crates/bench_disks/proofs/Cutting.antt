-- A cut of a cache, write by write.
use Rattle.std.proofs.Common.{◌≡◌, ℕ, zero, suc, ◌-◌, ◌/◌, ◌%◌, ◌^◌, ◌<◌, ◌≤◌, cond, List, [], ◌∷◌, All, length, get_or, refl, sym, ap, ◌∙◌, ◌==◌, ◌≢◌, arith}
use Rattle.std.proofs.Math.Nat.{div-div-eq-div-mul, pow-succ'}
use Rattle.std.proofs.lemmas.Bool.{eq-eqb, ne_eqb}
use Rattle.std.proofs.lemmas.Nat.{pow_pos}
use Rattle.disks.specs.Blocks.{with_block}
use Rattle.bench_disks.specs.declared.waiting.WaitingWrite.{WaitingWrite}
use Rattle.bench_disks.specs.Waiting.{Held, chosen, stand, cut, flush}

-- each write is to a block below n
abbrev Below : ℕ → List WaitingWrite → Type 0
Below n = All (λ w. w.block < n)

-- without the oldest write
pub below_rest : (ws rest : List WaitingWrite) (w : WaitingWrite) (m n : ℕ) → ws ≡ w ∷ rest → Below m ws → n ≡ m → Below n rest
below_rest ws rest w m n is h e = λ k d lt.
    let p = h (suc k) d (omega (arith, ap length is)) in
    omega (arith, p, ap (λ (xs : List WaitingWrite). (get_or xs (suc k) d).block) is)

-- the choice by the bits from the next one on
shifted : (pick i : ℕ) (ws : List WaitingWrite) → chosen pick (suc i) ws ≡ chosen (pick / 2) i ws
shifted pick i [] = refl
shifted pick i (w ∷ ws) =
    let e : pick / 2 ^ suc i ≡ pick / 2 / 2 ^ i = ap (λ (n : ℕ). pick / n) (pow-succ' 2 i) ∙ sym (div-div-eq-div-mul pick 2 (2 ^ i)) in
    let r = shifted pick (suc i) ws in
    ap (λ (n : ℕ). cond (n % 2 == 1) (w ∷ chosen pick (suc (suc i)) ws) (chosen pick (suc (suc i)) ws)) e
    ∙ ap (λ (xs : List WaitingWrite). cond (pick / 2 / 2 ^ i % 2 == 1) (w ∷ xs) xs) r

-- the oldest write stands, or vanishes, and the rest is cut by the other bits
module _ (bits : ℕ) (h g : Held) (w : WaitingWrite) (rest : List WaitingWrite) (m : List ℕ) (is : h.waiting ≡ w ∷ rest) (left : g ≡ record { waiting = rest; memory = m }) where
  pub stands : bits % 2 ≡ 1 → m ≡ with_block h.memory w.block w.content → cut (bits / 2) g ≡ cut bits h
  stands o e =
      let s = shifted bits 0 rest in
      let z : bits / 1 ≡ bits = omega arith in
      let t = eq-eqb (bits % 2) 1 o in
      let c = ap (cut (bits / 2)) left in
      cc

  pub vanishes : (bits % 2 ≢ 1) → m ≡ h.memory → cut (bits / 2) g ≡ cut bits h
  vanishes o e =
      let s = shifted bits 0 rest in
      let z : bits / 1 ≡ bits = omega arith in
      let t = ne_eqb (bits % 2) 1 o in
      let c = ap (cut (bits / 2)) left in
      cc

-- n bits choose each of at most n writes
all_chosen : (n : ℕ) (ws : List WaitingWrite) → length ws ≤ n → chosen (2 ^ n - 1) 0 ws ≡ ws
all_chosen n [] h = refl
all_chosen zero (w ∷ ws) h = absurd (omega arith)
all_chosen (suc n) (w ∷ ws) h =
    let p = pow-succ' 2 n in
    let some = pow_pos n in
    let z : (2 ^ suc n - 1) / 1 ≡ 2 ^ suc n - 1 = omega arith in
    let odd : (2 ^ suc n - 1) % 2 ≡ 1 = omega arith in
    let half : (2 ^ suc n - 1) / 2 ≡ 2 ^ n - 1 = omega arith in
    let t = eq-eqb ((2 ^ suc n - 1) % 2) 1 odd in
    let s = shifted (2 ^ suc n - 1) 0 ws in
    let r = all_chosen n ws (omega arith) in
    cc

pub cut_all : (h : Held) → length h.waiting ≤ 16 → cut 65535 h ≡ flush h
cut_all h le = ap (λ (ws : List WaitingWrite). record { waiting = []; memory = stand ws h.memory }) (all_chosen 16 h.waiting le)
