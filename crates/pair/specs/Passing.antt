-- Lemmas: a call that is handed on to the sides, by what each side's call is said to do.
use Rattle.std.specs.Prelude.{Result}
use Rattle.std.proofs.Common.{refl, arith}
use Rattle.std.proofs.lemmas.Grind.{common_steps}
use Rattle.std.specs.Fn.{Once}
use denote.Ref.{MutBor}
use Rattle.disks.specs.declared.reader.Reader
use Rattle.disks.specs.declared.refusal.Refusal.{Refusal}
use Rattle.disks.specs.Values.{Answer, answer_values}
use Rattle.pair.specs.declared.pair.Pair.{Pair}
use Rattle.pair.specs.Calls.{CallOf, Passed, HandedOn}

-- the closure f does as d says, by its own contract
abbrev pub Does : {F S : Type 0} → Once F (MutBor S × Unit {0}) (Result Unit Refusal × (MutBor S × Unit {0})) → F → (S → Answer Unit → S → Type 0) → Type 0
Does {F} {S} g f d = (s t : MutBor S) (x : Result Unit Refusal) → g.post f (s, tt) (x, (t, tt)) → d s.now (answer_values x) t.now

-- what a call of f did, at the values behind its reference
pub call_of : {F S : Type 0} (g : Once F (MutBor S × Unit {0}) (Result Unit Refusal × (MutBor S × Unit {0}))) (f : F) (s t : MutBor S) (x : Result Unit Refusal) →
    g.post f (s, tt) (x, (t, tt)) → CallOf g f s.now (answer_values x) t.now
call_of g f s t x met = (x, record { shown = s; shows = refl; left = t; met = met; leaves = refl }, refl)

-- so a call handed on as closures is one handed on as d₀ and d₁
pub passed_as : {A B F G : Type 0} {R₀ : Reader.Ghosts A} {R₁ : Reader.Ghosts B}
    {g₀ : Once F (MutBor A × Unit {0}) (Result Unit Refusal × (MutBor A × Unit {0}))} {f₀ : F}
    {g₁ : Once G (MutBor B × Unit {0}) (Result Unit Refusal × (MutBor B × Unit {0}))} {f₁ : G} {p q : Pair A B} {r : Answer Unit}
    (d₀ : A → Answer Unit → A → Type 0) (d₁ : B → Answer Unit → B → Type 0) →
    HandedOn R₀ R₁ g₀ f₀ g₁ f₁ p r q → Does g₀ f₀ d₀ → Does g₁ f₁ d₁ → Passed R₀ R₁ d₀ d₁ p r q
passed_as = grind (arith, common_steps)
