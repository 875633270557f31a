-- Facts of views and states that every layer uses.
use Rattle.std.proofs.Common.{◌≡◌, ◌⊎◌, refl, ◌∙◌, inl, inr, arith}
use Rattle.disks.specs.Values.{StateValues, On, Dark, Dead}
use Rattle.disks.specs.Meaning.{View, Kept, FacesKeep, NoneGained, Unchanged, Off}

pub on_or_off : (s : StateValues) → (s ≡ On) ⊎ Off s
on_or_off On = inl refl
on_or_off (Dark c) = inr tt
on_or_off (Dead c) = inr tt

-- one call after the other
module _ (v m w : View) where
  pub kept_then : Kept v m → Kept m w → Kept v w
  kept_then p q = record { size = q.size ∙ p.size; height = q.height ∙ p.height }

  pub faces_then : Kept v m → FacesKeep v m → FacesKeep m w → FacesKeep v w
  faces_then k p q j lt = q j (let e = k.size in omega arith) ∙ p j lt

  pub gained_then : Kept v m → NoneGained v m → NoneGained m w → NoneGained v w
  gained_then k p q j b lt x = p j b lt (q j b (let e = k.size in omega arith) x)

  pub unchanged_then : Unchanged v m → Unchanged m w → Unchanged v w
  unchanged_then p q = record {
    kept = kept_then p.kept q.kept;
    state = q.state ∙ p.state;
    faces = faces_then p.kept p.faces q.faces;
    gained = gained_then p.kept p.gained q.gained;
    lost = λ j b lt x. q.lost j b (let e = p.kept.size in omega arith) (p.lost j b lt x);
  }
