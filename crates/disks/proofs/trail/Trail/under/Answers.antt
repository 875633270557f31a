use Rattle.std.proofs.Common.{rules, ℕ, List, ◌∷◌, ap}
use Rattle.disks.proofs.Trails.{first_seven, put_before, keeps_before}
use Rattle.disks.proofs.trail.Trail.under.Goals as goal

pub returns : goal.returns
returns c =
    let made = ap (λ (l : List ℕ). c.args.side ∷ l) (first_seven 0 c.args.self.sides (search rules)) in
    put_before c.args.self.depth c.args.self.sides c.args.self.keeps c.args.side _ c.min.result made c.min.ensures

pub invariant_of-result : goal.invariant_of-result
invariant_of-result c =
    let made = ap (λ (l : List ℕ). c.args.side ∷ l) (first_seven 0 c.args.self.sides (search rules)) in
    record { keeps = keeps_before c.args.self.depth c.args.self.sides c.args.self.keeps c.args.side _ c.min.result made c.min.ensures }
