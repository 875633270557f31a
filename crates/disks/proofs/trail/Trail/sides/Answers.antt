use Rattle.std.proofs.Common.{rules, take, map, [], ◌∷◌, ap, refl, ◌∙◌}
use Rattle.std.proofs.lemmas.List.{take-map}
use Rattle.disks.specs.Values.{side_of, numbers_of, trail_values}
use Rattle.disks.proofs.Lists.{one_chosen, numbers_back}
use Rattle.disks.proofs.Trails.{all_eight}
use Rattle.disks.proofs.trail.Trail.sides.Goals as goal

pub returns-clause-value : goal.returns-clause-value
returns-clause-value c =
    let one = one_chosen 7 [] _ _ _ c.one_of.ensures refl in
    let two = one_chosen 6 (_ ∷ []) _ _ _ c.one_of-2.ensures one in
    let three = one_chosen 5 (_ ∷ _ ∷ []) _ _ _ c.one_of-3.ensures two in
    let four = one_chosen 4 (_ ∷ _ ∷ _ ∷ []) _ _ _ c.one_of-half.ensures three in
    let five = one_chosen 3 (_ ∷ _ ∷ _ ∷ _ ∷ []) _ _ _ c.one_of-4.ensures four in
    let six = one_chosen 2 (_ ∷ _ ∷ _ ∷ _ ∷ _ ∷ []) _ _ _ c.one_of-5.ensures five in
    let seven = one_chosen 1 (_ ∷ _ ∷ _ ∷ _ ∷ _ ∷ _ ∷ []) _ _ _ c.one_of-6.ensures six in
    let eight = one_chosen 0 (_ ∷ _ ∷ _ ∷ _ ∷ _ ∷ _ ∷ _ ∷ []) _ _ _ c.one_of-list.ensures seven in
    let all = all_eight 0 c.args.self.now.sides (search rules) in
    search rules
    ∙ ap (take c.args.self.now.depth) (eight ∙ ap (map side_of) all)
    ∙ take-map side_of c.args.self.now.depth c.args.self.now.sides

pub returns-clause-numbers : goal.returns-clause-numbers
returns-clause-numbers c below = ap trail_values (returns-clause-value c) ∙ numbers_back (numbers_of c.args.self.now) below
