use Rattle.std.proofs.Common.{◌∙◌, List, ℕ, get_or, map, ap, subst}
use Rattle.ground_instances.specs.Groups.{AreFar, AreSteps}
use Rattle.ground_instances.proofs.GroupLemmas.{groups_are}
use Rattle.ground_instances.proofs.groups.groups_of.Goals as goal

pub returns : goal.returns
returns c =
    let parents = c.args.parents.now in
    let steps = c.in_ok-steps.steps.items in
    let tops = c.in_ok-tops.tops.items in
    groups_are parents c.args.types.now c.in_ok-below.below.items steps tops c.in_ok-above.above.items c.requires.parents c.requires.rooted c.requires.types
    c.in_ok-below.ensures
    (subst (λ (xs : List ℕ). AreSteps parents xs steps) c.deref.ensures.value c.in_ok-steps.ensures)
    (subst (λ (xs : List ℕ). AreFar xs tops) c.deref-2.ensures.value c.in_ok-tops.ensures)
    (c.in_ok-above.ensures ∙ ap (λ (xs : List ℕ). map (λ t. get_or xs t 0) parents) c.deref-3.ensures.value)
