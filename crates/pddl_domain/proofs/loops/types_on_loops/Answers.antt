use Rattle.pddl_domain.proofs.AncestorLemmas.{ancestors_below, found_on_loops}
use Rattle.pddl_domain.proofs.loops.types_on_loops.Goals as goal

pub which_stand-requires : goal.which_stand-requires
which_stand-requires c = rw (c.deref.ensures.value, c.in_ok-far_ancestors.ensures.2) (ancestors_below c.args.parents.now c.in_ok-far_ancestors.ensures.0 c.requires)

pub returns : goal.returns
returns c =
    let e = found_on_loops c.args.parents.now c.requires c.in_ok-far_ancestors.ensures.0 c.in_ok-far_ancestors.ensures.1 c.deref.result.now
    (rw c.deref.ensures.value c.in_ok-far_ancestors.ensures.2) in
    rw (← e) c.which_stand.ensures
