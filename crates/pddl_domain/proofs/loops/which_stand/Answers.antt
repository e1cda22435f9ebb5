use Rattle.std.proofs.Common.{◌∙◌, sym, ap, length, get_or, true}
use Rattle.std.proofs.Math.ListN.{set}
use Rattle.pddl_domain.proofs.AncestorLemmas.{none_of, one_more_of, get_or_default}
use Rattle.pddl_domain.proofs.loops.which_stand.Goals as goal

pub loop-t-init : goal.loop-t-init
loop-t-init c = c.in_ok-stands.ensures.items_if_clones_equal (λ y h. h) ∙ none_of (length c.args.list.now)

pub loop-t-preserved : goal.loop-t-preserved
loop-t-preserved c =
    let t = get_or c.args.list.now c.loop-t.t-index 0 in
    ap (λ xs. set xs t true) c.loop-t.invariant
    ∙ one_more_of (length c.args.list.now) c.args.list.now c.loop-t.t-index t c.loop-t-test.true (c.requires c.loop-t.t-index 0 c.loop-t-test.true)
    (sym (get_or_default c.args.list.now c.loop-t.t-index t c.loop-t-test.true))
