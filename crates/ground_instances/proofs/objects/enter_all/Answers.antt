use Rattle.std.proofs.Common.{◌≡◌, ◌∙◌, ◌<◌, ◌++◌, ap, get_or, length, map, subst, sym}
use Rattle.std.proofs.lemmas.List.{get_or-map, length-map}
use Rattle.pddl_system.specs.Objects.{is_kind_of}
use Rattle.ground_instances.specs.Entering.{list_of}
use Rattle.ground_instances.proofs.EnteringLemmas.{enter_below, enter_next, if_so}
use Rattle.ground_instances.proofs.objects.enter_all.Goals as goal

pub loop-object-preserved : goal.loop-object-preserved
loop-object-preserved c =
    let parents = c.args.parents.now in
    let tops = c.args.tops.now in
    let types = c.args.types.now in
    let i = c.loop-object.object in
    let top = get_or tops (get_or types i 0) 0 in
    let starts = map (λ d. get_or tops d 0) types in
    let old = c.loop-object.lists.items in
    let new = c.enter.new.lists.items in
    let lists : length new ≡ length parents = c.in_ok-enter.ensures.lists ∙ c.loop-object.invariant.lists in
    let inside : i < length starts = subst (λ n. i < n) (sym (length-map types (λ d. get_or tops d 0))) c.loop-object-test.true in
    let start : get_or starts i 0 ≡ top = get_or-map (λ d. get_or tops d 0) types i 0 0 c.loop-object-test.true in
    record {
      lists = lists;
      below = enter_below parents i (is_kind_of parents top) old new lists c.loop-object.invariant.below c.in_ok-enter.ensures.entered;
      entered = λ t within. enter_next parents starts i t (list_of old t) (list_of new t) _ inside
          (c.in_ok-enter.ensures.entered t within ∙ ap (λ k. list_of old t ++ if_so (is_kind_of parents k t) i) (sym start)) (c.loop-object.invariant.entered t within);
    }
