use Rattle.ground_task.proofs.outcomes.+building.Goals as goal
use Rattle.std.proofs.Common.{◌≡◌, ℕ, ◌<◌, ◌&&◌, true, false, List, [], ◌++◌, map, length, get_or, ap, sym, ◌∙◌, refl}
use Rattle.ground_instances.specs.Tables.{setting_in}
use Rattle.pddl_ast.specs.Values.{effect_value, formula_value}
use Rattle.pddl_ast.specs.declared.trees.Effect.{Effect}
use Rattle.pddl_system.specs.GroundAtoms.{atom_of}
use Rattle.pddl_system.specs.Objects.{bindings}
use Rattle.pddl_system.specs.Outcomes as plain
use Rattle.pddl_system.specs.Outcomes.{products, under}
use Rattle.pddl_system.specs.ThreeValues.{may_hold, value}
use Rattle.ground_task.specs.Drafts.{draft_trees, guard_of, possible_where}
use Rattle.ground_task.proofs.BindingLemmas.{bound_below, bound_end, unbound}
use Rattle.ground_task.proofs.DraftLemmas.{both_is, either_end, either_is, outcomes_inside, together_end, together_start, together_step}
use Rattle.ground_task.proofs.EffectLemmas.{is_Add, is_Delete, is_When}

pub outcomes-returns-in_ok-one_change-in-Add-clause-outcomes : goal.outcomes-returns-in_ok-one_change-in-Add-clause-outcomes
outcomes-returns-in_ok-one_change-in-Add-clause-outcomes t c =
    let at = setting_in c.args.setting.now in
    c.in_ok-one_change-in-Add.ensures at
    ∙ ap (λ a. map (possible_where at c.args.possible) (plain.one_change a true)) (c.in_ok-atom-in-Add.ensures ∙ ap (λ s. atom_of s c.in-Add.predicate c.deref.result.now) c.deref-in-Add.ensures.value)
    ∙ ap (λ e. map (possible_where at c.args.possible) (plain.outcomes at.objects e c.args.scope.now.items)) (sym (is_Add c.args.effect.now c.in-Add.predicate c.in-Add.terms c.deref.result.now c.in-Add.is c.deref.ensures))

pub outcomes-returns-in_ok-one_change-in-Delete-clause-outcomes : goal.outcomes-returns-in_ok-one_change-in-Delete-clause-outcomes
outcomes-returns-in_ok-one_change-in-Delete-clause-outcomes t c =
    let at = setting_in c.args.setting.now in
    c.in_ok-one_change-in-Delete.ensures at
    ∙ ap (λ a. map (possible_where at c.args.possible) (plain.one_change a false)) (c.in_ok-atom-in-Delete.ensures ∙ ap (λ s. atom_of s c.in-Delete.predicate c.deref-in-Delete.result.now) c.deref-in-Delete-2.ensures.value)
    ∙ ap (λ e. map (possible_where at c.args.possible) (plain.outcomes at.objects e c.args.scope.now.items)) (sym (is_Delete c.args.effect.now c.in-Delete.predicate c.in-Delete.terms c.deref-in-Delete.result.now c.in-Delete.is c.deref-in-Delete.ensures))

pub outcomes-returns-in_ok-outcomes_under-in-When-clause-outcomes : goal.outcomes-returns-in_ok-outcomes_under-in-When-clause-outcomes
outcomes-returns-in_ok-outcomes_under-in-When-clause-outcomes t c =
    let at = setting_in c.args.setting.now in
    let may = c.args.possible in
    let scope = c.args.scope.now.items in
    let f = formula_value c.in-When.formula in
    let part = effect_value c.deref-in-When.result.now in
    let k = guard_of c.in-When.formula scope in
    let os = plain.outcomes at.objects part scope in
    let inner : c.may_also_hold-inner.result ≡ (may && may_hold (value at f scope)) = c.may_also_hold-inner.ensures ∙ ap (λ v. may && may_hold v) c.in_ok-value-in-When.ensures.value in
    c.in_ok-outcomes_under-in-When.ensures
    ∙ ap (λ s. map (map (under (guard_of c.in-When.formula s))) (draft_trees c.in_ok-made-in-When.made.items)) (c.deref-in-When-2.ensures.value ∙ c.in_ok-made-in-When.ensures.scope ∙ c.in_ok-value-in-When.ensures.scope)
    ∙ ap (λ l. map (map (under k)) l)
    (c.in_ok-made-in-When.ensures.outcomes
    ∙ ap (λ s. map (possible_where at c.may_also_hold-inner.result) (plain.outcomes at.objects part s)) c.in_ok-value-in-When.ensures.scope
    ∙ ap (λ b. map (possible_where at b) os) inner)
    ∙ sym (outcomes_inside at may k os)
    ∙ ap (λ e. map (possible_where at may) (plain.outcomes at.objects e scope)) (sym (is_When c.args.effect.now c.in-When.formula c.in-When.part c.deref-in-When.result.now c.in-When.is c.deref-in-When.ensures))

pub outcomes_of_both-loop-effect-init : goal.outcomes_of_both-loop-effect-init
outcomes_of_both-loop-effect-init t c =
    let at = setting_in c.args.setting.now in
    (refl, together_start at c.args.possible (λ (e : Effect). plain.outcomes at.objects (effect_value e) c.args.scope.now.items) c.args.effects.now _ c.in_ok-made.ensures)

pub outcomes_of_both-loop-effect-preserved : goal.outcomes_of_both-loop-effect-preserved
outcomes_of_both-loop-effect-preserved t c =
    let at = setting_in c.args.setting.now in
    let scope = c.args.scope.now.items in (
      c.in_ok-next.ensures.scope ∙ c.loop-effect.invariant.0,
      together_step at c.args.possible (λ (e : Effect). plain.outcomes at.objects (effect_value e) scope) c.args.effects.now c.loop-effect.effect-index c.effect-item.result
          (draft_trees c.loop-effect.made.items) (draft_trees c.in_ok-next.next.items) _ _ c.loop-effect-test.true
          (c.in_ok-next.ensures.outcomes
          ∙ ap (λ s. map (possible_where at c.args.possible) (plain.outcomes at.objects (effect_value c.effect-item.result) s)) c.loop-effect.invariant.0
          ∙ ap (λ (e : Effect). map (possible_where at c.args.possible) (plain.outcomes at.objects (effect_value e) scope)) c.effect-item.is)
          (c.in_ok-made-2.ensures ∙ ap (λ l. products (draft_trees c.loop-effect.made.items) (draft_trees l)) c.deref.ensures.value)
          c.loop-effect.invariant.1,
    )

pub outcomes_of_both-returns-clause-outcomes : goal.outcomes_of_both-returns-clause-outcomes
outcomes_of_both-returns-clause-outcomes t c =
    let at = setting_in c.args.setting.now in
    let scope = c.args.scope.now.items in
    together_end at c.args.possible (λ (e : Effect). plain.outcomes at.objects (effect_value e) scope) c.args.effects.now c.loop-effect.effect-index (draft_trees c.loop-effect.made.items) c.loop-effect-test.false c.loop-effect.invariant.1
    ∙ ap (map (possible_where at c.args.possible)) (sym (both_is at.objects effect_value c.args.effects.now scope))

pub outcomes_of_either-returns-clause-outcomes : goal.outcomes_of_either-returns-clause-outcomes
outcomes_of_either-returns-clause-outcomes t c =
    let at = setting_in c.args.setting.now in
    let scope = c.args.scope.now.items in
    either_end at c.args.possible (λ (e : Effect). plain.outcomes at.objects (effect_value e) scope) c.args.effects.now c.loop-effect.effect-index (draft_trees c.loop-effect.made.items) c.loop-effect-test.false c.loop-effect.invariant.1
    ∙ ap (map (possible_where at c.args.possible)) (sym (either_is at.objects effect_value c.args.effects.now scope))

pub outcomes_of_each-loop-number-init : goal.outcomes_of_each-loop-number-init
outcomes_of_each-loop-number-init t c =
    let at = setting_in c.args.all.now.setting.now in
    (refl, together_start at c.args.possible (λ (chosen : List ℕ). plain.outcomes at.objects (effect_value c.args.effect.now) (c.args.scope.now.items ++ chosen)) (bindings at.objects c.args.all.now.types.now) _ c.in_ok-made.ensures)

pub outcomes_of_each-loop-number-preserved : goal.outcomes_of_each-loop-number-preserved
outcomes_of_each-loop-number-preserved t c =
    let at = setting_in c.args.all.now.setting.now in
    let scope = c.args.scope.now.items in
    let all = bindings at.objects c.args.all.now.types.now in
    let number = c.loop-number.number in
    let part = effect_value c.args.effect.now in
    let chosen = get_or all number [] in
    let there : number < length all = bound_below at.objects c.args.all.now.types.now c.in_ok-count.count number c.in_ok-count.ensures.count c.loop-number-test.true in
    let entered : c.bind.new.scope.items ≡ scope ++ chosen = c.in_ok-bind.ensures ∙ ap (λ s. s ++ chosen) c.loop-number.invariant.0 in (
      c.truncate.ensures.items ∙ unbound scope c.bind.new.scope.items c.outcomes.new.scope.items c.loop-number.scope.items chosen c.len-outer.result c.in_ok-bind.ensures c.loop-number.invariant.0 c.in_ok-next.ensures.scope (c.len-outer.ensures ∙ c.args.scope.now.ok.0),
      together_step at c.args.possible (λ (b : List ℕ). plain.outcomes at.objects part (scope ++ b)) all number []
          (draft_trees c.loop-number.made.items) (draft_trees c.in_ok-next.next.items) _ _ there
          (c.in_ok-next.ensures.outcomes ∙ ap (λ s. map (possible_where at c.args.possible) (plain.outcomes at.objects part s)) entered)
          (c.in_ok-made-2.ensures ∙ ap (λ l. products (draft_trees c.loop-number.made.items) (draft_trees l)) c.deref.ensures.value)
          c.loop-number.invariant.1,
    )

pub outcomes_of_each-returns-clause-outcomes : goal.outcomes_of_each-returns-clause-outcomes
outcomes_of_each-returns-clause-outcomes t c =
    let at = setting_in c.args.all.now.setting.now in
    together_end at c.args.possible (λ (chosen : List ℕ). plain.outcomes at.objects (effect_value c.args.effect.now) (c.args.scope.now.items ++ chosen)) (bindings at.objects c.args.all.now.types.now) c.loop-number.number (draft_trees c.loop-number.made.items)
    (bound_end at.objects c.args.all.now.types.now c.in_ok-count.count c.loop-number.number c.in_ok-count.ensures.count c.loop-number-test.false)
    c.loop-number.invariant.1
