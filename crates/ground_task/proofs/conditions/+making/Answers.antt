use Rattle.ground_task.proofs.conditions.+making.Goals as goal
use Rattle.std.proofs.Common.{◌≡◌, ◌+◌, ◌<◌, [], ◌++◌, map, length, get_or, drop, ap, ◌∙◌}
use Rattle.pddl_ast.specs.Values.{formula_value}
use Rattle.pddl_system.specs.Objects.{bindings}
use Rattle.pddl_system.specs.Tasks.{atom_condition, condition_of}
use Rattle.ctl_syntax.specs.Conditions.{condition_value}
use Rattle.ground_task.proofs.BindingLemmas.{bound_below, bound_end, unbound}
use Rattle.ground_task.proofs.ListSteps.{map_end, map_push_step}
use Rattle.ground_instances.specs.Tables.{setting_in}
use Rattle.ground_task.proofs.ConditionLemmas.{each_condition, of_Atom, of_All, of_Any, of_Exists, of_Forall}

pub condition-returns-in_ok-conditions-in-All-clause-condition : goal.condition-returns-in_ok-conditions-in-All-clause-condition
condition-returns-in_ok-conditions-in-All-clause-condition t c =
    of_All (setting_in c.args.setting.now) c.args.fluents.now c.args.formula.now c.in-All.parts _ c.in_ok-conditions-in-All.field-0 c.args.scope.now.items c.in-All.is c.deref-in-All.ensures.value c.in_ok-conditions-in-All.ensures.conditions

pub condition-returns-in_ok-conditions-in-Any-clause-condition : goal.condition-returns-in_ok-conditions-in-Any-clause-condition
condition-returns-in_ok-conditions-in-Any-clause-condition t c =
    of_Any (setting_in c.args.setting.now) c.args.fluents.now c.args.formula.now c.in-Any.parts _ c.in_ok-conditions-in-Any.field-0 c.args.scope.now.items c.in-Any.is c.deref-in-Any.ensures.value c.in_ok-conditions-in-Any.ensures.conditions

pub condition-returns-in_ok-conditions_for_each-in-Exists-clause-condition : goal.condition-returns-in_ok-conditions_for_each-in-Exists-clause-condition
condition-returns-in_ok-conditions_for_each-in-Exists-clause-condition t c =
    of_Exists (setting_in c.args.setting.now) c.args.fluents.now c.args.formula.now c.in-Exists.types c.in-Exists.part _ _ c.in_ok-conditions_for_each-in-Exists.field-0 c.args.scope.now.items c.in-Exists.is c.deref-in-Exists.ensures.value c.deref-in-Exists-2.ensures c.in_ok-conditions_for_each-in-Exists.ensures.conditions

pub condition-returns-in_ok-conditions_for_each-in-Forall-clause-condition : goal.condition-returns-in_ok-conditions_for_each-in-Forall-clause-condition
condition-returns-in_ok-conditions_for_each-in-Forall-clause-condition t c =
    of_Forall (setting_in c.args.setting.now) c.args.fluents.now c.args.formula.now c.in-Forall.types c.in-Forall.part _ _ c.in_ok-conditions_for_each-in-Forall.field-0 c.args.scope.now.items c.in-Forall.is c.deref-in-Forall.ensures.value c.deref-in-Forall-2.ensures c.in_ok-conditions_for_each-in-Forall.ensures.conditions

pub condition-returns-in_ok-atom-in-Atom-clause-condition : goal.condition-returns-in_ok-atom-in-Atom-clause-condition
condition-returns-in_ok-atom-in-Atom-clause-condition t c =
    c.atom_condition.ensures
    ∙ ap (atom_condition (setting_in c.args.setting.now) c.args.fluents.now) c.in_ok-atom-in-Atom.ensures
    ∙ of_Atom (setting_in c.args.setting.now) c.args.fluents.now c.args.formula.now c.in-Atom.predicate c.in-Atom.terms _ c.args.scope.now.items _ c.in-Atom.is c.deref.ensures c.deref-in-Atom.ensures.value

pub conditions_for_each-loop-number-preserved : goal.conditions_for_each-loop-number-preserved
conditions_for_each-loop-number-preserved t c =
    let at = setting_in c.args.all.now.setting.now in
    let scope = c.args.scope.now.items in
    let all = bindings at.objects c.args.all.now.types.now in
    let number = c.loop-number.number in
    let part = formula_value c.args.formula.now in
    let there : number < length all = bound_below at.objects c.args.all.now.types.now c.in_ok-count.count number c.in_ok-count.ensures.count c.loop-number-test.true in
    let entered : c.bind.new.scope.items ≡ scope ++ get_or all number [] = c.in_ok-bind.ensures ∙ ap (λ s. s ++ get_or all number []) c.loop-number.invariant.0 in
    let new : condition_value c.in_ok-condition.field-0 ≡ condition_of at c.args.fluents.now part (scope ++ get_or all number []) = c.in_ok-condition.ensures.condition ∙ ap (condition_of at c.args.fluents.now part) entered in (
      c.truncate.ensures.items ∙ unbound scope c.bind.new.scope.items c.condition.new.scope.items c.loop-number.scope.items (get_or all number []) c.len-outer.result (c.in_ok-bind.ensures) c.loop-number.invariant.0 c.in_ok-condition.ensures.scope (c.len-outer.ensures ∙ c.args.scope.now.ok.0),
      ap (λ l. map condition_value l ++ each_condition at c.args.fluents.now part scope (drop (number + 1) all)) c.in_ok-push.ensures.items
          ∙ map_push_step condition_value (λ chosen. condition_of at c.args.fluents.now part (scope ++ chosen)) all number [] c.loop-number.conds.items c.in_ok-condition.field-0 _ there new c.loop-number.invariant.1,
    )

pub conditions_for_each-returns-clause-conditions : goal.conditions_for_each-returns-clause-conditions
conditions_for_each-returns-clause-conditions t c =
    let at = setting_in c.args.all.now.setting.now in
    map_end (λ chosen. condition_of at c.args.fluents.now (formula_value c.args.formula.now) (c.args.scope.now.items ++ chosen)) (bindings at.objects c.args.all.now.types.now) c.loop-number.number _ _
    (bound_end at.objects c.args.all.now.types.now c.in_ok-count.count c.loop-number.number c.in_ok-count.ensures.count c.loop-number-test.false)
    c.loop-number.invariant.1
