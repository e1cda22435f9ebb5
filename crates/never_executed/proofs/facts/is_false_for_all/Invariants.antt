-- For each binding so far the formula is false.
use Rattle.std.proofs.Common.{◌≡◌, drop}
use Rattle.std.specs.List.{list_all}
use Rattle.ground_instances.specs.Tables.{setting_in}
use Rattle.pddl_ast.specs.Values.{formula_value}
use Rattle.pddl_system.specs.Objects.{bindings}
use Rattle.never_executed.specs.Causes.{is_false}
use Rattle.never_executed.proofs.facts.is_false_for_all.Given as goal

abbrev pub invariant-loop-number : goal.invariant-loop-number
invariant-loop-number l =
    let at = setting_in l.all.setting.now in
    let test = is_false at (formula_value l.formula) in
    let rows = bindings at.objects l.all.types.now in
    list_all test (drop l.number rows) ≡ list_all test rows
