use Rattle.std.proofs.Common.{◌∙◌, [], ap, arith, sym}
use Rattle.std.specs.List.{list_all}
use Rattle.std.proofs.lemmas.List.{drop_all}
use Rattle.std.proofs.lemmas.List.Folds.{list_all_at}
use Rattle.ground_instances.specs.Tables.{setting_in}
use Rattle.ground_instances.proofs.Numbered.{length_bindings}
use Rattle.pddl_ast.specs.Values.{formula_value}
use Rattle.pddl_system.specs.Objects.{bindings}
use Rattle.never_executed.specs.Causes.{is_false}
use Rattle.never_executed.proofs.facts.is_false_for_all.Goals as goal

pub returns-then-not-branch : goal.returns-then-not-branch
returns-then-not-branch c =
    let at = setting_in c.args.all.now.setting.now in
    let types = c.args.all.now.types.now in
    let test = is_false at (formula_value c.args.formula.now) in
    sym (list_all_at test (bindings at.objects types) c.loop-number.number [] (omega (arith, c.loop-number-test.true, c.requires, length_bindings at.objects types))
    (sym c.in_ok-is_false_for.ensures ∙ c.if-not-branch.true))

pub returns : goal.returns
returns c =
    let at = setting_in c.args.all.now.setting.now in
    let types = c.args.all.now.types.now in
    let test = is_false at (formula_value c.args.formula.now) in
    sym (ap (list_all test) (drop_all c.loop-number.number (bindings at.objects types) (omega (arith, c.loop-number-test.false, c.requires, length_bindings at.objects types))))
    ∙ c.loop-number.invariant
