use Rattle.std.proofs.Common.{◌≡◌, ap, sym, ◌∙◌}
use Rattle.std.specs.Option.{option_map}
use Rattle.task_core.specs.Cubes.{matches}
use Rattle.task_core.specs.States.{vector}
use Rattle.task_core.specs.Tasks.{fluent_count}
use Rattle.plan_rules.specs.Rules.{PlanCase, case_of}
use Rattle.plan_rules.specs.declared.rules.Case.{Case}
use Rattle.rule_lookup.proofs.Finding.{find_map, first_found, none_found}
use Rattle.rule_lookup.proofs.cases.GuideCases.context_in.Goals as goal

pub returns-in-Some : goal.returns-in-Some
returns-in-Some c =
    let n = fluent_count c.args.task.now in
    let state = c.args.state.now in
    let cases = c.args.self.now.cases.now in
    let d : Case = c.index-self-number.result in
    sym (ap (option_map (λ (case : PlanCase). case.context))
    (find_map (λ (case : PlanCase). matches case.cube (vector n state)) case_of cases
    ∙ ap (option_map case_of)
    (first_found (λ (case : Case). case.cube.items) cases c.args.self.now.index n state c.args.task.now.few_fluents
    c.requires.indexed c.requires.in_task c.in-Some.number d c.in-Some.ensures)))

pub returns-in-None : goal.returns-in-None
returns-in-None c =
    let n = fluent_count c.args.task.now in
    let state = c.args.state.now in
    let cases = c.args.self.now.cases.now in
    sym (ap (option_map (λ (case : PlanCase). case.context))
    (find_map (λ (case : PlanCase). matches case.cube (vector n state)) case_of cases
    ∙ ap (option_map case_of)
    (none_found (λ (case : Case). case.cube.items) cases c.args.self.now.index n state c.args.task.now.few_fluents
    c.requires.indexed c.requires.in_task c.in-None.ensures)))
