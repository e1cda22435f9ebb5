use Rattle.std.proofs.Common.{◌≡◌, ◌∙◌, IfOk, subst, sym}
use Rattle.std.specs.Option.{option_map}
use Rattle.task_core.specs.Tasks.{fluent_count}
use Rattle.plan_rules.specs.Rules.{plain_of}
use Rattle.counterexamples.specs.Stays.{IsStaysFor}
use Rattle.counterexamples.specs.Values.{run_found_value, stays_value}
use Rattle.counterexamples.specs.declared.aims.Aim.{Aim}
use Rattle.counterexamples.specs.declared.aims.Aim.TheVariants.{Endless, Lost, Round}
use Rattle.counterexamples.proofs.stays.find_stays.Goals as goal

pub stays_if_found-requires-clause-reached : goal.stays_if_found-requires-clause-reached
stays_if_found-requires-clause-reached c = c.requires.reached (λ e. let z : Lost ≡ Round = sym c.in-Lost.is ∙ e in cc)

pub stays_if_found-requires-in-Endless-clause-reached : goal.stays_if_found-requires-in-Endless-clause-reached
stays_if_found-requires-in-Endless-clause-reached c = c.requires.reached (λ e. let z : Endless ≡ Round = sym c.in-Endless.is ∙ e in cc)

pub returns-in-Lost : goal.returns-in-Lost
returns-in-Lost c =
    let task = c.args.scene.now.task.now in
    subst (λ (aim : Aim). IfOk c.stays_if_found.result (λ o. IsStaysFor aim task (plain_of c.args.scene.now.plan.now) (run_found_value (fluent_count task) c.args.found.now) (option_map stays_value o))) (sym c.in-Lost.is) c.stays_if_found.ensures

pub returns-in-Endless : goal.returns-in-Endless
returns-in-Endless c =
    let task = c.args.scene.now.task.now in
    subst (λ (aim : Aim). IfOk c.stays_if_found-in-Endless.result (λ o. IsStaysFor aim task (plain_of c.args.scene.now.plan.now) (run_found_value (fluent_count task) c.args.found.now) (option_map stays_value o))) (sym c.in-Endless.is) c.stays_if_found-in-Endless.ensures
