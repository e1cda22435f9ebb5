use Rattle.std.proofs.Common.{◌≡◌, ◌+◌, List, drop, ◌++◌, Option, Some, map, ap, sym, ◌∙◌}
use Rattle.std.specs.Option.{is_some, option_map}
use Rattle.ground_instances.specs.Kept.{kept_by}
use Rattle.ground_instances.specs.Tables.{setting_in}
use Rattle.pddl_ast.specs.Values.{domain_value, problem_value}
use Rattle.pddl_system.specs.Instances.{Instance as InstanceTree}
use Rattle.pddl_system.specs.Outcomes.{OutcomeTree, outcomes_of, possible_changes}
use Rattle.pddl_system.specs.Tasks.{ActionTree, condition_of}
use Rattle.pddl_system.specs.Systems.{instance_name}
use Rattle.std.specs.List.{list_all}
use Rattle.pddl_system.specs.Values.{action_has_literals, action_value}
use Rattle.list_laws.proofs.Elements.{list_all-more}
use Rattle.ground_task.specs.Actions.{action_in, action_over}
use Rattle.ground_task.specs.Drafts.{action_tree, draft_trees, drafted}
use Rattle.ground_task.proofs.ListSteps.{map_turn}
use Rattle.ground_task.proofs.NamingLemmas.{turn_by}
use Rattle.ground_task.proofs.PartTrees.{possible_over}
use Rattle.ground_task.proofs.actions.actions.Goals as goal

pub action-requires-clause-there : goal.action-requires-clause-there
action-requires-clause-there c =
    let d = domain_value c.args.naming.now.domain.now in
    let at = setting_in c.args.setting.now in
    let k = turn_by (action_tree d) (drafted at) c.args.drafts.now (kept_by at d) c.loop-draft.draft-index c.draft-item.result c.requires.drafts c.loop-draft-test.true c.draft-item.is in
    ap (λ (r : Option InstanceTree × List OutcomeTree). is_some r.0) k.1

pub loop-draft-preserved : goal.loop-draft-preserved
loop-draft-preserved c =
    let d = domain_value c.args.naming.now.domain.now in
    let p = problem_value c.args.naming.now.problem.now in
    let at = setting_in c.args.setting.now in
    let fl = c.args.fluents.now in
    let i = c.loop-draft.draft-index in
    let item = c.draft-item.result in
    let make = action_in at fl d p in
    let k = turn_by (action_tree d) (drafted at) c.args.drafts.now (kept_by at d) i item c.requires.drafts c.loop-draft-test.true c.draft-item.is in
    let made : action_value c.in_ok-action.field-0 ≡ action_over at fl d p k.0 (draft_trees item.outcomes.items) =
    inner _ _ (c.in_ok-action.ensures.value ∙ ap (λ (r : Option InstanceTree × List OutcomeTree). option_map (λ j. action_over at fl d p j (draft_trees item.outcomes.items)) r.0) k.1) in
    let are : draft_trees item.outcomes.items ≡ map (possible_changes at) (outcomes_of at k.0) = ap (λ (r : Option InstanceTree × List OutcomeTree). r.1) k.1 in (
      ap (λ l. map action_value l ++ map make (drop (i + 1) (kept_by at d))) c.in_ok-push.ensures.items
          ∙ map_turn action_value make (kept_by at d) i k.0 c.loop-draft.actions.items c.in_ok-action.field-0 _ k.2
          (made
          ∙ ap (action_over at fl d p k.0) are
          ∙ ap (λ l. let a : ActionTree = record { name = instance_name d p k.0; exec = condition_of at fl k.0.schema.precondition k.0.objects; outcomes = l } in a) (possible_over at fl (outcomes_of at k.0)))
          c.loop-draft.invariant.0,
      ap (list_all action_has_literals) c.in_ok-push.ensures.items ∙ list_all-more action_has_literals c.loop-draft.actions.items c.in_ok-action.field-0 c.loop-draft.invariant.1 c.in_ok-action.ensures.says,
    )
  where
    inner : (a b : ActionTree) → Some a ≡ Some b → a ≡ b
    inner a b e = cc
