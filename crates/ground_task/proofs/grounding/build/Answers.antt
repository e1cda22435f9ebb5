use Rattle.std.proofs.Common.{map, ap, ◌∙◌}
use Rattle.ground_instances.specs.Tables.{setting_in}
use Rattle.pddl_ast.specs.Values.{domain_value, problem_value}
use Rattle.pddl_system.specs.Systems as systems
use Rattle.task_core.specs.declared.actions.InitSpec.{InitSpec}
use Rattle.ground_task.specs.Collecting.{entries_value}
use Rattle.ground_task.proofs.PartLemmas.{AreBuilt, are_parts, make_task, task_is}
use Rattle.ground_task.proofs.grounding.build.Goals as goal

pub new-requires-clause-few_fluents : goal.new-requires-clause-few_fluents
new-requires-clause-few_fluents c =
    let d = domain_value c.args.domain.now in
    let p = problem_value c.args.problem.now in
    let at = setting_in c.args.setting.now in
    let fl = c.args.found.now.fluents in
    let init : InitSpec = record { facts = c.facts-facts.result; entries = c.in_ok-entries.entries } in
    let built : AreBuilt d p at fl c.in_ok-names.names.items c.in_ok-actions.actions.items init c.in_ok-goal.goal c.in_ok-invariant.invariant = record {
      setting_is = c.requires.setting;
      fluents_are = c.requires.fluents;
      named = c.in_ok-names.ensures;
      acts = c.in_ok-actions.ensures.value;
      says = c.in_ok-actions.ensures.says;
      begins = c.facts-facts.ensures;
      entered = c.in_ok-entries.ensures ∙ ap (λ l. map (systems.entry_over fl) (entries_value l)) c.deref-2.ensures.value;
      wanted = c.in_ok-goal.ensures;
      holding = c.in_ok-invariant.ensures;
    } in
    (make_task d p at fl c.in_ok-names.names.items c.in_ok-actions.actions.items init c.in_ok-goal.goal c.in_ok-invariant.invariant built c.requires.fits_domain c.requires.fits_problem c.requires.names c.requires.within).few_fluents

pub new-requires-clause-few_actions : goal.new-requires-clause-few_actions
new-requires-clause-few_actions c =
    let d = domain_value c.args.domain.now in
    let p = problem_value c.args.problem.now in
    let at = setting_in c.args.setting.now in
    let fl = c.args.found.now.fluents in
    let init : InitSpec = record { facts = c.facts-facts.result; entries = c.in_ok-entries.entries } in
    let built : AreBuilt d p at fl c.in_ok-names.names.items c.in_ok-actions.actions.items init c.in_ok-goal.goal c.in_ok-invariant.invariant = record {
      setting_is = c.requires.setting;
      fluents_are = c.requires.fluents;
      named = c.in_ok-names.ensures;
      acts = c.in_ok-actions.ensures.value;
      says = c.in_ok-actions.ensures.says;
      begins = c.facts-facts.ensures;
      entered = c.in_ok-entries.ensures ∙ ap (λ l. map (systems.entry_over fl) (entries_value l)) c.deref-2.ensures.value;
      wanted = c.in_ok-goal.ensures;
      holding = c.in_ok-invariant.ensures;
    } in
    (make_task d p at fl c.in_ok-names.names.items c.in_ok-actions.actions.items init c.in_ok-goal.goal c.in_ok-invariant.invariant built c.requires.fits_domain c.requires.fits_problem c.requires.names c.requires.within).few_actions

pub new-requires-clause-actions_within : goal.new-requires-clause-actions_within
new-requires-clause-actions_within c =
    let d = domain_value c.args.domain.now in
    let p = problem_value c.args.problem.now in
    let at = setting_in c.args.setting.now in
    let fl = c.args.found.now.fluents in
    let init : InitSpec = record { facts = c.facts-facts.result; entries = c.in_ok-entries.entries } in
    let built : AreBuilt d p at fl c.in_ok-names.names.items c.in_ok-actions.actions.items init c.in_ok-goal.goal c.in_ok-invariant.invariant = record {
      setting_is = c.requires.setting;
      fluents_are = c.requires.fluents;
      named = c.in_ok-names.ensures;
      acts = c.in_ok-actions.ensures.value;
      says = c.in_ok-actions.ensures.says;
      begins = c.facts-facts.ensures;
      entered = c.in_ok-entries.ensures ∙ ap (λ l. map (systems.entry_over fl) (entries_value l)) c.deref-2.ensures.value;
      wanted = c.in_ok-goal.ensures;
      holding = c.in_ok-invariant.ensures;
    } in
    (make_task d p at fl c.in_ok-names.names.items c.in_ok-actions.actions.items init c.in_ok-goal.goal c.in_ok-invariant.invariant built c.requires.fits_domain c.requires.fits_problem c.requires.names c.requires.within).within.actions_within

pub new-requires-clause-facts_within : goal.new-requires-clause-facts_within
new-requires-clause-facts_within c =
    let d = domain_value c.args.domain.now in
    let p = problem_value c.args.problem.now in
    let at = setting_in c.args.setting.now in
    let fl = c.args.found.now.fluents in
    let init : InitSpec = record { facts = c.facts-facts.result; entries = c.in_ok-entries.entries } in
    let built : AreBuilt d p at fl c.in_ok-names.names.items c.in_ok-actions.actions.items init c.in_ok-goal.goal c.in_ok-invariant.invariant = record {
      setting_is = c.requires.setting;
      fluents_are = c.requires.fluents;
      named = c.in_ok-names.ensures;
      acts = c.in_ok-actions.ensures.value;
      says = c.in_ok-actions.ensures.says;
      begins = c.facts-facts.ensures;
      entered = c.in_ok-entries.ensures ∙ ap (λ l. map (systems.entry_over fl) (entries_value l)) c.deref-2.ensures.value;
      wanted = c.in_ok-goal.ensures;
      holding = c.in_ok-invariant.ensures;
    } in
    (make_task d p at fl c.in_ok-names.names.items c.in_ok-actions.actions.items init c.in_ok-goal.goal c.in_ok-invariant.invariant built c.requires.fits_domain c.requires.fits_problem c.requires.names c.requires.within).within.facts_within

pub new-requires-clause-entries_within : goal.new-requires-clause-entries_within
new-requires-clause-entries_within c =
    let d = domain_value c.args.domain.now in
    let p = problem_value c.args.problem.now in
    let at = setting_in c.args.setting.now in
    let fl = c.args.found.now.fluents in
    let init : InitSpec = record { facts = c.facts-facts.result; entries = c.in_ok-entries.entries } in
    let built : AreBuilt d p at fl c.in_ok-names.names.items c.in_ok-actions.actions.items init c.in_ok-goal.goal c.in_ok-invariant.invariant = record {
      setting_is = c.requires.setting;
      fluents_are = c.requires.fluents;
      named = c.in_ok-names.ensures;
      acts = c.in_ok-actions.ensures.value;
      says = c.in_ok-actions.ensures.says;
      begins = c.facts-facts.ensures;
      entered = c.in_ok-entries.ensures ∙ ap (λ l. map (systems.entry_over fl) (entries_value l)) c.deref-2.ensures.value;
      wanted = c.in_ok-goal.ensures;
      holding = c.in_ok-invariant.ensures;
    } in
    (make_task d p at fl c.in_ok-names.names.items c.in_ok-actions.actions.items init c.in_ok-goal.goal c.in_ok-invariant.invariant built c.requires.fits_domain c.requires.fits_problem c.requires.names c.requires.within).within.entries_within

pub new-requires-clause-goal_within : goal.new-requires-clause-goal_within
new-requires-clause-goal_within c =
    let d = domain_value c.args.domain.now in
    let p = problem_value c.args.problem.now in
    let at = setting_in c.args.setting.now in
    let fl = c.args.found.now.fluents in
    let init : InitSpec = record { facts = c.facts-facts.result; entries = c.in_ok-entries.entries } in
    let built : AreBuilt d p at fl c.in_ok-names.names.items c.in_ok-actions.actions.items init c.in_ok-goal.goal c.in_ok-invariant.invariant = record {
      setting_is = c.requires.setting;
      fluents_are = c.requires.fluents;
      named = c.in_ok-names.ensures;
      acts = c.in_ok-actions.ensures.value;
      says = c.in_ok-actions.ensures.says;
      begins = c.facts-facts.ensures;
      entered = c.in_ok-entries.ensures ∙ ap (λ l. map (systems.entry_over fl) (entries_value l)) c.deref-2.ensures.value;
      wanted = c.in_ok-goal.ensures;
      holding = c.in_ok-invariant.ensures;
    } in
    (make_task d p at fl c.in_ok-names.names.items c.in_ok-actions.actions.items init c.in_ok-goal.goal c.in_ok-invariant.invariant built c.requires.fits_domain c.requires.fits_problem c.requires.names c.requires.within).within.goal_within

pub new-requires-clause-invariant_within : goal.new-requires-clause-invariant_within
new-requires-clause-invariant_within c =
    let d = domain_value c.args.domain.now in
    let p = problem_value c.args.problem.now in
    let at = setting_in c.args.setting.now in
    let fl = c.args.found.now.fluents in
    let init : InitSpec = record { facts = c.facts-facts.result; entries = c.in_ok-entries.entries } in
    let built : AreBuilt d p at fl c.in_ok-names.names.items c.in_ok-actions.actions.items init c.in_ok-goal.goal c.in_ok-invariant.invariant = record {
      setting_is = c.requires.setting;
      fluents_are = c.requires.fluents;
      named = c.in_ok-names.ensures;
      acts = c.in_ok-actions.ensures.value;
      says = c.in_ok-actions.ensures.says;
      begins = c.facts-facts.ensures;
      entered = c.in_ok-entries.ensures ∙ ap (λ l. map (systems.entry_over fl) (entries_value l)) c.deref-2.ensures.value;
      wanted = c.in_ok-goal.ensures;
      holding = c.in_ok-invariant.ensures;
    } in
    (make_task d p at fl c.in_ok-names.names.items c.in_ok-actions.actions.items init c.in_ok-goal.goal c.in_ok-invariant.invariant built c.requires.fits_domain c.requires.fits_problem c.requires.names c.requires.within).within.invariant_within

pub new-requires-clause-fluent_names : goal.new-requires-clause-fluent_names
new-requires-clause-fluent_names c =
    let d = domain_value c.args.domain.now in
    let p = problem_value c.args.problem.now in
    let at = setting_in c.args.setting.now in
    let fl = c.args.found.now.fluents in
    let init : InitSpec = record { facts = c.facts-facts.result; entries = c.in_ok-entries.entries } in
    let built : AreBuilt d p at fl c.in_ok-names.names.items c.in_ok-actions.actions.items init c.in_ok-goal.goal c.in_ok-invariant.invariant = record {
      setting_is = c.requires.setting;
      fluents_are = c.requires.fluents;
      named = c.in_ok-names.ensures;
      acts = c.in_ok-actions.ensures.value;
      says = c.in_ok-actions.ensures.says;
      begins = c.facts-facts.ensures;
      entered = c.in_ok-entries.ensures ∙ ap (λ l. map (systems.entry_over fl) (entries_value l)) c.deref-2.ensures.value;
      wanted = c.in_ok-goal.ensures;
      holding = c.in_ok-invariant.ensures;
    } in
    (make_task d p at fl c.in_ok-names.names.items c.in_ok-actions.actions.items init c.in_ok-goal.goal c.in_ok-invariant.invariant built c.requires.fits_domain c.requires.fits_problem c.requires.names c.requires.within).fluent_names

pub new-requires-clause-action_names : goal.new-requires-clause-action_names
new-requires-clause-action_names c =
    let d = domain_value c.args.domain.now in
    let p = problem_value c.args.problem.now in
    let at = setting_in c.args.setting.now in
    let fl = c.args.found.now.fluents in
    let init : InitSpec = record { facts = c.facts-facts.result; entries = c.in_ok-entries.entries } in
    let built : AreBuilt d p at fl c.in_ok-names.names.items c.in_ok-actions.actions.items init c.in_ok-goal.goal c.in_ok-invariant.invariant = record {
      setting_is = c.requires.setting;
      fluents_are = c.requires.fluents;
      named = c.in_ok-names.ensures;
      acts = c.in_ok-actions.ensures.value;
      says = c.in_ok-actions.ensures.says;
      begins = c.facts-facts.ensures;
      entered = c.in_ok-entries.ensures ∙ ap (λ l. map (systems.entry_over fl) (entries_value l)) c.deref-2.ensures.value;
      wanted = c.in_ok-goal.ensures;
      holding = c.in_ok-invariant.ensures;
    } in
    (make_task d p at fl c.in_ok-names.names.items c.in_ok-actions.actions.items init c.in_ok-goal.goal c.in_ok-invariant.invariant built c.requires.fits_domain c.requires.fits_problem c.requires.names c.requires.within).action_names

pub new-requires-clause-shallow_actions : goal.new-requires-clause-shallow_actions
new-requires-clause-shallow_actions c =
    let d = domain_value c.args.domain.now in
    let p = problem_value c.args.problem.now in
    let at = setting_in c.args.setting.now in
    let fl = c.args.found.now.fluents in
    let init : InitSpec = record { facts = c.facts-facts.result; entries = c.in_ok-entries.entries } in
    let built : AreBuilt d p at fl c.in_ok-names.names.items c.in_ok-actions.actions.items init c.in_ok-goal.goal c.in_ok-invariant.invariant = record {
      setting_is = c.requires.setting;
      fluents_are = c.requires.fluents;
      named = c.in_ok-names.ensures;
      acts = c.in_ok-actions.ensures.value;
      says = c.in_ok-actions.ensures.says;
      begins = c.facts-facts.ensures;
      entered = c.in_ok-entries.ensures ∙ ap (λ l. map (systems.entry_over fl) (entries_value l)) c.deref-2.ensures.value;
      wanted = c.in_ok-goal.ensures;
      holding = c.in_ok-invariant.ensures;
    } in
    (make_task d p at fl c.in_ok-names.names.items c.in_ok-actions.actions.items init c.in_ok-goal.goal c.in_ok-invariant.invariant built c.requires.fits_domain c.requires.fits_problem c.requires.names c.requires.within).shallow.shallow_actions

pub new-requires-clause-shallow_goal : goal.new-requires-clause-shallow_goal
new-requires-clause-shallow_goal c =
    let d = domain_value c.args.domain.now in
    let p = problem_value c.args.problem.now in
    let at = setting_in c.args.setting.now in
    let fl = c.args.found.now.fluents in
    let init : InitSpec = record { facts = c.facts-facts.result; entries = c.in_ok-entries.entries } in
    let built : AreBuilt d p at fl c.in_ok-names.names.items c.in_ok-actions.actions.items init c.in_ok-goal.goal c.in_ok-invariant.invariant = record {
      setting_is = c.requires.setting;
      fluents_are = c.requires.fluents;
      named = c.in_ok-names.ensures;
      acts = c.in_ok-actions.ensures.value;
      says = c.in_ok-actions.ensures.says;
      begins = c.facts-facts.ensures;
      entered = c.in_ok-entries.ensures ∙ ap (λ l. map (systems.entry_over fl) (entries_value l)) c.deref-2.ensures.value;
      wanted = c.in_ok-goal.ensures;
      holding = c.in_ok-invariant.ensures;
    } in
    (make_task d p at fl c.in_ok-names.names.items c.in_ok-actions.actions.items init c.in_ok-goal.goal c.in_ok-invariant.invariant built c.requires.fits_domain c.requires.fits_problem c.requires.names c.requires.within).shallow.shallow_goal

pub new-requires-clause-shallow_invariant : goal.new-requires-clause-shallow_invariant
new-requires-clause-shallow_invariant c =
    let d = domain_value c.args.domain.now in
    let p = problem_value c.args.problem.now in
    let at = setting_in c.args.setting.now in
    let fl = c.args.found.now.fluents in
    let init : InitSpec = record { facts = c.facts-facts.result; entries = c.in_ok-entries.entries } in
    let built : AreBuilt d p at fl c.in_ok-names.names.items c.in_ok-actions.actions.items init c.in_ok-goal.goal c.in_ok-invariant.invariant = record {
      setting_is = c.requires.setting;
      fluents_are = c.requires.fluents;
      named = c.in_ok-names.ensures;
      acts = c.in_ok-actions.ensures.value;
      says = c.in_ok-actions.ensures.says;
      begins = c.facts-facts.ensures;
      entered = c.in_ok-entries.ensures ∙ ap (λ l. map (systems.entry_over fl) (entries_value l)) c.deref-2.ensures.value;
      wanted = c.in_ok-goal.ensures;
      holding = c.in_ok-invariant.ensures;
    } in
    (make_task d p at fl c.in_ok-names.names.items c.in_ok-actions.actions.items init c.in_ok-goal.goal c.in_ok-invariant.invariant built c.requires.fits_domain c.requires.fits_problem c.requires.names c.requires.within).shallow.shallow_invariant

pub returns : goal.returns
returns c =
    let d = domain_value c.args.domain.now in
    let p = problem_value c.args.problem.now in
    let at = setting_in c.args.setting.now in
    let fl = c.args.found.now.fluents in
    let init : InitSpec = record { facts = c.facts-facts.result; entries = c.in_ok-entries.entries } in
    let built : AreBuilt d p at fl c.in_ok-names.names.items c.in_ok-actions.actions.items init c.in_ok-goal.goal c.in_ok-invariant.invariant = record {
      setting_is = c.requires.setting;
      fluents_are = c.requires.fluents;
      named = c.in_ok-names.ensures;
      acts = c.in_ok-actions.ensures.value;
      says = c.in_ok-actions.ensures.says;
      begins = c.facts-facts.ensures;
      entered = c.in_ok-entries.ensures ∙ ap (λ l. map (systems.entry_over fl) (entries_value l)) c.deref-2.ensures.value;
      wanted = c.in_ok-goal.ensures;
      holding = c.in_ok-invariant.ensures;
    } in
    task_is d p c.new.result c.in_ok-names.names c.in_ok-actions.actions init c.in_ok-goal.goal c.in_ok-invariant.invariant c.new.ensures.fluents c.new.ensures.actions c.new.ensures.init c.new.ensures.goal c.new.ensures.invariant
    (are_parts d p at fl c.in_ok-names.names.items c.in_ok-actions.actions.items init c.in_ok-goal.goal c.in_ok-invariant.invariant built)
