use Rattle.std.proofs.Common.{length, map, ap, ◌∙◌}
use Rattle.task_core.specs.Actions.{action_is_shallow, action_within}
use Rattle.task_core.specs.Initial.{entries_of, entry_of}
use Rattle.task_core.specs.Conditions.{holds}
use Rattle.task_core.specs.Names.{name_bytes, name_of}
use Rattle.short_conditions.specs.Meanings.{action_meaning, goal_meaning}
use Rattle.short_conditions.proofs.ReplaceLemmas.{is_short, replaces_along}
use Rattle.short_conditions.proofs.SystemLemmas.{same_system}
use Rattle.short_conditions.proofs.TaskLemmas.{new_action_names, new_actions_within, new_entries_within, new_facts_within, new_few_actions, new_few_fluents, new_fluent_names, new_goal_within, new_invariant_within, new_shallow_actions, same_action_names, same_count}
use Rattle.short_conditions.proofs.tasks.short_task.Goals as goal

pub new-requires-clause-few_fluents : goal.new-requires-clause-few_fluents
new-requires-clause-few_fluents c =
    new_few_fluents c.in_ok-fluents.fluents.items c.args.task.now (c.in_ok-fluents.ensures ∙ ap (map name_bytes) c.deref.ensures.value)

pub new-requires-clause-few_actions : goal.new-requires-clause-few_actions
new-requires-clause-few_actions c =
    new_few_actions c.in_ok-fluents.fluents.items c.args.task.now (c.in_ok-fluents.ensures ∙ ap (map name_bytes) c.deref.ensures.value) c.in_ok-actions.actions.items (replaces_along action_meaning action_within action_is_shallow c.deref-2.result.now c.args.task.now.actions.items c.in_ok-actions.actions.items c.deref-2.ensures.value c.in_ok-actions.ensures)

pub new-requires-clause-actions_within : goal.new-requires-clause-actions_within
new-requires-clause-actions_within c =
    new_actions_within c.in_ok-fluents.fluents.items c.args.task.now (c.in_ok-fluents.ensures ∙ ap (map name_bytes) c.deref.ensures.value) c.in_ok-actions.actions.items (replaces_along action_meaning action_within action_is_shallow c.deref-2.result.now c.args.task.now.actions.items c.in_ok-actions.actions.items c.deref-2.ensures.value c.in_ok-actions.ensures)

pub new-requires-clause-facts_within : goal.new-requires-clause-facts_within
new-requires-clause-facts_within c =
    new_facts_within c.in_ok-fluents.fluents.items c.args.task.now (c.in_ok-fluents.ensures ∙ ap (map name_bytes) c.deref.ensures.value)

pub new-requires-clause-entries_within : goal.new-requires-clause-entries_within
new-requires-clause-entries_within c =
    new_entries_within c.in_ok-fluents.fluents.items c.args.task.now (c.in_ok-fluents.ensures ∙ ap (map name_bytes) c.deref.ensures.value) _ (c.in_ok-entries.ensures ∙ ap (map (λ entry. entry_of entry.items)) c.deref-3.ensures.value)

pub new-requires-clause-goal_within : goal.new-requires-clause-goal_within
new-requires-clause-goal_within c =
    new_goal_within c.in_ok-fluents.fluents.items c.args.task.now (c.in_ok-fluents.ensures ∙ ap (map name_bytes) c.deref.ensures.value) c.in_ok-goal.goal c.in_ok-goal.ensures

pub new-requires-clause-invariant_within : goal.new-requires-clause-invariant_within
new-requires-clause-invariant_within c =
    new_invariant_within c.in_ok-fluents.fluents.items c.args.task.now (c.in_ok-fluents.ensures ∙ ap (map name_bytes) c.deref.ensures.value) c.in_ok-invariant.invariant c.in_ok-invariant.ensures.fluents

pub new-requires-clause-fluent_names : goal.new-requires-clause-fluent_names
new-requires-clause-fluent_names c =
    new_fluent_names c.in_ok-fluents.fluents.items c.args.task.now (c.in_ok-fluents.ensures ∙ ap (map name_bytes) c.deref.ensures.value)

pub new-requires-clause-action_names : goal.new-requires-clause-action_names
new-requires-clause-action_names c =
    new_action_names c.in_ok-fluents.fluents.items c.args.task.now (c.in_ok-fluents.ensures ∙ ap (map name_bytes) c.deref.ensures.value) c.in_ok-actions.actions.items (replaces_along action_meaning action_within action_is_shallow c.deref-2.result.now c.args.task.now.actions.items c.in_ok-actions.actions.items c.deref-2.ensures.value c.in_ok-actions.ensures)

pub new-requires-clause-shallow_actions : goal.new-requires-clause-shallow_actions
new-requires-clause-shallow_actions c =
    new_shallow_actions c.in_ok-fluents.fluents.items c.args.task.now (c.in_ok-fluents.ensures ∙ ap (map name_bytes) c.deref.ensures.value) c.in_ok-actions.actions.items (replaces_along action_meaning action_within action_is_shallow c.deref-2.result.now c.args.task.now.actions.items c.in_ok-actions.actions.items c.deref-2.ensures.value c.in_ok-actions.ensures)

pub new-requires-clause-shallow_goal : goal.new-requires-clause-shallow_goal
new-requires-clause-shallow_goal c =
    c.in_ok-goal.ensures.shallow c.args.task.now.shallow_goal

pub new-requires-clause-shallow_invariant : goal.new-requires-clause-shallow_invariant
new-requires-clause-shallow_invariant c =
    (is_short c.args.task.now.invariant c.in_ok-invariant.invariant c.in_ok-invariant.ensures.same c.in_ok-invariant.ensures.fluents c.in_ok-invariant.ensures.depth).shallow c.args.task.now.shallow_invariant

pub returns-clause-fluents : goal.returns-clause-fluents
returns-clause-fluents c =
    ap (λ names. map name_bytes names.items) c.new.ensures.fluents ∙ (c.in_ok-fluents.ensures ∙ ap (map name_bytes) c.deref.ensures.value)

pub returns-clause-actions : goal.returns-clause-actions
returns-clause-actions c =
    ap (λ actions. map name_of actions.items) c.new.ensures.actions
    ∙ same_action_names c.in_ok-actions.actions.items c.args.task.now.actions.items (replaces_along action_meaning action_within action_is_shallow c.deref-2.result.now c.args.task.now.actions.items c.in_ok-actions.actions.items c.deref-2.ensures.value c.in_ok-actions.ensures).means

pub returns-clause-facts : goal.returns-clause-facts
returns-clause-facts c = ap (λ init. init.facts) c.new.ensures.init

pub returns-clause-entries : goal.returns-clause-entries
returns-clause-entries c =
    ap entries_of c.new.ensures.init ∙ (c.in_ok-entries.ensures ∙ ap (map (λ entry. entry_of entry.items)) c.deref-3.ensures.value)

pub returns-clause-system : goal.returns-clause-system
returns-clause-system c =
    let made = c.new.ensures in
    same_system c.args.task.now c.new.result
    (ap (λ names. length names.items) made.fluents ∙ same_count c.in_ok-fluents.fluents.items c.args.task.now (c.in_ok-fluents.ensures ∙ ap (map name_bytes) c.deref.ensures.value))
    (ap (λ actions. map action_meaning actions.items) made.actions ∙ (replaces_along action_meaning action_within action_is_shallow c.deref-2.result.now c.args.task.now.actions.items c.in_ok-actions.actions.items c.deref-2.ensures.value c.in_ok-actions.ensures).means)
    (ap (λ init. init.facts) made.init)
    (ap entries_of made.init ∙ (c.in_ok-entries.ensures ∙ ap (map (λ entry. entry_of entry.items)) c.deref-3.ensures.value))
    (ap goal_meaning made.goal ∙ c.in_ok-goal.ensures.means)
    (ap holds made.invariant ∙ (is_short c.args.task.now.invariant c.in_ok-invariant.invariant c.in_ok-invariant.ensures.same c.in_ok-invariant.ensures.fluents c.in_ok-invariant.ensures.depth).same)
