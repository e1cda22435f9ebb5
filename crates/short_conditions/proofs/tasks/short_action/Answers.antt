use Rattle.std.proofs.Common.{map, ap, ◌∙◌}
use Rattle.std.specs.Rc.{rc_str_bytes}
use Rattle.task_core.specs.Actions.{outcome_is_shallow, outcome_within}
use Rattle.short_conditions.specs.Meanings.{outcome_meaning}
use Rattle.short_conditions.proofs.ReplaceLemmas.{action_replaces, is_short, replaces_along}
use Rattle.short_conditions.proofs.tasks.short_action.Goals as goal

pub returns : goal.returns
returns c =
    let e = c.in_ok-exec.ensures in
    action_replaces c.args.action.now _ (c.in_ok-name.ensures ∙ ap (map rc_str_bytes) c.deref.ensures.value)
    (is_short c.args.action.now.exec c.in_ok-exec.exec e.same e.fluents e.depth)
    (replaces_along outcome_meaning outcome_within outcome_is_shallow c.deref-2.result.now c.args.action.now.outcomes.items c.in_ok-outcomes.outcomes.items c.deref-2.ensures.value c.in_ok-outcomes.ensures)
