use Rattle.std.proofs.Common.{map, sym, ◌∙◌}
use Rattle.std.proofs.lemmas.Bool.{false≢true}
use Rattle.task_core.specs.Names.{name_of}
use Rattle.task_core.proofs.NameChecks.{action_names_from, action_names_to}
use Rattle.task_core.proofs.checks.are_action_names.Goals as goal

pub returns-then-action_names_pass : goal.returns-then-action_names_pass
returns-then-action_names_pass c =
    let names = map name_of c.args.actions.now in (
      λ e. action_names_from names (sym c.action_names_pass.ensures ∙ c.if-action_names_pass.true) (sym c.actions_differ.ensures ∙ e),
      λ are. c.actions_differ.ensures ∙ (action_names_to names are).1,
    )

pub returns-else-action_names_pass : goal.returns-else-action_names_pass
returns-else-action_names_pass c =
    let names = map name_of c.args.actions.now in (
      λ e. absurd (false≢true (sym c.if-action_names_pass.false ∙ e)),
      λ are. c.action_names_pass.ensures ∙ (action_names_to names are).0,
    )
