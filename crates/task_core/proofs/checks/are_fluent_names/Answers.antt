use Rattle.std.proofs.Common.{map, sym, ◌∙◌}
use Rattle.std.proofs.lemmas.Bool.{false≢true}
use Rattle.task_core.specs.Names.{name_bytes}
use Rattle.task_core.proofs.NameChecks.{fluent_names_from, fluent_names_to}
use Rattle.task_core.proofs.checks.are_fluent_names.Goals as goal

pub returns-then-fluent_names_pass : goal.returns-then-fluent_names_pass
returns-then-fluent_names_pass c =
    let names = map name_bytes c.args.fluents.now in (
      λ e. fluent_names_from names (sym c.fluent_names_pass.ensures ∙ c.if-fluent_names_pass.true) (sym c.fluents_differ.ensures ∙ e),
      λ are. c.fluents_differ.ensures ∙ (fluent_names_to names are).1,
    )

pub returns-else-fluent_names_pass : goal.returns-else-fluent_names_pass
returns-else-fluent_names_pass c =
    let names = map name_bytes c.args.fluents.now in (
      λ e. absurd (false≢true (sym c.if-fluent_names_pass.false ∙ e)),
      λ are. c.fluent_names_pass.ensures ∙ (fluent_names_to names are).0,
    )
