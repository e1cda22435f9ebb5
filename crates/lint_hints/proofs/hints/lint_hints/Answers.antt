use Rattle.std.proofs.Common.{◌∙◌, subst, sym}
use Rattle.lint_hints.specs.Values.{texts_value}
use Rattle.lint_hints.proofs.Told.{told}
use Rattle.lint_shapes.specs.Found.{AreFound}
use Rattle.sexpr_text.specs.Forest.{forest_of}
use Rattle.sexpr_text.specs.Spelling.{Spells}
use Rattle.lint_hints.proofs.hints.lint_hints.Goals as goal

pub returns-in-Some : goal.returns-in-Some
returns-in-Some c =
    told (texts_value c.args.texts.now) c.args.task.now c.deref-in-Some.result.now (forest_of c.deref.result.now) c.in-Some.span c.hints_at.result
    (subst (AreFound c.args.task.now) (sym c.deref-in-Some.ensures.value) c.in_ok-found-2.ensures)
    (subst (Spells c.args.texts.now.domain_text.now) (sym c.deref.ensures.value) c.in_ok-forms.ensures) (sym c.first_action.ensures ∙ c.in-Some.is) c.hints_at.ensures
