-- From what is judged to what is told.
use Rattle.std.proofs.Common.{◌≡◌, List}
use Rattle.std.specs.Prelude.{Err, IfOk, IfSome, None, Ok, Option, Result, Some}
use Rattle.lint_hints.specs.Hints.{AreHints, AreJudged, PlainTexts, first_action}
use Rattle.lint_hints.specs.Values.{hints_value}
use Rattle.lint_hints.specs.declared.hints.GroupHints.{GroupHints}
use Rattle.lint_shapes.specs.Found.{AreFound}
use Rattle.lint_shapes.specs.declared.shapes.OneOf.{OneOf}
use Rattle.sexpr_text.specs.Forest.{Forest}
use Rattle.sexpr_text.specs.Spelling.{SpellsTrees}
use Rattle.sexpr_text.specs.declared.forms.Span.{Span}
use Rattle.task_core.specs.declared.tasks.Task.{Task}

pub told : {E : Type 0} (texts : PlainTexts) (task : Task) (found : List OneOf) (forms : Forest) (span : Span) (r : Result (Option GroupHints) E)
    → AreFound task found → SpellsTrees texts.domain_text forms → first_action forms ≡ Some span
    → IfOk r (λ told. IfSome told (λ hints. AreJudged texts task found span (hints_value hints)))
    → IfOk r (λ told. IfSome told (λ hints. AreHints texts task (hints_value hints)))
told texts task found forms span (Ok (Some hints)) groups spelled there judged = record {
  found = found;
  groups = groups;
  forms = forms;
  spelled = spelled;
  span = span;
  there = there;
  told = judged;
}
told texts task found forms span (Ok None) groups spelled there judged = tt
told texts task found forms span (Err e) groups spelled there judged = tt
