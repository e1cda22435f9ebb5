use Rattle.std.proofs.Common.{◌≡◌, ◌++◌, inr, ap}
use Rattle.std.proofs.lemmas.Result.{err_from_is_err_and}
use Rattle.task_core.specs.Tasks.{system_of}
use Rattle.command_base.specs.Answers.{affirmed}
use Rattle.command_base.specs.Following.{most_followed}
use Rattle.drill_command.specs.DrillCommand.{drill_head}
use Rattle.command_base.specs.Values.{drill_words_of, refusal_of}
use Rattle.drill_command.proofs.DrillAnswers.{cyclic_refused, strong_refused, weak_refused}
use Rattle.drill_command.proofs.drill_command.show_lines.Goals as goal
use Rattle.task_core.specs.Initials.{HasTooManyInitial}

pub returns-in_err-weak : goal.returns-in_err-weak
returns-in_err-weak c =
    let p = err_from_is_err_and c.from_residual.result c.from_residual.ensures.1 in
    let asked = drill_words_of c.args.asked.now in
    rw (p.1, p.2) (weak_refused asked (HasTooManyInitial c.args.task.now most_followed) (system_of c.args.task.now) (refusal_of c.in_err-weak.field-0.0) c.in_err-weak.ensures.refused)

pub returns-in_err-strong : goal.returns-in_err-strong
returns-in_err-strong c =
    let p = err_from_is_err_and c.from_residual-in_err-strong.result c.from_residual-in_err-strong.ensures.1 in
    let asked = drill_words_of c.args.asked.now in
    rw (p.1, p.2) (strong_refused asked (HasTooManyInitial c.args.task.now most_followed) (system_of c.args.task.now) (refusal_of c.in_err-strong.field-0.0)
    c.in_ok-weak.weak.items c.in_ok-weak.ensures.line c.in_err-strong.ensures.refused)

pub returns-in_err-cyclic : goal.returns-in_err-cyclic
returns-in_err-cyclic c =
    let p = err_from_is_err_and c.from_residual-in_err-cyclic.result c.from_residual-in_err-cyclic.ensures.1 in
    let asked = drill_words_of c.args.asked.now in
    rw (p.1, p.2) (cyclic_refused asked (HasTooManyInitial c.args.task.now most_followed) (system_of c.args.task.now) (refusal_of c.in_err-cyclic.field-0.0)
    c.in_ok-weak.weak.items c.in_ok-strong.strong.items c.in_ok-weak.ensures.line c.in_ok-strong.ensures.line c.in_err-cyclic.ensures.refused)

pub returns : goal.returns
returns c =
    let asked = drill_words_of c.args.asked.now in
    let text : c.in_ok-joined.field-0.items
    ≡ drill_head asked (system_of c.args.task.now) ++ c.in_ok-weak.weak.items ++ c.in_ok-strong.strong.items ++ c.in_ok-cyclic.cyclic.items =
    cc (c.in_ok-joined.ensures, c.deref.ensures.value, c.deref-2.ensures.value, c.deref-3.ensures.value, c.deref-4.ensures.value, c.in_ok-head.ensures) in
    inr (inr (
      c.in_ok-weak.weak.items,
      c.in_ok-weak.ensures.line,
      inr (c.in_ok-strong.strong.items, c.in_ok-strong.ensures.line, inr (c.in_ok-cyclic.cyclic.items, c.in_ok-cyclic.ensures.line, ap affirmed text)),
    ))
