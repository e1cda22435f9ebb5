use Rattle.std.proofs.lemmas.Result.{err_from_is_err_and}
use Rattle.command_base.specs.Answers.{refused}
use Rattle.command_base.specs.Values.{answer_of, drill_words_of, refusal_of}
use Rattle.drill_command.proofs.DrillAnswers.{drill_read, drill_refused}
use Rattle.drill_command.proofs.drill_command.run_drill.Goals as goal

pub returns-in_err-domain : goal.returns-in_err-domain
returns-in_err-domain c =
    let p = err_from_is_err_and c.from_residual-in_err-domain.result c.from_residual-in_err-domain.ensures.1 in
    rw (p.1, p.2) (drill_refused (drill_words_of c.args.asked.now) (refused (refusal_of c.in_err-domain.field-0.0)) c.in_err-domain.ensures.refused)

pub returns : goal.returns
returns c = drill_read (drill_words_of c.args.asked.now) _ _ (answer_of c.drill_both.result) c.in_ok-domain.ensures.spelled c.drill_both.ensures
