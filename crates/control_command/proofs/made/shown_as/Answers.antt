use Rattle.std.proofs.Common.{refl}
use Rattle.plan_rules.specs.Rules.{plain_of}
use Rattle.control_command.specs.declared.words.Form.TheVariants.{Code, Json}
use Rattle.control_command.proofs.Yes.{form_affirmed, text_affirmed}
use Rattle.control_command.proofs.made.shown_as.Goals as goal

pub returns-in-Text : goal.returns-in-Text
returns-in-Text c = text_affirmed c.args.form c.args.task.now (plain_of c.args.plan.now) c.args.text.items _ c.in-Text.is refl

pub returns-in-Json : goal.returns-in-Json
returns-in-Json c = form_affirmed c.args.form Json c.args.task.now (plain_of c.args.plan.now) c.args.text.items c.shown_document.result c.in-Json.is c.shown_document.ensures

pub returns-in-Code : goal.returns-in-Code
returns-in-Code c =
    form_affirmed c.args.form (Code c.in-Code.language) c.args.task.now (plain_of c.args.plan.now) c.args.text.items c.shown_program.result c.in-Code.is c.shown_program.ensures
