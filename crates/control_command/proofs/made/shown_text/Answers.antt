use Rattle.std.proofs.Common.{inr, refl}
use Rattle.command_base.specs.Values.{shown_of}
use Rattle.plan_rules.specs.Rules.{plain_of}
use Rattle.control_command.proofs.Yes.{is_long, is_shown}
use Rattle.control_command.proofs.made.shown_text.Goals as goal

pub returns-in_ok-shown-in-Some-clause-shown : goal.returns-in_ok-shown-in-Some-clause-shown
returns-in_ok-shown-in-Some-clause-shown c =
    is_shown c.args.wanted.now.shape c.args.wanted.now.grounded.now (plain_of c.args.plan.now) c.args.steps.now c.in_ok-text.field-0 c.in-Some.text
    (shown_of c.in_ok-shown-in-Some.shown) c.requires.guarded c.in-Some.is c.in_ok-text.ensures.text c.write_controller.ensures.spells c.in_ok-shown-in-Some.ensures

pub returns-in-None-clause-refused : goal.returns-in-None-clause-refused
returns-in-None-clause-refused c =
    inr (is_long c.args.wanted.now.grounded.now (plain_of c.args.plan.now) c.args.steps.now c.in_ok-text.field-0 c.in-None.is c.in_ok-text.ensures.text, refl)
