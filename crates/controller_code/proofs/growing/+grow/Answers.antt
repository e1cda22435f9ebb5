-- A rule that asks for nothing more is taken; else a fluent is asked for, and both answers lead on.
use Rattle.std.proofs.Common.{◌∙◌, ap, List}
use Rattle.controller_code.specs.FirstMoves.{first_move}
use Rattle.controller_code.specs.declared.left_rules.LeftRule.{LeftRule}
use Rattle.controller_code.proofs.StepLemmas.{forked, stop_found, take_found}
use Rattle.controller_code.proofs.growing.+grow.Goals as goal

pub returns-in-Nothing-clause-decides : goal.returns-in-Nothing-clause-decides
returns-in-Nothing-clause-decides t c =
    stop_found c.add.result c.add.new.self.steps.list.items c.deref.result.now c.args.rules.items c.deref.ensures.value c.add.ensures.added c.in-Nothing.ensures

pub returns-in-Decided-clause-decides : goal.returns-in-Decided-clause-decides
returns-in-Decided-clause-decides t c =
    take_found c.add-in-Decided.result c.add-in-Decided.new.self.steps.list.items c.deref.result.now c.args.rules.items c.deref.ensures.value c.in-Decided.action
    c.add-in-Decided.ensures.added c.in-Decided.ensures

pub remember-requires-clause-decides : goal.remember-requires-clause-decides
remember-requires-clause-decides t c =
    forked c.grow.new.growth.steps.list.items c.grow-in-Fluent.new.growth.steps.list.items c.ask.new.self.steps.list.items
    c.in_ok-if_false-in-Fluent.ensures.kept
    (record { fluent = c.in-Fluent.fluent; if_true = c.in_ok-if_true-in-Fluent.if_true; if_false = c.in_ok-if_false-in-Fluent.if_false })
    c.in_ok-holding-in-Fluent.holding.items c.in_ok-failing-in-Fluent.failing.items c.args.rules.items
    c.in_ok-if_true-in-Fluent.ensures.decides c.in_ok-if_false-in-Fluent.ensures.decides
    (λ v is. c.in_ok-holding-in-Fluent.ensures v is ∙ ap (λ (rules : List LeftRule). first_move rules v) c.deref-in-Fluent-2.ensures.value)
    (λ v is. c.in_ok-failing-in-Fluent.ensures v is ∙ ap (λ (rules : List LeftRule). first_move rules v) c.deref-in-Fluent-3.ensures.value)
    c.in_ok-step-in-Fluent.step c.in_ok-step-in-Fluent.ensures.decides
