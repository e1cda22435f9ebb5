use Rattle.std.proofs.Common.{◌≡◌, true, false, List, [], ◌∷◌, ◌++◌, map, sym, ◌∙◌, ap, rules}
use Rattle.std.specs.List.{IsLastAndRest}
use Rattle.std.specs.Option.{option_copied}
use Rattle.task_core.specs.declared.conditions.Cond.{Cond}
use Rattle.ctl_syntax.specs.GoalSteps.{guarded_then, is_stage_row, plain_parts}
use Rattle.ctl_syntax.specs.Conditions.{CondTree, all_of, condition_row}
use Rattle.ctl_syntax.specs.GoalValues.{stage_conditions, stage_value}
use Rattle.ctl_syntax.specs.Goals.{CtlTree, au, plain}
use Rattle.ctl_syntax.specs.UntilChains.{GuardedStage, until_of}
use Rattle.ctl_syntax.specs.Values.{ctl_value}
use Rattle.ctl_syntax.proofs.Shapes.{value_Plain}
use Rattle.ctl_syntax.proofs.GoalForms.{no_stage, stage_first, stage_pushed, until_same}
use Rattle.ctl_syntax.proofs.context_goals.+untils.Goals as goal

pub with_targets-returns-then-not-is_stage : goal.with_targets-returns-then-not-is_stage
with_targets-returns-then-not-is_stage t c =
    let apart : IsLastAndRest c.args.parts.now c.in-Some.rest.now c.in-Some.conds.now = search rules in
    let none : is_stage_row (map ctl_value c.in-Some.conds.now) ≡ false = search rules in
    no_stage (map stage_value c.args.stages.items) (option_copied c.args.guard) c.args.parts.now c.in-Some.rest.now c.in-Some.conds.now apart none

pub with_targets-returns : goal.with_targets-returns
with_targets-returns t c =
    let apart : IsLastAndRest c.args.parts.now c.in-Some.rest.now c.in-Some.conds.now = search rules in
    let some : is_stage_row (map ctl_value c.in-Some.conds.now) ≡ true = search rules in
    let front = map stage_value c.args.stages.items in
    let guard = option_copied c.args.guard in
    let ps = plain_parts (map ctl_value c.in-Some.conds.now) in
    let target = c.in_ok-until_stage.ensures.target ∙ ap (λ (ts : List CondTree). all_of (condition_row ts)) c.in_ok-copies.ensures in
    let stage : map stage_value c.push.new.self.items ≡ front ++ (stage_conditions (record { guard = guard; targets = ps }) ∷ []) =
    stage_pushed c.args.stages.items c.push.new.self.items c.in_ok-until_stage.field-0 guard ps c.in_ok-push.ensures.items c.in_ok-until_stage.ensures.guard target in
    until_same c.until_after.result (guarded_then (map stage_value c.push.new.self.items) (until_of (ctl_value c.in-Some.rest.now))) _
    (ap (λ (items : List (GuardedStage CondTree)). guarded_then items (until_of (ctl_value c.in-Some.rest.now))) stage ∙ sym (stage_first front guard c.args.parts.now c.in-Some.rest.now c.in-Some.conds.now apart some))
    c.until_after.ensures

pub until_guard-returns-in-Plain : goal.until_guard-returns-in-Plain
until_guard-returns-in-Plain t c =
    let is : ctl_value c.args.guard.now ≡ plain c.in-Plain.cond = search (rules, value_Plain c.in-Plain.cond) in
    until_same c.reached_after.result _ _
    (ap (λ (g : CtlTree Cond). guarded_then (map stage_value c.args.stages.items) (until_of (au g (ctl_value c.args.part.now)))) (sym is))
    c.reached_after.ensures
