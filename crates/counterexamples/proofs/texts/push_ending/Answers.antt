use Rattle.std.proofs.Common.{◌≡◌, ◌++◌, List, OnOk, codes, map, string_bytes, subst, sym}
use Rattle.list_laws.proofs.Elements.{pushed_two}
use Rattle.list_laws.proofs.Options.{on_ok}
use Rattle.task_core.specs.Tasks.{fluent_names}
use Rattle.goal_witness.specs.Lines.{line_value}
use Rattle.goal_witness.specs.Texts.{false_lines}
use Rattle.goal_witness.specs.declared.lines.Line.{Line}
use Rattle.state_text.specs.Texts.{conditions_text}
use Rattle.counterexamples.specs.Texts.{ending_text, missed_text, round_text}
use Rattle.counterexamples.specs.Values.{ending_value, source_value}
use Rattle.counterexamples.specs.declared.endings.Ending.{Ending as CodeEnding}
use Rattle.counterexamples.proofs.Pushed.{when_ok}
use Rattle.counterexamples.proofs.texts.push_ending.Goals as goal

pub returns-in_ok-push_str-in-OutsideGoal : goal.returns-in_ok-push_str-in-OutsideGoal
returns-in_ok-push_str-in-OutsideGoal c =
    let task = c.args.source.now.task.now in
    let said = codes "the plan ends here, outside the goal: false is" in
    let listed = conditions_text (fluent_names task) (map (λ part. part.now) c.in-OutsideGoal.parts.items) in
    let old = string_bytes c.args.out.now in
    let mid = string_bytes c.push_str-in-OutsideGoal.new.self in
    let new = string_bytes c.push_parts.new.out in
    subst (λ (e : CodeEnding). OnOk c.push_parts.result (new ≡ old ++ ending_text (source_value c.args.source.now) c.args.again (ending_value e))) (sym c.in-OutsideGoal.is)
    (on_ok c.push_parts.result (new ≡ mid ++ listed) (new ≡ old ++ (said ++ listed)) (pushed_two old said listed mid new c.in_ok-push_str-in-OutsideGoal.ensures.bytes)
    (subst (λ xs. OnOk c.push_parts.result (new ≡ mid ++ conditions_text (fluent_names task) (map (λ part. part.now) xs))) c.deref.ensures.value c.push_parts.ensures))

pub returns-in-WithoutRule : goal.returns-in-WithoutRule
returns-in-WithoutRule c =
    subst (λ (e : CodeEnding). OnOk c.push_str-in-WithoutRule.result (string_bytes c.push_str-in-WithoutRule.new.self ≡ string_bytes c.args.out.now ++ ending_text (source_value c.args.source.now) c.args.again (ending_value e)))
    (sym c.in-WithoutRule.is) (when_ok c.push_str-in-WithoutRule.result (string_bytes c.args.out.now) (codes "the context has no rule for this state") (string_bytes c.push_str-in-WithoutRule.new.self) c.push_str-in-WithoutRule.ensures.bytes)

pub returns-in-ComesBack : goal.returns-in-ComesBack
returns-in-ComesBack c =
    subst (λ (e : CodeEnding). OnOk c.push_back.result (string_bytes c.push_back.new.out ≡ string_bytes c.args.out.now ++ ending_text (source_value c.args.source.now) c.args.again (ending_value e)))
    (sym c.in-ComesBack.is) c.push_back.ensures

pub returns-in-NeverInGoal : goal.returns-in-NeverInGoal
returns-in-NeverInGoal c =
    subst (λ (e : CodeEnding). OnOk c.push_str-in-NeverInGoal.result (string_bytes c.push_str-in-NeverInGoal.new.self ≡ string_bytes c.args.out.now ++ ending_text (source_value c.args.source.now) c.args.again (ending_value e)))
    (sym c.in-NeverInGoal.is) (when_ok c.push_str-in-NeverInGoal.result (string_bytes c.args.out.now) (codes "no run from here ends in the goal") (string_bytes c.push_str-in-NeverInGoal.new.self) c.push_str-in-NeverInGoal.ensures.bytes)

pub returns-in-NeverEnding : goal.returns-in-NeverEnding
returns-in-NeverEnding c =
    subst (λ (e : CodeEnding). OnOk c.push_str-in-NeverEnding.result (string_bytes c.push_str-in-NeverEnding.new.self ≡ string_bytes c.args.out.now ++ ending_text (source_value c.args.source.now) c.args.again (ending_value e)))
    (sym c.in-NeverEnding.is) (when_ok c.push_str-in-NeverEnding.result (string_bytes c.args.out.now) (codes "no run from here ends") (string_bytes c.push_str-in-NeverEnding.new.self) c.push_str-in-NeverEnding.ensures.bytes)

pub returns-in-GoalMissed : goal.returns-in-GoalMissed
returns-in-GoalMissed c =
    let task = c.args.source.now.task.now in
    subst (λ (e : CodeEnding). OnOk c.push_missed.result (string_bytes c.push_missed.new.out ≡ string_bytes c.args.out.now ++ ending_text (source_value c.args.source.now) c.args.again (ending_value e)))
    (sym c.in-GoalMissed.is)
    (subst (λ (xs : List Line). OnOk c.push_missed.result (string_bytes c.push_missed.new.out ≡ string_bytes c.args.out.now
    ++ (missed_text c.in-GoalMissed.fair ++ false_lines (fluent_names task) (map line_value xs) ++ round_text c.args.again))) c.deref-in-GoalMissed.ensures.value c.push_missed.ensures)
