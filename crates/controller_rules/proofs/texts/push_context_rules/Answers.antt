use Rattle.std.proofs.Common.{◌≡◌, ◌<◌, ◌++◌, ◌∙◌, ap, None, length, map, get_or, string_bytes, subst, sym}
use Rattle.std.proofs.lemmas.List.{get_or-map, length-map}
use Rattle.plan_document.specs.Faithful.{IsToldRule}
use Rattle.plan_rules.specs.Plans.{IsContextRuleOf}
use Rattle.plan_rules.specs.Rules.{context_rule_of}
use Rattle.plan_rules.specs.Texts.{context_rule_text}
use Rattle.plan_rules.proofs.MappedItems.{mapped_item}
use Rattle.task_core.specs.Tasks.{action_count, action_names, fluent_count, fluent_names}
use Rattle.controller_rules.specs.Texts.{latest, note_before, noted_text}
use Rattle.controller_rules.proofs.Noted.{written_more}
use Rattle.controller_rules.proofs.texts.push_context_rules.Goals as goal

pub push_context_rule-requires-clause-cube : goal.push_context_rule-requires-clause-cube
push_context_rule-requires-clause-cube c =
    (mapped_item (IsContextRuleOf (fluent_count c.args.task.now) (action_count c.args.task.now) c.requires.in_task.0) context_rule_of c.args.rules.now c.loop-place.place c.index-rules-place.result c.requires.in_task.1 c.loop-place-test.true c.index-rules-place.is).cube

pub push_context_rule-requires-clause-action : goal.push_context_rule-requires-clause-action
push_context_rule-requires-clause-action c =
    (mapped_item (IsContextRuleOf (fluent_count c.args.task.now) (action_count c.args.task.now) c.requires.in_task.0) context_rule_of c.args.rules.now c.loop-place.place c.index-rules-place.result c.requires.in_task.1 c.loop-place-test.true c.index-rules-place.is).action

pub push_context_rule-requires-clause-next : goal.push_context_rule-requires-clause-next
push_context_rule-requires-clause-next c =
    (mapped_item IsToldRule context_rule_of c.args.rules.now c.loop-place.place c.index-rules-place.result c.requires.told c.loop-place-test.true c.index-rules-place.is).next

pub loop-place-preserved : goal.loop-place-preserved
loop-place-preserved c =
    let text = context_rule_text (fluent_names c.args.task.now) (action_names c.args.task.now) in
    let listed = map context_rule_of c.args.rules.now in
    let place = c.loop-place.place in
    let rule = c.index-rules-place.result in
    let inside : place < length listed = subst (λ n. place < n) (sym (length-map c.args.rules.now context_rule_of)) c.loop-place-test.true in
    let is : context_rule_of rule ≡ get_or listed place (context_rule_of rule) = ap context_rule_of c.index-rules-place.is ∙ sym (get_or-map context_rule_of c.args.rules.now place rule (context_rule_of rule) c.loop-place-test.true) in
    written_more text (string_bytes c.args.out.now ++ noted_text text None listed c.args.steps.now) (string_bytes c.loop-place.out) (string_bytes c.push_note.new.out) (string_bytes c.push_context_rule.new.out)
    c.loop-place.before c.in_ok-before.before listed c.args.steps.now place (context_rule_of rule) inside is c.loop-place.invariant
    (c.in_ok-before.ensures.written ∙ ap (λ o. string_bytes c.loop-place.out ++ note_before c.loop-place.before o) c.note_at.ensures)
    c.in_ok-push_context_rule.ensures
    (c.in_ok-before.ensures.last ∙ ap (latest c.loop-place.before) c.note_at.ensures)
