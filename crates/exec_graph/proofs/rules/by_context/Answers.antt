use Rattle.std.proofs.Common.{rules, ◌≡◌, ◌<◌, sym, ◌∙◌, ap, map, length, slice_get, Some, subst}
use Rattle.std.proofs.lemmas.List.{length-set, map-append}
use Rattle.std.proofs.lemmas.Option.{slice_get-get_or}
use Rattle.plan_rules.specs.declared.rules.AutoRule.{AutoRule}
use Rattle.exec_graph.proofs.ListWrites.{sorted_more}
use Rattle.exec_graph.proofs.rules.by_context.Goals as goal

pub loop-rule-preserved : goal.loop-rule-preserved
loop-rule-preserved c =
    let lists = c.loop-rule.index.lists.items in
    let i = c.loop-rule.rule-index in
    let x = c.rule-item.result in
    let old = c.index_mut.result.now in
    let small : x.context < c.args.count =
    subst (λ (y : AutoRule). y.context < c.args.count) (sym c.rule-item.is) (c.requires i x c.loop-rule-test.true) in
    let below : x.context < length lists = subst (λ k. x.context < k) (sym c.loop-rule.invariant.len) small in
    let there : slice_get lists x.context ≡ Some old =
    slice_get-get_or lists x.context old below ∙ ap Some (sym c.index_mut.ensures.value) in
    record {
      len = length-set lists x.context c.push.new.self ∙ c.loop-rule.invariant.len;
      sorted = sorted_more (λ rules. map (λ rule. rule.now) rules.items) (λ rule. rule.context) lists x.context c.push.new.self old x c.args.rules.now i
          c.loop-rule.invariant.sorted c.loop-rule-test.true (sym c.rule-item.is) below there
          (ap (map (λ rule. rule.now)) c.in_ok-push.ensures.items ∙ map-append (λ rule. rule.now) old.items _) (search rules);
    }
