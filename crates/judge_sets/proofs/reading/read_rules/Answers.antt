use Rattle.std.proofs.Common.{◌↔◌, IsTrue, List, arith, subst, take}
use Rattle.std.proofs.lemmas.Result.{err_from_is_err_and}
use Rattle.task_core.specs.Tasks.{system_of}
use Rattle.plan_rules.specs.Rules.{PlanRule, rule_of}
use Rattle.first_match.specs.FirstMatch.{EachRuleCounts}
use Rattle.slot_board.proofs.Endings.{found_of, passed_on}
use Rattle.judge_sets.specs.Places.{HasRead}
use Rattle.judge_sets.proofs.ReadLoop.{all_read, counts_more, next_rule, none_counts, rules_more}
use Rattle.judge_sets.proofs.reading.read_rules.Goals as goal

pub loop-rule-init : goal.loop-rule-init
loop-rule-init c scene has are = (has, none_counts (system_of scene.start.task))

pub read_rule-requires : goal.read_rule-requires
read_rule-requires c =
    let r = c.requires in
    let i = c.loop-rule.rule-index in
    (r.0, take i r.0.rules, (c.loop-rule.invariant r.0 r.1 r.2).0, next_rule r.0 c.args.rules.now r.2 i c.rule-item.result c.loop-rule-test.true c.rule-item.is)

pub returns-in_err-counts : goal.returns-in_err-counts
returns-in_err-counts c scene has are =
    let i = c.loop-rule.rule-index in
    passed_on scene.start c.read_rule.new.enc c.read_rule.new.board.slots.items _ _ c.read_rule.result c.from_residual.result _ c.in_err-counts.was (err_from_is_err_and c.from_residual.result c.from_residual.ensures.1)
    (c.read_rule.ensures scene (take i scene.rules) (c.loop-rule.invariant scene has are).0 (next_rule scene c.args.rules.now are i c.rule-item.result c.loop-rule-test.true c.rule-item.is))

pub loop-rule-preserved : goal.loop-rule-preserved
loop-rule-preserved c scene has are =
    let i = c.loop-rule.rule-index in
    let half = c.loop-rule.invariant scene has are in
    let done = found_of scene.start c.read_rule.new.enc c.read_rule.new.board.slots.items _ c.read_rule.result _ c.in_ok-counts.was (c.read_rule.ensures scene (take i scene.rules) half.0 (next_rule scene c.args.rules.now are i c.rule-item.result c.loop-rule-test.true c.rule-item.is)) in
    subst (λ (rules : List PlanRule). HasRead scene c.read_rule.new.enc c.read_rule.new.board.slots.items rules × (IsTrue c.both-each.result ↔ EachRuleCounts (system_of scene.start.task) rules))
    (rules_more scene c.args.rules.now are i c.rule-item.result c.loop-rule-test.true c.rule-item.is)
    (done.0, counts_more (system_of scene.start.task) (take i scene.rules) (rule_of c.rule-item.result) c.loop-rule.each c.in_ok-counts.counts c.both-each.result c.both-each.ensures half.1 done.1)

pub returns : goal.returns
returns c scene has are =
    subst (λ (rules : List PlanRule). HasRead scene c.loop-rule.enc c.loop-rule.board.slots.items rules × (IsTrue c.loop-rule.each ↔ EachRuleCounts (system_of scene.start.task) rules))
    (all_read scene c.args.rules.now are c.loop-rule.rule-index (omega (arith, c.loop-rule-test.false)))
    (c.loop-rule.invariant scene has are)
