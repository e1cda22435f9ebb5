use Rattle.std.proofs.Common.{true, length, map, ap, sym, ◌∙◌, arith}
use Rattle.std.specs.Prelude.{nat_le}
use Rattle.ground_instances.specs.Kept.{instance_of, kept_by}
use Rattle.ground_instances.specs.Tables.{setting_in}
use Rattle.pddl_ast.specs.Values.{domain_value, schema_value}
use Rattle.pddl_system.specs.Instances.{Instance as InstanceTree}
use Rattle.pddl_system.specs.Outcomes.{outcomes_of}
use Rattle.pddl_system.specs.Sizes.{most_outcomes_of_one}
use Rattle.ground_task.specs.Capped.{has_few}
use Rattle.ground_task.proofs.NamingLemmas.{turn}
use Rattle.ground_task.proofs.NumberedLemmas.{all_fails, all_passes, read_at_action}
use Rattle.ground_task.proofs.counts.has_few_outcomes.Goals as goal

pub index-requires : goal.index-requires
index-requires c =
    let d = domain_value c.args.domain.now in
    let at = setting_in c.args.setting.now in
    let k = turn (instance_of d) c.args.instances.now (kept_by at d) c.loop-instance.instance-index c.instance-item.result c.requires c.loop-instance-test.true c.instance-item.is in
    let there = read_at_action d at c.in_ok-few.few.items c.instance-item.result k.0 true (c.in_ok-few.ensures ∙ ap (λ l. map (has_few at) (map schema_value l)) c.deref.ensures.value) k.1 in
    omega (arith, there.0, c.in_ok-few.few.ok.0)

pub returns-then-not-index : goal.returns-then-not-index
returns-then-not-index c =
    let d = domain_value c.args.domain.now in
    let at = setting_in c.args.setting.now in
    let k = turn (instance_of d) c.args.instances.now (kept_by at d) c.loop-instance.instance-index c.instance-item.result c.requires c.loop-instance-test.true c.instance-item.is in
    let there = read_at_action d at c.in_ok-few.few.items c.instance-item.result k.0 c.index.result.now (c.in_ok-few.ensures ∙ ap (λ l. map (has_few at) (map schema_value l)) c.deref.ensures.value) k.1 in
    all_fails (λ (i : InstanceTree). nat_le (length (outcomes_of at i)) most_outcomes_of_one) (kept_by at d) c.loop-instance.instance-index k.0 _ k.2 (sym (there.1 c.index.ensures) ∙ c.if-not-index.true) c.loop-instance.invariant

pub loop-instance-preserved : goal.loop-instance-preserved
loop-instance-preserved c =
    let d = domain_value c.args.domain.now in
    let at = setting_in c.args.setting.now in
    let k = turn (instance_of d) c.args.instances.now (kept_by at d) c.loop-instance.instance-index c.instance-item.result c.requires c.loop-instance-test.true c.instance-item.is in
    let there = read_at_action d at c.in_ok-few.few.items c.instance-item.result k.0 c.index.result.now (c.in_ok-few.ensures ∙ ap (λ l. map (has_few at) (map schema_value l)) c.deref.ensures.value) k.1 in
    all_passes (λ (i : InstanceTree). nat_le (length (outcomes_of at i)) most_outcomes_of_one) (kept_by at d) c.loop-instance.instance-index k.0 _ k.2 (sym (there.1 c.index.ensures) ∙ c.if-not-index.false) c.loop-instance.invariant
