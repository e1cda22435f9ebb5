use Rattle.std.proofs.Common.{rules, ◌≡◌, ◌&&◌, ◌≤◌, List, Some, true, false, eqb, ltb, leb, length, ap, sym, subst, ◌∙◌}
use Rattle.std.specs.List.Sorted.{IsPartitionPoint}
use Rattle.std.specs.Option.{option_map}
use Rattle.std.proofs.lemmas.List.Sorted.{IsPartitionPoint-from_clause, IsPartitionedBy-leb, IsPartitionedBy-ltb}
use Rattle.task_core.specs.Cubes.{matches}
use Rattle.task_core.specs.States.{vector}
use Rattle.task_core.specs.Tasks.{action_count, fluent_count}
use Rattle.plan_rules.specs.Rules.{ContextRule}
use Rattle.rule_lookup.specs.declared.rules.GuideRule.{GuideRule}
use Rattle.rule_lookup.specs.GuideRules.{rule_value}
use Rattle.rule_lookup.proofs.Finding.{IsPartOf, find_map, first_in_part, none_in_part, part_between}
use Rattle.rule_lookup.proofs.InTask.{ready_cubes}
use Rattle.rule_lookup.proofs.guides.Guide.rule_in.Goals as goal

pub returns-in-Some-clause-counts : goal.returns-in-Some-clause-counts
returns-in-Some-clause-counts c =
    let n = fluent_count c.args.task.now in
    let m = action_count c.args.task.now in
    let k = c.args.context in
    let state = c.args.state.now in
    let guide = c.args.self.now in
    let listed : List GuideRule = guide.rules.items in
    let key = λ (rule : GuideRule). rule.context in
    let low : IsPartitionPoint (λ (rule : GuideRule). ltb rule.context k ≡ true) (λ (rule : GuideRule). ltb rule.context k ≡ false) listed c.partition_point-start.result =
    IsPartitionPoint-from_clause (λ (rule : GuideRule). ltb rule.context k) listed _
    (rw c.deref.ensures.value at c.partition_point-start.ensures.partitioned) (IsPartitionedBy-ltb key listed k c.requires.rising) (λ a r q h. search rules) in
    let high : IsPartitionPoint (λ (rule : GuideRule). leb rule.context k ≡ true) (λ (rule : GuideRule). leb rule.context k ≡ false) listed c.partition_point-end.result =
    IsPartitionPoint-from_clause (λ (rule : GuideRule). leb rule.context k) listed _
    (rw c.deref-2.ensures.value at c.partition_point-end.ensures.partitioned) (IsPartitionedBy-leb key listed k c.requires.rising) (λ a r q h. search rules) in
    let part : IsPartOf key listed k c.partition_point-start.result c.partition_point-end.result =
    part_between key listed k c.partition_point-start.result c.partition_point-end.result low high in
    let within : c.partition_point-end.result ≤ length listed = subst (λ (l : List GuideRule). c.partition_point-end.result ≤ length l) c.deref-2.ensures.value c.partition_point-end.ensures.bound in
    ap (λ (rule : GuideRule). Some (rule_value rule)) c.index.ensures
    ∙ sym (find_map (λ (rule : ContextRule). eqb rule.context k && matches rule.cube (vector n state)) rule_value listed
    ∙ ap (option_map rule_value)
    (first_in_part (λ (rule : GuideRule). rule.cube.now) key listed guide.index n state c.args.task.now.few_fluents c.requires.index
    (ready_cubes n m listed c.requires.each) k c.partition_point-start.result c.partition_point-end.result c.in-Some.number c.index.result.now within part c.in-Some.ensures))

pub returns-in-None-clause-counts : goal.returns-in-None-clause-counts
returns-in-None-clause-counts c =
    let n = fluent_count c.args.task.now in
    let m = action_count c.args.task.now in
    let k = c.args.context in
    let state = c.args.state.now in
    let guide = c.args.self.now in
    let listed : List GuideRule = guide.rules.items in
    let key = λ (rule : GuideRule). rule.context in
    let low : IsPartitionPoint (λ (rule : GuideRule). ltb rule.context k ≡ true) (λ (rule : GuideRule). ltb rule.context k ≡ false) listed c.partition_point-start.result =
    IsPartitionPoint-from_clause (λ (rule : GuideRule). ltb rule.context k) listed _
    (rw c.deref.ensures.value at c.partition_point-start.ensures.partitioned) (IsPartitionedBy-ltb key listed k c.requires.rising) (λ a r q h. search rules) in
    let high : IsPartitionPoint (λ (rule : GuideRule). leb rule.context k ≡ true) (λ (rule : GuideRule). leb rule.context k ≡ false) listed c.partition_point-end.result =
    IsPartitionPoint-from_clause (λ (rule : GuideRule). leb rule.context k) listed _
    (rw c.deref-2.ensures.value at c.partition_point-end.ensures.partitioned) (IsPartitionedBy-leb key listed k c.requires.rising) (λ a r q h. search rules) in
    let part : IsPartOf key listed k c.partition_point-start.result c.partition_point-end.result =
    part_between key listed k c.partition_point-start.result c.partition_point-end.result low high in
    sym (find_map (λ (rule : ContextRule). eqb rule.context k && matches rule.cube (vector n state)) rule_value listed
    ∙ ap (option_map rule_value)
    (none_in_part (λ (rule : GuideRule). rule.cube.now) key listed guide.index n state c.args.task.now.few_fluents c.requires.index
    (ready_cubes n m listed c.requires.each) k c.partition_point-start.result c.partition_point-end.result part c.in-None.ensures))
