use Rattle.std.proofs.Common.{◌≡◌, ◌+◌, ◌∙◌, ◌^◌, arith, length, map, ap}
use Rattle.std.specs.List.{flat_map, range_with_len}
use Rattle.task_core.specs.Tasks.{action_count, fluent_count, system_of}
use Rattle.task_core.specs.declared.classes.Class.TheVariants.{Weak}
use Rattle.plan_rules.specs.Rules.{rule_of}
use Rattle.plan_theory.specs.LayerPlans.{rules_of_action}
use Rattle.plan_theory.specs.Pairs.{restricted}
use Rattle.slot_board.proofs.BoardSlots.{made_at}
use Rattle.cyclic_plan.proofs.PlanMade.{rules_more}
use Rattle.cyclic_plan.proofs.plan.rules.Goals as goal

pub cubes-requires-clause-working : goal.cubes-requires-clause-working
cubes-requires-clause-working c = (c.requires.ready.0, c.requires.ready.1.at)

pub cubes-requires-clause-place : goal.cubes-requires-clause-place
cubes-requires-clause-place c =
    let r = c.requires.ready in
    let long : length c.args.board.now.slots.items ≡ 7 + action_count r.0.task + action_count r.0.task = r.1.at.long ∙ r.1.places in
    let actions : length c.args.enc.now.actions ≡ action_count r.0.task = (made_at r.0 c.args.enc.now c.args.board.now.slots.items r.1.at).actions in
    omega (arith, c.takers_of.ensures, c.requires.actions)

pub loop-a-preserved : goal.loop-a-preserved
loop-a-preserved c = record {
  listed = λ start table.
      let actions : length c.args.enc.now.actions ≡ action_count start.task = (made_at start c.args.enc.now c.args.board.now.slots.items table.at).actions in
      rules_more start c.args.enc.now c.args.board.now.slots.items table c.loop-a.a c.takers_of.result (map rule_of c.loop-a.rules.items) (map rule_of c.add_rules.new.rules.items) (map (λ cube. cube.items) c.in_ok-cubes.cubes.items)
      (omega (arith, c.requires.actions)) (omega (arith, c.takers_of.ensures, c.requires.actions)) (c.loop-a.invariant.listed start table) c.in_ok-cubes.ensures.cubes c.in_ok-add_rules.ensures;
  listing = c.cubes.ensures.listing;
}

pub returns-clause-rules : goal.returns-clause-rules
returns-clause-rules c start table =
    let actions : length c.args.enc.now.actions ≡ action_count start.task = (made_at start c.args.enc.now c.args.board.now.slots.items table.at).actions in
    let e : c.loop-a.a ≡ action_count start.task = omega (arith, c.requires.actions) in
    c.loop-a.invariant.listed start table ∙ ap (λ n. flat_map (rules_of_action Weak (restricted (system_of start.task) table.pairs) (2 ^ fluent_count start.task)) (range_with_len 0 n)) e
