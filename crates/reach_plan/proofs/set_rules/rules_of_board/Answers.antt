-- The rules of one action more.
use Rattle.std.proofs.Common.{◌≡◌, List, arith, ap, length, map, ◌∙◌, ◌++◌}
use Rattle.std.specs.List.{flat_map, range_with_len}
use Rattle.task_core.specs.Cubes.{Cube}
use Rattle.plan_rules.specs.Rules.{rule_of}
use Rattle.reach_plan.specs.SetRules.{rules_of_place}
use Rattle.slot_board.specs.Rules.{rule_for}
use Rattle.reach_plan.proofs.PlanSteps.{rules_more}
use Rattle.reach_plan.proofs.set_rules.rules_of_board.Goals as goal

pub loop-a-preserved : goal.loop-a-preserved
loop-a-preserved c = record {
  listed = rules_more (rules_of_place c.args.enc.now.sets c.args.board.now.slots.items) c.loop-a.a (map rule_of c.loop-a.rules.items) (map rule_of c.add_rules.new.rules.items) c.loop-a.invariant.listed
      (c.in_ok-add_rules.ensures ∙ ap (λ (cubes : List Cube). map rule_of c.loop-a.rules.items ++ map (rule_for c.loop-a.a) cubes) c.in_ok-cubes.ensures.cubes);
  listing = c.cubes.ensures.listing;
}

pub returns-clause-rules : goal.returns-clause-rules
returns-clause-rules c =
    let e : c.loop-a.a ≡ length c.args.board.now.slots.items = omega (arith, c.requires.places) in
    c.loop-a.invariant.listed ∙ ap (λ n. flat_map (rules_of_place c.args.enc.now.sets c.args.board.now.slots.items) (range_with_len 0 n)) e
