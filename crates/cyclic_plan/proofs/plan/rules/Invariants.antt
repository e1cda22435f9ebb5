use Rattle.std.proofs.Common.{◌≡◌, ◌^◌, map}
use Rattle.std.specs.List.{flat_map, range_with_len}
use Rattle.task_core.specs.Tasks.{fluent_count, system_of}
use Rattle.task_core.specs.declared.classes.Class.TheVariants.{Weak}
use Rattle.plan_rules.specs.Rules.{rule_of}
use Rattle.plan_theory.specs.LayerPlans.{rules_of_action}
use Rattle.dd_sets.specs.Rebuilt.{IsListingOf}
use Rattle.slot_board.specs.Board.{Start}
use Rattle.plan_theory.specs.Pairs.{restricted}
use Rattle.cyclic_plan.specs.Takers.{HasTable}
use Rattle.cyclic_plan.proofs.plan.rules.Given as goal

abbrev pub invariant-loop-a : goal.invariant-loop-a
invariant-loop-a l = record {
  listed : (start : Start) (table : HasTable start l.fn.enc l.fn.board.slots.items)
      → map rule_of l.rules.items ≡ flat_map (rules_of_action Weak (restricted (system_of start.task) table.pairs) (2 ^ fluent_count start.task)) (range_with_len 0 l.a);
  listing : IsListingOf l.enc.sets l.listing.tables;
}
