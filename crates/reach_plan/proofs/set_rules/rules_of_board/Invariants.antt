-- The first actions have their rules, and the listing is one of these sets.
use Rattle.std.proofs.Common.{◌≡◌, map}
use Rattle.std.specs.List.{flat_map, range_with_len}
use Rattle.dd_sets.specs.Rebuilt.{IsListingOf}
use Rattle.plan_rules.specs.Rules.{rule_of}
use Rattle.reach_plan.specs.SetRules.{rules_of_place}
use Rattle.reach_plan.proofs.set_rules.rules_of_board.Given as goal

abbrev pub invariant-loop-a : goal.invariant-loop-a
invariant-loop-a l = record {
  listed : map rule_of l.rules.items ≡ flat_map (rules_of_place l.enc.sets l.board.slots.items) (range_with_len 0 l.a);
  listing : IsListingOf l.enc.sets l.listing.tables;
}
