-- The contexts so far are decided as the plan does.
use Rattle.std.specs.Prelude.{◌≡◌, length, map}
use Rattle.plan_rules.specs.Rules.{context_rule_of}
use Rattle.controller_code.specs.FirstMoves.{AreKnown}
use Rattle.controller_code.proofs.Contexts.{AreDecided}
use Rattle.controller_code.proofs.trees.tree_of_contexts.Given as goal

abbrev pub invariant-loop-place : goal.invariant-loop-place
invariant-loop-place l = record {
  known : AreKnown l.growth.steps.list.items l.growth.known.items;
  count : length l.starts.items ≡ l.place;
  decided : AreDecided l.growth.steps.list.items l.starts.items (map context_rule_of l.automaton.rules.items) l.place;
}
