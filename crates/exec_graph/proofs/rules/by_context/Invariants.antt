-- The rules so far stand in the lists of their contexts.
use Rattle.std.proofs.Common.{◌≡◌, ◌==◌, ℕ, length, take}
use Rattle.std.specs.List.{filter}
use Rattle.exec_graph.specs.ByContext.{rules_in}
use Rattle.exec_graph.proofs.rules.by_context.Given as goal

abbrev pub invariant-loop-rule : goal.invariant-loop-rule
invariant-loop-rule l = record {
  len : length l.index.lists.items ≡ l.count;
  sorted : (c : ℕ) → rules_in l.index c ≡ filter (λ rule. rule.context == c) (take l.rule-index l.rules);
}
