-- A context more is decided.
use Rattle.std.proofs.Common.{◌∙◌, ◌+◌, ap, map, List, arith}
use Rattle.plan_rules.specs.Rules.{context_rule_of}
use Rattle.plan_rules.specs.declared.rules.AutoRule.{AutoRule}
use Rattle.controller_code.specs.FirstMoves.{plan_move}
use Rattle.std.proofs.lemmas.List.{length-append}
use Rattle.controller_code.proofs.Contexts.{one_more}
use Rattle.controller_code.proofs.trees.tree_of_contexts.Goals as goal

pub loop-place-preserved : goal.loop-place-preserved
loop-place-preserved c = record {
  known = c.in_ok-start.ensures.known;
  count = grind (arith, length-append, c.in_ok-push.ensures.items, c.loop-place.invariant.count);
  decided =
      one_more c.loop-place.growth.steps.list.items c.grow_rules.new.growth.steps.list.items c.in_ok-start.ensures.kept c.loop-place.starts.items c.loop-place.place
      c.loop-place.invariant.count (map context_rule_of c.args.automaton.now.rules.items) c.loop-place.invariant.decided c.in_ok-rules.rules.items c.in_ok-start.start
      c.in_ok-start.ensures.decides
      (λ v. c.in_ok-rules.ensures v ∙ ap (λ (rules : List AutoRule). plan_move (map context_rule_of rules) (c.loop-place.place + 1) v) c.deref.ensures.value)
      c.push.new.self.items c.in_ok-push.ensures.items;
}
