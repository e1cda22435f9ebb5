-- The one context is decided.
use Rattle.std.proofs.Common.{◌∙◌, ◌++◌, ◌∷◌, [], ap, map, List, ℕ}
use Rattle.rule_lookup.specs.RunRules.{in_one_context}
use Rattle.plan_rules.specs.Rules.{rule_of, rules_of}
use Rattle.plan_rules.specs.declared.rules.Rule.{Rule}
use Rattle.controller_code.specs.FirstMoves.{plan_move}
use Rattle.controller_code.proofs.Contexts.{table_decided}
use Rattle.controller_code.proofs.trees.tree_of_table.Goals as goal

pub returns : goal.returns
returns c =
    table_decided (record { steps = c.grow_rules.new.growth.steps.list; starts = c.push.new.self }) c.args.table.now.class (rules_of c.args.table.now)
    c.in_ok-rules.rules.items c.in_ok-start.start (c.in_ok-push.ensures.items ∙ ap (λ (xs : List ℕ). xs ++ c.in_ok-start.start ∷ []) c.new-starts.ensures.items)
    c.in_ok-start.ensures.decides
    (λ v. c.in_ok-rules.ensures v ∙ ap (λ (rules : List Rule). plan_move (map in_one_context (map rule_of rules)) 1 v) c.deref.ensures.value)
