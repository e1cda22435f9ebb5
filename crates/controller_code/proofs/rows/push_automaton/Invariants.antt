-- The lines so far, and those of the rules that are left, are together the whole.
use Rattle.std.specs.Prelude.{◌≡◌, ◌++◌, drop, map}
use Rattle.std.specs.List.{flat_map}
use Rattle.controller_code.specs.Texts.{counted_line}
use Rattle.plan_rules.specs.Rules.{context_rule_of}
use Rattle.controller_code.specs.Rows.{rule_row}
use Rattle.controller_code.proofs.rows.push_automaton.Given as goal

abbrev pub invariant-loop-rule : goal.invariant-loop-rule
invariant-loop-rule l =
    l.out.items ++ flat_map counted_line (map rule_row (map context_rule_of (drop l.rule-index l.rules)))
    ≡ l.fn.out.items ++ flat_map counted_line (map rule_row (map context_rule_of l.rules))
