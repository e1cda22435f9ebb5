-- Private: the parts of rules as the readers hold them, as forests.
use Rattle.sexpr_text.specs.Forest.{forest_of}
use Rattle.plan_rules.specs.declared.items as declared
use Rattle.plan_rules.specs.Items.{item_of}
use Rattle.plan_rules.specs.Readings.{TableRuleParts, ContextRuleParts}

-- Private: the parts of a table's rule
abbrev pub table_rule_view : declared.TableRuleParts.TableRuleParts → TableRuleParts
table_rule_view p =
    record {
      cube = forest_of p.cube.now;
      action_span = p.action_span;
      action = forest_of
          p.action.now;
    }

-- Private: the parts of an automaton's rule
abbrev pub context_rule_view : declared.ContextRuleParts.ContextRuleParts → ContextRuleParts
context_rule_view p = record {
  context = item_of p.context;
  cube = forest_of p.cube.now;
  action_span = p.action_span;
  action = forest_of p.action.now;
  next = item_of p.next;
}
