-- Private: the kinds of plans, as the reader holds them.
use Rattle.plan_rules.specs.declared.reader.Kind.{Kind}
use Rattle.plan_rules.specs.declared.reader.Kind.TheVariants.{Table, Automaton}
use Rattle.plan_rules.specs.Readings.{Kind as PlanKind, table_kind, automaton_kind}

-- Private: the kind
abbrev pub kind_of : Kind → PlanKind
kind_of Table = table_kind
kind_of Automaton = automaton_kind
