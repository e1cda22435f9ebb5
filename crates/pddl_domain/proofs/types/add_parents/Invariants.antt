use Rattle.std.proofs.Common.{◌≡◌, drop, map}
use Rattle.std.specs.List.{fold}
use Rattle.pddl_ast.specs.Environment.{group_value}
use Rattle.pddl_domain.specs.Types as specs
use Rattle.pddl_domain.proofs.types.add_parents.Given as goal

abbrev pub invariant-loop-group : goal.invariant-loop-group
invariant-loop-group l = record {
  table : fold specs.with_name l.initial.names.table (specs.parent_words (map group_value l.groups))
      ≡ fold specs.with_name l.names.table (specs.parent_words (map group_value (drop l.group-index l.groups)));
  texts : l.names.texts.items ≡ l.names.table;
}
