-- The plain views of what is known and of the groups of a typed list.
use Rattle.pddl_ast.specs.Known as plain
use Rattle.pddl_ast.specs.TypedLists.{Group}
use Rattle.pddl_ast.specs.declared.known.Known.{Known}
use Rattle.pddl_ast.specs.declared.typed_lists.TypedGroup.{TypedGroup}

abbrev pub known_value : Known → plain.Known
known_value k =
    record {
      types = k.types;
      predicates = k.predicates;
      arities = k.arities.items;
      objects = k.objects;
    }

abbrev pub group_value : TypedGroup → Group
group_value g = record { names = g.names.items; type_word = g.type_word }
