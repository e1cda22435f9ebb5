use Rattle.sexpr_text.specs.Forest.{forest_of}
use Rattle.pddl_ast.specs.TypedLists.{typed_groups}
use Rattle.pddl_domain.proofs.TypeLemmas.{parents_are_types, some_type, types_have_parents}
use Rattle.pddl_domain.proofs.types.check_loops.Goals as goal

pub types_on_loops-requires : goal.types_on_loops-requires
types_on_loops-requires c = rw (c.deref.ensures.value, c.requires.parents) (parents_are_types (typed_groups (forest_of c.args.list.now)))

pub check_word-requires-clause-some : goal.check_word-requires-clause-some
check_word-requires-clause-some c = rw c.requires.names (some_type (typed_groups (forest_of c.args.list.now)))

pub check_word-requires-clause-listed : goal.check_word-requires-clause-listed
check_word-requires-clause-listed c = rw (c.requires.names, c.requires.parents) (types_have_parents (typed_groups (forest_of c.args.list.now)))
