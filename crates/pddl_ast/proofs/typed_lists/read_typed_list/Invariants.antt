use Rattle.std.proofs.Common.{◌≡◌, drop, true}
use Rattle.sexpr_text.specs.Forest.{forest_of}
use Rattle.pddl_ast.specs.TypedLists as lists
use Rattle.pddl_ast.specs.Pending as state
use Rattle.pddl_ast.proofs.typed_lists.read_typed_list.Given as goal

abbrev pub invariant-loop-k : goal.invariant-loop-k
invariant-loop-k l = record {
  flaws : lists.typed_list_flaws l.fn.declares l.fn.types l.fn.seen (forest_of l.list)
      ≡ state.flaws_of l.fn.declares l.fn.types l.seen l.pending (forest_of (drop l.k l.list));
  groups : lists.typed_groups (forest_of l.list) ≡ state.groups_of l.pending (forest_of (drop l.k l.list));
  seen : l.seen ≡ lists.all_seen l.fn.declares (state.names_so_far l.pending) l.fn.seen;
  due : l.pending.typed ≡ true → lists.begins_type (forest_of (drop l.k l.list)) ≡ true;
}
