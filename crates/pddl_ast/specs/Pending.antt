-- Private: what a reader of a typed list has read, and what it has still before it.
use Rattle.std.specs.Prelude.{ℕ, Bool, true, false, not, ◌==◌, List, ◌++◌, map, length}
use Rattle.sexpr_text.specs.Forest.{Forest}
use Rattle.sexpr_text.specs.Flaws.{Flaw}
use Rattle.pddl_ast.specs.TypedLists.{Group, names_flaws, type_flaws, groups_after, typed_after}
use Rattle.pddl_ast.specs.TypedLists.{names_of}
use Rattle.pddl_ast.specs.Environment.{group_value}
use Rattle.pddl_ast.specs.declared.typed_lists.Declares.{Declares}
use Rattle.pddl_ast.specs.declared.typed_lists.Pending.{Pending}

-- what is wrong in the rest, where a type is due or a name
abbrev pub flaws_where : Declares → List (List ℕ) → Bool → Forest → List (List ℕ) → Bool → List Flaw
flaws_where declares types true rest seen named = type_flaws declares types rest seen
flaws_where declares types false rest seen named = names_flaws declares types rest seen named

abbrev pub flaws_of : Declares → List (List ℕ) → List (List ℕ) → Pending → Forest → List Flaw
flaws_of declares types seen p rest =
    flaws_where declares types p.typed rest seen (not (length p.names.items == 0))

-- the groups that the rest gives
abbrev pub groups_where : Bool → Forest → List (List ℕ) → List Group
groups_where true rest names = typed_after rest names
groups_where false rest names = groups_after rest names

-- all groups of the list
abbrev pub groups_of : Pending → Forest → List Group
groups_of p rest = map group_value p.groups.items ++ groups_where p.typed rest p.names.items

-- the names that were read
abbrev pub names_so_far : Pending → List (List ℕ)
names_so_far p = names_of (map group_value p.groups.items) ++ p.names.items
