-- The actions of a domain that can never be executed.
use Rattle.std.specs.Prelude.{ℕ, Bool, ◌&&◌, false, List, [], ◌∷◌, map, not, true}
use Rattle.std.specs.List.{filter, list_all}
use Rattle.std.specs.Str.{bytes_eq}
use Rattle.pddl_ast.specs.Trees.{DomainTree, SchemaTree}
use Rattle.relaxed_reach.specs.Literals.{LiteralSet, can_be}
use Rattle.task_core.specs.Names.{Name, name_of}
use Rattle.task_core.specs.declared.actions.GroundAction.{GroundAction}
use Rattle.task_core.specs.declared.tasks.Task.{Task}

-- whether a name begins with this word
abbrev pub begins : List ℕ → Name → Bool
begins word [] = false
begins word (first ∷ words) = bytes_eq word first

-- whether an action of a task is an instance of the domain's action of this name
abbrev pub is_of : List ℕ → GroundAction → Bool
is_of name action = begins name (name_of action)

-- whether it is, and its precondition can hold where just the literals of the set can be true
abbrev pub may_run : LiteralSet → List ℕ → GroundAction → Bool
may_run set name action = is_of name action && can_be action.exec set true

-- whether no instance can be executed
abbrev pub never_runs : Task → LiteralSet → List ℕ → Bool
never_runs task set name = list_all (λ action. not (may_run set name action)) task.actions.items

-- the names of the actions of which none can, in the order of the domain
abbrev pub never_run : DomainTree → Task → LiteralSet → List (List ℕ)
never_run domain task set =
    filter (never_runs task set) (map (λ (s : SchemaTree). s.name) domain.actions)
