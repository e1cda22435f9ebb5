-- The planning system that a domain and a problem spell (Cimatti, Pistore, Roveri, Traverso 2003: a
-- planning domain with initial states and goal states).
use Rattle.std.specs.Prelude.{◌≡◌, ℕ, Bool, true, ◌&&◌, List, [], ◌∷◌, map, length, slice_get}
use Rattle.std.specs.Prelude.{Option, Some, None, if◌then◌else◌}
use Rattle.std.specs.List.{filter, list_any, position_or_len}
use Rattle.std.specs.Option.{option_and_then, option_map, option_map_or}
use Rattle.task_core.specs.Initial.{Entry, after_entries}
use Rattle.task_core.specs.Names.{Name}
use Rattle.task_core.specs.Systems.{System}
use Rattle.task_core.specs.Vectors.{Vector, all_vectors}
use Rattle.task_core.specs.declared.literals.Lit.{Lit}
use Rattle.pddl_ast.specs.declared.trees.Named.{Named}
use Rattle.pddl_ast.specs.declared.trees.Predicate.{Predicate}
use Rattle.pddl_ast.specs.Trees.{AtomTree, FormulaTree, LiteralTree, DomainTree, ProblemTree}
use Rattle.pddl_system.specs.Fluents.{fluents}
use Rattle.pddl_system.specs.GroundAtoms.{same_atom}
use Rattle.pddl_system.specs.Instances.{Instance, kept_instances}
use Rattle.pddl_system.specs.Objects.{all_objects}
use Rattle.pddl_system.specs.Outcomes.{outcomes_of}
use Rattle.pddl_system.specs.Settings.{Setting, setting}
use Rattle.pddl_system.specs.States.{formula_holds, is_state, state_after}

-- the literal that a literal of an uncertain entry is, by its fluent's number. Each atom of an
-- entry is a fluent
abbrev pub literal_of : List AtomTree → LiteralTree → Lit
literal_of fluents l = record {
  fluent = record { 0 = position_or_len (same_atom l.atom) fluents };
  positive = l.positive;
}

-- the uncertain entries over the fluents
abbrev pub entry_over : List AtomTree → List (List LiteralTree) → Entry
entry_over fluents = map (map (literal_of fluents))

-- the vector in which just the facts are true
abbrev pub facts_of : Setting → List AtomTree → Vector
facts_of at = map at.is_fact

-- the vectors after all uncertain entries, which act in their order on the facts. The initial
-- states are those of them that are states
abbrev pub initial_of : Setting → List AtomTree → List (List (List LiteralTree)) → List Vector
initial_of at fluents entries =
    after_entries (length fluents) (facts_of at fluents) (map (entry_over fluents) entries)

-- the states, by the invariant, in which a formula without free variables holds
abbrev pub states_where : Setting → List AtomTree → FormulaTree → FormulaTree → List Vector
states_where at fluents invariant formula =
    filter (λ v. is_state at fluents invariant v && formula_holds at fluents v formula [])
    (all_vectors (length fluents))

-- the vectors after the outcomes of an instance from v, in their order, wherever its precondition
-- holds, and whether they are states or not
abbrev pub vectors_after : Setting → List AtomTree → Vector → Instance → List Vector
vectors_after at fluents v i = map (state_after at fluents v) (outcomes_of at i)

-- whether v is a state in which the precondition of an instance holds
abbrev pub is_allowed : Setting → List AtomTree → FormulaTree → Vector → Instance → Bool
is_allowed at fluents invariant v i =
    is_state at fluents invariant v
    && formula_holds at fluents v i.schema.precondition i.objects

-- the states to which an instance leads from v, in the order of its outcomes: an outcome that leads
-- to no state doesn't take place. None where v is no state, or the precondition doesn't hold
abbrev pub next_of : Setting → List AtomTree → FormulaTree → Vector → Instance → List Vector
next_of at fluents invariant v i =
    if is_allowed at fluents invariant v i
    then filter (is_state at fluents invariant) (vectors_after at fluents v i) else []

-- a vector, where it is a state
abbrev pub if_state : Setting → List AtomTree → FormulaTree → Vector → Option Vector
if_state at fluents invariant v = if is_state at fluents invariant v then Some v else None

-- the state to which outcome o of an instance leads from v, where it leads to one
abbrev pub after_of : Setting → List AtomTree → FormulaTree → Vector → ℕ → Instance → Option Vector
after_of at fluents invariant v o i =
    if is_allowed at fluents invariant v i
    then option_and_then (if_state at fluents invariant) (slice_get (vectors_after at fluents v i) o)
    else None

-- the system over these fluents and kept instances, with the states of this invariant
abbrev pub system_over : Setting → List AtomTree → List Instance → FormulaTree → ProblemTree
    → System
system_over at fluents kept invariant p = record {
  fluents = length fluents;
  in_space = is_state at fluents invariant;
  actions = length kept;
  outcomes = λ a. option_map_or (λ i. length (outcomes_of at i)) (slice_get kept a) 0;
  initial = filter (is_state at fluents invariant) (initial_of at fluents p.entries);
  goal = option_map (states_where at fluents invariant) p.goal;
  next = λ v a. option_map_or (next_of at fluents invariant v) (slice_get kept a) [];
  after = λ v a o. option_and_then (after_of at fluents invariant v o) (slice_get kept a);
}

-- the system of a domain and a problem
abbrev pub system : DomainTree → ProblemTree → System
system d p = system_over (setting d p) (fluents d p) (kept_instances d p) d.invariant p

-- when an instance can be executed in v: v is a state, the precondition holds there, and some
-- outcome leads to a state
pub record IsExecutable (d : DomainTree) (p : ProblemTree) (v : Vector) (i : Instance) : Type 0 where
  pub inside : is_state (setting d p) (fluents d p) d.invariant v ≡ true
  pub precondition : formula_holds (setting d p) (fluents d p) v i.schema.precondition i.objects
      ≡ true
  pub leads : list_any (is_state (setting d p) (fluents d p) d.invariant)
      (vectors_after (setting d p) (fluents d p) v i) ≡ true

-- the names of the fluents and of the actions, by their numbers: the word of the predicate or of
-- the action, and those of the objects
abbrev pub object_name : List Named → ℕ → List ℕ
object_name objects o = option_map_or (λ (n : Named). n.name) (slice_get objects o) []

abbrev pub predicate_name : List Predicate → ℕ → List ℕ
predicate_name predicates q = option_map_or (λ (n : Predicate). n.name) (slice_get predicates q) []

abbrev pub atom_name : DomainTree → ProblemTree → AtomTree → Name
atom_name d p a =
    predicate_name d.predicates a.predicate ∷ map (object_name (all_objects d p)) a.objects

abbrev pub instance_name : DomainTree → ProblemTree → Instance → Name
instance_name d p i = i.schema.name ∷ map (object_name (all_objects d p)) i.objects

abbrev pub fluent_names : DomainTree → ProblemTree → List Name
fluent_names d p = map (atom_name d p) (fluents d p)

abbrev pub action_names : DomainTree → ProblemTree → List Name
action_names d p = map (instance_name d p) (kept_instances d p)
