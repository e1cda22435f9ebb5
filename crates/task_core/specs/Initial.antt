-- The initial states of a task: facts that are known, and uncertain entries that act on them in
-- order.
use Rattle.std.specs.Prelude.{ℕ, ◌==◌, Bool, true, false, ◌&&◌, if◌then◌else◌, List, [], ◌∷◌, ◌++◌}
use Rattle.std.specs.Prelude.{map, length, nat_lt}
use Rattle.std.specs.List.{flat_map, fold, list_all, list_any, range_with_len}
use Rattle.task_core.specs.Vectors.{Vector, value_of, same_value, same_vector}
use Rattle.task_core.specs.States.{vector}
use Rattle.task_core.specs.Cubes.{Cube}
use Rattle.task_core.specs.declared.literals.Lit.{Lit}
use Rattle.task_core.specs.declared.actions.Alternative.{Alternative}
use Rattle.task_core.specs.declared.actions.InitSpec.{InitSpec}

-- the value of fluent f after literals are applied where the fluents have these values: true where
-- one adds it, else false where one deletes it, else as before
abbrev pub names_it : Bool → ℕ → Cube → Bool
names_it positive f lits =
    list_any (λ lit. lit.fluent.0 == f && same_value lit.positive positive) lits

abbrev pub applied_value : Cube → (ℕ → Bool) → ℕ → Bool
applied_value lits value f =
    if names_it true f lits then true else if names_it false f lits then false else value f

-- the state over n fluents with an alternative's literals applied
abbrev pub applied : ℕ → Vector → Cube → Vector
applied n v lits = map (applied_value lits (value_of v)) (range_with_len 0 n)

-- an uncertain entry is a list of alternatives, each a list of literals
abbrev pub Entry : Type 0
Entry = List Cube

-- one more state, unless it is already listed
abbrev pub add_state : List Vector → Vector → List Vector
add_state listed v = if list_any (same_vector v) listed then listed else listed ++ v ∷ []

-- the states after an entry: for each state so far, and each alternative, the state with it applied
abbrev pub after_entry : ℕ → List Vector → Entry → List Vector
after_entry n states entry = fold add_state [] (flat_map (λ v. map (applied n v) entry) states)

-- the states after entries that act in their order on one state
abbrev pub after_entries : ℕ → Vector → List Entry → List Vector
after_entries n facts entries = fold (after_entry n) (facts ∷ []) entries

-- the entries and the facts of a task, without where they lie in memory
abbrev pub entry_of : List Alternative → Entry
entry_of alternatives = map (λ (alternative : Alternative). alternative.lits.items) alternatives

abbrev pub entries_of : InitSpec → List Entry
entries_of init = map (λ entry. entry_of entry.items) init.entries.items

abbrev pub facts_of : ℕ → InitSpec → Vector
facts_of n init = vector n init.facts

-- whether an entry has an alternative, and every fluent that it names is below n
abbrev pub lit_within : ℕ → Lit → Bool
lit_within n lit = nat_lt lit.fluent.0 n

abbrev pub entry_within : ℕ → Entry → Bool
entry_within n entry = nat_lt 0 (length entry) && list_all (list_all (lit_within n)) entry

abbrev pub entries_within : ℕ → InitSpec → Bool
entries_within n init = list_all (entry_within n) (entries_of init)
