-- The sets of a certificate as sets of lists of truth values, and where an action is a way out of one.
use Rattle.std.specs.Prelude.{◌≡◌, ℕ, ◌<◌, Bool, true, false, not, ◌&&◌, ◌||◌, ◌==◌, List, [], ◌∷◌, length, ⊤}
use Rattle.std.specs.List.{list_any, range_with_len}
use Rattle.dd_nodes.specs.Subfunctions.{Function}
use Rattle.dd_ops.specs.Operations.{minus_of, or_of}
use Rattle.encode_task.specs.TaskSets.{cube_set, exec_set, space_set}
use Rattle.preimage.specs.Preimages.{strong_preimage, weak_preimage}
use Rattle.task_core.specs.Cubes.{Cube}
use Rattle.task_core.specs.Tasks.{action_count, fluent_count}
use Rattle.task_core.specs.Vectors.{Vector, all_vectors, same_value, value_of}
use Rattle.task_core.specs.declared.classes.Class.{Class}
use Rattle.task_core.specs.declared.classes.Class.TheVariants.{Weak, Strong, Cyclic}
use Rattle.task_core.specs.declared.literals.Lit.{Lit}
use Rattle.task_core.specs.declared.tasks.Task.{Task}
use Rattle.plan_certs.specs.Certificates.{CubeSet}

-- where a literal is true, and where some of some cubes matches
abbrev pub literal_set : Lit → Function
literal_set lit values = same_value (values lit.fluent.0) lit.positive

abbrev pub some_cube : CubeSet → Function
some_cube set values = list_any (λ cube. cube_set cube values) set

-- the states that some cube of a set matches, and those of several sets
abbrev pub states_in : Task → CubeSet → Function
states_in task set values = list_any (λ cube. cube_set cube values && space_set task values) set

abbrev pub states_of : Task → List CubeSet → Function
states_of task sets values = list_any (λ set. states_in task set values) sets

-- where action a can be executed and is a way out of a set of states, with another set before it in
-- the certificate: by the class's rule, as in `is_no_way_out`
abbrev pub way_out_set : Class → Task → Function → Function → ℕ → Function
way_out_set Weak task earlier set a = minus_of (exec_set task a) (strong_preimage task a set)
way_out_set Strong task earlier set a = minus_of (exec_set task a) (weak_preimage task a set)
way_out_set Cyclic task earlier set a =
    minus_of (minus_of (exec_set task a) (weak_preimage task a earlier))
    (strong_preimage task a (or_of earlier set))

-- whether two sets have a vector of n values in common
abbrev pub meets : ℕ → Function → Function → Bool
meets n f g = list_any (λ v. f (value_of v) && g (value_of v)) (all_vectors n)

-- Private: whether two literals cannot both be true, and whether a cube has two such
abbrev pub is_opposite : Lit → Lit → Bool
is_opposite lit other =
    lit.fluent.0 == other.fluent.0 && not (same_value lit.positive other.positive)

abbrev pub contradicts : Cube → Bool
contradicts cube = list_any (λ lit. list_any (is_opposite lit) cube) cube

-- Private: whether action a is a way out from a state that some cube of the set matches, whether some
-- action is, and whether some action is a way out of one of the sets, where f has the states of
-- those before
abbrev pub leaves_by : Class → Task → Function → CubeSet → ℕ → Bool
leaves_by class task f set a =
    list_any (λ cube. meets (fluent_count task) (cube_set cube)
    (way_out_set class task f (states_in task set) a)) set

abbrev pub is_left : Class → Task → Function → CubeSet → Bool
is_left class task f set =
    list_any (leaves_by class task f set) (range_with_len 0 (action_count task))

abbrev pub some_is_left : Class → Task → Function → List CubeSet → Bool
some_is_left class task f [] = false
some_is_left class task f (set ∷ sets) =
    is_left class task f set || some_is_left class task (or_of f (states_in task set)) sets

-- Private: for strong cyclic plans, no action is a way out of the states of some sets, of which none has a
-- way out. The other classes have one set
abbrev pub IsKept : Class → Task → Function → Type 0
IsKept Weak task f = ⊤
IsKept Strong task f = ⊤
IsKept Cyclic task f = (a : ℕ) → a < action_count task → (v : Vector) → length v ≡ fluent_count task
    → f (value_of v) ≡ true → way_out_set Cyclic task f f a (value_of v) ≡ false
