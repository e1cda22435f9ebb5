-- The instances of actions: an action with an object of the right type for each parameter.
use Rattle.std.specs.Prelude.{ℕ, Bool, List, map}
use Rattle.std.specs.List.{filter, flat_map}
use Rattle.pddl_ast.specs.Trees.{SchemaTree, DomainTree, ProblemTree}
use Rattle.pddl_system.specs.Objects.{bindings}
use Rattle.pddl_system.specs.Settings.{Setting, setting}
use Rattle.pddl_system.specs.ThreeValues.{may_hold, value}

pub record Instance : Type 0 where
  pub schema : SchemaTree
  -- an object for each parameter
  pub objects : List ℕ

-- the instances of an action: the first parameter changes slowest
abbrev pub instances_of : Setting → SchemaTree → List Instance
instances_of at schema =
    map (λ objects. record { schema = schema; objects = objects })
    (bindings at.objects schema.parameters)

-- an instance is kept unless its precondition is known to be false
abbrev pub is_kept : Setting → Instance → Bool
is_kept at i = may_hold (value at i.schema.precondition i.objects)

-- the kept instances, by action as declared and then by their objects. Their places are the numbers
-- of the actions of the system
abbrev pub kept_of : Setting → SchemaTree → List Instance
kept_of at schema = filter (is_kept at) (instances_of at schema)

abbrev pub kept_instances : DomainTree → ProblemTree → List Instance
kept_instances d p = flat_map (kept_of (setting d p)) d.actions
