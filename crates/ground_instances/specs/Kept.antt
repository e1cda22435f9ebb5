-- Kept instances by the numbers of their actions.
use Rattle.std.specs.Prelude.{ℕ, ◌≡◌, List, ◌++◌, drop, length, map, slice_get, Option, Some, None}
use Rattle.std.specs.List.{filter, flat_map}
use Rattle.std.specs.Option.{option_map}
use Rattle.pddl_ast.specs.Trees.{SchemaTree, DomainTree}
use Rattle.pddl_system.specs.Instances.{Instance as InstanceTree, is_kept, kept_of}
use Rattle.pddl_system.specs.Objects.{bindings}
use Rattle.pddl_system.specs.Settings.{Setting}
use Rattle.ground_instances.specs.declared.instances.Instance.{Instance}
use Rattle.ground_instances.specs.declared.instances.Kept.{Kept}
use Rattle.ground_instances.specs.declared.instances.Kept.TheVariants.{All, TooMany}

-- the instance that an action's number and objects stand for, where the domain has that action
abbrev pub instance_of : DomainTree → Instance → Option InstanceTree
instance_of d i =
    option_map (λ (s : SchemaTree). record { schema = s; objects = i.objects.items })
    (slice_get d.actions i.action)

-- the kept instances of a domain's actions in a setting. In the setting of the domain and a problem
-- these are `kept_instances`
abbrev pub kept_by : Setting → DomainTree → List InstanceTree
kept_by at d = flat_map (kept_of at) d.actions

-- the instances of an answer that has them all
abbrev pub all_of : Kept → Option (List Instance)
all_of (All instances) = Some instances.items
all_of TooMany = None

-- Private: of some lists of objects, those with which an action's instance is kept.
abbrev pub kept_among : Setting → SchemaTree → List (List ℕ) → List (List ℕ)
kept_among at schema =
    filter (λ objects. is_kept at (record { schema = schema; objects = objects }))

-- Private: the objects of the kept instances of an action, in their order.
abbrev pub kept_objects : Setting → SchemaTree → List (List ℕ)
kept_objects at schema = kept_among at schema (bindings at.objects schema.parameters)

-- Private: the action's number and the objects of an instance.
abbrev pub with_number : ℕ → List ℕ → ℕ × List ℕ
with_number action objects = (action, objects)

abbrev pub numbered : Instance → ℕ × List ℕ
numbered i = with_number i.action i.objects.items

-- Private: the bindings of variables of these types that begin with some objects.
abbrev pub rows_under : Setting → List ℕ → List ℕ → List (List ℕ)
rows_under at types first =
    map (λ rest. first ++ rest) (bindings at.objects (drop (length first) types))

-- Private: the objects of the kept instances of an action that begin with some objects.
abbrev pub kept_under : Setting → SchemaTree → List ℕ → List (List ℕ)
kept_under at schema first = kept_among at schema (rows_under at schema.parameters first)

-- Private: a list begins with another.
abbrev pub IsBegunBy : List ℕ → List ℕ → Type 0
IsBegunBy first whole = (more : List ℕ) × (whole ≡ first ++ more)
