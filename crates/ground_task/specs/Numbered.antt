-- Private: instances by the numbers of their actions.
use Rattle.pddl_ast.specs.Trees.{SchemaTree}
use Rattle.pddl_system.specs.Instances.{Instance as InstanceTree}
use Rattle.ground_instances.specs.declared.instances.Instance.{Instance}

-- the instance of an action with the objects of a numbered one
abbrev pub instance_with : SchemaTree → Instance → InstanceTree
instance_with schema i = record { schema = schema; objects = i.objects.items }
