-- What a value stands for.
use Rattle.std.specs.Prelude.{true, false, Some, None}
use Rattle.pddl_system.specs.ThreeValues.{Value as ThreeValue}
use Rattle.ground_instances.specs.declared.values.Value.{Value}
use Rattle.ground_instances.specs.declared.values.Value.TheVariants.{No, Unknown, Yes}

abbrev pub known_value : Value → ThreeValue
known_value No = Some false
known_value Unknown = None
known_value Yes = Some true
