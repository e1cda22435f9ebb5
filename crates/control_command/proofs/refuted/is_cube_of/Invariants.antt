use Rattle.std.proofs.Common.{take, ◌<◌}
use Rattle.std.specs.Prelude.{All}
use Rattle.task_core.specs.declared.literals.Lit.{Lit}
use Rattle.control_command.proofs.refuted.is_cube_of.Given as goal

abbrev pub invariant-loop-literal : goal.invariant-loop-literal
invariant-loop-literal l = All (λ (lit : Lit). lit.fluent.0 < l.fluents) (take l.literal-index l.cube)
