use Rattle.std.proofs.Common.{◌≡◌, ◌++◌, map, take, string_bytes, length}
use Rattle.std.specs.List.{flat_map}
use Rattle.task_core.specs.Names.{name_of}
use Rattle.task_core.specs.declared.actions.GroundAction.{GroundAction}
use Rattle.ground_command.specs.GroundCommand.{action_line}
use Rattle.ground_command.proofs.ground_command.push_actions.Given as goal

abbrev pub invariant-loop-action : goal.invariant-loop-action
invariant-loop-action l =
    string_bytes l.out ≡ string_bytes l.fn.out
    ++ flat_map action_line (map (λ (action : GroundAction). (name_of action, length action.outcomes.items)) (take l.action-index l.actions))
