use Rattle.std.proofs.Common.{◌≡◌, drop, map}
use Rattle.std.specs.List.{list_any}
use Rattle.dd_nodes.specs.Subfunctions.{Function}
use Rattle.plan_certs.specs.Named.{cube_of, set_of}
use Rattle.encode_task.specs.TaskSets.{cube_set}
use Rattle.slot_board.specs.Board.{Start}
use Rattle.task_core.specs.Tasks.{fluent_count}
use Rattle.cert_check.specs.Sets.{meets}
use Rattle.cert_check.specs.Sizes.{CubesFit, HasLeft}
use Rattle.cert_check.proofs.judging.some_matches_left.Given as goal

-- no cube so far matches
abbrev pub invariant-loop-cube : goal.invariant-loop-cube
invariant-loop-cube l = (start : Start) (f g b : Function) → HasLeft start l.fn.enc l.fn.board.slots.items f g b → CubesFit start b (set_of l.set)
    → HasLeft start l.enc l.board.slots.items f g b
    × (list_any (λ cube. meets (fluent_count start.task) (cube_set cube) b) (map cube_of (drop l.cube-index l.set.cubes.items)) ≡ list_any (λ cube. meets (fluent_count start.task) (cube_set cube) b) (set_of l.set))
