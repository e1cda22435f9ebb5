-- What is made to find the states of the contexts is small.
use Rattle.std.proofs.Common.{◌≡◌, ℕ, ◌+◌, ◌<◌, ◌≤◌, length, sym, ap, subst, inl}
use Rattle.plan_theory.specs.GuardedSets.{anywhere}
use Rattle.dd_nodes.specs.Subfunctions.{Function}
use Rattle.dd_ops.specs.Operations.{and_of}
use Rattle.dd_sets.specs.LiveSets.{set_of}
use Rattle.dd_sets.specs.declared.slots.SetId.{SetId}
use Rattle.encode_task.specs.TaskSets.{space_set}
use Rattle.slot_board.proofs.BoardSlots.{made_at}
use Rattle.slot_board.specs.Board as board
use Rattle.slot_board.specs.Board.{Scene, set_at}
use Rattle.task_core.specs.Conditions.{holds}
use Rattle.task_core.specs.Cubes.{SetOfVectors}
use Rattle.task_core.specs.declared.conditions.Cond.{Cond}
use Rattle.ctl_syntax.specs.Conditions.{states_of}
use Rattle.context_plan.specs.Scenes.{IsAt, IsReady, Moved, Start, board_of, guarded, sys_of}
use Rattle.context_plan.specs.Sizes.{EndFits, IsSmall}
use Rattle.context_plan.specs.Steps.{met_by}
use Rattle.context_plan.specs.WorkingSets.{kept_states}
use Rattle.context_plan.specs.declared.rounds.Way.TheVariants.{Shrinking}
use Rattle.context_plan.proofs.SizeSteps.{fits_small, turns_fit_first}
use Rattle.context_plan.proofs.WinSteps.{kept_together, space_holds, stage_together}

pub space_fits : (start : Start) (m : Scene) (space : SetId) → IsAt start m → space ≡ m.0.space → board.IsSmall (board_of start) (space_set start.task) → board.Fits (board_of start) 0 (set_of m.0.sets space.0)
space_fits start m space at is fits =
    let same = (space_holds start.task m.0 space (made_at (board_of start) m.0 m.1 at) is).holds in
    inl (subst (λ (f : Function). board.IsSmall (board_of start) f) (sym same) fits)

pub space_fits_at : (start : Start) (m : Scene) (place : ℕ) (space : SetId) → IsAt start m → space ≡ m.0.space → board.IsSmall (board_of start) (space_set start.task) → board.Fits (board_of start) place (set_of m.0.sets space.0)
space_fits_at start m place space at is fits =
    let same = (space_holds start.task m.0 space (made_at (board_of start) m.0 m.1 at) is).holds in
    inl (subst (λ (f : Function). board.IsSmall (board_of start) f) (sym same) fits)

pub kept_fits : (start : Start) (x m k : Scene) (place : ℕ) (cond : Cond) (space : SetId) → 8 ≤ place → place < length x.1 → IsAt start x → space ≡ m.0.space → Moved start x m place (holds cond) → Moved start m k 0 (set_of m.0.sets space.0) → EndFits start cond
    → board.Fits (board_of start) place (and_of (set_at k.0.sets k.1 0) (set_at k.0.sets k.1 place))
kept_fits start x m k place cond space high within at is first second fits =
    fits_small start place (and_of (set_at k.0.sets k.1 0) (set_at k.0.sets k.1 place)) (kept_states (sys_of start) (states_of cond)) (turns_fit_first Shrinking (guarded start anywhere) (kept_states (sys_of start) (states_of cond)) fits.rounds).itself
    (λ v at_v. ap (λ (f : SetOfVectors). f v) (sym (kept_together start x m k place cond space high within at is first second)))

pub met_fits : (start : Start) (x m : Scene) (place : ℕ) (cond : Cond) → place + 2 < length x.1 → IsReady start x → Moved start x m (place + 1) (holds cond) → IsSmall start (met_by x place cond)
    → board.Fits (board_of start) (place + 1) (and_of (set_at m.0.sets m.1 (place + 1)) (set_at m.0.sets m.1 (place + 2)))
met_fits start x m place cond within ready first fits =
    fits_small start (place + 1) (and_of (set_at m.0.sets m.1 (place + 1)) (set_at m.0.sets m.1 (place + 2))) (met_by x place cond) fits
    (λ v is. ap (λ (f : SetOfVectors). f v) (sym (stage_together start x m place cond within ready first)))
