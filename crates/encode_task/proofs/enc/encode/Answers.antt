-- At first no slot is live.
use Rattle.std.proofs.Common.{◌≡◌, ℕ, ◌+◌, ◌*◌, ◌^◌, ◌<◌, ◌≤◌, ◌∙◌, sym, subst, arith}
use Rattle.std.proofs.lemmas.Result.{err_from_is_err_and}
use Rattle.list_laws.proofs.Numbers.{below_power}
use Rattle.task_core.specs.Tasks.{fluent_count}
use Rattle.encode_task.specs.Bounds.{working_slots}
use Rattle.dd_nodes.specs.Subfunctions.{nodes}
use Rattle.dd_sets.specs.LiveSets.{live_sets}
use Rattle.dd_sets.proofs.NoRoomLemmas.{no_room_small, no_room_tight}
use Rattle.dd_sets.proofs.SizeLemmas.{every_small}
use Rattle.encode_task.specs.KeptSets.{kept_nodes}
use Rattle.encode_task.proofs.TaskSizes.{all_kept, kept_bound}
use Rattle.encode_task.proofs.PartLemmas.{same_refusal_of}
use Rattle.encode_task.proofs.WholeLemmas.{tight_whole}
use Rattle.encode_task.proofs.enc.encode.Goals as goal

pub returns-clause-order : goal.returns-clause-order
returns-clause-order c = c.encode_sets.ensures.kept.order ∙ c.in_ok-sets.ensures.order

pub returns-in_err-kept-clause-full : goal.returns-in_err-kept-clause-full
returns-in_err-kept-clause-full c full =
    let p = err_from_is_err_and c.from_residual-in_err-kept.result c.from_residual-in_err-kept.ensures.1 in
    let vars : c.in_ok-sets.sets.vars ≡ fluent_count c.args.task.now = omega (arith, c.in_ok-sets.ensures.vars) in
    let w : ℕ = 2 ^ fluent_count c.args.task.now + 1 in
    let room = c.encode_sets.ensures.full (same_refusal_of c.encode_sets.result c.from_residual-in_err-kept.result _ c.in_err-kept.was p full) w (omega (arith, below_power (fluent_count c.args.task.now))) (λ set made. every_small (fluent_count c.args.task.now) set) in
    tight_whole room.middle c.args.limit (fluent_count c.args.task.now) 208 (working_slots c.args.task.now) (room.kept.limit ∙ c.in_ok-sets.ensures.limit) (room.kept.vars ∙ vars) (room.kept.order ∙ c.in_ok-sets.ensures.order)
    (omega (arith, room.few, c.in_ok-sets.ensures.count)) (no_room_tight w _ _ 208 1 room.no_room)

pub returns-in_err-kept-clause-full_by_sets : goal.returns-in_err-kept-clause-full_by_sets
returns-in_err-kept-clause-full_by_sets c full w wide small =
    let p = err_from_is_err_and c.from_residual-in_err-kept.result c.from_residual-in_err-kept.ensures.1 in
    let vars : c.in_ok-sets.sets.vars ≡ fluent_count c.args.task.now = omega (arith, c.in_ok-sets.ensures.vars) in
    let room = c.encode_sets.ensures.full (same_refusal_of c.encode_sets.result c.from_residual-in_err-kept.result _ c.in_err-kept.was p full) w wide small in
    let same : room.middle.vars ≡ fluent_count c.args.task.now = room.kept.vars ∙ vars in
    let limit : room.middle.limit ≡ c.args.limit = room.kept.limit ∙ c.in_ok-sets.ensures.limit in
    let below : room.middle.limit < nodes room.middle.vars (live_sets room.middle) + 208 * w + (1 + 1) * (w * w) = no_room_small w _ _ 208 1 room.no_room (room.kept.order ∙ c.in_ok-sets.ensures.order) in
    let live : nodes room.middle.vars (live_sets room.middle) ≤ kept_nodes c.args.task.now =
    subst (λ v. nodes v (live_sets room.middle) ≤ kept_nodes c.args.task.now) (sym same) (kept_bound c.args.task.now room.middle (all_kept c.args.task.now _ _ c.in_ok-sets.ensures.none_live room.adds)) in
    omega arith

pub returns-clause-are_kept : goal.returns-clause-are_kept
returns-clause-are_kept c = all_kept c.args.task.now _ _ c.in_ok-sets.ensures.none_live c.in_ok-kept.ensures.are_kept
