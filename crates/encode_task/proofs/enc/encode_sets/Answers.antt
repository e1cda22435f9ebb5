-- The sets of the task, put together.
use Rattle.std.proofs.Common.{◌≡◌, ℕ, ◌+◌, ◌*◌, [], List, map, length, arith, refl, sym, ap, subst, ◌∙◌, Contains}
use Rattle.std.specs.List.{list_all}
use Rattle.std.proofs.lemmas.Bool.{leb-true}
use Rattle.std.proofs.lemmas.Result.{err_from_is_err_and}
use Rattle.task_core.specs.Conditions.{depth, holds, ids_below}
use Rattle.task_core.specs.Tasks.{fluent_count, system_of}
use Rattle.task_core.specs.declared.actions.GroundAction.{GroundAction}
use Rattle.dd_sets.specs.LiveSets.{live_count}
use Rattle.dd_sets.proofs.FrameLemmas.{kept_chain, kept_same}
use Rattle.dd_sets.specs.Rooms.{Small}
use Rattle.std.specs.List.{flat_map}
use Rattle.encode_task.specs.KeptSets.{kept_sets, sets_of_action, sets_of_goal}
use Rattle.encode_task.specs.WorkingSets.IsMadeByEncode.{invariant, of_action}
use Rattle.encode_task.specs.WorkingSets.IsPartOf.{itself}
use Rattle.encode_task.proofs.ActionSizes.{action_at}
use Rattle.encode_task.proofs.KeptLemmas.{adds_chain, adds_owned, adds_same, adds_weaker, room_from, room_later}
use Rattle.encode_task.proofs.TaskSizes.{actions_kept, alone_kept, goal_kept as goal_kept_among, initial_kept, space_kept}
use Rattle.encode_task.specs.Bounds.{action_slots}
use Rattle.task_core.specs.Systems.{most_outcomes}
use Rattle.encode_task.specs.Counts.{IsLeftAlone, left_in_actions}
use Rattle.encode_task.specs.Names.{has_outcomes_within}
use Rattle.encode_task.specs.Seen.{slots_of}
use Rattle.encode_task.specs.Tables.{ActionMade, AllPaired, SharesLeft}
use Rattle.encode_task.specs.declared.action_sets.ActionSets.{ActionSets}
use Rattle.encode_task.proofs.MadeLemmas.{goal_kept, holds_kept}
use Rattle.encode_task.proofs.OnlyLemmas.{only_owned, only_whole}
use Rattle.dd_sets.proofs.OwnedLemmas.{one_live, own_set}
use Rattle.encode_task.proofs.PartLemmas.{answer_slot, same_refusal_of, small_at}
use Rattle.encode_task.proofs.TableLemmas.{action_stays, paired_weaker}
use Rattle.encode_task.proofs.WholeLemmas.{made_of_pieces, outcomes_few}
use Rattle.encode_task.proofs.enc.encode_sets.Goals as goal

-- the states
pub set_where-requires : goal.set_where-requires
set_where-requires c = ap (λ n. ids_below n c.args.task.now.invariant) c.requires ∙ c.args.task.now.invariant_within

pub returns-in_err-space-clause-full : goal.returns-in_err-space-clause-full
returns-in_err-space-clause-full c full w wide small =
    let p = err_from_is_err_and c.from_residual.result c.from_residual.ensures.1 in
    room_from _ _ (depth c.args.task.now.invariant + 4) 0 (kept_same c.args.sets.now) (adds_same (Contains (kept_sets c.args.task.now)) c.args.sets.now) (omega arith)
    (omega (arith, leb-true (depth c.args.task.now.invariant) 200 c.args.task.now.shallow_invariant)) (omega arith)
    (c.set_where.ensures.full (same_refusal_of c.set_where.result c.from_residual.result _ c.in_err-space.was p full) w (small_at w _ _ c.requires (λ set of_part. small set (invariant set of_part))))

-- the initial states
pub initial_states-requires-clause-space : goal.initial_states-requires-clause-space
initial_states-requires-clause-space c =
    let space = answer_slot _ _ _ c.set_where.result _ c.in_ok-space.was c.set_where.ensures.answer in
    record { live = one_live _ _ _ _ space; holds = own_set _ _ _ _ [] [] space }

pub initial_states-requires-clause-vars : goal.initial_states-requires-clause-vars
initial_states-requires-clause-vars c =
    let space = answer_slot _ _ _ c.set_where.result _ c.in_ok-space.was c.set_where.ensures.answer in
    space.kept.vars ∙ c.requires

pub returns-in_err-initial-clause-full : goal.returns-in_err-initial-clause-full
returns-in_err-initial-clause-full c full w wide small =
    let p = err_from_is_err_and c.from_residual-in_err-initial.result c.from_residual-in_err-initial.ensures.1 in
    let among = Contains (kept_sets c.args.task.now) in
    let space = answer_slot _ _ _ c.set_where.result _ c.in_ok-space.was c.set_where.ensures.answer in
    let one : live_count c.set_where.new.sets ≡ live_count c.args.sets.now + 1 = space.count in
    room_from _ _ 8 1 space.kept (adds_owned among _ _ c.in_ok-space.space.0 _ space (space_kept c.args.task.now)) (omega arith) (omega arith) (omega arith)
    (c.initial_states.ensures.full (same_refusal_of c.initial_states.result c.from_residual-in_err-initial.result _ c.in_err-initial.was p full) w wide small)

-- the goal states
pub goal_states-requires-clause-space : goal.goal_states-requires-clause-space
goal_states-requires-clause-space c =
    let space = answer_slot _ _ _ c.set_where.result _ c.in_ok-space.was c.set_where.ensures.answer in
    let initial = answer_slot _ _ _ c.initial_states.result _ c.in_ok-initial.was c.initial_states.ensures.answer in
    holds_kept _ _ initial.kept c.in_ok-space.space _ (record { live = one_live _ _ _ _ space; holds = own_set _ _ _ _ [] [] space })

pub goal_states-requires-clause-vars : goal.goal_states-requires-clause-vars
goal_states-requires-clause-vars c =
    let space = answer_slot _ _ _ c.set_where.result _ c.in_ok-space.was c.set_where.ensures.answer in
    let initial = answer_slot _ _ _ c.initial_states.result _ c.in_ok-initial.was c.initial_states.ensures.answer in
    initial.kept.vars ∙ space.kept.vars ∙ c.requires

pub returns-in_err-goal-clause-full : goal.returns-in_err-goal-clause-full
returns-in_err-goal-clause-full c full w wide small =
    let p = err_from_is_err_and c.from_residual-in_err-goal.result c.from_residual-in_err-goal.ensures.1 in
    let among = Contains (kept_sets c.args.task.now) in
    let space = answer_slot _ _ _ c.set_where.result _ c.in_ok-space.was c.set_where.ensures.answer in
    let initial = answer_slot _ _ _ c.initial_states.result _ c.in_ok-initial.was c.initial_states.ensures.answer in
    let one : live_count c.set_where.new.sets ≡ live_count c.args.sets.now + 1 = space.count in
    let two : live_count c.initial_states.new.sets ≡ live_count c.set_where.new.sets + 1 = initial.count in
    let begun = kept_chain _ _ _ space.kept initial.kept in
    let first = adds_chain among _ _ _ initial.kept (adds_owned among _ _ c.in_ok-space.space.0 _ space (space_kept c.args.task.now)) (adds_owned among _ _ c.in_ok-initial.initial.0 _ initial (initial_kept c.args.task.now)) in
    room_from _ _ 204 0 begun first (omega arith) (omega arith) (omega arith)
    (c.goal_states.ensures.full (same_refusal_of c.goal_states.result c.from_residual-in_err-goal.result _ c.in_err-goal.was p full) w small)

-- the actions
pub encode_actions-requires-clause-space : goal.encode_actions-requires-clause-space
encode_actions-requires-clause-space c =
    let space = answer_slot _ _ _ c.set_where.result _ c.in_ok-space.was c.set_where.ensures.answer in
    let initial = answer_slot _ _ _ c.initial_states.result _ c.in_ok-initial.was c.initial_states.ensures.answer in
    holds_kept _ _ (kept_chain _ _ _ initial.kept c.goal_states.ensures.kept) c.in_ok-space.space _ (record { live = one_live _ _ _ _ space; holds = own_set _ _ _ _ [] [] space })

pub returns-in_err-actions-clause-full : goal.returns-in_err-actions-clause-full
returns-in_err-actions-clause-full c full w wide small =
    let p = err_from_is_err_and c.from_residual-in_err-actions.result c.from_residual-in_err-actions.ensures.1 in
    let space = answer_slot _ _ _ c.set_where.result _ c.in_ok-space.was c.set_where.ensures.answer in
    let initial = answer_slot _ _ _ c.initial_states.result _ c.in_ok-initial.was c.initial_states.ensures.answer in
    let one : live_count c.set_where.new.sets ≡ live_count c.args.sets.now + 1 = space.count in
    let two : live_count c.initial_states.new.sets ≡ live_count c.set_where.new.sets + 1 = initial.count in
    let among = Contains (kept_sets c.args.task.now) in
    let begun = kept_chain _ _ _ space.kept initial.kept in
    let first = adds_chain among _ _ _ initial.kept (adds_owned among _ _ c.in_ok-space.space.0 _ space (space_kept c.args.task.now)) (adds_owned among _ _ c.in_ok-initial.initial.0 _ initial (initial_kept c.args.task.now)) in
    let three = adds_chain among _ _ _ c.goal_states.ensures.kept first (adds_weaker (Contains (sets_of_goal c.args.task.now c.args.task.now.goal)) among _ _ (goal_kept_among c.args.task.now) c.in_ok-goal.ensures.adds) in
    let kept = kept_chain _ _ _ begun c.goal_states.ensures.kept in
    let vars : c.goal_states.new.sets.vars ≡ fluent_count c.args.task.now = kept.vars ∙ c.requires in
    let few = ap (list_all (has_outcomes_within (most_outcomes (system_of c.args.task.now)))) c.deref.ensures.value ∙ outcomes_few c.args.task.now in
    let most : ℕ = most_outcomes (system_of c.args.task.now) in
    let slots : length c.deref.result.now * (most * (c.goal_states.new.sets.vars + 1) + 1) ≡ action_slots c.args.task.now =
    (λ i. length (c.deref.ensures.value i) * (most * (vars i + 1) + 1)) in
    room_later among (Contains (flat_map (sets_of_action c.goal_states.new.sets.vars c.args.task.now.invariant) c.deref.result.now)) _ _ kept three (omega (arith, c.in_ok-goal.ensures.few))
    (λ set has. actions_kept c.args.task.now c.goal_states.new.sets.vars c.deref.result.now set vars c.deref.ensures.value has)
    (c.encode_actions.ensures.full (same_refusal_of c.encode_actions.result c.from_residual-in_err-actions.result _ c.in_err-actions.was p full) w (omega arith)
    (subst (λ v. Small v w (holds c.args.task.now.invariant)) (sym vars) (small _ (invariant _ (itself c.args.task.now.invariant))))
    (λ action has. action_at w _ _ c.args.task.now.invariant action vars (λ set made. small set (of_action action set (subst (λ l. Contains l action) c.deref.ensures.value has) made)))
    most few)

pub returns-in_err-shared-clause-full : goal.returns-in_err-shared-clause-full
returns-in_err-shared-clause-full c full w wide small =
    let p = err_from_is_err_and c.from_residual-in_err-shared.result c.from_residual-in_err-shared.ensures.1 in
    let space = answer_slot _ _ _ c.set_where.result _ c.in_ok-space.was c.set_where.ensures.answer in
    let initial = answer_slot _ _ _ c.initial_states.result _ c.in_ok-initial.was c.initial_states.ensures.answer in
    let one : live_count c.set_where.new.sets ≡ live_count c.args.sets.now + 1 = space.count in
    let two : live_count c.initial_states.new.sets ≡ live_count c.set_where.new.sets + 1 = initial.count in
    let among = Contains (kept_sets c.args.task.now) in
    let begun = kept_chain _ _ _ space.kept initial.kept in
    let first = adds_chain among _ _ _ initial.kept (adds_owned among _ _ c.in_ok-space.space.0 _ space (space_kept c.args.task.now)) (adds_owned among _ _ c.in_ok-initial.initial.0 _ initial (initial_kept c.args.task.now)) in
    let three = adds_chain among _ _ _ c.goal_states.ensures.kept first (adds_weaker (Contains (sets_of_goal c.args.task.now c.args.task.now.goal)) among _ _ (goal_kept_among c.args.task.now) c.in_ok-goal.ensures.adds) in
    let kept = kept_chain _ _ _ begun c.goal_states.ensures.kept in
    let vars : c.goal_states.new.sets.vars ≡ fluent_count c.args.task.now = kept.vars ∙ c.requires in
    let few = ap (list_all (has_outcomes_within (most_outcomes (system_of c.args.task.now)))) c.deref.ensures.value ∙ outcomes_few c.args.task.now in
    let most : ℕ = most_outcomes (system_of c.args.task.now) in
    let slots : length c.deref.result.now * (most * (c.goal_states.new.sets.vars + 1) + 1) ≡ action_slots c.args.task.now =
    (λ i. length (c.deref.ensures.value i) * (most * (vars i + 1) + 1)) in
    let left : left_in_actions c.encode_actions.new.sets.vars (map slots_of c.deref-2.result.now) ≡ left_in_actions c.goal_states.new.sets.vars (map slots_of c.in_ok-actions.actions.items) =
    (λ i. left_in_actions (c.encode_actions.ensures.kept.vars i) (map slots_of (c.deref-2.ensures.value i))) in
    let whole = kept_chain _ _ _ kept c.encode_actions.ensures.kept in
    let four = adds_chain among _ _ _ c.encode_actions.ensures.kept three
    (adds_weaker (Contains (flat_map (sets_of_action c.goal_states.new.sets.vars c.args.task.now.invariant) c.deref.result.now)) among _ _
    (λ set has. actions_kept c.args.task.now c.goal_states.new.sets.vars c.deref.result.now set vars c.deref.ensures.value has) c.in_ok-actions.ensures.adds) in
    let all_vars : c.encode_actions.new.sets.vars ≡ fluent_count c.args.task.now = c.encode_actions.ensures.kept.vars ∙ vars in
    room_later among (IsLeftAlone c.encode_actions.new.sets.vars (map slots_of c.deref-2.result.now)) _ _ whole four (omega (arith, c.in_ok-goal.ensures.few, c.in_ok-actions.ensures.few most few))
    (λ set alone. alone_kept c.args.task.now c.encode_actions.new.sets (map slots_of c.in_ok-actions.actions.items) c.encode_actions.new.sets.vars set all_vars
    (subst (λ (l : List GroundAction). AllPaired (ActionMade c.args.task.now.invariant c.encode_actions.new.sets) (map slots_of c.in_ok-actions.actions.items) l) c.deref.ensures.value c.in_ok-actions.ensures.made)
    (subst (λ (l : List ActionSets). IsLeftAlone c.encode_actions.new.sets.vars (map slots_of l) set) c.deref-2.ensures.value alone))
    (c.share.ensures.full (same_refusal_of c.share.result c.from_residual-in_err-shared.result _ c.in_err-shared.was p full) w (omega arith))

pub returns-clause-are_kept : goal.returns-clause-are_kept
returns-clause-are_kept c =
    let space = answer_slot _ _ _ c.set_where.result _ c.in_ok-space.was c.set_where.ensures.answer in
    let initial = answer_slot _ _ _ c.initial_states.result _ c.in_ok-initial.was c.initial_states.ensures.answer in
    let among = Contains (kept_sets c.args.task.now) in
    let begun = kept_chain _ _ _ space.kept initial.kept in
    let first = adds_chain among _ _ _ initial.kept (adds_owned among _ _ c.in_ok-space.space.0 _ space (space_kept c.args.task.now)) (adds_owned among _ _ c.in_ok-initial.initial.0 _ initial (initial_kept c.args.task.now)) in
    let three = adds_chain among _ _ _ c.goal_states.ensures.kept first (adds_weaker (Contains (sets_of_goal c.args.task.now c.args.task.now.goal)) among _ _ (goal_kept_among c.args.task.now) c.in_ok-goal.ensures.adds) in
    let vars : c.goal_states.new.sets.vars ≡ fluent_count c.args.task.now = c.goal_states.ensures.kept.vars ∙ begun.vars ∙ c.requires in
    let all_vars : c.encode_actions.new.sets.vars ≡ fluent_count c.args.task.now = c.encode_actions.ensures.kept.vars ∙ vars in
    let four = adds_chain among _ _ _ c.encode_actions.ensures.kept three
    (adds_weaker (Contains (flat_map (sets_of_action c.goal_states.new.sets.vars c.args.task.now.invariant) c.deref.result.now)) among _ _
    (λ set has. actions_kept c.args.task.now c.goal_states.new.sets.vars c.deref.result.now set vars c.deref.ensures.value has) c.in_ok-actions.ensures.adds) in
    adds_chain among _ _ _ c.share.ensures.kept four
    (adds_weaker (IsLeftAlone c.encode_actions.new.sets.vars (map slots_of c.deref-2.result.now)) among _ _
    (λ set alone. alone_kept c.args.task.now c.encode_actions.new.sets (map slots_of c.in_ok-actions.actions.items) c.encode_actions.new.sets.vars set all_vars
    (subst (λ (l : List GroundAction). AllPaired (ActionMade c.args.task.now.invariant c.encode_actions.new.sets) (map slots_of c.in_ok-actions.actions.items) l) c.deref.ensures.value c.in_ok-actions.ensures.made)
    (subst (λ (l : List ActionSets). IsLeftAlone c.encode_actions.new.sets.vars (map slots_of l) set) c.deref-2.ensures.value alone))
    c.in_ok-shared.ensures.adds)

pub returns-clause-made : goal.returns-clause-made
returns-clause-made c =
    let space = answer_slot _ _ _ c.set_where.result _ c.in_ok-space.was c.set_where.ensures.answer in
    let initial = answer_slot _ _ _ c.initial_states.result _ c.in_ok-initial.was c.initial_states.ensures.answer in
    let begun = kept_chain _ _ _ space.kept initial.kept in
    let kept = kept_chain _ _ _ begun c.goal_states.ensures.kept in
    let vars : c.encode_actions.new.sets.vars ≡ fluent_count c.args.task.now = c.encode_actions.ensures.kept.vars ∙ kept.vars ∙ c.requires in
    let later = kept_chain _ _ _ c.encode_actions.ensures.kept c.share.ensures.kept in
    let last = kept_chain _ _ _ c.goal_states.ensures.kept later in
    let actions : AllPaired (ActionMade c.args.task.now.invariant c.encode_actions.new.sets) (map slots_of c.in_ok-actions.actions.items) c.args.task.now.actions.items =
    subst (λ (l : List GroundAction). AllPaired (ActionMade c.args.task.now.invariant c.encode_actions.new.sets) (map slots_of c.in_ok-actions.actions.items) l) c.deref.ensures.value c.in_ok-actions.ensures.made in
    let all : SharesLeft (fluent_count c.args.task.now) (map slots_of c.in_ok-actions.actions.items) c.in_ok-shared.shared.items =
    subst (λ n. SharesLeft n (map slots_of c.in_ok-actions.actions.items) c.in_ok-shared.shared.items) vars
    (subst (λ (l : List ActionSets). SharesLeft c.encode_actions.new.sets.vars (map slots_of l) c.in_ok-shared.shared.items) c.deref-2.ensures.value c.in_ok-shared.ensures.all) in
    made_of_pieces c.args.task.now _ refl (c.share.ensures.kept.vars ∙ vars)
    (paired_weaker (ActionMade c.args.task.now.invariant c.encode_actions.new.sets) (ActionMade c.args.task.now.invariant c.share.new.sets) (action_stays c.args.task.now.invariant _ _ c.share.ensures.kept) _ _ actions)
    c.in_ok-shared.ensures.holds all
    (holds_kept _ _ (kept_chain _ _ _ initial.kept last) c.in_ok-space.space _ (record { live = one_live _ _ _ _ space; holds = own_set _ _ _ _ [] [] space }))
    (holds_kept _ _ last c.in_ok-initial.initial _ (record { live = one_live _ _ _ _ initial; holds = own_set _ _ _ _ [] [] initial }))
    (goal_kept c.args.task.now _ _ later c.in_ok-goal.goal c.args.task.now.goal c.in_ok-goal.ensures.made)

pub returns-clause-only : goal.returns-clause-only
returns-clause-only c =
    let space = answer_slot _ _ _ c.set_where.result _ c.in_ok-space.was c.set_where.ensures.answer in
    let initial = answer_slot _ _ _ c.initial_states.result _ c.in_ok-initial.was c.initial_states.ensures.answer in
    only_whole _ _ _ _ _ _ c.in_ok-space.space c.in_ok-initial.initial c.in_ok-goal.goal c.in_ok-shared.shared.items (map slots_of c.in_ok-actions.actions.items)
    (only_owned _ _ c.in_ok-space.space.0 _ space) (only_owned _ _ c.in_ok-initial.initial.0 _ initial) c.in_ok-goal.ensures.only c.in_ok-actions.ensures.only c.in_ok-shared.ensures.only

pub returns-clause-few : goal.returns-clause-few
returns-clause-few c =
    let space = answer_slot _ _ _ c.set_where.result _ c.in_ok-space.was c.set_where.ensures.answer in
    let initial = answer_slot _ _ _ c.initial_states.result _ c.in_ok-initial.was c.initial_states.ensures.answer in
    let one : live_count c.set_where.new.sets ≡ live_count c.args.sets.now + 1 = space.count in
    let two : live_count c.initial_states.new.sets ≡ live_count c.set_where.new.sets + 1 = initial.count in
    let begun = kept_chain _ _ _ space.kept initial.kept in
    let kept = kept_chain _ _ _ begun c.goal_states.ensures.kept in
    let vars : c.goal_states.new.sets.vars ≡ fluent_count c.args.task.now = kept.vars ∙ c.requires in
    let few = ap (list_all (has_outcomes_within (most_outcomes (system_of c.args.task.now)))) c.deref.ensures.value ∙ outcomes_few c.args.task.now in
    let most : ℕ = most_outcomes (system_of c.args.task.now) in
    let slots : length c.deref.result.now * (most * (c.goal_states.new.sets.vars + 1) + 1) ≡ action_slots c.args.task.now =
    (λ i. length (c.deref.ensures.value i) * (most * (vars i + 1) + 1)) in
    let left : left_in_actions c.encode_actions.new.sets.vars (map slots_of c.deref-2.result.now) ≡ left_in_actions c.goal_states.new.sets.vars (map slots_of c.in_ok-actions.actions.items) =
    (λ i. left_in_actions (c.encode_actions.ensures.kept.vars i) (map slots_of (c.deref-2.ensures.value i))) in
    omega (arith, c.in_ok-goal.ensures.few, c.in_ok-actions.ensures.few most few, c.in_ok-shared.ensures.few)
