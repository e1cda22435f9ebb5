-- The goal names fluents of the task, and is shallow.
use Rattle.std.proofs.Common.{Contains, zero, refl, arith, ap, sym, subst, ◌∙◌}
use Rattle.task_core.specs.Actions.{goal_is_shallow, goal_within}
use Rattle.task_core.specs.Conditions.{ids_below}
use Rattle.task_core.specs.Tasks.{fluent_count}
use Rattle.encode_task.proofs.PartLemmas.{answer_slot, same_refusal_of, small_at}
use Rattle.std.proofs.lemmas.Result.{err_from_is_err_and}
use Rattle.dd_sets.specs.Rooms.{Rough}
use Rattle.dd_sets.proofs.SizeLemmas.{small_rough}
use Rattle.encode_task.specs.KeptSets.{sets_of_goal}
use Rattle.encode_task.specs.TaskSets.{goal_set}
use Rattle.encode_task.specs.WorkingSets.IsMadeByEncode.{goal as of_goal, goal_states as states_of_goal}
use Rattle.encode_task.proofs.KeptLemmas.{adds_owned}
use Rattle.encode_task.proofs.enc.goal_states.Goals as goal

pub states_where-requires-clause-within : goal.states_where-requires-clause-within
states_where-requires-clause-within c =
    ap (λ n. ids_below n c.in-Some.goal) c.requires.vars ∙ ap (goal_within (fluent_count c.args.task.now)) (sym c.in-Some.is) ∙ c.args.task.now.goal_within

pub states_where-requires-clause-shallow : goal.states_where-requires-clause-shallow
states_where-requires-clause-shallow c = ap goal_is_shallow (sym c.in-Some.is) ∙ c.args.task.now.shallow_goal

pub returns-in_err-slot-in-Some-clause-full : goal.returns-in_err-slot-in-Some-clause-full
returns-in_err-slot-in-Some-clause-full c full w small =
    let p = err_from_is_err_and c.from_residual.result c.from_residual.ensures.1 in
    c.states_where.ensures.full (same_refusal_of c.states_where.result c.from_residual.result _ c.in_err-slot-in-Some.was p full) w (small_at w _ _ c.requires.vars (λ set of_part. small set (of_goal c.in-Some.goal set c.in-Some.is of_part)))
    (subst (λ v. Rough v w (goal_set c.args.task.now c.in-Some.goal)) (sym c.requires.vars) (small_rough _ w _ (small _ (states_of_goal c.in-Some.goal c.in-Some.is))))

pub returns-in_ok-slot-in-Some-clause-adds : goal.returns-in_ok-slot-in-Some-clause-adds
returns-in_ok-slot-in-Some-clause-adds c =
    let owns = answer_slot _ _ _ c.states_where.result _ c.in_ok-slot-in-Some.was c.states_where.ensures.answer in
    adds_owned (Contains (sets_of_goal c.args.task.now c.args.task.now.goal)) _ _ c.in_ok-slot-in-Some.slot.0 _ owns
    (subst (λ g. Contains (sets_of_goal c.args.task.now g) (goal_set c.args.task.now c.in-Some.goal)) (sym c.in-Some.is) (zero, omega arith, refl))
