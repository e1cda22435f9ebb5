-- Of the vectors after all entries the states.
use Rattle.std.proofs.lemmas.Result.{err_from_is_err_and}
use Rattle.std.proofs.Common.{inl, arith, sym, subst}
use Rattle.dd_nodes.specs.Subfunctions.{Function}
use Rattle.dd_sets.specs.Frames.{OwnsAnswer}
use Rattle.dd_sets.proofs.RoomSteps.{room_owned}
use Rattle.encode_task.proofs.MadeLemmas.{holds_kept}
use Rattle.encode_task.proofs.PartLemmas.{answer_slot, rough_own, same_refusal}
use Rattle.dd_ops.specs.Operations.{and_of}
use Rattle.dd_sets.specs.Rooms.{Rough, Small}
use Rattle.dd_sets.proofs.SizeLemmas.{small_rough}
use Rattle.task_core.specs.Tasks.{fluent_count, initial_vectors}
use Rattle.encode_task.specs.TaskSets.{set_of_states, space_set}
use Rattle.encode_task.specs.WorkingSets.IsMadeByEncode.{initial_states}
use Rattle.encode_task.proofs.EntrySizes.{all_entries_small}
use Rattle.encode_task.proofs.SpaceLemmas.{initial_is}
use Rattle.encode_task.proofs.initial.initial_states.Goals as goal

pub states_of-requires-clause-space : goal.states_of-requires-clause-space
states_of-requires-clause-space c =
    let vectors = answer_slot _ _ _ c.initial_vectors.result _ c.in_ok-vectors.was c.initial_vectors.ensures.answer in
    holds_kept _ _ vectors.kept _ _ c.requires.space

pub returns-clause-answer : goal.returns-clause-answer
returns-clause-answer c =
    subst (λ (f : Function). OwnsAnswer c.args.sets.now c.states_of.new.sets f c.states_of.result) (initial_is c.args.task.now)
    (c.states_of.ensures.answer _ _ (answer_slot _ _ _ c.initial_vectors.result _ c.in_ok-vectors.was c.initial_vectors.ensures.answer))

pub returns-clause-full : goal.returns-clause-full
returns-clause-full c full w wide small =
    let owns = answer_slot _ _ _ c.initial_vectors.result _ c.in_ok-vectors.was c.initial_vectors.ensures.answer in
    room_owned _ _ _ owns 0 8 0 0 1 (inl (subst (λ v. Small v w (set_of_states (fluent_count c.args.task.now) (initial_vectors c.args.task.now))) (sym c.requires.vars) (all_entries_small w c.args.task.now small), tt)) (omega arith) (omega arith)
    (c.states_of.ensures.full full w (rough_own w (and_of (space_set c.args.task.now)) _ _ c.in_ok-vectors.vectors _ owns
    (subst (λ v. Rough v w (and_of (space_set c.args.task.now) (set_of_states (fluent_count c.args.task.now) (initial_vectors c.args.task.now)))) (sym c.requires.vars)
    (small_rough _ w _ (subst (λ (f : Function). Small (fluent_count c.args.task.now) w f) (sym (initial_is c.args.task.now)) (small _ initial_states))))))

pub returns-in_err-vectors-clause-full : goal.returns-in_err-vectors-clause-full
returns-in_err-vectors-clause-full c full w wide small =
    let p = err_from_is_err_and c.from_residual.result c.from_residual.ensures.1 in
    c.initial_vectors.ensures.full (same_refusal c.initial_vectors.result c.from_residual.result _ c.in_err-vectors.was p full) w wide small
