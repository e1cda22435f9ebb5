-- One entry more.
use Rattle.std.proofs.Common.{◌≡◌, inl, [], ◌∷◌, ◌∙◌, arith, sym, subst}
use Rattle.std.proofs.lemmas.Result.{err_from_is_err_and}
use Rattle.dd_nodes.specs.Subfunctions.{Function}
use Rattle.dd_sets.specs.Frames.{Owns}
use Rattle.task_core.specs.Tasks.{fluent_count}
use Rattle.dd_sets.proofs.RoomSteps.{room_owned, room_wider, room_released}
use Rattle.encode_task.proofs.InitialLemmas.{entry_fluents, initial_more}
use Rattle.dd_sets.proofs.OwnedLemmas.{handed, own_set}
use Rattle.encode_task.proofs.PartLemmas.{answer_slot, same_refusal}
use Rattle.dd_sets.specs.Rooms.{Small}
use Rattle.task_core.specs.States.{vector}
use Rattle.encode_task.specs.TaskSets.{set_of_states}
use Rattle.encode_task.specs.WorkingSets.{vectors_after}
use Rattle.encode_task.specs.WorkingSets.IsMadeByEncode.{first_entries}
use Rattle.encode_task.proofs.EntrySizes.{entry_small}
use Rattle.encode_task.proofs.initial.initial_vectors.Goals as goal

pub returns-in_err-states-clause-full : goal.returns-in_err-states-clause-full
returns-in_err-states-clause-full c full w wide small =
    let p = err_from_is_err_and c.from_residual.result c.from_residual.ensures.1 in
    let long : c.len.result ≡ fluent_count c.args.task.now = omega (arith, c.args.task.now.fluents.ok.0) in
    room_wider _ 4 8 0 1 (omega arith) (omega arith) (c.one_state.ensures.full (same_refusal c.one_state.result c.from_residual.result _ c.in_err-states.was p full) w (omega (arith, c.requires))
    (subst (λ v. Small v w (set_of_states c.len.result (vector c.len.result c.args.task.now.init.facts ∷ []))) (sym c.requires)
    (subst (λ k. Small (fluent_count c.args.task.now) w (set_of_states k (vector k c.args.task.now.init.facts ∷ []))) (sym long) (small _ (first_entries 0)))))

pub after_entry-next-requires-clause-fluents : goal.after_entry-next-requires-clause-fluents
after_entry-next-requires-clause-fluents c =
    entry_fluents c.args.task.now.init c.deref-entry-items.result.now c.loop-entry.entry-index c.entry-item.result c.deref.result.now (fluent_count c.args.task.now) c.loop-entry.sets.vars
    c.args.task.now.entries_within c.deref-entry-items.ensures.value c.loop-entry-test.true c.entry-item.is c.deref.ensures.value (c.loop-entry.invariant.kept.vars ∙ c.requires)

pub returns-in_err-states-2-clause-full : goal.returns-in_err-states-2-clause-full
returns-in_err-states-2-clause-full c full w wide small =
    let p = err_from_is_err_and c.from_residual-in_err-states-2.result c.from_residual-in_err-states-2.ensures.1 in
    let owns = c.loop-entry.invariant in
    let vars : c.loop-entry.sets.vars ≡ fluent_count c.args.task.now = owns.kept.vars ∙ c.requires in
    room_owned _ _ _ owns 6 8 1 0 1 (inl (subst (λ v. Small v w (vectors_after c.args.task.now c.loop-entry.entry-index)) (sym c.requires) (small _ (first_entries c.loop-entry.entry-index)), tt)) (omega arith) (omega arith)
    (room_released _ (c.after_entry-next.ensures.full (same_refusal c.after_entry-next.result c.from_residual-in_err-states-2.result _ c.in_err-states-2.was p full) w (omega arith)
    (entry_small w _ c.args.task.now c.deref-entry-items.result.now c.loop-entry.entry-index c.entry-item.result c.deref.result.now _ vars c.deref-entry-items.ensures.value c.loop-entry-test.true c.entry-item.is c.deref.ensures.value
    (own_set _ _ _ _ [] [] owns) small)) c.release.ensures.released)

pub loop-entry-preserved : goal.loop-entry-preserved
loop-entry-preserved c =
    subst (λ (f : Function). Owns c.args.sets.now c.release.new.self ((c.in_ok-states-2.states.0, f) ∷ []))
    (initial_more (fluent_count c.args.task.now) c.args.task.now.init c.deref-entry-items.result.now c.loop-entry.entry-index c.entry-item.result c.deref.result.now _ c.args.task.now.entries_within
    c.deref-entry-items.ensures.value c.loop-entry-test.true c.entry-item.is c.deref.ensures.value (own_set _ _ _ _ [] [] c.loop-entry.invariant))
    (answer_slot _ _ _ c.after_entry-next.result _ c.in_ok-states-2.was (handed _ _ _ _ _ _ _ c.after_entry-next.result c.loop-entry.invariant c.after_entry-next.ensures.answer c.release.ensures.released))
