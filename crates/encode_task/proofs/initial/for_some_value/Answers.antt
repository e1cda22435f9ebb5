-- The two halves, joined.
use Rattle.std.proofs.Common.{inl, arith, sym, subst, true, false}
use Rattle.std.proofs.lemmas.Result.{err_from_is_err_and}
use Rattle.dd_nodes.specs.Subfunctions.{Function}
use Rattle.dd_ops.specs.Operations.{cofactor_of, or_of}
use Rattle.dd_sets.specs.Rooms.{Rough}
use Rattle.dd_sets.proofs.OperationSizes.{cofactor_small, join_rough}
use Rattle.dd_sets.proofs.SizeLemmas.{small_rough}
use Rattle.dd_sets.specs.Frames.{OwnsAnswer}
use Rattle.dd_sets.specs.LiveSets.{set_of}
use Rattle.dd_sets.proofs.RoomSteps.{room_for, room_join}
use Rattle.dd_sets.proofs.OwnedLemmas.{answered, both}
use Rattle.encode_task.proofs.PartLemmas.{call_slot, same_refusal}
use Rattle.encode_task.proofs.initial.for_some_value.Goals as goal

pub returns-in_err-low-clause-full : goal.returns-in_err-low-clause-full
returns-in_err-low-clause-full c full w small =
    let p = err_from_is_err_and c.from_residual.result c.from_residual.ensures.1 in
    room_for _ _ _ (c.cofactor.ensures.full (same_refusal c.cofactor.result c.from_residual.result _ c.in_err-low.was p full)) c.cofactor.ensures.kept.vars c.cofactor.ensures.kept.limit 2 0
    (small_rough _ w _ (cofactor_small _ w _ c.args.f.0 false c.requires.fluent small))

pub returns-clause-answer : goal.returns-clause-answer
returns-clause-answer c =
    let low = call_slot _ _ _ c.cofactor.result _ c.in_ok-low.was c.cofactor.ensures.added c.cofactor.ensures.kept c.cofactor.ensures.refused in
    let high : OwnsAnswer c.cofactor.new.self c.cofactor-high.new.self (cofactor_of (set_of c.args.sets.now c.args.a.0) c.args.f.0 true) c.cofactor-high.result =
    subst (λ (set : Function). OwnsAnswer c.cofactor.new.self c.cofactor-high.new.self (cofactor_of set c.args.f.0 true) c.cofactor-high.result) (c.cofactor.ensures.kept.sets c.args.a.0 c.requires.live)
    (answered _ _ _ c.cofactor-high.result c.cofactor-high.ensures.added c.cofactor-high.ensures.kept c.cofactor-high.ensures.refused) in
    c.in_some.ensures.answer _ _ _ (both _ _ _ c.in_ok-low.low _ _ c.cofactor-high.result low high)

pub returns-clause-full : goal.returns-clause-full
returns-clause-full c full w small =
    let low = call_slot _ _ _ c.cofactor.result _ c.in_ok-low.was c.cofactor.ensures.added c.cofactor.ensures.kept c.cofactor.ensures.refused in
    let high : OwnsAnswer c.cofactor.new.self c.cofactor-high.new.self (cofactor_of (set_of c.args.sets.now c.args.a.0) c.args.f.0 true) c.cofactor-high.result =
    subst (λ (set : Function). OwnsAnswer c.cofactor.new.self c.cofactor-high.new.self (cofactor_of set c.args.f.0 true) c.cofactor-high.result) (c.cofactor.ensures.kept.sets c.args.a.0 c.requires.live)
    (answered _ _ _ c.cofactor-high.result c.cofactor-high.ensures.added c.cofactor-high.ensures.kept c.cofactor-high.ensures.refused) in
    let low_small = cofactor_small c.args.sets.now.vars w (set_of c.args.sets.now c.args.a.0) c.args.f.0 false c.requires.fluent small in
    let high_small = cofactor_small c.args.sets.now.vars w (set_of c.args.sets.now c.args.a.0) c.args.f.0 true c.requires.fluent small in
    room_join or_of _ _ _ c.in_ok-low.low _ _ c.cofactor-high.result 0 2 0 0 0 0 low high
    (λ refused. room_for _ _ _ (c.cofactor-high.ensures.full refused) c.cofactor-high.ensures.kept.vars c.cofactor-high.ensures.kept.limit 0 0
    (subst (λ v. Rough v w (cofactor_of (set_of c.cofactor.new.self c.args.a.0) c.args.f.0 true)) (sym c.cofactor.ensures.kept.vars)
    (subst (λ (set : Function). Rough c.args.sets.now.vars w (cofactor_of set c.args.f.0 true)) (sym (c.cofactor.ensures.kept.sets c.args.a.0 c.requires.live)) (small_rough _ w _ high_small))))
    (inl (low_small, tt)) (inl (high_small, inl (low_small, tt))) (join_rough _ w _ _ low_small high_small)
    (omega arith) (omega arith) (omega arith) (omega arith) (c.in_some.ensures.full full w)
