-- What a change adds to the set.
use Rattle.std.proofs.Common.{[], ◌∷◌, ◌==◌, ◌&&◌, ◌+◌, ◌∙◌, ⊎_elim, inl, arith, subst, sym}
use Rattle.std.specs.List.{list_all}
use Rattle.std.proofs.lemmas.Bool.{and_parts, leb-true}
use Rattle.dd_nodes.specs.Subfunctions.{Function}
use Rattle.dd_ops.specs.Operations.{or_of}
use Rattle.dd_sets.specs.Frames.{Owns, OwnsAnswer}
use Rattle.dd_sets.specs.LiveSets.{set_of}
use Rattle.dd_sets.specs.Rooms.{Rough}
use Rattle.encode_task.specs.WorkingSets.IsPartOf.{itself}
use Rattle.encode_task.proofs.PartLemmas.{piece_beside}
use Rattle.task_core.specs.Conditions.{depth, ids_below}
use Rattle.task_core.specs.Initial.{lit_within}
use Rattle.task_core.specs.Vectors.{same_value}
use Rattle.task_core.specs.declared.literals.Lit.{Lit}
use Rattle.dd_sets.proofs.RoomSteps.{room_answer, room_wider, room_released}
use Rattle.encode_task.proofs.ChangeLemmas.{about, some_literal, not_about}
use Rattle.dd_sets.proofs.OwnedLemmas.{both}
use Rattle.encode_task.proofs.outcomes.with_change.Goals as goal

pub set_where-answer-requires : goal.set_where-answer-requires
set_where-answer-requires c =
    (and_parts (ids_below c.args.sets.now.vars c.args.change.now.cond) (list_all (lit_within c.args.sets.now.vars) c.args.change.now.lits.items) c.requires.fluents).0

pub returns-then-is_about-clause-answer : goal.returns-then-is_about-clause-answer
returns-then-is_about-clause-answer c before set owns =
    subst (λ (f : Function). OwnsAnswer before c.in_some.new.self f c.in_some.result) (about c.args.change.now c.args.f.0 c.args.positive set (sym c.is_about.ensures ∙ c.if-is_about.true))
    (c.in_some.ensures.answer before set _ (both _ _ _ c.args.some _ _ c.set_where-answer.result owns c.set_where-answer.ensures.answer))

pub returns-then-is_about-clause-full : goal.returns-then-is_about-clause-full
returns-then-is_about-clause-full c full w small rough =
    let about_it = sym c.is_about.ensures ∙ c.if-is_about.true in
    let found = some_literal (λ (lit : Lit). lit.fluent.0 == c.args.f.0 && same_value lit.positive c.args.positive) c.args.change.now.lits.items about_it in
    let parts = small found.0 found.1 in
    ⊎_elim
    (λ refused. room_wider _ (depth c.args.change.now.cond + 4) 205 0 0
    (omega (
      arith,
      leb-true (depth c.args.change.now.cond) 200 c.requires.shallow,
    )) (omega arith) (room_released _ (c.set_where-answer.ensures.full refused.0 w parts) refused.1))
    (λ tight. room_answer _ _ _ c.set_where-answer.result 0 205 0 0 0 c.set_where-answer.ensures.answer (inl (parts _ (itself c.args.change.now.cond), tt)) (omega arith) (omega arith) tight)
    (c.in_some.ensures.full full w (piece_beside w or_of _ _ c.args.some _ c.set_where-answer.result c.requires.live c.set_where-answer.ensures.answer
    (subst (λ (f : Function). Rough c.args.sets.now.vars w f) (sym (about c.args.change.now c.args.f.0 c.args.positive (set_of c.args.sets.now c.args.some.0) about_it)) rough)))

pub returns-else-is_about-clause-answer : goal.returns-else-is_about-clause-answer
returns-else-is_about-clause-answer c before set owns =
    subst (λ (f : Function). Owns before c.args.sets.now ((c.args.some.0, f) ∷ [])) (not_about c.args.change.now c.args.f.0 c.args.positive set (sym c.is_about.ensures ∙ c.if-is_about.false)) owns
