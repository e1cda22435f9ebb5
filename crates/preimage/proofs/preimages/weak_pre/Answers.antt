-- With one outcome, some outcome is every outcome.
use Rattle.std.proofs.Common.{◌≡◌, ◌∙◌, length, subst, sym}
use Rattle.std.proofs.lemmas.Bool.{eqb-true}
use Rattle.dd_nodes.specs.Subfunctions.{Function}
use Rattle.dd_sets.specs.Frames.{OwnsAnswer}
use Rattle.dd_sets.specs.LiveSets.{set_of}
use Rattle.task_core.specs.Tasks.{outcomes_at}
use Rattle.preimage.proofs.OutcomeLemmas.{strong_is_weak}
use Rattle.preimage.proofs.SizeLemmas.{one_fits}
use Rattle.preimage.proofs.preimages.weak_pre.Goals as goal

pub returns-then-has_one_outcome-clause-answer : goal.returns-then-has_one_outcome-clause-answer
returns-then-has_one_outcome-clause-answer c task made =
    let one : length (outcomes_at task c.args.a.0) ≡ 1 = sym (made.outcomes c.args.a.0) ∙ eqb-true _ _ (sym c.has_one_outcome.ensures ∙ c.if-has_one_outcome.true) in
    subst (λ (f : Function). OwnsAnswer c.args.enc.now.sets c.all_on_side.new.enc.sets f c.all_on_side.result) (strong_is_weak task c.args.a.0 (set_of c.args.enc.now.sets c.args.x.0) one) (c.all_on_side.ensures.answer task made)

pub returns-then-has_one_outcome-clause-full : goal.returns-then-has_one_outcome-clause-full
returns-then-has_one_outcome-clause-full c full task made width fits =
    let one : length (outcomes_at task c.args.a.0) ≡ 1 = sym (made.outcomes c.args.a.0) ∙ eqb-true _ _ (sym c.has_one_outcome.ensures ∙ c.if-has_one_outcome.true) in
    c.all_on_side.ensures.full full task made width (one_fits width task c.args.a.0 (set_of c.args.enc.now.sets c.args.x.0) one fits)
