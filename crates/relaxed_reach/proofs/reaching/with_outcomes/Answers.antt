use Rattle.std.proofs.Common.{◌∙◌, ◌||◌, ap, refl}
use Rattle.std.specs.List.{list_any}
use Rattle.relaxed_reach.specs.Literals.{has}
use Rattle.relaxed_reach.specs.Relaxed.{change_gives, outcome_gives}
use Rattle.relaxed_reach.proofs.Lacks.{all_looked_at, one_more}
use Rattle.relaxed_reach.proofs.reaching.with_outcomes.Goals as goal

pub loop-outcome-preserved : goal.loop-outcome-preserved
loop-outcome-preserved c = λ f value.
    let p = outcome_gives (has c.args.known.now) f value in
    one_more p c.args.outcomes.now c.loop-outcome.outcome-index c.outcome-item.result c.outcome-item.result (has c.args.literals.now f value) (has c.loop-outcome.more f value) (has c.with_changes-more.result f value)
    c.loop-outcome-test.true (ap p c.outcome-item.is) (c.loop-outcome.invariant f value) (c.with_changes-more.ensures f value ∙ ap (λ xs. list_any (change_gives (has c.args.known.now) f value) xs || has c.loop-outcome.more f value) c.deref.ensures.value)

pub returns : goal.returns
returns c = λ f value.
    all_looked_at (outcome_gives (has c.args.known.now) f value) c.args.outcomes.now c.args.outcomes.now c.loop-outcome.outcome-index (has c.args.literals.now f value) (has c.loop-outcome.more f value)
    c.loop-outcome-test.false refl (c.loop-outcome.invariant f value)
