use Rattle.std.proofs.Common.{true, sym, ap, ◌∙◌}
use Rattle.short_conditions.specs.Joining.{joined, truths}
use Rattle.short_conditions.proofs.JoinLemmas.{combined_All, combined_Any}
use Rattle.short_conditions.proofs.SimpleLemmas.{below_All, below_Any}
use Rattle.short_conditions.proofs.drafts.combined.Goals as goal

pub returns-then-is_empty-clause-below : goal.returns-then-is_empty-clause-below
returns-then-is_empty-clause-below c n h = c.constant.ensures.below n

pub returns-then-all-clause-holds : goal.returns-then-all-clause-holds
returns-then-all-clause-holds c value =
    combined_All c.args.parts value ∙ ap (λ b. joined b (truths true c.args.parts.items value)) (sym c.if-all.true)

pub returns-then-all-clause-below : goal.returns-then-all-clause-below
returns-then-all-clause-below c n h = below_All n c.args.parts h

pub returns-else-all-clause-holds : goal.returns-else-all-clause-holds
returns-else-all-clause-holds c value =
    combined_Any c.args.parts value ∙ ap (λ b. joined b (truths true c.args.parts.items value)) (sym c.if-all.false)

pub returns-else-all-clause-below : goal.returns-else-all-clause-below
returns-else-all-clause-below c n h = below_Any n c.args.parts h
