-- A literal is its fluent, or what the fluent is taken from.
use Rattle.std.proofs.Common.{subst}
use Rattle.dd_nodes.specs.Subfunctions.{Function}
use Rattle.dd_ops.specs.Operations.{variable}
use Rattle.dd_sets.specs.Frames.{OwnsAnswer}
use Rattle.dd_sets.proofs.OwnedLemmas.{answered, both}
use Rattle.cert_check.proofs.HalfLemmas.{negative_literal, positive_literal}
use Rattle.cert_check.proofs.halves.with_literal.Goals as goal

pub returns-then-lit : goal.returns-then-lit
returns-then-lit c before f owns =
    subst (λ (s : Function). OwnsAnswer before c.in_both.new.self s c.in_both.result) (positive_literal c.args.lit f c.if-lit.true)
    (c.in_both.ensures.answer before f (variable c.args.lit.fluent.0) (both _ _ _ c.args.a _ _ c.of_fluent-fluent.result owns
    (answered _ _ _ c.of_fluent-fluent.result c.of_fluent-fluent.ensures.added c.of_fluent-fluent.ensures.kept c.of_fluent-fluent.ensures.refused)))

pub returns-else-lit : goal.returns-else-lit
returns-else-lit c before f owns =
    subst (λ (s : Function). OwnsAnswer before c.without.new.self s c.without.result) (negative_literal c.args.lit f c.if-lit.false)
    (c.without.ensures.answer before f (variable c.args.lit.fluent.0) (both _ _ _ c.args.a _ _ c.of_fluent-fluent.result owns
    (answered _ _ _ c.of_fluent-fluent.result c.of_fluent-fluent.ensures.added c.of_fluent-fluent.ensures.kept c.of_fluent-fluent.ensures.refused)))
