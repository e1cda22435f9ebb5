use Rattle.short_conditions.proofs.SimpleLemmas.{made_constant, made_parts}
use Rattle.short_conditions.proofs.drafts.Draft.into_condition.Goals as goal

pub returns-then-self : goal.returns-then-self
returns-then-self c means below deepest d =
    made_constant c.args.self.is_conjunction means below deepest c.args.self d c.constant.result c.if-self.true c.constant.ensures

pub returns-else-self : goal.returns-else-self
returns-else-self c means below deepest d =
    let e = c.combined.ensures in
    made_parts c.args.self.is_conjunction means below deepest c.args.self d c.combined.result c.if-self.false e.holds e.below e.depth
