use Rattle.short_conditions.proofs.SimpleLemmas.{adds_alike, adds_made, adds_settled, made_parts, same_kind}
use Rattle.short_conditions.proofs.drafts.Draft.add_draft.Goals as goal

pub returns-then-inner : goal.returns-then-inner
returns-then-inner c means below deepest d =
    adds_settled c.args.inner.is_conjunction means below deepest c.args.inner d c.args.self.now c.add_constant.new.self c.if-inner.true c.add_constant.ensures

pub returns-then-inner-self : goal.returns-then-inner-self
returns-then-inner-self c means below deepest d =
    adds_alike c.args.inner.is_conjunction means below deepest c.args.inner d c.args.self.now c.add_all.new.self c.if-inner.false
    (same_kind c.args.inner.is_conjunction c.args.self.now.is_conjunction c.if-inner-self.true) c.in_ok-add_all.ensures

pub returns : goal.returns
returns c means below deepest d =
    let e = c.combined.ensures in
    adds_made means below _ c.combined.result c.args.self.now c.add.new.self
    (made_parts c.args.inner.is_conjunction means below deepest c.args.inner d c.combined.result c.if-inner.false e.holds e.below e.depth) c.in_ok-add.ensures
