use Rattle.std.proofs.Common.{refl}
use Rattle.short_conditions.proofs.DraftLemmas.{adds_like, adds_pushed}
use Rattle.short_conditions.proofs.drafts.Draft.add_new.Goals as goal

pub returns-then-has_same : goal.returns-then-has_same
returns-then-has_same c = adds_like c.args.cond c.args.self.now (c.if-has_same.ensures refl)

pub returns : goal.returns
returns c =
    let put = c.in_ok-push.ensures in
    adds_pushed c.args.cond c.args.self.now c.push.new.self (record { parts = put.parts; kind = put.kind; settled = put.settled; plain = put.plain; negated = put.negated })
