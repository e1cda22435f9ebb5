use Rattle.std.proofs.Common.{refl}
use Rattle.short_conditions.proofs.DraftLemmas.{adds_literal, adds_noted, adds_opposite}
use Rattle.short_conditions.proofs.drafts.Draft.add_literal.Goals as goal

pub returns-then-has : goal.returns-then-has
returns-then-has c = adds_noted c.args.fluent.0 c.args.positive c.args.self.now (c.if-has.ensures refl)

pub returns-then-has-2 : goal.returns-then-has-2
returns-then-has-2 c = adds_opposite c.args.fluent.0 c.args.positive c.args.self.now _ (c.if-has-2.ensures refl) refl refl refl refl refl

pub returns : goal.returns
returns c =
    adds_literal c.args.fluent.0 c.args.positive c.in_ok-part.part c.args.self.now c.push.new.self c.note.new.self c.in_ok-part.ensures c.in_ok-push.ensures c.note.ensures
