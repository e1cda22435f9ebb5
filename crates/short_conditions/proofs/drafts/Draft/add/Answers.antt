use Rattle.short_conditions.proofs.SimpleLemmas.{adds_constant, adds_simple}
use Rattle.short_conditions.proofs.drafts.Draft.add.Goals as goal

pub returns-in-Some : goal.returns-in-Some
returns-in-Some c = adds_constant c.in-Some.holds c.args.cond c.args.self.now _ c.in-Some.ensures c.add_constant.ensures

pub returns-in-Some-literal_of : goal.returns-in-Some-literal_of
returns-in-Some-literal_of c =
    let lit = c.in-Some-literal_of.lit in
    adds_simple lit.fluent.0 lit.positive c.args.cond c.args.self.now _ c.in-Some-literal_of.ensures c.in_ok-add_literal.ensures
