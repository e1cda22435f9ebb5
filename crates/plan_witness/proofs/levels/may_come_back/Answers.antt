use Rattle.std.proofs.Common.{◌+◌, ◌≤◌, ℕ, List, ap, ◌∙◌, subst, arith}
use Rattle.std.proofs.lemmas.Bool.{ltb-false}
use Rattle.exec_graph.specs.Values.{followers_at, graph_size}
use Rattle.plan_witness.specs.Ways.{at}
use Rattle.plan_witness.proofs.Ranks.{not_back}
use Rattle.plan_witness.proofs.levels.may_come_back.Goals as goal

pub returns : goal.returns
returns g c = λ e.
    let next = followers_at c.args.graph.now in
    let ranks = c.args.levels.now.ranks.items in
    let number = c.args.number in
    let low = ltb-false c.height_at.result c.least_above.result e in
    let here = c.height_at.ensures ∙ ap (λ (xs : List ℕ). at xs number) c.deref-2.ensures.value in
    not_back (graph_size c.args.graph.now) next c.requires.inside ranks (c.requires.levels.falling c.if-not-levels.false) number c.requires.number
    (λ j follows. let above = subst (λ (xs : List ℕ). at xs j + 1 ≤ c.least_above.result) c.deref.ensures.value (c.least_above.ensures.above j follows) in omega (arith, above, here, low))
