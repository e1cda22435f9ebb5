use Rattle.std.proofs.Common.{◌≡◌, ◌<◌, ℕ, Option, length, subst, sym}
use Rattle.std.specs.Prelude.{IfNone, IfSome}
use Rattle.exec_graph.specs.Values.{followers_at, graph_size}
use Rattle.plan_witness.specs.Ways.{IsNearestRound, IsOnRound, at, far}
use Rattle.plan_witness.proofs.FoundRuns.{round_found, stem_found, stem_none}
use Rattle.plan_witness.proofs.LeastWays.{none_to, shortest_to}
use Rattle.plan_witness.proofs.cycles.cycle_run.Goals as goal

pub returns-in-Some-clause-lasso : goal.returns-in-Some-clause-lasso
returns-in-Some-clause-lasso g c =
    let n = graph_size c.args.graph.now in
    let next = followers_at c.args.graph.now in
    let made = c.in_ok-starts.starts.items in
    let seen = c.deref.result.now in
    let lengths = c.in_ok-ways.ways.lengths.items in
    let before = c.in_ok-ways.ways.before.items in
    let count : length seen ≡ n = subst (λ xs. length xs ≡ n) (sym c.deref.ensures.value) c.in_ok-starts.ensures.count in
    let near = subst (λ (o : Option ℕ). IfSome o (IsNearestRound n next lengths)) c.in-Some.is c.in_ok-end.ensures.some in
    let way = c.in_ok-way-in-Some.way in
    let back = c.in_ok-way-in-Some.ensures.back in
    let stem = c.in_ok-stem-in-Some.stem in
    let along = c.in_ok-stem-in-Some.ensures in
    let shortest = shortest_to n next seen lengths before count c.requires.graph.next_below c.in_ok-ways.ensures (IsOnRound next) c.in-Some.end way.start way.numbers.items near.on near.least back in
    let round = c.in_ok-round-in-Some.ensures.round in
    record {
      stem = stem_found c.args.task.now c.args.plan.now c.args.graph.now c.requires.graph made seen c.deref.ensures.value c.in_ok-starts.ensures.count c.in_ok-starts.ensures.marked
          way.start way.numbers.items stem shortest along.start along.steps;
      round = round_found c.args.task.now c.args.plan.now c.args.graph.now c.requires.graph made seen c.deref.ensures.value c.in_ok-starts.ensures.count c.in_ok-starts.ensures.marked
          way.start c.in-Some.end way.numbers.items stem round.start round.numbers _ shortest back.ends along.start along.steps round.round round.along;
    }

pub returns-clause-none : goal.returns-clause-none
returns-clause-none g c =
    let n = graph_size c.args.graph.now in
    let next = followers_at c.args.graph.now in
    let seen = c.deref.result.now in
    let lengths = c.in_ok-ways.ways.lengths.items in
    let count : length seen ≡ n = subst (λ xs. length xs ≡ n) (sym c.deref.ensures.value) c.in_ok-starts.ensures.count in
    let never = subst (λ (o : Option ℕ). IfNone o ((i : ℕ) → i < n → IsOnRound next i → at lengths i < far → ⊥)) c.in-None.is c.in_ok-end.ensures.none in
    stem_none c.args.task.now c.args.plan.now c.args.graph.now c.requires.graph c.in_ok-starts.starts.items seen c.deref.ensures.value c.in_ok-starts.ensures.count c.in_ok-starts.ensures.marked
    (none_to n next seen lengths c.in_ok-ways.ways.before.items count c.requires.graph.next_below c.in_ok-ways.ensures (IsOnRound next) never)
