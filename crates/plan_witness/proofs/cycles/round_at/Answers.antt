use Rattle.std.proofs.Common.{◌≡◌, ◌<◌, subst, sym}
use Rattle.std.specs.List.{Contains}
use Rattle.exec_graph.specs.Values.{followers_at, graph_size}
use Rattle.plan_check.specs.Walks.{IsMarked}
use Rattle.plan_witness.specs.Ways.{IsOnRound, IsShortestRoundAt, IsShortestWay, NoneLeads}
use Rattle.plan_witness.proofs.Everywhere.{everywhere}
use Rattle.plan_witness.proofs.Meanings.{if_found, if_none}
use Rattle.plan_witness.proofs.Walks.{no_round, round_of}
use Rattle.plan_witness.proofs.cycles.round_at.Goals as goal

pub returns-clause-some : goal.returns-clause-some
returns-clause-some g c =
    let n = graph_size c.args.graph.now in
    let next = followers_at c.args.graph.now in
    let i = c.args.number in
    let followers = everywhere n c.in_ok-followers.followers.items c.deref.result.now (Contains (next i)) c.deref.ensures.value c.in_ok-followers.ensures.count c.in_ok-followers.ensures.marked
    (λ k at. c.requires.inside i k c.requires.number at) in
    let only = everywhere n c.in_ok-only.only.items c.deref-2.result.now (λ k. k ≡ i) c.deref-2.ensures.value c.in_ok-only.ensures.count c.in_ok-only.ensures.marked
    (λ k is. subst (λ j. j < n) (sym is) c.requires.number) in
    if_found c.shortest_way.result (λ way. IsShortestWay next c.deref.result.now (IsMarked c.deref-2.result.now) way.start way.numbers.items) (λ way. IsShortestRoundAt next i way.start way.numbers.items)
    (λ way w. round_of next i c.deref.result.now c.deref-2.result.now followers only way.start way.numbers.items w) c.shortest_way.ensures.shortest

pub returns-clause-none : goal.returns-clause-none
returns-clause-none g c =
    let n = graph_size c.args.graph.now in
    let next = followers_at c.args.graph.now in
    let i = c.args.number in
    let followers = everywhere n c.in_ok-followers.followers.items c.deref.result.now (Contains (next i)) c.deref.ensures.value c.in_ok-followers.ensures.count c.in_ok-followers.ensures.marked
    (λ k at. c.requires.inside i k c.requires.number at) in
    let only = everywhere n c.in_ok-only.only.items c.deref-2.result.now (λ k. k ≡ i) c.deref-2.ensures.value c.in_ok-only.ensures.count c.in_ok-only.ensures.marked
    (λ k is. subst (λ j. j < n) (sym is) c.requires.number) in
    if_none c.shortest_way.result (NoneLeads next c.deref.result.now (IsMarked c.deref-2.result.now)) (IsOnRound next i → ⊥)
    (no_round next i c.deref.result.now c.deref-2.result.now followers only) c.shortest_way.ensures.none
