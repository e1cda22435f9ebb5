use Rattle.std.proofs.Common.{◌≡◌, ◌+◌, ◌≤◌, arith}
use Rattle.std.proofs.lemmas.Result.{IfOk-weaker}
use Rattle.exec_graph.specs.Values.{followers_at, graph_size, predecessors_at}
use Rattle.plan_check.specs.Searches.{IsSeen, KeepsSeen, looks_in}
use Rattle.plan_check.specs.declared.search.Turn.{Turn}
use Rattle.plan_check.specs.declared.search.Turn.TheVariants.{Further}
use Rattle.plan_check.proofs.SearchCounts.{looks_twice}
use Rattle.plan_check.proofs.SearchTurns.{turn_begins, turn_begins_looks}
use Rattle.plan_check.proofs.search.Search.search_from.Goals as goal

pub follow-requires-clause-search : goal.follow-requires-clause-search
follow-requires-clause-search g c =
    (turn_begins (graph_size c.args.graph.now) (followers_at c.args.graph.now) c.args.self.now.visits.items c.open.new.self.visits.items c.args.self.now.path.items c.open.new.self.path.items c.args.root c.index.result.now
    c.requires.search c.requires.path c.requires.root c.index.ensures c.in-Unseen.is c.in_ok-open-in-Unseen.ensures.visits c.in_ok-open-in-Unseen.ensures.path).0

pub returns-in_ok-open-in-Unseen-clause-kept : goal.returns-in_ok-open-in-Unseen-clause-kept
returns-in_ok-open-in-Unseen-clause-kept g c =
    let begun = turn_begins (graph_size c.args.graph.now) (followers_at c.args.graph.now) c.args.self.now.visits.items c.open.new.self.visits.items c.args.self.now.path.items c.open.new.self.path.items c.args.root c.index.result.now
    c.requires.search c.requires.path c.requires.root c.index.ensures c.in-Unseen.is c.in_ok-open-in-Unseen.ensures.visits c.in_ok-open-in-Unseen.ensures.path in
    IfOk-weaker c.follow.result (λ (turn : Turn). turn ≡ Further → KeepsSeen c.open.new.self.visits.items c.follow.new.self.visits.items)
    (λ (turn : Turn). turn ≡ Further → KeepsSeen c.args.self.now.visits.items c.follow.new.self.visits.items)
    (λ turn kept is i seen. kept is i (begun.1 i seen))
    c.follow.ensures.kept

pub returns-in_ok-open-in-Unseen-clause-seen : goal.returns-in_ok-open-in-Unseen-clause-seen
returns-in_ok-open-in-Unseen-clause-seen g c =
    let begun = turn_begins (graph_size c.args.graph.now) (followers_at c.args.graph.now) c.args.self.now.visits.items c.open.new.self.visits.items c.args.self.now.path.items c.open.new.self.path.items c.args.root c.index.result.now
    c.requires.search c.requires.path c.requires.root c.index.ensures c.in-Unseen.is c.in_ok-open-in-Unseen.ensures.visits c.in_ok-open-in-Unseen.ensures.path in
    IfOk-weaker c.follow.result (λ (turn : Turn). turn ≡ Further → KeepsSeen c.open.new.self.visits.items c.follow.new.self.visits.items)
    (λ (turn : Turn). turn ≡ Further → IsSeen c.follow.new.self.visits.items c.args.root)
    (λ turn kept is. kept is c.args.root begun.2)
    c.follow.ensures.kept

pub returns-in_ok-open-in-Unseen-clause-steps : goal.returns-in_ok-open-in-Unseen-clause-steps
returns-in_ok-open-in-Unseen-clause-steps g c =
    let begun = turn_begins_looks (graph_size c.args.graph.now) (followers_at c.args.graph.now) (predecessors_at c.args.graph.now) c.args.self.now.visits.items c.open.new.self.visits.items c.args.self.now.path.items c.args.root c.index.result.now c.requires.turned c.requires.search c.requires.root c.index.ensures c.in-Unseen.is c.in_ok-open-in-Unseen.ensures.visits in
    IfOk-weaker c.follow.result
    (λ (turn : Turn). turn ≡ Further → c.follow.new.steps + looks_in c.args.graph.now c.open.new.self.visits.items ≤ c.args.steps.now + looks_in c.args.graph.now c.follow.new.self.visits.items)
    (λ (turn : Turn). turn ≡ Further → c.follow.new.steps + looks_in c.args.graph.now c.args.self.now.visits.items ≤ c.args.steps.now + looks_in c.args.graph.now c.follow.new.self.visits.items)
    (λ turn fewer is. let few = fewer is in omega (arith, few, begun))
    c.follow.ensures.steps

pub returns-in_ok-open-in-Unseen-clause-most : goal.returns-in_ok-open-in-Unseen-clause-most
returns-in_ok-open-in-Unseen-clause-most g c =
    let begun = turn_begins_looks (graph_size c.args.graph.now) (followers_at c.args.graph.now) (predecessors_at c.args.graph.now) c.args.self.now.visits.items c.open.new.self.visits.items c.args.self.now.path.items c.args.root c.index.result.now c.requires.turned c.requires.search c.requires.root c.index.ensures c.in-Unseen.is c.in_ok-open-in-Unseen.ensures.visits in
    omega (arith, c.follow.ensures.most, begun)

pub returns-in_err-open-in-Unseen-clause-most : goal.returns-in_err-open-in-Unseen-clause-most
returns-in_err-open-in-Unseen-clause-most g c = let most = looks_twice (graph_size c.args.graph.now) (followers_at c.args.graph.now) (predecessors_at c.args.graph.now) c.requires.turned c.args.self.now.visits.items c.args.self.now.path.items c.requires.search in omega (arith, most)

pub returns-in-Open-clause-most : goal.returns-in-Open-clause-most
returns-in-Open-clause-most g c = let most = looks_twice (graph_size c.args.graph.now) (followers_at c.args.graph.now) (predecessors_at c.args.graph.now) c.requires.turned c.args.self.now.visits.items c.args.self.now.path.items c.requires.search in omega (arith, most)
