use Rattle.std.proofs.Common.{refl, arith}
use Rattle.exec_graph.specs.Values.{followers_at, graph_size, predecessors_at}
use Rattle.plan_check.proofs.SearchCounts.{looks_twice}
use Rattle.plan_check.proofs.SearchTurns.{follower_within, top_below, top_within, turn_ends, turn_ends_keeps, turn_ends_less, turn_ends_looks, turn_looks, turn_opens_looks, turn_takes_looks, turn_fits, turn_opens, turn_opens_keeps, turn_opens_less, turn_round, turn_takes, turn_takes_keeps, turn_takes_less}
use Rattle.plan_check.proofs.search.Search.advance.Goals as goal

pub next_len-requires : goal.next_len-requires
next_len-requires g c = top_below (graph_size c.args.graph.now) (followers_at c.args.graph.now) c.args.self.now.visits.items c.args.self.now.path.items c.requires.inside c.requires.search c.args.top c.requires.top

pub index-requires : goal.index-requires
index-requires g c = let l = top_within (graph_size c.args.graph.now) (followers_at c.args.graph.now) c.args.self.now.visits.items c.args.self.now.path.items c.requires.inside c.requires.search c.args.top c.requires.top in omega (arith, c.args.self.now.visits.ok.0)

pub index-visit-requires : goal.index-visit-requires
index-visit-requires g c = let l = follower_within (graph_size c.args.graph.now) (followers_at c.args.graph.now) c.args.self.now.visits.items c.args.self.now.path.items c.requires.inside c.requires.search c.args.top c.requires.top c.index.result.now c.index.ensures (followers_at c.args.graph.now c.args.top) refl (omega (arith, c.if-tried-next_len.true, c.next_len.ensures)) c.next_at-follower.result (c.next_at-follower.ensures.next) in omega (arith, c.args.self.now.visits.ok.0)

pub open-requires : goal.open-requires
open-requires g c = follower_within (graph_size c.args.graph.now) (followers_at c.args.graph.now) c.args.self.now.visits.items c.args.self.now.path.items c.requires.inside c.requires.search c.args.top c.requires.top c.index.result.now c.index.ensures (followers_at c.args.graph.now c.args.top) refl (omega (arith, c.if-tried-next_len.true, c.next_len.ensures)) c.next_at-follower.result (c.next_at-follower.ensures.next)

pub returns-in-Open-clause-round : goal.returns-in-Open-clause-round
returns-in-Open-clause-round g c = λ _. turn_round (graph_size c.args.graph.now) (followers_at c.args.graph.now) c.args.self.now.visits.items c.args.self.now.path.items c.requires.inside c.requires.search c.args.top c.requires.top c.index.result.now c.index.ensures (followers_at c.args.graph.now c.args.top) refl (omega (arith, c.if-tried-next_len.true, c.next_len.ensures)) c.next_at-follower.result (c.next_at-follower.ensures.next) c.index-visit.result.now c.index-visit.ensures c.in-Open.is

pub take_height-requires-clause-number : goal.take_height-requires-clause-number
take_height-requires-clause-number g c = top_within (graph_size c.args.graph.now) (followers_at c.args.graph.now) c.args.self.now.visits.items c.args.self.now.path.items c.requires.inside c.requires.search c.args.top c.requires.top

pub take_height-requires-clause-below : goal.take_height-requires-clause-below
take_height-requires-clause-below g c = let l = turn_fits (graph_size c.args.graph.now) (followers_at c.args.graph.now) c.args.self.now.visits.items c.args.self.now.path.items c.requires.inside c.requires.search c.args.top c.requires.top c.index.result.now c.index.ensures (followers_at c.args.graph.now c.args.top) refl (omega (arith, c.if-tried-next_len.true, c.next_len.ensures)) c.next_at-follower.result (c.next_at-follower.ensures.next) c.index-visit.result.now c.index-visit.ensures c.in-Done.is (omega arith) in let k = c.requires.search.count in omega (arith, c.args.self.now.visits.ok.0)

pub finish-requires : goal.finish-requires
finish-requires g c = top_within (graph_size c.args.graph.now) (followers_at c.args.graph.now) c.args.self.now.visits.items c.args.self.now.path.items c.requires.inside c.requires.search c.args.top c.requires.top

pub returns-in_ok-open-in-Unseen-clause-search : goal.returns-in_ok-open-in-Unseen-clause-search
returns-in_ok-open-in-Unseen-clause-search g c = λ _. turn_opens (graph_size c.args.graph.now) (followers_at c.args.graph.now) c.args.self.now.visits.items c.args.self.now.path.items c.requires.inside c.requires.search c.args.top c.requires.top c.index.result.now c.index.ensures (followers_at c.args.graph.now c.args.top) refl (omega (arith, c.if-tried-next_len.true, c.next_len.ensures)) c.next_at-follower.result (c.next_at-follower.ensures.next) c.index-visit.result.now c.index-visit.ensures c.in-Unseen.is c.open.new.self.visits.items c.open.new.self.path.items c.in_ok-open-in-Unseen.ensures.visits c.in_ok-open-in-Unseen.ensures.path

pub returns-in_ok-open-in-Unseen-clause-kept : goal.returns-in_ok-open-in-Unseen-clause-kept
returns-in_ok-open-in-Unseen-clause-kept g c = λ _. turn_opens_keeps (graph_size c.args.graph.now) (followers_at c.args.graph.now) c.args.self.now.visits.items c.args.self.now.path.items c.requires.inside c.requires.search c.args.top c.requires.top c.index.result.now c.index.ensures (followers_at c.args.graph.now c.args.top) refl (omega (arith, c.if-tried-next_len.true, c.next_len.ensures)) c.next_at-follower.result (c.next_at-follower.ensures.next) c.index-visit.result.now c.index-visit.ensures c.in-Unseen.is c.open.new.self.visits.items c.open.new.self.path.items c.in_ok-open-in-Unseen.ensures.visits c.in_ok-open-in-Unseen.ensures.path

pub returns-in_ok-open-in-Unseen-clause-less : goal.returns-in_ok-open-in-Unseen-clause-less
returns-in_ok-open-in-Unseen-clause-less g c = λ _. turn_opens_less (graph_size c.args.graph.now) (followers_at c.args.graph.now) c.args.self.now.visits.items c.args.self.now.path.items c.requires.inside c.requires.search c.args.top c.requires.top c.index.result.now c.index.ensures (followers_at c.args.graph.now c.args.top) refl (omega (arith, c.if-tried-next_len.true, c.next_len.ensures)) c.next_at-follower.result (c.next_at-follower.ensures.next) c.index-visit.result.now c.index-visit.ensures c.in-Unseen.is c.open.new.self.visits.items c.open.new.self.path.items c.in_ok-open-in-Unseen.ensures.visits c.in_ok-open-in-Unseen.ensures.path

pub returns-in-Done-clause-search : goal.returns-in-Done-clause-search
returns-in-Done-clause-search g c = λ _. turn_takes (graph_size c.args.graph.now) (followers_at c.args.graph.now) c.args.self.now.visits.items c.args.self.now.path.items c.requires.inside c.requires.search c.args.top c.requires.top c.index.result.now c.index.ensures (followers_at c.args.graph.now c.args.top) refl (omega (arith, c.if-tried-next_len.true, c.next_len.ensures)) c.next_at-follower.result (c.next_at-follower.ensures.next) c.index-visit.result.now c.index-visit.ensures c.in-Done.is (omega arith) c.take_height.new.self.visits.items c.take_height.new.self.path.items c.take_height.ensures.visits c.take_height.ensures.path

pub returns-in-Done-clause-kept : goal.returns-in-Done-clause-kept
returns-in-Done-clause-kept g c = λ _. turn_takes_keeps (graph_size c.args.graph.now) (followers_at c.args.graph.now) c.args.self.now.visits.items c.args.self.now.path.items c.requires.inside c.requires.search c.args.top c.requires.top c.index.result.now c.index.ensures (followers_at c.args.graph.now c.args.top) refl (omega (arith, c.if-tried-next_len.true, c.next_len.ensures)) c.next_at-follower.result (c.next_at-follower.ensures.next) c.index-visit.result.now c.index-visit.ensures c.in-Done.is (omega arith) c.take_height.new.self.visits.items c.take_height.new.self.path.items c.take_height.ensures.visits c.take_height.ensures.path

pub returns-in-Done-clause-less : goal.returns-in-Done-clause-less
returns-in-Done-clause-less g c = λ _. turn_takes_less (graph_size c.args.graph.now) (followers_at c.args.graph.now) c.args.self.now.visits.items c.args.self.now.path.items c.requires.inside c.requires.search c.args.top c.requires.top c.index.result.now c.index.ensures (followers_at c.args.graph.now c.args.top) refl (omega (arith, c.if-tried-next_len.true, c.next_len.ensures)) c.next_at-follower.result (c.next_at-follower.ensures.next) c.index-visit.result.now c.index-visit.ensures c.in-Done.is (omega arith) c.take_height.new.self.visits.items c.take_height.new.self.path.items c.take_height.ensures.visits c.take_height.ensures.path

pub returns-else-tried-next_len-clause-search : goal.returns-else-tried-next_len-clause-search
returns-else-tried-next_len-clause-search g c = λ _. turn_ends (graph_size c.args.graph.now) (followers_at c.args.graph.now) c.args.self.now.visits.items c.args.self.now.path.items c.requires.inside c.requires.search c.args.top c.requires.top c.index.result.now c.index.ensures (followers_at c.args.graph.now c.args.top) refl (omega (arith, c.if-tried-next_len.false, c.next_len.ensures)) (omega arith) c.finish.new.self.visits.items c.finish.new.self.path.items c.finish.ensures.visits c.finish.ensures.path

pub returns-else-tried-next_len-clause-kept : goal.returns-else-tried-next_len-clause-kept
returns-else-tried-next_len-clause-kept g c = λ _. turn_ends_keeps (graph_size c.args.graph.now) (followers_at c.args.graph.now) c.args.self.now.visits.items c.args.self.now.path.items c.requires.inside c.requires.search c.args.top c.requires.top c.index.result.now c.index.ensures (followers_at c.args.graph.now c.args.top) refl (omega (arith, c.if-tried-next_len.false, c.next_len.ensures)) (omega arith) c.finish.new.self.visits.items c.finish.new.self.path.items c.finish.ensures.visits c.finish.ensures.path

pub returns-else-tried-next_len-clause-less : goal.returns-else-tried-next_len-clause-less
returns-else-tried-next_len-clause-less g c = λ _. turn_ends_less (graph_size c.args.graph.now) (followers_at c.args.graph.now) c.args.self.now.visits.items c.args.self.now.path.items c.requires.inside c.requires.search c.args.top c.requires.top c.index.result.now c.index.ensures (followers_at c.args.graph.now c.args.top) refl (omega (arith, c.if-tried-next_len.false, c.next_len.ensures)) (omega arith) c.finish.new.self.visits.items c.finish.new.self.path.items c.finish.ensures.visits c.finish.ensures.path

pub next_at-follower-requires-clause-number : goal.next_at-follower-requires-clause-number
next_at-follower-requires-clause-number g c = top_below (graph_size c.args.graph.now) (followers_at c.args.graph.now) c.args.self.now.visits.items c.args.self.now.path.items c.requires.inside c.requires.search c.args.top c.requires.top

-- the looks
pub returns-in_ok-open-in-Unseen-clause-steps : goal.returns-in_ok-open-in-Unseen-clause-steps
returns-in_ok-open-in-Unseen-clause-steps g c = λ _.
    let more = turn_opens_looks (graph_size c.args.graph.now) (followers_at c.args.graph.now) c.args.self.now.visits.items c.args.self.now.path.items c.requires.inside c.requires.search c.args.top c.requires.top c.index.result.now c.index.ensures (followers_at c.args.graph.now c.args.top) refl (omega (arith, c.if-tried-next_len.true, c.next_len.ensures)) c.next_at-follower.result (c.next_at-follower.ensures.next) c.index-visit.result.now c.index-visit.ensures c.in-Unseen.is c.open.new.self.visits.items c.open.new.self.path.items c.in_ok-open-in-Unseen.ensures.visits c.in_ok-open-in-Unseen.ensures.path (predecessors_at c.args.graph.now) c.requires.turned in
    omega (arith, more, c.next_at-follower.ensures.step)

pub returns-in_ok-open-in-Unseen-clause-most : goal.returns-in_ok-open-in-Unseen-clause-most
returns-in_ok-open-in-Unseen-clause-most g c = let most = turn_looks (graph_size c.args.graph.now) (followers_at c.args.graph.now) c.args.self.now.visits.items c.args.self.now.path.items c.requires.inside c.requires.search c.args.top c.requires.top c.index.result.now c.index.ensures (followers_at c.args.graph.now c.args.top) refl (omega (arith, c.if-tried-next_len.true, c.next_len.ensures)) c.next_at-follower.result (c.next_at-follower.ensures.next) (predecessors_at c.args.graph.now) c.requires.turned in omega (arith, most, c.next_at-follower.ensures.step)

pub returns-in_err-open-in-Unseen-clause-most : goal.returns-in_err-open-in-Unseen-clause-most
returns-in_err-open-in-Unseen-clause-most g c = let most = turn_looks (graph_size c.args.graph.now) (followers_at c.args.graph.now) c.args.self.now.visits.items c.args.self.now.path.items c.requires.inside c.requires.search c.args.top c.requires.top c.index.result.now c.index.ensures (followers_at c.args.graph.now c.args.top) refl (omega (arith, c.if-tried-next_len.true, c.next_len.ensures)) c.next_at-follower.result (c.next_at-follower.ensures.next) (predecessors_at c.args.graph.now) c.requires.turned in omega (arith, most, c.next_at-follower.ensures.step)

pub returns-in-Open-clause-most : goal.returns-in-Open-clause-most
returns-in-Open-clause-most g c = let most = turn_looks (graph_size c.args.graph.now) (followers_at c.args.graph.now) c.args.self.now.visits.items c.args.self.now.path.items c.requires.inside c.requires.search c.args.top c.requires.top c.index.result.now c.index.ensures (followers_at c.args.graph.now c.args.top) refl (omega (arith, c.if-tried-next_len.true, c.next_len.ensures)) c.next_at-follower.result (c.next_at-follower.ensures.next) (predecessors_at c.args.graph.now) c.requires.turned in omega (arith, most, c.next_at-follower.ensures.step)

pub returns-in-Done-clause-steps : goal.returns-in-Done-clause-steps
returns-in-Done-clause-steps g c = λ _.
    let more = turn_takes_looks (graph_size c.args.graph.now) (followers_at c.args.graph.now) c.args.self.now.visits.items c.args.self.now.path.items c.requires.inside c.requires.search c.args.top c.requires.top c.index.result.now c.index.ensures (followers_at c.args.graph.now c.args.top) refl (omega (arith, c.if-tried-next_len.true, c.next_len.ensures)) c.next_at-follower.result (c.next_at-follower.ensures.next) c.index-visit.result.now c.index-visit.ensures c.in-Done.is (omega arith) c.take_height.new.self.visits.items c.take_height.new.self.path.items c.take_height.ensures.visits c.take_height.ensures.path (predecessors_at c.args.graph.now) c.requires.turned in
    omega (arith, more, c.next_at-follower.ensures.step)

pub returns-in-Done-clause-most : goal.returns-in-Done-clause-most
returns-in-Done-clause-most g c = let most = turn_looks (graph_size c.args.graph.now) (followers_at c.args.graph.now) c.args.self.now.visits.items c.args.self.now.path.items c.requires.inside c.requires.search c.args.top c.requires.top c.index.result.now c.index.ensures (followers_at c.args.graph.now c.args.top) refl (omega (arith, c.if-tried-next_len.true, c.next_len.ensures)) c.next_at-follower.result (c.next_at-follower.ensures.next) (predecessors_at c.args.graph.now) c.requires.turned in omega (arith, most, c.next_at-follower.ensures.step)

pub returns-else-tried-next_len-clause-steps : goal.returns-else-tried-next_len-clause-steps
returns-else-tried-next_len-clause-steps g c = λ _.
    let more = turn_ends_looks (graph_size c.args.graph.now) (followers_at c.args.graph.now) c.args.self.now.visits.items c.args.self.now.path.items c.requires.inside c.requires.search c.args.top c.requires.top c.index.result.now c.index.ensures (followers_at c.args.graph.now c.args.top) refl (omega (arith, c.if-tried-next_len.false, c.next_len.ensures)) (omega arith) c.finish.new.self.visits.items c.finish.new.self.path.items c.finish.ensures.visits c.finish.ensures.path (predecessors_at c.args.graph.now) c.requires.turned in
    omega (arith, more)

pub returns-else-tried-next_len-clause-most : goal.returns-else-tried-next_len-clause-most
returns-else-tried-next_len-clause-most g c =
    let most = looks_twice (graph_size c.args.graph.now) (followers_at c.args.graph.now) (predecessors_at c.args.graph.now) c.requires.turned c.args.self.now.visits.items c.args.self.now.path.items c.requires.search in
    omega (arith, most)
