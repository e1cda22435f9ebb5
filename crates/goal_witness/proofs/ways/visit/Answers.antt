use Rattle.std.proofs.Common.{◌<◌, ◌+◌, true, cond, set, length, sym, ap, ◌∙◌, subst, arith}
use Rattle.exec_graph.specs.Values.{followers_at, graph_size}
use Rattle.plan_witness.specs.Ways.{HasGrown}
use Rattle.plan_witness.proofs.Visits.{grown_more, grown_none, skipped_round}
use Rattle.goal_witness.specs.Zones.{next_in}
use Rattle.goal_witness.proofs.Visiting.{IsVisitingIn, below, grown_found, visited_in, visiting_found, visiting_known}
use Rattle.goal_witness.proofs.ways.visit.Goals as goal
use Rattle.goal_witness.proofs.ways.visit.Goals.{then-reach_marked, else-reach_marked}

pub returns-then-length_at-now-clause-round : goal.returns-then-length_at-now-clause-round
returns-then-length_at-now-clause-round g c =
    skipped_round (graph_size c.args.zone.now.graph.now) (next_in c.args.zone.now.graph.now c.args.zone.now.inside.now) c.args.ways.now.lengths.items c.args.ways.now.before.items c.args.now c.args.number c.requires.round
    (λ e. c.if-length_at-now.true (c.length_at.ensures ∙ e))

pub returns-then-length_at-now-clause-grown : goal.returns-then-length_at-now-clause-grown
returns-then-length_at-now-clause-grown g c = grown_none c.args.ways.now.lengths.items

pub loop-k-init : goal.loop-k-init
loop-k-init g c = record {
  visiting = record { round = c.requires.round; here = sym c.length_at.ensures ∙ c.if-length_at-now.false; passed = λ m b. absurd (omega arith) };
  grown = grown_none c.args.ways.now.lengths.items;
}

pub reach_marked-requires : goal.reach_marked-requires
reach_marked-requires g c =
    let v = c.loop-k.invariant.visiting in
    let lt = c.loop-k-test.true in
    let b = below c.args.zone.now.graph.now c.args.zone.now.inside.now c.requires.zone c.loop-k.ways.lengths.items c.loop-k.ways.before.items c.args.now c.args.number c.loop-k.k c.next_at-follower.result c.requires.number c.requires.few v
    (omega (arith, lt, c.next_len-k-end.ensures)) c.next_at-follower.ensures.next in
    let lc = v.round.lengths_count in
    let bc = v.round.before_count in
    let ic = c.requires.zone.count in
    record { inside = omega (arith, b, ic); lengths = omega (arith, b, lc); before = omega (arith, b, bc) }

pub loop-k-preserved : goal.loop-k-preserved
loop-k-preserved g c =
    let v = c.loop-k.invariant.visiting in
    let graph = c.args.zone.now.graph.now in
    let inside = c.args.zone.now.inside.now in
    let lengths = c.loop-k.ways.lengths.items in
    let before = c.loop-k.ways.before.items in
    let now = c.args.now in
    let number = c.args.number in
    let k = c.loop-k.k in
    let f = c.next_at-follower.result in
    let lt : k < length (followers_at graph number) = omega (arith, c.loop-k-test.true, c.next_len-k-end.ensures) in
    let first = c.args.ways.now.lengths.items in
    elim c.if-reach_marked.branch [
      | then-reach_marked w ↦
          let el = c.reach_marked.ensures.lengths ∙ ap (λ b. cond b (set lengths f (now + 1)) lengths) w.if-reach_marked.true in
          let eb = c.reach_marked.ensures.before ∙ ap (λ b. cond b (set before f number) before) w.if-reach_marked.true in
          let unset = c.reach_marked.ensures.unknown w.if-reach_marked.true in
          let marked = c.reach_marked.ensures.marked w.if-reach_marked.true in
          record {
            visiting = subst (λ xs. IsVisitingIn graph inside xs c.reach_marked.new.ways.before.items now number (k + 1)) (sym el)
                (subst (λ ys. IsVisitingIn graph inside (set lengths f (now + 1)) ys now number (k + 1)) (sym eb)
                (visiting_found graph inside c.requires.zone lengths before now number k f c.requires.number c.requires.few v lt c.next_at-follower.ensures.next marked unset));
            grown = subst (λ b. HasGrown first c.reach_marked.new.ways.lengths.items b) (sym w.found-is)
                (subst (λ xs. HasGrown first xs true) (sym el)
                (grown_more first lengths (set lengths f (now + 1)) c.loop-k.found c.loop-k.invariant.grown
                (grown_found graph inside c.requires.zone lengths before now number k f c.requires.number c.requires.few v lt c.next_at-follower.ensures.next marked unset)));
          }
      | else-reach_marked w ↦
          let el = c.reach_marked.ensures.lengths ∙ ap (λ b. cond b (set lengths f (now + 1)) lengths) w.if-reach_marked.false in
          let eb = c.reach_marked.ensures.before ∙ ap (λ b. cond b (set before f number) before) w.if-reach_marked.false in
          let known = c.reach_marked.ensures.known w.if-reach_marked.false in
          record {
            visiting = subst (λ xs. IsVisitingIn graph inside xs c.reach_marked.new.ways.before.items now number (k + 1)) (sym el)
                (subst (λ ys. IsVisitingIn graph inside lengths ys now number (k + 1)) (sym eb)
                (visiting_known graph inside c.requires.zone lengths before now number k f c.requires.number c.requires.few v lt c.next_at-follower.ensures.next known));
            grown = subst (λ b. HasGrown first c.reach_marked.new.ways.lengths.items b) (sym w.found-is) (subst (λ xs. HasGrown first xs c.loop-k.found) (sym el) c.loop-k.invariant.grown);
          }
    ]

pub returns-clause-round : goal.returns-clause-round
returns-clause-round g c =
    visited_in c.args.zone.now.graph.now c.args.zone.now.inside.now c.loop-k.ways.lengths.items c.loop-k.ways.before.items c.args.now c.args.number c.loop-k.k c.loop-k.invariant.visiting
    (omega (arith, c.loop-k-test.false, c.next_len-k-end.ensures))
