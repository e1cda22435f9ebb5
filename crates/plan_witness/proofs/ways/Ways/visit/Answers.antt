use Rattle.std.proofs.Common.{◌<◌, ◌+◌, true, cond, set, length, sym, ap, ◌∙◌, subst, arith}
use Rattle.exec_graph.specs.Values.{followers_at, graph_size}
use Rattle.plan_witness.specs.Ways.{HasGrown, IsVisiting}
use Rattle.plan_witness.proofs.Visits.{follows, grown_found, grown_more, grown_none, skipped_round, visited_round, visiting_found, visiting_known}
use Rattle.plan_witness.proofs.ways.Ways.visit.Goals as goal
use Rattle.plan_witness.proofs.ways.Ways.visit.Goals.{then-reach, else-reach}

pub returns-then-length_at-now-clause-round : goal.returns-then-length_at-now-clause-round
returns-then-length_at-now-clause-round g c =
    skipped_round (graph_size c.args.graph.now) (followers_at c.args.graph.now) c.args.self.now.lengths.items c.args.self.now.before.items c.args.now c.args.number c.requires.round
    (λ e. c.if-length_at-now.true (c.length_at.ensures ∙ e))

pub returns-then-length_at-now-clause-grown : goal.returns-then-length_at-now-clause-grown
returns-then-length_at-now-clause-grown g c = grown_none c.args.self.now.lengths.items

pub loop-k-init : goal.loop-k-init
loop-k-init g c = record {
  visiting = record { round = c.requires.round; here = sym c.length_at.ensures ∙ c.if-length_at-now.false; passed = λ m b. absurd (omega arith) };
  grown = grown_none c.args.self.now.lengths.items;
}

pub reach-requires : goal.reach-requires
reach-requires g c =
    let v = c.loop-k.invariant.visiting in
    let lt = c.loop-k-test.true in
    let b = c.requires.inside c.args.number c.next_at-follower.result c.requires.number
    (follows (graph_size c.args.graph.now) (followers_at c.args.graph.now) c.loop-k.self.lengths.items c.loop-k.self.before.items c.args.now c.args.number c.loop-k.k c.next_at-follower.result c.requires.inside c.requires.number c.requires.few v (omega (arith, lt, c.next_len-k-end.ensures)) c.next_at-follower.ensures.next) in
    let lc = v.round.lengths_count in
    let bc = v.round.before_count in
    record { lengths = omega (arith, b, lc); before = omega (arith, b, bc) }

pub loop-k-preserved : goal.loop-k-preserved
loop-k-preserved g c =
    let v = c.loop-k.invariant.visiting in
    let graph = c.args.graph.now in
    let n = graph_size graph in
    let next = followers_at graph in
    let lengths = c.loop-k.self.lengths.items in
    let before = c.loop-k.self.before.items in
    let now = c.args.now in
    let number = c.args.number in
    let k = c.loop-k.k in
    let f = c.next_at-follower.result in
    let lt : k < length (next number) = omega (arith, c.loop-k-test.true, c.next_len-k-end.ensures) in
    let first = c.args.self.now.lengths.items in
    elim c.if-reach.branch [
      | then-reach w ↦
          let el = c.reach.ensures.lengths ∙ ap (λ b. cond b (set lengths f (now + 1)) lengths) w.if-reach.true in
          let eb = c.reach.ensures.before ∙ ap (λ b. cond b (set before f number) before) w.if-reach.true in
          let unset = c.reach.ensures.unknown w.if-reach.true in
          record {
            visiting = subst (λ xs. IsVisiting n next xs c.reach.new.self.before.items now number (k + 1)) (sym el)
                (subst (λ ys. IsVisiting n next (set lengths f (now + 1)) ys now number (k + 1)) (sym eb)
                (visiting_found n next lengths before now number k f c.requires.inside c.requires.number c.requires.few v lt c.next_at-follower.ensures.next unset));
            grown = subst (λ b. HasGrown first c.reach.new.self.lengths.items b) (sym w.found-is)
                (subst (λ xs. HasGrown first xs true) (sym el)
                (grown_more first lengths (set lengths f (now + 1)) c.loop-k.found c.loop-k.invariant.grown
                (grown_found n next lengths before now number k f c.requires.inside c.requires.number c.requires.few v lt c.next_at-follower.ensures.next unset)));
          }
      | else-reach w ↦
          let el = c.reach.ensures.lengths ∙ ap (λ b. cond b (set lengths f (now + 1)) lengths) w.if-reach.false in
          let eb = c.reach.ensures.before ∙ ap (λ b. cond b (set before f number) before) w.if-reach.false in
          let known = c.reach.ensures.known w.if-reach.false in
          record {
            visiting = subst (λ xs. IsVisiting n next xs c.reach.new.self.before.items now number (k + 1)) (sym el)
                (subst (λ ys. IsVisiting n next lengths ys now number (k + 1)) (sym eb)
                (visiting_known n next lengths before now number k f c.requires.inside c.requires.number c.requires.few v lt c.next_at-follower.ensures.next known));
            grown = subst (λ b. HasGrown first c.reach.new.self.lengths.items b) (sym w.found-is) (subst (λ xs. HasGrown first xs c.loop-k.found) (sym el) c.loop-k.invariant.grown);
          }
    ]

pub returns-clause-round : goal.returns-clause-round
returns-clause-round g c =
    let v = c.loop-k.invariant.visiting in
    visited_round (graph_size c.args.graph.now) (followers_at c.args.graph.now) c.loop-k.self.lengths.items c.loop-k.self.before.items c.args.now c.args.number v.round
    (λ m b. v.passed m (omega (arith, b, c.loop-k-test.false, c.next_len-k-end.ensures)))
