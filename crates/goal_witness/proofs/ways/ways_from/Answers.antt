use Rattle.std.proofs.Common.{◌≡◌, ◌<◌, ◌≤◌, ℕ, List, length, sym, ◌∙◌, subst, arith}
use Rattle.exec_graph.specs.Values.{graph_size}
use Rattle.goal_witness.specs.Zones.{next_in}
use Rattle.plan_witness.specs.Ways.{at, far}
use Rattle.plan_witness.proofs.Visits.{first_round, made_ways, marked_zero, next_round, reached_first, far_few}
use Rattle.goal_witness.proofs.ways.ways_from.Goals as goal

pub loop-now-init : goal.loop-now-init
loop-now-init g c =
    let n = graph_size c.args.zone.now.graph.now in
    let w = c.in_ok-ways.ensures in
    let lengths = c.in_ok-ways.ways.lengths.items in
    let a : length lengths ≡ n = w.lengths ∙ c.requires.count in
    let each = λ (i : ℕ) (l : i < n). w.each i (subst (λ m. i < m) (sym c.requires.count) l) in
    record {
      round = first_round n (next_in c.args.zone.now.graph.now c.args.zone.now.inside.now) lengths c.in_ok-ways.ways.before.items c.args.starts.now a (w.before ∙ c.requires.count) each;
      starts = λ i l. marked_zero _ _ (each i l);
      reached = λ i l h. reached_first _ _ (each i l) h;
      few = let m = far_few lengths in omega (arith, m, a);
    }

pub loop-now-preserved : goal.loop-now-preserved
loop-now-preserved g c =
    let r = c.round.ensures in
    let i = c.loop-now.invariant in
    record {
      round = next_round (graph_size c.args.zone.now.graph.now) (next_in c.args.zone.now.graph.now c.args.zone.now.inside.now) c.round.new.ways.lengths.items c.round.new.ways.before.items c.loop-now.now r.round;
      starts = λ k b. ((λ m. (r.grown.zeros k).1 ((i.starts k b).0 m)), (λ z. (i.starts k b).1 ((r.grown.zeros k).0 z)));
      reached = λ k l h. r.round.most k l h;
      few = let m = r.grown.more c.loop-now-test.true in let f = i.few in omega (arith, m, f);
    }

pub returns : goal.returns
returns g c =
    let n = graph_size c.args.zone.now.graph.now in
    let r = c.round.ensures in
    let i = c.loop-now.invariant in
    let same = r.grown.same c.loop-now-test.false in
    let few = i.few in
    made_ways n (next_in c.args.zone.now.graph.now c.args.zone.now.inside.now) c.args.starts.now c.round.new.ways.lengths.items c.round.new.ways.before.items c.loop-now.now (omega (arith, few)) (omega (arith, c.len-count.ensures.len, c.len-count.ensures.few)) r.round
    (λ k l h. subst (λ (xs : List ℕ). at xs k ≤ c.loop-now.now) (sym same) (i.reached k l (subst (λ (xs : List ℕ). at xs k < far) same h)))
    (λ k b. ((λ m. (r.grown.zeros k).1 ((i.starts k b).0 m)), (λ z. (i.starts k b).1 ((r.grown.zeros k).0 z))))
