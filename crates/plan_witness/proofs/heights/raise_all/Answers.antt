use Rattle.std.proofs.Common.{◌≡◌, ◌+◌, ◌-◌, ◌<◌, sym, subst, arith}
use Rattle.exec_graph.specs.Values.{followers_at, graph_size}
use Rattle.plan_witness.proofs.Tall.{IsRaising, raising_first, raising_found, raising_same}
use Rattle.plan_witness.proofs.heights.raise_all.Goals as goal
use Rattle.plan_witness.proofs.heights.raise_all.Goals.{then-raise, else-raise}

pub loop-k-init : goal.loop-k-init
loop-k-init g c = raising_first (graph_size c.args.graph.now) (followers_at c.args.graph.now) c.args.bound c.args.heights.now.items c.requires.attained

pub loop-k-preserved : goal.loop-k-preserved
loop-k-preserved g c =
    let n = graph_size c.args.graph.now in
    let next = followers_at c.args.graph.now in
    let before = c.args.heights.now.items in
    let heights = c.loop-k.heights.items in
    let k = c.loop-k.k in
    let number = c.len.result - 1 - k in
    let lt : k < n = omega (arith, c.loop-k-test.true, c.len-k-end.ensures.len) in
    let is : number + k + 1 ≡ n = omega (arith, lt, c.len.ensures.len) in
    let p = c.loop-k.invariant in
    elim c.if-raise.branch [
      | then-raise w ↦
          subst (λ b. IsRaising n next c.args.bound before c.raise.new.heights.items b (k + 1)) (sym w.found-is)
          (raising_found n next c.args.bound before heights c.loop-k.found k number p is c.raise.new.heights.items c.raise.ensures.attained (c.raise.ensures.less w.if-raise.true))
      | else-raise w ↦
          subst (λ b. IsRaising n next c.args.bound before c.raise.new.heights.items b (k + 1)) (sym w.found-is)
          (subst (λ hs. IsRaising n next c.args.bound before hs c.loop-k.found (k + 1)) (sym (c.raise.ensures.same w.if-raise.false))
          (raising_same n next c.args.bound before heights c.loop-k.found k number p is (c.raise.ensures.above w.if-raise.false)))
    ]

pub returns-clause-above : goal.returns-clause-above
returns-clause-above g c = λ e i l. c.loop-k.invariant.above e i l (omega (arith, c.loop-k-test.false, c.len-k-end.ensures.len))
