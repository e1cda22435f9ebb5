use Rattle.std.proofs.Common.{◌≡◌, ℕ, Bool, ◌-◌, ◌<◌, ◌++◌, ◌∷◌, [], cond, true, length, get_or, set, sym, ap, subst, arith}
use Rattle.std.proofs.lemmas.List.{get_or_read}
use Rattle.exec_graph.specs.Values.{followers_at, graph_size, predecessors_at}
use Rattle.plan_check.specs.Spreads.{is_due}
use Rattle.plan_check.proofs.SpreadSteps.{here_below, item_below, item_left, looking_done, looking_length, looking_none, looking_step}
use Rattle.plan_check.proofs.spreading.look_back.Goals as goal

pub prev_len-k-end-requires : goal.prev_len-k-end-requires
prev_len-k-end-requires g c =
    subst (λ k. k < graph_size c.args.along.now.graph.now) (sym (get_or_read c.args.front.now.found.items c.args.done c.index-number.result.now c.requires.done c.index-number.ensures 0))
    (here_below (graph_size c.args.along.now.graph.now) c.args.along.now.need (followers_at c.args.along.now.graph.now) (predecessors_at c.args.along.now.graph.now) c.args.along.now.guard.now c.args.marks.now.items c.args.front.now.lacks.items c.args.front.now.found.items c.args.done c.requires.turned c.requires.spreading c.requires.done)

pub loop-k-init : goal.loop-k-init
loop-k-init g c = record {
  looking = looking_none (graph_size c.args.along.now.graph.now) c.args.along.now.need (followers_at c.args.along.now.graph.now) (predecessors_at c.args.along.now.graph.now) c.args.along.now.guard.now c.args.marks.now.items c.args.front.now.lacks.items c.args.front.now.found.items c.args.done c.requires.turned c.requires.spreading c.requires.done;
  steps = omega arith;
  inside = omega arith;
}

pub prev_at-before-requires-clause-number : goal.prev_at-before-requires-clause-number
prev_at-before-requires-clause-number g c =
    subst (λ k. k < graph_size c.args.along.now.graph.now) (sym (get_or_read c.args.front.now.found.items c.args.done c.index-number.result.now c.requires.done c.index-number.ensures 0))
    (here_below (graph_size c.args.along.now.graph.now) c.args.along.now.need (followers_at c.args.along.now.graph.now) (predecessors_at c.args.along.now.graph.now) c.args.along.now.guard.now c.args.marks.now.items c.args.front.now.lacks.items c.args.front.now.found.items c.args.done c.requires.turned c.requires.spreading c.requires.done)

pub look-requires-clause-guard : goal.look-requires-clause-guard
look-requires-clause-guard g c =
    let w : c.loop-k.k < length (predecessors_at c.args.along.now.graph.now c.index-number.result.now) = omega (arith, c.loop-k-test.true, c.prev_len-k-end.ensures) in
    let is = ap (predecessors_at c.args.along.now.graph.now) (sym (get_or_read c.args.front.now.found.items c.args.done c.index-number.result.now c.requires.done c.index-number.ensures 0)) in
    let l = subst (λ i. i < graph_size c.args.along.now.graph.now) (sym (c.prev_at-before.ensures.prev)) (item_below (graph_size c.args.along.now.graph.now) c.args.along.now.need (followers_at c.args.along.now.graph.now) (predecessors_at c.args.along.now.graph.now) c.args.along.now.guard.now c.args.marks.now.items c.args.front.now.lacks.items c.args.front.now.found.items c.args.done c.requires.turned c.requires.spreading c.requires.done c.loop-k.k (predecessors_at c.args.along.now.graph.now c.index-number.result.now) is w) in
    omega (arith, c.requires.guard)

pub look-requires-clause-marks : goal.look-requires-clause-marks
look-requires-clause-marks g c =
    let w : c.loop-k.k < length (predecessors_at c.args.along.now.graph.now c.index-number.result.now) = omega (arith, c.loop-k-test.true, c.prev_len-k-end.ensures) in
    let is = ap (predecessors_at c.args.along.now.graph.now) (sym (get_or_read c.args.front.now.found.items c.args.done c.index-number.result.now c.requires.done c.index-number.ensures 0)) in
    let l = subst (λ i. i < graph_size c.args.along.now.graph.now) (sym (c.prev_at-before.ensures.prev)) (item_below (graph_size c.args.along.now.graph.now) c.args.along.now.need (followers_at c.args.along.now.graph.now) (predecessors_at c.args.along.now.graph.now) c.args.along.now.guard.now c.args.marks.now.items c.args.front.now.lacks.items c.args.front.now.found.items c.args.done c.requires.turned c.requires.spreading c.requires.done c.loop-k.k (predecessors_at c.args.along.now.graph.now c.index-number.result.now) is w) in
    omega (arith, c.loop-k.invariant.looking.spreading.count)

pub look-requires-clause-lacks : goal.look-requires-clause-lacks
look-requires-clause-lacks g c =
    let w : c.loop-k.k < length (predecessors_at c.args.along.now.graph.now c.index-number.result.now) = omega (arith, c.loop-k-test.true, c.prev_len-k-end.ensures) in
    let is = ap (predecessors_at c.args.along.now.graph.now) (sym (get_or_read c.args.front.now.found.items c.args.done c.index-number.result.now c.requires.done c.index-number.ensures 0)) in
    let l = subst (λ i. i < graph_size c.args.along.now.graph.now) (sym (c.prev_at-before.ensures.prev)) (item_below (graph_size c.args.along.now.graph.now) c.args.along.now.need (followers_at c.args.along.now.graph.now) (predecessors_at c.args.along.now.graph.now) c.args.along.now.guard.now c.args.marks.now.items c.args.front.now.lacks.items c.args.front.now.found.items c.args.done c.requires.turned c.requires.spreading c.requires.done c.loop-k.k (predecessors_at c.args.along.now.graph.now c.index-number.result.now) is w) in
    omega (arith, c.loop-k.invariant.looking.spreading.lacks_count)

pub look-requires-clause-left : goal.look-requires-clause-left
look-requires-clause-left g c =
    let w : c.loop-k.k < length (predecessors_at c.args.along.now.graph.now c.index-number.result.now) = omega (arith, c.loop-k-test.true, c.prev_len-k-end.ensures) in
    let is = ap (predecessors_at c.args.along.now.graph.now) (sym (get_or_read c.args.front.now.found.items c.args.done c.index-number.result.now c.requires.done c.index-number.ensures 0)) in
    subst (λ i. 0 < get_or c.loop-k.front.lacks.items i 0) (sym (c.prev_at-before.ensures.prev))
    (item_left (graph_size c.args.along.now.graph.now) c.args.along.now.need (followers_at c.args.along.now.graph.now) (predecessors_at c.args.along.now.graph.now) c.args.along.now.guard.now c.args.marks.now.items c.args.front.now.lacks.items c.args.front.now.found.items c.args.done c.requires.turned c.requires.spreading c.requires.done c.loop-k.k (predecessors_at c.args.along.now.graph.now c.index-number.result.now) is w c.loop-k.marks.items c.loop-k.front.lacks.items c.loop-k.front.found.items c.loop-k.invariant.looking)

pub loop-k-preserved : goal.loop-k-preserved
loop-k-preserved g c =
    let w : c.loop-k.k < length (predecessors_at c.args.along.now.graph.now c.index-number.result.now) = omega (arith, c.loop-k-test.true, c.prev_len-k-end.ensures) in
    let is = ap (predecessors_at c.args.along.now.graph.now) (sym (get_or_read c.args.front.now.found.items c.args.done c.index-number.result.now c.requires.done c.index-number.ensures 0)) in
    let at = c.prev_at-before.ensures.prev in
    let due : ℕ → Bool = λ i. is_due c.args.along.now.need c.args.along.now.guard.now c.loop-k.marks.items (get_or c.loop-k.front.lacks.items i 0 - 1) i in
    record {
      looking = looking_step (graph_size c.args.along.now.graph.now) c.args.along.now.need (followers_at c.args.along.now.graph.now) (predecessors_at c.args.along.now.graph.now) c.args.along.now.guard.now c.args.marks.now.items c.args.front.now.lacks.items c.args.front.now.found.items c.args.done c.requires.turned c.requires.spreading c.requires.done c.loop-k.k (predecessors_at c.args.along.now.graph.now c.index-number.result.now) is w c.loop-k.marks.items c.loop-k.front.lacks.items c.loop-k.front.found.items c.loop-k.invariant.looking
          c.look.new.front.lacks.items c.look.new.marks.items c.look.new.front.found.items
          (subst (λ i. c.look.new.front.lacks.items ≡ set c.loop-k.front.lacks.items i (get_or c.loop-k.front.lacks.items i 0 - 1)) at c.in_ok-look.ensures.lacks)
          (subst (λ i. c.look.new.marks.items ≡ cond (due i) (set c.loop-k.marks.items i true) c.loop-k.marks.items) at c.in_ok-look.ensures.marks)
          (subst (λ i. c.look.new.front.found.items ≡ cond (due i) (c.loop-k.front.found.items ++ i ∷ []) c.loop-k.front.found.items) at c.in_ok-look.ensures.found);
      steps = omega (arith, c.loop-k.invariant.steps, c.prev_at-before.ensures.step);
      inside = omega (arith, w);
    }

pub returns-clause-spreading : goal.returns-clause-spreading
returns-clause-spreading g c =
    let is = ap (predecessors_at c.args.along.now.graph.now) (sym (get_or_read c.args.front.now.found.items c.args.done c.index-number.result.now c.requires.done c.index-number.ensures 0)) in
    looking_done (graph_size c.args.along.now.graph.now) c.args.along.now.need (followers_at c.args.along.now.graph.now) (predecessors_at c.args.along.now.graph.now) c.args.along.now.guard.now c.args.marks.now.items c.args.front.now.lacks.items c.args.front.now.found.items c.args.done c.requires.turned c.requires.spreading c.requires.done c.loop-k.k (predecessors_at c.args.along.now.graph.now c.index-number.result.now) is (omega (arith, c.loop-k-test.false, c.prev_len-k-end.ensures)) c.loop-k.marks.items c.loop-k.front.lacks.items c.loop-k.front.found.items c.loop-k.invariant.looking

pub returns-clause-steps : goal.returns-clause-steps
returns-clause-steps g c =
    let long = looking_length (graph_size c.args.along.now.graph.now) c.args.along.now.need (followers_at c.args.along.now.graph.now) (predecessors_at c.args.along.now.graph.now) c.args.along.now.guard.now c.args.marks.now.items c.args.front.now.lacks.items c.args.front.now.found.items c.args.done c.requires.turned c.requires.spreading c.requires.done c.loop-k.k c.loop-k.marks.items c.loop-k.front.lacks.items c.loop-k.front.found.items c.loop-k.invariant.looking in
    let is = ap length (ap (predecessors_at c.args.along.now.graph.now) (sym (get_or_read c.args.front.now.found.items c.args.done c.index-number.result.now c.requires.done c.index-number.ensures 0))) in
    omega (arith, long, is, c.loop-k.invariant.steps, c.loop-k.invariant.inside)

pub returns-clause-most : goal.returns-clause-most
returns-clause-most g c =
    let is = ap length (ap (predecessors_at c.args.along.now.graph.now) (sym (get_or_read c.args.front.now.found.items c.args.done c.index-number.result.now c.requires.done c.index-number.ensures 0))) in
    omega (arith, is, c.loop-k.invariant.steps, c.loop-k.invariant.inside)

pub returns-in_err-look-clause-most : goal.returns-in_err-look-clause-most
returns-in_err-look-clause-most g c =
    let w : c.loop-k.k < length (predecessors_at c.args.along.now.graph.now c.index-number.result.now) = omega (arith, c.loop-k-test.true, c.prev_len-k-end.ensures) in
    let is = ap length (ap (predecessors_at c.args.along.now.graph.now) (sym (get_or_read c.args.front.now.found.items c.args.done c.index-number.result.now c.requires.done c.index-number.ensures 0))) in
    omega (arith, is, w, c.loop-k.invariant.steps, c.prev_at-before.ensures.step)
