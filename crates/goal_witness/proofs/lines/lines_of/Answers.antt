use Rattle.std.proofs.Common.{sym, arith}
use Rattle.goal_witness.proofs.Lined.{left_next}
use Rattle.goal_witness.proofs.lines.lines_of.Goals as goal

pub push_link-requires : goal.push_link-requires
push_link-requires c =
    let e = left_next 0 c.loop-link.link-index c.args.links.now c.link-item.result c.loop-link-test.true (sym c.link-item.is) in
    let few = c.loop-link.invariant.few 0 in
    let total = c.requires 0 in
    let more = c.step_count-more.ensures 0 in
    omega (arith, e, few, total, more)

pub overflow_add-from : goal.overflow_add-from
overflow_add-from c =
    let e = left_next 0 c.loop-link.link-index c.args.links.now c.link-item.result c.loop-link-test.true (sym c.link-item.is) in
    let few = c.loop-link.invariant.few 0 in
    let total = c.requires 0 in
    let more = c.step_count-more.ensures 0 in
    omega (arith, e, few, total, more)
