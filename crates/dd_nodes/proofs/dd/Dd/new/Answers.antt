-- The vectors have room, and are empty.
use Rattle.std.proofs.Common.{◌≤◌, subst, sym, arith}
use Rattle.dd_nodes.proofs.Opening.{empty_table, empty_arena}
use Rattle.dd_nodes.proofs.dd.Dd.new.Goals as goal

pub invariant_of-result : goal.invariant_of-result
invariant_of-result c =
    let cells = c.in_ok-with_capacity.field-0 in
    let buckets = c.in_ok-new_buckets.field-0 in
    let exact = c.in_ok-with_capacity.ensures.exact in
    let room = c.in_ok-new_buckets.ensures.room in (
      empty_table c.args.vars c.args.limit c.requires.few_vars c.requires.some_room c.requires.small_limit cells.items c.in_ok-with_capacity.ensures.items,
      empty_arena cells buckets c.in_ok-with_capacity.ensures.items c.in_ok-new_buckets.ensures.one
          (subst (λ n. n ≤ 16777216) (sym exact) c.requires.small_limit)
          (omega arith)
          (omega (arith, c.in_ok-new_buckets.ensures.bound, c.requires.small_limit)),
      exact,
      c.in_ok-with_capacity-2.ensures.exact,
    )
