-- A new slab has no slot.
use Rattle.std.proofs.Common.{Option, None, List, is_some, slice_index_or, count_by, ap}
use Rattle.dd_nodes.specs.declared.node.Ref.{Ref}
use Rattle.dd_sets.specs.LiveSets.{is_live, live_count}
use Rattle.dd_sets.proofs.sets.Sets.new_in_order.Goals as goal

pub returns-clause-none_live : goal.returns-clause-none_live
unfolding is_live
returns-clause-none_live c slot = ap (λ (l : List (Option Ref)). is_some (slice_index_or l slot None)) c.new-2.ensures.empty

pub returns-clause-count : goal.returns-clause-count
unfolding live_count
returns-clause-count c = ap (λ (l : List (Option Ref)). count_by is_some l) c.new-2.ensures.empty
