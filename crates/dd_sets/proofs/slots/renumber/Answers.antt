-- The numbers before the place are written.
use Rattle.std.proofs.Common.{Option, None, List, is_some, slice_index_or, slice_set, Some, sym, ap, ◌∙◌, arith}
use Rattle.std.proofs.lemmas.List.{take_all}
use Rattle.dd_nodes.specs.declared.node.Ref.{Ref}
use Rattle.dd_sets.specs.Stores.{renumbered}
use Rattle.dd_sets.proofs.RenumberLemmas.{next_live, next_written, none_written}
use Rattle.dd_sets.proofs.slots.renumber.Goals as goal

pub loop-place-init : goal.loop-place-init
loop-place-init c = sym (none_written c.args.slots.now.slots)

pub put-requires : goal.put-requires
put-requires c =
    ap (λ (s : List (Option Ref)). is_some (slice_index_or s (slice_index_or c.args.keys.now c.loop-place.place 0) None)) c.loop-place.invariant
    ∙ next_live c.args.slots.now.slots _ c.args.keys.now c.loop-place.place c.requires.keys c.loop-place-test.true

pub loop-place-preserved : goal.loop-place-preserved
loop-place-preserved c =
    c.put.ensures
    ∙ ap (λ (s : List (Option Ref)). slice_set s (slice_index_or c.args.keys.now c.loop-place.place 0) (Some (slice_index_or c.args.numbers.now c.loop-place.place (record { 0 = 0 })))) c.loop-place.invariant
    ∙ next_written c.args.slots.now.slots c.args.numbers.now c.args.keys.now c.loop-place.place (record { 0 = 0 }) c.requires.keys c.loop-place-test.true c.requires.count

pub returns : goal.returns
returns c = c.loop-place.invariant ∙ ap (renumbered c.args.slots.now.slots) (take_all c.loop-place.place c.args.numbers.now (omega (arith, c.requires.count, c.loop-place-test.false)))
