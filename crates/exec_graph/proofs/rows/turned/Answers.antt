use Rattle.std.proofs.Common.{◌≡◌, ◌<◌, ◌^◌, slice_index_or, sym, ◌∙◌, subst, arith}
use Rattle.std.specs.List.{sum}
use Rattle.exec_graph.specs.Rows.{HasRoom, IsCounted, edges_of, row_count, row_of}
use Rattle.exec_graph.specs.Numbers.{numbers_of}
use Rattle.exec_graph.proofs.RowFacts.{counted_all, room_end, room_made, room_rows}
use Rattle.exec_graph.proofs.rows.turned.Goals as goal

pub starts_of-requires : goal.starts_of-requires
starts_of-requires c =
    let rows = c.args.rows.now in
    let all = counted_all rows.starts.items (numbers_of rows.numbers) c.requires.rows c.in_ok-counts.counts.items c.in_ok-counts.ensures in
    subst (λ xs. sum xs < 2 ^ 64) (sym c.deref.ensures.value) (omega (arith, c.len-edges.ensures))

pub filled-requires-clause-room : goal.filled-requires-clause-room
filled-requires-clause-room c =
    let rows = c.args.rows.now in
    let counted = subst (λ xs. IsCounted (row_count rows) xs (edges_of (row_of rows) (row_count rows))) (sym c.deref.ensures.value) c.in_ok-counts.ensures in
    subst (λ xs. HasRoom (row_count rows) xs (edges_of (row_of rows) (row_count rows))) (sym c.deref-2.ensures.value)
    (room_made (row_count rows) c.deref.result.now c.in_ok-starts.starts.items (edges_of (row_of rows) (row_count rows)) counted c.in_ok-starts.ensures.count c.in_ok-starts.ensures.each)

pub filled-requires-clause-end : goal.filled-requires-clause-end
filled-requires-clause-end c =
    let rows = c.args.rows.now in
    let counted = subst (λ xs. IsCounted (row_count rows) xs (edges_of (row_of rows) (row_count rows))) (sym c.deref.ensures.value) c.in_ok-counts.ensures in
    let end = room_end (row_count rows) c.deref.result.now c.in_ok-starts.starts.items (edges_of (row_of rows) (row_count rows)) counted c.in_ok-starts.ensures.each in
    let all = counted_all rows.starts.items (numbers_of rows.numbers) c.requires.rows c.in_ok-counts.counts.items c.in_ok-counts.ensures in
    subst (λ xs. slice_index_or xs (row_count rows) 0 ≡ c.len-edges.result) (sym c.deref-2.ensures.value)
    (end ∙ sym c.in_ok-counts.ensures.all ∙ all ∙ sym c.len-edges.ensures)

pub returns-clause-rows : goal.returns-clause-rows
returns-clause-rows c =
    let rows = c.args.rows.now in
    let edges = edges_of (row_of rows) (row_count rows) in
    let starts = c.in_ok-starts.starts.items in
    let counted = subst (λ xs. IsCounted (row_count rows) xs edges) (sym c.deref.ensures.value) c.in_ok-counts.ensures in
    let room = room_made (row_count rows) c.deref.result.now starts edges counted c.in_ok-starts.ensures.count c.in_ok-starts.ensures.each in
    let end = room_end (row_count rows) c.deref.result.now starts edges counted c.in_ok-starts.ensures.each in
    let all = counted_all rows.starts.items (numbers_of rows.numbers) c.requires.rows c.in_ok-counts.counts.items c.in_ok-counts.ensures in
    room_rows (row_count rows) starts (numbers_of c.in_ok-numbers.numbers) edges room (c.in_ok-starts.ensures.each 0 (omega arith))
    (end ∙ sym c.in_ok-counts.ensures.all ∙ all ∙ sym c.len-edges.ensures ∙ sym c.in_ok-numbers.ensures.count)
