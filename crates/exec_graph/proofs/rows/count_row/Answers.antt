use Rattle.std.proofs.Common.{◌≡◌, ◌<◌, ◌+◌, ◌^◌, length, slice_index_or, slice_set, refl, sym, subst, arith}
use Rattle.exec_graph.specs.Numbers.{numbers_of}
use Rattle.exec_graph.specs.Rows.{IsCounted, row_count, row_of}
use Rattle.exec_graph.proofs.RowFacts.{counted_small, counted_step, item_inside, row_begun, row_done}
use Rattle.exec_graph.proofs.rows.count_row.Goals as goal

pub loop-k-init : goal.loop-k-init
loop-k-init c =
    subst (IsCounted (row_count c.args.rows.now) c.args.counts.now.items) (row_begun (row_of c.args.rows.now) c.args.i) c.requires.counted

pub number-requires-clause-number : goal.number-requires-clause-number
number-requires-clause-number c = subst (λ m. c.loop-k.k < m) c.row_len-k-end.ensures c.loop-k-test.true

pub add_one-requires-clause-number : goal.add_one-requires-clause-number
add_one-requires-clause-number c =
    let rows = c.args.rows.now in
    let k = c.loop-k.k in
    let within : k < length (row_of rows c.args.i) = subst (λ m. k < m) c.row_len-k-end.ensures c.loop-k-test.true in
    let l = item_inside (row_of rows) (row_count rows) c.args.i k (row_of rows c.args.i) c.requires.inside refl c.requires.place within in
    omega (arith, c.loop-k.invariant.count, c.number.ensures)

pub add_one-requires-clause-small : goal.add_one-requires-clause-small
add_one-requires-clause-small c =
    let rows = c.args.rows.now in
    let k = c.loop-k.k in
    let within : k < length (row_of rows c.args.i) = subst (λ m. k < m) c.row_len-k-end.ensures c.loop-k-test.true in
    let l = item_inside (row_of rows) (row_count rows) c.args.i k (row_of rows c.args.i) c.requires.inside refl c.requires.place within in
    let place = c.requires.place in
    let most = counted_small rows.starts.items (numbers_of rows.numbers) c.requires.rows (row_count rows) c.loop-k.counts.items c.args.i k (slice_index_or (row_of rows c.args.i) k 0) (row_of rows c.args.i)
    refl (omega arith) within c.loop-k.invariant l in
    subst (λ j. slice_index_or c.loop-k.counts.items j 0 + 1 < 2 ^ 64) (sym c.number.ensures) (omega (arith, most, c.requires.small))

pub loop-k-preserved : goal.loop-k-preserved
loop-k-preserved c =
    let rows = c.args.rows.now in
    let k = c.loop-k.k in
    let within : k < length (row_of rows c.args.i) = subst (λ m. k < m) c.row_len-k-end.ensures c.loop-k-test.true in
    let l = item_inside (row_of rows) (row_count rows) c.args.i k (row_of rows c.args.i) c.requires.inside refl c.requires.place within in
    counted_step (row_of rows) (row_count rows) c.loop-k.counts.items c.add_one.new.counts.items c.args.i k (row_of rows c.args.i) refl within
    c.loop-k.invariant l
    (subst (λ j. c.add_one.new.counts.items ≡ slice_set c.loop-k.counts.items j (slice_index_or c.loop-k.counts.items j 0 + 1)) c.number.ensures c.add_one.ensures)

pub returns : goal.returns
returns c =
    subst (IsCounted (row_count c.args.rows.now) c.loop-k.counts.items)
    (row_done (row_of c.args.rows.now) c.args.i c.loop-k.k (row_of c.args.rows.now c.args.i) refl
    (let e = c.loop-k-test.false in omega (arith, c.row_len-k-end.ensures)))
    c.loop-k.invariant
