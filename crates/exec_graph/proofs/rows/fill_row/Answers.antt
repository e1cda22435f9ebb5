use Rattle.std.proofs.Common.{◌≡◌, ◌<◌, ◌+◌, slice_index_or, slice_set, length, refl, sym, ap, ◌∙◌, subst, arith, inl, inr, ⊎_elim}
use Rattle.std.proofs.lemmas.List.{length-set}
use Rattle.exec_graph.specs.Numbers.{numbers_of}
use Rattle.exec_graph.specs.Rows.{IsFilled, row_count, row_of}
use Rattle.exec_graph.proofs.RowFacts.{end_fits, filled_step, item_inside, row_begun, row_done}
use Rattle.exec_graph.proofs.rows.fill_row.Goals as goal

pub loop-k-init : goal.loop-k-init
loop-k-init c = record {
  count = refl;
  roomy = c.requires.roomy;
  filled = subst (IsFilled (row_count c.args.rows.now) c.args.starts.now c.args.ends.now.items (numbers_of c.args.numbers.now)) (row_begun (row_of c.args.rows.now) c.args.i) c.requires.filled;
}

pub number-requires-clause-number : goal.number-requires-clause-number
number-requires-clause-number c = subst (λ m. c.loop-k.k < m) c.row_len-k-end.ensures c.loop-k-test.true

pub put-requires-clause-number : goal.put-requires-clause-number
put-requires-clause-number c =
    let rows = c.args.rows.now in
    let k = c.loop-k.k in
    let read = row_of rows c.args.i in
    let within : k < length read = subst (λ m. k < m) c.row_len-k-end.ensures c.loop-k-test.true in
    let l = item_inside (row_of rows) (row_count rows) c.args.i k read c.requires.inside refl c.requires.place within in
    omega (arith, c.loop-k.invariant.filled.count, c.number.ensures)

pub put-requires-clause-room : goal.put-requires-clause-room
put-requires-clause-room c =
    let rows = c.args.rows.now in
    let k = c.loop-k.k in
    let read = row_of rows c.args.i in
    let within : k < length read = subst (λ m. k < m) c.row_len-k-end.ensures c.loop-k-test.true in
    let l = item_inside (row_of rows) (row_count rows) c.args.i k read c.requires.inside refl c.requires.place within in
    subst (λ j. slice_index_or c.loop-k.ends.items j 0 < length (numbers_of c.loop-k.numbers)) (sym c.number.ensures)
    (end_fits (row_of rows) (row_count rows) c.args.starts.now c.loop-k.ends.items (numbers_of c.loop-k.numbers) c.args.i k read refl within
    c.requires.room (c.requires.end ∙ sym c.loop-k.invariant.count) c.requires.place c.loop-k.invariant.filled l)

pub put-requires-clause-roomy : goal.put-requires-clause-roomy
put-requires-clause-roomy c =
    let place = c.requires.place in
    ⊎_elim (λ few. inl (omega (arith, few, place))) (λ none. inr none) c.loop-k.invariant.roomy

pub loop-k-preserved : goal.loop-k-preserved
loop-k-preserved c =
    let rows = c.args.rows.now in
    let k = c.loop-k.k in
    let read = row_of rows c.args.i in
    let within : k < length read = subst (λ m. k < m) c.row_len-k-end.ensures c.loop-k-test.true in
    let l = item_inside (row_of rows) (row_count rows) c.args.i k read c.requires.inside refl c.requires.place within in
    let numbers = subst (λ j. numbers_of c.put.new.numbers ≡ slice_set (numbers_of c.loop-k.numbers) (slice_index_or c.loop-k.ends.items j 0) c.args.i) c.number.ensures c.put.ensures.numbers in
    let ends = subst (λ j. c.put.new.ends.items ≡ slice_set c.loop-k.ends.items j (slice_index_or c.loop-k.ends.items j 0 + 1)) c.number.ensures c.put.ensures.ends in
    record {
      count = ap length numbers ∙ length-set (numbers_of c.loop-k.numbers) (slice_index_or c.loop-k.ends.items (slice_index_or read k 0) 0) c.args.i ∙ c.loop-k.invariant.count;
      roomy = ⊎_elim (λ few. inl few) (λ none. inr (c.put.ensures.small ∙ none)) c.loop-k.invariant.roomy;
      filled = filled_step (row_of rows) (row_count rows) c.args.starts.now c.loop-k.ends.items (numbers_of c.loop-k.numbers) c.put.new.ends.items (numbers_of c.put.new.numbers) c.args.i k read refl within
          c.requires.room (c.requires.end ∙ sym c.loop-k.invariant.count) c.requires.place c.loop-k.invariant.filled l numbers ends;
    }

pub returns-clause-filled : goal.returns-clause-filled
returns-clause-filled c =
    subst (IsFilled (row_count c.args.rows.now) c.args.starts.now c.loop-k.ends.items (numbers_of c.loop-k.numbers))
    (row_done (row_of c.args.rows.now) c.args.i c.loop-k.k (row_of c.args.rows.now c.args.i) refl
    (let e = c.loop-k-test.false in omega (arith, c.row_len-k-end.ensures)))
    c.loop-k.invariant.filled
