use Rattle.std.proofs.Common.{◌<◌, sym, ◌∙◌, subst}
use Rattle.exec_graph.specs.Rows.{row_count}
use Rattle.exec_graph.proofs.RowFacts.{counted_none}
use Rattle.exec_graph.proofs.rows.counted.Goals as goal

pub loop-i-init : goal.loop-i-init
loop-i-init c =
    counted_none (row_count c.args.rows.now) c.in_ok-counts.counts.items (c.in_ok-counts.ensures.count ∙ c.len-len.ensures)
    (λ i l. c.in_ok-counts.ensures.each i (subst (λ n. i < n) (sym c.len-len.ensures) l))
