use Rattle.std.proofs.Common.{length, sym, ◌∙◌}
use Rattle.exec_graph.specs.Numbers.{numbers_of}
use Rattle.exec_graph.proofs.Lengths.{all_lengths}
use Rattle.exec_graph.proofs.graphs.Graph.edge_count.Goals as goal

pub returns-clause-next : goal.returns-clause-next
returns-clause-next c =
    let graph = c.args.self.now in
    c.len.ensures ∙ sym (all_lengths graph.next.starts.items (numbers_of graph.next.numbers) (length graph.places.keys) graph.next_rows graph.each_has_next)

pub returns-clause-prev : goal.returns-clause-prev
returns-clause-prev c =
    let graph = c.args.self.now in
    c.len.ensures ∙ sym graph.even ∙ sym (all_lengths graph.prev.starts.items (numbers_of graph.prev.numbers) (length graph.places.keys) graph.prev_rows graph.each_has_prev)
