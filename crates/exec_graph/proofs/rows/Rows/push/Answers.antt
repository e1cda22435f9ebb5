use Rattle.exec_graph.specs.Numbers.{numbers_of}
use Rattle.exec_graph.proofs.RowFacts.{pushed_value}
use Rattle.exec_graph.proofs.rows.Rows.push.Goals as goal

pub returns-clause-more : goal.returns-clause-more
returns-clause-more c =
    pushed_value c.args.self.now.starts.items (numbers_of c.args.self.now.numbers) c.args.numbers.now c.push.new.self.items (numbers_of c.push_all.new.numbers) c.len.result
    c.requires.rows c.in_ok-push_all.ensures c.len.ensures c.in_ok-push.ensures.items
