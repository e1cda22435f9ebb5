use Rattle.std.proofs.Common.{◌∙◌, List, ap}
use Rattle.task_core.specs.Tasks.{fluent_count}
use Rattle.goal_witness.specs.Lines.{lines_from}
use Rattle.goal_witness.specs.Links.{links_value}
use Rattle.goal_witness.specs.declared.links.Link.{Link}
use Rattle.counterexamples.proofs.Missed.{told_miss}
use Rattle.counterexamples.proofs.misses.told.Goals as goal

pub returns : goal.returns
returns c = λ plan tree is.
    let n = fluent_count c.args.task.now in
    told_miss c.args.task.now plan tree c.args.fair c.args.witness c.in_ok-number.number c.in_ok-lines.lines.items
    c.in_ok-number.ensures (c.in_ok-lines.ensures n ∙ ap (λ (links : List Link). lines_from 0 (links_value n links)) c.deref.ensures.value) is
