use Rattle.std.proofs.Common.{codes}
use Rattle.plan_rules.specs.Texts.{line_feed}
use Rattle.rule_picture.proofs.Joined.{three_parts}
use Rattle.rule_picture.proofs.text.push_edge.Goals as goal

pub returns : goal.returns
returns c =
    three_parts c.args.out.now.items _ _ (codes "\"];") line_feed c.in_ok-push_edge_front.ensures (rw c.deref.ensures.value at c.in_ok-push_changes.ensures) c.in_ok-push_text.ensures
