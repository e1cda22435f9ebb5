use Rattle.std.proofs.Common.{◌∙◌, sym}
use Rattle.cert_check.proofs.UnionLemmas.{goal_fits}
use Rattle.cert_check.proofs.verdict.holds_goal.Goals as goal

pub has_common-requires : goal.has_common-requires
has_common-requires c = let r = c.requires.ready in (r.0, _, _, r.3, goal_fits r.0 c.args.enc.now c.args.board.now.slots.items r.1 r.2 r.3.at r.4 c.unwrap-goal.result (sym c.goal.ensures ∙ c.unwrap-goal.ensures))

pub returns : goal.returns
returns c start class sets union fits = c.has_common.ensures start _ _ union (goal_fits start c.args.enc.now c.args.board.now.slots.items class sets union.at fits c.unwrap-goal.result (sym c.goal.ensures ∙ c.unwrap-goal.ensures))
