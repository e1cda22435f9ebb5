use Rattle.cert_check.proofs.UnionLemmas.{initial_fits}
use Rattle.cert_check.proofs.verdict.holds_initial.Goals as goal

pub has_common-requires : goal.has_common-requires
has_common-requires c = let r = c.requires in (r.0, _, _, r.3, initial_fits r.0 c.args.enc.now c.args.board.now.slots.items r.1 r.2 r.3.at r.4 c.initial-initial.result c.initial-initial.ensures)

pub returns : goal.returns
returns c start class sets union fits = c.has_common.ensures start _ _ union (initial_fits start c.args.enc.now c.args.board.now.slots.items class sets union.at fits c.initial-initial.result c.initial-initial.ensures)
