-- Each pair was there before, or is the new one.
use Rattle.dd_sets.proofs.RebuildLemmas.{memo_added}
use Rattle.dd_sets.proofs.rebuild.remember.Goals as goal

pub returns : goal.returns
returns c from to order memo rebuilt = memo_added from order to c.args.memo.now.pairs c.keep.new.self.pairs c.args.number.0 c.args.r.0 c.key_of.result c.key_of.ensures c.keep.ensures.others memo rebuilt
