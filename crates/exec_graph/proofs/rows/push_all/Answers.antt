use Rattle.std.proofs.Common.{slice_index_or}
use Rattle.std.proofs.lemmas.List.Elements.{Contains-get_or}
use Rattle.exec_graph.proofs.rows.push_all.Goals as goal

pub push-requires : goal.push-requires
push-requires c =
    c.requires (slice_index_or c.args.more.now c.loop-number.number-index 0) (Contains-get_or c.args.more.now c.loop-number.number-index 0 c.loop-number-test.true)
