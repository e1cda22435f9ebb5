use Rattle.std.proofs.lemmas.Result.{err_from_is_err_and}
use Rattle.slot_board.proofs.BoardSlots.{action_within, went}
use Rattle.slot_board.proofs.Endings.{ends_with, passed_on}
use Rattle.cert_check.proofs.CubeLoops.{way_cubes}
use Rattle.cert_check.proofs.judging.is_way_out.Goals as goal

pub make_way_out-requires-clause-ready : goal.make_way_out-requires-clause-ready
make_way_out-requires-clause-ready c = let r = c.requires.ready in (r.0, r.1, _, r.2, r.3)

pub returns-in_err-make_way_out : goal.returns-in_err-make_way_out
returns-in_err-make_way_out c start f has fits =
    passed_on start c.make_way_out.new.enc c.make_way_out.new.board.slots.items _ _ c.make_way_out.result c.from_residual.result _ c.in_err-make_way_out.was (err_from_is_err_and c.from_residual.result c.from_residual.ensures.1)
    (c.make_way_out.ensures start f _ has fits)

pub some_matches_left-requires : goal.some_matches_left-requires
some_matches_left-requires c =
    let r = c.requires.ready in (
      r.0,
      r.1,
      _,
      _,
      went r.0 c.make_way_out.new.enc c.make_way_out.new.board.slots.items _ c.make_way_out.result _ c.in_ok-make_way_out.was (c.make_way_out.ensures r.0 r.1 _ r.2 r.3),
      way_cubes r.0 c.args.way.class r.1 _ c.args.way.action.0 r.3 (action_within r.0 c.args.enc.now c.args.board.now.slots.items c.args.way.action.0 r.2.by_union.at c.requires.action),
    )

pub returns : goal.returns
returns c start f has fits =
    let left = went start c.make_way_out.new.enc c.make_way_out.new.board.slots.items _ c.make_way_out.result _ c.in_ok-make_way_out.was (c.make_way_out.ensures start f _ has fits) in
    ends_with start c.some_matches_left.new.enc c.some_matches_left.new.board.slots.items _ _ c.some_matches_left.result (λ found now. (now.0.by_set, now.1))
    (c.some_matches_left.ensures start f _ _ left (way_cubes start c.args.way.class f _ c.args.way.action.0 fits (action_within start c.args.enc.now c.args.board.now.slots.items c.args.way.action.0 has.by_union.at c.requires.action)))
