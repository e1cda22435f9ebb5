use Rattle.std.proofs.Common.{◌≡◌, ◌<◌, ◌∙◌, ap, arith, length, refl, sym}
use Rattle.std.proofs.lemmas.Result.{err_from_is_err_and}
use Rattle.std.specs.List.{list_any, range_with_len}
use Rattle.plan_certs.specs.Named.{set_of}
use Rattle.list_laws.proofs.Elements.{Contains-range_with_len, list_any-from}
use Rattle.slot_board.proofs.BoardSlots.{made_at, same_actions}
use Rattle.slot_board.proofs.Endings.{found_of, passed_on}
use Rattle.task_core.specs.Tasks.{action_count}
use Rattle.cert_check.specs.Sets.{leaves_by}
use Rattle.cert_check.proofs.CubeLoops.{actions_more}
use Rattle.cert_check.proofs.judging.some_is_way_out.Goals as goal

pub loop-a-init : goal.loop-a-init
loop-a-init c start f has fits = (has, refl)

pub is_way_out-requires-clause-ready : goal.is_way_out-requires-clause-ready
is_way_out-requires-clause-ready c = let r = c.requires.ready in (r.0, r.1, (c.loop-a.invariant r.0 r.1 r.2 r.3).0, r.3)

pub is_way_out-requires-clause-action : goal.is_way_out-requires-clause-action
is_way_out-requires-clause-action c =
    let r = c.requires.ready in
    let e : length c.loop-a.enc.actions ≡ length c.args.enc.now.actions = same_actions r.0 c.args.enc.now c.loop-a.enc c.args.board.now.slots.items c.loop-a.board.slots.items r.2.by_union.at (c.loop-a.invariant r.0 r.1 r.2 r.3).0.by_union.at in
    omega (arith, c.requires.actions, c.loop-a-test.true)

pub returns-in_err-is_way_out : goal.returns-in_err-is_way_out
returns-in_err-is_way_out c start f has fits =
    passed_on start c.is_way_out.new.enc c.is_way_out.new.board.slots.items _ _ c.is_way_out.result c.from_residual.result _ c.in_err-is_way_out.was (err_from_is_err_and c.from_residual.result c.from_residual.ensures.1)
    (c.is_way_out.ensures start f (c.loop-a.invariant start f has fits).0 fits)

pub returns-then-branch : goal.returns-then-branch
returns-then-branch c start f has fits =
    let count : length c.args.enc.now.actions ≡ action_count start.task = (made_at start c.args.enc.now c.args.board.now.slots.items has.by_union.at).actions in
    let within : c.loop-a.a < action_count start.task = omega (arith, c.requires.actions, c.loop-a-test.true) in
    let now = found_of start c.is_way_out.new.enc c.is_way_out.new.board.slots.items _ c.is_way_out.result _ c.in_ok-is_way_out.was (c.is_way_out.ensures start f (c.loop-a.invariant start f has fits).0 fits) in
    (now.0, sym (list_any-from (leaves_by c.args.asked.class start.task f (set_of c.args.set.now)) (range_with_len 0 (action_count start.task)) c.loop-a.a (Contains-range_with_len (action_count start.task) c.loop-a.a within) (sym now.1 ∙ c.if-branch.true)))

pub loop-a-preserved : goal.loop-a-preserved
loop-a-preserved c start f has fits =
    let half = c.loop-a.invariant start f has fits in
    let now = found_of start c.is_way_out.new.enc c.is_way_out.new.board.slots.items _ c.is_way_out.result _ c.in_ok-is_way_out.was (c.is_way_out.ensures start f half.0 fits) in
    (now.0, actions_more (leaves_by c.args.asked.class start.task f (set_of c.args.set.now)) c.loop-a.a half.1 (sym c.if-branch.false ∙ now.1))

pub returns : goal.returns
returns c start f has fits =
    let count : length c.args.enc.now.actions ≡ action_count start.task = (made_at start c.args.enc.now c.args.board.now.slots.items has.by_union.at).actions in
    let half = c.loop-a.invariant start f has fits in
    let all : c.loop-a.a ≡ action_count start.task = omega (arith, c.requires.actions, c.loop-a-test.false) in
    (half.0, sym (ap (λ k. list_any (leaves_by c.args.asked.class start.task f (set_of c.args.set.now)) (range_with_len 0 k)) (sym all) ∙ half.1))
