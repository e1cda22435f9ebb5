use Rattle.std.proofs.Common.{◌≡◌, arith, length}
use Rattle.std.proofs.lemmas.Result.{err_from_is_err_and}
use Rattle.plan_certs.specs.Named.{set_of}
use Rattle.slot_board.proofs.BoardSlots.{same_actions, went}
use Rattle.slot_board.proofs.Endings.{found_of, passed_on}
use Rattle.cert_check.proofs.KeptLemmas.{passed_over, union_same}
use Rattle.cert_check.proofs.ShownLemmas.{states_small, union_is}
use Rattle.cert_check.proofs.judging.look_at.Goals as goal

pub make_set-requires : goal.make_set-requires
make_set-requires c = let r = c.requires.ready in (r.0, r.1, r.2, r.3.by_set)

pub returns-in_err-make_set : goal.returns-in_err-make_set
returns-in_err-make_set c start f union fits kept =
    passed_on start c.make_set.new.enc c.make_set.new.board.slots.items _ _ c.make_set.result c.from_residual.result _ c.in_err-make_set.was (err_from_is_err_and c.from_residual.result c.from_residual.ensures.1) (c.make_set.ensures start f union fits.by_set)

pub adds_nothing-requires : goal.adds_nothing-requires
adds_nothing-requires c =
    let r = c.requires.ready in
    (r.0, r.1, _, went r.0 c.make_set.new.enc c.make_set.new.board.slots.items _ c.make_set.result _ c.in_ok-make_set.was (c.make_set.ensures r.0 r.1 r.2 r.3.by_set), r.3.by_set.board, r.3.union, states_small r.0 (set_of c.args.set.now) r.3.by_set)

pub returns-in_err-adds_nothing : goal.returns-in_err-adds_nothing
returns-in_err-adds_nothing c start f union fits kept =
    let has = went start c.make_set.new.enc c.make_set.new.board.slots.items _ c.make_set.result _ c.in_ok-make_set.was (c.make_set.ensures start f union fits.by_set) in
    passed_on start c.adds_nothing.new.enc c.adds_nothing.new.board.slots.items _ _ c.adds_nothing.result c.from_residual-in_err-adds_nothing.result _ c.in_err-adds_nothing.was (err_from_is_err_and c.from_residual-in_err-adds_nothing.result c.from_residual-in_err-adds_nothing.ensures.1)
    (c.adds_nothing.ensures start f _ has fits.by_set.board fits.union (states_small start (set_of c.args.set.now) fits.by_set))

pub returns-then-branch : goal.returns-then-branch
returns-then-branch c start f union fits kept =
    let has = went start c.make_set.new.enc c.make_set.new.board.slots.items _ c.make_set.result _ c.in_ok-make_set.was (c.make_set.ensures start f union fits.by_set) in
    let now = found_of start c.adds_nothing.new.enc c.adds_nothing.new.board.slots.items _ c.adds_nothing.result _ c.in_ok-adds_nothing.was
    (c.adds_nothing.ensures start f _ has fits.by_set.board fits.union (states_small start (set_of c.args.set.now) fits.by_set)) in
    let same = now.1 c.if-branch.true in
    record {
      at = now.0.by_union.at;
      sound = now.0.by_union.sound;
      is = passed_over c.args.asked.class start.task f (set_of c.args.set.now) same.0 kept same.1;
      union = λ false. union_is start c.adds_nothing.new.enc c.adds_nothing.new.board.slots.items f _ now.0.by_union (union_same f _ same.1);
    }

pub look_closer-requires-clause-ready : goal.look_closer-requires-clause-ready
look_closer-requires-clause-ready c =
    let r = c.requires.ready in
    let has = went r.0 c.make_set.new.enc c.make_set.new.board.slots.items _ c.make_set.result _ c.in_ok-make_set.was (c.make_set.ensures r.0 r.1 r.2 r.3.by_set) in (
      r.0,
      r.1,
      (found_of r.0 c.adds_nothing.new.enc c.adds_nothing.new.board.slots.items _ c.adds_nothing.result _ c.in_ok-adds_nothing.was
          (c.adds_nothing.ensures r.0 r.1 _ has r.3.by_set.board r.3.union (states_small r.0 (set_of c.args.set.now) r.3.by_set))).0,
      r.3,
    )

pub look_closer-requires-clause-actions : goal.look_closer-requires-clause-actions
look_closer-requires-clause-actions c =
    let r = c.requires.ready in
    let has = went r.0 c.make_set.new.enc c.make_set.new.board.slots.items _ c.make_set.result _ c.in_ok-make_set.was (c.make_set.ensures r.0 r.1 r.2 r.3.by_set) in
    let now = found_of r.0 c.adds_nothing.new.enc c.adds_nothing.new.board.slots.items _ c.adds_nothing.result _ c.in_ok-adds_nothing.was
    (c.adds_nothing.ensures r.0 r.1 _ has r.3.by_set.board r.3.union (states_small r.0 (set_of c.args.set.now) r.3.by_set)) in
    let e : length c.adds_nothing.new.enc.actions ≡ length c.args.enc.now.actions = same_actions r.0 c.args.enc.now c.adds_nothing.new.enc c.args.board.now.slots.items c.adds_nothing.new.board.slots.items r.2.at now.0.by_union.at in
    omega (arith, c.requires.actions)

pub returns : goal.returns
returns c start f union fits kept =
    let has = went start c.make_set.new.enc c.make_set.new.board.slots.items _ c.make_set.result _ c.in_ok-make_set.was (c.make_set.ensures start f union fits.by_set) in
    let now = found_of start c.adds_nothing.new.enc c.adds_nothing.new.board.slots.items _ c.adds_nothing.result _ c.in_ok-adds_nothing.was
    (c.adds_nothing.ensures start f _ has fits.by_set.board fits.union (states_small start (set_of c.args.set.now) fits.by_set)) in
    c.look_closer.ensures start f now.0 fits
