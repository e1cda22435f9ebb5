-- The goal first, then round by round.
use Rattle.std.proofs.Common.{◌≡◌, ◌<◌, ◌∙◌, ℕ, false, suc, arith, length, sym, subst}
use Rattle.std.specs.Prelude.{slice_index_or}
use Rattle.std.proofs.lemmas.Result.{err_from_is_err_and}
use Rattle.slot_board.specs.Board.{set_at}
use Rattle.slot_board.proofs.BoardSlots.{goal_live, made_at, same_actions, went}
use Rattle.slot_board.proofs.Endings.{memory_passed, passed_on}
use Rattle.reach_plan.specs.Searches.{RoundLeft, SearchLeft}
use Rattle.reach_plan.specs.declared.search.Round.{Round}
use Rattle.reach_plan.proofs.PlaceFits.{goal_fits}
use Rattle.reach_plan.proofs.SearchSteps.{fewer_after, first_round, found_last, found_none}
use Rattle.reach_plan.proofs.search.search_back.Goals as goal

pub returns-in_err-spent : goal.returns-in_err-spent
returns-in_err-spent c start ready wide =
    let p = err_from_is_err_and c.from_residual.result c.from_residual.ensures.1 in
    memory_passed start c.args.enc.now c.args.board.now.slots.items (SearchLeft c.args.aim.class start c.args.enc.now c.args.board.now.slots.items c.args.steps.now.items) c.none_spent.result c.from_residual.result _ c.in_err-spent.was p c.none_spent.ensures.never_full ready.at

pub copy-requires-clause-working : goal.copy-requires-clause-working
copy-requires-clause-working c = let r = c.requires.ready in (r.0, r.1.at)

pub copy-requires-clause-live : goal.copy-requires-clause-live
copy-requires-clause-live c = let r = c.requires.ready in goal_live r.0 c.args.enc.now c.args.board.now.slots.items c.unwrap-goal.result r.1.at (sym c.goal.ensures ∙ c.unwrap-goal.ensures)

pub returns-in_err-copy : goal.returns-in_err-copy
returns-in_err-copy c start ready wide =
    let p = err_from_is_err_and c.from_residual-in_err-copy.result c.from_residual-in_err-copy.ensures.1 in
    passed_on start c.copy.new.enc c.copy.new.self.slots.items _ _ c.copy.result c.from_residual-in_err-copy.result _ c.in_err-copy.was p (c.copy.ensures start ready.at (goal_fits c.args.aim.class start c.args.enc.now c.unwrap-goal.result 0 wide (made_at start c.args.enc.now c.args.board.now.slots.items ready.at) (sym c.goal.ensures ∙ c.unwrap-goal.ensures)))

pub loop-spent-init : goal.loop-spent-init
loop-spent-init c start ready wide = (
  0,
  first_round c.args.aim.class start c.args.enc.now c.copy.new.enc c.args.board.now.slots.items c.copy.new.self.slots.items c.unwrap-goal.result c.args.steps.now.items c.in_ok-spent.spent.items wide c.requires.places ready (sym c.goal.ensures ∙ c.unwrap-goal.ensures) c.requires.no_steps
      (c.in_ok-spent.ensures.long ∙ c.requires.actions) (subst (λ n. (a : ℕ) → a < n → slice_index_or c.in_ok-spent.spent.items a false ≡ false) c.requires.actions c.in_ok-spent.ensures.none)
      (went start c.copy.new.enc c.copy.new.self.slots.items _ c.copy.result _ c.in_ok-copy.was (c.copy.ensures start ready.at (goal_fits c.args.aim.class start c.args.enc.now c.unwrap-goal.result 0 wide (made_at start c.args.enc.now c.args.board.now.slots.items ready.at) (sym c.goal.ensures ∙ c.unwrap-goal.ensures)))),
)

pub one_round-requires-clause-ready : goal.one_round-requires-clause-ready
one_round-requires-clause-ready c = let r = c.requires.ready in let k = c.loop-spent.invariant r.0 r.1 r.2 in (r.0, k.0, k.1)

pub one_round-requires-clause-places : goal.one_round-requires-clause-places
one_round-requires-clause-places c =
    let r = c.requires.ready in
    let now : length c.loop-spent.board.slots.items ≡ r.0.places = (c.loop-spent.invariant r.0 r.1 r.2).1.begins.by_layer.at.long in
    let was : length c.args.board.now.slots.items ≡ r.0.places = r.1.at.long in
    omega (arith, c.requires.places)

pub one_round-requires-clause-actions : goal.one_round-requires-clause-actions
one_round-requires-clause-actions c =
    let r = c.requires.ready in
    let e : length c.loop-spent.enc.actions ≡ length c.args.enc.now.actions = same_actions r.0 c.args.enc.now c.loop-spent.enc c.args.board.now.slots.items c.loop-spent.board.slots.items r.1.at (c.loop-spent.invariant r.0 r.1 r.2).1.begins.by_layer.at in
    omega (arith, c.requires.actions)

pub returns-in_err-round : goal.returns-in_err-round
returns-in_err-round c start ready wide =
    let p = err_from_is_err_and c.from_residual-in_err-round.result c.from_residual-in_err-round.ensures.1 in
    let k = c.loop-spent.invariant start ready wide in
    passed_on start c.one_round.new.enc c.one_round.new.board.slots.items _ _ c.one_round.result c.from_residual-in_err-round.result _ c.in_err-round.was p (c.one_round.ensures start k.0 k.1)

pub returns-in-Covered : goal.returns-in-Covered
returns-in-Covered c start ready wide =
    let k = c.loop-spent.invariant start ready wide in
    let now = c.one_round.new.enc in
    let slots = c.one_round.new.board.slots.items in
    found_last c.args.aim.class start now slots k.0 c.one_round.new.steps.items c.one_round.new.spent.items
    (subst (λ (round : Round). RoundLeft c.args.aim.class start (set_at c.loop-spent.enc.sets c.loop-spent.board.slots.items 0) now slots k.0 c.one_round.new.steps.items c.one_round.new.spent.items round) c.in-Covered.is (c.in_ok-round.ensures start k.0 k.1))

pub returns-in-Stable : goal.returns-in-Stable
returns-in-Stable c start ready wide =
    let k = c.loop-spent.invariant start ready wide in
    let now = c.one_round.new.enc in
    let slots = c.one_round.new.board.slots.items in
    found_none c.args.aim.class c.requires.class start now slots k.0
    (subst (λ (round : Round). RoundLeft c.args.aim.class start (set_at c.loop-spent.enc.sets c.loop-spent.board.slots.items 0) now slots k.0 c.one_round.new.steps.items c.one_round.new.spent.items round) c.in-Stable.is (c.in_ok-round.ensures start k.0 k.1))

pub loop-spent-smaller : goal.loop-spent-smaller
loop-spent-smaller c =
    let r = c.requires.ready in
    let k = c.loop-spent.invariant r.0 r.1 r.2 in
    let now = c.one_round.new.enc in
    let slots = c.one_round.new.board.slots.items in
    fewer_after c.args.aim.class r.0 c.loop-spent.enc now c.loop-spent.board.slots.items slots k.0 _ _ _ _ k.1
    (subst (λ (round : Round). RoundLeft c.args.aim.class r.0 (set_at c.loop-spent.enc.sets c.loop-spent.board.slots.items 0) now slots k.0 c.one_round.new.steps.items c.one_round.new.spent.items round) c.in-More.is (c.in_ok-round.ensures r.0 k.0 k.1))

pub loop-spent-preserved : goal.loop-spent-preserved
loop-spent-preserved c start ready wide =
    let k = c.loop-spent.invariant start ready wide in
    let now = c.one_round.new.enc in
    let slots = c.one_round.new.board.slots.items in
    let more = subst (λ (round : Round). RoundLeft c.args.aim.class start (set_at c.loop-spent.enc.sets c.loop-spent.board.slots.items 0) now slots k.0 c.one_round.new.steps.items c.one_round.new.spent.items round) c.in-More.is (c.in_ok-round.ensures start k.0 k.1) in
    (suc k.0, more.has)
