-- The test, the next layer, and whether it is the same set.
use Rattle.std.proofs.Common.{◌≡◌, ◌∙◌, arith, length, sym}
use Rattle.std.proofs.lemmas.Bool.{both_ways}
use Rattle.std.proofs.lemmas.Result.{err_from_is_err_and}
use Rattle.slot_board.proofs.BoardSlots.{made_at, same_actions, went}
use Rattle.slot_board.proofs.Endings.{passed_on}
use Rattle.task_core.specs.Tasks.{action_count}
use Rattle.reach_plan.specs.Steps.{untaken}
use Rattle.reach_plan.proofs.PlaceFits.{next_layer_small, test_fits}
use Rattle.reach_plan.proofs.SearchSteps.{begins_still, covered_at, is_more, is_still}
use Rattle.reach_plan.proofs.search.one_round.Goals as goal

pub covers_initial-requires-clause-working : goal.covers_initial-requires-clause-working
covers_initial-requires-clause-working c = let r = c.requires.ready in (r.0, r.2.begins.by_layer.at)

pub returns-in_err-covered : goal.returns-in_err-covered
returns-in_err-covered c start k ready =
    let p = err_from_is_err_and c.from_residual.result c.from_residual.ensures.1 in
    passed_on start c.covers_initial.new.enc c.args.board.now.slots.items _ _ c.covers_initial.result c.from_residual.result _ c.in_err-covered.was p (c.covers_initial.ensures.left start ready.begins.by_layer.at (test_fits c.args.aim.class start c.args.enc.now c.args.board.now.slots.items ready.f untaken ready.h ready.begins.by_layer ready.begins.known))

pub returns-then-covered : goal.returns-then-covered
returns-then-covered c start k ready = record {
  has = record {
    f = ready.f;
    h = ready.h;
    begins = begins_still c.args.aim.class start c.args.enc.now c.covers_initial.new.enc c.args.board.now.slots.items ready.f ready.h c.args.steps.now.items c.args.spent.now.items c.requires.places (c.in_ok-covered.ensures.left start ready.begins.by_layer.at (test_fits c.args.aim.class start c.args.enc.now c.args.board.now.slots.items ready.f untaken ready.h ready.begins.by_layer ready.begins.known)) ready.begins;
    round = ready.round;
  };
  covered = sym (covered_at c.args.aim.class start c.args.enc.now c.args.board.now.slots.items k c.args.steps.now.items c.args.spent.now.items c.in_ok-covered.covered ready (c.in_ok-covered.ensures.answer start ready.begins.by_layer.at)) ∙ c.if-covered.true;
}

pub grow-requires-clause-ready : goal.grow-requires-clause-ready
grow-requires-clause-ready c =
    let r = c.requires.ready in
    let mid = c.covers_initial.new.enc in
    let old = c.args.board.now.slots.items in
    (r.0, r.1, r.2.f, r.2.h, begins_still c.args.aim.class r.0 c.args.enc.now mid old r.2.f r.2.h c.args.steps.now.items c.args.spent.now.items c.requires.places (c.in_ok-covered.ensures.left r.0 r.2.begins.by_layer.at (test_fits c.args.aim.class r.0 c.args.enc.now c.args.board.now.slots.items r.2.f untaken r.2.h r.2.begins.by_layer r.2.begins.known)) r.2.begins)

pub grow-requires-clause-actions : goal.grow-requires-clause-actions
grow-requires-clause-actions c =
    let r = c.requires.ready in
    let e : length c.covers_initial.new.enc.actions ≡ length c.args.enc.now.actions = same_actions r.0 c.args.enc.now c.covers_initial.new.enc c.args.board.now.slots.items c.args.board.now.slots.items r.2.begins.by_layer.at (c.in_ok-covered.ensures.left r.0 r.2.begins.by_layer.at (test_fits c.args.aim.class r.0 c.args.enc.now c.args.board.now.slots.items r.2.f untaken r.2.h r.2.begins.by_layer r.2.begins.known)).at in
    omega (arith, c.requires.actions)

pub returns-in_err-grow : goal.returns-in_err-grow
returns-in_err-grow c start k ready =
    let p = err_from_is_err_and c.from_residual-in_err-grow.result c.from_residual-in_err-grow.ensures.1 in
    let mid = c.covers_initial.new.enc in
    let old = c.args.board.now.slots.items in
    let stays = begins_still c.args.aim.class start c.args.enc.now mid old ready.f ready.h c.args.steps.now.items c.args.spent.now.items c.requires.places (c.in_ok-covered.ensures.left start ready.begins.by_layer.at (test_fits c.args.aim.class start c.args.enc.now c.args.board.now.slots.items ready.f untaken ready.h ready.begins.by_layer ready.begins.known)) ready.begins in
    passed_on start c.grow.new.enc c.grow.new.board.slots.items _ _ c.grow.result c.from_residual-in_err-grow.result _ c.in_err-grow.was p (c.grow.ensures start k ready.f ready.h stays)

pub is_same-requires-clause-working : goal.is_same-requires-clause-working
is_same-requires-clause-working c =
    let r = c.requires.ready in
    let mid = c.covers_initial.new.enc in
    let old = c.args.board.now.slots.items in
    let stays = begins_still c.args.aim.class r.0 c.args.enc.now mid old r.2.f r.2.h c.args.steps.now.items c.args.spent.now.items c.requires.places (c.in_ok-covered.ensures.left r.0 r.2.begins.by_layer.at (test_fits c.args.aim.class r.0 c.args.enc.now c.args.board.now.slots.items r.2.f untaken r.2.h r.2.begins.by_layer r.2.begins.known)) r.2.begins in
    let grown = went r.0 c.grow.new.enc c.grow.new.board.slots.items _ c.grow.result _ c.in_ok-grow.was (c.grow.ensures r.0 r.1 r.2.f r.2.h stays) in
    (r.0, grown.by_next.by_layer.at)

pub is_same-requires-clause-a : goal.is_same-requires-clause-a
is_same-requires-clause-a c =
    let r = c.requires.ready in
    let mid = c.covers_initial.new.enc in
    let old = c.args.board.now.slots.items in
    let stays = begins_still c.args.aim.class r.0 c.args.enc.now mid old r.2.f r.2.h c.args.steps.now.items c.args.spent.now.items c.requires.places (c.in_ok-covered.ensures.left r.0 r.2.begins.by_layer.at (test_fits c.args.aim.class r.0 c.args.enc.now c.args.board.now.slots.items r.2.f untaken r.2.h r.2.begins.by_layer r.2.begins.known)) r.2.begins in
    let grown = went r.0 c.grow.new.enc c.grow.new.board.slots.items _ c.grow.result _ c.in_ok-grow.was (c.grow.ensures r.0 r.1 r.2.f r.2.h stays) in
    let now : length c.grow.new.board.slots.items ≡ r.0.places = grown.by_next.by_layer.at.long in
    let was : length c.args.board.now.slots.items ≡ r.0.places = r.2.begins.by_layer.at.long in
    omega (arith, c.requires.places)

pub is_same-requires-clause-b : goal.is_same-requires-clause-b
is_same-requires-clause-b c =
    let r = c.requires.ready in
    let mid = c.covers_initial.new.enc in
    let old = c.args.board.now.slots.items in
    let stays = begins_still c.args.aim.class r.0 c.args.enc.now mid old r.2.f r.2.h c.args.steps.now.items c.args.spent.now.items c.requires.places (c.in_ok-covered.ensures.left r.0 r.2.begins.by_layer.at (test_fits c.args.aim.class r.0 c.args.enc.now c.args.board.now.slots.items r.2.f untaken r.2.h r.2.begins.by_layer r.2.begins.known)) r.2.begins in
    let grown = went r.0 c.grow.new.enc c.grow.new.board.slots.items _ c.grow.result _ c.in_ok-grow.was (c.grow.ensures r.0 r.1 r.2.f r.2.h stays) in
    let now : length c.grow.new.board.slots.items ≡ r.0.places = grown.by_next.by_layer.at.long in
    let was : length c.args.board.now.slots.items ≡ r.0.places = r.2.begins.by_layer.at.long in
    omega (arith, c.requires.places)

pub advance-requires-clause-ready : goal.advance-requires-clause-ready
advance-requires-clause-ready c =
    let r = c.requires.ready in
    let mid = c.covers_initial.new.enc in
    let old = c.args.board.now.slots.items in
    let stays = begins_still c.args.aim.class r.0 c.args.enc.now mid old r.2.f r.2.h c.args.steps.now.items c.args.spent.now.items c.requires.places (c.in_ok-covered.ensures.left r.0 r.2.begins.by_layer.at (test_fits c.args.aim.class r.0 c.args.enc.now c.args.board.now.slots.items r.2.f untaken r.2.h r.2.begins.by_layer r.2.begins.known)) r.2.begins in
    let grown = went r.0 c.grow.new.enc c.grow.new.board.slots.items _ c.grow.result _ c.in_ok-grow.was (c.grow.ensures r.0 r.1 r.2.f r.2.h stays) in
    let all : c.args.aim.actions ≡ action_count r.0.task = c.requires.actions ∙ (made_at r.0 c.args.enc.now old r.2.begins.by_layer.at).actions in
    (r.0, _, _, grown.by_next, next_layer_small c.args.aim.class r.0 r.2.f r.2.h c.args.aim.actions grown.known (omega arith))

pub advance-requires-clause-places : goal.advance-requires-clause-places
advance-requires-clause-places c =
    let r = c.requires.ready in
    let mid = c.covers_initial.new.enc in
    let old = c.args.board.now.slots.items in
    let stays = begins_still c.args.aim.class r.0 c.args.enc.now mid old r.2.f r.2.h c.args.steps.now.items c.args.spent.now.items c.requires.places (c.in_ok-covered.ensures.left r.0 r.2.begins.by_layer.at (test_fits c.args.aim.class r.0 c.args.enc.now c.args.board.now.slots.items r.2.f untaken r.2.h r.2.begins.by_layer r.2.begins.known)) r.2.begins in
    let grown = went r.0 c.grow.new.enc c.grow.new.board.slots.items _ c.grow.result _ c.in_ok-grow.was (c.grow.ensures r.0 r.1 r.2.f r.2.h stays) in
    let now : length c.grow.new.board.slots.items ≡ r.0.places = grown.by_next.by_layer.at.long in
    let was : length c.args.board.now.slots.items ≡ r.0.places = r.2.begins.by_layer.at.long in
    omega (arith, c.requires.places)

pub returns-then-is_same : goal.returns-then-is_same
returns-then-is_same c start k ready =
    let mid = c.covers_initial.new.enc in
    let old = c.args.board.now.slots.items in
    let stays = begins_still c.args.aim.class start c.args.enc.now mid old ready.f ready.h c.args.steps.now.items c.args.spent.now.items c.requires.places (c.in_ok-covered.ensures.left start ready.begins.by_layer.at (test_fits c.args.aim.class start c.args.enc.now c.args.board.now.slots.items ready.f untaken ready.h ready.begins.by_layer ready.begins.known)) ready.begins in
    let grown = went start c.grow.new.enc c.grow.new.board.slots.items _ c.grow.result _ c.in_ok-grow.was (c.grow.ensures start k ready.f ready.h stays) in
    let short = sym (covered_at c.args.aim.class start c.args.enc.now old k c.args.steps.now.items c.args.spent.now.items c.in_ok-covered.covered ready (c.in_ok-covered.ensures.answer start ready.begins.by_layer.at)) ∙ c.if-covered.false in
    let all : c.args.aim.actions ≡ action_count start.task = c.requires.actions ∙ (made_at start c.args.enc.now old ready.begins.by_layer.at).actions in
    is_still c.preimages_lead_into_their_sets.ensures.weak c.preimages_lead_into_their_sets.ensures.strong c.args.aim.class start c.grow.new.enc c.grow.new.board.slots.items k c.args.aim.actions ready.f ready.h c.grow.new.steps.items c.grow.new.spent.items ready.round short all grown
    (c.is_same.ensures.0 c.if-is_same.true)

pub returns-in_err-advance : goal.returns-in_err-advance
returns-in_err-advance c start k ready =
    let p = err_from_is_err_and c.from_residual-in_err-advance.result c.from_residual-in_err-advance.ensures.1 in
    let mid = c.covers_initial.new.enc in
    let old = c.args.board.now.slots.items in
    let stays = begins_still c.args.aim.class start c.args.enc.now mid old ready.f ready.h c.args.steps.now.items c.args.spent.now.items c.requires.places (c.in_ok-covered.ensures.left start ready.begins.by_layer.at (test_fits c.args.aim.class start c.args.enc.now c.args.board.now.slots.items ready.f untaken ready.h ready.begins.by_layer ready.begins.known)) ready.begins in
    let grown = went start c.grow.new.enc c.grow.new.board.slots.items _ c.grow.result _ c.in_ok-grow.was (c.grow.ensures start k ready.f ready.h stays) in
    let all : c.args.aim.actions ≡ action_count start.task = c.requires.actions ∙ (made_at start c.args.enc.now old ready.begins.by_layer.at).actions in
    passed_on start c.advance.new.enc c.advance.new.board.slots.items _ _ c.advance.result c.from_residual-in_err-advance.result _ c.in_err-advance.was p (c.advance.ensures start _ _ grown.by_next (next_layer_small c.args.aim.class start ready.f ready.h c.args.aim.actions grown.known (omega arith)))

pub returns : goal.returns
returns c start k ready =
    let mid = c.covers_initial.new.enc in
    let old = c.args.board.now.slots.items in
    let stays = begins_still c.args.aim.class start c.args.enc.now mid old ready.f ready.h c.args.steps.now.items c.args.spent.now.items c.requires.places (c.in_ok-covered.ensures.left start ready.begins.by_layer.at (test_fits c.args.aim.class start c.args.enc.now c.args.board.now.slots.items ready.f untaken ready.h ready.begins.by_layer ready.begins.known)) ready.begins in
    let grown = went start c.grow.new.enc c.grow.new.board.slots.items _ c.grow.result _ c.in_ok-grow.was (c.grow.ensures start k ready.f ready.h stays) in
    let short = sym (covered_at c.args.aim.class start c.args.enc.now old k c.args.steps.now.items c.args.spent.now.items c.in_ok-covered.covered ready (c.in_ok-covered.ensures.answer start ready.begins.by_layer.at)) ∙ c.if-covered.false in
    let all : c.args.aim.actions ≡ action_count start.task = c.requires.actions ∙ (made_at start c.args.enc.now old ready.begins.by_layer.at).actions in
    is_more c.preimages_lead_into_their_sets.ensures.weak c.preimages_lead_into_their_sets.ensures.strong c.args.aim.class start c.grow.new.enc c.grow.new.board.slots.items k c.args.aim.actions ready.f ready.h c.grow.new.steps.items c.grow.new.spent.items ready.round short all grown
    c.advance.new.enc c.advance.new.board.slots.items c.advance.new.steps.items _ ready.begins.by_layer.holds_layer
    (λ same. both_ways c.is_same.result c.if-is_same.false (c.is_same.ensures.1 same))
    (went start c.advance.new.enc c.advance.new.board.slots.items _ c.advance.result _ c.in_ok-advance.was (c.advance.ensures start _ _ grown.by_next (next_layer_small c.args.aim.class start ready.f ready.h c.args.aim.actions grown.known (omega arith))))
