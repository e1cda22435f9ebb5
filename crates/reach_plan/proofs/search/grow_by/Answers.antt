-- Where the action leads into the layer, whether it is spent, and the next layer with that.
use Rattle.std.proofs.Common.{◌≡◌, ◌+◌, ◌∙◌, ℕ, Bool, false, List, arith, length, ap, subst, sym}
use Rattle.std.specs.Prelude.{slice_index_or}
use Rattle.std.proofs.lemmas.List.{length-set}
use Rattle.std.proofs.lemmas.Result.{err_from_is_err_and}
use Rattle.dd_nodes.specs.Subfunctions.{Function}
use Rattle.slot_board.specs.Board.{led}
use Rattle.slot_board.proofs.BoardSlots.{action_within, left_with, passed, same_actions, went}
use Rattle.task_core.specs.declared.tasks.Task.{Task}
use Rattle.reach_plan.specs.LayerSets.{class_preimage, grown}
use Rattle.reach_plan.specs.Searches.{HasGrown}
use Rattle.reach_plan.proofs.PlaceFits.{grow_leads, joined_small}
use Rattle.reach_plan.proofs.SearchSteps.{grown_on, grown_spent, hits_found}
use Rattle.reach_plan.proofs.search.grow_by.Goals as goal

pub returns-then-is_spent : goal.returns-then-is_spent
returns-then-is_spent c start k f h ready =
    grown_spent c.args.leading.class start c.args.enc.now c.args.board.now.slots.items f h c.args.leading.action c.args.steps.now.items c.args.spent.now.items ready
    (action_within start c.args.enc.now c.args.board.now.slots.items c.args.leading.action.0 ready.by_next.by_layer.at c.requires.action)
    (sym (ap (λ marks. slice_index_or marks c.args.leading.action.0 false) c.deref.ensures.value) ∙ sym c.is_spent.ensures ∙ c.if-is_spent.true)

pub lead-requires-clause-working : goal.lead-requires-clause-working
lead-requires-clause-working c = let r = c.requires.ready in (r.0, r.4.by_next.by_layer.at)

pub returns-in_err-lead : goal.returns-in_err-lead
returns-in_err-lead c start k f h ready =
    let p = err_from_is_err_and c.from_residual.result c.from_residual.ensures.1 in
    passed start c.lead.new.enc c.lead.new.self.slots.items _ _ c.lead.result c.from_residual.result _ c.in_err-lead.was p (c.lead.ensures start ready.by_next.by_layer.at (grow_leads c.args.leading.class start c.args.enc.now c.args.board.now.slots.items f h c.args.leading.action.0 _ _ c.outcomes_of.result c.outcomes_of.ensures.fits ready c.requires.action))

pub has_all-requires-clause-ready : goal.has_all-requires-clause-ready
has_all-requires-clause-ready c =
    let r = c.requires.ready in
    (r.0, (went r.0 c.lead.new.enc c.lead.new.self.slots.items _ c.lead.result _ c.in_ok-lead.was (c.lead.ensures r.0 r.4.by_next.by_layer.at (grow_leads c.args.leading.class r.0 c.args.enc.now c.args.board.now.slots.items r.2 r.3 c.args.leading.action.0 _ _ c.outcomes_of.result c.outcomes_of.ensures.fits r.4 c.requires.action))).at)

pub has_all-requires-clause-place : goal.has_all-requires-clause-place
has_all-requires-clause-place c =
    let r = c.requires.ready in
    let now : length c.lead.new.self.slots.items ≡ r.0.places = (went r.0 c.lead.new.enc c.lead.new.self.slots.items _ c.lead.result _ c.in_ok-lead.was (c.lead.ensures r.0 r.4.by_next.by_layer.at (grow_leads c.args.leading.class r.0 c.args.enc.now c.args.board.now.slots.items r.2 r.3 c.args.leading.action.0 _ _ c.outcomes_of.result c.outcomes_of.ensures.fits r.4 c.requires.action))).at.long in
    let was : length c.args.board.now.slots.items ≡ r.0.places = r.4.by_next.by_layer.at.long in
    omega (arith, c.requires.places)

pub has_all-requires-clause-action : goal.has_all-requires-clause-action
has_all-requires-clause-action c =
    let r = c.requires.ready in
    let m = went r.0 c.lead.new.enc c.lead.new.self.slots.items _ c.lead.result _ c.in_ok-lead.was (c.lead.ensures r.0 r.4.by_next.by_layer.at (grow_leads c.args.leading.class r.0 c.args.enc.now c.args.board.now.slots.items r.2 r.3 c.args.leading.action.0 _ _ c.outcomes_of.result c.outcomes_of.ensures.fits r.4 c.requires.action)) in
    let e : length c.lead.new.enc.actions ≡ length c.args.enc.now.actions = same_actions r.0 c.args.enc.now c.lead.new.enc c.args.board.now.slots.items c.lead.new.self.slots.items r.4.by_next.by_layer.at m.at in
    omega (arith, c.requires.action)

pub join_hits-requires-clause-ready : goal.join_hits-requires-clause-ready
join_hits-requires-clause-ready c =
    let r = c.requires.ready in
    let m = went r.0 c.lead.new.enc c.lead.new.self.slots.items _ c.lead.result _ c.in_ok-lead.was (c.lead.ensures r.0 r.4.by_next.by_layer.at (grow_leads c.args.leading.class r.0 c.args.enc.now c.args.board.now.slots.items r.2 r.3 c.args.leading.action.0 _ _ c.outcomes_of.result c.outcomes_of.ensures.fits r.4 c.requires.action)) in (
      r.0,
      r.2,
      grown c.args.leading.class r.0.task r.2 c.args.leading.action.0,
      class_preimage c.args.leading.class r.0.task c.args.leading.action.0 r.2,
      hits_found r.0 c.args.enc.now c.lead.new.enc c.args.board.now.slots.items c.lead.new.self.slots.items 0 c.args.leading.class c.args.leading.action.0 r.2 _ _ (led c.outcomes_of.result r.0.task c.args.leading.action.0) c.requires.places r.4.by_next
          (λ s. ap (λ (l : Task → ℕ → Function → Function). l r.0.task c.args.leading.action.0 s) c.outcomes_of.ensures.led)
          (joined_small c.args.leading.class r.0 r.2 r.3 c.args.leading.action.0 r.4.known (action_within r.0 c.args.enc.now c.args.board.now.slots.items c.args.leading.action.0 r.4.by_next.by_layer.at c.requires.action)) m,
    )

pub join_hits-requires-clause-places : goal.join_hits-requires-clause-places
join_hits-requires-clause-places c =
    let r = c.requires.ready in
    let now : length c.lead.new.self.slots.items ≡ r.0.places = (went r.0 c.lead.new.enc c.lead.new.self.slots.items _ c.lead.result _ c.in_ok-lead.was (c.lead.ensures r.0 r.4.by_next.by_layer.at (grow_leads c.args.leading.class r.0 c.args.enc.now c.args.board.now.slots.items r.2 r.3 c.args.leading.action.0 _ _ c.outcomes_of.result c.outcomes_of.ensures.fits r.4 c.requires.action))).at.long in
    let was : length c.args.board.now.slots.items ≡ r.0.places = r.4.by_next.by_layer.at.long in
    omega (arith, c.requires.places)

pub returns : goal.returns
returns c start k f h ready =
    let m = went start c.lead.new.enc c.lead.new.self.slots.items _ c.lead.result _ c.in_ok-lead.was (c.lead.ensures start ready.by_next.by_layer.at (grow_leads c.args.leading.class start c.args.enc.now c.args.board.now.slots.items f h c.args.leading.action.0 _ _ c.outcomes_of.result c.outcomes_of.ensures.fits ready c.requires.action)) in
    let hits =
    hits_found start c.args.enc.now c.lead.new.enc c.args.board.now.slots.items c.lead.new.self.slots.items 0 c.args.leading.class c.args.leading.action.0 f _ _ (led c.outcomes_of.result start.task c.args.leading.action.0) c.requires.places ready.by_next
    (λ s. ap (λ (l : Task → ℕ → Function → Function). l start.task c.args.leading.action.0 s) c.outcomes_of.ensures.led)
    (joined_small c.args.leading.class start f h c.args.leading.action.0 ready.known (action_within start c.args.enc.now c.args.board.now.slots.items c.args.leading.action.0 ready.by_next.by_layer.at c.requires.action)) m in
    let within = action_within start c.args.enc.now c.args.board.now.slots.items c.args.leading.action.0 ready.by_next.by_layer.at c.requires.action in
    left_with start c.join_hits.new.enc c.join_hits.new.board.slots.items _ _ c.join_hits.result
    (λ joined. subst (λ (marks : List Bool). HasGrown c.args.leading.class start c.join_hits.new.enc c.join_hits.new.board.slots.items k f h (c.args.leading.action.0 + 1) c.join_hits.new.steps.items marks) (sym c.note_spent.ensures)
    (grown_on c.args.leading.class start c.args.enc.now c.join_hits.new.enc c.args.board.now.slots.items c.join_hits.new.board.slots.items f h c.args.leading.action c.args.steps.now.items c.join_hits.new.steps.items c.args.spent.now.items ready within joined
    c.has_all.result (λ all. sym hits.holds_hits ∙ c.has_all.ensures start m.at all) (length-set c.args.spent.now.items c.args.leading.action.0 c.has_all.result)))
    (c.join_hits.ensures start f _ _ hits)
