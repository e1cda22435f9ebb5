-- Where the action leads into the layer, what it takes, and the next layer with that.
use Rattle.std.proofs.Common.{◌≡◌, ◌+◌, ◌<◌, ℕ, arith, length, ap}
use Rattle.std.proofs.lemmas.Result.{err_from_is_err_and}
use Rattle.dd_nodes.specs.Subfunctions.{Function}
use Rattle.slot_board.specs.Board.{led}
use Rattle.slot_board.proofs.BoardSlots.{action_within, left_with, passed, went}
use Rattle.task_core.specs.Tasks.{action_count}
use Rattle.task_core.specs.declared.tasks.Task.{Task}
use Rattle.reach_plan.proofs.PlaceFits.{joined_fits, step_joined, step_leads, step_takes}
use Rattle.reach_plan.specs.LayerSets.{class_preimage}
use Rattle.slot_board.specs.declared.steps.Step.TheVariants.{Grow}
use Rattle.reach_plan.proofs.SearchSteps.{hits_found, next_joined}
use Rattle.reach_plan.proofs.retrace.grow_and_take.Goals as goal

pub lead-requires-clause-working : goal.lead-requires-clause-working
lead-requires-clause-working c = let r = c.requires.ready in (r.0, r.2.by_layer.at)

pub returns-in_err-lead : goal.returns-in_err-lead
returns-in_err-lead c start h here may =
    let p = err_from_is_err_and c.from_residual.result c.from_residual.ensures.1 in
    let within : c.args.a.0 < action_count start.task = action_within start c.args.enc.now c.args.board.now.slots.items c.args.a.0 here.by_layer.at (omega (arith, c.requires.action, c.requires.actions)) in
    passed start c.lead.new.enc c.lead.new.self.slots.items _ _ c.lead.result c.from_residual.result _ c.in_err-lead.was p (c.lead.ensures start here.by_layer.at (step_leads c.args.class start c.args.enc.now c.args.board.now.slots.items c.args.takers h (Grow c.args.a) c.args.a.0 c.outcomes_of.result c.outcomes_of.ensures.fits here may within))

pub take-requires-clause-ready : goal.take-requires-clause-ready
take-requires-clause-ready c =
    let r = c.requires.ready in
    let start = r.0 in
    let h = r.1 in
    let here = r.2 in
    let may = r.3 in
    let within : c.args.a.0 < action_count start.task = action_within start c.args.enc.now c.args.board.now.slots.items c.args.a.0 here.by_layer.at (omega (arith, c.requires.action, c.requires.actions)) in
    let m = went start c.lead.new.enc c.lead.new.self.slots.items _ c.lead.result _ c.in_ok-lead.was (c.lead.ensures start here.by_layer.at (step_leads c.args.class start c.args.enc.now c.args.board.now.slots.items c.args.takers h (Grow c.args.a) c.args.a.0 c.outcomes_of.result c.outcomes_of.ensures.fits here may within)) in
    let hits = hits_found start c.args.enc.now c.lead.new.enc c.args.board.now.slots.items c.lead.new.self.slots.items c.args.takers c.args.class c.args.a.0 h.layer h.taken h.next (led c.outcomes_of.result start.task c.args.a.0) c.requires.places here (λ s. ap (λ (l : Task → ℕ → Function → Function). l start.task c.args.a.0 s) c.outcomes_of.ensures.led) (step_joined c.args.class start c.args.takers h c.args.a may) m in
    (start, h.layer, h.taken, h.next, class_preimage c.args.class start.task c.args.a.0 h.layer, hits, step_takes c.args.class start c.args.takers h c.args.a within may)

pub take-requires-clause-places : goal.take-requires-clause-places
take-requires-clause-places c =
    let r = c.requires.ready in
    let start = r.0 in
    let h = r.1 in
    let here = r.2 in
    let may = r.3 in
    let within : c.args.a.0 < action_count start.task = action_within start c.args.enc.now c.args.board.now.slots.items c.args.a.0 here.by_layer.at (omega (arith, c.requires.action, c.requires.actions)) in
    let m = went start c.lead.new.enc c.lead.new.self.slots.items _ c.lead.result _ c.in_ok-lead.was (c.lead.ensures start here.by_layer.at (step_leads c.args.class start c.args.enc.now c.args.board.now.slots.items c.args.takers h (Grow c.args.a) c.args.a.0 c.outcomes_of.result c.outcomes_of.ensures.fits here may within)) in
    let now : length c.lead.new.self.slots.items ≡ start.places = m.at.long in
    let was : length c.args.board.now.slots.items ≡ start.places = here.by_layer.at.long in
    omega (arith, c.requires.places)

pub returns-in_err-take : goal.returns-in_err-take
returns-in_err-take c start h here may =
    let p = err_from_is_err_and c.from_residual-in_err-take.result c.from_residual-in_err-take.ensures.1 in
    let within : c.args.a.0 < action_count start.task = action_within start c.args.enc.now c.args.board.now.slots.items c.args.a.0 here.by_layer.at (omega (arith, c.requires.action, c.requires.actions)) in
    let m = went start c.lead.new.enc c.lead.new.self.slots.items _ c.lead.result _ c.in_ok-lead.was (c.lead.ensures start here.by_layer.at (step_leads c.args.class start c.args.enc.now c.args.board.now.slots.items c.args.takers h (Grow c.args.a) c.args.a.0 c.outcomes_of.result c.outcomes_of.ensures.fits here may within)) in
    let hits = hits_found start c.args.enc.now c.lead.new.enc c.args.board.now.slots.items c.lead.new.self.slots.items c.args.takers c.args.class c.args.a.0 h.layer h.taken h.next (led c.outcomes_of.result start.task c.args.a.0) c.requires.places here (λ s. ap (λ (l : Task → ℕ → Function → Function). l start.task c.args.a.0 s) c.outcomes_of.ensures.led) (step_joined c.args.class start c.args.takers h c.args.a may) m in
    passed start c.take.new.enc c.take.new.board.slots.items _ _ c.take.result c.from_residual-in_err-take.result _ c.in_err-take.was p (c.take.ensures start h.layer h.taken h.next _ hits (step_takes c.args.class start c.args.takers h c.args.a within may))

pub combine-requires-clause-working : goal.combine-requires-clause-working
combine-requires-clause-working c =
    let r = c.requires.ready in
    let start = r.0 in
    let h = r.1 in
    let here = r.2 in
    let may = r.3 in
    let within : c.args.a.0 < action_count start.task = action_within start c.args.enc.now c.args.board.now.slots.items c.args.a.0 here.by_layer.at (omega (arith, c.requires.action, c.requires.actions)) in
    let m = went start c.lead.new.enc c.lead.new.self.slots.items _ c.lead.result _ c.in_ok-lead.was (c.lead.ensures start here.by_layer.at (step_leads c.args.class start c.args.enc.now c.args.board.now.slots.items c.args.takers h (Grow c.args.a) c.args.a.0 c.outcomes_of.result c.outcomes_of.ensures.fits here may within)) in
    let hits = hits_found start c.args.enc.now c.lead.new.enc c.args.board.now.slots.items c.lead.new.self.slots.items c.args.takers c.args.class c.args.a.0 h.layer h.taken h.next (led c.outcomes_of.result start.task c.args.a.0) c.requires.places here (λ s. ap (λ (l : Task → ℕ → Function → Function). l start.task c.args.a.0 s) c.outcomes_of.ensures.led) (step_joined c.args.class start c.args.takers h c.args.a may) m in
    let took = went start c.take.new.enc c.take.new.board.slots.items _ c.take.result _ c.in_ok-take.was (c.take.ensures start h.layer h.taken h.next _ hits (step_takes c.args.class start c.args.takers h c.args.a within may)) in
    (start, took.by_next.by_layer.at)

pub combine-requires-clause-place : goal.combine-requires-clause-place
combine-requires-clause-place c =
    let r = c.requires.ready in
    let start = r.0 in
    let h = r.1 in
    let here = r.2 in
    let may = r.3 in
    let within : c.args.a.0 < action_count start.task = action_within start c.args.enc.now c.args.board.now.slots.items c.args.a.0 here.by_layer.at (omega (arith, c.requires.action, c.requires.actions)) in
    let m = went start c.lead.new.enc c.lead.new.self.slots.items _ c.lead.result _ c.in_ok-lead.was (c.lead.ensures start here.by_layer.at (step_leads c.args.class start c.args.enc.now c.args.board.now.slots.items c.args.takers h (Grow c.args.a) c.args.a.0 c.outcomes_of.result c.outcomes_of.ensures.fits here may within)) in
    let hits = hits_found start c.args.enc.now c.lead.new.enc c.args.board.now.slots.items c.lead.new.self.slots.items c.args.takers c.args.class c.args.a.0 h.layer h.taken h.next (led c.outcomes_of.result start.task c.args.a.0) c.requires.places here (λ s. ap (λ (l : Task → ℕ → Function → Function). l start.task c.args.a.0 s) c.outcomes_of.ensures.led) (step_joined c.args.class start c.args.takers h c.args.a may) m in
    let took = went start c.take.new.enc c.take.new.board.slots.items _ c.take.result _ c.in_ok-take.was (c.take.ensures start h.layer h.taken h.next _ hits (step_takes c.args.class start c.args.takers h c.args.a within may)) in
    let now : length c.take.new.board.slots.items ≡ start.places = took.by_next.by_layer.at.long in
    let was : length c.args.board.now.slots.items ≡ start.places = here.by_layer.at.long in
    omega (arith, c.requires.places)

pub combine-requires-clause-a : goal.combine-requires-clause-a
combine-requires-clause-a c =
    let r = c.requires.ready in
    let start = r.0 in
    let h = r.1 in
    let here = r.2 in
    let may = r.3 in
    let within : c.args.a.0 < action_count start.task = action_within start c.args.enc.now c.args.board.now.slots.items c.args.a.0 here.by_layer.at (omega (arith, c.requires.action, c.requires.actions)) in
    let m = went start c.lead.new.enc c.lead.new.self.slots.items _ c.lead.result _ c.in_ok-lead.was (c.lead.ensures start here.by_layer.at (step_leads c.args.class start c.args.enc.now c.args.board.now.slots.items c.args.takers h (Grow c.args.a) c.args.a.0 c.outcomes_of.result c.outcomes_of.ensures.fits here may within)) in
    let hits = hits_found start c.args.enc.now c.lead.new.enc c.args.board.now.slots.items c.lead.new.self.slots.items c.args.takers c.args.class c.args.a.0 h.layer h.taken h.next (led c.outcomes_of.result start.task c.args.a.0) c.requires.places here (λ s. ap (λ (l : Task → ℕ → Function → Function). l start.task c.args.a.0 s) c.outcomes_of.ensures.led) (step_joined c.args.class start c.args.takers h c.args.a may) m in
    let took = went start c.take.new.enc c.take.new.board.slots.items _ c.take.result _ c.in_ok-take.was (c.take.ensures start h.layer h.taken h.next _ hits (step_takes c.args.class start c.args.takers h c.args.a within may)) in
    let now : length c.take.new.board.slots.items ≡ start.places = took.by_next.by_layer.at.long in
    let was : length c.args.board.now.slots.items ≡ start.places = here.by_layer.at.long in
    omega (arith, c.requires.places)

pub combine-requires-clause-b : goal.combine-requires-clause-b
combine-requires-clause-b c =
    let r = c.requires.ready in
    let start = r.0 in
    let h = r.1 in
    let here = r.2 in
    let may = r.3 in
    let within : c.args.a.0 < action_count start.task = action_within start c.args.enc.now c.args.board.now.slots.items c.args.a.0 here.by_layer.at (omega (arith, c.requires.action, c.requires.actions)) in
    let m = went start c.lead.new.enc c.lead.new.self.slots.items _ c.lead.result _ c.in_ok-lead.was (c.lead.ensures start here.by_layer.at (step_leads c.args.class start c.args.enc.now c.args.board.now.slots.items c.args.takers h (Grow c.args.a) c.args.a.0 c.outcomes_of.result c.outcomes_of.ensures.fits here may within)) in
    let hits = hits_found start c.args.enc.now c.lead.new.enc c.args.board.now.slots.items c.lead.new.self.slots.items c.args.takers c.args.class c.args.a.0 h.layer h.taken h.next (led c.outcomes_of.result start.task c.args.a.0) c.requires.places here (λ s. ap (λ (l : Task → ℕ → Function → Function). l start.task c.args.a.0 s) c.outcomes_of.ensures.led) (step_joined c.args.class start c.args.takers h c.args.a may) m in
    let took = went start c.take.new.enc c.take.new.board.slots.items _ c.take.result _ c.in_ok-take.was (c.take.ensures start h.layer h.taken h.next _ hits (step_takes c.args.class start c.args.takers h c.args.a within may)) in
    let now : length c.take.new.board.slots.items ≡ start.places = took.by_next.by_layer.at.long in
    let was : length c.args.board.now.slots.items ≡ start.places = here.by_layer.at.long in
    omega (arith, c.requires.places)

pub returns : goal.returns
returns c start h here may =
    let within : c.args.a.0 < action_count start.task = action_within start c.args.enc.now c.args.board.now.slots.items c.args.a.0 here.by_layer.at (omega (arith, c.requires.action, c.requires.actions)) in
    let m = went start c.lead.new.enc c.lead.new.self.slots.items _ c.lead.result _ c.in_ok-lead.was (c.lead.ensures start here.by_layer.at (step_leads c.args.class start c.args.enc.now c.args.board.now.slots.items c.args.takers h (Grow c.args.a) c.args.a.0 c.outcomes_of.result c.outcomes_of.ensures.fits here may within)) in
    let hits = hits_found start c.args.enc.now c.lead.new.enc c.args.board.now.slots.items c.lead.new.self.slots.items c.args.takers c.args.class c.args.a.0 h.layer h.taken h.next (led c.outcomes_of.result start.task c.args.a.0) c.requires.places here (λ s. ap (λ (l : Task → ℕ → Function → Function). l start.task c.args.a.0 s) c.outcomes_of.ensures.led) (step_joined c.args.class start c.args.takers h c.args.a may) m in
    let took = went start c.take.new.enc c.take.new.board.slots.items _ c.take.result _ c.in_ok-take.was (c.take.ensures start h.layer h.taken h.next _ hits (step_takes c.args.class start c.args.takers h c.args.a within may)) in
    let now : length c.take.new.board.slots.items ≡ start.places = took.by_next.by_layer.at.long in
    let was : length c.args.board.now.slots.items ≡ start.places = here.by_layer.at.long in
    left_with start c.combine.new.enc c.combine.new.self.slots.items _ _ c.combine.result
    (λ w. next_joined start c.take.new.enc c.combine.new.enc c.take.new.board.slots.items c.combine.new.self.slots.items c.args.takers h.layer _ h.next (class_preimage c.args.class start.task c.args.a.0 h.layer) (omega (arith, c.requires.places)) took w)
    (c.combine.ensures start took.by_next.by_layer.at (joined_fits start c.take.new.enc c.take.new.board.slots.items c.args.takers (c.args.takers + 1) h.layer _ h.next _ took))
