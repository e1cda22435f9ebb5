-- By the kind of the step.
use Rattle.std.proofs.Common.{◌≡◌, ◌∙◌, refl, sym, ap, subst}
use Rattle.dd_nodes.specs.Subfunctions.{Function}
use Rattle.dd_ops.specs.Operations.{cofactor_of, variable}
use Rattle.dd_sets.specs.LiveSets.{everything, set_of}
use Rattle.slot_board.specs.Board.{Fits, LeadFits, Left, combined, led, set_at}
use Rattle.board_steps.specs.Steps.{CanMake, Shows, after_step}
use Rattle.board_steps.specs.declared.steps.Step.{Step}
use Rattle.board_steps.proofs.MakeLemmas.{action_is_within, fluent_within, made_by, place_within}
use Rattle.board_steps.proofs.making.make.Goals as goal

pub whole-requires-clause-working : goal.whole-requires-clause-working
whole-requires-clause-working c = let r = c.requires in (r.0, r.2.at)

pub whole-requires-clause-place : goal.whole-requires-clause-place
whole-requires-clause-place c =
    let r = c.requires in
    let can = subst (λ (step : Step). CanMake r.0 r.1 step) c.in-Whole.is r.3 in
    place_within r.0 c.args.enc.now c.args.board.now.slots.items r.1 c.in-Whole.place r.2 can

pub returns-in-Whole : goal.returns-in-Whole
returns-in-Whole c start placed shows may =
    let can = subst (λ (step : Step). CanMake start placed step) c.in-Whole.is may in
    subst (λ (step : Step). Left start c.whole.new.enc c.whole.new.self.slots.items (Shows start c.whole.new.enc c.whole.new.self.slots.items (after_step start placed step)) c.whole.result) (sym c.in-Whole.is)
    (made_by start c.args.enc.now c.whole.new.enc c.args.board.now.slots.items c.whole.new.self.slots.items placed c.in-Whole.place everything everything c.whole.result shows refl (c.whole.ensures start shows.at))

pub put_fluent-requires-clause-working : goal.put_fluent-requires-clause-working
put_fluent-requires-clause-working c = let r = c.requires in (r.0, r.2.at)

pub put_fluent-requires-clause-place : goal.put_fluent-requires-clause-place
put_fluent-requires-clause-place c =
    let r = c.requires in
    let can = subst (λ (step : Step). CanMake r.0 r.1 step) c.in-Fluent.is r.3 in
    place_within r.0 c.args.enc.now c.args.board.now.slots.items r.1 c.in-Fluent.place r.2 can.0

pub put_fluent-requires-clause-in_range : goal.put_fluent-requires-clause-in_range
put_fluent-requires-clause-in_range c =
    let r = c.requires in
    let can = subst (λ (step : Step). CanMake r.0 r.1 step) c.in-Fluent.is r.3 in
    fluent_within r.0 c.args.enc.now c.args.board.now.slots.items r.1 c.in-Fluent.f.0 r.2 can.1

pub returns-in-Fluent : goal.returns-in-Fluent
returns-in-Fluent c start placed shows may =
    let can = subst (λ (step : Step). CanMake start placed step) c.in-Fluent.is may in
    subst (λ (step : Step). Left start c.put_fluent.new.enc c.put_fluent.new.board.slots.items (Shows start c.put_fluent.new.enc c.put_fluent.new.board.slots.items (after_step start placed step)) c.put_fluent.result) (sym c.in-Fluent.is)
    (made_by start c.args.enc.now c.put_fluent.new.enc c.args.board.now.slots.items c.put_fluent.new.board.slots.items placed c.in-Fluent.place (variable c.in-Fluent.f.0) (variable c.in-Fluent.f.0) c.put_fluent.result shows refl (c.put_fluent.ensures start shows.at can.2))

pub put_fixed-requires-clause-working : goal.put_fixed-requires-clause-working
put_fixed-requires-clause-working c = let r = c.requires in (r.0, r.2.at)

pub put_fixed-requires-clause-place : goal.put_fixed-requires-clause-place
put_fixed-requires-clause-place c =
    let r = c.requires in
    let can = subst (λ (step : Step). CanMake r.0 r.1 step) c.in-Fix.is r.3 in
    place_within r.0 c.args.enc.now c.args.board.now.slots.items r.1 c.in-Fix.place r.2 can.0

pub put_fixed-requires-clause-in_range : goal.put_fixed-requires-clause-in_range
put_fixed-requires-clause-in_range c =
    let r = c.requires in
    let can = subst (λ (step : Step). CanMake r.0 r.1 step) c.in-Fix.is r.3 in
    fluent_within r.0 c.args.enc.now c.args.board.now.slots.items r.1 c.in-Fix.f.0 r.2 can.1

pub returns-in-Fix : goal.returns-in-Fix
returns-in-Fix c start placed shows may =
    let can = subst (λ (step : Step). CanMake start placed step) c.in-Fix.is may in
    let e : cofactor_of (set_at c.args.enc.now.sets c.args.board.now.slots.items c.in-Fix.place) c.in-Fix.f.0 c.in-Fix.value ≡ cofactor_of (placed c.in-Fix.place) c.in-Fix.f.0 c.in-Fix.value = ap (λ (s : Function). cofactor_of s c.in-Fix.f.0 c.in-Fix.value) (shows.sets c.in-Fix.place can.0) in
    subst (λ (step : Step). Left start c.put_fixed.new.enc c.put_fixed.new.board.slots.items (Shows start c.put_fixed.new.enc c.put_fixed.new.board.slots.items (after_step start placed step)) c.put_fixed.result) (sym c.in-Fix.is)
    (made_by start c.args.enc.now c.put_fixed.new.enc c.args.board.now.slots.items c.put_fixed.new.board.slots.items placed c.in-Fix.place (cofactor_of (set_at c.args.enc.now.sets c.args.board.now.slots.items c.in-Fix.place) c.in-Fix.f.0 c.in-Fix.value) (cofactor_of (placed c.in-Fix.place) c.in-Fix.f.0 c.in-Fix.value) c.put_fixed.result shows e (c.put_fixed.ensures start shows.at (subst (Fits start c.in-Fix.place) (sym e) can.2)))

pub copy-requires-clause-working : goal.copy-requires-clause-working
copy-requires-clause-working c = let r = c.requires in (r.0, r.2.at)

pub copy-requires-clause-place : goal.copy-requires-clause-place
copy-requires-clause-place c =
    let r = c.requires in
    let can = subst (λ (step : Step). CanMake r.0 r.1 step) c.in-Kept.is r.3 in
    place_within r.0 c.args.enc.now c.args.board.now.slots.items r.1 c.in-Kept.place r.2 can.0

pub copy-requires-clause-live : goal.copy-requires-clause-live
copy-requires-clause-live c =
    let r = c.requires in
    let can = subst (λ (step : Step). CanMake r.0 r.1 step) c.in-Kept.is r.3 in
    r.2.at.working.kept.live c.in-Kept.slot.0 can.1

pub returns-in-Kept : goal.returns-in-Kept
returns-in-Kept c start placed shows may =
    let can = subst (λ (step : Step). CanMake start placed step) c.in-Kept.is may in
    let e : set_of c.args.enc.now.sets c.in-Kept.slot.0 ≡ set_of start.enc.sets c.in-Kept.slot.0 = shows.at.working.kept.sets c.in-Kept.slot.0 can.1 in
    subst (λ (step : Step). Left start c.copy.new.enc c.copy.new.self.slots.items (Shows start c.copy.new.enc c.copy.new.self.slots.items (after_step start placed step)) c.copy.result) (sym c.in-Kept.is)
    (made_by start c.args.enc.now c.copy.new.enc c.args.board.now.slots.items c.copy.new.self.slots.items placed c.in-Kept.place (set_of c.args.enc.now.sets c.in-Kept.slot.0) (set_of start.enc.sets c.in-Kept.slot.0) c.copy.result shows e (c.copy.ensures start shows.at (subst (Fits start c.in-Kept.place) (sym e) can.2)))

pub copy_of-requires-clause-working : goal.copy_of-requires-clause-working
copy_of-requires-clause-working c = let r = c.requires in (r.0, r.2.at)

pub copy_of-requires-clause-place : goal.copy_of-requires-clause-place
copy_of-requires-clause-place c =
    let r = c.requires in
    let can = subst (λ (step : Step). CanMake r.0 r.1 step) c.in-Copy.is r.3 in
    place_within r.0 c.args.enc.now c.args.board.now.slots.items r.1 c.in-Copy.place r.2 can.0

pub copy_of-requires-clause-from : goal.copy_of-requires-clause-from
copy_of-requires-clause-from c =
    let r = c.requires in
    let can = subst (λ (step : Step). CanMake r.0 r.1 step) c.in-Copy.is r.3 in
    place_within r.0 c.args.enc.now c.args.board.now.slots.items r.1 c.in-Copy.from r.2 can.1

pub returns-in-Copy : goal.returns-in-Copy
returns-in-Copy c start placed shows may =
    let can = subst (λ (step : Step). CanMake start placed step) c.in-Copy.is may in
    let e : set_at c.args.enc.now.sets c.args.board.now.slots.items c.in-Copy.from ≡ placed c.in-Copy.from = shows.sets c.in-Copy.from can.1 in
    subst (λ (step : Step). Left start c.copy_of.new.enc c.copy_of.new.self.slots.items (Shows start c.copy_of.new.enc c.copy_of.new.self.slots.items (after_step start placed step)) c.copy_of.result) (sym c.in-Copy.is)
    (made_by start c.args.enc.now c.copy_of.new.enc c.args.board.now.slots.items c.copy_of.new.self.slots.items placed c.in-Copy.place (set_at c.args.enc.now.sets c.args.board.now.slots.items c.in-Copy.from) (placed c.in-Copy.from) c.copy_of.result shows e (c.copy_of.ensures start shows.at (subst (Fits start c.in-Copy.place) (sym e) can.2)))

pub combine-requires-clause-working : goal.combine-requires-clause-working
combine-requires-clause-working c = let r = c.requires in (r.0, r.2.at)

pub combine-requires-clause-place : goal.combine-requires-clause-place
combine-requires-clause-place c =
    let r = c.requires in
    let can = subst (λ (step : Step). CanMake r.0 r.1 step) c.in-Combine.is r.3 in
    place_within r.0 c.args.enc.now c.args.board.now.slots.items r.1 c.in-Combine.place r.2 can.0

pub combine-requires-clause-a : goal.combine-requires-clause-a
combine-requires-clause-a c =
    let r = c.requires in
    let can = subst (λ (step : Step). CanMake r.0 r.1 step) c.in-Combine.is r.3 in
    place_within r.0 c.args.enc.now c.args.board.now.slots.items r.1 c.in-Combine.a r.2 can.1

pub combine-requires-clause-b : goal.combine-requires-clause-b
combine-requires-clause-b c =
    let r = c.requires in
    let can = subst (λ (step : Step). CanMake r.0 r.1 step) c.in-Combine.is r.3 in
    place_within r.0 c.args.enc.now c.args.board.now.slots.items r.1 c.in-Combine.b r.2 can.2

pub returns-in-Combine : goal.returns-in-Combine
returns-in-Combine c start placed shows may =
    let can = subst (λ (step : Step). CanMake start placed step) c.in-Combine.is may in
    let e : combined c.in-Combine.operation (set_at c.args.enc.now.sets c.args.board.now.slots.items c.in-Combine.a) (set_at c.args.enc.now.sets c.args.board.now.slots.items c.in-Combine.b) ≡ combined c.in-Combine.operation (placed c.in-Combine.a) (placed c.in-Combine.b) = ap (λ (s : Function). combined c.in-Combine.operation s (set_at c.args.enc.now.sets c.args.board.now.slots.items c.in-Combine.b)) (shows.sets c.in-Combine.a can.1) ∙ ap (combined c.in-Combine.operation (placed c.in-Combine.a)) (shows.sets c.in-Combine.b can.2) in
    subst (λ (step : Step). Left start c.combine.new.enc c.combine.new.self.slots.items (Shows start c.combine.new.enc c.combine.new.self.slots.items (after_step start placed step)) c.combine.result) (sym c.in-Combine.is)
    (made_by start c.args.enc.now c.combine.new.enc c.args.board.now.slots.items c.combine.new.self.slots.items placed c.in-Combine.place (combined c.in-Combine.operation (set_at c.args.enc.now.sets c.args.board.now.slots.items c.in-Combine.a) (set_at c.args.enc.now.sets c.args.board.now.slots.items c.in-Combine.b)) (combined c.in-Combine.operation (placed c.in-Combine.a) (placed c.in-Combine.b)) c.combine.result shows e (c.combine.ensures start shows.at (subst (Fits start c.in-Combine.place) (sym e) can.3)))

pub lead-requires-clause-working : goal.lead-requires-clause-working
lead-requires-clause-working c = let r = c.requires in (r.0, r.2.at)

pub lead-requires-clause-place : goal.lead-requires-clause-place
lead-requires-clause-place c =
    let r = c.requires in
    let can = subst (λ (step : Step). CanMake r.0 r.1 step) c.in-Lead.is r.3 in
    place_within r.0 c.args.enc.now c.args.board.now.slots.items r.1 c.in-Lead.place r.2 can.0

pub lead-requires-clause-action : goal.lead-requires-clause-action
lead-requires-clause-action c =
    let r = c.requires in
    let can = subst (λ (step : Step). CanMake r.0 r.1 step) c.in-Lead.is r.3 in
    action_is_within r.0 c.args.enc.now c.args.board.now.slots.items r.1 c.in-Lead.action.0 r.2 can.2

pub lead-requires-clause-into : goal.lead-requires-clause-into
lead-requires-clause-into c =
    let r = c.requires in
    let can = subst (λ (step : Step). CanMake r.0 r.1 step) c.in-Lead.is r.3 in
    place_within r.0 c.args.enc.now c.args.board.now.slots.items r.1 c.in-Lead.from r.2 can.1

pub returns-in-Lead : goal.returns-in-Lead
returns-in-Lead c start placed shows may =
    let can = subst (λ (step : Step). CanMake start placed step) c.in-Lead.is may in
    let e : led c.in-Lead.outcomes start.task c.in-Lead.action.0 (set_at c.args.enc.now.sets c.args.board.now.slots.items c.in-Lead.from) ≡ led c.in-Lead.outcomes start.task c.in-Lead.action.0 (placed c.in-Lead.from) = ap (led c.in-Lead.outcomes start.task c.in-Lead.action.0) (shows.sets c.in-Lead.from can.1) in
    subst (λ (step : Step). Left start c.lead.new.enc c.lead.new.self.slots.items (Shows start c.lead.new.enc c.lead.new.self.slots.items (after_step start placed step)) c.lead.result) (sym c.in-Lead.is)
    (made_by start c.args.enc.now c.lead.new.enc c.args.board.now.slots.items c.lead.new.self.slots.items placed c.in-Lead.place (led c.in-Lead.outcomes start.task c.in-Lead.action.0 (set_at c.args.enc.now.sets c.args.board.now.slots.items c.in-Lead.from)) (led c.in-Lead.outcomes start.task c.in-Lead.action.0 (placed c.in-Lead.from)) c.lead.result shows e (c.lead.ensures start shows.at (subst (LeadFits start c.in-Lead.outcomes c.in-Lead.action.0) (sym (shows.sets c.in-Lead.from can.1)) can.3)))
