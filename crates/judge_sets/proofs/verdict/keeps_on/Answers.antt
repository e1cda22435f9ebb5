use Rattle.std.proofs.Common.{arith}
use Rattle.slot_board.proofs.Endings.{ends_with}
use Rattle.judge_sets.specs.Fixpoints.IsBegin.{followed}
use Rattle.judge_sets.proofs.JudgeSteps.{cyclic_begin, cyclic_kept, strong_kept, weak_kept}
use Rattle.judge_sets.proofs.verdict.keeps_on.Goals as goal

pub stays_in-requires-clause-ready : goal.stays_in-requires-clause-ready
stays_in-requires-clause-ready c = let r = c.requires.ready in (r.0, _, r.1.has.by_steps, followed, r.1.has.by_steps.followed)

pub stays_in-requires-clause-place : goal.stays_in-requires-clause-place
stays_in-requires-clause-place c = omega arith

pub stays_in-requires-clause-actions : goal.stays_in-requires-clause-actions
stays_in-requires-clause-actions c = c.requires.actions

pub returns-in-Weak : goal.returns-in-Weak
returns-in-Weak c scene grown covers =
    ends_with scene.start c.stays_in.new.enc c.stays_in.new.board.slots.items _ _ c.stays_in.result
    (λ b told. (told.0, weak_kept scene c.args.class c.args.enc.now c.args.board.now.slots.items c.in-Weak.is grown covers b told.1))
    (c.stays_in.ensures scene _ grown.has.by_steps followed grown.has.by_steps.followed)

pub returns-in-Strong : goal.returns-in-Strong
returns-in-Strong c scene grown covers = (grown.has.by_steps, strong_kept scene c.args.class c.args.enc.now c.args.board.now.slots.items c.in-Strong.is grown covers)

pub stays_in-requires-in-Cyclic-clause-ready : goal.stays_in-requires-in-Cyclic-clause-ready
stays_in-requires-in-Cyclic-clause-ready c =
    let r = c.requires.ready in
    (r.0, r.1.set, r.1.has.by_steps, cyclic_begin r.0 c.args.class c.args.enc.now c.args.board.now.slots.items c.in-Cyclic.is r.1, r.1.has.good)

pub stays_in-requires-in-Cyclic-clause-place : goal.stays_in-requires-in-Cyclic-clause-place
stays_in-requires-in-Cyclic-clause-place c = omega arith

pub stays_in-requires-in-Cyclic-clause-actions : goal.stays_in-requires-in-Cyclic-clause-actions
stays_in-requires-in-Cyclic-clause-actions c = c.requires.actions

pub returns-in-Cyclic : goal.returns-in-Cyclic
returns-in-Cyclic c scene grown covers =
    ends_with scene.start c.stays_in-in-Cyclic.new.enc c.stays_in-in-Cyclic.new.board.slots.items _ _ c.stays_in-in-Cyclic.result
    (λ b told. (told.0, cyclic_kept scene c.args.class c.args.enc.now c.args.board.now.slots.items c.in-Cyclic.is grown b told.1))
    (c.stays_in-in-Cyclic.ensures scene grown.set grown.has.by_steps (cyclic_begin scene c.args.class c.args.enc.now c.args.board.now.slots.items c.in-Cyclic.is grown) grown.has.good)
