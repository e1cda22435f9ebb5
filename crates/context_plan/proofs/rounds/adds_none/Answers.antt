use Rattle.context_plan.proofs.SceneSteps.{low}
use Rattle.context_plan.proofs.SkipSteps.{leads_hits}
use Rattle.context_plan.proofs.SpentSteps.{if_joined}
use Rattle.context_plan.specs.Scenes.{board_of, states_at}
use Rattle.context_plan.specs.Steps.{AreSpent, HitsAmong}
use Rattle.context_plan.specs.declared.rounds.Way.{Way}
use Rattle.std.proofs.Common.{◌≡◌, IfOk, OnOk, arith, subst, sym, true}
use Rattle.context_plan.proofs.rounds.adds_none.Goals as goal

pub is_same-requires-clause-working : goal.is_same-requires-clause-working
is_same-requires-clause-working c = (board_of c.requires.ready.0, c.requires.ready.1.at)

pub is_same-requires-clause-a : goal.is_same-requires-clause-a
is_same-requires-clause-a c = low c.requires.ready.0 (c.args.enc.now, c.args.board.now.slots.items) c.requires.ready.1.at 1 (omega arith)

pub is_same-requires-clause-b : goal.is_same-requires-clause-b
is_same-requires-clause-b c = low c.requires.ready.0 (c.args.enc.now, c.args.board.now.slots.items) c.requires.ready.1.at 0 (omega arith)

pub find_spent-requires-clause-ready : goal.find_spent-requires-clause-ready
find_spent-requires-clause-ready c =
    let r = c.requires.ready in
    (r.0, r.1, r.2, subst (λ (way : Way). AreSpent way r.0 (states_at (c.args.enc.now, c.args.board.now.slots.items) 1) c.args.spent.now.items) c.in-Growing.is r.3)

pub returns-in-Growing-clause-spent : goal.returns-in-Growing-clause-spent
returns-in-Growing-clause-spent c start ready fits marks =
    subst (λ (way : Way). OnOk c.find_spent.result (AreSpent way start (states_at (c.args.enc.now, c.args.board.now.slots.items) 1) c.find_spent.new.spent.items)) (sym c.in-Growing.is)
    (c.find_spent.ensures.spent start ready fits (subst (λ (way : Way). AreSpent way start (states_at (c.args.enc.now, c.args.board.now.slots.items) 1) c.args.spent.now.items) c.in-Growing.is marks))

pub returns-in-Growing-clause-none : goal.returns-in-Growing-clause-none
returns-in-Growing-clause-none c start ready fits marks =
    subst (λ (way : Way). IfOk c.find_spent.result (λ none. none ≡ true → HitsAmong way start (c.args.enc.now, c.args.board.now.slots.items) c.args.a.0)) (sym c.in-Growing.is)
    (if_joined _ _ c.find_spent.result (leads_hits start (c.args.enc.now, c.args.board.now.slots.items) c.args.a.0)
    (c.find_spent.ensures.joined start ready fits (subst (λ (way : Way). AreSpent way start (states_at (c.args.enc.now, c.args.board.now.slots.items) 1) c.args.spent.now.items) c.in-Growing.is marks)))
