use Rattle.std.proofs.Common.{◌≡◌, ◌+◌, ◌<◌, ◌∙◌, arith, length, map}
use Rattle.std.proofs.lemmas.Result.{err_from_is_err_and}
use Rattle.slot_board.specs.Board.{Scene}
use Rattle.slot_board.proofs.BoardSlots.{passed}
use Rattle.ctl_syntax.specs.Conditions.{states_of}
use Rattle.fair_theory.specs.FairSets.{patrol_asks}
use Rattle.fair_plan.specs.Boards.{actions_of}
use Rattle.fair_plan.specs.Places.{win_place}
use Rattle.fair_plan.proofs.Boards.{actions_are, actions_same, done, le_length, leaves_with}
use Rattle.fair_plan.proofs.Goals.{kept_can, patrol_begins, patrol_won, visits_in, win_in, wholes_can}
use Rattle.fair_plan.proofs.stages.win_patrol.Goals as goal

pub put_visits-requires-clause-ready : goal.put_visits-requires-clause-ready
put_visits-requires-clause-ready c = let r = c.requires.ready in (r.0, r.1)

pub put_visits-requires-clause-visits : goal.put_visits-requires-clause-visits
put_visits-requires-clause-visits c = c.requires.visits.each

pub put_visits-requires-clause-places : goal.put_visits-requires-clause-places
put_visits-requires-clause-places c =
    let r = c.requires.ready in
    let x : Scene = (c.args.enc.now, c.args.board.now.slots.items) in
    let n : c.args.actions ≡ actions_of r.0 = c.requires.actions ∙ actions_are r.0 x r.1 in
    le_length r.0 x r.1 (c.met_at-first.result + length c.args.visits.now) (visits_in r.0 c.args.count c.args.actions c.met_at-first.result (length c.args.visits.now) r.2 n c.met_at-first.ensures c.requires.count)

pub returns-in_err-put_visits : goal.returns-in_err-put_visits
returns-in_err-put_visits c origin there count =
    passed origin.start c.put_visits.new.enc c.put_visits.new.board.slots.items _ _ c.put_visits.result c.from_residual.result _ c.in_err-put_visits.was (err_from_is_err_and c.from_residual.result c.from_residual.ensures.1) (c.put_visits.ensures origin there)

pub make-requires : goal.make-requires
make-requires c =
    let r = c.requires.ready in
    let put = done r.0 (c.put_visits.new.enc, c.put_visits.new.board.slots.items) _ c.put_visits.result _ c.in_ok-put_visits.was (c.put_visits.ensures r.0 r.1) in
    (r.0, put.0, wholes_can r.0)

pub returns-in_err-make : goal.returns-in_err-make
returns-in_err-make c origin there count =
    let put = done origin (c.put_visits.new.enc, c.put_visits.new.board.slots.items) _ c.put_visits.result _ c.in_ok-put_visits.was (c.put_visits.ensures origin there) in
    passed origin.start c.make.new.enc c.make.new.board.slots.items _ _ c.make.result c.from_residual-in_err-make.result _ c.in_err-make.was (err_from_is_err_and c.from_residual-in_err-make.result c.from_residual-in_err-make.ensures.1) (c.make.ensures origin put.0 (wholes_can origin))

pub find_largest-requires-clause-ready : goal.find_largest-requires-clause-ready
find_largest-requires-clause-ready c =
    let r = c.requires.ready in
    let x : Scene = (c.args.enc.now, c.args.board.now.slots.items) in
    let m : Scene = (c.put_visits.new.enc, c.put_visits.new.board.slots.items) in
    let n : Scene = (c.make.new.enc, c.make.new.board.slots.items) in
    let many : c.args.actions ≡ actions_of r.0 = c.requires.actions ∙ actions_are r.0 x r.1 in
    let within = visits_in r.0 c.args.count c.args.actions c.met_at-first.result (length c.args.visits.now) r.2 many c.met_at-first.ensures c.requires.count in
    let put = done r.0 m _ c.put_visits.result _ c.in_ok-put_visits.was (c.put_visits.ensures r.0 r.1) in
    let whole = done r.0 n _ c.make.result _ c.in_ok-make.was (c.make.ensures r.0 put.0 (wholes_can r.0)) in
    (r.0, patrol_asks (map states_of c.args.visits.now), whole.0, patrol_begins r.0 c.args.visits.now c.met_at-first.result c.args.count m n (omega (arith, c.met_at-first.ensures)) within c.requires.count put.1 whole.1)

pub find_largest-requires-clause-actions : goal.find_largest-requires-clause-actions
find_largest-requires-clause-actions c =
    let r = c.requires.ready in
    let x : Scene = (c.args.enc.now, c.args.board.now.slots.items) in
    let m : Scene = (c.put_visits.new.enc, c.put_visits.new.board.slots.items) in
    let n : Scene = (c.make.new.enc, c.make.new.board.slots.items) in
    let put = done r.0 m _ c.put_visits.result _ c.in_ok-put_visits.was (c.put_visits.ensures r.0 r.1) in
    let whole = done r.0 n _ c.make.result _ c.in_ok-make.was (c.make.ensures r.0 put.0 (wholes_can r.0)) in
    actions_same r.0 x n r.1 whole.0 c.args.actions c.requires.actions

pub find_largest-requires-clause-targets : goal.find_largest-requires-clause-targets
find_largest-requires-clause-targets c =
    let r = c.requires.ready in
    let x : Scene = (c.args.enc.now, c.args.board.now.slots.items) in
    let m : Scene = (c.put_visits.new.enc, c.put_visits.new.board.slots.items) in
    let n : Scene = (c.make.new.enc, c.make.new.board.slots.items) in
    let many : c.args.actions ≡ actions_of r.0 = c.requires.actions ∙ actions_are r.0 x r.1 in
    let put = done r.0 m _ c.put_visits.result _ c.in_ok-put_visits.was (c.put_visits.ensures r.0 r.1) in
    let whole = done r.0 n _ c.make.result _ c.in_ok-make.was (c.make.ensures r.0 put.0 (wholes_can r.0)) in
    let within = visits_in r.0 c.args.count c.args.actions c.met_at-first.result (length c.args.visits.now) r.2 many c.met_at-first.ensures c.requires.count in
    le_length r.0 n whole.0 (c.met_at-first.result + c.args.count) (omega (arith, c.requires.count))

pub find_largest-requires-clause-high : goal.find_largest-requires-clause-high
find_largest-requires-clause-high c = omega (arith, c.met_at-first.ensures)

pub returns-in_err-find_largest : goal.returns-in_err-find_largest
returns-in_err-find_largest c origin there count =
    let x : Scene = (c.args.enc.now, c.args.board.now.slots.items) in
    let m : Scene = (c.put_visits.new.enc, c.put_visits.new.board.slots.items) in
    let n : Scene = (c.make.new.enc, c.make.new.board.slots.items) in
    let many : c.args.actions ≡ actions_of origin = c.requires.actions ∙ actions_are origin x there in
    let within = visits_in origin c.args.count c.args.actions c.met_at-first.result (length c.args.visits.now) count many c.met_at-first.ensures c.requires.count in
    let put = done origin m _ c.put_visits.result _ c.in_ok-put_visits.was (c.put_visits.ensures origin there) in
    let whole = done origin n _ c.make.result _ c.in_ok-make.was (c.make.ensures origin put.0 (wholes_can origin)) in
    passed origin.start c.find_largest.new.enc c.find_largest.new.board.slots.items _ _ c.find_largest.result c.from_residual-in_err-find_largest.result _ c.in_err-find_largest.was (err_from_is_err_and c.from_residual-in_err-find_largest.result c.from_residual-in_err-find_largest.ensures.1)
    (c.find_largest.ensures origin (patrol_asks (map states_of c.args.visits.now)) whole.0 (patrol_begins origin c.args.visits.now c.met_at-first.result c.args.count m n (omega (arith, c.met_at-first.ensures)) within c.requires.count put.1 whole.1))

pub make-requires-2 : goal.make-requires-2
make-requires-2 c =
    let r = c.requires.ready in
    let x : Scene = (c.args.enc.now, c.args.board.now.slots.items) in
    let m : Scene = (c.put_visits.new.enc, c.put_visits.new.board.slots.items) in
    let n : Scene = (c.make.new.enc, c.make.new.board.slots.items) in
    let many : c.args.actions ≡ actions_of r.0 = c.requires.actions ∙ actions_are r.0 x r.1 in
    let within = visits_in r.0 c.args.count c.args.actions c.met_at-first.result (length c.args.visits.now) r.2 many c.met_at-first.ensures c.requires.count in
    let put = done r.0 m _ c.put_visits.result _ c.in_ok-put_visits.was (c.put_visits.ensures r.0 r.1) in
    let whole = done r.0 n _ c.make.result _ c.in_ok-make.was (c.make.ensures r.0 put.0 (wholes_can r.0)) in
    let found = done r.0 (c.find_largest.new.enc, c.find_largest.new.board.slots.items) _ c.find_largest.result _ c.in_ok-find_largest.was
    (c.find_largest.ensures r.0 (patrol_asks (map states_of c.args.visits.now)) whole.0 (patrol_begins r.0 c.args.visits.now c.met_at-first.result c.args.count m n (omega (arith, c.met_at-first.ensures)) within c.requires.count put.1 whole.1)) in
    let w = win_in r.0 0 (omega arith) in
    (r.0, found.0, kept_can r.0 c.win_at.result (omega (arith, c.win_at.ensures)))

pub returns : goal.returns
returns c origin there count =
    let x : Scene = (c.args.enc.now, c.args.board.now.slots.items) in
    let m : Scene = (c.put_visits.new.enc, c.put_visits.new.board.slots.items) in
    let n : Scene = (c.make.new.enc, c.make.new.board.slots.items) in
    let p : Scene = (c.find_largest.new.enc, c.find_largest.new.board.slots.items) in
    let y : Scene = (c.make-2.new.enc, c.make-2.new.board.slots.items) in
    let many : c.args.actions ≡ actions_of origin = c.requires.actions ∙ actions_are origin x there in
    let within = visits_in origin c.args.count c.args.actions c.met_at-first.result (length c.args.visits.now) count many c.met_at-first.ensures c.requires.count in
    let put = done origin m _ c.put_visits.result _ c.in_ok-put_visits.was (c.put_visits.ensures origin there) in
    let whole = done origin n _ c.make.result _ c.in_ok-make.was (c.make.ensures origin put.0 (wholes_can origin)) in
    let found = done origin p _ c.find_largest.result _ c.in_ok-find_largest.was
    (c.find_largest.ensures origin (patrol_asks (map states_of c.args.visits.now)) whole.0 (patrol_begins origin c.args.visits.now c.met_at-first.result c.args.count m n (omega (arith, c.met_at-first.ensures)) within c.requires.count put.1 whole.1)) in
    let w = win_in origin 0 (omega arith) in
    let low : c.win_at.result < origin.start.places = omega (arith, c.win_at.ensures) in
    let is : c.win_at.result ≡ win_place (actions_of origin) 0 = omega (arith, c.win_at.ensures) in
    leaves_with origin y _ _ c.make-2.result (λ now after. patrol_won origin c.args.visits.now p y c.win_at.result (win_place (actions_of origin) 0) low is found.1 after)
    (c.make-2.ensures origin found.0 (kept_can origin c.win_at.result low))
