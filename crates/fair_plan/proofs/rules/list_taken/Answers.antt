use Rattle.std.proofs.Common.{◌≡◌, arith, subst}
use Rattle.std.proofs.lemmas.Result.{err_from_is_err_and}
use Rattle.plan_theory.specs.ContextRules.{rules_for}
use Rattle.slot_board.proofs.BoardSlots.{passed}
use Rattle.fair_plan.proofs.Boards.{action_in, done, in_start, low}
use Rattle.fair_plan.proofs.TakerSteps.{takers_in}
use Rattle.fair_plan.proofs.RuleSteps.{listed_left, rules_more}
use Rattle.std.specs.Prelude.{⊤, OnOk, map, ◌++◌}
use Rattle.plan_rules.specs.Rules.{context_rule_of}
use Rattle.fair_plan.specs.Boards.{IsThere, states_in}
use Rattle.fair_plan.proofs.rules.list_taken.Goals as goal

pub make-requires : goal.make-requires
make-requires c =
    let r = c.requires.ready in
    (r.0, r.1, ((low r.0 0 (omega arith), takers_in r.0 (c.args.enc.now, c.args.board.now.slots.items) r.1 c.args.at.takers c.args.turn.action.0 c.requires.places c.requires.action, in_start r.0 (c.args.enc.now, c.args.board.now.slots.items) r.1 c.args.at.met c.requires.met), tt))

pub returns-in_err-make : goal.returns-in_err-make
returns-in_err-make c origin there =
    passed origin.start c.make.new.enc c.make.new.board.slots.items _ _ c.make.result c.from_residual.result _ c.in_err-make.was (err_from_is_err_and c.from_residual.result c.from_residual.ensures.1)
    (c.make.ensures origin there ((low origin 0 (omega arith), takers_in origin (c.args.enc.now, c.args.board.now.slots.items) there c.args.at.takers c.args.turn.action.0 c.requires.places c.requires.action, in_start origin (c.args.enc.now, c.args.board.now.slots.items) there c.args.at.met c.requires.met), tt))

pub list_part-requires : goal.list_part-requires
list_part-requires c =
    let r = c.requires.ready in
    let d0 = done r.0 (c.make.new.enc, c.make.new.board.slots.items) _ c.make.result _ c.in_ok-make.was (c.make.ensures r.0 r.1 ((low r.0 0 (omega arith), takers_in r.0 (c.args.enc.now, c.args.board.now.slots.items) r.1 c.args.at.takers c.args.turn.action.0 c.requires.places c.requires.action, in_start r.0 (c.args.enc.now, c.args.board.now.slots.items) r.1 c.args.at.met c.requires.met), tt)) in
    (r.0, d0.0)

pub returns-in_err-list_part : goal.returns-in_err-list_part
returns-in_err-list_part c origin there =
    let d0 = done origin (c.make.new.enc, c.make.new.board.slots.items) _ c.make.result _ c.in_ok-make.was (c.make.ensures origin there ((low origin 0 (omega arith), takers_in origin (c.args.enc.now, c.args.board.now.slots.items) there c.args.at.takers c.args.turn.action.0 c.requires.places c.requires.action, in_start origin (c.args.enc.now, c.args.board.now.slots.items) there c.args.at.met c.requires.met), tt)) in
    passed origin.start c.make.new.enc c.make.new.board.slots.items (IsThere origin (c.make.new.enc, c.make.new.board.slots.items) × ⊤) _ c.list_part.result c.from_residual-in_err-list_part.result _ c.in_err-list_part.was (err_from_is_err_and c.from_residual-in_err-list_part.result c.from_residual-in_err-list_part.ensures.1)
    (listed_left origin (c.make.new.enc, c.make.new.board.slots.items) _ _ c.list_part.result d0.0 c.list_part.ensures.never_full c.list_part.ensures.listed (λ e. tt))

pub make-requires-2 : goal.make-requires-2
make-requires-2 c =
    let r = c.requires.ready in
    let d0 = done r.0 (c.make.new.enc, c.make.new.board.slots.items) _ c.make.result _ c.in_ok-make.was (c.make.ensures r.0 r.1 ((low r.0 0 (omega arith), takers_in r.0 (c.args.enc.now, c.args.board.now.slots.items) r.1 c.args.at.takers c.args.turn.action.0 c.requires.places c.requires.action, in_start r.0 (c.args.enc.now, c.args.board.now.slots.items) r.1 c.args.at.met c.requires.met), tt)) in
    (r.0, d0.0, ((low r.0 0 (omega arith), takers_in r.0 (c.args.enc.now, c.args.board.now.slots.items) r.1 c.args.at.takers c.args.turn.action.0 c.requires.places c.requires.action, in_start r.0 (c.args.enc.now, c.args.board.now.slots.items) r.1 c.args.at.met c.requires.met), tt))

pub returns-in_err-make-2 : goal.returns-in_err-make-2
returns-in_err-make-2 c origin there =
    let d0 = done origin (c.make.new.enc, c.make.new.board.slots.items) _ c.make.result _ c.in_ok-make.was (c.make.ensures origin there ((low origin 0 (omega arith), takers_in origin (c.args.enc.now, c.args.board.now.slots.items) there c.args.at.takers c.args.turn.action.0 c.requires.places c.requires.action, in_start origin (c.args.enc.now, c.args.board.now.slots.items) there c.args.at.met c.requires.met), tt)) in
    passed origin.start c.make-2.new.enc c.make-2.new.board.slots.items _ _ c.make-2.result c.from_residual-in_err-make-2.result _ c.in_err-make-2.was (err_from_is_err_and c.from_residual-in_err-make-2.result c.from_residual-in_err-make-2.ensures.1)
    (c.make-2.ensures origin d0.0 ((low origin 0 (omega arith), takers_in origin (c.args.enc.now, c.args.board.now.slots.items) there c.args.at.takers c.args.turn.action.0 c.requires.places c.requires.action, in_start origin (c.args.enc.now, c.args.board.now.slots.items) there c.args.at.met c.requires.met), tt))

pub list_part-requires-2 : goal.list_part-requires-2
list_part-requires-2 c =
    let r = c.requires.ready in
    let d0 = done r.0 (c.make.new.enc, c.make.new.board.slots.items) _ c.make.result _ c.in_ok-make.was (c.make.ensures r.0 r.1 ((low r.0 0 (omega arith), takers_in r.0 (c.args.enc.now, c.args.board.now.slots.items) r.1 c.args.at.takers c.args.turn.action.0 c.requires.places c.requires.action, in_start r.0 (c.args.enc.now, c.args.board.now.slots.items) r.1 c.args.at.met c.requires.met), tt)) in
    let d1 = done r.0 (c.make-2.new.enc, c.make-2.new.board.slots.items) _ c.make-2.result _ c.in_ok-make-2.was (c.make-2.ensures r.0 d0.0 ((low r.0 0 (omega arith), takers_in r.0 (c.args.enc.now, c.args.board.now.slots.items) r.1 c.args.at.takers c.args.turn.action.0 c.requires.places c.requires.action, in_start r.0 (c.args.enc.now, c.args.board.now.slots.items) r.1 c.args.at.met c.requires.met), tt)) in
    (r.0, d1.0)

pub returns : goal.returns
returns c origin there =
    let d0 = done origin (c.make.new.enc, c.make.new.board.slots.items) _ c.make.result _ c.in_ok-make.was (c.make.ensures origin there ((low origin 0 (omega arith), takers_in origin (c.args.enc.now, c.args.board.now.slots.items) there c.args.at.takers c.args.turn.action.0 c.requires.places c.requires.action, in_start origin (c.args.enc.now, c.args.board.now.slots.items) there c.args.at.met c.requires.met), tt)) in
    let d1 = done origin (c.make-2.new.enc, c.make-2.new.board.slots.items) _ c.make-2.result _ c.in_ok-make-2.was (c.make-2.ensures origin d0.0 ((low origin 0 (omega arith), takers_in origin (c.args.enc.now, c.args.board.now.slots.items) there c.args.at.takers c.args.turn.action.0 c.requires.places c.requires.action, in_start origin (c.args.enc.now, c.args.board.now.slots.items) there c.args.at.met c.requires.met), tt)) in
    let before : OnOk c.list_part.result (map context_rule_of c.list_part.new.rules.items ≡ map context_rule_of c.args.rules.now.items ++ rules_for c.make.new.enc.sets.vars c.args.turn.context c.args.turn.context c.args.turn.action.0 (states_in (c.make.new.enc, c.make.new.board.slots.items) 0)) = c.list_part.ensures.listed in
    let first = subst (λ (answer : _). OnOk answer (map context_rule_of c.list_part.new.rules.items ≡ map context_rule_of c.args.rules.now.items ++ rules_for c.make.new.enc.sets.vars c.args.turn.context c.args.turn.context c.args.turn.action.0 (states_in (c.make.new.enc, c.make.new.board.slots.items) 0))) c.in_ok-list_part.was before in
    let below = action_in origin (c.args.enc.now, c.args.board.now.slots.items) there c.args.turn.action.0 c.requires.action in
    listed_left origin (c.make-2.new.enc, c.make-2.new.board.slots.items) _ _ c.list_part-2.result d1.0 c.list_part-2.ensures.never_full c.list_part-2.ensures.listed
    (λ e contexts fit are. rules_more origin contexts (c.make-2.new.enc, c.make-2.new.board.slots.items) c.args.turn.context c.args.turn.next c.args.turn.action.0 (states_in (c.make-2.new.enc, c.make-2.new.board.slots.items) 0) c.list_part.new.rules.items c.list_part-2.new.rules.items d1.0 fit.0 fit.1 below
    (rules_more origin contexts (c.make.new.enc, c.make.new.board.slots.items) c.args.turn.context c.args.turn.context c.args.turn.action.0 (states_in (c.make.new.enc, c.make.new.board.slots.items) 0) c.args.rules.now.items c.list_part.new.rules.items d0.0 fit.0 fit.0 below are first) e)
