use Rattle.std.proofs.Common.{◌≡◌, ◌∙◌, ap}
use Rattle.std.proofs.lemmas.Result.{err_from_is_err_and}
use Rattle.dd_sets.specs.declared.slots.SetId.{SetId}
use Rattle.encode_task.specs.Slots.{exec_slot}
use Rattle.slot_board.proofs.Endings.{wants_memory}
use Rattle.cert_check.specs.Programs.{way_out_steps}
use Rattle.cert_check.specs.Sets.{states_in}
use Rattle.cert_check.proofs.JudgeLemmas.{run_can, run_left, way_done, way_program}
use Rattle.cert_check.proofs.KnownSets.{of_set, shows_set}
use Rattle.cert_check.proofs.judging.make_way_out.Goals as goal

pub returns-in_err-steps : goal.returns-in_err-steps
returns-in_err-steps c start f set has fits =
    wants_memory start c.args.enc.now c.args.board.now.slots.items _ c.from_residual.result _ c.in_err-steps.ensures.never_full (err_from_is_err_and c.from_residual.result c.from_residual.ensures.1) has.by_union.at

pub make_all-requires : goal.make_all-requires
make_all-requires c =
    let r = c.requires.ready in
    let placed = of_set c.args.enc.now c.args.board.now.slots.items r.1 (states_in r.0.task r.2) in
    let is : c.deref.result.now ≡ way_out_steps c.args.way.class (exec_slot c.args.enc.now c.args.way.action.0) c.args.way.action = c.deref.ensures.value ∙ c.in_ok-steps.ensures.made ∙ ap (λ (s : SetId). way_out_steps c.args.way.class s c.args.way.action) c.exec.ensures in
    (r.0, placed, shows_set r.0 c.args.enc.now c.args.board.now.slots.items r.1 (states_in r.0.task r.2) r.3, run_can r.0 placed _ _ is (way_program r.0 c.args.enc.now c.args.board.now.slots.items c.args.way.class r.1 r.2 c.args.way.action r.3 r.4 c.requires.action))

pub returns : goal.returns
returns c start f set has fits =
    let placed = of_set c.args.enc.now c.args.board.now.slots.items f (states_in start.task set) in
    let is : c.deref.result.now ≡ way_out_steps c.args.way.class (exec_slot c.args.enc.now c.args.way.action.0) c.args.way.action = c.deref.ensures.value ∙ c.in_ok-steps.ensures.made ∙ ap (λ (s : SetId). way_out_steps c.args.way.class s c.args.way.action) c.exec.ensures in
    run_left start c.make_all.new.enc c.make_all.new.board.slots.items placed _ _ _ c.make_all.result is
    (λ shows. way_done start c.args.enc.now c.args.board.now.slots.items c.args.way.class f set c.args.way.action has fits c.requires.action c.make_all.new.enc c.make_all.new.board.slots.items shows)
    (c.make_all.ensures start placed (shows_set start c.args.enc.now c.args.board.now.slots.items f (states_in start.task set) has) (run_can start placed _ _ is (way_program start c.args.enc.now c.args.board.now.slots.items c.args.way.class f set c.args.way.action has fits c.requires.action)))
