-- The verdict on the sets, and no slot stays.
use Rattle.std.proofs.Common.{◌≡◌, ◌∙◌, ◌+◌, ◌^◌, [], ◌∷◌, arith, ap, length, map, subst, sym}
use Rattle.std.specs.Prelude.{IsSome}
use Rattle.dd_sets.proofs.NoRoomLemmas.{no_room_tight}
use Rattle.dd_sets.proofs.RoomSteps.{room_wider}
use Rattle.encode_task.specs.Slots.{Encoded}
use Rattle.encode_task.proofs.MadeLemmas.{goal_there}
use Rattle.plan_certs.specs.Named.{plain_certificate, set_of}
use Rattle.preimage.proofs.FrameSteps.{made_now, same_chain}
use Rattle.slot_board.proofs.Endings.{ends_at, ends_full, ends_ok}
use Rattle.cert_check.specs.Judgements.{IsVerdict, judgement}
use Rattle.cert_check.specs.Sizes.{JudgeFits}
use Rattle.cert_check.proofs.FitLemmas.{board_of, judge_fits, start_of}
use Rattle.cert_check.proofs.Sizes.{large_fits, room_by_sets}
use Rattle.cert_check.proofs.VerdictLemmas.{verdict_is}
use Rattle.task_core.specs.Tasks.{action_count, fluent_count, system_of}
use Rattle.cert_check.proofs.verdict.refute.Goals as goal

pub returns-in_err-board-clause-made : goal.returns-in_err-board-clause-made
returns-in_err-board-clause-made c task made = made_now task c.args.enc.now c.new.new.enc c.new.ensures.same_slots c.in_err-board.ensures.refused.kept made

pub judge-judged-requires-clause-ready : goal.judge-judged-requires-clause-ready
judge-judged-requires-clause-ready c =
    let sets = map set_of c.args.certificate.now.sets.items in
    let class = c.args.certificate.now.class in
    let eq : map set_of c.deref.result.now ≡ sets = ap (map set_of) c.deref.ensures.value in
    let start = start_of c.args.task.now c.args.enc.now c.requires.made (2 ^ fluent_count c.args.task.now + 1) (large_fits c.args.certificate.now.class c.args.task.now (map set_of c.args.certificate.now.sets.items)).wide in
    let opened = c.in_ok-board.ensures.opened c.args.task.now c.requires.made 0 (2 ^ fluent_count c.args.task.now + 1) (large_fits c.args.certificate.now.class c.args.task.now (map set_of c.args.certificate.now.sets.items)).wide (2 ∷ 4 ∷ []) in
    let fits = subst (JudgeFits start class) (sym eq) (judge_fits start class sets (board_of c.args.task.now c.args.enc.now c.requires.made (2 ^ fluent_count c.args.task.now + 1) (large_fits c.args.certificate.now.class c.args.task.now (map set_of c.args.certificate.now.sets.items)).wide) c.requires.in_task (large_fits c.args.certificate.now.class c.args.task.now (map set_of c.args.certificate.now.sets.items))) in
    (start, opened.at, fits)

pub judge-judged-requires-clause-goal : goal.judge-judged-requires-clause-goal
judge-judged-requires-clause-goal c = subst (λ (e : Encoded). IsSome e.goal) (sym c.new.ensures.same_slots) (goal_there c.args.task.now c.args.enc.now c.requires.made c.requires.goal)

pub judge-judged-requires-clause-actions : goal.judge-judged-requires-clause-actions
judge-judged-requires-clause-actions c =
    let count : length c.args.enc.now.actions ≡ action_count c.args.task.now = c.requires.made.actions in
    let same : length c.new.new.enc.actions ≡ length c.args.enc.now.actions = ap (λ (e : Encoded). length e.actions) c.new.ensures.same_slots in
    omega arith

pub close-requires : goal.close-requires
close-requires c =
    let sets = map set_of c.args.certificate.now.sets.items in
    let class = c.args.certificate.now.class in
    let eq : map set_of c.deref.result.now ≡ sets = ap (map set_of) c.deref.ensures.value in
    let start = start_of c.args.task.now c.args.enc.now c.requires.made (2 ^ fluent_count c.args.task.now + 1) (large_fits c.args.certificate.now.class c.args.task.now (map set_of c.args.certificate.now.sets.items)).wide in
    let opened = c.in_ok-board.ensures.opened c.args.task.now c.requires.made 0 (2 ^ fluent_count c.args.task.now + 1) (large_fits c.args.certificate.now.class c.args.task.now (map set_of c.args.certificate.now.sets.items)).wide (2 ∷ 4 ∷ []) in
    let fits = subst (JudgeFits start class) (sym eq) (judge_fits start class sets (board_of c.args.task.now c.args.enc.now c.requires.made (2 ^ fluent_count c.args.task.now + 1) (large_fits c.args.certificate.now.class c.args.task.now (map set_of c.args.certificate.now.sets.items)).wide) c.requires.in_task (large_fits c.args.certificate.now.class c.args.task.now (map set_of c.args.certificate.now.sets.items))) in
    (c.args.enc.now.sets, (ends_at start c.judge-judged.new.enc c.judge-judged.new.board.slots.items _ c.judge-judged.result (λ judged done. done.0) (c.judge-judged.ensures start opened.at fits)).working)

pub returns-clause-verdict : goal.returns-clause-verdict
returns-clause-verdict c =
    let sets = map set_of c.args.certificate.now.sets.items in
    let class = c.args.certificate.now.class in
    let eq : map set_of c.deref.result.now ≡ sets = ap (map set_of) c.deref.ensures.value in
    let start = start_of c.args.task.now c.args.enc.now c.requires.made (2 ^ fluent_count c.args.task.now + 1) (large_fits c.args.certificate.now.class c.args.task.now (map set_of c.args.certificate.now.sets.items)).wide in
    let opened = c.in_ok-board.ensures.opened c.args.task.now c.requires.made 0 (2 ^ fluent_count c.args.task.now + 1) (large_fits c.args.certificate.now.class c.args.task.now (map set_of c.args.certificate.now.sets.items)).wide (2 ∷ 4 ∷ []) in
    let fits = subst (JudgeFits start class) (sym eq) (judge_fits start class sets (board_of c.args.task.now c.args.enc.now c.requires.made (2 ^ fluent_count c.args.task.now + 1) (large_fits c.args.certificate.now.class c.args.task.now (map set_of c.args.certificate.now.sets.items)).wide) c.requires.in_task (large_fits c.args.certificate.now.class c.args.task.now (map set_of c.args.certificate.now.sets.items))) in
    ends_ok start c.judge-judged.new.enc c.judge-judged.new.board.slots.items _ _ c.judge-judged.result
    (λ judged done. subst (IsVerdict (system_of c.args.task.now) (plain_certificate c.args.certificate.now)) (sym (done.1 ∙ ap (judgement class c.args.task.now) eq)) (verdict_is c.args.task.now (plain_certificate c.args.certificate.now) c.requires.in_task c.requires.goal))
    (c.judge-judged.ensures start opened.at fits)

pub returns-clause-full : goal.returns-clause-full
returns-clause-full c full =
    let sets = map set_of c.args.certificate.now.sets.items in
    let class = c.args.certificate.now.class in
    let eq : map set_of c.deref.result.now ≡ sets = ap (map set_of) c.deref.ensures.value in
    let start = start_of c.args.task.now c.args.enc.now c.requires.made (2 ^ fluent_count c.args.task.now + 1) (large_fits c.args.certificate.now.class c.args.task.now (map set_of c.args.certificate.now.sets.items)).wide in
    let opened = c.in_ok-board.ensures.opened c.args.task.now c.requires.made 0 (2 ^ fluent_count c.args.task.now + 1) (large_fits c.args.certificate.now.class c.args.task.now (map set_of c.args.certificate.now.sets.items)).wide (2 ∷ 4 ∷ []) in
    let fits = subst (JudgeFits start class) (sym eq) (judge_fits start class sets (board_of c.args.task.now c.args.enc.now c.requires.made (2 ^ fluent_count c.args.task.now + 1) (large_fits c.args.certificate.now.class c.args.task.now (map set_of c.args.certificate.now.sets.items)).wide) c.requires.in_task (large_fits c.args.certificate.now.class c.args.task.now (map set_of c.args.certificate.now.sets.items))) in
    no_room_tight (2 ^ fluent_count c.args.task.now + 1) c.args.enc.now.sets c.close.new.enc.sets 24 6
    (room_wider c.args.enc.now.sets (5 + 0 + 8) 24 6 6 (omega arith) (omega arith)
    (c.close.ensures.room c.args.enc.now.sets (2 ^ fluent_count c.args.task.now + 1) _ _ (ends_full start c.judge-judged.new.enc c.judge-judged.new.board.slots.items _ c.judge-judged.result (c.judge-judged.ensures start opened.at fits) full)))

pub returns-clause-at_limit : goal.returns-clause-at_limit
returns-clause-at_limit c full =
    let sets = map set_of c.args.certificate.now.sets.items in
    let class = c.args.certificate.now.class in
    let eq : map set_of c.deref.result.now ≡ sets = ap (map set_of) c.deref.ensures.value in
    let start = start_of c.args.task.now c.args.enc.now c.requires.made (2 ^ fluent_count c.args.task.now + 1) (large_fits c.args.certificate.now.class c.args.task.now (map set_of c.args.certificate.now.sets.items)).wide in
    let opened = c.in_ok-board.ensures.opened c.args.task.now c.requires.made 0 (2 ^ fluent_count c.args.task.now + 1) (large_fits c.args.certificate.now.class c.args.task.now (map set_of c.args.certificate.now.sets.items)).wide (2 ∷ 4 ∷ []) in
    let fits = subst (JudgeFits start class) (sym eq) (judge_fits start class sets (board_of c.args.task.now c.args.enc.now c.requires.made (2 ^ fluent_count c.args.task.now + 1) (large_fits c.args.certificate.now.class c.args.task.now (map set_of c.args.certificate.now.sets.items)).wide) c.requires.in_task (large_fits c.args.certificate.now.class c.args.task.now (map set_of c.args.certificate.now.sets.items))) in
    (c.close.ensures.room c.args.enc.now.sets (2 ^ fluent_count c.args.task.now + 1) _ _ (ends_full start c.judge-judged.new.enc c.judge-judged.new.board.slots.items _ c.judge-judged.result (c.judge-judged.ensures start opened.at fits) full)).at_limit

pub returns-clause-full_by_sets : goal.returns-clause-full_by_sets
returns-clause-full_by_sets c full order w wide =
    room_by_sets w c.args.task.now (plain_certificate c.args.certificate.now) wide c.args.enc.now.sets c.close.new.enc.sets
    (λ r sizes.
    let sets = map set_of c.args.certificate.now.sets.items in
    let class = c.args.certificate.now.class in
    let eq : map set_of c.deref.result.now ≡ sets = ap (map set_of) c.deref.ensures.value in
    let start = start_of c.args.task.now c.args.enc.now c.requires.made (r) sizes.wide in
    let opened = c.in_ok-board.ensures.opened c.args.task.now c.requires.made 0 (r) sizes.wide (2 ∷ 4 ∷ []) in
    let fits = subst (JudgeFits start class) (sym eq) (judge_fits start class sets (board_of c.args.task.now c.args.enc.now c.requires.made (r) sizes.wide) c.requires.in_task sizes) in
    room_wider c.args.enc.now.sets (5 + 0 + 8) 13 6 6 (omega arith) (omega arith)
    (c.close.ensures.room c.args.enc.now.sets r _ _ (ends_full start c.judge-judged.new.enc c.judge-judged.new.board.slots.items _ c.judge-judged.result (c.judge-judged.ensures start opened.at fits) full)))
    order

pub returns-clause-slots : goal.returns-clause-slots
returns-clause-slots c =
    let sets = map set_of c.args.certificate.now.sets.items in
    let class = c.args.certificate.now.class in
    let eq : map set_of c.deref.result.now ≡ sets = ap (map set_of) c.deref.ensures.value in
    let start = start_of c.args.task.now c.args.enc.now c.requires.made (2 ^ fluent_count c.args.task.now + 1) (large_fits c.args.certificate.now.class c.args.task.now (map set_of c.args.certificate.now.sets.items)).wide in
    let opened = c.in_ok-board.ensures.opened c.args.task.now c.requires.made 0 (2 ^ fluent_count c.args.task.now + 1) (large_fits c.args.certificate.now.class c.args.task.now (map set_of c.args.certificate.now.sets.items)).wide (2 ∷ 4 ∷ []) in
    let fits = subst (JudgeFits start class) (sym eq) (judge_fits start class sets (board_of c.args.task.now c.args.enc.now c.requires.made (2 ^ fluent_count c.args.task.now + 1) (large_fits c.args.certificate.now.class c.args.task.now (map set_of c.args.certificate.now.sets.items)).wide) c.requires.in_task (large_fits c.args.certificate.now.class c.args.task.now (map set_of c.args.certificate.now.sets.items))) in
    c.close.ensures.frame c.args.enc.now.sets (ends_at start c.judge-judged.new.enc c.judge-judged.new.board.slots.items _ c.judge-judged.result (λ judged done. done.0) (c.judge-judged.ensures start opened.at fits)).working

pub returns-clause-same_slots : goal.returns-clause-same_slots
returns-clause-same_slots c =
    let sets = map set_of c.args.certificate.now.sets.items in
    let class = c.args.certificate.now.class in
    let eq : map set_of c.deref.result.now ≡ sets = ap (map set_of) c.deref.ensures.value in
    let start = start_of c.args.task.now c.args.enc.now c.requires.made (2 ^ fluent_count c.args.task.now + 1) (large_fits c.args.certificate.now.class c.args.task.now (map set_of c.args.certificate.now.sets.items)).wide in
    let opened = c.in_ok-board.ensures.opened c.args.task.now c.requires.made 0 (2 ^ fluent_count c.args.task.now + 1) (large_fits c.args.certificate.now.class c.args.task.now (map set_of c.args.certificate.now.sets.items)).wide (2 ∷ 4 ∷ []) in
    let fits = subst (JudgeFits start class) (sym eq) (judge_fits start class sets (board_of c.args.task.now c.args.enc.now c.requires.made (2 ^ fluent_count c.args.task.now + 1) (large_fits c.args.certificate.now.class c.args.task.now (map set_of c.args.certificate.now.sets.items)).wide) c.requires.in_task (large_fits c.args.certificate.now.class c.args.task.now (map set_of c.args.certificate.now.sets.items))) in
    same_chain c.args.enc.now c.judge-judged.new.enc c.close.new.enc (ends_at start c.judge-judged.new.enc c.judge-judged.new.board.slots.items _ c.judge-judged.result (λ judged done. done.0) (c.judge-judged.ensures start opened.at fits)).same c.close.ensures.same_slots

pub returns-clause-made : goal.returns-clause-made
returns-clause-made c task made =
    let sets = map set_of c.args.certificate.now.sets.items in
    let class = c.args.certificate.now.class in
    let eq : map set_of c.deref.result.now ≡ sets = ap (map set_of) c.deref.ensures.value in
    let start = start_of c.args.task.now c.args.enc.now c.requires.made (2 ^ fluent_count c.args.task.now + 1) (large_fits c.args.certificate.now.class c.args.task.now (map set_of c.args.certificate.now.sets.items)).wide in
    let opened = c.in_ok-board.ensures.opened c.args.task.now c.requires.made 0 (2 ^ fluent_count c.args.task.now + 1) (large_fits c.args.certificate.now.class c.args.task.now (map set_of c.args.certificate.now.sets.items)).wide (2 ∷ 4 ∷ []) in
    let fits = subst (JudgeFits start class) (sym eq) (judge_fits start class sets (board_of c.args.task.now c.args.enc.now c.requires.made (2 ^ fluent_count c.args.task.now + 1) (large_fits c.args.certificate.now.class c.args.task.now (map set_of c.args.certificate.now.sets.items)).wide) c.requires.in_task (large_fits c.args.certificate.now.class c.args.task.now (map set_of c.args.certificate.now.sets.items))) in
    made_now task c.args.enc.now c.close.new.enc (same_chain c.args.enc.now c.judge-judged.new.enc c.close.new.enc (ends_at start c.judge-judged.new.enc c.judge-judged.new.board.slots.items _ c.judge-judged.result (λ judged done. done.0) (c.judge-judged.ensures start opened.at fits)).same c.close.ensures.same_slots) (c.close.ensures.frame c.args.enc.now.sets (ends_at start c.judge-judged.new.enc c.judge-judged.new.board.slots.items _ c.judge-judged.result (λ judged done. done.0) (c.judge-judged.ensures start opened.at fits)).working).kept made
