use Rattle.std.proofs.Common.{◌≡◌, ◌↔◌, ◌∙◌, IfOk, IsTrue, ℕ, ap, subst, sym, true}
use Rattle.dd_nodes.specs.NodeList.{Values}
use Rattle.dd_ops.specs.Operations.{minus_of}
use Rattle.dd_sets.specs.LiveSets.{set_of}
use Rattle.dd_sets.specs.Rooms.{Rough}
use Rattle.dd_sets.proofs.OperationSizes.{difference_rough}
use Rattle.encode_task.specs.TaskSets.{initial_set}
use Rattle.task_core.specs.Tasks.{fluent_count}
use Rattle.slot_board.specs.Board.{set_at}
use Rattle.slot_board.proofs.BoardSizes.{rough_now}
use Rattle.slot_board.proofs.BoardSlots.{covered_answer, initial_is, tested}
use Rattle.slot_board.proofs.board.Board.covers_initial.Goals as goal

pub returns-clause-left : goal.returns-clause-left
returns-clause-left c start here fits =
    let sets = c.args.enc.now.sets in
    let slots = c.args.self.now.slots.items in
    let e : minus_of (initial_set start.task) (set_at sets slots c.args.place) ≡ minus_of (set_of sets c.args.enc.now.initial.0) (set_of sets c.at-set.result.0) =
    ap (λ f. minus_of f (set_at sets slots c.args.place)) (sym (initial_is start c.args.enc.now slots here)) ∙ ap (λ s. minus_of (set_of sets c.args.enc.now.initial.0) (set_of sets s)) (sym c.at-set.ensures) in
    tested start c.args.enc.now c.holds_initial.new.enc slots c.holds_initial.result here c.holds_initial.ensures.same_slots c.holds_initial.ensures.kept c.holds_initial.ensures.none c.holds_initial.ensures.sound
    (λ full. c.holds_initial.ensures.full full start.width
    (subst (Rough sets.vars start.width) e
    (rough_now start c.args.enc.now slots here _ (difference_rough (fluent_count start.task) start.width (initial_set start.task) (set_at sets slots c.args.place) fits.0 fits.1))))

pub returns-clause-answer : goal.returns-clause-answer
returns-clause-answer c start here =
    covered_answer start c.args.enc.now c.holds_initial.new.enc c.args.self.now.slots.items c.args.place c.holds_initial.result here c.requires.place c.holds_initial.ensures.same_slots c.holds_initial.ensures.kept c.holds_initial.ensures.none c.holds_initial.ensures.sound
    (subst (λ (s : ℕ). IfOk c.holds_initial.result (λ inside. IsTrue inside ↔ ((values : Values) → set_of c.args.enc.now.sets c.args.enc.now.initial.0 values ≡ true → set_of c.args.enc.now.sets s values ≡ true))) c.at-set.ensures c.holds_initial.ensures.answer)
