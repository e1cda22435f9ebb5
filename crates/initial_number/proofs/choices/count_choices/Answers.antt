use Rattle.std.proofs.Common.{◌≡◌, ◌+◌, ◌*◌, ◌<◌, ◌≤◌, ap, arith, length, subst, sym, ◌∙◌, ⊎_elim}
use Rattle.std.proofs.lemmas.Bool.{cases_lt}
use Rattle.task_core.specs.Initial.{entries_of, entry_of}
use Rattle.task_core.specs.States.{truth}
use Rattle.task_core.specs.Tasks.{states_after_entries}
use Rattle.task_core.proofs.StateLists.{length-entry_of}
use Rattle.initial_number.proofs.ChoiceLemmas.{HaveChoices, entry_in_loop, fits_in_state, more_in_loop}
use Rattle.initial_number.proofs.choices.count_choices.Goals as goal

pub names_marked-requires : goal.names_marked-requires
names_marked-requires c =
    rw c.deref.ensures.value (fits_in_state _ _ _ (entry_in_loop c.args.task.now c.deref-entry-items.result.now c.loop-entry.entry-index c.entry-item.result c.deref-entry-items.ensures.value c.loop-entry-test.true c.entry-item.is))

pub are_apart-requires : goal.are_apart-requires
are_apart-requires c =
    rw c.deref-else-names_marked.ensures.value (fits_in_state _ _ _ (entry_in_loop c.args.task.now c.deref-entry-items.result.now c.loop-entry.entry-index c.entry-item.result c.deref-entry-items.ensures.value c.loop-entry-test.true c.entry-item.is))

pub with_marks-marks-requires : goal.with_marks-marks-requires
with_marks-marks-requires c =
    rw c.deref-in-loop-entry.ensures.value (fits_in_state _ _ _ (entry_in_loop c.args.task.now c.deref-entry-items.result.now c.loop-entry.entry-index c.entry-item.result c.deref-entry-items.ensures.value c.loop-entry-test.true c.entry-item.is))

pub returns-in-None-clause-too_many : goal.returns-in-None-clause-too_many
returns-in-None-clause-too_many c = λ _.
    let task = c.args.task.now in
    let i = c.loop-entry.entry-index in
    let x = c.entry-item.result in
    let at = entry_in_loop task c.deref-entry-items.result.now i x c.deref-entry-items.ensures.value c.loop-entry-test.true c.entry-item.is in
    let next = more_in_loop task i c.loop-entry.count c.loop-entry.marks c.with_marks-marks.result x c.deref.result.now c.deref-else-names_marked.result.now c.deref-in-loop-entry.result.now at c.loop-entry.invariant.choices
    c.deref.ensures.value c.deref-else-names_marked.ensures.value c.deref-in-loop-entry.ensures.value
    c.if-names_marked.ensures
    (λ n all within. c.in_ok-are_apart.ensures c.if-not-branch.false n all within)
    c.with_marks-marks.ensures in
    let len : c.len.result ≡ length (entry_of x.items) = omega (arith, c.len.ensures, x.ok.0, length-entry_of x.items) in
    let above : c.args.limit < c.loop-entry.count * c.len.result =
    ⊎_elim (λ (more : c.args.limit < c.loop-entry.count * c.len.result). more)
    (λ (few : c.loop-entry.count * c.len.result ≤ c.args.limit). absurd (c.in-None.ensures few))
    (cases_lt c.args.limit (c.loop-entry.count * c.len.result)) in
    let above_here : c.args.limit < c.loop-entry.count * length (entry_of x.items) = subst (λ k. c.args.limit < c.loop-entry.count * k) len above in
    let below : i + 1 ≤ length (entries_of task.init) = omega (arith, at.below) in
    (i + 1, below, subst (λ k. c.args.limit < k) (sym next.sized) above_here)

pub loop-entry-preserved : goal.loop-entry-preserved
loop-entry-preserved c =
    let task = c.args.task.now in
    let i = c.loop-entry.entry-index in
    let x = c.entry-item.result in
    let at = entry_in_loop task c.deref-entry-items.result.now i x c.deref-entry-items.ensures.value c.loop-entry-test.true c.entry-item.is in
    let next = more_in_loop task i c.loop-entry.count c.loop-entry.marks c.with_marks-marks.result x c.deref.result.now c.deref-else-names_marked.result.now c.deref-in-loop-entry.result.now at c.loop-entry.invariant.choices
    c.deref.ensures.value c.deref-else-names_marked.ensures.value c.deref-in-loop-entry.ensures.value
    c.if-names_marked.ensures
    (λ n all within. c.in_ok-are_apart.ensures c.if-not-branch.false n all within)
    c.with_marks-marks.ensures in
    let len : c.len.result ≡ length (entry_of x.items) = omega (arith, c.len.ensures, x.ok.0, length-entry_of x.items) in
    let product : c.loop-entry.count * length (entry_of x.items) ≡ c.in-Some.more = ap (λ k. c.loop-entry.count * k) (sym len) ∙ sym c.in-Some.ensures.1 in
    let few : c.in-Some.more ≤ c.args.limit = subst (λ k. k ≤ c.args.limit) (sym c.in-Some.ensures.1) c.in-Some.ensures.0 in
    record {
      choices = subst (λ k. HaveChoices task (i + 1) k (truth c.with_marks-marks.result)) product next;
      few = λ k le. ⊎_elim (λ (early : k < i + 1). c.loop-entry.invariant.few k (omega arith))
          (λ (late : i + 1 ≤ k).
          let last : i + 1 ≡ k = omega arith in
          subst (λ j. length (states_after_entries task j) ≤ c.args.limit) last
          (subst (λ m. m ≤ c.args.limit) (sym (next.sized ∙ product)) few))
          (cases_lt k (i + 1));
    }
