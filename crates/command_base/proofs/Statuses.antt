-- From an answer, its cause and its delivery to the status and what was written.
use Rattle.std.proofs.Common.{◌≡◌, ◌≢◌, ℕ, List, [], ◌∷◌, ◌⊎◌, inl, inr, refl, subst, sym, arith, ◌∙◌, ap, true}
use Rattle.std.specs.Prelude.{Contains}
use Rattle.std.specs.Io.KnownBytes.{append_known}
use Rattle.plan_io.specs.Counts.{Rose}
use Rattle.plan_io.specs.Fetches.{FailedLast}
use Rattle.command_base.specs.Answers.{Answer, affirmed, denied, refused, no_command, text_fault, over_limit, read_fault, no_memory, full, stray_outcome, unexecutable, status_of, text_of, is_shown}
use Rattle.command_base.specs.Faults.{IsQuietAt, MayHaveFault, NoFault}
use Rattle.command_base.specs.Delivery.{Seen, IsWhole, IsCut, IsDelivered}
use Rattle.command_base.specs.Words.{Bytes}
use Rattle.command_base.proofs.PddlDecides.{not_refused}

abbrev statuses : List ℕ
statuses = 0 ∷ 1 ∷ 2 ∷ 3 ∷ 4 ∷ 5 ∷ 6 ∷ 7 ∷ 8 ∷ 9 ∷ []

of_answer : (answer : Answer) → Contains statuses (status_of answer)
of_answer (affirmed text) = (0, omega arith, refl)
of_answer (denied text) = (1, omega arith, refl)
of_answer (refused no_command) = (2, omega arith, refl)
of_answer (refused (text_fault file fault)) = (3, omega arith, refl)
of_answer (refused (over_limit name)) = (4, omega arith, refl)
of_answer (refused (read_fault file)) = (6, omega arith, refl)
of_answer (refused no_memory) = (8, omega arith, refl)
of_answer (refused (full nodes)) = (5, omega arith, refl)
of_answer (refused (stray_outcome step word outcomes)) = (9, omega arith, refl)
of_answer (refused (unexecutable step)) = (9, omega arith, refl)

pub of_delivery : (answer : Answer) (out out' err err' : Seen) (status : ℕ) → IsDelivered answer out out' err err' status → Contains statuses status
of_delivery answer out out' err err' status (inl (is, whole)) = subst (Contains statuses) (sym is) (of_answer answer)
of_delivery answer out out' err err' status (inr (is, cut)) = subst (Contains statuses) (sym is) (7, omega arith, refl)

-- no answer has the status of a write fault
not_seven : (answer : Answer) → status_of answer ≢ 7
not_seven (affirmed text) is = omega arith
not_seven (denied text) is = omega arith
not_seven (refused no_command) is = omega arith
not_seven (refused (text_fault file fault)) is = omega arith
not_seven (refused (over_limit name)) is = omega arith
not_seven (refused (read_fault file)) is = omega arith
not_seven (refused no_memory) is = omega arith
not_seven (refused (full nodes)) is = omega arith
not_seven (refused (stray_outcome step word outcomes)) is = omega arith
not_seven (refused (unexecutable step)) is = omega arith

pub whole_delivery : (answer : Answer) (out out' err err' : Seen) (status : ℕ) → IsDelivered answer out out' err err' status → status ≢ 7
    → (status ≡ status_of answer) × IsWhole answer out out' err err'
whole_delivery answer out out' err err' status (inl whole) not = whole
whole_delivery answer out out' err err' status (inr (is, cut)) not = absurd (not is)

pub cut_delivery : (answer : Answer) (out out' err err' : Seen) (status : ℕ) → IsDelivered answer out out' err err' status → status ≡ 7
    → IsCut answer out out' err err'
cut_delivery answer out out' err err' status (inl (is, whole)) seven = absurd (not_seven answer (sym is ∙ seven))
cut_delivery answer out out' err err' status (inr (is, cut)) seven = cut

-- the answers at which the shelf may have had a fault have two statuses
fault_status : (answer : Answer) → MayHaveFault answer → status_of answer ≢ 6 → status_of answer ≢ 8 → ⊥
fault_status (affirmed text) may six eight = may
fault_status (denied text) may six eight = may
fault_status (refused no_command) may six eight = may
fault_status (refused (text_fault file fault)) may six eight = may
fault_status (refused (over_limit name)) may six eight = may
fault_status (refused (read_fault file)) may six eight = six refl
fault_status (refused no_memory) may six eight = eight refl
fault_status (refused (full nodes)) may six eight = may
fault_status (refused (stray_outcome step word outcomes)) may six eight = may
fault_status (refused (unexecutable step)) may six eight = may

pub quiet_shelf : (answer : Answer) (before after status : ℕ) → IsQuietAt answer before after → status ≡ status_of answer → status ≢ 6 → status ≢ 8 → after ≡ before
quiet_shelf answer before after status (inl same) is six eight = same
quiet_shelf answer before after status (inr may) is six eight = absurd (fault_status answer may (λ s. six (is ∙ s)) (λ s. eight (is ∙ s)))

pub quiet_sinks : (answer : Answer) (out out' err err' : Seen) → IsWhole answer out out' err err' → (out'.faults ≡ out.faults) × (err'.faults ≡ err.faults)
quiet_sinks answer out out' err err' (inl showed) = (showed.output.quiet, ap (λ (s : Seen). s.faults) showed.errors)
quiet_sinks answer out out' err err' (inr line) = (ap (λ (s : Seen). s.faults) line.output, line.errors.quiet)

-- the last fetch had a fault, so the count rose in the call
pub no_failure : {S : Type 0} (fetched : S → List ℕ → S → Type 0) (faults : S → ℕ) (before after : S) (file : List ℕ)
    → NoFault (faults before) (faults after) → FailedLast fetched faults before after file → ⊥
no_failure fetched faults before after file no_rise failed = no_rise (subst (λ n. Rose n (faults after)) failed.quiet failed.rose)

-- where no sink has a fault, the status is the answer's
pub undisturbed : (answer : Answer) (out out' err err' : Seen) (status : ℕ)
    → NoFault out.faults out'.faults → NoFault err.faults err'.faults → IsDelivered answer out out' err err' status → status ≡ status_of answer
undisturbed answer out out' err err' status no_out no_err (inl (is, whole)) = is
undisturbed answer out out' err err' status no_out no_err (inr (is, inl cut)) = absurd (no_out cut.output.fault)
undisturbed answer out out' err err' status no_out no_err (inr (is, inr cut)) = absurd (no_err cut.errors.fault)

-- what was written of an answer with status 0 or 1
pub written_shown : (answer : Answer) (text : Bytes) (out out' err err' : Seen) → IsWhole answer out out' err err' → is_shown answer ≡ true → text_of answer ≡ text
    → out'.written ≡ append_known out.written text
written_shown answer text out out' err err' (inl showed) shown is = showed.output.written ∙ ap (append_known out.written) is
written_shown answer text out out' err err' (inr line) shown is = absurd (cc (shown, line.unshown))

-- status 0 and 1 are those of shown answers
pub shown_at : (a : Answer) → (status_of a ≡ 0) ⊎ (status_of a ≡ 1) → is_shown a ≡ true
shown_at (affirmed text) is = refl
shown_at (denied text) is = refl
shown_at (refused no_command) is = grind arith
shown_at (refused (text_fault file fault)) is = grind arith
shown_at (refused (over_limit name)) is = grind arith
shown_at (refused (read_fault file)) is = grind arith
shown_at (refused no_memory) is = grind arith
shown_at (refused (full nodes)) is = grind arith
shown_at (refused (stray_outcome step word outcomes)) is = grind arith
shown_at (refused (unexecutable step)) is = grind arith

-- what was written at status 5: that the table of nodes is full, where no other answer has that status
pub written_full : (nodes status : ℕ) (a : Answer) (out out' err err' : Seen) (May Other : Type 0) → IsDelivered a out out' err err' status → status ≡ 5 → (Other → status_of a ≢ 5)
    → (a ≡ refused no_memory) ⊎ (May × (a ≡ refused (full nodes))) ⊎ Other → May × (err'.written ≡ append_known err.written (text_of (refused (full nodes))))
written_full nodes status a out out' err err' May Other delivered five not_full = go where
  whole : (status ≡ status_of a) × IsWhole a out out' err err'
  whole = whole_delivery a out out' err err' status delivered (λ seven. let e : 5 ≡ 7 = sym five ∙ seven in omega arith)

  code : status_of a ≡ 5
  code = sym whole.0 ∙ five

  line : a ≡ refused (full nodes) → IsWhole a out out' err err' → err'.written ≡ append_known err.written (text_of (refused (full nodes)))
  line is (inl showed) = absurd (not_refused (full nodes) a is showed.shown)
  line is (inr refusal) = refusal.errors.written ∙ ap (λ b. append_known err.written (text_of b)) is

  go : (a ≡ refused no_memory) ⊎ (May × (a ≡ refused (full nodes))) ⊎ Other → May × (err'.written ≡ append_known err.written (text_of (refused (full nodes))))
  go (inl is) = absurd (let e : 5 ≡ 8 = sym code ∙ ap status_of is in omega arith)
  go (inr (inl (may, is))) = (may, line is whole.1)
  go (inr (inr other)) = absurd (not_full other code)
