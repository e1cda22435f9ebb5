-- Status 6: which file of the command can't be read.
use Rattle.std.proofs.Common.{◌≡◌, ◌≢◌, ◌<◌, Bool, ℕ, zero, suc, List, [], ◌∷◌, length, ◌⊎◌, inl, inr, refl, sym, arith, ◌∙◌, ap}
use Rattle.std.specs.Prelude.{slice_index_or, None, Some}
use Rattle.std.specs.Io.KnownBytes.{append_known}
use Rattle.pddl_ast.specs.Trees.{DomainTree, ProblemTree}
use Rattle.pddl_system.specs.Systems.{action_names, fluent_names, system}
use Rattle.plan_check.specs.declared.verdicts.Verdict.{Verdict}
use Rattle.plan_check.specs.declared.verdicts.Verdict.TheVariants.{Yes, No}
use Rattle.plan_io.specs.Held.{Held, Missing}
use Rattle.run_replay.specs.Traces.{Ending, Terminal, Ended, Capped, Stray, Unexecutable}
use Rattle.command_base.specs.Answers.{Answer, Refusal, refused, no_memory, read_fault, status_of, status_of_refusal, text_of}
use Rattle.mbp_top.specs.Causes.{IsAnswerOf}
use Rattle.command_base.specs.Following.{HasTooManyStates}
use Rattle.check_command.specs.CheckCommand.{IsChecked, verdict_answer}
use Rattle.command_base.specs.Delivery.{IsWhole}
use Rattle.drill_command.specs.DrillCommand.{IsDrillAnswer, IsDrilled, IsNotFollowed}
use Rattle.ground_command.specs.GroundCommand.{IsListed}
use Rattle.mbp_top.specs.Laws.{IsUnread, IsUnreadAt}
use Rattle.command_base.specs.PddlTexts.{IsFaultyDomain, IsFaultyProblem, ReadBoth}
use Rattle.plan_command.specs.PlanCommand.{IsPlanResult, IsPlanned, IsResultOf}
use Rattle.command_base.specs.PlanFiles.{IsFaultyPlan}
use Rattle.command_base.specs.Reading.{IsFile, IsRefusedFile}
use Rattle.refute_command.specs.RefuteCommand.{IsFaultyCertificate, IsRefuted, judged_answer}
use Rattle.cert_check.specs.declared.verdict.Judged.{Judged}
use Rattle.cert_check.specs.declared.verdict.Judged.TheVariants.{Accepted, Rejected}
use Rattle.replay_command.specs.ReplayCommand.{IsFaultyRecord, IsReplay, Tallies, ended_answer, trace_under}
use Rattle.mbp_top.specs.Runs.{HasRun, Run}
use Rattle.command_base.specs.Frame.{FailedIn}
use Rattle.command_base.specs.Words.{Bytes, CheckWords, Command, DrillWords, PlanKind, PlanWords, ReplayWords, check, drill, files_of, ground, of_class, plan, replay, with_contexts, RefuteWords, refute}
use Rattle.mbp_top.proofs.ByCommand.{of_command}
use Rattle.command_base.proofs.PddlDecides.{not_refused}
use Rattle.command_base.proofs.Statuses.{whole_delivery}
use Rattle.task_core.specs.declared.classes.Class.{Class}
use Rattle.task_core.specs.declared.classes.Class.TheVariants.{Weak, Strong, Cyclic}
use Rattle.task_core.specs.Systems.{System}

-- the file of this place can't be read, and that is the answer
record UnreadAt (held : Bytes → Held) (failed : Bytes → Type 0) (files : List Bytes) (a : Answer) : Type 0 where
  pub place : ℕ
  pub name : Bytes
  pub there : place < length files
  pub named : slice_index_or files place [] ≡ name
  pub before : (i : ℕ) → i < place → (bytes : Bytes) × IsFile held (slice_index_or files i []) bytes
  pub unread : (held name ≡ Missing) ⊎ failed name
  pub shown : a ≡ refused (read_fault name)

none_before : (held : Bytes → Held) (files : List Bytes) (i : ℕ) → i < 0 → (bytes : Bytes) × IsFile held (slice_index_or files i []) bytes
none_before held files i less = absurd (omega (arith, less))

one_before : (held : Bytes → Held) (x : Bytes) (files : List Bytes) (b : Bytes) → IsFile held x b
    → (i : ℕ) → i < 1 → (bytes : Bytes) × IsFile held (slice_index_or (x ∷ files) i []) bytes
one_before held x files b file zero less = (b, file)
one_before held x files b file (suc i) less = absurd (omega (arith, less))

two_before : (held : Bytes → Held) (x y : Bytes) (files : List Bytes) (b c : Bytes) → IsFile held x b → IsFile held y c
    → (i : ℕ) → i < 2 → (bytes : Bytes) × IsFile held (slice_index_or (x ∷ y ∷ files) i []) bytes
two_before held x y files b c file file' zero less = (b, file)
two_before held x y files b c file file' (suc i) less = one_before held y files c file' i (omega (arith, less))

three_before : (held : Bytes → Held) (x y z : Bytes) (files : List Bytes) (b c e : Bytes) → IsFile held x b → IsFile held y c → IsFile held z e
    → (i : ℕ) → i < 3 → (bytes : Bytes) × IsFile held (slice_index_or (x ∷ y ∷ z ∷ files) i []) bytes
three_before held x y z files b c e file file' file'' zero less = (b, file)
three_before held x y z files b c e file file' file'' (suc i) less = two_before held y z files c e file' file'' i (omega (arith, less))

-- a file that is refused with this status can't be read
unread_file : (held : Bytes → Held) (failed : Bytes → Type 0) (Wrong : Bytes → Bytes → Refusal → Type 0) (name : Bytes) (r : Refusal)
    → ((bytes : Bytes) → Wrong name bytes r → status_of_refusal r ≡ 3) → IsRefusedFile held failed Wrong name r → status_of_refusal r ≡ 6
    → (r ≡ read_fault name) × ((held name ≡ Missing) ⊎ failed name)
unread_file held failed Wrong name r wrong (inl (is, why)) six = (is, why)
unread_file held failed Wrong name r wrong (inr (inl (is, long))) six = absurd (omega (arith, ap status_of_refusal is, six))
unread_file held failed Wrong name r wrong (inr (inr misspelled)) six = absurd (omega (arith, wrong misspelled.bytes misspelled.wrong, six))

unread_at : (held : Bytes → Held) (failed : Bytes → Type 0) (files : List Bytes) (a : Answer) (r : Refusal) (place : ℕ) (name : Bytes) → place < length files
    → slice_index_or files place [] ≡ name → ((i : ℕ) → i < place → (bytes : Bytes) × IsFile held (slice_index_or files i []) bytes)
    → a ≡ refused r → (r ≡ read_fault name) × ((held name ≡ Missing) ⊎ failed name) → UnreadAt held failed files a
unread_at held failed files a r place name there named before is why =
    record { place = place; name = name; there = there; named = named; before = before; unread = why.1; shown = is ∙ ap refused why.0 }

-- what is known where both files were read
record BothRead (held : Bytes → Held) (dn pn : Bytes) (Then : DomainTree → ProblemTree → Answer → Type 0) (a : Answer) : Type 0 where
  pub domain : DomainTree
  pub problem : ProblemTree
  pub domain_bytes : Bytes
  pub problem_bytes : Bytes
  pub domain_file : IsFile held dn domain_bytes
  pub problem_file : IsFile held pn problem_bytes
  pub then : Then domain problem a

unread_both : (held : Bytes → Held) (failed : Bytes → Type 0) (dn pn : Bytes) (files : List Bytes) (Then : DomainTree → ProblemTree → Answer → Type 0) (a : Answer)
    → ReadBoth held failed dn pn Then a → status_of a ≡ 6 → UnreadAt held failed (dn ∷ pn ∷ files) a ⊎ BothRead held dn pn Then a
unread_both held failed dn pn files Then a (inl (r, is, why)) six =
    inl (unread_at held failed (dn ∷ pn ∷ files) a r 0 dn (omega arith) refl (none_before held (dn ∷ pn ∷ files)) is
    (unread_file held failed IsFaultyDomain dn r (λ bytes wrong. ap status_of_refusal wrong.2) why (sym (ap status_of is) ∙ six)))
unread_both held failed dn pn files Then a (inr (d, holds, inl (r, is, why))) six =
    inl (unread_at held failed (dn ∷ pn ∷ files) a r 1 pn (omega arith) refl (one_before held dn (pn ∷ files) holds.bytes holds.file) is
    (unread_file held failed (IsFaultyProblem d) pn r (λ bytes wrong. ap status_of_refusal wrong.2) why (sym (ap status_of is) ∙ six)))
unread_both held failed dn pn files Then a (inr (d, holds, inr (p, holds', then))) six =
    inr (record { domain = d; problem = p; domain_bytes = holds.bytes; problem_bytes = holds'.bytes; domain_file = holds.file; problem_file = holds'.file; then = then })

-- what follows the reading of files has another status
plan_has_other : (certified : Bool) (kind : PlanKind) (d : DomainTree) (p : ProblemTree) (a : Answer) → IsPlanResult certified kind d p a → status_of a ≢ 6
plan_has_other certified kind d p a (inl found) six = omega (arith, ap status_of found.shown, six)
plan_has_other certified kind d p a (inr missing) six = omega (arith, ap status_of missing.shown, six)

result_has_other : (certified : Bool) (kind : PlanKind) (name : Bytes) (d : DomainTree) (p : ProblemTree) (a : Answer) → IsResultOf certified kind name d p a → status_of a ≢ 6
result_has_other certified (of_class class) name d p a (inl (none, is)) six = omega (arith, ap status_of is, six)
result_has_other certified (of_class class) name d p a (inr (some, r)) six = plan_has_other certified (of_class class) d p a r six
result_has_other certified with_contexts name d p a (inl (none, is)) six = omega (arith, ap status_of is, six)
result_has_other certified with_contexts name d p a (inr (c, some, inl (many, is))) six = omega (arith, ap status_of is, six)
result_has_other certified with_contexts name d p a (inr (c, some, inr (few, inl (none, is)))) six = omega (arith, ap status_of is, six)
result_has_other certified with_contexts name d p a (inr (c, some, inr (few, inr (first, r)))) six = plan_has_other certified with_contexts d p a r six

planned_has_other : (asked : PlanWords) (d : DomainTree) (p : ProblemTree) (a : Answer) → IsPlanned asked d p a → status_of a ≢ 6
planned_has_other asked d p a (inl (none, is)) six = omega (arith, ap status_of is, six)
planned_has_other asked d p a (inr (some, inl (l, passed, is))) six = omega (arith, ap status_of is, six)
planned_has_other asked d p a (inr (some, inr (within, then))) six = result_has_other asked.certified asked.kind asked.problem d p a then six

listed_has_other : (d : DomainTree) (p : ProblemTree) (a : Answer) → IsListed d p a → status_of a ≢ 6
listed_has_other d p a (inl (l, passed, is)) six = omega (arith, ap status_of is, six)
listed_has_other d p a (inr (within, is)) six = omega (arith, ap status_of is, six)

verdict_has_other : (v : Verdict) → status_of (verdict_answer v) ≢ 6
verdict_has_other (Yes None) six = omega (arith, six)
verdict_has_other (Yes (Some bound)) six = omega (arith, six)
verdict_has_other (No reason) six = omega (arith, six)

judged_has_other : (j : Judged) → status_of (judged_answer j) ≢ 6
judged_has_other Accepted six = omega (arith, six)
judged_has_other (Rejected flaw) six = omega (arith, six)

ending_has_other : (text : Bytes) (e : Ending) → status_of (ended_answer text e) ≢ 6
ending_has_other text Terminal six = omega (arith, six)
ending_has_other text Ended six = omega (arith, six)
ending_has_other text Capped six = omega (arith, six)
ending_has_other text (Stray step word outcomes) six = omega (arith, six)
ending_has_other text (Unexecutable step) six = omega (arith, six)

line_has_other : (TooMany : Type 0) (class : Class) (sys : System) (a : Answer) → IsNotFollowed TooMany class sys a → status_of a ≢ 6
line_has_other TooMany class sys a (rules, found, inl (many, is)) six = omega (arith, ap status_of is, six)
line_has_other TooMany class sys a (rules, found, inr (inl (few, more, is))) six = omega (arith, ap status_of is, six)
line_has_other TooMany class sys a (rules, found, inr (inr (few, small, never))) six = never

drilled_has_other : (asked : DrillWords) (TooMany : Type 0) (sys : System) (a : Answer) → IsDrilled asked TooMany sys a → status_of a ≢ 6
drilled_has_other asked TooMany sys a (inl not) six = line_has_other TooMany Weak sys a not six
drilled_has_other asked TooMany sys a (inr (weak, w, inl not)) six = line_has_other TooMany Strong sys a not six
drilled_has_other asked TooMany sys a (inr (weak, w, inr (strong, s, inl not))) six = line_has_other TooMany Cyclic sys a not six
drilled_has_other asked TooMany sys a (inr (weak, w, inr (strong, s, inr (cyclic, c, is)))) six = omega (arith, ap status_of is, six)

drill_has_other : (asked : DrillWords) (a : Answer) → IsDrillAnswer asked a → status_of a ≢ 6
drill_has_other asked a (inl (may, is)) six = omega (arith, ap status_of is, six)
drill_has_other asked a (inr (inl (r, is, why))) six = omega (arith, ap status_of is, ap status_of_refusal why.2, six)
drill_has_other asked a (inr (inr (d, spelled, inl (r, is, why)))) six = omega (arith, ap status_of is, ap status_of_refusal why.2, six)
drill_has_other asked a (inr (inr (d, spelled, inr (p, spelled', inl (none, is))))) six = omega (arith, ap status_of is, six)
drill_has_other asked a (inr (inr (d, spelled, inr (p, spelled', inr (some, inl (l, passed, is)))))) six = omega (arith, ap status_of is, six)
drill_has_other asked a (inr (inr (d, spelled, inr (p, spelled', inr (some, inr (kept, drilled)))))) six = drilled_has_other asked (HasTooManyStates d p) (system d p) a drilled six

module _ (held : Bytes → Held) (failed : Bytes → Type 0) (a : Answer) (six : status_of a ≡ 6) where
  in_check : (asked : CheckWords) → BothRead held asked.domain asked.problem (IsChecked held failed asked) a → UnreadAt held failed (files_of (check asked)) a
  in_check asked both = go both.then where
    go : IsChecked held failed asked both.domain both.problem a → UnreadAt held failed (files_of (check asked)) a
    go (inl (none, is)) = absurd (omega (arith, ap status_of is, six))
    go (inr (some, inl (l, passed, is))) = absurd (omega (arith, ap status_of is, six))
    go (inr (some, inr (within, inl (r, is, why)))) =
        unread_at held failed (files_of (check asked)) a r 2 asked.plan (omega arith) refl
        (two_before held asked.domain asked.problem (asked.plan ∷ []) both.domain_bytes both.problem_bytes both.domain_file both.problem_file) is
        (unread_file held failed (IsFaultyPlan (fluent_names both.domain both.problem) (action_names both.domain both.problem)) asked.plan r (λ bytes wrong. ap status_of_refusal wrong.2) why (sym (ap status_of is) ∙ six))
    go (inr (some, inr (within, inr (placed, holds, inl (other, is))))) = absurd (omega (arith, ap status_of is, six))
    go (inr (some, inr (within, inr (placed, holds, inr (right, inl (many, is)))))) = absurd (omega (arith, ap status_of is, six))
    go (inr (some, inr (within, inr (placed, holds, inr (right, inr (inl (few, more, is))))))) = absurd (omega (arith, ap status_of is, six))
    go (inr (some, inr (within, inr (placed, holds, inr (right, inr (inr (few, small, inl (none, is)))))))) = absurd (omega (arith, ap status_of is, six))
    go (inr (some, inr (within, inr (placed, holds, inr (right, inr (inr (few, small, inr (first, (v, of, is))))))))) = absurd (verdict_has_other v (sym (ap status_of is) ∙ six))

  in_refute : (asked : RefuteWords) → BothRead held asked.domain asked.problem (IsRefuted held failed asked) a → UnreadAt held failed (files_of (refute asked)) a
  in_refute asked both = go both.then where
    go : IsRefuted held failed asked both.domain both.problem a → UnreadAt held failed (files_of (refute asked)) a
    go (inl (none, is)) = absurd (omega (arith, ap status_of is, six))
    go (inr (some, inl (l, passed, is))) = absurd (omega (arith, ap status_of is, six))
    go (inr (some, inr (within, inl (r, is, why)))) =
        unread_at held failed (files_of (refute asked)) a r 2 asked.certificate (omega arith) refl
        (two_before held asked.domain asked.problem (asked.certificate ∷ []) both.domain_bytes both.problem_bytes both.domain_file both.problem_file) is
        (unread_file held failed (IsFaultyCertificate (fluent_names both.domain both.problem)) asked.certificate r (λ bytes wrong. ap status_of_refusal wrong.2) why (sym (ap status_of is) ∙ six))
    go (inr (some, inr (within, inr (certificate, holds, inl (none, is))))) = absurd (omega (arith, ap status_of is, six))
    go (inr (some, inr (within, inr (certificate, holds, inr (first, (j, of, is)))))) = absurd (judged_has_other j (sym (ap status_of is) ∙ six))

  in_replay : (tallies : Tallies) (asked : ReplayWords) → BothRead held asked.domain asked.problem (IsReplay held failed tallies asked) a → UnreadAt held failed (files_of (replay asked)) a
  in_replay tallies asked both = go both.then where
    go : IsReplay held failed tallies asked both.domain both.problem a → UnreadAt held failed (files_of (replay asked)) a
    go (inl (l, passed, is)) = absurd (omega (arith, ap status_of is, six))
    go (inr (within, inl (r, is, why))) =
        unread_at held failed (files_of (replay asked)) a r 2 asked.plan (omega arith) refl
        (two_before held asked.domain asked.problem (asked.plan ∷ asked.recorded ∷ []) both.domain_bytes both.problem_bytes both.domain_file both.problem_file) is
        (unread_file held failed (IsFaultyPlan (fluent_names both.domain both.problem) (action_names both.domain both.problem)) asked.plan r (λ bytes wrong. ap status_of_refusal wrong.2) why (sym (ap status_of is) ∙ six))
    go (inr (within, inr (placed, holds, inl (r, is, why)))) =
        unread_at held failed (files_of (replay asked)) a r 3 asked.recorded (omega arith) refl
        (three_before held asked.domain asked.problem asked.plan (asked.recorded ∷ []) both.domain_bytes both.problem_bytes holds.bytes both.domain_file both.problem_file holds.file) is
        (unread_file held failed IsFaultyRecord asked.recorded r (λ bytes wrong. ap status_of_refusal wrong.2) why (sym (ap status_of is) ∙ six))
    go (inr (within, inr (placed, holds, inr (recorded, holds', inl (many, is))))) = absurd (omega (arith, ap status_of is, six))
    go (inr (within, inr (placed, holds, inr (recorded, holds', inr (few, inl (none, is)))))) = absurd (omega (arith, ap status_of is, six))
    go (inr (within, inr (placed, holds, inr (recorded, holds', inr (few, inr (some, inl (far, is))))))) = absurd (omega (arith, ap status_of is, six))
    go (inr (within, inr (placed, holds, inr (recorded, holds', inr (few, inr (some, inr (first, is, replayed))))))) =
        absurd (ending_has_other _ (trace_under (system both.domain both.problem) placed.plan first recorded.words).ending (sym (ap status_of replayed.shown) ∙ six))

  of_answer : (tallies : Tallies) (command : Command) → IsAnswerOf held failed tallies command a → UnreadAt held failed (files_of command) a
  of_answer tallies (plan asked) (inl (may, is)) = absurd (omega (arith, ap status_of is, six))
  of_answer tallies (plan asked) (inr read) = go (unread_both held failed asked.domain asked.problem [] (IsPlanned asked) a read six) where
    go : UnreadAt held failed (files_of (plan asked)) a ⊎ BothRead held asked.domain asked.problem (IsPlanned asked) a → UnreadAt held failed (files_of (plan asked)) a
    go (inl is) = is
    go (inr both) = absurd (planned_has_other asked both.domain both.problem a both.then six)
  of_answer tallies (ground asked) read = go (unread_both held failed asked.domain asked.problem [] IsListed a read six) where
    go : UnreadAt held failed (files_of (ground asked)) a ⊎ BothRead held asked.domain asked.problem IsListed a → UnreadAt held failed (files_of (ground asked)) a
    go (inl is) = is
    go (inr both) = absurd (listed_has_other both.domain both.problem a both.then six)
  of_answer tallies (check asked) read = go (unread_both held failed asked.domain asked.problem (asked.plan ∷ []) (IsChecked held failed asked) a read six) where
    go : UnreadAt held failed (files_of (check asked)) a ⊎ BothRead held asked.domain asked.problem (IsChecked held failed asked) a → UnreadAt held failed (files_of (check asked)) a
    go (inl is) = is
    go (inr both) = in_check asked both
  of_answer tallies (replay asked) read = go (unread_both held failed asked.domain asked.problem (asked.plan ∷ asked.recorded ∷ []) (IsReplay held failed tallies asked) a read six) where
    go : UnreadAt held failed (files_of (replay asked)) a ⊎ BothRead held asked.domain asked.problem (IsReplay held failed tallies asked) a → UnreadAt held failed (files_of (replay asked)) a
    go (inl is) = is
    go (inr both) = in_replay tallies asked both
  of_answer tallies (drill asked) is = absurd (drill_has_other asked a is six)
  of_answer tallies (refute asked) (inl (may, is)) = absurd (omega (arith, ap status_of is, six))
  of_answer tallies (refute asked) (inr read) = go (unread_both held failed asked.domain asked.problem (asked.certificate ∷ []) (IsRefuted held failed asked) a read six) where
    go : UnreadAt held failed (files_of (refute asked)) a ⊎ BothRead held asked.domain asked.problem (IsRefuted held failed asked) a → UnreadAt held failed (files_of (refute asked)) a
    go (inl is) = is
    go (inr both) = in_refute asked both

module _ {S : Type 0} (held : S → Bytes → Held) (faults : S → ℕ) (fetched : S → Bytes → S → Type 0) (run : Run S) (has : HasRun held faults fetched run) where
  pub is_unread : IsUnread held faults fetched run
  is_unread command says six = go (of_command (held run.shelf) (FailedIn faults fetched run) run.handed run.words command has.answer says has.cause) where
    whole : (run.status ≡ status_of has.answer) × IsWhole has.answer run.out run.out_after run.err run.err_after
    whole = whole_delivery has.answer run.out run.out_after run.err run.err_after run.status has.delivered (λ seven. let e : 6 ≡ 7 = sym six ∙ seven in omega arith)

    code : status_of has.answer ≡ 6
    code = sym whole.0 ∙ six

    line : (r : Refusal) → has.answer ≡ refused r → IsWhole has.answer run.out run.out_after run.err run.err_after → run.err_after.written ≡ append_known run.err.written (text_of (refused r))
    line r is (inl showed) = absurd (not_refused r has.answer is showed.shown)
    line r is (inr refusal) = refusal.errors.written ∙ ap (λ b. append_known run.err.written (text_of b)) is

    told : UnreadAt (held run.shelf) (FailedIn faults fetched run) (files_of command) has.answer → (place : ℕ) × (name : Bytes) × IsUnreadAt held faults fetched run (files_of command) place name
    told u = (u.place, u.name, record { there = u.there; named = u.named; before = u.before; unread = u.unread; written = line (read_fault u.name) u.shown whole.1 })

    go : (has.answer ≡ refused no_memory) ⊎ IsAnswerOf (held run.shelf) (FailedIn faults fetched run) run.handed command has.answer
        → (place : ℕ) × (name : Bytes) × IsUnreadAt held faults fetched run (files_of command) place name
    go (inl memory) = absurd (let e : 6 ≡ 8 = sym code ∙ ap status_of memory in omega arith)
    go (inr is) = told (of_answer (held run.shelf) (FailedIn faults fetched run) has.answer code run.handed command is)
