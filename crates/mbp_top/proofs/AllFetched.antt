-- Statuses 0, 1, 5 and 9 come once all files of the command were fetched: an answer that was decided
-- before has another.
use Rattle.std.proofs.Common.{◌≡◌, ◌⊎◌, ℕ, List, inl, inr, ◌∙◌, ap, subst, arith}
use Rattle.pddl_ast.specs.Trees.{DomainTree, ProblemTree}
use Rattle.plan_io.specs.Fetches.{Fetches}
use Rattle.plan_io.specs.Held.{Held}
use Rattle.command_base.specs.Answers.{Answer, Refusal, refused, status_of, status_of_refusal}
use Rattle.mbp_top.specs.Fetching.{FetchesFiles}
use Rattle.command_base.specs.Fetching.{RefusesPlan, Stops}
use Rattle.command_base.specs.Grounding.{GoalThen, GroundThen, for_tables}
use Rattle.mbp_top.specs.Laws.{AreAllFetched}
use Rattle.command_base.specs.PddlTexts.{IsFaultyDomain, IsFaultyProblem, ReadBoth}
use Rattle.command_base.specs.PlanFiles.{IsFaultyPlan}
use Rattle.command_base.specs.Reading.{IsRefusedFile, ReadThen}
use Rattle.mbp_top.specs.Runs.{HasRun, Run}
use Rattle.command_base.specs.Frame.{FailedIn}
use Rattle.command_base.specs.Words.{Bytes, Command, PlanKind, check, drill, files_of, ground, plan, refute, replay}
use Rattle.command_base.proofs.Statuses.{whole_delivery}
use Rattle.pddl_system.specs.Systems.{action_names, fluent_names}
use Rattle.task_core.specs.Names.{Name}

-- the statuses of an answer that is decided before the last file
abbrev IsEarly : Answer → Type 0
IsEarly a = (status_of a ≡ 3) ⊎ (status_of a ≡ 4) ⊎ (status_of a ≡ 6) ⊎ (status_of a ≡ 8)

abbrev IsLate : ℕ → Type 0
IsLate status = (status ≡ 0) ⊎ (status ≡ 1) ⊎ (status ≡ 5) ⊎ (status ≡ 9)

apart : (n : ℕ) → (n ≡ 3) ⊎ (n ≡ 4) ⊎ (n ≡ 6) ⊎ (n ≡ 8) → IsLate n → ⊥
apart n early late = grind arith

file_early : (held : Bytes → Held) (failed : Bytes → Type 0) (Wrong : Bytes → Bytes → Refusal → Type 0) (name : Bytes) (r : Refusal) (a : Answer)
    → ((bytes : Bytes) → Wrong name bytes r → status_of_refusal r ≡ 3) → a ≡ refused r → IsRefusedFile held failed Wrong name r → IsEarly a
file_early held failed Wrong name r a wrong is (inl (unread, why)) = inr (inr (inl (ap status_of is ∙ ap status_of_refusal unread)))
file_early held failed Wrong name r a wrong is (inr (inl (long, why))) = inr (inl (ap status_of is ∙ ap status_of_refusal long))
file_early held failed Wrong name r a wrong is (inr (inr misspelled)) = inl (ap status_of is ∙ wrong misspelled.bytes misspelled.wrong)

both_early : (held : Bytes → Held) (failed : Bytes → Type 0) (d p : Bytes) (Then : DomainTree → ProblemTree → Answer → Type 0) (a : Answer)
    → ((domain : DomainTree) (problem : ProblemTree) → Then domain problem a → IsEarly a) → Stops (ReadBoth held failed d p Then) a → IsEarly a
both_early held failed d p Then a then (inl memory) = inr (inr (inr (ap status_of memory)))
both_early held failed d p Then a then (inr (inl (r, is, why))) = file_early held failed IsFaultyDomain d r a (λ bytes wrong. ap status_of_refusal wrong.2) is why
both_early held failed d p Then a then (inr (inr (domain, holds, inl (r, is, why)))) = file_early held failed (IsFaultyProblem domain) p r a (λ bytes wrong. ap status_of_refusal wrong.2) is why
both_early held failed d p Then a then (inr (inr (domain, holds, inr (problem, holds', rest)))) = then domain problem rest

domain_early : (held : Bytes → Held) (failed : Bytes → Type 0) (d : Bytes) (Spells : Bytes → DomainTree → Type 0) (a : Answer)
    → Stops (ReadThen held failed d Spells IsFaultyDomain (λ domain answer. ⊥)) a → IsEarly a
domain_early held failed d Spells a (inl memory) = inr (inr (inr (ap status_of memory)))
domain_early held failed d Spells a (inr (inl (r, is, why))) = file_early held failed IsFaultyDomain d r a (λ bytes wrong. ap status_of_refusal wrong.2) is why
domain_early held failed d Spells a (inr (inr (domain, holds, never))) = absurd never

ground_early : (d : DomainTree) (p : ProblemTree) (Then : Answer → Type 0) (a : Answer) → (Then a → IsEarly a) → GroundThen d p Then a → IsEarly a
ground_early d p Then a then (inl (limit, passed, is)) = inr (inl (ap status_of is))
ground_early d p Then a then (inr (within, rest)) = then rest

goal_early : (kind : PlanKind) (name : Bytes) (p : ProblemTree) (Then : Answer → Type 0) (a : Answer) → (Then a → IsEarly a) → GoalThen kind name p Then a → IsEarly a
goal_early kind name p Then a then (inl (none, is)) = inl (ap status_of is)
goal_early kind name p Then a then (inr (some, rest)) = then rest

plan_early : (held : Bytes → Held) (failed : Bytes → Type 0) (fluents actions : List Name) (name : Bytes) (a : Answer) → RefusesPlan held failed fluents actions name a → IsEarly a
plan_early held failed fluents actions name a (inl (r, is, why)) = file_early held failed (IsFaultyPlan fluents actions) name r a (λ bytes wrong. ap status_of_refusal wrong.2) is why
plan_early held failed fluents actions name a (inr (placed, holds, never)) = absurd never

module _ {S : Type 0} (held : Bytes → Held) (failed : Bytes → Type 0) (fetched : S → Bytes → S → Type 0) (a : Answer) (late : IsLate (status_of a)) (before after : S) where
  not_early : IsEarly a → ⊥
  not_early early = apart (status_of a) early late

  all_fetched : (command : Command) → FetchesFiles held failed fetched command a before after → Fetches fetched (files_of command) before after
  all_fetched (plan asked) (x, first, inl (stops, same)) = absurd (not_early (domain_early held failed asked.domain _ a stops))
  all_fetched (plan asked) (x, first, inr (holds, rest)) = (x, first, rest)
  all_fetched (ground asked) (x, first, inl (stops, same)) = absurd (not_early (domain_early held failed asked.domain _ a stops))
  all_fetched (ground asked) (x, first, inr (holds, rest)) = (x, first, rest)
  all_fetched (check asked) (x, first, inl (stops, same)) = absurd (not_early (domain_early held failed asked.domain _ a stops))
  all_fetched (check asked) (x, first, inr (holds, (y, second, inl (stops, same)))) =
      absurd (not_early (both_early held failed asked.domain asked.problem (λ domain problem. GoalThen asked.kind asked.problem problem (GroundThen domain problem (λ answer. ⊥))) a
      (λ domain problem. goal_early asked.kind asked.problem problem (GroundThen domain problem (λ answer. ⊥)) a (ground_early domain problem (λ answer. ⊥) a (λ never. absurd never))) stops))
  all_fetched (check asked) (x, first, inr (holds, (y, second, inr (needed, rest)))) = (x, first, (y, second, rest))
  all_fetched (replay asked) (x, first, inl (stops, same)) = absurd (not_early (domain_early held failed asked.domain _ a stops))
  all_fetched (replay asked) (x, first, inr (holds, (y, second, inl (stops, same)))) =
      absurd (not_early (both_early held failed asked.domain asked.problem (λ domain problem. GroundThen domain problem (λ answer. ⊥)) a
      (λ domain problem. ground_early domain problem (λ answer. ⊥) a (λ never. absurd never)) stops))
  all_fetched (replay asked) (x, first, inr (holds, (y, second, inr (needed, (z, third, inl (stops, same)))))) =
      absurd (not_early (both_early held failed asked.domain asked.problem
      (λ domain problem. GroundThen domain problem (RefusesPlan held failed (fluent_names domain problem) (action_names domain problem) asked.plan)) a
      (λ domain problem. ground_early domain problem (RefusesPlan held failed (fluent_names domain problem) (action_names domain problem) asked.plan) a
      (plan_early held failed (fluent_names domain problem) (action_names domain problem) asked.plan a)) stops))
  all_fetched (replay asked) (x, first, inr (holds, (y, second, inr (needed, (z, third, inr (some, rest)))))) = (x, first, (y, second, (z, third, rest)))
  all_fetched (drill asked) same = same
  all_fetched (refute asked) (x, first, inl (stops, same)) = absurd (not_early (domain_early held failed asked.domain _ a stops))
  all_fetched (refute asked) (x, first, inr (holds, (y, second, inl (stops, same)))) =
      absurd (not_early (both_early held failed asked.domain asked.problem (λ domain problem. GoalThen for_tables asked.problem problem (GroundThen domain problem (λ answer. ⊥))) a
      (λ domain problem. goal_early for_tables asked.problem problem (GroundThen domain problem (λ answer. ⊥)) a (ground_early domain problem (λ answer. ⊥) a (λ never. absurd never))) stops))
  all_fetched (refute asked) (x, first, inr (holds, (y, second, inr (needed, rest)))) = (x, first, (y, second, rest))

module _ {S : Type 0} (held : S → Bytes → Held) (faults : S → ℕ) (fetched : S → Bytes → S → Type 0) (run : Run S) (has : HasRun held faults fetched run) where
  not_seven : IsLate run.status → run.status ≡ 7 → ⊥
  not_seven late seven = grind arith

  pub are_all_fetched : AreAllFetched fetched run
  are_all_fetched command says late =
      let whole = whole_delivery has.answer run.out run.out_after run.err run.err_after run.status has.delivered (not_seven late) in
      all_fetched (held run.shelf) (FailedIn faults fetched run) fetched has.answer (subst IsLate whole.0 late) run.shelf run.shelf_after command (has.fetches command says)
