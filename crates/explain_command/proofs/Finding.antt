-- From what was found to the answer that tells it.
use Rattle.std.proofs.Common.{◌≡◌, ◌≢◌, ◌<◌, Bool, Option, None, Some, Result, Ok, Err, IfOk, ℕ, zero, suc, false, refl, sym, subst, true, arith, ◌∙◌, List}
use Rattle.std.specs.Prelude.{IfNone, IfSome, IsSome}
use Rattle.std.proofs.lemmas.Bool.{false≢true}
use Rattle.std.proofs.lemmas.Option.{none-some, same_Some}
use Rattle.ctl_syntax.specs.Values.{ctl_value}
use Rattle.ctl_syntax.specs.declared.goals.Ctl.{Ctl}
use Rattle.check_command.specs.Judged.{HasGoalIn, IsTaskVerdict}
use Rattle.check_command.proofs.ReachedStates.{reaches_some}
use Rattle.command_base.specs.Values.{shown_of}
use Rattle.command_base.specs.Words.{PlanKind, of_class, with_contexts}
use Rattle.command_base.specs.declared.answers.Shown.{Shown}
use Rattle.exec_graph.specs.Graphs.{IsGraphOf, PlainGraph}
use Rattle.exec_graph.specs.Orders.{in_first}
use Rattle.goal_witness.specs.Witnesses.{MissesGoal}
use Rattle.plan_check.specs.ContextVerdicts.{IsFirstContextReason, IsTrueAt}
use Rattle.plan_check.specs.declared.verdicts.Reason.{Reason}
use Rattle.plan_check.specs.declared.verdicts.Reason.TheVariants.{Cycle, Formula, Stuck, Terminal, Unexecutable, Unreachable}
use Rattle.plan_check.specs.declared.verdicts.Verdict.{Verdict}
use Rattle.plan_check.specs.declared.verdicts.Verdict.TheVariants.{No, Yes}
use Rattle.list_laws.proofs.Elements.{some_element}
use Rattle.counterexamples.specs.Aims.{class_aim, context_aim}
use Rattle.counterexamples.specs.Findings.{PlainFound}
use Rattle.counterexamples.specs.ForVerdicts.{IsFinding, PlainFinding, with_run}
use Rattle.counterexamples.specs.Longest.{IsClassVerdict, IsLongestFinding}
use Rattle.counterexamples.specs.Misses.{IsMiss}
use Rattle.counterexamples.specs.Shown.{ContextFailuresAreShown, ContextPlansNeverEnd, FailuresAreShown}
use Rattle.counterexamples.specs.Values.{finding_value, found_value, run_found_value}
use Rattle.counterexamples.specs.declared.findings.Found.{Found}
use Rattle.counterexamples.specs.declared.verdicts.Finding.{Finding}
use Rattle.plan_rules.specs.Denoted.{denoted_contexts}
use Rattle.plan_rules.specs.Rules.{ContextRule, PlainPlan, automaton, table}
use Rattle.task_core.specs.Tasks.{fluent_count, system_of}
use Rattle.task_core.specs.declared.classes.Class.{Class}
use Rattle.task_core.specs.declared.classes.Class.TheVariants.{Cyclic, Strong, Weak}
use Rattle.task_core.specs.declared.tasks.Task.{Task}
use Rattle.explain_command.proofs.Affirmed.{comes_back, ends_inside, has_bound}
use Rattle.explain_command.specs.Explained.{ExplainsIn, shown_answer, source_in}
use Rattle.explain_command.specs.Findings.{HasLongestFor, IsFindingFor, IsMissing, IsShownFor, IsTold, misses_goal}
use Rattle.explain_command.specs.Lined.{LinedPlan}
use Rattle.explain_command.specs.Words.{ExplainWords, is_document}

-- what was found of a goal that is missed
only_run : (n : ℕ) (fair : Bool) (task : Task) (goal : Option Ctl) (by : Ctl) (plan : PlainPlan) (run : Option Found) → goal ≡ Some by
    → IfSome run (λ f. IsMiss task plan fair (ctl_value by) (found_value n f)) → IfNone run (MissesGoal (system_of task) plan (ctl_value by) → ⊥)
    → IsMissing fair task goal plan (with_run (run_found_value n run))
only_run n fair task goal by plan (Some found) is miss none = record {
  judged_by = by;
  is = is;
  some = λ other e. subst (IsMiss task plan fair (ctl_value by)) (same_Some (found_value n found) other e) miss;
  none = λ e. absurd (none-some (found_value n found) (sym e));
  only = refl;
}
only_run n fair task goal by plan None is miss none = record {
  judged_by = by;
  is = is;
  some = λ other e. absurd (none-some other e);
  none = λ e. none;
  only = refl;
}

pub missing_of : (n : ℕ) (fair : Bool) (task : Task) (goal : Option Ctl) (by : Ctl) (plan : PlainPlan) (run : Option Found) (finding : PlainFinding) → finding ≡ with_run (run_found_value n run)
    → goal ≡ Some by → IfSome run (λ f. IsMiss task plan fair (ctl_value by) (found_value n f)) → IfNone run (MissesGoal (system_of task) plan (ctl_value by) → ⊥)
    → IsMissing fair task goal plan finding
missing_of n fair task goal by plan run finding only is miss none = subst (IsMissing fair task goal plan) (sym only) (only_run n fair task goal by plan run is miss none)

-- a plan that misses its goal has one
pub has_goal : (kind : PlanKind) (verdict : Verdict) (task : Task) (goal : Option Ctl) → misses_goal kind verdict ≡ true → HasGoalIn kind task goal → IsSome goal
has_goal (of_class class) verdict task goal is has = absurd (false≢true is)
has_goal with_contexts verdict task goal is has = has

-- the goal and the verdict of a table
pub class_goal : (kind : PlanKind) (class : Class) (task : Task) (goal : Option Ctl) → kind ≡ of_class class → HasGoalIn kind task goal → IsSome task.goal
class_goal kind class task goal is has = subst (λ (k : PlanKind). HasGoalIn k task goal) is has

of_table : (class : Class) (task : Task) (goal : Option Ctl) (plan : PlainPlan) (verdict : Verdict) → IsTaskVerdict (of_class class) task goal plan verdict
    → IsClassVerdict class (system_of task) plan verdict
of_table class task goal (table written rules) verdict is = is
of_table class task goal (automaton contexts rules) verdict never = never

pub class_verdict : (kind : PlanKind) (class : Class) (task : Task) (goal : Option Ctl) (plan : PlainPlan) (verdict : Verdict) → kind ≡ of_class class
    → IsTaskVerdict kind task goal plan verdict → IsClassVerdict class (system_of task) plan verdict
class_verdict kind class task goal plan verdict is judged =
    of_table class task goal plan verdict (subst (λ (k : PlanKind). IsTaskVerdict k task goal plan verdict) is judged)

by_miss : (fair : Bool) (kind : PlanKind) (task : Task) (goal : Option Ctl) (plan : PlainPlan) (verdict : Verdict) (finding : PlainFinding) → misses_goal kind verdict ≡ true
    → IsMissing fair task goal plan finding → IsFindingFor fair kind task goal plan verdict finding
by_miss fair kind task goal plan verdict finding is missing = record { missed = λ e. missing; told = λ e. absurd (false≢true (sym e ∙ is)) }

by_told : (fair : Bool) (kind : PlanKind) (task : Task) (goal : Option Ctl) (plan : PlainPlan) (verdict : Verdict) (finding : PlainFinding) → misses_goal kind verdict ≡ false
    → IsTold kind verdict task plan finding → IsFindingFor fair kind task goal plan verdict finding
by_told fair kind task goal plan verdict finding is told = record { missed = λ e. absurd (false≢true (sym is ∙ e)); told = λ e. told }

-- the same of what a search gave
module _ {E : Type 0} (r : Result Finding E) (task : Task) (plan : PlainPlan) where
  abbrev n : ℕ
  n = fluent_count task

  pub told_ok : (kind other : PlanKind) (verdict : Verdict) → kind ≡ other → IfOk r (λ f. IsTold other verdict task plan (finding_value n f))
      → IfOk r (λ f. IsTold kind verdict task plan (finding_value n f))
  told_ok kind other verdict is told = subst (λ (k : PlanKind). IfOk r (λ f. IsTold k verdict task plan (finding_value n f))) (sym is) told

  pub by_miss_ok : (fair : Bool) (kind : PlanKind) (goal : Option Ctl) (verdict : Verdict) → misses_goal kind verdict ≡ true
      → IfOk r (λ f. IsMissing fair task goal plan (finding_value n f)) → IfOk r (λ f. IsFindingFor fair kind task goal plan verdict (finding_value n f))
  by_miss_ok fair kind goal verdict is = go r where
    go : (s : Result Finding E) → IfOk s (λ f. IsMissing fair task goal plan (finding_value n f)) → IfOk s (λ f. IsFindingFor fair kind task goal plan verdict (finding_value n f))
    go (Ok finding) missing = by_miss fair kind task goal plan verdict (finding_value n finding) is missing
    go (Err error) missing = missing

  pub by_told_ok : (fair : Bool) (kind : PlanKind) (goal : Option Ctl) (verdict : Verdict) → misses_goal kind verdict ≡ false
      → IfOk r (λ f. IsTold kind verdict task plan (finding_value n f)) → IfOk r (λ f. IsFindingFor fair kind task goal plan verdict (finding_value n f))
  by_told_ok fair kind goal verdict is = go r where
    go : (s : Result Finding E) → IfOk s (λ f. IsTold kind verdict task plan (finding_value n f)) → IfOk s (λ f. IsFindingFor fair kind task goal plan verdict (finding_value n f))
    go (Ok finding) told = by_told fair kind task goal plan verdict (finding_value n finding) is told
    go (Err error) told = told

-- a plan whose first reason is its goal misses that
misses_by : (task : Task) (contexts : ℕ) (rules : List ContextRule) (goal : Ctl)
    → IsFirstContextReason (system_of task) (denoted_contexts rules) (IsTrueAt (system_of task) (denoted_contexts rules) (ctl_value goal)) Formula
    → MissesGoal (system_of task) (automaton contexts rules) (ctl_value goal)
misses_by task contexts rules goal first = record {
  contexts = contexts;
  rules = rules;
  is = refl;
  executes = first.first Unexecutable (omega arith);
  goes_on = first.first Stuck (omega arith);
  misses = first.has;
}

-- that a run shows each verdict
pub record RunsShow : Type 0 where
  pub failures : FailuresAreShown
  pub context_failures : ContextFailuresAreShown
  pub never_end : ContextPlansNeverEnd

-- some run shows a no on a plan with contexts
shown_in_contexts : ContextFailuresAreShown → (fair : Bool) (task : Task) (goal : Option Ctl) (contexts : ℕ) (rules : List ContextRule) (formula : Ctl) (reason : Reason) (finding : PlainFinding)
    → finding.run ≡ None → goal ≡ Some formula
    → IsFirstContextReason (system_of task) (denoted_contexts rules) (IsTrueAt (system_of task) (denoted_contexts rules) (ctl_value formula)) reason
    → IsFindingFor fair with_contexts task goal (automaton contexts rules) (No reason) finding → ⊥
shown_in_contexts law fair task goal contexts rules formula Unexecutable finding none is first found =
    law task contexts rules (ctl_value formula) Unexecutable first.has (λ e. cc) (subst (IsFinding (context_aim (No Unexecutable)) task (automaton contexts rules)) none (found.told refl).run)
shown_in_contexts law fair task goal contexts rules formula Stuck finding none is first found =
    law task contexts rules (ctl_value formula) Stuck first.has (λ e. cc) (subst (IsFinding (context_aim (No Stuck)) task (automaton contexts rules)) none (found.told refl).run)
shown_in_contexts law fair task goal contexts rules formula Terminal finding none is first found = first.has
shown_in_contexts law fair task goal contexts rules formula Cycle finding none is first found = first.has
shown_in_contexts law fair task goal contexts rules formula Unreachable finding none is first found = first.has
shown_in_contexts law fair task goal contexts rules formula Formula finding none is first found =
    let missing = found.missed refl in
    let same : formula ≡ missing.judged_by = same_Some formula missing.judged_by (sym is ∙ missing.is) in
    missing.none none (subst (λ (g : Ctl). MissesGoal (system_of task) (automaton contexts rules) (ctl_value g)) same (misses_by task contexts rules formula first))

above : (n : ℕ) → n ≢ 0 → 0 < n
above zero some = absurd (some refl)
above (suc n) some = omega arith

-- there is a run for each verdict
run_shows : RunsShow → (fair : Bool) (kind : PlanKind) (task : Task) (goal : Option Ctl) (plan : PlainPlan) (graph : PlainGraph) (verdict : Verdict) (finding : PlainFinding)
    → IsGraphOf (system_of task) plan graph → graph.size ≢ 0 → finding.run ≡ None
    → IsTaskVerdict kind task goal plan verdict → IsFindingFor fair kind task goal plan verdict finding → ⊥
run_shows law fair (of_class class) task goal (table written rules) graph (Yes bound) finding followed some none judged found =
    let start = some_element (system_of task).initial (reaches_some (system_of task) (table written rules) graph followed some) in
    ends_inside task written rules start.0 start.1 class bound judged (subst (IsFinding (class_aim class (Yes bound)) task (table written rules)) none (found.told refl).run)
run_shows law fair (of_class class) task goal (table written rules) graph (No reason) finding followed some none judged found =
    law.failures task written class rules reason judged.has (subst (IsFinding (class_aim class (No reason)) task (table written rules)) none (found.told refl).run)
run_shows law fair (of_class class) task goal (automaton contexts rules) graph verdict finding followed some none judged found = judged
run_shows law fair with_contexts task goal (table written rules) graph verdict finding followed some none judged found = judged
run_shows law fair with_contexts task goal (automaton contexts rules) graph (Yes bound) finding followed some none (formula, is, verdict) found =
    comes_back (system_of task) (automaton contexts rules) graph followed (law.never_end task contexts rules (ctl_value formula) bound verdict) (above graph.size some)
    (subst (IsFinding (context_aim (Yes bound)) task (automaton contexts rules)) none (found.told refl).run)
run_shows law fair with_contexts task goal (automaton contexts rules) graph (No reason) finding followed some none (formula, is, verdict) found =
    shown_in_contexts law.context_failures fair task goal contexts rules formula reason finding none is verdict found

-- and a longest run for each yes of a strong plan
longest_shows : (fair : Bool) (task : Task) (goal : Option Ctl) (plan : PlainPlan) (graph : PlainGraph) (bound : Option ℕ) (finding : PlainFinding) → IsGraphOf (system_of task) plan graph → graph.size ≢ 0
    → finding.longest ≡ None → IsTaskVerdict (of_class Strong) task goal plan (Yes bound) → IsFindingFor fair (of_class Strong) task goal plan (Yes bound) finding → ⊥
longest_shows fair task goal (table written rules) graph None finding followed some none judged found = has_bound (system_of task) rules judged
longest_shows fair task goal (table written rules) graph (Some bound) finding followed some none judged found =
    let start = some_element (system_of task).initial (reaches_some (system_of task) (table written rules) graph followed some) in
    (subst (IsLongestFinding task (table written rules) bound) none (found.told refl).longest) (in_first start.0) (record { state = start.1; context = refl })
longest_shows fair task goal (automaton contexts rules) graph bound finding followed some none judged found = judged

is_some : (found : Option PlainFound) → (found ≡ None → ⊥) → IsSome found
is_some (Some run) never = refl
is_some None never = absurd (never refl)

longest_for : (fair : Bool) (kind : PlanKind) (task : Task) (goal : Option Ctl) (plan : PlainPlan) (graph : PlainGraph) (verdict : Verdict) (finding : PlainFinding) → IsGraphOf (system_of task) plan graph → graph.size ≢ 0
    → IsTaskVerdict kind task goal plan verdict → IsFindingFor fair kind task goal plan verdict finding → HasLongestFor kind verdict finding
longest_for fair with_contexts task goal plan graph verdict finding followed some judged found = tt
longest_for fair (of_class Weak) task goal plan graph verdict finding followed some judged found = tt
longest_for fair (of_class Cyclic) task goal plan graph verdict finding followed some judged found = tt
longest_for fair (of_class Strong) task goal plan graph (No reason) finding followed some judged found = tt
longest_for fair (of_class Strong) task goal plan graph (Yes bound) finding followed some judged found =
    is_some finding.longest (λ none. longest_shows fair task goal plan graph bound finding followed some none judged found)

shown_for : RunsShow → (fair : Bool) (kind : PlanKind) (task : Task) (goal : Option Ctl) (plan : PlainPlan) (graph : PlainGraph) (verdict : Verdict) (finding : PlainFinding)
    → IsGraphOf (system_of task) plan graph → graph.size ≢ 0
    → IsTaskVerdict kind task goal plan verdict → IsFindingFor fair kind task goal plan verdict finding → IsShownFor kind verdict finding
shown_for law fair kind task goal plan graph verdict finding followed some judged found = record {
  run = is_some finding.run (λ none. run_shows law fair kind task goal plan graph verdict finding followed some none judged found);
  longest = longest_for fair kind task goal plan graph verdict finding followed some judged found;
}

pub explained_so : {E : Type 0} (r : Result Shown E) → RunsShow → (asked : ExplainWords) (task : Task) (lined : LinedPlan) (goal : Option Ctl) (graph : PlainGraph) (verdict : Verdict) (finding : PlainFinding)
    → IsGraphOf (system_of task) lined.placed.plan graph → graph.size ≢ 0
    → IsTaskVerdict asked.check.kind task goal lined.placed.plan verdict → IsFindingFor asked.fair asked.check.kind task goal lined.placed.plan verdict finding
    → IfOk r (λ shown. shown_of shown ≡ shown_answer (is_document asked.shown) (source_in task lined.placed.plan lined.lines) verdict finding)
    → IfOk r (λ shown. ExplainsIn asked task lined goal (shown_of shown))
explained_so (Ok shown) law asked task lined goal graph verdict finding followed some judged found e = record {
  verdict = verdict;
  judged = judged;
  finding = finding;
  found = found;
  some = shown_for law asked.fair asked.check.kind task goal lined.placed.plan graph verdict finding followed some judged found;
  shown = e;
}
explained_so (Err error) law asked task lined goal graph verdict finding followed some judged found e = e
