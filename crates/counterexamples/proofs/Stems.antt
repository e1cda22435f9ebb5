-- What is found, from a run and what is said of it.
use Rattle.std.proofs.Common.{◌≡◌, ℕ, ◌++◌, List, [], drop, length, take, Some, refl, sym, subst, ap, ◌∙◌, arith}
use Rattle.std.specs.Prelude.{slice_get}
use Rattle.std.proofs.lemmas.List.{drop_all, drop_at, take_all, take_at}
use Rattle.task_core.specs.ContextPlans.{Configuration}
use Rattle.task_core.specs.Tasks.{initial_states, system_of}
use Rattle.task_core.specs.declared.tasks.Task.{Task}
use Rattle.plan_rules.specs.Rules.{PlainPlan}
use Rattle.plan_witness.specs.Lassos.{IsLasso, IsShortestRound, PlainLasso}
use Rattle.plan_witness.specs.Runs.{IsShortestRun, PlainRun, PlainStep, end_of}
use Rattle.counterexamples.specs.Aims.{IsAimAt}
use Rattle.counterexamples.specs.Findings.{Ending, IsEndingAt, IsFound, comes_back}
use Rattle.counterexamples.specs.declared.aims.Aim.{Aim}
use Rattle.counterexamples.specs.declared.aims.Aim.TheVariants.{Round}

-- a run all of whose steps lead to the aim
pub found_end : (aim : Aim) (task : Task) (plan : PlainPlan) (number stem : ℕ) (run : PlainRun) (ending : Ending) → (aim ≡ Round → ⊥) → stem ≡ length run.steps
    → slice_get (initial_states task) number ≡ Some run.start.state → IsShortestRun (system_of task) plan (IsAimAt aim (system_of task) plan) run
    → IsEndingAt task plan (end_of run.start run.steps) ending → IsFound aim task plan (record { number = number; run = run; stem = stem; ending = ending })
found_end aim task plan number stem run ending other is numbered shortest ends =
    let all : take stem run.steps ≡ run.steps = take_all stem run.steps (omega (arith, is)) in
    let none : drop stem run.steps ≡ [] = drop_all stem run.steps (omega (arith, is)) in
    record {
      numbered = numbered;
      shortest = subst (λ (steps : List PlainStep). IsShortestRun (system_of task) plan (IsAimAt aim (system_of task) plan) (record { start = run.start; steps = steps })) (sym all) shortest;
      back = record { round = λ e. absurd (other e); nothing = λ e. none };
      ending = subst (λ (steps : List PlainStep). IsEndingAt task plan (end_of run.start steps) ending) (sym all) ends;
    }

-- a lasso, as one run
pub found_back : (task : Task) (plan : PlainPlan) (number stem : ℕ) (lasso : PlainLasso) (run : PlainRun) → run.start ≡ lasso.stem.start → run.steps ≡ lasso.stem.steps ++ lasso.round
    → stem ≡ length lasso.stem.steps → slice_get (initial_states task) number ≡ Some lasso.stem.start.state → IsLasso (system_of task) plan lasso
    → IsFound Round task plan (record { number = number; run = run; stem = stem; ending = comes_back })
found_back task plan number stem lasso run begins steps is numbered lassoed =
    let front : take stem run.steps ≡ lasso.stem.steps = ap (take stem) steps ∙ take_at lasso.stem.steps lasso.round stem (sym is) in
    let rest : drop stem run.steps ≡ lasso.round = ap (drop stem) steps ∙ drop_at lasso.stem.steps lasso.round stem (sym is) in
    let same : record { start = run.start; steps = take stem run.steps } ≡ lasso.stem = λ i. record { start = begins i; steps = front i } in
    let place : end_of run.start (take stem run.steps) ≡ end_of lasso.stem.start lasso.stem.steps = ap (λ (r : PlainRun). end_of r.start r.steps) same in
    let sys = system_of task in
    record {
      numbered = numbered ∙ ap (λ (x : Configuration). Some x.state) (sym begins);
      shortest = subst (IsShortestRun sys plan (IsAimAt Round sys plan)) (sym same) lassoed.stem;
      back = record {
        round = λ e. subst (λ (steps : List PlainStep). IsShortestRound sys plan (end_of run.start (take stem run.steps)) steps) (sym rest)
            (subst (λ (x : Configuration). IsShortestRound sys plan x lasso.round) (sym place) lassoed.round);
        nothing = λ other. absurd (other refl);
      };
      ending = subst (IsAimAt Round sys plan) (sym place) lassoed.stem.shows;
    }
