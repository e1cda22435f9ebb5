-- Initial states in which a goal is false, and plans that always go on.
use Rattle.std.proofs.Common.{◌≡◌, ℕ, ◌<◌, Bool, true, false, List, ◌++◌, length, sym, ap, ◌∙◌, subst, ⊎_elim}
use Rattle.ctl_syntax.specs.Goals.{CtlTree}
use Rattle.ctl_syntax.specs.Truth.{Satisfies}
use Rattle.ctl_syntax.specs.Values.{NamesBelow}
use Rattle.exec_graph.specs.Graphs.{IsGraphOf}
use Rattle.exec_graph.specs.Orders.{in_first}
use Rattle.exec_graph.specs.Values.{plain_graph}
use Rattle.exec_graph.specs.declared.graphs.Graph.{Graph}
use Rattle.exec_graph.proofs.Reaching.{reached_first}
use Rattle.plan_check.specs.ContextVerdicts.{IsTrueAt}
use Rattle.plan_check.specs.Labels.{ComesAfter, HasFollowers, HoldsIn, ShowsGoal}
use Rattle.plan_check.specs.Plain.{HasMarkedStarts, is_initial_at}
use Rattle.plan_check.specs.declared.verdicts.Reason.TheVariants.{Stuck, Unexecutable}
use Rattle.plan_check.proofs.ContextLaws.{context_excludes, executes_always, has_followers, may_get_stuck, may_not_execute, never_stuck}
use Rattle.plan_check.proofs.LabelFacts.{decided}
use Rattle.plan_check.proofs.LabelTruth.{is_so}
use Rattle.plan_rules.specs.Denoted.{denoted_contexts}
use Rattle.plan_rules.specs.Rules.{ContextRule, PlainPlan, automaton}
use Rattle.task_core.specs.ContextPlans.{IsInitial}
use Rattle.task_core.specs.Systems.{System}
use Rattle.task_core.specs.Tasks.{fluent_count}
use Rattle.task_core.specs.Vectors.{Vector}
use Rattle.task_core.specs.declared.conditions.Cond.{Cond}
use Rattle.plan_witness.specs.Runs.{IsRunOf}
use Rattle.plan_witness.specs.Values.{steps_value}
use Rattle.task_core.specs.States.{vector}
use Rattle.task_core.specs.declared.states.State.{State}
use Rattle.goal_witness.specs.Failing.{FailsFrom}
use Rattle.goal_witness.specs.Failures.{FailsAlong, IsTrueIn}
use Rattle.goal_witness.specs.Links.{back_steps, links_value, stem_steps}
use Rattle.goal_witness.specs.declared.links.Link.{Link}
use Rattle.goal_witness.specs.declared.witnesses.Witness.{Witness}
use Rattle.goal_witness.proofs.Ran.{fails_run}
use Rattle.goal_witness.specs.Scenes.{IsFalseAtNumber, IsScene, place_in, plan_in, size_in, sys_in}
use Rattle.goal_witness.specs.Walks.{Lacks}
use Rattle.goal_witness.specs.Witnesses.{IsWitness, MissesGoal, witness_value}
use Rattle.plan_witness.specs.declared.scenes.Scene.{Scene}
use Rattle.goal_witness.proofs.Fails.{meaning}
use Rattle.goal_witness.proofs.Through.{true_in}

module _ (scene : Scene) (s : IsScene scene) (goal : CtlTree Cond) (names : NamesBelow (fluent_count scene.task.now) goal) (marks : List Bool) (shows : ShowsGoal (fluent_count scene.task.now) scene.graph.now goal marks) where
  pub false_at : (i : ℕ) → i < size_in scene → Lacks marks i → IsFalseAtNumber scene goal i
  false_at i l lacks = record { below = l; names = names; fails = (meaning scene s goal names marks shows i l).0 lacks }

  pub all_marked : HasMarkedStarts scene.graph.now marks → MissesGoal (sys_in scene) (plan_in scene) goal → ⊥
  all_marked all m =
      let start = m.misses.start in
      let node = s.graph.listed start (reached_first (sys_in scene) (plan_in scene) start m.misses.initial) in
      let i = node.number in
      let begins = (s.graph.initial i node.below).1 (subst (IsInitial (sys_in scene)) (sym node.is) m.misses.initial) in
      let sat = is_so (size_in scene) (Satisfies (ComesAfter scene.graph.now) (HoldsIn (fluent_count scene.task.now) scene.graph.now) goal) marks shows i node.below (all i node.below begins) in
      let true_there : IsTrueIn (sys_in scene) (plan_in scene) goal start = subst (IsTrueIn (sys_in scene) (plan_in scene) goal) node.is ((true_in scene s goal names i node.below).0 sat) in
      m.misses.misses (subst (λ (p : PlainPlan). IsTrueIn (sys_in scene) p goal start) m.is true_there)

-- where a run from an initial configuration begins
pub begins_at : (scene : Scene) (s : IsScene scene) (i : ℕ) (v : Vector) → i < size_in scene → is_initial_at scene.graph.now i ≡ true → (place_in scene i).state ≡ v → in_first v ≡ place_in scene i
begins_at scene s i v l initial e =
    let first = ((s.graph.initial i l).0 initial).context in
    λ k. record { state = sym e k; context = sym first k }

pub begins_initial : (scene : Scene) (s : IsScene scene) (i : ℕ) → i < size_in scene → is_initial_at scene.graph.now i ≡ true → IsInitial (sys_in scene) (place_in scene i)
begins_initial scene s i l initial = (s.graph.initial i l).0 initial

-- plans that always go on
module _ (sys : System) (plan : PlainPlan) (n : ℕ) (graph : Graph) (h : IsGraphOf sys plan (plain_graph n graph)) where
  pub followers_of : (contexts : ℕ) (rules : List ContextRule) → plan ≡ automaton contexts rules → graph.unexecutable ≡ false → graph.stuck ≡ false → HasFollowers graph
  followers_of contexts rules is executes goes =
      let g = subst (λ (p : PlainPlan). IsGraphOf sys p (plain_graph n graph)) is h in
      has_followers sys contexts rules n graph g (executes_always sys contexts rules n graph g executes) (never_stuck sys contexts rules n graph g goes)

  module _ (goal : CtlTree Cond) (m : MissesGoal sys plan goal) where
    as_context : IsGraphOf sys (automaton m.contexts m.rules) (plain_graph n graph)
    as_context = subst (λ (p : PlainPlan). IsGraphOf sys p (plain_graph n graph)) m.is h

    pub not_unexecutable : graph.unexecutable ≡ false
    not_unexecutable =
        ⊎_elim
        (λ (t : graph.unexecutable ≡ true). absurd (context_excludes sys (denoted_contexts m.rules) (IsTrueAt sys (denoted_contexts m.rules) goal) Unexecutable (may_not_execute sys m.contexts m.rules n graph as_context t) m.executes))
        (λ f. f)
        (decided graph.unexecutable)

    pub not_stuck : graph.stuck ≡ false
    not_stuck =
        ⊎_elim
        (λ (t : graph.stuck ≡ true). absurd (context_excludes sys (denoted_contexts m.rules) (IsTrueAt sys (denoted_contexts m.rules) goal) Stuck (may_get_stuck sys m.contexts m.rules n graph as_context t) m.goes_on))
        (λ f. f)
        (decided graph.stuck)

-- the run along the parts that were found
pub is_witness : (scene : Scene) (s : IsScene scene) (goal : CtlTree Cond) (i : ℕ) (witness : Witness) (state : State) (links : List Link) → i < size_in scene → is_initial_at scene.graph.now i ≡ true
    → (place_in scene i).state ≡ vector (fluent_count scene.task.now) state → witness.run.start ≡ state → witness.links.items ≡ links → FailsFrom scene goal i (links_value (fluent_count scene.task.now) links)
    → steps_value (fluent_count scene.task.now) witness.run.steps.items ≡ stem_steps (links_value (fluent_count scene.task.now) links) ++ back_steps (links_value (fluent_count scene.task.now) links)
    → witness.stem ≡ length (stem_steps (links_value (fluent_count scene.task.now) links)) → IsWitness (sys_in scene) (plan_in scene) goal (witness_value (fluent_count scene.task.now) witness)
is_witness scene s goal i witness state links l initial at begins same fails steps stem =
    let n = fluent_count scene.task.now in
    let start : in_first (vector n witness.run.start) ≡ place_in scene i = ap (λ st. in_first (vector n st)) begins ∙ begins_at scene s i (vector n state) l initial at in
    let fails_there : FailsAlong (sys_in scene) (plan_in scene) goal (in_first (vector n witness.run.start)) (links_value n links) =
    subst (λ x. FailsAlong (sys_in scene) (plan_in scene) goal x (links_value n links)) (sym start) fails in
    record {
      initial = subst (IsInitial (sys_in scene)) (sym start) (begins_initial scene s i l initial);
      run_of = subst (IsRunOf (sys_in scene) (plan_in scene) (in_first (vector n witness.run.start))) (sym steps) (fails_run (sys_in scene) (plan_in scene) goal (in_first (vector n witness.run.start)) (links_value n links) fails_there);
      fails = subst (λ ls. FailsAlong (sys_in scene) (plan_in scene) goal (in_first (vector n witness.run.start)) (links_value n ls)) (sym same) fails_there;
      steps = subst (λ ls. steps_value n witness.run.steps.items ≡ stem_steps (links_value n ls) ++ back_steps (links_value n ls)) (sym same) steps;
      stem = subst (λ ls. witness.stem ≡ length (stem_steps (links_value n ls))) (sym same) stem;
    }
