-- The plan with contexts of a task is one for the domain and the problem that the task comes from.
use Rattle.std.proofs.Common.{◌≡◌, ◌≢◌, ◌≤◌, ◌<◌, ℕ, List, [], inl, inr, refl, sym, subst, ap, ◌∙◌, None, Some, Option, Bool, true, false, All}
use Rattle.std.specs.Option.{option_and_then, option_map, option_map_or}
use Rattle.std.specs.Prelude.{nat_le}
use Rattle.std.proofs.lemmas.Bool.{le-leb}
use Rattle.std.proofs.lemmas.List.Elements.{All-weaker}
use Rattle.std.proofs.lemmas.Option.{same_Some}
use Rattle.ctl_syntax.specs.Conditions.{CondTree, condition_value}
use Rattle.ctl_syntax.specs.ContextGoals.{PlainGoal, plain_goal, map_goal}
use Rattle.ctl_syntax.specs.GoalValues.{EachInStage, GoalIsAtMostDeep, GoalNamesBelow, GoalTree, goal_conditions, tree_of_goal}
use Rattle.ctl_syntax.specs.Goals.{CtlTree}
use Rattle.ctl_syntax.specs.Values.{ctl_value}
use Rattle.ctl_syntax.specs.declared.context_goals.ContextGoal.{ContextGoal}
use Rattle.ctl_syntax.specs.declared.context_goals.ContextGoal.TheVariants.{Patrol, Until}
use Rattle.ctl_syntax.specs.declared.context_goals.UntilStage.{UntilStage}
use Rattle.ctl_syntax.specs.declared.goals.Ctl.{Ctl}
use Rattle.pddl_ast.specs.Trees.{DomainTree, FormulaTree, ProblemTree, TemporalTree}
use Rattle.pddl_system.specs.CtlGoals.{ctl_goal_of, ctl_tree, goal_value, grounded_goal}
use Rattle.pddl_system.specs.Fluents.{fluents}
use Rattle.pddl_system.specs.Laws.{GroundedGoalsAreTrue}
use Rattle.pddl_system.specs.Settings.{setting}
use Rattle.pddl_system.specs.Systems.{action_names, fluent_names, system}
use Rattle.plan_rules.specs.Denoted.{denoted_contexts}
use Rattle.plan_rules.specs.Readings.{SpellsPlain}
use Rattle.plan_rules.specs.Rules.{automaton, context_rules_of}
use Rattle.plan_rules.specs.Texts.{automaton_text}
use Rattle.plan_rules.specs.declared.rules.AutoPlan.{AutoPlan}
use Rattle.sexpr_text.specs.declared.faults.FaultKind.TheVariants.{NotChain}
use Rattle.task_core.specs.Conditions.{depth, is_shallow}
use Rattle.task_core.specs.ContextPlans.{ContextPlan}
use Rattle.task_core.specs.Names.{Name}
use Rattle.task_core.specs.Systems.{System}
use Rattle.task_core.specs.Tasks.{action_names as names_of_actions, fluent_names as names_of_fluents, initial_states, system_of}
use Rattle.task_core.specs.declared.conditions.Cond.{Cond}
use Rattle.task_core.specs.declared.tasks.Task.{Task}
use Rattle.command_base.specs.Answers.{Answer, affirmed, over_limit, refused, text_fault}
use Rattle.plan_command.specs.ContextGoals.{context_goal, is_short_goal, most_parts, part_count, stage_count}
use Rattle.plan_command.specs.Enough.{IsTightForGoal, IsTightPlan}
use Rattle.task_sets.specs.FullTables.{IsTightToEncode}
use Rattle.task_sets.specs.NodeRoom.{IsTightLimit}
use Rattle.plan_command.specs.FoundGoals.{IsGoalMissing, IsGoalResult, IsGoalShown, IsPlanFor, StandsForGoal}
use Rattle.plan_command.specs.GoalConditions.{IsGoalOver, grounded_parts, grounded_formula, limit_of_goal, sets_of_goal}
use Rattle.plan_command.specs.GoalSets.{GoalSets, HasNoGoalPlan, IsGoalPlan, contexts_for, rules_for}
use Rattle.command_base.specs.Grounded.{IsTaskOf}
use Rattle.command_base.specs.InitialStates.{empty_init}
use Rattle.plan_meets.specs.Meets.{Meets, contextual}
use Rattle.plan_command.specs.PlanCommand.{IsPlanFound, IsPlanMissing, IsPlanResult, IsResultOf, MayBeTooFew, PlanThen, is_sought, no_plan_text, text_for}
use Rattle.plan_meets.specs.TemporalGoals.{HasGoal}
use Rattle.command_base.specs.Words.{Bytes, PlanKind, PlanWords, with_contexts}
use Rattle.command_base.proofs.TaskGoals.{goal_behind}
use Rattle.ctl_syntax.proofs.GoalMapped.{goal_of_mapped}
use Rattle.plan_command.proofs.GoalParts.{IsAlikeGoal, goal_alike, has_visit, same_tree}
use Rattle.plan_command.proofs.GoalSets.{same_counts, same_sets}
use Rattle.command_base.proofs.TaskNames.{same_actions, same_fluents}
use Rattle.plan_meets.proofs.Meetings.{contexts_meet}
use Rattle.plan_command.proofs.Meetings.{no_contexts}
use Rattle.plan_command.proofs.PlanAnswers.{tight_to_encode}
use Rattle.ctl_syntax.specs.GoalSizes.{HasSomeVisit, count_of, most_of}

-- what the task's goal and that of the text have in common
record Pair (d : DomainTree) (p : ProblemTree) (tree : GoalTree) (theirs : Option (PlainGoal FormulaTree)) : Type 0 where
  parts : PlainGoal FormulaTree
  of_text : theirs ≡ Some parts
  same : tree ≡ grounded_parts d p parts

pair_of : (d : DomainTree) (p : ProblemTree) (tree : GoalTree) (ours : Option (PlainGoal Cond)) (theirs : Option (PlainGoal FormulaTree)) → Some tree ≡ option_map goal_conditions ours
    → option_map (map_goal condition_value) ours ≡ option_map (map_goal (grounded_formula d p)) theirs → Pair d p tree theirs
pair_of d p tree None theirs is same = absurd (cc is)
pair_of d p tree (Some conds) None is same = absurd (cc same)
pair_of d p tree (Some conds) (Some parts) is same = record {
  parts = parts;
  of_text = refl;
  same = same_Some tree (goal_conditions conds) is
      ∙ same_tree d p conds parts (same_Some (map_goal condition_value conds) (map_goal (grounded_formula d p) parts) same);
}

neither : (d : DomainTree) (p : ProblemTree) (ours : Option (PlainGoal Cond)) (theirs : Option (PlainGoal FormulaTree)) → None ≡ option_map goal_conditions ours
    → option_map (map_goal condition_value) ours ≡ option_map (map_goal (grounded_formula d p)) theirs → theirs ≡ None
neither d p None None is same = refl
neither d p None (Some parts) is same = absurd (cc same)
neither d p (Some conds) theirs is same = absurd (cc is)

-- the goals have the same parts, as trees of conditions
same_goal : (d : DomainTree) (p : ProblemTree) (goal : Ctl) (g : TemporalTree) → goal_value goal ≡ grounded_goal (setting d p) (fluents d p) g
    → option_map (map_goal condition_value) (plain_goal (ctl_value goal)) ≡ option_map (map_goal (grounded_formula d p)) (plain_goal (ctl_tree g))
same_goal d p goal g is =
    sym (goal_of_mapped condition_value (ctl_value goal))
    ∙ (ap (λ (t : CtlTree CondTree). plain_goal t) is ∙ goal_of_mapped (grounded_formula d p) (ctl_tree g))

text_goal : (p : ProblemTree) (g : TemporalTree) → p.ctl ≡ Some g → context_goal p ≡ plain_goal (ctl_tree g)
text_goal p g is = ap (λ (o : Option TemporalTree). option_and_then (λ goal. plain_goal (ctl_tree goal)) o) is

-- the goal is none that plans with contexts are looked for
pub no_goal_found : (d : DomainTree) (p : ProblemTree) (goal : Ctl) → Some (goal_value goal) ≡ ctl_goal_of d p → None ≡ option_map goal_conditions (plain_goal (ctl_value goal)) → context_goal p ≡ None
no_goal_found d p goal stands none =
    let behind = goal_behind d p goal p.ctl stands in
    text_goal p behind.0 behind.1 ∙ neither d p (plain_goal (ctl_value goal)) (plain_goal (ctl_tree behind.0)) none (same_goal d p goal behind.0 behind.2)

-- or one
pub goal_stands : GroundedGoalsAreTrue → (d : DomainTree) (p : ProblemTree) (goal : Ctl) (found : ContextGoal) → Some (goal_value goal) ≡ ctl_goal_of d p
    → Some (tree_of_goal found) ≡ option_map goal_conditions (plain_goal (ctl_value goal)) → StandsForGoal d p found
goal_stands law d p goal found stands is =
    let behind = goal_behind d p goal p.ctl stands in
    let pair = pair_of d p (tree_of_goal found) (plain_goal (ctl_value goal)) (plain_goal (ctl_tree behind.0)) is (same_goal d p goal behind.0 behind.2) in
    let alike : IsAlikeGoal (ctl_value goal) found = goal_alike (ctl_value goal) found is in
    let of_text = text_goal p behind.0 behind.1 ∙ pair.of_text in
    record {
      parts = pair.parts;
      is = of_text;
      conditions = ap Some pair.same ∙ sym (ap (λ (o : Option (PlainGoal FormulaTree)). option_map (grounded_parts d p) o) of_text);
      counts = same_counts d p found pair.parts pair.same (has_visit (ctl_tree behind.0) pair.parts pair.of_text);
      sets = same_sets d p found pair.parts pair.same;
      temporal = behind.0;
      temporal_is = behind.1;
      alike = λ plan x.
          let of_text = law d p behind.0 (ctl_value goal) (system d p) plan x behind.2 in
          let of_goal = alike (system d p) plan x in
          (λ has. of_goal.0 (of_text.1 has), λ has. of_text.0 (of_goal.1 has));
    }

-- a plan that has the goal's sets meets the problem's goal, and the other way round
module _ (d : DomainTree) (p : ProblemTree) (goal : ContextGoal) (s : StandsForGoal d p goal) where
  meets : (plan : ContextPlan) → IsGoalPlan (system d p) (sets_of_goal goal) plan → Meets with_contexts d p (contextual plan)
  meets plan has = (s.temporal, s.temporal_is, record { complete = has.complete; has = λ x initial. (s.alike plan x).1 (has.has x initial) })

  met_back : (plan : ContextPlan) → Meets with_contexts d p (contextual plan) → IsGoalPlan (system d p) (sets_of_goal goal) plan
  met_back plan (tree, is, met) =
      let same : tree ≡ s.temporal = same_Some tree s.temporal (sym is ∙ s.temporal_is) in
      record {
        complete = met.complete;
        has = λ x initial. (s.alike plan x).0 (subst (λ (g : TemporalTree). HasGoal d p plan g x) same (met.has x initial));
      }

  found : (t : Task) (a : Answer) → IsTaskOf d p t → IsGoalShown t (sets_of_goal goal) a → IsPlanFound with_contexts d p a
  found t a of shown =
      let fluents_named = subst (λ (ns : List Name). SpellsPlain ns (names_of_actions t) shown.text (automaton shown.contexts shown.rules)) (same_fluents d p t of.task_is) shown.spelled in
      let named = subst (λ (ns : List Name). SpellsPlain (fluent_names d p) ns shown.text (automaton shown.contexts shown.rules)) (same_actions d p t of.task_is) fluents_named in
      let plan = denoted_contexts shown.rules in
      let sets = sets_of_goal goal in
      record {
        text = shown.text;
        shown = shown.shown;
        good = record {
          plan = automaton shown.contexts shown.rules;
          spelled = named;
          written = tt;
          meets = contexts_meet d p shown.contexts shown.rules
              (meets plan (subst (λ (y : System). IsGoalPlan y sets plan) of.system_is shown.has));
          executable = tt;
        };
        short = tt;
        printed = (
          s.parts,
          s.is,
          shown.printed
              ∙ (ap (λ (ns : List Name). automaton_text ns (names_of_actions t) (contexts_for sets) (rules_for (system_of t) sets)) (same_fluents d p t of.task_is)
              ∙ (ap (λ (ns : List Name). automaton_text (fluent_names d p) ns (contexts_for sets) (rules_for (system_of t) sets)) (same_actions d p t of.task_is)
              ∙ (ap (λ (y : System). automaton_text (fluent_names d p) (action_names d p) (contexts_for sets) (rules_for y sets)) of.system_is
              ∙ ap (λ (x : GoalSets). text_for d p x) s.sets))),
        );
      }

  missing : (certified : Bool) (t : Task) (a : Answer) → IsTaskOf d p t → IsGoalMissing t (sets_of_goal goal) a → IsPlanMissing certified with_contexts d p a
  missing certified t a of none = record {
    text = no_plan_text;
    shown = none.shown;
    written = refl;
    none = no_contexts d p (λ plan m. subst (λ (y : System). HasNoGoalPlan y (sets_of_goal goal)) of.system_is none.none plan (met_back plan m));
  }

  result : (certified : Bool) (t : Task) (a : Answer) → IsTaskOf d p t → IsGoalResult t (sets_of_goal goal) a → IsPlanResult certified with_contexts d p a
  result certified t a of (inl shown) = inl (found t a of shown)
  result certified t a of (inr none) = inr (missing certified t a of none)

  few_parts : count_of goal ≤ most_of goal → part_count s.parts ≤ most_parts s.parts
  few_parts few = subst (λ n. part_count s.parts ≤ n) s.counts.most (subst (λ n. n ≤ most_of goal) s.counts.count few)

  -- the answer for the goal
  pub goal_answer : (certified : Bool) (name : Bytes) (t : Task) (a : Answer) → IsTaskOf d p t → count_of goal ≤ most_of goal → initial_states t ≢ [] → IsGoalResult t (sets_of_goal goal) a
      → IsResultOf certified with_contexts name d p a
  goal_answer certified name t a of few some r =
      inr (s.parts, s.is, inr (few_parts few, inr (λ none. some (ap (λ (y : System). y.initial) of.system_is ∙ none), result certified t a of r)))

  -- there is no initial state
  pub goal_without_initial : (certified : Bool) (name : Bytes) (t : Task) (a : Answer) → IsTaskOf d p t → count_of goal ≤ most_of goal → initial_states t ≡ []
      → a ≡ refused (empty_init name p) → IsResultOf certified with_contexts name d p a
  goal_without_initial certified name t a of few none is =
      inr (s.parts, s.is, inr (few_parts few, inl (sym (ap (λ (y : System). y.initial) of.system_is) ∙ none, is)))

  pub too_many_parts : (certified : Bool) (name : Bytes) (a : Answer) → most_of goal < count_of goal → a ≡ refused (over_limit (limit_of_goal goal)) → IsResultOf certified with_contexts name d p a
  too_many_parts certified name a many is =
      inr (
        s.parts,
        s.is,
        inl (
          subst (λ n. n < part_count s.parts) s.counts.most (subst (λ n. most_of goal < n) s.counts.count many),
          is ∙ ap (λ (l : Bytes). refused (over_limit l)) s.counts.limit,
        ),
      )

  short : count_of goal ≤ most_of goal → is_short_goal p ≡ true
  short few =
      ap (λ (o : Option (PlainGoal FormulaTree)). option_map_or (λ g. nat_le (part_count g) (most_parts g)) o false) s.is
      ∙ le-leb (part_count s.parts) (most_parts s.parts) (few_parts few)

  counted : count_of goal ≡ stage_count p
  counted = s.counts.count ∙ sym (ap (λ (o : Option (PlainGoal FormulaTree)). option_map_or part_count o 0) s.is)

  -- the nodes may be too few
  pub few_nodes : (asked : PlanWords) (t : Task) → asked.kind ≡ with_contexts → IsTaskOf d p t → count_of goal ≤ most_of goal
      → IsTightForGoal goal asked.options.nodes t → (initial_states t ≡ [] → IsTightToEncode asked.options.nodes t) → MayBeTooFew asked d p
  few_nodes asked t kind of few tight alone = record {
    goal = subst (λ (k : PlanKind). is_sought k p ≡ true) (sym kind) (short few);
    within = of.within;
    tight = subst (λ (k : PlanKind). IsTightPlan k asked.options.nodes d p) (sym kind) (record {
      by_sizes = subst (λ n. IsTightLimit n asked.options.nodes (system d p)) counted
          (subst (λ (y : System). IsTightLimit (count_of goal) asked.options.nodes y) of.system_is tight.by_sizes);
      by_sets = (t, goal, of, s.conditions, tight.by_sets);
      full = (t, of, tight.full);
    });
    not_begun = tight_to_encode asked.options.nodes d p t of alone;
  }

-- the goal is none of them
pub refused_goal : (certified : Bool) (name : Bytes) (d : DomainTree) (p : ProblemTree) (a : Answer) → context_goal p ≡ None
    → a ≡ refused (text_fault name (record { kind = NotChain; place = p.ctl_place })) → IsResultOf certified with_contexts name d p a
refused_goal certified name d p a none is = inl (none, is)

-- the conditions of a goal are such as a search takes
pub shallow_within : (cond : Cond) → depth cond ≤ 200 → is_shallow cond ≡ true
shallow_within cond deep = le-leb (depth cond) 200 deep

all_shallow : (conds : List Cond) → All (λ (c : Cond). depth c ≤ 200) conds → All (λ (c : Cond). is_shallow c ≡ true) conds
all_shallow conds deep = All-weaker (λ (c : Cond). depth c ≤ 200) (λ (c : Cond). is_shallow c ≡ true) shallow_within conds deep

stage_shallow : (stage : UntilStage) → EachInStage (λ (c : Cond). depth c ≤ 200) stage → EachInStage (λ (c : Cond). is_shallow c ≡ true) stage
stage_shallow stage deep = record { guard = shallow_within stage.guard deep.guard; target = shallow_within stage.target deep.target }

pub over_task : (n : ℕ) (goal : ContextGoal) → count_of goal ≤ most_of goal → HasSomeVisit goal → GoalNamesBelow n goal → GoalIsAtMostDeep 200 goal → IsGoalOver n goal
over_task n (Until chain) few some names deep = record {
  few = few;
  names = names;
  shallow = record {
    stages = All-weaker (EachInStage (λ (c : Cond). depth c ≤ 200)) (EachInStage (λ (c : Cond). is_shallow c ≡ true)) stage_shallow chain.stages.items deep.stages;
    keep = shallow_within chain.keep deep.keep;
  };
}
over_task n (Patrol visits) few some names deep = record { some = some; few = few; names = names; shallow = all_shallow visits.items deep }

-- by the kind that is asked for
pub goal_then : (d : DomainTree) (p : ProblemTree) (goal : ContextGoal) (s : StandsForGoal d p goal) (asked : PlanWords) (t : Task) (a : Answer) → asked.kind ≡ with_contexts
    → IsTaskOf d p t → count_of goal ≤ most_of goal → initial_states t ≢ [] → IsGoalResult t (sets_of_goal goal) a → PlanThen asked d p a
goal_then d p goal s asked t a kind of few some r =
    subst (λ (k : PlanKind). IsResultOf asked.certified k asked.problem d p a) (sym kind) (goal_answer d p goal s asked.certified asked.problem t a of few some r)

pub empty_then : (d : DomainTree) (p : ProblemTree) (goal : ContextGoal) (s : StandsForGoal d p goal) (asked : PlanWords) (t : Task) (a : Answer) → asked.kind ≡ with_contexts
    → IsTaskOf d p t → count_of goal ≤ most_of goal → initial_states t ≡ [] → a ≡ refused (empty_init asked.problem p) → PlanThen asked d p a
empty_then d p goal s asked t a kind of few none is =
    subst (λ (k : PlanKind). IsResultOf asked.certified k asked.problem d p a) (sym kind) (goal_without_initial d p goal s asked.certified asked.problem t a of few none is)

pub too_many_then : (d : DomainTree) (p : ProblemTree) (goal : ContextGoal) (s : StandsForGoal d p goal) (asked : PlanWords) (a : Answer) → asked.kind ≡ with_contexts
    → most_of goal < count_of goal → a ≡ refused (over_limit (limit_of_goal goal)) → PlanThen asked d p a
too_many_then d p goal s asked a kind many is =
    subst (λ (k : PlanKind). IsResultOf asked.certified k asked.problem d p a) (sym kind) (too_many_parts d p goal s asked.certified asked.problem a many is)

pub refused_then : (d : DomainTree) (p : ProblemTree) (asked : PlanWords) (a : Answer) → asked.kind ≡ with_contexts → context_goal p ≡ None
    → a ≡ refused (text_fault asked.problem (record { kind = NotChain; place = p.ctl_place })) → PlanThen asked d p a
refused_then d p asked a kind none is =
    subst (λ (k : PlanKind). IsResultOf asked.certified k asked.problem d p a) (sym kind) (refused_goal asked.certified asked.problem d p a none is)

-- what a search found, with its text
pub goal_is_result : (t : Task) (sets : GoalSets) (plan : AutoPlan) (text : Bytes) → IsPlanFor t sets plan
    → SpellsPlain (names_of_fluents t) (names_of_actions t) text (automaton plan.contexts (context_rules_of plan))
    → text ≡ automaton_text (names_of_fluents t) (names_of_actions t) plan.contexts (context_rules_of plan)
    → IsGoalResult t sets (affirmed text)
goal_is_result t sets plan text found spelled is = inl (record {
  text = text;
  shown = refl;
  contexts = plan.contexts;
  rules = context_rules_of plan;
  spelled = spelled;
  has = found.has;
  printed = is
      ∙ (ap (λ n. automaton_text (names_of_fluents t) (names_of_actions t) n (context_rules_of plan)) found.contexts
      ∙ ap (automaton_text (names_of_fluents t) (names_of_actions t) (contexts_for sets)) found.printed);
})
