-- The plan that `plan` finds, as it is read back: no two of its rules count in one configuration.
use Rattle.std.proofs.Common.{◌≡◌, ◌≢◌, ◌≤◌, ℕ, Bool, inl, inr, List, [], Option, Some, None, length, map, refl, sym, ◌∙◌, subst, arith}
use Rattle.std.specs.List.{All}
use Rattle.std.specs.Option.{option_and_then}
use Rattle.std.proofs.lemmas.List.{length-map}
use Rattle.std.proofs.lemmas.Option.{same_Some}
use Rattle.pddl_ast.specs.Trees.{DomainTree, FormulaTree, ProblemTree, TemporalTree}
use Rattle.pddl_system.specs.CtlGoals.{ctl_tree}
use Rattle.pddl_system.specs.Systems.{action_names, fluent_names, system}
use Rattle.pddl_system.proofs.States.{they_have_a_system}
use Rattle.ctl_syntax.specs.ContextGoals.{PlainGoal, plain_goal, plain_patrol, plain_until}
use Rattle.task_core.specs.Names.{Name, name_bytes, name_of}
use Rattle.task_core.specs.Systems.{IsSystem, System}
use Rattle.task_core.specs.Tasks.{action_count, action_names as names_of_actions, fluent_count, fluent_names as names_of_fluents}
use Rattle.task_core.specs.declared.classes.Class.{Class}
use Rattle.task_core.specs.declared.classes.Class.TheVariants.{Weak, Strong, Cyclic}
use Rattle.task_core.specs.declared.tasks.Task.{Task}
use Rattle.plan_rules.specs.Plans.{IsPlainPlanOf, IsRuleOf}
use Rattle.plan_rules.specs.Readings.{SpellsPlain}
use Rattle.plan_rules.specs.Rules.{PlainPlan, PlanRule, automaton, table}
use Rattle.plan_rules.specs.Texts.{text_of}
use Rattle.plan_rules.proofs.Spelled.{one_plan, printed_spells}
use Rattle.plan_theory.specs.CyclicPlans.{cyclic_rules}
use Rattle.plan_theory.specs.LayerPlans.{printed_rules}
use Rattle.plan_theory.specs.Pairs.{Pairs, restricted}
use Rattle.plan_theory.specs.UntilChains.{until_contexts}
use Rattle.plan_theory.proofs.PatrolRules.{patrol_rules_within}
use Rattle.plan_theory.proofs.PrintedWithin.{printed_within}
use Rattle.plan_theory.proofs.UntilRules.{until_rules_within}
use Rattle.command_base.specs.Answers.{affirmed}
use Rattle.command_base.specs.Grounded.{IsTaskOf}
use Rattle.command_base.specs.Words.{Bytes, PlanKind, PlanWords, of_class, with_contexts}
use Rattle.command_base.proofs.TaskNames.{same_actions, same_fluents}
use Rattle.plan_command.specs.ContextGoals.{context_goal, most_parts, part_count}
use Rattle.plan_command.specs.GoalSets.{contexts_for, goal_sets, guarded_stage, one_holds, rules_for, until_chained}
use Rattle.plan_theory.specs.PrintedRules.{ArePrintedRules}
use Rattle.plan_command.specs.PlanCommand.{IsPlanFound, IsResultFrom, IsResultOf, IsTextPrinted, IsWrittenFor, PlanThen}
use Rattle.plan_command.proofs.GoalParts.{HasVisit, has_visit}
use Rattle.plan_meets.specs.Meets.{PlanMeets}
use Rattle.apart_rules.proofs.ApartPlans.{IsApartPlan, cyclic_plan, context_plan, printed_plan, until_plan}
use Rattle.std.specs.Prelude.{◌^◌}

-- what is known of the plan that `plan` finds
pub record IsApartFound (kind : PlanKind) (d : DomainTree) (p : ProblemTree) (bytes : Bytes) (plan : PlainPlan) : Type 0 where
  pub text : bytes ≡ text_of (fluent_names d p) (action_names d p) plan
  pub begins : (system d p).initial ≢ []
  pub written : IsWrittenFor kind plan
  pub meets : PlanMeets kind d p plan
  pub apart : IsApartPlan (system d p) plan

-- rules of layers and of pairs speak of the system alone
within_layers : (class : Class) (sys : System) (K : ℕ) → All (IsRuleOf sys.fluents sys.actions) (printed_rules class sys K)
within_layers class sys K = printed_within class sys K (IsRuleOf sys.fluents sys.actions) (λ cube a below less. record { cube = below; action = less })

within_pairs : (sys : System) (pairs : Pairs) → All (IsRuleOf sys.fluents sys.actions) (cyclic_rules sys pairs)
within_pairs sys pairs = within_layers Weak (restricted sys pairs) (2 ^ sys.fluents)

-- the rules that are printed for a class
printed_table : (class : Class) (sys : System) (rules : List PlanRule) → IsSystem sys → ArePrintedRules class sys rules → All (IsRuleOf sys.fluents sys.actions) rules × IsApartPlan sys (table class rules)
printed_table Weak sys rules ok (last, is_last, is) =
    subst (λ (rs : List PlanRule). All (IsRuleOf sys.fluents sys.actions) rs × IsApartPlan sys (table Weak rs)) (sym is) (within_layers Weak sys last, printed_plan Weak Weak sys last ok)
printed_table Strong sys rules ok (last, is_last, is) =
    subst (λ (rs : List PlanRule). All (IsRuleOf sys.fluents sys.actions) rs × IsApartPlan sys (table Strong rs)) (sym is) (within_layers Strong sys last, printed_plan Strong Strong sys last ok)
printed_table Cyclic sys rules ok (pairs, largest, is) =
    subst (λ (rs : List PlanRule). All (IsRuleOf sys.fluents sys.actions) rs × IsApartPlan sys (table Cyclic rs)) (sym is) (within_pairs sys pairs, cyclic_plan Cyclic sys pairs ok)

-- the plan that is printed for an until-chain or a patrol goal
goal_there : (p : ProblemTree) (goal : PlainGoal FormulaTree) → context_goal p ≡ Some goal → HasVisit goal
goal_there p goal is = go p.ctl is
  where
    go : (ctl : Option TemporalTree) → option_and_then (λ (t : TemporalTree). plain_goal (ctl_tree t)) ctl ≡ Some goal → HasVisit goal
    go None none = absurd (cc none)
    go (Some t) some = has_visit (ctl_tree t) goal some

module _ (d : DomainTree) (p : ProblemTree) where
  abbrev sys : System
  sys = system d p

  abbrev sets_plan : PlainGoal FormulaTree → PlainPlan
  sets_plan goal = automaton (contexts_for (goal_sets d p goal)) (rules_for sys (goal_sets d p goal))

  printed_contexts : (goal : PlainGoal FormulaTree) → HasVisit goal → part_count goal ≤ most_parts goal → IsPlainPlanOf sys.fluents sys.actions (sets_plan goal) × IsApartPlan sys (sets_plan goal)
  printed_contexts (plain_until chain) some few =
      let long = length-map chain.stages (guarded_stage d p) in
      let short : length chain.stages ≤ 32 = few in (
        record { number = record { first = omega arith; last = omega (arith, long, short) }; each = until_rules_within sys (until_chained d p chain) },
        until_plan (until_contexts (until_chained d p chain)) sys (until_chained d p chain) (they_have_a_system d p),
      )
  printed_contexts (plain_patrol visits) some few =
      let long = length-map visits (one_holds d p) in
      let there : 1 ≤ length visits = some in
      let short : length visits ≤ 8 = few in (
        record { number = record { first = omega (arith, long, there); last = omega (arith, long, short) }; each = patrol_rules_within sys (map (one_holds d p) visits) },
        context_plan (length (map (one_holds d p) visits)) sys (map (one_holds d p) visits) (they_have_a_system d p),
      )

  module _ (task : Task) (of : IsTaskOf d p task) where
    abbrev fluents : List Name
    fluents = names_of_fluents task

    abbrev actions : List Name
    actions = names_of_actions task

    -- the text of a plan over the system spells it
    spells_printed : (plan : PlainPlan) → IsPlainPlanOf sys.fluents sys.actions plan → SpellsPlain fluents actions (text_of fluents actions plan) plan
    spells_printed plan within =
        let over : IsPlainPlanOf (fluent_count task) (action_count task) plan = subst (λ (s : System). IsPlainPlanOf s.fluents s.actions plan) (sym of.system_is) within in
        printed_spells fluents actions plan (record { fluents_are = task.fluent_names; actions_are = task.action_names })
        (subst (λ n. IsPlainPlanOf n (length actions) plan) (sym (length-map task.fluents.items name_bytes))
        (subst (λ n. IsPlainPlanOf (length task.fluents.items) n plan) (sym (length-map task.actions.items name_of)) over))

    spells_over : (plan : PlainPlan) → IsPlainPlanOf sys.fluents sys.actions plan → SpellsPlain fluents actions (text_of (fluent_names d p) (action_names d p) plan) plan
    spells_over plan within =
        subst (λ (ns : List Name). SpellsPlain fluents actions (text_of (fluent_names d p) ns plan) plan) (same_actions d p task of.task_is)
        (subst (λ (ns : List Name). SpellsPlain fluents actions (text_of ns actions plan) plan) (same_fluents d p task of.task_is) (spells_printed plan within))

    module _ (text : Bytes) (plan : PlainPlan) (spelled : SpellsPlain fluents actions text plan) where
      -- what a text of such a plan spells is that plan
      as_printed : (other : PlainPlan) → text ≡ text_of (fluent_names d p) (action_names d p) other → IsPlainPlanOf sys.fluents sys.actions other × IsApartPlan sys other
          → (text ≡ text_of (fluent_names d p) (action_names d p) plan) × IsApartPlan sys plan
      as_printed other is (within, apart) =
          subst (λ (x : PlainPlan). (text ≡ text_of (fluent_names d p) (action_names d p) x) × IsApartPlan sys x)
          (one_plan fluents actions text other plan (subst (λ (bytes : Bytes). SpellsPlain fluents actions bytes other) (sym is) (spells_over other within)) spelled) (is, apart)

      spelled_over : SpellsPlain (fluent_names d p) (action_names d p) text plan
      spelled_over =
          subst (λ (ns : List Name). SpellsPlain (fluent_names d p) ns text plan) (same_actions d p task of.task_is)
          (subst (λ (ns : List Name). SpellsPlain ns actions text plan) (same_fluents d p task of.task_is) spelled)

      found_apart : (kind : PlanKind) → ((goal : PlainGoal FormulaTree) → kind ≡ with_contexts → context_goal p ≡ Some goal → part_count goal ≤ most_parts goal) → (system d p).initial ≢ []
          → IsPlanFound kind d p (affirmed text) → IsApartFound kind d p text plan
      found_apart kind few begins found =
          let same : text ≡ found.text = affirmed_same text found.text found.shown in
          let here : SpellsPlain (fluent_names d p) (action_names d p) found.text plan = subst (λ (bytes : Bytes). SpellsPlain (fluent_names d p) (action_names d p) bytes plan) same spelled_over in
          let as_is = printed kind few (subst (IsTextPrinted kind d p) (sym same) found.printed) in
          let is : found.good.plan ≡ plan = one_plan (fluent_names d p) (action_names d p) found.text found.good.plan plan found.good.spelled here in
          record {
            begins = begins;
            written = subst (IsWrittenFor kind) is found.good.written;
            meets = subst (PlanMeets kind d p) is found.good.meets;
            text = as_is.0;
            apart = as_is.1;
          }
        where
          affirmed_same : (a b : Bytes) → affirmed a ≡ affirmed b → a ≡ b
          affirmed_same a b e = cc

          printed : (kind : PlanKind) → ((goal : PlainGoal FormulaTree) → kind ≡ with_contexts → context_goal p ≡ Some goal → part_count goal ≤ most_parts goal) → IsTextPrinted kind d p text
              → (text ≡ text_of (fluent_names d p) (action_names d p) plan) × IsApartPlan sys plan
          printed (of_class class) few is = as_printed (table class is.rules) is.spelled (printed_table class sys is.rules (they_have_a_system d p) is.printed)
          printed with_contexts few (goal, there, is) = as_printed (sets_plan goal) is (printed_contexts goal (goal_there p goal there) (few goal refl there))

      -- from the initial states
      from_initial : (certified : Bool) (kind : PlanKind) (name : Bytes) → ((goal : PlainGoal FormulaTree) → kind ≡ with_contexts → context_goal p ≡ Some goal → part_count goal ≤ most_parts goal)
          → IsResultFrom certified kind name d p (affirmed text) → IsApartFound kind d p text plan
      from_initial certified kind name few (inl (none, is)) = absurd (cc is)
      from_initial certified kind name few (inr (begins, inl found)) = found_apart kind few begins found
      from_initial certified kind name few (inr (begins, inr missing)) = absurd (let is = missing.shown in cc is)

      result_apart : (certified : Bool) (kind : PlanKind) (name : Bytes) → IsResultOf certified kind name d p (affirmed text) → IsApartFound kind d p text plan
      result_apart certified (of_class class) name result = from_initial certified (of_class class) name (λ goal is. absurd (cc is)) result
      result_apart certified with_contexts name (inl (none, is)) = absurd (cc is)
      result_apart certified with_contexts name (inr (goal, there, inl (many, is))) = absurd (cc is)
      result_apart certified with_contexts name (inr (goal, there, inr (few, result))) =
          from_initial certified with_contexts name (λ other is here. subst (λ (g : PlainGoal FormulaTree). part_count g ≤ most_parts g) (same_Some goal other (sym there ∙ here)) few) result

      pub found_is_apart : (asked : PlanWords) → PlanThen asked d p (affirmed text) → IsApartFound asked.kind d p text plan
      found_is_apart asked result = result_apart asked.certified asked.kind asked.problem result
