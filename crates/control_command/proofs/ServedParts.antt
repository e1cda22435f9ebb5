-- The plan that `plan` finds is a controller: with those of its rules that serve, or, where what it reaches
-- is too much to be listed, with all of them.
use Rattle.std.proofs.Common.{◌≡◌, ◌≤◌, ◌<◌, ℕ, true, List, [], arith, Some, inl, inr, length, refl, sym, ◌∙◌, subst}
use Rattle.std.specs.Prelude.{IfNone, IfSome, None, Option, Vec}
use Rattle.std.specs.List.{Contains}
use Rattle.std.proofs.lemmas.List.Elements.{All-contains}
use Rattle.pddl_ast.specs.Trees.{DomainTree, ProblemTree}
use Rattle.pddl_system.specs.CtlGoals.{FormulaHoldsAt, ctl_tree}
use Rattle.pddl_system.specs.Fluents.{fluents}
use Rattle.pddl_system.specs.Settings.{setting}
use Rattle.pddl_system.specs.Systems.{system}
use Rattle.pddl_system.proofs.States.{they_have_a_system}
use Rattle.task_core.specs.Cubes.{matches}
use Rattle.task_core.specs.Systems.{System, Exec}
use Rattle.task_core.specs.Tasks.{action_count, fluent_count, system_of}
use Rattle.task_core.specs.Vectors.{Vector}
use Rattle.task_core.specs.declared.classes.Class.{Class}
use Rattle.task_core.specs.declared.tasks.Task.{Task}
use Rattle.exec_graph.specs.Graphs.{IsGraphOf, PlainGraph}
use Rattle.exec_graph.proofs.Reaching.{reached_first, reached_state}
use Rattle.plan_document.specs.Faithful.{IsToldInFull}
use Rattle.rule_lookup.specs.RunRules.{in_one_context, run_rules}
use Rattle.plan_meets.specs.Meets.{Meaning, Meets, PlanMeets, contextual}
use Rattle.plan_meets.proofs.Meetings.{contexts_meet, table_meets, table_solves}
use Rattle.plan_rules.specs.Denoted.{denoted_contexts}
use Rattle.plan_rules.specs.Plans.{IsContextRuleOf, IsCubeOf, IsPlainPlanOf, IsRuleOf}
use Rattle.plan_rules.specs.Rules.{ContextRule, PlainPlan, automaton, table}
use Rattle.list_laws.proofs.Elements.{Contains-map, Contains-map-witness}
use Rattle.command_base.specs.Words.{PlanKind, of_class, with_contexts}
use Rattle.plan_command.specs.PlanCommand.{IsWrittenFor}
use Rattle.controller_rules.specs.AsRun.{HasNoDeadRule, NamesLastContext}
use Rattle.controller_rules.specs.Guards.{AreGuarded, IsGuardedRule}
use Rattle.controller_rules.specs.Serving.{IsServingPart, marked_part}
use Rattle.apart_rules.proofs.ApartPlans.{IsApartPlan, serving_among, serving_is_part, serving_names, serving_told}
use Rattle.apart_rules.proofs.Guarded.{guarded_rule}
use Rattle.apart_rules.proofs.PartGoals.{part_complete, part_true}
use Rattle.apart_rules.proofs.Parts.{IsPart, none_hidden, one_move, part_follows, part_goes, part_serves, part_solves}
use Rattle.apart_rules.proofs.PrintedTables.{all_of}
use Rattle.pddl_ast.specs.Values.{domain_value, problem_value}
use Rattle.plan_rules.specs.Plans.{IsPlanOf}
use Rattle.plan_rules.specs.Readings.{SpellsPlain}
use Rattle.plan_rules.specs.Rules.{plain_of}
use Rattle.plan_rules.specs.declared.rules.Plan.{Plan}
use Rattle.command_base.specs.Answers.{over_limit}
use Rattle.command_base.specs.Reading.{file_limit}
use Rattle.command_base.proofs.TaskNames.{same_actions, same_fluents}
use Rattle.plan_rules.specs.Texts.{text_of}
use Rattle.plan_rules.proofs.Spelled.{task_spells}
use Rattle.controller_rules.specs.Texts.{IsTextWithin, controller_text}
use Rattle.std.specs.declared.alloc.Global.{Global}
use Rattle.pddl_system.specs.Systems.{fluent_names}
use Rattle.task_core.specs.Names.{Name}
use Rattle.task_core.specs.Tasks.{action_names as names_of_actions, fluent_names as names_of_fluents}
use Rattle.apart_rules.proofs.PartTexts.{no_notes, serving_short}
use Rattle.command_base.specs.Values.{limit_of, refusal_of, shown_of}
use Rattle.command_base.specs.Words.{Bytes}
use Rattle.command_base.specs.declared.answers.Limit.{Limit}
use Rattle.command_base.specs.declared.answers.Refusal.{Refusal as CodeRefusal}
use Rattle.command_base.specs.declared.answers.Refusal.TheVariants.{OverLimit}
use Rattle.command_base.specs.declared.answers.Shown.{Shown}
use Rattle.control_command.specs.Values.{control_words_of}
use Rattle.control_command.specs.Words.{ControlWords}
use Rattle.control_command.specs.Controllers.{HasNoIdleRule, IsController, IsTooMuchToList}
use Rattle.control_command.specs.Judged.{IsGuardedOver, IsTextRefusal, IsTextShown, IsTooLarge}
use Rattle.control_command.specs.Sought.{IsControllerFor, IsFoundFor, IsReady, IsRefusedFor, IsShownFor, IsTextFound, text_found, wanted_for}
use Rattle.control_command.specs.declared.made.Wanted.{Wanted}
use Rattle.control_command.specs.declared.sought.Found.{Found}
use Rattle.control_command.specs.declared.sought.Sought.{Sought}
use Rattle.control_command.proofs.FoundPlans.{IsApartFound, found_is_apart}
use Rattle.control_command.proofs.Limits.{large_plan, no_graph, too_much}
use Rattle.control_command.proofs.Yes.{runs, short_refusal, text_controller}

module _ (d : DomainTree) (p : ProblemTree) where
  abbrev sys : System
  sys = system d p

  -- what a table or a plan with contexts has, its part has
  part_meets : (kind : PlanKind) (plan part : PlainPlan) → IsWrittenFor kind plan → IsWrittenFor kind part → IsApartPlan sys plan → IsPart sys plan part → PlanMeets kind d p plan → PlanMeets kind d p part
  part_meets (of_class class) (table written rules) (table other others) is also apart part met =
      let same : other ≡ written = also ∙ sym is in
      let here : IsPart sys (table written rules) (table written others) = subst (λ (c : Class). IsPart sys (table written rules) (table c others)) same part in
      let solves = table_solves class written d p rules met in
      table_meets class other d p others
      (λ s rule reached c m.
      apart.executes (in_one_context rule) s (here.among (in_one_context rule) (Contains-map in_one_context others rule c))
      (reached_state sys (table written others) (record { state = s; context = 1 }) (they_have_a_system d p) (reached, refl)).vector m)
      (part_solves sys (they_have_a_system d p) written rules others here class solves.1)
  part_meets (of_class class) (table written rules) (automaton m others) is never apart part met = absurd never
  part_meets (of_class class) (automaton n rules) part never also apart of met = absurd never
  part_meets with_contexts (table written rules) part never also apart of met = absurd never
  part_meets with_contexts (automaton n rules) (table other others) is never apart part met = absurd never
  part_meets with_contexts (automaton n rules) (automaton m others) is also apart part (meaning, means, meets) =
      let ok = they_have_a_system d p in
      let all : Meets with_contexts d p (contextual (denoted_contexts rules)) = subst (λ (x : Meaning). Meets with_contexts d p x) means meets in
      contexts_meet d p m others (
        all.0,
        all.1,
        record {
          complete = part_complete sys ok n m rules others part all.2.complete;
          has = λ x first. part_true sys ok n m rules others part (FormulaHoldsAt (setting d p) (fluents d p)) (ctl_tree all.0) x (reached_first sys (automaton n rules) x first) (all.2.has x first);
        },
      )

  part_dead : (kind : PlanKind) (plan part : PlainPlan) → IsWrittenFor kind plan → IsWrittenFor kind part → IsPart sys plan part → HasNoIdleRule d p part
  part_dead (of_class class) (table written rules) (table other others) is also part =
      let same : other ≡ written = also ∙ sym is in
      let here : IsPart sys (table written rules) (table written others) = subst (λ (c : Class). IsPart sys (table written rules) (table c others)) same part in
      let ok = they_have_a_system d p in
      inl (subst (λ (c : Class). HasNoDeadRule sys (table c others)) (sym same) (part_serves sys ok (table written rules) (table written others) here (part_goes sys ok written rules others here)))
  part_dead (of_class class) (table written rules) (automaton m others) is never part = absurd never
  part_dead (of_class class) (automaton n rules) part never also of = absurd never
  part_dead with_contexts (table written rules) part never also of = absurd never
  part_dead with_contexts (automaton n rules) (table other others) is never part = absurd never
  part_dead with_contexts (automaton n rules) (automaton m others) is also part =
      let ok = they_have_a_system d p in
      inl (part_serves sys ok (automaton n rules) (automaton m others) part (part_follows sys ok n m rules others part))

  module _ (kind : PlanKind) (text : Bytes) (plan : PlainPlan) (found : IsApartFound kind d p text plan) where
    -- its part that serves in its graph
    part_written : (part : PlainPlan) (graph : PlainGraph) → IsServingPart graph plan part → IsWrittenFor kind part
    part_written part graph serving = subst (IsWrittenFor kind) (sym serving.is) (go kind plan found.written)
      where
        go : (kind : PlanKind) (plan : PlainPlan) → IsWrittenFor kind plan → IsWrittenFor kind (marked_part serving.marks plan)
        go (of_class class) (table written rules) is = is
        go (of_class class) (automaton n rules) never = never
        go with_contexts (table written rules) never = never
        go with_contexts (automaton n rules) is = tt

    pub serving_controls : (graph : PlainGraph) (part : PlainPlan) → IsGraphOf sys plan graph → IsServingPart graph plan part → IsController kind d p part
    serving_controls graph part of serving =
        let ok = they_have_a_system d p in
        let is = serving_is_part sys ok plan graph of found.apart part serving in
        let written = part_written part graph serving in
        let meets = part_meets kind plan part found.written written found.apart is found.meets in
        let one = one_move sys ok part is.apart_part in
        record {
          written = written;
          begins = found.begins;
          meets = meets;
          run_meets = runs kind d p part meets one;
          one_move = one;
          no_idle_rule = part_dead kind plan part found.written written is;
          contexts = serving_names graph plan part serving;
          told = serving_told graph plan part serving found.apart.told;
        }

    -- and the whole of it, where it is a table and what it reaches is too much to be listed
    pub whole_controls : (class : Class) → kind ≡ of_class class → IsTooMuchToList d p plan → IsController kind d p plan
    whole_controls class is large =
        let ok = they_have_a_system d p in
        let one = one_move sys ok plan found.apart.apart in
        record {
          written = found.written;
          begins = found.begins;
          meets = found.meets;
          run_meets = runs kind d p plan found.meets one;
          one_move = one;
          no_idle_rule = inr (large, none_hidden sys ok plan found.apart.apart found.apart.counts);
          contexts = go kind plan is found.written;
          told = found.apart.told;
        }
      where
        go : (kind : PlanKind) (plan : PlainPlan) → kind ≡ of_class class → IsWrittenFor kind plan → NamesLastContext plan
        go (of_class c) (table written rules) e written' = tt
        go (of_class c) (automaton n rules) e never = absurd never
        go with_contexts plan e written' = absurd (cc e)

-- the cubes of a plan of a task name its fluents alone
run_cube_of : (n m : ℕ) (plan : PlainPlan) → IsPlainPlanOf n m plan → (rule : ContextRule) → Contains (run_rules plan) rule → IsCubeOf n rule.cube
run_cube_of n m (table class rules) of rule c =
    let plain = Contains-map-witness in_one_context rules rule c in
    subst (λ (r : ContextRule). IsCubeOf n r.cube) plain.2 (All-contains (IsRuleOf n m) rules plain.0 of plain.1).cube
run_cube_of n m (automaton contexts rules) of rule c = (All-contains (IsContextRuleOf n m contexts) rules rule of.each c).cube

-- where each rule can be followed wherever it matches, it asks for the precondition of its action
pub executing_guarded : (task : Task) (plan : PlainPlan) → IsPlainPlanOf (fluent_count task) (action_count task) plan
    → ((rule : ContextRule) (v : Vector) → Contains (run_rules plan) rule → length v ≡ fluent_count task → matches rule.cube v ≡ true → Exec (system_of task) v rule.action) → AreGuarded task plan
executing_guarded task plan of executes =
    all_of (IsGuardedRule task) (run_rules plan)
    (λ rule c. guarded_rule task rule (run_cube_of (fluent_count task) (action_count task) plan of rule c) (λ v long m. executes rule v c long m))

-- what holds where there is none
pub none_holds : {X Fact : Type 0} (o : Option X) → o ≡ None → IfNone o Fact → Fact
none_holds None is fact = fact
none_holds (Some x) is fact = absurd (cc is)

-- a plan that `plan` finds, over the task
module _ (s : Sought) (ready : IsReady s) (found : Plan) (in_task : IsPlanOf (fluent_count s.grounded.now.task) (action_count s.grounded.now.task) found) (by_plan : IsTextFound s (text_found s found)) where
  abbrev text_written : Bytes
  text_written = controller_text (names_of_fluents s.grounded.now.task) (names_of_actions s.grounded.now.task) (plain_of found) []

  same_text : text_written ≡ text_found s found
  same_text = no_notes (names_of_fluents s.grounded.now.task) (names_of_actions s.grounded.now.task) (plain_of found)

  -- it is told in full
  pub planned_told : IsToldInFull (plain_of found)
  planned_told =
      (found_is_apart (domain_value s.domain.now) (problem_value s.problem.now) s.grounded.now.task ready.grounded.of_task (text_found s found) (plain_of found) (task_spells s.grounded.now.task found in_task)
      (control_words_of s.asked.now).plan by_plan).apart.told

  -- its text is too long
  pub planned_long : (o : Option (Vec ℕ Global)) → o ≡ None → IsTextWithin file_limit text_written o → file_limit < length (text_found s found)
  planned_long o is within = subst (λ (bytes : Bytes). file_limit < length bytes) same_text (subst (IsTextWithin file_limit text_written) is within)

  -- or it is no longer than a plan's file may be
  pub planned_found : (f : Found) (o : Option (Vec ℕ Global)) (bytes : Vec ℕ Global) → f.plan.now ≡ found → f.text.now ≡ bytes.items → o ≡ Some bytes → IsTextWithin file_limit text_written o → IsFoundFor s f
  planned_found f o bytes same read is within =
      let made : (bytes.items ≡ text_written) × (length text_written ≤ file_limit) = subst (IsTextWithin file_limit text_written) is within in
      let text : f.text.now ≡ text_found s found = read ∙ (made.0 ∙ same_text) in
      record {
        by_plan = subst (λ (b : Bytes). IsTextFound s b) (sym text) by_plan;
        short = subst (λ (b : Bytes). length b ≤ file_limit) (sym (read ∙ made.0)) made.1;
        spelled = subst (λ (b : Bytes). SpellsPlain (names_of_fluents s.grounded.now.task) (names_of_actions s.grounded.now.task) b (plain_of f.plan.now)) (sym text)
            (subst (λ (p : Plan). SpellsPlain (names_of_fluents s.grounded.now.task) (names_of_actions s.grounded.now.task) (text_found s found) (plain_of p)) (sym same) (task_spells s.grounded.now.task found in_task));
        in_task = subst (λ (p : Plan). IsPlanOf (fluent_count s.grounded.now.task) (action_count s.grounded.now.task) p) (sym same) in_task;
      }

-- what is known of a plan that `plan` finds for what is looked for
module _ (s : Sought) (ready : IsReady s) (f : Found) (found : IsFoundFor s f) where
  abbrev asked : ControlWords
  asked = control_words_of s.asked.now

  abbrev domain : DomainTree
  domain = domain_value s.domain.now

  abbrev problem : ProblemTree
  problem = problem_value s.problem.now

  abbrev task : Task
  task = s.grounded.now.task

  abbrev plan : PlainPlan
  plan = plain_of f.plan.now

  apart_found : IsApartFound asked.plan.kind domain problem f.text.now plan
  apart_found = found_is_apart domain problem task ready.grounded.of_task f.text.now plan found.spelled asked.plan found.by_plan

  pub found_told : IsToldInFull plan
  found_told = apart_found.apart.told

  -- its text is the one that was found
  text_short : length (text_of (names_of_fluents task) (names_of_actions task) plan) ≤ file_limit
  text_short =
      subst (λ (ns : List Name). length (text_of ns (names_of_actions task) plan) ≤ file_limit) (sym (same_fluents domain problem task ready.grounded.of_task.task_is))
      (subst (λ (ns : List Name). length (text_of (fluent_names domain problem) ns plan) ≤ file_limit) (sym (same_actions domain problem task ready.grounded.of_task.task_is))
      (subst (λ (bytes : Bytes). length bytes ≤ file_limit) apart_found.text found.short))

  executes_over : (rule : ContextRule) (v : Vector) → Contains (run_rules plan) rule → length v ≡ fluent_count task → matches rule.cube v ≡ true → Exec (system_of task) v rule.action
  executes_over =
      subst (λ (x : System). (rule : ContextRule) (v : Vector) → Contains (run_rules plan) rule → length v ≡ x.fluents → matches rule.cube v ≡ true → Exec x v rule.action) (sym ready.grounded.of_task.system_is)
      apart_found.apart.executes

  -- with those of its rules that serve in its graph
  pub serving_for : (graph : PlainGraph) (made : Option Plan) (part : Plan) → made ≡ Some part → IsGraphOf (system_of task) plan graph
      → IfSome made (λ p. IsServingPart graph plan (plain_of p)) → IfSome made (λ p. IsPlanOf (fluent_count task) (action_count task) p) → IsControllerFor s part
  serving_for graph made part is of serves in_tasks =
      let serving = subst (λ (o : Option Plan). IfSome o (λ p. IsServingPart graph plan (plain_of p))) is serves in
      let within = subst (λ (o : Option Plan). IfSome o (λ p. IsPlanOf (fluent_count task) (action_count task) p)) is in_tasks in
      let over = subst (λ (x : System). IsGraphOf x plan graph) ready.grounded.of_task.system_is of in
      record {
        in_task = within;
        controller = serving_controls domain problem asked.plan.kind f.text.now plan apart_found graph (plain_of part) over serving;
        guarded = executing_guarded task (plain_of part) within
            (λ rule v c long m. executes_over rule v (serving_among graph plan (plain_of part) serving rule c) long m);
        short = omega (arith, serving_short (names_of_fluents task) (names_of_actions task) (fluent_count task) (action_count task) graph plan (plain_of part) found.in_task serving, text_short);
      }

  -- with all of them, where what it reaches is too much to be listed
  pub whole_for : (class : Class) (name : Bytes) → asked.plan.kind ≡ of_class class → IsTooLarge task plan name → IsControllerFor s f.plan.now
  whole_for class name is large = record {
    in_task = found.in_task;
    controller = whole_controls domain problem asked.plan.kind f.text.now plan apart_found class is (too_much domain problem task plan ready.grounded.of_task (no_graph task plan name large));
    guarded = executing_guarded task plan found.in_task executes_over;
    short = subst (λ (bytes : Bytes). length bytes ≤ file_limit) (sym (no_notes (names_of_fluents task) (names_of_actions task) plan)) text_short;
  }

  -- a limit that it passes, where it has contexts
  pub large_for : (limit : Limit) → asked.plan.kind ≡ with_contexts → IsTooLarge task plan (limit_of limit) → IsRefusedFor s (OverLimit limit)
  large_for limit is large =
      large_plan asked domain problem task f.text.now plan (limit_of limit) (over_limit (limit_of limit)) ready.grounded.of_task is found.by_plan found.spelled large refl

-- what is shown of a controller for what is looked for
module _ (s : Sought) (ready : IsReady s) (plan : Plan) (is : IsControllerFor s plan) (w : Wanted) (same : w ≡ wanted_for s) where
  pub proved_shown : (shown : Shown) → IsTextShown w.shape w.grounded.now (plain_of plan) (shown_of shown) → IsShownFor s shown
  proved_shown shown text =
      text_controller (control_words_of s.asked.now) (domain_value s.domain.now) (problem_value s.problem.now) s.grounded.now ready.grounded (plain_of plan) (shown_of shown) is.controller
      (subst (λ (x : Wanted). IsTextShown x.shape x.grounded.now (plain_of plan) (shown_of shown)) same text)

  pub proved_refused : (refusal : CodeRefusal) → IsTextRefusal w.grounded.now (plain_of plan) [] (refusal_of refusal) → IsRefusedFor s refusal
  proved_refused refusal why =
      inl (short_refusal s.grounded.now (plain_of plan) [] (refusal_of refusal) is.short (subst (λ (x : Wanted). IsTextRefusal x.grounded.now (plain_of plan) [] (refusal_of refusal)) same why))

  pub proved_within : IsPlanOf (fluent_count w.grounded.now.task) (action_count w.grounded.now.task) plan
  proved_within = subst (λ (x : Wanted). IsPlanOf (fluent_count x.grounded.now.task) (action_count x.grounded.now.task) plan) (sym same) is.in_task

  pub proved_guarded : IsGuardedOver w.shape.guarded w.grounded.now.task (plain_of plan)
  proved_guarded = subst (λ (x : Wanted). IsGuardedOver x.shape.guarded x.grounded.now.task (plain_of plan)) (sym same) (λ wanted. is.guarded)
