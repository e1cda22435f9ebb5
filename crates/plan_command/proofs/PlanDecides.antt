-- The two files and the class decide the answer of `plan`, unless the table of nodes is full.
use Rattle.std.proofs.Common.{◌≡◌, ◌≢◌, ℕ, Bool, true, false, ◌<◌, ◌≤◌, ◌++◌, List, inl, inr, sym, subst, ap, ◌∙◌, arith, Some}
use Rattle.std.proofs.lemmas.Option.{same_Some}
use Rattle.pddl_ast.specs.Trees.{DomainTree, FormulaTree, ProblemTree}
use Rattle.plan_io.specs.Held.{Held, Untold}
use Rattle.pddl_system.specs.Systems.{system, fluent_names, action_names}
use Rattle.pddl_system.proofs.States.{they_have_a_system}
use Rattle.task_core.specs.Systems.{IsSystem, System}
use Rattle.plan_certs.proofs.PrintedLemmas.{printed_one}
use Rattle.plan_certs.specs.Certificates.{PlainCertificate}
use Rattle.plan_certs.specs.Texts.{certificate_text}
use Rattle.plan_rules.specs.Rules.{PlanRule}
use Rattle.plan_rules.specs.Texts.{table_text}
use Rattle.task_core.specs.Names.{Name}
use Rattle.task_core.specs.declared.classes.Class.{Class}
use Rattle.task_core.specs.declared.classes.Class.TheVariants.{Weak, Strong, Cyclic}
use Rattle.plan_theory.specs.Layers.{IsLastLayer}
use Rattle.plan_theory.specs.LayerPlans.{printed_rules}
use Rattle.command_base.specs.Answers.{Answer, affirmed, denied, over_limit, refused}
use Rattle.ctl_syntax.specs.ContextGoals.{PlainGoal}
use Rattle.plan_command.specs.ContextGoals.{ContextGoalThen, most_parts, part_count, part_limit}
use Rattle.plan_command.specs.GoalSets.{goal_sets}
use Rattle.command_base.specs.Grounding.{GroundThen}
use Rattle.command_base.specs.PddlTexts.{ReadBoth}
use Rattle.command_base.specs.InitialStates.{empty_init}
use Rattle.plan_theory.specs.PrintedRules.{ArePrintedRules, AreRulesOfLayers}
use Rattle.plan_command.specs.PlanCommand.{IsPrintedPlan, IsPrintedText, IsNoTableText, IsPlanResult, IsPlanned, IsResultFrom, IsResultOf, PlanThen, no_plan_text, text_for}
use Rattle.command_base.specs.Words.{Bytes, PlanKind, PlanWords, of_class, with_contexts}
use Rattle.command_base.proofs.Deciding.{Decides}
use Rattle.command_base.proofs.Initials.{initial_decides}
use Rattle.plan_command.proofs.OneCyclicPlan.{one_cyclic}
use Rattle.command_base.specs.OneReading.{OneReading}
use Rattle.command_base.proofs.PddlDecides.{both_decides, goal_decides, ground_decides}

-- there is one last layer at most
no_later_last : (class : Class) (sys : System) (K L : ℕ) → IsLastLayer class sys K → IsLastLayer class sys L → K < L → ⊥
no_later_last class sys K L first second less =
    let contrary : true ≡ false = sym first.covered ∙ second.first K less in
    cc

one_last : (class : Class) (sys : System) (K L : ℕ) → IsLastLayer class sys K → IsLastLayer class sys L → K ≡ L
one_last class sys K L first second = omega (arith, no_later_last class sys K L first second, no_later_last class sys L K second first)

of_layers : (class : Class) (sys : System) (rules other : List PlanRule) → AreRulesOfLayers class sys rules → AreRulesOfLayers class sys other → rules ≡ other
of_layers class sys rules other first second = first.2 ∙ ap (printed_rules class sys) (one_last class sys first.0 second.0 first.1 second.1) ∙ sym second.2

-- one list of rules at most is printed
pub one_list : (class : Class) (sys : System) → IsSystem sys → (rules other : List PlanRule) → ArePrintedRules class sys rules → ArePrintedRules class sys other → rules ≡ other
one_list Weak sys ok rules other first second = of_layers Weak sys rules other first second
one_list Strong sys ok rules other first second = of_layers Strong sys rules other first second
one_list Cyclic sys ok rules other first second = first.2 ∙ one_cyclic sys ok first.0 second.0 first.1 second.1 ∙ sym second.2

-- and one text
one_printed : (class : Class) (sys : System) → IsSystem sys → (fluents actions : List Name) (text other : Bytes)
    → IsPrintedText class sys fluents actions text → IsPrintedText class sys fluents actions other → text ≡ other
one_printed class sys ok fluents actions text other first second =
    first.spelled ∙ ap (table_text fluents actions class) (one_list class sys ok first.rules second.rules first.printed second.printed) ∙ sym second.spelled

-- one text at most is shown where there is no table
one_no_table : (certified : Bool) (class : Class) (sys : System) (fluents : List Name) (text other : Bytes) → IsNoTableText certified class sys fluents text → IsNoTableText certified class sys fluents other
    → text ≡ other
one_no_table false class sys fluents text other first second = first ∙ sym second
one_no_table true class sys fluents text other first second =
    first.written
    ∙ (ap (λ (c : PlainCertificate). no_plan_text ++ certificate_text fluents c) (printed_one class sys first.certificate second.certificate first.printed second.printed) ∙ sym second.written)

result_decides : (certified : Bool) (class : Class) (d : DomainTree) (p : ProblemTree) → Decides (IsPlanResult certified (of_class class) d p) (IsPlanResult certified (of_class class) d p)
result_decides certified class d p a b (inl f) (inl g) =
    f.shown ∙ ap affirmed (one_printed class (system d p) (they_have_a_system d p) (fluent_names d p) (action_names d p) f.text g.text f.printed g.printed) ∙ sym g.shown
result_decides certified class d p a b (inl f) (inr n) = absurd (n.none f.good.meets.0 f.good.meets.2)
result_decides certified class d p a b (inr n) (inl f) = absurd (n.none f.good.meets.0 f.good.meets.2)
result_decides certified class d p a b (inr m) (inr n) =
    m.shown ∙ (ap denied (one_no_table certified class (system d p) (fluent_names d p) m.text n.text m.written n.written) ∙ sym n.shown)

-- one goal at most
printed_once : (d : DomainTree) (p : ProblemTree) (text other : Bytes) → IsPrintedPlan d p text → IsPrintedPlan d p other → text ≡ other
printed_once d p text other (c, is, spelled) (e, is', spelled') =
    spelled ∙ (ap (λ (x : PlainGoal FormulaTree). text_for d p (goal_sets d p x)) (same_Some c e (sym is ∙ is')) ∙ sym spelled')

context_decides : (certified : Bool) (d : DomainTree) (p : ProblemTree) → Decides (IsPlanResult certified with_contexts d p) (IsPlanResult certified with_contexts d p)
context_decides certified d p a b (inl f) (inl g) = f.shown ∙ (ap affirmed (printed_once d p f.text g.text f.printed g.printed) ∙ sym g.shown)
context_decides certified d p a b (inl f) (inr n) = absurd (n.none f.good.meets.0 f.good.meets.2)
context_decides certified d p a b (inr n) (inl f) = absurd (n.none f.good.meets.0 f.good.meets.2)
context_decides certified d p a b (inr m) (inr n) = m.shown ∙ (ap denied (m.written ∙ sym n.written) ∙ sym n.shown)

-- a goal of few stages or visits is no other of many
not_many : (c e : PlainGoal FormulaTree) → Some c ≡ Some e → most_parts c < part_count c → part_count e ≤ most_parts e → ⊥
not_many c e same many few =
    let less : most_parts e < part_count e = subst (λ (x : PlainGoal FormulaTree). most_parts x < part_count x) (same_Some c e same) many in
    omega (arith, less, few)

goal_parts_decide : (name : Bytes) (p : ProblemTree) (Then : Answer → Type 0) → Decides Then Then → Decides (ContextGoalThen name p (λ goal. Then)) (ContextGoalThen name p (λ goal. Then))
goal_parts_decide name p Then next a b (inl (none, is)) (inl (none', is')) = is ∙ sym is'
goal_parts_decide name p Then next a b (inl (none, is)) (inr (c, some, why)) = absurd (cc (none, some))
goal_parts_decide name p Then next a b (inr (c, some, why)) (inl (none, is)) = absurd (cc (none, some))
goal_parts_decide name p Then next a b (inr (c, some, inl (many, is))) (inr (e, some', inl (many', is'))) =
    is ∙ (ap (λ (x : PlainGoal FormulaTree). refused (over_limit (part_limit x))) (same_Some c e (sym some ∙ some')) ∙ sym is')
goal_parts_decide name p Then next a b (inr (c, some, inl (many, is))) (inr (e, some', inr (few, then))) = absurd (not_many c e (sym some ∙ some') many few)
goal_parts_decide name p Then next a b (inr (c, some, inr (few, then))) (inr (e, some', inl (many, is))) = absurd (not_many e c (sym some' ∙ some) many few)
goal_parts_decide name p Then next a b (inr (c, some, inr (few, then))) (inr (e, some', inr (few', then'))) = next a b then then'

kind_decides : (certified : Bool) (kind : PlanKind) (name : Bytes) (d : DomainTree) (p : ProblemTree) → Decides (IsResultOf certified kind name d p) (IsResultOf certified kind name d p)
kind_decides certified (of_class class) name d p =
    initial_decides (empty_init name p) (system d p).initial (IsPlanResult certified (of_class class) d p) (result_decides certified class d p)
kind_decides certified with_contexts name d p =
    goal_parts_decide name p (IsResultFrom certified with_contexts name d p)
    (initial_decides (empty_init name p) (system d p).initial (IsPlanResult certified with_contexts d p) (context_decides certified d p))

pub plan_decides : OneReading → (held : Bytes → Held) (failed failed' : Bytes → Type 0) (asked : PlanWords)
    → held asked.domain ≢ Untold → held asked.problem ≢ Untold → ((file : Bytes) → failed file → ⊥) → ((file : Bytes) → failed' file → ⊥)
    → Decides (ReadBoth held failed asked.domain asked.problem (IsPlanned asked)) (ReadBoth held failed' asked.domain asked.problem (IsPlanned asked))
plan_decides one held failed failed' asked told told' quiet quiet' =
    both_decides one held failed failed' asked.domain asked.problem (IsPlanned asked) (IsPlanned asked) told told' quiet quiet' (λ d p.
    goal_decides asked.kind asked.problem p (GroundThen d p (PlanThen asked d p)) (GroundThen d p (PlanThen asked d p))
    (ground_decides d p (PlanThen asked d p) (PlanThen asked d p)
    (kind_decides asked.certified asked.kind asked.problem d p)))
