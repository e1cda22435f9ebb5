-- The lines for a task are those for the domain and the problem that it comes from.
use Rattle.std.proofs.Common.{◌≡◌, ◌⊎◌, length, inl, inr, refl, sym, subst, ap, None, true}
use Rattle.std.specs.Prelude.{IfOk, Result, Ok, Err}
use Rattle.std.proofs.lemmas.List.{length-map}
use Rattle.pddl_ast.specs.Trees.{DomainTree, ProblemTree}
use Rattle.pddl_system.specs.Sizes.{first_passed}
use Rattle.pddl_system.specs.Systems.{system}
use Rattle.pddl_system.specs.Tasks.{task_of}
use Rattle.pddl_system.specs.Values.{task_value}
use Rattle.domain_read.specs.Domains.{SpellsDomain}
use Rattle.plan_rules.specs.Rules.{rules_of, table}
use Rattle.plan_rules.specs.declared.rules.TablePlan.{TablePlan}
use Rattle.task_core.specs.Systems.{System}
use Rattle.task_core.specs.Tasks.{system_of}
use Rattle.task_core.specs.declared.classes.Class.{Class}
use Rattle.task_core.specs.declared.classes.Class.TheVariants.{Weak, Strong, Cyclic}
use Rattle.task_core.specs.declared.tasks.Task.{Task}
use Rattle.command_base.specs.Answers.{Answer, Refusal, affirmed, full, no_memory, refused}
use Rattle.command_base.specs.Following.{HasTooManyStates, most_followed}
use Rattle.drill_command.specs.DrillCommand.{DrillThen, IsClassLine, IsDrillAnswer, IsDrilled, IsNotFollowed, IsTightDrill, LineThen, SpellBoth, TextsThen, domain_name, drill_domain, drill_problem, drill_text, problem_name}
use Rattle.plan_command.specs.Enough.{IsTightForClass}
use Rattle.command_base.specs.Grounding.{has_goal_for}
use Rattle.command_base.specs.PddlTexts.{IsFaultyDomain, IsFaultyProblem}
use Rattle.command_base.specs.Words.{Bytes, DrillWords, default_nodes, of_class}
use Rattle.check_command.proofs.CheckAnswers.{explored}
use Rattle.command_base.proofs.TooMany.{too_many, too_many_back}
use Rattle.plan_command.proofs.PlanAnswers.{tight_class}
use Rattle.task_core.specs.Initials.{HasTooManyInitial}

-- where two ways to say that there are too many initial states agree
module _ (X Y : Type 0) (to : X → Y) (from : Y → X) (class : Class) (sys : System) where
  line_carried : (line : Bytes) → IsClassLine X class sys line → IsClassLine Y class sys line
  line_carried line (inl none) = inl none
  line_carried line (inr (rules, found, judged)) = inr (
    rules,
    found,
    record {
      few_initial = λ many. judged.few_initial (from many);
      few = judged.few;
      verdict = judged.verdict;
      judged = judged.judged;
      written = judged.written;
    },
  )

  refusal_carried : (a : Answer) → IsNotFollowed X class sys a → IsNotFollowed Y class sys a
  refusal_carried a (rules, found, why) = (rules, found, explored X Y sys sys (table class rules) (λ b. ⊥) (λ b. ⊥) a to from refl (λ never. never) why)

  then_carried : (P Q : Bytes → Answer → Type 0) (a : Answer) → ((line : Bytes) → P line a → Q line a) → LineThen X class sys P a → LineThen Y class sys Q a
  then_carried P Q a next (inl not) = inl (refusal_carried a not)
  then_carried P Q a next (inr (line, is, then)) = inr (line, line_carried line is, next line then)

drilled_carried : (X Y : Type 0) (to : X → Y) (from : Y → X) (asked : DrillWords) (sys : System) (a : Answer) → IsDrilled asked X sys a → IsDrilled asked Y sys a
drilled_carried X Y to from asked sys a =
    then_carried X Y to from Weak sys
    (λ weak. LineThen X Strong sys (λ strong. LineThen X Cyclic sys (λ cyclic b. b ≡ affirmed (drill_text asked sys weak strong cyclic))))
    (λ weak. LineThen Y Strong sys (λ strong. LineThen Y Cyclic sys (λ cyclic b. b ≡ affirmed (drill_text asked sys weak strong cyclic)))) a (λ weak.
    then_carried X Y to from Strong sys
    (λ strong. LineThen X Cyclic sys (λ cyclic b. b ≡ affirmed (drill_text asked sys weak strong cyclic)))
    (λ strong. LineThen Y Cyclic sys (λ cyclic b. b ≡ affirmed (drill_text asked sys weak strong cyclic))) a (λ strong.
    then_carried X Y to from Cyclic sys
    (λ cyclic b. b ≡ affirmed (drill_text asked sys weak strong cyclic))
    (λ cyclic b. b ≡ affirmed (drill_text asked sys weak strong cyclic)) a (λ cyclic is. is)))

-- the answer for a task is that for the domain and the problem
pub drilled_answer : (asked : DrillWords) (d : DomainTree) (p : ProblemTree) (t : Task) (a : Answer) → task_value t ≡ task_of d p → system_of t ≡ system d p
    → first_passed d p ≡ None → has_goal_for (of_class Weak) p ≡ true
    → (a ≡ refused no_memory) ⊎ (((class : Class) × IsTightForClass class default_nodes t) × (a ≡ refused (full default_nodes))) ⊎ IsDrilled asked (HasTooManyInitial t most_followed) (system_of t) a
    → (a ≡ refused no_memory) ⊎ (IsTightDrill d p × (a ≡ refused (full default_nodes))) ⊎ DrillThen asked d p a
drilled_answer asked d p t a is same within goal (inl memory) = inl memory
drilled_answer asked d p t a is same within goal (inr (inl ((class, tight), full_is))) = inr (inl (
  record {
    goal = goal;
    within = within;
    class = class;
    tight = tight_class class default_nodes d p t (record { task_is = is; system_is = same; within = within }) tight;
  },
  full_is,
))
drilled_answer asked d p t a is same within goal (inr (inr drilled)) =
    let here : IsDrilled asked (HasTooManyInitial t most_followed) (system d p) a = subst (λ (s : System). IsDrilled asked (HasTooManyInitial t most_followed) s a) same drilled in
    inr (inr (inr (goal, inr (within, drilled_carried (HasTooManyInitial t most_followed) (HasTooManyStates d p) (too_many d p t is) (too_many_back d p t is) asked (system d p) a here))))

-- a text is refused, whatever would follow
texts_before : (asked : DrillWords) (a : Answer) → TextsThen asked (λ d p b. ⊥) a → TextsThen asked (DrillThen asked) a
texts_before asked a (inl why) = inl why
texts_before asked a (inr (d, spelled, inl why)) = inr (d, spelled, inl why)
texts_before asked a (inr (d, spelled, inr (p, spelled', never))) = absurd never

pub drill_refused : (asked : DrillWords) (a : Answer) → (a ≡ refused no_memory) ⊎ TextsThen asked (λ d p b. ⊥) a → (a ≡ refused no_memory) ⊎ IsDrillAnswer asked a
drill_refused asked a (inl memory) = inl memory
drill_refused asked a (inr why) = inr (inr (texts_before asked a why))

-- the answer once both are read
pub drill_read : (asked : DrillWords) (d : DomainTree) (p : ProblemTree) (a : Answer) → SpellBoth asked d p
    → (a ≡ refused no_memory) ⊎ (IsTightDrill d p × (a ≡ refused (full default_nodes))) ⊎ DrillThen asked d p a
    → (a ≡ refused no_memory) ⊎ IsDrillAnswer asked a
drill_read asked d p a both (inl memory) = inl memory
drill_read asked d p a both (inr (inl (few, is))) = inr (inl (record { domain = d; problem = p; both = both; few = few }, is))
drill_read asked d p a both (inr (inr then)) = inr (inr (inr (d, both.spells_domain, inr (p, both.spells_problem, then))))

-- another property of an answer that is one
pub if_ok_map : {A E : Type 0} (P Q : A → Type 0) (r : Result A E) → ((x : A) → P x → Q x) → IfOk r P → IfOk r Q
if_ok_map P Q (Ok x) f h = f x h
if_ok_map P Q (Err e) f h = tt

-- the rules of a plan are as many as in the code's own list
pub count_is : (t : TablePlan) → length t.rules.items ≡ length (rules_of t)
count_is t = sym (length-map t.rules.items _)

-- a text is refused
pub domain_refused : (asked : DrillWords) (text : Bytes) (r : Refusal) → text ≡ drill_domain asked.kind → (r ≡ no_memory) ⊎ IsFaultyDomain domain_name text r
    → (refused r ≡ refused no_memory) ⊎ TextsThen asked (λ d p b. ⊥) (refused r)
domain_refused asked text r is (inl memory) = inl (ap refused memory)
domain_refused asked text r is (inr why) = inr (inl (r, refl, subst (λ (t : Bytes). IsFaultyDomain domain_name t r) is why))

pub problem_refused : (asked : DrillWords) (first text : Bytes) (d : DomainTree) (r : Refusal) → first ≡ drill_domain asked.kind → text ≡ drill_problem asked.kind asked.size
    → SpellsDomain first d → (r ≡ no_memory) ⊎ IsFaultyProblem d problem_name text r
    → (refused r ≡ refused no_memory) ⊎ TextsThen asked (λ d p b. ⊥) (refused r)
problem_refused asked first text d r first_is is spelled (inl memory) = inl (ap refused memory)
problem_refused asked first text d r first_is is spelled (inr why) =
    inr (inr (d, subst (λ (t : Bytes). SpellsDomain t d) first_is spelled, inl (r, refl, subst (λ (t : Bytes). IsFaultyProblem d problem_name t r) is why)))

-- a class whose plan isn't followed, after the lines of those before it
module _ (asked : DrillWords) (TooMany : Type 0) (sys : System) (r : Refusal) where
  pub weak_refused : (r ≡ no_memory) ⊎ IsNotFollowed TooMany Weak sys (refused r) → (refused r ≡ refused no_memory) ⊎ IsDrilled asked TooMany sys (refused r)
  weak_refused (inl memory) = inl (ap refused memory)
  weak_refused (inr not) = inr (inl not)

  pub strong_refused : (weak : Bytes) → IsClassLine TooMany Weak sys weak → (r ≡ no_memory) ⊎ IsNotFollowed TooMany Strong sys (refused r)
      → (refused r ≡ refused no_memory) ⊎ IsDrilled asked TooMany sys (refused r)
  strong_refused weak w (inl memory) = inl (ap refused memory)
  strong_refused weak w (inr not) = inr (inr (weak, w, inl not))

  pub cyclic_refused : (weak strong : Bytes) → IsClassLine TooMany Weak sys weak → IsClassLine TooMany Strong sys strong → (r ≡ no_memory) ⊎ IsNotFollowed TooMany Cyclic sys (refused r)
      → (refused r ≡ refused no_memory) ⊎ IsDrilled asked TooMany sys (refused r)
  cyclic_refused weak strong w s (inl memory) = inl (ap refused memory)
  cyclic_refused weak strong w s (inr not) = inr (inr (weak, w, inr (strong, s, inl not)))
