-- The words decide the answer of `drill`, unless the table of nodes is full.
use Rattle.std.proofs.Common.{◌≡◌, List, length, inl, inr, sym, subst, ap, ◌∙◌}
use Rattle.domain_read.specs.Domains.{SpellsDomain}
use Rattle.pddl_ast.specs.Trees.{DomainTree, ProblemTree}
use Rattle.pddl_system.specs.Systems.{system}
use Rattle.pddl_system.proofs.States.{they_have_a_system}
use Rattle.plan_check.specs.Verdicts.{IsVerdict}
use Rattle.plan_check.specs.declared.verdicts.Verdict.{Verdict}
use Rattle.plan_rules.specs.Denoted.{denoted}
use Rattle.plan_rules.specs.Rules.{PlanRule, table}
use Rattle.task_core.specs.Systems.{IsSystem, System}
use Rattle.task_core.specs.declared.classes.Class.{Class}
use Rattle.task_core.specs.declared.classes.Class.TheVariants.{Weak, Strong, Cyclic}
use Rattle.command_base.specs.Answers.{Answer, Refusal, affirmed, refused}
use Rattle.check_command.specs.CheckCommand.{ExploreThen}
use Rattle.command_base.specs.Following.{HasTooManyStates}
use Rattle.drill_command.specs.DrillCommand.{DrillThen, IsClassLine, IsDrilled, IsNotFollowed, LineThen, SpellBoth, TextThen, TextsThen, domain_name, drill_domain, drill_problem, drill_text, problem_name, rules_line}
use Rattle.command_base.specs.Grounding.{GroundThen}
use Rattle.command_base.specs.OneReading.{OneReading}
use Rattle.command_base.specs.PddlTexts.{IsFaultyDomain, IsFaultyProblem, SpellsProblemOf}
use Rattle.command_base.specs.Words.{Bytes, DrillWords, of_class}
use Rattle.check_command.proofs.CheckDecides.{explore_decides}
use Rattle.command_base.proofs.Deciding.{Decides, IsGrammar}
use Rattle.command_base.proofs.PddlDecides.{domain_grammar, goal_decides, ground_decides, problem_grammar}
use Rattle.plan_command.proofs.PlanDecides.{one_list}
use Rattle.plan_check.proofs.VerdictLaws.{same_verdict}

-- a text decides the answer, if what follows its reading does
text_decides : {X : Type 0} (name text : Bytes) (Spells : Bytes → X → Type 0) (Wrong : Bytes → Bytes → Refusal → Type 0) (Then : X → Answer → Type 0)
    → IsGrammar Spells Wrong → ((t : X) → Decides (Then t) (Then t)) → Decides (TextThen name text Spells Wrong Then) (TextThen name text Spells Wrong Then)
text_decides name text Spells Wrong Then grammar next a b (inl (r, is, wrong)) (inl (s, is', wrong')) =
    is ∙ ap refused (grammar.one_refusal name text r s wrong wrong') ∙ sym is'
text_decides name text Spells Wrong Then grammar next a b (inl (r, is, wrong)) (inr (u, spelled, then)) = absurd (grammar.not_both name text r u wrong spelled)
text_decides name text Spells Wrong Then grammar next a b (inr (t, spelled, then)) (inl (s, is', wrong')) = absurd (grammar.not_both name text s t wrong' spelled)
text_decides name text Spells Wrong Then grammar next a b (inr (t, spelled, then)) (inr (u, spelled', then')) =
    next t a b then (subst (λ x. Then x b) (grammar.one_tree text u t spelled' spelled) then')

-- a text that spells a tree is read as that
text_as : {X : Type 0} (name text : Bytes) (Spells : Bytes → X → Type 0) (Wrong : Bytes → Bytes → Refusal → Type 0) (Then : X → Answer → Type 0) (t : X) (a : Answer)
    → IsGrammar Spells Wrong → Spells text t → TextThen name text Spells Wrong Then a → Then t a
text_as name text Spells Wrong Then t a grammar spelled (inl (r, is, wrong)) = absurd (grammar.not_both name text r t wrong spelled)
text_as name text Spells Wrong Then t a grammar spelled (inr (u, spelled', then)) = subst (λ x. Then x a) (grammar.one_tree text u t spelled' spelled) then

-- where the texts spell a domain and a problem of it, the answer is for these
pub texts_as : OneReading → (asked : DrillWords) (Then : DomainTree → ProblemTree → Answer → Type 0) (d : DomainTree) (p : ProblemTree) (a : Answer) → SpellBoth asked d p → TextsThen asked Then a → Then d p a
texts_as one asked Then d p a both answer =
    text_as problem_name (drill_problem asked.kind asked.size) (SpellsProblemOf d) (IsFaultyProblem d) (λ q. Then d q) p a (problem_grammar one d) both.spells_problem
    (text_as domain_name (drill_domain asked.kind) SpellsDomain IsFaultyDomain
    (λ (e : DomainTree). TextThen problem_name (drill_problem asked.kind asked.size) (SpellsProblemOf e) (IsFaultyProblem e) (λ q. Then e q)) d a
    (domain_grammar one) both.spells_domain answer)

module _ (sys : System) (ok : IsSystem sys) (TooMany : Type 0) (class : Class) where
  -- a class whose rules are followed has no refusal
  followed_or_not : (line : Bytes) (a : Answer) → IsNotFollowed TooMany class sys a → IsClassLine TooMany class sys line → ⊥
  followed_or_not line a (rules, found, why) (inl (none, is)) = none (denoted sys rules) found.table found.solves
  followed_or_not line a (rules, found, why) (inr (other, found', judged)) = go same where
    same : ExploreThen TooMany sys (table class other) (λ b. ⊥) a
    same = subst (λ (rs : List PlanRule). ExploreThen TooMany sys (table class rs) (λ b. ⊥) a) (one_list class sys ok rules other found.printed found'.printed) why

    go : ExploreThen TooMany sys (table class other) (λ b. ⊥) a → ⊥
    go (inl (many, is)) = judged.few_initial many
    go (inr (inl (few, more, is))) = judged.few more
    go (inr (inr (few, small, never))) = never

  one_line : (line other : Bytes) → IsClassLine TooMany class sys line → IsClassLine TooMany class sys other → line ≡ other
  one_line line other (inl (none, is)) (inl (none', is')) = is ∙ sym is'
  one_line line other (inl (none, is)) (inr (rules, found, judged)) = absurd (none (denoted sys rules) found.table found.solves)
  one_line line other (inr (rules, found, judged)) (inl (none, is)) = absurd (none (denoted sys rules) found.table found.solves)
  one_line line other (inr (rules, found, judged)) (inr (rules', found', judged')) =
      let same : rules ≡ rules' = one_list class sys ok rules rules' found.printed found'.printed in
      let verdicts = same_verdict sys rules' class judged.verdict judged'.verdict (subst (λ (rs : List PlanRule). IsVerdict sys rs class judged.verdict) same judged.judged) judged'.judged in
      judged.written ∙ (ap (λ (rs : List PlanRule). rules_line class (length rs) judged.verdict) same ∙ (ap (λ (v : Verdict). rules_line class (length rules') v) verdicts ∙ sym judged'.written))

  line_decides : (Then : Bytes → Answer → Type 0) → ((line : Bytes) → Decides (Then line) (Then line)) → Decides (LineThen TooMany class sys Then) (LineThen TooMany class sys Then)
  line_decides Then next a b (inl (rules, found, why)) (inl (rules', found', why')) =
      let same = one_list class sys ok rules' rules found'.printed found.printed in
      explore_decides TooMany sys (table class rules) (λ c. ⊥) (λ x y never other. absurd never) a b why
      (subst (λ (rs : List PlanRule). ExploreThen TooMany sys (table class rs) (λ c. ⊥) b) same why')
  line_decides Then next a b (inl not) (inr (line, is, then)) = absurd (followed_or_not line a not is)
  line_decides Then next a b (inr (line, is, then)) (inl not) = absurd (followed_or_not line b not is)
  line_decides Then next a b (inr (line, is, then)) (inr (line', is', then')) =
      next line a b then (subst (λ (l : Bytes). Then l b) (one_line line' line is' is) then')

drilled_decides : (asked : DrillWords) (TooMany : Type 0) (sys : System) → IsSystem sys → Decides (IsDrilled asked TooMany sys) (IsDrilled asked TooMany sys)
drilled_decides asked TooMany sys ok =
    line_decides sys ok TooMany Weak
    (λ weak. LineThen TooMany Strong sys (λ strong. LineThen TooMany Cyclic sys (λ cyclic a. a ≡ affirmed (drill_text asked sys weak strong cyclic))))
    (λ weak.
    line_decides sys ok TooMany Strong
    (λ strong. LineThen TooMany Cyclic sys (λ cyclic a. a ≡ affirmed (drill_text asked sys weak strong cyclic)))
    (λ strong.
    line_decides sys ok TooMany Cyclic
    (λ cyclic a. a ≡ affirmed (drill_text asked sys weak strong cyclic))
    (λ cyclic a b is is'. is ∙ sym is')))

pub drill_decides : OneReading → (asked : DrillWords) → Decides (TextsThen asked (DrillThen asked)) (TextsThen asked (DrillThen asked))
drill_decides one asked =
    text_decides domain_name (drill_domain asked.kind) SpellsDomain IsFaultyDomain
    (λ d. TextThen problem_name (drill_problem asked.kind asked.size) (SpellsProblemOf d) (IsFaultyProblem d) (λ p. DrillThen asked d p))
    (domain_grammar one) (λ d.
    text_decides problem_name (drill_problem asked.kind asked.size) (SpellsProblemOf d) (IsFaultyProblem d) (λ p. DrillThen asked d p)
    (problem_grammar one d) (λ p.
    goal_decides (of_class Weak) problem_name p (GroundThen d p (IsDrilled asked (HasTooManyStates d p) (system d p))) (GroundThen d p (IsDrilled asked (HasTooManyStates d p) (system d p)))
    (ground_decides d p (IsDrilled asked (HasTooManyStates d p) (system d p)) (IsDrilled asked (HasTooManyStates d p) (system d p))
    (drilled_decides asked (HasTooManyStates d p) (system d p) (they_have_a_system d p)))))
