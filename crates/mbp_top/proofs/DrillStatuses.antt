-- `drill`: which statuses come.
use Rattle.std.proofs.Common.{◌≡◌, ℕ, List, ◌⊎◌, inl, inr, ◌∙◌, ap, true, None}
use Rattle.exec_graph.specs.Executions.{ReachesMoreThan}
use Rattle.pddl_ast.specs.Trees.{DomainTree, ProblemTree}
use Rattle.pddl_system.specs.Sizes.{first_passed}
use Rattle.pddl_system.specs.Systems.{system}
use Rattle.plan_io.specs.Held.{Held}
use Rattle.plan_rules.specs.Rules.{PlanRule, table}
use Rattle.task_core.specs.Systems.{System}
use Rattle.task_core.specs.declared.classes.Class.{Class}
use Rattle.task_core.specs.declared.classes.Class.TheVariants.{Cyclic, Strong, Weak}
use Rattle.command_base.specs.Answers.{Answer, no_memory, refused, status_of}
use Rattle.command_base.specs.Delivery.{Seen}
use Rattle.command_base.specs.Faults.{NoFault}
use Rattle.command_base.specs.Following.{HasTooManyStates, most_followed}
use Rattle.command_base.specs.Grounding.{GroundThen, has_goal_for}
use Rattle.command_base.specs.OneReading.{OneReading}
use Rattle.command_base.specs.Words.{Bytes, DrillWords, SaysDrill, default_nodes, drill, of_class}
use Rattle.drill_command.specs.DrillCommand.{DrillThen, IsDrillAnswer, IsDrilled, IsNotFollowed, MayDrillRunOut, SolvePrinted, SpellBoth, problem_name}
use Rattle.plan_command.specs.Enough.{IsTightPlan}
use Rattle.replay_command.specs.ReplayCommand.{Tallies}
use Rattle.command_base.proofs.PddlDecides.{with_goal, within_limits}
use Rattle.command_base.proofs.Statuses.{undisturbed}
use Rattle.drill_command.proofs.DrillDecides.{texts_as}
use Rattle.mbp_top.proofs.ByCommand.{of_command}
use Rattle.mbp_top.proofs.DueStatuses.{Done}

-- where the rules of each class can be followed, the lines are shown
module _ (asked : DrillWords) (TooMany : Type 0) (sys : System) (few : TooMany → ⊥)
    (small : (class : Class) (rules : List PlanRule) → SolvePrinted class sys rules → ReachesMoreThan sys (table class rules) most_followed → ⊥) where
  always_followed : (class : Class) (a : Answer) → IsNotFollowed TooMany class sys a → ⊥
  always_followed class a (rules, printed, inl (many, is)) = few many
  always_followed class a (rules, printed, inr (inl (few_initial, more, is))) = small class rules printed more
  always_followed class a (rules, printed, inr (inr (few_initial, followed, never))) = never

  drilled_status : (a : Answer) → IsDrilled asked TooMany sys a → status_of a ≡ 0
  drilled_status a (inl not) = absurd (always_followed Weak a not)
  drilled_status a (inr (weak, w, inl not)) = absurd (always_followed Strong a not)
  drilled_status a (inr (weak, w, inr (strong, s, inl not))) = absurd (always_followed Cyclic a not)
  drilled_status a (inr (weak, w, inr (strong, s, inr (cyclic, c, is)))) = ap status_of is

-- the nodes are too few for the problem that both texts spell, if they are for what is known of them
abbrev IsTightSomewhere : DomainTree → ProblemTree → Answer → Type 0
IsTightSomewhere d p a = (class : Class) × IsTightPlan (of_class class) default_nodes d p

tight_of : OneReading → (asked : DrillWords) (d : DomainTree) (p : ProblemTree) (a : Answer) → SpellBoth asked d p → MayDrillRunOut asked → IsTightSomewhere d p a
tight_of one asked d p a both may =
    texts_as one asked IsTightSomewhere d p a both (inr (may.domain, may.both.spells_domain, inr (may.problem, may.both.spells_problem, (may.few.class, may.few.tight))))

-- the status where the texts spell a domain and a problem of it within the limits
pub drill_status : OneReading → (held : Bytes → Held) (failed : Bytes → Type 0) (tallies : Tallies) (words : List Bytes) (before after : ℕ) (out out' err err' : Seen) (status : ℕ) (a : Answer)
    (asked : DrillWords) (domain : DomainTree) (problem : ProblemTree) → Done held failed tallies words before after out out' err err' status a
    → SaysDrill words asked → SpellBoth asked domain problem
    → has_goal_for (of_class Weak) problem ≡ true → first_passed domain problem ≡ None → (HasTooManyStates domain problem → ⊥)
    → ((class : Class) (rules : List PlanRule) → SolvePrinted class (system domain problem) rules → ReachesMoreThan (system domain problem) (table class rules) most_followed → ⊥)
    → ((class : Class) → IsTightPlan (of_class class) default_nodes domain problem → ⊥)
    → NoFault out.faults out'.faults → NoFault err.faults err'.faults → (status ≡ 0) ⊎ (status ≡ 8)
drill_status one held failed tallies words before after out out' err err' status a asked domain problem d says both goal kept few small room no_out no_err =
    go (of_command held failed tallies words (drill asked) a says d.cause) where
      code : status ≡ status_of a
      code = undisturbed a out out' err err' status no_out no_err d.delivered

      go : (a ≡ refused no_memory) ⊎ IsDrillAnswer asked a → (status ≡ 0) ⊎ (status ≡ 8)
      go (inl is) = inr (code ∙ ap status_of is)
      go (inr (inl (may, is))) = let tight = tight_of one asked domain problem a both may in absurd (room tight.0 tight.1)
      go (inr (inr texts)) =
          let Lines : Answer → Type 0 = IsDrilled asked (HasTooManyStates domain problem) (system domain problem) in
          let then = texts_as one asked (DrillThen asked) domain problem a both texts in
          let grounded = with_goal (of_class Weak) problem_name problem (GroundThen domain problem Lines) a goal then in
          inl (code ∙ drilled_status asked (HasTooManyStates domain problem) (system domain problem) few small a (within_limits domain problem Lines a kept grounded))
