-- An answer that comes after a step, where another comes after the same step.
use Rattle.std.proofs.Common.{inl, inr}
use Rattle.pddl_ast.specs.Trees.{DomainTree, ProblemTree}
use Rattle.plan_io.specs.Held.{Held}
use Rattle.plan_rules.specs.Rules.{PlainPlan}
use Rattle.sexpr_text.specs.declared.forms.Place.{Place}
use Rattle.command_base.specs.Answers.{Answer, Refusal}
use Rattle.command_base.specs.Grounding.{GoalThen, GroundThen}
use Rattle.command_base.specs.PlanFiles.{KindThen}
use Rattle.command_base.specs.Reading.{ReadThen}
use Rattle.command_base.specs.Words.{Bytes, PlanKind}

-- after a file was read
pub then_map : {X : Type 0} (held : Bytes → Held) (failed : Bytes → Type 0) (name : Bytes) (Spells : Bytes → X → Type 0) (Wrong : Bytes → Bytes → Refusal → Type 0) (P Q : X → Answer → Type 0) (a : Answer)
    → ((x : X) → P x a → Q x a) → ReadThen held failed name Spells Wrong P a → ReadThen held failed name Spells Wrong Q a
then_map held failed name Spells Wrong P Q a f (inl why) = inl why
then_map held failed name Spells Wrong P Q a f (inr (x, holds, then)) = inr (x, holds, f x then)

-- where the goal is of the kind
pub goal_map : (kind : PlanKind) (name : Bytes) (problem : ProblemTree) (P Q : Answer → Type 0) (a : Answer) → (P a → Q a) → GoalThen kind name problem P a → GoalThen kind name problem Q a
goal_map kind name problem P Q a f (inl why) = inl why
goal_map kind name problem P Q a f (inr (some, then)) = inr (some, f then)

-- where all limits are kept
pub ground_map : (d : DomainTree) (p : ProblemTree) (P Q : Answer → Type 0) (a : Answer) → (P a → Q a) → GroundThen d p P a → GroundThen d p Q a
ground_map d p P Q a f (inl why) = inl why
ground_map d p P Q a f (inr (kept, then)) = inr (kept, f then)

-- where the plan is of the kind
pub kind_map : (kind : PlanKind) (name : Bytes) (place : Place) (plan : PlainPlan) (P Q : Answer → Type 0) (a : Answer)
    → (P a → Q a) → KindThen kind name place plan P a → KindThen kind name place plan Q a
kind_map kind name place plan P Q a f (inl why) = inl why
kind_map kind name place plan P Q a f (inr (is, then)) = inr (is, f then)
