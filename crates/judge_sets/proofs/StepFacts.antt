-- The board of a verdict: what its places may hold, and which of them steps leave alone.
use Rattle.std.proofs.Common.{◌≡◌, ◌≢◌, ℕ, suc, ◌+◌, ◌<◌, List, [], ◌∷◌, ◌++◌, length, take, refl, sym, ap, subst, ◌∙◌, inl, arith}
use Rattle.std.specs.Prelude.{⊤}
use Rattle.std.specs.List.{Contains}
use Rattle.dd_nodes.specs.Subfunctions.{DependsOnly, Function}
use Rattle.dd_sets.specs.declared.slots.SetId.{SetId}
use Rattle.encode_task.specs.Slots.{Encoded}
use Rattle.slot_board.specs.Board.{Fits, IsSmall, Start, combined, set_at}
use Rattle.slot_board.specs.declared.board.Operation.{Operation}
use Rattle.slot_board.proofs.BoardSlots.{depends}
use Rattle.task_core.specs.Tasks.{action_count, fluent_count}
use Rattle.plan_rules.specs.Plans.{IsRuleOf}
use Rattle.plan_rules.specs.Rules.{PlanRule}
use Rattle.list_laws.proofs.Elements.{Contains-cons, Contains-head}
use Rattle.board_steps.specs.Steps.{Placed, Shows, after_step, after_steps, place_of, set_made}
use Rattle.board_steps.specs.declared.steps.Step.{Step}
use Rattle.board_steps.proofs.StepLemmas.{with_other}
use Rattle.judge_sets.specs.Places.{IsNextRule, IsThere, Scene}
use Rattle.judge_sets.specs.WorkingSets.{IsWorkingSet}
use Rattle.judge_sets.proofs.SetTheory.{all_at}

-- a place that no step is about
abbrev pub Spares : ℕ → List Step → Type 0
Spares k [] = ⊤
Spares k (step ∷ steps) = (k ≢ place_of step) × Spares k steps

pub untouched : (start : Start) (placed : Placed) (steps : List Step) (k : ℕ) → Spares k steps → after_steps start placed steps k ≡ placed k
untouched start placed [] k spare = refl
untouched start placed (step ∷ steps) k spare =
    untouched start (after_step start placed step) steps k spare.1 ∙ with_other placed (place_of step) (set_made start placed step) k spare.0

pub op_same : (operation : Operation) (f g f' g' : Function) → f ≡ f' → g ≡ g' → combined operation f g ≡ combined operation f' g'
op_same operation f g f' g' one two = ap (λ (s : Function). combined operation s g) one ∙ ap (combined operation f') two

pub in_middle : {X : Type 0} (before : List X) (x : X) (after : List X) → Contains (before ++ x ∷ after) x
in_middle [] x after = Contains-head x after
in_middle (y ∷ before) x after = Contains-cons y (before ++ x ∷ after) x (in_middle before x after)

pub take_middle : {X : Type 0} (before : List X) (x : X) (after : List X) → take (suc (length before)) (before ++ x ∷ after) ≡ before ++ x ∷ []
take_middle [] x after = refl
take_middle (y ∷ before) x after = ap (λ (xs : List _). y ∷ xs) (take_middle before x after)

module _ (scene : Scene) where
  pub shown : (now : Encoded) (slots : List SetId) → IsThere scene now slots → Shows scene.start now slots (set_at now.sets slots)
  shown now slots there = record { at = there.at; sound = there.sound; sets = λ k l. refl }

  pub place_in : (k : ℕ) → k < 7 → k < scene.start.places
  place_in k low = let e : scene.start.places ≡ 7 + action_count scene.start.task = scene.places in omega arith

  pub taken_in : (a : ℕ) → a < action_count scene.start.task → 7 + a < scene.start.places
  taken_in a low = let e : scene.start.places ≡ 7 + action_count scene.start.task = scene.places in omega arith

  pub small : (f g : Function) → f ≡ g → IsWorkingSet scene.start.task scene.rules g → IsSmall scene.start f
  small f g same working = subst (IsSmall scene.start) (sym same) (scene.wide.each g working)

  pub fits : (k : ℕ) (f g : Function) → f ≡ g → IsWorkingSet scene.start.task scene.rules g → Fits scene.start k f
  fits k f g same working = inl (small f g same working)

  pub slot_in : (now : Encoded) (slots : List SetId) → IsThere scene now slots → (k : ℕ) → k < scene.start.places → k < length slots
  slot_in now slots there k low = let e : length slots ≡ scene.start.places = there.at.long in omega arith

  pub only_fluents : (now : Encoded) (slots : List SetId) → IsThere scene now slots → (k : ℕ) (f : Function) → set_at now.sets slots k ≡ f → DependsOnly 0 (fluent_count scene.start.task) f
  only_fluents now slots there k f is = subst (DependsOnly 0 (fluent_count scene.start.task)) is (depends scene.start now slots there.at there.sound k)

  -- a rule that stands behind others
  pub next_of : (before : List PlanRule) (rule : PlanRule) → IsNextRule scene before rule → IsRuleOf (fluent_count scene.start.task) (action_count scene.start.task) rule
  next_of before rule next =
      all_at (IsRuleOf (fluent_count scene.start.task) (action_count scene.start.task)) scene.rules rule scene.in_task
      (subst (λ (rules : List PlanRule). Contains rules rule) (sym next.1) (in_middle before rule next.0))

  pub next_take : (before : List PlanRule) (rule : PlanRule) → IsNextRule scene before rule → take (suc (length before)) scene.rules ≡ before ++ rule ∷ []
  next_take before rule next = ap (take (suc (length before))) next.1 ∙ take_middle before rule next.0
