-- The steps by which states take actions.
use Rattle.std.proofs.Common.{◌≡◌, ℕ, ◌+◌, ◌*◌, ◌-◌, ◌<◌, ◌≤◌, List, [], ◌∷◌, length, refl, sym, ap, subst, ◌∙◌, arith}
use Rattle.std.proofs.lemmas.Bool.{or_left}
use Rattle.dd_nodes.specs.Subfunctions.{Function}
use Rattle.dd_ops.specs.Operations.{or_of}
use Rattle.slot_board.specs.Board.{Scene}
use Rattle.slot_board.specs.declared.board.Operation.TheVariants.{Join, Meet, Minus}
use Rattle.slot_board.specs.declared.board.Outcomes.{Outcomes}
use Rattle.board_steps.specs.Steps.{Placed, after_step}
use Rattle.board_steps.specs.declared.steps.Step.{Step}
use Rattle.board_steps.specs.declared.steps.Step.TheVariants.{Combine, Lead}
use Rattle.board_steps.proofs.StepLemmas.{with_here, with_other}
use Rattle.task_core.specs.declared.literals.ActionId.{ActionId}
use Rattle.fair_plan.specs.Boards.{AreStepsOf, IsAfter, IsThere, Origin, actions_of, set_in}
use Rattle.fair_plan.specs.Places.{takers_place}
use Rattle.fair_plan.specs.Rounds.{Climbs}
use Rattle.fair_plan.proofs.Boards.{actions_are, low, pair_in}

abbrev pub share_steps : ℕ → ℕ → List Step
share_steps place pairs = Combine place Meet 7 pairs ∷ Combine 7 Minus 7 place ∷ []

abbrev pub climb_steps : ActionId → ℕ → ℕ → List Step
climb_steps a place pairs =
    Lead 0 Outcomes.Some a 1 ∷ Combine 0 Meet 0 pairs ∷ Combine 0 Minus 0 2 ∷ Combine place Join place 0 ∷ Combine 2 Join 2 0 ∷ []

-- the places of the states that take actions
pub takers_in : (origin : Origin) (x : Scene) → IsThere origin x → (takers a : ℕ) → takers + length x.0.actions ≤ length x.1 → a < length x.0.actions → takers + a < origin.start.places
takers_in origin x there takers a few below = let long : length x.1 ≡ origin.start.places = there.at.long in omega arith

module _ (origin : Origin) (x : Scene) (there : IsThere origin x) (a : ActionId) (takers pairs : ℕ) (is : pairs ≡ 8 + a.0) (below : a.0 < length x.0.actions) (few : takers + length x.0.actions ≤ length x.1) where
  here : takers + a.0 < origin.start.places
  here = takers_in origin x there takers a.0 few below

  low_a : a.0 < actions_of origin
  low_a = let e = actions_are origin x there in omega (arith, e)

  pair : pairs < origin.start.places
  pair = let p = pair_in origin a.0 low_a in omega arith

  pub share_can : AreStepsOf origin (share_steps (takers + a.0) pairs)
  share_can = ((here, low origin 7 (omega arith), pair), ((low origin 7 (omega arith), low origin 7 (omega arith), here), tt))

  pub climb_can : AreStepsOf origin (climb_steps a (takers + a.0) pairs)
  climb_can =
      let zero = low origin 0 (omega arith) in
      let two = low origin 2 (omega arith) in
      ((zero, low origin 1 (omega arith), low_a), ((zero, zero, pair), ((zero, zero, two), ((here, here, zero), ((two, two, zero), tt)))))

  pub climb_made : (y : Scene) → 8 ≤ takers → IsAfter origin x y (climb_steps a (takers + a.0) pairs) → Climbs x y
  climb_made y high after =
      let start = origin.start in
      let place = takers + a.0 in
      let p1 : Placed = after_step start (set_in x) (Lead 0 Outcomes.Some a 1) in
      let p2 : Placed = after_step start p1 (Combine 0 Meet 0 pairs) in
      let p3 : Placed = after_step start p2 (Combine 0 Minus 0 2) in
      let p4 : Placed = after_step start p3 (Combine place Join place 0) in
      let still : (k : ℕ) → (k ≡ 0 → ⊥) → (k ≡ place → ⊥) → p4 k ≡ set_in x k = λ k n m.
      with_other p3 place _ k m ∙ with_other p2 0 _ k n ∙ with_other p1 0 _ k n ∙ with_other (set_in x) 0 _ k n in
      let near : set_in y 2 ≡ or_of (set_in x 2) (p4 0) =
      after 2 (low origin 2 (omega arith)) ∙ with_here p4 2 _ 2 refl ∙ ap (λ (f : Function). or_of f (p4 0)) (still 2 (λ e. absurd (omega arith)) (λ e. absurd (omega arith))) in
      record {
        before = after 1 (low origin 1 (omega arith)) ∙ still 1 (λ e. absurd (omega arith)) (λ e. absurd (omega arith));
        more = λ values h. ap (λ (f : Function). f values) near ∙ or_left (set_in x 2 values) (p4 0 values) h;
      }

-- the places of a goal's stages
takers_go : (a n i places : ℕ) → i ≤ n → places ≡ takers_place a n (n + 1) → takers_place a n i + a ≤ places
takers_go a n i places few e = let p : i * a + a ≤ (n + 1) * a = product i n a few in omega arith
  where
    product : (i n a : ℕ) → i ≤ n → i * a + a ≤ (n + 1) * a
    product i n a few = go (n - i) (omega arith)
      where
        go : (d : ℕ) → n ≡ i + d → i * a + a ≤ (n + 1) * a
        go d e = subst (λ (m : ℕ). i * a + a ≤ (m + 1) * a) (sym e) (omega arith)

pub takers_fit : (origin : Origin) (count actions i : ℕ) → origin.count ≡ count → actions ≡ actions_of origin → i ≤ count → takers_place actions count i + actions ≤ origin.start.places
takers_fit origin count actions i is all few =
    subst (λ (a : ℕ). takers_place a count i + a ≤ origin.start.places) (sym all)
    (takers_go (actions_of origin) count i origin.start.places few (subst (λ (n : ℕ). origin.start.places ≡ takers_place (actions_of origin) n (n + 1)) is origin.places))
