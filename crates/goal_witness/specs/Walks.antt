-- Private: walks through a graph's numbers that lack a mark.
use Rattle.std.specs.Prelude.{◌≡◌, ◌≤◌, ℕ, Bool, false, List, ◌∷◌, length}
use Rattle.exec_graph.specs.Values.{followers_at}
use Rattle.plan_check.specs.Labels.{mark_at}
use Rattle.plan_check.specs.Walks.{IsWalk, last_number}
use Rattle.plan_witness.specs.Marked.{IsRunAlong}
use Rattle.plan_witness.specs.Runs.{PlainStep}
use Rattle.goal_witness.specs.Failures.{EachOn}
use Rattle.goal_witness.specs.Scenes.{place_in, plan_in, sys_in}
use Rattle.plan_witness.specs.declared.scenes.Scene.{Scene}

-- Private: number i has no mark
abbrev pub Lacks : List Bool → ℕ → Type 0
Lacks marks i = mark_at marks i ≡ false

-- Private: i and then the numbers of the list are a walk, and each of them lacks a mark
pub record IsWalkWithout (next : ℕ → List ℕ) (marks : List Bool) (i : ℕ) (rest : List ℕ) : Type 0 where
  pub walk : IsWalk next i rest
  pub each : EachOn (Lacks marks) i rest

-- Private: no such walk leads from i to a number with a property
abbrev pub NoneWithout : (ℕ → List ℕ) → List Bool → (ℕ → Type 0) → ℕ → Type 0
NoneWithout next marks E i = (rest : List ℕ) → IsWalkWithout next marks i rest
    → E (last_number i rest) → ⊥

-- Private: the numbers are such a walk from i to one with a property, and none is shorter
pub record IsLeastWithout (next : ℕ → List ℕ) (marks : List Bool) (E : ℕ → Type 0) (i : ℕ)
    (numbers : List ℕ) : Type 0 where
  pub walk : IsWalkWithout next marks i numbers
  pub ends : E (last_number i numbers)
  pub least : (rest : List ℕ) → IsWalkWithout next marks i rest → E (last_number i rest)
      → length numbers ≤ length rest

-- Private: some such walk of one step or more from i ends at i
pub record IsRoundWithout (next : ℕ → List ℕ) (marks : List Bool) (i : ℕ) : Type 0 where
  pub follower : ℕ
  pub rest : List ℕ
  pub walk : IsWalkWithout next marks i (follower ∷ rest)
  pub round : last_number follower rest ≡ i

-- Private: the numbers are such a walk, and none is shorter
pub record IsLeastRound (next : ℕ → List ℕ) (marks : List Bool) (i first : ℕ)
    (numbers : List ℕ) : Type 0 where
  pub walk : IsWalkWithout next marks i (first ∷ numbers)
  pub round : last_number first numbers ≡ i
  pub least : (follower : ℕ) (rest : List ℕ) → IsWalkWithout next marks i (follower ∷ rest)
      → last_number follower rest ≡ i
      → length numbers ≤ length rest

-- Private: the steps are a run along the numbers from i
abbrev pub IsAlong : Scene → ℕ → List ℕ → List PlainStep → Type 0
IsAlong scene i numbers steps = IsRunAlong (sys_in scene) (plan_in scene) (place_in scene) i numbers steps

-- Private: a run along a shortest walk from i, through numbers that lack a mark of `right`, to the number
-- `end`, which lacks one of `left` too
pub record IsWayFound (scene : Scene) (left right : List Bool) (i : ℕ) (steps : List PlainStep)
    (end : ℕ) : Type 0 where
  pub numbers : List ℕ
  pub least : IsLeastWithout (followers_at scene.graph.now) right (Lacks left) i numbers
  pub ends : last_number i numbers ≡ end
  pub along : IsAlong scene i numbers steps

-- Private: a run along a shortest walk from i, through numbers that lack a mark, to one from which such a
-- walk comes back, and a run along a shortest walk back
pub record IsLassoFound (scene : Scene) (right : List Bool) (i : ℕ)
    (stem back : List PlainStep) : Type 0 where
  pub numbers : List ℕ
  pub least : IsLeastWithout (followers_at scene.graph.now) right
      (IsRoundWithout (followers_at scene.graph.now) right) i numbers
  pub along : IsAlong scene i numbers stem
  pub first : ℕ
  pub others : List ℕ
  pub round : IsLeastRound (followers_at scene.graph.now) right (last_number i numbers) first others
  pub along_back : IsAlong scene (last_number i numbers) (first ∷ others) back
