-- The parts of a conjunction, one after another.
use Rattle.std.proofs.Common.{◌≡◌, ℕ, ◌+◌, ◌<◌, ◌≤◌, List, ◌∷◌, length, map, get_or, drop, ap, ◌∙◌, subst}
use Rattle.std.proofs.lemmas.List.{drop_all, drop_more}
use Rattle.ctl_syntax.specs.Goals.{CtlTree, all, goal_row}
use Rattle.ctl_syntax.specs.Truth.{Satisfies}
use Rattle.ctl_syntax.specs.Values.{NamesBelow, ctl_value}
use Rattle.ctl_syntax.specs.declared.goals.Ctl.{Ctl}
use Rattle.plan_check.specs.Labels.{ComesAfter, HoldsIn}
use Rattle.task_core.specs.Tasks.{fluent_count}
use Rattle.task_core.specs.declared.conditions.Cond.{Cond}
use Rattle.plan_witness.specs.declared.scenes.Scene.{Scene}

abbrev pub row : List Ctl → CtlTree Cond
row parts = all (goal_row (map ctl_value parts))

module _ (scene : Scene) where
  abbrev n : ℕ
  n = fluent_count scene.task.now

  abbrev Sat : CtlTree Cond → ℕ → Type 0
  Sat goal = Satisfies (ComesAfter scene.graph.now) (HoldsIn n scene.graph.now) goal

  -- all parts but those that are left are true
  pub record TrueSoFar (parts left : List Ctl) (i : ℕ) : Type 0 where
    pub names : NamesBelow n (row left)
    pub true : Sat (row left) i → Sat (row parts) i

  pub so_far_begin : (parts : List Ctl) (i : ℕ) → NamesBelow n (row parts) → TrueSoFar parts parts i
  so_far_begin parts i names = record { names = names; true = λ t. t }

  so_far_drop : (parts : List Ctl) (k : ℕ) (part : Ctl) (i : ℕ) → k < length parts → get_or parts k part ≡ part → TrueSoFar parts (drop k parts) i → TrueSoFar parts (part ∷ drop (k + 1) parts) i
  so_far_drop parts k part i l is t = subst (λ gs. TrueSoFar parts gs i) (drop_more parts k part l ∙ ap (λ g. g ∷ drop (k + 1) parts) is) t

  pub so_far_names : (parts : List Ctl) (k : ℕ) (part : Ctl) (i : ℕ) → k < length parts → get_or parts k part ≡ part → TrueSoFar parts (drop k parts) i → NamesBelow n (ctl_value part)
  so_far_names parts k part i l is t = (so_far_drop parts k part i l is t).names.0

  pub so_far_more : (parts : List Ctl) (k : ℕ) (part : Ctl) (i : ℕ) → k < length parts → get_or parts k part ≡ part → TrueSoFar parts (drop k parts) i → Sat (ctl_value part) i → TrueSoFar parts (drop (k + 1) parts) i
  so_far_more parts k part i l is t sat = let u = so_far_drop parts k part i l is t in record { names = u.names.1; true = λ rest. u.true (sat, rest) }

  pub so_far_end : (parts : List Ctl) (k : ℕ) (i : ℕ) → length parts ≤ k → TrueSoFar parts (drop k parts) i → Sat (row parts) i
  so_far_end parts k i l t = (subst (λ gs. TrueSoFar parts gs i) (drop_all k parts l) t).true tt
