-- A system in which actions are taken in states of a guard alone: its nearness and its actions are
-- those within the guard.
use Rattle.std.proofs.Common.{◌≡◌, ◌≢◌, ℕ, zero, suc, ◌+◌, ◌^◌, Bool, true, false, ◌&&◌, ◌||◌, List, [], ◌∷◌, Option, refl, sym, ap, ◌∙◌, arith}
use Rattle.std.specs.Prelude.{if◌then◌else◌}
use Rattle.std.specs.List.{Contains, find, list_all, list_any, range_with_len}
use Rattle.std.specs.Option.{option_and_then}
use Rattle.std.proofs.Math.Path.{fun_ext}
use Rattle.std.proofs.lemmas.Bool.{false_from_ne_true, true≢false}
use Rattle.plan_theory.specs.GuardedSets.{action_at_guarded_rank, guarded_action, guarded_near, guarded_rank, guarded_set}
use Rattle.plan_theory.specs.Layers.{action_numbers, must_lead}
use Rattle.plan_theory.specs.Safe.{some_must_lead}
use Rattle.plan_theory.specs.StageSets.{action_at_rank, near, stage_action, stage_rank, stage_set}
use Rattle.plan_theory.proofs.GuardedSets as guarded
use Rattle.plan_theory.proofs.StageSets as stages
use Rattle.task_core.specs.Cubes.{SetOfVectors}
use Rattle.task_core.specs.Systems.{IsState, IsSystem, System}
use Rattle.task_core.specs.Vectors.{Vector}
use Rattle.task_core.proofs.TaskSystem.{is_system}
use Rattle.context_plan.specs.Guards.{guarded_system}
use Rattle.context_plan.specs.Scenes.{Start, sys_in, sys_of}

-- what is found in the outcomes where the guard holds
inside_list : (b : Bool) (xs : List Vector) (t : Vector) → Contains (if b then xs else []) t → Contains xs t
inside_list true xs t c = c
inside_list false xs t c = absurd (none t c)
  where
    none : (t : Vector) → Contains ([]) t → ⊥
    none t (i, within, is) = omega (arith, within)

inside_some : (b : Bool) (xs : List Vector) → (if b then xs else []) ≢ [] → xs ≢ []
inside_some true xs some = some
inside_some false xs some = absurd (some refl)

same_state : (sys : System) (guard : SetOfVectors) (v : Vector) → IsState sys v → IsState (guarded_system sys guard) v
same_state sys guard v is = record { vector = is.vector; inside = is.inside }

pub guarded_is_system : (sys : System) (guard : SetOfVectors) → IsSystem sys → IsSystem (guarded_system sys guard)
guarded_is_system sys guard ok = record {
  initial = λ s among. same_state sys guard s (ok.initial s among);
  goal = λ s among. same_state sys guard s (ok.goal s among);
  next = λ s a t o. same_state sys guard t (ok.next s a t (inside_list (guard s) (sys.next s a) t o));
  inside = λ s a x. ok.inside s a (inside_some (guard s) (sys.next s a) x);
  actions = λ s a x. ok.actions s a (inside_some (guard s) (sys.next s a) x);
}

pub in_system : (start : Start) → IsSystem (sys_in start)
in_system start = guarded_is_system (sys_of start) start.guard (is_system start.task)

-- an action leads into a set from the states of the guard from which it leads there
leads_all : (b : Bool) (f : SetOfVectors) (xs : List Vector) → (list_any f (if b then xs else []) && list_all f (if b then xs else [])) ≡ (b && (list_any f xs && list_all f xs))
leads_all true f xs = refl
leads_all false f xs = refl

pub must_inside : (sys : System) (guard f : SetOfVectors) (v : Vector) (a : ℕ) → must_lead (guarded_system sys guard) f v a ≡ (guard v && must_lead sys f v a)
must_inside sys guard f v a = leads_all (guard v) f (sys.next v a)

any_inside : (b : Bool) (p : ℕ → Bool) (xs : List ℕ) → list_any (λ a. b && p a) xs ≡ (b && list_any p xs)
any_inside true p xs = refl
any_inside false p xs = none xs
  where
    none : (xs : List ℕ) → list_any (λ a. false) xs ≡ false
    none [] = refl
    none (x ∷ xs) = none xs

pub some_inside : (sys : System) (guard f : SetOfVectors) (v : Vector) → some_must_lead (guarded_system sys guard) f v ≡ (guard v && some_must_lead sys f v)
some_inside sys guard f v =
    ap (λ (p : ℕ → Bool). list_any p (action_numbers sys)) (fun_ext (must_inside sys guard f v))
    ∙ any_inside (guard v) (must_lead sys f v) (action_numbers sys)

module _ (sys : System) (guard met : SetOfVectors) where
  abbrev sub : System
  sub = guarded_system sys guard

  pub near_inside : (k : ℕ) (v : Vector) → near sub met k v ≡ guarded_near sys guard met k v
  near_inside zero v = refl
  near_inside (suc k) v =
      let same : near sub met k ≡ guarded_near sys guard met k = fun_ext (near_inside k) in
      ap (λ b. near sub met k v || b) (some_inside sys guard (near sub met k) v)
      ∙ ap (λ (set : SetOfVectors). set v || (guard v && some_must_lead sys set v)) same

  pub set_inside : (v : Vector) → stage_set sub met v ≡ guarded_set sys guard met v
  set_inside v = near_inside (2 ^ sys.fluents) v

  in_guard : (v : Vector) → guard v ≡ true → (r : ℕ) → action_at_rank sub met v r ≡ action_at_guarded_rank sys guard met v r
  in_guard v h zero = refl
  in_guard v h (suc k) =
      let same : near sub met k ≡ guarded_near sys guard met k = fun_ext (near_inside k) in
      ap (λ (p : ℕ → Bool). find p (action_numbers sys)) (fun_ext (λ a. must_inside sys guard (near sub met k) v a ∙ ap (λ b. b && must_lead sys (near sub met k) v a) h))
      ∙ ap (λ (set : SetOfVectors). find (must_lead sys set v) (action_numbers sys)) same

  same_rank : (v : Vector) → stage_rank sub met v ≡ guarded_rank sys guard met v
  same_rank v = ap (λ (p : ℕ → Bool). find p (range_with_len 0 (2 ^ sys.fluents + 1))) (fun_ext (λ k. near_inside k v))

  pub action_inside : (v : Vector) → stage_action sub met v ≡ guarded_action sys guard met v
  action_inside v = go (guard v) (met v) refl refl
    where
      go : (g m : Bool) → guard v ≡ g → met v ≡ m → stage_action sub met v ≡ guarded_action sys guard met v
      go true m e f =
          ap (λ (h : ℕ → Option ℕ). option_and_then h (stage_rank sub met v)) (fun_ext (in_guard v e))
          ∙ ap (option_and_then (action_at_guarded_rank sys guard met v)) (same_rank v)
      go false true e f = stages.no_action-met sub met v f ∙ sym (guarded.no_action-met sys guard met v f)
      go false false e f =
          let out : guarded_set sys guard met v ≡ false =
          false_from_ne_true (guarded_set sys guard met v) (λ h. true≢false (sym (guarded.guard_holds sys guard met v (2 ^ sys.fluents) h f) ∙ e)) in
          stages.no_action-outside sub met v (set_inside v ∙ out) ∙ sym (guarded.no_action-outside sys guard met v out)
