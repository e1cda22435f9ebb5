-- What the steps that settle a table ask, and what they make.
use Rattle.std.proofs.Common.{◌≡◌, ◌≢◌, ◌⊎◌, ℕ, suc, ◌+◌, ◌<◌, List, [], ◌∷◌, Option, Some, None, refl, sym, ap, subst, ◌∙◌, ⊎_elim, arith}
use Rattle.std.specs.Option.{option_map_or}
use Rattle.std.proofs.lemmas.Bool.{cases_eq}
use Rattle.dd_nodes.specs.Subfunctions.{Function}
use Rattle.dd_ops.specs.Operations.{and_of, minus_of}
use Rattle.dd_sets.specs.LiveSets.{LiveSets, IsLive, nothing, set_of}
use Rattle.dd_sets.specs.declared.slots.SetId.{SetId}
use Rattle.encode_task.specs.Made.{HoldsGoal}
use Rattle.encode_task.specs.Slots.{Encoded, exec_slot}
use Rattle.encode_task.specs.TaskSets.{exec_set, goal_set, goal_states_set}
use Rattle.slot_board.specs.Board.{Fits, set_at}
use Rattle.slot_board.specs.declared.board.Operation.{Operation}
use Rattle.task_core.specs.Tasks.{action_count}
use Rattle.task_core.specs.declared.conditions.Cond.{Cond}
use Rattle.task_core.specs.declared.tasks.Task.{Task}
use Rattle.board_steps.specs.Steps.{CanMakeAll, Placed, Shows, after_steps, with_set}
use Rattle.board_steps.specs.declared.steps.Step.{Step}
use Rattle.board_steps.specs.declared.steps.Step.TheVariants.{Combine, Kept, Whole}
use Rattle.board_steps.proofs.StepLemmas.{with_here, with_other}
use Rattle.judge_sets.specs.Places.{HasPart, HasRead, HasSteps, Scene}
use Rattle.judge_sets.specs.TableSets.{end_set, followed_by, step_set, taken_set}
use Rattle.judge_sets.specs.WorkingSets.IsTableSet.{ends, fails, followed, steps}
use Rattle.judge_sets.specs.WorkingSets.IsTaskSet.{exec, goal}
use Rattle.judge_sets.specs.WorkingSets.IsWorkingSet.{by_table, by_task}
use Rattle.judge_sets.proofs.StepFacts.{fits, op_same, place_in, taken_in, untouched}

-- the goal's slot
goal_at : (task : Task) (sets : LiveSets) (o : Option SetId) (g : Option Cond) → HoldsGoal task sets o g → (slot : SetId) → o ≡ Some slot → IsLive sets slot.0 × (set_of sets slot.0 ≡ option_map_or (goal_set task) g nothing)
goal_at task sets None None h slot e = absurd (cc)
goal_at task sets None (Some cond) h slot e = absurd h
goal_at task sets (Some s) None h slot e = absurd h
goal_at task sets (Some s) (Some cond) h slot e =
    let same : s ≡ slot = cc in
    (subst (λ (x : SetId). IsLive sets x.0) same h.live, ap (λ (x : SetId). set_of sets x.0) (sym same) ∙ h.holds)

abbrev pub begin_steps : List Step
begin_steps = Combine 4 Operation.Minus 4 0 ∷ Whole 5 ∷ []

module _ (scene : Scene) (slot : SetId) (enc : Encoded) (slots : List SetId) (has : HasRead scene enc slots scene.rules) (is : enc.goal ≡ Some slot) where
  goal_kept : IsLive scene.start.enc.sets slot.0 × (set_of scene.start.enc.sets slot.0 ≡ goal_states_set scene.start.task)
  goal_kept =
      goal_at scene.start.task scene.start.enc.sets scene.start.enc.goal scene.start.task.goal scene.start.made.goal slot
      (sym (ap (λ (e : Encoded). e.goal) has.there.at.same) ∙ is)

  -- it is still there
  pub goal_now : IsLive enc.sets slot.0 × (set_of enc.sets slot.0 ≡ goal_states_set scene.start.task)
  goal_now = (has.there.at.working.kept.live slot.0 goal_kept.0, has.there.at.working.kept.sets slot.0 goal_kept.0 ∙ goal_kept.1)

  pub goal_fits : Fits scene.start 4 (set_of enc.sets slot.0)
  goal_fits = fits scene 4 _ _ goal_now.1 (by_task _ goal)

  -- the sets at the places once the goal states are put at theirs
  abbrev with_goal : Placed
  with_goal = with_set (set_at enc.sets slots) 4 (set_of enc.sets slot.0)

  ended : minus_of (with_goal 4) (with_goal 0) ≡ end_set scene.start.task scene.rules
  ended =
      op_same Operation.Minus _ _ _ _ (with_here (set_at enc.sets slots) 4 (set_of enc.sets slot.0) 4 refl ∙ goal_now.1)
      (with_other (set_at enc.sets slots) 4 (set_of enc.sets slot.0) 0 (λ e. absurd (omega arith)) ∙ has.matched)

  pub begin_can : CanMakeAll scene.start with_goal begin_steps
  begin_can = (
    (place_in scene 4 (omega arith), place_in scene 4 (omega arith), place_in scene 0 (omega arith), fits scene 4 _ _ ended (by_table _ ends)),
    (place_in scene 5 (omega arith), tt),
  )

  left_alone : (k : ℕ) → (k ≢ 4) → (k ≢ 5) → after_steps scene.start with_goal begin_steps k ≡ set_at enc.sets slots k
  left_alone k four five =
      untouched scene.start with_goal begin_steps k (four, (five, tt)) ∙ with_other (set_at enc.sets slots) 4 (set_of enc.sets slot.0) k four

  pub begin_made : (now : Encoded) (new : List SetId) → Shows scene.start now new (after_steps scene.start with_goal begin_steps) → HasPart scene now new 0
  begin_made now new shows = record {
    there = record { at = shows.at; sound = shows.sound };
    differ = shows.sets 1 (place_in scene 1 (omega arith)) ∙ left_alone 1 (λ e. absurd (omega arith)) (λ e. absurd (omega arith)) ∙ has.differ;
    good = shows.sets 4 (place_in scene 4 (omega arith)) ∙ ended;
    followed = shows.sets 5 (place_in scene 5 (omega arith));
    steps = λ a low within. absurd (omega arith);
    taken = λ a above low.
        shows.sets (7 + a) (taken_in scene a low) ∙ left_alone (7 + a) (λ e. absurd (omega arith)) (λ e. absurd (omega arith)) ∙ has.taken a low;
  }

-- the steps of one action
abbrev pub split_steps : SetId → ℕ → List Step
split_steps slot t = Kept 2 slot ∷ Combine 3 Operation.Minus t 2 ∷ Combine 5 Operation.Minus 5 3 ∷ Combine t Operation.Meet t 2 ∷ []

module _ (scene : Scene) (slot : SetId) (a t : ℕ) (enc : Encoded) (slots : List SetId) (has : HasPart scene enc slots a) (low : a < action_count scene.start.task)
    (is : slot ≡ exec_slot enc a) (at : t ≡ 7 + a) where
  kept : slot ≡ exec_slot scene.start.enc a
  kept = is ∙ ap (λ (e : Encoded). exec_slot e a) has.there.at.same

  abbrev E : Function
  E = set_of scene.start.enc.sets slot.0

  exec_is : set_of scene.start.enc.sets slot.0 ≡ exec_set scene.start.task a
  exec_is = ap (λ (s : SetId). set_of scene.start.enc.sets s.0) kept ∙ (scene.start.made.exec a low).holds

  exec_live : IsLive scene.start.enc.sets slot.0
  exec_live = subst (λ (s : SetId). IsLive scene.start.enc.sets s.0) (sym kept) (scene.start.made.exec a low).live

  t_in : t < scene.start.places
  t_in = subst (λ k. k < scene.start.places) (sym at) (taken_in scene a low)

  abbrev p0 : Placed
  p0 = set_at enc.sets slots

  abbrev p1 : Placed
  p1 = with_set p0 2 E

  abbrev p2 : Placed
  p2 = with_set p1 3 (minus_of (p1 t) E)

  abbrev p3 : Placed
  p3 = with_set p2 5 (minus_of (set_at enc.sets slots 5) (minus_of (p1 t) E))

  abbrev p4 : Placed
  p4 = with_set p3 t (and_of (p3 t) E)

  takes : p0 t ≡ taken_set scene.rules a
  takes = ap (set_at enc.sets slots) at ∙ has.taken a (omega arith) low

  failing : minus_of (p1 t) E ≡ minus_of (taken_set scene.rules a) (exec_set scene.start.task a)
  failing = op_same Operation.Minus _ _ _ _ (with_other p0 2 E t (λ e. absurd (omega arith)) ∙ takes) exec_is

  follows : minus_of (set_at enc.sets slots 5) (minus_of (p1 t) E) ≡ followed_by scene.start.task scene.rules (suc a)
  follows = op_same Operation.Minus _ _ _ _ has.followed failing

  stepping : and_of (p3 t) E ≡ step_set scene.start.task scene.rules a
  stepping =
      op_same Operation.Meet _ _ _ _
      (with_other p2 5 (minus_of (set_at enc.sets slots 5) (minus_of (p1 t) E)) t (λ e. absurd (omega arith))
      ∙ with_other p1 3 (minus_of (p1 t) E) t (λ e. absurd (omega arith))
      ∙ with_other p0 2 E t (λ e. absurd (omega arith)) ∙ takes) exec_is

  pub split_can : CanMakeAll scene.start (set_at enc.sets slots) (split_steps slot t)
  split_can = (
    (place_in scene 2 (omega arith), exec_live, fits scene 2 _ _ exec_is (by_task _ (exec a low))),
    (
      (place_in scene 3 (omega arith), t_in, place_in scene 2 (omega arith), fits scene 3 _ _ failing (by_table _ (fails a low))),
      (
        (place_in scene 5 (omega arith), place_in scene 5 (omega arith), place_in scene 3 (omega arith), fits scene 5 _ _ follows (by_table _ (followed (suc a)))),
        ((t_in, t_in, place_in scene 2 (omega arith), fits scene t _ _ stepping (by_table _ (steps a low))), tt),
      ),
    ),
  )

  steps_at : (b : ℕ) → b < suc a → b < action_count scene.start.task → (b ≡ a) ⊎ (b ≢ a) → p4 (7 + b) ≡ step_set scene.start.task scene.rules b
  steps_at b under within = ⊎_elim
      (λ (here : b ≡ a). with_here p3 t (and_of (p3 t) E) (7 + b) (omega arith) ∙ stepping ∙ ap (step_set scene.start.task scene.rules) (sym here))
      (λ (there : b ≢ a).
      untouched scene.start (set_at enc.sets slots) (split_steps slot t) (7 + b) ((λ e. absurd (omega arith)), ((λ e. absurd (omega arith)), ((λ e. absurd (omega arith)), ((λ e. there (omega arith)), tt))))
      ∙ has.steps b (let d = there in omega arith) within)

  pub split_made : (now : Encoded) (new : List SetId) → Shows scene.start now new (after_steps scene.start (set_at enc.sets slots) (split_steps slot t)) → HasPart scene now new (a + 1)
  split_made now new shows =
      let one : suc a ≡ a + 1 = omega arith in
      record {
        there = record { at = shows.at; sound = shows.sound };
        differ = shows.sets 1 (place_in scene 1 (omega arith)) ∙ with_other p3 t (and_of (p3 t) E) 1 (λ e. absurd (omega arith)) ∙ has.differ;
        good = shows.sets 4 (place_in scene 4 (omega arith)) ∙ with_other p3 t (and_of (p3 t) E) 4 (λ e. absurd (omega arith)) ∙ has.good;
        followed = shows.sets 5 (place_in scene 5 (omega arith)) ∙ with_other p3 t (and_of (p3 t) E) 5 (λ e. absurd (omega arith)) ∙ follows ∙ ap (followed_by scene.start.task scene.rules) one;
        steps = λ b under within. shows.sets (7 + b) (taken_in scene b within) ∙ steps_at b (omega arith) within (cases_eq b a);
        taken = λ b above within.
            shows.sets (7 + b) (taken_in scene b within)
            ∙ untouched scene.start (set_at enc.sets slots) (split_steps slot t) (7 + b) ((λ e. absurd (omega arith)), ((λ e. absurd (omega arith)), ((λ e. absurd (omega arith)), ((λ e. absurd (omega arith)), tt))))
            ∙ has.taken b (omega arith) within;
      }

-- all are made
pub steps_all : (scene : Scene) (now : Encoded) (slots : List SetId) → HasPart scene now slots (action_count scene.start.task) → HasSteps scene now slots
steps_all scene now slots part = record { there = part.there; differ = part.differ; followed = part.followed; steps = λ a low. part.steps a low low }
