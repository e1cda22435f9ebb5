-- The union of all sets, and what is asked of it.
use Rattle.std.proofs.Common.{◌≡◌, ◌∙◌, Bool, true, false, not, List, [], ◌∷◌, Option, None, Some, if◌then◌else◌, refl, sym, ap, subst}
use Rattle.std.specs.Prelude.{IsSome}
use Rattle.std.specs.Option.{option_map_or}
use Rattle.std.proofs.Math.Path.{fun_ext}
use Rattle.list_laws.proofs.Booleans.{or_assoc, or_none}
use Rattle.dd_nodes.specs.Subfunctions.{Function}
use Rattle.dd_ops.specs.Operations.{or_of}
use Rattle.dd_sets.specs.LiveSets.{IsLive, nothing, set_of}
use Rattle.dd_sets.specs.declared.slots.SetId.{SetId}
use Rattle.encode_task.specs.Made.{HoldsGoal}
use Rattle.encode_task.specs.Slots.{Encoded}
use Rattle.encode_task.specs.TaskSets.{goal_set, goal_states_set, initial_set}
use Rattle.task_core.specs.Tasks.{fluent_count}
use Rattle.task_core.specs.declared.classes.Class.{Class}
use Rattle.task_core.specs.declared.conditions.Cond.{Cond}
use Rattle.task_core.specs.declared.tasks.Task.{Task}
use Rattle.plan_certs.specs.Certificates.{CubeSet}
use Rattle.slot_board.specs.Board.{At, Start}
use Rattle.cert_check.specs.Judgements.{judged_actions, judgement}
use Rattle.cert_check.specs.Sets.{meets, states_in, states_of}
use Rattle.cert_check.specs.Sizes.{CommonFits, JudgeFits, union_after}
use Rattle.cert_check.specs.declared.verdict.Flaw.TheVariants.{Initial, Goal}
use Rattle.cert_check.specs.declared.verdict.Judged.TheVariants.{Rejected}

-- the union with more sets has what it had, and theirs
after_is : (task : Task) (f : Function) (sets : List CubeSet) → union_after task f sets ≡ or_of f (states_of task sets)
after_is task f [] = fun_ext (λ values. or_none (f values))
after_is task f (set ∷ sets) = after_is task (or_of f (states_in task set)) sets ∙ fun_ext (λ values. or_assoc (f values) (states_in task set values) (states_of task sets values))

pub union_as : (task : Task) (sets : List CubeSet) → union_after task nothing sets ≡ states_of task sets
union_as task sets = after_is task nothing sets

pub initial_fits : (start : Start) (enc : Encoded) (slots : List SetId) (class : Class) (sets : List CubeSet) → At start enc slots → JudgeFits start class sets → (kept : SetId) → kept ≡ enc.initial → CommonFits start (states_of start.task sets) (initial_set start.task) kept
initial_fits start enc slots class sets at fits kept is =
    let same : kept ≡ start.enc.initial = is ∙ ap (λ (e : Encoded). e.initial) at.same in
    record {
      board = fits.board;
      live = subst (λ (s : SetId). IsLive start.enc.sets s.0) (sym same) start.made.initial.live;
      holds = ap (λ (s : SetId). set_of start.enc.sets s.0) same ∙ start.made.initial.holds;
      union = fits.union;
      small = fits.initial;
    }

goal_slot : (start : Start) (class : Class) (sets : List CubeSet) → JudgeFits start class sets → (kept : SetId) (slot : Option SetId) (goal : Option Cond) → slot ≡ Some kept → start.task.goal ≡ goal → HoldsGoal start.task start.enc.sets slot goal → CommonFits start (states_of start.task sets) (goal_states_set start.task) kept
goal_slot start class sets fits kept None goal is goal_is holds = cc
goal_slot start class sets fits kept (Some slot) None is goal_is holds = absurd holds
goal_slot start class sets fits kept (Some slot) (Some cond) is goal_is holds =
    let same : slot ≡ kept = cc in
    record {
      board = fits.board;
      live = subst (λ (s : SetId). IsLive start.enc.sets s.0) same holds.live;
      holds = ap (λ (s : SetId). set_of start.enc.sets s.0) (sym same) ∙ holds.holds ∙ sym (ap (λ (g : Option Cond). option_map_or (goal_set start.task) g nothing) goal_is);
      union = fits.union;
      small = fits.goal;
    }

pub goal_fits : (start : Start) (enc : Encoded) (slots : List SetId) (class : Class) (sets : List CubeSet) → At start enc slots → JudgeFits start class sets → (kept : SetId) → enc.goal ≡ Some kept → CommonFits start (states_of start.task sets) (goal_states_set start.task) kept
goal_fits start enc slots class sets at fits kept is =
    goal_slot start class sets fits kept start.enc.goal start.task.goal (sym (ap (λ (e : Encoded). e.goal) at.same) ∙ is) refl start.made.goal

pub same_goal : (start : Start) (enc now : Encoded) (old new : List SetId) → At start enc old → At start now new → IsSome enc.goal → IsSome now.goal
same_goal start enc now old new first second some = subst IsSome (ap (λ (e : Encoded). e.goal) first.same ∙ sym (ap (λ (e : Encoded). e.goal) second.same)) some

-- the verdict, by what was found
module _ (class : Class) (task : Task) (sets : List CubeSet) where
  pub judged_initial : meets (fluent_count task) (states_of task sets) (initial_set task) ≡ false → Rejected Initial ≡ judgement class task sets
  judged_initial is = ap (λ (b : Bool). if not b then Rejected Initial else if meets (fluent_count task) (states_of task sets) (goal_states_set task) then Rejected Goal else judged_actions class task sets) (sym is)

  pub judged_goal : meets (fluent_count task) (states_of task sets) (initial_set task) ≡ true → meets (fluent_count task) (states_of task sets) (goal_states_set task) ≡ true → Rejected Goal ≡ judgement class task sets
  judged_goal none is =
      ap (λ (b : Bool). if b then Rejected Goal else judged_actions class task sets) (sym is)
      ∙ ap (λ (b : Bool). if not b then Rejected Initial else if meets (fluent_count task) (states_of task sets) (goal_states_set task) then Rejected Goal else judged_actions class task sets) (sym none)

  pub judged_rest : meets (fluent_count task) (states_of task sets) (initial_set task) ≡ true → meets (fluent_count task) (states_of task sets) (goal_states_set task) ≡ false → judged_actions class task sets ≡ judgement class task sets
  judged_rest none is =
      ap (λ (b : Bool). if b then Rejected Goal else judged_actions class task sets) (sym is)
      ∙ ap (λ (b : Bool). if not b then Rejected Initial else if meets (fluent_count task) (states_of task sets) (goal_states_set task) then Rejected Goal else judged_actions class task sets) (sym none)
