-- The states of the contexts: of the last one, and from one to the one before.
use Rattle.std.proofs.Common.{◌≡◌, ◌≢◌, ℕ, zero, suc, ◌+◌, ◌-◌, ◌*◌, ◌<◌, ◌≤◌, true, ◌&&◌, List, [], ◌∷◌, drop, length, map, slice_index_or, refl, sym, ap, subst, ◌∙◌, inr, ⊎_elim, arith}
use Rattle.std.proofs.lemmas.Bool.{cases_eq}
use Rattle.std.proofs.lemmas.List.{drop_all}
use Rattle.dd_nodes.specs.Subfunctions.{Function}
use Rattle.dd_ops.specs.Operations.{and_of}
use Rattle.dd_sets.specs.LiveSets.{everything, set_of}
use Rattle.dd_sets.specs.declared.slots.SetId.{SetId}
use Rattle.encode_task.specs.Made.{Holds, MadeOf}
use Rattle.encode_task.specs.Slots.{Encoded}
use Rattle.encode_task.specs.TaskSets.{space_set}
use Rattle.slot_board.proofs.BoardSlots.{made_at}
use Rattle.slot_board.specs.Board.{Scene, set_at}
use Rattle.plan_theory.specs.GuardedSets.{anywhere}
use Rattle.plan_theory.specs.UntilChains.{SetStage, UntilSets, until_met, until_win}
use Rattle.plan_theory.specs.Safe.{safe_set}
use Rattle.task_core.specs.Conditions.{IsConditionOver, holds, ids_below}
use Rattle.task_core.specs.Cubes.{SetOfVectors}
use Rattle.task_core.specs.Tasks.{in_space}
use Rattle.task_core.specs.Vectors.{Vector, value_of}
use Rattle.task_core.specs.declared.tasks.Task.{Task}
use Rattle.task_core.proofs.TaskSystem.{is_system}
use Rattle.task_core.specs.declared.conditions.Cond.{Cond}
use Rattle.ctl_syntax.specs.Conditions.{states_of}
use Rattle.ctl_syntax.specs.GoalValues.{stage_sets}
use Rattle.ctl_syntax.specs.declared.context_goals.UntilStage.{UntilStage}
use Rattle.context_plan.specs.Scenes.{IsAt, IsReady, Moved, SameStates, Start, board_of, guarded, met_place, states_at, sys_of, win_place}
use Rattle.context_plan.specs.Steps.{EndWon, HasKept, HasLast, HasWins, StageMet, StageWon, met_by}
use Rattle.context_plan.specs.WorkingSets.{kept_states, met_first}
use Rattle.context_plan.specs.declared.rounds.Way.TheVariants.{Growing, Shrinking}
use Rattle.context_plan.proofs.SceneSteps.{changed_chain, changed_wider, copied_states, long_enough, met_states, moved_changed, moved_here, moved_other, moved_worked, same_all, same_length, worked_changed, worked_out}
use Rattle.context_plan.proofs.KeptSteps.{safe_kept}
use Rattle.context_plan.proofs.GuardSteps.{guarded_set_same, safe_set_anywhere, set_as}

-- where a condition is to be kept: among the states
pub space_holds : (task : Task) (enc : Encoded) (space : SetId) → MadeOf task enc → space ≡ enc.space → Holds enc.sets space (space_set task)
space_holds task enc space made is = subst (λ s. Holds enc.sets s (space_set task)) (sym is) made.space

pub kept_together : (start : Start) (x m k : Scene) (place : ℕ) (cond : Cond) (space : SetId) → 8 ≤ place → place < length x.1 → IsAt start x → space ≡ m.0.space → Moved start x m place (holds cond) → Moved start m k 0 (set_of m.0.sets space.0)
    → (λ v. states_at k 0 v && states_at k place v) ≡ kept_states (sys_of start) (states_of cond)
kept_together start x m k place cond space high within at is first second =
    let long : length k.1 ≡ length x.1 = same_length start x k at second.at in
    let holds_space = (space_holds start.task m.0 space (made_at (board_of start) m.0 m.1 first.at) is).holds in
    ap {B = SetOfVectors} (λ (f : SetOfVectors) (v : Vector). f v && states_at k place v) (moved_here start m k 0 _ second ∙ ap {B = SetOfVectors} (λ (f : Function) (v : Vector). f (value_of v)) holds_space)
    ∙ ap {B = SetOfVectors} (λ (f : SetOfVectors) (v : Vector). in_space start.task v && f v)
    (moved_other start m k 0 _ second place (omega arith) (λ e. absurd (omega arith)) ∙ moved_here start x m place _ first)

pub kept_here : (start : Start) (x m k y : Scene) (place : ℕ) (cond : Cond) (space : SetId) → 8 ≤ place → place < length x.1 → IsAt start x → space ≡ m.0.space → Moved start x m place (holds cond) → Moved start m k 0 (set_of m.0.sets space.0)
    → Moved start k y place (and_of (set_at k.0.sets k.1 0) (set_at k.0.sets k.1 place)) → HasKept start x y place cond
kept_here start x m k y place cond space high within at is first second third = record {
  changed =
      changed_chain start x m y place (place + 1) (moved_changed start x m place _ first place (place + 1) (omega arith) (omega arith))
      (changed_chain start m k y place (place + 1) (worked_changed start m k place (place + 1) (moved_worked start m k 0 _ second (omega arith))) (moved_changed start k y place _ third place (place + 1) (omega arith) (omega arith)));
  kept = met_states start k y place 0 place third ∙ kept_together start x m k place cond space high within at is first second;
}

-- it stays while the guard is put
pub kept_still : (start : Start) (x m w : Scene) (place : ℕ) (cond : Cond) → 8 ≤ place → place < length x.1 → IsAt start x → HasKept start x m place cond → Moved start m w 5 everything → states_at w place ≡ kept_states (sys_of start) (states_of cond)
kept_still start x m w place cond high within at first put =
    let long : length w.1 ≡ length x.1 = same_length start x w at put.at in
    moved_other start m w 5 _ put place (omega arith) (λ e. absurd (omega arith)) ∙ first.kept

pub end_won : (start : Start) (x m w k y : Scene) (place : ℕ) (cond : Cond) → 8 ≤ place → place < length x.1 → IsAt start x → HasKept start x m place cond → Moved start m w 5 everything → HasLast Shrinking (guarded start anywhere) w k (states_at w place) → Moved start k y place (set_at k.0.sets k.1 0)
    → EndWon start x y place cond
end_won start x m w k y place cond high within at first put h last =
    let here : states_at w place ≡ kept_states (sys_of start) (states_of cond) = kept_still start x m w place cond high within at first put in
    record {
      changed =
          changed_chain start x m y place (place + 1) first.changed
          (changed_chain start m w y place (place + 1) (worked_changed start m w place (place + 1) (moved_worked start m w 5 _ put (omega arith)))
          (changed_chain start w k y place (place + 1) (worked_changed start w k place (place + 1) (worked_out start anywhere w k h.worked)) (moved_changed start k y place _ last place (place + 1) (omega arith) (omega arith))));
      win = λ v is.
          ap (λ (f : SetOfVectors). f v) (copied_states start k y place 0 last)
          ∙ h.near v is
          ∙ safe_set_anywhere (sys_of start) (states_at w place) v
          ∙ ap (λ (f : SetOfVectors). safe_set (sys_of start) f v) here
          ∙ safe_kept (sys_of start) (is_system start.task) (states_of cond) v;
    }

-- where a stage is met
pub stage_together : (start : Start) (x m : Scene) (place : ℕ) (cond : Cond) → place + 2 < length x.1 → IsReady start x → Moved start x m (place + 1) (holds cond) → (λ v. states_at m (place + 1) v && states_at m (place + 2) v) ≡ met_by x place cond
stage_together start x m place cond within ready first =
    let long : length m.1 ≡ length x.1 = same_length start x m ready.at first.at in
    ap {B = SetOfVectors} (λ (f : SetOfVectors) (v : Vector). f v && states_at m (place + 2) v) (moved_here start x m (place + 1) _ first)
    ∙ ap {B = SetOfVectors} (λ (f : SetOfVectors) (v : Vector). states_of cond v && f v) (moved_other start x m (place + 1) _ first (place + 2) (omega arith) (λ e. absurd (omega arith)))

pub stage_met : (start : Start) (x m y : Scene) (place : ℕ) (cond : Cond) → place + 2 < length x.1 → IsReady start x → Moved start x m (place + 1) (holds cond) → Moved start m y (place + 1) (and_of (set_at m.0.sets m.1 (place + 1)) (set_at m.0.sets m.1 (place + 2)))
    → StageMet start x y place cond
stage_met start x m y place cond within ready first second =
    let long : length m.1 ≡ length x.1 = same_length start x m ready.at first.at in
    record {
      changed =
          changed_chain start x m y place (place + 2) (moved_changed start x m (place + 1) _ first place (place + 2) (omega arith) (omega arith))
          (moved_changed start m y (place + 1) _ second place (place + 2) (omega arith) (omega arith));
      met = moved_here start m y (place + 1) _ second ∙ stage_together start x m place cond within ready first;
    }

pub stage_still : (start : Start) (x m w : Scene) (place : ℕ) (stage : UntilStage) → 8 ≤ place → place + 2 < length x.1 → IsReady start x → StageMet start x m place stage.target → Moved start m w 5 (holds stage.guard) → states_at w (place + 1) ≡ met_by x place stage.target
stage_still start x m w place stage high within ready h put =
    let far : length w.1 ≡ length x.1 = same_length start x w ready.at put.at in
    moved_other start m w 5 _ put (place + 1) (omega arith) (λ e. absurd (omega arith)) ∙ h.met

-- a condition names the fluents still
pub names_still : (start : Start) (x y : Scene) (cond : Cond) → IsAt start x → IsAt start y → IsConditionOver x.0.sets.vars cond → ids_below y.0.sets.vars cond ≡ true
names_still start x y cond first second over = subst (λ n. ids_below n cond ≡ true) (first.working.kept.vars ∙ sym second.working.kept.vars) over.names

pub stage_won : (start : Start) (x m w k y : Scene) (place : ℕ) (stage : UntilStage) → 8 ≤ place → place + 2 < length x.1 → IsReady start x → StageMet start x m place stage.target → Moved start m w 5 (holds stage.guard)
    → HasLast Growing (guarded start (states_of stage.guard)) w k (states_at w (place + 1)) → Moved start k y place (set_at k.0.sets k.1 0) → StageWon start x y place stage
stage_won start x m w k y place stage high within ready h put last won =
    let long : length k.1 ≡ length x.1 = same_length start x k ready.at last.worked.ready.at in
    let longer : length y.1 ≡ length k.1 = same_length start k y last.worked.ready.at won.at in
    let here : states_at w (place + 1) ≡ met_by x place stage.target = stage_still start x m w place stage high within ready h put in
    record {
      changed =
          changed_chain start x m y place (place + 2) h.changed
          (changed_chain start m w y place (place + 2) (worked_changed start m w place (place + 2) (moved_worked start m w 5 _ put (omega arith)))
          (changed_chain start w k y place (place + 2) (worked_changed start w k place (place + 2) (worked_out start (states_of stage.guard) w k last.worked)) (moved_changed start k y place _ won place (place + 2) (omega arith) (omega arith))));
      win = λ v is.
          ap (λ (f : SetOfVectors). f v) (copied_states start k y place 0 won)
          ∙ last.near v is
          ∙ set_as start (states_of stage.guard) (states_at w (place + 1)) (met_by x place stage.target) (same_all start (states_at w (place + 1)) (met_by x place stage.target) here) v is;
      met = λ v is.
          ap (λ (f : SetOfVectors). f v)
          (moved_other start k y place _ won (place + 1) (omega arith) (λ e. absurd (omega arith)) ∙ last.worked.kept (place + 1) (omega arith) (omega arith) ∙ here);
    }

pub drop_some : {X Y : Type 0} (f : X → Y) (xs : List X) (n : ℕ) (other : X) → n < length xs → drop n (map f xs) ≡ f (slice_index_or xs n other) ∷ drop (suc n) (map f xs)
drop_some f [] n other within = absurd (omega arith)
drop_some f (x ∷ xs) zero other within = refl
drop_some f (x ∷ xs) (suc n) other within = drop_some f xs n other (omega arith)

-- the last context
pub wins_end : (start : Start) (x y : Scene) (chain : UntilSets) (cond : Cond) → length chain.stages ≡ start.stages → chain.keep ≡ states_of cond → EndWon start x y (win_place start.stages) cond → HasWins start x y chain start.stages
wins_end start x y chain cond long keep h = record {
  changed = changed_wider start x y (win_place start.stages) (win_place start.stages + 1) 8 (9 + 2 * start.stages) (omega arith) (omega arith) h.changed;
  won = record {
    wins = λ j from to.
        let e : j ≡ start.stages = omega arith in
        subst (λ i. SameStates start (states_at y (win_place i)) (until_win (sys_of start) chain.keep (drop i chain.stages))) (sym e)
        (λ v is.
        h.win v is
        ∙ ap (λ (f : SetOfVectors). safe_set (sys_of start) f v) (sym keep)
        ∙ ap (λ (stages : List SetStage). until_win (sys_of start) chain.keep stages v) (sym (drop_all start.stages chain.stages (omega arith))));
    mets = λ j from less. absurd (omega arith);
  };
}

-- and the one before
module _ (start : Start) (x y z : Scene) (chain : UntilSets) (i : ℕ) (stage : UntilStage) (less : i < start.stages) (here : drop i chain.stages ≡ stage_sets stage ∷ drop (suc i) chain.stages) (h : HasWins start x y chain (suc i)) (more : StageWon start y z (win_place i) stage) where
  next_place : win_place i + 2 ≡ win_place (suc i)
  next_place = omega arith

  after_place : win_place i + 1 ≡ met_place i
  after_place = omega arith

  met_now : SameStates start (met_by y (win_place i) stage.target) (until_met (sys_of start) chain.keep (stage_sets stage) (drop (suc i) chain.stages))
  met_now v is =
      ap (λ k. states_of stage.target v && states_at y k v) next_place
      ∙ ap (λ b. states_of stage.target v && b) (h.won.wins (suc i) (omega arith) (omega arith) v is)

  within : (k : ℕ) → k < 10 + 2 * start.stages → k < length z.1
  within k low = long_enough start z more.changed.ready.at k low

  pub wins_more : HasWins start x z chain i
  wins_more = record {
    changed = changed_chain start x y z 8 (9 + 2 * start.stages) h.changed (changed_wider start y z (win_place i) (win_place i + 2) 8 (9 + 2 * start.stages) (omega arith) (omega arith) more.changed);
    won = record {
      wins = λ j from to.
          ⊎_elim
          (λ (same : j ≡ i).
          subst (λ k. SameStates start (states_at z (win_place k)) (until_win (sys_of start) chain.keep (drop k chain.stages))) (sym same)
          (λ v is.
          more.win v is
          ∙ guarded_set_same start (states_of stage.guard) (met_by y (win_place i) stage.target) (until_met (sys_of start) chain.keep (stage_sets stage) (drop (suc i) chain.stages)) met_now v is
          ∙ ap (λ (stages : List SetStage). until_win (sys_of start) chain.keep stages v) (sym here)))
          (λ (differs : j ≢ i).
          λ v is.
          ap (λ (f : SetOfVectors). f v) (more.changed.kept (win_place j) (omega arith) (within (win_place j) (omega arith)) (inr (omega (arith, differs))))
          ∙ h.won.wins j (omega (arith, differs)) to v is)
          (cases_eq j i);
      mets = λ j from below.
          ⊎_elim
          (λ (same : j ≡ i).
          subst (λ k. SameStates start (states_at z (met_place k)) (met_first (sys_of start) chain.keep (drop k chain.stages))) (sym same)
          (λ v is.
          ap (λ k. states_at z k v) (sym after_place)
          ∙ more.met v is
          ∙ met_now v is
          ∙ ap (λ (stages : List SetStage). met_first (sys_of start) chain.keep stages v) (sym here)))
          (λ (differs : j ≢ i).
          λ v is.
          ap (λ (f : SetOfVectors). f v) (more.changed.kept (met_place j) (omega arith) (within (met_place j) (omega arith)) (inr (omega (arith, differs))))
          ∙ h.won.mets j (omega (arith, differs)) below v is)
          (cases_eq j i);
    };
  }

-- as the code has it: by the numbers that it computed
pub wins_end_at : (start : Start) (x y : Scene) (chain : UntilSets) (cond : Cond) (n place : ℕ) → length chain.stages ≡ start.stages → n ≡ start.stages → place ≡ win_place n → chain.keep ≡ states_of cond → EndWon start x y place cond → HasWins start x y chain n
wins_end_at start x y chain cond n place long is_n is_place keep h =
    subst (HasWins start x y chain) (sym is_n) (wins_end start x y chain cond long keep (subst (λ k. EndWon start x y (win_place k) cond) is_n (subst (λ k. EndWon start x y k cond) is_place h)))

pub wins_more_at : (start : Start) (x y z : Scene) (chain : UntilSets) (i place : ℕ) (stage : UntilStage) → 0 < i → i ≤ start.stages → place ≡ win_place (i - 1) → drop (i - 1) chain.stages ≡ stage_sets stage ∷ drop (suc (i - 1)) chain.stages → HasWins start x y chain i → StageWon start y z place stage
    → HasWins start x z chain (i - 1)
wins_more_at start x y z chain i place stage some few is_place here h more =
    wins_more start x y z chain (i - 1) stage (omega arith) here (subst (HasWins start x y chain) (let e : i ≡ suc (i - 1) = omega arith in e) h) (subst (λ k. StageWon start y z k stage) is_place more)
