-- What a verdict reads off its sets.
use Rattle.std.proofs.Common.{◌≡◌, ◌↔◌, IsTrue, ℕ, ◌+◌, ◌<◌, ◌≤◌, ◌^◌, Bool, true, false, List, [], ◌∷◌, length, Some, Result, Ok, Err, refl, sym, ap, subst, ◌∙◌, arith}
use Rattle.std.specs.Prelude.{All, IfOk, IsSome}
use Rattle.std.specs.List.{Contains, list_all}
use Rattle.std.proofs.lemmas.Bool.{false≢true, true≢false}
use Rattle.dd_nodes.specs.Subfunctions.{DependsOnly, Function}
use Rattle.dd_ops.specs.Operations.{minus_of}
use Rattle.dd_sets.specs.LiveSets.{LiveSets, everything}
use Rattle.dd_sets.specs.Rooms.{NoRoom}
use Rattle.dd_sets.specs.declared.errors.SetErr.{SetErr}
use Rattle.dd_sets.specs.declared.slots.SetId.{SetId}
use Rattle.dd_sets.proofs.RoomSteps.{room_wider}
use Rattle.dd_sets.proofs.SizeLemmas.{every_small}
use Rattle.encode_task.specs.Made.{MadeOf}
use Rattle.encode_task.specs.Slots.{Encoded}
use Rattle.slot_board.specs.Board.{At, Ends, HasNothing, IsSmall, Left, Moved, Start, Stayed, TestFits, set_at}
use Rattle.slot_board.specs.declared.board.Operation.{Operation}
use Rattle.slot_board.specs.declared.board.Outcomes.{Outcomes}
use Rattle.task_core.specs.Tasks.{action_count, fluent_count, initial_states, system_of}
use Rattle.task_core.specs.Vectors.{Vector, value_of}
use Rattle.task_core.specs.declared.classes.Class.{Class}
use Rattle.task_core.specs.declared.classes.Class.TheVariants.{Weak, Strong, Cyclic}
use Rattle.task_core.specs.declared.tasks.Task.{Task}
use Rattle.plan_rules.specs.Plans.{IsRuleOf}
use Rattle.plan_rules.specs.Rules.{PlanRule}
use Rattle.list_laws.proofs.Elements.{list_all-at, list_all-from}
use Rattle.list_laws.proofs.Numbers.{below_power_two}
use Rattle.board_steps.specs.Steps.{CanMakeAll, Shows, after_steps}
use Rattle.board_steps.specs.declared.steps.Step.{Step}
use Rattle.board_steps.specs.declared.steps.Step.TheVariants.{Combine, Copy, Whole}
use Rattle.first_match.specs.FirstMatch.{RulesAgree, SolvesAsRun}
use Rattle.judge_sets.specs.Fixpoints.{IsBegin, outcomes_of}
use Rattle.judge_sets.specs.Fixpoints.IsBegin.{agreeing, followed, good}
use Rattle.judge_sets.specs.Fixpoints.IsGrown.{begun}
use Rattle.judge_sets.specs.Fixpoints.IsShrunk.{whole}
use Rattle.judge_sets.specs.Places.{HasAllGrown, HasAllShrunk, HasGrown, HasPart, HasRead, HasShrunk, HasSteps, HoldsAsReached, Scene, has_initial}
use Rattle.judge_sets.specs.TableSets.{differ_set, end_set, followed_by}
use Rattle.judge_sets.specs.WorkingSets.{BoundsTableSets, IsWorkingSet}
use Rattle.judge_sets.specs.WorkingSets.IsRoundSet.{grows, shrinks}
use Rattle.judge_sets.specs.WorkingSets.IsTableSet.{agreeing as agreeing_set, followed as followed_set}
use Rattle.judge_sets.specs.WorkingSets.IsTaskSet.{initial}
use Rattle.judge_sets.specs.WorkingSets.IsWorkingSet.{by_table, by_task, round}
use Rattle.judge_sets.proofs.GrowSteps.{steps_kept}
use Rattle.judge_sets.proofs.SetTheory.{agree_of, agree_to, cyclic_holds, cyclic_solves, first_held, follow_to, shrunk_keeps, shrunk_part, shrunk_stays, strong_in, strong_solves, weak_covers, weak_solves}
use Rattle.judge_sets.proofs.SettleSteps.{steps_all}
use Rattle.judge_sets.proofs.StepFacts.{fits, only_fluents, place_in}

-- no rule is read
pub none_read : (scene : Scene) (enc now : Encoded) (old new : List SetId) → HasNothing scene.start enc old → Moved scene.start enc.sets old now new 2 everything → HasRead scene now new []
none_read scene enc now old new has moved =
    let long : length new ≡ scene.start.places = moved.at.long in
    let same : length old ≡ scene.start.places = has.at.long in
    let places : scene.start.places ≡ 7 + action_count scene.start.task = scene.places in
    record {
      there = record { at = moved.at; sound = moved.sound };
      matched = moved.others 0 (omega arith) (λ e. absurd (omega arith)) ∙ has.holds_nothing 0 (omega arith);
      differ = moved.others 1 (omega arith) (λ e. absurd (omega arith)) ∙ has.holds_nothing 1 (omega arith);
      taken = λ a low. moved.others (7 + a) (omega arith) (λ e. absurd (omega arith)) ∙ has.holds_nothing (7 + a) (omega arith);
    }

-- what grows begins where the rules are at their end
pub part_grown : (scene : Scene) (outcomes : Outcomes) (now : Encoded) (slots : List SetId) → HasPart scene now slots (action_count scene.start.task) → HasGrown scene outcomes now slots (end_set scene.start.task scene.rules)
part_grown scene outcomes now slots part = record { by_steps = steps_all scene now slots part; good = part.good; grown = begun }

-- nothing is moved
steps_stayed : (scene : Scene) (enc now : Encoded) (slots : List SetId) → HasSteps scene enc slots → Stayed scene.start enc.sets now slots → HasSteps scene now slots
steps_stayed scene enc now slots has stayed =
    let long : length slots ≡ scene.start.places = stayed.at.long in
    let places : scene.start.places ≡ 7 + action_count scene.start.task = scene.places in
    record {
      there = record { at = stayed.at; sound = stayed.sound };
      differ = stayed.each 1 (omega arith) ∙ has.differ;
      followed = stayed.each 5 (omega arith) ∙ has.followed;
      steps = λ a low. stayed.each (7 + a) (omega arith) ∙ has.steps a low;
    }

grown_stayed : (scene : Scene) (outcomes : Outcomes) (enc now : Encoded) (slots : List SetId) → HasAllGrown scene outcomes enc slots → Stayed scene.start enc.sets now slots → HasAllGrown scene outcomes now slots
grown_stayed scene outcomes enc now slots all stayed =
    let long : length slots ≡ scene.start.places = stayed.at.long in
    let places : scene.start.places ≡ 7 + action_count scene.start.task = scene.places in
    record {
      set = all.set;
      has = record { by_steps = steps_stayed scene enc now slots all.has.by_steps stayed; good = stayed.each 4 (omega arith) ∙ all.has.good; grown = all.has.grown };
      none = all.none;
    }

pub grown_test : (scene : Scene) (outcomes : Outcomes) (enc : Encoded) (slots : List SetId) (all : HasAllGrown scene outcomes enc slots) → TestFits scene.start (set_at enc.sets slots 4)
grown_test scene outcomes enc slots all = (
  scene.wide.each _ (by_task _ initial),
  subst (IsSmall scene.start) (sym all.has.good) (scene.wide.each _ (round outcomes _ (grows outcomes all.set all.has.grown))),
)

pub grown_told : (scene : Scene) (outcomes : Outcomes) (enc now : Encoded) (slots : List SetId) (all : HasAllGrown scene outcomes enc slots) (result : Result Bool SetErr)
    → Left scene.start now slots (Stayed scene.start enc.sets now slots) result
    → IfOk result (λ covered. covered ≡ list_all (λ state. set_at enc.sets slots 4 (value_of state)) (initial_states scene.start.task))
    → Ends scene.start now slots (λ told. (grown : HasAllGrown scene outcomes now slots) × (told ≡ has_initial scene grown.set)) result
unfolding grown_stayed
grown_told scene outcomes enc now slots all (Ok b) left answer =
    (grown_stayed scene outcomes enc now slots all left, answer ∙ ap (λ (f : Function). list_all (λ s. f (value_of s)) (initial_states scene.start.task)) all.has.good)
grown_told scene outcomes enc now slots all (Err e) left answer = left

-- a set begins to shrink
abbrev pub copy_steps : ℕ → List Step
copy_steps place = Copy 6 place ∷ []

begin_working : (scene : Scene) (from : Function) → IsBegin scene.start.task scene.rules from → IsWorkingSet scene.start.task scene.rules from
begin_working scene _ followed = by_table _ (followed_set (action_count scene.start.task))
begin_working scene _ agreeing = by_table _ agreeing_set
begin_working scene _ (good set grown) = round Outcomes.Some set (grows Outcomes.Some set grown)

module _ (scene : Scene) (from : Function) (place : ℕ) (enc : Encoded) (old : List SetId) (has : HasSteps scene enc old) (begin : IsBegin scene.start.task scene.rules from) (is : set_at enc.sets old place ≡ from) (low : place < 6) where
  pub copy_can : CanMakeAll scene.start (set_at enc.sets old) (copy_steps place)
  copy_can = ((place_in scene 6 (omega arith), place_in scene place (omega arith), fits scene 6 _ _ is (begin_working scene from begin)), tt)

  pub copy_made : (now : Encoded) (new : List SetId) → Shows scene.start now new (after_steps scene.start (set_at enc.sets old) (copy_steps place)) → HasShrunk scene now new from from
  copy_made now new shows = record {
    by_steps = steps_kept scene enc now old new (copy_steps place) has shows ((λ e. absurd (omega arith)), tt) ((λ e. absurd (omega arith)), tt) (λ a. ((λ e. absurd (omega arith)), tt));
    stays = shows.sets 6 (place_in scene 6 (omega arith)) ∙ is;
    begin = begin;
    shrunk = whole;
  }

pub shrunk_test : (scene : Scene) (enc : Encoded) (slots : List SetId) (from : Function) (all : HasAllShrunk scene enc slots from) → TestFits scene.start (set_at enc.sets slots 6)
shrunk_test scene enc slots from all = (
  scene.wide.each _ (by_task _ initial),
  subst (IsSmall scene.start) (sym all.has.stays) (scene.wide.each _ (round Outcomes.Every _ (shrinks from all.set all.has.begin all.has.shrunk))),
)

pub shrunk_told : (scene : Scene) (enc now : Encoded) (slots : List SetId) (from : Function) (all : HasAllShrunk scene enc slots from) (result : Result Bool SetErr)
    → Left scene.start now slots (Stayed scene.start enc.sets now slots) result
    → IfOk result (λ covered. covered ≡ list_all (λ state. set_at enc.sets slots 6 (value_of state)) (initial_states scene.start.task))
    → Ends scene.start now slots (λ stays. HasSteps scene now slots × (IsTrue stays ↔ HoldsAsReached scene from)) result
shrunk_told scene enc now slots from all (Ok b) left answer =
    let task = scene.start.task in
    let only = only_fluents scene enc slots all.has.by_steps.there 6 all.set all.has.stays in
    let told : b ≡ list_all (λ s. all.set (value_of s)) (initial_states task) = answer ∙ ap (λ (f : Function). list_all (λ s. f (value_of s)) (initial_states task)) all.has.stays in (
      steps_stayed scene enc now slots all.has.by_steps left,
      (
        λ h s reached.
            shrunk_part task scene.rules from all.set all.has.shrunk (value_of s)
            (shrunk_stays task scene.rules all.set only all.none (λ x first. list_all-at (λ s. all.set (value_of s)) (initial_states task) x (sym told ∙ h) first) s reached),
        λ holds. told ∙ list_all-from (λ s. all.set (value_of s)) (initial_states task) (first_held task scene.rules all.set only (shrunk_keeps task scene.rules from all.set all.has.shrunk holds)),
      ),
    )
shrunk_told scene enc now slots from all (Err e) left answer = left

-- the verdicts of the classes
module _ (scene : Scene) (enc : Encoded) (slots : List SetId) where
  only_of : (outcomes : Outcomes) (all : HasAllGrown scene outcomes enc slots) → DependsOnly 0 (fluent_count scene.start.task) all.set
  only_of outcomes all = only_fluents scene enc slots all.has.by_steps.there 4 all.set all.has.good

  covers_of : (set : Function) → has_initial scene set ≡ true → (s : Vector) → Contains (initial_states scene.start.task) s → set (value_of s) ≡ true
  covers_of set h s first = list_all-at (λ x. set (value_of x)) (initial_states scene.start.task) s h first

  covers_to : (set : Function) → ((s : Vector) → Contains (initial_states scene.start.task) s → set (value_of s) ≡ true) → has_initial scene set ≡ false → ⊥
  covers_to set covers h = true≢false (sym (list_all-from (λ x. set (value_of x)) (initial_states scene.start.task) covers) ∙ h)

  pub weak_told : (all : HasAllGrown scene Outcomes.Some enc slots) → has_initial scene all.set ≡ true → (b : Bool)
      → (IsTrue b ↔ HoldsAsReached scene (followed_by scene.start.task scene.rules (action_count scene.start.task))) → IsTrue b ↔ SolvesAsRun Weak (system_of scene.start.task) scene.rules
  weak_told all h b told = (
    λ yes_b. weak_solves scene.start.task scene.rules all.set (only_of Outcomes.Some all) scene.in_task all.has.grown (covers_of all.set h) (told.0 yes_b),
    λ run. told.1 (follow_to scene.start.task scene.rules run.followed),
  )

  pub strong_told : (all : HasAllGrown scene Outcomes.Every enc slots) → has_initial scene all.set ≡ true → IsTrue true ↔ SolvesAsRun Strong (system_of scene.start.task) scene.rules
  strong_told all h = (
    λ yes_b. strong_solves scene.start.task scene.rules all.set (only_of Outcomes.Every all) all.has.grown (covers_of all.set h),
    λ run. refl,
  )

  pub cyclic_told : (all : HasAllGrown scene Outcomes.Some enc slots) → (b : Bool) → (IsTrue b ↔ HoldsAsReached scene all.set) → IsTrue b ↔ SolvesAsRun Cyclic (system_of scene.start.task) scene.rules
  cyclic_told all b told = (
    λ yes_b. cyclic_solves scene.start.task scene.rules all.set (only_of Outcomes.Some all) all.has.grown (told.0 yes_b),
    λ run. told.1 (cyclic_holds scene.start.task scene.rules all.set (only_of Outcomes.Some all) all.has.grown all.none run),
  )

  pub not_told : (class : Class) (all : HasAllGrown scene (outcomes_of class) enc slots) → has_initial scene all.set ≡ false → IsTrue false ↔ SolvesAsRun class (system_of scene.start.task) scene.rules
  not_told Weak all h = (
    λ yes_b. absurd (false≢true yes_b),
    λ run. absurd (covers_to all.set (weak_covers scene.start.task scene.rules all.set (only_of Outcomes.Some all) all.has.grown all.none run) h),
  )
  not_told Strong all h = (
    λ yes_b. absurd (false≢true yes_b),
    λ run. absurd (covers_to all.set (strong_in scene.start.task scene.rules all.set (only_of Outcomes.Every all) all.has.grown all.none run) h),
  )
  not_told Cyclic all h = (
    λ yes_b. absurd (false≢true yes_b),
    λ run. absurd (covers_to all.set (first_held scene.start.task scene.rules all.set (only_of Outcomes.Some all) (cyclic_holds scene.start.task scene.rules all.set (only_of Outcomes.Some all) all.has.grown all.none run)) h),
  )

-- where rules differ is taken from all
abbrev pub agree_steps : List Step
agree_steps = Whole 3 ∷ Combine 3 Operation.Minus 3 1 ∷ []

module _ (scene : Scene) (enc : Encoded) (old : List SetId) (has : HasSteps scene enc old) where
  agree_is : minus_of everything (set_at enc.sets old 1) ≡ minus_of everything (differ_set scene.rules)
  agree_is = ap (minus_of everything) has.differ

  pub agree_can : CanMakeAll scene.start (set_at enc.sets old) agree_steps
  agree_can = (place_in scene 3 (omega arith), ((place_in scene 3 (omega arith), place_in scene 3 (omega arith), place_in scene 1 (omega arith), fits scene 3 _ _ agree_is (by_table _ agreeing_set)), tt))

  module _ (now : Encoded) (new : List SetId) (shows : Shows scene.start now new (after_steps scene.start (set_at enc.sets old) agree_steps)) where
    pub agree_steps_kept : HasSteps scene now new
    agree_steps_kept = steps_kept scene enc now old new agree_steps has shows ((λ e. absurd (omega arith)), ((λ e. absurd (omega arith)), tt)) ((λ e. absurd (omega arith)), ((λ e. absurd (omega arith)), tt)) (λ a. ((λ e. absurd (omega arith)), ((λ e. absurd (omega arith)), tt)))

    pub agree_made : set_at now.sets new 3 ≡ minus_of everything (differ_set scene.rules)
    agree_made = shows.sets 3 (place_in scene 3 (omega arith)) ∙ agree_is

pub agree_told : (scene : Scene) (b : Bool) → (IsTrue b ↔ HoldsAsReached scene (minus_of everything (differ_set scene.rules))) → IsTrue b ↔ RulesAgree (system_of scene.start.task) scene.rules
agree_told scene b told = (
  λ yes_b. agree_of scene.start.task scene.rules (told.0 yes_b),
  λ agree. told.1 (agree_to scene.start.task scene.rules agree),
)

-- where a verdict begins
abbrev pub start_of : (task : Task) (enc : Encoded) → MadeOf task enc → (width : ℕ) → fluent_count task + 2 ≤ width → ℕ → Start
start_of task enc made width wide places = record { task = task; enc = enc; made = made; places = places; spare = 0; width = width; wide = wide; rough = [] }

abbrev pub scene_of : (task : Task) (enc : Encoded) → MadeOf task enc → (width : ℕ) (rules : List PlanRule) → BoundsTableSets width task rules → (places : ℕ) → places ≡ 7 + action_count task
    → All (IsRuleOf (fluent_count task) (action_count task)) rules → IsSome task.goal → Scene
scene_of task enc made width rules wide places are in_task goal =
    record { start = start_of task enc made width wide.wide places; rules = rules; wide = wide; places = are; in_task = in_task; goal = goal }

-- for a large width each set is small
pub all_bounded : (task : Task) (rules : List PlanRule) → BoundsTableSets (2 ^ fluent_count task + 1) task rules
all_bounded task rules = record { wide = below_power_two (fluent_count task); each = λ set working. every_small (fluent_count task) set }

pub room_of : (task : Task) (before after : LiveSets) (width places : ℕ) → places ≡ 7 + action_count task → NoRoom width (places + 0 + 8) (0 + 4) before after → NoRoom width (action_count task + 15) 4 before after
room_of task before after width places are none = room_wider before (places + 0 + 8) (action_count task + 15) 4 4 (omega arith) (omega arith) none

-- what was told of the outcomes of a class
pub record Told (scene : Scene) (class : Class) (now : Encoded) (slots : List SetId) (b : Bool) : Type 0 where
  pub grown : HasAllGrown scene (outcomes_of class) now slots
  pub is : b ≡ has_initial scene grown.set

pub told_of : (scene : Scene) (class : Class) (outcomes : Outcomes) → outcomes ≡ outcomes_of class → (now : Encoded) (slots : List SetId) (b : Bool)
    → ((grown : HasAllGrown scene outcomes now slots) × (b ≡ has_initial scene grown.set)) → Told scene class now slots b
told_of scene class outcomes same now slots b found =
    let at : (grown : HasAllGrown scene (outcomes_of class) now slots) × (b ≡ has_initial scene grown.set) =
    subst (λ (o : Outcomes). (grown : HasAllGrown scene o now slots) × (b ≡ has_initial scene grown.set)) same found in
    record { grown = at.0; is = at.1 }

-- the verdicts, class by class
module _ (scene : Scene) (class : Class) (enc : Encoded) (slots : List SetId) where
  pub weak_kept : class ≡ Weak → (grown : HasAllGrown scene (outcomes_of class) enc slots) → has_initial scene grown.set ≡ true → (b : Bool)
      → (IsTrue b ↔ HoldsAsReached scene (followed_by scene.start.task scene.rules (action_count scene.start.task))) → IsTrue b ↔ SolvesAsRun class (system_of scene.start.task) scene.rules
  weak_kept is =
      subst (λ (k : Class). (grown : HasAllGrown scene (outcomes_of k) enc slots) → has_initial scene grown.set ≡ true → (b : Bool)
      → (IsTrue b ↔ HoldsAsReached scene (followed_by scene.start.task scene.rules (action_count scene.start.task))) → IsTrue b ↔ SolvesAsRun k (system_of scene.start.task) scene.rules) (sym is)
      (weak_told scene enc slots)

  pub strong_kept : class ≡ Strong → (grown : HasAllGrown scene (outcomes_of class) enc slots) → has_initial scene grown.set ≡ true → IsTrue true ↔ SolvesAsRun class (system_of scene.start.task) scene.rules
  strong_kept is =
      subst (λ (k : Class). (grown : HasAllGrown scene (outcomes_of k) enc slots) → has_initial scene grown.set ≡ true → IsTrue true ↔ SolvesAsRun k (system_of scene.start.task) scene.rules) (sym is)
      (strong_told scene enc slots)

  pub cyclic_kept : class ≡ Cyclic → (grown : HasAllGrown scene (outcomes_of class) enc slots) → (b : Bool) → (IsTrue b ↔ HoldsAsReached scene grown.set) → IsTrue b ↔ SolvesAsRun class (system_of scene.start.task) scene.rules
  cyclic_kept is =
      subst (λ (k : Class). (grown : HasAllGrown scene (outcomes_of k) enc slots) → (b : Bool) → (IsTrue b ↔ HoldsAsReached scene grown.set) → IsTrue b ↔ SolvesAsRun k (system_of scene.start.task) scene.rules) (sym is)
      (cyclic_told scene enc slots)

  pub cyclic_begin : class ≡ Cyclic → (grown : HasAllGrown scene (outcomes_of class) enc slots) → IsBegin scene.start.task scene.rules grown.set
  cyclic_begin is =
      subst (λ (k : Class). (grown : HasAllGrown scene (outcomes_of k) enc slots) → IsBegin scene.start.task scene.rules grown.set) (sym is)
      (λ (grown : HasAllGrown scene Outcomes.Some enc slots). good grown.set grown.has.grown)

pub same_goal : (start : Start) (enc now : Encoded) (old new : List SetId) → At start enc old → At start now new → now.goal ≡ enc.goal
same_goal start enc now old new one two = ap (λ (e : Encoded). e.goal) two.same ∙ sym (ap (λ (e : Encoded). e.goal) one.same)
