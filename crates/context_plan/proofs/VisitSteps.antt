-- The rounds of a search for a patrol goal: from the states that are left to those that a round leaves of
-- them, and the last round.
use Rattle.std.proofs.Common.{inr, ◌≡◌, ◌≢◌, ℕ, zero, suc, ◌+◌, ◌<◌, ◌≤◌, Bool, true, false, ◌&&◌, List, [], ◌∷◌, get_or, length, take, refl, sym, ap, subst, ◌∙◌, ⊎_elim, arith}
use Rattle.std.specs.List.{list_all}
use Rattle.std.proofs.Math.Bool.{and_self_left}
use Rattle.std.proofs.lemmas.Bool.{and_parts, cases_Bool, cases_eq, true≢false}
use Rattle.std.proofs.lemmas.List.{get_or-map, length-map, take_all}
use Rattle.dd_nodes.specs.Subfunctions.{Function}
use Rattle.dd_ops.specs.Operations.{and_of}
use Rattle.dd_sets.specs.LiveSets.{set_of}
use Rattle.dd_sets.specs.declared.slots.SetId.{SetId}
use Rattle.encode_task.specs.Slots.{Encoded}
use Rattle.encode_task.proofs.StateVectors.{same_functions}
use Rattle.slot_board.proofs.BoardSlots.{made_at}
use Rattle.slot_board.specs.Board as board
use Rattle.slot_board.specs.Board.{Scene, set_at}
use Rattle.plan_theory.proofs.FewerStates.{fewer}
use Rattle.plan_theory.proofs.PatrolSets.{last_round, patrol_set-largest, within_rounds}
use Rattle.list_laws.proofs.Booleans.{and_assoc, and_one}
use Rattle.list_laws.proofs.Elements.{list_all-at, list_all-from}
use Rattle.plan_theory.proofs.RoundSteps.{held}
use Rattle.plan_theory.specs.GuardedSets.{anywhere}
use Rattle.plan_theory.specs.Patrols.{covers_patrol, patrol_set, visit_set, visited}
use Rattle.plan_theory.specs.Safe.{some_must_lead}
use Rattle.plan_theory.specs.StageSets.{near}
use Rattle.task_core.specs.Conditions.{holds}
use Rattle.task_core.specs.Cubes.{SetOfVectors}
use Rattle.task_core.specs.Systems.{IsVector, System}
use Rattle.task_core.specs.Tasks.{action_count, fluent_count}
use Rattle.task_core.specs.Vectors.{Vector, all_vectors, value_of}
use Rattle.task_core.specs.declared.conditions.Cond.{Cond}
use Rattle.task_core.proofs.TaskSystem.{is_system}
use Rattle.ctl_syntax.specs.Conditions.{states_of}
use Rattle.context_plan.specs.Chains.{visit_sets}
use Rattle.context_plan.specs.PatrolSizes.{PatrolFits, made_in, round_of, within_round}
use Rattle.context_plan.specs.PatrolSteps.{HasMet, HasPatrol, HasStay, HasVisits, IsLeft, visit_place}
use Rattle.context_plan.specs.PatrolWorkingSets.{first_visits_in, visit_at}
use Rattle.context_plan.specs.Scenes.{HasNothing, IsAt, IsGuarded, Moved, SameStates, Start, board_of, guarded, states_at, sys_in, sys_of, takers_place}
use Rattle.context_plan.specs.Sizes.{RoundFits, TurnsFit}
use Rattle.context_plan.specs.Steps.{HasLast, TurnedFrom}
use Rattle.context_plan.specs.declared.rounds.Way.TheVariants.{Growing, Shrinking}
use Rattle.context_plan.proofs.Guards.{some_inside}
use Rattle.context_plan.proofs.GuardSteps.{set_as}
use Rattle.context_plan.proofs.PlanSteps.{blank}
use Rattle.context_plan.proofs.RoundSteps.{turn_same}
use Rattle.context_plan.proofs.SceneSteps.{copied_states, depends_at, guard_put_as, long_enough, met_states, moved_here, moved_in, moved_other, moved_ready, same_back, same_length, some_leads_same, unguarded}
use Rattle.context_plan.proofs.SizeSteps.{placed_small, fits_small, round_fits_same, turns_fit_first}
use Rattle.context_plan.proofs.StageLemmas.{near_same}
use Rattle.context_plan.proofs.TakenSteps.{takers_within}
use Rattle.context_plan.proofs.WinSteps.{space_holds}

-- the first of some lists
pub all_more : {X : Type 0} (f : X → Bool) (xs : List X) (i : ℕ) (other : X) → i < length xs → (list_all f (take i xs) && f (get_or xs i other)) ≡ list_all f (take (suc i) xs)
all_more f [] i other less = absurd (omega arith)
all_more f (x ∷ xs) zero other less = and_one (f x)
all_more f (x ∷ xs) (suc i) other less =
    and_assoc (f x) (list_all f (take i xs)) (f (get_or xs i other)) ∙ ap (λ b. f x && b) (all_more f xs i other (omega arith))

pub and_last : (a b c : Bool) → ((a && b) && c) ≡ (a && (c && b))
and_last true true c = go c
  where
    go : (c : Bool) → c ≡ (c && true)
    go true = refl
    go false = refl
and_last true false c = go c
  where
    go : (c : Bool) → false ≡ (c && false)
    go true = refl
    go false = refl
and_last false b c = refl

-- from which states one can stay in a set, by its states
pub some_same : (start : Start) (f g : SetOfVectors) → SameStates start f g → SameStates start (some_must_lead (sys_of start) f) (some_must_lead (sys_of start) g)
some_same start f g same v is =
    sym (some_inside (sys_of start) anywhere f v) ∙ some_leads_same (guarded start anywhere) f g same v is ∙ some_inside (sys_of start) anywhere g v

pub visited_same : (start : Start) (f g visit : SetOfVectors) → SameStates start f g → SameStates start (visited (sys_of start) f visit) (visited (sys_of start) g visit)
visited_same start f g visit same v is =
    ap (λ b. b && (visit v && some_must_lead (sys_of start) f v)) (same v is)
    ∙ ap (λ b. g v && (visit v && b)) (some_same start f g same v is)

-- the places before those of actions
pub visit_low : (start : Start) (x : Scene) → IsAt start x → 1 ≤ start.stages → (k : ℕ) → k < 11 + start.stages → k < length x.1
visit_low start x at some k less = long_enough start x at k (omega arith)

-- what is left, by the states
pub left_fits : (start : Start) (conds : List Cond) (r : ℕ) (set : SetOfVectors) → PatrolFits start conds → SameStates start set (round_of start conds r) → RoundFits (within_round start conds r) set
left_fits start conds r set fits same = round_fits_same (within_round start conds r) (round_of start conds r) set (same_back start set (round_of start conds r) same) (fits.left r)

-- the guard was put
module _ (start : Start) (conds : List Cond) (x m : Scene) (r : ℕ) (h : IsLeft start conds x r) (first : Moved start x m 5 (set_at x.0.sets x.1 8)) where
  pub stay_guarded : IsGuarded (within_round start conds r) m
  stay_guarded = guard_put_as start x m (set_at x.0.sets x.1 8) (round_of start conds r) first h.left

  stay_long : length m.1 ≡ length x.1
  stay_long = same_length start x m h.ready.at first.at

  stay_still : (k : ℕ) → 8 ≤ k → k < length x.1 → states_at m k ≡ states_at x k
  stay_still k high within = let e = stay_long in moved_other start x m 5 _ first k (omega arith) (λ e. absurd (omega arith))

  stay_left : SameStates start (states_at m 8) (round_of start conds r)
  stay_left v is = ap (λ (f : SetOfVectors). f v) (stay_still 8 (omega arith) (visit_low start x h.ready.at h.some 8 (omega arith))) ∙ h.left v is

  pub stay_fits : RoundFits (within_round start conds r) (states_at m 8)
  stay_fits = left_fits start conds r (states_at m 8) h.fits stay_left

  pub stay_made : (t y : Scene) → TurnedFrom Shrinking (within_round start conds r) m t 8 → Moved start t y 9 (set_at t.0.sets t.1 1) → HasStay start conds y r
  stay_made t y turned second =
      let sys = sys_of start in
      let inside = within_round start conds r in
      let set = round_of start conds r in
      let long : length t.1 ≡ length m.1 = same_length start m t first.at turned.worked.ready.at in
      let longer : length y.1 ≡ length t.1 = same_length start t y turned.worked.ready.at second.at in
      let also = stay_long in
      let still : (k : ℕ) → 8 ≤ k → k < length x.1 → k ≢ 9 → states_at y k ≡ states_at x k =
      λ k high within differs. moved_other start t y 9 _ second k (omega arith) differs ∙ turned.worked.kept k high (omega arith) ∙ stay_still k high within in
      record {
        fits = h.fits;
        count = h.count;
        some = h.some;
        ready = moved_in inside t y 9 _ turned.worked.ready (λ e. absurd (omega arith)) second;
        blank = λ k high within v is. ap (λ (f : SetOfVectors). f v) (still k (omega arith) (omega arith) (λ e. absurd (let s = h.some in omega arith))) ∙ h.blank k high (omega arith) v is;
        left = λ v is. ap (λ (f : SetOfVectors). f v) (still 8 (omega arith) (visit_low start x h.ready.at h.some 8 (omega arith)) (λ e. absurd (omega arith))) ∙ h.left v is;
        stay = λ v is.
            ap (λ (f : SetOfVectors). f v) (copied_states start t y 9 1 second)
            ∙ turned.next v is
            ∙ turn_same Shrinking inside (states_at m 8) set stay_left v is
            ∙ ap (λ b. set v && b) (some_inside sys set set v)
            ∙ and_self_left (set v) (some_must_lead sys set v);
      }

-- the visit of a condition
visit_is : (conds : List Cond) (cond : Cond) (i : ℕ) → i < length conds → cond ≡ get_or conds i cond → visit_at (visit_sets conds) i ≡ states_of cond
visit_is conds cond i less is = get_or-map states_of conds i cond (λ v. false) less ∙ ap states_of (sym is)

-- where a visit is made
module _ (start : Start) (conds : List Cond) (x m : Scene) (r i : ℕ) (cond : Cond) (less : i < length conds) (is_visit : cond ≡ get_or conds i cond) (h : HasVisits start conds x r i) (first : Moved start x m (visit_place i) (holds cond)) where
  visit_within : visit_place i < length x.1
  visit_within = visit_low start x h.stay.ready.at h.stay.some (visit_place i) (let e = h.stay.count in omega arith)

  visit_long : length m.1 ≡ length x.1
  visit_long = same_length start x m h.stay.ready.at first.at

  pub made_here : SameStates start (λ v. states_at m 9 v && states_at m (visit_place i) v) (made_in start conds r i)
  made_here v is =
      let set = round_of start conds r in
      let e = visit_long in
      let nine : 9 < length m.1 = visit_low start m first.at h.stay.some 9 (omega arith) in
      ap (λ (f : SetOfVectors). f v && states_at m (visit_place i) v) (moved_other start x m (visit_place i) _ first 9 nine (λ e. absurd (omega arith)))
      ∙ ap (λ b. b && states_at m (visit_place i) v) (h.stay.stay v is)
      ∙ ap (λ (f : SetOfVectors). (set v && some_must_lead (sys_of start) set v) && f v) (moved_here start x m (visit_place i) _ first ∙ sym (visit_is conds cond i less is_visit))
      ∙ and_last (set v) (some_must_lead (sys_of start) set v) (visit_at (visit_sets conds) i v)

  pub made_fits : board.Fits (board_of start) (visit_place i) (and_of (set_at m.0.sets m.1 9) (set_at m.0.sets m.1 (visit_place i)))
  made_fits =
      fits_small start (visit_place i) (and_of (set_at m.0.sets m.1 9) (set_at m.0.sets m.1 (visit_place i))) (made_in start conds r i)
      (turns_fit_first Growing (within_round start conds r) (made_in start conds r i) (h.stay.fits.near r i less)).itself
      (λ v is. sym (made_here v is))

  pub met_made : (y : Scene) → Moved start m y (visit_place i) (and_of (set_at m.0.sets m.1 9) (set_at m.0.sets m.1 (visit_place i))) → HasMet start conds y r i
  met_made y second =
      let inside = within_round start conds r in
      let e = visit_long in
      let some = h.stay.some in
      let count = h.stay.count in
      let longer : length y.1 ≡ length m.1 = same_length start m y first.at second.at in
      let still : (k : ℕ) → k < length x.1 → k ≢ visit_place i → states_at y k ≡ states_at x k =
      λ k within differs. moved_other start m y (visit_place i) _ second k (omega arith) differs ∙ moved_other start x m (visit_place i) _ first k (omega arith) differs in
      let low : (k : ℕ) → k < visit_place i → states_at y k ≡ states_at x k =
      λ k before. still k (visit_low start x h.stay.ready.at h.stay.some k (omega arith)) (λ e. absurd (omega arith)) in
      record {
        visits = record {
          stay = record {
            fits = h.stay.fits;
            count = h.stay.count;
            some = h.stay.some;
            ready = moved_in inside m y (visit_place i) _ (moved_in inside x m (visit_place i) _ h.stay.ready (λ e. absurd (omega arith)) first) (λ e. absurd (omega arith)) second;
            blank = λ k high within v is. ap (λ (f : SetOfVectors). f v) (still k (omega arith) (λ e. absurd (omega arith))) ∙ h.stay.blank k high (omega arith) v is;
            left = λ v is. ap (λ (f : SetOfVectors). f v) (low 8 (omega arith)) ∙ h.stay.left v is;
            stay = λ v is. ap (λ (f : SetOfVectors). f v) (low 9 (omega arith)) ∙ h.stay.stay v is;
          };
          kept = λ v is. ap (λ (f : SetOfVectors). f v) (low 10 (omega arith)) ∙ h.kept v is;
          mets = λ j before v is. ap (λ (f : SetOfVectors). f v) (low (visit_place j) (omega arith)) ∙ h.mets j before v is;
        };
        met = λ v is. ap (λ (f : SetOfVectors). f v) (met_states start m y (visit_place i) 9 (visit_place i) second) ∙ made_here v is;
      }

-- the states from which the visit can be made
pub met_turns : (start : Start) (conds : List Cond) (m : Scene) (r i : ℕ) → i < length conds → HasMet start conds m r i → TurnsFit Growing (within_round start conds r) (states_at m (visit_place i))
met_turns start conds m r i less h k =
    let inside = within_round start conds r in
    round_fits_same inside (near (sys_in inside) (made_in start conds r i) k) (near (sys_in inside) (states_at m (visit_place i)) k)
    (near_same inside (made_in start conds r i) (states_at m (visit_place i)) (same_back start (states_at m (visit_place i)) (made_in start conds r i) h.met) k)
    (h.visits.stay.fits.near r i less k)

module _ (start : Start) (conds : List Cond) (m t : Scene) (r i : ℕ) (less : i < length conds) (h : HasMet start conds m r i) (last : HasLast Growing (within_round start conds r) m t (states_at m (visit_place i))) where
  keep_long : length t.1 ≡ length m.1
  keep_long = same_length start m t h.visits.stay.ready.at last.worked.ready.at

  keep_low : (k : ℕ) → 8 ≤ k → k < 11 + start.stages → states_at t k ≡ states_at m k
  keep_low k high before = last.worked.kept k high (visit_low start t last.worked.ready.at h.visits.stay.some k before)

  pub kept_here : SameStates start (λ v. states_at t 10 v && states_at t 0 v) (first_visits_in (sys_of start) (visit_sets conds) r (suc i))
  kept_here v is =
      let sys = sys_of start in
      let visits = visit_sets conds in
      let set = round_of start conds r in
      let each = λ (visit : SetOfVectors). visit_set sys set visit v in
      ap (λ (f : SetOfVectors). f v && states_at t 0 v) (keep_low 10 (omega arith) (omega arith))
      ∙ ap (λ b. b && states_at t 0 v) (h.visits.kept v is)
      ∙ ap (λ b. first_visits_in sys visits r i v && b) (last.near v is ∙ set_as start set (states_at m (visit_place i)) (made_in start conds r i) h.met v is)
      ∙ and_assoc (set v) (list_all each (take i visits)) (each (visit_at visits i))
      ∙ ap (λ b. set v && b) (all_more each visits i (λ v. false) (let e = length-map conds states_of in omega arith))

  pub kept_fits : board.Fits (board_of start) 10 (and_of (set_at t.0.sets t.1 10) (set_at t.0.sets t.1 0))
  kept_fits =
      fits_small start 10 (and_of (set_at t.0.sets t.1 10) (set_at t.0.sets t.1 0)) (first_visits_in (sys_of start) (visit_sets conds) r (suc i)) (h.visits.stay.fits.first r (suc i) (omega arith))
      (λ v is. sym (kept_here v is))

  pub visits_more : (y : Scene) → Moved start t y 10 (and_of (set_at t.0.sets t.1 10) (set_at t.0.sets t.1 0)) → HasVisits start conds y r (suc i)
  visits_more y second =
      let inside = within_round start conds r in
      let e = keep_long in
      let some = h.visits.stay.some in
      let count = h.visits.stay.count in
      let longer : length y.1 ≡ length t.1 = same_length start t y last.worked.ready.at second.at in
      let still : (k : ℕ) → 8 ≤ k → k < length m.1 → k ≢ 10 → states_at y k ≡ states_at m k =
      λ k high within differs. moved_other start t y 10 _ second k (omega arith) differs ∙ last.worked.kept k high (omega arith) in
      let low : (k : ℕ) → 8 ≤ k → k < 11 + start.stages → k ≢ 10 → states_at y k ≡ states_at m k =
      λ k high before differs. still k high (visit_low start m h.visits.stay.ready.at h.visits.stay.some k before) differs in
      record {
        stay = record {
          fits = h.visits.stay.fits;
          count = h.visits.stay.count;
          some = h.visits.stay.some;
          ready = moved_in inside t y 10 _ last.worked.ready (λ e. absurd (omega arith)) second;
          blank = λ k high within v is. ap (λ (f : SetOfVectors). f v) (still k (omega arith) (omega arith) (λ e. absurd (omega arith))) ∙ h.visits.stay.blank k high (omega arith) v is;
          left = λ v is. ap (λ (f : SetOfVectors). f v) (low 8 (omega arith) (omega arith) (λ e. absurd (omega arith))) ∙ h.visits.stay.left v is;
          stay = λ v is. ap (λ (f : SetOfVectors). f v) (low 9 (omega arith) (omega arith) (λ e. absurd (omega arith))) ∙ h.visits.stay.stay v is;
        };
        kept = λ v is. ap (λ (f : SetOfVectors). f v) (met_states start t y 10 10 0 second) ∙ kept_here v is;
        mets = λ j before.
            ⊎_elim
            (λ (same : j ≡ i).
            subst (λ k. SameStates start (states_at y (visit_place k)) (made_in start conds r k)) (sym same)
            (λ v is. ap (λ (f : SetOfVectors). f v) (low (visit_place i) (omega arith) (omega arith) (λ e. absurd (omega arith))) ∙ h.met v is))
            (λ (differs : j ≢ i).
            λ v is. ap (λ (f : SetOfVectors). f v) (low (visit_place j) (omega arith) (omega arith) (λ e. absurd (omega arith))) ∙ h.visits.mets j (omega (arith, differs)) v is)
            (cases_eq j i);
      }

-- no visit yet
pub visits_none : (start : Start) (conds : List Cond) (x y : Scene) (r : ℕ) → HasStay start conds x r → Moved start x y 10 (set_at x.0.sets x.1 8) → HasVisits start conds y r 0
visits_none start conds x y r h m =
    let inside = within_round start conds r in
    let some = h.some in
    let long : length y.1 ≡ length x.1 = same_length start x y h.ready.at m.at in
    let still : (k : ℕ) → k < length x.1 → k ≢ 10 → states_at y k ≡ states_at x k = λ k within differs. moved_other start x y 10 _ m k (omega arith) differs in
    let low : (k : ℕ) → k < 10 → states_at y k ≡ states_at x k = λ k before. still k (visit_low start x h.ready.at h.some k (omega arith)) (λ e. absurd (omega arith)) in
    record {
      stay = record {
        fits = h.fits;
        count = h.count;
        some = h.some;
        ready = moved_in inside x y 10 _ h.ready (λ e. absurd (omega arith)) m;
        blank = λ k high within v is. ap (λ (f : SetOfVectors). f v) (still k (omega arith) (λ e. absurd (omega arith))) ∙ h.blank k high (omega arith) v is;
        left = λ v is. ap (λ (f : SetOfVectors). f v) (low 8 (omega arith)) ∙ h.left v is;
        stay = λ v is. ap (λ (f : SetOfVectors). f v) (low 9 (omega arith)) ∙ h.stay v is;
      };
      kept = λ v is.
          ap (λ (f : SetOfVectors). f v) (copied_states start x y 10 8 m)
          ∙ h.left v is
          ∙ and_one (round_of start conds r v);
      mets = λ j before. absurd (omega arith);
    }

-- the first round begins with all states
pub left_first : (start : Start) (conds : List Cond) (x m : Scene) (space : SetId) → start.stages ≡ length conds → 1 ≤ length conds → HasNothing start x → PatrolFits start conds → space ≡ x.0.space → Moved start x m 8 (set_of x.0.sets space.0) → IsLeft start conds m 0
left_first start conds x m space count some h fits is first =
    let long : length m.1 ≡ length x.1 = same_length start x m h.at first.at in
    let holds_space = (space_holds start.task x.0 space (made_at (board_of start) x.0 x.1 h.at) is).holds in
    record {
      fits = fits;
      count = count;
      some = omega arith;
      ready = moved_ready start x m 8 _ first;
      blank = λ k high within v is. ap (λ (f : SetOfVectors). f v) (moved_other start x m 8 _ first k within (λ e. absurd (omega arith))) ∙ blank start x h k (omega arith) (omega arith) v is;
      left = λ v is. ap (λ (f : SetOfVectors). f v) (moved_here start x m 8 _ first) ∙ ap (λ (f : Function). f (value_of v)) holds_space;
    }

-- what a round leaves
round_more : (start : Start) (conds : List Cond) (r : ℕ) (v : Vector) → first_visits_in (sys_of start) (visit_sets conds) r (length conds) v ≡ round_of start conds (suc r) v
round_more start conds r v =
    let visits = visit_sets conds in
    ap (λ (some : List SetOfVectors). round_of start conds r v && list_all (λ visit. visit_set (sys_of start) (round_of start conds r) visit v) some)
    (take_all (length conds) visits (let e = length-map conds states_of in omega arith))

pub left_next : (start : Start) (conds : List Cond) (x m : Scene) (r : ℕ) → HasVisits start conds x r (length conds) → Moved start x m 8 (set_at x.0.sets x.1 10) → IsLeft start conds m (suc r)
left_next start conds x m r h first =
    let long : length m.1 ≡ length x.1 = same_length start x m h.stay.ready.at first.at in
    record {
      fits = h.stay.fits;
      count = h.stay.count;
      some = h.stay.some;
      ready = moved_ready start x m 8 _ first;
      blank = λ k high within v is. ap (λ (f : SetOfVectors). f v) (moved_other start x m 8 _ first k within (λ e. absurd (omega arith))) ∙ h.stay.blank k high (omega arith) v is;
      left = λ v is. ap (λ (f : SetOfVectors). f v) (copied_states start x m 8 10 first) ∙ h.kept v is ∙ round_more start conds r v;
    }

-- how many states are left
pub still_left : Scene → ℕ → ℕ
still_left x n = held (states_at x 8) (all_vectors n)

pub visits_fewer : (start : Start) (conds : List Cond) (y z : Scene) (r n : ℕ) → HasVisits start conds y r (length conds) → HasVisits start conds z (suc r) (length conds) → (set_at y.0.sets y.1 10 ≡ set_at y.0.sets y.1 8 → ⊥) → n ≡ fluent_count start.task → still_left z n < still_left y n
unfolding still_left
visits_fewer start conds y z r n h more differ is_n =
    let set = round_of start conds r in
    fewer n (states_at y 8) (states_at z 8)
    (λ v long in_z.
    let is : IsVector (sys_of start) v = long ∙ is_n in
    h.stay.left v is ∙ (and_parts (set v) _ (sym (more.stay.left v is) ∙ in_z)).0)
    (λ same.
    let ready = unguarded (within_round start conds r) y h.stay.ready in
    differ (same_functions (fluent_count start.task) (set_at y.0.sets y.1 10) (set_at y.0.sets y.1 8) (depends_at (within_round start conds r) y ready 10) (depends_at (within_round start conds r) y ready 8)
    (λ v is. h.kept v is ∙ round_more start conds r v ∙ sym (more.stay.left v is) ∙ same v (is ∙ sym is_n))))

-- the last round
pub round_stays : (start : Start) (conds : List Cond) (y : Scene) (r : ℕ) → HasVisits start conds y r (length conds) → set_at y.0.sets y.1 10 ≡ set_at y.0.sets y.1 8 → SameStates start (round_of start conds r) (patrol_set (sys_of start) (visit_sets conds))
round_stays start conds y r h same v is =
    let still : SameStates start (round_of start conds (suc r)) (round_of start conds r) =
    λ u at. sym (round_more start conds r u) ∙ sym (h.kept u at) ∙ ap (λ (f : Function). f (value_of u)) same ∙ h.stay.left u at in
    sym (last_round (sys_of start) (visit_sets conds) (is_system start.task) r still v is)

pub patrol_made : (start : Start) (conds : List Cond) (y : Scene) (r : ℕ) → HasVisits start conds y r (length conds) → set_at y.0.sets y.1 10 ≡ set_at y.0.sets y.1 8 → HasPatrol start conds y 0
patrol_made start conds y r h same =
    let sys = sys_of start in
    let visits = visit_sets conds in
    let count = h.stay.count in
    let last = round_stays start conds y r h same in
    record {
      fits = h.stay.fits;
      count = h.stay.count;
      some = h.stay.some;
      ready = record { at = h.stay.ready.at; sound = h.stay.ready.sound; guard = λ v is. h.stay.ready.guard v is ∙ last v is };
      left = λ v is. h.stay.left v is ∙ last v is;
      mets = λ i less v is. h.mets i (omega arith) v is ∙ visited_same start (round_of start conds r) (patrol_set sys visits) (visit_at visits i) last v is;
      taken = λ i a none. absurd (omega arith);
      untaken = λ i a from less below.
          let within = takers_within start y h.stay.ready.at i (omega arith) in
          h.stay.blank (takers_place (action_count start.task) start.stages i + a) (omega arith) (omega arith);
    }

-- the test of the initial states leaves all places
pub visits_stayed : (start : Start) (conds : List Cond) (enc now : Encoded) (slots : List SetId) (r : ℕ) → HasVisits start conds (enc, slots) r (length conds) → board.Stayed (board_of start) enc.sets now slots → HasVisits start conds (now, slots) r (length conds)
visits_stayed start conds enc now slots r h stayed =
    let states : Function → SetOfVectors = λ f v. f (value_of v) in
    let still : (k : ℕ) → k < length slots → states_at (now, slots) k ≡ states_at (enc, slots) k = λ k within. ap states (stayed.each k within) in
    let low : (k : ℕ) → k < 11 + start.stages → states_at (now, slots) k ≡ states_at (enc, slots) k = λ k before. still k (visit_low start (enc, slots) h.stay.ready.at h.stay.some k before) in
    record {
      stay = record {
        fits = h.stay.fits;
        count = h.stay.count;
        some = h.stay.some;
        ready = record { at = stayed.at; sound = stayed.sound; guard = λ v is. ap (λ (f : SetOfVectors). f v) (low 5 (omega arith)) ∙ h.stay.ready.guard v is };
        blank = λ k from within v is. ap (λ (f : SetOfVectors). f v) (still k within) ∙ h.stay.blank k from within v is;
        left = λ v is. ap (λ (f : SetOfVectors). f v) (low 8 (omega arith)) ∙ h.stay.left v is;
        stay = λ v is. ap (λ (f : SetOfVectors). f v) (low 9 (omega arith)) ∙ h.stay.stay v is;
      };
      kept = λ v is. ap (λ (f : SetOfVectors). f v) (low 10 (omega arith)) ∙ h.kept v is;
      mets = λ i less v is. let count = h.stay.count in ap (λ (f : SetOfVectors). f v) (low (visit_place i) (omega arith)) ∙ h.mets i less v is;
    }

-- and may be made
pub visits_test : (start : Start) (conds : List Cond) (x : Scene) (r : ℕ) → HasVisits start conds x r (length conds) → board.TestFits (board_of start) (set_at x.0.sets x.1 10)
visits_test start conds x r h = (h.stay.fits.initial, placed_small start x h.stay.ready.at 10 (visit_low start x h.stay.ready.at h.stay.some 10 (omega arith)) (inr (omega arith)))

-- where a round leaves out an initial state, the states of the plan do
pub round_loses : (start : Start) (conds : List Cond) (x : Scene) (r : ℕ) → HasVisits start conds x r (length conds) → list_all (states_at x 10) (sys_of start).initial ≡ false → covers_patrol (sys_of start) (visit_sets conds) ≡ false
round_loses start conds x r h short = ⊎_elim
    (λ (all : covers_patrol sys visits ≡ true). absurd (true≢false (sym (held all) ∙ short)))
    (λ (none : covers_patrol sys visits ≡ false). none)
    (cases_Bool (covers_patrol sys visits))
  where
    sys : System
    sys = sys_of start

    visits : List SetOfVectors
    visits = visit_sets conds

    held : covers_patrol sys visits ≡ true → list_all (states_at x 10) sys.initial ≡ true
    held all = list_all-from (states_at x 10) sys.initial
        (λ v among. let is : IsVector sys v = ((is_system start.task).initial v among).vector in
        h.kept v is ∙ round_more start conds r v
        ∙ within_rounds sys visits (is_system start.task) (patrol_set sys visits) (patrol_set-largest sys visits (is_system start.task)).patrol (suc r) v is
        (list_all-at (patrol_set sys visits) sys.initial v all among))
