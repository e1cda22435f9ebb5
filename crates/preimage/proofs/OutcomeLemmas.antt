-- One outcome more, and the outcomes of the system.
use Rattle.std.proofs.Common.{◌≡◌, ℕ, zero, suc, ◌+◌, ◌-◌, ◌<◌, ◌≤◌, Bool, true, false, cond, not, ◌&&◌, ◌||◌, List, [], ◌∷◌, map, length, get_or, take, Option, Some, slice_get, refl, sym, ap, ◌∙◌, arith}
use Rattle.std.specs.List.{filter, list_all, list_any}
use Rattle.std.specs.Option.{option_map_or}
use Rattle.std.proofs.lemmas.List.{take_all}
use Rattle.std.proofs.lemmas.List.Folds.{list_all_more, list_any_more}
use Rattle.std.proofs.lemmas.Option.{get_or_from_slice_get}
use Rattle.list_laws.proofs.Booleans.{and_one}
use Rattle.dd_nodes.specs.NodeList.{Values}
use Rattle.dd_nodes.specs.Subfunctions.{DependsOnly, Function}
use Rattle.dd_ops.specs.Operations.{minus_of}
use Rattle.dd_sets.specs.LiveSets.{nothing}
use Rattle.task_core.specs.Actions.{after, after_value}
use Rattle.task_core.specs.Conditions.{holds}
use Rattle.task_core.specs.Tasks.{fluent_count, in_space, is_allowed, is_executable, next_states, outcomes_at}
use Rattle.task_core.specs.Vectors.{Vector, value_of}
use Rattle.task_core.specs.declared.actions.Outcome.{Outcome}
use Rattle.task_core.specs.declared.tasks.Task.{Task}
use Rattle.encode_task.specs.TaskSets.{exec_set, lands_set, led_into, space_set}
use Rattle.encode_task.proofs.ShownLemmas.{value_computed}
use Rattle.encode_task.proofs.SpaceLemmas.{space_depends}
use Rattle.encode_task.proofs.TableLemmas.{found_at}
use Rattle.preimage.specs.Preimages.{strong_preimage, weak_preimage}
use Rattle.preimage.specs.Sides.{all_outcomes_on, on_side}
use Rattle.preimage.specs.declared.slots.Side.{Side}
use Rattle.preimage.specs.declared.slots.Side.TheVariants.{Inside, Outside}

-- whether an outcome leads to a state, to one in a set, and to none outside it
abbrev lands : Task → Values → Outcome → Bool
lands task values o = space_set task (after_value o values)

abbrev pub leads : Task → Function → Values → Outcome → Bool
leads task set values o = space_set task (after_value o values) && set (after_value o values)

abbrev pub stays : Task → Function → Values → Outcome → Bool
stays task set values o = not (space_set task (after_value o values)) || set (after_value o values)

-- what is left of where the action can be executed without what the first outcomes lead to states in
-- the set, and without what they lead to states outside it
abbrev pub left_after : Task → ℕ → Function → ℕ → Function
left_after task a set i values = exec_set task a values && not (list_any (leads task set values) (take i (outcomes_at task a)))

abbrev all_after : Task → ℕ → Function → ℕ → Function
all_after task a set i values = exec_set task a values && list_all (stays task set values) (take i (outcomes_at task a))

led_at : (task : Task) (a i : ℕ) (set : Function) (values : Values) (o : Outcome) → slice_get (outcomes_at task a) i ≡ Some o → led_into task a i set values ≡ set (after_value o values)
led_at task a i set values o is = ap (λ (found : Option Outcome). set (λ f. option_map_or (λ (o : Outcome). after_value o values f) found (values f))) is

lands_at : (task : Task) (a i : ℕ) (values : Values) (o : Outcome) → slice_get (outcomes_at task a) i ≡ Some o → lands_set task a i values ≡ space_set task (after_value o values)
lands_at task a i values o is = led_at task a i (space_set task) values o is

less : (e l s t : Bool) → ((e && not l) && not (s && t)) ≡ (e && not (l || (t && s)))
less true true s t = refl
less true false true true = refl
less true false true false = refl
less true false false true = refl
less true false false false = refl
less false l s t = refl

more : (e l s t : Bool) → ((e && l) && not (t && not s)) ≡ (e && (l && (not t || s)))
more true true true true = refl
more true true false true = refl
more true true true false = refl
more true true false false = refl
more true false s t = refl
more false l s t = refl

left_more : (task : Task) (a i : ℕ) (set : Function) → i < length (outcomes_at task a) → on_side Outside (lands_set task a i) (left_after task a set i) (led_into task a i set) ≡ left_after task a set (i + 1)
left_more task a i set within = λ j values. (step values) j
  where
    step : (values : Values) → (left_after task a set i values && not (led_into task a i set values && lands_set task a i values)) ≡ left_after task a set (i + 1) values
    step values =
        let o = found_at (outcomes_at task a) i within in
        let same : get_or (outcomes_at task a) i o.0 ≡ o.0 = get_or_from_slice_get (outcomes_at task a) i o.0 o.0 o.1 in
        (λ j. left_after task a set i values && not (led_at task a i set values o.0 o.1 j && lands_at task a i values o.0 o.1 j))
        ∙ less (exec_set task a values) (list_any (leads task set values) (take i (outcomes_at task a))) (set (after_value o.0 values)) (lands task values o.0)
        ∙ ap (λ x. exec_set task a values && not (list_any (leads task set values) (take i (outcomes_at task a)) || leads task set values x)) (sym same)
        ∙ ap (λ b. exec_set task a values && not b) (sym (list_any_more (leads task set values) (outcomes_at task a) i o.0 within))

all_more : (task : Task) (a i : ℕ) (set : Function) → i < length (outcomes_at task a) → on_side Inside (lands_set task a i) (all_after task a set i) (led_into task a i set) ≡ all_after task a set (i + 1)
all_more task a i set within = λ j values. (step values) j
  where
    step : (values : Values) → (all_after task a set i values && not (lands_set task a i values && not (led_into task a i set values))) ≡ all_after task a set (i + 1) values
    step values =
        let o = found_at (outcomes_at task a) i within in
        let same : get_or (outcomes_at task a) i o.0 ≡ o.0 = get_or_from_slice_get (outcomes_at task a) i o.0 o.0 o.1 in
        (λ j. all_after task a set i values && not (lands_at task a i values o.0 o.1 j && not (led_at task a i set values o.0 o.1 j)))
        ∙ more (exec_set task a values) (list_all (stays task set values) (take i (outcomes_at task a))) (set (after_value o.0 values)) (lands task values o.0)
        ∙ ap (λ x. exec_set task a values && (list_all (stays task set values) (take i (outcomes_at task a)) && stays task set values x)) (sym same)
        ∙ ap (λ b. exec_set task a values && b) (sym (list_all_more (stays task set values) (outcomes_at task a) i o.0 within))

-- at first
exec_left : (task : Task) (a : ℕ) (set : Function) → exec_set task a ≡ left_after task a set 0
exec_left task a set = λ j values. and_one (exec_set task a values) j

exec_all : (task : Task) (a : ℕ) (set : Function) → exec_set task a ≡ all_after task a set 0
exec_all task a set = λ j values. and_one (exec_set task a values) j

-- at the end
hit : (e l : Bool) → (e && not (e && not l)) ≡ (e && l)
hit true true = refl
hit true false = refl
hit false l = refl

left_whole : (task : Task) (a i : ℕ) (set : Function) → length (outcomes_at task a) ≤ i → left_after task a set i ≡ all_outcomes_on Outside task a set
left_whole task a i set done = λ j values. ap (λ l. exec_set task a values && not (list_any (leads task set values) l)) (take_all i (outcomes_at task a) done) j

strong_whole : (task : Task) (a i : ℕ) (set : Function) → length (outcomes_at task a) ≤ i → all_after task a set i ≡ strong_preimage task a set
strong_whole task a i set done = λ j values. ap (λ l. exec_set task a values && list_all (stays task set values) l) (take_all i (outcomes_at task a) done) j

pub weak_whole : (task : Task) (a : ℕ) (set : Function) → minus_of (exec_set task a) (all_outcomes_on Outside task a set) ≡ weak_preimage task a set
weak_whole task a set = λ j values. hit (exec_set task a values) (list_any (leads task set values) (outcomes_at task a)) j

-- the same, of either side
abbrev pub side_after : Side → Task → ℕ → Function → ℕ → Function
side_after Inside = all_after
side_after Outside = left_after

pub side_more : (side : Side) (task : Task) (a i : ℕ) (set : Function) → i < length (outcomes_at task a) → on_side side (lands_set task a i) (side_after side task a set i) (led_into task a i set) ≡ side_after side task a set (i + 1)
side_more Inside = all_more
side_more Outside = left_more

pub exec_side : (side : Side) (task : Task) (a : ℕ) (set : Function) → exec_set task a ≡ side_after side task a set 0
exec_side Inside = exec_all
exec_side Outside = exec_left

pub side_whole : (side : Side) (task : Task) (a i : ℕ) (set : Function) → length (outcomes_at task a) ≤ i → side_after side task a set i ≡ all_outcomes_on side task a set
side_whole Inside = strong_whole
side_whole Outside = left_whole

-- nothing is left of nothing, so the outcomes that follow change nothing
none_on : (side : Side) (lands g : Function) → on_side side lands nothing g ≡ nothing
none_on Inside lands g = refl
none_on Outside lands g = refl

stays_none : (side : Side) (task : Task) (a : ℕ) (set : Function) (k i : ℕ) → i + k ≡ length (outcomes_at task a) → side_after side task a set i ≡ nothing → all_outcomes_on side task a set ≡ nothing
stays_none side task a set zero i e none = sym (side_whole side task a i set (omega arith)) ∙ none
stays_none side task a set (suc k) i e none =
    stays_none side task a set k (i + 1) (omega arith)
    (sym (side_more side task a i set (omega arith)) ∙ ap (λ (f : Function). on_side side (lands_set task a i) f (led_into task a i set)) none ∙ none_on side (lands_set task a i) (led_into task a i set))

pub side_emptied : (side : Side) (task : Task) (a i : ℕ) (set : Function) → i < length (outcomes_at task a) → side_after side task a set i ≡ nothing → side_after side task a set i ≡ all_outcomes_on side task a set
side_emptied side task a i set within none = none ∙ sym (stays_none side task a set (length (outcomes_at task a) - i) i (omega arith) none)

-- of one outcome, some and all are the same, where it leads to a state
alone : (x l s : Bool) → ((x && (l || false)) && ((not l || s) && true)) ≡ ((x && (l || false)) && ((l && s) || false))
alone true true true = refl
alone true true false = refl
alone true false s = refl
alone false l s = refl

all_is_some : (task : Task) (set : Function) (values : Values) (x : Bool) (outcomes : List Outcome) → length outcomes ≡ 1
    → ((x && list_any (lands task values) outcomes) && list_all (stays task set values) outcomes) ≡ ((x && list_any (lands task values) outcomes) && list_any (leads task set values) outcomes)
all_is_some task set values x [] one = absurd (omega arith)
all_is_some task set values x (o ∷ []) one = alone x (lands task values o) (set (after_value o values))
all_is_some task set values x (o ∷ p ∷ outcomes) one = absurd (omega arith)

pub strong_is_weak : (task : Task) (a : ℕ) (set : Function) → length (outcomes_at task a) ≡ 1 → strong_preimage task a set ≡ weak_preimage task a set
strong_is_weak task a set one = λ j values.
    (all_is_some task set values (holds task.invariant values && option_map_or (λ action. holds action.exec values) (slice_get task.actions.items a) false) (outcomes_at task a) one) j

-- the vectors after the outcomes have the values after them
module _ (task : Task) (set : Function) (depends : DependsOnly 0 (fluent_count task) set) (v : Vector) where
  same_member : (f : Function) → DependsOnly 0 (fluent_count task) f → (o : Outcome) → f (after_value o (value_of v)) ≡ f (value_of (after (fluent_count task) o v))
  same_member f depends o =
      depends (after_value o (value_of v)) (value_of (after (fluent_count task) o v)) (λ u above within. sym (value_computed (after_value o (value_of v)) (fluent_count task) u within))

  same_space : (o : Outcome) → lands task (value_of v) o ≡ in_space task (after (fluent_count task) o v)
  same_space o = same_member (space_set task) (space_depends task) o

  some_lands : (outcomes : List Outcome) → list_any (lands task (value_of v)) outcomes ≡ list_any (in_space task) (map (λ o. after (fluent_count task) o v) outcomes)
  some_lands [] = refl
  some_lands (o ∷ outcomes) = (λ j. same_space o j || some_lands outcomes j)

  passed : (b : Bool) (t : Vector) (ts : List Vector) → ((b && set (value_of t)) || list_any (λ t. set (value_of t)) ts) ≡ list_any (λ t. set (value_of t)) (cond b (t ∷ ts) ts)
  passed true t ts = refl
  passed false t ts = refl

  some_after : (outcomes : List Outcome) → list_any (leads task set (value_of v)) outcomes ≡ list_any (λ t. set (value_of t)) (filter (in_space task) (map (λ o. after (fluent_count task) o v) outcomes))
  some_after [] = refl
  some_after (o ∷ outcomes) =
      (λ j. (same_space o j && same_member set depends o j) || some_after outcomes j)
      ∙ passed (in_space task (after (fluent_count task) o v)) (after (fluent_count task) o v) (filter (in_space task) (map (λ o. after (fluent_count task) o v) outcomes))

  held : (b : Bool) (t : Vector) (ts : List Vector) → ((not b || set (value_of t)) && list_all (λ t. set (value_of t)) ts) ≡ list_all (λ t. set (value_of t)) (cond b (t ∷ ts) ts)
  held true t ts = refl
  held false t ts = refl

  all_states : (outcomes : List Outcome) → list_all (stays task set (value_of v)) outcomes ≡ list_all (λ t. set (value_of t)) (filter (in_space task) (map (λ o. after (fluent_count task) o v) outcomes))
  all_states [] = refl
  all_states (o ∷ outcomes) =
      (λ j. (not (same_space o j) || same_member set depends o j) && all_states outcomes j)
      ∙ held (in_space task (after (fluent_count task) o v)) (after (fluent_count task) o v) (filter (in_space task) (map (λ o. after (fluent_count task) o v) outcomes))

-- what leads to a state in a set leads to a state
absorbed : (task : Task) (set : Function) (values : Values) (outcomes : List Outcome) → (list_any (lands task values) outcomes && list_any (leads task set values) outcomes) ≡ list_any (leads task set values) outcomes
absorbed task set values [] = refl
absorbed task set values (o ∷ outcomes) =
    step (lands task values o) (set (after_value o values)) (list_any (lands task values) outcomes) (list_any (leads task set values) outcomes) (absorbed task set values outcomes)
  where
    step : (l s c r : Bool) → (c && r) ≡ r → ((l || c) && ((l && s) || r)) ≡ ((l && s) || r)
    step true s c r same = refl
    step false s c r same = same

pub weak_leads : (task : Task) (a : ℕ) (set : Function) (v : Vector) → DependsOnly 0 (fluent_count task) set → weak_preimage task a set (value_of v) ≡ list_any (λ t. set (value_of t)) (next_states task v a)
weak_leads task a set v depends =
    elim (is_allowed task v a) as (λ e. ((e && list_any (lands task (value_of v)) (outcomes_at task a)) && list_any (leads task set (value_of v)) (outcomes_at task a))
    ≡ list_any (λ t. set (value_of t)) (cond e (filter (in_space task) (map (λ o. after (fluent_count task) o v) (outcomes_at task a))) [])) [
      | true ↦ absorbed task set (value_of v) (outcomes_at task a) ∙ some_after task set depends v (outcomes_at task a)
      | false ↦ refl
    ]

pub strong_leads : (task : Task) (a : ℕ) (set : Function) (v : Vector) → DependsOnly 0 (fluent_count task) set
    → strong_preimage task a set (value_of v) ≡ (is_executable task v a && list_all (λ t. set (value_of t)) (next_states task v a))
strong_leads task a set v depends =
    elim (is_allowed task v a) as (λ e. ((e && list_any (lands task (value_of v)) (outcomes_at task a)) && list_all (stays task set (value_of v)) (outcomes_at task a))
    ≡ ((e && list_any (in_space task) (map (λ o. after (fluent_count task) o v) (outcomes_at task a)))
    && list_all (λ t. set (value_of t)) (cond e (filter (in_space task) (map (λ o. after (fluent_count task) o v) (outcomes_at task a))) []))) [
      | true ↦ (λ j. some_lands task set depends v (outcomes_at task a) j && all_states task set depends v (outcomes_at task a) j)
      | false ↦ refl
    ]
