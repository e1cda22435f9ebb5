-- Sets that add nothing: where no action is a way out of some sets, none is a way out of a set whose states
-- are all in their union.
use Rattle.std.proofs.Common.{◌≡◌, ℕ, ◌<◌, Bool, true, false, not, ◌&&◌, ◌||◌, length, refl, sym, ◌∙◌}
use Rattle.std.specs.List.{list_any, range_with_len}
use Rattle.std.proofs.lemmas.Bool.{and_from, and_parts, false_from_ne_true, false≢true, or_left, true≢false}
use Rattle.dd_nodes.specs.NodeList.{Values}
use Rattle.dd_nodes.specs.Subfunctions.{Function}
use Rattle.dd_ops.specs.Operations.{minus_of, or_of}
use Rattle.dd_sets.specs.LiveSets.{nothing}
use Rattle.dd_sets.proofs.SetLemmas.{inside_to}
use Rattle.encode_task.specs.TaskSets.{cube_set, exec_set, space_set}
use Rattle.preimage.specs.Preimages.{every_outcome_in, some_outcome_in, strong_preimage, weak_preimage}
use Rattle.task_core.specs.Actions.{after_value}
use Rattle.task_core.specs.Conditions.{holds}
use Rattle.task_core.specs.Tasks.{action_count, fluent_count, outcomes_at}
use Rattle.task_core.specs.Vectors.{Vector, all_vectors, value_of}
use Rattle.task_core.specs.declared.classes.Class.{Class}
use Rattle.task_core.specs.declared.classes.Class.TheVariants.{Weak, Strong, Cyclic}
use Rattle.task_core.specs.declared.tasks.Task.{Task}
use Rattle.task_core.proofs.Vectors.{all_vectors_has, all_vectors_length}
use Rattle.plan_certs.specs.Certificates.{CubeSet}
use Rattle.list_laws.proofs.Booleans.{not_up}
use Rattle.list_laws.proofs.Elements.{Contains-range_with_len, Contains-range_with_len-below, list_all-at, list_all-from, list_any-from, list_any-witness}
use Rattle.cert_check.specs.Sets.{IsKept, is_left, leaves_by, meets, states_in, way_out_set}

-- a part of another set
abbrev Part : Function → Function → Type 0
Part f g = (values : Values) → f values ≡ true → g values ≡ true

imply : (s x y : Bool) → (x ≡ true → y ≡ true) → (not s || x) ≡ true → (not s || y) ≡ true
imply true x y h e = h e
imply false x y h e = refl

-- more is led into a larger set
module _ (task : Task) (a : ℕ) (f g : Function) (part : Part f g) (values : Values) where
  weak_more : weak_preimage task a f values ≡ true → weak_preimage task a g values ≡ true
  weak_more is =
      let p = and_parts (exec_set task a values) (some_outcome_in task a f values) is in
      let w = list_any-witness (λ o. space_set task (after_value o values) && f (after_value o values)) (outcomes_at task a) p.1 in
      let q = and_parts (space_set task (after_value w.0 values)) (f (after_value w.0 values)) w.2 in
      and_from (exec_set task a values) (some_outcome_in task a g values) p.0
      (list_any-from (λ o. space_set task (after_value o values) && g (after_value o values)) (outcomes_at task a) w.0 w.1
      (and_from (space_set task (after_value w.0 values)) (g (after_value w.0 values)) q.0 (part (after_value w.0 values) q.1)))

  strong_more : strong_preimage task a f values ≡ true → strong_preimage task a g values ≡ true
  strong_more is =
      let p = and_parts (exec_set task a values) (every_outcome_in task a f values) is in
      and_from (exec_set task a values) (every_outcome_in task a g values) p.0
      (list_all-from (λ o. not (space_set task (after_value o values)) || g (after_value o values)) (outcomes_at task a)
      (λ o has. imply (space_set task (after_value o values)) (f (after_value o values)) (g (after_value o values)) (part (after_value o values))
      (list_all-at (λ o. not (space_set task (after_value o values)) || f (after_value o values)) (outcomes_at task a) o p.1 has)))

-- an action is a way out from fewer states where both sets are larger
way_less : (task : Task) (a : ℕ) (f g more others : Function) → Part f more → Part (or_of f g) (or_of more others) → (values : Values)
    → way_out_set Cyclic task more others a values ≡ true → way_out_set Cyclic task f g a values ≡ true
way_less task a f g more others first both values is =
    let p = and_parts (exec_set task a values && not (weak_preimage task a more values)) (not (strong_preimage task a (or_of more others) values)) is in
    let q = and_parts (exec_set task a values) (not (weak_preimage task a more values)) p.0 in
    and_from (exec_set task a values && not (weak_preimage task a f values)) (not (strong_preimage task a (or_of f g) values))
    (and_from (exec_set task a values) (not (weak_preimage task a f values)) q.0
    (not_up (weak_preimage task a f values) (weak_preimage task a more values) (weak_more task a f more first values) q.1))
    (not_up (strong_preimage task a (or_of f g) values) (strong_preimage task a (or_of more others) values) (strong_more task a (or_of f g) (or_of more others) both values) p.1)

-- it can be executed there, so it is a state
way_space : (task : Task) (a : ℕ) (f g : Function) (values : Values) → way_out_set Cyclic task f g a values ≡ true → space_set task values ≡ true
way_space task a f g values is =
    let p = and_parts (exec_set task a values && not (weak_preimage task a f values)) (not (strong_preimage task a (or_of f g) values)) is in
    let q = and_parts (exec_set task a values) (not (weak_preimage task a f values)) p.0 in
    let r = and_parts _ (list_any (λ o. holds task.invariant (after_value o values)) (outcomes_at task a)) q.0 in
    (and_parts (holds task.invariant values) _ r.0).0

part_same : (f : Function) → Part f f
part_same f values is = is

part_left : (f g : Function) → Part f (or_of f g)
part_left f g values is = or_left (f values) (g values) is

either_same : (x : Bool) → (x || x) ≡ true → x ≡ true
either_same true e = refl
either_same false e = e

part_twice : (f g : Function) → Part (or_of f f) (or_of f g)
part_twice f g values is = or_left (f values) (g values) (either_same (f values) is)

module _ (task : Task) (f : Function) (set : CubeSet) (kept : IsKept Cyclic task f) where
  -- a set that adds nothing has no way out
  none_left : minus_of (states_in task set) f ≡ nothing → is_left Cyclic task f set ≡ true → ⊥
  none_left none left =
      let w = list_any-witness (leaves_by Cyclic task f set) (range_with_len 0 (action_count task)) left in
      let way : Function = way_out_set Cyclic task f (states_in task set) w.0 in
      let x = list_any-witness (λ cube. meets (fluent_count task) (cube_set cube) way) set w.2 in
      let y = list_any-witness (λ v. cube_set x.0 (value_of v) && way (value_of v)) (all_vectors (fluent_count task)) x.2 in
      let values : Values = value_of y.0 in
      let p = and_parts (cube_set x.0 values) (way values) y.2 in
      let inside : states_in task set values ≡ true =
      list_any-from (λ cube. cube_set cube values && space_set task values) set x.0 x.1
      (and_from (cube_set x.0 values) (space_set task values) p.0 (way_space task w.0 f (states_in task set) values p.1)) in
      let before : f values ≡ true = inside_to (states_in task set values) (f values) (λ i. none i values) inside in
      true≢false (sym (way_less task w.0 f f f (states_in task set) (part_same f) (part_twice f (states_in task set)) values p.1)
      ∙ kept w.0 (Contains-range_with_len-below (action_count task) w.0 w.1) y.0 (all_vectors_length (fluent_count task) y.0 y.1) before)

  pub not_left : minus_of (states_in task set) f ≡ nothing → false ≡ is_left Cyclic task f set
  not_left none = sym (false_from_ne_true (is_left Cyclic task f set) (none_left none))

  -- where a set has no way out, the union with it has none
  still_kept : is_left Cyclic task f set ≡ false → (a : ℕ) → a < action_count task → (v : Vector) → length v ≡ fluent_count task → or_of f (states_in task set) (value_of v) ≡ true
      → way_out_set Cyclic task (or_of f (states_in task set)) (or_of f (states_in task set)) a (value_of v) ≡ true → ⊥
  still_kept none a below v long inside way =
      let values : Values = value_of v in
      let union : Function = or_of f (states_in task set) in
      by_first (f values) (states_in task set values) inside
      (λ before. true≢false (sym (way_less task a f f union union (part_left f (states_in task set)) (λ u is. or_left (union u) (union u) (or_left (f u) (states_in task set u) (either_same (f u) is))) values way) ∙ kept a below v long before))
      (λ new.
      let way_new : way_out_set Cyclic task f (states_in task set) a values ≡ true =
      way_less task a f (states_in task set) union union (part_left f (states_in task set)) (λ u is. or_left (union u) (union u) is) values way in
      let x = list_any-witness (λ cube. cube_set cube values && space_set task values) set new in
      let matched = (and_parts (cube_set x.0 values) (space_set task values) x.2).0 in
      let found : meets (fluent_count task) (cube_set x.0) (way_out_set Cyclic task f (states_in task set) a) ≡ true =
      list_any-from (λ v. cube_set x.0 (value_of v) && way_out_set Cyclic task f (states_in task set) a (value_of v)) (all_vectors (fluent_count task)) v (all_vectors_has (fluent_count task) v long)
      (and_from (cube_set x.0 values) (way_out_set Cyclic task f (states_in task set) a values) matched way_new) in
      true≢false (sym (list_any-from (leaves_by Cyclic task f set) (range_with_len 0 (action_count task)) a (Contains-range_with_len (action_count task) a below)
      (list_any-from (λ cube. meets (fluent_count task) (cube_set cube) (way_out_set Cyclic task f (states_in task set) a)) set x.0 x.1 found)) ∙ none))
    where
      by_first : (x y : Bool) → (x || y) ≡ true → (x ≡ true → ⊥) → (y ≡ true → ⊥) → ⊥
      by_first true y is first second = first refl
      by_first false y is first second = second is

-- of each class
pub next_kept : (class : Class) (task : Task) (f : Function) (set : CubeSet) → IsKept class task f → false ≡ is_left class task f set → IsKept class task (or_of f (states_in task set))
next_kept Weak task f set kept none = tt
next_kept Strong task f set kept none = tt
next_kept Cyclic task f set kept none = λ a below v long inside.
    false_from_ne_true (way_out_set Cyclic task (or_of f (states_in task set)) (or_of f (states_in task set)) a (value_of v)) (still_kept task f set kept (sym none) a below v long inside)

pub nothing_kept : (class : Class) (task : Task) → IsKept class task nothing
nothing_kept Weak task = tt
nothing_kept Strong task = tt
nothing_kept Cyclic task = λ a below v long inside. absurd (false≢true inside)

pub passed_over : (class : Class) (task : Task) (f : Function) (set : CubeSet) → class ≡ Cyclic → IsKept class task f → minus_of (states_in task set) f ≡ nothing → false ≡ is_left class task f set
passed_over Weak task f set is kept none = absurd (let e : Weak ≡ Cyclic = is in cc)
passed_over Strong task f set is kept none = absurd (let e : Strong ≡ Cyclic = is in cc)
passed_over Cyclic task f set is kept none = not_left task f set kept none

union_is : (x y : Bool) → (y && not x) ≡ false → x ≡ (x || y)
union_is true y none = refl
union_is false true none = absurd (true≢false none)
union_is false false none = refl

pub union_same : (f g : Function) → minus_of g f ≡ nothing → f ≡ or_of f g
union_same f g none = λ i values. union_is (f values) (g values) (λ j. none j values) i
