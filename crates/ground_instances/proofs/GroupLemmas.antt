-- Types that have the same objects, found on the ways from the objects' types up.
use Rattle.std.proofs.Common.{◌≡◌, ℕ, zero, suc, ◌+◌, ◌-◌, ◌*◌, ◌<◌, ◌≤◌, Bool, true, false, List, [], ◌∷◌, length, get_or, map, refl, ap, sym, subst, ◌∙◌, arith, ◌⊎◌, inl, inr}
use Rattle.std.specs.Prelude.{◌==◌, All, slice_set}
use Rattle.std.specs.List.{range_with_len}
use Rattle.std.proofs.lemmas.Bool.{eq-eqb, eqb-true, cases_eq, cases_lt, true≢false}
use Rattle.std.proofs.lemmas.List.{get_or-set_same, get_or-set_other, length-set, get_or-map, length-map, get_or_default}
use Rattle.std.proofs.lemmas.List.Elements.{All-get_or}
use Rattle.std.proofs.lemmas.List.FromFn.{length-range_with_len, get_or-range_with_len}
use Rattle.std.proofs.lemmas.List.Folds.{list_any_at, Any-from_list_any}
use Rattle.pddl_ast.specs.Fits.{ancestor}
use Rattle.pddl_system.specs.Objects.{is_kind_of}
use Rattle.ground_instances.specs.Groups.{is_seen, AreWays, Begins, HasWays, AreSteps, AreFar, AreGroups}
use Rattle.ground_instances.proofs.EnteringLemmas.{ancestor_next, ancestor-add, ancestor-fixed, ancestor_known}
use Rattle.list_laws.proofs.Booleans.{same_truth}

-- how many types no way came to
abbrev pub unseen : List Bool → ℕ
unseen [] = 0
unseen (true ∷ seen) = unseen seen
unseen (false ∷ seen) = suc (unseen seen)

pub unseen_less : (seen : List Bool) (k : ℕ) → k < length seen → get_or seen k false ≡ false → unseen (slice_set seen k true) < unseen seen
unseen_less [] k h off = absurd (omega arith)
unseen_less (true ∷ seen) zero h off = absurd (true≢false off)
unseen_less (false ∷ seen) zero h off = omega arith
unseen_less (true ∷ seen) (suc k) h off = unseen_less seen k (omega arith) off
unseen_less (false ∷ seen) (suc k) h off =
    let less : unseen (slice_set seen k true) < unseen seen = unseen_less seen k (omega arith) off in
    omega arith

-- a way that has come to `before` and goes on to `kind`
pub record OnTheWay (parents : List ℕ) (seen : List Bool) (below : List ℕ) (kind before : ℕ) : Type 0 where
  pub all_seen : length seen ≡ length parents
  pub all_below : length below ≡ length parents
  pub passed : (t : ℕ) → is_seen seen t ≡ true
      → ((is_seen seen (get_or parents t 0) ≡ true) × ((get_or below (get_or parents t 0) 0 ≡ get_or parents t 0) ⊎ (get_or below (get_or parents t 0) 0 ≡ t)))
      ⊎ ((t ≡ before) × (get_or parents t 0 ≡ kind))

-- a step of a way
pub way_goes_on : (parents : List ℕ) (seen : List Bool) (below : List ℕ) (kind before : ℕ) → kind < length parents → get_or seen kind false ≡ false
    → OnTheWay parents seen below kind before
    → OnTheWay parents (slice_set seen kind true) (slice_set below kind before) (get_or parents kind 0) kind
way_goes_on parents seen below kind before inside off way = record {
  all_seen = length-set seen kind true ∙ way.all_seen;
  all_below = length-set below kind before ∙ way.all_below;
  passed = λ t h. elim (cases_eq t kind) [
    | inl same ↦ inr (same, ap (λ n. get_or parents n 0) same)
    | inr other ↦ inl (still t other (sym (get_or-set_other seen kind t true false other) ∙ h))
  ];
}
  where
    low_seen : kind < length seen
    low_seen = subst (λ n. kind < n) (sym way.all_seen) inside

    low_below : kind < length below
    low_below = subst (λ n. kind < n) (sym way.all_below) inside

    marked : get_or (slice_set seen kind true) kind false ≡ true
    marked = get_or-set_same seen kind true false low_seen

    still : (t : ℕ) → (t ≡ kind → ⊥) → is_seen seen t ≡ true
        → (is_seen (slice_set seen kind true) (get_or parents t 0) ≡ true)
        × ((get_or (slice_set below kind before) (get_or parents t 0) 0 ≡ get_or parents t 0) ⊎ (get_or (slice_set below kind before) (get_or parents t 0) 0 ≡ t))
    still t other h = elim (way.passed t h) [
      | inl old ↦ (
          let up = get_or parents t 0 in
          let apart : up ≡ kind → ⊥ = λ e. true≢false (sym old.0 ∙ ap (λ n. get_or seen n false) e ∙ off) in (
            get_or-set_other seen kind up true false apart ∙ old.0,
            subst (λ n. (n ≡ up) ⊎ (n ≡ t)) (sym (get_or-set_other below kind up before 0 apart)) old.1,
          ))
      | inr last ↦ ((
        ap (λ n. get_or (slice_set seen kind true) n false) last.1 ∙ marked,
        inr (ap (λ n. get_or (slice_set below kind before) n 0) last.1 ∙ get_or-set_same below kind before 0 low_below ∙ sym last.0),
      ))
    ]

pub begun_goes_on : (seen : List Bool) (below : List ℕ) (kind before t : ℕ) → get_or seen kind false ≡ false → Begins seen below t → Begins (slice_set seen kind true) (slice_set below kind before) t
begun_goes_on seen below kind before t off begun =
    let apart : t ≡ kind → ⊥ = λ e. true≢false (sym begun.seen_first ∙ ap (λ n. get_or seen n false) e ∙ off) in
    record {
      seen_first = get_or-set_other seen kind t true false apart ∙ begun.seen_first;
      below_none = get_or-set_other below kind t before 0 apart ∙ begun.below_none;
    }

-- its first step marks where it begins
pub first_begins : (parents : List ℕ) (seen : List Bool) (below : List ℕ) (kind before t : ℕ) → kind < length parents → get_or seen kind false ≡ false
    → OnTheWay parents seen below kind before → ((kind ≡ t) × (before ≡ t)) ⊎ Begins seen below t
    → Begins (slice_set seen kind true) (slice_set below kind before) t
first_begins parents seen below kind before t inside off way begun = elim begun [
  | inl first ↦ record {
    seen_first = ap (λ n. get_or (slice_set seen kind true) n false) (sym first.0) ∙ get_or-set_same seen kind true false (subst (λ n. kind < n) (sym way.all_seen) inside);
    below_none = ap (λ n. get_or (slice_set below kind before) n 0) (sym first.0) ∙ get_or-set_same below kind before 0 (subst (λ n. kind < n) (sym way.all_below) inside) ∙ first.1;
  }
  | inr earlier ↦ begun_goes_on seen below kind before t off earlier
]

-- twice as many steps lead where as many steps lead from where they lead
pub twice_as_far : (steps far more : List ℕ) (count : ℕ) → All (λ t. t < length steps) steps → length far ≡ length steps
    → ((t : ℕ) → t < length steps → get_or far t 0 ≡ ancestor steps count t) → more ≡ map (λ t. get_or far t 0) far
    → (t : ℕ) → t < length steps → get_or more t 0 ≡ ancestor steps (count * 2) t
twice_as_far steps far more count known all led is t h =
    ap (λ xs. get_or xs t 0) is
    ∙ get_or-map (λ m. get_or far m 0) far t 0 0 (subst (λ n. t < n) (sym all) h)
    ∙ ap (λ m. get_or far m 0) (led t h)
    ∙ led (ancestor steps count t) (ancestor_known steps (length steps) count t refl known h)
    ∙ sym (ancestor-add steps count count t)
    ∙ ap (λ m. ancestor steps m t) (let e : count + count ≡ count * 2 = omega arith in e)

-- they lead to types
pub far_known : (steps far : List ℕ) (count : ℕ) → All (λ t. t < length steps) steps → length far ≡ length steps
    → ((t : ℕ) → t < length steps → get_or far t 0 ≡ ancestor steps count t) → All (λ t. t < length far) far
far_known steps far count known all led k d h =
    let inside : k < length steps = subst (λ n. k < n) all h in
    subst (λ n. get_or far k d < n) (sym all) (subst (λ n. n < length steps) (sym (led k inside) ∙ get_or_default far k 0 d h)
    (ancestor_known steps (length steps) count k refl known inside))

-- each step stays or goes to the parent
pub steps_known : (parents below steps : List ℕ) → All (λ t. t < length parents) parents → AreSteps parents below steps → All (λ t. t < length steps) steps
steps_known parents below steps known are k d h =
    let inside : k < length parents = subst (λ n. k < n) are.all_types h in
    subst (λ n. get_or steps k d < n) (sym are.all_types) (subst (λ n. n < length parents) (get_or_default steps k 0 d h)
    (elim (are.step k inside) [
      | inl stays ↦ subst (λ n. n < length parents) (sym stays) inside
      | inr goes ↦ subst (λ n. n < length parents) (sym goes.0) (All-get_or (λ t. t < length parents) parents k 0 inside known)
    ]))

-- steps within groups, of which n lead from each type to the topmost of its group
record Tops (parents types below steps : List ℕ) (n : ℕ) : Type 0 where
  known : All (λ t. t < length parents) parents
  rooted : (t : ℕ) → t < length parents → ancestor parents (length parents) t ≡ 0
  ways : HasWays parents types below
  step : (t : ℕ) → t < length parents → (get_or steps t 0 ≡ t) ⊎ ((get_or steps t 0 ≡ get_or parents t 0) × (get_or below (get_or parents t 0) 0 ≡ t))
  enough : length parents ≤ n

parent_known : (parents : List ℕ) → All (λ t. t < length parents) parents → (t : ℕ) → t < length parents → get_or parents t 0 < length parents
parent_known parents known t h = All-get_or (λ t. t < length parents) parents t 0 h known

root_fixed : {parents types below steps : List ℕ} {n : ℕ} → Tops parents types below steps n → 0 < length parents → get_or parents 0 0 ≡ 0
root_fixed {parents = parents} tops some =
    ap (λ n. get_or parents n 0) (sym (tops.rooted 0 some)) ∙ sym (ancestor_next parents (length parents) 0) ∙ tops.rooted (get_or parents 0 0) (parent_known parents tops.known 0 some)

-- as many steps up as there are types, or more, lead to the root
root_above : {parents types below steps : List ℕ} {n : ℕ} → Tops parents types below steps n → (k t : ℕ) → t < length parents → length parents ≤ k → ancestor parents k t ≡ 0
root_above {parents = parents} tops k t h far =
    ap (λ m. ancestor parents m t) (let e : k ≡ length parents + (k - length parents) = omega arith in e)
    ∙ ancestor-add parents (length parents) (k - length parents) t
    ∙ ap (ancestor parents (k - length parents)) (tops.rooted t h)
    ∙ ancestor-fixed parents (k - length parents) 0 (root_fixed tops (omega arith))

-- steps go up at each type, or have come to an end
moved : {parents types below steps : List ℕ} {n : ℕ} → Tops parents types below steps n → (k t : ℕ) → t < length parents
    → (ancestor steps k t ≡ ancestor parents k t) ⊎ (get_or steps (ancestor steps k t) 0 ≡ ancestor steps k t)
moved tops zero t h = inl refl
moved {parents = parents} {steps = steps} tops (suc k) t h = elim (moved tops k t h) [
  | inl same ↦ elim (tops.step (ancestor steps k t) (subst (λ n. n < length parents) (sym same) (ancestor_known parents (length parents) k t refl tops.known h))) [
    | inl stays ↦ (let here : ancestor steps (suc k) t ≡ ancestor steps k t = ancestor_next steps k t ∙ stays in
        inr (ap (λ n. get_or steps n 0) here ∙ stays ∙ sym here))
    | inr goes ↦ inl (ancestor_next steps k t ∙ goes.0 ∙ ap (λ n. get_or parents n 0) same ∙ sym (ancestor_next parents k t))
  ]
  | inr fixed ↦ (let here : ancestor steps (suc k) t ≡ ancestor steps k t = ancestor_next steps k t ∙ fixed in
      inr (ap (λ n. get_or steps n 0) here ∙ fixed ∙ sym here))
]

-- from a topmost type no step leads on
settled : {parents types below steps : List ℕ} {n : ℕ} → Tops parents types below steps n → (t : ℕ) → t < length parents → get_or steps (ancestor steps n t) 0 ≡ ancestor steps n t
settled {parents = parents} {steps = steps} {n = n} tops t h = elim (moved tops n t h) [
  | inl same ↦ (let root : ancestor steps n t ≡ 0 = same ∙ root_above tops n t h tops.enough in
      ap (λ m. get_or steps m 0) root ∙ first ∙ sym root)
  | inr fixed ↦ fixed
]
  where
    first : get_or steps 0 0 ≡ 0
    first = elim (tops.step 0 (omega arith)) [ inl stays ↦ stays | inr goes ↦ goes.0 ∙ root_fixed tops (omega arith) ]

-- a type's parent is in its group, or the type is the topmost of it
parent_top : {parents types below steps : List ℕ} {n : ℕ} → Tops parents types below steps n → (t : ℕ) → t < length parents
    → (ancestor steps n (get_or parents t 0) ≡ ancestor steps n t) ⊎ (ancestor steps n t ≡ t)
parent_top {parents = parents} {steps = steps} {n = n} tops t h = elim (tops.step t h) [
  | inl stays ↦ inr (ancestor-fixed steps n t stays)
  | inr goes ↦ inl (ap (ancestor steps n) (sym goes.0) ∙ ancestor_next steps n t ∙ settled tops t h)
]

-- what leads from a group to the one above
record Rises (parents steps above : List ℕ) (n : ℕ) : Type 0 where
  up : (t : ℕ) → t < length parents → get_or above t 0 ≡ ancestor steps n (get_or parents t 0)

-- the group of an ancestor is an ancestor of the group, no farther up
group_above : {parents types below steps above : List ℕ} {n : ℕ} → Tops parents types below steps n → Rises parents steps above n → (k d : ℕ) → d < length parents
    → (j : ℕ) × (j ≤ k) × (ancestor above j (ancestor steps n d) ≡ ancestor steps n (ancestor parents k d))
group_above tops rises zero d h = (0, omega arith, refl)
group_above {parents = parents} {steps = steps} {above = above} {n = n} tops rises (suc k) d h =
    let (j, low, same) = group_above tops rises k d h in
    let t = ancestor parents k d in
    let inside : t < length parents = ancestor_known parents (length parents) k d refl tops.known h in
    elim (parent_top tops t inside) [
      | inl with_parent ↦ (j, omega arith, same ∙ sym with_parent ∙ ap (ancestor steps n) (sym (ancestor_next parents k d)))
      | inr topmost ↦ (
        suc j,
        omega arith,
        ancestor_next above j (ancestor steps n d) ∙ ap (λ m. get_or above m 0) (same ∙ topmost) ∙ rises.up t inside ∙ ap (ancestor steps n) (sym (ancestor_next parents k d)),
      )
    ]

-- steps lead to ancestors
step_is_above : {parents types below steps : List ℕ} {n : ℕ} → Tops parents types below steps n → (k t : ℕ) → t < length parents → (e : ℕ) × (ancestor steps k t ≡ ancestor parents e t)
step_is_above tops zero t h = (0, refl)
step_is_above {parents = parents} {steps = steps} tops (suc k) t h =
    let (e, same) = step_is_above tops k t h in
    elim (tops.step (ancestor steps k t) (subst (λ n. n < length parents) (sym same) (ancestor_known parents (length parents) e t refl tops.known h))) [
      | inl stays ↦ (e, ancestor_next steps k t ∙ stays ∙ same)
      | inr goes ↦ (suc e, ancestor_next steps k t ∙ goes.0 ∙ ap (λ n. get_or parents n 0) same ∙ sym (ancestor_next parents e t))
    ]

-- and so do steps between groups
group_is_above : {parents types below steps above : List ℕ} {n : ℕ} → Tops parents types below steps n → Rises parents steps above n → (j d : ℕ) → d < length parents
    → (e : ℕ) × (ancestor above j (ancestor steps n d) ≡ ancestor parents e d)
group_is_above {n = n} tops rises zero d h = step_is_above tops n d h
group_is_above {parents = parents} {steps = steps} {above = above} {n = n} tops rises (suc j) d h =
    let (e, same) = group_is_above tops rises j d h in
    let t = ancestor parents e d in
    let inside : t < length parents = ancestor_known parents (length parents) e d refl tops.known h in
    let (more, led) = step_is_above tops n (get_or parents t 0) (parent_known parents tops.known t inside) in (
      suc e + more,
      ancestor_next above j (ancestor steps n d) ∙ ap (λ m. get_or above m 0) same ∙ rises.up t inside ∙ led
          ∙ ap (ancestor parents more) (sym (ancestor_next parents e d)) ∙ sym (ancestor-add parents (suc e) more d),
    )

-- a way from a type has come to all its ancestors
all_seen : (parents : List ℕ) (seen : List Bool) (below : List ℕ) → AreWays parents seen below → (k d : ℕ) → is_seen seen d ≡ true → is_seen seen (ancestor parents k d) ≡ true
all_seen parents seen below ways zero d h = h
all_seen parents seen below ways (suc k) d h = all_seen parents seen below ways k (get_or parents d 0) (ways.parent_seen d h)

-- from where steps come to a type on a way, they come along the way
back_down : {parents types below steps : List ℕ} {n : ℕ} (tops : Tops parents types below steps n) → (k e d t : ℕ) → d < length parents → t < length parents → Begins tops.ways.seen below d
    → ancestor steps k t ≡ ancestor parents e d → (e' : ℕ) × (t ≡ ancestor parents e' d)
back_down tops zero e d t inside h begun same = (e, same)
back_down {parents = parents} {below = below} {steps = steps} tops (suc k) e d t inside h begun same = elim (tops.step t h) [
  | inl stays ↦ back_down tops k e d t inside h begun (ap (ancestor steps k) (sym stays) ∙ same)
  | inr goes ↦ (let (f, at) = back_down tops k e d (get_or parents t 0) inside (parent_known parents tops.known t h) begun (ap (ancestor steps k) (sym goes.0) ∙ same) in
      from f at goes.1)
]
  where
    from : (f : ℕ) → get_or parents t 0 ≡ ancestor parents f d → get_or below (get_or parents t 0) 0 ≡ t → (e' : ℕ) × (t ≡ ancestor parents e' d)
    from zero at lone = (0, sym lone ∙ ap (λ m. get_or below m 0) at ∙ begun.below_none)
    from (suc f) at lone =
        let w = ancestor parents f d in
        let up : get_or parents t 0 ≡ get_or parents w 0 = at ∙ ancestor_next parents f d in
        let under : t ≡ get_or below (get_or parents w 0) 0 = sym lone ∙ ap (λ m. get_or below m 0) up in
        elim (tops.ways.ways.lone w (all_seen parents tops.ways.seen below tops.ways.ways f d begun.seen_first)) [
          | inl itself ↦ (suc f, under ∙ itself ∙ sym (ancestor_next parents f d))
          | inr other ↦ (f, under ∙ other)
        ]

-- an ancestor within as many steps as there are types
kind_from : (parents : List ℕ) (k d t : ℕ) → k ≤ length parents → ancestor parents k d ≡ t → is_kind_of parents d t ≡ true
kind_from parents k d t low same =
    let at : get_or (range_with_len 0 (suc (length parents))) k 0 ≡ k = get_or-range_with_len 0 (suc (length parents)) k 0 (omega arith) ∙ (let e : 0 + k ≡ k = omega arith in e) in
    list_any_at (λ m. ancestor parents m d == t) (range_with_len 0 (suc (length parents))) k 0
    (let e : k < length (range_with_len 0 (suc (length parents))) = omega (arith, length-range_with_len 0 (suc (length parents))) in e)
    (eq-eqb (ancestor parents (get_or (range_with_len 0 (suc (length parents))) k 0) d) t (ap (λ m. ancestor parents m d) at ∙ same))

from_kind : (parents : List ℕ) (d t : ℕ) → is_kind_of parents d t ≡ true → (k : ℕ) × (k ≤ length parents) × (ancestor parents k d ≡ t)
from_kind parents d t h =
    let (i, m, low, at, here) = Any-from_list_any (λ m. ancestor parents m d == t) (range_with_len 0 (suc (length parents))) h in
    let small : i < suc (length parents) = omega (arith, length-range_with_len 0 (suc (length parents))) in
    let is : i ≡ m = sym (get_or-range_with_len 0 (suc (length parents)) i m small ∙ (let e : 0 + i ≡ i = omega arith in e)) ∙ at in
    (i, omega arith, ap (λ k. ancestor parents k d) is ∙ eqb-true (ancestor parents m d) t here)

-- an ancestor, however far up, is one within as many steps as there are types
kind_from_far : {parents types below steps : List ℕ} {n : ℕ} → Tops parents types below steps n → (e d t : ℕ) → d < length parents → ancestor parents e d ≡ t → is_kind_of parents d t ≡ true
kind_from_far {parents = parents} tops e d t h same = elim (cases_lt (length parents) e) [
  | inl far ↦ kind_from parents (length parents) d t (omega arith) (tops.rooted d h ∙ sym (root_above tops e d h (omega arith)) ∙ same)
  | inr near ↦ kind_from parents e d t near same
]

-- a type is an ancestor of one where a way begins just where its group is one of that one's
same_kind : {parents types below steps above : List ℕ} {n : ℕ} (tops : Tops parents types below steps n) → Rises parents steps above n → length above ≡ length parents
    → (d t : ℕ) → d < length parents → t < length parents → Begins tops.ways.seen below d
    → is_kind_of above (ancestor steps n d) (ancestor steps n t) ≡ is_kind_of parents d t
same_kind {parents = parents} {steps = steps} {above = above} {n = n} tops rises all d t inside h begun =
    same_truth (is_kind_of above (ancestor steps n d) (ancestor steps n t)) (is_kind_of parents d t)
    (λ yes.
    let (j, low, same) = from_kind above (ancestor steps n d) (ancestor steps n t) yes in
    let (e, up) = group_is_above tops rises j d inside in
    let (f, at) = back_down tops n e d t inside h begun (sym same ∙ up) in
    kind_from_far tops f d t inside (sym at))
    (λ yes.
    let (k, low, same) = from_kind parents d t yes in
    let (j, less, up) = group_above tops rises k d inside in
    kind_from above j (ancestor steps n d) (ancestor steps n t) (let e : j ≤ length above = omega arith in e) (up ∙ ap (ancestor steps n) same))

pub groups_are : (parents types below steps tops above : List ℕ) → All (λ t. t < length parents) parents
    → ((t : ℕ) → t < length parents → ancestor parents (length parents) t ≡ 0) → All (λ t. t < length parents) types
    → HasWays parents types below → AreSteps parents below steps → AreFar steps tops → above ≡ map (λ t. get_or tops t 0) parents
    → AreGroups parents types tops above
groups_are parents types below steps tops above known rooted types_known ways steps_are far is = record {
  all_tops = all_tops;
  all_above = all_above;
  tops_known = λ k d h.
      let inside : k < length parents = subst (λ m. k < m) all_tops h in
      subst (λ m. m < length parents) (sym (led k inside) ∙ get_or_default tops k 0 d h) (top_known k inside);
  above_known = λ k d h.
      let inside : k < length parents = subst (λ m. k < m) all_above h in
      subst (λ m. m < length parents) (sym (rises.up k inside) ∙ get_or_default above k 0 d h) (top_known (get_or parents k 0) (parent_known parents known k inside));
  same = λ k d h t inside.
      let at = get_or types k d in
      let low : at < length parents = types_known k d h in
      ap (λ m. is_kind_of above m (get_or tops t 0)) (led at low) ∙ ap (is_kind_of above (ancestor steps far.count at)) (led t inside)
      ∙ same_kind found rises all_above at t low inside (ways.begun k d h);
}
  where
    all_tops : length tops ≡ length parents
    all_tops = far.all_types ∙ steps_are.all_types

    all_above : length above ≡ length parents
    all_above = ap (λ xs. length xs) is ∙ length-map parents (λ t. get_or tops t 0)

    found : Tops parents types below steps far.count
    found = record {
      known = known;
      rooted = rooted;
      ways = ways;
      step = steps_are.step;
      enough = subst (λ m. m ≤ far.count) steps_are.all_types far.enough;
    }

    led : (t : ℕ) → t < length parents → get_or tops t 0 ≡ ancestor steps far.count t
    led t h = far.led t (subst (λ m. t < m) (sym steps_are.all_types) h)

    top_known : (t : ℕ) → t < length parents → ancestor steps far.count t < length parents
    top_known t h = ancestor_known steps (length parents) far.count t (sym steps_are.all_types)
        (subst (λ m. All (λ p. p < m) steps) steps_are.all_types (steps_known parents below steps known steps_are)) h

    rises : Rises parents steps above far.count
    rises = record {
      up = λ t h. ap (λ xs. get_or xs t 0) is ∙ get_or-map (λ m. get_or tops m 0) parents t 0 0 h ∙ led (get_or parents t 0) (parent_known parents known t h);
    }
