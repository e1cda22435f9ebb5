-- Outcomes and rules by their numbers.
use Rattle.std.proofs.Common.{◌≡◌, ℕ, zero, suc, ◌<◌, ⊎_elim, Bool, true, false, List, [], ◌∷◌, length, map, get_or, slice_get, Option, Some, None, refl, sym, ap, ◌∙◌, subst}
use Rattle.std.specs.List.{Contains, cons_option, filter_map, range_with_len}
use Rattle.std.proofs.lemmas.Bool.{and_parts, cond-true, cond-false, eqb-true}
use Rattle.std.proofs.lemmas.Grind.{get_or_default_zero}
use Rattle.std.proofs.lemmas.Option.{none-some, same_Some, slice_get-get_or}
use Rattle.task_core.specs.Cubes.{matches}
use Rattle.task_core.specs.States.{IsWithin, vector}
use Rattle.task_core.specs.Systems.{HasOutcome, System}
use Rattle.task_core.specs.Tables.{Leads}
use Rattle.task_core.specs.Tasks.{if_state, in_space, system_of}
use Rattle.task_core.specs.Vectors.{Vector, same_vector}
use Rattle.task_core.specs.declared.states.State.{State}
use Rattle.task_core.specs.declared.tasks.Task.{Task}
use Rattle.task_core.proofs.StateLists.{same_as_vectors, state_eq}
use Rattle.task_core.proofs.TaskSystem.{are_numbered, is_system}
use Rattle.task_core.proofs.Vectors.{same_vector_refl, same_vector_equal}
use Rattle.plan_rules.specs.Rules.{PlanRule}
use Rattle.plan_rules.specs.Denoted.{denoted}
use Rattle.plan_rules.proofs.DenotedPairs.{denoted-pair}
use Rattle.list_laws.proofs.Elements.{Contains-cases, Contains-head, Contains-cons, Contains-nil, Contains-range_with_len, Contains-range_with_len-below, list_any-witness}

pub filter_map_witness : {X Y : Type 0} (f : X → Option Y) (xs : List X) (y : Y) → Contains (filter_map f xs) y → (x : X) × Contains xs x × (f x ≡ Some y)
filter_map_witness f [] y c = absurd (Contains-nil y c)
filter_map_witness {X} {Y} f (x ∷ xs) y c = go (λ d. filter_map_witness f xs y d) (f x) refl c
  where
    later : (z : X) × Contains xs z × (f z ≡ Some y) → (z : X) × Contains (x ∷ xs) z × (f z ≡ Some y)
    later r = (r.0, Contains-cons x xs r.0 r.1, r.2)

    go : (Contains (filter_map f xs) y → (z : X) × Contains xs z × (f z ≡ Some y)) → (o : Option Y) → f x ≡ o → Contains (cons_option o (filter_map f xs)) y
        → (z : X) × Contains (x ∷ xs) z × (f z ≡ Some y)
    go rest None e d = later (rest d)
    go rest (Some z) e d =
        ⊎_elim (λ (s : z ≡ y). (x, Contains-head x xs, e ∙ ap Some s)) (λ (t : Contains (filter_map f xs) y). later (rest t)) (Contains-cases z (filter_map f xs) y d)

pub get_mapped : {X Y : Type 0} (f : X → Y) (xs : List X) (i : ℕ) (x : X) → slice_get xs i ≡ Some x → slice_get (map f xs) i ≡ Some (f x)
get_mapped f [] i x e = absurd (none-some x e)
get_mapped f (y ∷ ys) zero x e = ap Some (ap f (same_Some y x e))
get_mapped f (y ∷ ys) (suc i) x e = get_mapped f ys i x e

pub get_contained : {X : Type 0} (xs : List X) (x : X) → Contains xs x → (i : ℕ) × (i < length xs) × (slice_get xs i ≡ Some x)
get_contained xs x (i, l, is) = (i, l, slice_get-get_or xs i x l ∙ ap Some is)

pub contained_at : (xs : List ℕ) (j : ℕ) → Contains xs j → (k : ℕ) × (k < length xs) × (get_or xs k 0 ≡ j)
contained_at xs j (k, l, is) = (k, l, sym (get_or_default_zero xs k j l) ∙ is)

-- the state to which an outcome leads is an outcome's by number
pub outcome_number : (task : Task) (s : Vector) (a : ℕ) (t : Vector) → HasOutcome (system_of task) s a t
    → (k : ℕ) × (k < (system_of task).outcomes a) × ((system_of task).after s a k ≡ Some t)
outcome_number task s a t h =
    let sys = system_of task in
    let w = filter_map_witness (sys.after s a) (range_with_len 0 (sys.outcomes a)) t (subst (λ ts. Contains ts t) (are_numbered task s a) h) in
    (w.0, Contains-range_with_len-below (sys.outcomes a) w.0 w.1, w.2)

pub outcome_inside : (task : Task) (s : Vector) (a : ℕ) (t : Vector) → HasOutcome (system_of task) s a t → in_space task t ≡ true
outcome_inside task s a t h = ((is_system task).next s a t h).inside

pub if_state_same : (task : Task) (v w : Vector) → if_state task v ≡ Some w → v ≡ w
if_state_same task v w e = go (in_space task v) refl
  where
    go : (b : Bool) → in_space task v ≡ b → v ≡ w
    go true h = same_Some v w (sym (cond-true (in_space task v) (Some v) None h) ∙ e)
    go false h = absurd (none-some w (sym (cond-false (in_space task v) (Some v) None h) ∙ e))

pub if_state_is : (task : Task) (v w : Vector) → v ≡ w → in_space task w ≡ true → if_state task v ≡ Some w
if_state_is task v w e h = ap (if_state task) e ∙ cond-true (in_space task w) (Some w) None h

pub equal_vectors : (n : ℕ) (a b : State) → IsWithin n a → IsWithin n b → state_eq a b ≡ true → vector n a ≡ vector n b
equal_vectors n a b wa wb e = same_vector_equal (vector n a) (vector n b) (sym (same_as_vectors n a b wa wb) ∙ e)

pub vectors_equal : (n : ℕ) (a b : State) → IsWithin n a → IsWithin n b → vector n a ≡ vector n b → state_eq a b ≡ true
vectors_equal n a b wa wb e = same_as_vectors n a b wa wb ∙ subst (λ v. same_vector (vector n a) v ≡ true) e (same_vector_refl (vector n a))

-- a step of the table is by a rule
pub rule_leads : (sys : System) (rules : List PlanRule) (s t : Vector) → Leads sys (denoted sys rules) s t
    → (k : ℕ) × (rule : PlanRule) × (k < length rules) × (slice_get rules k ≡ Some rule) × (matches rule.cube s ≡ true) × HasOutcome sys s rule.action t
rule_leads sys rules s t l =
    let d = denoted-pair sys rules s l.action l.pair in
    let w = list_any-witness _ rules d.advised in
    let rule = w.0 in
    let parts = and_parts _ _ w.2 in
    let at = get_contained rules rule w.1 in
    (at.0, rule, at.1, at.2, parts.1, subst (λ a. HasOutcome sys s a t) (sym (eqb-true _ _ parts.0)) l.outcome)

-- and the other way round
filter_map_has : {X Y : Type 0} (f : X → Option Y) (xs : List X) (x : X) (y : Y) → Contains xs x → f x ≡ Some y → Contains (filter_map f xs) y
filter_map_has f [] x y c e = absurd (Contains-nil x c)
filter_map_has {X} {Y} f (z ∷ zs) x y c e = ⊎_elim (λ (same : z ≡ x). here (ap f same ∙ e)) (λ (d : Contains zs x). there (f z) (filter_map_has f zs x y d e)) (Contains-cases z zs x c)
  where
    here : f z ≡ Some y → Contains (filter_map f (z ∷ zs)) y
    here h = subst (λ (o : Option Y). Contains (cons_option o (filter_map f zs)) y) (sym h) (Contains-head y (filter_map f zs))

    there : (o : Option Y) → Contains (filter_map f zs) y → Contains (cons_option o (filter_map f zs)) y
    there None d = d
    there (Some w) d = Contains-cons w (filter_map f zs) y d

pub number_outcome : (task : Task) (s : Vector) (a : ℕ) (t : Vector) (k : ℕ) → k < (system_of task).outcomes a → (system_of task).after s a k ≡ Some t → HasOutcome (system_of task) s a t
number_outcome task s a t k l e =
    let sys = system_of task in
    subst (λ ts. Contains ts t) (sym (are_numbered task s a)) (filter_map_has (sys.after s a) (range_with_len 0 (sys.outcomes a)) k t (Contains-range_with_len (sys.outcomes a) k l) e)
