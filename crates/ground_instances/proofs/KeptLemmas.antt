-- Kept instances, one more at a time.
use Rattle.std.proofs.Common.{◌≡◌, ℕ, zero, suc, ◌+◌, ◌<◌, ◌≤◌, Bool, true, false, cond, List, [], ◌∷◌, ◌++◌, length, get_or, drop, map, Option, Some, refl, ap, sym, subst, ◌∙◌, arith, add-one, append_assoc, length-append, inl, inr}
use Rattle.std.specs.Prelude.{nat_le, slice_get}
use Rattle.std.specs.List.{filter, flat_map}
use Rattle.std.specs.Option.{option_map}
use Rattle.std.proofs.Math.Seq.{drop-cons}
use Rattle.std.proofs.lemmas.Bool.{le-leb, leb-true}
use Rattle.std.proofs.lemmas.Bool.Decides.{leb_tells}
use Rattle.std.proofs.lemmas.List.{length-map, drop_all, map-append}
use Rattle.std.proofs.lemmas.Option.{slice_get-get_or}
use Rattle.pddl_ast.specs.declared.trees.Schema.{Schema}
use Rattle.pddl_ast.specs.Trees.{SchemaTree, DomainTree}
use Rattle.pddl_ast.specs.Values.{schema_value}
use Rattle.pddl_system.specs.Instances.{Instance as InstanceTree, is_kept, kept_of}
use Rattle.pddl_system.specs.Objects.{bindings}
use Rattle.pddl_system.specs.Settings.{Setting}
use Rattle.pddl_system.specs.ThreeValues.{may_hold}
use Rattle.ground_instances.specs.declared.instances.Instance.{Instance}
use Rattle.ground_instances.specs.declared.values.Value.{Value}
use Rattle.ground_instances.specs.declared.values.Value.TheVariants.{No, Unknown, Yes}
use Rattle.ground_instances.specs.contracts.values.Value.{the_type}
use denote.Enum.Bare.{sameb}
use Rattle.ground_instances.specs.Kept.{instance_of, kept_by, kept_among, kept_objects, numbered, with_number}
use Rattle.ground_instances.specs.Values.{known_value}

pub not_no : (v : Value) → sameb the_type v No ≡ false → may_hold (known_value v) ≡ true
not_no No e = cc
not_no Unknown e = refl
not_no Yes e = refl

-- a kept instance is appended
pub append_kept : (action : ℕ) (objects : List ℕ) (old new : List Instance) (i : Instance) (b : Bool) → b ≡ true → new ≡ old ++ i ∷ []
    → i.action ≡ action → i.objects.items ≡ objects
    → map numbered new ≡ map numbered old ++ map (with_number action) (cond b (objects ∷ []) [])
append_kept action objects old new i b kept pushed numbers holds =
    ap (map numbered) pushed
    ∙ map-append numbered old (i ∷ [])
    ∙ ap (λ a. map numbered old ++ with_number a i.objects.items ∷ []) numbers
    ∙ ap (λ o. map numbered old ++ with_number action o ∷ []) holds
    ∙ ap (λ c. map numbered old ++ map (with_number action) (cond c (objects ∷ []) [])) (sym kept)

-- how many there are then
pub count_kept : (action : ℕ) (rows : List (List ℕ)) (old new : List Instance) → map numbered new ≡ map numbered old ++ map (with_number action) rows
    → length new ≡ length old + length rows
count_kept action rows old new e =
    sym (length-map new numbered) ∙ ap (λ xs. length xs) e
    ∙ length-append (map numbered old) (map (with_number action) rows)
    ∙ ap (λ k. k + length (map (with_number action) rows)) (length-map old numbered)
    ∙ ap (λ k. length old + k) (length-map rows (with_number action))

filter-first : {X : Type 0} (p : X → Bool) (x : X) (xs : List X) → filter p (x ∷ xs) ≡ filter p (x ∷ []) ++ filter p xs
filter-first p x xs = go (p x)
  where
    go : (b : Bool) → cond b (x ∷ filter p xs) (filter p xs) ≡ cond b (x ∷ []) [] ++ filter p xs
    go true = refl
    go false = refl

-- the bindings that are left begin with the one that has the number
pub kept_next : (at : Setting) (s : SchemaTree) (rows : List (List ℕ)) (n : ℕ) → n < length rows
    → kept_among at s (drop n rows) ≡ kept_among at s (get_or rows n [] ∷ []) ++ kept_among at s (drop (n + 1) rows)
kept_next at s rows n within =
    ap (kept_among at s) (drop-cons rows n [] within)
    ∙ filter-first (λ objects. is_kept at (record { schema = s; objects = objects })) (get_or rows n []) (drop (suc n) rows)
    ∙ ap (λ k. kept_among at s (get_or rows n [] ∷ []) ++ kept_among at s (drop k rows)) (sym (add-one n))

pub is_within : (m n : ℕ) (b : Bool) → b ≡ nat_le m n → b ≡ true → m ≤ n
is_within m n b e t = leb-true m n (sym e ∙ t)

pub is_above : (m n : ℕ) (b : Bool) → b ≡ nat_le m n → b ≡ false → n < m
is_above m n b e f = elim (leb_tells m n) [ inl h ↦ absurd (let x : true ≡ false = sym h.0 ∙ sym e ∙ f in cc) | inr h ↦ h.1 ]

pub above : (m n : ℕ) → n < m → false ≡ nat_le m n
above m n h = elim (leb_tells m n) [ inl k ↦ absurd (omega arith) | inr k ↦ sym k.0 ]

pub within : (m n : ℕ) → m ≤ n → true ≡ nat_le m n
within m n h = sym (le-leb m n h)

pub kept_end : (at : Setting) (s : SchemaTree) (rows : List (List ℕ)) (n : ℕ) → length rows ≤ n → kept_among at s (drop n rows) ≡ []
kept_end at s rows n past = ap (kept_among at s) (drop_all n rows past)

-- from numbers to instances
of_number : DomainTree → ℕ × List ℕ → Option InstanceTree
of_number d i = option_map (λ (s : SchemaTree). record { schema = s; objects = i.1 }) (slice_get d.actions i.0)

named : (d : DomainTree) (is : List Instance) → map (instance_of d) is ≡ map (of_number d) (map numbered is)
unfolding of_number
named d [] = refl
named d (i ∷ is) = ap (λ xs. instance_of d i ∷ xs) (named d is)

named-rows : (d : DomainTree) (action : ℕ) (s : SchemaTree) (rows : List (List ℕ)) → slice_get d.actions action ≡ Some s
    → map (of_number d) (map (with_number action) rows) ≡ map Some (map (λ objects. record { schema = s; objects = objects }) rows)
unfolding of_number
named-rows d action s [] is = refl
named-rows d action s (row ∷ rows) is =
    ap (λ o. option_map (λ (s : SchemaTree). record { schema = s; objects = row }) o ∷ map (of_number d) (map (with_number action) rows)) is
    ∙ ap (λ xs. Some (record { schema = s; objects = row }) ∷ xs) (named-rows d action s rows is)

filter-map : (at : Setting) (s : SchemaTree) (rows : List (List ℕ))
    → filter (is_kept at) (map (λ objects. record { schema = s; objects = objects }) rows) ≡ map (λ objects. record { schema = s; objects = objects }) (kept_among at s rows)
filter-map at s [] = refl
filter-map at s (row ∷ rows) = go (is_kept at (record { schema = s; objects = row })) (filter-map at s rows)
  where
    f : List ℕ → InstanceTree
    f objects = record { schema = s; objects = objects }

    go : (b : Bool) → filter (is_kept at) (map f rows) ≡ map f (kept_among at s rows)
        → cond b (f row ∷ filter (is_kept at) (map f rows)) (filter (is_kept at) (map f rows)) ≡ map f (cond b (row ∷ kept_among at s rows) (kept_among at s rows))
    go true e = ap (λ xs. f row ∷ xs) e
    go false e = e

pub length_kept_of : (at : Setting) (s : SchemaTree) → length (kept_of at s) ≡ length (kept_objects at s)
length_kept_of at s =
    ap (λ xs. length xs) (filter-map at s (bindings at.objects s.parameters))
    ∙ length-map (kept_objects at s) (λ objects. record { schema = s; objects = objects })

-- the actions that are left begin with the one that has the number
actions-next : (at : Setting) (d : DomainTree) (i : ℕ) (s : SchemaTree) → i < length d.actions → get_or d.actions i s ≡ s
    → flat_map (kept_of at) (drop i d.actions) ≡ kept_of at s ++ flat_map (kept_of at) (drop (i + 1) d.actions)
actions-next at d i s within is =
    ap (flat_map (kept_of at)) (drop-cons d.actions i s within)
    ∙ ap (λ t. kept_of at t ++ flat_map (kept_of at) (drop (suc i) d.actions)) is
    ∙ ap (λ k. kept_of at s ++ flat_map (kept_of at) (drop k d.actions)) (sym (add-one i))

-- the instances of one action more
pub add_action : (at : Setting) (d : DomainTree) (i : ℕ) (s : SchemaTree) (old new : List Instance) (whole : List (Option InstanceTree))
    → i < length d.actions → get_or d.actions i s ≡ s
    → map numbered new ≡ map numbered old ++ map (with_number i) (kept_objects at s)
    → map (instance_of d) old ++ map Some (flat_map (kept_of at) (drop i d.actions)) ≡ whole
    → map (instance_of d) new ++ map Some (flat_map (kept_of at) (drop (i + 1) d.actions)) ≡ whole
add_action at d i s old new whole within is added before =
    let rest : List InstanceTree = flat_map (kept_of at) (drop (i + 1) d.actions) in
    let rows : List (List ℕ) = kept_objects at s in
    let f : List ℕ → InstanceTree = λ objects. record { schema = s; objects = objects } in
    let got : slice_get d.actions i ≡ Some s = slice_get-get_or d.actions i s within ∙ ap Some is in
    let here : map (instance_of d) new ≡ map (instance_of d) old ++ map Some (kept_of at s) =
    named d new ∙ ap (map (of_number d)) added ∙ map-append (of_number d) (map numbered old) (map (with_number i) rows)
    ∙ ap (λ xs. xs ++ map (of_number d) (map (with_number i) rows)) (sym (named d old))
    ∙ ap (λ xs. map (instance_of d) old ++ xs) (named-rows d i s rows got)
    ∙ ap (λ xs. map (instance_of d) old ++ map Some xs) (sym (filter-map at s (bindings at.objects s.parameters))) in
    ap (λ xs. xs ++ map Some rest) here
    ∙ append_assoc (map (instance_of d) old) (map Some (kept_of at s)) (map Some rest)
    ∙ ap (λ xs. map (instance_of d) old ++ xs) (sym (map-append Some (kept_of at s) rest))
    ∙ ap (λ xs. map (instance_of d) old ++ map Some xs) (sym (actions-next at d i s within is))
    ∙ before

-- so many are too many
pub too_many : (at : Setting) (d : DomainTree) (i most : ℕ) (s : SchemaTree) (old : List Instance) (fits : Bool)
    → i < length d.actions → get_or d.actions i s ≡ s
    → fits ≡ nat_le (length old + length (kept_objects at s)) most → fits ≡ false
    → map (instance_of d) old ++ map Some (flat_map (kept_of at) (drop i d.actions)) ≡ map Some (kept_by at d)
    → false ≡ nat_le (length (kept_by at d)) most
too_many at d i most s old fits in-range is counted unfit before =
    let rest : List InstanceTree = flat_map (kept_of at) (drop (i + 1) d.actions) in
    let more : most < length old + length (kept_objects at s) = is_above (length old + length (kept_objects at s)) most fits counted unfit in
    let total : length old + length (flat_map (kept_of at) (drop i d.actions)) ≡ length (kept_by at d) =
    sym (length-append (map (instance_of d) old) (map Some (flat_map (kept_of at) (drop i d.actions)))
    ∙ ap (λ k. k + length (map Some (flat_map (kept_of at) (drop i d.actions)))) (length-map old (instance_of d))
    ∙ ap (λ k. length old + k) (length-map (flat_map (kept_of at) (drop i d.actions)) Some))
    ∙ ap (λ xs. length xs) before ∙ length-map (kept_by at d) Some in
    let split : length (flat_map (kept_of at) (drop i d.actions)) ≡ length (kept_of at s) + length rest =
    ap (λ xs. length xs) (actions-next at d i s in-range is) ∙ length-append (kept_of at s) rest in
    let same : length (kept_of at s) ≡ length (kept_objects at s) = length_kept_of at s in
    above (length (kept_by at d)) most (omega arith)

-- the tree of an action with a number
pub schema_at : (schemas : List Schema) (i : ℕ) (s : Schema) → i < length schemas → s ≡ get_or schemas i s
    → (i < length (map schema_value schemas)) × (get_or (map schema_value schemas) i (schema_value s) ≡ schema_value s)
schema_at schemas i s inside is =
    (subst (λ k. i < k) (sym (length-map schemas schema_value)) inside, go schemas i inside ∙ ap schema_value (sym is))
  where
    go : (xs : List Schema) (k : ℕ) → k < length xs → get_or (map schema_value xs) k (schema_value s) ≡ schema_value (get_or xs k s)
    go [] k h = absurd (omega arith)
    go (x ∷ xs) zero h = refl
    go (x ∷ xs) (suc k) h = go xs k (omega arith)
