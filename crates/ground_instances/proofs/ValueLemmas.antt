-- Values of "both" and "one of them", one binding after another.
use Rattle.std.proofs.Common.{◌≡◌, ℕ, ◌+◌, ◌<◌, ◌≤◌, true, false, List, [], ◌++◌, length, get_or, drop, take, map, Some, None, refl, ap, sym, ◌∙◌, add-one}
use Rattle.std.proofs.Math.Seq.{drop-cons, take-append_seam}
use Rattle.std.proofs.lemmas.List.{drop_all}
use Rattle.pddl_system.specs.ThreeValues.{Value as Known, value_and, value_or, value_of_all, value_of_any}
use Rattle.ground_instances.specs.Values.{known_value}
use Rattle.ground_instances.specs.declared.values.Value.{Value}
use Rattle.ground_instances.specs.declared.values.Value.TheVariants.{No, Unknown, Yes}
use Rattle.ground_instances.specs.contracts.values.Value.{the_type}
use denote.Enum.Bare.{sameb}

or_assoc : (u v w : Known) → value_or (value_or u v) w ≡ value_or u (value_or v w)
or_assoc (Some true) v w = refl
or_assoc (Some false) v w = refl
or_assoc None (Some true) w = refl
or_assoc None (Some false) w = refl
or_assoc None None (Some true) = refl
or_assoc None None (Some false) = refl
or_assoc None None None = refl

and_assoc : (u v w : Known) → value_and (value_and u v) w ≡ value_and u (value_and v w)
and_assoc (Some false) v w = refl
and_assoc (Some true) v w = refl
and_assoc None (Some false) w = refl
and_assoc None (Some true) w = refl
and_assoc None None (Some false) = refl
and_assoc None None (Some true) = refl
and_assoc None None None = refl

or_nothing : (v : Known) → value_or v (Some false) ≡ v
or_nothing (Some true) = refl
or_nothing (Some false) = refl
or_nothing None = refl

and_nothing : (v : Known) → value_and v (Some true) ≡ v
and_nothing (Some true) = refl
and_nothing (Some false) = refl
and_nothing None = refl

pub is_yes : (v : Value) → sameb the_type v Yes ≡ true → known_value v ≡ Some true
is_yes No e = cc
is_yes Unknown e = cc
is_yes Yes e = refl

pub is_no : (v : Value) → sameb the_type v No ≡ true → known_value v ≡ Some false
is_no No e = refl
is_no Unknown e = cc
is_no Yes e = cc

-- one binding more
pub or_step : (f : List ℕ → Known) (rows : List (List ℕ)) (n : ℕ) (before part next whole : Known) → n < length rows
    → next ≡ value_or before part → part ≡ f (get_or rows n []) → value_or before (value_of_any (map f (drop n rows))) ≡ whole
    → value_or next (value_of_any (map f (drop (n + 1) rows))) ≡ whole
or_step f rows n before part next whole within joined valued known =
    ap (λ v. value_or v (value_of_any (map f (drop (n + 1) rows)))) (joined ∙ ap (value_or before) valued)
    ∙ or_assoc before (f (get_or rows n [])) (value_of_any (map f (drop (n + 1) rows)))
    ∙ ap (λ k. value_or before (value_or (f (get_or rows n [])) (value_of_any (map f (drop k rows))))) (add-one n)
    ∙ ap (λ rest. value_or before (value_of_any (map f rest))) (sym (drop-cons rows n [] within))
    ∙ known

pub and_step : (f : List ℕ → Known) (rows : List (List ℕ)) (n : ℕ) (before part next whole : Known) → n < length rows
    → next ≡ value_and before part → part ≡ f (get_or rows n []) → value_and before (value_of_all (map f (drop n rows))) ≡ whole
    → value_and next (value_of_all (map f (drop (n + 1) rows))) ≡ whole
and_step f rows n before part next whole within joined valued known =
    ap (λ v. value_and v (value_of_all (map f (drop (n + 1) rows)))) (joined ∙ ap (value_and before) valued)
    ∙ and_assoc before (f (get_or rows n [])) (value_of_all (map f (drop (n + 1) rows)))
    ∙ ap (λ k. value_and before (value_and (f (get_or rows n [])) (value_of_all (map f (drop k rows))))) (add-one n)
    ∙ ap (λ rest. value_and before (value_of_all (map f rest))) (sym (drop-cons rows n [] within))
    ∙ known

-- no binding more
pub or_end : (f : List ℕ → Known) (rows : List (List ℕ)) (n : ℕ) (before whole : Known) → length rows ≤ n
    → value_or before (value_of_any (map f (drop n rows))) ≡ whole → before ≡ whole
or_end f rows n before whole past known =
    sym (or_nothing before) ∙ ap (λ rest. value_or before (value_of_any (map f rest))) (sym (drop_all n rows past)) ∙ known

pub and_end : (f : List ℕ → Known) (rows : List (List ℕ)) (n : ℕ) (before whole : Known) → length rows ≤ n
    → value_and before (value_of_all (map f (drop n rows))) ≡ whole → before ≡ whole
and_end f rows n before whole past known =
    sym (and_nothing before) ∙ ap (λ rest. value_and before (value_of_all (map f rest))) (sym (drop_all n rows past)) ∙ known

-- the scope is as before where the variables leave it
pub left_again : (outer before row inner after : List ℕ) (n len : ℕ) → n ≡ len → len ≡ length outer → before ≡ outer ++ row → inner ≡ before
    → after ≡ take n inner → after ≡ outer
left_again outer before row inner after n len counted measured bound kept left =
    left ∙ ap (take n) (kept ∙ bound) ∙ ap (λ k. take k (outer ++ row)) (counted ∙ measured) ∙ take-append_seam outer row
