-- The numbers of types and of their parents.
use Rattle.std.proofs.Common.{◌≡◌, ℕ, suc, ◌+◌, ◌-◌, ◌<◌, ◌≤◌, Bool, true, false, not, List, [], ◌∷◌, ◌++◌, map, length, get_or, refl, sym, ◌∙◌, ap, arith, length-append, replicate, All, Option, Some, None, codes, drop, drop-cons, add-one, append_assoc}
use Rattle.std.specs.List.{list_any, filter, fold, range_with_len}
use Rattle.std.specs.Option.{unwrap_or}
use Rattle.std.specs.Str.{bytes_eq}
use Rattle.std.proofs.lemmas.List.{length-replicate}
use Rattle.std.proofs.lemmas.List.Elements.{All-nil, All-cons, All-append, All-map, All-replicate}
use Rattle.std.proofs.lemmas.List.Quantifiers.{position-Some}
use Rattle.std.proofs.lemmas.List.FromFn.{get_or-map-range_with_len}
use Rattle.pddl_ast.specs.Known.{number_in}
use Rattle.pddl_ast.specs.TypedLists.{Group, names_of, type_number}
use Rattle.pddl_ast.specs.Environment.{group_value}
use Rattle.pddl_ast.specs.declared.typed_lists.TypedGroup.{TypedGroup}
use Rattle.pddl_domain.specs.Ancestors.{is_own_ancestor}
use Rattle.pddl_domain.specs.Types as specs

pub with_name-grows : (names : List (List ℕ)) (w : List ℕ) → length names ≤ length (specs.with_name names w)
with_name-grows names w = by (list_any (bytes_eq w) names) refl
  where
    by : (b : Bool) → list_any (bytes_eq w) names ≡ b → length names ≤ length (specs.with_name names w)
    by true e = rw e (omega arith)
    by false e = rw e (omega (arith, length-append names (w ∷ [])))

pub fold-grows : (ws names : List (List ℕ)) → length names ≤ length (fold specs.with_name names ws)
fold-grows [] names = omega arith
fold-grows (w ∷ ws) names =
    let one = with_name-grows names w in
    let more = fold-grows ws (specs.with_name names w) in
    omega (arith, one, more)

-- there is `object`
pub some_type : (groups : List Group) → 0 < length (specs.type_names groups)
some_type groups = let h = fold-grows (names_of groups ++ specs.parent_words groups) (codes "object" ∷ []) in omega (arith, h)

pub length-with_zeros : (n : ℕ) (xs : List ℕ) → length (specs.with_zeros n xs) ≡ length xs + (n - length xs)
length-with_zeros n xs = length-append xs (replicate (n - length xs) 0) ∙ ap (λ k. length xs + k) (length-replicate (n - length xs) 0)

-- each type has a parent
pub types_have_parents : (groups : List Group) → length (specs.type_names groups) ≤ length (specs.type_parents groups)
types_have_parents groups =
    let e = length-with_zeros (length (specs.type_names groups)) (0 ∷ specs.left_parents (specs.type_names groups) groups) in
    omega (arith, e)

number_or_zero : (names : List (List ℕ)) (w : List ℕ) (o : Option ℕ) → 0 < length names → number_in names w ≡ o → unwrap_or o 0 < length names
number_or_zero names w None some e = some
number_or_zero names w (Some i) some e = (position-Some (bytes_eq w) names i [] e).0

-- a type's number is that of a type
pub type_number_below : (names : List (List ℕ)) (w : List ℕ) → 0 < length names → type_number names w < length names
type_number_below names w some = number_or_zero names w (number_in names w) some refl

pub looping-is : (names : List (List ℕ)) (parents : List ℕ) (w : List ℕ) (loops : List Bool) → 0 < length names → length names ≤ length parents
    → loops ≡ map (is_own_ancestor parents) (range_with_len 0 (length parents)) → get_or loops (type_number names w) false ≡ is_own_ancestor parents (type_number names w)
looping-is names parents w loops some listed is =
    let low = type_number_below names w some in
    rw is (get_or-map-range_with_len (is_own_ancestor parents) 0 (length parents) (type_number names w) (type_number names w) false (omega (arith, low)) (omega arith))

left_parents_below : (names : List (List ℕ)) (groups : List Group) → 0 < length names → All (λ t. t < length names) (specs.left_parents names groups)
left_parents_below names [] some = All-nil (λ t. t < length names)
left_parents_below names (g ∷ gs) some =
    All-append (λ t. t < length names) (map (λ name. type_number names g.type_word) (filter (λ name. not (specs.is_object name)) g.names)) (specs.left_parents names gs)
    (All-map (λ t. t < length names) (λ name. type_number names g.type_word) (filter (λ name. not (specs.is_object name)) g.names) (λ k d h. type_number_below names g.type_word some))
    (left_parents_below names gs some)

with_zeros-below : (m n : ℕ) (xs : List ℕ) → 0 < m → All (λ t. t < m) xs → All (λ t. t < m) (specs.with_zeros n xs)
with_zeros-below m n xs some h = All-append (λ t. t < m) xs (replicate (n - length xs) 0) h (All-replicate (λ t. t < m) (n - length xs) 0 some)

-- each parent is a type
pub parents_below : (groups : List Group) → All (λ t. t < length (specs.type_names groups)) (specs.type_parents groups)
parents_below groups =
    let some = some_type groups in
    with_zeros-below (length (specs.type_names groups)) (length (specs.type_names groups)) (0 ∷ specs.left_parents (specs.type_names groups) groups) some
    (All-cons (λ t. t < length (specs.type_names groups)) 0 (specs.left_parents (specs.type_names groups) groups) some (left_parents_below (specs.type_names groups) groups some))

pub parents_are_types : (groups : List Group) → All (λ t. t < length (specs.type_parents groups)) (specs.type_parents groups)
parents_are_types groups k d h =
    let low = parents_below groups k d h in
    let more = types_have_parents groups in
    omega (arith, low, more)

-- the parents of one group more
pub one_more_group : (names : List (List ℕ)) (done new : List ℕ) (groups : List TypedGroup) (k : ℕ) (g : TypedGroup) (number : ℕ)
    → k < length groups → g ≡ get_or groups k g → number ≡ type_number names g.type_word
    → new ≡ done ++ map (λ name. number) (filter (λ name. not (specs.is_object name)) g.names.items)
    → done ++ specs.left_parents names (map group_value (drop k groups)) ≡ new ++ specs.left_parents names (map group_value (drop (k + 1) groups))
one_more_group names done new groups k g number inside item is pushed =
    let next : drop k groups ≡ g ∷ drop (k + 1) groups = rw add-one (drop-cons groups k g inside ∙ ap (λ x. x ∷ drop (suc k) groups) (sym item)) in
    let here = map (λ name. type_number names g.type_word) (filter (λ name. not (specs.is_object name)) g.names.items) in
    let grown : new ≡ done ++ here = pushed ∙ ap (λ n. done ++ map (λ name. n) (filter (λ name. not (specs.is_object name)) g.names.items)) is in
    ap (λ gs. done ++ specs.left_parents names (map group_value gs)) next
    ∙ (sym (append_assoc done here (specs.left_parents names (map group_value (drop (k + 1) groups))))
    ∙ ap (λ xs. xs ++ specs.left_parents names (map group_value (drop (k + 1) groups))) (sym grown))
