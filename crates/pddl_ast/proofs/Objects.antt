-- The constants and the objects of typed lists: one group more, their names, and that they fit.
use Rattle.std.proofs.Common.{◌≡◌, ℕ, suc, ◌<◌, true, List, [], ◌∷◌, ◌++◌, map, length, refl, ap, sym, ◌∙◌, append_assoc, arith}
use Rattle.std.specs.Prelude.{All}
use Rattle.std.proofs.lemmas.List.{map-append, append-nil}
use Rattle.std.proofs.lemmas.List.Elements.{All-nil, All-cons, All-append}
use Rattle.sexpr_text.specs.Parts.{is_name}
use Rattle.pddl_ast.specs.declared.trees.Named.{Named}
use Rattle.pddl_ast.specs.declared.typed_lists.TypedGroup.{TypedGroup}
use Rattle.pddl_ast.specs.Environment.{group_value}
use Rattle.pddl_ast.specs.Fits.{names_of_objects}
use Rattle.pddl_ast.specs.TypedLists.{Group, type_number, names_of, of_type, objects_of}
use Rattle.pddl_ast.proofs.Fitting.{type_number-below}

objects-append : (types : List (List ℕ)) (gs hs : List Group) → objects_of types (gs ++ hs) ≡ objects_of types gs ++ objects_of types hs
objects-append types [] hs = refl
objects-append types (g ∷ gs) hs =
    ap (λ xs. map (of_type (type_number types g.type_word)) g.names ++ xs) (objects-append types gs hs)
    ∙ sym (append_assoc (map (of_type (type_number types g.type_word)) g.names) (objects_of types gs) (objects_of types hs))

pub objects-push : (types : List (List ℕ)) (gs : List TypedGroup) (g : TypedGroup)
    → objects_of types (map group_value (gs ++ g ∷ [])) ≡ objects_of types (map group_value gs) ++ map (of_type (type_number types g.type_word)) g.names.items
objects-push types gs g =
    ap (objects_of types) (map-append group_value gs (g ∷ []))
    ∙ (objects-append types (map group_value gs) (group_value g ∷ [])
    ∙ ap (λ xs. objects_of types (map group_value gs) ++ xs) (append-nil (map (of_type (type_number types g.type_word)) g.names.items)))

-- their names are those of the groups
names-of_type : (type_id : ℕ) (names : List (List ℕ)) → names_of_objects (map (of_type type_id) names) ≡ names
names-of_type type_id [] = refl
names-of_type type_id (n ∷ names) = ap (λ ns. n ∷ ns) (names-of_type type_id names)

pub names-objects : (types : List (List ℕ)) (groups : List Group) → names_of_objects (objects_of types groups) ≡ names_of groups
names-objects types [] = refl
names-objects types (g ∷ gs) =
    map-append (λ (n : Named). n.name) (map (of_type (type_number types g.type_word)) g.names) (objects_of types gs)
    ∙ (ap (λ ns. ns ++ names_of_objects (objects_of types gs)) (names-of_type (type_number types g.type_word) g.names)
    ∙ ap (λ ns. g.names ++ ns) (names-objects types gs))

-- where their names are names, they fit what is known
abbrev pub ObjectFits : ℕ → Named → Type 0
ObjectFits types n = (is_name n.name ≡ true) × (n.type_id < types)

abbrev pub IsNamed : List ℕ → Type 0
IsNamed w = is_name w ≡ true

group-fits : (types t : ℕ) (names : List (List ℕ)) → t < types → All IsNamed names → All (ObjectFits types) (map (of_type t) names)
group-fits types t [] lt h = All-nil (ObjectFits types)
group-fits types t (n ∷ names) lt h =
    All-cons (ObjectFits types) (of_type t n) (map (of_type t) names) (h 0 n (omega arith), lt) (group-fits types t names lt (λ k d below. h (suc k) d (omega arith)))

front : (xs ys : List (List ℕ)) → All IsNamed (xs ++ ys) → All IsNamed xs
front [] ys h = All-nil IsNamed
front (x ∷ xs) ys h = All-cons IsNamed x xs (h 0 x (omega arith)) (front xs ys (λ k d lt. h (suc k) d (omega arith)))

back : (xs ys : List (List ℕ)) → All IsNamed (xs ++ ys) → All IsNamed ys
back [] ys h = h
back (x ∷ xs) ys h = back xs ys (λ k d lt. h (suc k) d (omega arith))

pub objects-fit : (types : List (List ℕ)) (groups : List Group) → 0 < length types → All IsNamed (names_of groups)
    → All (ObjectFits (length types)) (objects_of types groups)
objects-fit types [] some h = All-nil (ObjectFits (length types))
objects-fit types (g ∷ gs) some h =
    All-append (ObjectFits (length types)) (map (of_type (type_number types g.type_word)) g.names) (objects_of types gs)
    (group-fits (length types) (type_number types g.type_word) g.names (type_number-below types g.type_word some) (front g.names (names_of gs) h))
    (objects-fit types gs some (back g.names (names_of gs) h))
