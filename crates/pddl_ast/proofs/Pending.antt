-- What a reader of a typed list has read: one more name, and one more group.
use Rattle.std.proofs.Common.{◌≡◌, ℕ, List, [], ◌∷◌, ◌++◌, map, refl, ap, sym, ◌∙◌, ◌+◌, ◌<◌, length, take, get_or}
use Rattle.std.proofs.lemmas.List.{append_assoc, append-nil, take_more}
use Rattle.pddl_ast.specs.TypedLists.{Group, names_of, all_seen, seen_after, types_of, type_number}
use Rattle.pddl_ast.specs.Environment.{group_value}
use Rattle.pddl_ast.specs.declared.typed_lists.Declares.{Declares}
use Rattle.pddl_ast.specs.declared.typed_lists.TypedGroup.{TypedGroup}

pub all_seen_push : (declares : Declares) (names : List (List ℕ)) (name : List ℕ) (seen : List (List ℕ))
    → all_seen declares (names ++ name ∷ []) seen ≡ seen_after declares name (all_seen declares names seen)
all_seen_push declares [] name seen = refl
all_seen_push declares (n ∷ names) name seen = all_seen_push declares names name (seen_after declares n seen)

pub groups_push : (gs : List TypedGroup) (g : TypedGroup) (rest : List Group)
    → map group_value (gs ++ g ∷ []) ++ rest ≡ map group_value gs ++ (group_value g ∷ rest)
groups_push [] g rest = refl
groups_push (h ∷ gs) g rest = ap (λ l. group_value h ∷ l) (groups_push gs g rest)

pub names_close : (gs : List TypedGroup) (g : TypedGroup) → names_of (map group_value (gs ++ g ∷ [])) ≡ names_of (map group_value gs) ++ g.names.items
names_close [] g = append-nil g.names.items
names_close (h ∷ gs) g = ap (λ l. h.names.items ++ l) (names_close gs g) ∙ sym (append_assoc h.names.items (names_of (map group_value gs)) g.names.items)

pub types_push : (types : List (List ℕ)) (gs : List TypedGroup) (g : TypedGroup)
    → types_of types (map group_value (gs ++ g ∷ [])) ≡ types_of types (map group_value gs) ++ map (λ name. type_number types g.type_word) g.names.items
types_push types [] g = append-nil (map (λ name. type_number types g.type_word) g.names.items)
types_push types (h ∷ gs) g =
    ap (λ l. map (λ name. type_number types h.type_word) h.names.items ++ l) (types_push types gs g)
    ∙ sym (append_assoc (map (λ name. type_number types h.type_word) h.names.items) (types_of types (map group_value gs)) (map (λ name. type_number types g.type_word) g.names.items))

pub names_closed : (before after : List TypedGroup) (names : List (List ℕ)) (g : TypedGroup) → after ≡ before ++ g ∷ [] → g.names.items ≡ names
    → names_of (map group_value after) ≡ names_of (map group_value before) ++ names
names_closed before after names g grows same =
    ap (λ gs. names_of (map group_value gs)) grows ∙ (names_close before g ∙ ap (λ l. names_of (map group_value before) ++ l) same)

pub names_none : (gs : List TypedGroup) (names : List (List ℕ)) → names ≡ [] → names_of (map group_value gs) ≡ names_of (map group_value gs) ++ names
names_none gs names none = sym (append-nil (names_of (map group_value gs))) ∙ ap (λ l. names_of (map group_value gs) ++ l) (sym none)

pub names_moved : (before after : List TypedGroup) (names later : List (List ℕ)) (g : TypedGroup) → after ≡ before ++ g ∷ [] → g.names.items ≡ names → later ≡ []
    → names_of (map group_value after) ++ later ≡ names_of (map group_value before) ++ names
names_moved before after names later g grows same none = sym (names_none after later none) ∙ names_closed before after names g grows same

pub types_step : (types : List (List ℕ)) (gs : List TypedGroup) (i : ℕ) (g : TypedGroup) (number : ℕ) (before after : List ℕ) → i < length gs → g ≡ get_or gs i g
    → number ≡ type_number types g.type_word → before ≡ types_of types (map group_value (take i gs)) → after ≡ before ++ map (λ (name : List ℕ). number) g.names.items
    → after ≡ types_of types (map group_value (take (i + 1) gs))
types_step types gs i g number before after h at num same grows =
    let t : take (i + 1) gs ≡ take i gs ++ g ∷ [] = take_more gs i g h ∙ ap (λ x. take i gs ++ x ∷ []) (sym at) in
    grows
    ∙ (ap (λ n. before ++ map (λ (name : List ℕ). n) g.names.items) num
    ∙ (ap (λ l. l ++ map (λ (name : List ℕ). type_number types g.type_word) g.names.items) same
    ∙ (sym (types_push types (take i gs) g)
    ∙ ap (λ l. types_of types (map group_value l)) (sym t))))
