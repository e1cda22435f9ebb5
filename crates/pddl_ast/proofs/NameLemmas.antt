-- Names in the order of their numbers: a table of bytes answers as the list of the names does.
use Rattle.std.proofs.Common.{◌≡◌, ℕ, ◌+◌, Bool, true, false, cond, List, [], ◌∷◌, ◌++◌, map, length, refl, ap, sym, ◌∙◌, Some, None, Option, if◌then◌else◌, ◌||◌, not, ◌<◌, take, get_or, arith}
use Rattle.std.specs.Prelude.{position, nat_lt}
use Rattle.std.specs.List.{list_any, position_or_len}
use Rattle.std.specs.Str.{bytes_eq}
use Rattle.std.specs.declared.vec.Vec.{Vec}
use Rattle.std.specs.declared.alloc.Global.{Global}
use Rattle.std.proofs.lemmas.List.{reverse-append, length-reverse, length-map}
use Rattle.std.proofs.lemmas.List.{append_assoc, append-nil, take_more, length-take-le}
use Rattle.pddl_ast.specs.TypedLists.{names_of}
use Rattle.pddl_ast.specs.Environment.{group_value}
use Rattle.pddl_ast.specs.declared.typed_lists.TypedGroup.{TypedGroup}
use Rattle.pddl_ast.specs.Known.{number_in, number_from_inside, variable_number}

abbrev pub items_of : List (Vec ℕ Global) → List (List ℕ)
items_of keys = map (λ (k : Vec ℕ Global). k.items) keys

abbrev pub spelled : List ℕ → Vec ℕ Global → Bool
spelled name = λ k. bytes_eq name k.items

pub any_name : (name : List ℕ) (keys : List (Vec ℕ Global)) → list_any (spelled name) keys ≡ list_any (bytes_eq name) (items_of keys)
any_name name [] = refl
any_name name (k ∷ keys) = ap (λ b. bytes_eq name k.items || b) (any_name name keys)

pub name_place : (name : List ℕ) (keys : List (Vec ℕ Global)) → position_or_len (spelled name) keys ≡ position_or_len (bytes_eq name) (items_of keys)
name_place name [] = refl
name_place name (k ∷ keys) = ap (λ n. cond (not (bytes_eq name k.items)) (1 + n) 0) (name_place name keys)

pub name_number : (name : List ℕ) (keys : List (Vec ℕ Global)) → position (spelled name) keys ≡ number_in (items_of keys) name
name_number name keys =
    ap (λ n. cond (nat_lt n (length keys)) (Some n) None) (name_place name keys)
    ∙ ap (λ m. cond (nat_lt (position_or_len (bytes_eq name) (items_of keys)) m) (Some (position_or_len (bytes_eq name) (items_of keys))) None)
    (sym (length-map keys (λ (k : Vec ℕ Global). k.items)))

pub items_push : (keys : List (Vec ℕ Global)) (k : Vec ℕ Global) → items_of (keys ++ k ∷ []) ≡ items_of keys ++ k.items ∷ []
items_push [] k = refl
items_push (j ∷ keys) k = ap (λ l. j.items ∷ l) (items_push keys k)

-- one more variable, inside the others
pub variable_push : (scope : List (List ℕ)) (inner name : List ℕ)
    → variable_number (scope ++ inner ∷ []) name ≡ (if bytes_eq name inner then Some (length scope) else variable_number scope name)
variable_push scope inner name =
    ap (λ l. number_from_inside l name) (reverse-append scope (inner ∷ []))
    ∙ ap (λ n. if bytes_eq name inner then Some n else variable_number scope name) (length-reverse scope)

-- what a look-up in the table of these keys says of the list of names
pub table_contains : (names : List (List ℕ)) (keys : List (Vec ℕ Global)) (name bytes : List ℕ) (r : Bool)
    → names ≡ items_of keys → bytes ≡ name → r ≡ list_any (spelled bytes) keys → r ≡ list_any (bytes_eq name) names
table_contains names keys name bytes r view same found =
    found ∙ (any_name bytes keys ∙ (ap (λ w. list_any (bytes_eq w) (items_of keys)) same ∙ ap (list_any (bytes_eq name)) (sym view)))

pub table_number : (names : List (List ℕ)) (keys : List (Vec ℕ Global)) (name bytes : List ℕ) (r : Option ℕ)
    → names ≡ items_of keys → bytes ≡ name → r ≡ position (spelled bytes) keys → r ≡ number_in names name
table_number names keys name bytes r view same found =
    found ∙ (name_number bytes keys ∙ (ap (number_in (items_of keys)) same ∙ ap (λ l. number_in l name) (sym view)))

pub table_adds : (names new : List (List ℕ)) (keys after : List (Vec ℕ Global)) (name : List ℕ) (k : Vec ℕ Global)
    → names ≡ items_of keys → new ≡ items_of after → k.items ≡ name
    → after ≡ (if list_any (spelled k.items) keys then keys else keys ++ k ∷ [])
    → new ≡ (if list_any (bytes_eq name) names then names else names ++ name ∷ [])
table_adds names new keys after name k view shown same grows =
    let found : list_any (spelled k.items) keys ≡ list_any (bytes_eq name) names = table_contains names keys name k.items (list_any (spelled k.items) keys) view same refl in
    shown ∙ (ap items_of grows ∙ (ap (λ b. items_of (if b then keys else keys ++ k ∷ [])) found ∙ both (list_any (bytes_eq name) names)))
  where
    both : (b : Bool) → items_of (if b then keys else keys ++ k ∷ []) ≡ (if b then names else names ++ name ∷ [])
    both true = sym view
    both false = items_push keys k ∙ (ap (λ l. l ++ k.items ∷ []) (sym view) ∙ ap (λ w. names ++ w ∷ []) same)

-- the names of one more group
pub names_push : (scope : List (List ℕ)) (gs : List TypedGroup) (g : TypedGroup)
    → (scope ++ names_of (map group_value gs)) ++ g.names.items ≡ scope ++ names_of (map group_value (gs ++ g ∷ []))
names_push scope gs g = append_assoc scope (names_of (map group_value gs)) g.names.items ∙ ap (λ l. scope ++ l) (push gs)
  where
    push : (gs : List TypedGroup) → names_of (map group_value gs) ++ g.names.items ≡ names_of (map group_value (gs ++ g ∷ []))
    push [] = sym (append-nil g.names.items)
    push (h ∷ gs) = append_assoc h.names.items (names_of (map group_value gs)) g.names.items ∙ ap (λ l. h.names.items ++ l) (push gs)

-- the variables up to one, and with it
pub variable_step : (scope : List (List ℕ)) (name item : List ℕ) (k : ℕ) → k < length scope → item ≡ get_or scope k item
    → variable_number (take (k + 1) scope) name ≡ (if bytes_eq name item then Some k else variable_number (take k scope) name)
variable_step scope name item k h at =
    let len : length (take k scope) ≡ k = length-take-le k scope (omega arith) in
    ap (λ l. variable_number l name) (take_more scope k item h)
    ∙ (variable_push (take k scope) (get_or scope k item) name
    ∙ (ap (λ w. if bytes_eq name w then Some (length (take k scope)) else variable_number (take k scope) name) (sym at)
    ∙ ap (λ n. if bytes_eq name item then Some n else variable_number (take k scope) name) len))
