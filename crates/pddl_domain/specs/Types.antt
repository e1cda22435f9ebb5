-- The fourth and the fifth pass over a domain's text: its types, and that no type is its own
-- ancestor.
--
-- The types are numbered: `object` is 0; then come the names on the left of `:types`, in the order
-- of the text; then the other parents, by their first occurrence. The parent of a name on the left
-- is the type word of its group; that of every other type is `object`, which is its own parent too.
-- `object` on the left is left out, and so is the type word of a group that has nothing else on the
-- left.
use Rattle.std.specs.Prelude.{ℕ, ◌-◌, Bool, false, ◌&&◌, not, if◌then◌else◌, List, [], ◌∷◌}
use Rattle.std.specs.Prelude.{◌++◌, length, map, codes, replicate}
use Rattle.std.specs.List.{list_any, list_all, filter, fold}
use Rattle.std.specs.Str.{bytes_eq}
use Rattle.sexpr_text.specs.declared.forms.Span.{Span}
use Rattle.sexpr_text.specs.declared.faults.FaultKind.TheVariants.{TypeLoop}
use Rattle.sexpr_text.specs.Forest.{Forest, nothing, word, group}
use Rattle.sexpr_text.specs.Flaws.{Flaw, flaw_at}
use Rattle.pddl_ast.specs.declared.typed_lists.Declares.TheVariants.{Types}
use Rattle.pddl_ast.specs.Words.{is_dash}
use Rattle.pddl_ast.specs.TypedLists.{Group, typed_list_flaws, typed_groups, names_of, type_number}
use Rattle.pddl_domain.specs.Ancestors.{is_own_ancestor}

-- what is wrong in the `:types` section, as a typed list
abbrev pub types_flaws : Forest → List Flaw
types_flaws list = typed_list_flaws Types [] [] list

abbrev pub is_object : List ℕ → Bool
is_object w = bytes_eq w (codes "object")

-- names, with one more where it is new
abbrev pub with_name : List (List ℕ) → List ℕ → List (List ℕ)
with_name names w = if list_any (bytes_eq w) names then names else names ++ w ∷ []

-- the type words of the groups that have another name than `object`
abbrev pub parent_words : List Group → List (List ℕ)
parent_words [] = []
parent_words (g ∷ gs) =
    (if list_all is_object g.names then [] else g.type_word ∷ []) ++ parent_words gs

-- the names of the types by their numbers: each where it occurs first
abbrev pub type_names : List Group → List (List ℕ)
type_names groups = fold with_name (codes "object" ∷ []) (names_of groups ++ parent_words groups)

-- the number of the parent of each name of the groups but `object`
abbrev pub left_parents : List (List ℕ) → List Group → List ℕ
left_parents names [] = []
left_parents names (g ∷ gs) =
    map (λ name. type_number names g.type_word) (filter (λ name. not (is_object name)) g.names)
    ++ left_parents names gs

-- numbers, and zeros after them up to so many in all
abbrev pub with_zeros : ℕ → List ℕ → List ℕ
with_zeros n xs = xs ++ replicate (n - length xs) 0

-- the parents of the types by their numbers
abbrev pub type_parents : List Group → List ℕ
type_parents groups =
    with_zeros (length (type_names groups)) (0 ∷ left_parents (type_names groups) groups)

-- whether a name on the left is its own ancestor
abbrev pub is_looping : List (List ℕ) → List ℕ → List ℕ → Bool
is_looping names parents name =
    not (is_object name) && is_own_ancestor parents (type_number names name)

-- the flaw of a word of the `:types` section that is a name on the left and its own ancestor. A
-- word after `-` is a type word
abbrev pub word_loop_flaws : List (List ℕ) → List ℕ → Bool → Span → List ℕ → List Flaw
word_loop_flaws names parents after_dash span w =
    if not after_dash && not (is_dash w) && is_looping names parents w then flaw_at span TypeLoop
    ∷ [] else []

-- the same of each word of a row
abbrev pub loop_flaws_from : List (List ℕ) → List ℕ → Bool → Forest → List Flaw
loop_flaws_from names parents after_dash nothing = []
loop_flaws_from names parents after_dash (group span parts rest) =
    loop_flaws_from names parents false rest
loop_flaws_from names parents after_dash (word span w rest) =
    word_loop_flaws names parents after_dash span w
    ++ loop_flaws_from names parents (not after_dash && is_dash w) rest

-- where the `:types` section has no flaw as a typed list: a flaw for each name on the left that is
-- its own ancestor
abbrev pub loop_flaws : Forest → List Flaw
loop_flaws list =
    loop_flaws_from (type_names (typed_groups list)) (type_parents (typed_groups list)) false list
