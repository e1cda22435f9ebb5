-- The types of a domain that is read fit: their names are words and differ, each has one parent,
-- and the chain of parents of each comes to `object`.
use Rattle.std.proofs.Common.{◌≡◌, ℕ, suc, ◌+◌, Bool, true, false, not, ◌||◌, List, [], ◌∷◌, ◌++◌, map, length, refl, sym, ◌∙◌, ap, subst, arith, All, append_assoc, length-append, if◌then◌else◌, codes}
use Rattle.std.specs.List.{list_any, list_all, filter, fold}
use Rattle.std.specs.Str.{bytes_eq}
use Rattle.std.proofs.lemmas.List.{length-map, append-nil}
use Rattle.std.proofs.lemmas.List.Elements.{All-nil, All-cons, All-append}
use Rattle.std.proofs.lemmas.List.Folds.{list_any-append}
use Rattle.std.proofs.lemmas.List.Sums.{fold-append}
use Rattle.sexpr_text.specs.declared.forms.Span.{Span}
use Rattle.sexpr_text.specs.Forest.{Forest, nothing, word, group}
use Rattle.sexpr_text.specs.Flaws.{Flaw}
use Rattle.pddl_ast.specs.declared.typed_lists.Declares.TheVariants.{Types}
use Rattle.pddl_ast.specs.Words.{is_dash}
use Rattle.pddl_ast.specs.Fits.{AreDistinct}
use Rattle.pddl_ast.specs.TypedLists.{Group, names_of, type_number, typed_groups, names_flaws, type_flaws, name_flaws, word_flaws, dash_flaws, seen_after, groups_after, typed_after, last_group, all_seen}
use Rattle.pddl_ast.proofs.Distinct.{or-first, or-both, other_way}
use Rattle.pddl_ast.proofs.Fitting.{no_second}
use Rattle.pddl_domain.specs.Types as specs
use Rattle.pddl_domain.proofs.TypeLemmas.{length-with_zeros}

or-second : (a b : Bool) → (a || b) ≡ false → b ≡ false
or-second true b h = absurd (cc)
or-second false b h = h

-- one more name that is new
pub distinct-push : (names : List (List ℕ)) (w : List ℕ) → AreDistinct names → list_any (bytes_eq w) names ≡ false → AreDistinct (names ++ w ∷ [])
distinct-push [] w h g = (refl, tt)
distinct-push (n ∷ names) w h g =
    let first : bytes_eq w n ≡ false = or-first (bytes_eq w n) (list_any (bytes_eq w) names) g in
    let others : list_any (bytes_eq w) names ≡ false = or-second (bytes_eq w n) (list_any (bytes_eq w) names) g in
    let end : list_any (bytes_eq n) (w ∷ []) ≡ false = or-both (bytes_eq n w) false (other_way w n first) refl in (
      list_any-append (bytes_eq n) names (w ∷ []) ∙ or-both (list_any (bytes_eq n) names) (list_any (bytes_eq n) (w ∷ [])) h.0 end,
      distinct-push names w h.1 others,
    )

with_name-distinct : (names : List (List ℕ)) (w : List ℕ) → AreDistinct names → AreDistinct (specs.with_name names w)
with_name-distinct names w h = go (list_any (bytes_eq w) names) refl
  where
    go : (b : Bool) → list_any (bytes_eq w) names ≡ b → AreDistinct (if b then names else names ++ w ∷ [])
    go true e = h
    go false e = distinct-push names w h e

fold-distinct : (ws names : List (List ℕ)) → AreDistinct names → AreDistinct (fold specs.with_name names ws)
fold-distinct [] names h = h
fold-distinct (w ∷ ws) names h = fold-distinct ws (specs.with_name names w) (with_name-distinct names w h)

-- the names of types differ
pub types-differ : (groups : List Group) → AreDistinct (specs.type_names groups)
types-differ groups = fold-distinct (names_of groups ++ specs.parent_words groups) (codes "object" ∷ []) (refl, tt)

fold-front : (ws names : List (List ℕ)) → (more : List (List ℕ)) × (fold specs.with_name names ws ≡ names ++ more)
fold-front [] names = ([], sym (append-nil names))
fold-front (w ∷ ws) names = go (list_any (bytes_eq w) names) (fold-front ws names) (fold-front ws (names ++ w ∷ []))
  where
    go : (b : Bool) → (more : List (List ℕ)) × (fold specs.with_name names ws ≡ names ++ more)
        → (more : List (List ℕ)) × (fold specs.with_name (names ++ w ∷ []) ws ≡ (names ++ w ∷ []) ++ more)
        → (more : List (List ℕ)) × (fold specs.with_name (if b then names else names ++ w ∷ []) ws ≡ names ++ more)
    go true same added = same
    go false same added = (w ∷ added.0, added.1 ∙ append_assoc names (w ∷ []) added.0)

abbrev pub NoDash : List ℕ → Type 0
NoDash w = is_dash w ≡ false

abbrev pub TypeWord : Group → Type 0
TypeWord g = is_dash g.type_word ≡ false

object-no_dash : is_dash (codes "object") ≡ false
unfolding is_dash
object-no_dash = refl

choose : {X : Type 0} (P : X → Type 0) (b : Bool) (fs gs : List Flaw) (x y : X) → (fs ≡ [] → P x) → (gs ≡ [] → P y)
    → (if b then fs else gs) ≡ [] → P (if b then x else y)
choose P true fs gs x y f g h = f h
choose P false fs gs x y f g h = g h

last-words : (names : List (List ℕ)) → All TypeWord (last_group names)
last-words [] = All-nil TypeWord
last-words (n ∷ names) = All-cons TypeWord (record { names = n ∷ names; type_word = codes "object" }) [] object-no_dash (All-nil TypeWord)

typed-word : (span : Span) (w : List ℕ) (rest : Forest) (seen names : List (List ℕ))
    → (names_flaws Types [] rest seen false ≡ [] → All TypeWord (groups_after rest []))
    → (b : Bool) → is_dash w ≡ b
    → (if b then dash_flaws span false rest ++ type_flaws Types [] rest seen else word_flaws Types [] span w ++ names_flaws Types [] rest seen false) ≡ []
    → All TypeWord (record { names = names; type_word = w } ∷ groups_after rest [])
typed-word span w rest seen names later true e h = absurd (cc)
typed-word span w rest seen names later false e h =
    All-cons TypeWord (record { names = names; type_word = w }) (groups_after rest []) e (later (no_second (word_flaws Types [] span w) (names_flaws Types [] rest seen false) h))

mutual
  -- type words are no `-`
  names-words : (list : Forest) (seen : List (List ℕ)) (named : Bool) (names : List (List ℕ)) → names_flaws Types [] list seen named ≡ []
      → All TypeWord (groups_after list names)
  names-words nothing seen named names h = last-words names
  names-words (group span parts rest) seen named names h = absurd (cc)
  names-words (word span w rest) seen named names h =
      choose (All TypeWord) (is_dash w) (dash_flaws span named rest ++ type_flaws Types [] rest seen) (name_flaws Types span w seen ++ names_flaws Types [] rest (seen_after Types w seen) true)
      (typed_after rest names) (groups_after rest (names ++ w ∷ []))
      (λ a. type-words rest seen names (no_second (dash_flaws span named rest) (type_flaws Types [] rest seen) a))
      (λ a. names-words rest (seen_after Types w seen) true (names ++ w ∷ []) (no_second (name_flaws Types span w seen) (names_flaws Types [] rest (seen_after Types w seen) true) a))
      h

  type-words : (list : Forest) (seen : List (List ℕ)) (names : List (List ℕ)) → type_flaws Types [] list seen ≡ [] → All TypeWord (typed_after list names)
  type-words nothing seen names h = All-nil TypeWord
  type-words (group span parts rest) seen names h = absurd (cc)
  type-words (word span w rest) seen names h =
      typed-word span w rest seen names (λ a. names-words rest seen false [] a) (is_dash w) refl h

pub group-words : (list : Forest) → specs.types_flaws list ≡ [] → All TypeWord (typed_groups list)
group-words list h = names-words list [] false [] h

Parents-words : (groups : List Group) → All TypeWord groups → All NoDash (specs.parent_words groups)
Parents-words [] h = All-nil NoDash
Parents-words (g ∷ gs) h =
    All-append NoDash (if list_all specs.is_object g.names then [] else g.type_word ∷ []) (specs.parent_words gs) (one (list_all specs.is_object g.names))
    (Parents-words gs (λ k d lt. h (suc k) d (omega arith)))
  where
    one : (b : Bool) → All NoDash (if b then [] else g.type_word ∷ [])
    one true = All-nil NoDash
    one false = All-cons NoDash g.type_word [] (h 0 g (omega arith)) (All-nil NoDash)

with_name-no_dash : (names : List (List ℕ)) (w : List ℕ) → All NoDash names → NoDash w → All NoDash (specs.with_name names w)
with_name-no_dash names w h g = go (list_any (bytes_eq w) names)
  where
    go : (b : Bool) → All NoDash (if b then names else names ++ w ∷ [])
    go true = h
    go false = All-append NoDash names (w ∷ []) h (All-cons NoDash w [] g (All-nil NoDash))

fold-no_dash : (ws names : List (List ℕ)) → All NoDash names → All NoDash ws → All NoDash (fold specs.with_name names ws)
fold-no_dash [] names h g = h
fold-no_dash (w ∷ ws) names h g =
    fold-no_dash ws (specs.with_name names w) (with_name-no_dash names w h (g 0 w (omega arith))) (λ k d lt. g (suc k) d (omega arith))

-- no type's name is `-`
pub types-no_dash : (groups : List Group) → All TypeWord groups → All NoDash (names_of groups) → All NoDash (specs.type_names groups)
types-no_dash groups h g =
    fold-no_dash (names_of groups ++ specs.parent_words groups) (codes "object" ∷ []) (All-cons NoDash (codes "object") [] object-no_dash (All-nil NoDash))
    (All-append NoDash (names_of groups) (specs.parent_words groups) g (Parents-words groups h))

-- a front of a list of different names
distinct-front : (xs ys : List (List ℕ)) → AreDistinct (xs ++ ys) → AreDistinct xs
distinct-front [] ys h = tt
distinct-front (x ∷ xs) ys h =
    (or-first (list_any (bytes_eq x) xs) (list_any (bytes_eq x) ys) (sym (list_any-append (bytes_eq x) xs ys) ∙ h.0), distinct-front xs ys h.1)

-- the last of different names is not among those before it
new-last : (names : List (List ℕ)) (w : List ℕ) → AreDistinct (names ++ w ∷ []) → list_any (bytes_eq w) names ≡ false
new-last [] w h = refl
new-last (n ∷ names) w h =
    let apart : list_any (bytes_eq n) (w ∷ []) ≡ false = or-second (list_any (bytes_eq n) names) (list_any (bytes_eq n) (w ∷ [])) (sym (list_any-append (bytes_eq n) names (w ∷ [])) ∙ h.0) in
    or-both (bytes_eq w n) (list_any (bytes_eq w) names) (other_way n w (or-first (bytes_eq n w) false apart)) (new-last names w h.1)

seen-step : (n : List ℕ) (names seen : List (List ℕ)) (b : Bool)
    → (more : List (List ℕ)) × (all_seen Types names seen ≡ seen ++ more)
    → (more : List (List ℕ)) × (all_seen Types names (seen ++ n ∷ []) ≡ (seen ++ n ∷ []) ++ more)
    → (more : List (List ℕ)) × (all_seen Types names (if b then seen else seen ++ n ∷ []) ≡ seen ++ more)
seen-step n names seen true same added = same
seen-step n names seen false same added = (n ∷ added.0, added.1 ∙ append_assoc seen (n ∷ []) added.0)

-- what is seen after names begins with what was seen before
pub seen-front : (names seen : List (List ℕ)) → (more : List (List ℕ)) × (all_seen Types names seen ≡ seen ++ more)
seen-front [] seen = ([], sym (append-nil seen))
seen-front (n ∷ names) seen = seen-step n names seen (specs.is_object n) (seen-front names seen) (seen-front names (seen ++ n ∷ []))

last-new : (n : List ℕ) (names seen : List (List ℕ)) → AreDistinct (all_seen Types names (seen ++ n ∷ [])) → list_any (bytes_eq n) seen ≡ false
last-new n names seen h =
    let front = seen-front names (seen ++ n ∷ []) in
    new-last seen n (distinct-front (seen ++ n ∷ []) front.0 (subst AreDistinct front.1 h))

table-step : (n : List ℕ) (names seen : List (List ℕ)) (b c : Bool)
    → (AreDistinct (all_seen Types names seen) → fold specs.with_name (codes "object" ∷ seen) names ≡ codes "object" ∷ all_seen Types names seen)
    → (AreDistinct (all_seen Types names (seen ++ n ∷ [])) → fold specs.with_name (codes "object" ∷ (seen ++ n ∷ [])) names ≡ codes "object" ∷ all_seen Types names (seen ++ n ∷ []))
    → (AreDistinct (all_seen Types names (seen ++ n ∷ [])) → c ≡ false)
    → AreDistinct (all_seen Types names (if b then seen else seen ++ n ∷ []))
    → fold specs.with_name (if b || c then codes "object" ∷ seen else codes "object" ∷ (seen ++ n ∷ [])) names ≡ codes "object" ∷ all_seen Types names (if b then seen else seen ++ n ∷ [])
table-step n names seen true c same added fresh h = same h
table-step n names seen false true same added fresh h = let e : true ≡ false = fresh h in absurd (cc)
table-step n names seen false false same added fresh h = added h

-- different names are all put into the table, but for `object`
pub table-seen : (names seen : List (List ℕ)) → AreDistinct (all_seen Types names seen)
    → fold specs.with_name (codes "object" ∷ seen) names ≡ codes "object" ∷ all_seen Types names seen
table-seen [] seen h = refl
table-seen (n ∷ names) seen h =
    table-step n names seen (specs.is_object n) (list_any (bytes_eq n) seen) (table-seen names seen) (table-seen names (seen ++ n ∷ [])) (last-new n names seen) h

abbrev pub other_names : List (List ℕ) → List (List ℕ)
other_names = filter (λ name. not (specs.is_object name))

other_names-append : (xs ys : List (List ℕ)) → other_names (xs ++ ys) ≡ other_names xs ++ other_names ys
other_names-append [] ys = refl
other_names-append (x ∷ xs) ys = go (specs.is_object x) (other_names-append xs ys)
  where
    go : (b : Bool) → other_names (xs ++ ys) ≡ other_names xs ++ other_names ys
        → (if not b then x ∷ other_names (xs ++ ys) else other_names (xs ++ ys)) ≡ (if not b then x ∷ other_names xs else other_names xs) ++ other_names ys
    go true e = e
    go false e = ap (λ zs. x ∷ zs) e

pub seen-length : (names seen : List (List ℕ)) → length (all_seen Types names seen) ≡ length seen + length (other_names names)
seen-length [] seen = omega arith
seen-length (n ∷ names) seen = go (specs.is_object n) (seen-length names seen) (seen-length names (seen ++ n ∷ []))
  where
    go : (b : Bool) → length (all_seen Types names seen) ≡ length seen + length (other_names names)
        → length (all_seen Types names (seen ++ n ∷ [])) ≡ length (seen ++ n ∷ []) + length (other_names names)
        → length (all_seen Types names (if b then seen else seen ++ n ∷ [])) ≡ length seen + length (if not b then n ∷ other_names names else other_names names)
    go true e f = e
    go false e f = omega (arith, f, length-append seen (n ∷ []))

pub left-length : (ts : List (List ℕ)) (groups : List Group) → length (specs.left_parents ts groups) ≡ length (other_names (names_of groups))
left-length ts [] = refl
left-length ts (g ∷ gs) =
    let here = map (λ name. type_number ts g.type_word) (other_names g.names) in
    let a = length-append here (specs.left_parents ts gs) in
    let b = length-map (other_names g.names) (λ name. type_number ts g.type_word) in
    let c = left-length ts gs in
    let d = ap length (other_names-append g.names (names_of gs)) ∙ length-append (other_names g.names) (other_names (names_of gs)) in
    omega (arith, a, b, c, d)

-- what the names on the left are in the table
pub left_table : (groups : List Group) → AreDistinct (all_seen Types (names_of groups) [])
    → (more : List (List ℕ)) × (specs.type_names groups ≡ codes "object" ∷ (all_seen Types (names_of groups) [] ++ more))
left_table groups h =
    let split = fold-append specs.with_name (codes "object" ∷ []) (names_of groups) (specs.parent_words groups) in
    let table = table-seen (names_of groups) [] h in
    let grown = fold-front (specs.parent_words groups) (codes "object" ∷ all_seen Types (names_of groups) []) in
    (grown.0, split ∙ (ap (λ ns. fold specs.with_name ns (specs.parent_words groups)) table ∙ grown.1))

-- each type has one parent
pub one_parent : (groups : List Group) → AreDistinct (all_seen Types (names_of groups) []) → length (specs.type_parents groups) ≡ length (specs.type_names groups)
one_parent groups h =
    let table = left_table groups h in
    let many = ap length table.1 in
    let app = length-append (all_seen Types (names_of groups) []) table.0 in
    let seen = seen-length (names_of groups) [] in
    let left = left-length (specs.type_names groups) groups in
    let total = length-with_zeros (length (specs.type_names groups)) (0 ∷ specs.left_parents (specs.type_names groups) groups) in
    omega (arith, many, app, seen, left, total)
