-- Terms, types and atoms without flaws fit what is known.
use Rattle.std.proofs.Common.{◌≡◌, ℕ, ◌+◌, ◌<◌, ◌==◌, Bool, true, false, List, [], ◌∷◌, ◌++◌, map, length, reverse, refl, ap, sym, ◌∙◌, arith, if◌then◌else◌}
use Rattle.std.specs.Prelude.{Option, Some, None, All, slice_get, slice_index}
use Rattle.std.specs.Option.{is_some, option_map, unwrap_or}
use Rattle.std.specs.Str.{bytes_eq}
use Rattle.std.proofs.lemmas.Bool.Decides.{nat_tests}
use Rattle.std.proofs.lemmas.Option.{slice_get-get_or}
use Rattle.std.proofs.lemmas.List.{length-append, length-map, length-reverse}
use Rattle.std.proofs.lemmas.List.Elements.{All-nil, All-cons, All-append}
use Rattle.std.proofs.lemmas.List.Quantifiers.{position-Some}
use Rattle.sexpr_text.specs.declared.forms.Span.{Span}
use Rattle.sexpr_text.specs.declared.faults.FaultKind.TheVariants.{UnknownName, WrongArity}
use Rattle.sexpr_text.specs.Forest.{Forest, nothing, word, group}
use Rattle.sexpr_text.specs.Flaws.{Flaw, flaw_at}
use Rattle.pddl_ast.specs.declared.trees.Term.{Term}
use Rattle.pddl_ast.specs.declared.trees.Term.TheVariants.{Variable, Object}
use Rattle.pddl_ast.specs.Words.{is_variable}
use Rattle.pddl_ast.specs.Known.{Known, number_in, number_from_inside, variable_number}
use Rattle.pddl_ast.specs.TypedLists.{Group, names_of, types_of, type_number, typed_groups}
use Rattle.pddl_ast.specs.Atoms.{count, terms_flaws, terms_of, term_of, head_flaws, arity_flaws, atom_flaws, ground_atom_flaws, ground_atom, objects_flaws, numbers, object_number, predicate_number}
use Rattle.pddl_ast.specs.Formulas.{inner_scope, variable_types}
use Rattle.pddl_ast.specs.Fits.{IsKnown, FitsTerm, FitsAtom, FitsGroundAtom}

-- two lists of flaws without a flaw
pub no_first : (fs gs : List Flaw) → fs ++ gs ≡ [] → fs ≡ []
no_first [] gs h = refl
no_first (f ∷ fs) gs h = cc

pub no_second : (fs gs : List Flaw) → fs ++ gs ≡ [] → gs ≡ []
no_second [] gs h = h
no_second (f ∷ fs) gs h = cc

-- no flaw, where there would be one unless the test holds
pub passes : (f : Flaw) (b : Bool) → (if b then [] else f ∷ []) ≡ [] → b ≡ true
passes f true h = refl
passes f false h = cc

pub where_true : (f : Flaw) (fs : List Flaw) (b : Bool) → (if b then fs else f ∷ []) ≡ [] → (b ≡ true) × (fs ≡ [])
where_true f fs true h = (refl, h)
where_true f fs false h = cc

pub where_false : (f : Flaw) (fs : List Flaw) (b : Bool) → (if b then f ∷ [] else fs) ≡ [] → (b ≡ false) × (fs ≡ [])
where_false f fs true h = cc
where_false f fs false h = (refl, h)

pub same_number : (m n : ℕ) → (m == n) ≡ true → m ≡ n
same_number m n h = grind (arith, nat_tests)

-- numbers are in range
pub number-within : (names : List (List ℕ)) (w : List ℕ) (k : ℕ) → number_in names w ≡ Some k → k < length names
number-within names w k h = (position-Some (bytes_eq w) names k w h).0

inside-within : (names : List (List ℕ)) (w : List ℕ) (k : ℕ) → number_from_inside names w ≡ Some k → k < length names
inside-within [] w k h = cc
inside-within (n ∷ names) w k h = go (λ e. inside-within names w k e) (bytes_eq w n) h
  where
    go : (number_from_inside names w ≡ Some k → k < length names) → (b : Bool) → (if b then Some (length names) else number_from_inside names w) ≡ Some k
        → k < length (n ∷ names)
    go later true e = let same : length names ≡ k = cc in omega arith
    go later false e = let l : k < length names = later e in omega arith

variable-within : (scope : List (List ℕ)) (w : List ℕ) (k : ℕ) → variable_number scope w ≡ Some k → k < length scope
variable-within scope w k h = let e : k < length (reverse scope) = inside-within (reverse scope) w k h in let l : length (reverse scope) ≡ length scope = length-reverse scope in omega arith

either_fits : (objects variables : ℕ) (b : Bool) (v o : Option ℕ) → ((k : ℕ) → v ≡ Some k → k < variables) → ((k : ℕ) → o ≡ Some k → k < objects)
    → is_some (if b then option_map (λ n. Variable n) v else option_map (λ n. Object n) o) ≡ true
    → FitsTerm objects variables (unwrap_or (if b then option_map (λ n. Variable n) v else option_map (λ n. Object n) o) (Object 0))
either_fits objects variables true None o hv ho h = cc
either_fits objects variables true (Some k) o hv ho h = hv k refl
either_fits objects variables false v None hv ho h = cc
either_fits objects variables false v (Some k) hv ho h = ho k refl

abbrev pub fits : Known → List (List ℕ) → Term → Type 0
fits known scope = FitsTerm (length known.objects) (length scope)

pub terms-fit : (known : Known) (scope : List (List ℕ)) (row : Forest) → terms_flaws known scope row ≡ []
    → All (fits known scope) (terms_of known scope row) × (length (terms_of known scope row) ≡ count row)
terms-fit known scope nothing h = (All-nil (fits known scope), refl)
terms-fit known scope (group span parts rest) h = cc
terms-fit known scope (word span w rest) h =
    let first = no_first (if is_some (term_of known scope w) then [] else flaw_at span UnknownName ∷ []) (terms_flaws known scope rest) h in
    let later = terms-fit known scope rest (no_second (if is_some (term_of known scope w) then [] else flaw_at span UnknownName ∷ []) (terms_flaws known scope rest) h) in (
      All-cons (fits known scope) (unwrap_or (term_of known scope w) (Object 0)) (terms_of known scope rest)
          (either_fits (length known.objects) (length scope) (is_variable w) (variable_number scope w) (number_in known.objects w)
          (variable-within scope w) (number-within known.objects w) (passes (flaw_at span UnknownName) (is_some (term_of known scope w)) first))
          later.0,
      (let e : length (terms_of known scope rest) ≡ count rest = later.1 in omega arith),
    )

some_within : (objects : ℕ) (o : Option ℕ) → ((k : ℕ) → o ≡ Some k → k < objects) → is_some o ≡ true → unwrap_or o 0 < objects
some_within objects None ho h = cc
some_within objects (Some k) ho h = ho k refl

pub objects-fit : (known : Known) (row : Forest) → objects_flaws known row ≡ []
    → All (λ n. n < length known.objects) (numbers (object_number known) row) × (length (numbers (object_number known) row) ≡ count row)
objects-fit known nothing h = (All-nil (λ n. n < length known.objects), refl)
objects-fit known (group span parts rest) h = cc
objects-fit known (word span w rest) h =
    let first = no_first (if is_some (object_number known w) then [] else flaw_at span UnknownName ∷ []) (objects_flaws known rest) h in
    let later = objects-fit known rest (no_second (if is_some (object_number known w) then [] else flaw_at span UnknownName ∷ []) (objects_flaws known rest) h) in (
      All-cons (λ n. n < length known.objects) (unwrap_or (object_number known w) 0) (numbers (object_number known) rest)
          (some_within (length known.objects) (object_number known w) (number-within known.objects w) (passes (flaw_at span UnknownName) (is_some (object_number known w)) first))
          later.0,
      (let e : length (numbers (object_number known) rest) ≡ count rest = later.1 in omega arith),
    )

-- a predicate with as many terms as it takes
arity-fits : (known : Known) (span head : Span) (w : List ℕ) (n : ℕ) (number : Option ℕ) → IsKnown known → ((k : ℕ) → number ≡ Some k → k < length known.predicates)
    → arity_flaws known span head w n number ≡ [] → slice_get known.arities (unwrap_or number 0) ≡ Some n
arity-fits known span head w n None ok within h = cc
arity-fits known span head w n (Some k) ok within h =
    let few : k < length known.predicates = within k refl in
    let len : length known.arities ≡ length known.predicates = ok.arities in
    slice_get-get_or known.arities k 0 (omega arith) ∙ ap Some (sym (same_number n (slice_index known.arities k) (passes (flaw_at span WrongArity) (n == slice_index known.arities k) h)))

head-fits : (known : Known) (span head : Span) (w : List ℕ) (n : ℕ) → IsKnown known → head_flaws known span head w n ≡ []
    → slice_get known.arities (predicate_number known w) ≡ Some n
head-fits known span head w n ok h = arity-fits known span head w n (number_in known.predicates w) ok (number-within known.predicates w) h

pub atom-fits : (known : Known) (scope : List (List ℕ)) (span head : Span) (w : List ℕ) (terms : Forest) → IsKnown known → atom_flaws known scope span head w terms ≡ []
    → FitsAtom known (length scope) (predicate_number known w) (terms_of known scope terms)
atom-fits known scope span head w terms ok h =
    let t = terms-fit known scope terms (no_second (head_flaws known span head w (count terms)) (terms_flaws known scope terms) h) in
    (head-fits known span head w (count terms) ok (no_first (head_flaws known span head w (count terms)) (terms_flaws known scope terms) h) ∙ ap Some (sym t.1), t.0)

pub ground_atom-fits : (known : Known) (span head : Span) (w : List ℕ) (terms : Forest) → IsKnown known → ground_atom_flaws known span head w terms ≡ []
    → FitsGroundAtom known (ground_atom known w terms)
ground_atom-fits known span head w terms ok h =
    let t = objects-fit known terms (no_second (head_flaws known span head w (count terms)) (objects_flaws known terms) h) in
    (head-fits known span head w (count terms) ok (no_first (head_flaws known span head w (count terms)) (objects_flaws known terms) h) ∙ ap Some (sym t.1), t.0)

-- types are in range, and there are as many as names
or_zero : (types : ℕ) (o : Option ℕ) → 0 < types → ((k : ℕ) → o ≡ Some k → k < types) → unwrap_or o 0 < types
or_zero types None some h = some
or_zero types (Some k) some h = h k refl

pub type_number-below : (types : List (List ℕ)) (w : List ℕ) → 0 < length types → type_number types w < length types
type_number-below types w some = or_zero (length types) (number_in types w) some (number-within types w)

pub types-within : (types : List (List ℕ)) (gs : List Group) → 0 < length types → All (λ t. t < length types) (types_of types gs)
types-within types [] some = All-nil (λ t. t < length types)
types-within types (g ∷ gs) some =
    All-append (λ t. t < length types) (map (λ name. type_number types g.type_word) g.names) (types_of types gs) (each g.names) (types-within types gs some)
  where
    each : (names : List (List ℕ)) → All (λ t. t < length types) (map (λ name. type_number types g.type_word) names)
    each [] = All-nil (λ t. t < length types)
    each (n ∷ names) = All-cons (λ t. t < length types) (type_number types g.type_word) (map (λ name. type_number types g.type_word) names)
        (or_zero (length types) (number_in types g.type_word) some (number-within types g.type_word)) (each names)

pub types-length : (types : List (List ℕ)) (gs : List Group) → length (types_of types gs) ≡ length (names_of gs)
types-length types [] = refl
types-length types (g ∷ gs) =
    length-append (map (λ name. type_number types g.type_word) g.names) (types_of types gs)
    ∙ (ap (λ n. n + length (types_of types gs)) (length-map g.names (λ name. type_number types g.type_word))
    ∙ (ap (λ n. length g.names + n) (types-length types gs)
    ∙ sym (length-append g.names (names_of gs))))

pub scope-length : (known : Known) (scope : List (List ℕ)) (list : Forest) → length (inner_scope scope list) ≡ length scope + length (variable_types known list)
scope-length known scope list =
    length-append scope (names_of (typed_groups list)) ∙ ap (λ n. length scope + n) (sym (types-length known.types (typed_groups list)))
