-- The name, the constants and the predicates of a domain that is read fit.
use Rattle.std.proofs.Common.{◌≡◌, ℕ, Bool, true, false, ◌&&◌, List, [], ◌∷◌, ◌++◌, map, length, refl, sym, ◌∙◌, ap, subst, All, Option, Some, None, append_assoc, if◌then◌else◌, codes}
use Rattle.std.specs.List.{list_any}
use Rattle.std.specs.Str.{bytes_eq}
use Rattle.std.specs.Option.{option_map, option_map_or, option_and_then}
use Rattle.std.proofs.lemmas.List.{append-nil}
use Rattle.std.proofs.lemmas.List.Elements.{All-nil, All-cons, All-append}
use Rattle.sexpr_text.specs.declared.forms.Span.{Span}
use Rattle.sexpr_text.specs.declared.faults.FaultKind.TheVariants.{BadForm, DoubleName, ReservedName}
use Rattle.sexpr_text.specs.Forest.{Forest, nothing, word, group}
use Rattle.sexpr_text.specs.Flaws.{flaw_at}
use Rattle.sexpr_text.specs.Parts.{is_name, is_nothing, is_titled, is_definition, first_group_with}
use Rattle.pddl_ast.specs.declared.trees.Predicate.{Predicate}
use Rattle.pddl_ast.specs.Words.{is_reserved}
use Rattle.pddl_ast.specs.Fits.{AreDistinct, names_of_predicates}
use Rattle.pddl_ast.specs.TypedLists.{names_of, typed_groups}
use Rattle.pddl_ast.proofs.Fitting.{no_first, no_second, where_true, where_false}
use Rattle.pddl_ast.specs.Definitions.{title_of}
use Rattle.pddl_domain.specs.Sections.{name_and_sections, definition, defined_name}
use Rattle.pddl_domain.specs.Constants as specs
use Rattle.pddl_domain.proofs.FitTypes.{distinct-push}
use Rattle.list_laws.proofs.Booleans.{and_second}

-- the name
second_of : (a b c : Bool) → (a && b && c) ≡ true → b ≡ true
second_of true true c h = refl
second_of true false c h = absurd (cc)
second_of false b c h = absurd (cc)

abbrev pub NameFits : Option (List ℕ) → Type 0
NameFits None = Unit {0}
NameFits (Some name) = is_name name ≡ true

abbrev pub DefinitionFits : Option (List ℕ × Forest) → Type 0
DefinitionFits None = Unit {0}
DefinitionFits (Some d) = is_name d.0 ≡ true

title-fits : (kind : List ℕ) (title : Forest) → is_titled kind title ≡ true → NameFits (title_of title)
title-fits kind nothing h = tt
title-fits kind (group span parts rest) h = tt
title-fits kind (word s w nothing) h = tt
title-fits kind (word s w (group s2 p rest)) h = tt
title-fits kind (word s w (word s2 name rest)) h = second_of (bytes_eq w kind) (is_name name) (is_nothing rest) h

with-sections : (o : Option (List ℕ)) (s : Forest) → NameFits o → DefinitionFits (option_map (λ (name : List ℕ). (name, s)) o)
with-sections None s h = tt
with-sections (Some name) s h = h

parts-fit : (kind : List ℕ) (parts : Forest) → is_definition kind parts ≡ true → DefinitionFits (name_and_sections parts)
parts-fit kind nothing h = tt
parts-fit kind (group span parts rest) h = tt
parts-fit kind (word span w nothing) h = tt
parts-fit kind (word span w (word s t rest)) h = tt
parts-fit kind (word span w (group s title sections)) h =
    with-sections (title_of title) sections (title-fits kind title (and_second (bytes_eq w (codes "define")) (is_titled kind title) h))

abbrev pub GroupPasses : (Forest → Bool) → Option (Span × Forest) → Type 0
GroupPasses test None = Unit {0}
GroupPasses test (Some g) = test g.1 ≡ true

passing : (test : Forest → Bool) (span : Span) (parts : Forest) (o : Option (Span × Forest)) (b : Bool) → test parts ≡ b → GroupPasses test o
    → GroupPasses test (if b then Some (span, parts) else o)
passing test span parts o true e h = e
passing test span parts o false e h = h

first-passes : (test : Forest → Bool) (forms : Forest) → GroupPasses test (first_group_with test forms)
first-passes test nothing = tt
first-passes test (word span w rest) = first-passes test rest
first-passes test (group span parts rest) = passing test span parts (first_group_with test rest) (test parts) refl (first-passes test rest)

found-fits : (kind : List ℕ) (o : Option (Span × Forest)) → GroupPasses (is_definition kind) o → DefinitionFits (option_and_then (λ (d : Span × Forest). name_and_sections d.1) o)
found-fits kind None h = tt
found-fits kind (Some g) h = parts-fit kind g.1 h

named : (o : Option (List ℕ × Forest)) → DefinitionFits o → is_name (option_map_or (λ (d : List ℕ × Forest). d.0) o []) ≡ true
named None h = no_bytes
  where
    no_bytes : is_name [] ≡ true
    no_bytes = refl
named (Some d) h = h

pub name-fits : (forms : Forest) → is_name (defined_name forms) ≡ true
name-fits forms =
    named (definition forms)
    (found-fits (codes "domain") (first_group_with (is_definition (codes "domain")) forms) (first-passes (is_definition (codes "domain")) forms))

-- the predicates
abbrev pub PredicateFits : Predicate → Type 0
PredicateFits p = (is_name p.name ≡ true) × (is_reserved p.name ≡ false)

pub record OnePredicate (before : List (List ℕ)) (parts : Forest) : Type 0 where
  pub predicate : Predicate
  pub is : specs.predicate_of parts ≡ predicate ∷ []
  pub after : specs.with_first_word before parts ≡ before ++ predicate.name ∷ []
  pub fits : PredicateFits predicate
  pub new : list_any (bytes_eq predicate.name) before ≡ false

one-predicate : (types before : List (List ℕ)) (span : Span) (parts : Forest) → specs.predicate_flaws types before span parts ≡ [] → OnePredicate before parts
one-predicate types before span nothing h = absurd (cc)
one-predicate types before span (group s p rest) h = absurd (cc)
one-predicate types before span (word s name variables) h =
    let names = specs.predicate_name_flaws before s name in
    let named = where_true (flaw_at span BadForm) (names ++ specs.variables_flaws types variables) (is_name name) h in
    let fresh = where_false (flaw_at s DoubleName) (if is_reserved name then flaw_at s ReservedName ∷ [] else []) (list_any (bytes_eq name) before)
    (no_first names (specs.variables_flaws types variables) named.1) in
    let free = where_false (flaw_at s ReservedName) [] (is_reserved name) fresh.1 in
    record {
      predicate = record { name = name; arity = length (names_of (typed_groups variables)) };
      is = refl;
      after = refl;
      fits = (named.0, free.0);
      new = fresh.0;
    }

pub predicates-fit : (list : Forest) (types before : List (List ℕ)) → specs.predicates_flaws types before list ≡ [] → All PredicateFits (specs.predicates_of list)
predicates-fit nothing types before h = All-nil PredicateFits
predicates-fit (word span w rest) types before h = absurd (cc)
predicates-fit (group span parts rest) types before h =
    let one = one-predicate types before span parts (no_first (specs.predicate_flaws types before span parts) (specs.predicates_flaws types (specs.with_first_word before parts) rest) h) in
    let later = predicates-fit rest types (specs.with_first_word before parts) (no_second (specs.predicate_flaws types before span parts) (specs.predicates_flaws types (specs.with_first_word before parts) rest) h) in
    All-append PredicateFits (specs.predicate_of parts) (specs.predicates_of rest)
    (subst (All PredicateFits) (sym one.is) (All-cons PredicateFits one.predicate [] one.fits (All-nil PredicateFits))) later

pub predicates-differ : (list : Forest) (types before : List (List ℕ)) → specs.predicates_flaws types before list ≡ [] → AreDistinct before
    → AreDistinct (before ++ names_of_predicates (specs.predicates_of list))
predicates-differ nothing types before h g = subst AreDistinct (sym (append-nil before)) g
predicates-differ (word span w rest) types before h g = absurd (cc)
predicates-differ (group span parts rest) types before h g =
    let one = one-predicate types before span parts (no_first (specs.predicate_flaws types before span parts) (specs.predicates_flaws types (specs.with_first_word before parts) rest) h) in
    let after = specs.with_first_word before parts in
    let pushed : AreDistinct after = subst AreDistinct (sym one.after) (distinct-push before one.predicate.name g one.new) in
    let later : AreDistinct (after ++ names_of_predicates (specs.predicates_of rest)) =
    predicates-differ rest types after (no_second (specs.predicate_flaws types before span parts) (specs.predicates_flaws types after rest) h) pushed in
    let same : after ++ names_of_predicates (specs.predicates_of rest) ≡ before ++ names_of_predicates (specs.predicate_of parts ++ specs.predicates_of rest) =
    ap (λ ns. ns ++ names_of_predicates (specs.predicates_of rest)) one.after
    ∙ (append_assoc before (one.predicate.name ∷ []) (names_of_predicates (specs.predicates_of rest))
    ∙ ap (λ ps. before ++ names_of_predicates (ps ++ specs.predicates_of rest)) (sym one.is)) in
    subst AreDistinct same later
