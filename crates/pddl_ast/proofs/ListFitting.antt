-- The names of a typed list without flaws are different, and of the kind that it declares.
use Rattle.std.proofs.Common.{◌≡◌, ℕ, ◌⊎◌, inl, inr, ⊎_elim, Bool, true, false, not, ◌&&◌, ◌||◌, List, [], ◌∷◌, ◌++◌, refl, ap, sym, subst, ◌∙◌, if◌then◌else◌}
use Rattle.std.specs.Prelude.{All}
use Rattle.std.specs.List.{list_any}
use Rattle.std.specs.Str.{bytes_eq}
use Rattle.std.proofs.lemmas.List.{append_assoc, append-nil}
use Rattle.std.proofs.lemmas.List.Folds.{list_any-append}
use Rattle.std.proofs.lemmas.List.Elements.{All-nil, All-append, All-push}
use Rattle.sexpr_text.specs.declared.faults.FaultKind.TheVariants.{BadForm, DoubleName}
use Rattle.sexpr_text.specs.Forest.{Forest, nothing, word, group}
use Rattle.sexpr_text.specs.Flaws.{Flaw, flaw_at}
use Rattle.pddl_ast.specs.declared.typed_lists.Declares.{Declares}
use Rattle.pddl_ast.specs.declared.typed_lists.Declares.TheVariants.{Objects, Variables, PredicateVariables}
use Rattle.pddl_ast.specs.Words.{is_dash}
use Rattle.pddl_ast.specs.TypedLists.{Group, names_flaws, type_flaws, name_flaws, word_flaws, dash_flaws, seen_after, all_seen, begins_type, is_wanted, may_repeat, groups_after, typed_after, last_group, names_of}
use Rattle.pddl_ast.specs.Fits.{AreDistinct}
use Rattle.pddl_ast.proofs.Distinct.{other_way, or-first, or-both}
use Rattle.pddl_ast.proofs.Fitting.{no_first, no_second, where_true}
use Rattle.pddl_ast.proofs.Pending.{all_seen_push}
use Rattle.list_laws.proofs.Booleans.{and_second}

distinct_push : (names : List (List ℕ)) (n : List ℕ) → AreDistinct names → list_any (bytes_eq n) names ≡ false → AreDistinct (names ++ n ∷ [])
distinct_push [] n d h = (refl, tt {0})
distinct_push (m ∷ names) n d h = (
  list_any-append (bytes_eq m) names (n ∷ [])
      ∙ or-both (list_any (bytes_eq m) names) (bytes_eq m n || false) d.0
      (or-both (bytes_eq m n) false (other_way n m (or-first (bytes_eq n m) (list_any (bytes_eq n) names) h)) refl),
  distinct_push names n d.1 (second (bytes_eq n m) (list_any (bytes_eq n) names) h),
)
  where
    second : (a b : Bool) → (a || b) ≡ false → b ≡ false
    second true b e = cc
    second false b e = e

-- a name without a flaw
name_ok : (f g : Flaw) (wanted repeat listed : Bool) → (if not wanted then f ∷ [] else if not repeat && listed then g ∷ [] else []) ≡ []
    → (wanted ≡ true) × ((repeat ≡ true) ⊎ (listed ≡ false))
name_ok f g true true listed h = (refl, inl refl)
name_ok f g true false true h = cc
name_ok f g true false false h = (refl, inr refl)
name_ok f g false repeat listed h = cc

seen_distinct : (declares : Declares) (w : List ℕ) (seen : List (List ℕ)) → AreDistinct seen → (may_repeat declares w ≡ true) ⊎ (list_any (bytes_eq w) seen ≡ false)
    → AreDistinct (seen_after declares w seen)
seen_distinct declares w seen d ok =
    ⊎_elim
    (λ (r : may_repeat declares w ≡ true). subst (λ b. AreDistinct (if b then seen else seen ++ w ∷ [])) (sym r) d)
    (λ (n : list_any (bytes_eq w) seen ≡ false). either (may_repeat declares w) (distinct_push seen w d n)) ok
  where
    either : (b : Bool) → AreDistinct (seen ++ w ∷ []) → AreDistinct (if b then seen else seen ++ w ∷ [])
    either true g = d
    either false g = g

last_names : (names : List (List ℕ)) → names_of (last_group names) ≡ names
last_names [] = refl
last_names (n ∷ names) = append-nil (n ∷ names)

all_seen_append : (declares : Declares) (names others seen : List (List ℕ)) → all_seen declares (names ++ others) seen ≡ all_seen declares others (all_seen declares names seen)
all_seen_append declares [] others seen = refl
all_seen_append declares (n ∷ names) others seen = all_seen_append declares names others (seen_after declares n seen)

-- what holds of the groups of a list
abbrev Fine : Declares → List (List ℕ) → List Group → Type 0
Fine declares before gs = AreDistinct (all_seen declares (names_of gs) before) × All (λ name. is_wanted declares name ≡ true) (names_of gs)

mutual
  pub names-fine : (declares : Declares) (types : List (List ℕ)) (list : Forest) (seen before pending : List (List ℕ)) (named : Bool)
      → seen ≡ all_seen declares pending before → AreDistinct seen → All (λ name. is_wanted declares name ≡ true) pending
      → names_flaws declares types list seen named ≡ [] → Fine declares before (groups_after list pending)
  names-fine declares types nothing seen before pending named same d w h =
      let e : names_of (last_group pending) ≡ pending = last_names pending in (
        subst (λ l. AreDistinct (all_seen declares l before)) (sym e) (subst (λ l. AreDistinct l) same d),
        subst (λ l. All (λ name. is_wanted declares name ≡ true) l) (sym e) w,
      )
  names-fine declares types (group span parts rest) seen before pending named same d w h = cc
  names-fine declares types (word span v rest) seen before pending named same d w h =
      (elim (is_dash v) as (λ b. (if b then dash_flaws span named rest ++ type_flaws declares types rest seen
      else name_flaws declares span v seen ++ names_flaws declares types rest (seen_after declares v seen) true) ≡ []
      → Fine declares before (if b then typed_after rest pending else groups_after rest (pending ++ v ∷ []))) [
        | true ↦ λ e.
            types-fine declares types rest seen before pending same d w
            (and_second named (begins_type rest) (where_true (flaw_at span BadForm) [] (named && begins_type rest) (no_first (dash_flaws span named rest) (type_flaws declares types rest seen) e)).0)
            (no_second (dash_flaws span named rest) (type_flaws declares types rest seen) e)
        | false ↦ λ e.
            (let ok = name_ok (flaw_at span BadForm) (flaw_at span DoubleName) (is_wanted declares v) (may_repeat declares v) (list_any (bytes_eq v) seen)
            (no_first (name_flaws declares span v seen) (names_flaws declares types rest (seen_after declares v seen) true) e) in
            names-fine declares types rest (seen_after declares v seen) before (pending ++ v ∷ []) true
            (ap (seen_after declares v) same ∙ sym (all_seen_push declares pending v before))
            (seen_distinct declares v seen d ok.1)
            (All-push (λ name. is_wanted declares name ≡ true) pending v w ok.0)
            (no_second (name_flaws declares span v seen) (names_flaws declares types rest (seen_after declares v seen) true) e))
      ]) h

  types-fine : (declares : Declares) (types : List (List ℕ)) (list : Forest) (seen before pending : List (List ℕ))
      → seen ≡ all_seen declares pending before → AreDistinct seen → All (λ name. is_wanted declares name ≡ true) pending
      → begins_type list ≡ true → type_flaws declares types list seen ≡ [] → Fine declares before (typed_after list pending)
  types-fine declares types nothing seen before pending same d w begins h = cc
  types-fine declares types (group span parts rest) seen before pending same d w begins h = cc
  types-fine declares types (word span v rest) seen before pending same d w begins h =
      let later : names_flaws declares types rest seen false ≡ [] =
      (elim (is_dash v) as (λ b. not b ≡ true → (if b then dash_flaws span false rest ++ type_flaws declares types rest seen
      else word_flaws declares types span v ++ names_flaws declares types rest seen false) ≡ [] → names_flaws declares types rest seen false ≡ []) [
        | true ↦ λ n e. cc
        | false ↦ λ n e. no_second (word_flaws declares types span v) (names_flaws declares types rest seen false) e
      ]) begins h in
      let fine = names-fine declares types rest seen seen [] false refl d (All-nil (λ name. is_wanted declares name ≡ true)) later in
      let e : all_seen declares (pending ++ names_of (groups_after rest [])) before ≡ all_seen declares (names_of (groups_after rest [])) seen
      = all_seen_append declares pending (names_of (groups_after rest [])) before ∙ ap (λ l. all_seen declares (names_of (groups_after rest [])) l) (sym same) in (
        subst (λ l. AreDistinct l) (sym e) fine.0,
        All-append (λ name. is_wanted declares name ≡ true) pending (names_of (groups_after rest [])) w fine.1,
      )

-- constants, objects and variables are added to those before, a predicate's variables are not
pub objects-seen : (names before : List (List ℕ)) → all_seen Objects names before ≡ before ++ names
objects-seen [] before = sym (append-nil before)
objects-seen (n ∷ names) before = objects-seen names (before ++ n ∷ []) ∙ append_assoc before (n ∷ []) names

pub variables-seen : (names before : List (List ℕ)) → all_seen Variables names before ≡ before ++ names
variables-seen [] before = sym (append-nil before)
variables-seen (n ∷ names) before = variables-seen names (before ++ n ∷ []) ∙ append_assoc before (n ∷ []) names

pub predicates-seen : (names before : List (List ℕ)) → all_seen PredicateVariables names before ≡ before
predicates-seen [] before = refl
predicates-seen (n ∷ names) before = predicates-seen names before
