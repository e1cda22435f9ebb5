-- Marks at the fluents that literals name.
use Rattle.std.proofs.Common.{◌≡◌, ℕ, ◌+◌, ◌<◌, Bool, true, false, ◌||◌, eqb, List, [], ◌∷◌, length, take, get_or, refl, sym, ◌∙◌, ap, ⊎_elim}
use Rattle.std.specs.List.{list_any}
use Rattle.std.proofs.lemmas.Bool.{and_left, eqb-true, false≢true, or_parts, or_cases}
use Rattle.std.proofs.lemmas.List.Folds.{list_any_more}
use Rattle.task_core.specs.Cubes.{Cube}
use Rattle.task_core.specs.Initial.{Entry, names_it}
use Rattle.task_core.specs.Vectors.{same_value}
use Rattle.initial_number.specs.Fluents.{entry_names, entry_names_one, lits_name, lits_name_one}

-- one element more of what is marked so far
pub marked_more : {X : Type 0} (p : X → Bool) (xs : List X) (i : ℕ) (d : X) (first before now : Bool) → i < length xs → before ≡ (list_any p (take i xs) || first) → now ≡ (p (get_or xs i d) || before) → now ≡ (list_any p (take (i + 1) xs) || first)
marked_more p xs i d first before now within earlier later =
    later ∙ ap (λ b. p (get_or xs i d) || b) earlier ∙ joined (list_any p (take i xs)) (p (get_or xs i d))
    ∙ sym (ap (λ b. b || first) (list_any_more p xs i d within))
  where
    joined : (a b : Bool) → (b || (a || first)) ≡ ((a || b) || first)
    joined true true = refl
    joined true false = refl
    joined false true = refl
    joined false false = refl

-- literals that don't name a fluent neither add nor delete it
pub not_named : (positive : Bool) (f : ℕ) (lits : Cube) → lits_name f lits ≡ false → names_it positive f lits ≡ false
not_named positive f [] e = refl
not_named positive f (x ∷ lits) e =
    let parts = or_parts (eqb x.fluent.0 f) (lits_name f lits) e in
    ap (λ b. b || names_it positive f lits) (and_left (eqb x.fluent.0 f) (same_value x.positive positive) parts.0)
    ∙ not_named positive f lits parts.1

-- a fluent that is named isn't marked, where none that is named is
lits_unmarked : (marked : ℕ → Bool) (f : ℕ) (lits : Cube) → lits_name_one marked lits ≡ false → lits_name f lits ≡ true → marked f ≡ false
lits_unmarked marked f [] none names = absurd (false≢true names)
lits_unmarked marked f (x ∷ lits) none names =
    let parts = or_parts (marked x.fluent.0) (lits_name_one marked lits) none in
    ⊎_elim
    (λ (here : eqb x.fluent.0 f ≡ true). sym (ap marked (eqb-true x.fluent.0 f here)) ∙ parts.0)
    (λ (later : lits_name f lits ≡ true). lits_unmarked marked f lits parts.1 later)
    (or_cases (eqb x.fluent.0 f) (lits_name f lits) names)

pub entry_unmarked : (marked : ℕ → Bool) (f : ℕ) (entry : Entry) → entry_names_one marked entry ≡ false → entry_names f entry ≡ true → marked f ≡ false
entry_unmarked marked f [] none names = absurd (false≢true names)
entry_unmarked marked f (lits ∷ entry) none names =
    let parts = or_parts (lits_name_one marked lits) (entry_names_one marked entry) none in
    ⊎_elim
    (λ (here : lits_name f lits ≡ true). lits_unmarked marked f lits parts.0 here)
    (λ (later : entry_names f entry ≡ true). entry_unmarked marked f entry parts.1 later)
    (or_cases (lits_name f lits) (entry_names f entry) names)
