-- What is told of an action has no float.
use Rattle.std.proofs.Common.{◌≡◌, ◌∙◌, List, [], ◌∷◌, ◌++◌, map, false, true, Bool, refl, ap, subst, if◌then◌else◌}
use Rattle.std.specs.List.{flat_map}
use Rattle.serde_json.specs.Data.{Data}
use Rattle.serde_json.specs.View.{items_of}
use Rattle.serde_json.specs.Written.{has_float, items_have_float}
use Rattle.task_core.specs.Names.{Name}
use Rattle.task_core.specs.declared.actions.Change.{Change}
use Rattle.task_core.specs.declared.actions.Outcome.{Outcome}
use Rattle.task_core.specs.declared.conditions.Cond.{Cond}
use Rattle.task_core.specs.declared.conditions.Cond.TheOpen.{Cond-F, Yes, No, Is, Not, All, Any}
use Rattle.task_core.specs.declared.conditions.Cond.TheViews.{roll-Cond}
use Rattle.task_core.specs.declared.conditions.Cond.TheFolds.{map-Cond, fold-roll-Cond, ind-Cond}
use Rattle.task_core.specs.declared.literals.Lit.{Lit}
use Rattle.plan_document.specs.Actions.{change_data, condition_data, condition_layer, literal_name, made_names, makes, outcome_data, outcomes_data}

-- no item of a mapped list has one where no value has
pub items_free : {X : Type 0} (f : X → Data) → ((x : X) → has_float (f x) ≡ false) → (xs : List X) → items_have_float (items_of (map f xs)) ≡ false
items_free f free [] = refl
items_free f free (x ∷ xs) = rw (free x, items_free f free xs) refl

-- conditions
module _ (fluents : List Name) where
  abbrev Free : Cond → Type 0
  Free c = has_float (condition_data fluents c) ≡ false

  abbrev Shown : Type 0
  Shown = (c : Cond) × Free c

  parts_free : (parts : List Shown) → items_have_float (items_of (map (condition_data fluents) (map (λ (e : Shown). e.0) parts))) ≡ false
  parts_free [] = refl
  parts_free (e ∷ parts) = rw (e.1, parts_free parts) refl

  abbrev first_of : Cond-F Shown → Cond-F Cond
  first_of = map-Cond Shown Cond (λ e. e.0)

  layer_free : (y : Cond-F Shown) → has_float (condition_layer fluents (map-Cond Cond Data (condition_data fluents) (first_of y))) ≡ false
  layer_free Yes = refl
  layer_free No = refl
  layer_free (Is f) = refl
  layer_free (Not part) = rw (part.value.1) refl
  layer_free (All parts) = rw (parts_free parts.items) refl
  layer_free (Any parts) = rw (parts_free parts.items) refl

  roll_free : (y : Cond-F Shown) → Free (roll-Cond (first_of y))
  roll_free y = ap has_float (fold-roll-Cond Data (condition_layer fluents) (first_of y)) ∙ layer_free y

  pub condition_free : (c : Cond) → has_float (condition_data fluents c) ≡ false
  condition_free = ind-Cond Free (λ x y is. subst (λ z. Free (roll-Cond z)) is (roll_free y))

  -- the names of changed fluents
  one_free : (value : Bool) (lit : Lit) (rest : List Data) → items_have_float (items_of rest) ≡ false
      → (wanted : Bool) → items_have_float (items_of ((if wanted then literal_name fluents lit ∷ [] else []) ++ rest)) ≡ false
  one_free value lit rest free true = free
  one_free value lit rest free false = free

  made_free : (value : Bool) (lits : List Lit) → items_have_float (items_of (flat_map (made_names fluents value) lits)) ≡ false
  made_free value [] = refl
  made_free value (lit ∷ lits) = one_free value lit (flat_map (made_names fluents value) lits) (made_free value lits) (makes value lit)

  change_free : (change : Change) → has_float (change_data fluents change) ≡ false
  change_free change = rw (made_free true change.lits.items, made_free false change.lits.items, condition_free change.cond) refl

  outcome_free : (outcome : Outcome) → has_float (outcome_data fluents outcome) ≡ false
  outcome_free outcome = items_free (change_data fluents) change_free outcome.changes.items

  pub outcomes_free : (outcomes : List Outcome) → has_float (outcomes_data fluents outcomes) ≡ false
  outcomes_free = items_free (outcome_data fluents) outcome_free
