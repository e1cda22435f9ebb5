-- The changes of an outcome, one by one.
use Rattle.std.proofs.Common.{◌≡◌, ℕ, zero, suc, arith, ◌+◌, ◌<◌, Bool, true, false, cond, not, ◌&&◌, ◌||◌, List, [], ◌∷◌, ◌++◌, append-nil, take, length, get_or, Contains, refl, sym, ap, ◌∙◌}
use Rattle.std.specs.List.{list_all, list_any}
use Rattle.std.proofs.lemmas.Bool.{and_parts, false≢true}
use Rattle.std.proofs.lemmas.List.{take_more}
use Rattle.std.proofs.lemmas.List.Concat.{flat_map-append}
use Rattle.std.proofs.lemmas.List.Folds.{list_any_more}
use Rattle.list_laws.proofs.Booleans.{or_false}
use Rattle.dd_nodes.specs.Subfunctions.{Function}
use Rattle.dd_ops.specs.Operations.{variable, minus_of, or_of}
use Rattle.task_core.specs.Actions.{adds, deletes, after_value, change_makes}
use Rattle.task_core.specs.Conditions.{holds}
use Rattle.task_core.specs.Initial.{names_it}
use Rattle.task_core.specs.declared.actions.Change.{Change}
use Rattle.task_core.specs.declared.actions.Outcome.{Outcome}
use Rattle.task_core.specs.declared.literals.Lit.{Lit}
use Rattle.task_core.specs.Cubes.{Cube}
use Rattle.encode_task.specs.Names.{literals_of}

-- a change of the fluent and the sign makes it so where its condition holds
pub about : (change : Change) (f : ℕ) (positive : Bool) (set : Function) → names_it positive f change.lits.items ≡ true
    → or_of set (holds change.cond) ≡ (λ values. set values || change_makes positive values f change)
about change f positive set is = λ i values. set values || (sym (ap (λ b. b && holds change.cond values) is) i)

-- another change makes nothing so
pub not_about : (change : Change) (f : ℕ) (positive : Bool) (set : Function) → names_it positive f change.lits.items ≡ false
    → set ≡ (λ values. set values || change_makes positive values f change)
not_about change f positive set is = λ i values. (sym (or_false (set values)) ∙ (λ j. set values || (sym (ap (λ b. b && holds change.cond values) is) j))) i

-- there is a literal that passes where some does
pub some_literal : (p : Lit → Bool) (lits : Cube) → list_any p lits ≡ true → (lit : Lit) × Contains lits lit
some_literal p [] some = absurd (false≢true some)
some_literal p (x ∷ lits) some = (x, (zero, omega arith, refl))

-- each literal of a list passes what all do
pub lit_passes : (p : Lit → Bool) (lits : Cube) (i : ℕ) (x : Lit) → list_all p lits ≡ true → i < length lits → p (get_or lits i x) ≡ true
lit_passes p [] i x all within = absurd (omega arith)
lit_passes p (lit ∷ lits) zero x all within = (and_parts (p lit) (list_all p lits) all).0
lit_passes p (lit ∷ lits) (suc i) x all within = lit_passes p lits i x (and_parts (p lit) (list_all p lits) all).1 (omega arith)

-- the literals of one change more
pub literals_more : (changes : List Change) (i : ℕ) (change : Change) → i < length changes → change ≡ get_or changes i change → literals_of (take i changes) ++ change.lits.items ≡ literals_of (take (i + 1) changes)
literals_more changes i change within at =
    sym (ap literals_of (take_more changes i change within ∙ ap (λ (x : Change). take i changes ++ x ∷ []) (sym at))
    ∙ flat_map-append (λ (c : Change). c.lits.items) (take i changes) (change ∷ []) ∙ ap (λ (lits : Cube). literals_of (take i changes) ++ lits) (append-nil change.lits.items))

-- where some change makes the fluent so
abbrev pub some_makes : Bool → ℕ → List Change → Function
some_makes positive f changes values = list_any (change_makes positive values f) changes

-- one change more
pub change_more : (positive : Bool) (f : ℕ) (changes : List Change) (i : ℕ) (change : Change) → i < length changes → change ≡ get_or changes i change
    → or_of (some_makes positive f (take i changes)) (λ values. change_makes positive values f change) ≡ some_makes positive f (take (i + 1) changes)
change_more positive f changes i change within at =
    λ j values. (ap (λ x. list_any (change_makes positive values f) (take i changes) || change_makes positive values f x) at ∙ sym (list_any_more (change_makes positive values f) changes i change within)) j

-- the next value from what adds and what deletes
pub next_from : (outcome : Outcome) (f : ℕ) → or_of (minus_of (variable f) (λ values. deletes outcome values f)) (λ values. adds outcome values f) ≡ (λ values. after_value outcome values f)
next_from outcome f = λ i values. choice (adds outcome values f) (deletes outcome values f) (values f) i
  where
    choice : (a d v : Bool) → ((v && not d) || a) ≡ cond a true (cond d false v)
    choice true true true = refl
    choice true true false = refl
    choice true false true = refl
    choice true false false = refl
    choice false true true = refl
    choice false true false = refl
    choice false false true = refl
    choice false false false = refl
