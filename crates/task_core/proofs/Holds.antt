-- What each kind of condition means, and whose fluents it names: one equation a kind.
use Rattle.std.proofs.Common.{◌≡◌, ℕ, Bool, true, false, not, ltb, sym, ◌∙◌, ap}
use Rattle.std.specs.Prelude.{Vec, Box}
use Rattle.std.specs.declared.alloc.Global.{Global}
use Rattle.std.specs.List.{list_all, list_any}
use Rattle.std.proofs.lemmas.List.Folds.{list_all-map}
use Rattle.task_core.specs.Conditions.{holds, ids_below}
use Rattle.task_core.specs.declared.literals.FluentId.{FluentId}
use Rattle.task_core.specs.declared.conditions.Cond.{Cond}
use Rattle.task_core.specs.declared.conditions.Cond.TheOpen as Open
use Rattle.task_core.specs.declared.conditions.Cond.TheVariants.{Yes, No, Is, Not, All, Any, rolls-Yes, rolls-No, rolls-Is, rolls-Not, rolls-All, rolls-Any}
use Rattle.task_core.proofs.Agreement.{holds_roll, below_roll}
use Rattle.task_core.proofs.Vectors.{list_any-map}

pub holds_Yes : (value : ℕ → Bool) → holds Yes value ≡ true
holds_Yes value = ap (λ c. holds c value) (sym rolls-Yes) ∙ holds_roll Open.Yes value

pub holds_No : (value : ℕ → Bool) → holds No value ≡ false
holds_No value = ap (λ c. holds c value) (sym rolls-No) ∙ holds_roll Open.No value

pub holds_Is : (f : FluentId) (value : ℕ → Bool) → holds (Is f) value ≡ value f.0
holds_Is f value = ap (λ c. holds c value) (sym (rolls-Is f)) ∙ holds_roll (Open.Is f) value

pub holds_Not : (part : Box Cond Global) (value : ℕ → Bool) → holds (Not part) value ≡ not (holds part.value value)
holds_Not part value = ap (λ c. holds c value) (sym (rolls-Not part)) ∙ holds_roll (Open.Not part) value

pub holds_All : (parts : Vec Cond Global) (value : ℕ → Bool) → holds (All parts) value ≡ list_all (λ part. holds part value) parts.items
holds_All parts value =
    ap (λ c. holds c value) (sym (rolls-All parts)) ∙ holds_roll (Open.All parts) value
    ∙ list_all-map (λ p. p value) holds parts.items

pub holds_Any : (parts : Vec Cond Global) (value : ℕ → Bool) → holds (Any parts) value ≡ list_any (λ part. holds part value) parts.items
holds_Any parts value =
    ap (λ c. holds c value) (sym (rolls-Any parts)) ∙ holds_roll (Open.Any parts) value
    ∙ list_any-map (λ p. p value) holds parts.items

pub ids_below_Yes : (n : ℕ) → ids_below n Yes ≡ true
ids_below_Yes n = ap (ids_below n) (sym rolls-Yes) ∙ below_roll n Open.Yes

pub ids_below_No : (n : ℕ) → ids_below n No ≡ true
ids_below_No n = ap (ids_below n) (sym rolls-No) ∙ below_roll n Open.No

pub ids_below_Is : (n : ℕ) (f : FluentId) → ids_below n (Is f) ≡ ltb f.0 n
ids_below_Is n f = ap (ids_below n) (sym (rolls-Is f)) ∙ below_roll n (Open.Is f)

pub ids_below_Not : (n : ℕ) (part : Box Cond Global) → ids_below n (Not part) ≡ ids_below n part.value
ids_below_Not n part = ap (ids_below n) (sym (rolls-Not part)) ∙ below_roll n (Open.Not part)

pub ids_below_All : (n : ℕ) (parts : Vec Cond Global) → ids_below n (All parts) ≡ list_all (ids_below n) parts.items
ids_below_All n parts =
    ap (ids_below n) (sym (rolls-All parts)) ∙ below_roll n (Open.All parts) ∙ list_all-map (λ b. b) (ids_below n) parts.items

pub ids_below_Any : (n : ℕ) (parts : Vec Cond Global) → ids_below n (Any parts) ≡ list_all (ids_below n) parts.items
ids_below_Any n parts =
    ap (ids_below n) (sym (rolls-Any parts)) ∙ below_roll n (Open.Any parts) ∙ list_all-map (λ b. b) (ids_below n) parts.items
