-- Conditions by halves: what a part weighs, and what two halves mean together.
use Rattle.std.proofs.Common.{◌≡◌, ℕ, suc, ◌+◌, ◌*◌, ◌<◌, ◌≤◌, ◌/◌, ◌==◌, true, false, List, [], ◌∷◌, ◌++◌, map, length, take, drop, take-append-drop, Vec, Box, Result, Ok, Err, sym, ap, subst, ◌∙◌, arith}
use Rattle.std.specs.declared.alloc.Global.{Global}
use Rattle.std.specs.List.{list_all}
use Rattle.std.proofs.lemmas.Bool.{and_parts, eq-eqb, true≢false}
use Rattle.std.proofs.lemmas.List.Folds.{list_all-append, list_any-append}
use Rattle.list_laws.proofs.Booleans.{and_one, or_none}
use Rattle.dd_nodes.specs.Subfunctions.{Function}
use Rattle.dd_ops.specs.Operations.{and_of, or_of}
use Rattle.task_core.specs.Conditions.{holds, ids_below}
use Rattle.task_core.specs.declared.conditions.Cond.{Cond}
use Rattle.task_core.specs.declared.conditions.Cond.TheFolds.{fold-Cond, fold-roll-Cond}
use Rattle.task_core.specs.declared.conditions.Cond.TheOpen as Open
use Rattle.task_core.specs.declared.conditions.Cond.TheVariants.{Not, All, Any, rolls-Not, rolls-All, rolls-Any}
use Rattle.task_core.proofs.Holds.{holds_All, holds_Any, ids_below_All, ids_below_Any}
use Rattle.dd_sets.specs.Frames.{Owns, OwnsAnswer}
use Rattle.dd_sets.specs.LiveSets.{LiveSets}
use Rattle.dd_sets.specs.Rooms.{NoRoom}
use Rattle.dd_sets.specs.declared.errors.SetErr.{SetErr}
use Rattle.dd_sets.specs.declared.slots.SetId.{SetId}
use Rattle.dd_sets.proofs.OwnedLemmas.{own_chain}
use Rattle.dd_sets.proofs.RoomSteps.{room_owned}
use Rattle.encode_task.specs.WorkingSets.{AreSmall, IsPartOf}
use Rattle.encode_task.proofs.CondWeights.{total_of, weight_step}
use Rattle.encode_task.proofs.PartLemmas.{all_hold, some_hold}

-- how many parts a condition has in all, itself among them, and more
abbrev pub weight : Cond → ℕ
weight = fold-Cond ℕ weight_step

-- and several conditions
abbrev pub total : List Cond → ℕ
total parts = total_of (map weight parts)

weight_All : (parts : Vec Cond Global) → weight (All parts) ≡ suc (total parts.items)
weight_All parts = ap weight (sym (rolls-All parts)) ∙ fold-roll-Cond ℕ weight_step (Open.All parts)

weight_Any : (parts : Vec Cond Global) → weight (Any parts) ≡ suc (total parts.items)
weight_Any parts = ap weight (sym (rolls-Any parts)) ∙ fold-roll-Cond ℕ weight_step (Open.Any parts)

weight_Not : (part : Box Cond Global) → weight (Not part) ≡ suc (weight part.value)
weight_Not part = ap weight (sym (rolls-Not part)) ∙ fold-roll-Cond ℕ weight_step (Open.Not part)

-- the parts of a condition weigh less
pub all_lighter : (cond : Cond) (parts : Vec Cond Global) (items : List Cond) → cond ≡ All parts → items ≡ parts.items → 2 * total items + 1 < 2 * weight cond
all_lighter cond parts items is same =
    let whole : weight cond ≡ suc (total parts.items) = ap weight is ∙ weight_All parts in
    let e : total items ≡ total parts.items = ap total same in
    omega arith

pub any_lighter : (cond : Cond) (parts : Vec Cond Global) (items : List Cond) → cond ≡ Any parts → items ≡ parts.items → 2 * total items + 1 < 2 * weight cond
any_lighter cond parts items is same =
    let whole : weight cond ≡ suc (total parts.items) = ap weight is ∙ weight_Any parts in
    let e : total items ≡ total parts.items = ap total same in
    omega arith

pub not_lighter : (cond : Cond) (part : Box Cond Global) → cond ≡ Not part → 2 * weight part.value < 2 * weight cond
not_lighter cond part is =
    let whole : weight cond ≡ suc (weight part.value) = ap weight is ∙ weight_Not part in
    omega arith

-- one condition alone
pub only_lighter : (parts : List Cond) (part : Cond) → parts ≡ part ∷ [] → 2 * weight part < 2 * total parts + 1
only_lighter parts part is =
    let whole : total parts ≡ suc (weight part) + 0 = ap total is in
    omega arith

-- two halves
long_total : (parts : List Cond) → length parts ≤ total parts
long_total [] = omega arith
long_total (part ∷ parts) = omega (arith, long_total parts)

total_append : (xs ys : List Cond) → total (xs ++ ys) ≡ total xs + total ys
total_append [] ys = omega arith
total_append (x ∷ xs) ys = omega (arith, total_append xs ys)

pub first_lighter : (parts xs ys : List Cond) → parts ≡ xs ++ ys → 0 < length ys → 2 * total xs + 1 < 2 * total parts + 1
first_lighter parts xs ys is some =
    let whole : total parts ≡ total xs + total ys = ap total is ∙ total_append xs ys in
    omega (arith, long_total ys)

pub rest_lighter : (parts xs ys : List Cond) → parts ≡ xs ++ ys → 0 < length xs → 2 * total ys + 1 < 2 * total parts + 1
rest_lighter parts xs ys is some =
    let whole : total parts ≡ total xs + total ys = ap total is ∙ total_append xs ys in
    omega (arith, long_total xs)

-- what the halves mean together
pub all_halves : (xs ys parts : List Cond) → xs ++ ys ≡ parts → and_of (all_hold xs) (all_hold ys) ≡ all_hold parts
all_halves xs ys parts are = λ i values. (sym (list_all-append (λ part. holds part values) xs ys) ∙ ap (λ l. all_hold l values) are) i

pub some_halves : (xs ys parts : List Cond) → xs ++ ys ≡ parts → or_of (some_hold xs) (some_hold ys) ≡ some_hold parts
some_halves xs ys parts are = λ i values. (sym (list_any-append (λ part. holds part values) xs ys) ∙ ap (λ l. some_hold l values) are) i

pub all_one : (part : Cond) (parts : List Cond) → parts ≡ part ∷ [] → holds part ≡ all_hold parts
all_one part parts is = (λ i values. and_one (holds part values) i) ∙ ap all_hold (sym is)

pub some_one : (part : Cond) (parts : List Cond) → parts ≡ part ∷ [] → holds part ≡ some_hold parts
some_one part parts is = (λ i values. or_none (holds part values) i) ∙ ap some_hold (sym is)

-- the fluents of the halves
pub halves_below : (n : ℕ) (xs ys parts : List Cond) → xs ++ ys ≡ parts → list_all (ids_below n) parts ≡ true → (list_all (ids_below n) xs ≡ true) × (list_all (ids_below n) ys ≡ true)
halves_below n xs ys parts are below = and_parts (list_all (ids_below n) xs) (list_all (ids_below n) ys)
    (sym (list_all-append (ids_below n) xs ys) ∙ ap (list_all (ids_below n)) are ∙ below)

-- a call after a refusal that left nothing
pub after_refusal : (a b c : LiveSets) (f : Function) (result : Result SetId SetErr) → Owns a b [] → OwnsAnswer b c f result → OwnsAnswer a c f result
after_refusal a b c f (Ok slot) none answer = own_chain a b c [] ((slot.0, f) ∷ []) none answer
after_refusal a b c f (Err e) none answer = own_chain a b c [] [] none answer

pub room_after : {w : ℕ} (a b : LiveSets) {c : LiveSets} (few : ℕ) → Owns a b [] → NoRoom w few 0 b c → NoRoom w few 0 a c
room_after {w} a b {c} few none room = room_owned a b [] none few few 0 0 0 tt (omega arith) (omega arith) room

pub small_after : (a b : LiveSets) (w : ℕ) (cond : Cond) → Owns a b [] → AreSmall a.vars w (IsPartOf cond) → AreSmall b.vars w (IsPartOf cond)
small_after a b w cond none small = subst (λ n. AreSmall n w (IsPartOf cond)) (sym none.kept.vars) small

pub below_after : (a b : LiveSets) (cond : Cond) → Owns a b [] → ids_below a.vars cond ≡ true → ids_below b.vars cond ≡ true
below_after a b cond none below = ap (λ n. ids_below n cond) none.kept.vars ∙ below

-- the halves of a list that has two elements at least
pub halves_are : {X : Type 0} (mid : ℕ) (xs ys all : List X) → xs ≡ take mid all → ys ≡ drop mid all → xs ++ ys ≡ all
halves_are mid xs ys all front back = (λ i. front i ++ back i) ∙ take-append-drop mid all

pub halves_some : (n : ℕ) → (n == 0) ≡ false → (n ≡ 1 → ⊥) → (0 < n / 2) × (n / 2 < n)
halves_some n some more =
    let not_none : n ≡ 0 → ⊥ = λ none. true≢false (sym (eq-eqb n 0 none) ∙ some) in
    (omega arith, omega arith)

-- the parts of a condition
pub all_whole : (cond : Cond) (parts : Vec Cond Global) (items : List Cond) → cond ≡ All parts → items ≡ parts.items → all_hold items ≡ holds cond
all_whole cond parts items is same = ap all_hold same ∙ (λ j values. sym (holds_All parts values) j) ∙ ap holds (sym is)

pub any_whole : (cond : Cond) (parts : Vec Cond Global) (items : List Cond) → cond ≡ Any parts → items ≡ parts.items → some_hold items ≡ holds cond
any_whole cond parts items is same = ap some_hold same ∙ (λ j values. sym (holds_Any parts values) j) ∙ ap holds (sym is)

pub all_below : (n : ℕ) (cond : Cond) (parts : Vec Cond Global) (items : List Cond) → cond ≡ All parts → items ≡ parts.items → ids_below n cond ≡ true → list_all (ids_below n) items ≡ true
all_below n cond parts items is same below = ap (list_all (ids_below n)) same ∙ sym (ids_below_All n parts) ∙ ap (ids_below n) (sym is) ∙ below

pub any_below : (n : ℕ) (cond : Cond) (parts : Vec Cond Global) (items : List Cond) → cond ≡ Any parts → items ≡ parts.items → ids_below n cond ≡ true → list_all (ids_below n) items ≡ true
any_below n cond parts items is same below = ap (list_all (ids_below n)) same ∙ sym (ids_below_Any n parts) ∙ ap (ids_below n) (sym is) ∙ below
