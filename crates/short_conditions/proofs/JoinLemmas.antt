-- Laws of joined truth values, and what joined and negated conditions mean.
use Rattle.std.proofs.Common.{◌≡◌, ℕ, Bool, true, false, not, ◌&&◌, ◌||◌, List, [], ◌∷◌, ◌++◌, map, refl, sym, ap, ◌∙◌, ⊎_elim}
use Rattle.std.specs.Prelude.{Contains, Vec, Box}
use Rattle.std.specs.declared.alloc.Global.{Global}
use Rattle.std.specs.List.{list_all, list_any}
use Rattle.list_laws.proofs.Elements.{Contains-cases, Contains-map, Contains-nil}
use Rattle.task_core.specs.Conditions.{holds}
use Rattle.task_core.specs.declared.conditions.Cond.{Cond}
use Rattle.task_core.specs.declared.conditions.Cond.TheVariants.{Not, All, Any}
use Rattle.task_core.proofs.Holds.{holds_All, holds_Any, holds_Not}
use Rattle.short_conditions.specs.Joining.{HasSame, join, joined, signed, truths}

pub join_assoc : (all a b c : Bool) → join all (join all a b) c ≡ join all a (join all b c)
join_assoc true true b c = refl
join_assoc true false b c = refl
join_assoc false true b c = refl
join_assoc false false b c = refl

-- the truth value of no parts adds nothing
pub join_none : (all a : Bool) → join all a all ≡ a
join_none true true = refl
join_none true false = refl
join_none false true = refl
join_none false false = refl

pub join_first : (all a : Bool) → join all all a ≡ a
join_first true a = refl
join_first false a = refl

-- the other truth value settles it
pub join_settled : (all a : Bool) → join all (not all) a ≡ not all
join_settled true a = refl
join_settled false a = refl

pub join_settles : (all a : Bool) → join all a (not all) ≡ not all
join_settles true true = refl
join_settles true false = refl
join_settles false true = refl
join_settles false false = refl

pub join_again : (all a b : Bool) → join all (join all a b) b ≡ join all a b
join_again true true true = refl
join_again true true false = refl
join_again true false b = refl
join_again false true b = refl
join_again false false true = refl
join_again false false false = refl

pub join_swap : (all a b c : Bool) → join all (join all a b) c ≡ join all (join all a c) b
join_swap true true true true = refl
join_swap true true true false = refl
join_swap true true false true = refl
join_swap true true false false = refl
join_swap true false b c = refl
join_swap false true b c = refl
join_swap false false true true = refl
join_swap false false true false = refl
join_swap false false false true = refl
join_swap false false false false = refl

-- to what a literal adds nothing, its negation settles
pub join_opposite : (all a x positive : Bool) → join all a (signed (not positive) x) ≡ a → join all a (signed positive x) ≡ not all
join_opposite true true true true h = sym h
join_opposite true true true false h = refl
join_opposite true true false true h = refl
join_opposite true true false false h = sym h
join_opposite true false x positive h = refl
join_opposite false true x positive h = refl
join_opposite false false true true h = refl
join_opposite false false true false h = sym h
join_opposite false false false true h = sym h
join_opposite false false false false h = refl

pub joined_more : (all : Bool) (xs : List Bool) (x : Bool) → joined all (xs ++ x ∷ []) ≡ join all (joined all xs) x
joined_more all [] x = join_none all x ∙ sym (join_first all x)
joined_more all (y ∷ ys) x = ap (λ b. join all y b) (joined_more all ys x) ∙ sym (join_assoc all y (joined all ys) x)

pub joined_listed : (all : Bool) (xs : List Bool) (x : Bool) → Contains xs x → join all (joined all xs) x ≡ joined all xs
joined_listed all [] x c = absurd (Contains-nil x c)
joined_listed all (y ∷ ys) x c =
    ⊎_elim
    (λ (e : y ≡ x). ap (λ b. join all (join all b (joined all ys)) x) e ∙ again all x (joined all ys) ∙ ap (λ b. join all b (joined all ys)) (sym e))
    (λ (d : Contains ys x). join_assoc all y (joined all ys) x ∙ ap (λ b. join all y b) (joined_listed all ys x d))
    (Contains-cases y ys x c)
  where
    again : (all a b : Bool) → join all (join all a b) a ≡ join all a b
    again true true true = refl
    again true true false = refl
    again true false b = refl
    again false true b = refl
    again false false true = refl
    again false false false = refl

-- a condition that is among the parts adds nothing
pub joined_same : (all : Bool) (parts : List Cond) (cond : Cond) (value : ℕ → Bool) → HasSame parts cond
    → join all (joined all (truths true parts value)) (holds cond value) ≡ joined all (truths true parts value)
joined_same all parts cond value same =
    ap (λ b. join all (joined all (truths true parts value)) b) (sym (same.same value))
    ∙ joined_listed all (truths true parts value) (holds same.part value) (Contains-map (λ c. holds c value) parts same.part same.listed)

-- conjunctions and disjunctions, and their negations
all_plain : {X : Type 0} (f : X → Bool) (xs : List X) → list_all f xs ≡ joined true (map f xs)
all_plain f [] = refl
all_plain f (x ∷ xs) = ap (λ b. f x && b) (all_plain f xs)

any_plain : {X : Type 0} (f : X → Bool) (xs : List X) → list_any f xs ≡ joined false (map f xs)
any_plain f [] = refl
any_plain f (x ∷ xs) = ap (λ b. f x || b) (any_plain f xs)

not_both : (a b : Bool) → not (a && b) ≡ (not a || not b)
not_both true b = refl
not_both false b = refl

not_either : (a b : Bool) → not (a || b) ≡ (not a && not b)
not_either true b = refl
not_either false b = refl

all_negated : {X : Type 0} (f : X → Bool) (xs : List X) → not (list_all f xs) ≡ joined false (map (λ x. not (f x)) xs)
all_negated f [] = refl
all_negated f (x ∷ xs) = not_both (f x) (list_all f xs) ∙ ap (λ b. not (f x) || b) (all_negated f xs)

any_negated : {X : Type 0} (f : X → Bool) (xs : List X) → not (list_any f xs) ≡ joined true (map (λ x. not (f x)) xs)
any_negated f [] = refl
any_negated f (x ∷ xs) = not_either (f x) (list_any f xs) ∙ ap (λ b. not (f x) && b) (any_negated f xs)

pub signed_All : (positive : Bool) (parts : Vec Cond Global) (value : ℕ → Bool) → signed positive (holds (All parts) value) ≡ joined positive (truths positive parts.items value)
signed_All true parts value = holds_All parts value ∙ all_plain (λ c. holds c value) parts.items
signed_All false parts value = ap not (holds_All parts value) ∙ all_negated (λ c. holds c value) parts.items

pub signed_Any : (positive : Bool) (parts : Vec Cond Global) (value : ℕ → Bool) → signed positive (holds (Any parts) value) ≡ joined (not positive) (truths positive parts.items value)
signed_Any true parts value = holds_Any parts value ∙ any_plain (λ c. holds c value) parts.items
signed_Any false parts value = ap not (holds_Any parts value) ∙ any_negated (λ c. holds c value) parts.items

pub signed_not : (positive b : Bool) → signed positive (not b) ≡ signed (not positive) b
signed_not true b = refl
signed_not false true = refl
signed_not false false = refl

pub signed_Not : (positive : Bool) (part : Box Cond Global) (value : ℕ → Bool) → signed positive (holds (Not part) value) ≡ signed (not positive) (holds part.value value)
signed_Not positive part value = ap (signed positive) (holds_Not part value) ∙ signed_not positive (holds part.value value)

-- the kind that a conjunction's or a disjunction's negation is
pub combined_All : (parts : Vec Cond Global) (value : ℕ → Bool) → holds (All parts) value ≡ joined true (truths true parts.items value)
combined_All = signed_All true

pub combined_Any : (parts : Vec Cond Global) (value : ℕ → Bool) → holds (Any parts) value ≡ joined false (truths true parts.items value)
combined_Any = signed_Any true
