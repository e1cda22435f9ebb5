-- Private: what conditions mean that are joined, or negated.
use Rattle.std.specs.Prelude.{◌≡◌, ◌≤◌, ℕ, Bool, true, false, not, ◌&&◌, ◌||◌, List, [], ◌∷◌, Contains, map, nat_lt}
use Rattle.task_core.specs.Conditions.{depth, holds, ids_below}
use Rattle.task_core.specs.declared.conditions.Cond.{Cond}

-- a truth value (positive), or its negation
abbrev pub signed : Bool → Bool → Bool
signed true b = b
signed false b = not b

-- both truth values (all), or one of them
abbrev pub join : Bool → Bool → Bool → Bool
join true a b = a && b
join false a b = a || b

-- whether all truth values are true (all), or some
abbrev pub joined : Bool → List Bool → Bool
joined all [] = all
joined all (b ∷ bs) = join all b (joined all bs)

-- what conditions mean, or (not positive) their negations
abbrev pub truths : Bool → List Cond → (ℕ → Bool) → List Bool
truths positive conds value = map (λ cond. signed positive (holds cond value)) conds

-- the condition means this, names fluents below n if `fluents n` is true, and is so deep at most
pub record IsMade (means : (ℕ → Bool) → Bool) (fluents : ℕ → Bool) (deepest : ℕ) (cond : Cond) : Type 0 where
  pub holds : (value : ℕ → Bool) → holds cond value ≡ means value
  pub below : (n : ℕ) → fluents n ≡ true → ids_below n cond ≡ true
  pub depth : depth cond ≤ deepest

-- the condition means this, names fluents below n exactly if `fluents n` is true, and has no parts
-- in one another
pub record IsSimple (means : (ℕ → Bool) → Bool) (fluents : ℕ → Bool) (cond : Cond) : Type 0 where
  pub holds : (value : ℕ → Bool) → holds cond value ≡ means value
  pub below : (n : ℕ) → ids_below n cond ≡ fluents n
  pub depth : depth cond ≡ 1

-- the condition holds always, or never
abbrev pub IsConstant : Bool → Cond → Type 0
IsConstant holds cond = IsSimple (λ _. holds) (λ _. true) cond

-- the condition is that a fluent is true (positive), or false
abbrev pub IsLiteral : ℕ → Bool → Cond → Type 0
IsLiteral fluent positive cond =
    IsSimple (λ value. signed positive (value fluent)) (λ n. nat_lt fluent n) cond

-- one of the parts means what the condition means
pub record HasSame (parts : List Cond) (cond : Cond) : Type 0 where
  pub part : Cond
  pub listed : Contains parts part
  pub same : (value : ℕ → Bool) → holds part value ≡ holds cond value
