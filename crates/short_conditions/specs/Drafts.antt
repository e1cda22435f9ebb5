-- Private: what a draft of a conjunction or a disjunction means.
use Rattle.std.specs.Prelude.{◌≡◌, ◌≤◌, ◌⊎◌, ℕ, Bool, true, false, not, ◌&&◌, if◌then◌else◌, [], ◌∷◌, ◌++◌, map, max}
use Rattle.std.specs.List.{list_all}
use Rattle.task_core.specs.Conditions.{depth, greatest, ids_below}
use Rattle.task_core.specs.States.{truth}
use Rattle.task_core.specs.declared.conditions.Cond.{Cond}
use Rattle.short_conditions.specs.Joining.{join, joined, signed, truths}
use Rattle.short_conditions.specs.declared.drafts.Draft.{Draft}

-- what the parts mean together
abbrev pub parts_mean : Bool → Draft → (ℕ → Bool) → Bool
parts_mean all draft value = joined all (truths true draft.parts.items value)

-- what the draft means
abbrev pub draft_means : Bool → Draft → (ℕ → Bool) → Bool
draft_means all draft value = if draft.is_settled then not all else parts_mean all draft value

-- whether a fluent (positive), or its negation, is noted
abbrev pub noted : Draft → Bool → ℕ → Bool
noted draft true fluent = truth draft.plain fluent
noted draft false fluent = truth draft.negated fluent

-- the draft is a conjunction (all) or a disjunction that means this, whose parts name fluents below n
-- if `fluents n` is true and are so deep at most, and to which no noted literal adds anything
pub record IsDraft (all : Bool) (meaning : (ℕ → Bool) → Bool) (fluents : ℕ → Bool) (deepest : ℕ) (draft : Draft) : Type 0 where
  pub kind : draft.is_conjunction ≡ all
  pub means : (value : ℕ → Bool) → draft_means all draft value ≡ meaning value
  pub below : (n : ℕ) → fluents n ≡ true → list_all (ids_below n) draft.parts.items ≡ true
  pub depth : greatest (map depth draft.parts.items) ≤ deepest
  pub noted : (fluent : ℕ) (positive : Bool) → noted draft positive fluent ≡ true
      → (value : ℕ → Bool) → join all (parts_mean all draft value) (signed positive (value fluent))
      ≡ parts_mean all draft value

-- to whatever the draft was this was added, which may depend on whether it is a conjunction
abbrev pub Adds : (Bool → (ℕ → Bool) → Bool) → (ℕ → Bool) → ℕ → Draft → Draft → Type 0
Adds part fluents deep old new = (all : Bool) (means : (ℕ → Bool) → Bool) (below : ℕ → Bool) (deepest : ℕ)
    → IsDraft all means below deepest old
    → IsDraft all (λ value. join all (means value) (part all value)) (λ n. below n && fluents n) (max deepest deep) new

-- a part was put after the others
pub record HasPart (old : Draft) (part : Cond) (new : Draft) : Type 0 where
  pub parts : new.parts.items ≡ old.parts.items ++ part ∷ []
  pub kind : new.is_conjunction ≡ old.is_conjunction
  pub settled : new.is_settled ≡ old.is_settled
  pub plain : new.plain ≡ old.plain
  pub negated : new.negated ≡ old.negated

-- a literal was noted, and perhaps not
pub record Notes (fluent : ℕ) (positive : Bool) (old new : Draft) : Type 0 where
  pub parts : new.parts.items ≡ old.parts.items
  pub kind : new.is_conjunction ≡ old.is_conjunction
  pub settled : new.is_settled ≡ old.is_settled
  pub only : (other : ℕ) (sign : Bool) → noted new sign other ≡ true
      → ((other ≡ fluent) × (sign ≡ positive)) ⊎ (noted old sign other ≡ true)
