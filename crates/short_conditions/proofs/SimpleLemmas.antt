-- Conditions without parts in one another, and what drafts make of conditions.
use Rattle.std.proofs.Common.{◌≡◌, ℕ, ◌<◌, ◌+◌, ◌≤◌, Bool, true, false, not, if◌then◌else◌, List, [], ◌∷◌, ◌++◌, ◌&&◌, map, max, take, length, get_or, refl, sym, ap, ◌∙◌, subst, arith, ⊎_elim, inl, inr, ◌⊎◌}
use Rattle.std.specs.Prelude.{Box, Vec, nat_lt}
use Rattle.std.specs.declared.alloc.Global.{Global}
use Rattle.std.specs.List.{list_all}
use Rattle.list_laws.proofs.Numbers.{trichotomy}
use Rattle.task_core.specs.Conditions.{depth, greatest, holds, ids_below}
use Rattle.task_core.specs.States.{truth}
use Rattle.task_core.specs.declared.conditions.Cond.{Cond}
use Rattle.task_core.specs.declared.conditions.Cond.TheVariants.{Yes, No, Is, Not, All, Any}
use Rattle.task_core.specs.declared.literals.FluentId.{FluentId}
use Rattle.task_core.proofs.Holds.{holds_Yes, holds_No, holds_Is, ids_below_Yes, ids_below_No, ids_below_Is, ids_below_Not, ids_below_All, ids_below_Any}
use Rattle.short_conditions.specs.Joining.{IsConstant, IsLiteral, IsMade, join, joined, signed, truths}
use Rattle.short_conditions.specs.Drafts.{Adds, IsDraft, Notes, noted, parts_mean}
use Rattle.short_conditions.specs.declared.drafts.Draft.{Draft}
use Rattle.short_conditions.proofs.DepthLemmas.{depth_All, depth_Any, depth_Is, depth_No, depth_Not, depth_Yes, greatest_more}
use Rattle.std.proofs.Math.Bool.{beq}
use Rattle.std.proofs.lemmas.Bool.{and_parts, and_from, false≢true}
use Rattle.std.proofs.lemmas.List.{map-append, take_all, take_more}
use Rattle.std.proofs.lemmas.List.Folds.{list_all-append}
use Rattle.short_conditions.proofs.DraftLemmas.{adds_as, adds_none, adds_then}
use Rattle.short_conditions.proofs.JoinLemmas.{combined_All, combined_Any, join_first, joined_more, signed_All, signed_Any, signed_Not}

pub constant_yes : (b : Bool) → b ≡ true → IsConstant b Yes
constant_yes b e = record { holds = λ value. holds_Yes value ∙ sym e; below = λ n. ids_below_Yes n; depth = depth_Yes }

pub constant_no : (b : Bool) → b ≡ false → IsConstant b No
constant_no b e = record { holds = λ value. holds_No value ∙ sym e; below = λ n. ids_below_No n; depth = depth_No }

pub literal_plain : (fluent : FluentId) (positive : Bool) → positive ≡ true → IsLiteral fluent.0 positive (Is fluent)
literal_plain fluent positive e = record {
  holds = λ value. holds_Is fluent value ∙ ap (λ p. signed p (value fluent.0)) (sym e);
  below = λ n. ids_below_Is n fluent;
  depth = depth_Is fluent;
}

pub literal_negated : (fluent : ℕ) (positive : Bool) (part : Box Cond Global) → IsLiteral fluent true part.value → positive ≡ false → IsLiteral fluent positive (Not part)
literal_negated fluent positive part is e = record {
  holds = λ value. signed_Not true part value ∙ ap not (is.holds value) ∙ ap (λ p. signed p (value fluent)) (sym e);
  below = λ n. ids_below_Not n part ∙ is.below n;
  depth = depth_Not part ∙ is.depth;
}

-- what is noted after a literal is noted
pub notes_nothing : (fluent : ℕ) (positive : Bool) (draft : Draft) → Notes fluent positive draft draft
notes_nothing fluent positive draft = record { parts = refl; kind = refl; settled = refl; only = λ _ _ n. inr n }

differs : (f g : ℕ) → (f ≡ g) ⊎ (f ≡ g → ⊥)
differs f g =
    ⊎_elim (λ (l : f < g). inr (λ e. omega (arith, l, e)))
    (λ (h : (f ≡ g) ⊎ (g < f)). ⊎_elim (λ (e : f ≡ g). inl e) (λ (l : g < f). inr (λ e. omega (arith, l, e))) h)
    (trichotomy f g)

pub notes_plain : (fluent : ℕ) (positive : Bool) (old new : Draft) → positive ≡ true → new.parts.items ≡ old.parts.items → new.is_conjunction ≡ old.is_conjunction → new.is_settled ≡ old.is_settled → new.negated ≡ old.negated
    → ((g : ℕ) → (g ≡ fluent → ⊥) → truth new.plain g ≡ truth old.plain g) → Notes fluent positive old new
notes_plain fluent positive old new is parts kind settled negated others = record { parts = parts; kind = kind; settled = settled; only = only }
  where
    only : (other : ℕ) (sign : Bool) → noted new sign other ≡ true → ((other ≡ fluent) × (sign ≡ positive)) ⊎ (noted old sign other ≡ true)
    only other true n =
        ⊎_elim (λ (e : other ≡ fluent). inl (e, sym is)) (λ (d : other ≡ fluent → ⊥). inr (sym (others other d) ∙ n)) (differs other fluent)
    only other false n = inr (ap (λ s. truth s other) (sym negated) ∙ n)

pub notes_negated : (fluent : ℕ) (positive : Bool) (old new : Draft) → positive ≡ false → new.parts.items ≡ old.parts.items → new.is_conjunction ≡ old.is_conjunction → new.is_settled ≡ old.is_settled → new.plain ≡ old.plain
    → ((g : ℕ) → (g ≡ fluent → ⊥) → truth new.negated g ≡ truth old.negated g) → Notes fluent positive old new
notes_negated fluent positive old new is parts kind settled plain others = record { parts = parts; kind = kind; settled = settled; only = only }
  where
    only : (other : ℕ) (sign : Bool) → noted new sign other ≡ true → ((other ≡ fluent) × (sign ≡ positive)) ⊎ (noted old sign other ≡ true)
    only other true n = inr (ap (λ s. truth s other) (sym plain) ∙ n)
    only other false n =
        ⊎_elim (λ (e : other ≡ fluent). inl (e, sym is)) (λ (d : other ≡ fluent → ⊥). inr (sym (others other d) ∙ n)) (differs other fluent)

-- a draft without parts
pub draft_new : (all : Bool) (draft : Draft) → draft.is_conjunction ≡ all → draft.is_settled ≡ false → draft.parts.items ≡ [] → ((f : ℕ) → truth draft.plain f ≡ false) → ((f : ℕ) → truth draft.negated f ≡ false)
    → IsDraft all (λ _. all) (λ _. true) 0 draft
draft_new all draft kind settled none plain negated = record {
  kind = kind;
  means = λ value. ap (λ s. if s then not all else parts_mean all draft value) settled ∙ ap (λ xs. joined all (truths true xs value)) none;
  below = λ n _. ap (list_all (ids_below n)) none;
  depth = let e : greatest (map depth draft.parts.items) ≡ 0 = ap (λ xs. greatest (map depth xs)) none in omega (arith, e);
  noted = λ f sign n value. absurd (nothing sign f n);
}
  where
    nothing : (sign : Bool) (f : ℕ) → noted draft sign f ≡ true → ⊥
    nothing true f n = false≢true (sym (plain f) ∙ n)
    nothing false f n = false≢true (sym (negated f) ∙ n)

-- the condition that a draft is
module _ (all : Bool) (means : (ℕ → Bool) → Bool) (below : ℕ → Bool) (deepest : ℕ) (inner : Draft) (d : IsDraft all means below deepest inner) where
  means_settled : inner.is_settled ≡ true → (value : ℕ → Bool) → not all ≡ means value
  means_settled e value = ap (λ s. if s then not all else parts_mean all inner value) (sym e) ∙ d.means value

  means_parts : inner.is_settled ≡ false → (value : ℕ → Bool) → parts_mean all inner value ≡ means value
  means_parts e value = ap (λ s. if s then not all else parts_mean all inner value) (sym e) ∙ d.means value

  pub made_constant : (cond : Cond) → inner.is_settled ≡ true → IsConstant (not all) cond → IsMade means below (deepest + 1) cond
  made_constant cond e is = record {
    holds = λ value. is.holds value ∙ means_settled e value;
    below = λ n _. is.below n;
    depth = omega (arith, is.depth);
  }

  pub made_parts : (cond : Cond) → inner.is_settled ≡ false
      → ((value : ℕ → Bool) → holds cond value ≡ joined all (truths true inner.parts.items value))
      → ((n : ℕ) → list_all (ids_below n) inner.parts.items ≡ true → ids_below n cond ≡ true)
      → depth cond ≤ greatest (map depth inner.parts.items) + 1 → IsMade means below (deepest + 1) cond
  made_parts cond e same fluents le = record {
    holds = λ value. same value ∙ means_parts e value;
    below = λ n b. fluents n (d.below n b);
    depth = omega (arith, le, d.depth);
  }

  pub adds_settled : (old new : Draft) → inner.is_settled ≡ true → Adds (λ _ _. not all) (λ _. true) 1 old new → Adds (λ _. means) below (deepest + 1) old new
  adds_settled old new e =
      adds_as (λ _ _. not all) (λ _. means) (λ _. true) below 1 (deepest + 1) old new (λ _ _ value. means_settled e value) (λ _ _. refl) (omega arith)

  pub adds_alike : (old new : Draft) → inner.is_settled ≡ false → all ≡ old.is_conjunction
      → Adds (λ kind value. joined kind (truths true inner.parts.items value)) (λ n. list_all (ids_below n) inner.parts.items) (greatest (map depth inner.parts.items)) old new
      → Adds (λ _. means) below (deepest + 1) old new
  adds_alike old new e alike =
      adds_as (λ kind value. joined kind (truths true inner.parts.items value)) (λ _. means) (λ n. list_all (ids_below n) inner.parts.items) below (greatest (map depth inner.parts.items)) (deepest + 1) old new
      (λ kind k value. ap (λ b. joined b (truths true inner.parts.items value)) (k ∙ sym alike) ∙ means_parts e value)
      d.below (omega (arith, d.depth))

-- a condition that was made is added
pub adds_made : (means : (ℕ → Bool) → Bool) (below : ℕ → Bool) (deepest : ℕ) (cond : Cond) (old new : Draft) → IsMade means below deepest cond
    → Adds (λ _ value. holds cond value) (λ n. ids_below n cond) (depth cond) old new → Adds (λ _. means) below deepest old new
adds_made means below deepest cond old new made =
    adds_as (λ _ value. holds cond value) (λ _. means) (λ n. ids_below n cond) below (depth cond) deepest old new (λ _ _ value. made.holds value) made.below made.depth

-- a simple condition is added as what it is
pub adds_constant : (b : Bool) (cond : Cond) (old new : Draft) → IsConstant b cond → Adds (λ _ _. b) (λ _. true) 1 old new → Adds (λ _ value. holds cond value) (λ n. ids_below n cond) (depth cond) old new
adds_constant b cond old new is =
    adds_as (λ _ _. b) (λ _ value. holds cond value) (λ _. true) (λ n. ids_below n cond) 1 (depth cond) old new (λ _ _ value. sym (is.holds value)) (λ _ _. refl) (omega (arith, is.depth))

pub adds_simple : (fluent : ℕ) (positive : Bool) (cond : Cond) (old new : Draft) → IsLiteral fluent positive cond → Adds (λ _ value. signed positive (value fluent)) (λ n. nat_lt fluent n) 1 old new
    → Adds (λ _ value. holds cond value) (λ n. ids_below n cond) (depth cond) old new
adds_simple fluent positive cond old new is =
    adds_as (λ _ value. signed positive (value fluent)) (λ _ value. holds cond value) (λ n. nat_lt fluent n) (λ n. ids_below n cond) 1 (depth cond) old new
    (λ _ _ value. sym (is.holds value)) (λ n b. sym (is.below n) ∙ b) (omega (arith, is.depth))

-- conjunctions and disjunctions
pub below_All : (n : ℕ) (parts : Vec Cond Global) → list_all (ids_below n) parts.items ≡ true → ids_below n (All parts) ≡ true
below_All n parts h = ids_below_All n parts ∙ h

pub below_Any : (n : ℕ) (parts : Vec Cond Global) → list_all (ids_below n) parts.items ≡ true → ids_below n (Any parts) ≡ true
below_Any n parts h = ids_below_Any n parts ∙ h

-- what a condition of each kind adds, where it adds its parts
pub adds_All : (positive : Bool) (cond : Cond) (parts : Vec Cond Global) (old new : Draft) → cond ≡ All parts
    → Adds (λ _ value. joined positive (truths positive parts.items value)) (λ n. list_all (ids_below n) parts.items) (greatest (map depth parts.items) + 1) old new
    → Adds (λ _ value. signed positive (holds cond value)) (λ n. ids_below n cond) (depth cond) old new
adds_All positive cond parts old new is =
    let deep : depth cond ≡ 1 + greatest (map depth parts.items) = ap depth is ∙ depth_All parts in
    adds_as (λ _ value. joined positive (truths positive parts.items value)) (λ _ value. signed positive (holds cond value)) (λ n. list_all (ids_below n) parts.items) (λ n. ids_below n cond) (greatest (map depth parts.items) + 1) (depth cond) old new
    (λ _ _ value. sym (signed_All positive parts value) ∙ ap (λ c. signed positive (holds c value)) (sym is))
    (λ n b. sym (ids_below_All n parts) ∙ ap (ids_below n) (sym is) ∙ b) (omega (arith, deep))

pub adds_Any : (positive : Bool) (cond : Cond) (parts : Vec Cond Global) (old new : Draft) → cond ≡ Any parts
    → Adds (λ _ value. joined (not positive) (truths positive parts.items value)) (λ n. list_all (ids_below n) parts.items) (greatest (map depth parts.items) + 1) old new
    → Adds (λ _ value. signed positive (holds cond value)) (λ n. ids_below n cond) (depth cond) old new
adds_Any positive cond parts old new is =
    let deep : depth cond ≡ 1 + greatest (map depth parts.items) = ap depth is ∙ depth_Any parts in
    adds_as (λ _ value. joined (not positive) (truths positive parts.items value)) (λ _ value. signed positive (holds cond value)) (λ n. list_all (ids_below n) parts.items) (λ n. ids_below n cond) (greatest (map depth parts.items) + 1) (depth cond) old new
    (λ _ _ value. sym (signed_Any positive parts value) ∙ ap (λ c. signed positive (holds c value)) (sym is))
    (λ n b. sym (ids_below_Any n parts) ∙ ap (ids_below n) (sym is) ∙ b) (omega (arith, deep))

pub adds_Not : (positive : Bool) (cond inner : Cond) (part : Box Cond Global) (old new : Draft) → cond ≡ Not part → inner ≡ part.value
    → Adds (λ _ value. signed (not positive) (holds inner value)) (λ n. ids_below n inner) (depth inner) old new
    → Adds (λ _ value. signed positive (holds cond value)) (λ n. ids_below n cond) (depth cond) old new
adds_Not positive cond inner part old new is within adds =
    let P : Cond → Type 0 = λ c. Adds (λ _ value. signed (not positive) (holds c value)) (λ n. ids_below n c) (depth c) old new in
    let deep : depth cond ≡ depth part.value = ap depth is ∙ depth_Not part in
    adds_as (λ _ value. signed (not positive) (holds part.value value)) (λ _ value. signed positive (holds cond value)) (λ n. ids_below n part.value) (λ n. ids_below n cond) (depth part.value) (depth cond) old new
    (λ _ _ value. sym (signed_Not positive part value) ∙ ap (λ c. signed positive (holds c value)) (sym is))
    (λ n b. sym (ids_below_Not n part) ∙ ap (ids_below n) (sym is) ∙ b) (omega (arith, deep)) (subst P within adds)

pub adds_Is : (positive : Bool) (cond : Cond) (fluent : FluentId) (old new : Draft) → cond ≡ Is fluent
    → Adds (λ _ value. signed positive (value fluent.0)) (λ n. nat_lt fluent.0 n) 1 old new
    → Adds (λ _ value. signed positive (holds cond value)) (λ n. ids_below n cond) (depth cond) old new
adds_Is positive cond fluent old new is =
    let deep : depth cond ≡ 1 = ap depth is ∙ depth_Is fluent in
    adds_as (λ _ value. signed positive (value fluent.0)) (λ _ value. signed positive (holds cond value)) (λ n. nat_lt fluent.0 n) (λ n. ids_below n cond) 1 (depth cond) old new
    (λ _ _ value. ap (signed positive) (sym (holds_Is fluent value)) ∙ ap (λ c. signed positive (holds c value)) (sym is))
    (λ n b. sym (ids_below_Is n fluent) ∙ ap (ids_below n) (sym is) ∙ b) (omega (arith, deep))

pub adds_Yes : (positive : Bool) (cond : Cond) (old new : Draft) → cond ≡ Yes → Adds (λ _ _. positive) (λ _. true) 1 old new
    → Adds (λ _ value. signed positive (holds cond value)) (λ n. ids_below n cond) (depth cond) old new
adds_Yes positive cond old new is =
    let deep : depth cond ≡ 1 = ap depth is ∙ depth_Yes in
    adds_as (λ _ _. positive) (λ _ value. signed positive (holds cond value)) (λ _. true) (λ n. ids_below n cond) 1 (depth cond) old new
    (λ _ _ value. yes positive ∙ ap (signed positive) (sym (holds_Yes value)) ∙ ap (λ c. signed positive (holds c value)) (sym is))
    (λ _ _. refl) (omega (arith, deep))
  where
    yes : (p : Bool) → p ≡ signed p true
    yes true = refl
    yes false = refl

pub adds_No : (positive : Bool) (cond : Cond) (old new : Draft) → cond ≡ No → Adds (λ _ _. not positive) (λ _. true) 1 old new
    → Adds (λ _ value. signed positive (holds cond value)) (λ n. ids_below n cond) (depth cond) old new
adds_No positive cond old new is =
    let deep : depth cond ≡ 1 = ap depth is ∙ depth_No in
    adds_as (λ _ _. not positive) (λ _ value. signed positive (holds cond value)) (λ _. true) (λ n. ids_below n cond) 1 (depth cond) old new
    (λ _ _ value. no_sign positive ∙ ap (signed positive) (sym (holds_No value)) ∙ ap (λ c. signed positive (holds c value)) (sym is))
    (λ _ _. refl) (omega (arith, deep))
  where
    no_sign : (p : Bool) → not p ≡ signed p false
    no_sign true = refl
    no_sign false = refl

-- a new draft to which something was added
pub draft_begun : (all : Bool) (part : Bool → (ℕ → Bool) → Bool) (fluents : ℕ → Bool) (deep : ℕ) (old new : Draft) → IsDraft all (λ _. all) (λ _. true) 0 old → Adds part fluents deep old new → IsDraft all (λ value. part all value) fluents deep new
draft_begun all part fluents deep old new d adds =
    let a = adds all (λ _. all) (λ _. true) 0 d in
    record {
      kind = a.kind;
      means = λ value. a.means value ∙ join_first all (part all value);
      below = λ n b. a.below n b;
      depth = omega (arith, a.depth);
      noted = a.noted;
    }

pub draft_own : (all : Bool) (means : (ℕ → Bool) → Bool) (below : ℕ → Bool) (deepest : ℕ) (draft : Draft) → IsDraft all means below deepest draft → IsDraft draft.is_conjunction means below deepest draft
draft_own all means below deepest draft d =
    let P : Bool → Type 0 = λ k. IsDraft k means below deepest draft in
    subst P (sym d.kind) d

-- what is made of a condition of each kind
made_as : (means other : (ℕ → Bool) → Bool) (below more : ℕ → Bool) (deep deeper : ℕ) (cond : Cond) → ((value : ℕ → Bool) → means value ≡ other value) → ((n : ℕ) → more n ≡ true → below n ≡ true) → deep ≤ deeper
    → IsMade means below deep cond → IsMade other more deeper cond
made_as means other below more deep deeper cond same fewer le made = record {
  holds = λ value. made.holds value ∙ same value;
  below = λ n b. made.below n (fewer n b);
  depth = omega (arith, made.depth, le);
}

pub made_All : (positive : Bool) (cond : Cond) (parts : Vec Cond Global) (short : Cond) → cond ≡ All parts
    → IsMade (λ value. joined positive (truths positive parts.items value)) (λ n. list_all (ids_below n) parts.items) (greatest (map depth parts.items) + 1) short
    → IsMade (λ value. signed positive (holds cond value)) (λ n. ids_below n cond) (depth cond) short
made_All positive cond parts short is =
    let deep : depth cond ≡ 1 + greatest (map depth parts.items) = ap depth is ∙ depth_All parts in
    made_as (λ value. joined positive (truths positive parts.items value)) (λ value. signed positive (holds cond value)) (λ n. list_all (ids_below n) parts.items) (λ n. ids_below n cond) (greatest (map depth parts.items) + 1) (depth cond) short
    (λ value. sym (signed_All positive parts value) ∙ ap (λ c. signed positive (holds c value)) (sym is))
    (λ n b. sym (ids_below_All n parts) ∙ ap (ids_below n) (sym is) ∙ b) (omega (arith, deep))

pub made_Any : (positive : Bool) (cond : Cond) (parts : Vec Cond Global) (short : Cond) → cond ≡ Any parts
    → IsMade (λ value. joined (not positive) (truths positive parts.items value)) (λ n. list_all (ids_below n) parts.items) (greatest (map depth parts.items) + 1) short
    → IsMade (λ value. signed positive (holds cond value)) (λ n. ids_below n cond) (depth cond) short
made_Any positive cond parts short is =
    let deep : depth cond ≡ 1 + greatest (map depth parts.items) = ap depth is ∙ depth_Any parts in
    made_as (λ value. joined (not positive) (truths positive parts.items value)) (λ value. signed positive (holds cond value)) (λ n. list_all (ids_below n) parts.items) (λ n. ids_below n cond) (greatest (map depth parts.items) + 1) (depth cond) short
    (λ value. sym (signed_Any positive parts value) ∙ ap (λ c. signed positive (holds c value)) (sym is))
    (λ n b. sym (ids_below_Any n parts) ∙ ap (ids_below n) (sym is) ∙ b) (omega (arith, deep))

pub made_Not : (positive : Bool) (cond inner : Cond) (part : Box Cond Global) (short : Cond) → cond ≡ Not part → inner ≡ part.value
    → IsMade (λ value. signed (not positive) (holds inner value)) (λ n. ids_below n inner) (depth inner) short
    → IsMade (λ value. signed positive (holds cond value)) (λ n. ids_below n cond) (depth cond) short
made_Not positive cond inner part short is within made =
    let P : Cond → Type 0 = λ c. IsMade (λ value. signed (not positive) (holds c value)) (λ n. ids_below n c) (depth c) short in
    let deep : depth cond ≡ depth part.value = ap depth is ∙ depth_Not part in
    made_as (λ value. signed (not positive) (holds part.value value)) (λ value. signed positive (holds cond value)) (λ n. ids_below n part.value) (λ n. ids_below n cond) (depth part.value) (depth cond) short
    (λ value. sym (signed_Not positive part value) ∙ ap (λ c. signed positive (holds c value)) (sym is))
    (λ n b. sym (ids_below_Not n part) ∙ ap (ids_below n) (sym is) ∙ b) (omega (arith, deep)) (subst P within made)

pub made_Is : (positive : Bool) (cond : Cond) (fluent : FluentId) (short : Cond) → cond ≡ Is fluent → IsLiteral fluent.0 positive short
    → IsMade (λ value. signed positive (holds cond value)) (λ n. ids_below n cond) (depth cond) short
made_Is positive cond fluent short is literal =
    let deep : depth cond ≡ 1 = ap depth is ∙ depth_Is fluent in
    record {
      holds = λ value. literal.holds value ∙ ap (signed positive) (sym (holds_Is fluent value)) ∙ ap (λ c. signed positive (holds c value)) (sym is);
      below = λ n b. literal.below n ∙ sym (ids_below_Is n fluent) ∙ ap (ids_below n) (sym is) ∙ b;
      depth = omega (arith, literal.depth, deep);
    }

pub made_Yes : (positive : Bool) (cond short : Cond) → cond ≡ Yes → IsConstant positive short
    → IsMade (λ value. signed positive (holds cond value)) (λ n. ids_below n cond) (depth cond) short
made_Yes positive cond short is constant =
    let deep : depth cond ≡ 1 = ap depth is ∙ depth_Yes in
    record {
      holds = λ value. constant.holds value ∙ yes positive ∙ ap (signed positive) (sym (holds_Yes value)) ∙ ap (λ c. signed positive (holds c value)) (sym is);
      below = λ n _. constant.below n;
      depth = omega (arith, constant.depth, deep);
    }
  where
    yes : (p : Bool) → p ≡ signed p true
    yes true = refl
    yes false = refl

pub made_No : (positive : Bool) (cond short : Cond) → cond ≡ No → IsConstant (not positive) short
    → IsMade (λ value. signed positive (holds cond value)) (λ n. ids_below n cond) (depth cond) short
made_No positive cond short is constant =
    let deep : depth cond ≡ 1 = ap depth is ∙ depth_No in
    record {
      holds = λ value. constant.holds value ∙ no_sign positive ∙ ap (signed positive) (sym (holds_No value)) ∙ ap (λ c. signed positive (holds c value)) (sym is);
      below = λ n _. constant.below n;
      depth = omega (arith, constant.depth, deep);
    }
  where
    no_sign : (p : Bool) → not p ≡ signed p false
    no_sign true = refl
    no_sign false = refl

-- the parts up to a place, and one more
pub parts_begun : (positive : Bool) (parts : List Cond) (draft : Draft) → Adds (λ all value. joined all (truths positive (take 0 parts) value)) (λ n. list_all (ids_below n) (take 0 parts)) (greatest (map depth (take 0 parts))) draft draft
parts_begun positive [] draft = adds_none draft
parts_begun positive (x ∷ xs) draft = adds_none draft

pub parts_appended : (positive : Bool) (xs : List Cond) (part : Cond) (old mid new : Draft)
    → Adds (λ all value. joined all (truths positive xs value)) (λ n. list_all (ids_below n) xs) (greatest (map depth xs)) old mid
    → Adds (λ _ value. signed positive (holds part value)) (λ n. ids_below n part) (depth part) mid new
    → Adds (λ all value. joined all (truths positive (xs ++ part ∷ []) value)) (λ n. list_all (ids_below n) (xs ++ part ∷ [])) (greatest (map depth (xs ++ part ∷ []))) old new
parts_appended positive xs part old mid new first one =
    let deeper : greatest (map depth (xs ++ part ∷ [])) ≡ max (greatest (map depth xs)) (depth part) =
    ap greatest (map-append depth xs (part ∷ [])) ∙ greatest_more (map depth xs) (depth part) in
    adds_as (λ all value. join all (joined all (truths positive xs value)) (signed positive (holds part value))) (λ all value. joined all (truths positive (xs ++ part ∷ []) value))
    (λ n. list_all (ids_below n) xs && ids_below n part) (λ n. list_all (ids_below n) (xs ++ part ∷ []))
    (max (greatest (map depth xs)) (depth part)) (greatest (map depth (xs ++ part ∷ []))) old new
    (λ all _ value.
    sym (joined_more all (truths positive xs value) (signed positive (holds part value)))
    ∙ ap (joined all) (sym (map-append (λ c. signed positive (holds c value)) xs (part ∷ []))))
    (λ n b.
    let both = and_parts (list_all (ids_below n) xs) (list_all (ids_below n) (part ∷ [])) (sym (list_all-append (ids_below n) xs (part ∷ [])) ∙ b) in
    and_from (list_all (ids_below n) xs) (ids_below n part) both.0 (and_parts (ids_below n part) true both.1).0)
    (omega (arith, deeper))
    (adds_then (λ all value. joined all (truths positive xs value)) (λ _ value. signed positive (holds part value)) (λ n. list_all (ids_below n) xs) (λ n. ids_below n part) (greatest (map depth xs)) (depth part) old mid new first one)

pub parts_more : (positive : Bool) (parts : List Cond) (i : ℕ) (part : Cond) (old mid new : Draft) → i < length parts → part ≡ get_or parts i part
    → Adds (λ all value. joined all (truths positive (take i parts) value)) (λ n. list_all (ids_below n) (take i parts)) (greatest (map depth (take i parts))) old mid
    → Adds (λ _ value. signed positive (holds part value)) (λ n. ids_below n part) (depth part) mid new
    → Adds (λ all value. joined all (truths positive (take (i + 1) parts) value)) (λ n. list_all (ids_below n) (take (i + 1) parts)) (greatest (map depth (take (i + 1) parts))) old new
parts_more positive parts i part old mid new l is first one =
    let longer : take (i + 1) parts ≡ take i parts ++ part ∷ [] = take_more parts i part l ∙ ap (λ x. take i parts ++ x ∷ []) (sym is) in
    let P : List Cond → Type 0 = λ xs. Adds (λ all value. joined all (truths positive xs value)) (λ n. list_all (ids_below n) xs) (greatest (map depth xs)) old new in
    subst P (sym longer) (parts_appended positive (take i parts) part old mid new first one)

pub parts_all : (positive : Bool) (parts : List Cond) (i : ℕ) (old new : Draft) → length parts ≤ i
    → Adds (λ all value. joined all (truths positive (take i parts) value)) (λ n. list_all (ids_below n) (take i parts)) (greatest (map depth (take i parts))) old new
    → Adds (λ all value. joined all (truths positive parts value)) (λ n. list_all (ids_below n) parts) (greatest (map depth parts)) old new
parts_all positive parts i old new l =
    let same : take i parts ≡ parts = take_all i parts l in
    let P : List Cond → Type 0 = λ xs. Adds (λ all value. joined all (truths positive xs value)) (λ n. list_all (ids_below n) xs) (greatest (map depth xs)) old new in
    subst P same

-- the draft of a condition's parts, where it is added to another one and where it is made a condition
pub adds_inner : (positive all : Bool) (items parts : List Cond) (first inner old new : Draft) → parts ≡ items → IsDraft all (λ _. all) (λ _. true) 0 first
    → Adds (λ kind value. joined kind (truths positive parts value)) (λ n. list_all (ids_below n) parts) (greatest (map depth parts)) first inner
    → ((means : (ℕ → Bool) → Bool) (below : ℕ → Bool) (deepest : ℕ) → IsDraft inner.is_conjunction means below deepest inner → Adds (λ _. means) below (deepest + 1) old new)
    → Adds (λ _ value. joined all (truths positive items value)) (λ n. list_all (ids_below n) items) (greatest (map depth items) + 1) old new
adds_inner positive all items parts first inner old new same begun adds added =
    let P : List Cond → Type 0 = λ xs. Adds (λ kind value. joined kind (truths positive xs value)) (λ n. list_all (ids_below n) xs) (greatest (map depth xs)) first inner in
    added (λ value. joined all (truths positive items value)) (λ n. list_all (ids_below n) items) (greatest (map depth items))
    (draft_own all (λ value. joined all (truths positive items value)) (λ n. list_all (ids_below n) items) (greatest (map depth items)) inner
    (draft_begun all (λ kind value. joined kind (truths positive items value)) (λ n. list_all (ids_below n) items) (greatest (map depth items)) first inner begun (subst P same adds)))

pub made_inner : (positive all : Bool) (items parts : List Cond) (draft : Draft) (short : Cond) → parts ≡ items
    → IsDraft all (λ value. joined all (truths positive parts value)) (λ n. list_all (ids_below n) parts) (greatest (map depth parts)) draft
    → ((means : (ℕ → Bool) → Bool) (below : ℕ → Bool) (deepest : ℕ) → IsDraft draft.is_conjunction means below deepest draft → IsMade means below (deepest + 1) short)
    → IsMade (λ value. joined all (truths positive items value)) (λ n. list_all (ids_below n) items) (greatest (map depth items) + 1) short
made_inner positive all items parts draft short same joins made =
    let P : List Cond → Type 0 = λ xs. IsDraft all (λ value. joined all (truths positive xs value)) (λ n. list_all (ids_below n) xs) (greatest (map depth xs)) draft in
    made (λ value. joined all (truths positive items value)) (λ n. list_all (ids_below n) items) (greatest (map depth items))
    (draft_own all (λ value. joined all (truths positive items value)) (λ n. list_all (ids_below n) items) (greatest (map depth items)) draft (subst P same joins))

-- conditions that are built in one way
pub same_All : (cond other : Cond) (parts there : Vec Cond Global) (xs ys : List Cond) → cond ≡ All parts → other ≡ All there → xs ≡ parts.items → ys ≡ there.items
    → ((value : ℕ → Bool) → map (λ c. holds c value) xs ≡ map (λ c. holds c value) ys) → (value : ℕ → Bool) → holds cond value ≡ holds other value
same_All cond other parts there xs ys is other_is first second same value =
    ap (λ c. holds c value) is ∙ combined_All parts value
    ∙ ap (joined true) (ap (map (λ c. holds c value)) (sym first) ∙ same value ∙ ap (map (λ c. holds c value)) second)
    ∙ sym (ap (λ c. holds c value) other_is ∙ combined_All there value)

pub same_Any : (cond other : Cond) (parts there : Vec Cond Global) (xs ys : List Cond) → cond ≡ Any parts → other ≡ Any there → xs ≡ parts.items → ys ≡ there.items
    → ((value : ℕ → Bool) → map (λ c. holds c value) xs ≡ map (λ c. holds c value) ys) → (value : ℕ → Bool) → holds cond value ≡ holds other value
same_Any cond other parts there xs ys is other_is first second same value =
    ap (λ c. holds c value) is ∙ combined_Any parts value
    ∙ ap (joined false) (ap (map (λ c. holds c value)) (sym first) ∙ same value ∙ ap (map (λ c. holds c value)) second)
    ∙ sym (ap (λ c. holds c value) other_is ∙ combined_Any there value)

pub same_more : (xs ys : List Cond) (i : ℕ) (x y : Cond) (value : ℕ → Bool) → i < length xs → i < length ys → x ≡ get_or xs i x → y ≡ get_or ys i y
    → map (λ c. holds c value) (take i xs) ≡ map (λ c. holds c value) (take i ys) → holds x value ≡ holds y value
    → map (λ c. holds c value) (take (i + 1) xs) ≡ map (λ c. holds c value) (take (i + 1) ys)
same_more xs ys i x y value l m is there before same =
    longer xs x l is ∙ ap (λ bs. bs ++ holds x value ∷ []) before ∙ ap (λ b. map (λ c. holds c value) (take i ys) ++ b ∷ []) same ∙ sym (longer ys y m there)
  where
    longer : (zs : List Cond) (z : Cond) → i < length zs → z ≡ get_or zs i z → map (λ c. holds c value) (take (i + 1) zs) ≡ map (λ c. holds c value) (take i zs) ++ holds z value ∷ []
    longer zs z k at =
        ap (map (λ c. holds c value)) (take_more zs i z k ∙ ap (λ c. take i zs ++ c ∷ []) (sym at))
        ∙ map-append (λ c. holds c value) (take i zs) (z ∷ [])

pub same_kind : (a b : Bool) → beq a b ≡ true → a ≡ b
same_kind true true e = refl
same_kind true false e = absurd (false≢true e)
same_kind false true e = absurd (false≢true e)
same_kind false false e = refl
