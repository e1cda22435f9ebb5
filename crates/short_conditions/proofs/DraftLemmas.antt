-- What adding parts does to a draft.
use Rattle.std.proofs.Common.{◌≡◌, ℕ, ◌≤◌, Bool, true, false, not, ◌&&◌, if◌then◌else◌, [], ◌∷◌, map, max, refl, sym, ap, ◌∙◌, arith, ⊎_elim}
use Rattle.std.specs.List.{list_all}
use Rattle.std.specs.Prelude.{nat_lt}
use Rattle.std.proofs.lemmas.Bool.{and_parts, and_from}
use Rattle.std.proofs.lemmas.List.{map-append}
use Rattle.list_laws.proofs.Elements.{list_all-more}
use Rattle.task_core.specs.Conditions.{depth, greatest, holds, ids_below}
use Rattle.task_core.specs.States.{truth}
use Rattle.task_core.specs.declared.conditions.Cond.{Cond}
use Rattle.short_conditions.specs.Joining.{HasSame, IsLiteral, join, joined, signed, truths}
use Rattle.short_conditions.specs.Drafts.{Adds, HasPart, IsDraft, Notes, draft_means, noted, parts_mean}
use Rattle.short_conditions.specs.declared.drafts.Draft.{Draft}
use Rattle.short_conditions.proofs.DepthLemmas.{greatest_more}
use Rattle.short_conditions.proofs.JoinLemmas.{join_again, join_assoc, join_none, join_opposite, join_settled, join_settles, join_swap, joined_more, joined_same}

-- a draft with the same parts and no more noted means what it did with the part added
pub adds_same_parts : (part : Bool → (ℕ → Bool) → Bool) (fluents : ℕ → Bool) (deep : ℕ) (old new : Draft)
    → new.parts.items ≡ old.parts.items → new.is_conjunction ≡ old.is_conjunction
    → ((sign : Bool) (f : ℕ) → noted new sign f ≡ true → noted old sign f ≡ true)
    → ((all : Bool) (means : (ℕ → Bool) → Bool) (below : ℕ → Bool) (deepest : ℕ) → IsDraft all means below deepest old → (value : ℕ → Bool) → draft_means all new value ≡ join all (means value) (part all value))
    → Adds part fluents deep old new
adds_same_parts part fluents deep old new same kind fewer h all means below deepest d =
    let deeper : greatest (map depth new.parts.items) ≡ greatest (map depth old.parts.items) = ap (λ xs. greatest (map depth xs)) same in
    record {
      kind = kind ∙ d.kind;
      means = h all means below deepest d;
      below = λ n b. ap (list_all (ids_below n)) same ∙ d.below n (and_parts _ _ b).0;
      depth = omega (arith, d.depth, deeper);
      noted = λ f sign n value.
          let e : parts_mean all new value ≡ parts_mean all old value = ap (λ xs. joined all (truths true xs value)) same in
          ap (λ b. join all b (signed sign (value f))) e ∙ d.noted f sign (fewer sign f n) value ∙ sym e;
    }

-- nothing is changed by what adds nothing
pub adds_nothing : (part : Bool → (ℕ → Bool) → Bool) (fluents : ℕ → Bool) (deep : ℕ) (draft : Draft)
    → ((all : Bool) (means : (ℕ → Bool) → Bool) (below : ℕ → Bool) (deepest : ℕ) → IsDraft all means below deepest draft → (value : ℕ → Bool) → join all (draft_means all draft value) (part all value) ≡ draft_means all draft value)
    → Adds part fluents deep draft draft
adds_nothing part fluents deep draft h =
    adds_same_parts part fluents deep draft draft refl refl (λ _ _ n. n)
    (λ all means below deepest d value. sym (h all means below deepest d value) ∙ ap (λ b. join all b (part all value)) (d.means value))

-- what adds nothing to the parts adds nothing to the draft
pub settled_or : (settled all a b : Bool) → join all a b ≡ a → join all (if settled then not all else a) b ≡ (if settled then not all else a)
settled_or true all a b h = join_settled all b
settled_or false all a b h = h

-- what settles the parts settles the draft
pub settled_by : (settled all a b : Bool) → join all a b ≡ not all → not all ≡ join all (if settled then not all else a) b
settled_by true all a b h = sym (join_settled all b)
settled_by false all a b h = sym h

settled_more : (settled all a b : Bool) → (if settled then not all else join all a b) ≡ join all (if settled then not all else a) b
settled_more true all a b = sym (join_settled all b)
settled_more false all a b = refl

-- a part is put after the others
pub adds_pushed : (part : Cond) (old new : Draft) → HasPart old part new → Adds (λ _ value. holds part value) (λ n. ids_below n part) (depth part) old new
adds_pushed part old new put all means below deepest d =
    let longer : (value : ℕ → Bool) → parts_mean all new value ≡ join all (parts_mean all old value) (holds part value) =
    λ value.
    ap (λ xs. joined all (truths true xs value)) put.parts
    ∙ ap (joined all) (map-append (λ c. holds c value) old.parts.items (part ∷ []))
    ∙ joined_more all (truths true old.parts.items value) (holds part value) in
    let deeper : greatest (map depth new.parts.items) ≡ max (greatest (map depth old.parts.items)) (depth part) =
    ap (λ xs. greatest (map depth xs)) put.parts
    ∙ ap greatest (map-append depth old.parts.items (part ∷ []))
    ∙ greatest_more (map depth old.parts.items) (depth part) in
    record {
      kind = put.kind ∙ d.kind;
      means = λ value.
          ap (λ s. if s then not all else parts_mean all new value) put.settled
          ∙ ap (λ b. if old.is_settled then not all else b) (longer value)
          ∙ settled_more old.is_settled all (parts_mean all old value) (holds part value)
          ∙ ap (λ b. join all b (holds part value)) (d.means value);
      below = λ n b.
          let both = and_parts _ _ b in
          ap (list_all (ids_below n)) put.parts ∙ list_all-more (ids_below n) old.parts.items part (d.below n both.0) both.1;
      depth = omega (arith, d.depth, deeper);
      noted = λ f sign n value.
          ap (λ b. join all b (signed sign (value f))) (longer value)
          ∙ join_swap all (parts_mean all old value) (holds part value) (signed sign (value f))
          ∙ ap (λ b. join all b (holds part value)) (d.noted f sign (still sign f n) value)
          ∙ sym (longer value);
    }
  where
    still : (sign : Bool) (f : ℕ) → noted new sign f ≡ true → noted old sign f ≡ true
    still true f n = ap (λ s. truth s f) (sym put.plain) ∙ n
    still false f n = ap (λ s. truth s f) (sym put.negated) ∙ n

-- a literal is put after the others and noted
pub adds_literal : (fluent : ℕ) (positive : Bool) (part : Cond) (old mid new : Draft) → IsLiteral fluent positive part → HasPart old part mid → Notes fluent positive mid new
    → Adds (λ _ value. signed positive (value fluent)) (λ n. nat_lt fluent n) 1 old new
adds_literal fluent positive part old mid new lit put notes all means below deepest d =
    let a = adds_pushed part old mid put all means below deepest d in
    let same : (value : ℕ → Bool) → parts_mean all new value ≡ parts_mean all mid value = λ value. ap (λ xs. joined all (truths true xs value)) notes.parts in
    let deeper : greatest (map depth new.parts.items) ≡ greatest (map depth mid.parts.items) = ap (λ xs. greatest (map depth xs)) notes.parts in
    record {
      kind = notes.kind ∙ a.kind;
      means = λ value.
          ap (λ s. if s then not all else parts_mean all new value) notes.settled
          ∙ ap (λ b. if mid.is_settled then not all else b) (same value)
          ∙ a.means value
          ∙ ap (λ b. join all (means value) b) (lit.holds value);
      below = λ n b.
          let both = and_parts _ _ b in
          ap (list_all (ids_below n)) notes.parts ∙ a.below n (and_from _ _ both.0 (lit.below n ∙ both.1));
      depth = omega (arith, a.depth, deeper, lit.depth);
      noted = λ f sign n value.
          ap (λ b. join all b (signed sign (value f))) (same value)
          ∙ ⊎_elim
          (λ (e : (f ≡ fluent) × (sign ≡ positive)). here f sign value e.0 e.1)
          (λ (m : noted mid sign f ≡ true). a.noted f sign m value)
          (notes.only f sign n)
          ∙ sym (same value);
    }
  where
    longer : (value : ℕ → Bool) → parts_mean all mid value ≡ join all (parts_mean all old value) (holds part value)
    longer value =
        ap (λ xs. joined all (truths true xs value)) put.parts
        ∙ ap (joined all) (map-append (λ c. holds c value) old.parts.items (part ∷ []))
        ∙ joined_more all (truths true old.parts.items value) (holds part value)

    here : (f : ℕ) (sign : Bool) (value : ℕ → Bool) → f ≡ fluent → sign ≡ positive → join all (parts_mean all mid value) (signed sign (value f)) ≡ parts_mean all mid value
    here f sign value e s =
        ap (λ b. join all b (signed sign (value f))) (longer value)
        ∙ ap (λ b. join all (join all (parts_mean all old value) (holds part value)) b) (ap (λ g. signed sign (value g)) e ∙ ap (λ p. signed p (value fluent)) s ∙ sym (lit.holds value))
        ∙ join_again all (parts_mean all old value) (holds part value)
        ∙ sym (longer value)

-- what was noted adds nothing
pub adds_noted : (fluent : ℕ) (positive : Bool) (draft : Draft) → noted draft positive fluent ≡ true → Adds (λ _ value. signed positive (value fluent)) (λ n. nat_lt fluent n) 1 draft draft
adds_noted fluent positive draft n =
    adds_nothing (λ _ value. signed positive (value fluent)) (λ n. nat_lt fluent n) 1 draft
    (λ all means below deepest d value. settled_or draft.is_settled all (parts_mean all draft value) (signed positive (value fluent)) (d.noted fluent positive n value))

-- the negation of what was noted settles it
pub adds_opposite : (fluent : ℕ) (positive : Bool) (old new : Draft) → noted old (not positive) fluent ≡ true
    → new.parts.items ≡ old.parts.items → new.is_conjunction ≡ old.is_conjunction → new.plain ≡ old.plain → new.negated ≡ old.negated → new.is_settled ≡ true
    → Adds (λ _ value. signed positive (value fluent)) (λ n. nat_lt fluent n) 1 old new
adds_opposite fluent positive old new n same kind plain negated settled =
    adds_same_parts (λ _ value. signed positive (value fluent)) (λ n. nat_lt fluent n) 1 old new same kind still
    (λ all means below deepest d value.
    ap (λ s. if s then not all else parts_mean all new value) settled
    ∙ settled_by old.is_settled all (parts_mean all old value) (signed positive (value fluent)) (join_opposite all (parts_mean all old value) (value fluent) positive (d.noted fluent (not positive) n value))
    ∙ ap (λ b. join all b (signed positive (value fluent))) (d.means value))
  where
    still : (sign : Bool) (f : ℕ) → noted new sign f ≡ true → noted old sign f ≡ true
    still true f n = ap (λ s. truth s f) (sym plain) ∙ n
    still false f n = ap (λ s. truth s f) (sym negated) ∙ n

-- a truth value that settles it, or adds nothing
pub adds_settling : (holds : Bool) (old new : Draft) → holds ≡ not old.is_conjunction
    → new.parts.items ≡ old.parts.items → new.is_conjunction ≡ old.is_conjunction → new.plain ≡ old.plain → new.negated ≡ old.negated → new.is_settled ≡ true
    → Adds (λ _ _. holds) (λ _. true) 1 old new
adds_settling holds old new other same kind plain negated settled =
    adds_same_parts (λ _ _. holds) (λ _. true) 1 old new same kind still
    (λ all means below deepest d value.
    ap (λ s. if s then not all else parts_mean all new value) settled
    ∙ sym (join_settles all (means value))
    ∙ ap (λ b. join all (means value) b) (sym (other ∙ ap not d.kind)))
  where
    still : (sign : Bool) (f : ℕ) → noted new sign f ≡ true → noted old sign f ≡ true
    still true f n = ap (λ s. truth s f) (sym plain) ∙ n
    still false f n = ap (λ s. truth s f) (sym negated) ∙ n

pub adds_neutral : (holds : Bool) (draft : Draft) → holds ≡ draft.is_conjunction → Adds (λ _ _. holds) (λ _. true) 1 draft draft
adds_neutral holds draft same =
    adds_nothing (λ _ _. holds) (λ _. true) 1 draft
    (λ all means below deepest d value. ap (λ b. join all (draft_means all draft value) b) (same ∙ d.kind) ∙ join_none all (draft_means all draft value))

-- one like a part adds nothing
pub adds_like : (cond : Cond) (draft : Draft) → HasSame draft.parts.items cond → Adds (λ _ value. holds cond value) (λ n. ids_below n cond) (depth cond) draft draft
adds_like cond draft same =
    adds_nothing (λ _ value. holds cond value) (λ n. ids_below n cond) (depth cond) draft
    (λ all means below deepest d value. settled_or draft.is_settled all (parts_mean all draft value) (holds cond value) (joined_same all draft.parts.items cond value same))

-- what is added may be named otherwise, where the draft is of its kind
pub adds_as : (part other : Bool → (ℕ → Bool) → Bool) (fluents more : ℕ → Bool) (deep deeper : ℕ) (old new : Draft)
    → ((all : Bool) → all ≡ old.is_conjunction → (value : ℕ → Bool) → part all value ≡ other all value)
    → ((n : ℕ) → more n ≡ true → fluents n ≡ true) → deep ≤ deeper
    → Adds part fluents deep old new → Adds other more deeper old new
adds_as part other fluents more deep deeper old new same fewer le adds all means below deepest d =
    let a = adds all means below deepest d in
    record {
      kind = a.kind;
      means = λ value. a.means value ∙ ap (λ b. join all (means value) b) (same all (sym d.kind) value);
      below = λ n b. let both = and_parts _ _ b in a.below n (and_from _ _ both.0 (fewer n both.1));
      depth = omega (arith, a.depth, le);
      noted = a.noted;
    }

-- a list of parts, one after the other
pub adds_none : (draft : Draft) → Adds (λ all _. all) (λ _. true) 0 draft draft
adds_none draft =
    adds_nothing (λ all _. all) (λ _. true) 0 draft (λ all means below deepest d value. join_none all (draft_means all draft value))

pub adds_then : (part next : Bool → (ℕ → Bool) → Bool) (fluents more : ℕ → Bool) (deep deeper : ℕ) (old mid new : Draft)
    → Adds part fluents deep old mid → Adds next more deeper mid new
    → Adds (λ all value. join all (part all value) (next all value)) (λ n. fluents n && more n) (max deep deeper) old new
adds_then part next fluents more deep deeper old mid new first second all means below deepest d =
    let a = second all (λ value. join all (means value) (part all value)) (λ n. below n && fluents n) (max deepest deep) (first all means below deepest d) in
    record {
      kind = a.kind;
      means = λ value. a.means value ∙ join_assoc all (means value) (part all value) (next all value);
      below = λ n b.
          let outer = and_parts (below n) (fluents n && more n) b in
          let inner = and_parts (fluents n) (more n) outer.1 in
          a.below n (and_from (below n && fluents n) (more n) (and_from (below n) (fluents n) outer.0 inner.0) inner.1);
      depth = omega (arith, a.depth);
      noted = a.noted;
    }
