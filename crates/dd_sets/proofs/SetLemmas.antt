-- Sets and their numbers.
use Rattle.std.proofs.Common.{◌≡◌, ◌≢◌, ◌↔◌, ℕ, zero, suc, ◌+◌, ◌<◌, ◌==◌, Bool, true, false, not, ◌&&◌, cond, List, [], ◌∷◌, length, map, find, filter_map, Option, Some, None, is_some, option_map, unwrap_or, IsTrue, count_by, slice_index_or, All, refl, sym, ap, subst, ◌∙◌, ⊎_elim, arith}
use Rattle.std.specs.Option.{option_map_or}
use borrow.Author.Tests.{eqb-true, eq-eqb}
use Rattle.std.proofs.lemmas.Bool.{cases_eq}
use Rattle.dd_nodes.specs.declared.node.Ref.{Ref}
use Rattle.dd_nodes.specs.NodeList.{Values, IsNumber, function}
use Rattle.dd_nodes.specs.Subfunctions.{Function, DependsOnly}
use Rattle.dd_nodes.specs.Table.{NodeTable}
use Rattle.dd_nodes.proofs.NodeLemmas.{function_false}
use Rattle.dd_nodes.proofs.Canonicity.{canonical}
use Rattle.dd_nodes.proofs.Dependence.{depends_number}
use Rattle.dd_ops.specs.Operations.{minus_of, listed, replaced, subst_of}
use Rattle.task_core.specs.declared.literals.FluentId.{FluentId}
use Rattle.dd_sets.specs.Calls.{Releases}
use Rattle.dd_sets.specs.LiveSets.{LiveSets, IsSets, IsLive, AllLive, is_live, set_of, live_count, live_sets, nothing, number_at, listed_set, values_by_sets, subst_set}
use Rattle.dd_sets.specs.Orders.{read, at_place, AreInverse}
use Rattle.dd_sets.specs.Stores.{view_of, ref_at, refs_of, AreRefs}
use Rattle.dd_sets.specs.declared.slots.SetId.{SetId}
use Rattle.dd_sets.proofs.OrderLemmas.{at_none, read_depends, read_same, same_fluent}
use Rattle.dd_sets.proofs.SlotLemmas.{set_is, live_number, count_more}

-- the set of any slot is the function of its number, or of the number of the empty set
pub set_ref : (sets : LiveSets) (slot : ℕ) → read sets.order (function sets.nodes (ref_at sets slot).0) ≡ set_of sets slot
unfolding set_of
set_ref sets slot = go (number_at sets slot)
  where
    go : (o : Option Ref) → read sets.order (function sets.nodes (unwrap_or o (record { 0 = 0 })).0) ≡ option_map_or (λ (number : Ref). read sets.order (function sets.nodes number.0)) o nothing
    go None = λ i values. function_false sets.nodes (λ v. values (at_place sets.order v)) i
    go (Some number) = refl

-- the number of a live slot is in the table
pub live_in_table : (sets : LiveSets) → IsSets sets → (slot : ℕ) → IsLive sets slot → IsNumber sets.nodes (ref_at sets slot).0
live_in_table sets sound slot live =
    let found = live_number sets slot live in
    subst (λ (o : Option Ref). IsNumber sets.nodes (unwrap_or o (record { 0 = 0 })).0) (sym found.1) (sound.numbers slot found.0 found.1)

module _ (sets : LiveSets) (variables : List ℕ) (inverse : AreInverse sets.vars sets.order variables) where
  -- the number that the list gives a variable is that of the set that it gives the variable's fluent
  pub listed_ref : (entries : List (FluentId × SetId)) (v : ℕ) → listed (refs_of variables sets entries) v ≡ option_map (λ (s : SetId). ref_at sets s.0) (listed_set entries (at_place sets.order v))
  listed_ref [] v = refl
  listed_ref (e ∷ entries) v =
      ap (λ (b : Bool). option_map (λ (entry : ℕ × Ref). entry.1) (cond b (Some (at_place variables e.0.0, ref_at sets e.1.0)) (find (λ (entry : ℕ × Ref). entry.0 == v) (refs_of variables sets entries)))) (same_fluent sets.order variables inverse e.0.0 v)
      ∙ step (e.0.0 == at_place sets.order v) (find (λ (entry : ℕ × Ref). entry.0 == v) (refs_of variables sets entries)) (find (λ (entry : FluentId × SetId). entry.0.0 == at_place sets.order v) entries) (listed_ref entries v)
    where
      step : (b : Bool) (x : Option (ℕ × Ref)) (y : Option (FluentId × SetId))
          → option_map (λ (entry : ℕ × Ref). entry.1) x ≡ option_map (λ (s : SetId). ref_at sets s.0) (option_map (λ (entry : FluentId × SetId). entry.1) y)
          → option_map (λ (entry : ℕ × Ref). entry.1) (cond b (Some (at_place variables e.0.0, ref_at sets e.1.0)) x)
          ≡ option_map (λ (s : SetId). ref_at sets s.0) (option_map (λ (entry : FluentId × SetId). entry.1) (cond b (Some e) y))
      step true x y same = refl
      step false x y same = same

  -- the numbers are in the table
  pub refs_in_table : IsSets sets → (entries : List (FluentId × SetId)) → AllLive sets entries → All (λ (entry : ℕ × Ref). IsNumber sets.nodes entry.1.0) (refs_of variables sets entries)
  refs_in_table sound entries all = go entries all
    where
      go : (entries : List (FluentId × SetId)) → AllLive sets entries → (k : ℕ) (d : ℕ × Ref) → k < length (refs_of variables sets entries) → IsNumber sets.nodes (slice_index_or (refs_of variables sets entries) k d).1.0
      go [] all k d within = absurd (omega arith)
      go (e ∷ entries) all zero d within = live_in_table sets sound e.1.0 (all 0 e (omega arith))
      go (e ∷ entries) all (suc k) d within = go entries (λ j x inside. all (suc j) x (omega arith)) k d (omega arith)

  -- a substitution by numbers is that by their sets
  pub values_read : (entries : List (FluentId × SetId)) (values : Values) (v : ℕ)
      → replaced sets.nodes (refs_of variables sets entries) (λ u. values (at_place sets.order u)) v ≡ values_by_sets sets entries values (at_place sets.order v)
  values_read entries values v =
      ap (λ o. option_map_or (λ (g : Ref). function sets.nodes g.0 (λ u. values (at_place sets.order u))) o (values (at_place sets.order v))) (listed_ref entries v) ∙ go (listed_set entries (at_place sets.order v))
    where
      go : (o : Option SetId) → option_map_or (λ (g : Ref). function sets.nodes g.0 (λ u. values (at_place sets.order u))) (option_map (λ (s : SetId). ref_at sets s.0) o) (values (at_place sets.order v))
          ≡ option_map_or (λ (s : SetId). set_of sets s.0 values) o (values (at_place sets.order v))
      go None = refl
      go (Some s) = ap (λ f. f values) (set_ref sets s.0)

  pub subst_same : (entries : List (FluentId × SetId)) (f : Function) → read sets.order (subst_of sets.nodes (refs_of variables sets entries) f) ≡ subst_set sets entries (read sets.order f)
  subst_same entries f = λ i values. f (λ v. values_read entries values v i)

  -- in the order of the fluents each fluent has the value of its set
  pub values_same : (entries : List (FluentId × SetId)) → sets.order ≡ [] → replaced sets.nodes (refs_of variables sets entries) ≡ values_by_sets sets entries
  values_same entries none = λ i values v. at values v i
    where
      at : (values : Values) (v : ℕ) → replaced sets.nodes (refs_of variables sets entries) values v ≡ values_by_sets sets entries values v
      at values v =
          ap {A = Values} (λ (w : Values). replaced sets.nodes (refs_of variables sets entries) w v) (λ i u. values (sym (at_none sets.order u none) i))
          ∙ values_read entries values v ∙ ap (values_by_sets sets entries values) (at_none sets.order v none)

module _ (sets : LiveSets) where
  -- two live slots hold the same set exactly where they have the same number
  pub same_number : IsSets sets → (a b : ℕ) (f g : Ref) → number_at sets a ≡ Some f → number_at sets b ≡ Some g → (r : Bool) → r ≡ (f.0 == g.0)
      → IsTrue r ↔ (set_of sets a ≡ set_of sets b)
  same_number sound a b f g is_f is_g r test = (
    λ yes. set_is sets a f is_f ∙ ap (λ n. read sets.order (function sets.nodes n)) (eqb-true f.0 g.0 (sym test ∙ yes)) ∙ sym (set_is sets b g is_g),
    λ same. test ∙ eq-eqb f.0 g.0 (canonical sets.vars sets.nodes sound.table.reduced f.0 g.0 (sound.numbers a f is_f) (sound.numbers b g is_g)
        (read_same sets.order sound.order.variables sound.order.inverse (function sets.nodes f.0) (function sets.nodes g.0)
        (λ values. ap (λ s. s values) (sym (set_is sets a f is_f) ∙ same ∙ set_is sets b g is_g)))),
  )

  pub none_number : IsSets sets → (a : ℕ) (f : Ref) → number_at sets a ≡ Some f → (r : Bool) → r ≡ (f.0 == 0) → IsTrue r ↔ (set_of sets a ≡ nothing)
  none_number sound a f is_f r test = (
    λ yes. set_is sets a f is_f ∙ ap (λ n. read sets.order (function sets.nodes n)) (eqb-true f.0 0 (sym test ∙ yes)) ∙ (λ i values. function_false sets.nodes (λ v. values (at_place sets.order v)) i),
    λ same. test ∙ eq-eqb f.0 0 (canonical sets.vars sets.nodes sound.table.reduced f.0 0 (sound.numbers a f is_f) (omega arith)
        (λ values. read_same sets.order sound.order.variables sound.order.inverse (function sets.nodes f.0) nothing
        (λ others. ap (λ s. s others) (sym (set_is sets a f is_f) ∙ same)) values ∙ sym (function_false sets.nodes values))),
  )

  -- a slot's set depends on the fluents alone
  pub set_depends : IsSets sets → (slot : ℕ) → DependsOnly 0 sets.vars (set_of sets slot)
  unfolding set_of
  set_depends sound slot = go (number_at sets slot)
    where
      go : (o : Option Ref) → DependsOnly 0 sets.vars (option_map_or (λ (number : Ref). read sets.order (function sets.nodes number.0)) o nothing)
      go None = λ s t agree. refl
      go (Some number) = read_depends sets.vars sets.order sound.order (function sets.nodes number.0) (depends_number sets.vars sets.nodes sound.table.reduced number.0)

-- the numbers of listed sets are ready for a substitution, which is that by the sets
pub refs_ready : {o : List ℕ} {table : NodeTable} {live : List (Option Ref)} {before : LiveSets} → view_of o table live ≡ before → IsSets (view_of o table live)
    → (entries : List (FluentId × SetId)) → AllLive before entries → (refs : List (ℕ × Ref)) → AreRefs before entries refs → All (λ (entry : ℕ × Ref). IsNumber table.nodes entry.1.0) refs
refs_ready {o} {table} {live} {before} opens sound entries all refs are =
    subst (λ (rs : List (ℕ × Ref)). All (λ (entry : ℕ × Ref). IsNumber table.nodes entry.1.0) rs) (sym are.are)
    (subst (λ (s : LiveSets). All (λ (entry : ℕ × Ref). IsNumber s.nodes entry.1.0) (refs_of are.variables before entries)) (sym opens)
    (refs_in_table before are.variables are.inverse (subst IsSets opens sound) entries all))

pub subst_made : {o : List ℕ} {table : NodeTable} {live : List (Option Ref)} {before : LiveSets} → view_of o table live ≡ before → (entries : List (FluentId × SetId)) (refs : List (ℕ × Ref)) → AreRefs before entries refs
    → (f set : Function) → read o f ≡ set → read o (subst_of table.nodes refs f) ≡ subst_set before entries set
subst_made {o} {table} {live} {before} opens entries refs are f set same =
    (λ i. read (opens i).order (subst_of (opens i).nodes (are.are i) f)) ∙ subst_same before are.variables are.inverse entries f
    ∙ ap (subst_set before entries) (ap (λ (s : LiveSets). read s.order f) (sym opens) ∙ same)

-- there is one set a live slot
pub count_sets : (sets : LiveSets) → length (live_sets sets) ≡ live_count sets
unfolding live_sets live_count
count_sets sets = go sets.live
  where
    go : (slots : List (Option Ref)) → length (map (λ (number : Ref). read sets.order (function sets.nodes number.0)) (filter_map (λ slot. slot) slots)) ≡ count_by is_some slots
    go [] = refl
    go (None ∷ slots) = omega (arith, go slots, count_more None slots)
    go (Some number ∷ slots) = omega (arith, go slots, count_more (Some number) slots)

-- no value is in A and not in B exactly where each one of A is in B
pub inside_to : (a b : Bool) → a && not b ≡ false → a ≡ true → b ≡ true
inside_to true true e is = refl
inside_to true false e is = absurd (cc)
inside_to false b e is = absurd (cc)

inside_from : (a b : Bool) → (a ≡ true → b ≡ true) → a && not b ≡ false
inside_from true true step = refl
inside_from true false step = absurd (let e : ◌≡◌ {A = Bool} false true = step refl in cc)
inside_from false b step = refl

pub inside_answer : (sets : LiveSets) → IsSets sets → {number : Ref} {f g : Function} → IsNumber sets.nodes number.0 → read sets.order (function sets.nodes number.0) ≡ minus_of f g → (b : Bool) → b ≡ (number.0 == 0)
    → IsTrue b ↔ ((values : Values) → f values ≡ true → g values ≡ true)
inside_answer sets sound {number} {f} {g} in_table value b empty = (
  λ yes values. inside_to (f values) (g values)
      (ap (λ h. h values) (sym value) ∙ ap (λ n. function sets.nodes n (λ v. values (at_place sets.order v))) (eqb-true number.0 0 (sym empty ∙ yes)) ∙ function_false sets.nodes (λ v. values (at_place sets.order v))),
  λ all. empty ∙ eq-eqb number.0 0 (canonical sets.vars sets.nodes sound.table.reduced number.0 0 in_table (omega arith)
      (λ values. read_same sets.order sound.order.variables sound.order.inverse (function sets.nodes number.0) nothing
      (λ others. ap (λ h. h others) value ∙ inside_from (f others) (g others) (all others)) values ∙ sym (function_false sets.nodes values))),
)

-- a slot that was live and is empty now, every other being as it was
pub released : {o : List ℕ} {t : NodeTable} {l0 l : List (Option Ref)} {before : LiveSets} → view_of o t l0 ≡ before → (slot : ℕ) → slice_index_or l slot None ≡ None
    → ((other : ℕ) → other ≢ slot → slice_index_or l other None ≡ slice_index_or l0 other None) → count_by is_some l + 1 ≡ count_by is_some l0
    → Releases before (view_of o t l) slot
unfolding is_live set_of live_count
released {o} {t} {l0} {l} opens slot ended others count = subst (λ s. Releases s (view_of o t l) slot) opens (record {
  vars = refl;
  limit = refl;
  order = refl;
  nodes = refl;
  ended = ap is_some ended;
  live = λ other differs. ap is_some (others other differs);
  sets = λ other differs. ap (λ s. option_map_or (λ (n : Ref). read o (function t.nodes n.0)) s nothing) (others other differs);
  count = count;
})

pub released_sound : {o : List ℕ} {t : NodeTable} {l0 l : List (Option Ref)} → IsSets (view_of o t l0) → (slot : ℕ) → slice_index_or l slot None ≡ None
    → ((other : ℕ) → other ≢ slot → slice_index_or l other None ≡ slice_index_or l0 other None) → IsSets (view_of o t l)
released_sound {o} {t} {l0} {l} sound slot ended others = record {
  table = sound.table;
  numbers = λ other number is. ⊎_elim
      (λ (here : other ≡ slot). absurd (none_is (sym ended ∙ ap (λ s. slice_index_or l s None) (sym here) ∙ is)))
      (λ (differs : other ≢ slot). sound.numbers other number (sym (others other differs) ∙ is))
      (cases_eq other slot);
  order = sound.order;
}
  where
    none_is : {number : Ref} → ◌≡◌ {A = Option Ref} None (Some number) → ⊥
    none_is e = cc
