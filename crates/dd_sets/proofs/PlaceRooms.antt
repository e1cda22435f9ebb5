-- A call without room beside slots at places, of which some may hold rough sets.
use Rattle.std.proofs.Common.{◌≡◌, ◌≢◌, ◌⊎◌, inl, inr, ℕ, zero, suc, ◌+◌, ◌==◌, ◌<◌, ◌≤◌, true, false, List, [], ◌∷◌, length, map, Contains, refl, sym, ap, subst, ◌∙◌, ⊎_elim, arith}
use Rattle.std.specs.List.{list_any}
use Rattle.std.proofs.lemmas.Bool.{and_from, both_ways, cases_Bool, cases_eq, cases_lt, eq-eqb, eqb-true, false_from_ne_true, or_from}
use Rattle.std.proofs.lemmas.List.{length-map}
use Rattle.list_laws.proofs.Elements.{Contains-map, Contains-map-witness, list_any-from}
use Rattle.dd_nodes.specs.Subfunctions.{Function}
use Rattle.dd_nodes.proofs.Counting.{Apart, count_within, covered, pigeonhole}
use Rattle.dd_sets.specs.Calls.{KeepsSets}
use Rattle.dd_sets.specs.LiveSets.{LiveSets, is_live, live_sets, set_of}
use Rattle.dd_sets.specs.Rooms.{NoRoom, Small, Rough}
use Rattle.dd_sets.proofs.LiveLemmas.{added, in_live, live_in, moved}
use Rattle.dd_sets.proofs.NoRoomLemmas.{no_room_beside}

-- no number of a list of smaller numbers is this one
none_equal : (n : ℕ) (xs : List ℕ) → ((x : ℕ) → Contains xs x → x < n) → list_any (λ x. n == x) xs ≡ false
none_equal n [] below = refl
none_equal n (x ∷ xs) below = or_from (n == x) (list_any (λ y. n == y) xs)
    (false_from_ne_true (n == x) (λ e. let is : n ≡ x = eqb-true n x e in let less : x < n = below x (zero, omega arith, refl) in omega arith))
    (none_equal n xs (λ y has. let within : has.0 < length xs = has.1 in below y (suc has.0, omega arith, has.2)))

-- the first places, by what they hold: small sets, and rough ones at listed places
record Places (P : ℕ → Type 0) (Q : Function → Type 0) (set_at : ℕ → Function) (listed : List ℕ) (n : ℕ) : Type 0 where
  small : List Function
  rough : List ℕ
  count : length small + length rough ≡ n
  each : (set : Function) → Contains small set → Q set
  each_rough : (place : ℕ) → Contains rough place → P place
  below : (place : ℕ) → Contains rough place → place < n
  apart : Apart (λ a b. a == b) rough
  cover : covered (λ a b. a == b) listed rough ≡ true
  all : (place : ℕ) → place < n → Contains small (set_at place) ⊎ Contains rough place

module _ (P : ℕ → Type 0) (Q : Function → Type 0) (set_at : ℕ → Function) (listed : List ℕ) where
  places_of : (n : ℕ) → ((place : ℕ) → place < n → Q (set_at place) ⊎ (Contains listed place × P place)) → Places P Q set_at listed n
  places_of zero fits = record {
    small = [];
    rough = [];
    count = refl;
    each = λ set has. let within = has.1 in absurd (omega arith);
    each_rough = λ place has. let within = has.1 in absurd (omega arith);
    below = λ place has. let within = has.1 in absurd (omega arith);
    apart = tt;
    cover = refl;
    all = λ place less. absurd (omega arith);
  }
  places_of (suc n) fits =
      let rest = places_of n (λ place less. fits place (omega arith)) in
      let count : length rest.small + length rest.rough ≡ n = rest.count in
      ⊎_elim
      (λ (fine : Q (set_at n)). record {
        small = set_at n ∷ rest.small;
        rough = rest.rough;
        count = omega arith;
        each = λ set has. first_or Q (set_at n) rest.small set fine (rest.each set) has;
        each_rough = rest.each_rough;
        below = λ place has. let less : place < n = rest.below place has in omega arith;
        apart = rest.apart;
        cover = rest.cover;
        all = λ place less. ⊎_elim
            (λ (earlier : place < n). ⊎_elim (λ (there : Contains rest.small (set_at place)). inl (added (set_at n) rest.small there)) (λ (there : Contains rest.rough place). inr there) (rest.all place earlier))
            (λ (last : n ≤ place). let is : n ≡ place = omega arith in inl (zero, omega arith, ap set_at is))
            (cases_lt place n);
      })
      (λ (other : Contains listed n × P n). record {
        small = rest.small;
        rough = n ∷ rest.rough;
        count = omega arith;
        each = rest.each;
        each_rough = λ place has. first_or P n rest.rough place other.1 (rest.each_rough place) has;
        below = λ place has. first_or (λ x. x < suc n) n rest.rough place (omega arith) (λ later. let less : place < n = rest.below place later in omega arith) has;
        apart = (none_equal n rest.rough rest.below, rest.apart);
        cover = and_from (list_any (λ b. n == b) listed) (covered (λ a b. a == b) listed rest.rough) (list_any-from (λ b. n == b) listed n other.0 (eq-eqb n n refl)) rest.cover;
        all = λ place less. ⊎_elim
            (λ (earlier : place < n). ⊎_elim (λ (there : Contains rest.small (set_at place)). inl there)
            (λ (there : Contains rest.rough place). let within : there.0 < length rest.rough = there.1 in inr (suc there.0, omega arith, there.2)) (rest.all place earlier))
            (λ (last : n ≤ place). let is : n ≡ place = omega arith in inr (zero, omega arith, is))
            (cases_lt place n);
      })
      (fits n (omega arith))
    where
      first_or : {X : Type 0} (R : X → Type 0) (x : X) (xs : List X) (y : X) → R x → (Contains xs y → R y) → Contains (x ∷ xs) y → R y
      first_or R x xs y here later (zero, within, at) = subst R at here
      first_or R x xs y here later (suc k, within, at) = later (k, omega arith, at)

  -- there are no more rough ones than listed places
  few_rough : (n : ℕ) (places : Places P Q set_at listed n) → length places.rough ≤ length listed
  few_rough n places = omega (
    arith,
    pigeonhole (λ a b. a == b) (λ a b e. eq-eqb b a (sym (eqb-true a b e))) (λ a b c e d. eq-eqb a c (eqb-true a b e ∙ eqb-true b c d)) listed places.rough places.apart places.cover,
    count_within (λ a b. a == b) listed,
  )

-- the place of a slot, if it has one
place_of : (slot_of : ℕ → ℕ) (n slot : ℕ) → ((i : ℕ) × (i < n) × (slot_of i ≡ slot)) ⊎ ((i : ℕ) → i < n → slot_of i ≢ slot)
place_of slot_of zero slot = inr (λ i less. absurd (omega arith))
place_of slot_of (suc n) slot = ⊎_elim
    (λ (here : slot_of n ≡ slot). inl (n, omega arith, here))
    (λ (apart : slot_of n ≢ slot). ⊎_elim
    (λ (found : (i : ℕ) × (i < n) × (slot_of i ≡ slot)). let less : found.0 < n = found.1 in inl (found.0, omega arith, found.2))
    (λ (none : (i : ℕ) → i < n → slot_of i ≢ slot). inr (λ i less. ⊎_elim
    (λ (earlier : i < n). none i earlier)
    (λ (last : n ≤ i). let is : i ≡ n = omega arith in λ e. apart (ap slot_of (sym is) ∙ e))
    (cases_lt i n)))
    (place_of slot_of n slot))
    (cases_eq (slot_of n) slot)

-- the slots that became live stand at places, and each place's set is small, or rough where it is
-- listed
pub room_places : {w : ℕ} (before now : LiveSets) {after : LiveSets} → KeepsSets before now → (slot_of : ℕ → ℕ) (places : ℕ) (listed : List ℕ)
    → ((slot : ℕ) → ((i : ℕ) → i < places → slot_of i ≢ slot) → is_live now slot ≡ is_live before slot)
    → ((place : ℕ) → place < places → Small before.vars w (set_of now (slot_of place)) ⊎ (Contains listed place × Rough before.vars w (set_of now (slot_of place))))
    → (few many fewer others : ℕ) → few + places ≤ many → fewer + length listed ≤ others → NoRoom w few fewer now after → NoRoom w many others before after
room_places {w} before now {after} kept slot_of places listed alike fits few many fewer others room rooms none =
    let set_at : ℕ → Function = λ place. set_of now (slot_of place) in
    let found = places_of (λ place. Rough before.vars w (set_of now (slot_of place))) (Small before.vars w) (λ place. set_of now (slot_of place)) listed places fits in
    let count : length found.small + length found.rough ≡ places = found.count in
    let few_listed : length found.rough ≤ length listed = few_rough (λ place. Rough before.vars w (set_of now (slot_of place))) (Small before.vars w) (λ place. set_of now (slot_of place)) listed places found in
    let long : length (map (λ place. set_of now (slot_of place)) found.rough) ≡ length found.rough = length-map found.rough (λ place. set_of now (slot_of place)) in
    no_room_beside w before now after found.small (map (λ place. set_of now (slot_of place)) found.rough) few many fewer others kept found.each
    (λ set has. let source = Contains-map-witness (λ place. set_of now (slot_of place)) found.rough set has in subst (Rough before.vars w) source.2 (found.each_rough source.0 source.1))
    (λ f has. let live = in_live now f has in ⊎_elim
    (λ (was : is_live before live.0 ≡ true). inl (moved (live_sets before) (sym (kept.sets live.0 was) ∙ live.2) (live_in before live.0 was)))
    (λ (free : is_live before live.0 ≡ false). inr (⊎_elim
    (λ (at : (i : ℕ) × (i < places) × (slot_of i ≡ live.0)). ⊎_elim
    (λ (there : Contains found.small (set_of now (slot_of at.0))). inl (moved found.small (ap (set_of now) at.2 ∙ live.2) there))
    (λ (there : Contains found.rough at.0). inr (moved (map (λ place. set_of now (slot_of place)) found.rough) (ap (set_of now) at.2 ∙ live.2) (Contains-map (λ place. set_of now (slot_of place)) found.rough at.0 there)))
    (found.all at.0 at.1))
    (λ (nowhere : (i : ℕ) → i < places → slot_of i ≢ live.0). absurd (both_ways (is_live before live.0) free (sym (alike live.0 nowhere) ∙ live.1)))
    (place_of slot_of places live.0)))
    (cases_Bool (is_live before live.0)))
    (omega arith) (omega arith) none
