-- The cubes of a set: no vector is matched by two of them, each matches some vector, and each names its
-- fluents in their order.
use Rattle.std.proofs.Common.{◌≡◌, ℕ, zero, suc, ◌+◌, ◌<◌, ◌≤◌, Bool, true, false, List, [], ◌∷◌, ◌++◌, length, map, refl, sym, ap, ◌∙◌, subst, arith, ⊎_elim, append_assoc, length-append}
use Rattle.std.specs.List.{Contains}
use Rattle.std.proofs.lemmas.Bool.{and_from, and_parts, cond_both, false≢true}
use Rattle.std.proofs.lemmas.List.Elements.{Contains-append_cases}
use Rattle.task_core.proofs.Vectors.{same_value_refl}
use Rattle.task_core.specs.declared.literals.Lit.{Lit}
use Rattle.task_core.specs.Vectors.{Vector, same_value, value_of}
use Rattle.task_core.specs.Cubes.{Cube, SetOfVectors, matches, literal, half, is_empty_set, is_whole_set, ignores_first, cubes_from}
use Rattle.list_laws.proofs.Elements.{Contains-cases, Contains-map-witness, Contains-nil}
use Rattle.plan_theory.proofs.Cubes.{value_of-middle}
use Rattle.apart_rules.proofs.Lists.{Pairwise, pairwise-append, pairwise-map, pairwise-weaker}

-- no vector has the literals of both cubes
abbrev pub AreApartCubes : Cube → Cube → Type 0
AreApartCubes cube other = (v : Vector) → matches cube v ≡ true → matches other v ≡ true → ⊥

-- the first literal of a matching cube
first_holds : (first : ℕ) (b : Bool) (cube : Cube) (v : Vector) → matches (literal first b ∷ cube) v ≡ true → (same_value (value_of v first) b ≡ true) × (matches cube v ≡ true)
first_holds first b cube v m = and_parts (same_value (value_of v first) b) (matches cube v) m

not_both : (x : Bool) → same_value x false ≡ true → same_value x true ≡ true → ⊥
not_both true h k = false≢true h
not_both false h k = false≢true k

with_literal : (first : ℕ) (b : Bool) (cubes : List Cube) → Pairwise AreApartCubes cubes → Pairwise AreApartCubes (map (λ cube. literal first b ∷ cube) cubes)
with_literal first b cubes apart =
    pairwise-map AreApartCubes (λ cube. literal first b ∷ cube) cubes
    (pairwise-weaker AreApartCubes (λ cube other. AreApartCubes (literal first b ∷ cube) (literal first b ∷ other)) cubes
    (λ cube other never v m n. never v (first_holds first b cube v m).1 (first_holds first b other v n).1) apart)

-- a cube with this literal first
record HasFirst (first : ℕ) (b : Bool) (cube : Cube) : Type 0 where
  rest : Cube
  is : literal first b ∷ rest ≡ cube

has_first : (first : ℕ) (b : Bool) (cubes : List Cube) (cube : Cube) → Contains (map (λ cube. literal first b ∷ cube) cubes) cube → HasFirst first b cube
has_first first b cubes cube c = let w = Contains-map-witness (λ cube. literal first b ∷ cube) cubes cube c in record { rest = w.0; is = w.2 }

opposed : (first : ℕ) (cube other : Cube) → HasFirst first false cube → HasFirst first true other → AreApartCubes cube other
opposed first cube other one two v m n =
    not_both (value_of v first)
    (first_holds first false one.rest v (ap (λ (c : Cube). matches c v) one.is ∙ m)).0
    (first_holds first true two.rest v (ap (λ (c : Cube). matches c v) two.is ∙ n)).0

pub cubes_apart : (first n : ℕ) (set : SetOfVectors) → Pairwise AreApartCubes (cubes_from first n set)
cubes_apart first zero set = cond_both (set []) _ _ (Pairwise AreApartCubes) (λ e. (λ y c. absurd (Contains-nil y c), tt)) (λ e. tt)
cubes_apart first (suc n) set =
    let lows : Pairwise AreApartCubes (cubes_from (first + 1) n (half false set)) = cubes_apart (first + 1) n (half false set) in
    let highs : Pairwise AreApartCubes (cubes_from (first + 1) n (half true set)) = cubes_apart (first + 1) n (half true set) in
    cond_both (is_empty_set (suc n) set) _ _ (Pairwise AreApartCubes) (λ e. tt)
    (λ e. cond_both (is_whole_set (suc n) set) _ _ (Pairwise AreApartCubes) (λ e. (λ y c. absurd (Contains-nil y c), tt))
    (λ e. cond_both (ignores_first n set) _ _ (Pairwise AreApartCubes) (λ e. lows)
    (λ e. pairwise-append AreApartCubes _ _ (with_literal first false _ lows) (with_literal first true _ highs)
    (λ cube other c d. opposed first cube other (has_first first false _ cube c) (has_first first true _ other d)))))

-- a vector of n values after the first ones that a cube matches
pub record Matched (before : Vector) (n : ℕ) (cube : Cube) : Type 0 where
  pub rest : Vector
  pub long : length rest ≡ n
  pub matched : matches cube (before ++ rest) ≡ true

some_vector : (n : ℕ) → (v : Vector) × (length v ≡ n)
some_vector zero = ([], refl)
some_vector (suc n) = let w = some_vector n in (false ∷ w.0, ap suc w.1)

-- one value more before it
matched_on : (before : Vector) (b : Bool) (n : ℕ) (cube : Cube) → Matched (before ++ b ∷ []) n cube → Matched before (suc n) cube
matched_on before b n cube m = record {
  rest = b ∷ m.rest;
  long = ap suc m.long;
  matched = subst (λ (w : Vector). matches cube w ≡ true) (append_assoc before (b ∷ []) m.rest) m.matched;
}

matched_literal : (before : Vector) (first : ℕ) (b : Bool) (n : ℕ) (cube : Cube) → length before ≡ first → Matched (before ++ b ∷ []) n cube → Matched before (suc n) (literal first b ∷ cube)
matched_literal before first b n cube e m = record {
  rest = b ∷ m.rest;
  long = ap suc m.long;
  matched = and_from (same_value (value_of (before ++ b ∷ m.rest) first) b) (matches cube (before ++ b ∷ m.rest))
      (ap (λ (x : Bool). same_value x b) (ap (value_of (before ++ b ∷ m.rest)) (sym e) ∙ value_of-middle before b m.rest) ∙ same_value_refl b)
      (subst (λ (w : Vector). matches cube w ≡ true) (append_assoc before (b ∷ []) m.rest) m.matched);
}

-- each cube of a list
abbrev pub Each : {X : Type 0} → (X → Type 0) → List X → Type 0
Each {X} P xs = (x : X) → Contains xs x → P x

each-none : {X : Type 0} (P : X → Type 0) → Each P []
each-none P x c = absurd (Contains-nil x c)

each-one : {X : Type 0} (P : X → Type 0) (x : X) → P x → Each P (x ∷ [])
each-one P x h y c = ⊎_elim (λ e. subst P e h) (λ d. absurd (Contains-nil y d)) (Contains-cases x [] y c)

each-append : {X : Type 0} (P : X → Type 0) (xs ys : List X) → Each P xs → Each P ys → Each P (xs ++ ys)
each-append P xs ys one two x c = ⊎_elim (λ d. one x d) (λ d. two x d) (Contains-append_cases xs ys x c)

each-map : {X Y : Type 0} (P : Y → Type 0) (f : X → Y) (xs : List X) → ((x : X) → Contains xs x → P (f x)) → Each P (map f xs)
each-map P f xs h y c = let w = Contains-map-witness f xs y c in subst P w.2 (h w.0 w.1)

pub cubes_matched : (before : Vector) (first n : ℕ) (set : SetOfVectors) → length before ≡ first → Each (Matched before n) (cubes_from first n set)
cubes_matched before first zero set e =
    cond_both (set []) _ _ (Each (Matched before zero)) (λ h. each-one (Matched before zero) [] (record { rest = []; long = refl; matched = refl })) (λ h. each-none (Matched before zero))
cubes_matched before first (suc n) set e =
    let longer : (b : Bool) → length (before ++ b ∷ []) ≡ first + 1 = λ b. omega (arith, length-append before (b ∷ [])) in
    let lows : Each (Matched (before ++ false ∷ []) n) (cubes_from (first + 1) n (half false set)) = cubes_matched (before ++ false ∷ []) (first + 1) n (half false set) (longer false) in
    let highs : Each (Matched (before ++ true ∷ []) n) (cubes_from (first + 1) n (half true set)) = cubes_matched (before ++ true ∷ []) (first + 1) n (half true set) (longer true) in
    let any = some_vector (suc n) in
    cond_both (is_empty_set (suc n) set) _ _ (Each (Matched before (suc n))) (λ h. each-none (Matched before (suc n)))
    (λ h. cond_both (is_whole_set (suc n) set) _ _ (Each (Matched before (suc n))) (λ h. each-one (Matched before (suc n)) [] (record { rest = any.0; long = any.1; matched = refl }))
    (λ h. cond_both (ignores_first n set) _ _ (Each (Matched before (suc n))) (λ h. λ cube c. matched_on before false n cube (lows cube c))
    (λ h. each-append (Matched before (suc n)) _ _
    (each-map (Matched before (suc n)) (λ cube. literal first false ∷ cube) (cubes_from (first + 1) n (half false set)) (λ cube c. matched_literal before first false n cube e (lows cube c)))
    (each-map (Matched before (suc n)) (λ cube. literal first true ∷ cube) (cubes_from (first + 1) n (half true set)) (λ cube c. matched_literal before first true n cube e (highs cube c))))))

-- the fluents of a cube rise, from one on
pub record RisesFrom (first : ℕ) (cube : Cube) : Type 0 where
  pub from : Each (λ (lit : Lit). first ≤ lit.fluent.0) cube
  pub rises : Pairwise (λ (lit other : Lit). lit.fluent.0 < other.fluent.0) cube

rises_later : (first : ℕ) (cube : Cube) → RisesFrom (first + 1) cube → RisesFrom first cube
rises_later first cube r = record { from = λ lit c. let l = r.from lit c in omega arith; rises = r.rises }

rises_with : (first : ℕ) (b : Bool) (cube : Cube) → RisesFrom (first + 1) cube → RisesFrom first (literal first b ∷ cube)
rises_with first b cube r = record {
  from = λ lit c. ⊎_elim (λ (e : literal first b ≡ lit). subst (λ (l : Lit). first ≤ l.fluent.0) e (omega arith)) (λ (d : Contains cube lit). let l = r.from lit d in omega arith) (Contains-cases (literal first b) cube lit c);
  rises = (λ other c. let l = r.from other c in omega arith, r.rises);
}

rises_empty : (first : ℕ) → RisesFrom first []
rises_empty first = record { from = each-none (λ (lit : Lit). first ≤ lit.fluent.0); rises = tt }

pub cubes_rise : (first n : ℕ) (set : SetOfVectors) → Each (RisesFrom first) (cubes_from first n set)
cubes_rise first zero set = cond_both (set []) _ _ (Each (RisesFrom first)) (λ h. each-one (RisesFrom first) [] (rises_empty first)) (λ h. each-none (RisesFrom first))
cubes_rise first (suc n) set =
    let lows : Each (RisesFrom (first + 1)) (cubes_from (first + 1) n (half false set)) = cubes_rise (first + 1) n (half false set) in
    let highs : Each (RisesFrom (first + 1)) (cubes_from (first + 1) n (half true set)) = cubes_rise (first + 1) n (half true set) in
    cond_both (is_empty_set (suc n) set) _ _ (Each (RisesFrom first)) (λ h. each-none (RisesFrom first))
    (λ h. cond_both (is_whole_set (suc n) set) _ _ (Each (RisesFrom first)) (λ h. each-one (RisesFrom first) [] (rises_empty first))
    (λ h. cond_both (ignores_first n set) _ _ (Each (RisesFrom first)) (λ h. λ cube c. rises_later first cube (lows cube c))
    (λ h. each-append (RisesFrom first) _ _
    (each-map (RisesFrom first) (λ cube. literal first false ∷ cube) (cubes_from (first + 1) n (half false set)) (λ cube c. rises_with first false cube (lows cube c)))
    (each-map (RisesFrom first) (λ cube. literal first true ∷ cube) (cubes_from (first + 1) n (half true set)) (λ cube c. rises_with first true cube (highs cube c))))))
