-- Functions that agree at each list of truth values, and the lists of truth values.
use Rattle.std.proofs.Common.{◌≡◌, ℕ, zero, suc, ◌<◌, ◌≤◌, Bool, true, false, List, [], ◌∷◌, ◌||◌, length, map, flat_map, slice_index_or, refl, sym, ap, subst, ◌∙◌, ⊎_elim, arith}
use Rattle.std.specs.List.{Any, list_any, list_all}
use mathlib.Core.Bool.{beq}
use Rattle.std.proofs.lemmas.Bool.{cases_lt, or_left, or_right, and_parts, and_from, false≢true}
use Rattle.std.proofs.lemmas.List.Folds.{list_all-append, list_any-append, list_all-map}
use Rattle.dd_nodes.specs.NodeList.{Values}
use Rattle.dd_nodes.specs.Subfunctions.{Function, DependsOnly, with_first, fixed, lists, lists_up_to, subfunctions, agree, IsSubfunction}

pub beq-eq : (a b : Bool) → beq a b ≡ true → a ≡ b
beq-eq true true e = refl
beq-eq true false e = absurd (false≢true e)
beq-eq false true e = absurd (false≢true e)
beq-eq false false e = refl

pub eq-beq : (a b : Bool) → a ≡ b → beq a b ≡ true
eq-beq true b e = subst (λ c. beq true c ≡ true) e refl
eq-beq false b e = subst (λ c. beq false c ≡ true) e refl

pub list_any-map : {X Y : Type 0} (p : Y → Bool) (h : X → Y) (xs : List X) → list_any p (map h xs) ≡ list_any (λ x. p (h x)) xs
list_any-map p h [] = refl
list_any-map p h (x ∷ xs) = ap (λ b. p (h x) || b) (list_any-map p h xs)

-- what holds of each list of n truth values holds of all in `lists n`
pub lists_from : (p : List Bool → Bool) (n : ℕ) → ((first : List Bool) → length first ≡ n → p first ≡ true) → list_all p (lists n) ≡ true
unfolding lists
lists_from p zero each = and_from (p []) true (each [] refl) refl
lists_from p (suc n) each =
    list_all-append p (map (λ rest. false ∷ rest) (lists n)) (map (λ rest. true ∷ rest) (lists n))
    ∙ and_from (list_all p (map (λ rest. false ∷ rest) (lists n))) (list_all p (map (λ rest. true ∷ rest) (lists n)))
    (list_all-map p (λ rest. false ∷ rest) (lists n) ∙ lists_from (λ rest. p (false ∷ rest)) n (λ rest e. each (false ∷ rest) (ap suc e)))
    (list_all-map p (λ rest. true ∷ rest) (lists n) ∙ lists_from (λ rest. p (true ∷ rest)) n (λ rest e. each (true ∷ rest) (ap suc e)))

pub lists_each : (p : List Bool → Bool) (n : ℕ) → list_all p (lists n) ≡ true → (first : List Bool) → length first ≡ n → p first ≡ true
unfolding lists
lists_each p zero all [] e = (and_parts (p []) true all).0
lists_each p zero all (b ∷ first) e = absurd (omega arith)
lists_each p (suc n) all [] e = absurd (omega arith)
lists_each p (suc n) all (false ∷ rest) e =
    let parts = and_parts (list_all p (map (λ rest. false ∷ rest) (lists n))) (list_all p (map (λ rest. true ∷ rest) (lists n)))
    (sym (list_all-append p (map (λ rest. false ∷ rest) (lists n)) (map (λ rest. true ∷ rest) (lists n))) ∙ all) in
    lists_each (λ rest. p (false ∷ rest)) n (sym (list_all-map p (λ rest. false ∷ rest) (lists n)) ∙ parts.0) rest (omega arith)
lists_each p (suc n) all (true ∷ rest) e =
    let parts = and_parts (list_all p (map (λ rest. false ∷ rest) (lists n))) (list_all p (map (λ rest. true ∷ rest) (lists n)))
    (sym (list_all-append p (map (λ rest. false ∷ rest) (lists n)) (map (λ rest. true ∷ rest) (lists n))) ∙ all) in
    lists_each (λ rest. p (true ∷ rest)) n (sym (list_all-map p (λ rest. true ∷ rest) (lists n)) ∙ parts.1) rest (omega arith)

-- a list of n truth values stands in `lists n`
pub lists_any : (p : List Bool → Bool) (n : ℕ) (first : List Bool) → length first ≡ n → p first ≡ true → list_any p (lists n) ≡ true
unfolding lists
lists_any p zero [] e here = or_left (p []) false here
lists_any p zero (b ∷ first) e here = absurd (omega arith)
lists_any p (suc n) [] e here = absurd (omega arith)
lists_any p (suc n) (false ∷ rest) e here =
    list_any-append p (map (λ rest. false ∷ rest) (lists n)) (map (λ rest. true ∷ rest) (lists n))
    ∙ or_left (list_any p (map (λ rest. false ∷ rest) (lists n))) (list_any p (map (λ rest. true ∷ rest) (lists n)))
    (list_any-map p (λ rest. false ∷ rest) (lists n) ∙ lists_any (λ rest. p (false ∷ rest)) n rest (omega arith) here)
lists_any p (suc n) (true ∷ rest) e here =
    list_any-append p (map (λ rest. false ∷ rest) (lists n)) (map (λ rest. true ∷ rest) (lists n))
    ∙ or_right (list_any p (map (λ rest. false ∷ rest) (lists n))) (list_any p (map (λ rest. true ∷ rest) (lists n)))
    (list_any-map p (λ rest. true ∷ rest) (lists n) ∙ lists_any (λ rest. p (true ∷ rest)) n rest (omega arith) here)

pub lists_up_any : (p : List Bool → Bool) (n : ℕ) (first : List Bool) → length first ≤ n → p first ≡ true → list_any p (lists_up_to n) ≡ true
unfolding lists_up_to
lists_up_any p zero [] within here = or_left (p []) false here
lists_up_any p zero (b ∷ first) within here = absurd (omega arith)
lists_up_any p (suc n) first within here = ⊎_elim
    (λ (shorter : length first < suc n).
    list_any-append p (lists_up_to n) (lists (suc n))
    ∙ or_left (list_any p (lists_up_to n)) (list_any p (lists (suc n))) (lists_up_any p n first (omega arith) here))
    (λ (whole : suc n ≤ length first).
    list_any-append p (lists_up_to n) (lists (suc n))
    ∙ or_right (list_any p (lists_up_to n)) (list_any p (lists (suc n))) (lists_any p (suc n) first (omega arith) here))
    (cases_lt (length first) (suc n))

module _ (vars : ℕ) where
  -- agreement, list by list
  pub agree_from : (f g : Function) → ((first : List Bool) → length first ≡ vars → fixed first f (λ _. false) ≡ fixed first g (λ _. false)) → agree vars f g ≡ true
  agree_from f g each = lists_from (λ first. beq (fixed first f (λ _. false)) (fixed first g (λ _. false))) vars
      (λ first long. eq-beq (fixed first f (λ _. false)) (fixed first g (λ _. false)) (each first long))

  pub agree_each : (f g : Function) → agree vars f g ≡ true → (first : List Bool) → length first ≡ vars → fixed first f (λ _. false) ≡ fixed first g (λ _. false)
  agree_each f g same first long = beq-eq (fixed first f (λ _. false)) (fixed first g (λ _. false))
      (lists_each (λ first. beq (fixed first f (λ _. false)) (fixed first g (λ _. false))) vars same first long)

  -- equal functions agree, and agreement is symmetric and transitive
  pub agree_same : (f g : Function) → ((values : Values) → f values ≡ g values) → agree vars f g ≡ true
  agree_same f g same = agree_from f g (λ first _. same (with_first first (λ _. false)))

  pub agree_turn : (f g : Function) → agree vars f g ≡ true → agree vars g f ≡ true
  agree_turn f g same = agree_from g f (λ first long. sym (agree_each f g same first long))

  pub agree_chain : (f g h : Function) → agree vars f g ≡ true → agree vars g h ≡ true → agree vars f h ≡ true
  agree_chain f g h fg gh = agree_from f h (λ first long. agree_each f g fg first long ∙ agree_each g h gh first long)

-- the values of the first variables
front : ℕ → Values → List Bool
front zero values = []
front (suc n) values = values 0 ∷ front n (λ u. values (suc u))

length-front : (n : ℕ) (values : Values) → length (front n values) ≡ n
unfolding front
length-front zero values = refl
length-front (suc n) values = ap suc (length-front n (λ u. values (suc u)))

front_at : (n : ℕ) (values : Values) (u : ℕ) (d : Bool) → u < n → slice_index_or (front n values) u d ≡ values u
unfolding front
front_at zero values u d within = absurd (omega arith)
front_at (suc n) values zero d within = refl
front_at (suc n) values (suc u) d within = front_at n (λ u. values (suc u)) u d (omega arith)

-- functions of the variables below vars that agree are equal
pub agree_values : (vars : ℕ) (f g : Function) → DependsOnly 0 vars f → DependsOnly 0 vars g → agree vars f g ≡ true → (values : Values) → f values ≡ g values
agree_values vars f g f_below g_below same values =
    let back = λ (u : ℕ) (above : 0 ≤ u) (within : u < vars). sym (front_at vars values u false within) in
    f_below values (with_first (front vars values) (λ _. false)) back
    ∙ agree_each vars f g same (front vars values) (length-front vars values)
    ∙ sym (g_below values (with_first (front vars values) (λ _. false)) back)

-- a subfunction agrees with one of the listed subfunctions
pub subfunction_listed : (vars : ℕ) (f g : Function) → IsSubfunction vars f g → list_any (agree vars g) (subfunctions vars f) ≡ true
subfunction_listed vars f g sub =
    list_any-map (agree vars g) (λ first. fixed first f) (lists_up_to vars)
    ∙ lists_up_any (λ first. agree vars g (fixed first f)) vars sub.first sub.few (agree_same vars g (fixed sub.first f) sub.fixes)

pub any_flat_map : {X Y : Type 0} (p : Y → Bool) (h : X → List Y) (xs : List X) (k : ℕ) (x : X) → k < length xs → slice_index_or xs k x ≡ x
    → list_any p (h x) ≡ true → list_any p (flat_map h xs) ≡ true
any_flat_map p h [] k x within at here = absurd (omega arith)
any_flat_map p h (y ∷ xs) zero x within at here =
    list_any-append p (h y) (flat_map h xs)
    ∙ or_left (list_any p (h y)) (list_any p (flat_map h xs)) (subst (λ z. list_any p (h z) ≡ true) (sym at) here)
any_flat_map p h (y ∷ xs) (suc k) x within at here =
    list_any-append p (h y) (flat_map h xs)
    ∙ or_right (list_any p (h y)) (list_any p (flat_map h xs)) (any_flat_map p h xs k x (omega arith) at here)

-- a subfunction of one of the pieces agrees with one of the listed subfunctions of the pieces
pub part_listed : (vars : ℕ) (pieces : List Function) (g : Function) → Any (λ piece. IsSubfunction vars piece g) pieces
    → list_any (agree vars g) (flat_map (subfunctions vars) pieces) ≡ true
part_listed vars pieces g part =
    any_flat_map (agree vars g) (subfunctions vars) pieces part.0 part.1 part.2 part.3 (subfunction_listed vars part.1 g part.4)
