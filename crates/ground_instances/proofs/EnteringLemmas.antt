-- The objects of a type, as they are entered: along the parents of each object's type.
use Rattle.std.proofs.Common.{◌≡◌, ℕ, zero, suc, ◌+◌, ◌-◌, ◌<◌, ◌≤◌, Bool, true, false, ◌||◌, cond, List, [], ◌∷◌, ◌++◌, length, map, get_or, drop, refl, ap, sym, subst, ◌∙◌, arith, add-zero, zero-add, add-one, append-nil, append_assoc, length-append, ◌⊎◌, inl, inr}
use Rattle.std.specs.Prelude.{◌==◌, All, Vec, if◌then◌else◌, slice_set}
use Rattle.std.specs.declared.alloc.Global.{Global}
use Rattle.std.specs.List.{filter, list_any, range_with_len}
use Rattle.std.proofs.lemmas.Bool.{eq-eqb, cases_eq, cases_lt, ne_eqb}
use Rattle.std.proofs.lemmas.List.Folds.{list_any-append}
use Rattle.std.proofs.lemmas.List.Elements.{All-append, All-get_or, All-map}
use Rattle.std.proofs.lemmas.List.{drop_more, get_or_at, length-map}
use Rattle.pddl_ast.specs.declared.trees.Named.{Named}
use Rattle.pddl_ast.specs.Fits.{ancestor, FitsDomain, FitsProblem}
use Rattle.pddl_ast.specs.Trees.{DomainTree, ProblemTree}
use Rattle.pddl_system.specs.Objects.{all_objects, is_kind_of, type_of, objects_of_type}
use Rattle.ground_instances.specs.Entering.{AreBelow, entered, list_of, shared_lists, types_of}
use Rattle.ground_instances.specs.Groups.{AreGroups}
use Rattle.ground_instances.specs.Tables.{objects_at}
use Rattle.list_laws.proofs.Booleans.{or_false, or_true}

-- whether one of the first k steps from type t comes to type u
abbrev pub reaches : List ℕ → ℕ → ℕ → ℕ → Bool
reaches parents t u k = list_any (λ j. ancestor parents j t == u) (range_with_len 0 k)

range-snoc : (a k : ℕ) → range_with_len a (suc k) ≡ range_with_len a k ++ (a + k) ∷ []
range-snoc a zero = ap (λ n. n ∷ []) (sym (add-zero a))
range-snoc a (suc k) =
    let e : a + 1 + k ≡ a + suc k = omega arith in
    ap (λ xs. a ∷ xs) (range-snoc (a + 1) k)
    ∙ ap (λ n. a ∷ (range_with_len (a + 1) k ++ n ∷ [])) e

pub reaches_more : (parents : List ℕ) (t u k : ℕ) → reaches parents t u (suc k) ≡ (reaches parents t u k || (ancestor parents k t == u))
reaches_more parents t u k =
    ap (list_any (λ j. ancestor parents j t == u)) (range-snoc 0 k)
    ∙ list_any-append (λ j. ancestor parents j t == u) (range_with_len 0 k) ((0 + k) ∷ [])
    ∙ ap (λ b. reaches parents t u k || b) (or_false (ancestor parents (0 + k) t == u))
    ∙ ap (λ n. reaches parents t u k || (ancestor parents n t == u)) (zero-add k)

-- a step more is a step from where the steps so far lead
pub ancestor_next : (parents : List ℕ) (k t : ℕ) → ancestor parents (suc k) t ≡ get_or parents (ancestor parents k t) 0
ancestor_next parents zero t = refl
ancestor_next parents (suc k) t = ancestor_next parents k (get_or parents t 0)

pub ancestor_known : (parents : List ℕ) (n k t : ℕ) → n ≡ length parents → All (λ p. p < n) parents → t < n → ancestor parents k t < n
ancestor_known parents n zero t same known h = h
ancestor_known parents n (suc k) t same known h =
    ancestor_known parents n k (get_or parents t 0) same known (All-get_or (λ p. p < n) parents t 0 (subst (λ m. t < m) same h) known)

or-twice : (a b : Bool) → ((a || b) || b) ≡ (a || b)
or-twice true b = refl
or-twice false true = refl
or-twice false false = refl

-- from a type that is its own parent no step leads on
pub ancestor-fixed : (parents : List ℕ) (m t : ℕ) → get_or parents t 0 ≡ t → ancestor parents m t ≡ t
ancestor-fixed parents zero t h = refl
ancestor-fixed parents (suc m) t h = ap (ancestor parents m) h ∙ ancestor-fixed parents m t h

pub ancestor-add : (parents : List ℕ) (k m t : ℕ) → ancestor parents (k + m) t ≡ ancestor parents m (ancestor parents k t)
ancestor-add parents zero m t = ap (λ n. ancestor parents n t) (zero-add m)
ancestor-add parents (suc k) m t = ap (λ n. ancestor parents n t) (let e : suc k + m ≡ suc (k + m) = omega arith in e) ∙ ancestor-add parents k m (get_or parents t 0)

reaches-fixed : (parents : List ℕ) (t u k m : ℕ) → get_or parents (ancestor parents k t) 0 ≡ ancestor parents k t
    → reaches parents t u (suc (k + m)) ≡ reaches parents t u (suc k)
reaches-fixed parents t u k zero h = ap (λ n. reaches parents t u (suc n)) (add-zero k)
reaches-fixed parents t u k (suc m) h =
    ap (λ n. reaches parents t u (suc n)) (let e : k + suc m ≡ suc (k + m) = omega arith in e)
    ∙ reaches_more parents t u (suc (k + m))
    ∙ ap (λ b. b || (ancestor parents (suc (k + m)) t == u)) (reaches-fixed parents t u k m h ∙ reaches_more parents t u k)
    ∙ ap (λ n. (reaches parents t u k || (ancestor parents k t == u)) || (n == u))
    (ap (λ n. ancestor parents n t) (let e : suc (k + m) ≡ k + suc m = omega arith in e) ∙ ancestor-add parents k (suc m) t ∙ ancestor-fixed parents (suc m) (ancestor parents k t) h)
    ∙ or-twice (reaches parents t u k) (ancestor parents k t == u)
    ∙ sym (reaches_more parents t u k)

pub reaches_all : (parents : List ℕ) (t u k : ℕ) → k ≤ length parents → get_or parents (ancestor parents k t) 0 ≡ ancestor parents k t
    → reaches parents t u (suc k) ≡ is_kind_of parents t u
reaches_all parents t u k h fixed =
    sym (reaches-fixed parents t u k (length parents - k) fixed)
    ∙ ap (λ n. reaches parents t u (suc n)) (let e : k + (length parents - k) ≡ length parents = omega arith in e)

-- the object, where it is entered
abbrev pub if_so : Bool → ℕ → List ℕ
if_so b o = if b then o ∷ [] else []

pub list_of-set_same : (lists : List (Vec ℕ Global)) (k : ℕ) (v : Vec ℕ Global) → k < length lists → list_of (slice_set lists k v) k ≡ v.items
list_of-set_same [] k v h = absurd (omega arith)
list_of-set_same (l ∷ lists) zero v h = refl
list_of-set_same (l ∷ lists) (suc k) v h = list_of-set_same lists k v (omega arith)

pub list_of-set_other : (lists : List (Vec ℕ Global)) (k t : ℕ) (v : Vec ℕ Global) → (t ≡ k → ⊥) → list_of (slice_set lists k v) t ≡ list_of lists t
list_of-set_other [] k t v h = refl
list_of-set_other (l ∷ lists) zero zero v h = absurd (h refl)
list_of-set_other (l ∷ lists) zero (suc t) v h = refl
list_of-set_other (l ∷ lists) (suc k) zero v h = refl
list_of-set_other (l ∷ lists) (suc k) (suc t) v h = list_of-set_other lists k t v (λ e. h (ap suc e))

pub list_of-get : (lists : List (Vec ℕ Global)) (k : ℕ) (v : Vec ℕ Global) → k < length lists → v ≡ get_or lists k v → list_of lists k ≡ v.items
list_of-get lists k v h is = go lists k h ∙ ap (λ (w : Vec ℕ Global). w.items) (sym is)
  where
    go : (ls : List (Vec ℕ Global)) (j : ℕ) → j < length ls → list_of ls j ≡ (get_or ls j v).items
    go [] j h = absurd (omega arith)
    go (l ∷ ls) zero h = refl
    go (l ∷ ls) (suc j) h = go ls j (omega arith)

pub list_of-past : (lists : List (Vec ℕ Global)) (t : ℕ) → length lists ≤ t → list_of lists t ≡ []
list_of-past [] t h = refl
list_of-past (l ∷ lists) zero h = absurd (omega arith)
list_of-past (l ∷ lists) (suc t) h = list_of-past lists t (omega arith)

-- what the list of the type at hand is before the object is entered
pub either_way : (xs base : List ℕ) (b : Bool) (o : ℕ) → xs ≡ base ++ if_so b o → (xs ≡ base) ⊎ (xs ≡ base ++ o ∷ [])
either_way xs base true o e = inr e
either_way xs base false o e = inl (e ∙ append-nil base)

-- one step more
pub enter_step : (parents : List ℕ) (type o k kind : ℕ) (base : ℕ → List ℕ) (lists new : List (Vec ℕ Global)) (v : Vec ℕ Global)
    → kind ≡ ancestor parents k type → kind < length lists
    → ((t : ℕ) → t < length parents → list_of lists t ≡ base t ++ if_so (reaches parents type t k) o)
    → new ≡ slice_set lists kind v → v.items ≡ base kind ++ o ∷ []
    → (t : ℕ) → t < length parents → list_of new t ≡ base t ++ if_so (reaches parents type t (suc k)) o
enter_step parents type o k kind base lists new v at inside before put pushed t within = elim (cases_eq t kind) [
  | inl same ↦
      ap (λ ls. list_of ls t) put ∙ ap (list_of (slice_set lists kind v)) same ∙ list_of-set_same lists kind v inside ∙ pushed
      ∙ ap (λ u. base u ++ o ∷ []) (sym same)
      ∙ ap (λ b. base t ++ if_so b o) (sym (reaches_more parents type t k ∙ ap (λ b. reaches parents type t k || b) (eq-eqb (ancestor parents k type) t (sym at ∙ sym same)) ∙ or_true (reaches parents type t k)))
  | inr other ↦
      ap (λ ls. list_of ls t) put ∙ list_of-set_other lists kind t v other ∙ before t within
      ∙ ap (λ b. base t ++ if_so b o) (sym (reaches_more parents type t k ∙ ap (λ b. reaches parents type t k || b) (ne_eqb (ancestor parents k type) t (λ e. other (sym e ∙ sym at))) ∙ or_false (reaches parents type t k)))
]

-- the numbers stay below where an object is entered
pub enter_below : (parents : List ℕ) (o : ℕ) (kinds : ℕ → Bool) (lists new : List (Vec ℕ Global)) → length new ≡ length parents → AreBelow o lists
    → ((t : ℕ) → t < length parents → list_of new t ≡ list_of lists t ++ if_so (kinds t) o) → AreBelow (o + 1) new
enter_below parents o kinds lists new counted below entered t = elim (cases_lt t (length parents)) [
  | inl within ↦ subst (λ xs. All (λ n. n < o + 1) xs) (sym (entered t within))
      (All-append (λ n. n < o + 1) (list_of lists t) (if_so (kinds t) o)
      (λ k d h. let old : get_or (list_of lists t) k d < o = below t k d h in omega arith)
      (one (kinds t)))
  | inr past ↦ subst (λ xs. All (λ n. n < o + 1) xs) (sym (list_of-past new t (subst (λ n. n ≤ t) (sym counted) past))) (λ k d h. absurd (omega arith))
]
  where
    one : (b : Bool) → All (λ n. n < o + 1) (if_so b o)
    one true = λ k d h. nth k d h
      where
        nth : (k d : ℕ) → k < 1 → get_or (o ∷ []) k d < o + 1
        nth zero d h = omega arith
        nth (suc k) d h = absurd (omega arith)
    one false = λ k d h. absurd (omega arith)

-- one object more
pub enter_next : (parents types : List ℕ) (i t : ℕ) (base new whole : List ℕ) → i < length types
    → new ≡ base ++ if_so (is_kind_of parents (get_or types i 0) t) i
    → base ++ entered parents (drop i types) i t ≡ whole
    → new ++ entered parents (drop (i + 1) types) (i + 1) t ≡ whole
enter_next parents types i t base new whole within put before =
    ap (λ xs. xs ++ entered parents (drop (i + 1) types) (i + 1) t) put
    ∙ append_assoc base (if_so (is_kind_of parents (get_or types i 0) t) i) (entered parents (drop (i + 1) types) (i + 1) t)
    ∙ ap (λ n. base ++ (if_so (is_kind_of parents (get_or types i 0) t) i ++ entered parents (drop (i + 1) types) n t)) (add-one i)
    ∙ ap (λ rest. base ++ entered parents rest i t) (sym (drop_more types i 0 within))
    ∙ before

-- the objects of a type are those that are entered into its list
entered_from : (parents pre types : List ℕ) (t : ℕ)
    → filter (λ o. is_kind_of parents (get_or (pre ++ types) o 0) t) (range_with_len (length pre) (length types)) ≡ entered parents types (length pre) t
entered_from parents pre [] t = refl
entered_from parents pre (x ∷ types) t =
    let p : ℕ → Bool = λ o. is_kind_of parents (get_or (pre ++ x ∷ types) o 0) t in
    let more : length (pre ++ x ∷ []) ≡ length pre + 1 = length-append pre (x ∷ []) in
    let rest : filter p (range_with_len (length pre + 1) (length types)) ≡ entered parents types (suc (length pre)) t =
    ap (λ n. filter p (range_with_len n (length types))) (sym more)
    ∙ ap (λ all. filter (λ o. is_kind_of parents (get_or all o 0) t) (range_with_len (length (pre ++ x ∷ [])) (length types))) (sym (append_assoc pre (x ∷ []) types))
    ∙ entered_from parents (pre ++ x ∷ []) types t
    ∙ ap (λ n. entered parents types n t) (more ∙ add-one (length pre)) in
    split (p (length pre)) (length pre) (filter p (range_with_len (length pre + 1) (length types)))
    ∙ ap (λ xs. if_so (p (length pre)) (length pre) ++ xs) rest
    ∙ ap (λ ty. if_so (is_kind_of parents ty t) (length pre) ++ entered parents types (suc (length pre)) t) (get_or_at pre x types 0 (length pre) refl)
  where
    split : (b : Bool) (n : ℕ) (xs : List ℕ) → cond b (n ∷ xs) xs ≡ if_so b n ++ xs
    split true n xs = refl
    split false n xs = refl

entered_all : (parents : List ℕ) (objects : List Named) (t : ℕ) → entered parents (types_of objects) 0 t ≡ objects_of_type parents objects t
entered_all parents objects t =
    sym (entered_from parents [] (types_of objects) t)
    ∙ ap (λ n. filter (λ o. is_kind_of parents (type_of objects o) t) (range_with_len 0 n)) (length-map objects (λ (n : Named). n.type_id))

reaches-none : (parents : List ℕ) (ty t k : ℕ) → length parents ≤ t → All (λ p. p < length parents) parents → ty < length parents → reaches parents ty t k ≡ false
reaches-none parents ty t zero past known h = refl
reaches-none parents ty t (suc k) past known h =
    let below : ancestor parents k ty < length parents = ancestor_known parents (length parents) k ty refl known h in
    reaches_more parents ty t k
    ∙ ap (λ b. b || (ancestor parents k ty == t)) (reaches-none parents ty t k past known h)
    ∙ ne_eqb (ancestor parents k ty) t (λ e. let x : t < length parents = subst (λ n. n < length parents) e below in omega arith)

entered-none : (parents types : List ℕ) (f t : ℕ) → length parents ≤ t → All (λ p. p < length parents) parents
    → All (λ d. d < length parents) types → entered parents types f t ≡ []
entered-none parents [] f t past known types = refl
entered-none parents (x ∷ rest) f t past known types =
    ap (λ b. if_so b f ++ entered parents rest (suc f) t) (reaches-none parents x t (suc (length parents)) past known (types 0 x (omega arith)))
    ∙ entered-none parents rest (suc f) t past known (λ k d h. types (suc k) d (omega arith))

-- every object has a type
pub types_known : (d : DomainTree) (p : ProblemTree) → FitsDomain d → FitsProblem d p → All (λ t. t < length d.parents) (types_of (all_objects d p))
types_known d p fits_domain fits_problem = All-map (λ t. t < length d.parents) (λ (n : Named). n.type_id) (d.constants ++ p.objects)
    (All-append (λ (n : Named). n.type_id < length d.parents) d.constants p.objects
    (λ k e h. subst (λ n. (get_or d.constants k e).type_id < n) (sym fits_domain.one_parent) (fits_domain.constants k e h).1)
    (λ k e h. subst (λ n. (get_or p.objects k e).type_id < n) (sym fits_domain.one_parent) (fits_problem.objects k e h).1))

-- along the groups the same objects are entered
entered_in_group : (parents above tops types : List ℕ) (f t : ℕ) → All (λ d. is_kind_of above (get_or tops d 0) (get_or tops t 0) ≡ is_kind_of parents d t) types
    → entered above (map (λ d. get_or tops d 0) types) f (get_or tops t 0) ≡ entered parents types f t
entered_in_group parents above tops [] f t same = refl
entered_in_group parents above tops (x ∷ types) f t same =
    ap (λ b. if_so b f ++ entered above (map (λ d. get_or tops d 0) types) (suc f) (get_or tops t 0)) (same 0 x (omega arith))
    ∙ ap (λ xs. if_so (is_kind_of parents x t) f ++ xs) (entered_in_group parents above tops types (suc f) t (λ k d h. same (suc k) d (omega arith)))

shared_at : (lists : List (Vec ℕ Global)) (places : List ℕ) (t : ℕ) → t < length places → objects_at (shared_lists places lists) t ≡ list_of lists (get_or places t 0)
shared_at lists [] t h = absurd (omega arith)
shared_at lists (p ∷ places) zero h = refl
shared_at lists (p ∷ places) (suc t) h = shared_at lists places t (omega arith)

shared_past : (lists : List (Vec ℕ Global)) (places : List ℕ) (t : ℕ) → length places ≤ t → objects_at (shared_lists places lists) t ≡ []
shared_past lists [] t h = refl
shared_past lists (p ∷ places) zero h = absurd (omega arith)
shared_past lists (p ∷ places) (suc t) h = shared_past lists places t (omega arith)

-- what the types have at the end
pub all_entered : (parents tops above types : List ℕ) (objects : List Named) (lists : List (Vec ℕ Global)) (t : ℕ)
    → types ≡ types_of objects → All (λ p. p < length parents) parents → All (λ d. d < length parents) types → AreGroups parents types tops above
    → ((u : ℕ) → u < length above → list_of lists u ≡ entered above (map (λ d. get_or tops d 0) types) 0 u)
    → objects_at (shared_lists tops lists) t ≡ objects_of_type parents objects t
all_entered parents tops above types objects lists t is known types_known groups made =
    let whole : entered parents types 0 t ≡ objects_of_type parents objects t = ap (λ ds. entered parents ds 0 t) is ∙ entered_all parents objects t in
    elim (cases_lt t (length parents)) [
      | inl within ↦ (
          let at : t < length tops = subst (λ n. t < n) (sym groups.all_tops) within in
          let top : get_or tops t 0 < length above = subst (λ n. get_or tops t 0 < n) (sym groups.all_above) (groups.tops_known t 0 at) in
          shared_at lists tops t at ∙ made (get_or tops t 0) top
          ∙ entered_in_group parents above tops types 0 t (λ k d h. groups.same k d h t within) ∙ whole)
      | inr past ↦
          shared_past lists tops t (subst (λ n. n ≤ t) (sym groups.all_tops) past) ∙ sym (entered-none parents types 0 t past known types_known) ∙ whole
    ]

-- a list of empty lists
pub still_empty : (lists : List (Vec ℕ Global)) (v : Vec ℕ Global) → v.items ≡ [] → ((t : ℕ) → list_of lists t ≡ []) → (t : ℕ) → list_of (lists ++ v ∷ []) t ≡ []
still_empty [] v none empty zero = none
still_empty [] v none empty (suc t) = refl
still_empty (l ∷ lists) v none empty zero = empty 0
still_empty (l ∷ lists) v none empty (suc t) = still_empty lists v none (λ u. empty (suc u)) t
