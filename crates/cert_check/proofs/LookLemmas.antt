-- What is looked up on the board: whether two sets have a vector in common, and whether a cube matches
-- some of a set once its literals are fixed there.
use Rattle.std.proofs.Common.{◌≡◌, ◌≢◌, ◌↔◌, IsTrue, ℕ, ◌<◌, ◌==◌, Bool, true, false, not, ◌&&◌, [], ◌∷◌, refl, sym, ap, ◌∙◌, ⊎_elim, arith}
use Rattle.std.specs.List.{Contains, list_any}
use Rattle.std.proofs.lemmas.Bool.{and_from, and_parts, cases_eq, cond-false, cond-true, eq-eqb, eqb-true, false_from_ne_true, false≢true, ne_eqb, or_parts, true≢false}
use Rattle.std.proofs.lemmas.List.Elements.{All-head, All-tail}
use Rattle.dd_nodes.specs.NodeList.{Values, with_value}
use Rattle.dd_nodes.specs.Subfunctions.{DependsOnly, Function}
use Rattle.dd_ops.specs.Operations.{and_of, cofactor_of}
use Rattle.dd_ops.proofs.QuestionLemmas.{with_value_own}
use Rattle.dd_sets.specs.LiveSets.{nothing}
use Rattle.encode_task.specs.TaskSets.{cube_set, first_values}
use Rattle.encode_task.proofs.StateVectors.{at_state, length_first, some_there}
use Rattle.task_core.specs.Cubes.{Cube}
use Rattle.task_core.specs.Vectors.{Vector, all_vectors, same_value, value_of}
use Rattle.task_core.specs.declared.literals.Lit.{Lit}
use Rattle.task_core.proofs.Vectors.{all_vectors_has, same_value_equal}
use Rattle.plan_rules.specs.Plans.{IsCubeOf}
use Rattle.list_laws.proofs.Elements.{Contains-cases, Contains-nil, list_all-at, list_all-from, list_any-false, list_any-from, list_any-none, list_any-witness}
use Rattle.cert_check.specs.Sets.{contradicts, is_opposite, meets}

true_of : (x y : Bool) → x ≡ true → y ≡ true → x ≡ y
true_of x y a b = a ∙ sym b

-- what two sets have in common
pub common_found : (n : ℕ) (set f h : Function) → DependsOnly 0 n set → set ≡ and_of f h → (empty : Bool) → (IsTrue empty ↔ (set ≡ nothing)) → not empty ≡ meets n f h
common_found n set f h only is true empty = sym (ap (λ (s : Function). list_any (λ v. s (value_of v)) (all_vectors n)) (sym is ∙ empty.0 refl) ∙ none n)
  where
    none : (n : ℕ) → list_any (λ v. nothing (value_of v)) (all_vectors n) ≡ false
    none n = list_any-none (λ v. nothing (value_of v)) (all_vectors n) (λ v c. refl)
common_found n set f h only is false empty =
    let w = some_there n set only (λ e. let t = empty.1 e in cc) in
    sym (list_any-from (λ v. f (value_of v) && h (value_of v)) (all_vectors n) w.0 (all_vectors_has n w.0 w.1) (ap (λ (s : Function). s (value_of w.0)) (sym is) ∙ w.2))

-- a set once the literals of a cube are fixed, one after the other, and the values that it looks at then
unfoldable pub fixed : Cube → Function → Function
fixed [] b = b
fixed (lit ∷ lits) b = fixed lits (cofactor_of b lit.fluent.0 lit.positive)

assigned : Cube → Values → Values
assigned [] values = values
assigned (lit ∷ lits) values = with_value (assigned lits values) lit.fluent.0 lit.positive

fixed_at : (lits : Cube) (b : Function) (values : Values) → fixed lits b values ≡ b (assigned lits values)
unfolding fixed assigned
fixed_at [] b values = refl
fixed_at (lit ∷ lits) b values = fixed_at lits (cofactor_of b lit.fluent.0 lit.positive) values

-- values that a cube matches stay
assigned_same : (lits : Cube) (values : Values) → cube_set lits values ≡ true → assigned lits values ≡ values
unfolding assigned
assigned_same [] values matched = refl
assigned_same (lit ∷ lits) values matched =
    let parts = and_parts (same_value (values lit.fluent.0) lit.positive) (cube_set lits values) matched in
    ap (λ (w : Values). with_value w lit.fluent.0 lit.positive) (assigned_same lits values parts.1)
    ∙ with_value_own values lit.fluent.0 lit.positive (same_value_equal (values lit.fluent.0) lit.positive parts.0)

-- a literal that none is opposite to has its value
not_opposite : (p q : Bool) → not (same_value p q) ≡ false → q ≡ p
not_opposite true true e = refl
not_opposite true false e = absurd (true≢false e)
not_opposite false true e = absurd (true≢false e)
not_opposite false false e = refl

assigned_has : (lits : Cube) (lit : Lit) (values : Values) → Contains lits lit → list_any (is_opposite lit) lits ≡ false → assigned lits values lit.fluent.0 ≡ lit.positive
unfolding assigned
assigned_has [] lit values has none = absurd (Contains-nil lit has)
assigned_has (x ∷ lits) lit values has none =
    let parts = or_parts (is_opposite lit x) (list_any (is_opposite lit) lits) none in
    ⊎_elim
    (λ (same : lit.fluent.0 ≡ x.fluent.0).
    cond-true (lit.fluent.0 == x.fluent.0) x.positive (assigned lits values lit.fluent.0) (eq-eqb lit.fluent.0 x.fluent.0 same)
    ∙ not_opposite lit.positive x.positive (sym (ap (λ b. b && not (same_value lit.positive x.positive)) (eq-eqb lit.fluent.0 x.fluent.0 same)) ∙ parts.0))
    (λ (differs : lit.fluent.0 ≢ x.fluent.0).
    cond-false (lit.fluent.0 == x.fluent.0) x.positive (assigned lits values lit.fluent.0) (ne_eqb lit.fluent.0 x.fluent.0 differs)
    ∙ ⊎_elim
    (λ (is : x ≡ lit). absurd (differs (ap (λ (l : Lit). l.fluent.0) (sym is))))
    (λ (later : Contains lits lit). assigned_has lits lit values later parts.1)
    (Contains-cases x lits lit has))
    (cases_eq lit.fluent.0 x.fluent.0)

same_to : (x p : Bool) → x ≡ p → same_value x p ≡ true
same_to true p e = sym e
same_to false true e = absurd (false≢true e)
same_to false false e = refl

-- a cube without opposites matches them
assigned_matches : (cube : Cube) (values : Values) → contradicts cube ≡ false → cube_set cube (assigned cube values) ≡ true
assigned_matches cube values none =
    list_all-from (λ lit. same_value (assigned cube values lit.fluent.0) lit.positive) cube (λ lit has.
    same_to (assigned cube values lit.fluent.0) lit.positive
    (assigned_has cube lit values has (list_any-false (λ l. list_any (is_opposite l) cube) cube lit none has)))

-- a cube that matches has no opposites
opposite_parts : (x p q : Bool) → same_value x p ≡ true → same_value x q ≡ true → not (same_value p q) ≡ true → ⊥
opposite_parts true true true a b c = false≢true c
opposite_parts true true false a b c = false≢true b
opposite_parts true false q a b c = false≢true a
opposite_parts false true q a b c = false≢true a
opposite_parts false false true a b c = false≢true b
opposite_parts false false false a b c = false≢true c

matched_agrees : (cube : Cube) (values : Values) → cube_set cube values ≡ true → contradicts cube ≡ true → ⊥
matched_agrees cube values matched against =
    let p : Lit → Bool = λ lit. same_value (values lit.fluent.0) lit.positive in
    let one = list_any-witness (λ lit. list_any (is_opposite lit) cube) cube against in
    let two = list_any-witness (is_opposite one.0) cube one.2 in
    let parts = and_parts (one.0.fluent.0 == two.0.fluent.0) (not (same_value one.0.positive two.0.positive)) two.2 in
    let same : one.0.fluent.0 ≡ two.0.fluent.0 = eqb-true one.0.fluent.0 two.0.fluent.0 parts.0 in
    opposite_parts (values one.0.fluent.0) one.0.positive two.0.positive
    (list_all-at p cube one.0 matched one.1)
    (ap (λ k. same_value (values k) two.0.positive) same ∙ list_all-at p cube two.0 matched two.1)
    parts.1

-- a cube over n fluents depends on these
pub cube_depends : (n : ℕ) (cube : Cube) → IsCubeOf n cube → DependsOnly 0 n (cube_set cube)
cube_depends n [] below s t same = refl
cube_depends n (lit ∷ cube) below s t same =
    ap (λ b. same_value b lit.positive && cube_set cube s) (same lit.fluent.0 (omega arith) (All-head (λ (l : Lit). l.fluent.0 < n) lit cube below))
    ∙ ap (λ b. same_value (t lit.fluent.0) lit.positive && b) (cube_depends n cube (All-tail (λ (l : Lit). l.fluent.0 < n) lit cube below) s t same)

-- a cube matches some of a set exactly where something is left of the set and the cube doesn't
-- contradict itself
module _ (n : ℕ) (cube : Cube) (b : Function) (below : IsCubeOf n cube) (only : DependsOnly 0 n b) (only_fixed : DependsOnly 0 n (fixed cube b)) where
  left_matched : (fixed cube b ≡ nothing → ⊥) → contradicts cube ≡ false → meets n (cube_set cube) b ≡ true
  left_matched some none =
      let w = some_there n (fixed cube b) only_fixed some in
      let at : Values = assigned cube (value_of w.0) in
      let v : Vector = first_values n at in
      list_any-from (λ v. cube_set cube (value_of v) && b (value_of v)) (all_vectors n) v (all_vectors_has n v (length_first n at))
      (and_from (cube_set cube (value_of v)) (b (value_of v))
      (sym (at_state n (cube_set cube) (cube_depends n cube below) at) ∙ assigned_matches cube (value_of w.0) none)
      (sym (at_state n b only at) ∙ sym (fixed_at cube b (value_of w.0)) ∙ w.2))

  matched_left : meets n (cube_set cube) b ≡ true → (fixed cube b ≡ nothing → ⊥) × (contradicts cube ≡ false)
  matched_left met =
      let w = list_any-witness (λ v. cube_set cube (value_of v) && b (value_of v)) (all_vectors n) met in
      let parts = and_parts (cube_set cube (value_of w.0)) (b (value_of w.0)) w.2 in (
        λ none. true≢false (sym parts.1 ∙ ap b (sym (assigned_same cube (value_of w.0) parts.0)) ∙ sym (fixed_at cube b (value_of w.0)) ∙ ap (λ (s : Function). s (value_of w.0)) none),
        false_from_ne_true (contradicts cube) (λ against. matched_agrees cube (value_of w.0) parts.0 against),
      )

  pub cube_found : (set : Function) → set ≡ fixed cube b → (found : Bool) → (IsTrue found ↔ (((set ≡ nothing) → ⊥) × (contradicts cube ≡ false))) → found ≡ meets n (cube_set cube) b
  cube_found set is true found = let h = found.0 refl in sym (left_matched (λ e. h.0 (is ∙ e)) h.1)
  cube_found set is false found = by_test (meets n (cube_set cube) b) refl
    where
      by_test : (x : Bool) → meets n (cube_set cube) b ≡ x → false ≡ meets n (cube_set cube) b
      by_test true e = let h = matched_left e in absurd (false≢true (found.1 ((λ none. h.0 (sym is ∙ none)), h.1)))
      by_test false e = sym e
