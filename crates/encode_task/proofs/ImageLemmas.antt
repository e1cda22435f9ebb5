-- What assignments make of a set, value by value: each member of the image has the values of an
-- assigned member.
use Rattle.std.proofs.Common.{◌≡◌, ◌≢◌, ℕ, ◌<◌, ◌==◌, Bool, true, false, cond, ◌&&◌, ◌||◌, [], ◌∷◌, refl, sym, ap, ◌∙◌, ⊎_elim, ◌⊎◌}
use Rattle.std.specs.List.{fold, list_all}
use borrow.Author.Tests.{eq-eqb}
use Rattle.std.proofs.lemmas.Bool.{and_parts, and_from, or_left, or_right, cases_eq, ne_eqb, ltb-true, or_cases}
use Rattle.dd_nodes.specs.NodeList.{Values, with_value}
use Rattle.dd_nodes.specs.Subfunctions.{Function}
use Rattle.dd_nodes.proofs.Canonicity.{with_value_other, with_value_same}
use Rattle.task_core.specs.Cubes.{Cube}
use Rattle.task_core.specs.Initial.{applied_value, names_it, lit_within}
use Rattle.task_core.specs.Vectors.{same_value}
use Rattle.task_core.specs.declared.literals.Lit.{Lit}
use Rattle.task_core.proofs.Vectors.{same_value_equal, same_value_refl}
use Rattle.encode_task.specs.Images.{assigned, assigned_literal, assigned_signed, has_value, image}

-- the same values of the first n fluents
abbrev pub Agrees : ℕ → Values → Values → Type 0
Agrees n v w = (g : ℕ) → g < n → v g ≡ w g

-- a set whose members are told by the first n fluents
abbrev pub Depends : ℕ → Function → Type 0
Depends n set = (v w : Values) → Agrees n v w → set v ≡ true → set w ≡ true

-- a set is the image of another under a move of the values
pub record IsImage (n : ℕ) (move : Values → Values) (set moved : Function) : Type 0 where
  pub from : (values : Values) → moved values ≡ true → (w : Values) × (set w ≡ true) × Agrees n values (move w)
  pub to : (w values : Values) → set w ≡ true → Agrees n values (move w) → moved values ≡ true

pub image_depends : (n : ℕ) (move : Values → Values) (set moved : Function) → IsImage n move set moved → Depends n moved
image_depends n move set moved is v w agree member =
    let origin = is.from v member in
    is.to origin.0 w origin.1 (λ g within. sym (agree g within) ∙ origin.2 g within)

pub image_same : (n : ℕ) (set : Function) → Depends n set → IsImage n (λ w. w) set set
image_same n set depends = record {
  from = λ values member. (values, member, λ g within. refl);
  to = λ w values member agree. depends w values (λ g within. sym (agree g within)) member;
}

pub image_chain : (n : ℕ) (first second : Values → Values) (a b c : Function) → ((v w : Values) → Agrees n v w → Agrees n (second v) (second w)) → IsImage n first a b → IsImage n second b c
    → IsImage n (λ w. second (first w)) a c
image_chain n first second a b c respects one two = record {
  from = λ values member.
      let middle = two.from values member in
      let origin = one.from middle.0 middle.1 in
      (origin.0, origin.1, λ g within. middle.2 g within ∙ respects middle.0 (first origin.0) origin.2 g within);
  to = λ w values member agree. two.to (first w) values (one.to w (first w) member (λ g within. refl)) agree;
}

pub image_move : (n : ℕ) (move other : Values → Values) (set moved : Function) → ((w : Values) → Agrees n (move w) (other w)) → IsImage n move set moved → IsImage n other set moved
image_move n move other set moved same is = record {
  from = λ values member. let origin = is.from values member in (origin.0, origin.1, λ g within. origin.2 g within ∙ same origin.0 g within);
  to = λ w values member agree. is.to w values member (λ g within. agree g within ∙ sym (same w g within));
}

or_some : (set : Function) (values : Values) (f : ℕ) (c : Bool) → set (with_value values f c) ≡ true → (set (with_value values f false) || set (with_value values f true)) ≡ true
or_some set values f false member = or_left (set (with_value values f false)) (set (with_value values f true)) member
or_some set values f true member = or_right (set (with_value values f false)) (set (with_value values f true)) member

pub image_assigned : (n f : ℕ) (b : Bool) (set : Function) → f < n → Depends n set → IsImage n (λ w. with_value w f b) set (assigned f b set)
image_assigned n f b set small depends = record { from = from; to = to }
  where
    origin : (values : Values) (c : Bool) → set (with_value values f c) ≡ true → b ≡ values f → (w : Values) × (set w ≡ true) × Agrees n values (with_value w f b)
    origin values c member at = (
      with_value values f c,
      member,
      λ g within. ⊎_elim
          (λ (e : g ≡ f). ap values e ∙ sym at ∙ sym (with_value_same (with_value values f c) f b) ∙ sym (ap (with_value (with_value values f c) f b) e))
          (λ (ne : g ≢ f). sym (with_value_other (with_value values f c) f b g ne ∙ with_value_other values f c g ne))
          (cases_eq g f),
    )

    from : (values : Values) → assigned f b set values ≡ true → (w : Values) × (set w ≡ true) × Agrees n values (with_value w f b)
    from values member =
        let parts = and_parts (set (with_value values f false) || set (with_value values f true)) (has_value f b values) member in
        let at = same_value_equal b (values f) parts.1 in
        ⊎_elim (λ (low : set (with_value values f false) ≡ true). origin values false low at) (λ (high : set (with_value values f true) ≡ true). origin values true high at)
        (or_cases (set (with_value values f false)) (set (with_value values f true)) parts.0)

    to : (w values : Values) → set w ≡ true → Agrees n values (with_value w f b) → assigned f b set values ≡ true
    to w values member agree =
        let back : Agrees n w (with_value values f (w f)) = λ g within. ⊎_elim
        (λ (e : g ≡ f). ap w e ∙ sym (with_value_same values f (w f)) ∙ sym (ap (with_value values f (w f)) e))
        (λ (ne : g ≢ f). sym (with_value_other values f (w f) g ne ∙ agree g within ∙ with_value_other w f b g ne))
        (cases_eq g f) in
        and_from (set (with_value values f false) || set (with_value values f true)) (has_value f b values)
        (or_some set values f (w f) (depends w (with_value values f (w f)) back member))
        (ap (same_value b) (agree f small ∙ with_value_same w f b) ∙ same_value_refl b)

-- one literal, and all literals of one sign
abbrev literal_move : Bool → Values → Lit → Values
literal_move positive w lit = cond (same_value lit.positive positive) (with_value w lit.fluent.0 positive) w

abbrev signed_move : Bool → Cube → Values → Values
signed_move positive lits w = fold (literal_move positive) w lits

move_respects : (n : ℕ) (positive : Bool) (lit : Lit) (v w : Values) → Agrees n v w → Agrees n (literal_move positive v lit) (literal_move positive w lit)
move_respects n positive lit v w agree g within =
    elim (same_value lit.positive positive) as (λ b. cond b (with_value v lit.fluent.0 positive) v g ≡ cond b (with_value w lit.fluent.0 positive) w g) [
      | true ↦ elim (g == lit.fluent.0) as (λ t. cond t positive (v g) ≡ cond t positive (w g)) [ true ↦ refl | false ↦ agree g within ]
      | false ↦ agree g within
    ]

signed_respects : (n : ℕ) (positive : Bool) (lits : Cube) (v w : Values) → Agrees n v w → Agrees n (signed_move positive lits v) (signed_move positive lits w)
signed_respects n positive [] v w agree = agree
signed_respects n positive (lit ∷ lits) v w agree = signed_respects n positive lits (literal_move positive v lit) (literal_move positive w lit) (move_respects n positive lit v w agree)

image_literal : (n : ℕ) (positive : Bool) (lit : Lit) (set : Function) → lit_within n lit ≡ true → Depends n set → IsImage n (λ w. literal_move positive w lit) set (assigned_literal positive set lit)
image_literal n positive lit set within depends =
    elim (same_value lit.positive positive) as (λ b. IsImage n (λ w. cond b (with_value w lit.fluent.0 positive) w) set (cond b (assigned lit.fluent.0 positive set) set)) [
      | true ↦ image_assigned n lit.fluent.0 positive set (ltb-true lit.fluent.0 n within) depends
      | false ↦ image_same n set depends
    ]

image_signed : (n : ℕ) (positive : Bool) (lits : Cube) (set : Function) → list_all (lit_within n) lits ≡ true → Depends n set → IsImage n (signed_move positive lits) set (assigned_signed positive lits set)
image_signed n positive [] set within depends = image_same n set depends
image_signed n positive (lit ∷ lits) set within depends =
    let parts = and_parts (lit_within n lit) (list_all (lit_within n) lits) within in
    let one = image_literal n positive lit set parts.0 depends in
    image_chain n (λ w. literal_move positive w lit) (signed_move positive lits) set (assigned_literal positive set lit) (assigned_signed positive lits (assigned_literal positive set lit))
    (signed_respects n positive lits) one
    (image_signed n positive lits (assigned_literal positive set lit) parts.1 (image_depends n (λ w. literal_move positive w lit) set (assigned_literal positive set lit) one))

-- the value that literals of one sign leave
same_test : (f g : ℕ) → (g == f) ≡ (f == g)
same_test f g = ⊎_elim
    (λ (e : g ≡ f). eq-eqb g f e ∙ sym (eq-eqb f g (sym e)))
    (λ (ne : g ≢ f). ne_eqb g f ne ∙ sym (ne_eqb f g (λ e. ne (sym e))))
    (cases_eq g f)

literal_value : (positive : Bool) (lit : Lit) (w : Values) (g : ℕ) → literal_move positive w lit g ≡ cond (lit.fluent.0 == g && same_value lit.positive positive) positive (w g)
literal_value positive lit w g =
    by_sign (same_value lit.positive positive) ∙ refl
  where
    by_test : (t : Bool) → cond t positive (w g) ≡ cond (t && true) positive (w g)
    by_test true = refl
    by_test false = refl

    none : (t : Bool) → w g ≡ cond (t && false) positive (w g)
    none true = refl
    none false = refl

    by_sign : (b : Bool) → cond b (with_value w lit.fluent.0 positive) w g ≡ cond (lit.fluent.0 == g && b) positive (w g)
    by_sign true = ap (λ t. cond t positive (w g)) (same_test lit.fluent.0 g) ∙ by_test (lit.fluent.0 == g)
    by_sign false = none (lit.fluent.0 == g)

two_conds : (a b positive x : Bool) → cond b positive (cond a positive x) ≡ cond (a || b) positive x
two_conds true true positive x = refl
two_conds true false positive x = refl
two_conds false b positive x = refl

signed_value : (positive : Bool) (lits : Cube) (w : Values) (g : ℕ) → signed_move positive lits w g ≡ cond (names_it positive g lits) positive (w g)
signed_value positive [] w g = refl
signed_value positive (lit ∷ lits) w g =
    signed_value positive lits (literal_move positive w lit) g
    ∙ ap (cond (names_it positive g lits) positive) (literal_value positive lit w g)
    ∙ two_conds (lit.fluent.0 == g && same_value lit.positive positive) (names_it positive g lits) positive (w g)

-- all literals
pub image_literals : (n : ℕ) (lits : Cube) (set : Function) → list_all (lit_within n) lits ≡ true → Depends n set → IsImage n (applied_value lits) set (image lits set)
image_literals n lits set within depends =
    let deleted = image_signed n false lits set within depends in
    let added = image_signed n true lits (assigned_signed false lits set) within (image_depends n (signed_move false lits) set (assigned_signed false lits set) deleted) in
    image_move n (λ w. signed_move true lits (signed_move false lits w)) (applied_value lits) set (image lits set)
    (λ w g inside. signed_value true lits (signed_move false lits w) g ∙ ap (cond (names_it true g lits) true) (signed_value false lits w g))
    (image_chain n (signed_move false lits) (signed_move true lits) set (assigned_signed false lits set) (image lits set) (signed_respects n true lits) deleted added)

pub applied_respects : (n : ℕ) (lits : Cube) (v w : Values) → Agrees n v w → Agrees n (applied_value lits v) (applied_value lits w)
applied_respects n lits v w agree g within = ap (λ x. cond (names_it true g lits) true (cond (names_it false g lits) false x)) (agree g within)
