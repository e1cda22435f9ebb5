-- Each table has a counterpart in the other system.
use Rattle.std.proofs.Common.{◌≡◌, ◌≢◌, ℕ, ◌<◌, Bool, true, false, cond, List, [], ◌∷◌, map, length, get_or, Option, Some, None, refl, sym, ◌∙◌, ap, subst, eqb, slice_get}
use Rattle.std.specs.List.{Contains, filter, range_with_len}
use Rattle.std.specs.Option.{option_map_or}
use Rattle.std.proofs.lemmas.Bool.{eqb-true, eq-eqb, false≢true}
use Rattle.std.proofs.lemmas.Option.{slice_get-get_or, slice_get_within}
use Rattle.list_laws.proofs.Elements.{Contains-filter, Contains-filter-witness, Contains-flat_map, Contains-flat_map-witness, Contains-map-witness, Contains-nil, Contains-range_with_len}
use Rattle.task_core.specs.Solutions.{HasNoSolution}
use Rattle.task_core.specs.Systems.{Exec, IsState, IsVector, System}
use Rattle.task_core.specs.Tables.{IsTable, Table}
use Rattle.task_core.specs.Vectors.{Vector, same_vector}
use Rattle.task_core.specs.declared.classes.Class.{Class}
use Rattle.task_core.proofs.Vectors.{Contains-map, same_vector_equal, same_vector_refl}
use Rattle.reachable_part.specs.Carried.{IsCarried, is_action_at, narrow_pairs, narrow_table, wide_pair, wide_table}
use Rattle.reachable_part.specs.Laws.{NoneCarriesOver, TablesAreCarried}
use Rattle.reachable_part.specs.Parts.{IsActionAt, IsReachablePart, Part}
use Rattle.reachable_part.proofs.Carrying.{same_vector_wide, solution_over}

abbrev beside : Vector → ℕ → Vector × ℕ
beside w i = (w, i)

-- no list is mapped to the empty one but the empty one
map_some : {X Y : Type 0} (f : X → Y) (xs : List X) → xs ≢ [] → map f xs ≢ []
map_some f [] some e = some refl
map_some f (x ∷ xs) some e = cc

module _ (large small : System) (part : Part) (ok : IsReachablePart large small part) where
  -- an action that is listed has a number
  listed : (a : ℕ) → Contains part.actions a → (i : ℕ) × IsActionAt part i a
  listed a (i, h, is) = (i, slice_get-get_or part.actions i a h ∙ ap Some is)

  numbered : (i : ℕ) → i < small.actions → IsActionAt part i (get_or part.actions i 0)
  numbered i h = slice_get-get_or part.actions i 0 (subst (λ n. i < n) (sym ok.actions) h)

  executable_up : (w : Vector) (i a : ℕ) → IsVector small w → IsActionAt part i a → Exec small w i → Exec large (part.widened w) a
  executable_up w i a h at exec = subst (λ vs. vs ≢ []) (sym (ok.next w i a h at)) (map_some part.widened (small.next w i) exec)

  executable_down : (w : Vector) (i a : ℕ) → IsVector small w → IsActionAt part i a → Exec large (part.widened w) a → Exec small w i
  executable_down w i a h at exec e = exec (ok.next w i a h at ∙ ap (map part.widened) e)

  module _ (narrow : Table) (rows : IsTable small narrow) where
    wide_to : (w : Vector) (i : ℕ) → Contains narrow (w, i) → IsActionAt part i (get_or part.actions i 0)
    wide_to w i c = numbered i (ok.small_system.actions w i (rows w i c).1)

    wide_carried : IsCarried small part narrow (wide_table part narrow)
    wide_carried = record {
      to = λ w i h c. (get_or part.actions i 0, wide_to w i c, Contains-map (wide_pair part) narrow (w, i) c);
      from = λ w a h c. from w a h (Contains-map-witness (wide_pair part) narrow (beside (part.widened w) a) c);
    }
      where
        from : (w : Vector) (a : ℕ) → IsVector small w
            → (pair : Vector × ℕ) × Contains narrow pair × (wide_pair part pair ≡ beside (part.widened w) a)
            → (i : ℕ) × IsActionAt part i a × Contains narrow (w, i)
        from w a h ((v, i), c, e) =
            let is_vector : IsVector small v = (rows v i c).0.vector in
            let same : v ≡ w = same_vector_wide large small part ok v w is_vector h (ap (λ (pair : Vector × ℕ). pair.0) e) in
            (i, wide_to v i c ∙ ap (λ (pair : Vector × ℕ). Some pair.1) e, subst (λ u. Contains narrow (u, i)) same c)

    wide_rows : IsTable large (wide_table part narrow)
    wide_rows v a c = by_pair (Contains-map-witness (wide_pair part) narrow (beside v a) c)
      where
        by_pair : (pair : Vector × ℕ) × Contains narrow pair × (wide_pair part pair ≡ beside v a) → IsState large v × Exec large v a
        by_pair ((w, i), d, e) =
            let row = rows w i d in
            let at : IsState large (part.widened w) =
            record { vector = ok.wide w row.0.vector; inside = ok.inside w row.0.vector ∙ row.0.inside }
            in
            subst (λ (pair : Vector × ℕ). IsState large pair.0 × Exec large pair.0 pair.1) e
            (at, executable_up w i (get_or part.actions i 0) row.0.vector (wide_to w i d) row.1)

  module _ (wider : Table) (rows : IsTable large wider) where
    is_listed : (a i : ℕ) → is_action_at part a i ≡ true → IsActionAt part i a
    is_listed a i h = by_found (slice_get part.actions i) refl h
      where
        by_found : (found : Option ℕ) → slice_get part.actions i ≡ found → option_map_or (λ b. eqb b a) found false ≡ true → IsActionAt part i a
        by_found None e k = absurd (false≢true k)
        by_found (Some b) e k = e ∙ ap Some (eqb-true b a k)

    is_numbered : (a i : ℕ) → IsActionAt part i a → is_action_at part a i ≡ true
    is_numbered a i at = ap (λ found. option_map_or (λ b. eqb b a) found false) at ∙ eq-eqb a a refl

    -- a pair over the smaller system is one of the table
    record Came (w : Vector) (i : ℕ) : Type 0 where
      pub action : ℕ
      pub at : IsActionAt part i action
      pub vector : IsVector small w
      pub pair : Contains wider (part.widened w, action)

    came : (w : Vector) (i : ℕ) → Contains (narrow_table part wider) (w, i) → Came w i
    came w i c = by_pair (Contains-flat_map-witness (narrow_pairs part) wider (beside w i) c)
      where
        by_pair : (pair : Vector × ℕ) × Contains wider pair × Contains (narrow_pairs part pair) (beside w i) → Came w i
        by_pair ((v, a), d, k) = by_same (same_vector (part.widened (part.narrowed v)) v) refl k
          where
            numbers : List ℕ
            numbers = filter (is_action_at part a) (range_with_len 0 (length part.actions))

            by_number : part.widened (part.narrowed v) ≡ v → (j : ℕ) × Contains numbers j × (beside (part.narrowed v) j ≡ beside w i) → Came w i
            by_number is (j, m, e) =
                let at : IsActionAt part j a = is_listed a j (Contains-filter-witness (is_action_at part a) (range_with_len 0 (length part.actions)) j m).1 in
                subst (λ (pair : Vector × ℕ). Came pair.0 pair.1) e
                (record { action = a; at = at; vector = ok.narrow v; pair = subst (λ u. Contains wider (u, a)) (sym is) d })

            by_same : (b : Bool) → same_vector (part.widened (part.narrowed v)) v ≡ b → Contains (cond b (map (beside (part.narrowed v)) numbers) []) (beside w i) → Came w i
            by_same false e m = absurd (Contains-nil (beside w i) m)
            by_same true e m = by_number (same_vector_equal (part.widened (part.narrowed v)) v e) (Contains-map-witness (beside (part.narrowed v)) numbers (beside w i) m)

    goes : (w : Vector) (i a : ℕ) → IsVector small w → IsActionAt part i a → Contains wider (part.widened w, a) → Contains (narrow_table part wider) (w, i)
    goes w i a h at c =
        Contains-flat_map (narrow_pairs part) wider (beside (part.widened w) a) (beside w i) c
        (subst (λ b. Contains (cond b (map (beside (part.narrowed (part.widened w))) numbers) []) (beside w i)) (sym same)
        (subst (λ u. Contains (map (beside u) numbers) (beside w i)) (sym (ok.back w h))
        (Contains-map (beside w) numbers i
        (Contains-filter (is_action_at part a) (range_with_len 0 (length part.actions)) i
        (Contains-range_with_len (length part.actions) i (slice_get_within part.actions i a at)) (is_numbered a i at)))))
      where
        numbers : List ℕ
        numbers = filter (is_action_at part a) (range_with_len 0 (length part.actions))

        same : same_vector (part.widened (part.narrowed (part.widened w))) (part.widened w) ≡ true
        same = subst (λ u. same_vector (part.widened u) (part.widened w) ≡ true) (sym (ok.back w h)) (same_vector_refl (part.widened w))

    narrow_carried : IsCarried small part (narrow_table part wider) wider
    narrow_carried = record {
      to = λ w i h c. let at = came w i c in (at.action, at.at, at.pair);
      from = λ w a h c.
          let i = listed a (ok.others w a h (rows (part.widened w) a c).1) in
          (i.0, i.1, goes w i.0 a h i.1 c);
    }

    narrow_rows : IsTable small (narrow_table part wider)
    narrow_rows w i c =
        let at = came w i c in
        let row = rows (part.widened w) at.action at.pair in
        (record { vector = at.vector; inside = sym (ok.inside w at.vector) ∙ row.0.inside }, executable_down w i at.action at.vector at.at row.1)

  none_up : (class : Class) → HasNoSolution class small → HasNoSolution class large
  none_up class none wider rows solves =
      none (narrow_table part wider) (narrow_rows wider rows)
      ((solution_over large small part ok (narrow_table part wider) wider (narrow_carried wider rows) class).1 solves)

  none_down : (class : Class) → HasNoSolution class large → HasNoSolution class small
  none_down class none narrow rows solves =
      none (wide_table part narrow) (wide_rows narrow rows)
      ((solution_over large small part ok narrow (wide_table part narrow) (wide_carried narrow rows) class).0 solves)

pub tables_over : TablesAreCarried
tables_over = record {
  wider = λ large small part narrow ok rows. (wide_rows large small part ok narrow rows, wide_carried large small part ok narrow rows);
  narrower = λ large small part wider ok rows. (narrow_rows large small part ok wider rows, narrow_carried large small part ok wider rows);
}

pub none_over : NoneCarriesOver
none_over class large small part ok = (none_up large small part ok class, none_down large small part ok class)
