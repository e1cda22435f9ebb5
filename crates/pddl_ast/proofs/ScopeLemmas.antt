-- The table of what names mean tells what a walk through the variables in scope tells.
use Rattle.std.proofs.Common.{◌≡◌, ℕ, Bool, true, false, cond, List, [], ◌∷◌, ◌++◌, length, reverse, refl, ap, sym, subst, ◌∙◌, true≢false, Some, None, Option, is_some, if◌then◌else◌}
use Rattle.std.specs.Option.{unwrap_or}
use Rattle.std.specs.Map.{set_value}
use Rattle.std.specs.Str.{bytes_eq}
use Rattle.std.specs.declared.vec.Vec.{Vec}
use Rattle.std.specs.declared.alloc.Global.{Global}
use Rattle.std.proofs.lemmas.List.{reverse-append, length-map, map-append}
use Rattle.std.proofs.lemmas.Slice.Eq.{bytes_eq-Decides}
use Rattle.indexmap.specs.IndexMap.{insert_entry}
use Rattle.indexmap.proofs.ReorderLemmas.{map-reverse}
use Rattle.pddl_ast.specs.Known.{number_from_inside, variable_number}
use Rattle.pddl_ast.specs.Scopes.{Table, table_entry, meaning, names_in, KnowHidden, Tells}
use Rattle.pddl_ast.specs.declared.scope.Variable.{Variable}
use Rattle.pddl_ast.proofs.NameLemmas.{variable_push, spelled}

same : (xs ys : List ℕ) → bytes_eq xs ys ≡ true → xs ≡ ys
same xs ys h = (bytes_eq-Decides xs ys).0 h

-- a name that is spelled as a key is not spelled as a name that is not
other : (name changed key : List ℕ) → bytes_eq changed key ≡ false → bytes_eq name key ≡ true → bytes_eq name changed ≡ false
other name changed key differs h = by (bytes_eq name changed) refl
  where
    by : (b : Bool) → bytes_eq name changed ≡ b → bytes_eq name changed ≡ false
    by false e = e
    by true e = absurd (true≢false (sym h ∙ (ap (λ w. bytes_eq w key) (same name changed e) ∙ differs)))

some_not_none : {A : Type 0} (x : A) → Some x ≡ None → ⊥
some_not_none x h = true≢false (ap is_some h)

pub is_none : {A : Type 0} (x : Option A) → is_some x ≡ false → x ≡ None
is_none None h = refl
is_none (Some x) h = absurd (true≢false h)

-- a written value is read again, and no other name means anything else
pub table_set : (name changed : List ℕ) (t : Table) (w : Option ℕ) → is_some (table_entry t changed) ≡ true
    → meaning (set_value (spelled changed) t w) name ≡ (if bytes_eq name changed then w else meaning t name)
table_set name changed [] w room = absurd (true≢false (sym room))
table_set name changed (e ∷ t) w room = by (table_set name changed t w) (bytes_eq changed e.0.items) refl
  where
    after : Table
    after = set_value (spelled changed) t w

    pick : (q : Bool) → unwrap_or (cond q (Some w) (table_entry t name)) None
        ≡ (if q then w else unwrap_or (cond q (Some e.1) (table_entry t name)) None)
    pick true = refl
    pick false = refl

    rest : (q : Bool) → bytes_eq name e.0.items ≡ q → bytes_eq changed e.0.items ≡ false
        → meaning after name ≡ (if bytes_eq name changed then w else meaning t name)
        → unwrap_or (cond q (Some e.1) (table_entry after name)) None
        ≡ (if bytes_eq name changed then w else unwrap_or (cond q (Some e.1) (table_entry t name)) None)
    rest true h differs known = sym (ap (λ r. if r then w else e.1) (other name changed e.0.items differs h))
    rest false h differs known = known

    by : (is_some (table_entry t changed) ≡ true → meaning after name ≡ (if bytes_eq name changed then w else meaning t name))
        → (p : Bool) → bytes_eq changed e.0.items ≡ p
        → meaning (set_value (spelled changed) (e ∷ t) w) name ≡ (if bytes_eq name changed then w else meaning (e ∷ t) name)
    by again true h =
        ap (λ p. meaning (cond p ((e.0, w) ∷ t) (e ∷ after)) name) h
        ∙ (pick (bytes_eq name e.0.items)
        ∙ ap (λ r. if r then w else meaning (e ∷ t) name) (ap (bytes_eq name) (sym (same changed e.0.items h))))
    by again false h =
        ap (λ p. meaning (cond p ((e.0, w) ∷ t) (e ∷ after)) name) h
        ∙ rest (bytes_eq name e.0.items) refl h
        (again (sym (ap (λ p. is_some (cond p (Some e.1) (table_entry t changed))) h) ∙ room))

-- a new name that means nothing changes no meaning
pub table_grow : (name : List ℕ) (k : Vec ℕ Global) (t : Table) → table_entry t k.items ≡ None
    → meaning (insert_entry (λ (x y : Vec ℕ Global). bytes_eq x.items y.items) t k None) name ≡ meaning t name
table_grow name k [] none = pick (bytes_eq name k.items)
  where
    nothing_yet : Option (Option ℕ)
    nothing_yet = None

    unknown : Option ℕ
    unknown = None

    pick : (q : Bool) → unwrap_or (cond q (Some unknown) nothing_yet) unknown ≡ unknown
    pick true = refl
    pick false = refl
table_grow name k (e ∷ t) none = by (table_grow name k t) (bytes_eq k.items e.0.items) refl
  where
    after : Table
    after = insert_entry (λ (x y : Vec ℕ Global). bytes_eq x.items y.items) t k None

    rest : (q : Bool) → meaning after name ≡ meaning t name
        → unwrap_or (cond q (Some e.1) (table_entry after name)) None ≡ unwrap_or (cond q (Some e.1) (table_entry t name)) None
    rest true known = refl
    rest false known = known

    by : (table_entry t k.items ≡ None → meaning after name ≡ meaning t name)
        → (p : Bool) → bytes_eq k.items e.0.items ≡ p
        → meaning (insert_entry (λ (x y : Vec ℕ Global). bytes_eq x.items y.items) (e ∷ t) k None) name ≡ meaning (e ∷ t) name
    by again true h = absurd (some_not_none e.1 (sym (ap (λ p. cond p (Some e.1) (table_entry t k.items)) h) ∙ none))
    by again false h =
        ap (λ p. meaning (if p then (e.0, None) ∷ t else e ∷ after) name) h
        ∙ rest (bytes_eq name e.0.items)
        (again (sym (ap (λ p. cond p (Some e.1) (table_entry t k.items)) h) ∙ none))

-- from the inside and from the outside
turned : (vs : List Variable) (name : List ℕ)
    → variable_number (names_in vs) name ≡ number_from_inside (names_in (reverse vs)) name
turned vs name = ap (λ l. number_from_inside l name) (sym (map-reverse (λ (v : Variable). v.name) vs))

pushed : (vs : List Variable) (v : Variable) (name : List ℕ)
    → variable_number (names_in (vs ++ v ∷ [])) name
    ≡ (if bytes_eq name v.name then Some (length vs) else variable_number (names_in vs) name)
pushed vs v name =
    ap (λ l. variable_number l name) (map-append (λ (w : Variable). w.name) vs (v ∷ []))
    ∙ (variable_push (names_in vs) v.name name
    ∙ ap (λ n. if bytes_eq name v.name then Some n else variable_number (names_in vs) name) (length-map vs (λ (w : Variable). w.name)))

-- one more variable
pub enter_tells : (vs : List Variable) (t roomy after : Table) (v : Variable) → Tells vs t
    → ((name : List ℕ) → meaning roomy name ≡ meaning t name)
    → v.hidden ≡ meaning roomy v.name
    → ((name : List ℕ) → meaning after name ≡ (if bytes_eq name v.name then Some (length vs) else meaning roomy name))
    → Tells (vs ++ v ∷ []) after
enter_tells vs t roomy after v before stays hides sets = record {
  hidden = subst KnowHidden (sym (reverse-append vs (v ∷ [])))
      (hides ∙ (stays v.name ∙ (before.means v.name ∙ turned vs v.name)), before.hidden);
  means = λ name. sets name
      ∙ (ap (λ n. if bytes_eq name v.name then Some (length vs) else n) (stays name ∙ before.means name)
      ∙ sym (pushed vs v name));
}

-- the innermost variable has an entry
pub leave_room : (vs : List Variable) (v : Variable) (t : Table) → Tells (vs ++ v ∷ []) t → is_some (table_entry t v.name) ≡ true
leave_room vs v t before = by (table_entry t v.name)
    (before.means v.name ∙ (pushed vs v v.name
    ∙ ap (λ b. if b then Some (length vs) else variable_number (names_in vs) v.name) ((bytes_eq-Decides v.name v.name).1 refl)))
  where
    by : (x : Option (Option ℕ)) → unwrap_or x None ≡ Some (length vs) → is_some x ≡ true
    by None h = absurd (some_not_none (length vs) (sym h))
    by (Some x) h = refl

-- and one variable fewer
pub leave_tells : (vs : List Variable) (v : Variable) (t after : Table) → Tells (vs ++ v ∷ []) t
    → ((name : List ℕ) → meaning after name ≡ (if bytes_eq name v.name then v.hidden else meaning t name))
    → Tells vs after
leave_tells vs v t after before sets = record {
  hidden = known.1;
  means = λ name. by name (bytes_eq name v.name) refl;
}
  where
    known : KnowHidden (v ∷ reverse vs)
    known = subst KnowHidden (reverse-append vs (v ∷ [])) before.hidden

    by : (name : List ℕ) (b : Bool) → bytes_eq name v.name ≡ b → meaning after name ≡ variable_number (names_in vs) name
    by name true h =
        sets name ∙ (ap (λ b. if b then v.hidden else meaning t name) h
        ∙ (known.0 ∙ (sym (turned vs v.name) ∙ ap (variable_number (names_in vs)) (sym (same name v.name h)))))
    by name false h =
        sets name ∙ (ap (λ b. if b then v.hidden else meaning t name) h
        ∙ (before.means name ∙ (pushed vs v name
        ∙ ap (λ b. if b then Some (length vs) else variable_number (names_in vs) name) h)))
