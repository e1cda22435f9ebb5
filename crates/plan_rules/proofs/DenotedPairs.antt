-- Whether an action can be executed, and the table that rules denote, pair by pair.
use Rattle.std.proofs.Common.{◌≡◌, ◌≢◌, ◌↔◌, ℕ, ◌<◌, IsTrue, Bool, true, false, not, List, [], ◌∷◌, refl, sym, ap, ◌∙◌, subst}
use Rattle.std.specs.Prelude.{◌&&◌}
use Rattle.std.specs.List.{Contains, list_any, filter, range_with_len}
use Rattle.std.proofs.lemmas.Bool.{false≢true, and_parts, and_from}
use Rattle.task_core.specs.Vectors.{Vector, all_vectors}
use Rattle.task_core.specs.Systems.{System, IsSystem, IsVector, Exec, HasOutcome}
use Rattle.task_core.specs.Tables.{IsTable}
use Rattle.task_core.proofs.Vectors.{all_vectors_length, all_vectors_has}
use Rattle.plan_rules.specs.Rules.{PlanRule}
use Rattle.plan_rules.specs.Denoted.{can_execute, advises, denoted_at, denoted}
use Rattle.list_laws.proofs.Elements.{Contains-filter, Contains-filter-witness, Contains-flat_map, Contains-flat_map-witness, Contains-map, Contains-map-witness, Contains-range_with_len, Contains-range_with_len-below, list_any-from}

pub can_execute-Exec : (sys : System) (s : Vector) (a : ℕ) → can_execute sys s a ≡ true → Exec sys s a
can_execute-Exec sys s a h e = false≢true (ap (λ ts. list_any (λ (t : Vector). true) ts) (sym e) ∙ h)

pub can_execute-outcome : (sys : System) (s : Vector) (a : ℕ) (t : Vector) → HasOutcome sys s a t → can_execute sys s a ≡ true
can_execute-outcome sys s a t o = list_any-from (λ (t : Vector). true) (sys.next s a) t o refl

pub Exec-can_execute : (sys : System) (s : Vector) (a : ℕ) → Exec sys s a → can_execute sys s a ≡ true
Exec-can_execute sys s a exec = some (sys.next s a) exec
  where
    some : (ts : List Vector) → (ts ≡ [] → ⊥) → list_any (λ (t : Vector). true) ts ≡ true
    some [] h = absurd (h refl)
    some (t ∷ ts) h = refl

pub refused-cannot : (sys : System) (s : Vector) (a : ℕ) → not (can_execute sys s a) ≡ true → Exec sys s a → ⊥
refused-cannot sys s a e exec = false≢true (ap not (sym (Exec-can_execute sys s a exec)) ∙ e)

pub cannot-refused : (sys : System) (s : Vector) (a : ℕ) → (Exec sys s a → ⊥) → not (can_execute sys s a) ≡ true
cannot-refused sys s a never = go (can_execute sys s a) refl
  where
    go : (b : Bool) → can_execute sys s a ≡ b → not b ≡ true
    go true e = absurd (never (can_execute-Exec sys s a e))
    go false e = refl

-- what makes (s, a) a pair of the table
pub record IsDenoted (sys : System) (rules : List PlanRule) (s : Vector) (a : ℕ) : Type 0 where
  pub vector : IsVector sys s
  pub below : a < sys.actions
  pub advised : advises rules s a ≡ true
  pub executable : can_execute sys s a ≡ true

pub denoted-from : (sys : System) (rules : List PlanRule) (s : Vector) (a : ℕ) → IsDenoted sys rules s a → Contains (denoted sys rules) (s, a)
denoted-from sys rules s a d = Contains-flat_map (denoted_at sys rules) (all_vectors sys.fluents) s (s, a) (all_vectors_has sys.fluents s d.vector)
    (Contains-map (λ b. (s, b)) (filter (λ b. advises rules s b && can_execute sys s b) (range_with_len 0 sys.actions)) a
    (Contains-filter (λ b. advises rules s b && can_execute sys s b) (range_with_len 0 sys.actions) a (Contains-range_with_len sys.actions a d.below) (and_from (advises rules s a) (can_execute sys s a) d.advised d.executable)))

pub denoted-pair : (sys : System) (rules : List PlanRule) (s : Vector) (a : ℕ) → Contains (denoted sys rules) (s, a) → IsDenoted sys rules s a
denoted-pair sys rules s a c =
    let at = Contains-flat_map-witness (denoted_at sys rules) (all_vectors sys.fluents) (s, a) c in
    let v = at.0 in
    let test = λ (b : ℕ). advises rules v b && can_execute sys v b in
    let pair = Contains-map-witness (λ b. (v, b)) (filter test (range_with_len 0 sys.actions)) (s, a) at.2 in
    let b = pair.0 in
    let passes = Contains-filter-witness test (range_with_len 0 sys.actions) b pair.1 in
    let both = and_parts (advises rules v b) (can_execute sys v b) passes.1 in
    let here : IsDenoted sys rules v b = record { vector = all_vectors_length sys.fluents v at.1; below = Contains-range_with_len-below sys.actions b passes.0; advised = both.0; executable = both.1 } in
    subst (λ (p : Vector × ℕ). IsDenoted sys rules p.0 p.1) pair.2 here

-- whatever the rules, what they denote is a table
pub denoted-table : (sys : System) → IsSystem sys → (rules : List PlanRule) → IsTable sys (denoted sys rules)
denoted-table sys ok rules s a c =
    let d = denoted-pair sys rules s a c in
    let executable = can_execute-Exec sys s a d.executable in
    (record { vector = d.vector; inside = ok.inside s a executable }, executable)

-- what tells whether an action can be executed
some_next : (b : Bool) (ts : List Vector) → (IsTrue b ↔ (ts ≢ [])) → list_any (λ (t : Vector). true) ts ≡ b
some_next true [] h = absurd (h.0 refl refl)
some_next false [] h = refl
some_next true (t ∷ ts) h = refl
some_next false (t ∷ ts) h = sym (h.1 (λ e. cc))

pub executes : (sys : System) (s : Vector) (a : ℕ) (b : Bool) → (IsTrue b ↔ Exec sys s a) → can_execute sys s a ≡ b
executes sys s a b h = some_next b (sys.next s a) h
