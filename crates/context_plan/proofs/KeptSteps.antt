-- Where a condition can be kept for ever: the same among all lists of truth values and among the
-- states.
use Rattle.std.proofs.Common.{◌≡◌, ℕ, zero, suc, ◌^◌, Bool, true, false, ◌&&◌, refl, ap, ◌∙◌, arith}
use Rattle.std.specs.List.{list_all, list_any}
use Rattle.std.proofs.lemmas.Bool.{and_parts}
use Rattle.plan_theory.specs.Layers.{action_numbers, may_lead, must_lead}
use Rattle.plan_theory.specs.Safe.{safe_round, safe_set, some_must_lead}
use Rattle.plan_theory.proofs.SafeSets.{rounds_shrink}
use Rattle.plan_theory.proofs.Weak.{HasOutcome-Exec}
use Rattle.list_laws.proofs.Booleans.{and_assoc}
use Rattle.list_laws.proofs.Elements.{list_all-agree, list_any-agree, list_any-witness}
use Rattle.list_laws.proofs.Numbers.{below_power}
use Rattle.task_core.specs.Cubes.{SetOfVectors}
use Rattle.task_core.specs.Systems.{HasOutcome, IsSystem, System}
use Rattle.task_core.specs.Vectors.{Vector}
use Rattle.context_plan.specs.WorkingSets.{kept_states}

from_true : (a b : Bool) → (b ≡ true → a ≡ true) → (a && b) ≡ b
from_true true b up = refl
from_true false true up = up refl
from_true false false up = refl

module _ (sys : System) (ok : IsSystem sys) (keep : SetOfVectors) where
  -- an action leads into a set where it leads into the states of the set
  leads_kept : (f g : SetOfVectors) → ((t : Vector) → f t ≡ (sys.in_space t && g t)) → (v : Vector) (a : ℕ) → must_lead sys f v a ≡ must_lead sys g v a
  leads_kept f g same v a =
      let each : (t : Vector) → HasOutcome sys v a t → f t ≡ g t = λ t o. same t ∙ ap (λ b. b && g t) (ok.next v a t o).inside in
      ap (λ b. b && list_all f (sys.next v a)) (list_any-agree f g (sys.next v a) each)
      ∙ ap (λ b. list_any g (sys.next v a) && b) (list_all-agree f g (sys.next v a) each)

  pub kept_rounds : (k : ℕ) (v : Vector) → safe_round sys (kept_states sys keep) k v ≡ (sys.in_space v && safe_round sys keep k v)
  kept_rounds zero v = refl
  kept_rounds (suc k) v =
      let f = safe_round sys (kept_states sys keep) k in
      let g = safe_round sys keep k in
      let some : some_must_lead sys f v ≡ some_must_lead sys g v = list_any-agree (must_lead sys f v) (must_lead sys g v) (action_numbers sys) (λ a c. leads_kept f g (kept_rounds k) v a) in
      ap (λ b. b && some_must_lead sys f v) (kept_rounds k v)
      ∙ ap (λ b. (sys.in_space v && g v) && b) some
      ∙ and_assoc (sys.in_space v) (g v) (some_must_lead sys g v)

  safe_inside : (v : Vector) → safe_set sys keep v ≡ true → sys.in_space v ≡ true
  safe_inside v h =
      let one : safe_round sys keep 1 v ≡ true = rounds_shrink sys keep v 1 (2 ^ sys.fluents) (let p = below_power sys.fluents in omega arith) h in
      let some : some_must_lead sys keep v ≡ true = (and_parts (keep v) (some_must_lead sys keep v) one).1 in
      let w = list_any-witness (must_lead sys keep v) (action_numbers sys) some in
      let may : may_lead sys keep v w.0 ≡ true = (and_parts (may_lead sys keep v w.0) (list_all keep (sys.next v w.0)) w.2).0 in
      let t = list_any-witness keep (sys.next v w.0) may in
      ok.inside v w.0 (HasOutcome-Exec sys v w.0 t.0 t.1)

  pub safe_kept : (v : Vector) → safe_set sys (kept_states sys keep) v ≡ safe_set sys keep v
  safe_kept v = kept_rounds (2 ^ sys.fluents) v ∙ from_true (sys.in_space v) (safe_set sys keep v) (safe_inside v)
