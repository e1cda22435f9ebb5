-- The certificate that a search finds is one over the task's fluents, of the class that is asked for.
use Rattle.std.proofs.Common.{◌≡◌, ◌≤◌, ℕ, true, List, [], ◌∷◌, length, map, subst, sym, ap, arith, Option, None, Some}
use Rattle.std.specs.List.{range_with_len}
use Rattle.std.specs.Prelude.{IfNone, IfOk, IfSome, Result, Ok, Err}
use Rattle.std.proofs.lemmas.Bool.{false≢true}
use Rattle.std.proofs.lemmas.List.Elements.{All-cons, All-nil}
use Rattle.cyclic_plan.specs.Certificates.{HasSolution as HasCyclicSolution}
use Rattle.dd_sets.specs.declared.errors.SetErr.{SetErr}
use Rattle.plan_certs.proofs.PrintedLemmas.{printed_accepted}
use Rattle.plan_certs.specs.Certificates.{CubeSet, PlainCertificate, some_holds}
use Rattle.plan_certs.specs.Named.{AreSetsOf, IsCertificateOf, IsSetOf, MayHave, plain_certificate}
use Rattle.plan_certs.specs.Printed.{IsPrinted, lost_set, set_cubes}
use Rattle.plan_certs.specs.declared.certificates.Certificate.{Certificate}
use Rattle.plan_theory.proofs.PrintedWithin.{cubes_below}
use Rattle.reach_plan.specs.Certs.{HasSolution as HasLayerSolution}
use Rattle.task_core.proofs.TaskSystem.{is_system}
use Rattle.task_core.specs.Solutions.{HasNoSolution}
use Rattle.task_core.specs.Tasks.{fluent_count, system_of}
use Rattle.task_core.specs.Vectors.{Vector}
use Rattle.task_core.specs.declared.classes.Class.{Class}
use Rattle.task_core.specs.declared.classes.Class.TheVariants.{Cyclic}
use Rattle.task_core.specs.declared.tasks.Task.{Task}
use Rattle.plan_command.specs.FoundPlans.{IsCertified}

all_mapped : (m : ℕ) (f : ℕ → CubeSet) (xs : List ℕ) → ((k : ℕ) → IsSetOf m (f k)) → AreSetsOf m (map f xs)
all_mapped m f [] each = All-nil (IsSetOf m)
all_mapped m f (x ∷ xs) each = All-cons (IsSetOf m) (f x) (map f xs) (each x) (all_mapped m f xs each)

-- sets of which one holds a state are some
some_sets : (sets : List CubeSet) (v : Vector) → some_holds sets v ≡ true → 1 ≤ length sets
some_sets [] v held = absurd (false≢true held)
some_sets (set ∷ sets) v held = omega arith

-- a printed certificate that there is no strong cyclic plan
cyclic_in_task : (t : Task) (certificate : Certificate) → IsPrinted Cyclic (system_of t) (plain_certificate certificate) → HasNoSolution Cyclic (system_of t) → IsCertificateOf (fluent_count t) certificate
cyclic_in_task t certificate printed none =
    let sys = system_of t in
    let n = fluent_count t in
    let accepted = printed_accepted Cyclic sys (plain_certificate certificate) (is_system t) printed none in
    let some : 1 ≤ length (plain_certificate certificate).sets = some_sets (plain_certificate certificate).sets accepted.start accepted.initial.held in
    record {
      sets = subst (λ (c : PlainCertificate). AreSetsOf n c.sets) (sym printed.2)
          (all_mapped n (λ k. set_cubes sys (lost_set sys k)) (range_with_len 0 printed.0) (λ k. cubes_below 0 n n (lost_set sys k) (omega arith)));
      number = subst (λ (k : Class). MayHave k (length (plain_certificate certificate).sets)) (sym (ap (λ (c : PlainCertificate). c.class) printed.2)) some;
    }

-- what the makers of certificates answer
pub layers_certified : (class : Class) (t : Task) (r : Result (Option Certificate) SetErr)
    → IfOk r (λ found. IfSome found (λ certificate. IsPrinted class (system_of t) (plain_certificate certificate)))
    → IfOk r (λ found. IfSome found (λ certificate. IsCertificateOf (fluent_count t) certificate))
    → IfOk r (λ found. IfSome found (λ certificate. HasNoSolution class (system_of t)))
    → IfOk r (λ found. IfNone found (HasLayerSolution class (system_of t))) → IsCertified class t r
layers_certified class t (Ok (Some certificate)) printed in_task none some = record { printed = printed; in_task = in_task; none = none }
layers_certified class t (Ok None) printed in_task none some = record { rows = some.table; table = some.is_table; solves = some.solves }
layers_certified class t (Err e) printed in_task none some = tt

pub rounds_certified : (t : Task) (r : Result (Option Certificate) SetErr)
    → IfOk r (λ found. IfSome found (λ certificate. IsPrinted Cyclic (system_of t) (plain_certificate certificate)))
    → IfOk r (λ found. IfSome found (λ certificate. HasNoSolution Cyclic (system_of t)))
    → IfOk r (λ found. IfNone found (HasCyclicSolution (system_of t))) → IsCertified Cyclic t r
rounds_certified t (Ok (Some certificate)) printed none some = record { printed = printed; in_task = cyclic_in_task t certificate printed none; none = none }
rounds_certified t (Ok None) printed none some = record { rows = some.0; table = some.1; solves = some.2 }
rounds_certified t (Err e) printed none some = tt
