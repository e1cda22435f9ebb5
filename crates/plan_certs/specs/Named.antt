-- The certificates as plain data, without where they lie in memory, and those that speak of the
-- fluents of a task.
use Rattle.std.specs.Prelude.{◌≡◌, ℕ, ◌≤◌, List, length, map, All, Vec}
use Rattle.std.specs.declared.alloc.Global.{Global}
use Rattle.task_core.specs.Cubes.{Cube}
use Rattle.task_core.specs.declared.classes.Class.{Class}
use Rattle.task_core.specs.declared.classes.Class.TheVariants.{Weak, Strong, Cyclic}
use Rattle.task_core.specs.declared.literals.Lit.{Lit}
use Rattle.plan_rules.specs.Plans.{IsCubeOf}
use Rattle.plan_certs.specs.Certificates.{CubeSet, PlainCertificate}
use Rattle.plan_certs.specs.declared.certificates.StateSet.{StateSet}
use Rattle.plan_certs.specs.declared.certificates.Certificate.{Certificate}

abbrev pub cube_of : Vec Lit Global → Cube
cube_of lits = lits.items

abbrev pub set_of : StateSet → CubeSet
set_of set = map cube_of set.cubes.items

abbrev pub plain_certificate : Certificate → PlainCertificate
plain_certificate certificate =
    record { class = certificate.class; sets = map set_of certificate.sets.items }

-- each fluent is among so many
abbrev pub IsSetOf : ℕ → CubeSet → Type 0
IsSetOf fluents set = All (IsCubeOf fluents) set

abbrev pub AreSetsOf : ℕ → List CubeSet → Type 0
AreSetsOf fluents sets = All (IsSetOf fluents) sets

-- a certificate of the class may have so many sets: a cyclic one at least one, and the others
-- exactly one
abbrev pub MayHave : Class → ℕ → Type 0
MayHave Weak n = n ≡ 1
MayHave Strong n = n ≡ 1
MayHave Cyclic n = 1 ≤ n

pub record IsPlainCertificateOf (fluents : ℕ) (certificate : PlainCertificate) : Type 0 where
  pub sets : AreSetsOf fluents certificate.sets
  pub number : MayHave certificate.class (length certificate.sets)

abbrev pub IsCertificateOf : ℕ → Certificate → Type 0
IsCertificateOf fluents certificate = IsPlainCertificateOf fluents (plain_certificate certificate)
