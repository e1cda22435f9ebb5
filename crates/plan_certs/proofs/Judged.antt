-- The first sets of a certificate, as the program holds them.
use Rattle.std.proofs.Common.{◌≡◌, ℕ, suc, ◌+◌, Bool, true, false, ◌||◌, List, take, map, sym, ap, subst, ◌∙◌, arith}
use Rattle.std.specs.List.{list_all, list_any}
use Rattle.std.proofs.lemmas.Bool.{or_left}
use Rattle.std.proofs.lemmas.List.{take-map}
use Rattle.std.proofs.lemmas.List.Elements.{All-take}
use Rattle.task_core.specs.Vectors.{Vector}
use Rattle.task_core.specs.declared.classes.Class.{Class}
use Rattle.task_core.specs.declared.classes.Class.TheVariants.{Cyclic}
use Rattle.plan_certs.specs.Certificates.{CubeSet, is_no_way_out, some_holds}
use Rattle.plan_certs.specs.Named.{AreSetsOf, IsSetOf, set_of}
use Rattle.plan_certs.specs.declared.certificates.StateSet.{StateSet}

pub first_sets : (n i : ℕ) (sets ys : List StateSet) → ys ≡ sets → AreSetsOf n (map set_of sets) → AreSetsOf n (map set_of (take i ys))
first_sets n i sets ys e all =
    subst (λ (zs : List StateSet). AreSetsOf n (map set_of (take i zs))) (sym e)
    (subst (λ (zs : List CubeSet). AreSetsOf n zs) (take-map set_of i sets) (All-take (IsSetOf n) i (map set_of sets) all))

taken : (i : ℕ) (sets ys : List StateSet) → ys ≡ sets → take i (map set_of sets) ≡ map set_of (take i ys)
taken i sets ys e = take-map set_of i sets ∙ ap (λ (zs : List StateSet). map set_of (take i zs)) (sym e)

-- cyclic: some of the states lies in an earlier set
pub cyclic-earlier : (class : Class) (sets ys : List StateSet) (i : ℕ) (next : List Vector) (b : Bool) → class ≡ Cyclic → ys ≡ sets → b ≡ list_any (some_holds (map set_of (take i ys))) next → b ≡ true
    → b ≡ is_no_way_out class (map set_of sets) i next
cyclic-earlier class sets ys i next b class_is e is t =
    let some : list_any (some_holds (take i (map set_of sets))) next ≡ true = ap (λ (zs : List CubeSet). list_any (some_holds zs) next) (taken i sets ys e) ∙ (sym is ∙ t) in
    t ∙ sym (ap (λ k. is_no_way_out k (map set_of sets) i next) class_is ∙ or_left (list_any (some_holds (take i (map set_of sets))) next) (list_all (some_holds (take (suc i) (map set_of sets))) next) some)

-- or none does: then it is asked whether all lie in this set or an earlier one
pub cyclic-not_earlier : (class : Class) (sets ys : List StateSet) (i : ℕ) (next : List Vector) (b c : Bool) → class ≡ Cyclic → ys ≡ sets → b ≡ list_any (some_holds (map set_of (take i ys))) next → b ≡ false
    → c ≡ list_all (some_holds (map set_of (take (i + 1) ys))) next → c ≡ is_no_way_out class (map set_of sets) i next
cyclic-not_earlier class sets ys i next b c class_is e is f all =
    let none : list_any (some_holds (take i (map set_of sets))) next ≡ false = ap (λ (zs : List CubeSet). list_any (some_holds zs) next) (taken i sets ys e) ∙ (sym is ∙ f) in
    let more : i + 1 ≡ suc i = omega arith in
    let each : list_all (some_holds (take (suc i) (map set_of sets))) next ≡ c =
    ap (λ (zs : List CubeSet). list_all (some_holds zs) next) (taken (suc i) sets ys e) ∙ (ap (λ k. list_all (some_holds (map set_of (take k ys))) next) (sym more) ∙ sym all) in
    sym (ap (λ k. is_no_way_out k (map set_of sets) i next) class_is ∙ (ap (λ v. v || list_all (some_holds (take (suc i) (map set_of sets))) next) none ∙ each))
