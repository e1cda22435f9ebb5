-- What is said of a whole text, from what is said of its forms.
use Rattle.std.proofs.Common.{◌≡◌, ℕ, ◌+◌, Bool, true, false, List, [], ◌∷◌, length, codes, refl, ap, sym, subst, ◌∙◌, inr, arith}
use Rattle.std.specs.Prelude.{Option, Some, None, unwrap_or, if◌then◌else◌, Result, Ok, Err, IfOk, IfErr}
use Rattle.std.specs.Option.{option_map, option_map_or}
use Rattle.std.proofs.lemmas.List.{length-map}
use Rattle.sexpr_text.specs.declared.faults.FaultKind.TheVariants.{BadForm}
use Rattle.sexpr_text.specs.declared.faults.ReadErr.{ReadErr}
use Rattle.sexpr_text.specs.declared.faults.ReadErr.TheVariants.{Fault, Memory}
use Rattle.sexpr_text.specs.declared.forms.Form.{Form}
use Rattle.sexpr_text.specs.declared.forms.Place.{Place}
use Rattle.sexpr_text.specs.declared.forms.Span.{Span}
use Rattle.sexpr_text.specs.Flaws.{Flaw, flaw_at, first_listed, fault_of_passes}
use Rattle.sexpr_text.specs.Forest.{Forest, nothing, word, group, forest_of}
use Rattle.sexpr_text.specs.Formed.{IsRising}
use Rattle.sexpr_text.specs.Parts.{after_first, after_word, each_group, flaws_of_groups, is_nothing}
use Rattle.sexpr_text.specs.Passes.{IfFault}
use Rattle.sexpr_text.specs.Spelling.{SpellsTrees}
use Rattle.sexpr_text.proofs.FlawLaws.{passes-none, passes-end, passes-first}
use Rattle.task_core.specs.Names.{Name, name_bytes}
use Rattle.task_core.specs.Tasks.{fluent_names, fluent_count}
use Rattle.task_core.specs.declared.classes.Class.{Class}
use Rattle.task_core.specs.declared.classes.Class.TheVariants.{Weak, Strong, Cyclic}
use Rattle.task_core.specs.declared.tasks.Task.{Task}
use Rattle.plan_rules.specs.Items.{Item, first_item, item_span}
use Rattle.plan_rules.specs.Plans.{IsCubeOf}
use Rattle.plan_rules.specs.Readings.{class_named, cube_tree}
use Rattle.plan_certs.specs.Certificates.{PlainCertificate}
use Rattle.plan_certs.specs.Named.{IsCertificateOf, IsPlainCertificateOf, IsSetOf, MayHave, plain_certificate}
use Rattle.plan_certs.specs.Readings.{HasCertificateFault, SpellsCertificateAt, certificate_flaws, certificate_list, certificate_read, certificate_tree, has_sets, no_certificate, no_list, set_flaws, set_item_flaws, set_tree, sets_flaws, text_flaws}
use Rattle.plan_certs.specs.declared.certificates.CertificateRead.{CertificateRead}
use Rattle.plan_certs.proofs.CubeForms.{cube-in_task}
use Rattle.plan_certs.proofs.InOrder.{text_flaws-in_order}
use Rattle.list_laws.proofs.Options.{in_option}
use Rattle.plan_rules.proofs.InTask.{a_flaw, in_groups}
use Rattle.plan_certs.proofs.Spelled.{sets_of}

-- what is read where there are no flaws, along an option

set : (fluents : List Name) (span : Span) (parts : Forest) → set_flaws fluents span parts ≡ [] → IsSetOf (length fluents) (set_tree fluents parts)
set fluents span parts h =
    in_option (IsSetOf (length fluents)) (flaws_of_groups (set_item_flaws fluents)) (each_group (cube_tree fluents)) (flaw_at span BadForm ∷ []) [] (after_word (codes "set") parts)
    (λ rest e. in_groups (IsCubeOf (length fluents)) (set_item_flaws fluents) (cube_tree fluents) (λ s cube f. cube-in_task fluents cube f) rest e)
    (a_flaw (flaw_at span BadForm)) h

-- the number of sets, where each form is one
number : {X : Type 0} (flaws : Span → Forest → List Flaw) (tree : Forest → X) (class : Class) (row : Forest) → flaws_of_groups flaws row ≡ [] → has_sets class row ≡ true → MayHave class (length (each_group tree row))
number flaws tree class row none enough = by_class class row none enough
  where
    no_more : (rest : Forest) → is_nothing rest ≡ true → length (each_group tree rest) ≡ 0
    no_more nothing e = refl
    no_more (word span text rest) e = absurd (let none : ⊥ = cc in none)
    no_more (group span parts rest) e = absurd (let none : ⊥ = cc in none)

    single : (row : Forest) → flaws_of_groups flaws row ≡ [] → has_sets Weak row ≡ true → length (each_group tree row) ≡ 1
    single nothing none enough = absurd (let none : ⊥ = cc in none)
    single (word span text rest) none enough = absurd (let none : ⊥ = cc in none)
    single (group span parts rest) none enough = let e = no_more rest enough in omega arith

    by_class : (class : Class) (row : Forest) → flaws_of_groups flaws row ≡ [] → has_sets class row ≡ true → MayHave class (length (each_group tree row))
    by_class Weak row none enough = single row none enough
    by_class Strong row none enough = single row none enough
    by_class Cyclic nothing none enough = absurd (let none : ⊥ = cc in none)
    by_class Cyclic (word span text rest) none enough = absurd (let none : ⊥ = cc in none)
    by_class Cyclic (group span parts rest) none enough = omega arith

sets : (fluents : List Name) (span : Span) (class : Class) (row : Forest) → sets_flaws fluents span class row ≡ [] → IsPlainCertificateOf (length fluents) (sets_of class (each_group (set_tree fluents) row))
sets fluents span class row h = by_test (has_sets class row) refl h
  where
    by_test : (b : Bool) → has_sets class row ≡ b → (if b then flaws_of_groups (set_flaws fluents) row else flaw_at span BadForm ∷ []) ≡ [] → IsPlainCertificateOf (length fluents) (sets_of class (each_group (set_tree fluents) row))
    by_test true enough e = record {
      sets = in_groups (IsSetOf (length fluents)) (set_flaws fluents) (set_tree fluents) (set fluents) row e;
      number = number (set_flaws fluents) (set_tree fluents) class row e enough;
    }
    by_test false enough e = a_flaw (flaw_at span BadForm) e

certificate : (fluents : List Name) (span : Span) (row : Forest) → certificate_flaws fluents span row ≡ [] → IsPlainCertificateOf (length fluents) (certificate_tree fluents row)
certificate fluents span row h =
    in_option (IsPlainCertificateOf (length fluents))
    (λ (first : Item × Forest). option_map_or (λ class. sets_flaws fluents span class first.1) (class_named first.0) (flaw_at (item_span first.0) BadForm ∷ []))
    (λ (first : Item × Forest). sets_of (unwrap_or (class_named first.0) Weak) (each_group (set_tree fluents) first.1))
    (flaw_at span BadForm ∷ []) no_certificate (first_item row)
    (λ first e. by_class first (class_named first.0) e) (a_flaw (flaw_at span BadForm)) h
  where
    by_class : (first : Item × Forest) (o : Option Class) → option_map_or (λ class. sets_flaws fluents span class first.1) o (flaw_at (item_span first.0) BadForm ∷ []) ≡ []
        → IsPlainCertificateOf (length fluents) (sets_of (unwrap_or o Weak) (each_group (set_tree fluents) first.1))
    by_class first None e = a_flaw (flaw_at (item_span first.0) BadForm) e
    by_class first (Some class) e = sets fluents span class first.1 e

same_certificate : (p q : PlainCertificate) (a b : Place) (o : Option (PlainCertificate × Place)) → o ≡ Some (q, b) → o ≡ Some (p, a) → q ≡ p
same_certificate p q a b o e f = ap (λ (x : Option (PlainCertificate × Place)). (unwrap_or x (q, b)).0) (sym e ∙ f)

read-in_task : (fluents : List Name) (trees : Forest) (p : PlainCertificate) (place : Place) → text_flaws fluents trees ≡ [] → certificate_read fluents trees ≡ Some (p, place) → IsPlainCertificateOf (length fluents) p
read-in_task fluents trees p place h e = by_list (certificate_list trees) h e
  where
    by_list : (o : Option (Span × Forest)) → option_map_or (λ (found : Span × Forest). certificate_flaws fluents found.0 (after_first found.1)) o (no_list ∷ []) ≡ [] → option_map {U = PlainCertificate × Place} (λ (found : Span × Forest). (certificate_tree fluents (after_first found.1), found.0.place)) o ≡ Some (p, place) → IsPlainCertificateOf (length fluents) p
    by_list None f g = a_flaw no_list f
    by_list (Some found) f g =
        let same : certificate_tree fluents (after_first found.1) ≡ p =
        same_certificate p (certificate_tree fluents (after_first found.1)) place found.0.place (Some (certificate_tree fluents (after_first found.1), found.0.place)) refl g in
        subst (IsPlainCertificateOf (length fluents)) same (certificate fluents found.0 (after_first found.1) f)

-- what the readers of forms say
pub record IsReadFrom (fluents : List Name) (trees : Forest) (r : Result CertificateRead ReadErr) : Type 0 where
  pub sound : IfOk r (λ _. text_flaws fluents trees ≡ [])
  pub read : IfOk r (λ x. certificate_read fluents trees ≡ Some (plain_certificate x.certificate, x.place))
  pub fault : IfErr r (λ e. IfFault e (λ f. first_listed (text_flaws fluents trees) ≡ Some f))

pub whole-read : (fluents : List Name) (bytes : List ℕ) (trees : Forest) (r : Result CertificateRead ReadErr) → SpellsTrees bytes trees → IsReadFrom fluents trees r
    → IfOk r (λ x. SpellsCertificateAt fluents bytes (plain_certificate x.certificate) x.place)
whole-read fluents bytes trees (Err e) s h = tt
whole-read fluents bytes trees (Ok x) s h =
    (trees, s, ap (λ flaws. fault_of_passes (flaws ∷ [])) h.sound ∙ (passes-none [] ∙ passes-end), h.read)

whole-in_task : (fluents : List Name) (trees : Forest) (r : Result CertificateRead ReadErr) → IsReadFrom fluents trees r
    → IfOk r (λ x. IsPlainCertificateOf (length fluents) (plain_certificate x.certificate))
whole-in_task fluents trees (Err e) h = tt
whole-in_task fluents trees (Ok x) h = read-in_task fluents trees (plain_certificate x.certificate) x.place h.sound h.read

pub whole-fault : (fluents : List Name) (bytes : List ℕ) (size : ℕ) (trees : Forest) (r : Result CertificateRead ReadErr) → SpellsTrees bytes trees → IsRising 0 size trees → IsReadFrom fluents trees r
    → IfErr r (λ e. IfFault e (HasCertificateFault fluents bytes))
whole-fault fluents bytes size trees (Ok x) s g h = tt
whole-fault fluents bytes size trees (Err Memory) s g h = tt
whole-fault fluents bytes size trees (Err (Fault f)) s g h =
    inr (trees, s, passes-first 0 (size + 1) (text_flaws fluents trees) [] f (text_flaws-in_order fluents size trees g) h.fault)

-- the reader of a text's forms, with the names of a task
pub with_names : (fs gs : List Name) (xs ys : List Form) (r : Result CertificateRead ReadErr) → fs ≡ gs → xs ≡ ys
    → IsReadFrom fs (forest_of xs) r → IsReadFrom gs (forest_of ys) r
with_names fs gs xs ys r e g h =
    subst (λ (ns : List Name). IsReadFrom ns (forest_of ys) r) e
    (subst (λ (zs : List Form). IsReadFrom fs (forest_of zs) r) g h)

pub in_task : (task : Task) (xs : List Form) (r : Result CertificateRead ReadErr) → IsReadFrom (fluent_names task) (forest_of xs) r
    → IfOk r (λ x. IsCertificateOf (fluent_count task) x.certificate)
in_task task xs r h =
    subst (λ n. IfOk r (λ x. IsCertificateOf n x.certificate)) (length-map task.fluents.items name_bytes)
    (whole-in_task (fluent_names task) (forest_of xs) r h)
