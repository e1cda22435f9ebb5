-- What is written of a certificate spells it, no text spells two certificates, and every text
-- spells one or has a fault.
use Rattle.std.proofs.Common.{◌≡◌, ℕ, ◌≤◌, ◌⊎◌, inl, inr, Bool, true, false, List, [], ◌∷◌, length, codes, refl, ap, sym, subst, ◌∙◌, arith}
use Rattle.std.specs.Prelude.{Option, Some, None, unwrap_or, if◌then◌else◌, Result, Ok, Err, IfOk, Vec, not}
use Rattle.std.specs.Option.{option_map, option_map_or}
use Rattle.std.specs.declared.alloc.Global.{Global}
use Rattle.std.specs.declared.alloc.AllocError.{AllocError}
use Rattle.std.proofs.lemmas.List.{length-map}
use Rattle.sexpr_text.specs.declared.faults.FaultKind.TheVariants.{BadForm}
use Rattle.sexpr_text.specs.declared.faults.InputFault.{InputFault}
use Rattle.sexpr_text.specs.declared.forms.Place.{Place}
use Rattle.sexpr_text.specs.declared.forms.Span.{Span}
use Rattle.sexpr_text.specs.Flaws.{Flaw, flaw_at, first_of, fault_of_passes}
use Rattle.sexpr_text.specs.Forest.{Forest, nothing, word, group}
use Rattle.sexpr_text.specs.Parts.{after_first, flaws_of_groups, each_group, is_nothing}
use Rattle.sexpr_text.specs.Rows as row
use Rattle.sexpr_text.specs.Rows.{Row, row_of}
use Rattle.sexpr_text.specs.Spelling.{SpellsTrees}
use Rattle.sexpr_text.proofs.FlawLaws.{passes-none, passes-end}
use Rattle.sexpr_text.proofs.OneAnswer.{spells_trees-unique}
use Rattle.sexpr_text.proofs.PassLaws.{answered, not_both}
use Rattle.task_core.specs.declared.classes.Class.{Class}
use Rattle.task_core.specs.declared.classes.Class.TheVariants.{Weak, Strong, Cyclic}
use Rattle.task_core.specs.declared.tasks.Task.{Task}
use Rattle.task_core.specs.Names.{Name, AreFluentNames, name_bytes}
use Rattle.task_core.specs.Tasks.{fluent_names, fluent_count}
use Rattle.plan_rules.specs.Items.{of_word}
use Rattle.plan_rules.specs.Plans.{IsCubeOf}
use Rattle.plan_rules.specs.Readings.{class_named, cube_tree}
use Rattle.plan_rules.specs.Texts.{class_word}
use Rattle.plan_rules.proofs.Pieces.{spelled_whole}
use Rattle.plan_rules.proofs.Printed.{groups, cube_row}
use Rattle.plan_rules.proofs.RowRead.{IsRead, first-word, first-group, groups-read}
use Rattle.plan_certs.specs.Certificates.{CubeSet, PlainCertificate}
use Rattle.plan_certs.specs.Named.{IsCertificateOf, IsPlainCertificateOf, IsSetOf, MayHave, plain_certificate}
use Rattle.plan_certs.specs.Readings as read
use Rattle.plan_certs.specs.Readings.{HasCertificateFault, SpellsPlain}
use Rattle.plan_certs.specs.Texts.{certificate_text}
use Rattle.plan_certs.specs.declared.certificates.Certificate.{Certificate}
use Rattle.plan_certs.proofs.CubeForms.{cube-read}
use Rattle.plan_certs.proofs.Written.{certificate_row, reads_certificate, set_row}

class-named : (span : Span) (class : Class) → class_named (of_word span (class_word class)) ≡ Some class
class-named span Weak = refl
class-named span Strong = refl
class-named span Cyclic = refl

set-read : (fluents : List Name) → AreFluentNames fluents → (set : CubeSet) → IsSetOf (length fluents) set → (span : Span) (parts : Forest) → row_of parts ≡ set_row fluents set
    → IsRead (read.set_flaws fluents span parts) (read.set_tree fluents parts) set
set-read fluents names set is span parts e =
    let first = first-word parts (codes "set") (groups (cube_row fluents) set) e in
    let cubes = groups-read (IsCubeOf (length fluents)) (cube_row fluents) (read.set_item_flaws fluents) (cube_tree fluents)
    (λ cube of inner f same. cube-read fluents names cube of f same) set is first.rest first.row in
    subst (λ (f : Forest). IsRead (read.set_flaws fluents span f) (read.set_tree fluents f) set) (sym first.is)
    (record { none = cubes.none; same = cubes.same })

-- how many sets there are is seen in the forms
has_sets-row : {X : Type 0} (g : X → Row) (class : Class) (xs : List X) (f : Forest) → MayHave class (length xs) → row_of f ≡ groups g xs → read.has_sets class f ≡ true
has_sets-row {X} g class xs f may e = by_class class may
  where
    single : (ys : List X) (h : Forest) → length ys ≡ 1 → row_of h ≡ groups g ys → read.is_single h ≡ true
    single [] h one same = absurd (omega arith)
    single (y ∷ []) h one same =
        let first = first-group h (g y) row.nil same in
        subst (λ (t : Forest). read.is_single t ≡ true) (sym first.is) (none first.rest first.row)
      where
        none : (t : Forest) → row_of t ≡ row.nil → is_nothing t ≡ true
        none nothing same = refl
        none (word span text rest) same = absurd (let none : ⊥ = cc in none)
        none (group span parts rest) same = absurd (let none : ⊥ = cc in none)
    single (y ∷ z ∷ ys) h one same = absurd (omega arith)

    some : (ys : List X) (h : Forest) → 1 ≤ length ys → row_of h ≡ groups g ys → not (is_nothing h) ≡ true
    some [] h one same = absurd (omega arith)
    some (y ∷ ys) h one same = let first = first-group h (g y) (groups g ys) same in subst (λ (t : Forest). not (is_nothing t) ≡ true) (sym first.is) refl

    by_class : (class : Class) → MayHave class (length xs) → read.has_sets class f ≡ true
    by_class Weak may = single xs f may e
    by_class Strong may = single xs f may e
    by_class Cyclic may = some xs f may e

-- a value that a test lets pass
sets-when : (b : Bool) (flaws others : List Flaw) → b ≡ true → flaws ≡ [] → (if b then flaws else others) ≡ []
sets-when true flaws others e h = h
sets-when false flaws others e h = absurd (let none : ⊥ = cc in none)

abbrev pub sets_of : Class → List CubeSet → PlainCertificate
sets_of class sets = record { class = class; sets = sets }

-- the row of a certificate's list after the word `certificate`
abbrev class_row : List Name → PlainCertificate → Row
class_row fluents c = row.word (class_word c.class) (groups (set_row fluents) c.sets)

certificate-read : (fluents : List Name) (c : PlainCertificate) → AreFluentNames fluents → IsPlainCertificateOf (length fluents) c → (span : Span) (f : Forest) → row_of f ≡ class_row fluents c
    → IsRead (read.certificate_flaws fluents span f) (read.certificate_tree fluents f) c
certificate-read fluents c names is span f e =
    let first = first-word f (class_word c.class) (groups (set_row fluents) c.sets) e in
    let lines = groups-read (IsSetOf (length fluents)) (set_row fluents) (read.set_flaws fluents) (read.set_tree fluents)
    (set-read fluents names) c.sets is.sets first.rest first.row in
    let enough = has_sets-row (set_row fluents) c.class c.sets first.rest is.number first.row in
    subst (λ (t : Forest). IsRead (read.certificate_flaws fluents span t) (read.certificate_tree fluents t) c) (sym first.is)
    (subst (λ (o : Option Class). IsRead (option_map_or (λ class. read.sets_flaws fluents span class first.rest) o (flaw_at first.span BadForm ∷ []))
    (sets_of (unwrap_or o Weak) (each_group (read.set_tree fluents) first.rest)) c) (sym (class-named first.span c.class))
    (record {
      none = sets-when (read.has_sets c.class first.rest) (flaws_of_groups (read.set_flaws fluents) first.rest) (flaw_at span BadForm ∷ []) enough lines.none;
      same = ap (sets_of c.class) lines.same;
    }))

-- a text whose forms are the list of a certificate
from-row : (fluents : List Name) (c : PlainCertificate) (b : List ℕ) (t : Forest) → AreFluentNames fluents → IsPlainCertificateOf (length fluents) c
    → SpellsTrees b t → row_of t ≡ row.group (certificate_row fluents c) row.nil → SpellsPlain fluents b c
from-row fluents c b t names is s e =
    let a = first-group t (certificate_row fluents c) row.nil e in
    let w = first-word a.parts (codes "certificate") (class_row fluents c) a.inner in
    let reading = certificate-read fluents c names is a.span w.rest w.row in
    let shape : t ≡ group a.span (word w.span (codes "certificate") w.rest) a.rest = a.is ∙ ap (λ (q : Forest). group a.span q a.rest) w.is in
    let none : read.text_flaws fluents t ≡ [] = ap (read.text_flaws fluents) shape ∙ reading.none in
    let same : read.certificate_read fluents t ≡ Some (c, a.span.place) =
    ap (read.certificate_read fluents) shape ∙ ap (λ (q : PlainCertificate). Some (q, a.span.place)) reading.same in
    (a.span.place, (t, s, ap (λ flaws. fault_of_passes (flaws ∷ [])) none ∙ (passes-none [] ∙ passes-end), same))

pub written_spells : (fluents : List Name) (c : PlainCertificate) → AreFluentNames fluents → IsPlainCertificateOf (length fluents) c → SpellsPlain fluents (certificate_text fluents c) c
written_spells fluents c names is =
    let text = certificate_text fluents c in
    let whole = spelled_whole text 5 (row.group (certificate_row fluents c) row.nil) (omega arith) (reads_certificate fluents c names.each is.sets) in
    from-row fluents c text whole.0 names is whole.1 whole.2

-- no text spells two certificates
same_read : (p q : PlainCertificate) (a b : Place) (o : Option (PlainCertificate × Place)) → o ≡ Some (p, a) → o ≡ Some (q, b) → p ≡ q
same_read p q a b o e f = ap (λ (x : Option (PlainCertificate × Place)). (unwrap_or x (p, a)).0) (sym e ∙ f)

pub one_certificate : (fluents : List Name) (bytes : List ℕ) (p q : PlainCertificate) → SpellsPlain fluents bytes p → SpellsPlain fluents bytes q → p ≡ q
one_certificate fluents bytes p q (a, (s, spelled, none, same)) (b, (t, spelled2, none2, same2)) =
    let trees : s ≡ t = spells_trees-unique bytes s t spelled spelled2 in
    same_read p q a b (read.certificate_read fluents s) same (ap (read.certificate_read fluents) trees ∙ same2)

-- every text spells a certificate or has a fault
by_list : (fluents : List Name) (o : Option (Span × Forest))
    → fault_of_passes (option_map_or (λ (found : Span × Forest). read.certificate_flaws fluents found.0 (after_first found.1)) o (read.no_list ∷ []) ∷ []) ≡ None
    → (c : PlainCertificate) × (place : Place) × (option_map {U = PlainCertificate × Place} (λ (found : Span × Forest). (read.certificate_tree fluents (after_first found.1), found.0.place)) o ≡ Some (c, place))
unfolding fault_of_passes first_of
by_list fluents None e = absurd (let none : ⊥ = cc in none)
by_list fluents (Some found) e = (read.certificate_tree fluents (after_first found.1), found.0.place, refl)

some_list : (fluents : List Name) (trees : Forest) → fault_of_passes (read.certificate_passes fluents trees) ≡ None → (c : PlainCertificate) × (place : Place) × (read.certificate_read fluents trees ≡ Some (c, place))
some_list fluents trees h = by_list fluents (read.certificate_list trees) h

pub certificate_or_fault : (fluents : List Name) (bytes : List ℕ) → ((c : PlainCertificate) × SpellsPlain fluents bytes c) ⊎ ((f : InputFault) × HasCertificateFault fluents bytes f)
certificate_or_fault fluents bytes = elim (answered (read.certificate_passes fluents) bytes) [
  | inl g ↦ (let found = some_list fluents g.0 g.1.sound in inl (found.0, (found.1, (g.0, g.1.spelled, g.1.sound, found.2))))
  | inr f ↦ inr f
]

pub certificate_no_fault : (fluents : List Name) (bytes : List ℕ) (c : PlainCertificate) (f : InputFault) → SpellsPlain fluents bytes c → HasCertificateFault fluents bytes f → ⊥
certificate_no_fault fluents bytes c f (a, (t, spelled, none, same)) h =
    not_both (read.certificate_passes fluents) bytes t f (record { spelled = spelled; sound = none }) h

-- of a task
pub task_spells : (task : Task) (certificate : Certificate) → IsCertificateOf (fluent_count task) certificate → SpellsPlain (fluent_names task) (certificate_text (fluent_names task) (plain_certificate certificate)) (plain_certificate certificate)
task_spells task certificate is =
    written_spells (fluent_names task) (plain_certificate certificate) task.fluent_names
    (subst (λ n. IsPlainCertificateOf n (plain_certificate certificate)) (sym (length-map task.fluents.items name_bytes)) is)

pub spelled_if : (fluents : List Name) (c : PlainCertificate) (r : Result (Vec ℕ Global) AllocError) → SpellsPlain fluents (certificate_text fluents c) c
    → IfOk r (λ text. text.items ≡ certificate_text fluents c) → IfOk r (λ text. SpellsPlain fluents text.items c)
spelled_if fluents c (Err e) s h = tt
spelled_if fluents c (Ok text) s h = subst (λ (b : List ℕ). SpellsPlain fluents b c) (sym h) s
