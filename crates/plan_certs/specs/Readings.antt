-- The grammar of certificates, over the forms of a text with their places: everything that is wrong
-- in a certificate, in the order of the text, and the certificate that a text without flaws spells.
-- White space, comments and the case of letters are free. Inside a form that is itself of a wrong
-- shape nothing else is looked for.
use Rattle.std.specs.Prelude.{ℕ, Bool, false, not, if◌then◌else◌, List, [], ◌∷◌, Option, Some}
use Rattle.std.specs.Prelude.{unwrap_or, codes}
use Rattle.std.specs.Option.{option_map, option_map_or}
use Rattle.sexpr_text.specs.declared.forms.Place.{Place}
use Rattle.sexpr_text.specs.declared.forms.Span.{Span}
use Rattle.sexpr_text.specs.declared.faults.FaultKind.TheVariants.{NoDefine, BadForm}
use Rattle.sexpr_text.specs.declared.faults.InputFault.{InputFault}
use Rattle.sexpr_text.specs.Flaws.{Flaw, flaw_at}
use Rattle.sexpr_text.specs.Forest.{Forest}
use Rattle.sexpr_text.specs.Parts.{is_nothing, begins_with, after_first, after_word}
use Rattle.sexpr_text.specs.Parts.{first_group_with, flaws_of_groups, each_group}
use Rattle.sexpr_text.specs.Passes.{SpellsBy, HasFaultBy}
use Rattle.task_core.specs.declared.classes.Class.{Class}
use Rattle.task_core.specs.declared.classes.Class.TheVariants.{Weak, Strong, Cyclic}
use Rattle.task_core.specs.Names.{Name}
use Rattle.plan_rules.specs.Items.{Item, item_span, first_item}
use Rattle.plan_rules.specs.Readings.{class_named, cube_flaws, cube_tree}
use Rattle.plan_certs.specs.Certificates.{CubeSet, PlainCertificate}
use Rattle.plan_certs.specs.Named.{plain_certificate}
use Rattle.plan_certs.specs.declared.certificates.Certificate.{Certificate}

-- `(LITERAL ..)`, an item of a set
abbrev pub set_item_flaws : List Name → Span → Forest → List Flaw
set_item_flaws fluents span parts = cube_flaws fluents parts

-- `(set (LITERAL ..) ..)`
abbrev pub set_flaws : List Name → Span → Forest → List Flaw
set_flaws fluents span parts =
    option_map_or (flaws_of_groups (set_item_flaws fluents)) (after_word (codes "set") parts)
    (flaw_at span BadForm ∷ [])

abbrev pub set_tree : List Name → Forest → CubeSet
set_tree fluents parts =
    option_map_or (each_group (cube_tree fluents)) (after_word (codes "set") parts) []

-- whether there is one form alone
abbrev pub is_single : Forest → Bool
is_single row =
    option_map_or (λ (first : Item × Forest). is_nothing first.1) (first_item row) false

-- whether a certificate of the class may have these forms after its class word: exactly one, or one
-- at least where it is a cyclic one
abbrev pub has_sets : Class → Forest → Bool
has_sets Weak row = is_single row
has_sets Strong row = is_single row
has_sets Cyclic row = not (is_nothing row)

-- what follows the word of a class in the list at `span`: a set an item
abbrev pub sets_flaws : List Name → Span → Class → Forest → List Flaw
sets_flaws fluents span class row =
    if has_sets class row then flaws_of_groups (set_flaws fluents) row
    else flaw_at span BadForm ∷ []

-- what follows `certificate` in the list at `span`: a class, and its sets
abbrev pub certificate_flaws : List Name → Span → Forest → List Flaw
certificate_flaws fluents span row =
    option_map_or (λ (first : Item × Forest). option_map_or
    (λ class. sets_flaws fluents span class first.1) (class_named first.0)
    (flaw_at (item_span first.0) BadForm ∷ []))
    (first_item row) (flaw_at span BadForm ∷ [])

-- a certificate where the text spells none: it does not count
abbrev pub no_certificate : PlainCertificate
no_certificate = record { class = Weak; sets = [] }

abbrev pub certificate_tree : List Name → Forest → PlainCertificate
certificate_tree fluents row =
    option_map_or (λ (first : Item × Forest).
    record { class = unwrap_or (class_named first.0) Weak; sets = each_group (set_tree fluents) first.1 })
    (first_item row) no_certificate

-- the first top-level list that begins with the word `certificate`: its span and its parts
abbrev pub certificate_list : Forest → Option (Span × Forest)
certificate_list trees = first_group_with (begins_with (codes "certificate")) trees

-- a text without such a list: `NoDefine` at the start
abbrev pub no_list : Flaw
no_list =
    record {
      offset = 0;
      fault = record { kind = NoDefine; place = record { line = 1; column = 1 } };
    }

-- the flaws of a text's forms
abbrev pub text_flaws : List Name → Forest → List Flaw
text_flaws fluents trees =
    option_map_or (λ (found : Span × Forest). certificate_flaws fluents found.0
    (after_first found.1)) (certificate_list trees) (no_list ∷ [])

-- they are those of the only pass after the lexis
abbrev pub certificate_passes : List Name → Forest → List (List Flaw)
certificate_passes fluents trees = text_flaws fluents trees ∷ []

-- the certificate and the place of its list
abbrev pub certificate_read : List Name → Forest → Option (PlainCertificate × Place)
certificate_read fluents trees =
    option_map (λ (found : Span × Forest).
    (certificate_tree fluents (after_first found.1), found.0.place)) (certificate_list trees)

-- the bytes spell this certificate, over the names of a task's fluents; its list stands at this
-- place
abbrev pub SpellsCertificateAt : List Name → List ℕ → PlainCertificate → Place → Type 0
SpellsCertificateAt fluents bytes certificate place =
    SpellsBy (certificate_passes fluents) (certificate_read fluents) bytes
    (Some (certificate, place))

-- the bytes spell this certificate
abbrev pub SpellsPlain : List Name → List ℕ → PlainCertificate → Type 0
SpellsPlain fluents bytes certificate =
    (place : Place) × SpellsCertificateAt fluents bytes certificate place

-- the bytes have this fault as the text of a certificate
abbrev pub HasCertificateFault : List Name → List ℕ → InputFault → Type 0
HasCertificateFault fluents = HasFaultBy (certificate_passes fluents)

-- the bytes spell this certificate, as the program holds it
abbrev pub SpellsCertificate : List Name → List ℕ → Certificate → Type 0
SpellsCertificate fluents bytes certificate = SpellsPlain fluents bytes (plain_certificate certificate)
