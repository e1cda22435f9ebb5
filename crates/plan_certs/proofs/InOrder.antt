-- The flaws of a certificate stand in the order of the text.
use Rattle.std.proofs.Common.{ℕ, ◌+◌, ◌-◌, ◌<◌, ◌≤◌, Bool, true, false, not, List, [], ◌∷◌, codes, arith}
use Rattle.std.specs.Prelude.{if◌then◌else◌}
use Rattle.std.specs.Option.{option_map_or}
use Rattle.sexpr_text.specs.declared.forms.Span.{Span}
use Rattle.sexpr_text.specs.declared.faults.FaultKind.{FaultKind}
use Rattle.sexpr_text.specs.declared.faults.FaultKind.TheVariants.{BadForm, UnknownName}
use Rattle.sexpr_text.specs.Flaws.{Flaw, flaw_at, IsInOrder}
use Rattle.sexpr_text.specs.Forest.{Forest}
use Rattle.sexpr_text.specs.Formed.{IsRising}
use Rattle.sexpr_text.specs.Ordered.{AreGroupFlaws}
use Rattle.sexpr_text.specs.Parts.{begins_with, after_first, after_word, group_after, flaws_of_groups, are_words}
use Rattle.sexpr_text.proofs.FlawLaws.{in_order-from, in_order-up_to}
use Rattle.sexpr_text.proofs.GroupLaws.{groups-in_order}
use Rattle.task_core.specs.Names.{Name}
use Rattle.task_core.specs.declared.classes.Class.{Class}
use Rattle.plan_rules.specs.Items.{Item, item_span, first_item}
use Rattle.plan_rules.specs.Readings as plans
use Rattle.plan_rules.proofs.InOrder.{IsFirstWithin, IsGroupWithin, by_option, IsListAt, after_first-within, after_word-within, at_item, first_group-within, first_item-within, group_after-within, item-end, item-from, one_flaw}
use Rattle.plan_certs.specs.Readings as read
use Rattle.list_laws.proofs.Options.{if_any}

-- one flaw, or none

unless : (lo hi : ℕ) (holds : Bool) (span : Span) (kind : FaultKind) → lo ≤ span.start → span.start < hi → IsInOrder lo hi (plans.flaw_unless holds span kind)
unless lo hi true span kind a b = omega arith
unless lo hi false span kind a b = one_flaw lo hi span kind a b

-- the literals of a cube
atom : (fluents : List Name) (lo hi : ℕ) (outer span : Span) (row : Forest) → lo ≤ outer.start → outer.start < hi → lo ≤ span.start → span.start < hi → IsInOrder lo hi (plans.atom_flaws fluents outer span row)
atom fluents lo hi outer span row a b c d = by_tests (not (are_words row)) (begins_with (codes "not") row)
  where
    by_tests : (v w : Bool) → IsInOrder lo hi (if v then flaw_at outer BadForm ∷ [] else if w then flaw_at span BadForm ∷ [] else plans.flaw_unless (plans.is_known fluents row) span UnknownName)
    by_tests true w = one_flaw lo hi outer BadForm a b
    by_tests false true = one_flaw lo hi span BadForm c d
    by_tests false false = unless lo hi (plans.is_known fluents row) span UnknownName c d

literal : (fluents : List Name) → AreGroupFlaws (plans.literal_flaws fluents)
literal fluents span parts wide h =
    by_option (IsGroupWithin (span.start + 1) (span.end - 1)) (IsInOrder span.start span.end)
    (λ (found : Span × Forest). plans.atom_flaws fluents span found.0 found.1) (plans.atom_flaws fluents span span parts) (group_after (codes "not") parts)
    (group_after-within (codes "not") (span.start + 1) (span.end - 1) parts h)
    (λ found within.
    let from : span.start + 1 ≤ found.0.start = within.from in
    let some : found.0.start + 2 ≤ found.0.end = within.some in
    let to : found.0.end ≤ span.end - 1 = within.to in
    atom fluents span.start span.end span found.0 found.1 (omega arith) (omega arith) (omega arith) (omega arith))
    (atom fluents span.start span.end span span parts (omega arith) (omega arith) (omega arith) (omega arith))

-- what a group has in order inside stands in order within it
inner : (span : Span) (flaws : List Flaw) → span.start + 2 ≤ span.end → IsInOrder (span.start + 1) (span.end - 1) flaws → IsInOrder span.start span.end flaws
inner span flaws wide h =
    in_order-from span.start (span.start + 1) span.end flaws (omega arith)
    (in_order-up_to (span.start + 1) (span.end - 1) span.end flaws (omega arith) h)

set_item : (fluents : List Name) → AreGroupFlaws (read.set_item_flaws fluents)
set_item fluents span parts wide h =
    inner span (read.set_item_flaws fluents span parts) wide (groups-in_order (plans.literal_flaws fluents) (literal fluents) (span.start + 1) (span.end - 1) parts h)

set : (fluents : List Name) → AreGroupFlaws (read.set_flaws fluents)
set fluents span parts wide h =
    by_option (IsRising (span.start + 1) (span.end - 1)) (IsInOrder span.start span.end) (flaws_of_groups (read.set_item_flaws fluents)) (flaw_at span BadForm ∷ [])
    (after_word (codes "set") parts) (after_word-within (codes "set") (span.start + 1) (span.end - 1) parts h)
    (λ rest g. inner span (flaws_of_groups (read.set_item_flaws fluents) rest) wide
    (groups-in_order (read.set_item_flaws fluents) (set_item fluents) (span.start + 1) (span.end - 1) rest g))
    (one_flaw span.start span.end span BadForm (omega arith) (omega arith))

-- what stands in the list of a certificate from offset lo up to hi; the list begins before

sets : (fluents : List Name) (class : Class) (lo hi : ℕ) (span : Span) (row : Forest) → IsListAt lo hi span → IsRising lo hi row → IsInOrder span.start hi (read.sets_flaws fluents span class row)
sets fluents class lo hi span row at h =
    let before : span.start < lo = at.0 in let wide : lo ≤ hi = at.1 in
    by_test (read.has_sets class row)
    (in_order-from span.start lo hi (flaws_of_groups (read.set_flaws fluents) row) (omega arith) (groups-in_order (read.set_flaws fluents) (set fluents) lo hi row h))
    (one_flaw span.start hi span BadForm (omega arith) (omega arith))
  where
    by_test : (v : Bool) → IsInOrder span.start hi (flaws_of_groups (read.set_flaws fluents) row) → IsInOrder span.start hi (flaw_at span BadForm ∷ [])
        → IsInOrder span.start hi (if v then flaws_of_groups (read.set_flaws fluents) row else flaw_at span BadForm ∷ [])
    by_test true a b = a
    by_test false a b = b

certificate : (fluents : List Name) (lo hi : ℕ) (span : Span) (row : Forest) → IsListAt lo hi span → IsRising lo hi row → IsInOrder span.start hi (read.certificate_flaws fluents span row)
certificate fluents lo hi span row at h =
    let before : span.start < lo = at.0 in let wide : lo ≤ hi = at.1 in
    by_option (IsFirstWithin lo hi) (IsInOrder span.start hi)
    (λ (first : Item × Forest). option_map_or (λ class. read.sets_flaws fluents span class first.1) (plans.class_named first.0) (flaw_at (item_span first.0) BadForm ∷ []))
    (flaw_at span BadForm ∷ []) (first_item row) (first_item-within lo hi row h)
    (λ first within.
    let from : lo ≤ (item_span first.0).end = item-from lo hi first.0 within.item in
    let to : (item_span first.0).end ≤ hi = item-end lo hi first.0 within.item in
    by_option (λ _. Unit {0}) (IsInOrder span.start hi) (λ class. read.sets_flaws fluents span class first.1)
    (flaw_at (item_span first.0) BadForm ∷ []) (plans.class_named first.0) (if_any (plans.class_named first.0))
    (λ class _. sets fluents class (item_span first.0).end hi span first.1 (omega arith, to) within.rest)
    (in_order-from span.start lo hi (flaw_at (item_span first.0) BadForm ∷ []) (omega arith) (at_item lo hi first.0 BadForm within.item)))
    (one_flaw span.start hi span BadForm (omega arith) (omega arith))

-- the flaws of a whole text
pub text_flaws-in_order : (fluents : List Name) (size : ℕ) (trees : Forest) → IsRising 0 size trees → IsInOrder 0 (size + 1) (read.text_flaws fluents trees)
text_flaws-in_order fluents size trees h =
    by_option (IsGroupWithin 0 size) (IsInOrder 0 (size + 1)) (λ (found : Span × Forest). read.certificate_flaws fluents found.0 (after_first found.1)) (read.no_list ∷ [])
    (read.certificate_list trees) (first_group-within (begins_with (codes "certificate")) 0 size trees h)
    (λ found within.
    let some : found.0.start + 2 ≤ found.0.end = within.some in let to : found.0.end ≤ size = within.to in
    let flaws = read.certificate_flaws fluents found.0 (after_first found.1) in
    in_order-from 0 found.0.start (size + 1) flaws (omega arith)
    (in_order-up_to found.0.start (found.0.end - 1) (size + 1) flaws (omega arith)
    (certificate fluents (found.0.start + 1) (found.0.end - 1) found.0 (after_first found.1) (omega arith, omega arith)
    (after_first-within (found.0.start + 1) (found.0.end - 1) found.1 within.parts))))
    (omega arith, omega arith)
