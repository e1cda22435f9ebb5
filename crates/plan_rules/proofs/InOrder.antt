-- The flaws of a plan stand in the order of the text.
use Rattle.std.proofs.Common.{ℕ, ◌+◌, ◌-◌, ◌<◌, ◌≤◌, Bool, true, false, not, ◌&&◌, List, [], ◌∷◌, ◌++◌, codes, arith}
use Rattle.std.specs.Prelude.{Option, Some, None, IfSome, is_some, if◌then◌else◌}
use Rattle.std.specs.Option.{option_map_or, option_and_then}
use Rattle.sexpr_text.specs.declared.forms.Span.{Span}
use Rattle.sexpr_text.specs.declared.faults.FaultKind.{FaultKind}
use Rattle.sexpr_text.specs.declared.faults.FaultKind.TheVariants.{BadForm, UnknownName, UnknownAction, BadNumber}
use Rattle.sexpr_text.specs.Flaws.{flaw_at, IsInOrder}
use Rattle.sexpr_text.specs.Forest.{Forest, nothing, word, group}
use Rattle.sexpr_text.specs.Formed.{IsRising}
use Rattle.sexpr_text.specs.Ordered.{AreGroupFlaws}
use Rattle.sexpr_text.specs.Parts.{is_nothing, begins_with, after_first, after_word, only_group, group_after, first_group_with, flaws_of_groups, are_words}
use Rattle.sexpr_text.proofs.FlawLaws.{in_order-from, in_order-up_to, in_order-append}
use Rattle.sexpr_text.proofs.GroupLaws.{rising-bounds, groups-in_order}
use Rattle.task_core.specs.Names.{Name}
use Rattle.plan_rules.specs.Items.{Item, of_word, of_group, item_span, only_if, first_item, split_group}
use Rattle.plan_rules.specs.Plans.{most_contexts}
use Rattle.plan_rules.specs.Readings as read
use Rattle.list_laws.proofs.Options.{if_any}

-- what holds of a value where there is one, along a chain
pub then_if : {X Y : Type 0} (P : X → Type 0) (Q : Y → Type 0) (f : X → Option Y) (o : Option X) → IfSome o P → ((x : X) → P x → IfSome (f x) Q) → IfSome (option_and_then f o) Q
then_if P Q f None h each = tt
then_if P Q f (Some x) h each = each x h

pub only-if : {X : Type 0} (P : X → Type 0) (b : Bool) (x : X) → P x → IfSome (only_if b x) P
only-if P true x h = h
only-if P false x h = tt

pub by_option : {X Y : Type 0} (P : X → Type 0) (Q : Y → Type 0) (f : X → Y) (d : Y) (o : Option X) → IfSome o P → ((x : X) → P x → Q (f x)) → Q d → Q (option_map_or f o d)
by_option P Q f d None h each none = none
by_option P Q f d (Some x) h each none = each x h

-- rows from a lower bound on
pub rising-from : (lo low hi : ℕ) (row : Forest) → lo ≤ low → IsRising low hi row → IsRising lo hi row
rising-from lo low hi nothing h g = omega arith
rising-from lo low hi (word span text rest) h (a, b, c, d, e) = (omega arith, b, c, d, e)
rising-from lo low hi (group span parts rest) h (a, b, c, d) = (omega arith, b, c, d)

-- a span within two bounds
pub record IsSpanWithin (lo hi : ℕ) (span : Span) : Type 0 where
  pub from : lo ≤ span.start
  pub some : span.start < span.end
  pub to : span.end ≤ hi

-- a group within two bounds
pub record IsGroupWithin (lo hi : ℕ) (found : Span × Forest) : Type 0 where
  pub from : lo ≤ found.0.start
  pub some : found.0.start + 2 ≤ found.0.end
  pub to : found.0.end ≤ hi
  pub parts : IsRising (found.0.start + 1) (found.0.end - 1) found.1

-- a group and what follows it
pub record IsSplitWithin (lo hi : ℕ) (found : Span × Forest × Forest) : Type 0 where
  pub group : IsGroupWithin lo hi (found.0, found.1)
  pub rest : IsRising found.0.end hi found.2

abbrev pub IsItemWithin : ℕ → ℕ → Item → Type 0
IsItemWithin lo hi (of_word span text) = IsSpanWithin lo hi span
IsItemWithin lo hi (of_group span parts) = IsGroupWithin lo hi (span, parts)

-- a form and what follows it
pub record IsFirstWithin (lo hi : ℕ) (found : Item × Forest) : Type 0 where
  pub item : IsItemWithin lo hi found.0
  pub rest : IsRising (item_span found.0).end hi found.1

pub first_item-within : (lo hi : ℕ) (row : Forest) → IsRising lo hi row → IfSome (first_item row) (IsFirstWithin lo hi)
first_item-within lo hi nothing h = tt
first_item-within lo hi (word span text rest) (a, b, c, d, e) =
    record { item = record { from = a; some = b; to = rising-bounds span.end hi rest e }; rest = e }
first_item-within lo hi (group span parts rest) (a, b, c, d) =
    record { item = record { from = a; some = b; to = rising-bounds span.end hi rest d; parts = c }; rest = d }

split_group-within : (lo hi : ℕ) (row : Forest) → IsRising lo hi row → IfSome (split_group row) (IsSplitWithin lo hi)
split_group-within lo hi nothing h = tt
split_group-within lo hi (word span text rest) h = tt
split_group-within lo hi (group span parts rest) (a, b, c, d) =
    record { group = record { from = a; some = b; to = rising-bounds span.end hi rest d; parts = c }; rest = d }

pub only_group-within : (lo hi : ℕ) (row : Forest) → IsRising lo hi row → IfSome (only_group row) (IsGroupWithin lo hi)
only_group-within lo hi nothing h = tt
only_group-within lo hi (word span text rest) h = tt
only_group-within lo hi (group span parts nothing) (a, b, c, d) = record { from = a; some = b; to = d; parts = c }
only_group-within lo hi (group span parts (word s t rest)) h = tt
only_group-within lo hi (group span parts (group s t rest)) h = tt

pub after_first-within : (lo hi : ℕ) (row : Forest) → IsRising lo hi row → IsRising lo hi (after_first row)
after_first-within lo hi nothing h = h
after_first-within lo hi (word span text rest) (a, b, c, d, e) = rising-from lo span.end hi rest (omega arith) e
after_first-within lo hi (group span parts rest) (a, b, c, d) = rising-from lo span.end hi rest (omega arith) d

pub after_word-within : (w : List ℕ) (lo hi : ℕ) (row : Forest) → IsRising lo hi row → IfSome (after_word w row) (IsRising lo hi)
after_word-within w lo hi row h = only-if (IsRising lo hi) (begins_with w row) (after_first row) (after_first-within lo hi row h)

pub group_after-within : (w : List ℕ) (lo hi : ℕ) (row : Forest) → IsRising lo hi row → IfSome (group_after w row) (IsGroupWithin lo hi)
group_after-within w lo hi row h =
    then_if (IsRising lo hi) (IsGroupWithin lo hi) only_group (after_word w row) (after_word-within w lo hi row h) (only_group-within lo hi)

pub first_group-within : (test : Forest → Bool) (lo hi : ℕ) (row : Forest) → IsRising lo hi row → IfSome (first_group_with test row) (IsGroupWithin lo hi)
first_group-within test lo hi nothing h = tt
first_group-within test lo hi (word span text rest) (a, b, c, d, e) =
    first_group-within test lo hi rest (rising-from lo span.end hi rest (omega arith) e)
first_group-within test lo hi (group span parts rest) (a, b, c, d) =
    by_test (test parts) (record { from = a; some = b; to = rising-bounds span.end hi rest d; parts = c })
    (first_group-within test lo hi rest (rising-from lo span.end hi rest (omega arith) d))
  where
    by_test : (v : Bool) → IsGroupWithin lo hi (span, parts) → IfSome (first_group_with test rest) (IsGroupWithin lo hi) → IfSome (if v then Some (span, parts) else first_group_with test rest) (IsGroupWithin lo hi)
    by_test true here there = here
    by_test false here there = there

-- one flaw, or none
pub one_flaw : (lo hi : ℕ) (span : Span) (kind : FaultKind) → lo ≤ span.start → span.start < hi → IsInOrder lo hi (flaw_at span kind ∷ [])
one_flaw lo hi span kind a b = (a, omega arith)

unless : (lo hi : ℕ) (holds : Bool) (span : Span) (kind : FaultKind) → lo ≤ span.start → span.start < hi → IsInOrder lo hi (read.flaw_unless holds span kind)
unless lo hi true span kind a b = omega arith
unless lo hi false span kind a b = one_flaw lo hi span kind a b

-- the parts of plans
atom : (fluents : List Name) (lo hi : ℕ) (outer span : Span) (row : Forest) → lo ≤ outer.start → outer.start < hi → lo ≤ span.start → span.start < hi → IsInOrder lo hi (read.atom_flaws fluents outer span row)
atom fluents lo hi outer span row a b c d = by_tests (not (are_words row)) (begins_with (codes "not") row)
  where
    by_tests : (v w : Bool) → IsInOrder lo hi (if v then flaw_at outer BadForm ∷ [] else if w then flaw_at span BadForm ∷ [] else read.flaw_unless (read.is_known fluents row) span UnknownName)
    by_tests true w = one_flaw lo hi outer BadForm a b
    by_tests false true = one_flaw lo hi span BadForm c d
    by_tests false false = unless lo hi (read.is_known fluents row) span UnknownName c d

literal : (fluents : List Name) → AreGroupFlaws (read.literal_flaws fluents)
literal fluents span parts wide h =
    by_option (IsGroupWithin (span.start + 1) (span.end - 1)) (IsInOrder span.start span.end)
    (λ (found : Span × Forest). read.atom_flaws fluents span found.0 found.1) (read.atom_flaws fluents span span parts) (group_after (codes "not") parts)
    (group_after-within (codes "not") (span.start + 1) (span.end - 1) parts h)
    (λ found within.
    let from : span.start + 1 ≤ found.0.start = within.from in
    let some : found.0.start + 2 ≤ found.0.end = within.some in
    let to : found.0.end ≤ span.end - 1 = within.to in
    atom fluents span.start span.end span found.0 found.1 (omega arith) (omega arith) (omega arith) (omega arith))
    (atom fluents span.start span.end span span parts (omega arith) (omega arith) (omega arith) (omega arith))

cube : (fluents : List Name) (lo hi : ℕ) (row : Forest) → IsRising lo hi row → IsInOrder lo hi (read.cube_flaws fluents row)
cube fluents = groups-in_order (read.literal_flaws fluents) (literal fluents)

-- a cube within its list
cube-within : (fluents : List Name) (lo hi : ℕ) (found : Span × Forest) → IsGroupWithin lo hi found → IsInOrder lo found.0.end (read.cube_flaws fluents found.1)
cube-within fluents lo hi found within =
    let from : lo ≤ found.0.start = within.from in
    let some : found.0.start + 2 ≤ found.0.end = within.some in
    in_order-from lo (found.0.start + 1) found.0.end (read.cube_flaws fluents found.1) (omega arith)
    (in_order-up_to (found.0.start + 1) (found.0.end - 1) found.0.end (read.cube_flaws fluents found.1) (omega arith)
    (cube fluents (found.0.start + 1) (found.0.end - 1) found.1 within.parts))

number : (most lo hi : ℕ) (item : Item) → IsItemWithin lo hi item → IsInOrder lo (item_span item).end (read.number_flaws most item)
number most lo hi (of_word span text) within = unless lo span.end (is_some (read.number_within most text)) span BadNumber within.from within.some
number most lo hi (of_group span parts) within =
    let some : span.start + 2 ≤ span.end = within.some in one_flaw lo span.end span BadForm within.from (omega arith)

-- `rule (LITERAL ..) (WORD ..)`
record IsTableRuleWithin (lo hi : ℕ) (p : read.TableRuleParts) : Type 0 where
  mid : ℕ
  cubes : (fluents : List Name) → IsInOrder lo mid (read.cube_flaws fluents p.cube)
  from : mid ≤ p.action_span.start
  to : p.action_span.start < hi

abbrev table_rule_made : Span × Forest × Forest → Span × Forest × Forest → read.TableRuleParts
table_rule_made c a = record { cube = c.1; action_span = a.0; action = a.1 }

table_rule-within : (lo hi : ℕ) (parts : Forest) → IsRising lo hi parts → IfSome (read.table_rule_parts parts) (IsTableRuleWithin lo hi)
table_rule-within lo hi parts h =
    then_if (IsRising lo hi) (IsTableRuleWithin lo hi)
    (λ rest. option_and_then (λ (c : Span × Forest × Forest). option_and_then (λ (a : Span × Forest × Forest).
    only_if (is_nothing a.2 && are_words a.1) (table_rule_made c a)) (split_group c.2)) (split_group rest))
    (after_word (codes "rule") parts) (after_word-within (codes "rule") lo hi parts h)
    (λ rest g. then_if (IsSplitWithin lo hi) (IsTableRuleWithin lo hi)
    (λ (c : Span × Forest × Forest). option_and_then (λ (a : Span × Forest × Forest).
    only_if (is_nothing a.2 && are_words a.1) (table_rule_made c a)) (split_group c.2)) (split_group rest)
    (split_group-within lo hi rest g)
    (λ c k. then_if (IsSplitWithin c.0.end hi) (IsTableRuleWithin lo hi)
    (λ (a : Span × Forest × Forest). only_if (is_nothing a.2 && are_words a.1) (table_rule_made c a)) (split_group c.2)
    (split_group-within c.0.end hi c.2 k.rest)
    (λ a l. only-if (IsTableRuleWithin lo hi) (is_nothing a.2 && are_words a.1) (table_rule_made c a)
    (let some : a.0.start + 2 ≤ a.0.end = l.group.some in let to : a.0.end ≤ hi = l.group.to in
    record { mid = c.0.end; cubes = λ fluents. cube-within fluents lo hi (c.0, c.1) k.group; from = l.group.from; to = omega arith }))))

table_rule : (fluents actions : List Name) → AreGroupFlaws (read.table_rule_flaws fluents actions)
table_rule fluents actions span parts wide h =
    by_option (IsTableRuleWithin (span.start + 1) (span.end - 1)) (IsInOrder span.start span.end)
    (λ (p : read.TableRuleParts). read.cube_flaws fluents p.cube ++ read.action_flaws actions p.action_span p.action)
    (flaw_at span BadForm ∷ []) (read.table_rule_parts parts)
    (table_rule-within (span.start + 1) (span.end - 1) parts h)
    (λ p within.
    let to : p.action_span.start < span.end - 1 = within.to in
    in_order-append span.start within.mid span.end (read.cube_flaws fluents p.cube) (read.action_flaws actions p.action_span p.action)
    (in_order-from span.start (span.start + 1) within.mid (read.cube_flaws fluents p.cube) (omega arith) (within.cubes fluents))
    (unless within.mid span.end (read.is_known actions p.action) p.action_span UnknownAction within.from (omega arith)))
    (one_flaw span.start span.end span BadForm (omega arith) (omega arith))

-- `(LITERAL ..) CONTEXT`
record IsCaseWithin (lo hi : ℕ) (p : Forest × Item) : Type 0 where
  mid : ℕ
  cubes : (fluents : List Name) → IsInOrder lo mid (read.cube_flaws fluents p.0)
  context : IsItemWithin mid hi p.1

case-within : (lo hi : ℕ) (parts : Forest) → IsRising lo hi parts → IfSome (read.case_parts parts) (IsCaseWithin lo hi)
case-within lo hi parts h =
    then_if (IsSplitWithin lo hi) (IsCaseWithin lo hi)
    (λ (c : Span × Forest × Forest). option_and_then (λ (n : Item × Forest). only_if (is_nothing n.1) (c.1, n.0)) (first_item c.2)) (split_group parts)
    (split_group-within lo hi parts h)
    (λ c k. then_if (IsFirstWithin c.0.end hi) (IsCaseWithin lo hi)
    (λ (n : Item × Forest). only_if (is_nothing n.1) (c.1, n.0)) (first_item c.2) (first_item-within c.0.end hi c.2 k.rest)
    (λ n l. only-if (IsCaseWithin lo hi) (is_nothing n.1) (c.1, n.0)
    (record { mid = c.0.end; cubes = λ fluents. cube-within fluents lo hi (c.0, c.1) k.group; context = l.item })))

pub item-end : (lo hi : ℕ) (item : Item) → IsItemWithin lo hi item → (item_span item).end ≤ hi
item-end lo hi (of_word span text) within = within.to
item-end lo hi (of_group span parts) within = within.to

pub item-from : (lo hi : ℕ) (item : Item) → IsItemWithin lo hi item → lo ≤ (item_span item).end
item-from lo hi (of_word span text) within = let a : lo ≤ span.start = within.from in let b : span.start < span.end = within.some in omega arith
item-from lo hi (of_group span parts) within = let a : lo ≤ span.start = within.from in let b : span.start + 2 ≤ span.end = within.some in omega arith

case : (fluents : List Name) (contexts : ℕ) → AreGroupFlaws (read.case_flaws fluents contexts)
case fluents contexts span parts wide h =
    by_option (IsCaseWithin (span.start + 1) (span.end - 1)) (IsInOrder span.start span.end)
    (λ (p : Forest × Item). read.cube_flaws fluents p.0 ++ read.number_flaws contexts p.1)
    (flaw_at span BadForm ∷ []) (read.case_parts parts) (case-within (span.start + 1) (span.end - 1) parts h)
    (λ p within.
    let to : (item_span p.1).end ≤ span.end - 1 = item-end within.mid (span.end - 1) p.1 within.context in
    in_order-append span.start within.mid span.end (read.cube_flaws fluents p.0) (read.number_flaws contexts p.1)
    (in_order-from span.start (span.start + 1) within.mid (read.cube_flaws fluents p.0) (omega arith) (within.cubes fluents))
    (in_order-up_to within.mid (item_span p.1).end span.end (read.number_flaws contexts p.1) (omega arith)
    (number contexts within.mid (span.end - 1) p.1 within.context)))
    (one_flaw span.start span.end span BadForm (omega arith) (omega arith))

next : (fluents : List Name) (contexts lo hi : ℕ) (item : Item) → IsItemWithin lo hi item → IsInOrder lo (item_span item).end (read.next_flaws fluents contexts item)
next fluents contexts lo hi (of_word span text) within = number contexts lo hi (of_word span text) within
next fluents contexts lo hi (of_group span parts) within =
    let from : lo ≤ span.start = within.from in
    let some : span.start + 2 ≤ span.end = within.some in
    let flaws = flaws_of_groups (read.case_flaws fluents contexts) parts in
    in_order-from lo (span.start + 1) span.end flaws (omega arith)
    (in_order-up_to (span.start + 1) (span.end - 1) span.end flaws (omega arith)
    (groups-in_order (read.case_flaws fluents contexts) (case fluents contexts) (span.start + 1) (span.end - 1) parts within.parts))

-- `rule CONTEXT (LITERAL ..) (WORD ..) NEXT`
record IsContextRuleWithin (lo hi : ℕ) (p : read.ContextRuleParts) : Type 0 where
  context : IsItemWithin lo hi p.context
  mid : ℕ
  cubes : (fluents : List Name) → IsInOrder (item_span p.context).end mid (read.cube_flaws fluents p.cube)
  from : mid ≤ p.action_span.start
  some : p.action_span.start < p.action_span.end
  next : IsItemWithin p.action_span.end hi p.next

abbrev made : Item × Forest → Span × Forest × Forest → Span × Forest × Forest → Item × Forest → read.ContextRuleParts
made n c a m = record { context = n.0; cube = c.1; action_span = a.0; action = a.1; next = m.0 }

abbrev after_next : Item × Forest → Span × Forest × Forest → Span × Forest × Forest → Item × Forest → Option read.ContextRuleParts
after_next n c a m = only_if (is_nothing m.1 && are_words a.1) (made n c a m)

abbrev after_action : Item × Forest → Span × Forest × Forest → Span × Forest × Forest → Option read.ContextRuleParts
after_action n c a = option_and_then (after_next n c a) (first_item a.2)

abbrev after_cube : Item × Forest → Span × Forest × Forest → Option read.ContextRuleParts
after_cube n c = option_and_then (after_action n c) (split_group c.2)

abbrev after_context : Item × Forest → Option read.ContextRuleParts
after_context n = option_and_then (after_cube n) (split_group n.1)

context_rule-within : (lo hi : ℕ) (parts : Forest) → IsRising lo hi parts → IfSome (read.context_rule_parts parts) (IsContextRuleWithin lo hi)
context_rule-within lo hi parts h =
    then_if (IsFirstWithin lo hi) (IsContextRuleWithin lo hi) after_context
    (option_and_then first_item (after_word (codes "rule") parts))
    (then_if (IsRising lo hi) (IsFirstWithin lo hi) first_item (after_word (codes "rule") parts) (after_word-within (codes "rule") lo hi parts h) (first_item-within lo hi))
    (λ n g. then_if (IsSplitWithin (item_span n.0).end hi) (IsContextRuleWithin lo hi) (after_cube n) (split_group n.1)
    (split_group-within (item_span n.0).end hi n.1 g.rest)
    (λ c k. then_if (IsSplitWithin c.0.end hi) (IsContextRuleWithin lo hi) (after_action n c) (split_group c.2)
    (split_group-within c.0.end hi c.2 k.rest)
    (λ a l. then_if (IsFirstWithin a.0.end hi) (IsContextRuleWithin lo hi) (after_next n c a) (first_item a.2)
    (first_item-within a.0.end hi a.2 l.rest)
    (λ m j. only-if (IsContextRuleWithin lo hi) (is_nothing m.1 && are_words a.1) (made n c a m)
    (let some : a.0.start + 2 ≤ a.0.end = l.group.some in
    record {
      context = g.item;
      mid = c.0.end;
      cubes = λ fluents. cube-within fluents (item_span n.0).end hi (c.0, c.1) k.group;
      from = l.group.from;
      some = omega arith;
      next = j.item;
    })))))

context_rule : (fluents actions : List Name) (contexts : ℕ) → AreGroupFlaws (read.context_rule_flaws fluents actions contexts)
context_rule fluents actions contexts span parts wide h =
    by_option (IsContextRuleWithin (span.start + 1) (span.end - 1)) (IsInOrder span.start span.end)
    (λ (p : read.ContextRuleParts). read.number_flaws contexts p.context ++ read.cube_flaws fluents p.cube
    ++ read.action_flaws actions p.action_span p.action ++ read.next_flaws fluents contexts p.next)
    (flaw_at span BadForm ∷ []) (read.context_rule_parts parts) (context_rule-within (span.start + 1) (span.end - 1) parts h)
    (λ p within.
    let a = read.number_flaws contexts p.context in
    let b = read.cube_flaws fluents p.cube in
    let c = read.action_flaws actions p.action_span p.action in
    let d = read.next_flaws fluents contexts p.next in
    let ends : (item_span p.next).end ≤ span.end - 1 = item-end p.action_span.end (span.end - 1) p.next within.next in
    let first : IsInOrder span.start (item_span p.context).end a =
    in_order-from span.start (span.start + 1) (item_span p.context).end a (omega arith) (number contexts (span.start + 1) (span.end - 1) p.context within.context) in
    let two : IsInOrder span.start within.mid (a ++ b) = in_order-append span.start (item_span p.context).end within.mid a b first (within.cubes fluents) in
    let three : IsInOrder span.start p.action_span.end (a ++ b ++ c) =
    in_order-append span.start within.mid p.action_span.end (a ++ b) c two (unless within.mid p.action_span.end (read.is_known actions p.action) p.action_span UnknownAction within.from within.some) in
    let last : IsInOrder p.action_span.end span.end d =
    in_order-up_to p.action_span.end (item_span p.next).end span.end d (omega arith) (next fluents contexts p.action_span.end (span.end - 1) p.next within.next) in
    in_order-append span.start p.action_span.end span.end (a ++ b ++ c) d three last)
    (one_flaw span.start span.end span BadForm (omega arith) (omega arith))

-- a flaw at a form
pub at_item : (lo hi : ℕ) (item : Item) (kind : FaultKind) → IsItemWithin lo hi item → IsInOrder lo hi (flaw_at (item_span item) kind ∷ [])
at_item lo hi (of_word span text) kind within =
    let some : span.start < span.end = within.some in let to : span.end ≤ hi = within.to in one_flaw lo hi span kind within.from (omega arith)
at_item lo hi (of_group span parts) kind within =
    let some : span.start + 2 ≤ span.end = within.some in let to : span.end ≤ hi = within.to in one_flaw lo hi span kind within.from (omega arith)

-- what stands in the list of a plan from offset lo up to hi; the list begins before
abbrev pub IsListAt : ℕ → ℕ → Span → Type 0
IsListAt lo hi span = (span.start < lo) × (lo ≤ hi)

table : (fluents actions : List Name) (lo hi : ℕ) (span : Span) (row : Forest) → IsListAt lo hi span → IsRising lo hi row → IsInOrder span.start hi (read.table_flaws fluents actions span row)
table fluents actions lo hi span row at h =
    let before : span.start < lo = at.0 in let wide : lo ≤ hi = at.1 in
    by_option (IsFirstWithin lo hi) (IsInOrder span.start hi)
    (λ (class : Item × Forest). if is_some (read.class_named class.0) then flaws_of_groups (read.table_rule_flaws fluents actions) class.1 else flaw_at (item_span class.0) BadForm ∷ [])
    (flaw_at span BadForm ∷ []) (first_item row) (first_item-within lo hi row h)
    (λ class within. by_test class within (is_some (read.class_named class.0)))
    (one_flaw span.start hi span BadForm (omega arith) (omega arith))
  where
    by_test : (class : Item × Forest) → IsFirstWithin lo hi class → (v : Bool) → IsInOrder span.start hi (if v then flaws_of_groups (read.table_rule_flaws fluents actions) class.1 else flaw_at (item_span class.0) BadForm ∷ [])
    by_test class within true =
        let from : lo ≤ (item_span class.0).end = item-from lo hi class.0 within.item in
        let before : span.start < lo = at.0 in
        in_order-from span.start (item_span class.0).end hi (flaws_of_groups (read.table_rule_flaws fluents actions) class.1) (omega arith)
        (groups-in_order (read.table_rule_flaws fluents actions) (table_rule fluents actions) (item_span class.0).end hi class.1 within.rest)
    by_test class within false =
        let before : span.start < lo = at.0 in
        in_order-from span.start lo hi (flaw_at (item_span class.0) BadForm ∷ []) (omega arith) (at_item lo hi class.0 BadForm within.item)

contexts : (fluents actions : List Name) (lo hi : ℕ) (item : Item) (row : Forest) → IsItemWithin lo hi item → IsRising (item_span item).end hi row → IsInOrder lo hi (read.contexts_flaws fluents actions item row)
contexts fluents actions lo hi (of_group span parts) row within h = at_item lo hi (of_group span parts) BadForm within
contexts fluents actions lo hi (of_word span text) row within h =
    let from : lo ≤ span.start = within.from in let some : span.start < span.end = within.some in
    by_option (λ _. Unit {0}) (IsInOrder lo hi) (λ n. flaws_of_groups (read.context_rule_flaws fluents actions n) row)
    (flaw_at span BadNumber ∷ []) (read.number_within most_contexts text) (if_any (read.number_within most_contexts text))
    (λ n _. in_order-from lo span.end hi (flaws_of_groups (read.context_rule_flaws fluents actions n) row) (omega arith)
    (groups-in_order (read.context_rule_flaws fluents actions n) (context_rule fluents actions n) span.end hi row h))
    (at_item lo hi (of_word span text) BadNumber within)

automaton : (fluents actions : List Name) (lo hi : ℕ) (span : Span) (row : Forest) → IsListAt lo hi span → IsRising lo hi row → IsInOrder span.start hi (read.automaton_flaws fluents actions span row)
automaton fluents actions lo hi span row at h =
    let before : span.start < lo = at.0 in let wide : lo ≤ hi = at.1 in
    by_option (IsFirstWithin lo hi) (IsInOrder span.start hi)
    (λ (n : Item × Forest). read.contexts_flaws fluents actions n.0 n.1) (flaw_at span BadForm ∷ []) (first_item row) (first_item-within lo hi row h)
    (λ n within. in_order-from span.start lo hi (read.contexts_flaws fluents actions n.0 n.1) (omega arith) (contexts fluents actions lo hi n.0 n.1 within.item within.rest))
    (one_flaw span.start hi span BadForm (omega arith) (omega arith))

of_kind : (fluents actions : List Name) (kind : read.Kind) (lo hi : ℕ) (span : Span) (row : Forest) → IsListAt lo hi span → IsRising lo hi row → IsInOrder span.start hi (read.flaws_of_kind kind fluents actions span row)
of_kind fluents actions read.table_kind lo hi span row at h = table fluents actions lo hi span row at h
of_kind fluents actions read.automaton_kind lo hi span row at h = automaton fluents actions lo hi span row at h

plan : (fluents actions : List Name) (lo hi : ℕ) (span : Span) (row : Forest) → IsListAt lo hi span → IsRising lo hi row → IsInOrder span.start hi (read.plan_flaws fluents actions span row)
plan fluents actions lo hi span row at h =
    let before : span.start < lo = at.0 in let wide : lo ≤ hi = at.1 in
    by_option (IsFirstWithin lo hi) (IsInOrder span.start hi)
    (λ (kind : Item × Forest). option_map_or (λ k. read.flaws_of_kind k fluents actions span kind.1) (read.kind_named kind.0) (flaw_at (item_span kind.0) BadForm ∷ []))
    (flaw_at span BadForm ∷ []) (first_item row) (first_item-within lo hi row h)
    (λ kind within.
    let from : lo ≤ (item_span kind.0).end = item-from lo hi kind.0 within.item in
    let to : (item_span kind.0).end ≤ hi = item-end lo hi kind.0 within.item in
    by_option (λ _. Unit {0}) (IsInOrder span.start hi) (λ k. read.flaws_of_kind k fluents actions span kind.1)
    (flaw_at (item_span kind.0) BadForm ∷ []) (read.kind_named kind.0) (if_any (read.kind_named kind.0))
    (λ k _. of_kind fluents actions k (item_span kind.0).end hi span kind.1 (omega arith, to) within.rest)
    (in_order-from span.start lo hi (flaw_at (item_span kind.0) BadForm ∷ []) (omega arith) (at_item lo hi kind.0 BadForm within.item)))
    (one_flaw span.start hi span BadForm (omega arith) (omega arith))

-- the flaws of a whole text
pub text_flaws-in_order : (fluents actions : List Name) (size : ℕ) (trees : Forest) → IsRising 0 size trees → IsInOrder 0 (size + 1) (read.text_flaws fluents actions trees)
text_flaws-in_order fluents actions size trees h =
    by_option (IsGroupWithin 0 size) (IsInOrder 0 (size + 1)) (λ (found : Span × Forest). read.plan_flaws fluents actions found.0 (after_first found.1)) (read.no_plan ∷ [])
    (read.plan_list trees) (first_group-within (begins_with (codes "plan")) 0 size trees h)
    (λ found within.
    let some : found.0.start + 2 ≤ found.0.end = within.some in let to : found.0.end ≤ size = within.to in
    let flaws = read.plan_flaws fluents actions found.0 (after_first found.1) in
    in_order-from 0 found.0.start (size + 1) flaws (omega arith)
    (in_order-up_to found.0.start (found.0.end - 1) (size + 1) flaws (omega arith)
    (plan fluents actions (found.0.start + 1) (found.0.end - 1) found.0 (after_first found.1) (omega arith, omega arith)
    (after_first-within (found.0.start + 1) (found.0.end - 1) found.1 within.parts))))
    (omega arith, omega arith)
