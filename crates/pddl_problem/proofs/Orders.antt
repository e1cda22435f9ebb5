-- The flaws of each pass stand in the order of the text.
use Rattle.std.proofs.Common.{ℕ, suc, ◌+◌, ◌-◌, ◌<◌, ◌≤◌, Bool, true, false, List, [], ◌∷◌, ◌++◌, arith, codes, Some, None}
use Rattle.std.specs.Prelude.{Option, if◌then◌else◌, not, ◌||◌}
use Rattle.std.specs.Option.{option_map_or, is_some}
use Rattle.std.specs.Str.{bytes_eq}
use Rattle.sexpr_text.specs.declared.faults.FaultKind.{FaultKind}
use Rattle.sexpr_text.specs.declared.faults.FaultKind.TheVariants.{BadForm, GoalTwice, LeftOut, EmptyOneof, OtherDomain, GoalMissing}
use Rattle.sexpr_text.specs.declared.forms.Span.{Span}
use Rattle.sexpr_text.specs.Flaws.{Flaw, flaw_at, IsInOrder}
use Rattle.sexpr_text.specs.Forest.{Forest, nothing, word, group}
use Rattle.sexpr_text.specs.Formed.{IsRising}
use Rattle.sexpr_text.specs.Ordered.{AreGroupFlaws}
use Rattle.sexpr_text.specs.Parts.{is_nothing, is_one, flaws_of_groups}
use Rattle.sexpr_text.proofs.FlawLaws.{in_order-from, in_order-up_to, in_order-append}
use Rattle.sexpr_text.proofs.GroupLaws.{rising-bounds, groups-in_order}
use Rattle.pddl_ast.specs.declared.keywords.Keyword.{Keyword}
use Rattle.pddl_ast.specs.declared.keywords.Keyword.TheVariants.{And, Or, Not, Imply, Exists, Forall, Equals, When, Oneof, Unknown, Other}
use Rattle.pddl_ast.specs.Words.{keyword_of, is_reserved}
use Rattle.pddl_ast.specs.Known.{Known}
use Rattle.pddl_ast.specs.Atoms.{ground_atom_flaws}
use Rattle.pddl_problem.specs.declared.sections.Heading.{Heading}
use Rattle.pddl_problem.specs.declared.sections.Heading.TheVariants.{Domain, Objects, Init, Goal, CtlGoal, PassedOver, Other as OtherHeading}
use Rattle.pddl_problem.specs.declared.sections.Seen.{Seen}
use Rattle.pddl_problem.specs.Sections.{heading_of, is_one_name, flaw_if, section_flaws, list_flaws, saw_list, sections_flaws}
use Rattle.pddl_problem.specs.Init.{atom_form, atom_under, form_flaws, under_flaws, bad_form, left_out, part_flaws_by, part_flaws, alternative_flaws_by, alternative_flaws, entry_flaws_by, entry_flaws, init_flaws}
use Rattle.pddl_problem.specs.Problems.{domain_flaws, goal_flaws, ctl_flaws, missing_flaws}
use Rattle.pddl_ast.specs.Formulas.{formula_flaws}
use Rattle.pddl_ast.specs.Goals.{temporal_flaws}
use Rattle.pddl_ast.proofs.Orders.{ground_atom-in_order}
use Rattle.pddl_ast.proofs.TreeOrders.{formula-in_order}
use Rattle.pddl_ast.proofs.GoalOrders.{temporal-in_order}

-- one flaw at a form
pub one-in_order : (span : Span) (kind : FaultKind) → span.start < span.end → IsInOrder span.start span.end (flaw_at span kind ∷ [])
one-in_order span kind h = (omega arith, omega arith)

if-in_order : (test : Bool) (span : Span) (kind : FaultKind) → span.start < span.end → IsInOrder span.start span.end (flaw_if test span kind)
if-in_order true span kind h = one-in_order span kind h
if-in_order false span kind h = omega arith

goal-in_order : (one twice : Bool) (span : Span) → span.start < span.end
    → IsInOrder span.start span.end (if one then flaw_if twice span GoalTwice else flaw_at span BadForm ∷ [])
goal-in_order true twice span h = if-in_order twice span GoalTwice h
goal-in_order false twice span h = one-in_order span BadForm h

section-in_order : (seen : Seen) (span : Span) (heading : Heading) (head : List ℕ) (rest : Forest) → span.start < span.end
    → IsInOrder span.start span.end (section_flaws seen span heading head rest)
section-in_order seen span Domain head rest h = if-in_order (seen.domain || not (is_one_name rest)) span BadForm h
section-in_order seen span Objects head rest h = if-in_order seen.objects span BadForm h
section-in_order seen span Init head rest h = if-in_order seen.init span BadForm h
section-in_order seen span Goal head rest h = goal-in_order (is_one rest) seen.goal span h
section-in_order seen span CtlGoal head rest h = goal-in_order (is_one rest) seen.ctl span h
section-in_order seen span PassedOver head rest h = omega arith
section-in_order seen span OtherHeading head rest h = one-in_order span (LeftOut head) h

list-in_order : (seen : Seen) (span : Span) (parts : Forest) → span.start < span.end → IsInOrder span.start span.end (list_flaws seen span parts)
list-in_order seen span nothing h = one-in_order span BadForm h
list-in_order seen span (group s parts rest) h = one-in_order span BadForm h
list-in_order seen span (word s head rest) h = section-in_order seen span (heading_of head) head rest h

pub sections-in_order : (seen : Seen) (lo hi : ℕ) (row : Forest) → IsRising lo hi row → IsInOrder lo hi (sections_flaws seen row)
sections-in_order seen lo hi nothing h = h
sections-in_order seen lo hi (word span text rest) (a, b, c, d, e) =
    (a, in_order-from (suc span.start) span.end hi (sections_flaws seen rest) (omega arith) (sections-in_order seen span.end hi rest e))
sections-in_order seen lo hi (group span parts rest) (a, b, c, d) =
    in_order-from lo span.start hi (list_flaws seen span parts ++ sections_flaws (saw_list seen parts) rest) a
    (in_order-append span.start span.end hi (list_flaws seen span parts) (sections_flaws (saw_list seen parts) rest)
    (list-in_order seen span parts (omega arith)) (sections-in_order (saw_list seen parts) span.end hi rest d))

-- from a form's begin up to its end, within wider bounds
wider : (lo low high hi : ℕ) (fs : List Flaw) → lo ≤ low → high ≤ hi → IsInOrder low high fs → IsInOrder lo hi fs
wider lo low high hi fs a b h = in_order-from lo low hi fs a (in_order-up_to low high hi fs b h)

other-in_order : (same : Bool) (s : Span) → s.start < s.end → IsInOrder s.start s.end (if same then [] else flaw_at s OtherDomain ∷ [])
other-in_order true s h = omega arith
other-in_order false s h = one-in_order s OtherDomain h

pub domain-in_order : (name : List ℕ) (lo hi : ℕ) (row : Forest) → IsRising lo hi row → IsInOrder lo hi (domain_flaws name row)
domain-in_order name lo hi nothing h = h
domain-in_order name lo hi (group s parts rest) h = rising-bounds lo hi (group s parts rest) h
domain-in_order name lo hi (word s text rest) (a, b, c, d, e) =
    let k : s.end ≤ hi = rising-bounds s.end hi rest e in
    wider lo s.start s.end hi (if bytes_eq text name then [] else flaw_at s OtherDomain ∷ []) a k (other-in_order (bytes_eq text name) s b)

-- the atom under a `not` or an `unknown`
form-in_order : (known : Known) (span s h : Span) (w : List ℕ) (terms : Forest) (reserved : Bool)
    → span.start ≤ s.start → s.end ≤ span.end → s.start + 2 ≤ s.end → span.start < span.end → IsRising (s.start + 1) (s.end - 1) (word h w terms)
    → IsInOrder span.start span.end (option_map_or (form_flaws known) (if reserved then None else Some (record { span = s; head_span = h; head = w; terms = terms })) (bad_form span))
form-in_order known span s h w terms true p q r t rising = one-in_order span BadForm t
form-in_order known span s h w terms false p q r t (a, b, c, d, e) =
    wider span.start s.start (s.end - 1) span.end (ground_atom_flaws known s h w terms) p (omega arith)
    (ground_atom-in_order known s h w terms (s.end - 1) (omega arith) b e)

list_under-in_order : (known : Known) (span s : Span) (parts : Forest) (alone : Bool)
    → span.start ≤ s.start → s.end ≤ span.end → s.start + 2 ≤ s.end → span.start < span.end → IsRising (s.start + 1) (s.end - 1) parts
    → IsInOrder span.start span.end (option_map_or (form_flaws known) (if alone then atom_form s parts else None) (bad_form span))
list_under-in_order known span s parts false p q r t rising = one-in_order span BadForm t
list_under-in_order known span s nothing true p q r t rising = one-in_order span BadForm t
list_under-in_order known span s (group h ps rest) true p q r t rising = one-in_order span BadForm t
list_under-in_order known span s (word h w terms) true p q r t rising = form-in_order known span s h w terms (is_reserved w) p q r t rising

under-in_order : (known : Known) (span : Span) (rest : Forest) (lo hi : ℕ) → span.start ≤ lo → hi ≤ span.end → span.start < span.end → IsRising lo hi rest
    → IsInOrder span.start span.end (under_flaws known span rest)
under-in_order known span nothing lo hi p q t h = one-in_order span BadForm t
under-in_order known span (word s w rest) lo hi p q t h = one-in_order span BadForm t
under-in_order known span (group s parts rest) lo hi p q t (a, b, c, d) =
    let k : s.end ≤ hi = rising-bounds s.end hi rest d in
    list_under-in_order known span s parts (is_nothing rest) (omega arith) (omega arith) b t c

unknown-in_order : (some : Bool) (span : Span) (w : List ℕ) → span.start < span.end
    → IsInOrder span.start span.end (if some then left_out span w else bad_form span)
unknown-in_order true span w t = one-in_order span (LeftOut w) t
unknown-in_order false span w t = one-in_order span BadForm t

-- a list at this span that begins with this word (at span s), and what follows it
record IsHeaded (span s : Span) (rest : Forest) : Type 0 where
  pub some : span.start < span.end
  pub before : span.start ≤ s.start
  pub head : s.start < s.end
  pub room : s.end ≤ span.end - 1
  pub rising : IsRising s.end (span.end - 1) rest

headed : (span s : Span) (w : List ℕ) (rest : Forest) → span.start + 2 ≤ span.end → IsRising (span.start + 1) (span.end - 1) (word s w rest) → IsHeaded span s rest
headed span s w rest t (a, b, c, d, e) =
    let k : s.end ≤ span.end - 1 = rising-bounds s.end (span.end - 1) rest e in
    record { some = omega arith; before = omega arith; head = b; room = k; rising = e }

part_by-in_order : (known : Known) (span s : Span) (w : List ℕ) (rest : Forest) (keyword : Keyword) → IsHeaded span s rest
    → IsInOrder span.start span.end (part_flaws_by known span s w rest keyword)
part_by-in_order known span s w rest And h = one-in_order span BadForm h.some
part_by-in_order known span s w rest Not h =
    let a = h.before in let b = h.head in
    under-in_order known span rest s.end (span.end - 1) (omega arith) (omega arith) h.some h.rising
part_by-in_order known span s w rest Unknown h = unknown-in_order (is_some (atom_under rest)) span w h.some
part_by-in_order known span s w rest Other h =
    in_order-up_to span.start (span.end - 1) span.end (ground_atom_flaws known span s w rest) (omega arith)
    (ground_atom-in_order known span s w rest (span.end - 1) h.before h.head h.rising)
part_by-in_order known span s w rest Or h = one-in_order span (LeftOut w) h.some
part_by-in_order known span s w rest Imply h = one-in_order span (LeftOut w) h.some
part_by-in_order known span s w rest Exists h = one-in_order span (LeftOut w) h.some
part_by-in_order known span s w rest Forall h = one-in_order span (LeftOut w) h.some
part_by-in_order known span s w rest Equals h = one-in_order span (LeftOut w) h.some
part_by-in_order known span s w rest When h = one-in_order span (LeftOut w) h.some
part_by-in_order known span s w rest Oneof h = one-in_order span (LeftOut w) h.some

part-in_order : (known : Known) → AreGroupFlaws (part_flaws known)
part-in_order known span nothing t h = one-in_order span BadForm (omega arith)
part-in_order known span (group s parts rest) t h = one-in_order span BadForm (omega arith)
part-in_order known span (word s w rest) t h = part_by-in_order known span s w rest (keyword_of w) (headed span s w rest t h)

-- the flaws of groups after a list's head
inner-in_order : (flaws : Span → Forest → List Flaw) → AreGroupFlaws flaws → (span s : Span) (rest : Forest) → IsHeaded span s rest
    → IsInOrder span.start span.end (flaws_of_groups flaws rest)
inner-in_order flaws each span s rest h =
    let a = h.before in let b = h.head in
    wider span.start s.end (span.end - 1) span.end (flaws_of_groups flaws rest) (omega arith) (omega arith)
    (groups-in_order flaws each s.end (span.end - 1) rest h.rising)

alternative_by-in_order : (known : Known) (span s : Span) (w : List ℕ) (rest : Forest) (keyword : Keyword) → IsHeaded span s rest
    → IsInOrder span.start span.end (alternative_flaws_by known span s w rest keyword)
alternative_by-in_order known span s w rest And h = inner-in_order (part_flaws known) (part-in_order known) span s rest h
alternative_by-in_order known span s w rest Not h = part_by-in_order known span s w rest Not h
alternative_by-in_order known span s w rest Unknown h = part_by-in_order known span s w rest Unknown h
alternative_by-in_order known span s w rest Other h = part_by-in_order known span s w rest Other h
alternative_by-in_order known span s w rest Or h = part_by-in_order known span s w rest Or h
alternative_by-in_order known span s w rest Imply h = part_by-in_order known span s w rest Imply h
alternative_by-in_order known span s w rest Exists h = part_by-in_order known span s w rest Exists h
alternative_by-in_order known span s w rest Forall h = part_by-in_order known span s w rest Forall h
alternative_by-in_order known span s w rest Equals h = part_by-in_order known span s w rest Equals h
alternative_by-in_order known span s w rest When h = part_by-in_order known span s w rest When h
alternative_by-in_order known span s w rest Oneof h = part_by-in_order known span s w rest Oneof h

alternative-in_order : (known : Known) → AreGroupFlaws (alternative_flaws known)
alternative-in_order known span nothing t h = omega arith
alternative-in_order known span (group s parts rest) t h = one-in_order span BadForm (omega arith)
alternative-in_order known span (word s w rest) t h = alternative_by-in_order known span s w rest (keyword_of w) (headed span s w rest t h)

oneof-in_order : (known : Known) (none : Bool) (span s : Span) (rest : Forest) → IsHeaded span s rest
    → IsInOrder span.start span.end (if none then flaw_at span EmptyOneof ∷ [] else flaws_of_groups (alternative_flaws known) rest)
oneof-in_order known true span s rest h = one-in_order span EmptyOneof h.some
oneof-in_order known false span s rest h = inner-in_order (alternative_flaws known) (alternative-in_order known) span s rest h

entry_by-in_order : (known : Known) (span s : Span) (w : List ℕ) (rest : Forest) (keyword : Keyword) → IsHeaded span s rest
    → IsInOrder span.start span.end (entry_flaws_by known span s w rest keyword)
entry_by-in_order known span s w rest Oneof h = oneof-in_order known (is_nothing rest) span s rest h
entry_by-in_order known span s w rest Unknown h = part_by-in_order known span s w rest Not h
entry_by-in_order known span s w rest And h = part_by-in_order known span s w rest And h
entry_by-in_order known span s w rest Not h = part_by-in_order known span s w rest Not h
entry_by-in_order known span s w rest Other h = part_by-in_order known span s w rest Other h
entry_by-in_order known span s w rest Or h = part_by-in_order known span s w rest Or h
entry_by-in_order known span s w rest Imply h = part_by-in_order known span s w rest Imply h
entry_by-in_order known span s w rest Exists h = part_by-in_order known span s w rest Exists h
entry_by-in_order known span s w rest Forall h = part_by-in_order known span s w rest Forall h
entry_by-in_order known span s w rest Equals h = part_by-in_order known span s w rest Equals h
entry_by-in_order known span s w rest When h = part_by-in_order known span s w rest When h

either-in_order : (lo hi : ℕ) (test : Bool) (fs gs : List Flaw) → IsInOrder lo hi fs → IsInOrder lo hi gs → IsInOrder lo hi (if test then fs else gs)
either-in_order lo hi true fs gs h k = h
either-in_order lo hi false fs gs h k = k

pub init-in_order : (known : Known) (lo hi : ℕ) (row : Forest) → IsRising lo hi row → IsInOrder lo hi (init_flaws known row)
init-in_order known lo hi nothing h = h
init-in_order known lo hi (word span w rest) (a, b, c, d, e) =
    (a, in_order-from (suc span.start) span.end hi (init_flaws known rest) (omega arith) (init-in_order known span.end hi rest e))
init-in_order known lo hi (group span nothing rest) (a, b, c, d) =
    (a, in_order-from (suc span.start) span.end hi (init_flaws known rest) (omega arith) (init-in_order known span.end hi rest d))
init-in_order known lo hi (group span (group s ps qs) rest) (a, b, c, d) =
    (a, in_order-from (suc span.start) span.end hi (init_flaws known rest) (omega arith) (init-in_order known span.end hi rest d))
init-in_order known lo hi (group span (word s w inner) rest) (a, b, c, d) =
    let h = headed span s w inner b c in
    let here = entry_by-in_order known span s w inner (keyword_of w) h in
    let p = h.before in let q = h.head in
    let deep = wider span.start s.end (span.end - 1) span.end (init_flaws known inner) (omega arith) (omega arith) (init-in_order known s.end (span.end - 1) inner h.rising) in
    let now = if bytes_eq w (codes "and") then init_flaws known inner else entry_flaws known span (word s w inner) in
    in_order-from lo span.start hi (now ++ init_flaws known rest) a
    (in_order-append span.start span.end hi now (init_flaws known rest)
    (either-in_order span.start span.end (bytes_eq w (codes "and")) (init_flaws known inner) (entry_flaws known span (word s w inner)) deep here)
    (init-in_order known span.end hi rest d))

pub goal_formula-in_order : (known : Known) (lo hi : ℕ) (row : Forest) → IsRising lo hi row → IsInOrder lo hi (goal_flaws known row)
goal_formula-in_order known lo hi nothing h = h
goal_formula-in_order known lo hi (word s w rest) (a, b, c, d, e) =
    let k : s.end ≤ hi = rising-bounds s.end hi rest e in
    wider lo s.start s.end hi (flaw_at s BadForm ∷ []) a k (one-in_order s BadForm b)
goal_formula-in_order known lo hi (group s parts rest) (a, b, c, d) =
    let k : s.end ≤ hi = rising-bounds s.end hi rest d in
    wider lo s.start s.end hi (formula_flaws known parts s []) a k (formula-in_order known parts s [] b c)

pub ctl-in_order : (known : Known) (lo hi : ℕ) (row : Forest) → IsRising lo hi row → IsInOrder lo hi (ctl_flaws known row)
ctl-in_order known lo hi nothing h = h
ctl-in_order known lo hi (word s w rest) (a, b, c, d, e) =
    let k : s.end ≤ hi = rising-bounds s.end hi rest e in
    wider lo s.start s.end hi (flaw_at s BadForm ∷ []) a k (one-in_order s BadForm b)
ctl-in_order known lo hi (group s parts rest) (a, b, c, d) =
    let k : s.end ≤ hi = rising-bounds s.end hi rest d in
    wider lo s.start s.end hi (temporal_flaws known parts s) a k (temporal-in_order known parts s b c)

pub missing-in_order : (span : Span) (goal ctl : Option Forest) → span.start < span.end → IsInOrder span.start span.end (missing_flaws span goal ctl)
missing-in_order span None None h = one-in_order span GoalMissing h
missing-in_order span (Some goal) ctl h = omega arith
missing-in_order span None (Some ctl) h = omega arith
