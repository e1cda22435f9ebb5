-- What stands in a row of forms without places is read as it is meant, wherever the places are.
use Rattle.std.proofs.Common.{◌≡◌, ◌≢◌, ℕ, ◌<◌, ◌≤◌, Bool, true, false, not, ◌&&◌, List, [], ◌∷◌, ◌++◌, length, codes, refl, ap, sym, subst, ◌∙◌}
use Rattle.std.specs.Prelude.{Option, Some, None, is_some, unwrap_or, if◌then◌else◌, decimal}
use Rattle.std.specs.Option.{option_map_or, option_and_then}
use Rattle.std.specs.List.{All}
use Rattle.std.specs.Str.{bytes_eq}
use Rattle.std.proofs.lemmas.List.Elements.{All-head, All-tail}
use Rattle.std.proofs.lemmas.Slice.Eq.{bytes_eq-Decides}
use Rattle.sexpr_text.specs.declared.forms.Span.{Span}
use Rattle.sexpr_text.specs.declared.faults.FaultKind.{FaultKind}
use Rattle.sexpr_text.specs.declared.faults.FaultKind.TheVariants.{BadForm, UnknownName, UnknownAction, BadNumber}
use Rattle.sexpr_text.specs.Flaws.{Flaw, flaw_at}
use Rattle.sexpr_text.specs.Forest.{Forest, nothing, word, group}
use Rattle.sexpr_text.specs.Parts.{is_nothing, begins_with, after_first, only_group, group_after, flaws_of_groups, each_group, texts_of, are_words}
use Rattle.sexpr_text.specs.Rows as row
use Rattle.sexpr_text.specs.Rows.{Row, row_of, words}
use Rattle.task_core.specs.declared.literals.Lit.{Lit}
use Rattle.task_core.specs.Cubes.{Cube, literal}
use Rattle.task_core.specs.Names.{Name, AreDistinct, AreFluentNames, AreActionNames, first_word}
use Rattle.plan_rules.specs.Items.{Item, of_word, of_group, only_if, first_item}
use Rattle.plan_rules.specs.Plans.{most_contexts, IsCubeOf, IsRuleOf, IsContextOf, IsCaseOf, IsNextOf, IsContextRuleOf}
use Rattle.plan_rules.specs.Rules.{PlanRule, PlanCase, PlanNext, always, by_cases, ContextRule}
use Rattle.plan_rules.specs.Texts.{name_at}
use Rattle.plan_rules.specs.Readings as read
use Rattle.plan_rules.proofs.Decimals.{number-decimal}
use Rattle.plan_rules.proofs.NameNumbers.{number-known, differs}
use Rattle.plan_rules.proofs.Printed.{groups, literal_row, cube_row, rule_row}
use Rattle.plan_rules.proofs.PrintedContexts.{case_row, next_row, context_rule_row}

-- nothing is wrong, and this is read
pub record IsRead {X : Type 0} (flaws : List Flaw) (tree x : X) : Type 0 where
  pub none : flaws ≡ []
  pub same : tree ≡ x

-- the first form of a row
pub record IsWordFirst (f : Forest) (w : List ℕ) (r : Row) : Type 0 where
  pub span : Span
  pub rest : Forest
  pub is : f ≡ word span w rest
  pub row : row_of rest ≡ r

pub record IsGroupFirst (f : Forest) (p r : Row) : Type 0 where
  pub span : Span
  pub parts : Forest
  pub rest : Forest
  pub is : f ≡ group span parts rest
  pub inner : row_of parts ≡ p
  pub row : row_of rest ≡ r

pub first-word : (f : Forest) (w : List ℕ) (r : Row) → row_of f ≡ row.word w r → IsWordFirst f w r
first-word nothing w r e = absurd (let none : ⊥ = cc in none)
first-word (word span text rest) w r e =
    let same : text ≡ w = cc in
    record { span = span; rest = rest; is = ap (λ t. word span t rest) same; row = cc }
first-word (group span parts rest) w r e = absurd (let none : ⊥ = cc in none)

pub first-group : (f : Forest) (p r : Row) → row_of f ≡ row.group p r → IsGroupFirst f p r
first-group nothing p r e = absurd (let none : ⊥ = cc in none)
first-group (word span text rest) p r e = absurd (let none : ⊥ = cc in none)
first-group (group span parts rest) p r e = record { span = span; parts = parts; rest = rest; is = refl; inner = cc; row = cc }

pub no-form : (f : Forest) → row_of f ≡ row.nil → f ≡ nothing
no-form nothing e = refl
no-form (word span text rest) e = absurd (let none : ⊥ = cc in none)
no-form (group span parts rest) e = absurd (let none : ⊥ = cc in none)

-- words alone
record AreWordsOf (f : Forest) (name : Name) : Type 0 where
  all : are_words f ≡ true
  texts : texts_of f ≡ name

words-read : (name : Name) (f : Forest) → row_of f ≡ words name → AreWordsOf f name
words-read [] f e = subst (λ (g : Forest). AreWordsOf g []) (sym (no-form f e)) (record { all = refl; texts = refl })
words-read (w ∷ ws) f e =
    let i = first-word f w (words ws) e in
    let later = words-read ws i.rest i.row in
    subst (λ (g : Forest). AreWordsOf g (w ∷ ws)) (sym i.is) (record { all = later.all; texts = ap (λ ts. w ∷ ts) later.texts })

-- a value that a test lets pass
when : {X Y : Type 0} (F : X → List Flaw) (G : X → Y) (d : List Flaw) (e : Y) (b : Bool) (x : X) (y : Y) → b ≡ true → IsRead (F x) (G x) y → IsRead (option_map_or F (only_if b x) d) (option_map_or G (only_if b x) e) y
when F G d e true x y h is = is
when F G d e false x y h is = absurd (let none : ⊥ = cc in none)

-- a number that is known
known : (o : Option ℕ) (n : ℕ) (span : Span) (kind : FaultKind) → o ≡ Some n → IsRead (read.flaw_unless (is_some o) span kind) (unwrap_or o 0) n
known None n span kind e = absurd (let none : ⊥ = cc in none)
known (Some m) n span kind e = record { none = refl; same = cc }

named-read : (names : List Name) (n : ℕ) (f : Forest) (span : Span) (kind : FaultKind) → AreDistinct names → n < length names → row_of f ≡ words (name_at names n)
    → IsRead (read.flaw_unless (read.is_known names f) span kind) (read.number_of_words names f) n
named-read names n f span kind distinct inside e =
    let w = words-read (name_at names n) f e in
    subst (λ (name : Name). IsRead (read.flaw_unless (is_some (read.number_of_name names name)) span kind) (unwrap_or (read.number_of_name names name) 0) n) (sym w.texts)
    (known (read.number_of_name names (name_at names n)) n span kind (number-known names n distinct inside))

begins-other : (w : List ℕ) (name : Name) (f : Forest) → row_of f ≡ words name → first_word name ≢ w → begins_with w f ≡ false
begins-other w [] f e apart = subst (λ (g : Forest). begins_with w g ≡ false) (sym (no-form f e)) refl
begins-other w (x ∷ xs) f e apart =
    let i = first-word f x (words xs) e in
    subst (λ (g : Forest). begins_with w g ≡ false) (sym i.is) (differs (bytes_eq x w) (bytes_eq-Decides x w) apart)

atom-tests : (v w : Bool) (outer span : Span) (rest : List Flaw) → v ≡ true → w ≡ false → rest ≡ [] → (if not v then flaw_at outer BadForm ∷ [] else if w then flaw_at span BadForm ∷ [] else rest) ≡ []
atom-tests true false outer span rest e f g = g
atom-tests true true outer span rest e f g = absurd (let none : ⊥ = cc in none)
atom-tests false w outer span rest e f g = absurd (let none : ⊥ = cc in none)

atom-read : (fluents : List Name) (n : ℕ) (f : Forest) (outer span : Span) → AreFluentNames fluents → n < length fluents → row_of f ≡ words (name_at fluents n)
    → IsRead (read.atom_flaws fluents outer span f) (read.number_of_words fluents f) n
atom-read fluents n f outer span names inside e =
    let w = words-read (name_at fluents n) f e in
    let is = named-read fluents n f span UnknownName names.distinct inside e in
    record {
      none = atom-tests (are_words f) (begins_with (codes "not") f) outer span (read.flaw_unless (read.is_known fluents f) span UnknownName) w.all
          (begins-other (codes "not") (name_at fluents n) f e (names.no_not n [] inside)) is.none;
      same = is.same;
    }

literal-read : (fluents : List Name) → AreFluentNames fluents → (l : Lit) → l.fluent.0 < length fluents → (span : Span) (parts : Forest) → row_of parts ≡ literal_row fluents l
    → IsRead (read.literal_flaws fluents span parts) (read.literal_tree fluents parts) l
literal-read fluents names l inside span parts e = by_sign l.positive refl e
  where
    by_sign : (v : Bool) → l.positive ≡ v → row_of parts ≡ (if v then words (name_at fluents l.fluent.0) else row.word (codes "not") (row.group (words (name_at fluents l.fluent.0)) row.nil))
        → IsRead (read.literal_flaws fluents span parts) (read.literal_tree fluents parts) l
    by_sign true v e =
        let n = l.fluent.0 in
        let is = atom-read fluents n parts span span names inside e in
        let plain : begins_with (codes "not") parts ≡ false = begins-other (codes "not") (name_at fluents n) parts e (names.no_not n [] inside) in
        let none : group_after (codes "not") parts ≡ None = ap (λ b. option_and_then only_group (if b then Some (after_first parts) else None)) plain in
        record {
          none = ap (λ o. option_map_or (λ (atom : Span × Forest). read.atom_flaws fluents span atom.0 atom.1) o (read.atom_flaws fluents span span parts)) none ∙ is.none;
          same = ap (λ o. option_map_or (λ (atom : Span × Forest). literal (read.number_of_words fluents atom.1) false) o (literal (read.number_of_words fluents parts) true)) none
              ∙ (ap (λ m. literal m true) is.same ∙ ap (λ b. literal n b) (sym v));
        }
    by_sign false v e =
        let n = l.fluent.0 in
        let first = first-word parts (codes "not") (row.group (words (name_at fluents n)) row.nil) e in
        let second = first-group first.rest (words (name_at fluents n)) row.nil first.row in
        let last = no-form second.rest second.row in
        let is = atom-read fluents n second.parts span second.span names inside second.inner in
        let shape : parts ≡ word first.span (codes "not") (group second.span second.parts nothing) =
        first.is ∙ (ap (word first.span (codes "not")) second.is ∙ ap (λ (t : Forest). word first.span (codes "not") (group second.span second.parts t)) last) in
        subst (λ (f : Forest). IsRead (read.literal_flaws fluents span f) (read.literal_tree fluents f) l) (sym shape)
        (record { none = is.none; same = ap (λ m. literal m false) is.same ∙ ap (λ b. literal n b) (sym v) })

-- a row of groups
pub groups-read : {X : Type 0} (P : X → Type 0) (g : X → Row) (flaws : Span → Forest → List Flaw) (tree : Forest → X)
    → ((x : X) → P x → (span : Span) (parts : Forest) → row_of parts ≡ g x → IsRead (flaws span parts) (tree parts) x)
    → (xs : List X) → All P xs → (f : Forest) → row_of f ≡ groups g xs → IsRead (flaws_of_groups flaws f) (each_group tree f) xs
groups-read P g flaws tree each [] all f e =
    subst (λ (t : Forest). IsRead (flaws_of_groups flaws t) (each_group tree t) []) (sym (no-form f e)) (record { none = refl; same = refl })
groups-read {X = X} P g flaws tree each (x ∷ xs) all f e =
    let first = first-group f (g x) (groups g xs) e in
    let one = each x (All-head P x xs all) first.span first.parts first.inner in
    let others = groups-read P g flaws tree each xs (All-tail P x xs all) first.rest first.row in
    subst (λ (t : Forest). IsRead (flaws_of_groups flaws t) (each_group tree t) (x ∷ xs)) (sym first.is)
    (record {
      none = ap (λ fs. fs ++ flaws_of_groups flaws first.rest) one.none ∙ others.none;
      same = ap (λ (y : X). y ∷ each_group tree first.rest) one.same ∙ ap (λ ys. x ∷ ys) others.same;
    })

cube-read : (fluents : List Name) → AreFluentNames fluents → (cube : Cube) → IsCubeOf (length fluents) cube → (f : Forest) → row_of f ≡ cube_row fluents cube
    → IsRead (read.cube_flaws fluents f) (read.cube_tree fluents f) cube
cube-read fluents names cube all f e =
    groups-read (λ (l : Lit). l.fluent.0 < length fluents) (literal_row fluents) (read.literal_flaws fluents) (read.literal_tree fluents) (literal-read fluents names) cube all f e

-- two parts, one after the other
joined : (fs gs : List Flaw) → fs ≡ [] → gs ≡ [] → fs ++ gs ≡ []
joined fs gs e f = ap (λ hs. hs ++ gs) e ∙ f

abbrev rule_from : Cube → ℕ → PlanRule
rule_from cube action = record { cube = cube; action = action }

pub rule-read : (fluents actions : List Name) → AreFluentNames fluents → AreActionNames actions → (rule : PlanRule) → IsRuleOf (length fluents) (length actions) rule
    → (span : Span) (parts : Forest) → row_of parts ≡ rule_row fluents actions rule → IsRead (read.table_rule_flaws fluents actions span parts) (read.table_rule_tree fluents actions parts) rule
rule-read fluents actions names anames rule is span parts e =
    let a = first-word parts (codes "rule") (row.group (cube_row fluents rule.cube) (row.group (words (name_at actions rule.action)) row.nil)) e in
    let b = first-group a.rest (cube_row fluents rule.cube) (row.group (words (name_at actions rule.action)) row.nil) a.row in
    let c = first-group b.rest (words (name_at actions rule.action)) row.nil b.row in
    let last = no-form c.rest c.row in
    let cube = cube-read fluents names rule.cube is.cube b.parts b.inner in
    let act = named-read actions rule.action c.parts c.span UnknownAction anames.distinct is.action c.inner in
    let all = words-read (name_at actions rule.action) c.parts c.inner in
    let shape : parts ≡ word a.span (codes "rule") (group b.span b.parts (group c.span c.parts nothing)) =
    a.is ∙ (ap (word a.span (codes "rule")) b.is ∙ (ap (λ (t : Forest). word a.span (codes "rule") (group b.span b.parts t)) c.is
    ∙ ap (λ (t : Forest). word a.span (codes "rule") (group b.span b.parts (group c.span c.parts t))) last)) in
    subst (λ (f : Forest). IsRead (read.table_rule_flaws fluents actions span f) (read.table_rule_tree fluents actions f) rule) (sym shape)
    (when (λ (p : read.TableRuleParts). read.cube_flaws fluents p.cube ++ read.action_flaws actions p.action_span p.action)
    (λ (p : read.TableRuleParts). rule_from (read.cube_tree fluents p.cube) (read.number_of_words actions p.action))
    (flaw_at span BadForm ∷ []) read.no_rule (are_words c.parts) (record { cube = b.parts; action_span = c.span; action = c.parts }) rule all.all
    (record {
      none = joined (read.cube_flaws fluents b.parts) (read.action_flaws actions c.span c.parts) cube.none act.none;
      same = ap (λ (q : Cube). rule_from q (read.number_of_words actions c.parts)) cube.same ∙ ap (λ m. rule_from rule.cube m) act.same;
    }))

-- a number from 1 up to the number of contexts
number-read : (contexts n : ℕ) (span : Span) → contexts ≤ most_contexts → IsContextOf contexts n
    → IsRead (read.number_flaws contexts (of_word span (decimal n))) (read.number_tree contexts (of_word span (decimal n))) n
number-read contexts n span small is =
    known (read.number_within contexts (decimal n)) n span BadNumber (number-decimal contexts n small is)

abbrev case_from : Cube → ℕ → PlanCase
case_from cube context = record { cube = cube; context = context }

case-read : (fluents : List Name) (contexts : ℕ) → AreFluentNames fluents → contexts ≤ most_contexts → (case : PlanCase) → IsCaseOf (length fluents) contexts case
    → (span : Span) (parts : Forest) → row_of parts ≡ case_row fluents case → IsRead (read.case_flaws fluents contexts span parts) (read.case_tree fluents contexts parts) case
case-read fluents contexts names small case is span parts e =
    let a = first-group parts (cube_row fluents case.cube) (row.word (decimal case.context) row.nil) e in
    let b = first-word a.rest (decimal case.context) row.nil a.row in
    let last = no-form b.rest b.row in
    let cube = cube-read fluents names case.cube is.cube a.parts a.inner in
    let number = number-read contexts case.context b.span small is.context in
    let shape : parts ≡ group a.span a.parts (word b.span (decimal case.context) nothing) =
    a.is ∙ (ap (group a.span a.parts) b.is ∙ ap (λ (t : Forest). group a.span a.parts (word b.span (decimal case.context) t)) last) in
    subst (λ (f : Forest). IsRead (read.case_flaws fluents contexts span f) (read.case_tree fluents contexts f) case) (sym shape)
    (record {
      none = joined (read.cube_flaws fluents a.parts) (read.number_flaws contexts (of_word b.span (decimal case.context))) cube.none number.none;
      same = ap (λ (q : Cube). case_from q (read.number_tree contexts (of_word b.span (decimal case.context)))) cube.same
          ∙ ap (λ m. case_from case.cube m) number.same;
    })

-- the next context at the end of a rule
record IsNextRead (fluents : List Name) (contexts : ℕ) (f : Forest) (next : PlanNext) : Type 0 where
  item : Item
  is : first_item f ≡ Some (item, nothing)
  read : IsRead (read.next_flaws fluents contexts item) (read.next_tree fluents contexts item) next

next-read : (fluents : List Name) (contexts : ℕ) → AreFluentNames fluents → contexts ≤ most_contexts → (next : PlanNext) → IsNextOf (length fluents) contexts next
    → (f : Forest) → row_of f ≡ next_row fluents next → IsNextRead fluents contexts f next
next-read fluents contexts names small (always n) is f e =
    let a = first-word f (decimal n) row.nil e in
    let number = number-read contexts n a.span small is in
    record {
      item = of_word a.span (decimal n);
      is = ap first_item a.is ∙ ap (λ (t : Forest). Some (of_word a.span (decimal n), t)) (no-form a.rest a.row);
      read = record { none = number.none; same = ap always number.same };
    }
next-read fluents contexts names small (by_cases cases) is f e =
    let a = first-group f (groups (case_row fluents) cases) row.nil e in
    let each = groups-read (IsCaseOf (length fluents) contexts) (case_row fluents) (read.case_flaws fluents contexts) (read.case_tree fluents contexts)
    (case-read fluents contexts names small) cases is a.parts a.inner in
    record {
      item = of_group a.span a.parts;
      is = ap first_item a.is ∙ ap (λ (t : Forest). Some (of_group a.span a.parts, t)) (no-form a.rest a.row);
      read = record { none = each.none; same = ap by_cases each.same };
    }

abbrev context_rule_from : ℕ → Cube → ℕ → PlanNext → ContextRule
context_rule_from context cube action next = record { context = context; cube = cube; action = action; next = next }

abbrev flaws_of_parts : List Name → List Name → ℕ → read.ContextRuleParts → List Flaw
flaws_of_parts fluents actions contexts p =
    read.number_flaws contexts p.context ++ read.cube_flaws fluents p.cube ++ read.action_flaws actions p.action_span p.action ++ read.next_flaws fluents contexts p.next

abbrev tree_of_parts : List Name → List Name → ℕ → read.ContextRuleParts → ContextRule
tree_of_parts fluents actions contexts p =
    context_rule_from (read.number_tree contexts p.context) (read.cube_tree fluents p.cube) (read.number_of_words actions p.action) (read.next_tree fluents contexts p.next)

abbrev made : ContextRule → Span → Forest → Span → Forest → Item × Forest → Option read.ContextRuleParts
made rule s cube t action next =
    only_if (is_nothing next.1 && are_words action) (record { context = of_word s (decimal rule.context); cube = cube; action_span = t; action = action; next = next.0 })

pub context_rule-read : (fluents actions : List Name) (contexts : ℕ) → AreFluentNames fluents → AreActionNames actions → contexts ≤ most_contexts
    → (rule : ContextRule) → IsContextRuleOf (length fluents) (length actions) contexts rule → (span : Span) (parts : Forest) → row_of parts ≡ context_rule_row fluents actions rule
    → IsRead (read.context_rule_flaws fluents actions contexts span parts) (read.context_rule_tree fluents actions contexts parts) rule
context_rule-read fluents actions contexts names anames small rule is span parts e =
    let act_row = row.group (words (name_at actions rule.action)) (next_row fluents rule.next) in
    let a = first-word parts (codes "rule") (row.word (decimal rule.context) (row.group (cube_row fluents rule.cube) act_row)) e in
    let n = first-word a.rest (decimal rule.context) (row.group (cube_row fluents rule.cube) act_row) a.row in
    let b = first-group n.rest (cube_row fluents rule.cube) act_row n.row in
    let c = first-group b.rest (words (name_at actions rule.action)) (next_row fluents rule.next) b.row in
    let next = next-read fluents contexts names small rule.next is.next c.rest c.row in
    let number = number-read contexts rule.context n.span small is.context in
    let cube = cube-read fluents names rule.cube is.cube b.parts b.inner in
    let act = named-read actions rule.action c.parts c.span UnknownAction anames.distinct is.action c.inner in
    let all = words-read (name_at actions rule.action) c.parts c.inner in
    let x = read.number_flaws contexts (of_word n.span (decimal rule.context)) in
    let y = read.cube_flaws fluents b.parts in
    let z = read.action_flaws actions c.span c.parts in
    let w = read.next_flaws fluents contexts next.item in
    let shape : parts ≡ word a.span (codes "rule") (word n.span (decimal rule.context) (group b.span b.parts (group c.span c.parts c.rest))) =
    a.is ∙ (ap (word a.span (codes "rule")) n.is ∙ (ap (λ (t : Forest). word a.span (codes "rule") (word n.span (decimal rule.context) t)) b.is
    ∙ ap (λ (t : Forest). word a.span (codes "rule") (word n.span (decimal rule.context) (group b.span b.parts t))) c.is)) in
    subst (λ (f : Forest). IsRead (read.context_rule_flaws fluents actions contexts span f) (read.context_rule_tree fluents actions contexts f) rule) (sym shape)
    (subst (λ (o : Option (Item × Forest)). IsRead (option_map_or (flaws_of_parts fluents actions contexts) (option_and_then (made rule n.span b.parts c.span c.parts) o) (flaw_at span BadForm ∷ []))
    (option_map_or (tree_of_parts fluents actions contexts) (option_and_then (made rule n.span b.parts c.span c.parts) o) read.no_context_rule) rule) (sym next.is)
    (when (flaws_of_parts fluents actions contexts) (tree_of_parts fluents actions contexts)
    (flaw_at span BadForm ∷ []) read.no_context_rule (are_words c.parts)
    (record { context = of_word n.span (decimal rule.context); cube = b.parts; action_span = c.span; action = c.parts; next = next.item }) rule all.all
    (record {
      none = joined (x ++ y ++ z) w (joined (x ++ y) z (joined x y number.none cube.none) act.none) next.read.none;
      same = ap (λ m. context_rule_from m (read.cube_tree fluents b.parts) (read.number_of_words actions c.parts) (read.next_tree fluents contexts next.item)) number.same
          ∙ (ap (λ (q : Cube). context_rule_from rule.context q (read.number_of_words actions c.parts) (read.next_tree fluents contexts next.item)) cube.same
          ∙ (ap (λ m. context_rule_from rule.context rule.cube m (read.next_tree fluents contexts next.item)) act.same
          ∙ ap (λ (q : PlanNext). context_rule_from rule.context rule.cube rule.action q) next.read.same));
    })))
