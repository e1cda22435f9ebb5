-- A plan that is read without flaws is one of the task: its fluents, its actions and its contexts
-- are.
use Rattle.std.proofs.Common.{◌≡◌, ℕ, ◌<◌, Bool, true, false, not, ◌&&◌, List, [], ◌∷◌, ◌++◌, length, codes, refl, ap, sym, subst, ◌∙◌, arith}
use Rattle.std.specs.Prelude.{Option, Some, None, is_some, unwrap_or, if◌then◌else◌, nat_le}
use Rattle.std.specs.Option.{option_map, option_map_or, option_and_then}
use Rattle.std.specs.List.{All}
use Rattle.std.specs.Str.{bytes_eq}
use Rattle.std.specs.Cmp.Lexicographic.{pointwise}
use Rattle.std.proofs.lemmas.Bool.Decides.{nat_tests}
use Rattle.std.proofs.lemmas.List.Elements.{All-nil, All-cons}
use Rattle.std.proofs.lemmas.List.Quantifiers.{position-Some}
use Rattle.sexpr_text.specs.declared.forms.Place.{Place}
use Rattle.sexpr_text.specs.declared.forms.Span.{Span}
use Rattle.sexpr_text.specs.declared.faults.FaultKind.{FaultKind}
use Rattle.sexpr_text.specs.declared.faults.FaultKind.TheVariants.{BadForm, UnknownName, UnknownAction, BadNumber}
use Rattle.sexpr_text.specs.Flaws.{Flaw, flaw_at}
use Rattle.sexpr_text.specs.Forest.{Forest, nothing, word, group}
use Rattle.sexpr_text.specs.Numerals.{numeral}
use Rattle.sexpr_text.specs.Parts.{begins_with, after_first, group_after, flaws_of_groups, each_group, texts_of, are_words}
use Rattle.task_core.specs.Cubes as cubes
use Rattle.task_core.specs.declared.literals.Lit.{Lit}
use Rattle.task_core.specs.Names.{Name}
use Rattle.plan_rules.specs.Items.{Item, of_word, of_group, item_span, only_if, first_item}
use Rattle.plan_rules.specs.Plans.{most_contexts, IsCubeOf, IsRuleOf, IsContextOf, IsCaseOf, IsNextOf, IsContextRuleOf, IsAutomatonOf, IsPlainPlanOf}
use Rattle.plan_rules.specs.Rules.{PlainPlan}
use Rattle.plan_rules.specs.Readings as read
use Rattle.list_laws.proofs.Options.{nil-first, nil-second, in_option}

-- what is read where there are no flaws, along an option

pub a_flaw : {P : Type 0} (f : Flaw) → f ∷ [] ≡ [] → P
a_flaw f e = absurd (let none : ⊥ = cc in none)

pub in_groups : {X : Type 0} (P : X → Type 0) (flaws : Span → Forest → List Flaw) (tree : Forest → X)
    → ((span : Span) (parts : Forest) → flaws span parts ≡ [] → P (tree parts)) → (row : Forest) → flaws_of_groups flaws row ≡ [] → All P (each_group tree row)
in_groups P flaws tree each nothing h = All-nil P
in_groups P flaws tree each (word span text rest) h = a_flaw (flaw_at span BadForm) (cc)
in_groups P flaws tree each (group span parts rest) h =
    All-cons P (tree parts) (each_group tree rest) (each span parts (nil-first (flaws span parts) (flaws_of_groups flaws rest) h))
    (in_groups P flaws tree each rest (nil-second (flaws span parts) (flaws_of_groups flaws rest) h))

in_known : (P : ℕ → Type 0) (o : Option ℕ) (span : Span) (kind : FaultKind) → ((n : ℕ) → o ≡ Some n → P n) → read.flaw_unless (is_some o) span kind ≡ [] → P (unwrap_or o 0)
in_known P None span kind each h = a_flaw (flaw_at span kind) h
in_known P (Some n) span kind each h = each n refl

number_below : (names : List Name) (name : Name) (n : ℕ) → read.number_of_name names name ≡ Some n → n < length names
number_below names name n e = (position-Some (pointwise bytes_eq name) names n [] e).0

atom : (fluents : List Name) (outer span : Span) (row : Forest) → read.atom_flaws fluents outer span row ≡ [] → read.number_of_words fluents row < length fluents
atom fluents outer span row h = by_tests (not (are_words row)) (begins_with (codes "not") row) h
  where
    by_tests : (v w : Bool) → (if v then flaw_at outer BadForm ∷ [] else if w then flaw_at span BadForm ∷ [] else read.flaw_unless (read.is_known fluents row) span UnknownName) ≡ [] → read.number_of_words fluents row < length fluents
    by_tests true w e = a_flaw (flaw_at outer BadForm) e
    by_tests false true e = a_flaw (flaw_at span BadForm) e
    by_tests false false e = in_known (λ n. n < length fluents) (read.number_of_name fluents (texts_of row)) span UnknownName (number_below fluents (texts_of row)) e

literal : (fluents : List Name) (span : Span) (parts : Forest) → read.literal_flaws fluents span parts ≡ [] → (read.literal_tree fluents parts).fluent.0 < length fluents
literal fluents span parts h =
    in_option (λ (lit : Lit). lit.fluent.0 < length fluents)
    (λ (found : Span × Forest). read.atom_flaws fluents span found.0 found.1) (λ (found : Span × Forest). cubes.literal (read.number_of_words fluents found.1) false)
    (read.atom_flaws fluents span span parts) (cubes.literal (read.number_of_words fluents parts) true) (group_after (codes "not") parts)
    (λ found e. atom fluents span found.0 found.1 e) (λ e. atom fluents span span parts e) h

cube : (fluents : List Name) (row : Forest) → read.cube_flaws fluents row ≡ [] → IsCubeOf (length fluents) (read.cube_tree fluents row)
cube fluents row h =
    in_groups (λ (lit : Lit). lit.fluent.0 < length fluents) (read.literal_flaws fluents) (read.literal_tree fluents) (literal fluents) row h

action : (actions : List Name) (span : Span) (row : Forest) → read.action_flaws actions span row ≡ [] → read.number_of_words actions row < length actions
action actions span row h = in_known (λ n. n < length actions) (read.number_of_name actions (texts_of row)) span UnknownAction (number_below actions (texts_of row)) h

within : (most : ℕ) (text : List ℕ) (n : ℕ) → read.number_within most text ≡ Some n → IsContextOf most n
within most text n e = by_numeral (numeral text) e
  where
    by_test : (m : ℕ) (b : Bool) → (nat_le 1 m && nat_le m most) ≡ b → only_if b m ≡ Some n → IsContextOf most n
    by_test m false f e = absurd (let none : ⊥ = cc in none)
    by_test m true f e =
        let same : m ≡ n = cc in
        let low : nat_le 1 m ≡ true = grind arith in
        let high : nat_le m most ≡ true = grind arith in
        record { first = grind (arith, nat_tests); last = grind (arith, nat_tests) }

    by_numeral : (o : Option ℕ) → option_and_then (λ m. only_if (nat_le 1 m && nat_le m most) m) o ≡ Some n → IsContextOf most n
    by_numeral None e = absurd (let none : ⊥ = cc in none)
    by_numeral (Some m) e = by_test m (nat_le 1 m && nat_le m most) refl e

number : (most : ℕ) (item : Item) → read.number_flaws most item ≡ [] → IsContextOf most (read.number_tree most item)
number most (of_word span text) h = in_known (IsContextOf most) (read.number_within most text) span BadNumber (within most text) h
number most (of_group span parts) h = a_flaw (flaw_at span BadForm) h

table_rule : (fluents actions : List Name) (span : Span) (parts : Forest) → read.table_rule_flaws fluents actions span parts ≡ [] → IsRuleOf (length fluents) (length actions) (read.table_rule_tree fluents actions parts)
table_rule fluents actions span parts h =
    in_option (IsRuleOf (length fluents) (length actions))
    (λ (p : read.TableRuleParts). read.cube_flaws fluents p.cube ++ read.action_flaws actions p.action_span p.action)
    (λ (p : read.TableRuleParts). record { cube = read.cube_tree fluents p.cube; action = read.number_of_words actions p.action })
    (flaw_at span BadForm ∷ []) read.no_rule (read.table_rule_parts parts)
    (λ p e. record {
      cube = cube fluents p.cube (nil-first (read.cube_flaws fluents p.cube) (read.action_flaws actions p.action_span p.action) e);
      action = action actions p.action_span p.action (nil-second (read.cube_flaws fluents p.cube) (read.action_flaws actions p.action_span p.action) e);
    })
    (a_flaw (flaw_at span BadForm)) h

case : (fluents : List Name) (contexts : ℕ) (span : Span) (parts : Forest) → read.case_flaws fluents contexts span parts ≡ [] → IsCaseOf (length fluents) contexts (read.case_tree fluents contexts parts)
case fluents contexts span parts h =
    in_option (IsCaseOf (length fluents) contexts)
    (λ (p : Forest × Item). read.cube_flaws fluents p.0 ++ read.number_flaws contexts p.1)
    (λ (p : Forest × Item). record { cube = read.cube_tree fluents p.0; context = read.number_tree contexts p.1 })
    (flaw_at span BadForm ∷ []) (record { cube = []; context = 0 }) (read.case_parts parts)
    (λ p e. record {
      cube = cube fluents p.0 (nil-first (read.cube_flaws fluents p.0) (read.number_flaws contexts p.1) e);
      context = number contexts p.1 (nil-second (read.cube_flaws fluents p.0) (read.number_flaws contexts p.1) e);
    })
    (a_flaw (flaw_at span BadForm)) h

next : (fluents : List Name) (contexts : ℕ) (item : Item) → read.next_flaws fluents contexts item ≡ [] → IsNextOf (length fluents) contexts (read.next_tree fluents contexts item)
next fluents contexts (of_word span text) h = number contexts (of_word span text) h
next fluents contexts (of_group span parts) h =
    in_groups (IsCaseOf (length fluents) contexts) (read.case_flaws fluents contexts) (read.case_tree fluents contexts) (case fluents contexts) parts h

context_rule : (fluents actions : List Name) (contexts : ℕ) (span : Span) (parts : Forest) → read.context_rule_flaws fluents actions contexts span parts ≡ [] → IsContextRuleOf (length fluents) (length actions) contexts (read.context_rule_tree fluents actions contexts parts)
context_rule fluents actions contexts span parts h =
    in_option (IsContextRuleOf (length fluents) (length actions) contexts)
    (λ (p : read.ContextRuleParts). read.number_flaws contexts p.context ++ read.cube_flaws fluents p.cube ++ read.action_flaws actions p.action_span p.action ++ read.next_flaws fluents contexts p.next)
    (λ (p : read.ContextRuleParts). record {
      context = read.number_tree contexts p.context;
      cube = read.cube_tree fluents p.cube;
      action = read.number_of_words actions p.action;
      next = read.next_tree fluents contexts p.next;
    })
    (flaw_at span BadForm ∷ []) read.no_context_rule (read.context_rule_parts parts)
    (λ p e.
    let a = read.number_flaws contexts p.context in
    let b = read.cube_flaws fluents p.cube in
    let c = read.action_flaws actions p.action_span p.action in
    let d = read.next_flaws fluents contexts p.next in
    let three : a ++ b ++ c ≡ [] = nil-first (a ++ b ++ c) d e in
    let two : a ++ b ≡ [] = nil-first (a ++ b) c three in
    record {
      context = number contexts p.context (nil-first a b two);
      cube = cube fluents p.cube (nil-second a b two);
      action = action actions p.action_span p.action (nil-second (a ++ b) c three);
      next = next fluents contexts p.next (nil-second (a ++ b ++ c) d e);
    })
    (a_flaw (flaw_at span BadForm)) h

table : (fluents actions : List Name) (span : Span) (row : Forest) → read.table_flaws fluents actions span row ≡ [] → IsPlainPlanOf (length fluents) (length actions) (read.table_tree fluents actions row)
table fluents actions span row h =
    in_option (IsPlainPlanOf (length fluents) (length actions))
    (λ (class : Item × Forest). if is_some (read.class_named class.0) then flaws_of_groups (read.table_rule_flaws fluents actions) class.1 else flaw_at (item_span class.0) BadForm ∷ [])
    (λ (class : Item × Forest). read.table_of class.0 (each_group (read.table_rule_tree fluents actions) class.1))
    (flaw_at span BadForm ∷ []) read.no_table (first_item row)
    (λ class e. by_test class (is_some (read.class_named class.0)) e) (a_flaw (flaw_at span BadForm)) h
  where
    by_test : (class : Item × Forest) (b : Bool) → (if b then flaws_of_groups (read.table_rule_flaws fluents actions) class.1 else flaw_at (item_span class.0) BadForm ∷ []) ≡ [] → All (IsRuleOf (length fluents) (length actions)) (each_group (read.table_rule_tree fluents actions) class.1)
    by_test class true e = in_groups (IsRuleOf (length fluents) (length actions)) (read.table_rule_flaws fluents actions) (read.table_rule_tree fluents actions) (table_rule fluents actions) class.1 e
    by_test class false e = a_flaw (flaw_at (item_span class.0) BadForm) e

contexts : (fluents actions : List Name) (item : Item) (row : Forest) → read.contexts_flaws fluents actions item row ≡ [] → IsPlainPlanOf (length fluents) (length actions) (read.contexts_tree fluents actions (read.number_tree most_contexts item) row)
contexts fluents actions (of_group span parts) row h = a_flaw (flaw_at span BadForm) h
contexts fluents actions (of_word span text) row h = by_number (read.number_within most_contexts text) refl h
  where
    by_number : (o : Option ℕ) → read.number_within most_contexts text ≡ o → option_map_or (λ n. flaws_of_groups (read.context_rule_flaws fluents actions n) row) o (flaw_at span BadNumber ∷ []) ≡ [] → IsAutomatonOf (length fluents) (length actions) (unwrap_or o 0) (each_group (read.context_rule_tree fluents actions (unwrap_or o 0)) row)
    by_number None e h = a_flaw (flaw_at span BadNumber) h
    by_number (Some n) e h = record {
      number = within most_contexts text n e;
      each = in_groups (IsContextRuleOf (length fluents) (length actions) n) (read.context_rule_flaws fluents actions n) (read.context_rule_tree fluents actions n) (context_rule fluents actions n) row h;
    }

automaton : (fluents actions : List Name) (span : Span) (row : Forest) → read.automaton_flaws fluents actions span row ≡ [] → IsPlainPlanOf (length fluents) (length actions) (read.automaton_tree fluents actions row)
automaton fluents actions span row h =
    in_option (IsPlainPlanOf (length fluents) (length actions))
    (λ (n : Item × Forest). read.contexts_flaws fluents actions n.0 n.1)
    (λ (n : Item × Forest). read.contexts_tree fluents actions (read.number_tree most_contexts n.0) n.1)
    (flaw_at span BadForm ∷ []) read.no_automaton (first_item row)
    (λ n e. contexts fluents actions n.0 n.1 e) (a_flaw (flaw_at span BadForm)) h

of_kind : (fluents actions : List Name) (kind : read.Kind) (span : Span) (row : Forest) → read.flaws_of_kind kind fluents actions span row ≡ [] → IsPlainPlanOf (length fluents) (length actions) (read.tree_of_kind kind fluents actions row)
of_kind fluents actions read.table_kind span row h = table fluents actions span row h
of_kind fluents actions read.automaton_kind span row h = automaton fluents actions span row h

plan : (fluents actions : List Name) (span : Span) (row : Forest) → read.plan_flaws fluents actions span row ≡ [] → IsPlainPlanOf (length fluents) (length actions) (read.plan_tree fluents actions row)
plan fluents actions span row h =
    in_option (IsPlainPlanOf (length fluents) (length actions))
    (λ (kind : Item × Forest). option_map_or (λ k. read.flaws_of_kind k fluents actions span kind.1) (read.kind_named kind.0) (flaw_at (item_span kind.0) BadForm ∷ []))
    (λ (kind : Item × Forest). option_map_or (λ k. read.tree_of_kind k fluents actions kind.1) (read.kind_named kind.0) read.no_table)
    (flaw_at span BadForm ∷ []) read.no_table (first_item row)
    (λ kind e. in_option (IsPlainPlanOf (length fluents) (length actions)) (λ k. read.flaws_of_kind k fluents actions span kind.1) (λ k. read.tree_of_kind k fluents actions kind.1)
    (flaw_at (item_span kind.0) BadForm ∷ []) read.no_table (read.kind_named kind.0) (λ k f. of_kind fluents actions k span kind.1 f) (a_flaw (flaw_at (item_span kind.0) BadForm)) e)
    (a_flaw (flaw_at span BadForm)) h

same_plan : (p q : PlainPlan) (a b : Place) (o : Option (PlainPlan × Place)) → o ≡ Some (q, b) → o ≡ Some (p, a) → q ≡ p
same_plan p q a b o e f = ap (λ (x : Option (PlainPlan × Place)). (unwrap_or x (q, b)).0) (sym e ∙ f)

pub read-in_task : (fluents actions : List Name) (trees : Forest) (p : PlainPlan) (place : Place) → read.text_flaws fluents actions trees ≡ [] → read.plan_read fluents actions trees ≡ Some (p, place) → IsPlainPlanOf (length fluents) (length actions) p
read-in_task fluents actions trees p place h e = by_list (read.plan_list trees) h e
  where
    by_list : (o : Option (Span × Forest)) → option_map_or (λ (found : Span × Forest). read.plan_flaws fluents actions found.0 (after_first found.1)) o (read.no_plan ∷ []) ≡ [] → option_map {U = PlainPlan × Place} (λ (found : Span × Forest). (read.plan_tree fluents actions (after_first found.1), found.0.place)) o ≡ Some (p, place) → IsPlainPlanOf (length fluents) (length actions) p
    by_list None f g = a_flaw read.no_plan f
    by_list (Some found) f g =
        let same : read.plan_tree fluents actions (after_first found.1) ≡ p =
        same_plan p (read.plan_tree fluents actions (after_first found.1)) place found.0.place (Some (read.plan_tree fluents actions (after_first found.1), found.0.place)) refl g in
        subst (IsPlainPlanOf (length fluents) (length actions)) same (plan fluents actions found.0 (after_first found.1) f)
