-- The forms of a cube, by what is known of the forms of a plan's rule.
use Rattle.std.proofs.Common.{◌≡◌, List, [], ◌∷◌, ◌++◌, length, codes, refl, ap, sym, ◌∙◌, arith}
use Rattle.std.specs.List.{All}
use Rattle.std.proofs.lemmas.List.{append-nil}
use Rattle.std.proofs.lemmas.List.Elements.{All-nil, All-cons, All-head}
use Rattle.sexpr_text.specs.declared.forms.Span.{Span}
use Rattle.sexpr_text.specs.Forest.{Forest, nothing, word, group}
use Rattle.sexpr_text.specs.Rows as row
use Rattle.sexpr_text.specs.Rows.{row_of}
use Rattle.task_core.specs.Cubes.{Cube}
use Rattle.task_core.specs.Names.{Name, IsName, IsWord, AreActionNames, AreFluentNames}
use Rattle.task_core.specs.declared.classes.Class.TheVariants.{Weak}
use Rattle.plan_rules.specs.Plans.{IsCubeOf, IsRuleOf}
use Rattle.plan_rules.specs.Readings.{cube_flaws, cube_tree, text_flaws}
use Rattle.plan_rules.specs.Rules.{PlanRule, table}
use Rattle.plan_rules.proofs.InTask.{read-in_task}
use Rattle.plan_rules.proofs.Printed.{cube_row, fixed}
use Rattle.plan_rules.proofs.RowRead.{IsRead, rule-read}

-- one action, with the name `a`
abbrev one_action : List Name
one_action = (codes "a" ∷ []) ∷ []

one_action-names : AreActionNames one_action
one_action-names = record {
  each = All-cons IsName (codes "a" ∷ []) [] (record { some = λ e. cc; each_word = All-cons IsWord (codes "a") [] (fixed 97 [] refl) (All-nil IsWord) }) (All-nil IsName);
  distinct = λ i j d before within. absurd (omega arith);
}

abbrev somewhere : Span
somewhere = record { start = 0; end = 0; place = record { line = 1; column = 1 } }

-- `rule (CUBE ..) (a)`
abbrev rule_forms : Forest → Forest
rule_forms cube = word somewhere (codes "rule") (group somewhere cube (group somewhere (word somewhere (codes "a") nothing) nothing))

abbrev plan_forms : Forest → Forest
plan_forms cube =
    group somewhere (word somewhere (codes "plan") (word somewhere (codes "table") (word somewhere (codes "weak") (group somewhere (rule_forms cube) nothing)))) nothing

pub cube-read : (fluents : List Name) → AreFluentNames fluents → (cube : Cube) → IsCubeOf (length fluents) cube → (f : Forest) → row_of f ≡ cube_row fluents cube → IsRead (cube_flaws fluents f) (cube_tree fluents f) cube
cube-read fluents names cube is f e =
    let rule : PlanRule = record { cube = cube; action = 0 } in
    let read = rule-read fluents one_action names one_action-names rule (record { cube = is; action = omega arith }) somewhere (rule_forms f)
    (ap (λ r. row.word (codes "rule") (row.group r (row.group (row.word (codes "a") row.nil) row.nil))) e) in
    record { none = sym (append-nil (cube_flaws fluents f)) ∙ read.none; same = ap (λ (r : PlanRule). r.cube) read.same }

pub cube-in_task : (fluents : List Name) (f : Forest) → cube_flaws fluents f ≡ [] → IsCubeOf (length fluents) (cube_tree fluents f)
cube-in_task fluents f e =
    let rule : PlanRule = record { cube = cube_tree fluents f; action = 0 } in
    let none : text_flaws fluents one_action (plan_forms f) ≡ [] = ap (λ fs. (fs ++ []) ++ []) e in
    let all : All (IsRuleOf (length fluents) 1) (rule ∷ []) = read-in_task fluents one_action (plan_forms f) (table Weak (rule ∷ [])) (somewhere.place) none refl in
    (All-head (IsRuleOf (length fluents) 1) rule [] all).cube
