-- The rules that are listed are those of a plan for the task.
use Rattle.std.proofs.Common.{◌≡◌, ℕ, ◌+◌, ◌<◌, ◌≤◌, List, ◌++◌, All, map, IfErr, OnOk, Result, Ok, Err, sym, ap, subst, ◌∙◌, arith}
use Rattle.std.proofs.lemmas.List.Elements.{All-append, All-map, All-weaker}
use Rattle.dd_sets.specs.declared.errors.SetErr.{SetErr}
use Rattle.dd_sets.specs.declared.errors.SetErr.TheVariants.{Full, Memory}
use Rattle.plan_theory.specs.ContextRules.{rule_for, rules_for}
use Rattle.plan_theory.proofs.PrintedWithin.{cubes_below}
use Rattle.plan_rules.specs.Plans.{IsContextOf, IsContextRuleOf, IsCubeOf}
use Rattle.plan_rules.specs.Rules.{ContextRule, context_rule_of}
use Rattle.plan_rules.specs.declared.rules.AutoRule.{AutoRule}
use Rattle.slot_board.specs.Board.{Scene}
use Rattle.slot_board.proofs.BoardSizes.{vars_now}
use Rattle.task_core.specs.Cubes.{SetOfVectors, cubes_of}
use Rattle.task_core.specs.Tasks.{fluent_count}
use Rattle.fair_plan.specs.Boards.{IsThere, Leaves, Origin, actions_of}
use Rattle.fair_plan.specs.Rounds.{AreRules}

pub rules_more : (origin : Origin) (contexts : ℕ) (x : Scene) (context next a : ℕ) (set : SetOfVectors) (before after : List AutoRule) → IsThere origin x → IsContextOf contexts context → IsContextOf contexts next → a < actions_of origin
    → AreRules origin contexts before → map context_rule_of after ≡ map context_rule_of before ++ rules_for x.0.sets.vars context next a set → AreRules origin contexts after
rules_more origin contexts x context next a set before after there here then below are listed =
    let n = fluent_count origin.start.task in
    let within : ContextRule → Type 0 = IsContextRuleOf n (actions_of origin) contexts in
    let more : All within (rules_for n context next a set) =
    All-map within (rule_for context next a) (cubes_of n set)
    (All-weaker (IsCubeOf n) (λ cube. within (rule_for context next a cube)) (λ cube fluents. record { context = here; cube = fluents; action = below; next = then }) (cubes_of n set)
    (cubes_below 0 n n set (omega arith))) in
    let vars : x.0.sets.vars ≡ n = vars_now origin.start x.0 x.1 there.at in
    subst (λ (rules : List ContextRule). All within rules) (sym (listed ∙ ap (λ (k : ℕ). map context_rule_of before ++ rules_for k context next a set) vars))
    (All-append within (map context_rule_of before) (rules_for n context next a set) are more)

-- a listing leaves the board
pub listed_left : {T : Type 0} (origin : Origin) (y : Scene) (P Q : Type 0) (result : Result T SetErr) → IsThere origin y → IfErr result (λ e. e ≡ Memory) → OnOk result P → (P → Q) → Leaves origin y Q result
listed_left origin y P Q (Ok x) there never listed f = (there, f listed)
listed_left origin y P Q (Err e) there never listed f = (there.at, λ full. absurd (let same : Memory ≡ Full = sym never ∙ full in cc))

-- contexts
pub context_is : (contexts count i : ℕ) → count + 1 ≤ contexts → i ≤ count → IsContextOf contexts (i + 1)
context_is contexts count i few low = record { first = omega arith; last = omega arith }
