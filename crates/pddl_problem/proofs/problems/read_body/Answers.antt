use Rattle.std.proofs.Common.{◌≡◌, List, [], ◌∷◌, Some, codes, ap, sym, subst, ◌∙◌}
use Rattle.std.specs.Prelude.{Option}
use Rattle.std.specs.Option.{option_map}
use Rattle.std.proofs.lemmas.Result.{err_from_is_err_and}
use Rattle.sexpr_text.specs.Flaws.{Flaw, first_listed}
use Rattle.sexpr_text.specs.Forest.{Forest, forest_of}
use Rattle.sexpr_text.specs.Passes.{IfFault}
use Rattle.pddl_ast.specs.Environment.{known_value}
use Rattle.pddl_ast.specs.Known.{Known}
use Rattle.pddl_problem.specs.Init.{init_flaws}
use Rattle.pddl_problem.specs.Problems.{Definition, goal_flaws, ctl_flaws, missing_flaws}
use Rattle.pddl_problem.specs.Sections.{items_of, section}
use Rattle.pddl_problem.specs.Values.{definition_value}
use Rattle.pddl_problem.proofs.PassLemmas.{fault-skip, fault-first}
use Rattle.pddl_problem.proofs.problems.read_body.Goals as goal

pub returns-in_err-goal-clause-fault : goal.returns-in_err-goal-clause-fault
returns-in_err-goal-clause-fault c =
    let d : Definition = definition_value c.args.definition.now in
    let known : Known = known_value c.args.known.now in
    let init : List Flaw = init_flaws known (items_of (codes ":init") d.items) in
    let goal : List Flaw = goal_flaws known (items_of (codes ":goal") d.items) in
    let ctl : List Flaw = ctl_flaws known (items_of (codes ":ctl-goal") d.items) in
    let missing : List Flaw = missing_flaws d.span (section (codes ":goal") d.items) (section (codes ":ctl-goal") d.items) in
    let no_init : init ≡ [] = ap (init_flaws known) (sym c.items_of.ensures) ∙ c.in_ok-initial.ensures.sound in
    let x = c.in_err-goal in
    let P : Forest → Type 0 = λ row. IfFault x.field-0.0 (λ f. first_listed (goal_flaws known row) ≡ Some f) in
    let here : P (items_of (codes ":goal") d.items) = subst P c.items_of-2.ensures x.ensures.fault in
    let p = err_from_is_err_and c.from_residual-in_err-goal.result c.from_residual-in_err-goal.ensures.1 in
    rw (p.1, p.2)
    (fault-skip init (goal ∷ ctl ∷ missing ∷ []) x.field-0.0 no_init
    (fault-first goal (ctl ∷ missing ∷ []) x.field-0.0 here))

pub returns-in_err-ctl-clause-fault : goal.returns-in_err-ctl-clause-fault
returns-in_err-ctl-clause-fault c =
    let d : Definition = definition_value c.args.definition.now in
    let known : Known = known_value c.args.known.now in
    let init : List Flaw = init_flaws known (items_of (codes ":init") d.items) in
    let goal : List Flaw = goal_flaws known (items_of (codes ":goal") d.items) in
    let ctl : List Flaw = ctl_flaws known (items_of (codes ":ctl-goal") d.items) in
    let missing : List Flaw = missing_flaws d.span (section (codes ":goal") d.items) (section (codes ":ctl-goal") d.items) in
    let no_init : init ≡ [] = ap (init_flaws known) (sym c.items_of.ensures) ∙ c.in_ok-initial.ensures.sound in
    let no_goal : goal ≡ [] = ap (goal_flaws known) (sym c.items_of-2.ensures) ∙ c.in_ok-goal.ensures.sound in
    let x = c.in_err-ctl in
    let P : Forest → Type 0 = λ row. IfFault x.field-0.0 (λ f. first_listed (ctl_flaws known row) ≡ Some f) in
    let here : P (items_of (codes ":ctl-goal") d.items) = subst P c.items_of-3.ensures x.ensures.fault in
    let p = err_from_is_err_and c.from_residual-in_err-ctl.result c.from_residual-in_err-ctl.ensures.1 in
    rw (p.1, p.2)
    (fault-skip init (goal ∷ ctl ∷ missing ∷ []) x.field-0.0 no_init
    (fault-skip goal (ctl ∷ missing ∷ []) x.field-0.0 no_goal
    (fault-first ctl (missing ∷ []) x.field-0.0 here)))

pub returns-in_err-check_goal-clause-fault : goal.returns-in_err-check_goal-clause-fault
returns-in_err-check_goal-clause-fault c =
    let d : Definition = definition_value c.args.definition.now in
    let known : Known = known_value c.args.known.now in
    let init : List Flaw = init_flaws known (items_of (codes ":init") d.items) in
    let goal : List Flaw = goal_flaws known (items_of (codes ":goal") d.items) in
    let ctl : List Flaw = ctl_flaws known (items_of (codes ":ctl-goal") d.items) in
    let missing : List Flaw = missing_flaws d.span (section (codes ":goal") d.items) (section (codes ":ctl-goal") d.items) in
    let no_init : init ≡ [] = ap (init_flaws known) (sym c.items_of.ensures) ∙ c.in_ok-initial.ensures.sound in
    let no_goal : goal ≡ [] = ap (goal_flaws known) (sym c.items_of-2.ensures) ∙ c.in_ok-goal.ensures.sound in
    let no_ctl : ctl ≡ [] = ap (ctl_flaws known) (sym c.items_of-3.ensures) ∙ c.in_ok-ctl.ensures.sound in
    let x = c.in_err-check_goal in
    let P : Option Forest → Option Forest → Type 0 = λ a b. IfFault x.field-0.0 (λ f. first_listed (missing_flaws d.span a b) ≡ Some f) in
    let here : P (section (codes ":goal") d.items) (section (codes ":ctl-goal") d.items)
    = subst (λ a. P a (section (codes ":ctl-goal") d.items)) c.section.ensures
    (subst (P (option_map (λ row. forest_of row.now) c.section.result)) c.section-2.ensures x.ensures.fault) in
    let p = err_from_is_err_and c.from_residual-in_err-check_goal.result c.from_residual-in_err-check_goal.ensures.1 in
    rw (p.1, p.2)
    (fault-skip init (goal ∷ ctl ∷ missing ∷ []) x.field-0.0 no_init
    (fault-skip goal (ctl ∷ missing ∷ []) x.field-0.0 no_goal
    (fault-skip ctl (missing ∷ []) x.field-0.0 no_ctl
    (fault-first missing [] x.field-0.0 here))))
