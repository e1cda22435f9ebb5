-- Laws of verdicts.
use Rattle.std.proofs.Common.{◌≡◌, ◌↔◌, ◌⊎◌, ℕ, zero, suc, ◌<◌, ◌≤◌, List, Some, Option, refl, sym, ap, ◌∙◌, arith, ⊎_elim}
use Rattle.std.proofs.lemmas.Bool.{cases_order}
use Rattle.task_core.specs.Systems.{System}
use Rattle.task_core.specs.Tables.{Table}
use Rattle.task_core.specs.Solutions.{IsSolution}
use Rattle.task_core.specs.declared.classes.Class.{Class}
use Rattle.task_core.specs.declared.classes.Class.TheVariants.{Weak, Strong, Cyclic}
use Rattle.plan_rules.specs.Rules.{PlanRule}
use Rattle.plan_rules.specs.Denoted.{denoted}
use Rattle.plan_check.specs.Verdicts.{CanFollowRules, HasExecution, HasReason, IsBound, IsFirstReason, IsFreeOf, IsLongest, IsVerdict, SaysYes, turn_of}
use Rattle.plan_check.specs.declared.verdicts.Reason.{Reason}
use Rattle.plan_check.specs.declared.verdicts.Reason.TheVariants.{Unexecutable, Stuck, Terminal, Cycle, Unreachable, Formula}
use Rattle.plan_check.specs.declared.verdicts.Verdict.{Verdict}
use Rattle.plan_check.specs.declared.verdicts.Verdict.TheVariants.{Yes, No}

-- a reason and its opposite
pub excludes : (sys : System) (rules : List PlanRule) (reason : Reason) (class : Class) → HasReason sys rules reason class → IsFreeOf sys rules reason class → ⊥
excludes sys rules Unexecutable class h f = h.rule.refused (f h.state h.rule.rule h.reached h.rule.listed h.rule.matched)
excludes sys rules Stuck class h f = h
excludes sys rules Terminal Weak h f = h
excludes sys rules Terminal Strong h f = h.outside (f h.end h.reached h.terminal)
excludes sys rules Terminal Cyclic h f = h.outside (f h.end h.reached h.terminal)
excludes sys rules Cycle Weak h f = h
excludes sys rules Cycle Strong h f = f h.state h.next h.rest h.reached h.path h.round
excludes sys rules Cycle Cyclic h f = h
excludes sys rules Unreachable Weak h f = h.misses (f h.start h.initial)
excludes sys rules Unreachable Strong h f = h
excludes sys rules Unreachable Cyclic h f = h.endless (f h.state h.reached)
excludes sys rules Formula class h f = h

-- a plan of which no reason holds is a solution, and no reason holds of a solution
pub free_solves : (sys : System) (rules : List PlanRule) (class : Class) → ((reason : Reason) → IsFreeOf sys rules reason class) → CanFollowRules sys rules × IsSolution class sys (denoted sys rules)
free_solves sys rules Weak f = (f Unexecutable, f Unreachable)
free_solves sys rules Strong f = (f Unexecutable, record { no_cycle = f Cycle; ends_in_goal = f Terminal })
free_solves sys rules Cyclic f = (f Unexecutable, record { ends_in_goal = f Terminal; may_end = f Unreachable })

pub solution_free : (sys : System) (rules : List PlanRule) (reason : Reason) (class : Class) → CanFollowRules sys rules → IsSolution class sys (denoted sys rules) → IsFreeOf sys rules reason class
solution_free sys rules Unexecutable class follow solves = follow
solution_free sys rules Stuck class follow solves = tt
solution_free sys rules Terminal Weak follow solves = tt
solution_free sys rules Terminal Strong follow solves = solves.ends_in_goal
solution_free sys rules Terminal Cyclic follow solves = solves.ends_in_goal
solution_free sys rules Cycle Weak follow solves = tt
solution_free sys rules Cycle Strong follow solves = solves.no_cycle
solution_free sys rules Cycle Cyclic follow solves = tt
solution_free sys rules Unreachable Weak follow solves = solves
solution_free sys rules Unreachable Strong follow solves = tt
solution_free sys rules Unreachable Cyclic follow solves = solves.may_end
solution_free sys rules Formula class follow solves = tt

pub yes_solves : (sys : System) (rules : List PlanRule) (class : Class) (verdict : Verdict) → IsVerdict sys rules class verdict → SaysYes verdict ↔ (CanFollowRules sys rules × IsSolution class sys (denoted sys rules))
yes_solves sys rules class (Yes bound) h = (λ _. free_solves sys rules class h.free, λ _. tt)
yes_solves sys rules class (No reason) h = (λ no_yes. absurd no_yes, λ s. excludes sys rules reason class h.has (solution_free sys rules reason class s.0 s.1))

-- a reason is known by its turn
abbrev pub reason_at : ℕ → Reason
reason_at zero = Unexecutable
reason_at (suc zero) = Stuck
reason_at (suc (suc zero)) = Terminal
reason_at (suc (suc (suc zero))) = Cycle
reason_at (suc (suc (suc (suc zero)))) = Unreachable
reason_at (suc (suc (suc (suc (suc n))))) = Formula

pub at_turn : (reason : Reason) → reason_at (turn_of reason) ≡ reason
at_turn Unexecutable = refl
at_turn Stuck = refl
at_turn Terminal = refl
at_turn Cycle = refl
at_turn Unreachable = refl
at_turn Formula = refl

same_first : (sys : System) (rules : List PlanRule) (class : Class) (r s : Reason) → IsFirstReason sys rules r class → IsFirstReason sys rules s class → r ≡ s
same_first sys rules class r s h i =
    ⊎_elim
    (λ (e : turn_of r ≡ turn_of s). sym (at_turn r) ∙ ap reason_at e ∙ at_turn s)
    (λ (order : (turn_of r < turn_of s) ⊎ (turn_of s < turn_of r)).
    ⊎_elim
    (λ (l : turn_of r < turn_of s). absurd (excludes sys rules r class h.has (i.first r l)))
    (λ (l : turn_of s < turn_of r). absurd (excludes sys rules s class i.has (h.first s l)))
    order)
    (cases_order (turn_of r) (turn_of s))

most_of : (sys : System) (table : Table) (m n : ℕ) → IsLongest sys table m → IsLongest sys table n → m ≤ n
most_of sys table m n a b =
    ⊎_elim (λ (x : HasExecution sys table m). b.most m x) (λ z. let e : m ≡ 0 = z.0 in omega arith) a.attained

same_bound : (sys : System) (table : Table) (class : Class) (b c : Option ℕ) → IsBound sys table class b → IsBound sys table class c → b ≡ c
same_bound sys table Weak b c h i = h ∙ sym i
same_bound sys table Strong b c h i =
    let up = most_of sys table h.0 i.0 h.2 i.2 in
    let down = most_of sys table i.0 h.0 i.2 h.2 in
    let e : h.0 ≡ i.0 = omega arith in
    h.1 ∙ ap (λ (n : ℕ). Some n) e ∙ sym i.1
same_bound sys table Cyclic b c h i = h ∙ sym i

pub same_verdict : (sys : System) (rules : List PlanRule) (class : Class) (v w : Verdict) → IsVerdict sys rules class v → IsVerdict sys rules class w → v ≡ w
same_verdict sys rules class (Yes b) (Yes c) h i = ap (λ (x : Option ℕ). Yes x) (same_bound sys (denoted sys rules) class b c h.bounded i.bounded)
same_verdict sys rules class (Yes b) (No r) h i = absurd (excludes sys rules r class i.has (h.free r))
same_verdict sys rules class (No r) (Yes b) h i = absurd (excludes sys rules r class h.has (i.free r))
same_verdict sys rules class (No r) (No s) h i = ap (λ (x : Reason). No x) (same_first sys rules class r s h i)
