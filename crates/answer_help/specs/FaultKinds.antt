-- What each kind of fault means, in one sentence.
use Rattle.std.specs.Prelude.{ℕ, List, codes}
use Rattle.sexpr_text.specs.declared.faults.FaultKind.{FaultKind}
use Rattle.sexpr_text.specs.declared.faults.FaultKind.TheVariants.{BadByte, StrayClose, OpenAtEnd}
use Rattle.sexpr_text.specs.declared.faults.FaultKind.TheVariants.{TooDeep, NoDefine, BadForm}
use Rattle.sexpr_text.specs.declared.faults.FaultKind.TheVariants.{UnknownName, DoubleName}
use Rattle.sexpr_text.specs.declared.faults.FaultKind.TheVariants.{WrongArity, TypeLoop}
use Rattle.sexpr_text.specs.declared.faults.FaultKind.TheVariants.{ReservedName, EmptyOneof}
use Rattle.sexpr_text.specs.declared.faults.FaultKind.TheVariants.{LeftOut, OtherDomain}
use Rattle.sexpr_text.specs.declared.faults.FaultKind.TheVariants.{GoalMissing, GoalTwice}
use Rattle.sexpr_text.specs.declared.faults.FaultKind.TheVariants.{WrongGoalKind, NotChain}
use Rattle.sexpr_text.specs.declared.faults.FaultKind.TheVariants.{QuantifiedGoal, UnknownAction}
use Rattle.sexpr_text.specs.declared.faults.FaultKind.TheVariants.{BadNumber, WrongPlanKind}
use Rattle.sexpr_text.specs.declared.faults.FaultKind.TheVariants.{EmptyInit, BadWeight, MassOver}

abbrev pub fault_meaning : FaultKind → List ℕ
fault_meaning BadByte = codes "a byte outside a comment is no part of a text"
fault_meaning StrayClose = codes "a `)` closes nothing"
fault_meaning OpenAtEnd = codes "this `(` is never closed"
fault_meaning TooDeep = codes "this `(` would be the 201st open one"
fault_meaning NoDefine = codes "the file has no list of the wanted kind"
fault_meaning BadForm = codes "a form is not built as it must be"
fault_meaning UnknownName =
    codes "a predicate, type, object or variable is not declared, or a plan's atom is no fluent"
fault_meaning DoubleName = codes "a name is declared twice"
fault_meaning WrongArity = codes "an atom has too few or too many terms"
fault_meaning TypeLoop = codes "a type is its own ancestor"
fault_meaning ReservedName = codes "a predicate has the name of a connective"
fault_meaning EmptyOneof = codes "there is nothing to choose from"
fault_meaning (LeftOut text) = codes "a part of PDDL that is not read"
fault_meaning OtherDomain = codes "the problem names another domain"
fault_meaning GoalMissing = codes "the problem has neither `:goal` nor `:ctl-goal`"
fault_meaning GoalTwice = codes "a second goal of one kind"
fault_meaning WrongGoalKind = codes "the command wants the other kind of goal"
fault_meaning NotChain = codes "no plans are found for a goal of this form"
fault_meaning QuantifiedGoal = codes "a temporal operator stands under a quantifier"
fault_meaning UnknownAction = codes "a rule's action is not in the listing"
fault_meaning BadNumber =
    codes "a number is out of range, or no numeral stands where one is wanted"
fault_meaning WrongPlanKind = codes "the command wants the other kind of plan"
fault_meaning EmptyInit = codes "the problem has no initial state"
fault_meaning BadWeight =
    codes "a weight is no decimal number and no fraction, or the least common denominator of a list is above 10^18"
fault_meaning MassOver = codes "the weights of a list sum to more than 1"
