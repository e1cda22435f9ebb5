-- The number, the name and the word of each kind of fault.
use Rattle.std.specs.Prelude.{ℕ, List, Option, Some, None, codes}
use Rattle.sexpr_text.specs.declared.faults.FaultKind.{FaultKind}
use Rattle.sexpr_text.specs.declared.faults.FaultKind.TheVariants.{BadByte, StrayClose, OpenAtEnd}
use Rattle.sexpr_text.specs.declared.faults.FaultKind.TheVariants.{TooDeep, NoDefine, BadForm}
use Rattle.sexpr_text.specs.declared.faults.FaultKind.TheVariants.{UnknownName, DoubleName}
use Rattle.sexpr_text.specs.declared.faults.FaultKind.TheVariants.{WrongArity, TypeLoop}
use Rattle.sexpr_text.specs.declared.faults.FaultKind.TheVariants.{ReservedName, EmptyOneof}
use Rattle.sexpr_text.specs.declared.faults.FaultKind.TheVariants.{LeftOut, OtherDomain}
use Rattle.sexpr_text.specs.declared.faults.FaultKind.TheVariants.{GoalMissing, GoalTwice}
use Rattle.sexpr_text.specs.declared.faults.FaultKind.TheVariants.{WrongGoalKind, NotChain}
use Rattle.sexpr_text.specs.declared.faults.FaultKind.TheVariants.{QuantifiedGoal, UnknownAction}
use Rattle.sexpr_text.specs.declared.faults.FaultKind.TheVariants.{BadNumber, WrongPlanKind}
use Rattle.sexpr_text.specs.declared.faults.FaultKind.TheVariants.{EmptyInit, BadWeight, MassOver}

-- the number and the name of each kind
abbrev pub code_and_name : FaultKind → ℕ × List ℕ
code_and_name BadByte = (1, codes "BadByte")
code_and_name StrayClose = (2, codes "StrayClose")
code_and_name OpenAtEnd = (3, codes "OpenAtEnd")
code_and_name TooDeep = (4, codes "TooDeep")
code_and_name NoDefine = (5, codes "NoDefine")
code_and_name BadForm = (6, codes "BadForm")
code_and_name UnknownName = (7, codes "UnknownName")
code_and_name DoubleName = (8, codes "DoubleName")
code_and_name WrongArity = (9, codes "WrongArity")
code_and_name TypeLoop = (10, codes "TypeLoop")
code_and_name ReservedName = (11, codes "ReservedName")
code_and_name EmptyOneof = (12, codes "EmptyOneof")
code_and_name (LeftOut text) = (13, codes "LeftOut")
code_and_name OtherDomain = (14, codes "OtherDomain")
code_and_name GoalMissing = (15, codes "GoalMissing")
code_and_name GoalTwice = (16, codes "GoalTwice")
code_and_name WrongGoalKind = (17, codes "WrongGoalKind")
code_and_name NotChain = (18, codes "NotChain")
code_and_name QuantifiedGoal = (19, codes "QuantifiedGoal")
code_and_name UnknownAction = (20, codes "UnknownAction")
code_and_name BadNumber = (21, codes "BadNumber")
code_and_name WrongPlanKind = (22, codes "WrongPlanKind")
code_and_name EmptyInit = (23, codes "EmptyInit")
code_and_name BadWeight = (24, codes "BadWeight")
code_and_name MassOver = (25, codes "MassOver")

abbrev pub code_of : FaultKind → ℕ
code_of kind = (code_and_name kind).0

abbrev pub kind_name : FaultKind → List ℕ
kind_name kind = (code_and_name kind).1

-- the word that is left out
abbrev pub word_of : FaultKind → Option (List ℕ)
word_of (LeftOut text) = Some text
word_of _ = None
