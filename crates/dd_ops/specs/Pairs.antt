-- Private: conjunction, disjunction and difference as questions.
use Rattle.std.specs.Prelude.{◌≡◌, ℕ, ◌<◌, ◌==◌, min, List, false, true, if◌then◌else◌, ◌⊎◌}
use Rattle.dd_nodes.specs.declared.node.Node.{Node}
use Rattle.dd_nodes.specs.declared.node.Ref.{Ref}
use Rattle.dd_nodes.specs.NodeList.{IsNumber}
use Rattle.dd_ops.specs.Answers.{IsBranch, level_of}
use Rattle.dd_ops.specs.declared.pairs.Pair.{Pair}
use Rattle.dd_ops.specs.declared.pairs.PairHalves.{PairHalves}
use Rattle.dd_ops.specs.declared.question.Halves.{Halves}
use Rattle.dd_ops.specs.declared.question.Question.{Question}

-- what is true where both operands are, where one is, and where the first is and the second not
abbrev pub meet_of : Pair → Question
meet_of p = record { f = p.f; g = p.g; h = record { 0 = 0 } }

abbrev pub join_of : Pair → Question
join_of p = record { f = p.f; g = record { 0 = 1 }; h = p.g }

abbrev pub rest_of : Pair → Question
rest_of p = record { f = p.g; g = record { 0 = 0 }; h = p.f }

-- by its kind: 0 for the conjunction, 1 for the disjunction, 2 for the difference
abbrev pub question_of : ℕ → Pair → Question
question_of kind p =
    if kind == 0 then meet_of p else if kind == 1 then join_of p else rest_of p

-- the halves of a pair, as those of its question
abbrev pub halves_of : ℕ → PairHalves → Halves
halves_of kind halves =
    record { var = halves.var; lo = question_of kind halves.lo; hi = question_of kind halves.hi }

-- the numbers of a pair are in the list; and both are numbers of nodes
pub record ArePair (nodes : List Node) (p : Pair) : Type 0 where
  pub f : IsNumber nodes p.f.0
  pub g : IsNumber nodes p.g.0

abbrev pub AreTests : Pair → Type 0
AreTests p = (1 < p.f.0) × (1 < p.g.0)

-- the halves of a pair at the least variable that it looks at
pub record IsPairHalved (nodes : List Node) (p : Pair) (halves : PairHalves) : Type 0 where
  pub top : halves.var ≡ min (level_of nodes p.f.0) (level_of nodes p.g.0)
  pub f_lo : IsBranch nodes halves.var false p.f.0 halves.lo.f.0
  pub g_lo : IsBranch nodes halves.var false p.g.0 halves.lo.g.0
  pub f_hi : IsBranch nodes halves.var true p.f.0 halves.hi.f.0
  pub g_hi : IsBranch nodes halves.var true p.g.0 halves.hi.g.0
