-- How the files of a domain and a problem are read: which bytes spell which tree, and with which
-- fault other bytes are refused.
use Rattle.std.specs.Prelude.{◌≡◌}
use Rattle.pddl_ast.specs.Trees.{DomainTree, ProblemTree}
use Rattle.domain_read.specs.Domains.{HasDomainFault, ReadsAsDomain, SpellsDomain}
use Rattle.pddl_problem.specs.Problems.{HasProblemFault, ReadsAsProblem, SpellsProblem}
use Rattle.plan_io.specs.Held.{Held}
use Rattle.sexpr_text.specs.declared.faults.InputFault.{InputFault}
use Rattle.command_base.specs.Answers.{Answer, Refusal, text_fault}
use Rattle.command_base.specs.Reading.{Holds, ReadThen}
use Rattle.command_base.specs.Words.{Bytes}

-- the bytes spell this problem of the domain
abbrev pub SpellsProblemOf : DomainTree → Bytes → ProblemTree → Type 0
SpellsProblemOf domain bytes problem = SpellsProblem bytes domain problem

-- the bytes of the file of this name have a fault as a domain
abbrev pub IsFaultyDomain : Bytes → Bytes → Refusal → Type 0
IsFaultyDomain name bytes refusal =
    (fault : InputFault) × HasDomainFault bytes fault × (refusal ≡ text_fault name fault)

-- the bytes of the file of this name have a fault as a problem of the domain
abbrev pub IsFaultyProblem : DomainTree → Bytes → Bytes → Refusal → Type 0
IsFaultyProblem domain name bytes refusal =
    (fault : InputFault) × HasProblemFault bytes domain fault
    × (refusal ≡ text_fault name fault)

-- the files of these names spell the domain and the problem of it
pub record HoldBoth (held : Bytes → Held) (domain_name problem_name : Bytes)
    (domain : DomainTree) (problem : ProblemTree) : Type 0 where
  pub holds_domain : Holds held SpellsDomain domain_name domain
  pub holds_problem : Holds held (SpellsProblemOf domain) problem_name problem

-- the bytes read as this problem of the domain
abbrev pub ReadsAsProblemOf : DomainTree → Bytes → ProblemTree → Type 0
ReadsAsProblemOf domain bytes problem = ReadsAsProblem bytes domain problem

-- the files of these names read as the domain and the problem of it: what they say, apart from
-- whether anything is wrong in them
pub record ReadAsBoth (held : Bytes → Held) (domain_name problem_name : Bytes)
    (domain : DomainTree) (problem : ProblemTree) : Type 0 where
  pub domain_says : Holds held ReadsAsDomain domain_name domain
  pub problem_says : Holds held (ReadsAsProblemOf domain) problem_name problem

-- the domain is read, and then the problem, and then comes what Then says of both
abbrev pub ReadBoth : (Bytes → Held) → (Bytes → Type 0) → Bytes → Bytes
    → (DomainTree → ProblemTree → Answer → Type 0) → Answer → Type 0
ReadBoth held failed domain_name problem_name Then =
    ReadThen held failed domain_name SpellsDomain IsFaultyDomain (λ domain.
    ReadThen held failed problem_name (SpellsProblemOf domain) (IsFaultyProblem domain)
    (λ problem. Then domain problem))
