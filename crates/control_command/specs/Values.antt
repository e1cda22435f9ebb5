-- Private: what the code's own types stand for.
use Rattle.command_base.specs.Values.{plan_words_of}
use Rattle.command_base.specs.Words.{IsNodeLimit}
use Rattle.control_command.specs.Words.{ControlRequest, ControlWords, FairWords, to_plan, to_try}
use Rattle.control_command.specs.declared.words.ControlRequest.{ControlRequest as CodeRequest}
use Rattle.control_command.specs.declared.words.ControlRequest.TheVariants.{Fair, Plan}
use Rattle.control_command.specs.declared.words.ControlWords.{ControlWords as CodeControlWords}
use Rattle.control_command.specs.declared.words.FairWords.{FairWords as CodeFairWords}

abbrev pub control_words_of : CodeControlWords → ControlWords
control_words_of words = record { plan = plan_words_of words.plan; shape = words.shape }

abbrev pub fair_words_of : CodeFairWords → FairWords
fair_words_of words = record {
  domain = words.domain.now;
  problem = words.problem.now;
  options = record { nodes = words.nodes };
  shape = words.shape;
}

abbrev pub request_value : CodeRequest → ControlRequest
request_value (Plan asked) = to_plan (control_words_of asked)
request_value (Fair asked) = to_try (fair_words_of asked)

-- as many nodes may be asked for
abbrev pub HasRoom : CodeRequest → Type 0
HasRoom (Plan asked) = IsNodeLimit asked.plan.options.nodes
HasRoom (Fair asked) = IsNodeLimit asked.nodes
