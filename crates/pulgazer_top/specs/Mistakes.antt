-- What is wrong with a command line.
use Rattle.std.specs.Prelude.{List, [], ◌++◌, codes}
use Rattle.command_base.specs.Words.{Bytes}
use Rattle.pulgazer_top.specs.declared.mistakes.Why.{Why}
use Rattle.pulgazer_top.specs.declared.mistakes.Why.TheVariants.{Alone, BadClass, BadLanguage}
use Rattle.pulgazer_top.specs.declared.mistakes.Why.TheVariants.{BadNodes, Missing, NeedlessValue}
use Rattle.pulgazer_top.specs.declared.mistakes.Why.TheVariants.{NoCertificate, NoSubcommand, NotFair}
use Rattle.pulgazer_top.specs.declared.mistakes.Why.TheVariants.{NoValue, OneForm, OneTooMany, Twice}
use Rattle.pulgazer_top.specs.declared.mistakes.Why.TheVariants.{TwiceInput, UnknownOption}
use Rattle.pulgazer_top.specs.declared.mistakes.Why.TheVariants.{UnknownSubcommand}

-- a word, and what is wrong with it; for an operand that is left out, its name
pub record Mistake : Type 0 where
  pub word : Bytes
  pub why : Why

abbrev pub mistake : Bytes → Why → Mistake
mistake word why = record { word = word; why = why }

abbrev pub why_text : Why → Bytes
why_text NoSubcommand = codes "a subcommand is wanted"
why_text UnknownSubcommand = codes "no subcommand"
why_text UnknownOption = codes "no option of this subcommand"
why_text Twice = codes "given twice"
why_text NoValue = codes "a value is missing after it"
why_text NeedlessValue = codes "it takes no value"
why_text Missing = codes "missing"
why_text OneTooMany = codes "one word too many"
why_text TwiceInput = codes "standard input can be only one of the files"
why_text BadClass = codes "none of weak, strong, cyclic, ctl and fair"
why_text BadLanguage = codes "none of c, rust and python"
why_text BadNodes = codes "no number from 1 to 16777216"
why_text NoCertificate = codes "there are no certificates for ctl and fair"
why_text NotFair = codes "why is not asked of it"
why_text OneForm = codes "not together with --json"
why_text Alone = codes "not together with --page or --explanation"
