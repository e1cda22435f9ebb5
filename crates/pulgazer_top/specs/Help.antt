-- The texts about the command line: help, and what is wrong with words.
use Rattle.std.specs.Prelude.{◌++◌, Bool, if◌then◌else◌, List, [], ◌∷◌, Option, None, Some, codes, map}
use Rattle.std.specs.Str.{bytes_eq}
use Rattle.command_base.specs.Words.{Bytes}
use Rattle.plan_rules.specs.Texts.{line_feed}
use Rattle.pulgazer_top.specs.Mistakes.{Mistake, why_text}
use Rattle.pulgazer_top.specs.Nearest.{nearest}
use Rattle.pulgazer_top.specs.Scans.{takes_no_value}
use Rattle.pulgazer_top.specs.Table.{class_words, languages, operand_names, option_about, option_word}
use Rattle.pulgazer_top.specs.Table.{options_of, subcommand_about, subcommand_word, subcommands, value_name}
use Rattle.pulgazer_top.specs.declared.mistakes.Why.{Why as Reason}
use Rattle.pulgazer_top.specs.declared.mistakes.Why.TheVariants.{Alone, BadClass, BadLanguage}
use Rattle.pulgazer_top.specs.declared.mistakes.Why.TheVariants.{BadNodes, Missing, NeedlessValue}
use Rattle.pulgazer_top.specs.declared.mistakes.Why.TheVariants.{NoCertificate, NoSubcommand, NotFair}
use Rattle.pulgazer_top.specs.declared.mistakes.Why.TheVariants.{NoValue, OneForm, OneTooMany, Twice}
use Rattle.pulgazer_top.specs.declared.mistakes.Why.TheVariants.{TwiceInput, UnknownOption}
use Rattle.pulgazer_top.specs.declared.mistakes.Why.TheVariants.{UnknownSubcommand}
use Rattle.pulgazer_top.specs.declared.table.CommandOption.{CommandOption}
use Rattle.pulgazer_top.specs.declared.table.Subcommand.{Subcommand}
use Rattle.pulgazer_top.specs.declared.table.Subcommand.TheVariants.{Check, Control, Draw, Explain}
use Rattle.pulgazer_top.specs.declared.table.Subcommand.TheVariants.{Lint, Trace, Why}

-- an option with the name of its value, as `--nodes N`
abbrev pub option_form : CommandOption → Bytes
option_form option =
    if takes_no_value option then option_word option
    else option_word option ++ codes " " ++ value_name option

-- the operands and options of a usage line
abbrev pub operand_text : List Bytes → Bytes
operand_text [] = []
operand_text (name ∷ names) = codes " " ++ name ++ operand_text names

abbrev pub option_text : List CommandOption → Bytes
option_text [] = []
option_text (option ∷ options) =
    codes " [" ++ option_form option ++ codes "]" ++ option_text options

abbrev pub usage_line : Subcommand → Bytes
usage_line sub =
    codes "usage: pulgazer " ++ subcommand_word sub ++ operand_text (operand_names sub)
    ++ option_text (options_of sub) ++ line_feed

-- the usage line of a subcommand, or of all
abbrev pub usage_of : Option Subcommand → Bytes
usage_of None = codes "usage: pulgazer SUBCOMMAND .. (pulgazer --help lists them)" ++ line_feed
usage_of (Some sub) = usage_line sub

-- the lines of the help about options, and about subcommands
abbrev pub option_lines : List CommandOption → Bytes
option_lines [] = []
option_lines (option ∷ options) =
    codes "  " ++ option_form option ++ codes ": " ++ option_about option ++ line_feed
    ++ option_lines options

abbrev pub subcommand_lines : List Subcommand → Bytes
subcommand_lines [] = []
subcommand_lines (sub ∷ subs) =
    codes "  " ++ subcommand_word sub ++ codes ": " ++ subcommand_about sub ++ line_feed
    ++ subcommand_lines subs

-- the exit statuses that a subcommand has of its own: of its answers, and of a record that is refused
abbrev pub own_statuses : Subcommand → List Bytes
own_statuses Control = codes "0: a controller" ∷ codes "1: there is no plan" ∷ []
own_statuses Check = codes "0: yes" ∷ codes "1: no, with a reason" ∷ []
own_statuses Explain = codes "0: yes" ∷ codes "1: no, with a reason" ∷ []
own_statuses Why = codes "0: there is a plan" ∷ codes "1: there is no plan" ∷ []
own_statuses Lint = codes "0: nothing is found" ∷ codes "1: likely mistakes" ∷ []
own_statuses Trace = codes "0: the run" ∷ codes "9: the run, up to where it is refused" ∷ []
own_statuses Draw = codes "0: the picture" ∷ []

-- those that all have
abbrev pub common_statuses : List Bytes
common_statuses =
    codes "2: the words are wrong" ∷ codes "3: a file has a fault" ∷ codes "4: a limit is passed"
    ∷ codes "5: more diagram nodes are needed" ∷ codes "6: a file can't be read"
    ∷ codes "7: the output can't be written" ∷ codes "8: there is not enough memory" ∷ []

abbrev pub status_lines : List Bytes → Bytes
status_lines [] = []
status_lines (status ∷ statuses) =
    codes "  status " ++ status ++ line_feed ++ status_lines statuses

-- the help for a subcommand
abbrev pub subcommand_help : Subcommand → Bytes
subcommand_help sub =
    usage_line sub ++ subcommand_about sub ++ line_feed ++ option_lines (options_of sub)
    ++ status_lines (own_statuses sub) ++ status_lines common_statuses

-- the help for all
abbrev pub all_help : List Subcommand → Bytes
all_help subs =
    codes "usage: pulgazer SUBCOMMAND .." ++ line_feed ++ subcommand_lines subs
    ++ codes "pulgazer SUBCOMMAND --help shows a subcommand's operands, options and exit statuses"
    ++ line_feed

-- the help for a subcommand, or for all
abbrev pub help_text : Option Subcommand → Bytes
help_text None = all_help subcommands
help_text (Some sub) = subcommand_help sub

-- the words that a wrong word may have been meant for
abbrev pub options_in : Option Subcommand → List CommandOption
options_in None = []
options_in (Some sub) = options_of sub

abbrev pub known_words : Option Subcommand → Reason → List Bytes
known_words sub NoSubcommand = []
known_words sub UnknownSubcommand = map subcommand_word subcommands
known_words sub UnknownOption = map option_word (options_in sub)
known_words sub Twice = []
known_words sub NoValue = []
known_words sub NeedlessValue = []
known_words sub Missing = []
known_words sub OneTooMany = []
known_words sub TwiceInput = []
known_words sub BadClass = class_words
known_words sub BadLanguage = languages
known_words sub BadNodes = []
known_words sub NoCertificate = []
known_words sub NotFair = []
known_words sub OneForm = []
known_words sub Alone = []

abbrev pub hint : Option Bytes → Bytes
hint None = []
hint (Some word) = codes " (did you mean `" ++ word ++ codes "`?)"

abbrev pub quoted : Bytes → Bytes
quoted word = if bytes_eq word [] then [] else codes "`" ++ word ++ codes "`: "

-- the lines about a mistake: the word, what is wrong with it, the nearest known word, and the usage line
abbrev pub mistake_text : Option Subcommand → Mistake → Bytes
mistake_text sub found =
    codes "pulgazer: " ++ quoted found.word ++ why_text found.why
    ++ hint (nearest found.word (known_words sub found.why)) ++ line_feed ++ usage_of sub
