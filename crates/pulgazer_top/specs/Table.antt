-- The subcommands of `pulgazer`, each with its operands and options. Parsing, help and the nearest word
-- are made from this table.
use Rattle.std.specs.Prelude.{◌≡◌, Bool, List, [], ◌∷◌, Option, Some, None, codes, if◌then◌else◌}
use Rattle.std.specs.Str.{bytes_eq}
use Rattle.command_base.specs.Words.{Bytes}
use Rattle.pulgazer_top.specs.declared.table.CommandOption.{CommandOption}
use Rattle.pulgazer_top.specs.declared.table.CommandOption.TheVariants.{Cert, Code, Explanation}
use Rattle.pulgazer_top.specs.declared.table.CommandOption.TheVariants.{Guarded, Json, Nodes, Page}
use Rattle.pulgazer_top.specs.declared.table.CommandOption.TheVariants.{Rules}
use Rattle.pulgazer_top.specs.declared.table.Subcommand.{Subcommand}
use Rattle.pulgazer_top.specs.declared.table.Subcommand.TheVariants.{Check, Control, Draw, Explain}
use Rattle.pulgazer_top.specs.declared.table.Subcommand.TheVariants.{Lint, Trace, Why}

-- the subcommands, in the order in which the help lists them
abbrev pub subcommands : List Subcommand
subcommands = Control ∷ Check ∷ Explain ∷ Why ∷ Lint ∷ Trace ∷ Draw ∷ []

abbrev pub subcommand_word : Subcommand → Bytes
subcommand_word Control = codes "control"
subcommand_word Check = codes "check"
subcommand_word Explain = codes "explain"
subcommand_word Why = codes "why"
subcommand_word Lint = codes "lint"
subcommand_word Trace = codes "trace"
subcommand_word Draw = codes "draw"

-- what the subcommand does
abbrev pub subcommand_about : Subcommand → Bytes
subcommand_about Control = codes "print a controller: a plan for the reachable states alone"
subcommand_about Check = codes "judge a plan: yes, or no with a reason"
subcommand_about Explain = codes "judge a plan, and show a run for the verdict"
subcommand_about Why = codes "say why there is no plan"
subcommand_about Lint = codes "list likely mistakes in a domain and a problem"
subcommand_about Trace = codes "show a recorded run, step by step"
subcommand_about Draw = codes "draw a plan as a graph in the DOT language, or as a page"

-- the names of the operands, in their order
abbrev pub operand_names : Subcommand → List Bytes
operand_names Control = codes "CLASS" ∷ codes "DOMAIN" ∷ codes "PROBLEM" ∷ []
operand_names Check = codes "CLASS" ∷ codes "DOMAIN" ∷ codes "PROBLEM" ∷ codes "PLAN" ∷ []
operand_names Explain = codes "CLASS" ∷ codes "DOMAIN" ∷ codes "PROBLEM" ∷ codes "PLAN" ∷ []
operand_names Why = codes "CLASS" ∷ codes "DOMAIN" ∷ codes "PROBLEM" ∷ []
operand_names Lint = codes "DOMAIN" ∷ codes "PROBLEM" ∷ []
operand_names Trace = codes "DOMAIN" ∷ codes "PROBLEM" ∷ codes "PLAN" ∷ codes "RECORD" ∷ []
operand_names Draw = codes "DOMAIN" ∷ codes "PROBLEM" ∷ codes "PLAN" ∷ []

-- the options that the subcommand takes
abbrev pub options_of : Subcommand → List CommandOption
options_of Control = Nodes ∷ Cert ∷ Guarded ∷ Json ∷ Code ∷ []
options_of Check = []
options_of Explain = Json ∷ []
options_of Why = Nodes ∷ []
options_of Lint = Json ∷ []
options_of Trace = []
options_of Draw = Explanation ∷ Page ∷ Rules ∷ []

abbrev pub option_word : CommandOption → Bytes
option_word Nodes = codes "--nodes"
option_word Cert = codes "--cert"
option_word Guarded = codes "--guarded"
option_word Json = codes "--json"
option_word Code = codes "--code"
option_word Explanation = codes "--explanation"
option_word Page = codes "--page"
option_word Rules = codes "--rules"

-- the name of the option's value; an option without a value has none
abbrev pub value_name : CommandOption → Bytes
value_name Nodes = codes "N"
value_name Cert = []
value_name Guarded = []
value_name Json = []
value_name Code = codes "LANGUAGE"
value_name Explanation = codes "FILE"
value_name Page = []
value_name Rules = []

-- what the option does
abbrev pub option_about : CommandOption → Bytes
option_about Nodes =
    codes "the most nodes of the decision diagrams, 1 to 16777216 (1048576 without the option)"
option_about Cert = codes "where there is no plan, print a certificate (not for ctl and fair)"
option_about Guarded = codes "put the precondition of its action into each rule"
option_about Json = codes "print a JSON document"
option_about Code = codes "print a program in this language: c, rust or python"
option_about Explanation = codes "show the run that explain --json printed into this file"
option_about Page = codes "print a page to step through the plan in a browser"
option_about Rules = codes "draw a node for each rule in place of one for each state"

-- the words by which a plan may be judged, and the languages of programs
abbrev pub class_words : List Bytes
class_words =
    codes "weak" ∷ codes "strong" ∷ codes "cyclic" ∷ codes "ctl" ∷ codes "fair" ∷ []

abbrev pub languages : List Bytes
languages = codes "c" ∷ codes "rust" ∷ codes "python" ∷ []

-- the subcommand of this name, and the option of this name among some
abbrev pub subcommand_in : List Subcommand → Bytes → Option Subcommand
subcommand_in [] word = None
subcommand_in (sub ∷ more) word =
    if bytes_eq word (subcommand_word sub) then Some sub else subcommand_in more word

abbrev pub option_in : List CommandOption → Bytes → Option CommandOption
option_in [] word = None
option_in (option ∷ more) word =
    if bytes_eq word (option_word option) then Some option else option_in more word
