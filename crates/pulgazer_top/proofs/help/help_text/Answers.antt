use Rattle.std.proofs.Common.{◌≡◌, IfOk, List, Option, string_bytes, subst, sym}
use Rattle.pulgazer_top.specs.Help.{all_help, help_text}
use Rattle.pulgazer_top.specs.declared.table.Subcommand.{Subcommand}
use Rattle.pulgazer_top.proofs.help.help_text.Goals as goal

pub returns-in-None : goal.returns-in-None
returns-in-None c =
    subst (λ (sub : Option Subcommand). IfOk c.all_help.result (λ text. string_bytes text ≡ help_text sub)) (sym c.in-None.is)
    (subst (λ (subs : List Subcommand). IfOk c.all_help.result (λ text. string_bytes text ≡ all_help subs)) c.all_subcommands.ensures c.all_help.ensures)
