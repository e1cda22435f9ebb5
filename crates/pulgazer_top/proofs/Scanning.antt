-- The words of a subcommand are read one after another.
use Rattle.std.proofs.Common.{◌≡◌, ◌<◌, ℕ, zero, suc, List, [], ◌∷◌, length, get_or, drop, map, ap, sym, arith}
use Rattle.command_base.specs.Words.{Bytes}
use Rattle.pulgazer_top.specs.Scans.{Scan, scan_from, step}
use Rattle.pulgazer_top.specs.declared.table.CommandOption.{CommandOption}

pub scan_next : {X : Type 0} (text : X → Bytes) (options : List CommandOption) (scan : Scan) (words : List X) (i : ℕ) (word : X) → i < length words → word ≡ get_or words i word
    → scan_from options scan (map text (drop i words)) ≡ scan_from options (step options scan (text word)) (map text (drop (suc i) words))
scan_next text options scan [] i word within is = absurd (omega (arith, within))
scan_next text options scan (x ∷ xs) zero word within is = ap (λ w. scan_from options (step options scan (text w)) (map text xs)) (sym is)
scan_next text options scan (x ∷ xs) (suc i) word within is = scan_next text options scan xs i word (omega (arith, within)) is
