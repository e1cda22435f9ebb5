use Rattle.std.proofs.Common.{◌≡◌, drop, map, string_bytes}
use Rattle.pulgazer_top.specs.Scans.{nothing_given, reading, scan_from}
use Rattle.pulgazer_top.specs.Values.{scan_of}
use Rattle.pulgazer_top.proofs.scans.scan_words.Given as goal

abbrev pub invariant-loop-word : goal.invariant-loop-word
invariant-loop-word l =
    scan_from l.options (reading nothing_given) (map string_bytes l.words) ≡ scan_from l.options (scan_of l.scan) (map string_bytes (drop l.word-index l.words))
