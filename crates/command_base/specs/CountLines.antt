-- A line that counts.
use Rattle.std.specs.Prelude.{ℕ, ◌++◌, codes, decimal}
use Rattle.plan_rules.specs.Texts.{line_feed}
use Rattle.command_base.specs.Words.{Bytes}

-- a line with a word and how many there are, as: fluents 2
abbrev pub count_line : Bytes → ℕ → Bytes
count_line word count = word ++ codes " " ++ decimal count ++ line_feed
