use Rattle.std.proofs.Common.{◌≡◌, ℕ, ◌<◌, take, string_bytes}
use Rattle.answer_help.specs.Keeping.{NamesNone, kept_files}
use Rattle.answer_help.proofs.keeping.kept_bytes.Given as goal

abbrev pub invariant-loop-file : goal.invariant-loop-file
invariant-loop-file l = NamesNone (kept_files (take l.file-index l.files)) l.name
