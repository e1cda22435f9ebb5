-- Worked examples of commands, of reading files, and of what the words and the files alone decide.
use Rattle.std.proofs.Common.{◌≡◌, List, [], ◌∷◌, ◌++◌, arith, codes, false, true, inl, inr, refl}
use Rattle.std.specs.Fmt.{digits}
use Rattle.plan_io.specs.Held.{Held, Missing}
use Rattle.plan_rules.specs.Texts.{line_feed}
use Rattle.cert_check.specs.declared.verdict.Flaw.TheVariants.{Goal}
use Rattle.cert_check.specs.declared.verdict.Judged.TheVariants.{Accepted, Rejected}
use Rattle.task_core.specs.declared.classes.Class.TheVariants.{Weak, Strong}
use Rattle.command_base.specs.Answers.{full, no_command, over_limit, read_fault, refused, status_of, text_of}
use Rattle.refute_command.specs.RefuteCommand.{judged_answer}
use Rattle.replay_command.specs.ReplayCommand.{Tallies}
use Rattle.mbp_top.specs.Told.{AreFilesTold, IsDue}
use Rattle.command_base.specs.Words.{Bytes, Command, PlanWords, of_class, plan, ground, check, refute, replay, drill, Says, files_of}

-- the words `plan weak coin-d coin-p`, the command that they say, and the two files that it names
abbrev coin_words : List Bytes
coin_words = codes "plan" ∷ codes "weak" ∷ codes "coin-d" ∷ codes "coin-p" ∷ []

abbrev coin_plan : PlanWords
coin_plan = record {
  kind = of_class Weak;
  domain = codes "coin-d";
  problem = codes "coin-p";
  options = record { nodes = 1048576 };
  certified = false;
}

coin_said : Says coin_words (plan coin_plan)
coin_said = record {
  room = (omega arith, omega arith);
  rest = [];
  written = refl;
  options = inl (refl, refl);
  for_class = tt;
}

coin_files : files_of (plan coin_plan) ≡ codes "coin-d" ∷ codes "coin-p" ∷ []
coin_files = refl

-- the words `plan strong coin-d coin-p --nodes 40`, and the command that they say
few_said : Says (codes "plan" ∷ codes "strong" ∷ codes "coin-d" ∷ codes "coin-p" ∷ codes "--nodes" ∷ codes "40" ∷ [])
    (plan (record { kind = of_class Strong; domain = codes "coin-d"; problem = codes "coin-p"; options = record { nodes = 40 }; certified = false }))
unfolding digits
few_said = record {
  room = (omega arith, omega arith);
  rest = codes "--nodes" ∷ codes "40" ∷ [];
  written = refl;
  options = inr refl;
  for_class = tt;
}

-- the words `plan strong coin-d coin-p --cert --nodes 40`, and the command that they say
certified_said : Says (codes "plan" ∷ codes "strong" ∷ codes "coin-d" ∷ codes "coin-p" ∷ codes "--cert" ∷ codes "--nodes" ∷ codes "40" ∷ [])
    (plan (record { kind = of_class Strong; domain = codes "coin-d"; problem = codes "coin-p"; options = record { nodes = 40 }; certified = true }))
unfolding digits
certified_said = record {
  room = (omega arith, omega arith);
  rest = codes "--nodes" ∷ codes "40" ∷ [];
  written = refl;
  options = inr refl;
  for_class = tt;
}

-- the words `refute coin-d coin-p cert --nodes 40`, the command that they say, and its three files
refute_said : Says (codes "refute" ∷ codes "coin-d" ∷ codes "coin-p" ∷ codes "cert" ∷ codes "--nodes" ∷ codes "40" ∷ [])
    (refute (record { domain = codes "coin-d"; problem = codes "coin-p"; certificate = codes "cert"; options = record { nodes = 40 } }))
unfolding digits
refute_said = record {
  room = (omega arith, omega arith);
  rest = codes "--nodes" ∷ codes "40" ∷ [];
  written = refl;
  options = inr refl;
}

-- a shelf that holds nothing tells of every file, whatever the words
empty_shelf_told : (words : List Bytes) → AreFilesTold (λ file. Missing) words
empty_shelf_told words command file says named untold = cc

-- where there is no file coin-d, the answer to these words is that it can't be read
missing_domain : (held : Bytes → Held) (tallies : Tallies) → held (codes "coin-d") ≡ Missing
    → IsDue held tallies coin_words (refused (read_fault (codes "coin-d")))
missing_domain held tallies missing = record {
  cause = inr (plan coin_plan, coin_said, inr (inr (inl (read_fault (codes "coin-d"), refl, inl (refl, inl missing)))));
  not_memory = λ same. cc;
  not_full = λ nodes same. cc;
}

-- the word `plan` alone is no command
plan_alone : (command : Command) → Says (codes "plan" ∷ []) command → ⊥
plan_alone (plan asked) says = let written = says.written in cc
plan_alone (ground asked) says = cc
plan_alone (check asked) says = cc
plan_alone (replay asked) says = cc
plan_alone (drill asked) says = let written = says.written in cc
plan_alone (refute asked) says = let written = says.written in cc

-- so the answer to it is that, whatever the files
no_command_due : (held : Bytes → Held) (tallies : Tallies) → IsDue held tallies (codes "plan" ∷ []) (refused no_command)
no_command_due held tallies = record { cause = inl (plan_alone, refl); not_memory = λ same. cc; not_full = λ nodes same. cc }

-- statuses and lines
long_status : status_of (refused (over_limit (codes "file"))) ≡ 4
long_status = refl

full_status : status_of (refused (full 40)) ≡ 5
full_status = refl

long_line : text_of (refused (over_limit (codes "file"))) ≡ codes "limit file" ++ line_feed
long_line = refl

-- verdicts on certificates
accepted_status : status_of (judged_answer Accepted) ≡ 0
accepted_status = refl

goal_text : text_of (judged_answer (Rejected Goal)) ≡ codes "rejected goal" ++ line_feed
goal_text = refl

goal_status : status_of (judged_answer (Rejected Goal)) ≡ 1
goal_status = refl
