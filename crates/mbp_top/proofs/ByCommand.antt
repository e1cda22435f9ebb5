-- Causes, command by command: the words say one command at most, and it has one answer at most.
use Rattle.std.proofs.Common.{◌≡◌, ◌≢◌, ℕ, List, ◌⊎◌, inl, inr, refl, subst, sym, ◌∙◌, arith}
use Rattle.plan_io.specs.Held.{Held}
use Rattle.command_base.specs.Answers.{Answer, refused, full, no_memory}
use Rattle.mbp_top.specs.Causes.{IsAnswerOf, HasCause}
use Rattle.drill_command.specs.DrillCommand.{IsDrillAnswer}
use Rattle.plan_command.specs.PlanCommand.{IsPlanAnswer}
use Rattle.refute_command.specs.RefuteCommand.{IsRefuteAnswer}
use Rattle.replay_command.specs.ReplayCommand.{Tallies}
use Rattle.mbp_top.specs.Told.{AreFilesTold, IsDue, MayStandIn}
use Rattle.command_base.specs.Words.{Bytes, Command, plan, ground, check, replay, drill, PlanWords, DrillWords, Says, SaysPlan, SaysDrill, default_nodes, RefuteWords, refute, SaysRefute}
use Rattle.check_command.proofs.CheckDecides.{check_decides}
use Rattle.drill_command.proofs.DrillDecides.{drill_decides}
use Rattle.ground_command.proofs.GroundDecides.{ground_command_decides}
use Rattle.command_base.specs.OneReading.{OneReading}
use Rattle.plan_command.proofs.PlanDecides.{plan_decides}
use Rattle.refute_command.proofs.RefuteDecides.{refute_decides}
use Rattle.replay_command.proofs.ReplayDecides.{replay_decides}
use Rattle.command_base.proofs.OneCommand.{one_command}

-- the two files decide the answer of `plan`, unless the table of nodes is full
one_plan_answer : OneReading → (held : Bytes → Held) (failed failed' : Bytes → Type 0) (words : List Bytes) (asked : PlanWords)
    → SaysPlan words asked → AreFilesTold held words → ((file : Bytes) → failed file → ⊥) → ((file : Bytes) → failed' file → ⊥)
    → (a b : Answer) → ((nodes : ℕ) → b ≢ refused (full nodes)) → IsPlanAnswer held failed asked a → IsPlanAnswer held failed' asked b
    → (a ≡ b) ⊎ MayStandIn held words a
one_plan_answer once held failed failed' words asked says told quiet quiet' a b not_full (inl (may, is)) is' = inr (inr (inl (asked, says, may, is)))
one_plan_answer once held failed failed' words asked says told quiet quiet' a b not_full (inr read) (inl (may, is)) = absurd (not_full asked.options.nodes is)
one_plan_answer once held failed failed' words asked says told quiet quiet' a b not_full (inr read) (inr read') =
    inl (plan_decides once held failed failed' asked (told (plan asked) asked.domain says (0, omega arith, refl)) (told (plan asked) asked.problem says (1, omega arith, refl)) quiet quiet' a b read read')

-- the words decide that of `drill`, unless it is
one_drill_answer : OneReading → (held : Bytes → Held) (words : List Bytes) (asked : DrillWords) → SaysDrill words asked
    → (a b : Answer) → ((nodes : ℕ) → b ≢ refused (full nodes)) → IsDrillAnswer asked a → IsDrillAnswer asked b → (a ≡ b) ⊎ MayStandIn held words a
one_drill_answer once held words asked says a b not_full (inl (may, is)) is' = inr (inr (inr (inl (asked, says, may, is))))
one_drill_answer once held words asked says a b not_full (inr read) (inl (may, is)) = absurd (not_full default_nodes is)
one_drill_answer once held words asked says a b not_full (inr read) (inr read') = inl (drill_decides once asked a b read read')

-- the three files decide that of `refute`, unless it is
one_refute_answer : OneReading → (held : Bytes → Held) (failed failed' : Bytes → Type 0) (words : List Bytes) (asked : RefuteWords)
    → SaysRefute words asked → AreFilesTold held words → ((file : Bytes) → failed file → ⊥) → ((file : Bytes) → failed' file → ⊥)
    → (a b : Answer) → ((nodes : ℕ) → b ≢ refused (full nodes)) → IsRefuteAnswer held failed asked a → IsRefuteAnswer held failed' asked b
    → (a ≡ b) ⊎ MayStandIn held words a
one_refute_answer once held failed failed' words asked says told quiet quiet' a b not_full (inl (may, is)) is' = inr (inr (inr (inr (asked, says, may, is))))
one_refute_answer once held failed failed' words asked says told quiet quiet' a b not_full (inr read) (inl (may, is)) = absurd (not_full asked.options.nodes is)
one_refute_answer once held failed failed' words asked says told quiet quiet' a b not_full (inr read) (inr read') =
    inl (refute_decides once held failed failed' asked (told (refute asked) asked.domain says (0, omega arith, refl)) (told (refute asked) asked.problem says (1, omega arith, refl))
    (told (refute asked) asked.certificate says (2, omega arith, refl)) quiet quiet' a b read read')

-- the words and the files decide the answer of a command, but for one that may stand in
one_answer : OneReading → (held : Bytes → Held) (failed failed' : Bytes → Type 0) (tallies : Tallies) (words : List Bytes) (command : Command)
    → Says words command → AreFilesTold held words → ((file : Bytes) → failed file → ⊥) → ((file : Bytes) → failed' file → ⊥)
    → (a b : Answer) → ((nodes : ℕ) → b ≢ refused (full nodes)) → IsAnswerOf held failed tallies command a → IsAnswerOf held failed' tallies command b
    → (a ≡ b) ⊎ MayStandIn held words a
one_answer once held failed failed' tallies words (plan asked) says told quiet quiet' a b not_full is is' =
    one_plan_answer once held failed failed' words asked says told quiet quiet' a b not_full is is'
one_answer once held failed failed' tallies words (ground asked) says told quiet quiet' a b not_full is is' =
    inl (ground_command_decides once held failed failed' asked (told (ground asked) asked.domain says (0, omega arith, refl)) (told (ground asked) asked.problem says (1, omega arith, refl)) quiet quiet' a b is is')
one_answer once held failed failed' tallies words (check asked) says told quiet quiet' a b not_full is is' =
    inl (check_decides once held failed failed' asked (told (check asked) asked.domain says (0, omega arith, refl)) (told (check asked) asked.problem says (1, omega arith, refl))
    (told (check asked) asked.plan says (2, omega arith, refl)) quiet quiet' a b is is')
one_answer once held failed failed' tallies words (replay asked) says told quiet quiet' a b not_full is is' =
    inl (replay_decides once held failed failed' tallies asked (told (replay asked) asked.domain says (0, omega arith, refl)) (told (replay asked) asked.problem says (1, omega arith, refl))
    (told (replay asked) asked.plan says (2, omega arith, refl)) (told (replay asked) asked.recorded says (3, omega arith, refl)) quiet quiet' a b is is')
one_answer once held failed failed' tallies words (drill asked) says told quiet quiet' a b not_full is is' =
    one_drill_answer once held words asked says a b not_full is is'
one_answer once held failed failed' tallies words (refute asked) says told quiet quiet' a b not_full is is' =
    one_refute_answer once held failed failed' words asked says told quiet quiet' a b not_full is is'

-- where the words say a command, an answer that has its cause is that command's, or want of memory
pub of_command : (held : Bytes → Held) (failed : Bytes → Type 0) (tallies : Tallies) (words : List Bytes) (command : Command) (a : Answer)
    → Says words command → HasCause held failed tallies words a → (a ≡ refused no_memory) ⊎ IsAnswerOf held failed tallies command a
of_command held failed tallies words command a says (inl (nothing, is)) = absurd (nothing command says)
of_command held failed tallies words command a says (inr (said, says', inl memory)) = inl memory
of_command held failed tallies words command a says (inr (said, says', inr is)) =
    inr (subst (λ c. IsAnswerOf held failed tallies c a) (one_command words said command says' says) is)

-- an answer that has its cause is the one that is due, or one that may stand in
pub due_answer : OneReading → (held : Bytes → Held) (failed : Bytes → Type 0) (tallies : Tallies) (words : List Bytes) (a b : Answer)
    → HasCause held failed tallies words a → IsDue held tallies words b → AreFilesTold held words → ((file : Bytes) → failed file → ⊥)
    → (a ≡ b) ⊎ MayStandIn held words a
due_answer once held failed tallies words a b (inl (nothing, is)) due told quiet = none due.cause where
  none : HasCause held (λ file. ⊥) tallies words b → (a ≡ b) ⊎ MayStandIn held words a
  none (inl (nothing', is')) = inl (is ∙ sym is')
  none (inr (said, says, why)) = absurd (nothing said says)
due_answer once held failed tallies words a b (inr (said, says, inl memory)) due told quiet = inr (inl memory)
due_answer once held failed tallies words a b (inr (said, says, inr is)) due told quiet =
    same (of_command held (λ file. ⊥) tallies words said b says due.cause) where
      same : (b ≡ refused no_memory) ⊎ IsAnswerOf held (λ file. ⊥) tallies said b → (a ≡ b) ⊎ MayStandIn held words a
      same (inl memory) = absurd (due.not_memory memory)
      same (inr is') = one_answer once held failed (λ file. ⊥) tallies words said says told quiet (λ file never. never) a b due.not_full is is'
