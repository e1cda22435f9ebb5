-- From the two files to the answer.
use Rattle.std.proofs.Common.{◌≡◌, ◌⊎◌, List, [], ◌∷◌, inl, inr, map, refl}
use Rattle.plan_io.specs.Held.{Held}
use Rattle.command_base.specs.Answers.{Answer, affirmed, denied, no_memory, refused}
use Rattle.command_base.specs.PddlTexts.{ReadBoth}
use Rattle.command_base.specs.Words.{Bytes}
use Rattle.lint_notices.specs.Values.{notice_value}
use Rattle.lint_notices.specs.declared.notices.Notice.{Notice}
use Rattle.lint_command.specs.Mistakes.{HoldTexts, IsMistakesAnswer, MistakesThen, ShowsMistakes, Spelled, answer_as}
use Rattle.lint_command.specs.Words.{MistakesWords}

-- one of the files is refused
pub before_mistakes : (held : Bytes → Held) (failed : Bytes → Type 0) (asked : MistakesWords) (a : Answer)
    → (a ≡ refused no_memory) ⊎ ReadBoth held failed asked.names.domain asked.names.problem (MistakesThen held asked) a
    → (a ≡ refused no_memory) ⊎ IsMistakesAnswer held failed asked a
before_mistakes held failed asked a why = why

-- both were read
pub after_mistakes : (held : Bytes → Held) (failed : Bytes → Type 0) (asked : MistakesWords) (read : Spelled) (a : Answer)
    → HoldTexts held asked.names read → (a ≡ refused no_memory) ⊎ ShowsMistakes asked read a
    → (a ≡ refused no_memory) ⊎ IsMistakesAnswer held failed asked a
after_mistakes held failed asked read a texts (inl memory) = inl memory
after_mistakes held failed asked read a texts (inr shows) =
    inr (inr (
      read.domain,
      record { bytes = read.domain_text; file = texts.domain_file; spelled = texts.domain_spelled },
      inr (
        read.problem,
        record { bytes = read.problem_text; file = texts.problem_file; spelled = texts.problem_spelled },
        (read, refl, refl, texts, shows),
      ),
    ))

-- nothing is told, or something is
pub says_yes : (text : Bytes) (told listed : List Notice) → listed ≡ told → listed ≡ [] → affirmed text ≡ answer_as text (map notice_value told)
says_yes text [] listed same none = refl
says_yes text (notice ∷ told) listed same none = cc (same, none)

pub says_no : (text : Bytes) (told listed : List Notice) → listed ≡ told → (listed ≡ [] → ⊥) → denied text ≡ answer_as text (map notice_value told)
says_no text [] listed same some = absurd (some same)
says_no text (notice ∷ told) listed same some = refl
