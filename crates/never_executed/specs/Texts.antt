-- The lines that say why literals are never true: what is printed, byte for byte.
use Rattle.std.specs.Prelude.{ℕ, ◌-◌, nat_le, List, [], ◌∷◌, ◌++◌, codes, decimal, length, take, if◌then◌else◌}
use Rattle.std.specs.List.{flat_map}
use Rattle.plan_rules.specs.Texts.{atom_text, line_feed, name_at}
use Rattle.task_core.specs.Names.{Name}
use Rattle.task_core.specs.Tasks.{action_names, fluent_names, outcomes_at}
use Rattle.task_core.specs.declared.literals.Lit.{Lit}
use Rattle.task_core.specs.declared.tasks.Task.{Task}
use Rattle.relaxed_reach.specs.Literals.{LiteralSet}
pub use Rattle.state_text.specs.Texts.{conditions_text}
use Rattle.never_executed.specs.Makers.{MakerPlace, lacks, makers}

-- how many outcomes are printed of a literal
abbrev pub most_makers : ℕ
most_makers = 5

-- a literal, as (at a) or (not (at a))
abbrev pub literal_text : List Name → Lit → List ℕ
literal_text fluents lit =
    if lit.positive then atom_text (name_at fluents lit.fluent.0)
    else codes "(not " ++ atom_text (name_at fluents lit.fluent.0) ++ codes ")"

-- the number of an outcome, where the action has more than one
abbrev pub outcome_note : ℕ → ℕ → List ℕ
outcome_note count outcome =
    if nat_le count 1 then [] else codes ", outcome " ++ decimal outcome ++ codes ","

-- the line of an outcome that would make the literal true, as: two spaces,
-- (go a b) needs (road a b)
abbrev pub maker_line : Task → LiteralSet → Lit → MakerPlace → List ℕ
maker_line task set lit place =
    codes "  " ++ atom_text (name_at (action_names task) place.action)
    ++ outcome_note (length (outcomes_at task place.action)) place.outcome
    ++ codes " needs" ++ conditions_text (fluent_names task) (lacks task set lit place) ++ line_feed

-- the line below them, where there are more
abbrev pub more_line : ℕ → List ℕ
more_line count =
    if nat_le count most_makers then []
    else codes "  and " ++ decimal (count - most_makers) ++ codes " more" ++ line_feed

-- the lines of a literal: what its outcomes need, or that there are none
abbrev pub maker_lines : Task → LiteralSet → Lit → List MakerPlace → List ℕ
maker_lines task set lit [] = codes "  no action makes it so" ++ line_feed
maker_lines task set lit (place ∷ places) =
    flat_map (maker_line task set lit) (take most_makers (place ∷ places))
    ++ more_line (length (place ∷ places))

abbrev pub reason_text : Task → LiteralSet → Lit → List ℕ
reason_text task set lit =
    literal_text (fluent_names task) lit ++ codes " is never true:" ++ line_feed
    ++ maker_lines task set lit (makers task lit)

-- the lines of some literals
abbrev pub reasons_text : Task → LiteralSet → List Lit → List ℕ
reasons_text task set lits = flat_map (reason_text task set) lits
