-- The sets of a plan with contexts stay on the board while those of its rules are put there.
use Rattle.std.proofs.Common.{◌≡◌, ◌+◌, ◌^◌, ◌≤◌, ℕ, List, Option, Some, refl, subst, sym}
use Rattle.std.specs.Prelude.{IfSome, OnOk, Result, Ok, Err}
use Rattle.context_plan.specs.Scenes.{Left, Start}
use Rattle.context_plan.specs.Sizes.{EverySetIsSmall}
use Rattle.context_plan.specs.Tables.{HasRuleStates, HasTable, start_of}
use Rattle.cyclic_plan.specs.Takers as rounds
use Rattle.dd_sets.proofs.SizeLemmas.{every_small}
use Rattle.dd_sets.specs.declared.errors.SetErr.{SetErr}
use Rattle.dd_sets.specs.declared.slots.SetId.{SetId}
use Rattle.encode_task.specs.Made.{MadeOf}
use Rattle.encode_task.specs.Slots.{Encoded}
use Rattle.plan_theory.specs.UntilChains.{UntilSets}
use Rattle.task_core.specs.Tasks.{fluent_count}
use Rattle.task_core.specs.declared.tasks.Task.{Task}
use Rattle.slot_board.specs.Board.{Start as BoardStart}
use Rattle.slot_board.specs.declared.board.Board.{Board}
use Rattle.control_command.specs.Followed.{AreSlotsLive, IsTableThere}

pub table_stays : {T : Type 0} (task : Task) (old new : Encoded) (before after : List SetId) (stages context next : ℕ) (r : Result T SetErr) → IsTableThere task old before stages
    → ((start : Start) (chain : UntilSets) → start.stages ≡ stages → HasTable start (old, before) chain
    → EverySetIsSmall start → Left start (new, after) (HasRuleStates start (new, after) chain context next) r)
    → OnOk r (IsTableThere task new after stages)
table_stays task old new before after stages context next (Ok x) there step = record {
  start = there.start;
  chain = there.chain;
  of_task = there.of_task;
  count = there.count;
  table = (step there.start there.chain there.count there.table there.small).table;
  small = there.small;
}
table_stays task old new before after stages context next (Err e) there step = tt

-- the board that a search found has them, by a width by which every set is small
abbrev pub width_for : Task → ℕ
width_for task = 2 ^ fluent_count task + 1

pub table_found : (task : Task) (enc new : Encoded) (made : MadeOf task enc) (n stages : ℕ) (chain : UntilSets) (wide : fluent_count task + 2 ≤ width_for task) (found : Option Board) (board : Board)
    → found ≡ Some board → n ≡ stages
    → IfSome found (λ b. HasTable (start_of task enc made n (width_for task) wide) (new, b.slots.items) chain) → IsTableThere task new board.slots.items stages
table_found task enc new made n stages chain wide found board is count has =
    let start = start_of task enc made n (width_for task) wide in
    record {
      start = start;
      chain = chain;
      of_task = refl;
      count = count;
      table = subst (λ (o : Option Board). IfSome o (λ b. HasTable start (new, b.slots.items) chain)) is has;
      small = λ set. every_small (fluent_count task) set;
    }

-- each slot of the board of a strong cyclic plan holds a set
pub rounds_live : (start : BoardStart) (new : Encoded) (found : Option Board) (board : Board) (slots : List SetId) → found ≡ Some board → slots ≡ board.slots.items
    → IfSome found (λ b. rounds.HasTable start new b.slots.items) → AreSlotsLive new.sets slots
rounds_live start new found board slots is same has =
    let table : rounds.HasTable start new board.slots.items = subst (λ (o : Option Board). IfSome o (λ b. rounds.HasTable start new b.slots.items)) is has in
    subst (AreSlotsLive new.sets) (sym same) (λ i below. table.at.working.live i below)
