-- The sets of a task while slots are taken and ended.
use Rattle.std.proofs.Common.{◌≡◌, ℕ, ◌<◌, Option, Result, length, sym, ap, subst, ◌∙◌, arith}
use Rattle.std.specs.Prelude.{IfOk, OnErr}
use Rattle.dd_nodes.specs.Subfunctions.{Function}
use Rattle.dd_sets.specs.Calls.{KeepsSets, Adds, AddsNone}
use Rattle.dd_sets.specs.Frames.{OwnsAnswer}
use Rattle.dd_sets.specs.LiveSets.{LiveSets, IsLive, set_of}
use Rattle.dd_sets.specs.declared.errors.SetErr.{SetErr}
use Rattle.dd_sets.specs.declared.slots.SetId.{SetId}
use Rattle.task_core.specs.declared.tasks.Task.{Task}
use Rattle.task_core.specs.Tasks.{outcomes_at}
use Rattle.encode_task.specs.Made.{Holds, HoldsLands, MadeOf}
use Rattle.encode_task.specs.Slots.{Encoded, exec_slot, lands_slot}
use Rattle.encode_task.specs.TaskSets.{exec_set, lands_set, led_into}
use Rattle.encode_task.proofs.MadeLemmas.{made_kept}
use Rattle.dd_sets.proofs.OwnedLemmas.{answered}

pub same_chain : (a b c : Encoded) → b ≡ record a { sets = b.sets } → c ≡ record b { sets = c.sets } → c ≡ record a { sets = c.sets }
same_chain a b c first second = second ∙ ap (λ (e : Encoded). record e { sets = c.sets }) first

pub made_now : (task : Task) (first now : Encoded) → now ≡ record first { sets = now.sets } → KeepsSets first.sets now.sets → MadeOf task first → MadeOf task now
made_now task first now same kept made = subst (MadeOf task) (sym same) (made_kept task first now.sets kept made)

pub exec_holds : (task : Task) (enc : Encoded) (a : ℕ) (exec : SetId) → MadeOf task enc → a < length enc.actions → exec ≡ exec_slot enc a → Holds enc.sets exec (exec_set task a)
exec_holds task enc a exec made action is = subst (λ s. Holds enc.sets s (exec_set task a)) (sym is) (made.exec a (omega (arith, made.actions)))

-- what an outcome leads into a set that was there at first
pub led_answer : (task : Task) (first now : Encoded) (after : LiveSets) (x a o : ℕ) (answer : Result SetId SetErr) → now ≡ record first { sets = now.sets } → KeepsSets first.sets now.sets → IsLive first.sets x
    → MadeOf task first → ((task : Task) → MadeOf task now → IfOk answer (λ slot. Adds now.sets after slot.0 (led_into task a o (set_of now.sets x)))) → KeepsSets now.sets after → OnErr answer (AddsNone now.sets after)
    → OwnsAnswer now.sets after (led_into task a o (set_of first.sets x)) answer
led_answer task first now after x a o answer same kept live made adds stays none =
    subst (λ (set : Function). OwnsAnswer now.sets after (led_into task a o set) answer) (kept.sets x live)
    (answered now.sets after (led_into task a o (set_of now.sets x)) answer (adds task (made_now task first now same kept made)) stays none)

-- the slot of what an outcome leads to states holds it
pub lands_hold : (task : Task) (enc : Encoded) (a o : ℕ) (lands : Option SetId) → MadeOf task enc → a < length enc.actions → o < length (outcomes_at task a) → lands ≡ lands_slot enc a o → HoldsLands enc.sets lands (lands_set task a o)
lands_hold task enc a o lands made action outcome is = subst (λ s. HoldsLands enc.sets s (lands_set task a o)) (sym is) (made.lands a o (omega (arith, made.actions)) outcome)

-- an action of the sets stays one
pub still_action : (first now : Encoded) (a : ℕ) → now ≡ record first { sets = now.sets } → a < length first.actions → a < length now.actions
still_action first now a same action = subst (λ (e : Encoded). a < length e.actions) (sym same) action
