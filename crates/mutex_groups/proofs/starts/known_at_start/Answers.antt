use Rattle.std.proofs.Common.{◌≡◌, ◌<◌, ◌≤◌, get_or, length, subst}
use Rattle.task_core.specs.States.{truth}
use Rattle.mutex_groups.proofs.StartLemmas.{all_entries, alternatives_within_256, known_before, known_onward, within_256}
use Rattle.mutex_groups.proofs.starts.known_at_start.Goals as goal

pub known_of-known-requires : goal.known_of-known-requires
known_of-known-requires c = within_256 c.args.task.now c.args.members.now c.requires

pub known_after-known-requires-clause-within : goal.known_after-known-requires-clause-within
known_after-known-requires-clause-within c = within_256 c.args.task.now c.args.members.now c.requires

pub known_after-known-requires-clause-entry : goal.known_after-known-requires-clause-entry
known_after-known-requires-clause-entry c =
    let i = c.loop-entry.entry-index in
    let x = c.entry-item.result in
    let items = c.deref-entry-items.ensures.value in
    rw c.deref.ensures.value
    (alternatives_within_256 c.args.task.now i x (subst (λ xs. i < length xs) items c.loop-entry-test.true) (subst (λ xs. x ≡ get_or xs i x) items c.entry-item.is))

pub loop-entry-init : goal.loop-entry-init
loop-entry-init c = known_before c.args.task.now (truth c.args.members.now) c.known_of-known.result c.known_of-known.ensures

pub loop-entry-preserved : goal.loop-entry-preserved
loop-entry-preserved c =
    let i = c.loop-entry.entry-index in
    let x = c.entry-item.result in
    let items = c.deref-entry-items.ensures.value in
    known_onward c.args.task.now c.args.members.now c.loop-entry.known c.known_after-known.result i x c.requires
    (subst (λ xs. i < length xs) items c.loop-entry-test.true) (subst (λ xs. x ≡ get_or xs i x) items c.entry-item.is)
    (rw c.deref.ensures.value at c.known_after-known.ensures) c.loop-entry.invariant

pub returns : goal.returns
returns c =
    let task = c.args.task.now in
    all_entries task (truth c.args.members.now) c.loop-entry.known c.loop-entry.entry-index
    (subst (λ xs. length xs ≤ c.loop-entry.entry-index) c.deref-entry-items.ensures.value c.loop-entry-test.false) c.loop-entry.invariant
