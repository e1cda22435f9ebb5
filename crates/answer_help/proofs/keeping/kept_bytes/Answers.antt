use Rattle.std.proofs.Common.{◌≡◌, ◌+◌, ◌<◌, ◌∙◌, List, ℕ, add-one, length, rules, string_bytes, subst, suc, sym, take}
use Rattle.plan_io.specs.Held.{Gives, Held}
use Rattle.std.specs.declared.alloc.Global.{Global}
use Rattle.answer_help.specs.Keeping.{NamesNone, kept_files}
use Rattle.answer_help.proofs.Kept.{none_more, told_at}
use Rattle.answer_help.proofs.keeping.kept_bytes.Goals as goal

pub returns-then-eq-clause-given : goal.returns-then-eq-clause-given
returns-then-eq-clause-given c held told =
    let file = c.file-item.result in
    let named : string_bytes {Z = Global} file.name ≡ c.args.name.now = search rules in
    let gives = told_at held c.args.files.now c.loop-file.file-index file c.loop-file-test.true c.file-item.is told in
    rw c.as_slice.ensures.value (subst (λ (name : List ℕ). Gives (held name) file.bytes.items) named gives)

pub loop-file-preserved : goal.loop-file-preserved
loop-file-preserved c =
    let file = c.file-item.result in
    let other : string_bytes {Z = Global} file.name ≡ c.args.name.now → ⊥ = search rules in
    rw add-one (none_more c.args.files.now c.loop-file.file-index file c.args.name.now c.loop-file-test.true c.file-item.is other c.loop-file.invariant)
