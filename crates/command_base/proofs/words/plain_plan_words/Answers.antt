use Rattle.std.proofs.Common.{◌-◌, drop, length, map, rules, string_bytes, take}
use Rattle.std.specs.declared.alloc.Global.{Global}
use Rattle.command_base.proofs.WordLists.{first_three, no_plain}
use Rattle.command_base.proofs.words.plain_plan_words.Goals as goal

pub returns-in_err-plan_options-clause-said : goal.returns-in_err-plan_options-clause-said
returns-in_err-plan_options-clause-said c =
    let words = c.args.words.now in
    let parts = first_three (string_bytes {Z = Global}) words c.kind-item.result c.domain-item.result c.problem-item.result c.in-len3-up.len_at_least c.kind-item.is c.domain-item.is c.problem-item.is in
    let none = no_plain (map (string_bytes {Z = Global}) words) (string_bytes c.kind-item.result) (string_bytes c.domain-item.result) (string_bytes c.problem-item.result)
    (map (string_bytes {Z = Global}) (take (length words - 3) (drop 3 words))) parts (search rules) in
    search (rules, none)
