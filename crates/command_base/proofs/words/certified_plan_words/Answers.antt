use Rattle.std.proofs.Common.{◌-◌, ◌≡◌, codes, drop, length, map, refl, rules, string_bytes, take}
use Rattle.std.specs.declared.alloc.Global.{Global}
use Rattle.command_base.proofs.WordLists.{first_four, no_certified, says_certified}
use Rattle.command_base.proofs.words.certified_plan_words.Goals as goal

pub returns-in_err-plan_options : goal.returns-in_err-plan_options
returns-in_err-plan_options c =
    let words = c.args.words.now in
    let parts = first_four (string_bytes {Z = Global}) words c.class-item.result c.domain-item.result c.problem-item.result c.option-item.result c.in-len4-up.len_at_least
    c.class-item.is c.domain-item.is c.problem-item.is c.option-item.is in
    let none = no_certified (map (string_bytes {Z = Global}) words) (string_bytes c.class-item.result) (string_bytes c.domain-item.result) (string_bytes c.problem-item.result) (string_bytes c.option-item.result)
    (map (string_bytes {Z = Global}) (take (length words - 4) (drop 4 words))) parts (search rules) in
    search (rules, none)

pub returns : goal.returns
returns c =
    let words = c.args.words.now in
    let parts = first_four (string_bytes {Z = Global}) words c.class-item.result c.domain-item.result c.problem-item.result c.option-item.result c.in-len4-up.len_at_least
    c.class-item.is c.domain-item.is c.problem-item.is c.option-item.is in
    let cert : string_bytes c.option-item.result ≡ codes "--cert" = search rules in
    says_certified (map (string_bytes {Z = Global}) words) (string_bytes c.class-item.result) (string_bytes c.domain-item.result) (string_bytes c.problem-item.result) (string_bytes c.option-item.result)
    (map (string_bytes {Z = Global}) (take (length words - 4) (drop 4 words))) _ _ parts cert refl (search rules) (search rules) (search rules) refl (search rules) (search rules)
