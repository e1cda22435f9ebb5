use Rattle.std.proofs.Common.{◌≡◌, ◌++◌, ◌∷◌, List, [], map, false, ap, ◌∙◌}
use Rattle.std.specs.Prelude.{if◌then◌else◌}
use Rattle.std.specs.List.{list_any}
use Rattle.std.specs.Rc.{rc_str_bytes}
use Rattle.std.specs.Str.{bytes_eq}
use Rattle.std.specs.Cmp.Lexicographic.{pointwise}
use Rattle.std.proofs.lemmas.List.{map-append}
use Rattle.task_core.specs.Names.{Name}
use Rattle.plan_rules.specs.NameKeys.{key_of}
use Rattle.plan_rules.proofs.Keys.{same_key, any-words}
use Rattle.plan_rules.proofs.names.NameTable.add.Goals as goal

pub returns : goal.returns
returns c =
    let key = c.in_ok-key_for.field-0 in
    let keys = c.self.inside.names.keys in
    let fresh : list_any (same_key key) keys ≡ false =
    any-words key keys ∙ (ap (λ name. list_any (pointwise bytes_eq name) (map key_of keys)) c.in_ok-key_for.ensures ∙ (ap (list_any (pointwise bytes_eq (map rc_str_bytes c.args.name.now))) c.self.view_is ∙ c.requires.new)) in
    let added : c.insert_full.new.self.keys ≡ keys ++ key ∷ [] =
    c.in_ok-insert_full.ensures.keys ∙ ap (λ b. if b then keys else keys ++ key ∷ []) fresh in
    ap (map key_of) added
    ∙ (map-append key_of keys (key ∷ [])
    ∙ (ap (λ (name : Name). map key_of keys ++ name ∷ []) c.in_ok-key_for.ensures ∙ ap (λ (names : List Name). names ++ map rc_str_bytes c.args.name.now ∷ []) c.self.view_is))
