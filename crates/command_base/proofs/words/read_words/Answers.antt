use Rattle.std.proofs.Common.{◌≡◌, ℕ, ◌∷◌, List, codes, map, string_bytes, length, take, drop, ◌-◌, subst, sym, ap, ◌∙◌}
use Rattle.std.specs.declared.alloc.Global.{Global}
use Rattle.std.proofs.lemmas.Slice.Eq.{bytes_eq-Decides}
use Rattle.command_base.specs.Values.{check_words_of, drill_words_of, ground_words_of, plan_words_of, refute_words_of, replay_words_of}
use Rattle.command_base.specs.Words.{SaysCheck, SaysDrill, SaysGround, SaysPlan, SaysRefute, SaysReplay}
use Rattle.command_base.proofs.WordLists.{first_and_rest}
use Rattle.command_base.proofs.words.read_words.Goals as goal

pub returns-in-Some : goal.returns-in-Some
returns-in-Some c =
    let words = c.args.words.now in
    let parts = first_and_rest (string_bytes {Z = Global}) words c.command-item.result c.in-len1-up.len_at_least c.command-item.is in
    let first : string_bytes c.command-item.result ≡ codes "plan" = sym c.as_str.ensures.value ∙ (bytes_eq-Decides c.as_str.result.now (codes "plan")).0 (sym c.if-eq.ensures) in
    let rest = map (string_bytes {Z = Global}) (take (length words - 1) (drop 1 words)) in
    subst (λ (ws : List (List ℕ)). SaysPlan ws (plan_words_of c.in-Some.asked)) (sym (parts ∙ ap (λ (w : List ℕ). w ∷ rest) first)) c.in-Some.ensures

pub returns-in-Some-ground_words : goal.returns-in-Some-ground_words
returns-in-Some-ground_words c =
    let words = c.args.words.now in
    let parts = first_and_rest (string_bytes {Z = Global}) words c.command-item.result c.in-len1-up.len_at_least c.command-item.is in
    let first : string_bytes c.command-item.result ≡ codes "ground" = sym c.as_str-2.ensures.value ∙ (bytes_eq-Decides c.as_str-2.result.now (codes "ground")).0 (sym c.if-eq-2.ensures) in
    let rest = map (string_bytes {Z = Global}) (take (length words - 1) (drop 1 words)) in
    subst (λ (ws : List (List ℕ)). SaysGround ws (ground_words_of c.in-Some-ground_words.asked)) (sym (parts ∙ ap (λ (w : List ℕ). w ∷ rest) first)) c.in-Some-ground_words.ensures

pub returns-in-Some-check_words : goal.returns-in-Some-check_words
returns-in-Some-check_words c =
    let words = c.args.words.now in
    let parts = first_and_rest (string_bytes {Z = Global}) words c.command-item.result c.in-len1-up.len_at_least c.command-item.is in
    let first : string_bytes c.command-item.result ≡ codes "check" = sym c.as_str-3.ensures.value ∙ (bytes_eq-Decides c.as_str-3.result.now (codes "check")).0 (sym c.if-eq-3.ensures) in
    let rest = map (string_bytes {Z = Global}) (take (length words - 1) (drop 1 words)) in
    subst (λ (ws : List (List ℕ)). SaysCheck ws (check_words_of c.in-Some-check_words.asked)) (sym (parts ∙ ap (λ (w : List ℕ). w ∷ rest) first)) c.in-Some-check_words.ensures

pub returns-in-Some-replay_words : goal.returns-in-Some-replay_words
returns-in-Some-replay_words c =
    let words = c.args.words.now in
    let parts = first_and_rest (string_bytes {Z = Global}) words c.command-item.result c.in-len1-up.len_at_least c.command-item.is in
    let first : string_bytes c.command-item.result ≡ codes "replay" = sym c.as_str-4.ensures.value ∙ (bytes_eq-Decides c.as_str-4.result.now (codes "replay")).0 (sym c.if-eq-4.ensures) in
    let rest = map (string_bytes {Z = Global}) (take (length words - 1) (drop 1 words)) in
    subst (λ (ws : List (List ℕ)). SaysReplay ws (replay_words_of c.in-Some-replay_words.asked)) (sym (parts ∙ ap (λ (w : List ℕ). w ∷ rest) first)) c.in-Some-replay_words.ensures

pub returns-in-Some-drill_words : goal.returns-in-Some-drill_words
returns-in-Some-drill_words c =
    let words = c.args.words.now in
    let parts = first_and_rest (string_bytes {Z = Global}) words c.command-item.result c.in-len1-up.len_at_least c.command-item.is in
    let first : string_bytes c.command-item.result ≡ codes "drill" = sym c.as_str-5.ensures.value ∙ (bytes_eq-Decides c.as_str-5.result.now (codes "drill")).0 (sym c.if-eq-5.ensures) in
    let rest = map (string_bytes {Z = Global}) (take (length words - 1) (drop 1 words)) in
    subst (λ (ws : List (List ℕ)). SaysDrill ws (drill_words_of c.in-Some-drill_words.asked)) (sym (parts ∙ ap (λ (w : List ℕ). w ∷ rest) first)) c.in-Some-drill_words.ensures

pub returns-in-Some-refute_words : goal.returns-in-Some-refute_words
returns-in-Some-refute_words c =
    let words = c.args.words.now in
    let parts = first_and_rest (string_bytes {Z = Global}) words c.command-item.result c.in-len1-up.len_at_least c.command-item.is in
    let first : string_bytes c.command-item.result ≡ codes "refute" = sym c.as_str-6.ensures.value ∙ (bytes_eq-Decides c.as_str-6.result.now (codes "refute")).0 (sym c.if-eq-6.ensures) in
    let rest = map (string_bytes {Z = Global}) (take (length words - 1) (drop 1 words)) in
    subst (λ (ws : List (List ℕ)). SaysRefute ws (refute_words_of c.in-Some-refute_words.asked)) (sym (parts ∙ ap (λ (w : List ℕ). w ∷ rest) first)) c.in-Some-refute_words.ensures
