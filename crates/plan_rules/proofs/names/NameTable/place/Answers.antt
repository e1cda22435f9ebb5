use Rattle.std.proofs.Common.{◌≡◌, ap, sym, ◌∙◌}
use Rattle.plan_rules.specs.NameKeys.{key_of}
use Rattle.plan_rules.specs.Readings.{number_of_name}
use Rattle.plan_rules.proofs.Keys.{position-words}
use Rattle.plan_rules.proofs.names.NameTable.place.Goals as goal

pub returns-in_err-place : goal.returns-in_err-place
returns-in_err-place c =
    let found : c.get_index_of.result ≡ number_of_name c.args.self.now (key_of c.args.words.now) =
    c.get_index_of.ensures.index ∙ position-words c.args.words.now c.self.inside.names.keys
    ∙ ap (λ names. number_of_name names (key_of c.args.words.now)) c.self.view_is in
    c.from_residual.ensures ∙ (sym c.in_err-place.was ∙ found)

pub returns : goal.returns
returns c =
    let found : c.get_index_of.result ≡ number_of_name c.args.self.now (key_of c.args.words.now) =
    c.get_index_of.ensures.index ∙ position-words c.args.words.now c.self.inside.names.keys
    ∙ ap (λ names. number_of_name names (key_of c.args.words.now)) c.self.view_is in
    sym c.in_ok-place.was ∙ found
