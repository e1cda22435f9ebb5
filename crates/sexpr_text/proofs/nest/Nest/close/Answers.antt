use Rattle.std.proofs.Common.{◌≡◌, ◌∷◌, [], ◌++◌, ap, ◌∙◌, map}
use Rattle.std.specs.Option.{option_to_list}
use Rattle.std.proofs.lemmas.List.{map-append}
use Rattle.std.specs.Global.{Vec}
use Rattle.sexpr_text.specs.declared.forms.Span.{Span}
use Rattle.sexpr_text.specs.declared.forms.Form.{Form}
use Rattle.sexpr_text.specs.declared.forms.Form.TheVariants.{Group as group_form}
use Rattle.sexpr_text.specs.Forest.{nothing, group, join, form_then, forest_of}
use Rattle.sexpr_text.specs.Pending.{pending_of}
use Rattle.sexpr_text.proofs.Forests.{forest_of-push, form_then-group}
use Rattle.sexpr_text.proofs.nest.Nest.close.Goals as goal

pub returns : goal.returns
returns c =
    let opened = c.unwrap-opened.result in
    let items : c.args.self.now.pending.items ≡ c.pop.new.self.items ++ opened ∷ [] =
    c.pop.ensures.items ∙ ap (λ o. c.pop.new.self.items ++ option_to_list o) c.unwrap-opened.ensures in
    let span : Span = record { start = opened.start; end = c.args.end; place = opened.place } in
    let before = λ (v : Vec Form). join (forest_of v.items) (form_then (group_form span c.replace-parts.result) nothing) in
    let within = λ (v : Vec Form). join (forest_of opened.before.items) (group span (forest_of v.items) nothing) in (
      pending_of opened,
      ap (map pending_of) items ∙ map-append pending_of c.pop.new.self.items (opened ∷ []),
      ap forest_of c.in_ok-push.ensures.items
          ∙ (forest_of-push c.replace-parts.new.dest.items _
          ∙ (ap before c.replace-parts.ensures.after
          ∙ (ap (join (forest_of opened.before.items)) (form_then-group span c.replace-parts.result nothing)
          ∙ ap within c.replace-parts.ensures.value))),
    )
