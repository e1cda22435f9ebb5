use Rattle.std.proofs.Common.{refl}
use Rattle.sexpr_text.proofs.Forests.{form_then-group}
use Rattle.sexpr_text.proofs.forms.Form.view.Goals as goal

pub returns-in-Group : goal.returns-in-Group
returns-in-Group c = λ rest. rw (c.in-Group.is, c.as_slice.ensures.value, form_then-group c.in-Group.span c.in-Group.parts rest) refl
