use Rattle.std.proofs.Common.{◌≡◌, ◌<◌, ◌+◌, drop, ap, sym, ◌∙◌, arith}
use Rattle.sexpr_text.specs.Forest.{forest_of, word, group}
use Rattle.domain_read.specs.Roles.{after_word, after_group}
use Rattle.domain_read.specs.Edits.{edits, word_edits, group_edits, all_edited}
use Rattle.pddl_ast.proofs.Weights.{weight as size, weight_item as size_item}
use Rattle.domain_read.proofs.Rows.{row_at, edit_word_step, edit_group_step}
use Rattle.domain_read.proofs.edits.+editing.Goals as goal
use Rattle.domain_read.proofs.edits.+editing.Goals.{edit_row-in-Word, edit_row-in-Group}

pub edit_row-edit_group-requires : goal.edit_row-edit_group-requires
edit_row-edit_group-requires t c =
    (let h : size (forest_of c.in-Group.parts.now) < size (forest_of c.args.row.now) = size_item c.args.row.now c.loop-form.form-index c.form-item.result c.in-Group.span (forest_of c.in-Group.parts.now) c.loop-form-test.true c.form-item.is c.in-Group.ensures in omega arith, tt {0})

pub edit_row-loop-form-preserved : goal.edit_row-loop-form-preserved
edit_row-loop-form-preserved t c =
    elim c.match-view.branch [
      | edit_row-in-Word w ↦
          let rest = forest_of (drop (c.loop-form.form-index + 1) c.args.row.now) in
          let row : forest_of (drop c.loop-form.form-index c.args.row.now) ≡ word w.in-Word.span w.in-Word.word.now rest = row_at c.args.row.now c.loop-form.form-index c.form-item.result (λ r. word w.in-Word.span w.in-Word.word.now r) c.loop-form-test.true c.form-item.is w.in-Word.ensures in
          let mid : c.match-view.text ≡ all_edited (word_edits c.loop-form.current w.in-Word.span) c.loop-form.text = w.text-is ∙ w.edit_word.ensures in
          let next : c.match-view.current ≡ after_word c.loop-form.current w.in-Word.word.now = w.current-is ∙ w.after_word-current.ensures in
          c.loop-form.invariant
          ∙ (edit_word_step c.loop-form.current (forest_of (drop c.loop-form.form-index c.args.row.now)) w.in-Word.span w.in-Word.word.now rest c.loop-form.text c.match-view.text row mid
          ∙ ap (λ r. all_edited (edits r rest) c.match-view.text) (sym next))
      | edit_row-in-Group w ↦
          let rest = forest_of (drop (c.loop-form.form-index + 1) c.args.row.now) in
          let row : forest_of (drop c.loop-form.form-index c.args.row.now) ≡ group w.in-Group.span (forest_of w.in-Group.parts.now) rest = row_at c.args.row.now c.loop-form.form-index c.form-item.result (λ r. group w.in-Group.span (forest_of w.in-Group.parts.now) r) c.loop-form-test.true c.form-item.is w.in-Group.ensures in
          let mid : c.match-view.text ≡ all_edited (group_edits c.loop-form.current w.in-Group.span (forest_of w.in-Group.parts.now)) c.loop-form.text = w.text-is ∙ w.edit_group.ensures in
          let next : c.match-view.current ≡ after_group c.loop-form.current (forest_of w.in-Group.parts.now) = w.current-is ∙ w.after_group-current.ensures in
          c.loop-form.invariant
          ∙ (edit_group_step c.loop-form.current (forest_of (drop c.loop-form.form-index c.args.row.now)) w.in-Group.span (forest_of w.in-Group.parts.now) rest c.loop-form.text c.match-view.text row mid
          ∙ ap (λ r. all_edited (edits r rest) c.match-view.text) (sym next))
    ]
