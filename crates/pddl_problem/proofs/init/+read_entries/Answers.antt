use Rattle.std.proofs.Common.{◌≡◌, [], ◌+◌, ◌≤◌, drop, ap, ◌∙◌, arith}
use Rattle.std.proofs.lemmas.Result.{err_from_is_err_and}
use Rattle.sexpr_text.specs.Forest.{word, group, forest_of}
use Rattle.pddl_ast.specs.Environment.{known_value}
use Rattle.pddl_problem.specs.Init.{init_flaws, init_facts, init_entries, bad_form, entry_flaws, entry_facts, entry_uncertain}
use Rattle.pddl_problem.specs.Values.{facts_in, entries_in}
use Rattle.pddl_problem.proofs.Sizes.{size_of, size_of-drop}
use Rattle.pddl_problem.proofs.EntryLemmas.{IsList, list_next, and_next, other_next, fault_next, clean_next, read_next}
use Rattle.pddl_problem.proofs.init.+read_entries.Goals as goal
use Rattle.pddl_problem.proofs.init.+read_entries.Goals.{then-spells+in_ok-read_entries-in-Word-head_of, else-spells+in_ok-read_entry-in-Word-head_of}

pub read_entries-requires : goal.read_entries-requires
read_entries-requires t c =
    let row = c.args.row.now in
    let k = c.loop-form.form-index in
    let w = c.in-Word-head_of in
    let parts = word w.head_span w.head.now (forest_of w.rest.now) in
    let is : IsList row k c.form-item.result c.in-Group.span parts =
    record { inside = c.loop-form-test.true; here = c.form-item.is; list = λ rest. c.in-Group.ensures rest ∙ ap (λ p. group c.in-Group.span p rest) w.ensures } in
    let e : size_of (forest_of (drop k row)) ≡ 1 + (1 + size_of (forest_of w.rest.now)) + size_of (forest_of (drop (k + 1) row)) =
    ap size_of (list_next row k c.form-item.result c.in-Group.span parts is) in
    let h : size_of (forest_of (drop k row)) ≤ size_of (forest_of row) = size_of-drop k row in
    (omega arith, tt)

pub returns-in_err-read_entries-in-Word-head_of-clause-fault : goal.returns-in_err-read_entries-in-Word-head_of-clause-fault
returns-in_err-read_entries-in-Word-head_of-clause-fault t c =
    let row = c.args.row.now in
    let k = c.loop-form.form-index in
    let w = c.in-Word-head_of in
    let parts = word w.head_span w.head.now (forest_of w.rest.now) in
    let known = known_value c.args.known.now in
    let is : IsList row k c.form-item.result c.in-Group.span parts =
    record { inside = c.loop-form-test.true; here = c.form-item.is; list = λ rest. c.in-Group.ensures rest ∙ ap (λ p. group c.in-Group.span p rest) w.ensures } in
    let e = and_next bad_form (entry_flaws known) row k c.form-item.result c.in-Group.span w.head_span w.head.now (forest_of w.rest.now) is c.if-spells.ensures in
    let x = c.in_err-read_entries-in-Word-head_of in
    let p = err_from_is_err_and c.from_residual.result c.from_residual.ensures.1 in
    rw (p.1, p.2) (fault_next (init_flaws known (forest_of row)) (init_flaws known (forest_of (drop k row))) (init_flaws known (forest_of w.rest.now)) (init_flaws known (forest_of (drop (k + 1) row)))
    x.field-0.0 c.loop-form.invariant.0 e x.ensures.fault)

pub returns-in_err-read_entry-in-Word-head_of-clause-fault : goal.returns-in_err-read_entry-in-Word-head_of-clause-fault
returns-in_err-read_entry-in-Word-head_of-clause-fault t c =
    let row = c.args.row.now in
    let k = c.loop-form.form-index in
    let w = c.in-Word-head_of in
    let parts = word w.head_span w.head.now (forest_of w.rest.now) in
    let known = known_value c.args.known.now in
    let is : IsList row k c.form-item.result c.in-Group.span parts =
    record { inside = c.loop-form-test.true; here = c.form-item.is; list = λ rest. c.in-Group.ensures rest ∙ ap (λ p. group c.in-Group.span p rest) w.ensures } in
    let e = other_next bad_form (entry_flaws known) row k c.form-item.result c.in-Group.span w.head_span w.head.now (forest_of w.rest.now) is c.if-spells.ensures in
    let x = c.in_err-read_entry-in-Word-head_of in
    let p = err_from_is_err_and c.from_residual-in_err-read_entry-in-Word-head_of.result c.from_residual-in_err-read_entry-in-Word-head_of.ensures.1 in
    rw (p.1, p.2) (fault_next (init_flaws known (forest_of row)) (init_flaws known (forest_of (drop k row))) (entry_flaws known c.in-Group.span parts) (init_flaws known (forest_of (drop (k + 1) row)))
    x.field-0.0 c.loop-form.invariant.0 e x.ensures.fault)

pub loop-form-preserved : goal.loop-form-preserved
loop-form-preserved t c =
    let row = c.args.row.now in
    let k = c.loop-form.form-index in
    let v = c.in-Word-head_of in
    let inner = forest_of v.rest.now in
    let parts = word v.head_span v.head.now inner in
    let known = known_value c.args.known.now in
    let later = forest_of (drop (k + 1) row) in
    let is : IsList row k c.form-item.result c.in-Group.span parts =
    record { inside = c.loop-form-test.true; here = c.form-item.is; list = λ rest. c.in-Group.ensures rest ∙ ap (λ p. group c.in-Group.span p rest) v.ensures } in
    elim c.if-spells.branch [
      | then-spells+in_ok-read_entries-in-Word-head_of w ↦
          (let e = and_next bad_form (entry_flaws known) row k c.form-item.result c.in-Group.span v.head_span v.head.now inner is w.if-spells.ensures in
          let f = and_next (λ span. []) (λ span. entry_facts known) row k c.form-item.result c.in-Group.span v.head_span v.head.now inner is w.if-spells.ensures in
          let g = and_next (λ span. []) (λ span. entry_uncertain known) row k c.form-item.result c.in-Group.span v.head_span v.head.now inner is w.if-spells.ensures in
          let x = w.in_ok-read_entries-in-Word-head_of in (
            clean_next (init_flaws known (forest_of row)) (init_flaws known (forest_of (drop k row))) (init_flaws known inner) (init_flaws known later) c.loop-form.invariant.0 e x.ensures.sound,
            read_next (facts_in c.args.initial.now) (init_facts known (forest_of row)) (facts_in c.loop-form.initial') (init_facts known (forest_of (drop k row))) (init_facts known inner) (init_facts known later) (facts_in c.if-spells.initial')
                c.loop-form.invariant.1 f (ap facts_in w.initial'-is ∙ x.ensures.facts),
            read_next (entries_in c.args.initial.now) (init_entries known (forest_of row)) (entries_in c.loop-form.initial') (init_entries known (forest_of (drop k row))) (init_entries known inner) (init_entries known later) (entries_in c.if-spells.initial')
                c.loop-form.invariant.2 g (ap entries_in w.initial'-is ∙ x.ensures.entries),
          ))
      | else-spells+in_ok-read_entry-in-Word-head_of w ↦
          (let e = other_next bad_form (entry_flaws known) row k c.form-item.result c.in-Group.span v.head_span v.head.now inner is w.if-spells.ensures in
          let f = other_next (λ span. []) (λ span. entry_facts known) row k c.form-item.result c.in-Group.span v.head_span v.head.now inner is w.if-spells.ensures in
          let g = other_next (λ span. []) (λ span. entry_uncertain known) row k c.form-item.result c.in-Group.span v.head_span v.head.now inner is w.if-spells.ensures in
          let x = w.in_ok-read_entry-in-Word-head_of in (
            clean_next (init_flaws known (forest_of row)) (init_flaws known (forest_of (drop k row))) (entry_flaws known c.in-Group.span parts) (init_flaws known later) c.loop-form.invariant.0 e x.ensures.sound,
            read_next (facts_in c.args.initial.now) (init_facts known (forest_of row)) (facts_in c.loop-form.initial') (init_facts known (forest_of (drop k row))) (entry_facts known parts) (init_facts known later) (facts_in c.if-spells.initial')
                c.loop-form.invariant.1 f (ap facts_in w.initial'-is ∙ x.ensures.facts),
            read_next (entries_in c.args.initial.now) (init_entries known (forest_of row)) (entries_in c.loop-form.initial') (init_entries known (forest_of (drop k row))) (entry_uncertain known parts) (init_entries known later) (entries_in c.if-spells.initial')
                c.loop-form.invariant.2 g (ap entries_in w.initial'-is ∙ x.ensures.entries),
          ))
    ]
