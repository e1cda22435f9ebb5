use Rattle.std.proofs.Common.{◌+◌, ◌-◌, arith, refl, subst}
use Rattle.sexpr_text.specs.Pending.{Pending, pending_in, trees_in}
use Rattle.sexpr_text.proofs.Reading.{IsReading}
use Rattle.sexpr_text.proofs.Shapes.{spells-formed}
use Rattle.sexpr_text.proofs.Turns.{here-start, here-place, here-line_feed, here-space, here-semicolon, here-open, here-close, here-word, one_refusal}
use Rattle.sexpr_text.proofs.Ends.{found-bad_byte, found-stray_close, found-too_deep, found-spelling, found-open_at_end}
use Rattle.sexpr_text.proofs.read.read_forms.Goals as goal

pub loop-at-init : goal.loop-at-init
loop-at-init c = here-start c.args.bytes.now _ _ c.new-nest.ensures.pending c.new-nest.ensures.trees

pub loop-at-preserved-in-LineFeed : goal.loop-at-preserved-in-LineFeed
loop-at-preserved-in-LineFeed c =
    let l = c.loop-at in
    here-line_feed c.args.bytes.now l.at (pending_in l.nest) (trees_in l.nest) l.line l.line_start c.loop-at-test.true l.invariant
    c.in-LineFeed.ensures

pub loop-at-preserved-in-Space : goal.loop-at-preserved-in-Space
loop-at-preserved-in-Space c =
    let l = c.loop-at in
    here-space c.args.bytes.now l.at (pending_in l.nest) (trees_in l.nest) l.line l.line_start c.loop-at-test.true l.invariant
    c.in-Space.ensures.0 c.in-Space.ensures.1

pub loop-at-preserved-in-Semicolon : goal.loop-at-preserved-in-Semicolon
loop-at-preserved-in-Semicolon c =
    let l = c.loop-at in
    let found = c.comment_end-at.ensures in
    here-semicolon c.args.bytes.now l.at (pending_in l.nest) (trees_in l.nest) l.line l.line_start c.loop-at-test.true l.invariant
    c.comment_end-at.result c.in-Semicolon.ensures found.after found.within found.comment found.stops

pub loop-at-preserved-in-Open : goal.loop-at-preserved-in-Open
loop-at-preserved-in-Open c =
    let l = c.loop-at in
    let opened : Pending = record {
      start = l.at;
      place = record { line = l.line; column = l.at - l.line_start + 1 };
      before = trees_in l.nest;
    } in
    here-open c.args.bytes.now l.at (pending_in l.nest) (trees_in l.nest) l.line l.line_start c.loop-at-test.true l.invariant
    opened (pending_in c.open.new.self) (trees_in c.open.new.self) c.in-Open.ensures (omega (arith, l.invariant.reading.bounded))
    refl refl refl c.in_ok-open-in-Open.ensures.pending c.in_ok-open-in-Open.ensures.trees

pub loop-at-preserved-in-Continue-branch-2 : goal.loop-at-preserved-in-Continue-branch-2
loop-at-preserved-in-Continue-branch-2 c =
    let l = c.loop-at in
    let closed = c.in_ok-close-in-Close.ensures in
    here-close c.args.bytes.now l.at (pending_in l.nest) (trees_in l.nest) l.line l.line_start c.loop-at-test.true l.invariant
    closed.0 (pending_in c.close.new.self) (trees_in c.close.new.self) c.in-Close.ensures closed.1 closed.2

pub loop-at-preserved : goal.loop-at-preserved
loop-at-preserved c =
    let l = c.loop-at in
    let found = c.word_end-end.ensures in
    here-word c.args.bytes.now l.at (pending_in l.nest) (trees_in l.nest) l.line l.line_start c.loop-at-test.true l.invariant
    c.word_end-end.result _ c.in_ok-text-in-OfWord.text (pending_in c.add_word.new.self) (trees_in c.add_word.new.self)
    c.in-OfWord.ensures found.after found.within found.word found.stops refl c.in_ok-text-in-OfWord.ensures
    c.in_ok-add_word-in-OfWord.ensures.pending c.in_ok-add_word-in-OfWord.ensures.trees

pub returns-then-depth-eq-MAX_DEPTH-clause-fault : goal.returns-then-depth-eq-MAX_DEPTH-clause-fault
returns-then-depth-eq-MAX_DEPTH-clause-fault c = λ f.
    let l = c.loop-at in
    let place = here-place c.args.bytes.now l.at (pending_in l.nest) (trees_in l.nest) l.line l.line_start l.invariant in
    one_refusal c.args.bytes.now c.fault.result f _ c.fault.ensures
    (found-too_deep c.args.bytes.now l.at (pending_in l.nest) (trees_in l.nest) _ c.loop-at-test.true c.in-Open.ensures
    (omega (arith, c.if-depth-eq-MAX_DEPTH.true, c.depth.ensures)) place l.invariant.reading)

pub returns-then-depth-eq0-clause-fault : goal.returns-then-depth-eq0-clause-fault
returns-then-depth-eq0-clause-fault c = λ f.
    let l = c.loop-at in
    let place = here-place c.args.bytes.now l.at (pending_in l.nest) (trees_in l.nest) l.line l.line_start l.invariant in
    one_refusal c.args.bytes.now c.fault-then-depth-eq0.result f _ c.fault-then-depth-eq0.ensures
    (found-stray_close c.args.bytes.now l.at (pending_in l.nest) (trees_in l.nest) _ c.loop-at-test.true c.in-Close.ensures
    (omega (arith, c.if-depth-eq0.true, c.depth-in-Close.ensures)) place l.invariant.reading)

pub returns-in-Bad-clause-fault : goal.returns-in-Bad-clause-fault
returns-in-Bad-clause-fault c = λ f.
    let l = c.loop-at in
    let bad = c.in-Bad.ensures in
    let place = here-place c.args.bytes.now l.at (pending_in l.nest) (trees_in l.nest) l.line l.line_start l.invariant in
    one_refusal c.args.bytes.now c.fault-in-Bad.result f _ c.fault-in-Bad.ensures
    (found-bad_byte c.args.bytes.now l.at (pending_in l.nest) (trees_in l.nest) _ c.loop-at-test.true
    bad.space bad.semicolon bad.opens bad.closes bad.of_word place l.invariant.reading)

pub returns-in-None-clause-forms : goal.returns-in-None-clause-forms
returns-in-None-clause-forms c =
    let l = c.loop-at in
    found-spelling c.args.bytes.now l.at (pending_in l.nest) (trees_in l.nest) c.loop-at-test.false c.in-None.ensures l.invariant.reading

pub returns-in-None-clause-formed : goal.returns-in-None-clause-formed
returns-in-None-clause-formed c =
    let l = c.loop-at in
    spells-formed c.args.bytes.now l.nest.parts.items
    (found-spelling c.args.bytes.now l.at (pending_in l.nest) (trees_in l.nest) c.loop-at-test.false c.in-None.ensures l.invariant.reading)

pub returns-in-Some-clause-fault : goal.returns-in-Some-clause-fault
returns-in-Some-clause-fault c = λ f.
    let l = c.loop-at in
    let opened = c.in-Some.ensures in
    one_refusal c.args.bytes.now c.fault-in-Some.result f _ c.fault-in-Some.ensures
    (found-open_at_end c.args.bytes.now l.at opened.0 opened.1 (trees_in l.nest) c.in-Some.place c.loop-at-test.false opened.3
    (subst (λ xs. IsReading c.args.bytes.now l.at xs (trees_in l.nest)) opened.2 l.invariant.reading))
