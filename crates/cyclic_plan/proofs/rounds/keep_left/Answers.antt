use Rattle.std.proofs.Common.{ℕ, subst, sym, ◌≡◌, ◌+◌, arith, length, ◌∙◌}
use Rattle.std.proofs.lemmas.Result.{err_from_is_err_and}
use Rattle.task_core.specs.Tasks.{action_count}
use Rattle.dd_ops.specs.Operations.{and_of}
use Rattle.slot_board.specs.Board.{Fits, Moved, set_at}
use Rattle.slot_board.proofs.BoardSlots.{action_within, passed, same_actions, went, made_at}
use Rattle.cyclic_plan.proofs.Narrowing.{none_dropped, none_loses, pairs_met}
use Rattle.cyclic_plan.proofs.Premises.{empty_fits, met_made}
use Rattle.cyclic_plan.proofs.rounds.keep_left.Goals as goal

pub combine-requires-clause-place : goal.combine-requires-clause-place
combine-requires-clause-place c =
    let r = c.requires.ready in
    let e : length c.args.board.now.slots.items ≡ 7 + action_count r.0.task + action_count r.0.task = r.2.round.at.long ∙ r.2.round.places in
    omega arith

pub combine-requires-clause-a : goal.combine-requires-clause-a
combine-requires-clause-a c =
    let r = c.requires.ready in
    let e : length c.args.board.now.slots.items ≡ 7 + action_count r.0.task + action_count r.0.task = r.2.round.at.long ∙ r.2.round.places in
    let actions : length c.args.enc.now.actions ≡ action_count r.0.task = (made_at r.0 c.args.enc.now c.args.board.now.slots.items r.2.round.at).actions in
    omega (arith, c.pairs_of-pairs.ensures, c.requires.action)

pub is_empty-requires-clause-working : goal.is_empty-requires-clause-working
is_empty-requires-clause-working c =
    let r = c.requires.ready in
    let enc = c.args.enc.now in
    let old = c.args.board.now.slots.items in
    let l = action_within r.0 enc old c.args.a.0 r.2.round.at c.requires.action in
    let fits = subst (λ (p : ℕ). Fits r.0 6 (and_of (set_at enc.sets old p) (set_at enc.sets old 1))) (sym c.pairs_of-pairs.ensures) (met_made r.0 enc old _ _ r.2.round c.args.a.0 l) in
    (r.0, (went r.0 c.combine.new.enc c.combine.new.self.slots.items _ c.combine.result _ c.in_ok-combine.was (c.combine.ensures r.0 r.2.round.at fits)).at)

pub is_empty-requires-clause-place : goal.is_empty-requires-clause-place
is_empty-requires-clause-place c =
    let r = c.requires.ready in
    let enc = c.args.enc.now in
    let old = c.args.board.now.slots.items in
    let l = action_within r.0 enc old c.args.a.0 r.2.round.at c.requires.action in
    let fits = subst (λ (p : ℕ). Fits r.0 6 (and_of (set_at enc.sets old p) (set_at enc.sets old 1))) (sym c.pairs_of-pairs.ensures) (met_made r.0 enc old _ _ r.2.round c.args.a.0 l) in
    let m = went r.0 c.combine.new.enc c.combine.new.self.slots.items _ c.combine.result _ c.in_ok-combine.was (c.combine.ensures r.0 r.2.round.at fits) in
    let e : length c.combine.new.self.slots.items ≡ 7 + action_count r.0.task + action_count r.0.task = m.at.long ∙ r.2.round.places in
    omega arith

pub copy_of-requires-clause-working : goal.copy_of-requires-clause-working
copy_of-requires-clause-working c =
    let r = c.requires.ready in
    let enc = c.args.enc.now in
    let old = c.args.board.now.slots.items in
    let l = action_within r.0 enc old c.args.a.0 r.2.round.at c.requires.action in
    let fits = subst (λ (p : ℕ). Fits r.0 6 (and_of (set_at enc.sets old p) (set_at enc.sets old 1))) (sym c.pairs_of-pairs.ensures) (met_made r.0 enc old _ _ r.2.round c.args.a.0 l) in
    (r.0, (went r.0 c.combine.new.enc c.combine.new.self.slots.items _ c.combine.result _ c.in_ok-combine.was (c.combine.ensures r.0 r.2.round.at fits)).at)

pub copy_of-requires-clause-place : goal.copy_of-requires-clause-place
copy_of-requires-clause-place c =
    let r = c.requires.ready in
    let enc = c.args.enc.now in
    let old = c.args.board.now.slots.items in
    let l = action_within r.0 enc old c.args.a.0 r.2.round.at c.requires.action in
    let fits = subst (λ (p : ℕ). Fits r.0 6 (and_of (set_at enc.sets old p) (set_at enc.sets old 1))) (sym c.pairs_of-pairs.ensures) (met_made r.0 enc old _ _ r.2.round c.args.a.0 l) in
    let m = went r.0 c.combine.new.enc c.combine.new.self.slots.items _ c.combine.result _ c.in_ok-combine.was (c.combine.ensures r.0 r.2.round.at fits) in
    let e : length c.combine.new.self.slots.items ≡ 7 + action_count r.0.task + action_count r.0.task = m.at.long ∙ r.2.round.places in
    omega (arith, c.pairs_of-pairs.ensures, l)

pub copy_of-requires-clause-from : goal.copy_of-requires-clause-from
copy_of-requires-clause-from c =
    let r = c.requires.ready in
    let enc = c.args.enc.now in
    let old = c.args.board.now.slots.items in
    let l = action_within r.0 enc old c.args.a.0 r.2.round.at c.requires.action in
    let fits = subst (λ (p : ℕ). Fits r.0 6 (and_of (set_at enc.sets old p) (set_at enc.sets old 1))) (sym c.pairs_of-pairs.ensures) (met_made r.0 enc old _ _ r.2.round c.args.a.0 l) in
    let m = went r.0 c.combine.new.enc c.combine.new.self.slots.items _ c.combine.result _ c.in_ok-combine.was (c.combine.ensures r.0 r.2.round.at fits) in
    let e : length c.combine.new.self.slots.items ≡ 7 + action_count r.0.task + action_count r.0.task = m.at.long ∙ r.2.round.places in
    omega arith

pub returns-in_ok-copy_of-clause-left : goal.returns-in_ok-copy_of-clause-left
returns-in_ok-copy_of-clause-left c start r ready =
    let enc = c.args.enc.now in
    let old = c.args.board.now.slots.items in
    let mid = c.combine.new.enc in
    let half = c.combine.new.self.slots.items in
    let a = c.args.a.0 in
    let place = c.pairs_of-pairs.ensures in
    let l = action_within start enc old a ready.round.at c.requires.action in
    let fits = subst (λ (p : ℕ). Fits start 6 (and_of (set_at enc.sets old p) (set_at enc.sets old 1))) (sym place) (met_made start enc old _ _ ready.round a l) in
    let m = went start mid half _ c.combine.result _ c.in_ok-combine.was (c.combine.ensures start ready.round.at fits) in
    let met = pairs_met start enc mid old half r a l ready (subst (λ (p : ℕ). Moved start enc.sets old mid half 6 (and_of (set_at enc.sets old p) (set_at enc.sets old 1))) place m) in
    let empty = c.is_empty.ensures.0 (let h = c.if-is_empty.true in cc) in
    let k = went start c.copy_of.new.enc c.copy_of.new.self.slots.items _ c.copy_of.result _ c.in_ok-copy_of.was (c.copy_of.ensures start m.at (empty_fits start mid half _ _ met.round c.pairs_of-pairs.result empty)) in
    none_dropped start mid c.copy_of.new.enc half c.copy_of.new.self.slots.items r a l met empty
    (subst (λ (p : ℕ). Moved start mid.sets half c.copy_of.new.enc c.copy_of.new.self.slots.items p (set_at mid.sets half 6)) place k)

pub returns-in_ok-copy_of-clause-lost : goal.returns-in_ok-copy_of-clause-lost
returns-in_ok-copy_of-clause-lost c start r ready same =
    let enc = c.args.enc.now in
    let old = c.args.board.now.slots.items in
    let mid = c.combine.new.enc in
    let half = c.combine.new.self.slots.items in
    let a = c.args.a.0 in
    let place = c.pairs_of-pairs.ensures in
    let l = action_within start enc old a ready.round.at c.requires.action in
    let fits = subst (λ (p : ℕ). Fits start 6 (and_of (set_at enc.sets old p) (set_at enc.sets old 1))) (sym place) (met_made start enc old _ _ ready.round a l) in
    let m = went start mid half _ c.combine.result _ c.in_ok-combine.was (c.combine.ensures start ready.round.at fits) in
    let met = pairs_met start enc mid old half r a l ready (subst (λ (p : ℕ). Moved start enc.sets old mid half 6 (and_of (set_at enc.sets old p) (set_at enc.sets old 1))) place m) in
    none_loses start mid c.copy_of.new.enc half c.copy_of.new.self.slots.items r a l met (c.is_empty.ensures.0 (let h = c.if-is_empty.true in cc))

pub returns-in_err-copy_of-clause-left : goal.returns-in_err-copy_of-clause-left
returns-in_err-copy_of-clause-left c start r ready =
    let enc = c.args.enc.now in
    let old = c.args.board.now.slots.items in
    let mid = c.combine.new.enc in
    let half = c.combine.new.self.slots.items in
    let a = c.args.a.0 in
    let place = c.pairs_of-pairs.ensures in
    let l = action_within start enc old a ready.round.at c.requires.action in
    let fits = subst (λ (p : ℕ). Fits start 6 (and_of (set_at enc.sets old p) (set_at enc.sets old 1))) (sym place) (met_made start enc old _ _ ready.round a l) in
    let m = went start mid half _ c.combine.result _ c.in_ok-combine.was (c.combine.ensures start ready.round.at fits) in
    let met = pairs_met start enc mid old half r a l ready (subst (λ (p : ℕ). Moved start enc.sets old mid half 6 (and_of (set_at enc.sets old p) (set_at enc.sets old 1))) place m) in
    let empty = c.is_empty.ensures.0 (let h = c.if-is_empty.true in cc) in
    let p = err_from_is_err_and c.from_residual-in_err-copy_of.result c.from_residual-in_err-copy_of.ensures.1 in
    passed start c.copy_of.new.enc c.copy_of.new.self.slots.items _ _ c.copy_of.result c.from_residual-in_err-copy_of.result _ c.in_err-copy_of.was p
    (c.copy_of.ensures start m.at (empty_fits start mid half _ _ met.round c.pairs_of-pairs.result empty))

pub keep_inside-requires-clause-ready : goal.keep_inside-requires-clause-ready
keep_inside-requires-clause-ready c =
    let r = c.requires.ready in
    let enc = c.args.enc.now in
    let old = c.args.board.now.slots.items in
    let mid = c.combine.new.enc in
    let half = c.combine.new.self.slots.items in
    let a = c.args.a.0 in
    let place = c.pairs_of-pairs.ensures in
    let l = action_within r.0 enc old a r.2.round.at c.requires.action in
    let fits = subst (λ (p : ℕ). Fits r.0 6 (and_of (set_at enc.sets old p) (set_at enc.sets old 1))) (sym place) (met_made r.0 enc old _ _ r.2.round a l) in
    let m = went r.0 mid half _ c.combine.result _ c.in_ok-combine.was (c.combine.ensures r.0 r.2.round.at fits) in
    (r.0, r.1, pairs_met r.0 enc mid old half r.1 a l r.2 (subst (λ (p : ℕ). Moved r.0 enc.sets old mid half 6 (and_of (set_at enc.sets old p) (set_at enc.sets old 1))) place m))

pub keep_inside-requires-clause-action : goal.keep_inside-requires-clause-action
keep_inside-requires-clause-action c =
    let r = c.requires.ready in
    let enc = c.args.enc.now in
    let old = c.args.board.now.slots.items in
    let l = action_within r.0 enc old c.args.a.0 r.2.round.at c.requires.action in
    let fits = subst (λ (p : ℕ). Fits r.0 6 (and_of (set_at enc.sets old p) (set_at enc.sets old 1))) (sym c.pairs_of-pairs.ensures) (met_made r.0 enc old _ _ r.2.round c.args.a.0 l) in
    let m = went r.0 c.combine.new.enc c.combine.new.self.slots.items _ c.combine.result _ c.in_ok-combine.was (c.combine.ensures r.0 r.2.round.at fits) in
    let e : length c.combine.new.enc.actions ≡ length enc.actions = same_actions r.0 enc c.combine.new.enc old c.combine.new.self.slots.items r.2.round.at m.at in
    omega (arith, c.requires.action)

pub returns-else-is_empty-clause-left : goal.returns-else-is_empty-clause-left
returns-else-is_empty-clause-left c start r ready =
    let enc = c.args.enc.now in
    let old = c.args.board.now.slots.items in
    let mid = c.combine.new.enc in
    let half = c.combine.new.self.slots.items in
    let a = c.args.a.0 in
    let place = c.pairs_of-pairs.ensures in
    let l = action_within start enc old a ready.round.at c.requires.action in
    let fits = subst (λ (p : ℕ). Fits start 6 (and_of (set_at enc.sets old p) (set_at enc.sets old 1))) (sym place) (met_made start enc old _ _ ready.round a l) in
    let m = went start mid half _ c.combine.result _ c.in_ok-combine.was (c.combine.ensures start ready.round.at fits) in
    c.keep_inside.ensures.left start r
    (pairs_met start enc mid old half r a l ready (subst (λ (p : ℕ). Moved start enc.sets old mid half 6 (and_of (set_at enc.sets old p) (set_at enc.sets old 1))) place m))

pub returns-else-is_empty-clause-lost : goal.returns-else-is_empty-clause-lost
returns-else-is_empty-clause-lost c start r ready =
    let enc = c.args.enc.now in
    let old = c.args.board.now.slots.items in
    let mid = c.combine.new.enc in
    let half = c.combine.new.self.slots.items in
    let a = c.args.a.0 in
    let place = c.pairs_of-pairs.ensures in
    let l = action_within start enc old a ready.round.at c.requires.action in
    let fits = subst (λ (p : ℕ). Fits start 6 (and_of (set_at enc.sets old p) (set_at enc.sets old 1))) (sym place) (met_made start enc old _ _ ready.round a l) in
    let m = went start mid half _ c.combine.result _ c.in_ok-combine.was (c.combine.ensures start ready.round.at fits) in
    c.keep_inside.ensures.lost start r
    (pairs_met start enc mid old half r a l ready (subst (λ (p : ℕ). Moved start enc.sets old mid half 6 (and_of (set_at enc.sets old p) (set_at enc.sets old 1))) place m))

pub returns-in_err-combine-clause-left : goal.returns-in_err-combine-clause-left
returns-in_err-combine-clause-left c start r ready =
    let enc = c.args.enc.now in
    let old = c.args.board.now.slots.items in
    let l = action_within start enc old c.args.a.0 ready.round.at c.requires.action in
    let fits = subst (λ (p : ℕ). Fits start 6 (and_of (set_at enc.sets old p) (set_at enc.sets old 1))) (sym c.pairs_of-pairs.ensures) (met_made start enc old _ _ ready.round c.args.a.0 l) in
    let p = err_from_is_err_and c.from_residual.result c.from_residual.ensures.1 in
    passed start c.combine.new.enc c.combine.new.self.slots.items _ _ c.combine.result c.from_residual.result _ c.in_err-combine.was p (c.combine.ensures start ready.round.at fits)
