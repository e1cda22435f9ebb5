-- All states first, then what the layer leaves of them.
use Rattle.std.proofs.Common.{◌≡◌, ℕ, ◌+◌, ◌<◌, arith, length, subst, sym}
use Rattle.std.proofs.lemmas.Result.{err_from_is_err_and}
use Rattle.dd_sets.specs.LiveSets.{IsLive}
use Rattle.dd_sets.specs.declared.slots.SetId.{SetId}
use Rattle.slot_board.proofs.BoardSlots.{left_with, made_at, passed, went}
use Rattle.reach_plan.proofs.CertSteps.{rest_fits, rest_there, space_fits}
use Rattle.reach_plan.proofs.certs.leave_out.Goals as goal

pub copy-requires-clause-working : goal.copy-requires-clause-working
copy-requires-clause-working c = let r = c.requires.ready in (r.1, r.2.at)

pub copy-requires-clause-live : goal.copy-requires-clause-live
copy-requires-clause-live c =
    let r = c.requires.ready in
    subst (λ (s : SetId). IsLive c.args.enc.now.sets s.0) (sym c.space-space.ensures) (made_at r.1 c.args.enc.now c.args.board.now.slots.items r.2.at).space.live

pub returns-in_err-copy : goal.returns-in_err-copy
returns-in_err-copy c class start found wide rough =
    let p = err_from_is_err_and c.from_residual.result c.from_residual.ensures.1 in
    passed start c.copy.new.enc c.copy.new.self.slots.items _ _ c.copy.result c.from_residual.result _ c.in_err-copy.was p (c.copy.ensures start found.at (space_fits class start c.args.enc.now c.args.board.now.slots.items c.space-space.result 1 found.at wide c.space-space.ensures))

pub combine-requires-clause-working : goal.combine-requires-clause-working
combine-requires-clause-working c =
    let r = c.requires.ready in
    let m = went r.1 c.copy.new.enc c.copy.new.self.slots.items _ c.copy.result _ c.in_ok-copy.was (c.copy.ensures r.1 r.2.at (space_fits r.0 r.1 c.args.enc.now c.args.board.now.slots.items c.space-space.result 1 r.2.at r.3 c.space-space.ensures)) in
    (r.1, m.at)

pub combine-requires-clause-place : goal.combine-requires-clause-place
combine-requires-clause-place c =
    let r = c.requires.ready in
    let m = went r.1 c.copy.new.enc c.copy.new.self.slots.items _ c.copy.result _ c.in_ok-copy.was (c.copy.ensures r.1 r.2.at (space_fits r.0 r.1 c.args.enc.now c.args.board.now.slots.items c.space-space.result 1 r.2.at r.3 c.space-space.ensures)) in
    let now : length c.copy.new.self.slots.items ≡ r.1.places = m.at.long in
    let was : length c.args.board.now.slots.items ≡ r.1.places = r.2.at.long in
    omega (arith, c.requires.places)

pub combine-requires-clause-a : goal.combine-requires-clause-a
combine-requires-clause-a c =
    let r = c.requires.ready in
    let m = went r.1 c.copy.new.enc c.copy.new.self.slots.items _ c.copy.result _ c.in_ok-copy.was (c.copy.ensures r.1 r.2.at (space_fits r.0 r.1 c.args.enc.now c.args.board.now.slots.items c.space-space.result 1 r.2.at r.3 c.space-space.ensures)) in
    let now : length c.copy.new.self.slots.items ≡ r.1.places = m.at.long in
    let was : length c.args.board.now.slots.items ≡ r.1.places = r.2.at.long in
    omega (arith, c.requires.places)

pub combine-requires-clause-b : goal.combine-requires-clause-b
combine-requires-clause-b c =
    let r = c.requires.ready in
    let m = went r.1 c.copy.new.enc c.copy.new.self.slots.items _ c.copy.result _ c.in_ok-copy.was (c.copy.ensures r.1 r.2.at (space_fits r.0 r.1 c.args.enc.now c.args.board.now.slots.items c.space-space.result 1 r.2.at r.3 c.space-space.ensures)) in
    let now : length c.copy.new.self.slots.items ≡ r.1.places = m.at.long in
    let was : length c.args.board.now.slots.items ≡ r.1.places = r.2.at.long in
    omega (arith, c.requires.places)

pub returns : goal.returns
returns c class start found wide rough =
    let m = went start c.copy.new.enc c.copy.new.self.slots.items _ c.copy.result _ c.in_ok-copy.was (c.copy.ensures start found.at (space_fits class start c.args.enc.now c.args.board.now.slots.items c.space-space.result 1 found.at wide c.space-space.ensures)) in
    left_with start c.combine.new.enc c.combine.new.self.slots.items _ _ c.combine.result
    (λ w. rest_there class start c.args.enc.now c.copy.new.enc c.args.board.now.slots.items c.copy.new.self.slots.items c.space-space.result c.requires.places found c.space-space.ensures m c.combine.new.enc c.combine.new.self.slots.items w)
    (c.combine.ensures start m.at (rest_fits class start c.args.enc.now c.copy.new.enc c.args.board.now.slots.items c.copy.new.self.slots.items c.space-space.result c.requires.places found c.space-space.ensures m wide rough))
