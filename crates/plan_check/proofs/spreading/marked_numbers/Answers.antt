use Rattle.std.proofs.Common.{sym, subst, arith}
use Rattle.plan_check.proofs.SpreadSteps.{IsListing, listing_all, listing_none, listing_step}
use Rattle.plan_check.proofs.spreading.marked_numbers.Goals as goal

pub loop-i-init : goal.loop-i-init
loop-i-init c = subst (IsListing c.args.marks.now 0) (sym c.new-found.ensures.items) (listing_none c.args.marks.now)

pub loop-i-preserved : goal.loop-i-preserved
loop-i-preserved c = listing_step c.args.marks.now c.loop-i.i c.loop-i.found.items c.list_marked.new.found.items c.in_ok-list_marked.ensures c.loop-i.invariant

pub returns-clause-listed : goal.returns-clause-listed
returns-clause-listed c = listing_all c.args.marks.now c.loop-i.i c.loop-i.found.items (omega arith) c.loop-i.invariant
