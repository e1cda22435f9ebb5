-- The list has its number, or gets a new one.
use Rattle.std.proofs.Common.{List, subst, sym, ℕ}
use Rattle.dd_ops.specs.Known.{IsKnownAs}
use Rattle.dd_ops.proofs.KnownLemmas.{found_known, put_known}
use Rattle.dd_ops.proofs.SubstLemmas.{listed_numbers}
use Rattle.dd_ops.proofs.known.number_of.Goals as goal

pub returns-in-Some-clause-known : goal.returns-in-Some-clause-known
returns-in-Some-clause-known c nodes known numbers =
    found_known nodes c.args.lists.now.places.items c.args.lists.now.entries.items c.args.cache.now.pairs c.args.next.now c.args.map.now c.in-Some.number known c.in-Some.ensures

pub returns-clause-known : goal.returns-clause-known
returns-clause-known c nodes known numbers =
    subst (λ next. IsKnownAs nodes c.put.new.self.places.items c.put.new.self.entries.items c.next_number-number.new.cache.pairs next c.args.map.now c.next_number-number.result) (sym c.next_number-number.ensures.next)
    (put_known nodes c.next_number-number.new.lists.places.items c.next_number-number.new.lists.entries.items c.next_number-number.new.cache.pairs c.next_number-number.result
    (c.next_number-number.ensures.known nodes known) c.args.map.now c.place_of-place.result c.put.new.self.places.items c.put.new.self.entries.items
    (listed_numbers nodes c.args.map.now numbers) c.put.ensures)
