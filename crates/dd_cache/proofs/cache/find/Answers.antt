-- What stands at the key's place is the key's pair, if it has one.
use Rattle.std.proofs.Common.{◌≡◌, Some, Contains, length, subst, sym, ap, ◌∙◌, arith}
use Rattle.std.proofs.lemmas.Bool.{false≢true}
use Rattle.dd_cache.specs.Places.{place_of, pairs_of}
use Rattle.dd_cache.specs.declared.key.Key.{Key}
use Rattle.dd_cache.proofs.PlaceLemmas.{read_place, has_pair, there_used, there_key, there_value}
use Rattle.dd_cache.proofs.cache.find.Goals as goal

pub returns-then-has_key-clause-found : goal.returns-then-has_key-clause-found
returns-then-has_key-clause-found c =
    let es = c.args.entries.now.items in
    let long : c.len.result ≡ length es = omega (arith, c.len.ensures, c.args.entries.now.ok.0) in
    let there = read_place es c.args.key.now c.index.result.now c.len.result c.place.result long c.place.ensures.place c.place.ensures.within c.index.ensures in
    let holds = c.has_key.ensures.yes c.if-has_key.true in
    subst (λ (k : Key). Contains (pairs_of es) (k, c.index.result.now.value)) holds.1
    (has_pair es (place_of c.args.key.now (length es)) c.index.result.now there holds.0)

pub returns-then-has_key-clause-exact : goal.returns-then-has_key-clause-exact
returns-then-has_key-clause-exact c placed value has =
    let es = c.args.entries.now.items in
    let long : c.len.result ≡ length es = omega (arith, c.len.ensures, c.args.entries.now.ok.0) in
    let there = read_place es c.args.key.now c.index.result.now c.len.result c.place.result long c.place.ensures.place c.place.ensures.within c.index.ensures in
    ap Some (there_value es placed c.args.key.now c.index.result.now there value has)

pub returns-else-has_key-clause-exact : goal.returns-else-has_key-clause-exact
returns-else-has_key-clause-exact c placed value has =
    let es = c.args.entries.now.items in
    let long : c.len.result ≡ length es = omega (arith, c.len.ensures, c.args.entries.now.ok.0) in
    let there = read_place es c.args.key.now c.index.result.now c.len.result c.place.result long c.place.ensures.place c.place.ensures.within c.index.ensures in
    let used = there_used es placed c.args.key.now c.index.result.now there value has in
    let key = there_key es placed c.args.key.now c.index.result.now there value has in
    absurd (false≢true (sym c.if-has_key.false ∙ c.has_key.ensures.no used key))
