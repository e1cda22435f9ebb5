-- The place of the key has its pair, and each other place what it had.
use Rattle.std.proofs.Common.{List, Contains, subst, sym, ◌≡◌, ◌<◌, length, ◌∙◌, ap, arith}
use Rattle.dd_cache.specs.Places.{place_of, pairs_of, ArePlaced}
use Rattle.dd_cache.specs.declared.cache.Entry.{Entry}
use Rattle.dd_cache.proofs.PlaceLemmas.{put_kept, put_others, put_placed}
use Rattle.dd_cache.proofs.cache.put.Goals as goal

pub returns-clause-kept : goal.returns-clause-kept
returns-clause-kept c =
    let long : c.len.result ≡ length c.args.entries.now.items = omega (arith, c.len.ensures, c.args.entries.now.ok.0) in
    let within : c.place-at.result < length c.args.entries.now.items = omega (arith, c.place-at.ensures.within) in
    subst (λ (es : List Entry). Contains (pairs_of es) (c.args.key, c.args.value)) (sym c.write.ensures.written)
    (put_kept c.args.entries.now.items c.args.key c.args.value c.place-at.result within)

pub returns-clause-others : goal.returns-clause-others
returns-clause-others c k v has =
    let long : c.len.result ≡ length c.args.entries.now.items = omega (arith, c.len.ensures, c.args.entries.now.ok.0) in
    let within : c.place-at.result < length c.args.entries.now.items = omega (arith, c.place-at.ensures.within) in
    put_others c.args.entries.now.items c.args.key c.args.value c.place-at.result within k v
    (subst (λ (es : List Entry). Contains (pairs_of es) (k, v)) c.write.ensures.written has)

pub returns-clause-placed : goal.returns-clause-placed
returns-clause-placed c placed =
    let long : c.len.result ≡ length c.args.entries.now.items = omega (arith, c.len.ensures, c.args.entries.now.ok.0) in
    let within : c.place-at.result < length c.args.entries.now.items = omega (arith, c.place-at.ensures.within) in
    subst ArePlaced (sym c.write.ensures.written)
    (put_placed c.args.entries.now.items c.args.key c.args.value c.place-at.result within (c.place-at.ensures.place ∙ ap (place_of c.args.key) long) placed)
