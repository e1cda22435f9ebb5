-- The head of the chain is the cell, and its next place is the head before.
use Rattle.std.proofs.Common.{◌≡◌, ◌∙◌, ℕ, ◌<◌, ◌+◌, length, get_or, set, ap, sym, subst, arith, refl}
use Rattle.std.proofs.lemmas.List.{get_or_read, length-set}
use Rattle.dd_nodes.specs.Arena.{no_cell, bucket, bucket_at, AreChained}
use Rattle.dd_nodes.proofs.Chains.{next_changed, link_chained}
use Rattle.dd_nodes.proofs.arena.link.Goals as goal

pub returns-clause-nodes : goal.returns-clause-nodes
returns-clause-nodes c =
    let cells = c.args.cells.now.items in
    let cell : c.index_mut.result.now ≡ get_or cells c.args.place no_cell = get_or_read cells c.args.place c.index_mut.result.now c.requires.within c.index_mut.ensures.value no_cell in
    next_changed cells c.args.place _ c.requires.within (ap (λ k. k.node) cell)

pub returns-clause-chained : goal.returns-clause-chained
returns-clause-chained c =
    let cells = c.args.cells.now.items in
    let buckets = c.args.buckets.now.items in
    let place = c.args.place in
    let count : c.len.result ≡ length buckets = omega (arith, c.args.buckets.now.ok.0) in
    let within : c.bucket_of-bucket.result < length buckets = omega (arith, c.bucket_of-bucket.ensures.within) in
    let read : c.index.result.now ≡ get_or cells place no_cell = get_or_read cells place c.index.result.now c.requires.within c.index.ensures no_cell in
    let cell : c.index_mut.result.now ≡ get_or cells place no_cell = get_or_read cells place c.index_mut.result.now c.requires.within c.index_mut.ensures.value no_cell in
    let head : c.index-2.result.now ≡ get_or buckets c.bucket_of-bucket.result 0 = get_or_read buckets c.bucket_of-bucket.result c.index-2.result.now within c.index-2.ensures 0 in
    subst (λ (n : ℕ). AreChained n (set cells place (record { node = c.index_mut.result.now.node; next = c.index-2.result.now })) (set buckets c.bucket_of-bucket.result (place + 1)) (place + 1))
    (sym (length-set buckets c.bucket_of-bucket.result (place + 1)))
    (link_chained (length buckets) cells buckets place c.bucket_of-bucket.result c.requires.chained c.requires.within refl within
    (c.bucket_of-bucket.ensures.bucket ∙ ap (λ k. bucket k.node c.len.result) read ∙ ap (λ n. bucket_at cells n place) count)
    (record { node = c.index_mut.result.now.node; next = c.index-2.result.now }) (ap (λ k. k.node) cell) head)
