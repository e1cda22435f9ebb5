-- A walk along the chain of the node's bucket.
use Rattle.std.proofs.Common.{◌≡◌, ◌≢◌, ◌∙◌, ◌<◌, ◌≤◌, ◌-◌, ◌+◌, length, get_or, ap, sym, subst, Some, arith}
use Rattle.std.proofs.lemmas.List.{get_or_read}
use Rattle.std.proofs.lemmas.Bool.{both_ways}
use Rattle.dd_nodes.specs.NodeList.{node_at}
use Rattle.dd_nodes.specs.Arena.{no_cell, nodes_of, bucket}
use Rattle.dd_nodes.proofs.NodeEq.{node_eq, same, own}
use Rattle.dd_nodes.proofs.Chains.{IsSearched, search_start, search_step, search_falls, search_end, node_at_cell}
use Rattle.dd_nodes.proofs.arena.find.Goals as goal

pub loop-at-init : goal.loop-at-init
loop-at-init c =
    let buckets = c.args.buckets.now in
    let count : c.len.result ≡ length buckets.items = omega (arith, buckets.ok.0) in
    let within : c.bucket_of.result < length buckets.items = omega (arith, c.bucket_of.ensures.within) in
    search_start (length buckets.items) c.args.cells.now.items buckets.items c.args.node c.requires.chained c.index-at.result.now c.bucket_of.result
    (c.bucket_of.ensures.bucket ∙ ap (bucket c.args.node) count) within
    (get_or_read buckets.items c.bucket_of.result c.index-at.result.now within c.index-at.ensures 0)

pub returns-then-eq-clause-found : goal.returns-then-eq-clause-found
returns-then-eq-clause-found c =
    let cells = c.args.cells.now.items in
    let at = c.loop-at.at in
    let below : at ≤ length cells = c.loop-at.invariant.within in
    let within : at - 1 < length cells = omega arith in
    let cell : c.index.result.now ≡ get_or cells (at - 1) no_cell = get_or_read cells (at - 1) c.index.result.now within c.index.ensures no_cell in
    let place : at + 1 ≡ at - 1 + 2 = omega arith in
    ap (node_at (nodes_of cells)) place ∙ node_at_cell cells (at - 1) within ∙ ap (λ k. Some k.node) (sym cell)
    ∙ ap Some (same c.index.result.now.node c.args.node (sym c.eq.ensures ∙ c.if-eq.true))

pub loop-at-smaller : goal.loop-at-smaller
loop-at-smaller c =
    let cells = c.args.cells.now.items in
    let at = c.loop-at.at in
    let below : at ≤ length cells = c.loop-at.invariant.within in
    let within : at - 1 < length cells = omega arith in
    let cell : c.index.result.now ≡ get_or cells (at - 1) no_cell = get_or_read cells (at - 1) c.index.result.now within c.index.ensures no_cell in
    subst (λ k. k.next < at) (sym cell)
    (search_falls (length c.args.buckets.now.items) cells c.args.buckets.now.items c.args.node c.requires.chained at (omega arith) c.loop-at.invariant)

pub loop-at-preserved : goal.loop-at-preserved
loop-at-preserved c =
    let cells = c.args.cells.now.items in
    let buckets = c.args.buckets.now.items in
    let at = c.loop-at.at in
    let below : at ≤ length cells = c.loop-at.invariant.within in
    let within : at - 1 < length cells = omega arith in
    let cell : c.index.result.now ≡ get_or cells (at - 1) no_cell = get_or_read cells (at - 1) c.index.result.now within c.index.ensures no_cell in
    let other : (get_or cells (at - 1) no_cell).node ≢ c.args.node =
    λ e. both_ways (node_eq c.index.result.now.node c.args.node) (sym c.eq.ensures ∙ c.if-eq.false)
    (ap (λ k. node_eq k.node c.args.node) cell ∙ ap (λ k. node_eq k c.args.node) e ∙ own c.args.node) in
    subst (λ k. IsSearched (length buckets) cells c.args.node k.next) (sym cell)
    (search_step (length buckets) cells buckets c.args.node c.requires.chained at (omega arith) c.loop-at.invariant other)

pub returns-clause-absent : goal.returns-clause-absent
returns-clause-absent c =
    let cells = c.args.cells.now.items in
    let end : c.loop-at.at ≡ 0 = omega arith in
    search_end (length c.args.buckets.now.items) cells c.args.node (subst (IsSearched (length c.args.buckets.now.items) cells c.args.node) end c.loop-at.invariant)
