use Rattle.std.proofs.Common.{◌≡◌, ◌+◌, ◌<◌, ◌≤◌, List, ℕ, length, get_or, sym, ap, ◌∙◌, rules, arith}
use Rattle.std.proofs.lemmas.List.{get_or_default}
use Rattle.number_graph.specs.Graphs.{rows_of}
use Rattle.number_graph.proofs.Rows.{row_at as row_of}
use Rattle.sim_flat.specs.Rows.{kinds_at}
use Rattle.sim_flat.specs.Sizes.{sum_at}
use Rattle.sim_flat.proofs.Sizing.{raise}
use Rattle.sim_flat.proofs.sizes.count_in.Goals as goal

pub returns-then-index-sum : goal.returns-then-index-sum
returns-then-index-sum c =
    let counts = c.args.counts.now.items in
    let kinds = c.args.kinds.now in
    let kind = c.args.kind in
    let sum = c.sum_at-sum.result in
    let len : c.len.result ≡ length counts = search rules in
    let within : kind < length counts = omega (arith, len, c.if-kind-len.true) in
    let at : c.index.result.now ≡ get_or counts kind 0 = c.index.ensures ∙ get_or_default counts kind c.index.result.now 0 within in
    let up : get_or counts kind 0 ≤ sum = omega (arith, at, c.if-index-sum.true) in
    let own : c.count_at.result ≡ get_or c.args.own.now kind 0 = c.count_at.ensures in
    let all : sum_at c.deref.result.now c.kinds_at.result.now ≡ sum_at counts (kinds_at (rows_of kinds) kind) =
    ap (λ (l : List ℕ). sum_at l c.kinds_at.result.now) c.deref.ensures.value ∙ ap (λ (ks : List ℕ). sum_at counts ks) (c.kinds_at.ensures ∙ sym (row_of kinds kind)) in
    let most : sum ≤ get_or c.args.own.now kind 0 + sum_at counts (kinds_at (rows_of kinds) kind) = omega (arith, own, all, c.sum_at-sum.ensures) in
    raise (rows_of kinds) (λ k. get_or c.args.own.now k 0) counts kind sum within c.requires up most
