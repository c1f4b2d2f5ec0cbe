use Rattle.std.proofs.Common.{◌≡◌, ◌++◌, ◌∷◌, [], true, sym, ap, subst, ◌∙◌, append_assoc}
use Rattle.tapa_base.specs.Lists.{Has}
use Rattle.vlog_tree.specs.Table.{Name}
use Rattle.vlog_tree.specs.Loops.{Edges}
use Rattle.vlog_comb_loops.specs.Merges.{IsMerged}
use Rattle.vlog_comb_loops.proofs.Rooms.{merged_has, merged_more}
use Rattle.vlog_comb_loops.proofs.pairs.merge.Goals as goal

rest_of : (all old new done : Edges) (p : Name × Name) → all ≡ old ++ done → old ≡ new ++ p ∷ [] → all ≡ new ++ p ∷ done
rest_of all old new done p e f = e ∙ ap (λ l. l ++ done) f ∙ append_assoc new (p ∷ []) done

pub loop-pair-preserved-then-not-has_pair : goal.loop-pair-preserved-then-not-has_pair
loop-pair-preserved-then-not-has_pair c =
    let v = c.loop-pair.invariant in
    let p = c.in-Some.pair in
    let pairs = c.loop-pair.pairs.items in
    let no : Has pairs p → ⊥ = λ h. let yes : c.has_pair.result ≡ true = c.has_pair.ensures.1 (subst (λ (l : Edges). Has l p) (sym c.deref.ensures.value) h) in cc (yes, c.if-not-has_pair.true) in (
      p ∷ v.0,
      rest_of c.args.others.items c.loop-pair.others.items c.pop.new.self.items v.0 p v.1 c.in-Some.ensures.items,
      subst (λ (l : Edges). IsMerged c.args.pairs.now.items (p ∷ v.0) l true) (sym c.in_ok-push.ensures.items) (merged_more c.args.pairs.now.items v.0 pairs c.loop-pair.added p v.2 no),
    )

pub loop-pair-preserved : goal.loop-pair-preserved
loop-pair-preserved c =
    let v = c.loop-pair.invariant in
    let p = c.in-Some.pair in
    let pairs = c.loop-pair.pairs.items in
    let yes : Has pairs p = subst (λ (l : Edges). Has l p) c.deref.ensures.value (c.has_pair.ensures.0 c.if-not-has_pair.false) in (
      p ∷ v.0,
      rest_of c.args.others.items c.loop-pair.others.items c.pop.new.self.items v.0 p v.1 c.in-Some.ensures.items,
      merged_has c.args.pairs.now.items v.0 pairs c.loop-pair.added p v.2 yes,
    )
