-- Ranks that fall along all that a net rests on.
use Rattle.std.proofs.Common.{◌≡◌, ℕ, ◌<◌, Bool, List, Some, None, inl, inr, ap, arith}
use Rattle.vlog_tree.specs.Form.{ModuleTree}
use Rattle.tapa_base.specs.Lists.{Has, Chain, one, more}
use Rattle.vlog_tree.specs.Table.{Name}
use Rattle.vlog_tree.specs.V6.{module_children}
use Rattle.vlog_tree.specs.Loops.{Rests, directly, through, after, LiesOnLoop, TextPlace, containment, own_containment, port_of}
use Rattle.vlog_module_laws.specs.Ranks.{FallsBy, HaveRanks}
use Rattle.tapa_base.proofs.Lists.{of_flat, of_map}

module _ (ms : List ModuleTree) (is_top : Name → Bool) where
  pub lower : {m : ModuleTree} {x y : Name} → Rests ms is_top m x y → (rank : Name → ℕ) → FallsBy ms is_top m rank → rank y < rank x
  lower (directly {m = m} {x = x} {y = y} h) rank f = f.direct x y h
  lower (through {m = m} {a = a} {b = b} k kn i x y inst named out into rests ea eb) rank f =
      let l : rank (port_of i y) < rank (port_of i x) = f.inside kn i x y k inst named out into rests in
      let p : rank a ≡ rank (port_of i x) = ap rank ea in
      let q : rank b ≡ rank (port_of i y) = ap rank eb in
      omega arith
  lower (after {m = m} {x = x} {z = z} y r s) rank f =
      let one : rank y < rank x = lower r rank f in
      let two : rank z < rank y = lower s rank f in
      omega arith

  pub on_no_loop : (m : ModuleTree) (rank : Name → ℕ) → FallsBy ms is_top m rank → (x : Name) → Rests ms is_top m x x → ⊥
  on_no_loop m rank f x r = let l : rank x < rank x = lower r rank f in absurd (omega arith)

  module _ (h : HaveRanks ms is_top) where
    edge_falls : (x y : Name) → Has (containment ms) (x, y) → h.level y < h.level x
    unfolding own_containment
    edge_falls x y e =
        let t = of_flat own_containment ms (x, y) e in
        let c = of_map (λ k. (t.0.name, k)) (module_children t.0) (x, y) t.2 in
        let low : h.level c.0 < h.level t.0.name = h.contains_lower t.0 c.0 t.1 c.1 in
        let p : h.level t.0.name ≡ h.level x = ap (λ (q : Name × Name). h.level q.0) c.2 in
        let q : h.level c.0 ≡ h.level y = ap (λ (q : Name × Name). h.level q.1) c.2 in
        omega arith

    chain_falls : {a b : Name} → Chain (λ x y. Has (containment ms) (x, y)) a b → h.level b < h.level a
    chain_falls (one {a = a} {b = b} e) = edge_falls a b e
    chain_falls (more {a = a} {c = c} b e k) =
        let first : h.level b < h.level a = edge_falls a b e in
        let rest : h.level c < h.level b = chain_falls k in
        omega arith

    pub loopless : (s : TextPlace) → LiesOnLoop ms is_top s → ⊥
    loopless (m, None) r = let l : h.level m < h.level m = chain_falls r in absurd (omega arith)
    loopless (m, Some x) (inl r) = on_no_loop r.0 (h.rank r.0) (h.falls r.0 r.1) x r.3
    loopless (m, Some x) (inr r) = on_no_loop r.0 (h.rank r.0) (h.falls r.0 r.2) (port_of r.1 x) r.4
