-- The elements of the top stand in order beside the modules below it.
use Rattle.std.proofs.Common.{◌≡◌, ℕ, zero, suc, ◌+◌, ◌-◌, ◌*◌, ◌<◌, Bool, true, false, List, [], ◌∷◌, ◌++◌, length, inl, refl, subst, arith, append_assoc}
use Rattle.std.specs.Prelude.{slice_get}
use Rattle.tapa_syntax.specs.declared.program.Program.{Program}
use Rattle.task_fsm.specs.declared.machine.Fsm.{Fsm}
use Rattle.vlog_tree.specs.Form.{ModuleTree}
use Rattle.vlog_tree.specs.Labels.{done}
use Rattle.tapa_base.proofs.Lists.{has_right}
use Rattle.hw_build.specs.Elements.{Element, Wire, Output, InstanceWire}
use Rattle.hw_build.specs.Trees.{numbered, tree_node, tree_nodes}
use Rattle.hw_build.specs.Scope.{each, IsNet, FitInOrder}
use Rattle.hw_build.proofs.Parts.{has_each, in_order_more, parts_fit, each_part_fits, tree_fits}
use Rattle.hw_task_laws.proofs.fit.Scopes.{left_among, wire_net, net_in, net_of, kind_wide, token_wide}
use Rattle.hw_top_laws.specs.joins.Joins.{StandInOrder}
use Rattle.hw_top_laws.proofs.joins.Parts.{alone_stands, stands_more, parts_stand}
use Rattle.hw_top_lines.specs.Names.{ended_net, waits}
use Rattle.hw_top_lines.specs.Bounds.{parameters}
use Rattle.hw_top_lines.specs.Legal.{IsReady}
use Rattle.hw_top_lines.specs.Texts.{ports, still_waits, is_detached, waiting, none_waits, doneness, wires, instances, top_elements}
use Rattle.hw_top_laws.specs.modules.Lower.{lower_modules, KeepPromises}
use Rattle.hw_top_laws.proofs.form.Bounds.{parameters_fit}
use Rattle.hw_top_laws.proofs.form.Channels.{channel_joined}
use Rattle.hw_top_laws.proofs.form.PartByPart.{each_leaf, ports_by, wires_by, instances_by}
use Rattle.hw_top_laws.proofs.form.Standing.{standing, scalars, scalars_among, ended_there, bounds}
use Rattle.hw_top_laws.proofs.form.Tasks.{part_at, task_joined}

-- ---- ports and links

-- ---- when all is done

module _ (program : Program) where
  abbrev leaves : ℕ → List Element
  leaves n = each (waiting program) n

  waiting_fits : (before : List Element) (i : ℕ) → IsNet before (ended_net i) 1 → FitInOrder before (waiting program i)
  waiting_fits before i h = by (is_detached (slice_get program.instances.items i)) where
    by : (b : Bool) → FitInOrder before (Wire 1 (numbered waits i) (still_waits i b) ∷ [])
    by true = ((refl, (refl, omega arith)), tt)
    by false = ((refl, h), tt)

  leaf_net : (before : List Element) (n j : ℕ) → j < n → IsNet (before ++ leaves n) (numbered waits j) 1
  leaf_net before n j l =
      let v = still_waits j (is_detached (slice_get program.instances.items j)) in
      wire_net (before ++ leaves n) 1 (numbered waits j) v (has_right before (leaves n) (Wire 1 (numbered waits j) v) (has_each (waiting program) n j (Wire 1 (numbered waits j) v) l (inl refl)))

  nodes_fit : (before : List Element) (n : ℕ) → FitInOrder (before ++ leaves n) (tree_nodes 1 waits n (n - 1))
  nodes_fit before zero = tt
  nodes_fit before (suc n) = tree_fits (before ++ leaves (suc n)) 1 waits (suc n) refl (λ j l. leaf_net before (suc n) j l) (suc n - 1) (omega arith)

  -- the net that the output reads
  root_net : (before : List Element) (n : ℕ) → IsNet ((before ++ leaves (suc n)) ++ tree_nodes 1 waits (suc n) (suc n - 1)) (numbered waits (2 * suc n - 2)) 1
  root_net before zero =
      let nodes = tree_nodes 1 waits 1 (1 - 1) in
      net_in (before ++ leaves 1) ((before ++ leaves 1) ++ nodes) (left_among (before ++ leaves 1) nodes) (numbered waits 0) 1 (leaf_net before 1 0 (omega arith))
  root_net before (suc n) =
      let e : suc n ≡ suc (suc n) - 1 = omega arith in
      let k : suc (suc n) + n ≡ 2 * suc (suc n) - 2 = omega arith in
      subst (λ m. IsNet ((before ++ leaves (suc (suc n))) ++ tree_nodes 1 waits (suc (suc n)) m) (numbered waits (2 * suc (suc n) - 2)) 1) e
      (subst (λ j. IsNet ((before ++ leaves (suc (suc n))) ++ tree_nodes 1 waits (suc (suc n)) (suc n)) (numbered waits j) 1) k
      (wire_net ((before ++ leaves (suc (suc n))) ++ tree_nodes 1 waits (suc (suc n)) (suc n)) 1 (numbered waits (suc (suc n) + n)) _
      (has_right (before ++ leaves (suc (suc n))) (tree_nodes 1 waits (suc (suc n)) (suc n)) (tree_node 1 waits (suc (suc n)) n)
      (has_right (tree_nodes 1 waits (suc (suc n)) n) (tree_node 1 waits (suc (suc n)) n ∷ []) (tree_node 1 waits (suc (suc n)) n) (inl refl)))))

  last_fits : (before : List Element) (n : ℕ) → FitInOrder ((before ++ leaves n) ++ tree_nodes 1 waits n (n - 1)) (Output 1 done (none_waits n) ∷ [])
  last_fits before zero = ((refl, (refl, omega arith)), tt)
  last_fits before (suc n) = ((refl, root_net before n), tt)

  pub done_fits : (before : List Element) → ((i : ℕ) → i < length program.instances.items → IsNet before (ended_net i) 1) → FitInOrder before (doneness program)
  done_fits before h =
      let n = length program.instances.items in
      let nodes = tree_nodes 1 waits n (n - 1) in
      let last = Output 1 done (none_waits n) ∷ [] in
      parts_fit before (leaves n ++ nodes) last
      (parts_fit before (leaves n) nodes (each_part_fits before (waiting program) n (λ i l. waiting_fits before i (h i l))) (nodes_fit before n))
      (subst (λ (l : List Element). FitInOrder l last) (append_assoc before (leaves n) nodes) (last_fits before n))

-- ---- all

module _ (program : Program) (machines : List Fsm) (added : List ℕ) (ready : IsReady program machines added) (kept : KeepPromises program machines) where
  abbrev ms : List ModuleTree
  ms = lower_modules program machines added

  both_stand : (before xs ys : List Element) → StandInOrder ms before xs → StandInOrder ms before ys → StandInOrder ms before (xs ++ ys)
  both_stand before xs ys h k = parts_stand ms before xs ys h (stands_more ms before (before ++ xs) (left_among before xs) ys k)

  ports_stand : StandInOrder ms [] (ports program)
  ports_stand = ports_by (StandInOrder ms []) tt (both_stand []) program (λ k c e. (kind_wide c.kind, tt)) (λ k m e. (refl, (kind_wide m.kind, (refl, (refl, (kind_wide m.kind, tt))))))

  pub bounds_fit : FitInOrder (scalars program) (bounds program)
  bounds_fit =
      each_leaf (FitInOrder (scalars program)) tt
      (λ xs ys h k. parts_fit (scalars program) xs ys h (in_order_more (scalars program) (scalars program ++ xs) (left_among (scalars program) xs) ys k)) program (parameters program)
      (λ i x leaf g e. parameters_fit program i x leaf (part_at program machines added ready kept i x leaf g e).fits)

  wires_stand : StandInOrder ms (ports program) (wires program)
  wires_stand =
      let front = ports program in
      wires_by (StandInOrder ms front) tt (both_stand front) program (λ s r e. (token_wide r.kind, (refl, (refl, (refl, (token_wide r.kind, tt))))))
      (alone_stands ms front (bounds program) (in_order_more (scalars program) front (scalars_among program) (bounds program) bounds_fit)) (λ i l. (refl, tt)) (λ s r e. (refl, tt))

  done_stands : StandInOrder ms (ports program ++ wires program) (doneness program)
  done_stands =
      alone_stands ms (ports program ++ wires program) (doneness program)
      (done_fits program (ports program ++ wires program)
      (λ i l. net_of (ports program ++ wires program) (InstanceWire 1 (ended_net i)) (ended_net i) 1 (has_right (ports program) (wires program) (InstanceWire 1 (ended_net i)) (ended_there program i l)) (inl refl)))

  instances_stand : StandInOrder ms (standing program) (instances program added)
  instances_stand =
      instances_by (StandInOrder ms (standing program)) tt (both_stand (standing program)) program added
      (λ i x leaf g e. (task_joined program machines added ready kept i x leaf (part_at program machines added ready kept i x leaf g e), tt)) (λ s r e. (channel_joined program machines added ready kept s r e, tt))

  pub top_stands : StandInOrder ms [] (top_elements program added)
  top_stands =
      parts_stand ms [] (standing program) (instances program added)
      (parts_stand ms [] (ports program ++ wires program) (doneness program) (parts_stand ms [] (ports program) (wires program) ports_stand wires_stand) done_stands) instances_stand
