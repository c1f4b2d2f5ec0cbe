-- Which outputs of a task's module rest on its inputs.
use Rattle.std.proofs.Common.{◌≡◌, ℕ, ◌+◌, ◌<◌, Bool, true, false, cond, List, [], ◌∷◌, ◌++◌, map, length, inl, inr, refl, sym, ap, subst, ◌∙◌, ⊎_elim}
use Rattle.std.specs.Prelude.{◌⊎◌}
use Rattle.tapa_base.specs.Kinds.{bits_of}
use Rattle.vlog_tree.specs.declared.table.Declaration.{Declaration}
use Rattle.vlog_tree.specs.declared.table.NetKind.TheVariants.{Input as InputNet, Output as OutputNet}
use Rattle.vlog_tree.specs.declared.tree.PortDecl.{PortDecl}
use Rattle.tapa_base.specs.Lists.{Has}
use Rattle.vlog_tree.specs.Table.{Name, port_declared, find_name, net_kind_of}
use Rattle.tapa_base.proofs.Lists.{has_split, of_map}
use Rattle.hw_build.specs.Elements.{empty, built}
use Rattle.hw_build.proofs.Tables.{is_known, known}
use Rattle.hw_build.proofs.Free.{free_outputs, free_rests_on_no_input}
use Rattle.hw_build.specs.Scope.{each}
use Rattle.hw_build.proofs.Parts.{of_each}
use Rattle.hw_lines.specs.declared.nets.Net.{Net}
use Rattle.hw_lines.specs.declared.nets.Net.TheVariants.{Done, Taken, Din, Wr, Rdy, Has as HasNet, Dout, Addr, Wdata, We}
use Rattle.hw_lines.specs.Nets.{name}
use Rattle.hw_lines.specs.Shape.{Shape, shape_of, stream_kind}
use Rattle.hw_lines.specs.Texts.{writes, task_elements}
use Rattle.hw_task_laws.specs.names.Ports.{inward, outward, scalar_input, stream_in, stream_out, memory_in, memory_out, task_inputs, task_outputs}
use Rattle.hw_task_laws.proofs.names.Ported.{modules_have_ports}
use Rattle.hw_task_laws.proofs.form.Whole.{tasks_fit, tasks_are_fitting, in_form, childless}
use Rattle.hw_task_laws.specs.rests.Rests.{TakesToken, OnlyTakesRest}
use Rattle.hw_task_laws.proofs.rests.Free.{is_free, free_by}
use Rattle.hw_task_laws.proofs.rests.Closed.{elements_closed}

abbrev IsInward : PortDecl → Type 0
IsInward p = (port_declared p).net_kind ≡ InputNet

one_inward : (w : ℕ) (y : Net) (p : PortDecl) → inward w y ≡ p → IsInward p
one_inward w y p e = subst IsInward e refl

module _ (S : Shape) where
  stream_inward : (s : ℕ) (b : Bool) (p : PortDecl) → Has (cond b (inward 1 (Rdy s) ∷ []) (inward 1 (HasNet s) ∷ inward (bits_of (stream_kind S s) + 1) (Dout s) ∷ [])) p → IsInward p
  stream_inward s true p (inl e) = one_inward 1 (Rdy s) p e
  stream_inward s true p (inr n) = absurd n
  stream_inward s false p (inl e) = one_inward 1 (HasNet s) p e
  stream_inward s false p (inr (inl e)) = one_inward (bits_of (stream_kind S s) + 1) (Dout s) p e
  stream_inward s false p (inr (inr n)) = absurd n

  scalar_inward : (i : ℕ) (p : PortDecl) → Has (scalar_input S i) p → IsInward p
  scalar_inward i p (inl e) = subst IsInward e refl
  scalar_inward i p (inr n) = absurd n

  memory_inward : (m : ℕ) (p : PortDecl) → Has (memory_in S m) p → IsInward p
  memory_inward m p (inl e) = subst IsInward e refl
  memory_inward m p (inr (inl e)) = subst IsInward e refl
  memory_inward m p (inr (inr n)) = absurd n

  inputs_inward : (p : PortDecl) → Has (task_inputs S) p → IsInward p
  inputs_inward p h =
      let scalars = each (scalar_input S) (length S.scalars) in
      let streams = each (stream_in S) (length S.streams) in
      let memories = each (memory_in S) (length S.memories) in
      ⊎_elim
      (λ l.
      ⊎_elim (λ i. let r = of_each (scalar_input S) (length S.scalars) p i in scalar_inward r.0 p r.2) (λ i. let r = of_each (stream_in S) (length S.streams) p i in stream_inward r.0 (writes S r.0) p r.2) (has_split scalars streams p l))
      (λ i. let r = of_each (memory_in S) (length S.memories) p i in memory_inward r.0 p r.2) (has_split (scalars ++ streams) memories p h)

  -- an output is free, or takes a token
  abbrev IsSorted : PortDecl → Type 0
  IsSorted p = (is_free p.name ≡ true) ⊎ TakesToken S p.name

  one_free : (w : ℕ) (y : Net) (p : PortDecl) → is_free (name y) ≡ true → outward w y ≡ p → IsSorted p
  one_free w y p h e = inl (subst (λ (z : PortDecl). is_free z.name ≡ true) e h)

  stream_sorted : (s : ℕ) → s < length S.streams → (b : Bool) → writes S s ≡ b → (p : PortDecl)
      → Has (cond b (outward 1 (Wr s) ∷ outward (bits_of (stream_kind S s) + 1) (Din s) ∷ []) (outward 1 (Taken s) ∷ [])) p → IsSorted p
  stream_sorted s l true w p (inl e) = one_free 1 (Wr s) p (free_by (Wr s)) e
  stream_sorted s l true w p (inr (inl e)) = one_free (bits_of (stream_kind S s) + 1) (Din s) p (free_by (Din s)) e
  stream_sorted s l true w p (inr (inr n)) = absurd n
  stream_sorted s l false w p (inl e) = inr (s, l, w, sym (ap (λ (z : PortDecl). z.name) e))
  stream_sorted s l false w p (inr n) = absurd n

  memory_sorted : (m : ℕ) (p : PortDecl) → Has (memory_out S m) p → IsSorted p
  memory_sorted m p (inl e) = inl (subst (λ (z : PortDecl). is_free z.name ≡ true) e (free_by (Addr m)))
  memory_sorted m p (inr (inl e)) = inl (subst (λ (z : PortDecl). is_free z.name ≡ true) e (free_by (Wdata m)))
  memory_sorted m p (inr (inr (inl e))) = inl (subst (λ (z : PortDecl). is_free z.name ≡ true) e (free_by (We m)))
  memory_sorted m p (inr (inr (inr n))) = absurd n

  outputs_sorted : (p : PortDecl) → Has (task_outputs S) p → IsSorted p
  outputs_sorted p h =
      let streams = each (stream_out S) (length S.streams) in
      let memories = each (memory_out S) (length S.memories) in
      ⊎_elim
      (λ l. ⊎_elim (done p) (λ i. let r = of_each (stream_out S) (length S.streams) p i in stream_sorted r.0 r.1 (writes S r.0) refl p r.2) (has_split (outward 1 Done ∷ []) streams p l))
      (λ i. let r = of_each (memory_out S) (length S.memories) p i in memory_sorted r.0 p r.2) (has_split ((outward 1 Done ∷ []) ++ streams) memories p h) where
        done : (q : PortDecl) → Has (outward 1 Done ∷ []) q → IsSorted q
        done q (inl e) = one_free 1 Done q (free_by Done) e
        done q (inr n) = absurd n

  not_both : (p : PortDecl) → IsInward p → (port_declared p).net_kind ≡ OutputNet → ⊥
  not_both p h k = let wrong : InputNet ≡ OutputNet = sym h ∙ k in absurd cc

  port_sorted : (title : Name) (p : PortDecl) → Has (built title (task_elements S)).ports p → (port_declared p).net_kind ≡ OutputNet → IsSorted p
  port_sorted title p h k =
      let e = modules_have_ports S title in
      ⊎_elim (λ l. absurd (first p l k)) (λ r. ⊎_elim (λ i. absurd (not_both p (inputs_inward p i) k)) (λ o. outputs_sorted p o) (has_split (task_inputs S) (task_outputs S) p r))
      (has_split (empty title).ports (task_inputs S ++ task_outputs S) p (subst (λ (l : List PortDecl). Has l p) e h)) where
        first : (q : PortDecl) → Has (empty title).ports q → (port_declared q).net_kind ≡ OutputNet → ⊥
        first q (inl e) j = not_both q (subst IsInward e refl) j
        first q (inr (inl e)) j = not_both q (subst IsInward e refl) j
        first q (inr (inr n)) j = absurd n

  output_sorted : (title x : Name) → net_kind_of (map port_declared (built title (task_elements S)).ports) x ≡ OutputNet → (is_free x ≡ true) ⊎ TakesToken S x
  output_sorted title x out =
      let ports = (built title (task_elements S)).ports in
      let r = known (map port_declared ports) x (ap is_known out) in
      let d = find_name (map port_declared ports) x in
      let t = of_map port_declared ports d r.0 in
      let named : t.0.name ≡ x = ap (λ (z : Declaration). z.name) t.2 ∙ r.1 in
      subst (λ z. (is_free z ≡ true) ⊎ TakesToken S z) named (port_sorted title t.0 t.1 (ap (λ (z : Declaration). z.net_kind) t.2 ∙ out))

pub only_takes_rest : OnlyTakesRest
only_takes_rest leaf machine is_leaf lowered c ms is_top title x y out into rests =
    let S = shape_of machine leaf.memories.items leaf.streams.items in
    let f = tasks_fit leaf machine is_leaf lowered c in
    ⊎_elim
    (λ free.
    absurd (free_rests_on_no_input ms is_top title (task_elements S) is_free (tasks_are_fitting leaf machine is_leaf lowered c ms) (in_form S c f)
    (free_outputs ms is_top (task_elements S) is_free (childless ms is_top (task_elements S) f.order)) (elements_closed S) x y out free into rests))
    (λ t. t) (output_sorted S title x out)
