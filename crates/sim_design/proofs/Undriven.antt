-- Registers and inputs are driven by no line.
use Rattle.std.proofs.Common.{◌≡◌, List, true, false, Some, None, inl, inr, sym, ap, subst, ◌∙◌, map}
use Rattle.std.specs.Prelude.{◌⊎◌}
use Rattle.vlog_tree.specs.declared.tree.Value.{Value}
use Rattle.vlog_tree.specs.declared.tree.Connection.{Connection}
use Rattle.vlog_tree.specs.declared.tree.Item.TheVariants.{Assign, Instance}
use Rattle.vlog_tree.specs.declared.table.NetKind.TheVariants as kind
use Rattle.vlog_tree.specs.Form.{ModuleTree}
use Rattle.tapa_base.specs.Lists.{Has}
use Rattle.vlog_tree.specs.Table.{Name, declared, port_declared, net_kind_of, net_kind_is_driven, net_kind_is_input, ports_of, first_violation}
use Rattle.vlog_tree.specs.V2.{v2_uses}
use Rattle.vlog_tree.specs.V4.{v4_uses}
use Rattle.vlog_run_laws.proofs.runs.Sound.{assign_driven, connection_driven}
use Rattle.vlog_run_laws.proofs.runs.Drivers.{Source, value, output, sources, source_is, assign_source, connection_has_source, few_sources, input_undriven}
use Rattle.tapa_base.proofs.Tests.{true_not_false}

module _ (ms : List ModuleTree) (names : first_violation (v2_uses ms) ≡ None) (drivers : first_violation (v4_uses ms) ≡ None) (m : ModuleTree) (in_ms : Has ms m) where
  abbrev pub IsHeld : Name → Type 0
  IsHeld x = (net_kind_of (declared m) x ≡ kind.Register) ⊎ (net_kind_of (declared m) x ≡ kind.Input)

  no_driver : (x : Name) → IsHeld x → (s : Source) → Has (sources ms m.items) (x, s) → net_kind_is_driven (net_kind_of (declared m) x) ≡ true → ⊥
  no_driver x (inl r) s h driven = true_not_false (sym driven ∙ ap net_kind_is_driven r)
  no_driver x (inr i) s h driven =
      let clash : None ≡ Some s = sym (input_undriven ms drivers m in_ms x i) ∙ source_is (sources ms m.items) x s h (few_sources ms drivers m in_ms x driven) in
      cc

  pub no_assign : (x : Name) → IsHeld x → (e : Value) → Has m.items (Assign x e) → ⊥
  no_assign x k e has = no_driver x k (value e) (assign_source ms m.items x e has) (assign_driven ms names m in_ms x e has)

  pub no_port : (x : Name) → IsHeld x → (kn i : Name) (connections : List Connection) → Has m.items (Instance kn i connections) → (l : Connection) → Has connections l → l.net ≡ x → net_kind_is_input (net_kind_of (map port_declared (ports_of ms kn)) l.port) ≡ false → ⊥
  no_port x k kn i connections has l h net out =
      no_driver x k (output i l.port) (subst (λ z. Has (sources ms m.items) (z, output i l.port)) net (connection_has_source ms m.items kn i connections has l h out))
      (subst (λ z. net_kind_is_driven (net_kind_of (declared m) z) ≡ true) net (connection_driven ms names m in_ms kn i connections has l h out))
