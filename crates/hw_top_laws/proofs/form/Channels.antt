-- A channel is joined to the wires of its stream.
use Rattle.std.proofs.Common.{◌≡◌, ℕ, List, [], ◌∷◌, Some, inl, inr, refl, sym, ap, subst, ◌∙◌}
use Rattle.std.specs.Prelude.{slice_get, slice_index}
use Rattle.std.specs.List.{AllByRecursion}
use Rattle.tapa_syntax.specs.declared.program.Program.{Program}
use Rattle.tapa_syntax.specs.declared.program.Stream.{Stream}
use Rattle.task_fsm.specs.declared.machine.Fsm.{Fsm}
use Rattle.vlog_tree.specs.declared.tree.PortDecl.{PortDecl}
use Rattle.vlog_tree.specs.Form.{ModuleTree}
use Rattle.tapa_base.specs.Lists.{Has}
use Rattle.vlog_tree.specs.Labels.{rst, s_din, s_wr, s_rdy}
use Rattle.vlog_tree.specs.Table.{Name, clk, module_named}
use Rattle.hw_channel_lines.specs.Names.{channel_name}
use Rattle.hw_channel_laws.specs.modules.Rules.{OfFirst, IsOutermost, outer_ports}
use Rattle.hw_channel_laws.proofs.modules.Clear.{outermost}
use Rattle.hw_top_laws.specs.joins.Joins.{IsJoin, ToClock, ToInput, FromOutput, IsJoined}
use Rattle.hw_top_lines.specs.Channels.{channel_modules}
use Rattle.hw_top_lines.specs.Legal.{IsReady}
use Rattle.hw_top_lines.specs.Names.{s_has, s_dout}
use Rattle.hw_top_lines.specs.Texts.{token_bits, channel_connections}
use Rattle.hw_top_laws.specs.modules.Lower.{lower_modules, KeepPromises}
use Rattle.hw_top_laws.proofs.modules.Channels.{channel_are}
use Rattle.hw_top_laws.proofs.modules.Lower.{channels_found}
use Rattle.hw_top_laws.proofs.form.Standing.{standing, link_open, link_net, take_net}
use Rattle.hw_top_laws.proofs.form.Tasks.{joined, ported}

first_of : (P : ModuleTree → Type 0) (ms : List ModuleTree) → OfFirst P ms → (m : ModuleTree) × Has ms m × P m
first_of P [] h = absurd h
first_of P (m ∷ ms) h = (m, inl refl, h)

module _ (program : Program) (machines : List Fsm) (added : List ℕ) (ready : IsReady program machines added) (kept : KeepPromises program machines) where
  module _ (s : ℕ) (r : Stream) (got : slice_get program.streams.items s ≡ Some r) where
    abbrev pub late : ℕ
    late = slice_index added s

    abbrev pub bits : ℕ
    bits = token_bits r.kind

    pub record IsOuter : Type 0 where
      pub module_is : ModuleTree
      pub there : Has (channel_modules bits r.depth late) module_is
      pub title : module_is.name ≡ channel_name bits r.depth late
      pub ports : module_is.ports ≡ outer_ports bits
      pub named : module_named (lower_modules program machines added) (channel_name bits r.depth late) ≡ Some module_is

    pub outer : IsOuter
    outer =
        let ms = channel_modules bits r.depth late in
        let f = first_of (IsOutermost bits r.depth late) ms (outermost bits r.depth late ms (channel_are bits r.depth late)) in
        record {
          module_is = f.0;
          there = f.1;
          title = f.2.0;
          ports = f.2.1;
          named = subst (λ y. module_named (lower_modules program machines added) y ≡ Some f.0) f.2.0 (channels_found program machines added ready kept s r got f.0 f.1);
        }

    same : (y : Name) → joined (channel_connections r.label) y ≡ ported (outer_ports bits) y
    unfolding clk rst
    same y = refl

    right : AllByRecursion (IsJoin (standing program) (outer_ports bits)) (channel_connections r.label)
    unfolding clk rst
    right = (
      ToClock refl refl (inl refl),
      (
        ToInput 1 (inr (inl refl)) (inl refl),
        (
          ToInput bits (inr (inr (inl refl))) (link_net program s r got bits (s_din r.label) (inl refl)),
          (
            ToInput 1 (inr (inr (inr (inl refl)))) (link_net program s r got 1 (s_wr r.label) (inr (inl refl))),
            (
              ToInput 1 (inr (inr (inr (inr (inl refl))))) (take_net program s r got),
              (
                FromOutput 1 (inr (inr (inr (inr (inr (inl refl)))))) (link_open program s r got 1 (s_rdy r.label) (inr (inr (inl refl)))),
                (
                  FromOutput 1 (inr (inr (inr (inr (inr (inr (inl refl))))))) (link_open program s r got 1 (s_has r.label) (inr (inr (inr (inl refl))))),
                  (FromOutput bits (inr (inr (inr (inr (inr (inr (inr (inl refl)))))))) (link_open program s r got bits (s_dout r.label) (inr (inr (inr (inr (inl refl)))))), tt),
                ),
              ),
            ),
          ),
        ),
      ),
    )

    pub channel_joined : IsJoined (lower_modules program machines added) (standing program) (channel_name bits r.depth late) (channel_connections r.label)
    channel_joined = record {
      child = outer.module_is;
      named = outer.named;
      same = λ y. same y ∙ ap (λ (ps : List PortDecl). ported ps y) (sym outer.ports);
      joins = subst (λ (ps : List PortDecl). AllByRecursion (IsJoin (standing program) ps) (channel_connections r.label)) (sym outer.ports) right;
    }
