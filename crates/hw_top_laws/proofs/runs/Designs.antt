-- The circuit of a program, in a run, is a design of the program's instances and streams.
use Rattle.std.proofs.Common.{◌≡◌, ℕ, suc, ◌+◌, Bool, List, [], ◌∷◌, Option, Some, None, sym, ap, subst, ◌∙◌}
use Rattle.std.specs.Prelude.{◌==◌, option_map, slice_get, slice_index, unwrap_or, codes}
use Rattle.tapa_base.specs.Kinds.{bits_of}
use Rattle.tapa_syntax.specs.WellFormed.{IsWellFormed}
use Rattle.tapa_syntax.specs.declared.program.Instance.{Instance}
use Rattle.tapa_syntax.specs.declared.program.Leaf.{Leaf}
use Rattle.tapa_syntax.specs.declared.program.Program.{Program}
use Rattle.tapa_syntax.specs.declared.program.Stream.{Stream}
use Rattle.vlog_tree.specs.Cycle.{Cycle, Path}
use Rattle.vlog_tree.specs.Environment.{Environment, FitsShape, shape_of, token_of}
use Rattle.vlog_run_laws.specs.Beside.{RunsBeside, answers_in}
use Rattle.vlog_run_laws.proofs.widths.Beside.{runs_beside}
use Rattle.vlog_tree.specs.Form.{ModuleTree}
use Rattle.vlog_tree.specs.Labels.{s_din, s_wr, s_rdy}
use Rattle.vlog_tree.specs.Table.{Name}
use Rattle.task_fsm.specs.declared.machine.Fsm.{Fsm}
use Rattle.hw_lines.specs.Signals.{Streams}
use Rattle.hw_channel_laws.specs.signals.Contract.{MeetsContract as OwesContract}
use Rattle.hw_channel_laws.specs.modules.Ports.{channel_ports}
use Rattle.hw_network_laws.specs.modules.Channels.{AreSignals, IsStill}
use Rattle.hw_network_laws.specs.modules.Designs.{RunsInstance, HasMachine}
use Rattle.hw_top_lines.specs.Designs.{AreShort}
use Rattle.hw_top_lines.specs.Names.{s_has, s_dout, s_take, task_instance, channel_instance}
use Rattle.hw_top_lines.specs.Texts.{token_bits, top_tree, stream_label}
use Rattle.hw_top_laws.specs.runs.Designs.{IsCircuit, CircuitsAreDesigns, CircuitsAreDesignsBeside}
use Rattle.hw_top_laws.specs.runs.Parts.{instance_run, instance_rows, channel_run, bit_of, token_in, streams_seen, rows_of}
use Rattle.hw_top_laws.proofs.runs.Joined.{channel_din, channel_wr, channel_take, channel_rdy, channel_has, channel_dout}
use Rattle.hw_top_laws.proofs.runs.Tasks.{runs_instance, owes}

module _ (program : Program) (w : IsWellFormed program) (added : List ℕ) (short : AreShort added) (machines : ℕ → Option Fsm) (all : List ModuleTree) (place : ℕ) (c : IsCircuit program added machines all place) (env : Environment)
    (env_fits : FitsShape env (shape_of (top_tree program added))) (acks : ℕ → ℕ → Bool) (nets : ℕ → Path → Cycle) (r : RunsBeside all (top_tree program added) env acks nets) where
  abbrev T : Streams
  T = streams_seen program nets

  instance_there : (i : ℕ) (x : Instance) (leaf : Leaf) → slice_get program.instances.items i ≡ Some x → slice_get program.bodies.items x.body ≡ Some leaf
      → HasMachine program env.scalars env.memories x leaf (machines i) (instance_run program nets i) (instance_rows program env nets i) T
  instance_there i x leaf at body =
      let task = c.tasks i x leaf at body in
      let label : x.label ≡ unwrap_or (option_map (λ (z : Instance). z.label) (slice_get program.instances.items i)) [] = sym (ap (λ o. unwrap_or (option_map (λ (z : Instance). z.label) o) []) at) in
      record {
        machine = task.machine;
        is = task.is;
        runs = subst (λ o. RunsInstance program env.scalars env.memories x leaf task.machine (instance_run program nets i) (λ n. rows_of program env nets o n) T) (sym at)
            (subst (λ l. RunsInstance program env.scalars env.memories x leaf task.machine (λ n. nets n (task_instance l ∷ [])) (λ n. rows_of program env nets (Some x) n) T) label
            (runs_instance program w added short machines all place c env env_fits acks nets r i x leaf at body));
      }

  module _ (s : ℕ) (q : Stream) (at : slice_get program.streams.items s ≡ Some q) where
    label : q.label ≡ stream_label program s
    label = sym (ap (λ o. unwrap_or (option_map (λ (z : Stream). z.label) o) []) at)

    bit_is : (net : Name → Name) (port : Name) → ((n : ℕ) → (nets n (channel_instance q.label ∷ [])).net port ≡ (nets n []).net (net q.label)) → (n : ℕ)
        → bit_of (slice_get program.streams.items s) net (nets n []) ≡ ((nets n (channel_instance (stream_label program s) ∷ [])).net port == 1)
    bit_is net port joined n =
        ap (λ o. bit_of o net (nets n [])) at ∙ ap (λ z. z == 1) (sym (joined n)) ∙ ap (λ l. (nets n (channel_instance l ∷ [])).net port == 1) label

    token_is : (net : Name → Name) (port : Name) → ((n : ℕ) → (nets n (channel_instance q.label ∷ [])).net port ≡ (nets n []).net (net q.label)) → (n : ℕ)
        → token_in (slice_get program.streams.items s) net (nets n []) ≡ token_of (token_bits q.kind) ((nets n (channel_instance (stream_label program s) ∷ [])).net port)
    token_is net port joined n =
        ap (λ o. token_in o net (nets n [])) at ∙ ap (token_of (token_bits q.kind)) (sym (joined n)) ∙ ap (λ l. token_of (token_bits q.kind) ((nets n (channel_instance l ∷ [])).net port)) label

    signals_are : AreSignals (bits_of q.kind + 1) s (channel_run program nets s) T
    signals_are = record {
      has = λ n. bit_is s_has (codes "has") (channel_has program added all nets r.runs s q at) n;
      dout = λ n. token_is s_dout (codes "dout") (channel_dout program added all nets r.runs s q at) n;
      take = λ n. bit_is s_take (codes "take") (channel_take program added all nets r.runs s q at) n;
      rdy = λ n. bit_is s_rdy (codes "rdy") (channel_rdy program added all nets r.runs s q at) n;
      wr = λ n. bit_is s_wr (codes "wr") (channel_wr program added all nets r.runs s q at) n;
      din = λ n. token_is s_din (codes "din") (channel_din program added all nets r.runs s q at) n;
    }

    contract_is : OwesContract q.depth (slice_index added s) (channel_run program nets s)
    contract_is = subst (λ l. OwesContract q.depth (slice_index added s) (channel_ports (λ n. nets n (channel_instance l ∷ [])))) label (owes program w added short machines all place c env env_fits acks nets r s q at)

  still_there : (s : ℕ) → slice_get program.streams.items s ≡ None → IsStill s T
  still_there s e = record {
    has = λ n. ap (λ o. bit_of o s_has (nets (suc n) [])) e;
    take = λ n. ap (λ o. bit_of o s_take (nets (suc n) [])) e;
    rdy = λ n. ap (λ o. bit_of o s_rdy (nets (suc n) [])) e;
  }

pub circuits_beside : CircuitsAreDesignsBeside
circuits_beside program w added short machines all place c env env_fits acks nets r = record {
  tasks = instance_there program w added short machines all place c env env_fits acks nets r;
  signals = signals_are program w added short machines all place c env env_fits acks nets r;
  contract = contract_is program w added short machines all place c env env_fits acks nets r;
  still = still_there program w added short machines all place c env env_fits acks nets r;
}

-- a run in an environment is one beside its memories
pub circuits_are_designs : CircuitsAreDesigns
circuits_are_designs program w added short machines all place c env env_fits nets r =
    circuits_beside program w added short machines all place c env env_fits (answers_in env) nets (runs_beside all place (top_tree program added) c.design c.is_top env env_fits nets r)
