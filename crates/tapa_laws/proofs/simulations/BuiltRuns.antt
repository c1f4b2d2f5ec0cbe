-- What a simulation of a circuit's text shows is what its program carries.
use Rattle.std.proofs.Common.{◌≡◌, ℕ, zero, suc, ◌+◌, ◌*◌, ◌<◌, ◌≤◌, List, [], ◌++◌, Option, Some, None, refl, sym, ap, subst, ◌∙◌, arith, le_trans, ⊎_elim}
use Rattle.std.specs.Prelude.{option_map, slice_get, slice_index, slice_index_or}
use Rattle.std.proofs.lemmas.Bool.{cases_lt}
use Rattle.std.proofs.lemmas.Option.{slice_get-map, same_Some}
use Rattle.tapa_base.specs.declared.shape.Port.{Port}
use Rattle.tapa_base.specs.declared.token.Token.{Token}
use Rattle.tapa_base.specs.Kinds.{bits_of}
use Rattle.tapa_syntax.specs.declared.program.Memory.{Memory}
use Rattle.tapa_syntax.specs.declared.program.Program.{Program}
use Rattle.tapa_syntax.specs.declared.program.Stream.{Stream}
use Rattle.vlog_tree.specs.Cycle.{Cycle, Path}
use Rattle.vlog_tree.specs.Environment.{Environment, FitsShape, RunsIn, RaisesDone, shape_of, tokens, cells_at}
use Rattle.vlog_tree.specs.Form.{ModuleTree}
use Rattle.vlog_tree.specs.Spelling.{spelling}
use Rattle.vlog_lex.specs.Grammar.{HasTree}
use Rattle.vlog_lex.proofs.OneTree.{one_tree}
use Rattle.vlog_lex.proofs.Spelled.{spelling_has_tree}
use Rattle.vlog_lex.proofs.Written.{numbers_written, design_has_modules}
use Rattle.vlog_design.specs.Designs.{DesignTree}
use Rattle.vlog_read.proofs.OneTop.{one_design}
use Rattle.vlog_tree.specs.Refused.{IsDesign}
use Rattle.kahn_model.specs.Cells.{cells_at as cells_of}
use Rattle.kahn_model.specs.Counts.{IsKahnStream}
use Rattle.kahn_model.specs.Start.{network_of}
use Rattle.kahn_model.proofs.Order.{prefix_trans, prefix_length, prefix_whole}
use Rattle.kahn_model.specs.Ending.{IsLeastToEnd}
use Rattle.kahn_model.specs.Network.{Network, stream}
use Rattle.kahn_model.specs.Outcome.{IsJoined, HaveJoinedEnded, IsDone, shown}
use Rattle.kahn_model.specs.Timed.{lost}
use Rattle.tapa_syntax.specs.WellFormed.{IsWellFormed}
use Rattle.tapa_syntax.specs.Trees.{file_of}
use Rattle.stream_check.proofs.WellPrograms.{legal_program_well}
use Rattle.vlog_run_laws.specs.Beside.{answers_in}
use Rattle.circuit_meaning.specs.Carries.{Carries, carried_by}
use Rattle.circuit_meaning.specs.Clock.{network, clock_of, counts, all_answer}
use Rattle.circuit_meaning.specs.Gives.{Gives}
use Rattle.circuit_meaning.specs.Ports.{token_bits, stream_ports, memory_ports}
use Rattle.hw_top_laws.proofs.kahn.Gives.{carrying_gives}
use Rattle.command_source.specs.Source.{IsProgramOf}
use Rattle.circuit_meaning.specs.Circuits.{IsCircuitOf}
use Rattle.run_data.specs.Report.{stream_line, memory_line, last_line}
use Rattle.run_data.specs.Lines.{lines_from}
use Rattle.sim_output.specs.Reports.{IsSimulated, report_to, streams_to, memories_at, stream_lines, memory_lines, last_of}
use Rattle.sim_output.proofs.Simulating.{first_same}
use Rattle.cycle_sim.specs.Sims.{IsDoneAt, last_cycle}
use Rattle.net_core.specs.Bounded.{Values}
use Rattle.command_source.proofs.Given.{one_input}
use Rattle.command_build.specs.Built.{IsCircuitText}
use Rattle.tapa_laws.specs.simulations.BuiltRuns.{values_in, GivesAround, written_to, ShowsProgram, CircuitTextsShowTheirProgram, CircuitsShowTheirProgram, PlannedCircuitsShowTheirProgram, LatencyChangesNoReport}
use Rattle.tapa_words.specs.declared.command.CosimAim.TheVariants.{Report}
use Rattle.command_cosim.specs.Designs.{GivesEnvironment, HasSimulated}
use Rattle.hw_top_laws.proofs.runs.Values.{some_of as mapped}

abbrev name_of : Option Memory → List ℕ
name_of None = []
name_of (Some o) = o.name

module _ (program : Program) (w : IsWellFormed program) (added : List ℕ) (design : DesignTree) (circuit : IsCircuitOf program added design) (env : Environment) (fits : FitsShape env (shape_of circuit.top)) (nets : ℕ → Path → Cycle)
    (runs : RunsIn design.modules circuit.top env nets) (limit : ℕ) (at : Option ℕ) (done : IsDoneAt (λ n. nets n []) limit at) where
  abbrev root : ModuleTree
  root = circuit.top

  abbrev net : Network
  net = network program env

  abbrev run : ℕ → Cycle
  run n = nets n []

  abbrev last : ℕ
  last = last_cycle limit at

  k : Carries program env (clock_of program added (answers_in env)) nets
  k = circuit.carries env fits nets runs

  g : Gives program added env (answers_in env) nets
  g = carrying_gives program w added env (answers_in env) nets k

  -- ---- lines

  abbrev port_of : Stream → Port
  port_of q = record { name = q.label; bits = token_bits q.kind }

  tokens_are : (s : ℕ) (l : Port) → slice_get (stream_ports program) s ≡ Some l → tokens l.bits run l.name last ≡ written_to program added env last s
  tokens_are s l got =
      let q = mapped port_of (slice_get program.streams.items s) l (sym (slice_get-map port_of program.streams.items s) ∙ got) in
      ap (λ (p : Port). tokens p.bits run p.name last) (sym q.2) ∙ k.streams s last q.0 q.1

  streams_are : streams_to root run last ≡ stream_lines (written_to program added env last) (stream_ports program)
  streams_are =
      ap (λ (ports : List Port). lines_from (λ (l : Port) i. stream_line l.name (tokens l.bits run l.name last)) 0 ports) circuit.streams
      ∙ first_same (λ (l : Port) i. stream_line l.name (tokens l.bits run l.name last)) (λ (l : Port) i. stream_line l.name (written_to program added env last i)) (stream_ports program)
      (λ i l got. ap (λ (ts : List Token). stream_line l.name ts) (tokens_are i l got))

  -- the cells of a memory in the last cycle, by its place
  abbrev held : ℕ → List ℕ
  held m = cells_at run (name_of (slice_get program.memories.items m)) (slice_index_or env.memories m []) last

  held_is : (m : ℕ) (o : Memory) → slice_get program.memories.items m ≡ Some o → held m ≡ cells_at run o.name (slice_index_or env.memories m []) last
  held_is m o got = ap (λ z. cells_at run (name_of z) (slice_index_or env.memories m []) last) got

  abbrev memory_port : Memory → Port
  memory_port o = record { name = o.name; bits = bits_of o.kind }

  cells_are : (m : ℕ) (l : Port) → slice_get (memory_ports program) m ≡ Some l → cells_at run l.name (slice_index_or env.memories m []) last ≡ held m
  cells_are m l got =
      let o = mapped memory_port (slice_get program.memories.items m) l (sym (slice_get-map memory_port program.memories.items m) ∙ got) in
      ap (λ (p : Port). cells_at run p.name (slice_index_or env.memories m []) last) (sym o.2) ∙ sym (held_is m o.0 o.1)

  memories_are : memories_at root env run last ≡ memory_lines held (memory_ports program)
  memories_are =
      ap (λ (ports : List Port). lines_from (λ (l : Port) i. memory_line l.name (cells_at run l.name (slice_index_or env.memories i []) last)) 0 ports) circuit.memories
      ∙ first_same (λ (l : Port) i. memory_line l.name (cells_at run l.name (slice_index_or env.memories i []) last)) (λ (l : Port) i. memory_line l.name (held i)) (memory_ports program)
      (λ i l got. ap (λ (cells : List ℕ). memory_line l.name cells) (cells_are i l got))

  report_is : report_to root env run last (last_of limit at) ≡ (stream_lines (written_to program added env last) (stream_ports program) ++ memory_lines held (memory_ports program)) ++ last_line (last_of limit at)
  report_is =
      ap (λ (l : List ℕ). (l ++ memories_at root env run last) ++ last_line (last_of limit at)) streams_are
      ∙ ap (λ (l : List ℕ). (stream_lines (written_to program added env last) (stream_ports program) ++ l) ++ last_line (last_of limit at)) memories_are

  holds : (m n : ℕ) (o : Memory) → slice_get program.memories.items m ≡ Some o → last ≡ suc n → held m ≡ cells_of program env.scalars env.memories (counts program added env (answers_in env) (suc n)) m
  holds m n o got e = held_is m o got ∙ ap (λ z. cells_at run o.name (slice_index_or env.memories m []) z) e ∙ k.memories m n o got

  -- ---- done

  abbrev IsDoneSo : Option ℕ → Type 0
  IsDoneSo o = IsDoneAt run limit o

  done_in : (n : ℕ) → at ≡ Some n → RaisesDone run n
  done_in n e = (subst IsDoneSo e done).1

  last_is : (n : ℕ) → at ≡ Some n → last ≡ n
  last_is n e = ap (last_cycle limit) e

  ended : (n : ℕ) → at ≡ Some n → HaveJoinedEnded net (counts program added env (answers_in env) n)
  ended n e = by_cycle n (done_in n e) where
    by_cycle : (n : ℕ) → RaisesDone run n → HaveJoinedEnded net (counts program added env (answers_in env) n)
    by_cycle zero d = (let low : 1 ≤ 0 = d.0 in absurd (omega arith))
    by_cycle (suc n) d = (k.done n).0 d

  seen : (n s : ℕ) (q : Stream) → slice_get program.streams.items s ≡ Some q → carried_by nets q n ≡ written_to program added env n s
  seen n s q got = k.streams s n q got

  whole : (n s : ℕ) (q : Stream) → at ≡ Some n → slice_get program.streams.items s ≡ Some q → IsJoined net q.producer → IsKahnStream net s (written_to program added env n s)
  whole n s q e got joined = subst (IsKahnStream net s) (seen n s q got) (g.whole s n n q got (done_in n e) (omega arith) joined)

  as_run : (c : ℕ → ℕ) → HaveJoinedEnded net c → (n s : ℕ) (q : Stream) → at ≡ Some n → slice_get program.streams.items s ≡ Some q → IsJoined net q.producer → written_to program added env n s ≡ shown net c s
  as_run c ends n s q e got joined = sym (seen n s q got) ∙ g.shows c ends s n n q got (done_in n e) (omega arith) joined

  leaves :
      (c : ℕ → ℕ) → HaveJoinedEnded net c → (n m : ℕ) (o : Memory) → at ≡ Some n → slice_get program.memories.items m ≡ Some o → IsJoined net o.owner
      → held m ≡ cells_of program env.scalars env.memories c m
  leaves c ends n m o e got joined =
      held_is m o got ∙ ap (λ z. cells_at run o.name (slice_index_or env.memories m []) z) (last_is n e) ∙ g.leaves c ends m n n o got (done_in n e) (omega arith) joined

  -- the first cycle in which it is done is no later than another
  first_done : (o : Option ℕ) → at ≡ o → (m : ℕ) → RaisesDone run m → m ≤ limit → (n : ℕ) × (at ≡ Some n) × (n ≤ m)
  first_done None e m d le = absurd ((subst IsDoneSo e done) m le d)
  first_done (Some n) e m d le =
      ⊎_elim {C = (n : ℕ) × (at ≡ Some n) × (n ≤ m)}
      (λ (low : m < n). absurd ((subst IsDoneSo e done).2 m low d))
      (λ (up : n ≤ m). (n, e, up))
      (cases_lt m n)

  in_time :
      (most waits : ℕ) → ((s : ℕ) → slice_index added s ≤ most) → ((n : ℕ) → lost (all_answer program (answers_in env)) n ≤ waits) → (bound : ℕ) (c : ℕ → ℕ) → IsDone net bound c
      → (a : ℕ) × IsLeastToEnd net a × (1 + a * suc most + waits ≤ limit → (n : ℕ) × (at ≡ Some n) × (n ≤ 1 + a * suc most + waits))
  in_time most waits late few bound c ends =
      let t = g.in_time most late bound c ends in
      let limit : ℕ = 1 + t.0 * suc most + waits in
      let some = few limit in
      let d = t.2 limit (omega arith) in
      let lost_by = few d.0 in
      let within : d.0 ≤ 1 + t.0 * suc most + lost (all_answer program (answers_in env)) d.0 = d.2 in
      let soon : d.0 ≤ 1 + t.0 * suc most + waits = omega arith in (
        t.0,
        t.1,
        λ le.
            let f = first_done at refl d.0 d.1 (le_trans soon le) in
            (f.0, f.1, le_trans f.2 soon),
      )

-- data that give a circuit an environment give its program the values in it
gives_values : (program : Program) (added : List ℕ) (design : DesignTree) (circuit : IsCircuitOf program added design) (bytes : List ℕ) (env : Environment) → GivesEnvironment design bytes env → GivesAround program bytes env
gives_values program added design circuit bytes env g =
    let same : g.is_shape.top ≡ circuit.top = same_Some g.is_shape.top circuit.top (sym g.is_shape.is_top ∙ circuit.is_top) in
    record {
      values = record {
        shape = g.shape;
        is_shape = record {
          scalars = g.is_shape.scalars ∙ ap (λ (m : ModuleTree). (shape_of m).scalars) same ∙ circuit.scalars;
          memories = g.is_shape.memories ∙ ap (λ (m : ModuleTree). (shape_of m).memories) same ∙ circuit.memories;
        };
        file = g.file;
        is_json = g.is_json;
        faultless = g.faultless;
        scalars = g.scalars;
        memories = g.memories;
      };
      ready = g.ready;
    }

-- the design of a circuit's text is the circuit
pub design_is : (program : Program) (added told : List ℕ) (c : IsCircuitText program added told) (design : DesignTree) → HasTree told design.modules → IsDesign design.modules design.top → design ≡ c.design
design_is program added told c design tree legal =
    let ms = c.design.modules in
    let printed = spelling_has_tree ms c.circuit.legal.form (numbers_written ms c.circuit.legal.sound.widths) (design_has_modules ms c.design.top c.circuit.legal) in
    one_design c.design design c.circuit.legal legal (one_tree (spelling ms) design.modules ms (subst (λ (t : List ℕ). HasTree t design.modules) c.told tree) printed)

module _ (program : Program) (w : IsWellFormed program) (added told bytes : List ℕ) (limit : ℕ) (at : Option ℕ) (report : List ℕ) (h : IsCircuitText program added told) where
  of_design : (env : Environment) → GivesEnvironment h.design bytes env → (is : IsSimulated h.design env limit at report) → is.top ≡ h.circuit.top → ShowsProgram program added bytes limit at report
  of_design env gives is same =
      let design = h.design in
      let circuit = h.circuit in
      let fits = gives.fits circuit.top circuit.is_top in
      let runs : RunsIn design.modules circuit.top env is.nets = subst (λ (m : ModuleTree). RunsIn design.modules m env is.nets) same is.run.runs_in in
      let run : ℕ → Cycle = λ n. is.nets n [] in
      record {
        env = env;
        gives = gives_values program added design circuit bytes env gives;
        cells = held program w added design circuit env fits is.nets runs limit at is.done;
        lines = is.shown ∙ ap (λ (m : ModuleTree). report_to m env run (last_cycle limit at) (last_of limit at)) same ∙ report_is program w added design circuit env fits is.nets runs limit at is.done;
        holds = holds program w added design circuit env fits is.nets runs limit at is.done;
        ended = ended program w added design circuit env fits is.nets runs limit at is.done;
        whole = whole program w added design circuit env fits is.nets runs limit at is.done;
        as_run = as_run program w added design circuit env fits is.nets runs limit at is.done;
        leaves = leaves program w added design circuit env fits is.nets runs limit at is.done;
        in_time = in_time program w added design circuit env fits is.nets runs limit at is.done;
      }

  shows : HasSimulated Report told bytes limit at report → ShowsProgram program added bytes limit at report
  shows s =
      let design : DesignTree = h.design in
      let same : s.design ≡ design = design_is program added told h s.design s.means.spelled s.means.legal in
      let gives : GivesEnvironment design bytes s.env = subst (λ (d : DesignTree). GivesEnvironment d bytes s.env) same s.gives in
      let is : IsSimulated design s.env limit at report = subst (λ (d : DesignTree). IsSimulated d s.env limit at report) same s.is in
      of_design s.env gives is (same_Some is.top h.circuit.top (sym is.is_top ∙ h.circuit.is_top))

pub circuit_texts_show_their_program : CircuitTextsShowTheirProgram
circuit_texts_show_their_program program w added told bytes limit at report h s = shows program w added told bytes limit at report h s

-- the program of a source is well formed
pub well : (source top : List ℕ) (program : Program) → IsProgramOf source top program → IsWellFormed program
well source top program m = legal_program_well (file_of m.means.file) top program m.means.legal m.means.means

pub circuits_show_their_program : CircuitsShowTheirProgram
circuits_show_their_program source top told bytes limit at report h s = shows h.program (well source top h.program h.means) [] told bytes limit at report h.is s

pub planned_circuits_show_their_program : PlannedCircuitsShowTheirProgram
planned_circuits_show_their_program source top device told bytes mode balanced limit at report h s =
    shows h.program (well source top h.program h.asked.means) h.is.added told bytes limit at report h.is.is s

-- ---- two circuits of one program

-- a Kahn stream is one list
one_stream : (net : Network) (s : ℕ) (c d : List Token) → IsKahnStream net s c → IsKahnStream net s d → c ≡ d
one_stream net s c d h k =
    let here = prefix_trans c (stream net h.0.0 s) d h.0.1 (k.1 h.0.0) in
    let back = prefix_trans d (stream net k.0.0 s) c k.0.1 (h.1 k.0.0) in
    prefix_whole c d here (prefix_length d c back)

abbrev network_by : Program → Values → Network
network_by program v = network_of program v.scalars v.memories

module _ (program : Program) (added more bytes : List ℕ) (limit most m n : ℕ) (report other : List ℕ) (a : ShowsProgram program added bytes limit (Some m) report) (b : ShowsProgram program more bytes most (Some n) other) where
  same_values : values_in a.env ≡ values_in b.env
  same_values = one_input program program refl bytes (values_in a.env) (values_in b.env) a.gives.values b.gives.values

  joined_there : (i : ℕ) → IsJoined (network program a.env) i → IsJoined (network program b.env) i
  joined_there i joined = subst (λ (v : Values). IsJoined (network_by program v) i) same_values joined

  same_tokens : (s : ℕ) (q : Stream) → slice_get program.streams.items s ≡ Some q → IsJoined (network program a.env) q.producer → written_to program added a.env m s ≡ written_to program more b.env n s
  same_tokens s q got joined =
      let there : IsKahnStream (network program a.env) s (written_to program more b.env n s) = subst (λ (v : Values). IsKahnStream (network_by program v) s (written_to program more b.env n s)) (sym same_values) (b.whole n s q refl got (joined_there q.producer joined)) in
      one_stream (network program a.env) s (written_to program added a.env m s) (written_to program more b.env n s) (a.whole m s q refl got joined) there

  -- the count at which the one is done
  abbrev end : ℕ → ℕ
  end = counts program added a.env (answers_in a.env) m

  same_cells : (x : ℕ) (o : Memory) → slice_get program.memories.items x ≡ Some o → IsJoined (network program a.env) o.owner → a.cells x ≡ b.cells x
  same_cells x o got joined =
      let there : HaveJoinedEnded (network program b.env) end = subst (λ (v : Values). HaveJoinedEnded (network_by program v) end) same_values (a.ended m refl) in
      a.leaves end (a.ended m refl) m x o refl got joined
      ∙ ap (λ (v : Values). cells_of program v.scalars v.memories end x) same_values
      ∙ sym (b.leaves end there n x o refl got (joined_there o.owner joined))

pub latency_changes_no_report : LatencyChangesNoReport
latency_changes_no_report program added more bytes limit most m n report other a b =
    (same_tokens program added more bytes limit most m n report other a b, same_cells program added more bytes limit most m n report other a b)
