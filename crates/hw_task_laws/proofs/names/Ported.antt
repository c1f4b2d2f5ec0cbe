-- The ports of a task's module.
use Rattle.std.proofs.Common.{◌≡◌, ℕ, zero, suc, ◌+◌, Bool, true, false, cond, List, [], ◌∷◌, ◌++◌, length, refl, ap, ◌∙◌}
use Rattle.std.specs.List.{flat_map}
use Rattle.std.proofs.lemmas.Grind.{flat_map-append}
use Rattle.std.proofs.lemmas.List.{append-nil}
use Rattle.tapa_base.specs.Kinds.{bits_of}
use Rattle.vlog_tree.specs.declared.tree.PortDecl.{PortDecl}
use Rattle.vlog_tree.specs.declared.tree.Value.TheVariants.{Plain}
use Rattle.hw_build.specs.Elements.{Element, Output, element_ports, empty}
use Rattle.hw_build.proofs.Tables.{ports_of_all}
use Rattle.hw_build.specs.Scope.{each}
use Rattle.hw_lines.specs.declared.nets.Choice.TheVariants.{Puts, Token, Takes, Address, StoreEnable, Data, Stores}
use Rattle.hw_lines.specs.declared.nets.Net.TheVariants.{Ended, Done}
use Rattle.hw_lines.specs.Nets.{name}
use Rattle.hw_lines.specs.Shape.{Shape, stream_kind, memory_kind, state_count}
use Rattle.hw_lines.specs.States.{net, state_wires, decoded}
use Rattle.hw_lines.specs.Texts.{by_end, scalar_port, writes, stream_inputs, memory_inputs, inputs, held, offered, reads_of, read_numbers, any, pick, choices, written, taken, stream_outputs, memory_outputs, outputs, variable_block, array_block, blocks, task_elements}
use Rattle.hw_lines.specs.Effects.{entries}
use Rattle.hw_task_laws.specs.names.Ports.{outward, scalar_input, stream_in, stream_out, memory_in, memory_out, task_inputs, task_outputs, ModulesHavePorts}
use Rattle.hw_task_laws.proofs.names.Named.{flat_each}
use Rattle.hw_task_laws.proofs.names.Empty.{GiveNone, both_none, each_none, unless_gives, any_none, pick_none, decodes_none, offers_none, reads_none, states_none, choices_none, held_none}

same_each : {A : Type 0} (f h : ℕ → List A) (n : ℕ) → ((k : ℕ) → f k ≡ h k) → each f n ≡ each h n
same_each f h zero e = refl
same_each f h (suc n) e = ap (λ l. l ++ f n) (same_each f h n e) ∙ ap (λ l. each h n ++ l) (e n)

-- the ports of parts
ports_each : (f : ℕ → List Element) (h : ℕ → List PortDecl) (n : ℕ) → ((k : ℕ) → flat_map element_ports (f k) ≡ h k) → flat_map element_ports (each f n) ≡ each h n
ports_each f h n e = flat_each element_ports f n ∙ same_each (λ k. flat_map element_ports (f k)) h n e

ports_both : (xs ys : List Element) (us vs : List PortDecl) → flat_map element_ports xs ≡ us → flat_map element_ports ys ≡ vs → flat_map element_ports (xs ++ ys) ≡ us ++ vs
ports_both xs ys us vs e f = flat_map-append element_ports xs ys ∙ ap (λ l. l ++ flat_map element_ports ys) e ∙ ap (λ l. us ++ l) f

ports_more : (xs ys : List Element) (us : List PortDecl) → flat_map element_ports xs ≡ us → GiveNone element_ports ys → flat_map element_ports (xs ++ ys) ≡ us
ports_more xs ys us e f = ports_both xs ys us [] e f ∙ append-nil us

ports_by_end : (xs ys : List Element) (us vs : List PortDecl) (b : Bool) → flat_map element_ports xs ≡ us → flat_map element_ports ys ≡ vs → flat_map element_ports (by_end xs ys b) ≡ cond b us vs
ports_by_end xs ys us vs true e f = e
ports_by_end xs ys us vs false e f = f

module _ (S : Shape) where
  input_ports : flat_map element_ports (inputs S) ≡ task_inputs S
  input_ports =
      let scalars = each (scalar_port S) (length S.scalars) in
      let streams = each (stream_inputs S) (length S.streams) in
      let memories = each (memory_inputs S) (length S.memories) in
      ports_both (scalars ++ streams) memories _ _
      (ports_both scalars streams _ _ (ports_each (scalar_port S) (scalar_input S) (length S.scalars) (λ k. refl))
      (ports_each (stream_inputs S) (stream_in S) (length S.streams) (λ k. ports_by_end _ _ _ _ (writes S k) refl refl)))
      (ports_each (memory_inputs S) (memory_in S) (length S.memories) (λ k. refl))

  written_ports : (s : ℕ) (us : List PortDecl) (es : List Element) → flat_map element_ports es ≡ us → flat_map element_ports (any S (Puts s) ++ pick S (bits_of (stream_kind S s) + 1) (Token s) ++ es) ≡ us
  written_ports s us es e =
      let tree = any S (Puts s) ++ pick S (bits_of (stream_kind S s) + 1) (Token s) in
      ports_both tree es [] us
      (both_none element_ports (any S (Puts s)) (pick S (bits_of (stream_kind S s) + 1) (Token s)) (any_none element_ports (λ w x v. refl) S (Puts s)) (pick_none element_ports (λ w x v. refl) S (bits_of (stream_kind S s) + 1) (Token s))) e

  output_ports : flat_map element_ports (outputs S) ≡ task_outputs S
  output_ports =
      let streams = each (stream_outputs S) (length S.streams) in
      let memories = each (memory_outputs S) (length S.memories) in
      let done = Output 1 (name Done) (Plain (net Ended)) in
      ports_both (done ∷ streams) memories (outward 1 Done ∷ each (stream_out S) (length S.streams)) (each (memory_out S) (length S.memories))
      (ap (λ (l : List PortDecl). outward 1 Done ∷ l)
      (ports_each (stream_outputs S) (stream_out S) (length S.streams)
      (λ s.
      ports_by_end (written S s) (taken S s) _ _ (writes S s) (written_ports s _ _ refl)
      (ports_both (any S (Takes s)) _ [] _ (any_none element_ports (λ w x v. refl) S (Takes s)) refl))))
      (ports_each (memory_outputs S) (memory_out S) (length S.memories)
      (λ m.
      let asks = pick S 64 (Address m) in
      let saves = any S (StoreEnable m) in
      let data_of = pick S (bits_of (memory_kind S m)) (Data m) in
      ports_both (asks ++ saves ++ data_of) _ [] _
      (both_none element_ports (asks ++ saves) data_of (both_none element_ports asks saves (pick_none element_ports (λ w x v. refl) S 64 (Address m)) (any_none element_ports (λ w x v. refl) S (StoreEnable m)))
      (pick_none element_ports (λ w x v. refl) S (bits_of (memory_kind S m)) (Data m))) refl))

  block_ports : GiveNone element_ports (blocks S)
  block_ports =
      both_none element_ports (each (variable_block S) (length S.registers)) (each (array_block S) (length S.arrays)) (each_none element_ports (variable_block S) (length S.registers) (λ r. refl))
      (each_none element_ports (array_block S) (length S.arrays) (λ a. unless_gives element_ports (entries S (Stores a)) _ refl))

  pub ports_are_these : flat_map element_ports (task_elements S) ≡ task_inputs S ++ task_outputs S
  ports_are_these =
      let decodes = each (decoded S) (state_count S) in
      let offers = each (offered S) (length S.streams) in
      let reads = each (reads_of S) (read_numbers S) in
      let states = each (state_wires S) (state_count S) in
      let before = inputs S ++ held S ++ decodes ++ offers ++ reads ++ states ++ choices S in
      ports_more (before ++ outputs S) (blocks S) (task_inputs S ++ task_outputs S)
      (ports_both before (outputs S) (task_inputs S) (task_outputs S)
      (ports_more (inputs S ++ held S ++ decodes ++ offers ++ reads ++ states) (choices S) (task_inputs S)
      (ports_more (inputs S ++ held S ++ decodes ++ offers ++ reads) states (task_inputs S)
      (ports_more (inputs S ++ held S ++ decodes ++ offers) reads (task_inputs S)
      (ports_more (inputs S ++ held S ++ decodes) offers (task_inputs S)
      (ports_more (inputs S ++ held S) decodes (task_inputs S)
      (ports_more (inputs S) (held S) (task_inputs S) input_ports (held_none element_ports (λ w x v. refl) S (λ w x. refl) (λ w x n. refl)))
      (decodes_none element_ports (λ w x v. refl) S)) (offers_none element_ports (λ w x v. refl) S)) (reads_none element_ports (λ w x v. refl) S)) (states_none element_ports (λ w x v. refl) S))
      (choices_none element_ports (λ w x v. refl) S)) output_ports) block_ports

pub modules_have_ports : ModulesHavePorts
modules_have_ports S title = ports_of_all (task_elements S) (empty title) ∙ ap (λ (l : List PortDecl). (empty title).ports ++ l) (ports_are_these S)
