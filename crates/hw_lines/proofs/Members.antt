-- Where the elements of a task's module stand.
use Rattle.std.proofs.Common.{ℕ, ◌<◌, List, ◌++◌, length, inl, refl}
use Rattle.vlog_tree.specs.declared.tree.BinaryOp.TheVariants.{Equals}
use Rattle.vlog_tree.specs.declared.tree.Value.TheVariants.{Binary}
use Rattle.tapa_base.specs.Lists.{Has}
use Rattle.tapa_base.proofs.Lists.{has_left, has_right}
use Rattle.hw_build.specs.Elements.{Element, Wire}
use Rattle.hw_build.specs.Scope.{each}
use Rattle.hw_build.specs.Fits.{IsAmong}
use Rattle.hw_build.proofs.Parts.{has_each}
use Rattle.hw_lines.specs.Nets.{State, At, name, Reads}
use Rattle.hw_lines.specs.Shape.{Shape, state_count, form_at}
use Rattle.hw_lines.specs.States.{net, number_of, state_wires, decoded, index_wires, value_wires, more_wires, go_of, next_wires, awaited, needs_go}
use Rattle.hw_lines.specs.Texts.{inputs, held, offered, asked, answered, unless_none, reads_of, read_numbers, choices, outputs, blocks, task_elements}
use Rattle.hw_lines.specs.Effects.{entries}

pub among_left : (xs ys zs : List Element) → IsAmong (xs ++ ys) zs → IsAmong xs zs
among_left xs ys zs h e k = h e (has_left xs ys e k)

pub among_right : (xs ys zs : List Element) → IsAmong (xs ++ ys) zs → IsAmong ys zs
among_right xs ys zs h e k = h e (has_right xs ys e k)

pub among_each : (f : ℕ → List Element) (n k : ℕ) (zs : List Element) → k < n → IsAmong (each f n) zs → IsAmong (f k) zs
among_each f n k zs l h e i = h e (has_each f n k e l i)

module _ (S : Shape) where
  abbrev pub all : List Element
  all = task_elements S

  abbrev decodes : List Element
  decodes = each (decoded S) (state_count S)

  abbrev offers_all : List Element
  offers_all = each (offered S) (length S.streams)

  abbrev reads_all : List Element
  reads_all = each (reads_of S) (read_numbers S)

  abbrev states_all : List Element
  states_all = each (state_wires S) (state_count S)

  abbrev front_3 : List Element
  front_3 = inputs S ++ held S ++ decodes

  abbrev front_5 : List Element
  front_5 = front_3 ++ offers_all ++ reads_all

  abbrev front_7 : List Element
  front_7 = front_5 ++ states_all ++ choices S

  with_blocks : IsAmong (front_7 ++ outputs S ++ blocks S) all
  with_blocks e h = h

  pub blocks_in : IsAmong (blocks S) all
  blocks_in = among_right (front_7 ++ outputs S) (blocks S) all with_blocks

  with_outputs : IsAmong (front_7 ++ outputs S) all
  with_outputs = among_left (front_7 ++ outputs S) (blocks S) all with_blocks

  pub outputs_in : IsAmong (outputs S) all
  outputs_in = among_right front_7 (outputs S) all with_outputs

  seven_in : IsAmong front_7 all
  seven_in = among_left front_7 (outputs S) all with_outputs

  pub choices_in : IsAmong (choices S) all
  choices_in = among_right (front_5 ++ states_all) (choices S) all seven_in

  six_in : IsAmong (front_5 ++ states_all) all
  six_in = among_left (front_5 ++ states_all) (choices S) all seven_in

  states_in : IsAmong states_all all
  states_in = among_right front_5 states_all all six_in

  five_in : IsAmong front_5 all
  five_in = among_left front_5 states_all all six_in

  reads_in : IsAmong reads_all all
  reads_in = among_right (front_3 ++ offers_all) reads_all all five_in

  four_in : IsAmong (front_3 ++ offers_all) all
  four_in = among_left (front_3 ++ offers_all) reads_all all five_in

  offers_in : IsAmong offers_all all
  offers_in = among_right front_3 offers_all all four_in

  three_in : IsAmong front_3 all
  three_in = among_left front_3 offers_all all four_in

  decodes_in : IsAmong decodes all
  decodes_in = among_right (inputs S ++ held S) decodes all three_in

  two_in : IsAmong (inputs S ++ held S) all
  two_in = among_left (inputs S ++ held S) decodes all three_in

  pub held_in : IsAmong (held S) all
  held_in = among_right (inputs S) (held S) all two_in

  pub inputs_in : IsAmong (inputs S) all
  inputs_in = among_left (inputs S) (held S) all two_in

  -- by state, stream and number
  pub decode_in : (k : ℕ) → k < state_count S → Has all (Wire 1 (name (At k)) (Binary (net State) Equals (number_of S k)))
  decode_in k h = among_each (decoded S) (state_count S) k all h decodes_in (Wire 1 (name (At k)) (Binary (net State) Equals (number_of S k))) (inl refl)

  pub state_in : (k : ℕ) → k < state_count S → IsAmong (state_wires S k) all
  state_in k h = among_each (state_wires S) (state_count S) k all h states_in

  pub offer_in : (s : ℕ) → s < length S.streams → IsAmong (offered S s) all
  offer_in s h = among_each (offered S) (length S.streams) s all h offers_in

  pub number_in : (p : ℕ) → p < read_numbers S → IsAmong (reads_of S p) all
  number_in p h = among_each (reads_of S) (read_numbers S) p all h reads_in

  pub asked_in : (p k : ℕ) → p < read_numbers S → k < state_count S → IsAmong (asked S p k) all
  asked_in p k h l =
      among_each (asked S p) (state_count S) k all l
      (among_left (each (asked S p) (state_count S)) (each (λ a. unless_none (entries S (Reads p a)) (answered S p a)) (length S.arrays)) all (number_in p h))

  pub answered_in : (p a : ℕ) → p < read_numbers S → a < length S.arrays → IsAmong (unless_none (entries S (Reads p a)) (answered S p a)) all
  answered_in p a h l =
      among_each (λ b. unless_none (entries S (Reads p b)) (answered S p b)) (length S.arrays) a all l
      (among_right (each (asked S p) (state_count S)) (each (λ b. unless_none (entries S (Reads p b)) (answered S p b)) (length S.arrays)) all (number_in p h))

  -- the parts of a state
  abbrev state_front : ℕ → List Element
  state_front k = (index_wires S k).elements ++ (value_wires S k).elements

  abbrev state_more : ℕ → List Element
  state_more k = state_front k ++ more_wires S k (form_at S k)

  abbrev state_go : ℕ → List Element
  state_go k = go_of k (awaited (form_at S k)) (needs_go (form_at S k))

  pub next_in : (k : ℕ) → k < state_count S → IsAmong (next_wires S k (form_at S k)) all
  next_in k h = among_right (state_more k ++ state_go k) (next_wires S k (form_at S k)) all (state_in k h)

  pub go_in : (k : ℕ) → k < state_count S → IsAmong (go_of k (awaited (form_at S k)) (needs_go (form_at S k))) all
  go_in k h = among_right (state_more k) (state_go k) all (among_left (state_more k ++ state_go k) (next_wires S k (form_at S k)) all (state_in k h))

  more_front_in : (k : ℕ) → k < state_count S → IsAmong (state_more k) all
  more_front_in k h = among_left (state_more k) (state_go k) all (among_left (state_more k ++ state_go k) (next_wires S k (form_at S k)) all (state_in k h))

  pub more_in : (k : ℕ) → k < state_count S → IsAmong (more_wires S k (form_at S k)) all
  more_in k h = among_right (state_front k) (more_wires S k (form_at S k)) all (more_front_in k h)

  pub value_in : (k : ℕ) → k < state_count S → IsAmong (value_wires S k).elements all
  value_in k h = among_right (index_wires S k).elements (value_wires S k).elements all (among_left (state_front k) (more_wires S k (form_at S k)) all (more_front_in k h))

  pub index_in : (k : ℕ) → k < state_count S → IsAmong (index_wires S k).elements all
  index_in k h = among_left (index_wires S k).elements (value_wires S k).elements all (among_left (state_front k) (more_wires S k (form_at S k)) all (more_front_in k h))
