-- What the rules on names and widths say of the blocks of a design.
use Rattle.std.proofs.Common.{◌≡◌, Bool, true, false, ◌&&◌, List, [], ◌∷◌, Option, length, inl, inr, refl, sym, ap, ◌∙◌}
use Rattle.std.specs.Prelude.{◌==◌, nat_le, not, IsSome}
use Rattle.std.specs.List.{list_all, flat_map, AllByRecursion}
use Rattle.std.proofs.lemmas.Bool.{and_parts, or_parts as both_false}
use Rattle.vlog_tree.specs.declared.tree.Step.{Step}
use Rattle.vlog_tree.specs.declared.tree.Step.TheVariants.{If, Else, End, NonblockingAssign, MemoryAssign}
use Rattle.vlog_tree.specs.declared.tree.Item.{Item}
use Rattle.vlog_tree.specs.declared.tree.Item.TheVariants.{Wire, Reg, Memory, Assign, Always, Instance}
use Rattle.vlog_tree.specs.declared.table.NetKind.{NetKind}
use Rattle.vlog_tree.specs.declared.table.NetKind.TheVariants as kind
use Rattle.vlog_tree.specs.Form.{ModuleTree, IsModule, nested, is_step, is_item, is_port}
use Rattle.vlog_tree.specs.Names.{is_name}
use Rattle.tapa_base.specs.Lists.{Has}
use Rattle.vlog_tree.specs.Refused.{IsSound}
use Rattle.vlog_tree.specs.Table.{Name, NameUse, is_clk, declared, net_kind_of, net_kind_is_read, net_kind_is_register, net_kind_is_memory, bits_of, is_doubled_name}
use Rattle.vlog_tree.specs.V2.{read_use, register_use, memory_use, inner_use, step_uses, item_uses}
use Rattle.vlog_tree.specs.V3.{v3_uses, module_widths, item_widths, port_widths, step_widths, net_fits, memory_fits, has_bits, atom_bits, atom_fits}
use Rattle.tapa_base.proofs.Lists.{has_flat, has_right}
use Rattle.vlog_run_laws.proofs.runs.Sound.{right, item_right, atom_read}
use Rattle.vlog_run_laws.proofs.runs.Sizes.{register_item}
use Rattle.sim_tape.specs.declared.gates.Pair.{Pair}
use Rattle.sim_gates.specs.Nets.{pair_in}
use Rattle.sim_gates.specs.Parts.{is_condition, has_conditions}
use Rattle.sim_gates.specs.Ready.{IsStepReady, IsReady}
use Rattle.tapa_base.proofs.Tests.{not_no}
use Rattle.tapa_base.proofs.Got.{all_from}
use Rattle.vlog_run_laws.proofs.loops.Plain.{list_has as each_of}

pub register_is : (s : NetKind) → net_kind_is_register s ≡ true → s ≡ kind.Register
register_is kind.Unknown h = cc
register_is kind.Input h = cc
register_is kind.Output h = cc
register_is kind.WireNet h = cc
register_is kind.Register h = refl
register_is kind.MemoryArray h = cc
register_is kind.ChildInstance h = cc

all_of : {A : Type 0} (p : A → Bool) (xs : List A) → ((x : A) → Has xs x → p x ≡ true) → list_all p xs ≡ true
all_of p [] f = refl
all_of p (y ∷ ys) f = ap (λ b. b && list_all p ys) (f y (inl refl)) ∙ all_of p ys (λ x h. f x (inr h))

-- the steps of a block are nested
block_nested : (m : ModuleTree) → IsModule m → (b : List Step) → Has m.items (Always b) → nested [] b ≡ true
unfolding IsModule
block_nested m form b has =
    let items = (and_parts (is_name m.name && nat_le 1 (length m.ports) && list_all is_port m.ports) (list_all is_item m.items) form).1 in
    (and_parts (nested [] b) (list_all is_step b) (each_of is_item m.items (Always b) items has)).0

-- names that a rule takes
abbrev AreRight : List NameUse → Type 0
AreRight us = (u : NameUse) → Has us u → u.1 ≡ false

module _ (ms : List ModuleTree) (sound : IsSound ms) (m : ModuleTree) (in_ms : Has ms m) where
  step_names : (b : List Step) → Has m.items (Always b) → (st : Step) → Has b st → AreRight (step_uses (declared m) st)
  unfolding item_uses
  step_names b has st h u k = item_right ms sound.names m in_ms (Always b) has u (inr (has_flat (step_uses (declared m)) b st u h k))

  step_fits : (b : List Step) → Has m.items (Always b) → (st : Step) → Has b st → AreRight (step_widths (declared m) st)
  unfolding module_widths item_widths
  step_fits b has st h u k =
      right (v3_uses ms) sound.widths u
      (has_flat (module_widths ms) ms m u in_ms
      (has_right (flat_map port_widths m.ports) (flat_map (item_widths ms (declared m)) m.items) u
      (has_flat (item_widths ms (declared m)) m.items (Always b) u has (has_flat (step_widths (declared m)) b st u h k))))

  -- the condition of a part is of one bit
  is_one_bit : (st : Step) → AreRight (step_widths (declared m) st) → is_condition (declared m) st ≡ true
  is_one_bit (If c) h = not_no _ (h (c, not (bits_of (declared m) c == 1)) (inl refl))
  is_one_bit Else h = refl
  is_one_bit End h = refl
  is_one_bit (NonblockingAssign x a) h = refl
  is_one_bit (MemoryAssign y x a) h = refl

  item_conditions : (it : Item) → Has m.items it → has_conditions (declared m) it ≡ true
  item_conditions (Always b) has = all_of (is_condition (declared m)) b (λ st h. is_one_bit st (step_fits b has st h))
  item_conditions (Wire w x) has = refl
  item_conditions (Reg w x) has = refl
  item_conditions (Memory w x n) has = refl
  item_conditions (Assign x e) has = refl
  item_conditions (Instance k i connections) has = refl

  pub conditions : list_all (has_conditions (declared m)) m.items ≡ true
  conditions = all_of (has_conditions (declared m)) m.items item_conditions

  abbrev IsRead : Name → Type 0
  IsRead z = (net_kind_is_read (net_kind_of (declared m) z) ≡ true) × (is_clk z ≡ false)

  use_read : (z : Name) → (read_use (declared m) z).1 ≡ false → IsRead z
  use_read z h = let p = both_false (not (net_kind_is_read (net_kind_of (declared m) z))) (is_clk z) h in (not_no _ p.0, p.1)

  -- a register is no clock
  register_read : (x : Name) → net_kind_of (declared m) x ≡ kind.Register → IsRead x
  unfolding item_uses
  register_read x h =
      let r = register_item m x h in
      (ap net_kind_is_read h, (both_false (is_doubled_name (declared m) x) (is_clk x) (item_right ms sound.names m in_ms (Reg r.0 x) r.1 (inner_use (declared m) x) (inl refl))).1)

  module _ (pairs memories : List (Option Pair)) (net_there : (z : Name) → IsRead z → IsSome (pair_in (declared m) pairs z)) (memory_there : (y : Name) → net_kind_is_memory (net_kind_of (declared m) y) ≡ true → IsSome (pair_in (declared m) memories y)) where
    step_ready : (st : Step) → AreRight (step_uses (declared m) st) → AreRight (step_widths (declared m) st) → IsStepReady (declared m) pairs memories st
    step_ready (If c) names widths = net_there c (use_read c (names (read_use (declared m) c) (inl refl)))
    step_ready Else names widths = tt
    step_ready End names widths = tt
    step_ready (NonblockingAssign x a) names widths = (
      net_there x (register_read x (register_is _ (not_no _ (names (register_use (declared m) x) (inl refl))))),
      (and_parts (atom_fits (declared m) a) (atom_bits (declared m) a == bits_of (declared m) x)
          (and_parts (net_fits (declared m) x) (has_bits (declared m) (bits_of (declared m) x) a)
          (not_no _ (widths (x, not (net_fits (declared m) x && has_bits (declared m) (bits_of (declared m) x) a)) (inl refl)))).1).0,
      (λ z h. net_there z (use_read z (names (read_use (declared m) z) (inr (atom_read (declared m) a z h))))),
    )
    step_ready (MemoryAssign y x a) names widths = (
      memory_there y (not_no _ (names (memory_use (declared m) y) (inl refl))),
      net_there x (use_read x (names (read_use (declared m) x) (inr (inl refl)))),
      (and_parts (atom_fits (declared m) a) (atom_bits (declared m) a == bits_of (declared m) y)
          (and_parts (memory_fits (declared m) y && net_fits (declared m) x) (has_bits (declared m) (bits_of (declared m) y) a)
          (not_no _ (widths (y, not (memory_fits (declared m) y && net_fits (declared m) x && has_bits (declared m) (bits_of (declared m) y) a)) (inl refl)))).1).0,
      (λ z h. net_there z (use_read z (names (read_use (declared m) z) (inr (inr (atom_read (declared m) a z h)))))),
    )

    item_ready : IsModule m → (it : Item) → Has m.items it → IsReady (declared m) pairs memories it
    item_ready form (Always b) has = (block_nested m form b has, all_from (IsStepReady (declared m) pairs memories) b (λ st h. step_ready st (step_names b has st h) (step_fits b has st h)))
    item_ready form (Wire w x) has = tt
    item_ready form (Reg w x) has = tt
    item_ready form (Memory w x n) has = tt
    item_ready form (Assign x e) has = tt
    item_ready form (Instance k i connections) has = tt

    -- the blocks of a module find all that they read and assign
    pub all_ready : IsModule m → AllByRecursion (IsReady (declared m) pairs memories) m.items
    all_ready form = all_from (IsReady (declared m) pairs memories) m.items (item_ready form)
