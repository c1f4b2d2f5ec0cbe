-- The modules with which a reader may end have the form of modules.
use Rattle.std.proofs.Common.{◌≡◌, ℕ, zero, suc, ◌≤◌, min, Bool, true, false, ◌&&◌, if◌then◌else◌, List, [], ◌∷◌, ◌++◌, map, codes, refl, sym, ap, subst, ◌∙◌, arith}
use Rattle.std.specs.Prelude.{◌^◌, nat_le, nat_lt}
use Rattle.std.specs.List.{list_all, AllByRecursion}
use Rattle.std.proofs.lemmas.Bool.{le-leb}
use Rattle.std.proofs.lemmas.List.{length-map}
use Rattle.vlog_tree.proofs.Clamped.{and_same}
use Rattle.vlog_tree.specs.declared.tree.Atom.{Atom}
use Rattle.vlog_tree.specs.declared.tree.Atom.TheVariants.{Net, Part, Literal}
use Rattle.vlog_tree.specs.declared.tree.Value.{Value}
use Rattle.vlog_tree.specs.declared.tree.Value.TheVariants.{Plain, Invert, Binary, Choose, Concat, Repeat, Cell}
use Rattle.vlog_tree.specs.declared.tree.Step.{Step}
use Rattle.vlog_tree.specs.declared.tree.Step.TheVariants.{If, Else, End, NonblockingAssign, MemoryAssign}
use Rattle.vlog_tree.specs.declared.tree.Item.{Item as ItemTree}
use Rattle.vlog_tree.specs.declared.tree.Item.TheVariants.{Wire, Reg, Memory, Assign, Always, Instance}
use Rattle.vlog_tree.specs.declared.tree.PortDecl.{PortDecl}
use Rattle.vlog_tree.specs.Form.{ModuleTree, IsModule, is_atom, is_value, is_step, is_item, is_port, is_module, nested}
use Rattle.vlog_tree.specs.Names.{is_name}
use Rattle.vlog_tree.specs.Spelling.{Word}
use Rattle.vlog_tree.specs.Clamped.{clamped_width, clamped_atom, clamped_value, clamped_step, clamped_item, clamped_port, clamped}
use Rattle.tapa_base.specs.Spans.{Each}
use Rattle.vlog_lex.specs.Grammar.{SpellsModule, SpellsDesign}
use Rattle.vlog_lex.proofs.Formed.{module_formed}
use Rattle.vlog_lex.specs.declared.coming.Coming.{Coming}
use Rattle.vlog_lex.specs.declared.coming.Coming.TheVariants.{Nothing}
use Rattle.vlog_lex.specs.Coming.{is_nothing}
use Rattle.vlog_read.specs.declared.state.ModuleDraft.{ModuleDraft}
use Rattle.vlog_read.specs.declared.state.ItemState.TheVariants.{ItemStart}
use Rattle.vlog_read.specs.declared.state.State.TheVariants.{Item}
use Rattle.vlog_read.specs.declared.state.Reader.{Reader}
use Rattle.vlog_read.specs.ValueReading.{behind, module_of, finished}
use Rattle.vlog_read.specs.Finishing.{IsFormed}
use Rattle.vlog_read.proofs.Alive.{items_end}
use Rattle.vlog_read.proofs.Behind.{IsBehind, design_of}

-- ---- cutting numbers leaves the form

one_same : (w most : ℕ) → 1 ≤ most → nat_le 1 (min w most) ≡ nat_le 1 w
one_same zero most h = let e : min 0 most ≡ 0 = omega arith in ap (nat_le 1) e
one_same (suc w) most h = le-leb 1 (min (suc w) most) (omega arith) ∙ sym (le-leb 1 (suc w) (omega arith))

all_same : {A : Type 0} (f : A → A) (P : A → Bool) → ((x : A) → P (f x) ≡ P x) → (xs : List A) → list_all P (map f xs) ≡ list_all P xs
all_same f P h [] = refl
all_same f P h (x ∷ xs) = and_same (h x) (all_same f P h xs)

literal_formed : (b : Bool) (x y : Atom) → is_atom x ≡ true → is_atom y ≡ true → is_atom (if b then x else y) ≡ true
literal_formed true x y h k = h
literal_formed false x y h k = k

atom_same : (a : Atom) → is_atom (clamped_atom a) ≡ is_atom a
atom_same (Net x) = refl
atom_same (Part x high low) = refl
atom_same (Literal w n) = literal_formed (nat_lt n (2 ^ 128)) (Literal (clamped_width w) n) (Literal 0 0) refl refl

value_same : (v : Value) → is_value (clamped_value v) ≡ is_value v
value_same (Plain a) = atom_same a
value_same (Invert a) = atom_same a
value_same (Binary a op b) = and_same (atom_same a) (atom_same b)
value_same (Choose c a b) = and_same (and_same (atom_same c) (atom_same a)) (atom_same b)
value_same (Concat atoms) = and_same (ap (nat_le 2) (length-map atoms clamped_atom)) (all_same clamped_atom is_atom atom_same atoms)
value_same (Repeat n a) = atom_same a
value_same (Cell m x) = refl

step_same : (s : Step) → is_step (clamped_step s) ≡ is_step s
step_same (If c) = refl
step_same Else = refl
step_same End = refl
step_same (NonblockingAssign x a) = ap (λ b. is_name x && b) (atom_same a)
step_same (MemoryAssign m x a) = ap (λ b. is_name m && is_name x && b) (atom_same a)

nested_same : (parts : List Bool) (xs : List Step) → nested parts (map clamped_step xs) ≡ nested parts xs
nested_same parts (If c ∷ xs) = nested_same (false ∷ parts) xs
nested_same parts (NonblockingAssign x a ∷ xs) = nested_same parts xs
nested_same parts (MemoryAssign m x a ∷ xs) = nested_same parts xs
nested_same [] (Else ∷ xs) = refl
nested_same (false ∷ parts) (Else ∷ xs) = nested_same (true ∷ parts) xs
nested_same (true ∷ parts) (Else ∷ xs) = refl
nested_same [] (End ∷ xs) = refl
nested_same (b ∷ parts) (End ∷ xs) = nested_same parts xs
nested_same [] [] = refl
nested_same (b ∷ parts) [] = refl

item_same : (x : ItemTree) → is_item (clamped_item x) ≡ is_item x
item_same (Wire w x) = ap (λ b. b && is_name x) (one_same w 129 (omega arith))
item_same (Reg w x) = ap (λ b. b && is_name x) (one_same w 129 (omega arith))
item_same (Memory w x n) = and_same (ap (λ b. b && is_name x) (one_same w 129 (omega arith))) (one_same n 1048577 (omega arith))
item_same (Assign x e) = ap (λ b. is_name x && b) (value_same e)
item_same (Always b) = and_same (nested_same [] b) (all_same clamped_step is_step step_same b)
item_same (Instance m i connections) = refl

port_same : (p : PortDecl) → is_port (clamped_port p) ≡ is_port p
port_same p = ap (λ b. b && is_name p.name) (one_same p.width 129 (omega arith))

module_same : (m : ModuleTree) → is_module (clamped m) ≡ is_module m
module_same m =
    and_same (and_same (ap (λ n. is_name m.name && nat_le 1 n) (length-map m.ports clamped_port)) (all_same clamped_port is_port port_same m.ports)) (all_same clamped_item is_item item_same m.items)

clamped_formed : (m : ModuleTree) → IsModule m → IsModule (clamped m)
unfolding IsModule
clamped_formed m h = module_same m ∙ h

each_formed : (ms : List ModuleTree) (i j : List Word) → Each SpellsModule ms i j → AllByRecursion IsModule (map clamped ms)
each_formed [] i j e = tt
each_formed (m ∷ ms) i j (t, first, more) = (clamped_formed m (module_formed m i t first), each_formed ms t j more)

design_formed : (ms : List ModuleTree) (words : List Word) → SpellsDesign ms words → AllByRecursion IsModule (map clamped ms)
design_formed [] words none = absurd none
design_formed (m ∷ ms) words all = each_formed (m ∷ ms) words [] all

-- ---- readers

pub behind_formed : (words : List Word) (r : Reader) → IsBehind words r → IsFormed r
behind_formed words r b = record { all = λ cs i h. let d = design_of (words ++ i) cs (b.from cs i h) in subst (AllByRecursion IsModule) (sym d.2) (design_formed d.0 (words ++ i) d.1) }

nothing_is : (c : Coming) → is_nothing c ≡ true → c ≡ Nothing
nothing_is Nothing e = refl
nothing_is _ e = absurd cc

-- where no word must come, its state alone counts
pub nothing_formed : (r : Reader) → is_nothing r.coming ≡ true → IsFormed r → IsFormed (behind Nothing r.state)
nothing_formed r e h = subst (λ (c : Coming). IsFormed (behind c r.state)) (nothing_is r.coming e) h

last_formed : (ms : List ModuleTree) (m : ModuleTree) → AllByRecursion IsModule (ms ++ m ∷ []) → IsModule m
last_formed [] m h = h.0
last_formed (k ∷ ms) m h = last_formed ms m h.1

-- where an item may come, what is read of the module has the form of one
pub item_formed : (d : ModuleDraft) → IsFormed (behind Nothing (Item (ItemStart d))) → IsModule (module_of d)
item_formed d h = last_formed d.modules (module_of d) (h.all (finished d) (codes "endmodule" ∷ []) (items_end d))
