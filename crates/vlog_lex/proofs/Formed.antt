-- What has words is formed as its definition asks: the tree of a text is a list of modules.
use Rattle.std.proofs.Common.{◌≡◌, ℕ, ◌≤◌, inl, inr, Bool, true, false, ◌&&◌, List, [], ◌∷◌, length, codes, refl, arith}
use Rattle.std.specs.Prelude.{nat_le}
use Rattle.std.specs.List.{list_all, AllByRecursion}
use Rattle.std.proofs.lemmas.Bool.Decides.{nat_tests}
use Rattle.vlog_tree.specs.declared.tree.Atom.{Atom}
use Rattle.vlog_tree.specs.declared.tree.Atom.TheVariants.{Net, Part as PartSelect, Literal}
use Rattle.vlog_tree.specs.declared.tree.Value.{Value}
use Rattle.vlog_tree.specs.declared.tree.Value.TheVariants.{Plain, Invert, Binary, Choose, Concat, Repeat, Cell}
use Rattle.vlog_tree.specs.declared.tree.Step.{Step}
use Rattle.vlog_tree.specs.declared.tree.Step.TheVariants.{If, Else, End, NonblockingAssign, MemoryAssign}
use Rattle.vlog_tree.specs.declared.tree.Connection.{Connection}
use Rattle.vlog_tree.specs.declared.tree.Item.{Item}
use Rattle.vlog_tree.specs.declared.tree.Item.TheVariants.{Wire, Reg, Memory, Assign, Always, Instance}
use Rattle.vlog_tree.specs.declared.tree.PortDecl.{PortDecl}
use Rattle.vlog_tree.specs.Form.{ModuleTree, IsModule, is_atom, is_value, is_step, is_connection, is_item, is_port, nested}
use Rattle.vlog_tree.specs.Spelling.{Word}
use Rattle.tapa_base.specs.Spans.{◌⨾◌, Each, Separated}
use Rattle.vlog_lex.specs.Spans.{Part, Takes, SeparatedTwo}
use Rattle.tapa_base.specs.Gaps.{Bytes}
use Rattle.vlog_lex.specs.Grammar.{SpellsAtom, SpellsValue, SpellsRange, SpellsConnection, SpellsItem, SpellsPort, SpellsModule, HasTree}
use Rattle.vlog_lex.specs.Flat.{SpellsStep}
use Rattle.vlog_lex.proofs.Flattened.{flat_block}
use Rattle.std.proofs.lemmas.Bool.{and_from as both}
use Rattle.vlog_tree.proofs.Labelled.{of_le}

atom_formed : (a : Atom) (i j : List Word) → SpellsAtom a i j → is_atom a ≡ true
atom_formed (Net x) i j (n, e) = n
atom_formed (PartSelect x high low) i j (t, (n, e), rest) = n
atom_formed (Literal width value) i j h = refl

module _ {A : Type 0} (P : A → Part) (good : A → Bool) (formed : (x : A) (i j : List Word) → P x i j → good x ≡ true) where
  each_formed : (xs : List A) (i j : List Word) → Each P xs i j → list_all good xs ≡ true
  each_formed [] i j e = refl
  each_formed (x ∷ xs) i j (t, p, m) = both (good x) (list_all good xs) (formed x i t p) (each_formed xs t j m)

  behind_formed : (w : Word) (xs : List A) (i j : List Word) → Each (λ y. Takes w ⨾ P y) xs i j → list_all good xs ≡ true
  behind_formed w [] i j e = refl
  behind_formed w (x ∷ xs) i j (t, (u, e, p), m) = both (good x) (list_all good xs) (formed x u t p) (behind_formed w xs t j m)

  separated_formed : (w : Word) (xs : List A) (i j : List Word) → Separated (Takes w) P xs i j → (nat_le 1 (length xs) ≡ true) × (list_all good xs ≡ true)
  separated_formed w [] i j h = absurd h
  separated_formed w (x ∷ xs) i j (t, p, m) = (of_le 1 (length (x ∷ xs)) (omega arith), both (good x) (list_all good xs) (formed x i t p) (behind_formed w xs t j m))

  two_formed : (w : Word) (xs : List A) (i j : List Word) → SeparatedTwo (Takes w) P xs i j → (nat_le 2 (length xs) ≡ true) × (list_all good xs ≡ true)
  two_formed w [] i j h = absurd h
  two_formed w (x ∷ []) i j h = absurd h
  two_formed w (x ∷ y ∷ zs) i j h = (of_le 2 (length (x ∷ y ∷ zs)) (omega arith), (separated_formed w (x ∷ y ∷ zs) i j h).1)

value_formed : (v : Value) (i j : List Word) → SpellsValue v i j → is_value v ≡ true
value_formed (Plain a) i j h = atom_formed a i j h
value_formed (Invert a) i j (t, e, h) = atom_formed a t j h
value_formed (Binary a op b) i j (t, p, (u, o, q)) = both (is_atom a) (is_atom b) (atom_formed a i t p) (atom_formed b u j q)
value_formed (Choose c a b) i j (t, p, (u, e, (v, q, (w, f, r)))) = both (is_atom c && is_atom a) (is_atom b) (both (is_atom c) (is_atom a) (atom_formed c i t p) (atom_formed a u v q)) (atom_formed b w j r)
value_formed (Concat atoms) i j (t, e, (u, h, f)) = let r = two_formed SpellsAtom is_atom atom_formed (codes ",") atoms t u h in both (nat_le 2 (length atoms)) (list_all is_atom atoms) r.0 r.1
value_formed (Repeat n a) i j (t, e, (u, m, (v, f, (w, h, rest)))) = atom_formed a v w h
value_formed (Cell memory x) i j (t, (n, e), (u, f, (v, (k, g), h))) = both _ _ n k

step_formed : (s : Step) (i j : List Word) → SpellsStep s i j → is_step s ≡ true
step_formed (If c) i j (t, (u, e, (v, f, (w, (n, g), h))), m) = n
step_formed Else i j h = refl
step_formed End i j h = refl
step_formed (NonblockingAssign x a) i j (t, (n, e), (u, f, (v, p, g))) = both _ (is_atom a) n (atom_formed a u v p)
step_formed (MemoryAssign m x a) i j (t, (n, e), (u, f, (v, (k, g), (w, h, (z, l, (c, r, o)))))) = both _ (is_atom a) (both _ _ n k) (atom_formed a z c r)

range_formed : (bits : ℕ) (i j : List Word) → SpellsRange bits i j → nat_le 1 bits ≡ true
range_formed bits i j (inl (one, e)) = of_le 1 bits (omega arith)
range_formed bits i j (inr (t, e, (u, (last, is, n), h))) = of_le 1 bits (omega arith)

connection_formed : (l : Connection) (i j : List Word) → SpellsConnection l i j → is_connection l ≡ true
connection_formed l i j (t, e, (u, (n, p), (v, f, (w, (k, q), g)))) = both _ _ n k

item_formed : (x : Item) (i j : List Word) → SpellsItem x i j → is_item x ≡ true
item_formed (Wire bits x) i j (t, e, (u, r, (v, (n, f), g))) = both (nat_le 1 bits) _ (range_formed bits t u r) n
item_formed (Reg bits x) i j (t, e, (u, r, (v, (n, f), g))) = both (nat_le 1 bits) _ (range_formed bits t u r) n
item_formed (Memory bits x cells) i j (t, e, (u, r, (v, (n, f), (w, g, (z, h, (l, k, (o, (last, is, p), rest))))))) =
    both _ (nat_le 1 cells) (both (nat_le 1 bits) _ (range_formed bits t u r) n) (of_le 1 cells (omega arith))
item_formed (Assign x value) i j (t, e, (u, (n, f), (v, g, (w, p, h)))) = both _ (is_value value) n (value_formed value v w p)
item_formed (Always steps) i j (t, e, (u, f, (v, g, (w, h, (z, l, (o, m, b)))))) =
    let s = flat_block steps o j b in
    blocks s where
      blocks : (nested [] steps ≡ true) × (Takes (codes "begin") ⨾ Each SpellsStep steps ⨾ Takes (codes "end")) o j → is_item (Always steps) ≡ true
      blocks (n, (t, e, (u, m, f))) = both (nested [] steps) (list_all is_step steps) n (each_formed SpellsStep is_step step_formed steps t u m)
item_formed (Instance m x connections) i j (t, (n, e), (u, (k, f), (v, g, (w, r, h)))) =
    let s = separated_formed SpellsConnection is_connection connection_formed (codes ",") connections v w r in
    both _ (list_all is_connection connections) (both _ (nat_le 1 (length connections)) (both _ _ n k) s.0) s.1

port_formed : (p : PortDecl) (i j : List Word) → SpellsPort p i j → is_port p ≡ true
port_formed p i j (t, e, (u, r, (n, f))) = both _ _ (range_formed _ t u r) n

pub module_formed : (m : ModuleTree) (i j : List Word) → SpellsModule m i j → IsModule m
unfolding IsModule
module_formed m i j (t, e, (u, (n, p), (v, f, (w, q, (z, g, (l, h, (o, r, end))))))) =
    let s = separated_formed SpellsPort is_port port_formed (codes ",") m.ports v w q in
    both _ (list_all is_item m.items) (both _ (list_all is_port m.ports) (both _ (nat_le 1 (length m.ports)) n s.0) s.1) (each_formed SpellsItem is_item item_formed m.items l o r)

modules_formed : (ms : List ModuleTree) (i j : List Word) → Each SpellsModule ms i j → AllByRecursion IsModule ms
modules_formed [] i j e = tt
modules_formed (m ∷ ms) i j (t, p, h) = (module_formed m i t p, modules_formed ms t j h)

pub tree_formed : (text : Bytes) (ms : List ModuleTree) → HasTree text ms → AllByRecursion IsModule ms
tree_formed text [] (i, h, p) = absurd p
tree_formed text (m ∷ ms) (i, h, p) = modules_formed (m ∷ ms) i [] p
