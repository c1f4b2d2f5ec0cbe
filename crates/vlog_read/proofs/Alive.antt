-- Each reader may go on to a whole design: for each part that is open, a short end of it.
use Rattle.std.proofs.Common.{◌≡◌, inl, inr, ℕ, ◌≤◌, Bool, true, false, List, [], ◌∷◌, ◌++◌, length, codes, fold, refl, arith}
use Rattle.std.proofs.lemmas.List.{length-append}
use Rattle.vlog_tree.specs.declared.tree.Atom.{Atom}
use Rattle.vlog_tree.specs.declared.tree.Atom.TheVariants.{Net, Part as PartSelect}
use Rattle.vlog_tree.specs.declared.tree.Value.{Value as ValueTree}
use Rattle.vlog_tree.specs.declared.tree.Value.TheVariants.{Plain, Invert, Binary, Choose, Concat, Repeat}
use Rattle.vlog_tree.specs.declared.tree.Step.{Step}
use Rattle.vlog_tree.specs.declared.tree.Step.TheVariants.{If, End, NonblockingAssign, MemoryAssign}
use Rattle.vlog_tree.specs.declared.tree.Item.{Item as ItemTree}
use Rattle.vlog_tree.specs.declared.tree.Item.TheVariants.{Wire, Reg, Memory, Assign, Always}
use Rattle.vlog_tree.specs.declared.tree.Direction.TheVariants as direction_form
use Rattle.vlog_tree.specs.Form.{ModuleTree, nested}
use Rattle.vlog_tree.specs.Names.{is_name, is_keyword, starts_name, goes_on, always_to_default, defparam_to_event, for_to_input, instance_to_not, notif0_to_real, realtime_to_strong0, strong1_to_unsigned, use_to_xor}
use Rattle.vlog_tree.specs.Spelling.{Word}
use Rattle.vlog_tree.specs.Clamped.{clamped_width, clamped_cells}
use Rattle.tapa_base.specs.Spans.{Each}
use Rattle.vlog_lex.specs.Numerals.{IsNumber}
use Rattle.vlog_lex.specs.Flat.{SpellsStep}
use Rattle.vlog_read.specs.declared.state.ModuleDraft.{ModuleDraft}
use Rattle.vlog_read.specs.declared.state.Steps.{Steps}
use Rattle.vlog_read.specs.declared.state.Joining.{Joining}
use Rattle.vlog_read.specs.declared.state.Declared.{Declared}
use Rattle.vlog_read.specs.declared.state.Declared.TheVariants as declared_form
use Rattle.vlog_read.specs.declared.state.Purpose.{Purpose}
use Rattle.vlog_read.specs.declared.state.Purpose.TheVariants.{First, Inverted, Right, Yes, No, Joined, Copied, Assigned, Stored}
use Rattle.vlog_read.specs.declared.state.HeadState.{HeadState}
use Rattle.vlog_read.specs.declared.state.HeadState.TheVariants.{Between, ModuleName, PortStart, RangeOrName, RangeHigh, DeclaredName, PortNext}
use Rattle.vlog_read.specs.declared.state.ItemState.{ItemState}
use Rattle.vlog_read.specs.declared.state.ItemState.TheVariants.{ItemStart, RegNext, CellsLast, InstanceName, ConnectionPort, ConnectionNet, ConnectionNext}
use Rattle.vlog_read.specs.declared.state.ValueState.{ValueState}
use Rattle.vlog_read.specs.declared.state.ValueState.TheVariants.{AssignName, ValueStart, BraceStart, ValueNext, ConcatNext, AtomStart, AtomNext, AtomHigh, AtomLow, AtomEnd}
use Rattle.vlog_read.specs.declared.state.BlockState.{BlockState}
use Rattle.vlog_read.specs.declared.state.BlockState.TheVariants.{StepStart, AfterEnd, IfName, StepTarget, StepIndex}
use Rattle.vlog_read.specs.declared.state.State.{State}
use Rattle.vlog_read.specs.declared.state.State.TheVariants.{Head, Item, Value, Block}
use Rattle.vlog_read.specs.declared.state.Reader.{Reader}
use Rattle.vlog_lex.specs.Coming.{coming_words}
use Rattle.vlog_read.specs.ValueReading.{begun, with_port, with_item, module_of, finished, with_step, opened, with_connection, joined}
use Rattle.vlog_read.specs.BlockReading.{no_connection, connection_of, port_of}
use Rattle.vlog_read.specs.Finishing.{Left, Words, Named, Numbered, Counted, OneAtom, put_step, put_atom, Modules, Items, ItemBehind, MorePorts, Ports, Cells, RegEnd, DeclarationEnd, Name, High, Declaration, MoreSteps, ElseOrMore, Condition, Driven, ValueEnd, MoreAtoms, AtomBehind, Low, HighOrIndex, NameEnd, AnAtom, InBraces, Drives, Place, Target, MoreConnections, JoinedNet, JoinedPort, Instances, FinishesHead, FinishesItem, FinishesValue, FinishesBlock, FinishesState, Finishes}
use Rattle.vlog_read.proofs.HeadReads.{between_read}

-- some words are left, with some modules at their end
abbrev pub Alive : (List ModuleTree → Left) → Type 0
Alive G = (cs : List ModuleTree) × (i : List Word) × G cs i

words_on : (ws : List Word) (G : List ModuleTree → Left) → Alive G → Alive (λ cs. Words ws (G cs))
words_on [] G h = h
words_on (w ∷ ws) G h = let k = words_on ws G h in (k.0, w ∷ k.1, (k.1, refl, k.2))

-- ---- names, numbers and atoms

x_named : is_name (codes "x") ≡ true
unfolding is_keyword starts_name goes_on always_to_default defparam_to_event for_to_input instance_to_not notif0_to_real realtime_to_strong0 strong1_to_unsigned use_to_xor
x_named = refl

zero_number : IsNumber 0 (codes "0")
zero_number = ((omega arith, (omega arith, tt)), omega arith)

named_on : (G : List ModuleTree → Word → Left) → ((x : Word) → Alive (λ cs. G cs x)) → Alive (λ cs. Named (G cs))
named_on G h = let k = h (codes "x") in (k.0, codes "x" ∷ k.1, (codes "x", k.1, (x_named, refl), k.2))

numbered_on : (G : List ModuleTree → ℕ → Left) → ((n : ℕ) → Alive (λ cs. G cs n)) → Alive (λ cs. Numbered (G cs))
numbered_on G h = let k = h 0 in (k.0, codes "0" ∷ k.1, (0, k.1, (codes "0", zero_number, refl), k.2))

counted_on : (G : List ModuleTree → ℕ → Left) → ((n : ℕ) → Alive (λ cs. G cs n)) → Alive (λ cs. Counted (G cs))
counted_on G h = let k = h 1 in (k.0, codes "0" ∷ k.1, (1, k.1, (0, omega arith, (codes "0", zero_number, refl)), k.2))

atom_on : (G : List ModuleTree → Atom → Left) → ((a : Atom) → Alive (λ cs. G cs a)) → Alive (λ cs. OneAtom (G cs))
atom_on G h = let k = h (Net (codes "x")) in (k.0, codes "x" ∷ k.1, (Net (codes "x"), k.1, (x_named, refl), k.2))

-- ---- modules and their heads

-- the end of a module may end the words
pub items_end : (d : ModuleDraft) → Items (finished d) d (codes "endmodule" ∷ [])
items_end d = ([], codes "endmodule" ∷ [], refl, ([], refl, ([], refl, refl, some)))
  where
    some : 1 ≤ length (d.modules ++ module_of d ∷ [])
    some = omega (arith, length-append d.modules (module_of d ∷ []))

items_on : (d : ModuleDraft) → Alive (λ cs. Items cs d)
items_on d = (finished d, codes "endmodule" ∷ [], items_end d)

behind_on : (ws : List Word) (d : ModuleDraft) (x : ItemTree) → Alive (λ cs. ItemBehind cs ws d x)
behind_on ws d x = words_on ws (λ cs. Items cs (with_item d x)) (items_on (with_item d x))

more_ports_on : (d : ModuleDraft) → Alive (λ cs. MorePorts cs d)
more_ports_on d = let k = words_on (codes ")" ∷ codes ";" ∷ []) (λ cs. Items cs d) (items_on d) in (k.0, k.1, ([], k.1, refl, k.2))

ports_on : (d : ModuleDraft) → Alive (λ cs. Ports cs d)
ports_on d =
    let k = more_ports_on (with_port d (port_of direction_form.Input 1 (codes "x"))) in
    (k.0, codes "input" ∷ codes "x" ∷ k.1, (port_of direction_form.Input 1 (codes "x"), k.1, (codes "x" ∷ k.1, refl, (codes "x" ∷ k.1, inl (refl, refl), (x_named, refl))), k.2))

module_name_on : (ms : List ModuleTree) → Alive (λ cs. FinishesHead cs (ModuleName ms))
module_name_on ms = named_on (λ cs x. Words (codes "(" ∷ []) (Ports cs (begun ms x))) (λ x. words_on (codes "(" ∷ []) (λ cs. Ports cs (begun ms x)) (ports_on (begun ms x)))

modules_on : (ms : List ModuleTree) → Alive (λ cs. Modules cs ms)
modules_on [] = let k = module_name_on [] in (k.0, codes "module" ∷ k.1, (between_read k.0 []).from (codes "module" ∷ k.1) k.2)
modules_on (m ∷ ms) = (m ∷ ms, [], ([], refl, refl, omega arith))

cells_on : (d : ModuleDraft) (bits : ℕ) (x : Word) → Alive (λ cs. Cells cs d bits x)
cells_on d bits x = counted_on (λ cs n. ItemBehind cs (codes "]" ∷ codes ";" ∷ []) d (Memory bits x (clamped_cells n))) (λ n. behind_on (codes "]" ∷ codes ";" ∷ []) d (Memory bits x (clamped_cells n)))

reg_on : (d : ModuleDraft) (bits : ℕ) (x : Word) → Alive (λ cs. RegEnd cs d bits x)
reg_on d bits x = let k = behind_on (codes ";" ∷ []) d (Reg bits x) in (k.0, k.1, inl k.2)

declaration_end_on : (d : ModuleDraft) (k : Declared) (bits : ℕ) (x : Word) → Alive (λ cs. DeclarationEnd cs d k bits x)
declaration_end_on d declared_form.Input bits x = more_ports_on (with_port d (port_of direction_form.Input bits x))
declaration_end_on d declared_form.Output bits x = more_ports_on (with_port d (port_of direction_form.Output bits x))
declaration_end_on d declared_form.Wire bits x = behind_on (codes ";" ∷ []) d (Wire bits x)
declaration_end_on d declared_form.Reg bits x = reg_on d bits x

name_on : (d : ModuleDraft) (k : Declared) (bits : ℕ) → Alive (λ cs. Name cs d k bits)
name_on d k bits = named_on (λ cs x. DeclarationEnd cs d k bits x) (declaration_end_on d k bits)

high_on : (d : ModuleDraft) (k : Declared) → Alive (λ cs. High cs d k)
high_on d k =
    counted_on (λ cs n. Words (codes ":" ∷ codes "0" ∷ codes "]" ∷ []) (Name cs d k (clamped_width n))) (λ n. words_on (codes ":" ∷ codes "0" ∷ codes "]" ∷ []) (λ cs. Name cs d k (clamped_width n)) (name_on d k (clamped_width n)))

declaration_on : (d : ModuleDraft) (k : Declared) → Alive (λ cs. Declaration cs d k)
declaration_on d k = let a = name_on d k 1 in (a.0, a.1, (1, a.1, inl (refl, refl), a.2))

-- ---- blocks

ends : List Bool → List Step
ends [] = []
ends (b ∷ parts) = End ∷ ends parts

ends_nest : (parts : List Bool) → nested parts (ends parts) ≡ true
unfolding ends
ends_nest [] = refl
ends_nest (true ∷ parts) = ends_nest parts
ends_nest (false ∷ parts) = ends_nest parts

ends_spell : (parts : List Bool) (j : List Word) → (i : List Word) × Each SpellsStep (ends parts) i j
unfolding ends
ends_spell [] j = (j, refl)
ends_spell (b ∷ parts) j = let k = ends_spell parts j in (codes "end" ∷ k.0, (k.0, refl, k.1))

steps_on : (d : ModuleDraft) (s : Steps) → Alive (λ cs. MoreSteps cs d s)
steps_on d s =
    let k = behind_on (codes "end" ∷ []) d (Always (fold put_step s.steps (ends s.parts))) in let e = ends_spell s.parts k.1 in (k.0, e.0, (ends s.parts, k.1, ends_nest s.parts, e.1, k.2))

else_on : (d : ModuleDraft) (s : Steps) → Alive (λ cs. ElseOrMore cs d s)
else_on d s = let k = steps_on d (with_step s End) in (k.0, k.1, inr k.2)

condition_on : (d : ModuleDraft) (s : Steps) → Alive (λ cs. Condition cs d s)
condition_on d s =
    named_on (λ cs x. Words (codes ")" ∷ codes "begin" ∷ []) (MoreSteps cs d (opened s (If x) false)))
    (λ x. words_on (codes ")" ∷ codes "begin" ∷ []) (λ cs. MoreSteps cs d (opened s (If x) false)) (steps_on d (opened s (If x) false)))

-- ---- atoms, and what drives a net

driven_on : (d : ModuleDraft) (y : Word) (v : ValueTree) → Alive (λ cs. Driven cs d y v)
driven_on d y v = behind_on (codes ";" ∷ []) d (Assign y v)

value_end_on : (d : ModuleDraft) (y : Word) (a : Atom) → Alive (λ cs. ValueEnd cs d y a)
value_end_on d y a = let k = driven_on d y (Plain a) in (k.0, k.1, inl k.2)

more_atoms_on : (d : ModuleDraft) (y : Word) (atoms : List Atom) → Alive (λ cs. MoreAtoms cs d y atoms)
more_atoms_on d y atoms =
    let more : List Atom = Net (codes "x") ∷ Net (codes "x") ∷ [] in
    let k = behind_on (codes "}" ∷ codes ";" ∷ []) d (Assign y (Concat (fold put_atom atoms more))) in
    let one : List Word = codes "," ∷ codes "x" ∷ k.1 in (
      k.0,
      codes "," ∷ codes "x" ∷ one,
      (more, k.1, (one, (codes "x" ∷ one, refl, (x_named, refl)), (k.1, (codes "x" ∷ k.1, refl, (x_named, refl)), refl)), some, k.2),
    )
  where
    some : 2 ≤ length ((atoms ++ Net (codes "x") ∷ []) ++ Net (codes "x") ∷ [])
    some = omega (arith, length-append (atoms ++ Net (codes "x") ∷ []) (Net (codes "x") ∷ []), length-append atoms (Net (codes "x") ∷ []))

assigned_on : (d : ModuleDraft) (s : Steps) → Alive (λ cs. Words (codes ";" ∷ []) (MoreSteps cs d s))
assigned_on d s = words_on (codes ";" ∷ []) (λ cs. MoreSteps cs d s) (steps_on d s)

atom_behind_on : (d : ModuleDraft) (p : Purpose) (a : Atom) → Alive (λ cs. AtomBehind cs d p a)
atom_behind_on d (First y) a = value_end_on d y a
atom_behind_on d (Inverted y) a = driven_on d y (Invert a)
atom_behind_on d (Right y left op) a = driven_on d y (Binary left op a)
atom_behind_on d (Yes y c) a = words_on (codes ":" ∷ []) (λ cs. OneAtom (λ b. Driven cs d y (Choose c a b))) (atom_on (λ cs b. Driven cs d y (Choose c a b)) (λ b. driven_on d y (Choose c a b)))
atom_behind_on d (No y c chosen) a = driven_on d y (Choose c chosen a)
atom_behind_on d (Joined y atoms) a = more_atoms_on d y (atoms ++ a ∷ [])
atom_behind_on d (Copied y n) a = behind_on (codes "}" ∷ codes "}" ∷ codes ";" ∷ []) d (Assign y (Repeat n a))
atom_behind_on d (Assigned s x) a = assigned_on d (with_step s (NonblockingAssign x a))
atom_behind_on d (Stored s m x) a = assigned_on d (with_step s (MemoryAssign m x a))

low_on : (d : ModuleDraft) (p : Purpose) (x : Word) (high : ℕ) → Alive (λ cs. Low cs d p x high)
low_on d p x high =
    numbered_on (λ cs n. Words (codes "]" ∷ []) (AtomBehind cs d p (PartSelect x high (clamped_width n))))
    (λ n. words_on (codes "]" ∷ []) (λ cs. AtomBehind cs d p (PartSelect x high (clamped_width n))) (atom_behind_on d p (PartSelect x high (clamped_width n))))

high_or_index_on : (d : ModuleDraft) (p : Purpose) (x : Word) → Alive (λ cs. HighOrIndex cs d p x)
high_or_index_on d p x =
    let k = numbered_on (λ cs n. Words (codes ":" ∷ []) (Low cs d p x (clamped_width n))) (λ n. words_on (codes ":" ∷ []) (λ cs. Low cs d p x (clamped_width n)) (low_on d p x (clamped_width n))) in (k.0, k.1, inl k.2)

name_end_on : (d : ModuleDraft) (p : Purpose) (x : Word) → Alive (λ cs. NameEnd cs d p x)
name_end_on d p x = let k = atom_behind_on d p (Net x) in (k.0, k.1, inr k.2)

an_atom_on : (d : ModuleDraft) (p : Purpose) → Alive (λ cs. AnAtom cs d p)
an_atom_on d p = let k = atom_on (λ cs a. AtomBehind cs d p a) (atom_behind_on d p) in (k.0, k.1, inl k.2)

braces_on : (d : ModuleDraft) (y : Word) → Alive (λ cs. InBraces cs d y)
braces_on d y = let k = an_atom_on d (Joined y []) in (k.0, k.1, inr k.2)

drives_on : (d : ModuleDraft) (y : Word) → Alive (λ cs. Drives cs d y)
drives_on d y = let k = driven_on d y (Plain (Net (codes "x"))) in (k.0, codes "x" ∷ k.1, (Plain (Net (codes "x")), k.1, (x_named, refl), k.2))

assign_name_on : (d : ModuleDraft) → Alive (λ cs. FinishesValue cs (AssignName d))
assign_name_on d = named_on (λ cs x. Words (codes "=" ∷ []) (Drives cs d x)) (λ x. words_on (codes "=" ∷ []) (λ cs. Drives cs d x) (drives_on d x))

place_on : (d : ModuleDraft) (s : Steps) (m : Word) → Alive (λ cs. Place cs d s m)
place_on d s m =
    named_on (λ cs x. Words (codes "]" ∷ codes "<=" ∷ []) (AnAtom cs d (Stored s m x))) (λ x. words_on (codes "]" ∷ codes "<=" ∷ []) (λ cs. AnAtom cs d (Stored s m x)) (an_atom_on d (Stored s m x)))

target_on : (d : ModuleDraft) (s : Steps) (x : Word) → Alive (λ cs. Target cs d s x)
target_on d s x = let k = words_on (codes "<=" ∷ []) (λ cs. AnAtom cs d (Assigned s x)) (an_atom_on d (Assigned s x)) in (k.0, k.1, inl k.2)

-- ---- instances

more_connections_on : (d : ModuleDraft) (q : Joining) → Alive (λ cs. MoreConnections cs d q)
more_connections_on d q = let k = behind_on (codes ")" ∷ codes ";" ∷ []) d (joined q) in (k.0, k.1, ([], k.1, refl, k.2))

net_on : (d : ModuleDraft) (q : Joining) (p : Word) → Alive (λ cs. JoinedNet cs d q p)
net_on d q p =
    named_on (λ cs n. Words (codes ")" ∷ []) (MoreConnections cs d (with_connection q (connection_of p n))))
    (λ n. words_on (codes ")" ∷ []) (λ cs. MoreConnections cs d (with_connection q (connection_of p n))) (more_connections_on d (with_connection q (connection_of p n))))

port_on : (d : ModuleDraft) (q : Joining) → Alive (λ cs. JoinedPort cs d q)
port_on d q = named_on (λ cs p. Words (codes "(" ∷ []) (JoinedNet cs d q p)) (λ p. words_on (codes "(" ∷ []) (λ cs. JoinedNet cs d q p) (net_on d q p))

instances_on : (d : ModuleDraft) (m : Word) → Alive (λ cs. Instances cs d m)
instances_on d m =
    named_on (λ cs x. Words (codes "(" ∷ codes "." ∷ []) (JoinedPort cs d (no_connection m x))) (λ x. words_on (codes "(" ∷ codes "." ∷ []) (λ cs. JoinedPort cs d (no_connection m x)) (port_on d (no_connection m x)))

-- ---- any state

head_on : (s : HeadState) → Alive (λ cs. FinishesHead cs s)
head_on (Between ms) = modules_on ms
head_on (ModuleName ms) = module_name_on ms
head_on (PortStart d) = ports_on d
head_on (RangeOrName d k) = declaration_on d k
head_on (RangeHigh d k) = high_on d k
head_on (DeclaredName d k bits) = name_on d k bits
head_on (PortNext d) = more_ports_on d

item_on : (s : ItemState) → Alive (λ cs. FinishesItem cs s)
item_on (ItemStart d) = items_on d
item_on (RegNext d bits x) = reg_on d bits x
item_on (CellsLast d bits x) = cells_on d bits x
item_on (InstanceName d m) = instances_on d m
item_on (ConnectionPort d q) = port_on d q
item_on (ConnectionNet d q p) = net_on d q p
item_on (ConnectionNext d q) = more_connections_on d q

value_on : (s : ValueState) → Alive (λ cs. FinishesValue cs s)
value_on (AssignName d) = assign_name_on d
value_on (ValueStart d y) = drives_on d y
value_on (BraceStart d y) = braces_on d y
value_on (ValueNext d y a) = value_end_on d y a
value_on (ConcatNext d y atoms) = more_atoms_on d y atoms
value_on (AtomStart d p) = an_atom_on d p
value_on (AtomNext d p x) = name_end_on d p x
value_on (AtomHigh d p x) = high_or_index_on d p x
value_on (AtomLow d p x high) = low_on d p x high
value_on (AtomEnd d p a) = atom_behind_on d p a

block_on : (s : BlockState) → Alive (λ cs. FinishesBlock cs s)
block_on (StepStart d s) = steps_on d s
block_on (AfterEnd d s) = else_on d s
block_on (IfName d s) = condition_on d s
block_on (StepTarget d s x) = target_on d s x
block_on (StepIndex d s m) = place_on d s m

state_on : (s : State) → Alive (λ cs. FinishesState cs s)
state_on (Head s) = head_on s
state_on (Item s) = item_on s
state_on (Value s) = value_on s
state_on (Block s) = block_on s

pub reader_on : (r : Reader) → Alive (λ cs. Finishes cs r)
reader_on r = words_on (coming_words r.coming) (λ cs. FinishesState cs r.state) (state_on r.state)
