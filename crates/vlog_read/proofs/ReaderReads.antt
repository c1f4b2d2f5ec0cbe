-- Words of any reader.
use Rattle.std.proofs.Common.{◌≡◌, ◌≤◌, List, [], ◌∷◌, codes, length, Option, Some, None, cond, sym, ap, subst, ◌∙◌, arith, ne_eqb}
use Rattle.vlog_tree.specs.Form.{ModuleTree}
use Rattle.vlog_lex.specs.declared.coming.Coming.{Coming}
use Rattle.vlog_lex.specs.declared.coming.Coming.TheVariants.{Nothing, Semicolon, LeftParen, ParenDot, Dot, RightParen, RangeEnd, ZeroBracket, RightBracket, ZeroColon, Colon, BracketSemicolon, BracketArrow, Arrow, Equals, LeftBrace, BracesEnd, BraceEnd, Clocked, ClockedParen, ClockedEdge, ClockedName, ParenBegin, Begin}
use Rattle.vlog_read.specs.declared.state.HeadState.{HeadState}
use Rattle.vlog_read.specs.declared.state.HeadState.TheVariants.{Between, ModuleName, PortStart, RangeOrName, RangeHigh, DeclaredName, PortNext}
use Rattle.vlog_read.specs.declared.state.ItemState.{ItemState}
use Rattle.vlog_read.specs.declared.state.ItemState.TheVariants.{ItemStart, RegNext, CellsLast, InstanceName, ConnectionPort, ConnectionNet, ConnectionNext}
use Rattle.vlog_read.specs.declared.state.ValueState.{ValueState}
use Rattle.vlog_read.specs.declared.state.ValueState.TheVariants.{AssignName, ValueStart, BraceStart, ValueNext, ConcatNext, AtomStart, AtomNext, AtomHigh, AtomLow, AtomEnd}
use Rattle.vlog_read.specs.declared.state.BlockState.{BlockState}
use Rattle.vlog_read.specs.declared.state.BlockState.TheVariants.{StepStart, AfterEnd, IfName, StepTarget, StepIndex}
use Rattle.vlog_read.specs.declared.state.State.{State}
use Rattle.vlog_read.specs.declared.state.State.TheVariants.{Head, Item, Value, Block}
use Rattle.vlog_read.specs.declared.state.Reader.{Reader}
use Rattle.vlog_lex.specs.Coming.{coming_words}
use Rattle.vlog_read.specs.ValueReading.{behind}
use Rattle.vlog_read.specs.BlockReading.{head_next, item_next, value_word, block_next, state_next, next, whole_head, whole}
use Rattle.vlog_read.specs.Finishing.{Words, FinishesHead, FinishesItem, FinishesValue, FinishesBlock, FinishesState, Finishes}
use Rattle.vlog_read.proofs.IsRead.{IsRead, fixed_read}
use Rattle.vlog_read.proofs.HeadReads.{EndsBetween, between_read, module_name_read, port_start_read, name_read_of, range_or_name_read, range_high_read, port_next_read}
use Rattle.vlog_read.proofs.ItemReads.{item_start_read, reg_next_read, cells_last_read, instance_name_read, connection_port_read, connection_net_read, connection_next_read}
use Rattle.vlog_read.proofs.AtomReads.{value_next_read, concat_next_read, atom_end_read, atom_next_read, atom_high_read, atom_low_read, atom_start_read}
use Rattle.vlog_read.proofs.ValueReads.{assign_name_read, value_start_read, brace_start_read}
use Rattle.vlog_read.proofs.BlockReads.{step_start_read, after_end_read, if_name_read, step_target_read, step_index_read}

-- where the words may end
abbrev pub EndsHead : List ModuleTree → HeadState → Type 0
EndsHead cs (Between ms) = EndsBetween cs ms
EndsHead cs _ = ⊥

abbrev pub EndsState : List ModuleTree → State → Type 0
EndsState cs (Head s) = EndsHead cs s
EndsState cs _ = ⊥

abbrev pub EndsBy : List ModuleTree → Coming → State → Type 0
EndsBy cs Nothing s = EndsState cs s
EndsBy cs _ s = ⊥

abbrev pub EndsReader : List ModuleTree → Reader → Type 0
EndsReader cs r = EndsBy cs r.coming r.state

head_read : (cs : List ModuleTree) (s : HeadState) → IsRead cs (head_next s) (EndsHead cs s) (FinishesHead cs s)
head_read cs (Between ms) = between_read cs ms
head_read cs (ModuleName ms) = module_name_read cs ms
head_read cs (PortStart d) = port_start_read cs d
head_read cs (RangeOrName d k) = range_or_name_read cs d k
head_read cs (RangeHigh d k) = range_high_read cs d k
head_read cs (DeclaredName d k bits) = name_read_of cs d k bits
head_read cs (PortNext d) = port_next_read cs d

item_read : (cs : List ModuleTree) (s : ItemState) → IsRead cs (item_next s) ⊥ (FinishesItem cs s)
item_read cs (ItemStart d) = item_start_read cs d
item_read cs (RegNext d bits x) = reg_next_read cs d bits x
item_read cs (CellsLast d bits x) = cells_last_read cs d bits x
item_read cs (InstanceName d m) = instance_name_read cs d m
item_read cs (ConnectionPort d q) = connection_port_read cs d q
item_read cs (ConnectionNet d q p) = connection_net_read cs d q p
item_read cs (ConnectionNext d q) = connection_next_read cs d q

value_read : (cs : List ModuleTree) (s : ValueState) → IsRead cs (value_word s) ⊥ (FinishesValue cs s)
value_read cs (AssignName d) = assign_name_read cs d
value_read cs (ValueStart d y) = value_start_read cs d y
value_read cs (BraceStart d y) = brace_start_read cs d y
value_read cs (ValueNext d y a) = value_next_read cs d y a
value_read cs (ConcatNext d y atoms) = concat_next_read cs d y atoms
value_read cs (AtomStart d p) = atom_start_read cs d p
value_read cs (AtomNext d p x) = atom_next_read cs d p x
value_read cs (AtomHigh d p x) = atom_high_read cs d p x
value_read cs (AtomLow d p x high) = atom_low_read cs d p x high
value_read cs (AtomEnd d p a) = atom_end_read cs d p a

block_read : (cs : List ModuleTree) (s : BlockState) → IsRead cs (block_next s) ⊥ (FinishesBlock cs s)
block_read cs (StepStart d s) = step_start_read cs d s
block_read cs (AfterEnd d s) = after_end_read cs d s
block_read cs (IfName d s) = if_name_read cs d s
block_read cs (StepTarget d s x) = step_target_read cs d s x
block_read cs (StepIndex d s m) = step_index_read cs d s m

state_read : (cs : List ModuleTree) (s : State) → IsRead cs (state_next s) (EndsState cs s) (FinishesState cs s)
state_read cs (Head s) = head_read cs s
state_read cs (Item s) = item_read cs s
state_read cs (Value s) = value_read cs s
state_read cs (Block s) = block_read cs s

by_coming : (cs : List ModuleTree) (c : Coming) (s : State) → IsRead cs (next (behind c s)) (EndsBy cs c s) (Words (coming_words c) (FinishesState cs s))
by_coming cs Nothing s = state_read cs s
by_coming cs Semicolon s = fixed_read cs (codes ";") (behind Nothing s)
by_coming cs LeftParen s = fixed_read cs (codes "(") (behind Nothing s)
by_coming cs ParenDot s = fixed_read cs (codes "(") (behind Dot s)
by_coming cs Dot s = fixed_read cs (codes ".") (behind Nothing s)
by_coming cs RightParen s = fixed_read cs (codes ")") (behind Nothing s)
by_coming cs RangeEnd s = fixed_read cs (codes ":") (behind ZeroBracket s)
by_coming cs ZeroBracket s = fixed_read cs (codes "0") (behind RightBracket s)
by_coming cs RightBracket s = fixed_read cs (codes "]") (behind Nothing s)
by_coming cs ZeroColon s = fixed_read cs (codes "0") (behind Colon s)
by_coming cs Colon s = fixed_read cs (codes ":") (behind Nothing s)
by_coming cs BracketSemicolon s = fixed_read cs (codes "]") (behind Semicolon s)
by_coming cs BracketArrow s = fixed_read cs (codes "]") (behind Arrow s)
by_coming cs Arrow s = fixed_read cs (codes "<=") (behind Nothing s)
by_coming cs Equals s = fixed_read cs (codes "=") (behind Nothing s)
by_coming cs LeftBrace s = fixed_read cs (codes "{") (behind Nothing s)
by_coming cs BracesEnd s = fixed_read cs (codes "}") (behind BraceEnd s)
by_coming cs BraceEnd s = fixed_read cs (codes "}") (behind Semicolon s)
by_coming cs Clocked s = fixed_read cs (codes "@") (behind ClockedParen s)
by_coming cs ClockedParen s = fixed_read cs (codes "(") (behind ClockedEdge s)
by_coming cs ClockedEdge s = fixed_read cs (codes "posedge") (behind ClockedName s)
by_coming cs ClockedName s = fixed_read cs (codes "clk") (behind ParenBegin s)
by_coming cs ParenBegin s = fixed_read cs (codes ")") (behind Begin s)
by_coming cs Begin s = fixed_read cs (codes "begin") (behind Nothing s)

pub reader_read : (cs : List ModuleTree) (r : Reader) → IsRead cs (next r) (EndsReader cs r) (Finishes cs r)
reader_read cs r = by_coming cs r.coming r.state

-- ---- the end

some_is : (x y : List ModuleTree) → (let p : Option (List ModuleTree) = Some x in let q : Option (List ModuleTree) = Some y in p ≡ q) → x ≡ y
some_is x y e = cc

some_modules : (m : ModuleTree) (ms : List ModuleTree) → whole_head (Between (m ∷ ms)) ≡ Some (m ∷ ms)
some_modules m ms = ap (λ b. cond {A = Option (List ModuleTree)} b None (Some (m ∷ ms))) (ne_eqb (length (m ∷ ms)) 0 (λ e. absurd (omega (arith, e))))

whole_between : (ms cs : List ModuleTree) → whole_head (Between ms) ≡ Some cs → EndsBetween cs ms
whole_between [] cs e = absurd cc
whole_between (m ∷ ms) cs e =
    let same = some_is (m ∷ ms) cs (sym (some_modules m ms) ∙ e) in (same, subst (λ (l : List ModuleTree). 1 ≤ length l) same (omega arith))

-- where a reader tells modules its words may end with them
pub whole_ends : (cs : List ModuleTree) (r : Reader) → whole r ≡ Some cs → EndsReader cs r
whole_ends cs r e = by_parts r.coming r.state e
  where
    by_parts : (c : Coming) (s : State) → whole (behind c s) ≡ Some cs → EndsBy cs c s
    by_parts Nothing (Head (Between ms)) e = whole_between ms cs e
    by_parts Nothing (Head _) e = absurd cc
    by_parts Nothing (Item _) e = absurd cc
    by_parts Nothing (Value _) e = absurd cc
    by_parts Nothing (Block _) e = absurd cc
    by_parts _ s e = absurd cc

none_between : (ms cs : List ModuleTree) → whole_head (Between ms) ≡ None → EndsBetween cs ms → ⊥
none_between [] cs e (same, one) = absurd (omega (arith, ap length same, one))
none_between (m ∷ ms) cs e h = absurd (let f = sym (some_modules m ms) ∙ e in cc)

-- and where it tells none they may not
pub none_ends : (cs : List ModuleTree) (r : Reader) → whole r ≡ None → EndsReader cs r → ⊥
none_ends cs r e h = by_parts r.coming r.state e h
  where
    by_parts : (c : Coming) (s : State) → whole (behind c s) ≡ None → EndsBy cs c s → ⊥
    by_parts Nothing (Head (Between ms)) e h = none_between ms cs e h
    by_parts Nothing (Head _) e h = h
    by_parts Nothing (Item _) e h = h
    by_parts Nothing (Value _) e h = h
    by_parts Nothing (Block _) e h = h
    by_parts _ s e h = h
