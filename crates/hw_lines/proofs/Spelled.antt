-- Nets have names.
use Rattle.std.proofs.Common.{◌≡◌, ℕ, ◌+◌, ◌%◌, ◌^◌, ◌<◌, ◌≤◌, Bool, true, false, eqb, ◌||◌, List, [], ◌∷◌, ◌++◌, length, refl, ap, ◌∙◌, arith}
use Rattle.std.specs.Prelude.{decimal, nat_le}
use Rattle.std.specs.List.{list_all}
use Rattle.std.proofs.lemmas.Bool.{le-leb, and_from as yes_and}
use Rattle.std.proofs.lemmas.Fmt.{decimal_by_steps}
use Rattle.vlog_tree.specs.Names.{is_name, has_name_form, within, starts_name, goes_on, is_keyword, always_to_default, defparam_to_event, for_to_input, instance_to_not, notif0_to_real, realtime_to_strong0, strong1_to_unsigned, use_to_xor}
use Rattle.vlog_tree.specs.Table.{Name}
use Rattle.vlog_module_laws.proofs.Labelled.{early_name}
use Rattle.hw_build.proofs.Forms.{all_append}
use Rattle.hw_lines.specs.Nets.{Choice, Net, choice_word, choice_numbers, word, numbers, spelled, name, front, ToState, ToEnd, Clear, Set, NextValue, Stores, WriteIndex, WriteData, Reads, ArrayIndex, Puts, Token, Takes, Address, StoreEnable, Data, State, Ended, Done, Scalar, Variable, Array, Has, Dout, Taken, Din, Wr, Rdy, Ack, Rdata, Addr, Wdata, We, Plain, Datum, Eot, At, Go, Inside, Into, Packed, Reset, Next, Value, Index, ReadIndex, ReadInside, ReadOn, Raw, Answer, Node}
use Rattle.hw_lines.specs.Names.{AreSmall, NetsHaveNames, NodesAreNumbered}
use Rattle.hw_lines.proofs.Names.{tail_of, spelled_tail}
use Rattle.tapa_base.proofs.Tests.{both_true, middle}

node_numbered : (c : Choice) (j : ℕ) → name (Node c j) ≡ spelled (choice_word c) (choice_numbers c ++ j ∷ [])
unfolding name
node_numbered c j = refl

pub nodes_numbered : NodesAreNumbered
unfolding name front
nodes_numbered ToState j = refl
nodes_numbered ToEnd j = refl
nodes_numbered (Clear a) j = refl
nodes_numbered (Set a) j = refl
nodes_numbered (NextValue a) j = refl
nodes_numbered (Stores a) j = refl
nodes_numbered (WriteIndex a) j = refl
nodes_numbered (WriteData a) j = refl
nodes_numbered (Reads a b) j = refl
nodes_numbered (ArrayIndex a b) j = refl
nodes_numbered (Puts a) j = refl
nodes_numbered (Token a) j = refl
nodes_numbered (Takes a) j = refl
nodes_numbered (Address a) j = refl
nodes_numbered (StoreEnable a) j = refl
nodes_numbered (Data a) j = refl

digit_goes_on : (c : ℕ) → 48 ≤ c → c ≤ 57 → goes_on c ≡ true
unfolding goes_on
digit_goes_on c l h = middle (starts_name c) (within 48 57 c) (eqb c 36) (yes_and (nat_le 48 c) (nat_le c 57) (le-leb 48 c l) (le-leb c 57 h))

number_goes_on : (n : ℕ) → n < 2 ^ 64 → list_all goes_on (decimal n) ≡ true
number_goes_on n h =
    decimal_by_steps (λ k ds. list_all goes_on ds ≡ true)
    (λ k l. yes_and (goes_on (48 + k)) true (digit_goes_on (48 + k) (omega arith) (omega arith)) refl)
    (λ k ds l e. all_append goes_on ds ((48 + k % 10) ∷ []) e (yes_and (goes_on (48 + k % 10)) true (digit_goes_on (48 + k % 10) (omega arith) (omega arith)) refl))
    n h

mark_goes_on : goes_on 95 ≡ true
unfolding goes_on starts_name
mark_goes_on = refl

numbers_go_on : (ns : List ℕ) → AreSmall ns → list_all goes_on (tail_of ns) ≡ true
numbers_go_on [] h = refl
numbers_go_on (n ∷ ns) h = yes_and (goes_on 95) (list_all goes_on (decimal n ++ tail_of ns)) mark_goes_on (all_append goes_on (decimal n) (tail_of ns) (number_goes_on n h.0) (numbers_go_on ns h.1))

form_more : (w rest : Name) → has_name_form w ≡ true → list_all goes_on rest ≡ true → has_name_form (w ++ rest) ≡ true
form_more [] rest h k = cc
form_more (c ∷ cs) rest h k =
    let p = both_true (starts_name c) (list_all goes_on cs) h in
    yes_and (starts_name c) (list_all goes_on (cs ++ rest)) p.0 (all_append goes_on cs rest p.1 k)

-- a short word with numbers behind it
pub numbered_name : (w : Name) (n : ℕ) (ns : List ℕ) → length w < 10 → has_name_form w ≡ true → AreSmall (n ∷ ns) → is_name (spelled w (n ∷ ns)) ≡ true
numbered_name w n ns short form small =
    ap is_name (spelled_tail w (n ∷ ns)) ∙ early_name w (decimal n ++ tail_of ns) short (form_more w (95 ∷ decimal n ++ tail_of ns) form (numbers_go_on (n ∷ ns) small))

choice_form : (c : Choice) → has_name_form (choice_word c) ≡ true
unfolding starts_name goes_on
choice_form ToState = refl
choice_form ToEnd = refl
choice_form (Clear a) = refl
choice_form (Set a) = refl
choice_form (NextValue a) = refl
choice_form (Stores a) = refl
choice_form (WriteIndex a) = refl
choice_form (WriteData a) = refl
choice_form (Reads a b) = refl
choice_form (ArrayIndex a b) = refl
choice_form (Puts a) = refl
choice_form (Token a) = refl
choice_form (Takes a) = refl
choice_form (Address a) = refl
choice_form (StoreEnable a) = refl
choice_form (Data a) = refl

choice_short : (c : Choice) → length (choice_word c) < 10
choice_short ToState = omega arith
choice_short ToEnd = omega arith
choice_short (Clear a) = omega arith
choice_short (Set a) = omega arith
choice_short (NextValue a) = omega arith
choice_short (Stores a) = omega arith
choice_short (WriteIndex a) = omega arith
choice_short (WriteData a) = omega arith
choice_short (Reads a b) = omega arith
choice_short (ArrayIndex a b) = omega arith
choice_short (Puts a) = omega arith
choice_short (Token a) = omega arith
choice_short (Takes a) = omega arith
choice_short (Address a) = omega arith
choice_short (StoreEnable a) = omega arith
choice_short (Data a) = omega arith

word_form : (x : Net) → has_name_form (word x) ≡ true
unfolding starts_name goes_on
word_form State = refl
word_form Ended = refl
word_form Done = refl
word_form (Scalar a) = refl
word_form (Variable a) = refl
word_form (Array a) = refl
word_form (Has a) = refl
word_form (Dout a) = refl
word_form (Taken a) = refl
word_form (Din a) = refl
word_form (Wr a) = refl
word_form (Rdy a) = refl
word_form (Ack a) = refl
word_form (Rdata a) = refl
word_form (Addr a) = refl
word_form (Wdata a) = refl
word_form (We a) = refl
word_form (Plain a) = refl
word_form (Datum a) = refl
word_form (Eot a) = refl
word_form (At a) = refl
word_form (Go a) = refl
word_form (Inside a) = refl
word_form (Into a) = refl
word_form (Packed a) = refl
word_form (Reset a) = refl
word_form (Next a) = refl
word_form (Value a b) = refl
word_form (Index a b) = refl
word_form (ReadIndex a b c) = refl
word_form (ReadInside a b) = refl
word_form (ReadOn a b) = refl
word_form (Raw a b) = refl
word_form (Answer a b) = refl
word_form (Node c j) = choice_form c

word_short : (x : Net) → length (word x) < 10
word_short State = omega arith
word_short Ended = omega arith
word_short Done = omega arith
word_short (Scalar a) = omega arith
word_short (Variable a) = omega arith
word_short (Array a) = omega arith
word_short (Has a) = omega arith
word_short (Dout a) = omega arith
word_short (Taken a) = omega arith
word_short (Din a) = omega arith
word_short (Wr a) = omega arith
word_short (Rdy a) = omega arith
word_short (Ack a) = omega arith
word_short (Rdata a) = omega arith
word_short (Addr a) = omega arith
word_short (Wdata a) = omega arith
word_short (We a) = omega arith
word_short (Plain a) = omega arith
word_short (Datum a) = omega arith
word_short (Eot a) = omega arith
word_short (At a) = omega arith
word_short (Go a) = omega arith
word_short (Inside a) = omega arith
word_short (Into a) = omega arith
word_short (Packed a) = omega arith
word_short (Reset a) = omega arith
word_short (Next a) = omega arith
word_short (Value a b) = omega arith
word_short (Index a b) = omega arith
word_short (ReadIndex a b c) = omega arith
word_short (ReadInside a b) = omega arith
word_short (ReadOn a b) = omega arith
word_short (Raw a b) = omega arith
word_short (Answer a b) = omega arith
word_short (Node c j) = choice_short c

node_named : (c : Choice) (j : ℕ) → AreSmall (choice_numbers c ++ j ∷ []) → is_name (spelled (choice_word c) (choice_numbers c ++ j ∷ [])) ≡ true
node_named ToState j h = numbered_name (choice_word ToState) j ([]) (choice_short ToState) (choice_form ToState) h
node_named ToEnd j h = numbered_name (choice_word ToEnd) j ([]) (choice_short ToEnd) (choice_form ToEnd) h
node_named (Clear a) j h = numbered_name (choice_word (Clear a)) a (j ∷ []) (choice_short (Clear a)) (choice_form (Clear a)) h
node_named (Set a) j h = numbered_name (choice_word (Set a)) a (j ∷ []) (choice_short (Set a)) (choice_form (Set a)) h
node_named (NextValue a) j h = numbered_name (choice_word (NextValue a)) a (j ∷ []) (choice_short (NextValue a)) (choice_form (NextValue a)) h
node_named (Stores a) j h = numbered_name (choice_word (Stores a)) a (j ∷ []) (choice_short (Stores a)) (choice_form (Stores a)) h
node_named (WriteIndex a) j h = numbered_name (choice_word (WriteIndex a)) a (j ∷ []) (choice_short (WriteIndex a)) (choice_form (WriteIndex a)) h
node_named (WriteData a) j h = numbered_name (choice_word (WriteData a)) a (j ∷ []) (choice_short (WriteData a)) (choice_form (WriteData a)) h
node_named (Reads a b) j h = numbered_name (choice_word (Reads a b)) a (b ∷ j ∷ []) (choice_short (Reads a b)) (choice_form (Reads a b)) h
node_named (ArrayIndex a b) j h = numbered_name (choice_word (ArrayIndex a b)) a (b ∷ j ∷ []) (choice_short (ArrayIndex a b)) (choice_form (ArrayIndex a b)) h
node_named (Puts a) j h = numbered_name (choice_word (Puts a)) a (j ∷ []) (choice_short (Puts a)) (choice_form (Puts a)) h
node_named (Token a) j h = numbered_name (choice_word (Token a)) a (j ∷ []) (choice_short (Token a)) (choice_form (Token a)) h
node_named (Takes a) j h = numbered_name (choice_word (Takes a)) a (j ∷ []) (choice_short (Takes a)) (choice_form (Takes a)) h
node_named (Address a) j h = numbered_name (choice_word (Address a)) a (j ∷ []) (choice_short (Address a)) (choice_form (Address a)) h
node_named (StoreEnable a) j h = numbered_name (choice_word (StoreEnable a)) a (j ∷ []) (choice_short (StoreEnable a)) (choice_form (StoreEnable a)) h
node_named (Data a) j h = numbered_name (choice_word (Data a)) a (j ∷ []) (choice_short (Data a)) (choice_form (Data a)) h

pub nets_named : NetsHaveNames
unfolding name starts_name goes_on is_keyword always_to_default defparam_to_event for_to_input instance_to_not notif0_to_real realtime_to_strong0 strong1_to_unsigned use_to_xor
nets_named State h = refl
nets_named Ended h = refl
nets_named Done h = refl
nets_named (Scalar a) h = numbered_name (word (Scalar a)) a ([]) (word_short (Scalar a)) (word_form (Scalar a)) h
nets_named (Variable a) h = numbered_name (word (Variable a)) a ([]) (word_short (Variable a)) (word_form (Variable a)) h
nets_named (Array a) h = numbered_name (word (Array a)) a ([]) (word_short (Array a)) (word_form (Array a)) h
nets_named (Has a) h = numbered_name (word (Has a)) a ([]) (word_short (Has a)) (word_form (Has a)) h
nets_named (Dout a) h = numbered_name (word (Dout a)) a ([]) (word_short (Dout a)) (word_form (Dout a)) h
nets_named (Taken a) h = numbered_name (word (Taken a)) a ([]) (word_short (Taken a)) (word_form (Taken a)) h
nets_named (Din a) h = numbered_name (word (Din a)) a ([]) (word_short (Din a)) (word_form (Din a)) h
nets_named (Wr a) h = numbered_name (word (Wr a)) a ([]) (word_short (Wr a)) (word_form (Wr a)) h
nets_named (Rdy a) h = numbered_name (word (Rdy a)) a ([]) (word_short (Rdy a)) (word_form (Rdy a)) h
nets_named (Ack a) h = numbered_name (word (Ack a)) a ([]) (word_short (Ack a)) (word_form (Ack a)) h
nets_named (Rdata a) h = numbered_name (word (Rdata a)) a ([]) (word_short (Rdata a)) (word_form (Rdata a)) h
nets_named (Addr a) h = numbered_name (word (Addr a)) a ([]) (word_short (Addr a)) (word_form (Addr a)) h
nets_named (Wdata a) h = numbered_name (word (Wdata a)) a ([]) (word_short (Wdata a)) (word_form (Wdata a)) h
nets_named (We a) h = numbered_name (word (We a)) a ([]) (word_short (We a)) (word_form (We a)) h
nets_named (Plain a) h = numbered_name (word (Plain a)) a ([]) (word_short (Plain a)) (word_form (Plain a)) h
nets_named (Datum a) h = numbered_name (word (Datum a)) a ([]) (word_short (Datum a)) (word_form (Datum a)) h
nets_named (Eot a) h = numbered_name (word (Eot a)) a ([]) (word_short (Eot a)) (word_form (Eot a)) h
nets_named (At a) h = numbered_name (word (At a)) a ([]) (word_short (At a)) (word_form (At a)) h
nets_named (Go a) h = numbered_name (word (Go a)) a ([]) (word_short (Go a)) (word_form (Go a)) h
nets_named (Inside a) h = numbered_name (word (Inside a)) a ([]) (word_short (Inside a)) (word_form (Inside a)) h
nets_named (Into a) h = numbered_name (word (Into a)) a ([]) (word_short (Into a)) (word_form (Into a)) h
nets_named (Packed a) h = numbered_name (word (Packed a)) a ([]) (word_short (Packed a)) (word_form (Packed a)) h
nets_named (Reset a) h = numbered_name (word (Reset a)) a ([]) (word_short (Reset a)) (word_form (Reset a)) h
nets_named (Next a) h = numbered_name (word (Next a)) a ([]) (word_short (Next a)) (word_form (Next a)) h
nets_named (Value a b) h = numbered_name (word (Value a b)) a (b ∷ []) (word_short (Value a b)) (word_form (Value a b)) h
nets_named (Index a b) h = numbered_name (word (Index a b)) a (b ∷ []) (word_short (Index a b)) (word_form (Index a b)) h
nets_named (ReadIndex a b c) h = numbered_name (word (ReadIndex a b c)) a (b ∷ c ∷ []) (word_short (ReadIndex a b c)) (word_form (ReadIndex a b c)) h
nets_named (ReadInside a b) h = numbered_name (word (ReadInside a b)) a (b ∷ []) (word_short (ReadInside a b)) (word_form (ReadInside a b)) h
nets_named (ReadOn a b) h = numbered_name (word (ReadOn a b)) a (b ∷ []) (word_short (ReadOn a b)) (word_form (ReadOn a b)) h
nets_named (Raw a b) h = numbered_name (word (Raw a b)) a (b ∷ []) (word_short (Raw a b)) (word_form (Raw a b)) h
nets_named (Answer a b) h = numbered_name (word (Answer a b)) a (b ∷ []) (word_short (Answer a b)) (word_form (Answer a b)) h
nets_named (Node c j) h = node_named c j h
