-- A net is told by its name.
use Rattle.std.proofs.Common.{◌≡◌, ℕ, ◌+◌, ◌%◌, ◌^◌, ◌<◌, Bool, true, cond, ltb, List, [], ◌∷◌, ◌++◌, get_or, drop, append_assoc, refl, sym, ap, ◌∙◌, arith}
use Rattle.std.specs.Prelude.{codes, decimal, bytes_eq}
use Rattle.std.specs.List.{list_all}
use Rattle.std.proofs.lemmas.Bool.{lt-ltb, and_from as yes_and}
use Rattle.std.proofs.lemmas.Fmt.{decimal_by_steps, decimal_injective}
use Rattle.std.proofs.lemmas.List.{append-nil}
use Rattle.vlog_tree.specs.Table.{Name}
use Rattle.hw_build.specs.Trees.{numbered}
use Rattle.hw_build.proofs.Forms.{all_append}
use Rattle.hw_lines.specs.Nets.{Choice, Net, choice_word, choice_numbers, word, numbers, spelled, name, ToState, ToEnd, Clear, Set, NextValue, Stores, WriteIndex, WriteData, Reads, ArrayIndex, Puts, Token, Takes, Address, StoreEnable, Data, State, Ended, Done, Scalar, Variable, Array, Has, Dout, Taken, Din, Wr, Rdy, Ack, Rdata, Addr, Wdata, We, Plain, Datum, Eot, At, Go, Inside, Into, Packed, Reset, Next, Value, Index, ReadIndex, ReadInside, ReadOn, Raw, Answer, Node}
use Rattle.hw_lines.specs.Names.{AreSmall, NamesTellNets}
use Rattle.tapa_base.proofs.Tests.{both_true}

-- below `_`, as digits and the letters of words are
abbrev pub is_below : ℕ → Bool
is_below c = ltb c 95

-- a byte of a word: no `_`
abbrev pub is_letter : ℕ → Bool
is_letter c = ltb 95 c

abbrev no_mark : ℕ → Bool
no_mark c = cond (ltb c 95) true (ltb 95 c)

digits_unmarked : (n : ℕ) → n < 2 ^ 64 → list_all no_mark (decimal n) ≡ true
digits_unmarked n h =
    decimal_by_steps (λ k ds. list_all no_mark ds ≡ true)
    (λ k l. yes_and (no_mark (48 + k)) true (below (48 + k) (lt-ltb (48 + k) 95 (omega arith))) refl)
    (λ k ds l e. all_append no_mark ds ((48 + k % 10) ∷ []) e (yes_and (no_mark (48 + k % 10)) true (below (48 + k % 10) (lt-ltb (48 + k % 10) 95 (omega arith))) refl))
    n h where
      below : (c : ℕ) → ltb c 95 ≡ true → no_mark c ≡ true
      below c e = ap (λ b. cond b true (ltb 95 c)) e

marked : (c : ℕ) → 95 ≡ c → no_mark c ≡ true → ⊥
marked c e h = let t : no_mark 95 ≡ true = ap no_mark e ∙ h in cc

-- the numbers behind a word
abbrev pub tail_of : List ℕ → Name
tail_of [] = []
tail_of (n ∷ ns) = 95 ∷ decimal n ++ tail_of ns

pub spelled_tail : (w : Name) (ns : List ℕ) → spelled w ns ≡ w ++ tail_of ns
unfolding numbered
spelled_tail w [] = sym (append-nil w)
spelled_tail w (n ∷ ns) = spelled_tail (numbered w n) ns ∙ append_assoc w (95 ∷ decimal n) (tail_of ns)

-- texts without a mark that go on with a mark or not at all
cut : (xs ys : Name) (ns ms : List ℕ) → list_all no_mark xs ≡ true → list_all no_mark ys ≡ true → xs ++ tail_of ns ≡ ys ++ tail_of ms → (xs ≡ ys) × (tail_of ns ≡ tail_of ms)
cut [] [] ns ms h k e = (refl, e)
cut [] (y ∷ ys) [] ms h k e = cc
cut [] (y ∷ ys) (n ∷ ns) ms h k e = absurd (marked y (ap (λ l. get_or l 0 0) e) (both_true (no_mark y) (list_all no_mark ys) k).0)
cut (x ∷ xs) [] ns [] h k e = cc
cut (x ∷ xs) [] ns (m ∷ ms) h k e = absurd (marked x (sym (ap (λ l. get_or l 0 0) e)) (both_true (no_mark x) (list_all no_mark xs) h).0)
cut (x ∷ xs) (y ∷ ys) ns ms h k e =
    let first : x ≡ y = ap (λ l. get_or l 0 0) e in
    let rest : xs ++ tail_of ns ≡ ys ++ tail_of ms = ap (drop 1) e in
    let r = cut xs ys ns ms (both_true (no_mark x) (list_all no_mark xs) h).1 (both_true (no_mark y) (list_all no_mark ys) k).1 rest in
    (ap (λ z. z ∷ xs) first ∙ ap (λ zs. y ∷ zs) r.0, r.1)

same_tails : (ns ms : List ℕ) → AreSmall ns → AreSmall ms → tail_of ns ≡ tail_of ms → ns ≡ ms
same_tails [] [] h k e = refl
same_tails [] (m ∷ ms) h k e = cc
same_tails (n ∷ ns) [] h k e = cc
same_tails (n ∷ ns) (m ∷ ms) h k e =
    let r = cut (decimal n) (decimal m) ns ms (digits_unmarked n h.0) (digits_unmarked m k.0) (ap (drop 1) e) in
    ap (λ z. z ∷ ns) (decimal_injective n m h.0 k.0 r.0) ∙ ap (λ zs. m ∷ zs) (same_tails ns ms h.1 k.1 r.1)

-- a word and numbers are told by their text
pub same_spelled : (w u : Name) (ns ms : List ℕ) → list_all no_mark w ≡ true → list_all no_mark u ≡ true → AreSmall ns → AreSmall ms → spelled w ns ≡ spelled u ms → (w ≡ u) × (ns ≡ ms)
same_spelled w u ns ms h k a b e =
    let r = cut w u ns ms h k (sym (spelled_tail w ns) ∙ e ∙ spelled_tail u ms) in
    (r.0, same_tails ns ms a b r.1)

choice_unmarked : (c : Choice) → list_all no_mark (choice_word c) ≡ true
choice_unmarked ToState = refl
choice_unmarked ToEnd = refl
choice_unmarked (Clear a) = refl
choice_unmarked (Set a) = refl
choice_unmarked (NextValue a) = refl
choice_unmarked (Stores a) = refl
choice_unmarked (WriteIndex a) = refl
choice_unmarked (WriteData a) = refl
choice_unmarked (Reads a b) = refl
choice_unmarked (ArrayIndex a b) = refl
choice_unmarked (Puts a) = refl
choice_unmarked (Token a) = refl
choice_unmarked (Takes a) = refl
choice_unmarked (Address a) = refl
choice_unmarked (StoreEnable a) = refl
choice_unmarked (Data a) = refl

unmarked : (x : Net) → list_all no_mark (word x) ≡ true
unmarked State = refl
unmarked Ended = refl
unmarked Done = refl
unmarked (Scalar a) = refl
unmarked (Variable a) = refl
unmarked (Array a) = refl
unmarked (Has a) = refl
unmarked (Dout a) = refl
unmarked (Taken a) = refl
unmarked (Din a) = refl
unmarked (Wr a) = refl
unmarked (Rdy a) = refl
unmarked (Ack a) = refl
unmarked (Rdata a) = refl
unmarked (Addr a) = refl
unmarked (Wdata a) = refl
unmarked (We a) = refl
unmarked (Plain a) = refl
unmarked (Datum a) = refl
unmarked (Eot a) = refl
unmarked (At a) = refl
unmarked (Go a) = refl
unmarked (Inside a) = refl
unmarked (Into a) = refl
unmarked (Packed a) = refl
unmarked (Reset a) = refl
unmarked (Next a) = refl
unmarked (Value a b) = refl
unmarked (Index a b) = refl
unmarked (ReadIndex a b c) = refl
unmarked (ReadInside a b) = refl
unmarked (ReadOn a b) = refl
unmarked (Raw a b) = refl
unmarked (Answer a b) = refl
unmarked (Node c j) = choice_unmarked c

-- back from a word and numbers
abbrev nth : List ℕ → ℕ → ℕ
nth ns i = get_or ns i 0

abbrev back : Name → List ℕ → Net
back w ns =
    cond (bytes_eq w (codes "state")) (State) (
    cond (bytes_eq w (codes "ended")) (Ended) (
    cond (bytes_eq w (codes "done")) (Done) (
    cond (bytes_eq w (codes "v")) (Scalar (nth ns 0)) (
    cond (bytes_eq w (codes "x")) (Variable (nth ns 0)) (
    cond (bytes_eq w (codes "a")) (Array (nth ns 0)) (
    cond (bytes_eq w (codes "has")) (Has (nth ns 0)) (
    cond (bytes_eq w (codes "dout")) (Dout (nth ns 0)) (
    cond (bytes_eq w (codes "take")) (Taken (nth ns 0)) (
    cond (bytes_eq w (codes "din")) (Din (nth ns 0)) (
    cond (bytes_eq w (codes "wr")) (Wr (nth ns 0)) (
    cond (bytes_eq w (codes "rdy")) (Rdy (nth ns 0)) (
    cond (bytes_eq w (codes "ack")) (Ack (nth ns 0)) (
    cond (bytes_eq w (codes "rdata")) (Rdata (nth ns 0)) (
    cond (bytes_eq w (codes "addr")) (Addr (nth ns 0)) (
    cond (bytes_eq w (codes "wdata")) (Wdata (nth ns 0)) (
    cond (bytes_eq w (codes "we")) (We (nth ns 0)) (
    cond (bytes_eq w (codes "plain")) (Plain (nth ns 0)) (
    cond (bytes_eq w (codes "datum")) (Datum (nth ns 0)) (
    cond (bytes_eq w (codes "eot")) (Eot (nth ns 0)) (
    cond (bytes_eq w (codes "at")) (At (nth ns 0)) (
    cond (bytes_eq w (codes "go")) (Go (nth ns 0)) (
    cond (bytes_eq w (codes "inside")) (Inside (nth ns 0)) (
    cond (bytes_eq w (codes "into")) (Into (nth ns 0)) (
    cond (bytes_eq w (codes "packed")) (Packed (nth ns 0)) (
    cond (bytes_eq w (codes "reset")) (Reset (nth ns 0)) (
    cond (bytes_eq w (codes "next")) (Next (nth ns 0)) (
    cond (bytes_eq w (codes "e")) (Value (nth ns 0) (nth ns 1)) (
    cond (bytes_eq w (codes "i")) (Index (nth ns 0) (nth ns 1)) (
    cond (bytes_eq w (codes "r")) (ReadIndex (nth ns 0) (nth ns 1) (nth ns 2)) (
    cond (bytes_eq w (codes "within")) (ReadInside (nth ns 0) (nth ns 1)) (
    cond (bytes_eq w (codes "reads")) (ReadOn (nth ns 0) (nth ns 1)) (
    cond (bytes_eq w (codes "raw")) (Raw (nth ns 0) (nth ns 1)) (
    cond (bytes_eq w (codes "q")) (Answer (nth ns 0) (nth ns 1)) (
    cond (bytes_eq w (codes "to")) (Node ToState (nth ns 0)) (
    cond (bytes_eq w (codes "last")) (Node ToEnd (nth ns 0)) (
    cond (bytes_eq w (codes "zero")) (Node (Clear (nth ns 0)) (nth ns 1)) (
    cond (bytes_eq w (codes "set")) (Node (Set (nth ns 0)) (nth ns 1)) (
    cond (bytes_eq w (codes "in")) (Node (NextValue (nth ns 0)) (nth ns 1)) (
    cond (bytes_eq w (codes "store")) (Node (Stores (nth ns 0)) (nth ns 1)) (
    cond (bytes_eq w (codes "place")) (Node (WriteIndex (nth ns 0)) (nth ns 1)) (
    cond (bytes_eq w (codes "content")) (Node (WriteData (nth ns 0)) (nth ns 1)) (
    cond (bytes_eq w (codes "read")) (Node (Reads (nth ns 0) (nth ns 1)) (nth ns 2)) (
    cond (bytes_eq w (codes "spot")) (Node (ArrayIndex (nth ns 0) (nth ns 1)) (nth ns 2)) (
    cond (bytes_eq w (codes "put")) (Node (Puts (nth ns 0)) (nth ns 1)) (
    cond (bytes_eq w (codes "token")) (Node (Token (nth ns 0)) (nth ns 1)) (
    cond (bytes_eq w (codes "get")) (Node (Takes (nth ns 0)) (nth ns 1)) (
    cond (bytes_eq w (codes "ask")) (Node (Address (nth ns 0)) (nth ns 1)) (
    cond (bytes_eq w (codes "save")) (Node (StoreEnable (nth ns 0)) (nth ns 1)) (
    cond (bytes_eq w (codes "data")) (Node (Data (nth ns 0)) (nth ns 1)) (
    State))))))))))))))))))))))))))))))))))))))))))))))))))

choice_back : (c : Choice) (j : ℕ) → back (choice_word c) (choice_numbers c ++ j ∷ []) ≡ Node c j
choice_back ToState j = refl
choice_back ToEnd j = refl
choice_back (Clear a) j = refl
choice_back (Set a) j = refl
choice_back (NextValue a) j = refl
choice_back (Stores a) j = refl
choice_back (WriteIndex a) j = refl
choice_back (WriteData a) j = refl
choice_back (Reads a b) j = refl
choice_back (ArrayIndex a b) j = refl
choice_back (Puts a) j = refl
choice_back (Token a) j = refl
choice_back (Takes a) j = refl
choice_back (Address a) j = refl
choice_back (StoreEnable a) j = refl
choice_back (Data a) j = refl

back_is : (x : Net) → back (word x) (numbers x) ≡ x
back_is State = refl
back_is Ended = refl
back_is Done = refl
back_is (Scalar a) = refl
back_is (Variable a) = refl
back_is (Array a) = refl
back_is (Has a) = refl
back_is (Dout a) = refl
back_is (Taken a) = refl
back_is (Din a) = refl
back_is (Wr a) = refl
back_is (Rdy a) = refl
back_is (Ack a) = refl
back_is (Rdata a) = refl
back_is (Addr a) = refl
back_is (Wdata a) = refl
back_is (We a) = refl
back_is (Plain a) = refl
back_is (Datum a) = refl
back_is (Eot a) = refl
back_is (At a) = refl
back_is (Go a) = refl
back_is (Inside a) = refl
back_is (Into a) = refl
back_is (Packed a) = refl
back_is (Reset a) = refl
back_is (Next a) = refl
back_is (Value a b) = refl
back_is (Index a b) = refl
back_is (ReadIndex a b c) = refl
back_is (ReadInside a b) = refl
back_is (ReadOn a b) = refl
back_is (Raw a b) = refl
back_is (Answer a b) = refl
back_is (Node c j) = choice_back c j

pub names_tell : NamesTellNets
unfolding name
names_tell x y a b e =
    let r = same_spelled (word x) (word y) (numbers x) (numbers y) (unmarked x) (unmarked y) a b e in
    sym (back_is x) ∙ ap (λ w. back w (numbers x)) r.0 ∙ ap (back (word y)) r.1 ∙ back_is y
