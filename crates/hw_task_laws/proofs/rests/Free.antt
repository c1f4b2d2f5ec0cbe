-- The nets that rest on no input, told by the words that they begin with.
use Rattle.std.proofs.Common.{◌≡◌, ℕ, zero, suc, Bool, true, false, cond, eqb, ◌||◌, List, [], ◌∷◌, ◌++◌, refl, sym, ap, subst, ◌∙◌}
use Rattle.std.specs.Prelude.{codes, not}
use Rattle.std.specs.List.{list_all}
use Rattle.vlog_tree.specs.declared.tree.Atom.{Atom}
use Rattle.vlog_tree.specs.declared.tree.Atom.TheVariants.{Net as NetAtom}
use Rattle.vlog_tree.specs.declared.tree.BinaryOp.{BinaryOp}
use Rattle.vlog_tree.specs.declared.tree.Value.{Value}
use Rattle.vlog_tree.specs.declared.tree.Value.TheVariants.{Binary, Choose, Concat}
use Rattle.vlog_tree.specs.Loops.{atom_nets, value_nets}
use Rattle.vlog_tree.specs.Names.{is_among}
use Rattle.vlog_tree.specs.Labels.{rst}
use Rattle.vlog_tree.specs.Table.{Name, clk}
use Rattle.hw_build.specs.Elements.{Element, Input, Output, Wire}
use Rattle.hw_build.specs.Trees.{numbered}
use Rattle.hw_build.specs.Order.{is_closed_at}
use Rattle.hw_build.proofs.Forms.{all_append}
use Rattle.hw_build.specs.Scope.{each}
use Rattle.hw_build.specs.Choices.{Entry}
use Rattle.hw_lines.specs.declared.nets.Choice.{Choice}
use Rattle.hw_lines.specs.declared.nets.Net.{Net}
use Rattle.hw_lines.specs.declared.nets.Choice.TheVariants.{ToState}
use Rattle.hw_lines.specs.declared.nets.Net.TheVariants.{State, Node}
use Rattle.hw_lines.specs.Nets.{word, choice_word, choice_numbers, numbers, name}
use Rattle.hw_lines.specs.Texts.{by_end, unless_none}
use Rattle.hw_lines.proofs.Names.{tail_of, spelled_tail}
use Rattle.hw_task_laws.proofs.names.Rows.{AreRow}
use Rattle.std.proofs.lemmas.Bool.{and_from as yes_and, or_right}

-- the bytes before the first mark
abbrev pub word_of : Name → Name
word_of [] = []
word_of (c ∷ cs) = cond (eqb c 95) [] (c ∷ word_of cs)

abbrev pub free_words : List Name
free_words =
    codes "done" ∷ codes "x" ∷ codes "state" ∷ codes "ended" ∷ codes "at" ∷ codes "e" ∷ codes "i" ∷ codes "r" ∷ codes "within" ∷ codes "reads" ∷ codes "raw" ∷ codes "q" ∷ codes "packed"
    ∷ codes "read" ∷ codes "spot" ∷ codes "put" ∷ codes "token" ∷ codes "ask" ∷ codes "save" ∷ codes "data" ∷ codes "wr" ∷ codes "din" ∷ codes "addr" ∷ codes "wdata" ∷ codes "we" ∷ []

abbrev pub is_free_word : Name → Bool
is_free_word w = is_among free_words w

pub is_free : Name → Bool
is_free x = is_free_word (word_of x)

choice_back : (c : Choice) (j : ℕ) → word_of (choice_word c ++ tail_of (choice_numbers c ++ j ∷ [])) ≡ choice_word c
choice_back ToState j = refl
choice_back _ j = refl

word_back : (y : Net) → word_of (word y ++ tail_of (numbers y)) ≡ word y
word_back (Node c j) = choice_back c j
word_back State = refl
word_back _ = refl

-- a net is free by its word
pub free_by : (y : Net) → is_free (name y) ≡ is_free_word (word y)
unfolding name is_free
free_by y = ap (λ x. is_free_word (word_of x)) (spelled_tail (word y) (numbers y)) ∙ ap is_free_word (word_back y)

-- the clock and the reset are not
pub clk_bound : is_free clk ≡ false
unfolding is_free clk
clk_bound = refl

pub rst_bound : is_free rst ≡ false
unfolding is_free rst
rst_bound = refl

-- ---- what is free

abbrev pub Free : List Name → Type 0
Free xs = list_all is_free xs ≡ true

abbrev pub FreeAtom : Atom → Type 0
FreeAtom a = Free (atom_nets a)

abbrev pub FreeValue : Value → Type 0
FreeValue v = Free (value_nets v)

pub free_net : (x : Name) → is_free x ≡ true → FreeAtom (NetAtom x)
free_net x h = yes_and (is_free x) true h refl

pub free_binary : (a : Atom) (o : BinaryOp) (b : Atom) → FreeAtom a → FreeAtom b → FreeValue (Binary a o b)
free_binary a o b h k = all_append is_free (atom_nets a) (atom_nets b) h k

pub free_choose : (c a b : Atom) → FreeAtom c → FreeAtom a → FreeAtom b → FreeValue (Choose c a b)
free_choose c a b g h k = all_append is_free (atom_nets c) (atom_nets a ++ atom_nets b) g (all_append is_free (atom_nets a) (atom_nets b) h k)

pub free_concat : (a b : Atom) → FreeAtom a → FreeAtom b → FreeValue (Concat (a ∷ b ∷ []))
free_concat a b h k = all_append is_free (atom_nets a) (atom_nets b ++ []) h (all_append is_free (atom_nets b) [] k refl)

-- ---- elements that are closed

abbrev pub Closed : List Element → Type 0
Closed es = list_all (is_closed_at is_free) es ≡ true

pub wire_closed : (w : ℕ) (x : Name) (v : Value) → FreeValue v → is_closed_at is_free (Wire w x v) ≡ true
wire_closed w x v h = or_right (not (is_free x)) (list_all is_free (value_nets v)) h

pub bound_closed : (w : ℕ) (x : Name) (v : Value) → is_free x ≡ false → is_closed_at is_free (Wire w x v) ≡ true
bound_closed w x v h = ap (λ z. not z || list_all is_free (value_nets v)) h

pub output_closed : (w : ℕ) (x : Name) (v : Value) → FreeValue v → is_closed_at is_free (Output w x v) ≡ true
output_closed w x v h = or_right (not (is_free x)) (list_all is_free (value_nets v)) h

pub output_bound : (w : ℕ) (x : Name) (v : Value) → is_free x ≡ false → is_closed_at is_free (Output w x v) ≡ true
output_bound w x v h = ap (λ z. not z || list_all is_free (value_nets v)) h

pub input_closed : (w : ℕ) (x : Name) → is_free x ≡ false → is_closed_at is_free (Input w x) ≡ true
input_closed w x h = ap not h

-- wires with numbers, of which none is free
pub row_bound : (front : Name) (n : ℕ) (es : List Element) → AreRow front n es → ((i : ℕ) → is_free (numbered front i) ≡ false) → Closed es
row_bound front n [] h b = refl
row_bound front n (e ∷ es) h b =
    yes_and (is_closed_at is_free e) (list_all (is_closed_at is_free) es) (subst (λ z. is_closed_at is_free z ≡ true) (sym h.0.2) (bound_closed h.0.0 (numbered front n) h.0.1 (b n))) (row_bound front (suc n) es h.1 b)

pub one_closed : (e : Element) (es : List Element) → is_closed_at is_free e ≡ true → Closed es → Closed (e ∷ es)
one_closed e es h k = yes_and (is_closed_at is_free e) (list_all (is_closed_at is_free) es) h k

pub both_closed : (xs ys : List Element) → Closed xs → Closed ys → Closed (xs ++ ys)
both_closed xs ys h k = all_append (is_closed_at is_free) xs ys h k

pub each_closed : (f : ℕ → List Element) (n : ℕ) → ((k : ℕ) → Closed (f k)) → Closed (each f n)
each_closed f zero h = refl
each_closed f (suc n) h = both_closed (each f n) (f n) (each_closed f n h) (h n)

pub by_end_closed : (xs ys : List Element) (b : Bool) → Closed xs → Closed ys → Closed (by_end xs ys b)
by_end_closed xs ys true h k = h
by_end_closed xs ys false h k = k

pub unless_closed : (es : List Entry) (xs : List Element) → Closed xs → Closed (unless_none es xs)
unless_closed [] xs h = refl
unless_closed (e ∷ es) xs h = h
