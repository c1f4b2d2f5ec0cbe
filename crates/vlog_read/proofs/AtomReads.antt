-- Words of atoms.
use Rattle.std.proofs.Common.{◌≡◌, ◌⊎◌, inl, inr, ℕ, ◌≤◌, Bool, true, false, cond, nat_le, List, [], ◌∷◌, ◌++◌, length, codes, Option, Some, None, bytes_eq, refl, sym, ap, subst, ◌∙◌, arith}
use Rattle.std.proofs.lemmas.Bool.Decides.{nat_tests}
use Rattle.std.proofs.lemmas.Bool.{le-leb}
use Rattle.vlog_tree.specs.declared.tree.Atom.{Atom}
use Rattle.vlog_tree.specs.declared.tree.Atom.TheVariants.{Net, Part as PartSelect, Literal}
use Rattle.vlog_tree.specs.declared.tree.BinaryOp.{BinaryOp}
use Rattle.vlog_tree.specs.declared.tree.BinaryOp.TheVariants.{Plus, Minus, Times, Divide, Remainder, And, Or, Xor, ShiftLeft, ShiftRight, Equals, Differs, Less}
use Rattle.vlog_tree.specs.declared.tree.Value.TheVariants.{Plain, Invert, Binary, Choose, Concat, Repeat, Cell}
use Rattle.vlog_tree.specs.declared.tree.Step.TheVariants.{NonblockingAssign, MemoryAssign}
use Rattle.vlog_tree.specs.declared.tree.Item.TheVariants.{Assign}
use Rattle.vlog_tree.specs.Form.{ModuleTree}
use Rattle.vlog_tree.specs.Spelling.{Word, op_word}
use Rattle.vlog_tree.specs.Clamped.{clamped_width, clamped_atom}
use Rattle.tapa_base.specs.Spans.{Is}
use Rattle.vlog_lex.specs.Numerals.{IsLiteral}
use Rattle.vlog_lex.specs.Grammar.{SpellsOperator}
use Rattle.vlog_lex.specs.declared.coming.Coming.TheVariants.{Nothing, Semicolon, RightBracket, Colon, BracketSemicolon, BraceEnd}
use Rattle.vlog_read.specs.declared.state.ModuleDraft.{ModuleDraft}
use Rattle.vlog_read.specs.declared.state.Purpose.{Purpose}
use Rattle.vlog_read.specs.declared.state.Purpose.TheVariants.{First, Inverted, Right, Yes, No, Joined, Copied, Assigned, Stored}
use Rattle.vlog_read.specs.declared.state.ValueState.TheVariants.{AtomStart, AtomNext, AtomHigh, AtomLow, AtomEnd}
use Rattle.vlog_read.specs.declared.state.BlockState.TheVariants.{StepStart}
use Rattle.vlog_read.specs.declared.state.ItemState.TheVariants.{ItemStart}
use Rattle.vlog_read.specs.declared.state.State.TheVariants.{Item, Value, Block}
use Rattle.vlog_lex.specs.ReadNumerals.{is_number, literal_of}
use Rattle.vlog_read.specs.ValueReading.{Next, at, behind, with_item, with_step, driven, atom_by, atom_start, arithmetic_of, bits_of, comparison_of, or_else, operator_of, right_by, value_next, concat_next, atom_end, atom_next, cell_index, atom_high, atom_low}
use Rattle.vlog_read.specs.Finishing.{Left, Words, Named, OneAtom, ItemBehind, Driven, ValueEnd, MoreAtoms, AtomBehind, Index, Low, HighOrIndex, NameEnd, AnAtom}
use Rattle.vlog_lex.proofs.NumberWords.{number_no_name, name_no_literal, literal_is, of_literal}
use Rattle.vlog_read.proofs.IsRead.{Follows, Reads, IsRead, as_read, at_word, same_word, no_read, guard_read, fixed_read, word_or, name_or, name_read, number_or, number_read}

-- ---- operators

pub operator_first : (op : BinaryOp) (i j : List Word) → SpellsOperator op i j → i ≡ op_word op ∷ j
operator_first Plus i j e = e
operator_first Minus i j e = e
operator_first Times i j e = e
operator_first Divide i j e = e
operator_first Remainder i j e = e
operator_first And i j e = e
operator_first Or i j e = e
operator_first Xor i j e = e
operator_first ShiftLeft i j e = e
operator_first ShiftRight i j e = e
operator_first Equals i j e = e
operator_first Differs i j e = e
operator_first Less i j e = e

operator_spells : (op : BinaryOp) (i j : List Word) → i ≡ op_word op ∷ j → SpellsOperator op i j
operator_spells Plus i j e = e
operator_spells Minus i j e = e
operator_spells Times i j e = e
operator_spells Divide i j e = e
operator_spells Remainder i j e = e
operator_spells And i j e = e
operator_spells Or i j e = e
operator_spells Xor i j e = e
operator_spells ShiftLeft i j e = e
operator_spells ShiftRight i j e = e
operator_spells Equals i j e = e
operator_spells Differs i j e = e
operator_spells Less i j e = e

operator_is : (op : BinaryOp) → operator_of (op_word op) ≡ Some op
operator_is Plus = refl
operator_is Minus = refl
operator_is Times = refl
operator_is Divide = refl
operator_is Remainder = refl
operator_is And = refl
operator_is Or = refl
operator_is Xor = refl
operator_is ShiftLeft = refl
operator_is ShiftRight = refl
operator_is Equals = refl
operator_is Differs = refl
operator_is Less = refl

-- each operator that a word may be has this word
abbrev Spelled : Word → Option BinaryOp → Type 0
Spelled w o = (op : BinaryOp) → o ≡ Some op → w ≡ op_word op

none_spelled : (w : Word) → Spelled w None
none_spelled w op e = absurd cc

some_same : (x y : BinaryOp) → (let p : Option BinaryOp = Some x in let q : Option BinaryOp = Some y in p ≡ q) → x ≡ y
some_same x y e = cc

one_spelled : (w : Word) (op : BinaryOp) (o : Option BinaryOp) → Spelled w o → Spelled w (cond (bytes_eq w (op_word op)) (Some op) o)
one_spelled w op o h = by_test (bytes_eq w (op_word op)) refl
  where
    by_test : (t : Bool) → bytes_eq w (op_word op) ≡ t → Spelled w (cond t (Some op) o)
    by_test true e = λ found is. same_word w (op_word op) e ∙ ap op_word (some_same op found is)
    by_test false e = h

either_spelled : (w : Word) (a b : Option BinaryOp) → Spelled w a → Spelled w b → Spelled w (or_else a b)
either_spelled w None b h k = k
either_spelled w (Some op) b h k = h

of_operator : (w : Word) → Spelled w (operator_of w)
of_operator w =
    either_spelled w (arithmetic_of w) (or_else (bits_of w) (comparison_of w))
    (one_spelled w Plus _ (one_spelled w Minus _ (one_spelled w Times _ (one_spelled w Divide _ (one_spelled w Remainder _ (none_spelled w))))))
    (either_spelled w (bits_of w) (comparison_of w) (one_spelled w And _ (one_spelled w Or _ (one_spelled w Xor _ (one_spelled w ShiftLeft _ (one_spelled w ShiftRight _ (none_spelled w))))))
    (one_spelled w Equals _ (one_spelled w Differs _ (one_spelled w Less _ (none_spelled w)))))

module _ (cs : List ModuleTree) where
  -- ---- what is left behind an atom

  -- no cell of a memory but where the first atom of a value stands
  pub plain_atom : (d : ModuleDraft) (p : Purpose) → ((m : Word) (i : List Word) → Index cs d p m i → ⊥) → (i : List Word) → AnAtom cs d p i → OneAtom (AtomBehind cs d p) i
  plain_atom d p none i (inl h) = h
  plain_atom d p none i (inr (m, j, name, (t, opening, h))) = absurd (none m t h)

  abbrev Operators : ModuleDraft → Word → Atom → Left
  Operators d y a i = (op : BinaryOp) × (j : List Word) × SpellsOperator op i j × OneAtom (λ b. Driven cs d y (Binary a op b)) j

  operators_read : (d : ModuleDraft) (y : Word) (a : Atom) → IsRead cs (λ w. right_by d y a (operator_of w)) ⊥ (Operators d y a)
  operators_read d y a = record { to = there; from = back }
    where
      there : (i : List Word) → Operators d y a i → Reads cs (λ w. right_by d y a (operator_of w)) ⊥ i
      there i (op, j, spells, h) =
          at_word cs (λ w. right_by d y a (operator_of w)) ⊥ i (op_word op) j (operator_first op i j spells) (subst (λ (o : Option BinaryOp). Follows cs (right_by d y a o) j) (sym (operator_is op)) (inl h))

      by_found : (w : Word) (t : List Word) (o : Option BinaryOp) → operator_of w ≡ o → Follows cs (right_by d y a o) t → Operators d y a (w ∷ t)
      by_found w t None e x = absurd x
      by_found w t (Some op) e x = (op, t, operator_spells op (w ∷ t) t (ap (λ (u : Word). u ∷ t) (of_operator w op e)), plain_atom d (Right y a op) (λ m i h. h) t x)

      back : (i : List Word) → Reads cs (λ w. right_by d y a (operator_of w)) ⊥ i → Operators d y a i
      back [] x = absurd x
      back (w ∷ t) x = by_found w t (operator_of w) refl x

  pub value_next_read : (d : ModuleDraft) (y : Word) (a : Atom) → IsRead cs (value_next d y a) ⊥ (ValueEnd cs d y a)
  value_next_read d y a =
      as_read (word_or cs (codes ";") (driven d Nothing y (Plain a)) (word_or cs (codes "?") (at (Value (AtomStart d (Yes y a)))) (operators_read d y a) refl) refl) (λ i. there i) (λ i. back i)
    where
      there : (i : List Word) → Driven cs d y (Plain a) i ⊎ (Words (codes "?" ∷ []) (AnAtom cs d (Yes y a)) i ⊎ Operators d y a i) → ValueEnd cs d y a i
      there i (inl h) = inl h
      there i (inr (inl (t, mark, h))) = inr (inl (t, mark, plain_atom d (Yes y a) (λ m i h. h) t h))
      there i (inr (inr h)) = inr (inr h)

      back : (i : List Word) → ValueEnd cs d y a i → Driven cs d y (Plain a) i ⊎ (Words (codes "?" ∷ []) (AnAtom cs d (Yes y a)) i ⊎ Operators d y a i)
      back i (inl h) = inl h
      back i (inr (inl (t, mark, h))) = inr (inl (t, mark, inl h))
      back i (inr (inr h)) = inr (inr h)

  le_of : (a b : ℕ) → nat_le a b ≡ true → a ≤ b
  le_of a b h = grind (arith, nat_tests)

  abbrev Joins : ModuleDraft → Word → List Atom → Left
  Joins d y atoms i = Words (codes "," ∷ []) (AnAtom cs d (Joined y atoms)) i ⊎ ((nat_le 2 (length atoms) ≡ true) × ItemBehind cs (codes "}" ∷ codes ";" ∷ []) d (Assign y (Concat atoms)) i)

  pub concat_next_read : (d : ModuleDraft) (y : Word) (atoms : List Atom) → IsRead cs (concat_next d y atoms) ⊥ (MoreAtoms cs d y atoms)
  concat_next_read d y atoms =
      as_read (word_or cs (codes ",") (at (Value (AtomStart d (Joined y atoms)))) (guard_read cs (codes "}") (nat_le 2 (length atoms)) (driven d Semicolon y (Concat atoms))) refl) (λ i. there i) (λ i. back i)
    where
      there : (i : List Word) → Joins d y atoms i → MoreAtoms cs d y atoms i
      there i (inl (t, comma, inl (a, x, atom, (more, j, each, two, rest)))) = (a ∷ more, j, (x, (t, comma, atom), each), two, rest)
      there i (inl (t, comma, inr (m, j, name, (u, opening, h)))) = absurd h
      there i (inr (two, rest)) = ([], i, refl, le_of 2 (length atoms) two, rest)

      back : (i : List Word) → MoreAtoms cs d y atoms i → Joins d y atoms i
      back i ([], j, e, two, (k, close, rest)) = inr (le-leb 2 (length atoms) two, (k, e ∙ close, rest))
      back i (a ∷ more, j, (x, (t, comma, atom), each), two, rest) = inl (t, comma, inl (a, x, atom, (more, j, each, two, rest)))

  pub atom_end_read : (d : ModuleDraft) (p : Purpose) (a : Atom) → IsRead cs (atom_end d p a) ⊥ (AtomBehind cs d p a)
  atom_end_read d (First y) a = value_next_read d y a
  atom_end_read d (Inverted y) a = fixed_read cs (codes ";") (driven d Nothing y (Invert a))
  atom_end_read d (Right y left op) a = fixed_read cs (codes ";") (driven d Nothing y (Binary left op a))
  atom_end_read d (Yes y c) a =
      as_read (fixed_read cs (codes ":") (at (Value (AtomStart d (No y c a))))) (λ i x. (x.0, x.1, plain_atom d (No y c a) (λ m i h. h) x.0 x.2)) (λ i x. (x.0, x.1, inl x.2))
  atom_end_read d (No y c chosen) a = fixed_read cs (codes ";") (driven d Nothing y (Choose c chosen a))
  atom_end_read d (Joined y atoms) a = concat_next_read d y (atoms ++ a ∷ [])
  atom_end_read d (Copied y n) a = fixed_read cs (codes "}") (behind BraceEnd (Item (ItemStart (with_item d (Assign y (Repeat n a))))))
  atom_end_read d (Assigned s x) a = fixed_read cs (codes ";") (at (Block (StepStart d (with_step s (NonblockingAssign x a)))))
  atom_end_read d (Stored s m x) a = fixed_read cs (codes ";") (at (Block (StepStart d (with_step s (MemoryAssign m x a)))))

  -- ---- atoms

  no_bracket : (d : ModuleDraft) (p : Purpose) (a : Atom) → atom_end d p a (codes "[") ≡ None
  no_bracket d (First y) a = refl
  no_bracket d (Inverted y) a = refl
  no_bracket d (Right y left op) a = refl
  no_bracket d (Yes y c) a = refl
  no_bracket d (No y c chosen) a = refl
  no_bracket d (Joined y atoms) a = refl
  no_bracket d (Copied y n) a = refl
  no_bracket d (Assigned s x) a = refl
  no_bracket d (Stored s m x) a = refl

  pub atom_next_read : (d : ModuleDraft) (p : Purpose) (x : Word) → IsRead cs (atom_next d p x) ⊥ (NameEnd cs d p x)
  atom_next_read d p x = word_or cs (codes "[") (at (Value (AtomHigh d p x))) (atom_end_read d p (Net x)) (no_bracket d p (Net x))

  index_read : (d : ModuleDraft) (p : Purpose) (m : Word) → IsRead cs (cell_index d p m) ⊥ (Index cs d p m)
  index_read d (First y) m = name_read cs (λ x. driven d BracketSemicolon y (Cell m x))
  index_read d (Inverted y) m = no_read cs
  index_read d (Right y left op) m = no_read cs
  index_read d (Yes y c) m = no_read cs
  index_read d (No y c chosen) m = no_read cs
  index_read d (Joined y atoms) m = no_read cs
  index_read d (Copied y n) m = no_read cs
  index_read d (Assigned s x) m = no_read cs
  index_read d (Stored s n x) m = no_read cs

  no_index : (d : ModuleDraft) (p : Purpose) (m w : Word) → is_number w ≡ true → cell_index d p m w ≡ None
  no_index d (First y) m w h = ap (λ t. cond {A = Next} t (Some (driven d BracketSemicolon y (Cell m w))) None) (number_no_name w h)
  no_index d (Inverted y) m w h = refl
  no_index d (Right y left op) m w h = refl
  no_index d (Yes y c) m w h = refl
  no_index d (No y c chosen) m w h = refl
  no_index d (Joined y atoms) m w h = refl
  no_index d (Copied y n) m w h = refl
  no_index d (Assigned s x) m w h = refl
  no_index d (Stored s n x) m w h = refl

  pub atom_high_read : (d : ModuleDraft) (p : Purpose) (x : Word) → IsRead cs (atom_high d p x) ⊥ (HighOrIndex cs d p x)
  atom_high_read d p x = number_or cs (λ n. behind Colon (Value (AtomLow d p x (clamped_width n)))) (index_read d p x) (no_index d p x)

  pub atom_low_read : (d : ModuleDraft) (p : Purpose) (x : Word) (high : ℕ) → IsRead cs (atom_low d p x high) ⊥ (Low cs d p x high)
  atom_low_read d p x high = number_read cs (λ n. behind RightBracket (Value (AtomEnd d p (PartSelect x high (clamped_width n)))))

  abbrev Literals : ModuleDraft → Purpose → Left
  Literals d p i = (width : ℕ) × (value : ℕ) × (j : List Word) × Is (IsLiteral width value) i j × AtomBehind cs d p (clamped_atom (Literal width value)) j

  literals_read : (d : ModuleDraft) (p : Purpose) → IsRead cs (λ w. atom_by d p (literal_of w)) ⊥ (Literals d p)
  literals_read d p = record { to = there; from = back }
    where
      there : (i : List Word) → Literals d p i → Reads cs (λ w. atom_by d p (literal_of w)) ⊥ i
      there i (width, value, j, (w, literal, is), h) =
          at_word cs (λ w. atom_by d p (literal_of w)) ⊥ i w j is (subst (λ (o : Option Atom). Follows cs (atom_by d p o) j) (sym (literal_is width value w literal)) h)

      by_found : (w : Word) (t : List Word) (o : Option Atom) → literal_of w ≡ o → Follows cs (atom_by d p o) t → Literals d p (w ∷ t)
      by_found w t None e x = absurd x
      by_found w t (Some a) e x = let l = of_literal w a e in (l.0, l.1, t, (w, l.2, refl), subst (λ (b : Atom). AtomBehind cs d p b t) l.3 x)

      back : (i : List Word) → Reads cs (λ w. atom_by d p (literal_of w)) ⊥ i → Literals d p i
      back [] x = absurd x
      back (w ∷ t) x = by_found w t (literal_of w) refl x

  pub atom_start_read : (d : ModuleDraft) (p : Purpose) → IsRead cs (atom_start d p) ⊥ (AnAtom cs d p)
  atom_start_read d p =
      as_read (name_or cs (λ x. at (Value (AtomNext d p x))) (literals_read d p) (λ w e. ap (λ (o : Option Atom). atom_by d p o) (name_no_literal w e))) (λ i. there i) (λ i. back i)
    where
      there : (i : List Word) → Named (λ x. NameEnd cs d p x) i ⊎ Literals d p i → AnAtom cs d p i
      there i (inl (x, t, name, inl (u, opening, inl (high, v, first, (a, colon, (low, b, second, (j, close, h))))))) = inl (PartSelect x high low, j, (t, name, (u, opening, (v, first, (a, colon, (b, second, close))))), h)
      there i (inl (x, t, name, inl (u, opening, inr h))) = inr (x, t, name, (u, opening, h))
      there i (inl (x, j, name, inr h)) = inl (Net x, j, name, h)
      there i (inr (width, value, j, literal, h)) = inl (Literal width value, j, literal, h)

      back : (i : List Word) → AnAtom cs d p i → Named (λ x. NameEnd cs d p x) i ⊎ Literals d p i
      back i (inl (Net x, j, name, h)) = inl (x, j, name, inr h)
      back i (inl (PartSelect x high low, j, (t, name, (u, opening, (v, first, (a, colon, (b, second, close))))), h)) = inl (x, t, name, inl (u, opening, inl (high, v, first, (a, colon, (low, b, second, (j, close, h))))))
      back i (inl (Literal width value, j, literal, h)) = inr (width, value, j, literal, h)
      back i (inr (x, t, name, (u, opening, h))) = inl (x, t, name, inl (u, opening, inr h))
