-- Words of what drives a net.
use Rattle.std.proofs.Common.{◌≡◌, ◌⊎◌, inl, inr, ◌≤◌, length, arith, true, false, cond, List, [], ◌∷◌, ◌++◌, codes, fold, Option, Some, None, refl, sym, ap, subst, ◌∙◌}
use Rattle.std.proofs.lemmas.List.{length-append}
use Rattle.vlog_tree.specs.declared.tree.Atom.{Atom}
use Rattle.vlog_tree.specs.declared.tree.Value.{Value as ValueTree}
use Rattle.vlog_tree.specs.declared.tree.Value.TheVariants.{Plain, Invert, Binary, Choose, Concat, Repeat, Cell}
use Rattle.vlog_tree.specs.declared.tree.Item.TheVariants.{Assign}
use Rattle.vlog_tree.specs.Form.{ModuleTree}
use Rattle.vlog_tree.specs.Names.{starts_name, is_name}
use Rattle.vlog_tree.specs.Spelling.{Word}
use Rattle.vlog_tree.specs.Clamped.{clamped_width, clamped_value, clamped_atom}
use Rattle.vlog_lex.specs.Spans.{Takes, SeparatedTwo}
use Rattle.vlog_lex.specs.Grammar.{SpellsAtom, SpellsValue}
use Rattle.vlog_lex.specs.declared.coming.Coming.TheVariants.{Equals, LeftBrace}
use Rattle.vlog_read.specs.declared.state.ModuleDraft.{ModuleDraft}
use Rattle.vlog_read.specs.declared.state.Purpose.TheVariants.{First, Inverted, Joined, Copied}
use Rattle.vlog_read.specs.declared.state.ValueState.TheVariants.{ValueStart, BraceStart, AtomStart, AtomNext}
use Rattle.vlog_read.specs.declared.state.State.TheVariants.{Value}
use Rattle.vlog_lex.specs.ReadNumerals.{is_number, literal_of}
use Rattle.vlog_read.specs.ValueReading.{Next, at, behind, assign_name, atom_by, atom_start, value_start, brace_start}
use Rattle.vlog_read.specs.Finishing.{Left, Words, Named, ItemBehind, Driven, AnAtom, InBraces, Drives, put_atom}
use Rattle.vlog_lex.proofs.NumberWords.{number_no_name, number_no_literal}
use Rattle.vlog_read.proofs.IsRead.{IsRead, as_read, word_or, name_read, number_or}
use Rattle.vlog_read.proofs.Folded.{all_atoms}
use Rattle.vlog_read.proofs.AtomReads.{atom_start_read}

-- atoms that are put leave those before them
few : (more xs : List Atom) → 2 ≤ length xs → 2 ≤ length (fold put_atom xs more)
few [] xs h = h
few (a ∷ more) xs h = few more (xs ++ clamped_atom a ∷ []) (omega (arith, length-append xs (clamped_atom a ∷ []), h))

number_by : (d : ModuleDraft) (y w : Word) → is_name w ≡ false → literal_of w ≡ None → atom_start d (Joined y []) w ≡ None
number_by d y w e f = ap (λ t. cond {A = Next} t (Some (at (Value (AtomNext d (Joined y []) w)))) (atom_by d (Joined y []) (literal_of w))) e ∙ ap (λ (o : Option Atom). atom_by d (Joined y []) o) f

module _ (cs : List ModuleTree) where
  pub assign_name_read : (d : ModuleDraft) → IsRead cs (assign_name d) ⊥ (Named (λ x. Words (codes "=" ∷ []) (Drives cs d x)))
  assign_name_read d = name_read cs (λ x. behind Equals (Value (ValueStart d x)))

  no_tilde : (d : ModuleDraft) (y : Word) → atom_start d (First y) (codes "~") ≡ None
  unfolding starts_name
  no_tilde d y = refl

  no_brace : (d : ModuleDraft) (y : Word) → atom_start d (First y) (codes "{") ≡ None
  unfolding starts_name
  no_brace d y = refl

  abbrev Ways : ModuleDraft → Word → Left
  Ways d y i = Words (codes "~" ∷ []) (AnAtom cs d (Inverted y)) i ⊎ (Words (codes "{" ∷ []) (InBraces cs d y) i ⊎ AnAtom cs d (First y) i)

  -- two atoms or more in braces
  joined_in : (d : ModuleDraft) (y : Word) (atoms : List Atom) (i j : List Word) → SeparatedTwo (Takes (codes ",")) SpellsAtom atoms i j → ItemBehind cs (codes "}" ∷ codes ";" ∷ []) d (Assign y (Concat (fold put_atom [] atoms))) j → AnAtom cs d (Joined y []) i
  joined_in d y [] i j none h = absurd none
  joined_in d y (a ∷ []) i j none h = absurd none
  joined_in d y (a ∷ b ∷ more) i j (t, first, rest) h = inl (a, t, first, (b ∷ more, j, rest, two, h))
    where
      two : 2 ≤ length (fold put_atom (clamped_atom a ∷ []) (b ∷ more))
      two = few more (clamped_atom a ∷ clamped_atom b ∷ []) (omega arith)

  value_in : (d : ModuleDraft) (y : Word) (v : ValueTree) (i j : List Word) → SpellsValue v i j → Driven cs d y (clamped_value v) j → Ways d y i
  value_in d y (Plain a) i j atom h = inr (inr (inl (a, j, atom, inl h)))
  value_in d y (Invert a) i j (t, tilde, atom) h = inl (t, tilde, inl (a, j, atom, h))
  value_in d y (Binary a op b) i j (t, first, (u, operator, second)) h = inr (inr (inl (a, t, first, inr (inr (op, u, operator, (b, j, second, h))))))
  value_in d y (Choose c a b) i j (t, first, (u, mark, (v, second, (w, colon, third)))) h = inr (inr (inl (c, t, first, inr (inl (u, mark, (a, v, second, (w, colon, (b, j, third, h))))))))
  value_in d y (Concat atoms) i j (t, opening, (u, inside, close)) h =
      inr (inl (t, opening, inr (joined_in d y atoms t u inside (j, close, subst (λ (xs : List Atom). Driven cs d y (Concat xs) j) (sym (all_atoms atoms)) h))))
  value_in d y (Repeat n a) i j (t, opening, (u, count, (v, inner, (w, atom, (x, close, closes))))) h = inr (inl (t, opening, inl (n, u, count, (v, inner, inl (a, w, atom, (x, close, (j, closes, h)))))))
  value_in d y (Cell m x) i j (t, memory, (u, opening, (v, index, close))) h = inr (inr (inr (m, t, memory, (u, opening, (x, v, index, (j, close, h))))))

  first_out : (d : ModuleDraft) (y : Word) (i : List Word) → AnAtom cs d (First y) i → Drives cs d y i
  first_out d y i (inl (a, j, atom, inl h)) = (Plain a, j, atom, h)
  first_out d y i (inl (c, t, first, inr (inl (u, mark, (a, v, second, (w, colon, (b, j, third, h))))))) = (Choose c a b, j, (t, first, (u, mark, (v, second, (w, colon, third)))), h)
  first_out d y i (inl (a, t, first, inr (inr (op, u, operator, (b, j, second, h))))) = (Binary a op b, j, (t, first, (u, operator, second)), h)
  first_out d y i (inr (m, t, memory, (u, opening, (x, v, index, (j, close, h))))) = (Cell m x, j, (t, memory, (u, opening, (v, index, close))), h)

  -- of atoms in braces there are two
  joined_out : (d : ModuleDraft) (y : Word) (i t : List Word) → i ≡ codes "{" ∷ t → AnAtom cs d (Joined y []) t → Drives cs d y i
  joined_out d y i t opening (inr (m, u, name, (v, bracket, h))) = absurd h
  joined_out d y i t opening (inl (a, u, first, ([], v, e, two, rest))) = absurd (omega (arith, two))
  joined_out d y i t opening (inl (a, u, first, (b ∷ more, v, each, two, (j, close, h)))) =
      (Concat (a ∷ b ∷ more), j, (t, opening, (v, (u, first, each), close)), subst (λ (xs : List Atom). Driven cs d y (Concat xs) j) (all_atoms (a ∷ b ∷ more)) h)

  braces_out : (d : ModuleDraft) (y : Word) (i t : List Word) → i ≡ codes "{" ∷ t → InBraces cs d y t → Drives cs d y i
  braces_out d y i t opening (inl (n, u, count, (v, inner, inl (a, w, atom, (x, close, (j, closes, h)))))) = (Repeat n a, j, (t, opening, (u, count, (v, inner, (w, atom, (x, close, closes))))), h)
  braces_out d y i t opening (inl (n, u, count, (v, inner, inr (m, w, name, (x, bracket, h))))) = absurd h
  braces_out d y i t opening (inr h) = joined_out d y i t opening h

  pub value_start_read : (d : ModuleDraft) (y : Word) → IsRead cs (value_start d y) ⊥ (Drives cs d y)
  value_start_read d y =
      as_read (word_or cs (codes "~") (at (Value (AtomStart d (Inverted y)))) (word_or cs (codes "{") (at (Value (BraceStart d y))) (atom_start_read cs d (First y)) (no_brace d y)) (no_tilde d y)) (λ i. there i) (λ i. back i)
    where
      there : (i : List Word) → Ways d y i → Drives cs d y i
      there i (inl (t, tilde, inl (a, j, atom, h))) = (Invert a, j, (t, tilde, atom), h)
      there i (inl (t, tilde, inr (m, u, name, (v, opening, h)))) = absurd h
      there i (inr (inl (t, opening, h))) = braces_out d y i t opening h
      there i (inr (inr h)) = first_out d y i h

      back : (i : List Word) → Drives cs d y i → Ways d y i
      back i (v, j, spells, h) = value_in d y v i j spells h

  number_no_atom : (d : ModuleDraft) (y w : Word) → is_number w ≡ true → atom_start d (Joined y []) w ≡ None
  number_no_atom d y w h = number_by d y w (number_no_name w h) (number_no_literal w h)

  pub brace_start_read : (d : ModuleDraft) (y : Word) → IsRead cs (brace_start d y) ⊥ (InBraces cs d y)
  brace_start_read d y = number_or cs (λ n. behind LeftBrace (Value (AtomStart d (Copied y (clamped_width n))))) (atom_start_read cs d (Joined y [])) (number_no_atom d y)
