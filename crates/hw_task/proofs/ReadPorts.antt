-- What the reads with one number ask for.
use Rattle.std.proofs.Common.{◌≡◌, ℕ, zero, suc, ◌+◌, ◌<◌, ◌≤◌, true, false, ltb, max, List, [], ◌∷◌, ◌++◌, length, get_or, map, Option, Some, None, refl, sym, ap, ◌∙◌, arith, add-one}
use Rattle.std.specs.Prelude.{option_map, slice_get}
use Rattle.std.proofs.lemmas.Bool.{ltb-true, ltb-false}
use Rattle.std.proofs.lemmas.List.{get_or-map, map_push}
use Rattle.tapa_base.specs.Kinds.{bits_of}
use Rattle.vlog_tree.specs.declared.tree.Atom.{Atom}
use Rattle.vlog_tree.specs.declared.tree.Atom.TheVariants.{Net, Literal}
use Rattle.vlog_tree.specs.declared.tree.Value.TheVariants.{Cell, Choose}
use Rattle.vlog_tree.specs.Form.{ModuleTree}
use Rattle.hw_build.specs.Elements.{Element, Wire, with_all}
use Rattle.hw_build.specs.Scope.{each}
use Rattle.hw_build.specs.Choices.{Entry as EntryForm, any_elements, pick_elements, choice}
use Rattle.hw_lines.specs.declared.nets.Choice.{Choice}
use Rattle.hw_lines.specs.declared.nets.Choice.TheVariants.{Reads, ArrayIndex}
use Rattle.hw_lines.specs.declared.nets.Net.TheVariants.{Array, At, Raw, Answer, ReadOn}
use Rattle.hw_lines.specs.Nets.{front, name}
use Rattle.hw_lines.specs.Shape.{Shape, array_kind, index_bits}
use Rattle.hw_lines.specs.States.{net, reads_at}
use Rattle.hw_lines.specs.Wires.{ArrayRead as ReadForm}
use Rattle.hw_lines.specs.Effects.{effect, entries, spot_of}
use Rattle.hw_lines.specs.Texts.{asked, asked_of, read_index, answered, most}
use Rattle.hw_nets.proofs.Grows.{both, each_next}
use Rattle.hw_expressions.specs.declared.reads.ArrayRead.{ArrayRead}
use Rattle.hw_expressions.specs.Reads.{read_form, read_forms}
use Rattle.hw_states.proofs.FirstStates.{each_at, each_length}
use Rattle.hw_task.specs.declared.reads.Asked.{Asked}
use Rattle.hw_task.specs.Asked.{asked_form, asked_at, AreAsked, IsOfReads, read_number, spot_given}

-- a read by its number
get_forms : (xs : List ArrayRead) (p : ℕ) → slice_get (read_forms xs) p ≡ option_map read_form (slice_get xs p)
get_forms [] zero = refl
get_forms [] (suc p) = refl
get_forms (x ∷ xs) zero = refl
get_forms (x ∷ xs) (suc p) = get_forms xs p

pub get_none : (xs ys : List ArrayRead) (p : ℕ) → ys ≡ xs → false ≡ ltb p (length ys) → slice_get xs p ≡ None
get_none xs ys p e f = past xs p (let h : length ys ≤ p = ltb-false p (length ys) (sym f) in let l : length ys ≡ length xs = ap length e in omega arith) where
  past : (zs : List ArrayRead) (q : ℕ) → length zs ≤ q → slice_get zs q ≡ None
  past [] zero h = refl
  past [] (suc q) h = refl
  past (z ∷ zs) zero h = absurd (omega arith)
  past (z ∷ zs) (suc q) h = past zs q (omega arith)

pub get_some : (xs ys : List ArrayRead) (p : ℕ) (x : ArrayRead) → ys ≡ xs → true ≡ ltb p (length ys) → x ≡ get_or ys p x → slice_get xs p ≡ Some x
get_some xs ys p x e f g =
    here xs p (let h : p < length ys = ltb-true p (length ys) (sym f) in let l : length ys ≡ length xs = ap length e in omega arith) ∙ ap Some (sym (g ∙ ap (λ zs. get_or zs p x) e)) where
      here : (zs : List ArrayRead) (q : ℕ) → q < length zs → slice_get zs q ≡ Some (get_or zs q x)
      here [] q h = absurd (omega arith)
      here (z ∷ zs) zero h = refl
      here (z ∷ zs) (suc q) h = here zs q (omega arith)

pub read_none : (S : Shape) (p k : ℕ) (xs : List ArrayRead) → read_forms xs ≡ reads_at S k → slice_get xs p ≡ None → slice_get (reads_at S k) p ≡ None
read_none S p k xs e n = ap (λ z. slice_get z p) (sym e) ∙ get_forms xs p ∙ ap (option_map read_form) n

pub read_some : (S : Shape) (p k : ℕ) (xs : List ArrayRead) (x : ArrayRead) → read_forms xs ≡ reads_at S k → slice_get xs p ≡ Some x → slice_get (reads_at S k) p ≡ Some (read_form x)
read_some S p k xs x e n = ap (λ z. slice_get z p) (sym e) ∙ get_forms xs p ∙ ap (option_map read_form) n

pub asked_none : (S : Shape) (p k : ℕ) (d : ModuleTree) → slice_get (reads_at S k) p ≡ None → d ≡ with_all d (asked S p k)
asked_none S p k d e = sym (ap (λ o. with_all d (asked_of S p k o)) e)

pub asked_some : (S : Shape) (p k : ℕ) (d f : ModuleTree) (r : ReadForm) → slice_get (reads_at S k) p ≡ Some r → f ≡ with_all d (asked_of S p k (Some r)) → f ≡ with_all d (asked S p k)
asked_some S p k d f r e g = g ∙ sym (ap (λ o. with_all d (asked_of S p k o)) e)

by_read : (S : Shape) (p k : ℕ) → Option ReadForm → Option (ℕ × Atom)
by_read S p k o = option_map (λ (r : ReadForm). (r.array, (read_index p k r).atom)) o

pub none_asked : (S : Shape) (p k : ℕ) → slice_get (reads_at S k) p ≡ None → None ≡ asked_at S p k
unfolding by_read
none_asked S p k e = sym (ap (by_read S p k) e)

pub some_asked : (S : Shape) (p k : ℕ) (r : ReadForm) (x : Asked) → slice_get (reads_at S k) p ≡ Some r → x.array ≡ r.array → x.index ≡ (read_index p k r).atom → asked_form (Some x) ≡ asked_at S p k
unfolding by_read
some_asked S p k r x e a i = ap (λ z. Some (z, x.index)) a ∙ ap (λ z. Some (r.array, z)) i ∙ sym (ap (by_read S p k) e)

-- of the first states
lengths : (xs : List (Option Asked)) → length (map asked_form xs) ≡ length xs
lengths [] = refl
lengths (x ∷ xs) = ap suc (lengths xs)

pub asked_count : (S : Shape) (p n : ℕ) (xs : List (Option Asked)) → AreAsked S p xs n → length xs ≡ n
asked_count S p n xs h = sym (lengths xs) ∙ ap length h.forms ∙ each_length (asked_at S p) n

pub one_more_asked : (S : Shape) (p k : ℕ) (xs : List (Option Asked)) (x : Option Asked) → AreAsked S p xs k → asked_form x ≡ asked_at S p k → AreAsked S p (xs ++ x ∷ []) (k + 1)
one_more_asked S p k xs x h e = record {
  forms = map_push asked_form xs x ∙ ap (λ zs. zs ++ asked_form x ∷ []) h.forms ∙ ap (λ z. each (λ i. asked_at S p i ∷ []) k ++ z ∷ []) e ∙ sym (each_next (λ i. asked_at S p i ∷ []) k);
}

pub asked_here : (S : Shape) (p n k : ℕ) (xs : List (Option Asked)) (x : Option Asked) → AreAsked S p xs n → k < n → x ≡ get_or xs k x → asked_form x ≡ asked_at S p k
asked_here S p n k xs x h l e =
    let c : length xs ≡ n = asked_count S p n xs h in
    ap asked_form e ∙ sym (get_or-map asked_form xs k x (asked_form x) (omega (arith, c, l))) ∙ ap (λ zs. get_or zs k (asked_form x)) h.forms ∙ each_at (asked_at S p) n k (asked_form x) l

-- what they give a choice
by_asked : (S : Shape) (c : Choice) (k : ℕ) → Option (ℕ × Atom) → List EntryForm
by_asked S c k None = []
by_asked S c k (Some q) = spot_given S c k q

read_given : (S : Shape) (p a k : ℕ) (o : Option ReadForm) → by_asked S (Reads p a) k (by_read S p k o) ≡ spot_of S (ReadOn k p) p a k o
unfolding by_asked by_read
read_given S p a k None = refl
read_given S p a k (Some r) = refl

place_given : (S : Shape) (p a k : ℕ) (o : Option ReadForm) → by_asked S (ArrayIndex p a) k (by_read S p k o) ≡ spot_of S (At k) p a k o
unfolding by_asked by_read
place_given S p a k None = refl
place_given S p a k (Some r) = refl

given_here : (S : Shape) (c : Choice) (k : ℕ) → IsOfReads c → (o : Option (ℕ × Atom)) → o ≡ asked_at S (read_number c) k → by_asked S c k o ≡ effect S c k
unfolding by_read
given_here S (Reads p a) k h o e = ap (by_asked S (Reads p a) k) e ∙ read_given S p a k (slice_get (reads_at S k) p)
given_here S (ArrayIndex p a) k h o e = ap (by_asked S (ArrayIndex p a) k) e ∙ place_given S p a k (slice_get (reads_at S k) p)
given_here S _ k h o e = absurd h

pub no_entry : (S : Shape) (c : Choice) (k : ℕ) (x : Option Asked) → IsOfReads c → asked_form x ≡ asked_at S (read_number c) k → x ≡ None → [] ≡ effect S c k
unfolding by_asked
no_entry S c k x h e n = given_here S c k h None (sym (ap asked_form n) ∙ e)

pub an_entry : (S : Shape) (c : Choice) (k : ℕ) (x : Option Asked) (y : Asked) → IsOfReads c → asked_form x ≡ asked_at S (read_number c) k → x ≡ Some y → spot_given S c k (y.array, y.index) ≡ effect S c k
unfolding by_asked
an_entry S c k x y h e n = given_here S c k h (Some (y.array, y.index)) (sym (ap asked_form n) ∙ e)

-- the port
pub answered_grows : (S : Shape) (p a : ℕ) (F P : List EntryForm) (c d e f : ModuleTree) → F ≡ entries S (Reads p a) → P ≡ entries S (ArrayIndex p a) → d ≡ with_all c (any_elements (front (Reads p a)) F)
    → e ≡ with_all d (pick_elements (index_bits S a) (front (ArrayIndex p a)) P)
    → f ≡ with_all e (Wire (bits_of (array_kind S a)) (name (Raw p a)) (Cell (name (Array a)) (choice (front (ArrayIndex p a)) P))
    ∷ Wire (bits_of (array_kind S a)) (name (Answer p a)) (Choose (Net (choice (front (Reads p a)) F)) (net (Raw p a)) (Literal (bits_of (array_kind S a)) 0)) ∷ [])
    → f ≡ with_all c (answered S p a)
answered_grows S p a F P c d e f is at x y z =
    let G : List EntryForm = entries S (Reads p a) in
    let H : List EntryForm = entries S (ArrayIndex p a) in
    let cells : List EntryForm → List EntryForm → List Element =
    λ (E I : List EntryForm). Wire (bits_of (array_kind S a)) (name (Raw p a)) (Cell (name (Array a)) (choice (front (ArrayIndex p a)) I))
    ∷ Wire (bits_of (array_kind S a)) (name (Answer p a)) (Choose (Net (choice (front (Reads p a)) E)) (net (Raw p a)) (Literal (bits_of (array_kind S a)) 0)) ∷ [] in
    both c e f (any_elements (front (Reads p a)) G ++ pick_elements (index_bits S a) (front (ArrayIndex p a)) H) (cells G H)
    (both c d e (any_elements (front (Reads p a)) G) (pick_elements (index_bits S a) (front (ArrayIndex p a)) H) (x ∙ ap (λ E. with_all c (any_elements (front (Reads p a)) E)) is)
    (y ∙ ap (λ E. with_all d (pick_elements (index_bits S a) (front (ArrayIndex p a)) E)) at))
    (z ∙ ap (λ E. with_all e (cells E P)) is ∙ ap (λ E. with_all e (cells G E)) at)

-- the most reads so far
pub most_more : (f : ℕ → ℕ) (k : ℕ) → most f (k + 1) ≡ max (most f k) (f k)
most_more f k = ap (most f) (add-one k)
