-- Outputs that have the result of a choice among what states give.
use Rattle.std.proofs.Common.{◌≡◌, ℕ, ◌<◌, Bool, true, false, cond, eqb, ◌&&◌, List, [], ◌∷◌, ◌++◌, length, inl, refl, sym, ap, subst, ◌∙◌, arith, ⊎_elim}
use Rattle.std.proofs.lemmas.Bool.{cases_eq, eq-eqb, ne_eqb}
use Rattle.vlog_tree.specs.declared.tree.Atom.{Atom}
use Rattle.vlog_tree.specs.declared.tree.Value.TheVariants.{Plain}
use Rattle.tapa_base.specs.Lists.{Has}
use Rattle.vlog_tree.specs.Table.{Name, one_if}
use Rattle.vlog_tree.specs.Cycle.{Cycle, Follows, atom_value, driven}
use Rattle.hw_build.specs.Elements.{Element, Output, built}
use Rattle.hw_build.proofs.Driven.{output_driven}
use Rattle.hw_build.specs.Scope.{each}
use Rattle.hw_build.specs.Choices.{Entry, choice}
use Rattle.hw_build.specs.Fits.{IsAmong}
use Rattle.hw_build.proofs.Parts.{has_each}
use Rattle.hw_lines.specs.declared.nets.Choice.{Choice}
use Rattle.hw_lines.specs.declared.nets.Net.{Net}
use Rattle.hw_lines.specs.declared.nets.Net.TheVariants.{State as StateNet, Ended, Done}
use Rattle.hw_lines.specs.Nets.{name, front}
use Rattle.hw_lines.specs.Shape.{Shape, state_count}
use Rattle.hw_lines.specs.States.{net}
use Rattle.hw_lines.specs.Effects.{entry, at, effect, entries}
use Rattle.hw_lines.specs.Texts.{any, pick, result_of, result, root, stream_outputs, memory_outputs, task_elements}
use Rattle.hw_lines.proofs.Members.{all, outputs_in, among_left, among_right, among_each}
use Rattle.hw_task_laws.proofs.acts.Moves.{only_picked, only_set, only_clear, none_clear}

pub and_true : (b : Bool) → b ≡ (b && true)
and_true true = refl
and_true false = refl

pub and_false : (b : Bool) → false ≡ (b && false)
and_false true = refl
and_false false = refl

-- an entry for one thing alone
pub at_same : (x y : ℕ) (es : List Entry) → x ≡ y → at x y es ≡ es
at_same x y es e = ap (λ b. cond b es []) (eq-eqb x y e)

pub at_other : (x y : ℕ) (es : List Entry) → (x ≡ y → ⊥) → at x y es ≡ []
at_other x y es e = ap (λ b. cond b es []) (ne_eqb x y e)

-- ---- where outputs stand

module _ (S : Shape) where
  abbrev done_port : List Element
  done_port = Output 1 (name Done) (Plain (net Ended)) ∷ []

  pub stream_outs : (s : ℕ) → s < length S.streams → IsAmong (stream_outputs S s) (all S)
  stream_outs s l =
      among_each (stream_outputs S) (length S.streams) s (all S) l
      (among_right done_port (each (stream_outputs S) (length S.streams)) (all S)
      (among_left (done_port ++ each (stream_outputs S) (length S.streams)) (each (memory_outputs S) (length S.memories)) (all S) (outputs_in S)))

  pub memory_outs : (m : ℕ) → m < length S.memories → IsAmong (memory_outputs S m) (all S)
  memory_outs m l =
      among_each (memory_outputs S) (length S.memories) m (all S) l
      (among_right (done_port ++ each (stream_outputs S) (length S.streams)) (each (memory_outputs S) (length S.memories)) (all S) (outputs_in S))

-- ---- what they have in a cycle in a state

module _ (S : Shape) (title : Name) (run : ℕ → Cycle) (f : Follows (built title (task_elements S)) run) (n k : ℕ) (here : (run n).net (name StateNet) ≡ k) (low : k < state_count S) where
  abbrev own : Choice → Entry → Type 0
  own c e = Has (entries S c) e

  own_entry : (c : Choice) (e : Entry) → effect S c k ≡ e ∷ [] → own c e
  own_entry c e is = has_each (effect S c) (state_count S) k e low (subst (λ l. Has l e) (sym is) (inl refl))

  out_is : (w : ℕ) (x : Name) (c : Choice) → Has (all S) (Output w x (result S w c)) → (es : List Entry) → entries S c ≡ es → (run n).net x ≡ driven f.sizes w (run n) (result_of w (front c) es)
  out_is w x c h es e = output_driven title (task_elements S) run f w x (result S w c) h n ∙ ap (λ l. driven f.sizes w (run n) (result_of w (front c) l)) e

  -- where something is to choose
  out_root : (w : ℕ) (x : Name) (c : Choice) → Has (all S) (Output w x (result S w c)) → (e : Entry) → own c e → (run n).net x ≡ (run n).net (root S c)
  out_root w x c h e has = by_entries (entries S c) refl where
    by_entries : (es : List Entry) → entries S c ≡ es → (run n).net x ≡ (run n).net (root S c)
    by_entries [] is = absurd (subst (λ l. Has l e) is has)
    by_entries (d ∷ es) is = out_is w x c h (d ∷ es) is ∙ ap (λ l. (run n).net (choice (front c) l)) (sym is)

  -- a state that gives the choice nothing
  pub out_none : (w : ℕ) (x : Name) (c : Choice) → Has (all S) (Output w x (result S w c)) → IsAmong (any S c) (all S) → effect S c k ≡ [] → (run n).net x ≡ 0
  out_none w x c h among none = by_entries (entries S c) refl where
    by_entries : (es : List Entry) → entries S c ≡ es → (run n).net x ≡ 0
    by_entries [] is = out_is w x c h [] is
    by_entries (d ∷ es) is =
        out_is w x c h (d ∷ es) is ∙ ap (λ l. (run n).net (choice (front c) l)) (sym is)
        ∙ none_clear S title run f n k here low c among (subst (λ l. 0 < length l) (sym is) (omega arith)) none

  -- one that gives it a condition
  pub out_bit : (w : ℕ) (x : Name) (c : Choice) → Has (all S) (Output w x (result S w c)) → IsAmong (any S c) (all S) → (e : Entry) → effect S c k ≡ e ∷ []
      → (b : Bool) → (run n).net e.condition ≡ one_if b → (run n).net x ≡ one_if b
  out_bit w x c h among e is true on = out_root w x c h e (own_entry c e is) ∙ only_set S title run f n k here low c among e is on
  out_bit w x c h among e is false on = out_root w x c h e (own_entry c e is) ∙ only_clear S title run f n k here low c among e is on

  -- and one that gives it a value
  pub out_value : (w : ℕ) (x : Name) (c : Choice) → Has (all S) (Output w x (result S w c)) → IsAmong (pick S w c) (all S) → (e : Entry) → effect S c k ≡ e ∷ []
      → (run n).net e.condition ≡ 1 → (run n).net x ≡ atom_value (run n) e.value
  out_value w x c h among e is on = out_root w x c h e (own_entry c e is) ∙ only_picked S title run f n k here low c w among e is on

  -- a condition for one thing alone
  pub out_at : (w : ℕ) (x : Name) (c : Choice) → Has (all S) (Output w x (result S w c)) → IsAmong (any S c) (all S) → (p q : ℕ) (e : Net) (a : Atom) → effect S c k ≡ at p q (entry e a)
      → (b : Bool) → (run n).net (name e) ≡ one_if b → (run n).net x ≡ one_if (b && eqb p q)
  out_at w x c h among p q e a is b on =
      ⊎_elim
      (λ (s : p ≡ q).
      out_bit w x c h among (record { condition = name e; value = a }) (is ∙ at_same p q (entry e a) s) b on ∙ ap one_if (and_true b) ∙ ap (λ z. one_if (b && z)) (sym (eq-eqb p q s)))
      (λ (s : p ≡ q → ⊥). out_none w x c h among (is ∙ at_other p q (entry e a) s) ∙ ap one_if (and_false b) ∙ ap (λ z. one_if (b && z)) (sym (ne_eqb p q s)))
      (cases_eq p q)
