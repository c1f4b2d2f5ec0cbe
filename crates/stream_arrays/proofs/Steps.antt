-- What one form becomes, put together.
use Rattle.std.proofs.Common.{◌≡◌, ℕ, ◌-◌, ◌<◌, false, cond, length, take, drop, get_or, List, [], ◌∷◌, ◌++◌, Option, Some, None, Ok, Err, refl, sym, ap, subst, ◌∙◌, arith}
use Rattle.std.specs.Prelude.{unwrap_or, option_map, is_some}
use Rattle.std.proofs.lemmas.List.{take_all}
use Rattle.tapa_syntax.specs.Symbols.{text_of}
use Rattle.stream_arrays.specs.declared.fault.ArrayCode.TheVariants.{A3}
use Rattle.stream_arrays.specs.Reading.{IsStep}
use Rattle.tapa_base.specs.Gaps.{Bytes}
use Rattle.tapa_syntax.specs.declared.lexeme.Lexeme.{Lexeme}
use Rattle.stream_arrays.specs.declared.fault.ArrayRefusal.{ArrayRefusal}
use Rattle.stream_arrays.specs.declared.fault.ArrayRefusal.TheVariants.{Fault, OutOfMemory}
use Rattle.stream_arrays.specs.Answers.{IsArrayCause}
use Rattle.stream_arrays.specs.Forms.{Declaration, declaration, Invocation, invocation}
use Rattle.stream_arrays.specs.Words.{spaced}
use Rattle.stream_arrays.specs.Written.{Scope, Step, Outcome, and_then, declaration_step, invocation_step, element_step, argument_element, other_step, step, array_at, scope_behind, faulty}
use Rattle.stream_arrays.specs.Writing.{Writing, more, put, begin, said}
use Rattle.stream_arrays.proofs.Writers.{said_all, more_more}

-- the words of a form and the line feeds behind them
pub form_written : (w v u : Writing) (words : List Bytes) (feeds : Bytes) → more w.text [] ≡ w.text → v ≡ said (begin w) words → u ≡ put v feeds → u.text ≡ more w.text (spaced words ++ feeds)
form_written w v u words feeds h e g =
    ap (λ (z : Writing). z.text) g ∙ ap (λ (z : Writing). more z.text feeds) e ∙ ap (λ o. more o feeds) (said_all w.text words h) ∙ more_more w.text (spaced words) feeds

-- a cause stays one where more would follow
pub cause_then : {A B : Type 0} (e : ArrayRefusal) (o : Outcome A) (k : A → Outcome B) → IsArrayCause e o → IsArrayCause e (and_then o k)
cause_then OutOfMemory o k h = tt
cause_then (Fault f) (Ok a) k h = absurd (cc)
cause_then (Fault f) (Err g) k h = let t : g ≡ f = cc in ap (λ z. Err z) t

pub cause_behind : {A B : Type 0} (e : ArrayRefusal) (o : Outcome A) (a : A) (k : A → Outcome B) → o ≡ Ok a → IsArrayCause e (k a) → IsArrayCause e (and_then o k)
cause_behind e o a k g h = subst (λ z. IsArrayCause e (and_then z k)) (sym g) h

pub step_declared : (text : Bytes) (s : Scope) (before ls : List Lexeme) (d : Declaration) → declaration text ls ≡ Some d → step text s before ls ≡ declaration_step text s ls d
step_declared text s before ls d e =
    ap
    (λ o. unwrap_or (option_map (declaration_step text s ls) o)
    (unwrap_or (option_map (invocation_step text s ls) (invocation text ls)) (unwrap_or (option_map (element_step text s ls) (argument_element text s before ls)) (other_step text s before ls))))
    e

not_declared : (text : Bytes) (s : Scope) (before ls : List Lexeme) → declaration text ls ≡ None
    → step text s before ls ≡ unwrap_or (option_map (invocation_step text s ls) (invocation text ls)) (unwrap_or (option_map (element_step text s ls) (argument_element text s before ls)) (other_step text s before ls))
not_declared text s before ls e =
    ap
    (λ o. unwrap_or (option_map (declaration_step text s ls) o)
    (unwrap_or (option_map (invocation_step text s ls) (invocation text ls)) (unwrap_or (option_map (element_step text s ls) (argument_element text s before ls)) (other_step text s before ls))))
    e

pub step_invoked : (text : Bytes) (s : Scope) (before ls : List Lexeme) (v : Invocation) → declaration text ls ≡ None → invocation text ls ≡ Some v → step text s before ls ≡ invocation_step text s ls v
step_invoked text s before ls v d e =
    not_declared text s before ls d
    ∙ ap (λ o. unwrap_or (option_map (invocation_step text s ls) o) (unwrap_or (option_map (element_step text s ls) (argument_element text s before ls)) (other_step text s before ls))) e

pub step_element : (text : Bytes) (s : Scope) (before ls : List Lexeme) (p : ℕ × ℕ) → declaration text ls ≡ None → invocation text ls ≡ None → argument_element text s before ls ≡ Some p → step text s before ls ≡ element_step text s ls p
step_element text s before ls p d v e =
    not_declared text s before ls d
    ∙ ap (λ o. unwrap_or (option_map (invocation_step text s ls) o) (unwrap_or (option_map (element_step text s ls) (argument_element text s before ls)) (other_step text s before ls))) v
    ∙ ap (λ o. unwrap_or (option_map (element_step text s ls) o) (other_step text s before ls)) e

pub step_other : (text : Bytes) (s : Scope) (before ls : List Lexeme) → declaration text ls ≡ None → invocation text ls ≡ None → argument_element text s before ls ≡ None → step text s before ls ≡ other_step text s before ls
step_other text s before ls d v e =
    not_declared text s before ls d
    ∙ ap (λ o. unwrap_or (option_map (invocation_step text s ls) o) (unwrap_or (option_map (element_step text s ls) (argument_element text s before ls)) (other_step text s before ls))) v
    ∙ ap (λ o. unwrap_or (option_map (element_step text s ls) o) (other_step text s before ls)) e

-- a lexeme of no form was copied
pub other_done : (text : Bytes) (s : Scope) (before ls : List Lexeme) (d : Lexeme) (t : Scope) (w : Bytes) (o u : Option Bytes) → 0 < length ls → is_some (array_at text s.arrays before (get_or ls 0 d)) ≡ false
    → w ≡ text_of text (get_or ls 0 d) → t ≡ scope_behind text s before (get_or ls 0 d) (take (length ls - 1) (drop 1 ls)) → u ≡ more o w → (r : Step) × (other_step text s before ls ≡ Ok r) × IsStep r 1 t o u
other_done text s before [] d t w o u h a e f g = absurd (omega arith)
other_done text s before (l ∷ ls) d t w o u h a e f g = (
  record { written = text_of text l; scope = scope_behind text s before l ls; more = 0 },
  ap (λ z. cond z (faulty A3 l.place) (Ok (record { written = text_of text l; scope = scope_behind text s before l ls; more = 0 }))) a,
  record {
    scope = ap (scope_behind text s before l) (sym (take_all (length (l ∷ ls) - 1) ls (omega arith))) ∙ sym f;
    sized = refl;
    text = g ∙ ap (more o) e;
  },
)
