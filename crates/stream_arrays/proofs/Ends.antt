-- The end of a text that is written out.
use Rattle.std.proofs.Common.{◌≡◌, ◌≤◌, Bool, true, false, cond, List, [], length, Option, Some, None, Ok, Err, refl, sym, ap, subst, ◌∙◌, zero-add, arith}
use Rattle.std.specs.Prelude.{nat_le}
use Rattle.std.proofs.lemmas.Bool.Decides.{nat_tests}
use Rattle.tapa_base.specs.Gaps.{Bytes}
use Rattle.tapa_syntax.specs.declared.lexeme.Lexeme.{Lexeme}
use Rattle.stream_arrays.specs.declared.fault.ArrayCode.TheVariants.{A4}
use Rattle.stream_arrays.specs.declared.fault.ArrayRefusal.{ArrayRefusal}
use Rattle.stream_arrays.specs.declared.fault.ArrayRefusal.TheVariants.{Fault, OutOfMemory}
use Rattle.stream_arrays.specs.Answers.{IsArrayCause}
use Rattle.stream_arrays.specs.Written.{Outcome, and_then, faulty, most, within_most, whole, written_out}
use Rattle.stream_arrays.specs.Writing.{more}

-- the text, or that it is too long
abbrev pub told : Option Bytes → Outcome Bytes
told (Some out) = Ok out
told None = faulty A4 (record { line = 1; col = 1 })

told_once : (t : Bytes) → within_most t ≡ told (more (Some []) t)
told_once t = by (nat_le (length t) most) ∙ ap (λ n. told (cond (nat_le n most) (Some t) None)) (sym (zero-add (length t)))
  where
    by : (b : Bool) → cond b (Ok t) (faulty A4 (record { line = 1; col = 1 })) ≡ told (cond b (Some t) None)
    by true = refl
    by false = refl

pub finished : (o : Outcome Bytes) (out : Option Bytes) → and_then o (λ t. Ok (more (Some []) t)) ≡ Ok out → and_then o within_most ≡ told out
finished (Ok t) out e = told_once t ∙ ap told (let f : more (Some []) t ≡ out = cc in f)
finished (Err g) out e = absurd (cc)

pub cause_finished : (e : ArrayRefusal) (o : Outcome Bytes) → IsArrayCause e (and_then o (λ t. Ok (more (Some []) t))) → IsArrayCause e (and_then o within_most)
cause_finished OutOfMemory o h = tt
cause_finished (Fault f) (Ok t) h = absurd (cc)
cause_finished (Fault f) (Err g) h = let t : g ≡ f = cc in ap (λ z. Err z) t

pub is_within : (text : Bytes) (ls : List Lexeme) (out : Bytes) → written_out text ls ≡ Ok out → length out ≤ most
is_within text ls out e = by (whole text ls) e
  where
    inside : (t : Bytes) (b : Bool) → nat_le (length t) most ≡ b → cond b (Ok t) (faulty A4 (record { line = 1; col = 1 })) ≡ Ok out → length out ≤ most
    inside t true h g = let f : t ≡ out = cc in let k : length t ≤ most = grind (arith, nat_tests) in subst (λ z. length z ≤ most) f k
    inside t false h g = absurd (cc)

    by : (o : Outcome Bytes) → and_then o within_most ≡ Ok out → length out ≤ most
    by (Ok t) g = inside t (nat_le (length t) most) refl g
    by (Err f) g = absurd (cc)
