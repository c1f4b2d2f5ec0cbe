-- From one form of a text to the next.
use Rattle.std.proofs.Common.{◌≡◌, ℕ, zero, suc, ◌+◌, ◌-◌, ◌<◌, ◌≤◌, List, [], ◌∷◌, ◌++◌, length, take, drop, get_or, Option, Ok, Err, refl, sym, ap, subst, ◌∙◌, min, arith}
use Rattle.std.specs.Prelude.{slice_range}
use Rattle.std.proofs.Math.Seq.{take-add}
use Rattle.std.proofs.lemmas.List.{drop-drop}
use Rattle.tapa_base.specs.Gaps.{Bytes}
use Rattle.tapa_syntax.specs.declared.lexeme.Lexeme.{Lexeme}
use Rattle.stream_arrays.specs.Words.{end_of}
use Rattle.stream_arrays.specs.Written.{Scope, Step, Outcome, and_then, step, written_from}
use Rattle.stream_arrays.specs.Writing.{more}
use Rattle.stream_arrays.specs.declared.fault.ArrayRefusal.{ArrayRefusal}
use Rattle.stream_arrays.specs.Answers.{IsArrayCause}
use Rattle.stream_arrays.proofs.Steps.{cause_then}
use Rattle.stream_arrays.proofs.Writers.{more_more}

take_min : {A : Type 0} (n : ℕ) (xs : List A) → take (min n (length xs)) xs ≡ take n xs
take_min zero xs = ap (λ k. take k xs) (let e : min 0 (length xs) ≡ 0 = omega arith in e)
take_min (suc n) [] = ap (λ k. take k []) (let e : min (suc n) 0 ≡ 0 = omega arith in e)
take_min (suc n) (x ∷ xs) = ap (λ k. take k (x ∷ xs)) (let e : min (suc n) (suc (length xs)) ≡ suc (min n (length xs)) = omega arith in e) ∙ ap (λ z. x ∷ z) (take_min n xs)

drop_min : {A : Type 0} (n : ℕ) (xs : List A) → drop (min n (length xs)) xs ≡ drop n xs
drop_min zero xs = ap (λ k. drop k xs) (let e : min 0 (length xs) ≡ 0 = omega arith in e)
drop_min (suc n) [] = ap (λ k. drop k []) (let e : min (suc n) 0 ≡ 0 = omega arith in e)
drop_min (suc n) (x ∷ xs) = ap (λ k. drop k (x ∷ xs)) (let e : min (suc n) (suc (length xs)) ≡ suc (min n (length xs)) = omega arith in e) ∙ drop_min n xs

pub take_next : {A : Type 0} (at n : ℕ) (xs : List A) → take (at + min n (length (drop at xs))) xs ≡ take at xs ++ take n (drop at xs)
take_next at n xs = take-add at (min n (length (drop at xs))) xs ∙ ap (λ z. take at xs ++ z) (take_min n (drop at xs))

pub drop_next : {A : Type 0} (at n : ℕ) (xs : List A) → drop (at + min n (length (drop at xs))) xs ≡ drop n (drop at xs)
drop_next at n xs = sym (drop-drop (min n (length (drop at xs))) at xs) ∙ drop_min n (drop at xs)

pub cons_of : {A : Type 0} (xs : List A) (x : A) → 0 < length xs → x ≡ get_or xs 0 x → xs ≡ x ∷ drop 1 xs
cons_of [] x h e = absurd (omega arith)
cons_of (y ∷ ys) x h e = ap (λ z. z ∷ ys) (sym e)

more_thrice : (o : Option Bytes) (a b c : Bytes) → more o (a ++ (b ++ c)) ≡ more (more (more o a) b) c
more_thrice o a b c = sym (more_more (more o a) b c ∙ more_more o a (b ++ c))

abbrev pub ending : Option Bytes → Outcome Bytes → Outcome (Option Bytes)
ending w outcome = and_then outcome (λ t. Ok (more w t))

ends_behind : (w : Option Bytes) (a b : Bytes) (outcome : Outcome Bytes) → ending w (and_then outcome (λ rest. Ok (a ++ (b ++ rest)))) ≡ ending (more (more w a) b) outcome
ends_behind w a b (Ok t) = ap (λ z. Ok z) (more_thrice w a b t)
ends_behind w a b (Err e) = refl

-- one form was written
pub next_form : (text : Bytes) (turns : ℕ) (s : Scope) (before : List Lexeme) (at : ℕ) (l : Lexeme) (ls : List Lexeme) (r : Step) (w : Option Bytes) → step text s before (l ∷ ls) ≡ Ok r
    → ending w (written_from text (suc turns) s before at (l ∷ ls))
    ≡ ending (more (more w (slice_range text at l.from)) r.written) (written_from text turns r.scope (before ++ l ∷ take r.more ls) (end_of l.to (take r.more ls)) (drop r.more ls))
next_form text turns s before at l ls r w e =
    ap
    (λ x. ending w (and_then x (λ r. and_then (written_from text turns r.scope (before ++ l ∷ take r.more ls) (end_of l.to (take r.more ls)) (drop r.more ls)) (λ rest. Ok (slice_range text at l.from ++ (r.written ++ rest))))))
    e
    ∙ ends_behind w (slice_range text at l.from) r.written (written_from text turns r.scope (before ++ l ∷ take r.more ls) (end_of l.to (take r.more ls)) (drop r.more ls))

-- one form was written, and the next begins behind it
pub form_done : (text : Bytes) (lexemes : List Lexeme) (turns : ℕ) (s : Scope) (at end : ℕ) (l : Lexeme) (tail : List Lexeme) (r : Step) (size : ℕ) (w u : Option Bytes) (t : Scope) → drop at lexemes ≡ l ∷ tail
    → step text s (take at lexemes) (l ∷ tail) ≡ Ok r → r.scope ≡ t → suc r.more ≡ size → u ≡ more (more w (slice_range text end l.from)) r.written
    → ending w (written_from text (suc turns) s (take at lexemes) end (drop at lexemes))
    ≡ ending u (written_from text turns t (take (at + min size (length (drop at lexemes))) lexemes) (end_of end (take size (drop at lexemes))) (drop (at + min size (length (drop at lexemes))) lexemes))
form_done text lexemes turns s at end l tail r size w u t e0 e1 e2 e3 e4 =
    let taken : take size (drop at lexemes) ≡ l ∷ take r.more tail = ap (λ k. take k (drop at lexemes)) (sym e3) ∙ ap (take (suc r.more)) e0 in
    let left : drop size (drop at lexemes) ≡ drop r.more tail = ap (λ k. drop k (drop at lexemes)) (sym e3) ∙ ap (drop (suc r.more)) e0 in
    let next : ℕ = at + min size (length (drop at lexemes)) in
    ap (λ z. ending w (written_from text (suc turns) s (take at lexemes) end z)) e0
    ∙ next_form text turns s (take at lexemes) end l tail r w e1
    ∙ ap (λ z. ending z (written_from text turns r.scope (take at lexemes ++ l ∷ take r.more tail) (end_of l.to (take r.more tail)) (drop r.more tail))) (sym e4)
    ∙ ap (λ z. ending u (written_from text turns z (take at lexemes ++ l ∷ take r.more tail) (end_of l.to (take r.more tail)) (drop r.more tail))) e2
    ∙ ap (λ z. ending u (written_from text turns t z (end_of l.to (take r.more tail)) (drop r.more tail))) (sym (take_next at size lexemes ∙ ap (λ y. take at lexemes ++ y) taken))
    ∙ ap (λ z. ending u (written_from text turns t (take next lexemes) z (drop r.more tail))) (sym (ap (end_of end) taken))
    ∙ ap (λ z. ending u (written_from text turns t (take next lexemes) (end_of end (take size (drop at lexemes))) z)) (sym (drop_next at size lexemes ∙ left))

-- a form has a fault
pub form_fault : (text : Bytes) (lexemes : List Lexeme) (turns : ℕ) (s : Scope) (at end : ℕ) (l : Lexeme) (tail : List Lexeme) (w : Option Bytes) (e : ArrayRefusal) → drop at lexemes ≡ l ∷ tail
    → IsArrayCause e (step text s (take at lexemes) (drop at lexemes)) → IsArrayCause e (ending w (written_from text (suc turns) s (take at lexemes) end (drop at lexemes)))
form_fault text lexemes turns s at end l tail w e f h =
    subst (λ z. IsArrayCause e (ending w (written_from text (suc turns) s (take at lexemes) end z))) (sym f)
    (cause_then e (written_from text (suc turns) s (take at lexemes) end (l ∷ tail)) (λ t. Ok (more w t))
    (cause_then e (step text s (take at lexemes) (l ∷ tail))
    (λ r. and_then (written_from text turns r.scope (take at lexemes ++ l ∷ take r.more tail) (end_of l.to (take r.more tail)) (drop r.more tail)) (λ rest. Ok (slice_range text end l.from ++ (r.written ++ rest))))
    (subst (λ z. IsArrayCause e (step text s (take at lexemes) z)) f h)))

-- no form is left
pub all_done : (text : Bytes) (n : ℕ) (s : Scope) (before : List Lexeme) (end : ℕ) (rest : List Lexeme) (w : Option Bytes) → rest ≡ [] → ending w (written_from text n s before end rest) ≡ Ok (more w (drop end text))
all_done text n s before end rest w e = ap (λ z. ending w (written_from text n s before end z)) e ∙ by n
  where
    by : (n : ℕ) → ending w (written_from text n s before end []) ≡ Ok (more w (drop end text))
    by zero = refl
    by (suc n) = refl

pub split_of : {A : Type 0} (xs : List A) → 0 < length xs → (x : A) × (xs ≡ x ∷ drop 1 xs)
split_of [] h = absurd (omega arith)
split_of (x ∷ xs) h = (x, refl)

-- the bytes before a lexeme that stands in front
pub gap_before : (text : Bytes) (end : ℕ) (rest : List Lexeme) (d l : Lexeme) (tail : List Lexeme) (z : Bytes) → rest ≡ l ∷ tail → z ≡ slice_range text end (get_or rest 0 d).from → z ≡ slice_range text end l.from
gap_before text end rest d l tail z e g = g ∙ ap (λ r. slice_range text end (get_or r 0 d).from) e
