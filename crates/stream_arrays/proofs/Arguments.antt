-- One argument of a counted invoke, and those behind it.
use Rattle.std.proofs.Common.{◌≡◌, ℕ, suc, ◌+◌, ◌<◌, ◌≤◌, true, false, cond, List, [], ◌∷◌, ◌++◌, length, take, drop, Ok, Err, sym, ap, subst, ◌∙◌, add-one, arith}
use Rattle.std.specs.Prelude.{nat_lt}
use Rattle.std.proofs.lemmas.Bool.Decides.{nat_tests}
use Rattle.tapa_base.specs.Gaps.{Bytes}
use Rattle.tapa_syntax.specs.declared.lexeme.Lexeme.{Lexeme}
use Rattle.stream_arrays.specs.declared.fault.ArrayRefusal.{ArrayRefusal}
use Rattle.stream_arrays.specs.declared.fault.ArrayRefusal.TheVariants.{Fault, OutOfMemory}
use Rattle.stream_arrays.specs.declared.piece.Piece.{Piece}
use Rattle.stream_arrays.specs.declared.piece.Piece.TheVariants.{Comma}
use Rattle.stream_arrays.specs.Answers.{IsArrayCause}
use Rattle.stream_arrays.specs.Forms.{argument_size}
use Rattle.stream_arrays.specs.Reading.{adding}
use Rattle.stream_arrays.specs.Written.{Scope, Outcome, and_then, argument_pieces, pieces_from}

cause_first : (e : ArrayRefusal) (p : List Piece) (o : Outcome (List Piece)) (k : List Piece → Outcome (List Piece)) → IsArrayCause e (adding p o) → IsArrayCause e (and_then o k)
cause_first OutOfMemory p o k h = tt
cause_first (Fault f) p (Ok x) k h = absurd (cc)
cause_first (Fault f) p (Err g) k h = h

ok_first : (p : List Piece) (o : Outcome (List Piece)) (k : List Piece → Outcome (List Piece)) (q : List Piece) (r : Outcome (List Piece)) → adding p o ≡ Ok q → ((x : List Piece) → p ++ x ≡ q → k x ≡ r) → and_then o k ≡ r
ok_first p (Ok x) k q r e h = h x (let f : p ++ x ≡ q = cc in f)
ok_first p (Err g) k q r e h = absurd (cc)

pub argument_fault : (text : Bytes) (s : Scope) (n turns : ℕ) (pieces : List Piece) (rest : List Lexeme) (size : ℕ) (e : ArrayRefusal) → size ≡ argument_size text 0 rest
    → IsArrayCause e (adding pieces (argument_pieces text s n (take size rest))) → IsArrayCause e (pieces_from text s n (suc turns) pieces rest)
argument_fault text s n turns pieces rest size e g h =
    cause_first e pieces (argument_pieces text s n (take (argument_size text 0 rest) rest))
    (λ more. cond (nat_lt (argument_size text 0 rest) (length rest)) (pieces_from text s n turns (pieces ++ more ++ Comma ∷ []) (drop (suc (argument_size text 0 rest)) rest)) (Ok (pieces ++ more)))
    (subst (λ z. IsArrayCause e (adding pieces (argument_pieces text s n (take z rest)))) g h)

pub last_argument : (text : Bytes) (s : Scope) (n turns : ℕ) (pieces : List Piece) (rest : List Lexeme) (size : ℕ) (q : List Piece) → size ≡ argument_size text 0 rest → length rest ≤ size
    → adding pieces (argument_pieces text s n (take size rest)) ≡ Ok q → pieces_from text s n (suc turns) pieces rest ≡ Ok q
last_argument text s n turns pieces rest size q g b h =
    let t : nat_lt (argument_size text 0 rest) (length rest) ≡ false = (let c : length rest ≤ argument_size text 0 rest = omega (arith, g) in grind (arith, nat_tests)) in
    ok_first pieces (argument_pieces text s n (take (argument_size text 0 rest) rest))
    (λ more. cond (nat_lt (argument_size text 0 rest) (length rest)) (pieces_from text s n turns (pieces ++ more ++ Comma ∷ []) (drop (suc (argument_size text 0 rest)) rest)) (Ok (pieces ++ more)))
    q (Ok q)
    (ap (λ z. adding pieces (argument_pieces text s n (take z rest))) (sym g) ∙ h)
    (λ x e. ap (λ z. cond z (pieces_from text s n turns (pieces ++ x ++ Comma ∷ []) (drop (suc (argument_size text 0 rest)) rest)) (Ok (pieces ++ x))) t ∙ ap (λ z. Ok z) e)

pub next_argument : (text : Bytes) (s : Scope) (n turns : ℕ) (pieces : List Piece) (rest : List Lexeme) (size : ℕ) (q : List Piece) → size ≡ argument_size text 0 rest → size < length rest
    → adding pieces (argument_pieces text s n (take size rest)) ≡ Ok q → pieces_from text s n (suc turns) pieces rest ≡ pieces_from text s n turns (q ++ Comma ∷ []) (drop (size + 1) rest)
next_argument text s n turns pieces rest size q g b h =
    let t : nat_lt (argument_size text 0 rest) (length rest) ≡ true = (let c : argument_size text 0 rest < length rest = omega (arith, g) in grind (arith, nat_tests)) in
    ok_first pieces (argument_pieces text s n (take (argument_size text 0 rest) rest))
    (λ more. cond (nat_lt (argument_size text 0 rest) (length rest)) (pieces_from text s n turns (pieces ++ more ++ Comma ∷ []) (drop (suc (argument_size text 0 rest)) rest)) (Ok (pieces ++ more)))
    q (pieces_from text s n turns (q ++ Comma ∷ []) (drop (size + 1) rest))
    (ap (λ z. adding pieces (argument_pieces text s n (take z rest))) (sym g) ∙ h)
    (λ x e. ap (λ z. cond z (pieces_from text s n turns (pieces ++ x ++ Comma ∷ []) (drop (suc (argument_size text 0 rest)) rest)) (Ok (pieces ++ x))) t
    ∙ ap (λ z. pieces_from text s n turns (z ++ Comma ∷ []) (drop (suc (argument_size text 0 rest)) rest)) e
    ∙ ap (λ z. pieces_from text s n turns (q ++ Comma ∷ []) (drop z rest)) (ap suc (sym g) ∙ sym (add-one size)))
