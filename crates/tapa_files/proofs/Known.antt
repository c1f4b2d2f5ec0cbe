-- Known bytes that grow piece by piece.
use Rattle.std.proofs.Common.{◌≡◌, ℕ, ◌+◌, ◌-◌, ◌≤◌, List, [], ◌++◌, length, take, drop, Option, Some, None, sym, ◌∙◌, ap, subst, append_assoc, arith}
use Rattle.std.proofs.lemmas.List.{append-nil, drop-drop, length-drop, take_all, take-append-drop}
use Rattle.std.proofs.Math.Seq.{take-add}
use Rattle.std.specs.Io.KnownBytes.{Appends, Keeps}
use Rattle.tapa_files.specs.Outside.{AppendsPart}

-- nothing was added
pub appends_none : (known : Option (List ℕ)) → Appends known known []
appends_none None = tt
appends_none (Some held) = sym (append-nil held)

-- two pieces, one after the other
pub appends_both : (old mid new : Option (List ℕ)) (first next : List ℕ) → Appends old mid first → Appends mid new next → Appends old new (first ++ next)
appends_both None mid new first next one two = tt
appends_both (Some held) None new first next one two = absurd one
appends_both (Some held) (Some more) None first next one two = absurd two
appends_both (Some held) (Some more) (Some all) first next one two = two ∙ ap (λ (l : List ℕ). l ++ next) one ∙ append_assoc held first next

-- what stands so far, of a text of which the rest is to come
pub part_so_far : (old new : Option (List ℕ)) (all front back : List ℕ) → all ≡ front ++ back → Appends old new front → AppendsPart old new all
part_so_far old new all front back is so_far = (front, back, is, so_far)

-- a part of the next piece, of a text of which the rest is to come
pub part_of_next : (old mid new : Option (List ℕ)) (all front piece back : List ℕ) → all ≡ front ++ (piece ++ back) → Appends old mid front → AppendsPart mid new piece → AppendsPart old new all
part_of_next old mid new all front piece back is so_far (part, left, whole, more) = (
  front ++ part,
  left ++ back,
  is ∙ ap (λ (l : List ℕ). front ++ (l ++ back)) whole ∙ simp append_assoc,
  appends_both old mid new front part so_far more,
)

-- a call that took nothing
pub appends_kept : (old mid new : Option (List ℕ)) (front : List ℕ) → Appends old mid front → Keeps mid new → Appends old new front
appends_kept None mid new front so_far kept = tt
appends_kept (Some held) None new front so_far kept = absurd so_far
appends_kept (Some held) (Some more) None front so_far kept = absurd kept
appends_kept (Some held) (Some more) (Some all) front so_far kept = kept ∙ so_far

-- the first n bytes, and then k of the rest
pub appends_more : (old mid new : Option (List ℕ)) (bytes : List ℕ) (n k : ℕ) → Appends old mid (take n bytes) → Appends mid new (take k (drop n bytes)) → Appends old new (take (n + k) bytes)
appends_more old mid new bytes n k one two = rw (take-add n k bytes) (appends_both old mid new (take n bytes) (take k (drop n bytes)) one two)

-- bytes of which the first were put, and the others stand in rest
abbrev pub IsPutTo : Option (List ℕ) → Option (List ℕ) → List ℕ → List ℕ → Type 0
IsPutTo old new bytes rest = (n : ℕ) × (n ≤ length bytes) × (rest ≡ drop n bytes) × Appends old new (take n bytes)

pub put_more : (old mid new : Option (List ℕ)) (bytes rest : List ℕ) (k : ℕ) → IsPutTo old mid bytes rest → k ≤ length rest → Appends mid new (take k rest) → IsPutTo old new bytes (take (length rest - k) (drop k rest))
put_more old mid new bytes rest k (n, within, is, before) fits piece =
    let left : length rest + n ≡ length bytes = omega (arith, within, ap length is, length-drop n bytes) in
    let back : drop k rest ≡ drop (n + k) bytes = ap (λ (l : List ℕ). drop k l) is ∙ drop-drop k n bytes in
    let whole : take (length rest - k) (drop k rest) ≡ drop k rest = take_all _ _ (omega (arith, length-drop k rest)) in
    (n + k, omega arith, whole ∙ back, appends_more old mid new bytes n k before (subst (λ (l : List ℕ). Appends mid new (take k l)) is piece))

pub put_kept : (old mid new : Option (List ℕ)) (bytes rest : List ℕ) → IsPutTo old mid bytes rest → Keeps mid new → AppendsPart old new bytes
put_kept old mid new bytes rest (n, within, is, before) kept = (take n bytes, drop n bytes, sym (take-append-drop n bytes), appends_kept old mid new (take n bytes) before kept)

-- what was put is a part
pub put_part : (old new : Option (List ℕ)) (bytes rest : List ℕ) → IsPutTo old new bytes rest → AppendsPart old new bytes
put_part old new bytes rest (n, within, is, before) = (take n bytes, drop n bytes, sym (take-append-drop n bytes), before)
