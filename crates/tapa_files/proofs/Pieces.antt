-- A file that is read piece by piece from its front.
use Rattle.std.proofs.Common.{◌≡◌, refl, [], ◌∷◌, zero, suc, ℕ, List, ◌++◌, length, take, drop, Option, Some, None, Ok, sym, ◌∙◌, ap, subst, arith, length-append}
use Rattle.std.proofs.Math.Seq.{take-add}
use Rattle.tapa_files.specs.Outside.{Files, file_bytes, IsPieceAt, ReadsAt, AsksFor}
use Rattle.tapa_files.specs.declared.fault.ShelfFault.{ShelfFault}

-- where the files are told, these are the first bytes of the named file
abbrev pub IsFrontOf : Option Files → List ℕ → List ℕ → Type 0
IsFrontOf None name front = Unit {0}
IsFrontOf (Some files) name front = front ≡ take (length front) (file_bytes files name)

pub front_empty : (told : Option Files) (name : List ℕ) → IsFrontOf told name []
front_empty None name = tt
front_empty (Some files) name = refl

take_taken : (n : ℕ) (xs : List ℕ) → take (length (take n xs)) xs ≡ take n xs
take_taken zero xs = refl
take_taken (suc n) [] = refl
take_taken (suc n) (x ∷ xs) = ap (λ (l : List ℕ). x ∷ l) (take_taken n xs)

front_grows : (file front piece : List ℕ) (n : ℕ) → front ≡ take (length front) file → piece ≡ take n (drop (length front) file) → front ++ piece ≡ take (length (front ++ piece)) file
front_grows file front piece n is next =
    let more : piece ≡ take (length piece) (drop (length front) file) = next ∙ sym (take_taken n (drop (length front) file)) ∙ ap (λ (l : List ℕ). take (length l) (drop (length front) file)) (sym next) in
    rw (length-append front piece, take-add (length front) (length piece) file) (ap (λ (l : List ℕ). l ++ piece) is ∙ ap (λ (l : List ℕ). take (length front) file ++ l) more)

pub front_read : (told now : Option Files) (name front buf : List ℕ) (from n : ℕ) → now ≡ told → from ≡ length front → IsFrontOf told name front → ReadsAt {E = ShelfFault} now name from (Ok n) buf → IsFrontOf told name (front ++ take n buf)
front_read None now name front buf from n same here is reads = tt
front_read (Some files) now name front buf from n same here is reads =
    let piece : IsPieceAt (file_bytes files name) (length front) n buf = subst (λ (m : ℕ). IsPieceAt (file_bytes files name) m n buf) here (subst (λ (w : Option Files). ReadsAt {E = ShelfFault} w name from (Ok n) buf) same reads) in
    front_grows (file_bytes files name) front (take n buf) n is piece.bytes

-- one call after another
pub asks_both : {S : Type 0} (files : S → Option Files) (faults : S → List ℕ → ℕ) (name : List ℕ) (old mid new : S) → AsksFor files faults name old mid → AsksFor files faults name mid new → AsksFor files faults name old new
asks_both files faults name old mid new one two = record {
  same_files = two.same_files ∙ one.same_files;
  later = omega (arith, one.later, two.later);
  others = λ other apart. two.others other apart ∙ one.others other apart;
}
