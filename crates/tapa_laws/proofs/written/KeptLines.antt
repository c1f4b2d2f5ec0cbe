-- What is written out of a source has as many line feeds as the source, form by form; and what has a tree is written out as it is.
use Rattle.std.proofs.Common.{◌≡◌, ℕ, zero, suc, ◌≤◌, true, List, [], ◌∷◌, ◌++◌, length, take, drop, Ok, refl, sym, ap, ◌∙◌, subst, arith}
use Rattle.std.specs.Prelude.{nat_le, slice_range}
use Rattle.std.proofs.Math.Seq.{drop-append_seam}
use Rattle.std.proofs.lemmas.List.Elements.{filter-append}
use Rattle.std.proofs.lemmas.List.Folds.{drop_split}
use Rattle.tapa_base.specs.Gaps.{Bytes}
use Rattle.tapa_syntax.specs.declared.lexeme.Lexeme.{Lexeme}
use Rattle.tapa_syntax.specs.Lexemes.{IsSliceOf, InOrder}
use Rattle.tapa_lex.proofs.Whole.{are_slices, in_order}
use Rattle.stream_arrays.specs.declared.fault.ArrayCode.TheVariants.{A4}
use Rattle.stream_arrays.specs.Words.{is_line_feed, end_of}
use Rattle.stream_arrays.specs.Written.{Scope, faulty, step, written_from, nothing, whole, most, within_most, written_out}
use Rattle.tapa_laws.specs.written.Lines.{TextsKeepLines, FormsKeepLines, FilesStay}
use Rattle.std.proofs.lemmas.Bool.Decides.{nat_tests}
use Rattle.stream_arrays.specs.Plain.{is_in_order}
use Rattle.stream_arrays.proofs.Copies.{tree_text}
use Rattle.stream_arrays.proofs.Feeds.{feeds}
use Rattle.stream_arrays.proofs.FormFeeds.{all_drop, OnOk, ok_then, ok_either, AreSliced, Keeps, step_keeps}

order_behind : (n at : ℕ) (ls : List Lexeme) → InOrder at ls → InOrder (end_of at (take n ls)) (drop n ls)
order_behind zero at ls h = h
order_behind (suc n) at [] h = tt
order_behind (suc n) at (l ∷ ls) h = order_behind n l.to ls h.1

end_behind : (text : Bytes) (n at : ℕ) (ls : List Lexeme) → InOrder at ls → AreSliced text ls → at ≤ end_of at (take n ls)
end_behind text zero at ls h k = omega arith
end_behind text (suc n) at [] h k = omega arith
end_behind text (suc n) at (l ∷ ls) h k = omega (arith, h.0, k.0.some, end_behind text n l.to ls h.1 k.1)

-- a text has the line feeds of the source from a place on
abbrev From : Bytes → ℕ → Bytes → Type 0
From text at out = feeds out ≡ feeds (drop at text)

joined : (text gap form rest : Bytes) (at from to : ℕ) → at ≤ from → from ≤ to → gap ≡ slice_range text at from → feeds form ≡ feeds (slice_range text from to) → From text to rest → From text at (gap ++ (form ++ rest))
joined text gap form rest at from to a b is f r =
    let behind : feeds (form ++ rest) ≡ feeds (drop from text) =
    filter-append is_line_feed form rest ∙ ap (λ z. z ++ feeds rest) f ∙ ap (λ z. feeds (slice_range text from to) ++ z) r
    ∙ sym (filter-append is_line_feed (slice_range text from to) (drop to text)) ∙ ap feeds (sym (drop_split text from to b)) in
    filter-append is_line_feed gap (form ++ rest) ∙ ap (λ z. feeds gap ++ z) behind ∙ ap (λ z. feeds z ++ feeds (drop from text)) is
    ∙ sym (filter-append is_line_feed (slice_range text at from) (drop from text)) ∙ ap feeds (sym (drop_split text at from a))

from_keeps : (text : Bytes) (turns : ℕ) (s : Scope) (before : List Lexeme) (at : ℕ) (ls : List Lexeme) → AreSliced text ls → InOrder at ls → OnOk (From text at) (written_from text turns s before at ls)
from_keeps text zero s before at ls h k = refl
from_keeps text (suc turns) s before at [] h k = refl
from_keeps text (suc turns) s before at (l ∷ ls) h k =
    ok_then (Keeps text l ls) (From text at) (step text s before (l ∷ ls)) _ (step_keeps text s before l ls h) (λ r f.
    let to = end_of l.to (take r.more ls) in
    let later : l.from ≤ to = omega (arith, h.0.some, end_behind text r.more l.to ls k.1 h.1) in
    ok_then (From text to) (From text at) (written_from text turns r.scope (before ++ l ∷ take r.more ls) to (drop r.more ls)) _
    (from_keeps text turns r.scope (before ++ l ∷ take r.more ls) to (drop r.more ls) (all_drop (IsSliceOf text) r.more ls h.1) (order_behind r.more l.to ls k.1)) (λ rest m.
    joined text (slice_range text at l.from) r.written rest at l.from to k.0 later refl f m))

pub forms_keep : FormsKeepLines
forms_keep text lexemes before l ls s r h e f =
    let here : drop (length before) lexemes ≡ l ∷ ls = ap (drop (length before)) e ∙ drop-append_seam before (l ∷ ls) in
    let sliced : AreSliced text (l ∷ ls) = subst (AreSliced text) here (all_drop (IsSliceOf text) (length before) lexemes (are_slices text lexemes h)) in
    ap length (subst (OnOk (Keeps text l ls)) f (step_keeps text s before l ls sliced))

pub texts_keep : TextsKeepLines
texts_keep text out w =
    let kept : OnOk (From text 0) (written_out text w.lexemes) =
    ok_then (From text 0) (From text 0) (whole text w.lexemes) within_most (from_keeps text (length w.lexemes) nothing [] 0 w.lexemes (are_slices text w.lexemes w.are) (in_order text w.lexemes w.are)) (λ o m.
    ok_either (From text 0) (nat_le (length o) most) (Ok o) (faulty A4 (record { line = 1; col = 1 })) m tt) in
    ap length (subst (OnOk (From text 0)) w.gives kept)

-- ---- texts that have a tree

still_in_order : (text : Bytes) (at : ℕ) (ls : List Lexeme) → at ≤ length text → InOrder at ls → AreSliced text ls → is_in_order text at ls ≡ true
still_in_order text at [] a h k = grind (arith, nat_tests)
still_in_order text at (l ∷ ls) a h k =
    let first : nat_le at l.from ≡ true = grind (arith, nat_tests, h.0) in
    let second : nat_le l.from l.to ≡ true = grind (arith, nat_tests, k.0.some) in
    let rest : is_in_order text l.to ls ≡ true = still_in_order text l.to ls k.0.within h.1 k.1 in
    rw (first, second) rest

pub files_stay : FilesStay
files_stay text lexemes items h tree b = tree_text text lexemes items b tree (still_in_order text 0 lexemes (omega arith) (in_order text lexemes h) (are_slices text lexemes h))
