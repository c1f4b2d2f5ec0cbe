-- Pieces one after the other, and the one list of them that a text has.
use Rattle.std.proofs.Common.{◌≡◌, ℕ, ◌+◌, ◌-◌, ◌<◌, ◌≤◌, Bool, List, [], ◌∷◌, ◌++◌, append_assoc, length, take, drop, Option, Some, None, Ok, Err, refl, sym, ap, subst, ◌∙◌, arith}
use Rattle.std.specs.Prelude.{slice_range}
use Rattle.std.specs.List.{AllByRecursion}
use Rattle.std.proofs.lemmas.List.{length-append, length-drop, length-take-le, take_at, drop_at, drop-drop, take-append-drop, append-nil, append_cancel_left, take_all, drop_all, take_rest}
use Rattle.tapa_base.specs.declared.text.Place.{Place}
use Rattle.tapa_syntax.specs.declared.lexeme.LexKind.{LexKind}
use Rattle.tapa_syntax.specs.declared.lexeme.LexKind.TheVariants as kind
use Rattle.tapa_syntax.specs.declared.lexeme.Lexeme.{Lexeme}
use Rattle.tapa_base.specs.Gaps.{Bytes}
use Rattle.tapa_syntax.specs.Characters.{opens_line, place_of}
use Rattle.tapa_syntax.specs.Lexemes.{Piece, Stands, IsLexeme, text_of, StandInTurn, lexeme_of, lexemes_of, HasLexemes, NothingStands, IsSliceOf, HoldsItsValue, InOrder}
use Rattle.tapa_lex.specs.Reading.{Cut, cut}
use Rattle.tapa_lex.specs.Refusals.{IsRefused, code_at}
use Rattle.tapa_lex.specs.Standing.{IsBehind, spanned}
use Rattle.tapa_lex.specs.declared.cursor.Cursor.{Cursor}
use Rattle.tapa_lex.specs.declared.fault.LexCode.{LexCode}
use Rattle.tapa_syntax.proofs.Runs.{take_both}
use Rattle.tapa_syntax.proofs.Places.{line_within, col_within}
use Rattle.tapa_lex.proofs.Pieces.{found}
use Rattle.tapa_lex.proofs.Cuts.{is_cut, is_some, code_is, nothing_stands}
use Rattle.tapa_lex.proofs.Values.{literal_holds}

-- ---- one more piece at the end

text_more : (ps : List Piece) (p : Piece) (rest : Bytes) → text_of (ps ++ p ∷ []) rest ≡ text_of ps (p.bytes ++ rest)
text_more [] p rest = refl
text_more (q ∷ ps) p rest = ap (λ (l : Bytes). q.bytes ++ l) (text_more ps p rest)

text_split : (ps : List Piece) (rest : Bytes) → text_of ps rest ≡ text_of ps [] ++ rest
text_split [] rest = refl
text_split (q ∷ ps) rest = ap (λ (l : Bytes). q.bytes ++ l) (text_split ps rest) ∙ sym (append_assoc q.bytes (text_of ps []) rest)

turn_more : (before : Bytes) (ps : List Piece) (p : Piece) (rest : Bytes) → StandInTurn before ps (p.bytes ++ rest) → Stands (before ++ text_of ps []) p.sort p.bytes rest → StandInTurn before (ps ++ p ∷ []) rest
turn_more before [] p rest h s = (subst (λ (b : Bytes). Stands b p.sort p.bytes rest) (append-nil before) s, tt)
turn_more before (q ∷ ps) p rest h s = (
  subst (λ (l : Bytes). Stands before q.sort q.bytes l) (sym (text_more ps p rest)) h.0,
  turn_more (before ++ q.bytes) ps p rest h.1 (subst (λ (b : Bytes). Stands b p.sort p.bytes rest) (sym (append_assoc before q.bytes (text_of ps []))) s),
)

told_more : (before : Bytes) (ps : List Piece) (p : Piece) → lexemes_of before (ps ++ p ∷ []) ≡ lexemes_of before ps ++ lexeme_of (before ++ text_of ps []) p.sort p.bytes
told_more before [] p = append-nil (lexeme_of before p.sort p.bytes) ∙ ap (λ (b : Bytes). lexeme_of b p.sort p.bytes) (sym (append-nil before))
told_more before (q ∷ ps) p =
    ap (λ (l : List Lexeme). lexeme_of before q.sort q.bytes ++ l) (told_more (before ++ q.bytes) ps p ∙ ap (λ (b : Bytes). lexemes_of (before ++ q.bytes) ps ++ lexeme_of b p.sort p.bytes) (append_assoc before q.bytes (text_of ps [])))
    ∙ sym (append_assoc (lexeme_of before q.sort q.bytes) (lexemes_of (before ++ q.bytes) ps) (lexeme_of (before ++ (q.bytes ++ text_of ps [])) p.sort p.bytes))

-- ---- the lexer's loop

-- the pieces so far, and where the lexer stands
pub record HasFront (text : Bytes) (cursor : Cursor) (told : List Lexeme) : Type 0 where
  pub pieces : List Piece
  pub is : text_of pieces [] ≡ take cursor.at text
  pub standing : StandInTurn [] pieces (drop cursor.at text)
  pub lexemes : lexemes_of [] pieces ≡ told
  pub behind : IsBehind (take cursor.at text) cursor
  pub within : cursor.at ≤ length text

pub front_none : (text : Bytes) (cursor : Cursor) → IsBehind [] cursor → HasFront text cursor []
front_none text cursor h =
    let none : cursor.at ≡ 0 = h.at in
    record {
      pieces = [];
      is = sym (ap (λ n. take n text) none);
      standing = tt;
      lexemes = refl;
      behind = subst (λ (b : Bytes). IsBehind b cursor) (sym (ap (λ n. take n text) none)) h;
      within = omega arith;
    }

lexeme_same : (k : LexKind) (f t g u : ℕ) (p q : Place) → f ≡ g → t ≡ u → p ≡ q → let a : Lexeme = record { kind = k; from = f; to = t; place = p } in let b : Lexeme = record { kind = k; from = g; to = u; place = q } in a ≡ b
lexeme_same k f t g u p q d e h = cc

spanned_is : (before bytes : Bytes) (sort : Option LexKind) (from to : Cursor) → IsBehind before from → to.at ≡ length before + length bytes → spanned sort from to ≡ lexeme_of before sort bytes
spanned_is before bytes None from to h e = refl
spanned_is before bytes (Some k) from to h e = ap (λ (l : Lexeme). l ∷ []) (lexeme_same k _ _ _ _ _ _ h.at e h.place)

-- one more piece, and where the lexer stands behind it
pub front_more : (text : Bytes) (cursor next : Cursor) (told : List Lexeme) (sort : Option LexKind) (n : ℕ) → HasFront text cursor told → cursor.at < length text → cut cursor.opens (drop cursor.at text) ≡ Ok (sort, n)
    → ((before : Bytes) → IsBehind before cursor → IsBehind (before ++ take n (drop cursor.at text)) next) → HasFront text next (told ++ spanned sort cursor next)
front_more text cursor next told sort n h lt e steps =
    let before = take cursor.at text in
    let z = drop cursor.at text in
    let left : length z ≡ length text - cursor.at = length-drop cursor.at text in
    let f = found before z sort n (ap (λ (o : Bool). cut o z) (sym h.behind.opens) ∙ e) (omega arith) in
    let within : n ≤ length z = f.within in
    let bytes = take n z in
    let size : length bytes ≡ n = length-take-le n z within in
    let size_before : length before ≡ cursor.at = length-take-le cursor.at text h.within in
    let behind : IsBehind (before ++ bytes) next = steps before h.behind in
    let joined : before ++ bytes ≡ take (cursor.at + n) text = sym (take_both cursor.at n text) in
    let at : next.at ≡ cursor.at + n = omega (arith, behind.at, length-append before bytes, size, size_before) in
    let there : before ++ bytes ≡ take next.at text = joined ∙ ap (λ k. take k text) (sym at) in
    let rest : drop n z ≡ drop next.at text = drop-drop n cursor.at text ∙ ap (λ k. drop k text) (sym at) in
    let p : Piece = record { sort = sort; bytes = bytes } in
    record {
      pieces = h.pieces ++ p ∷ [];
      is = text_more h.pieces p [] ∙ ap (text_of h.pieces) (append-nil bytes) ∙ text_split h.pieces bytes ∙ ap (λ (l : Bytes). l ++ bytes) h.is ∙ there;
      standing = subst (λ (l : Bytes). StandInTurn [] (h.pieces ++ p ∷ []) l) rest
          (turn_more [] h.pieces p (drop n z)
          (subst (StandInTurn [] h.pieces) (sym (take-append-drop n z)) h.standing)
          (subst (λ (b : Bytes). Stands b sort bytes (drop n z)) (sym h.is) f.stands));
      lexemes = told_more [] h.pieces p ∙ ap (λ (l : List Lexeme). l ++ lexeme_of (text_of h.pieces []) sort bytes) h.lexemes ∙ ap (λ (b : Bytes). told ++ lexeme_of b sort bytes) h.is ∙ ap (λ (l : List Lexeme). told ++ l) (sym (spanned_is before bytes sort cursor next h.behind (omega (arith, at, size, size_before))));
      behind = subst (λ (b : Bytes). IsBehind b next) there behind;
      within = omega (arith, within, left, at);
    }

-- no more is to come
pub front_all : (text : Bytes) (cursor : Cursor) (told : List Lexeme) → HasFront text cursor told → length text ≤ cursor.at → HasLexemes text told
front_all text cursor told h le =
    let none : drop cursor.at text ≡ [] = drop_all cursor.at text le in
    record {
      pieces = h.pieces;
      is = h.is ∙ take_all cursor.at text le;
      standing = subst (StandInTurn [] h.pieces) none h.standing;
      told = h.lexemes;
    }

-- no piece goes on
pub front_refused : (text : Bytes) (cursor : Cursor) (told : List Lexeme) (code : LexCode) → HasFront text cursor told → cursor.at < length text → cut cursor.opens (drop cursor.at text) ≡ Err code → IsRefused text code cursor.place
front_refused text cursor told code h lt e =
    let z = drop cursor.at text in
    let left : length z ≡ length text - cursor.at = length-drop cursor.at text in
    let opens : cursor.opens ≡ opens_line (text_of h.pieces []) = h.behind.opens ∙ ap opens_line (sym h.is) in
    let e1 : cut (opens_line (text_of h.pieces [])) z ≡ Err code = ap (λ (o : Bool). cut o z) (sym opens) ∙ e in
    record {
      pieces = h.pieces;
      behind = z;
      is = text_split h.pieces z ∙ ap (λ (l : Bytes). l ++ z) h.is ∙ take-append-drop cursor.at text;
      standing = h.standing;
      more = omega (arith, left);
      nothing = nothing_stands (text_of h.pieces []) z code e1;
      told = code_is (opens_line (text_of h.pieces [])) z code (omega (arith, left)) e1;
      at = h.behind.place ∙ ap place_of (sym h.is);
    }

-- ---- one list of pieces

piece_of : (s t : Option LexKind) (a b : Bytes) → s ≡ t → a ≡ b → let p : Piece = record { sort = s; bytes = a } in let q : Piece = record { sort = t; bytes = b } in p ≡ q
piece_of s t a b e f = cc

piece_same : (p q : Piece) → p.sort ≡ q.sort → p.bytes ≡ q.bytes → p ≡ q
piece_same p q e f = piece_of p.sort q.sort p.bytes q.bytes e f

ok_same : (x y : Option LexKind × ℕ) → (let p : Cut = Ok x in let q : Cut = Ok y in p ≡ q) → x ≡ y
ok_same x y e = cc

-- two pieces that stand at one place are one
first_same : (before a b x y : Bytes) (s t : Option LexKind) → Stands before s a x → Stands before t b y → a ++ x ≡ b ++ y → (s ≡ t) × (a ≡ b)
first_same before a b x y s t h k e =
    let both = ok_same (s, length a) (t, length b) (sym (is_cut before s a x h) ∙ ap (cut (opens_line before)) e ∙ is_cut before t b y k) in
    let size : length a ≡ length b = ap (λ (p : Option LexKind × ℕ). p.1) both in (
      ap (λ (p : Option LexKind × ℕ). p.0) both,
      sym (take_at a x (length a) refl) ∙ ap (take (length a)) e ∙ take_at b y (length a) (sym size),
    )

-- pieces in turn, behind which nothing stands
pub record IsWhole (before : Bytes) (ps : List Piece) (rest : Bytes) : Type 0 where
  pub standing : StandInTurn before ps rest
  pub nothing : NothingStands (before ++ text_of ps []) rest

whole_rest : (before : Bytes) (p : Piece) (ps : List Piece) (rest : Bytes) → IsWhole before (p ∷ ps) rest → IsWhole (before ++ p.bytes) ps rest
whole_rest before p ps rest h = record { standing = h.standing.1; nothing = subst (λ (b : Bytes). NothingStands b rest) (sym (append_assoc before p.bytes (text_of ps []))) h.nothing }

pub pieces_same : (before : Bytes) (ps qs : List Piece) (rest other : Bytes) → IsWhole before ps rest → IsWhole before qs other → text_of ps rest ≡ text_of qs other → (ps ≡ qs) × (rest ≡ other)
pieces_same before [] [] rest other h k e = (refl, e)
pieces_same before [] (q ∷ qs) rest other h k e =
    absurd (h.nothing q.sort q.bytes (text_of qs other) (sym e) (subst (λ (b : Bytes). Stands b q.sort q.bytes (text_of qs other)) (sym (append-nil before)) k.standing.0))
pieces_same before (p ∷ ps) [] rest other h k e =
    absurd (k.nothing p.sort p.bytes (text_of ps rest) e (subst (λ (b : Bytes). Stands b p.sort p.bytes (text_of ps rest)) (sym (append-nil before)) h.standing.0))
pieces_same before (p ∷ ps) (q ∷ qs) rest other h k e =
    let both = first_same before p.bytes q.bytes (text_of ps rest) (text_of qs other) p.sort q.sort h.standing.0 k.standing.0 e in
    let same : p ≡ q = piece_same p q both.0 both.1 in
    let more : text_of ps rest ≡ text_of qs other = append_cancel_left p.bytes (text_of ps rest) (text_of qs other) (e ∙ ap (λ (l : Bytes). l ++ text_of qs other) (sym both.1)) in
    let next : IsWhole (before ++ p.bytes) qs other = subst (λ (l : Bytes). IsWhole (before ++ l) qs other) (sym both.1) (whole_rest before q qs other k) in
    let others = pieces_same (before ++ p.bytes) ps qs rest other (whole_rest before p ps rest h) next more in
    (cons_same p q ps qs same others.0, others.1)
  where
    cons_same : (p q : Piece) (ps qs : List Piece) → p ≡ q → ps ≡ qs → p ∷ ps ≡ q ∷ qs
    cons_same p q ps qs e f = cc

nothing_at_end : (before : Bytes) → NothingStands before []
nothing_at_end before = λ sort bytes rest e h. none sort bytes rest (is_some before sort bytes rest h) e
  where
    none : (sort : Option LexKind) (bytes rest : Bytes) → 0 < length bytes → bytes ++ rest ≡ [] → ⊥
    none sort bytes rest some e = omega (arith, ap length e, length-append bytes rest)

whole_text : (text : Bytes) (told : List Lexeme) (h : HasLexemes text told) → IsWhole [] h.pieces []
whole_text text told h = record { standing = h.standing; nothing = nothing_at_end (text_of h.pieces []) }

whole_refused : (text : Bytes) (code : LexCode) (place : Place) (h : IsRefused text code place) → IsWhole [] h.pieces h.behind
whole_refused text code place h = record { standing = h.standing; nothing = h.nothing }

pub one_list : (text : Bytes) (some others : List Lexeme) → HasLexemes text some → HasLexemes text others → some ≡ others
one_list text some others h k =
    let same = pieces_same [] h.pieces k.pieces [] [] (whole_text text some h) (whole_text text others k) (h.is ∙ sym k.is) in
    sym h.told ∙ ap (lexemes_of []) same.0 ∙ k.told

pub one_refusal : (text : Bytes) (code other : LexCode) (place there : Place) → IsRefused text code place → IsRefused text other there → (code ≡ other) × (place ≡ there)
one_refusal text code other place there h k =
    let same = pieces_same [] h.pieces k.pieces h.behind k.behind (whole_refused text code place h) (whole_refused text other there k) (h.is ∙ sym k.is) in (
      h.told ∙ ap (λ (ps : List Piece). code_at (opens_line (text_of ps [])) h.behind) same.0 ∙ ap (code_at (opens_line (text_of k.pieces []))) same.1 ∙ sym k.told,
      h.at ∙ ap (λ (ps : List Piece). place_of (text_of ps [])) same.0 ∙ sym k.at,
    )

pub not_both : (text : Bytes) (told : List Lexeme) (code : LexCode) (place : Place) → HasLexemes text told → IsRefused text code place → ⊥
not_both text told code place h k =
    let same = pieces_same [] h.pieces k.pieces [] k.behind (whole_text text told h) (whole_refused text code place k) (h.is ∙ sym k.is) in
    omega (arith, k.more, ap length same.1)

-- ---- slices

pub range_of : (before bytes rest : Bytes) → slice_range (before ++ (bytes ++ rest)) (length before) (length before + length bytes) ≡ bytes
range_of before bytes rest =
    let size : length before + length bytes - length before ≡ length bytes = omega arith in
    ap (take (length before + length bytes - length before)) (drop_at before (bytes ++ rest) (length before) refl) ∙ take_at bytes rest _ (sym size)

value_held : (k : LexKind) (bytes rest : Bytes) → IsLexeme k bytes rest → HoldsItsValue k
value_held kind.Word bytes rest h = tt
value_held (kind.Literal k v) bytes rest h = literal_holds bytes k v h.1
value_held kind.Str bytes rest h = tt
value_held kind.Punct bytes rest h = tt

slice_is : (before bytes rest : Bytes) (k : LexKind) → Stands before (Some k) bytes rest → IsSliceOf (before ++ (bytes ++ rest)) (record { kind = k; from = length before; to = length before + length bytes; place = place_of before })
slice_is before bytes rest k h =
    let size : length (before ++ (bytes ++ rest)) ≡ length before + (length bytes + length rest) = length-append before (bytes ++ rest) ∙ ap (λ n. length before + n) (length-append bytes rest) in
    let behind : drop (length before + length bytes) (before ++ (bytes ++ rest)) ≡ rest = ap (drop (length before + length bytes)) (sym (append_assoc before bytes rest)) ∙ drop_at (before ++ bytes) rest (length before + length bytes) (length-append before bytes) in
    record {
      some = omega (arith, is_some before (Some k) bytes rest h);
      within = omega (arith, size);
      place = ap place_of (sym (take_at before (bytes ++ rest) (length before) refl));
      stands = subst (λ (l : Bytes). IsLexeme k l (drop (length before + length bytes) (before ++ (bytes ++ rest)))) (sym (range_of before bytes rest)) (subst (IsLexeme k bytes) (sym behind) h);
      value = value_held k bytes rest h;
    }

pub slices_are : (before : Bytes) (ps : List Piece) → StandInTurn before ps [] → AllByRecursion (IsSliceOf (before ++ text_of ps [])) (lexemes_of before ps)
slices_are before [] h = tt
slices_are before (p ∷ ps) h =
    let more = subst (λ (l : Bytes). AllByRecursion (IsSliceOf l) (lexemes_of (before ++ p.bytes) ps)) (append_assoc before p.bytes (text_of ps [])) (slices_are (before ++ p.bytes) ps h.1) in
    with_first p.sort h.0 more
  where
    with_first : (s : Option LexKind) → Stands before s p.bytes (text_of ps []) → AllByRecursion (IsSliceOf (before ++ (p.bytes ++ text_of ps []))) (lexemes_of (before ++ p.bytes) ps) → AllByRecursion (IsSliceOf (before ++ (p.bytes ++ text_of ps []))) (lexeme_of before s p.bytes ++ lexemes_of (before ++ p.bytes) ps)
    with_first None s more = more
    with_first (Some k) s more = (slice_is before p.bytes (text_of ps []) k s, more)

pub are_slices : (text : Bytes) (told : List Lexeme) → HasLexemes text told → AllByRecursion (IsSliceOf text) told
are_slices text told h = subst (AllByRecursion (IsSliceOf text)) h.told (subst (λ (l : Bytes). AllByRecursion (IsSliceOf l) (lexemes_of [] h.pieces)) h.is (slices_are [] h.pieces h.standing))

order_first : (end : ℕ) (before bytes : Bytes) (s : Option LexKind) (ls : List Lexeme) → end ≤ length before → InOrder (length before + length bytes) ls → InOrder end ls → InOrder end (lexeme_of before s bytes ++ ls)
order_first end before bytes None ls le more same = same
order_first end before bytes (Some k) ls le more same = (le, more)

order_from : (end : ℕ) (before : Bytes) (ps : List Piece) → end ≤ length before → InOrder end (lexemes_of before ps)
order_from end before [] le = tt
order_from end before (p ∷ ps) le =
    order_first end before p.bytes p.sort (lexemes_of (before ++ p.bytes) ps) le
    (order_from (length before + length p.bytes) (before ++ p.bytes) ps (omega (arith, length-append before p.bytes)))
    (order_from end (before ++ p.bytes) ps (omega (arith, length-append before p.bytes)))

pub in_order : (text : Bytes) (told : List Lexeme) → HasLexemes text told → InOrder 0 told
in_order text told h = subst (InOrder 0) h.told (order_from 0 [] h.pieces (omega arith))

-- ---- in the words of the loop

rest_is : (text : Bytes) (cursor : Cursor) → take (length text - cursor.at) (drop cursor.at text) ≡ drop cursor.at text
rest_is text cursor = take_rest text cursor.at

pub refused_here : (text : Bytes) (cursor : Cursor) (told : List Lexeme) (code : LexCode) → HasFront text cursor told → cursor.at < length text → Err code ≡ cut cursor.opens (take (length text - cursor.at) (drop cursor.at text)) → IsRefused text code cursor.place
refused_here text cursor told code h lt e = front_refused text cursor told code h lt (ap (cut cursor.opens) (sym (rest_is text cursor)) ∙ sym e)

-- a piece of n bytes fits what is left, and so do the places behind it
pub record Fits (text : Bytes) (cursor : Cursor) (n : ℕ) : Type 0 where
  pub some : 0 < n
  pub size : n ≡ length (take n (take (length text - cursor.at) (drop cursor.at text)))
  pub at : cursor.at + n ≤ length text
  pub line : cursor.place.line + n ≤ 1 + length text
  pub col : cursor.place.col + n ≤ 1 + length text

pub piece_fits : (text : Bytes) (cursor : Cursor) (told : List Lexeme) (p : Option LexKind × ℕ) → HasFront text cursor told → cursor.at < length text → Ok p ≡ cut cursor.opens (take (length text - cursor.at) (drop cursor.at text)) → Fits text cursor p.1
piece_fits text cursor told p h lt e =
    let before = take cursor.at text in
    let z = drop cursor.at text in
    let n = p.1 in
    let left : length z ≡ length text - cursor.at = length-drop cursor.at text in
    let cut_is : cut cursor.opens z ≡ Ok (p.0, n) = ap (cut cursor.opens) (sym (rest_is text cursor)) ∙ sym e in
    let f = found before z p.0 n (ap (λ (o : Bool). cut o z) (sym h.behind.opens) ∙ cut_is) (omega (arith, left)) in
    let size : length (take n (take (length text - cursor.at) z)) ≡ n = ap (λ (l : Bytes). length (take n l)) (rest_is text cursor) ∙ length-take-le n z f.within in
    let place : cursor.place.line ≤ 1 + length before = omega (arith, ap (λ (q : Place). q.line) h.behind.place, line_within before) in
    let column : cursor.place.col ≤ 1 + length before = omega (arith, ap (λ (q : Place). q.col) h.behind.place, col_within before) in
    let size_before : length before ≡ cursor.at = length-take-le cursor.at text h.within in
    record {
      some = f.some;
      size = sym size;
      at = omega (arith, left, f.within);
      line = omega (arith, left, f.within, place, size_before);
      col = omega (arith, left, f.within, column, size_before);
    }

pub front_next : (text : Bytes) (cursor next : Cursor) (told : List Lexeme) (p : Option LexKind × ℕ) → HasFront text cursor told → cursor.at < length text → Ok p ≡ cut cursor.opens (take (length text - cursor.at) (drop cursor.at text))
    → ((before : Bytes) → IsBehind before cursor → IsBehind (before ++ take p.1 (take (length text - cursor.at) (drop cursor.at text))) next) → HasFront text next (told ++ spanned p.0 cursor next)
front_next text cursor next told p h lt e steps =
    front_more text cursor next told p.0 p.1 h lt (ap (cut cursor.opens) (sym (rest_is text cursor)) ∙ sym e)
    (λ before behind. subst (λ (l : Bytes). IsBehind (before ++ take p.1 l) next) (rest_is text cursor) (steps before behind))

pub next_is_behind : (text : Bytes) (cursor next : Cursor) (told : List Lexeme) (n : ℕ) → HasFront text cursor told → Fits text cursor n → ((before : Bytes) → IsBehind before cursor → IsBehind (before ++ take n (take (length text - cursor.at) (drop cursor.at text))) next) → cursor.at < next.at
next_is_behind text cursor next told n h f steps =
    omega (arith, (steps (take cursor.at text) h.behind).at, length-append (take cursor.at text) (take n (take (length text - cursor.at) (drop cursor.at text))), f.size, f.some, length-take-le cursor.at text h.within)
