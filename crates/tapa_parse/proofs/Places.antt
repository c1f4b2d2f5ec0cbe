-- Where reading stops is where the grammar refuses the symbols, and there alone.
use Rattle.std.proofs.Common.{◌≡◌, ◌⊎◌, ℕ, suc, ◌+◌, ◌<◌, ◌≤◌, inl, inr, List, [], ◌∷◌, ◌++◌, length, Option, Some, None, Ok, Err, refl, sym, ap, subst, ◌∙◌, append_assoc, arith}
use Rattle.std.proofs.lemmas.Bool.Decides.{leb_tells}
use Rattle.std.proofs.lemmas.List.{append-nil, length-append, nil_from_length, append_cancel_right}
use Rattle.tapa_syntax.specs.Symbols.{Symbol}
use Rattle.tapa_syntax.specs.Trees.{ItemTree}
use Rattle.tapa_base.specs.Spans.{Each}
use Rattle.tapa_syntax.specs.Grammar.{IsItem, IsTreeOf}
use Rattle.tapa_syntax.specs.Limits.{most_levels, most_operators, IsWithinLimits}
use Rattle.tapa_parse_expression.specs.declared.fault.ParseCode.{ParseCode}
use Rattle.tapa_parse_expression.specs.declared.fault.ParseCode.TheVariants.{P1, P2}
use Rattle.tapa_parse_expression.specs.Readers.{Outcome}
use Rattle.tapa_parse_expression.specs.Reading.{below}
use Rattle.tapa_parse.specs.Reading.{file}
use Rattle.tapa_parse.specs.Passing.{over_file}
use Rattle.tapa_parse.specs.Begins.{Begins, StopsAt, Passes, NonePasses, IsUnexpected, IsTooDeep}
use Rattle.tapa_base.specs.Gaps.{Bytes}
use Rattle.tapa_base.specs.declared.text.Place.{Place}
use Rattle.tapa_parse.specs.declared.fault.ParseFault.TheVariants.{At}
use Rattle.tapa_parse.specs.Answers.{IsRefused, Refuses, RefusedOnce, IsFile, IsRefusedSomewhere, FileOrRefused}
use Rattle.tapa_parse_expression.proofs.Parts.{Symbols, failed, told}
use Rattle.tapa_parse_expression.proofs.Fronts.{Front, Any, Goes, Steady, gives, refuses}
use Rattle.tapa_parse_expression.proofs.SteadyLists.{Many}
use Rattle.tapa_parse.proofs.SoundTasks.{found_sound}
use Rattle.tapa_parse.proofs.CompleteFiles.{Reads, file_complete, file_told}
use Rattle.tapa_parse.proofs.SteadyTasks.{file_steady}

abbrev reading : Symbols → Outcome (List ItemTree)
reading symbols = file most_operators (below most_levels) symbols

-- what stands before the refused symbol may go on to a file; where that symbol passes a limit, with it
abbrev GoesOn : ParseCode → Symbols → Symbols → Type 0
GoesOn P1 before left = Begins before
GoesOn P2 before [] = ⊥
GoesOn P2 before (x ∷ rest) = Begins (before ++ x ∷ [])

-- the same refusal, whatever stands behind the refused symbol
abbrev SameRefusal : ParseCode → Symbols → Symbols → Type 0
SameRefusal c before left = (x : Symbol) (rest other : Symbols) → left ≡ x ∷ rest → reading (before ++ x ∷ other) ≡ Err (c, x ∷ other)

pub record Stops (symbols : Symbols) (c : ParseCode) (left : Symbols) : Type 0 where
  pub before : Symbols
  pub is : symbols ≡ before ++ left
  pub goes : GoesOn c before left
  pub same : SameRefusal c before left

-- ---- two fronts of one list

fronts : (a b c d : Symbols) → a ++ b ≡ c ++ d → length a ≤ length c → (x : Symbols) × (c ≡ a ++ x) × (b ≡ x ++ d)
fronts [] b c d e h = (c, refl, e)
fronts (x ∷ a) b [] d e h = absurd (omega arith)
fronts (x ∷ a) b (y ∷ c) d e h =
    let p : (z : Symbols) × (c ≡ a ++ z) × (b ≡ z ++ d) = fronts a b c d (tails e) (omega arith) in
    (p.0, ap (λ (k : Symbol). k ∷ c) (sym (firsts e)) ∙ ap (λ (l : Symbols). x ∷ l) p.1, p.2)
  where
    firsts : x ∷ (a ++ b) ≡ y ∷ (c ++ d) → x ≡ y
    firsts e = cc

    tails : x ∷ (a ++ b) ≡ y ∷ (c ++ d) → a ++ b ≡ c ++ d
    tails e = cc

-- a longer front is the shorter one with something behind it
longer : (a b c d : Symbols) → a ++ b ≡ c ++ d → length a < length c → (x : Symbol) × (z : Symbols) × (c ≡ a ++ x ∷ z) × (b ≡ x ∷ (z ++ d))
longer a b c d e h = by (fronts a b c d e (omega (arith, h)))
  where
    by : (x : Symbols) × (c ≡ a ++ x) × (b ≡ x ++ d) → (x : Symbol) × (z : Symbols) × (c ≡ a ++ x ∷ z) × (b ≡ x ∷ (z ++ d))
    by ([], p, q) = absurd (omega (arith, h, ap (λ (l : Symbols). length l) p, length-append a []))
    by (x ∷ z, p, q) = (x, z, p, q)

-- where some file begins with a longer front, none stops at the shorter one
longer_begun : (a c : Symbols) (x : Symbol) (z b : Symbols) → Begins c → c ≡ a ++ x ∷ z → StopsAt a (x ∷ b) → ⊥
longer_begun a c x z b (rest, items, tree) e stops =
    stops (z ++ rest, items, subst (λ (l : Symbols). IsTreeOf l items) (ap (λ (l : Symbols). l ++ rest) e ∙ append_assoc a (x ∷ z) rest ∙ sym (append_assoc a (x ∷ []) (z ++ rest))) tree)

begins_again : (before : Symbols) (x : Symbol) → Passes before x → Begins (before ++ x ∷ [])
begins_again before x p = (p.rest, p.items, subst (λ (l : Symbols). IsTreeOf l p.items) (sym (append_assoc before (x ∷ []) p.rest)) p.spelled)

-- ---- symbols are refused at one place

less : (m n : ℕ) → (m < n) ⊎ (n ≤ m)
less m n = elim (leb_tells (suc m) n) [ inl t ↦ inl (omega (arith, t.1)) | inr f ↦ inr (omega (arith, f.1)) ]

unexpected_once : (symbols left other : Symbols) → IsUnexpected symbols left → IsUnexpected symbols other → left ≡ other
unexpected_once symbols left other p q = by (less (length p.before) (length q.before)) (less (length q.before) (length p.before))
  where
    never : (s t : Symbols) (a : IsUnexpected symbols s) (b : IsUnexpected symbols t) → length a.before < length b.before → ⊥
    never s t a b h =
        let (x, z, e, f) = longer a.before s b.before t (sym a.is ∙ b.is) h in
        longer_begun a.before b.before x z (z ++ t) b.begun e (subst (StopsAt a.before) f a.stops)

    by : (length p.before < length q.before) ⊎ (length q.before ≤ length p.before) → (length q.before < length p.before) ⊎ (length p.before ≤ length q.before) → left ≡ other
    by (inl h) k = absurd (never left other p q h)
    by (inr h) (inl k) = absurd (never other left q p k)
    by (inr h) (inr k) =
        let (x, e, f) = fronts p.before left q.before other (sym p.is ∙ q.is) k in
        let none : x ≡ [] = nil_from_length x (omega (arith, h, ap (λ (l : Symbols). length l) e, length-append p.before x)) in
        f ∙ ap (λ (l : Symbols). l ++ other) none

not_too_deep : (symbols left other : Symbols) → IsUnexpected symbols left → IsTooDeep symbols other → ⊥
not_too_deep symbols left other p q = by (less (length q.before) (length p.before))
  where
    firsts : (x y : Symbol) (z w : Symbols) → x ∷ z ≡ y ∷ w → x ≡ y
    firsts x y z w e = cc

    by : (length q.before < length p.before) ⊎ (length p.before ≤ length q.before) → ⊥
    by (inl h) =
        let (x, z, e, f) = longer q.before other p.before left (sym q.is ∙ p.is) h in
        p.within q.before x z e (subst (Passes q.before) (firsts q.first x q.behind (z ++ left) (sym q.left_is ∙ f)) q.passes)
    by (inr h) =
        let all : p.before ++ left ≡ (q.before ++ q.first ∷ []) ++ q.behind =
        sym p.is ∙ q.is ∙ ap (λ (l : Symbols). q.before ++ l) q.left_is ∙ sym (append_assoc q.before (q.first ∷ []) q.behind) in
        let (x, z, e, f) = longer p.before left (q.before ++ q.first ∷ []) q.behind all (omega (arith, h, length-append q.before (q.first ∷ []))) in
        longer_begun p.before (q.before ++ q.first ∷ []) x z (z ++ q.behind) (begins_again q.before q.first q.passes) e (subst (StopsAt p.before) f p.stops)

never_tree : (before left : Symbols) (items : List ItemTree) → StopsAt before left → IsTreeOf (before ++ left) items → ⊥
never_tree before [] items s tree = s items (subst (λ (l : Symbols). IsTreeOf l items) (append-nil before) tree)
never_tree before (x ∷ rest) items s tree = s (rest, items, subst (λ (l : Symbols). IsTreeOf l items) (sym (append_assoc before (x ∷ []) rest)) tree)

-- ---- what is told of symbols

abbrev refused : ParseCode → Symbols → Outcome (List ItemTree)
refused c left = Err (c, left)

err_is : (x y : ParseCode × Symbols) → failed {A = List ItemTree} x ≡ failed y → x ≡ y
err_is x y e = cc

apart : P2 ≡ P1 → ⊥
apart e = cc

told_no_p1 : (o : Option Symbols) (items : List ItemTree) (left : Symbols) → told o (items, []) ≡ refused P1 left → ⊥
told_no_p1 None items left e = cc
told_no_p1 (Some w) items left e = apart (ap (λ (x : ParseCode × Symbols). x.0) (err_is (P2, w) (P1, left) e))

told_p2 : (o : Option Symbols) (items : List ItemTree) (left : Symbols) → told o (items, []) ≡ refused P2 left → o ≡ Some left
told_p2 None items left e = absurd (cc)
told_p2 (Some w) items left e = ap (λ (x : ParseCode × Symbols). Some x.1) (err_is (P2, w) (P2, left) e)

refuses_once : (c d : ParseCode) (left other : Symbols) → refused c left ≡ refused d other → (c ≡ d) × (left ≡ other)
refuses_once c d left other e = let same = err_is (c, left) (d, other) e in (ap (λ (x : ParseCode × Symbols). x.0) same, ap (λ (x : ParseCode × Symbols). x.1) same)

read_never : (o : Outcome (List ItemTree)) (items : List ItemTree) (rest : Symbols) (c : ParseCode) (left : Symbols) → o ≡ Ok (items, rest) → o ≡ refused c left → ⊥
read_never o items rest c left e f = cc

-- ---- the reader of files looks at nothing behind where it stops

collected : (us : List (Unit {0})) (i j : Symbols) → Each (λ u. Any IsItem) us i j → (items : List ItemTree) × Each IsItem items i j
collected [] i j h = ([], h)
collected (u ∷ us) i j (k, (x, first), rest) = let more = collected us k j rest in (x ∷ more.0, (k, first, more.1))

begun : (f : Front) (before : Symbols) → Many (Any IsItem) (f.put before) [] → (rest : Symbols) → before ≡ rest → (items : List ItemTree) × IsTreeOf (f.put [] ++ rest) items
begun f before h rest e = let all = collected h.0 (f.put before) [] h.1 in (all.0, subst (λ (l : Symbols). IsTreeOf l all.0) (f.is before ∙ ap (λ (l : Symbols). f.put [] ++ l) e) all.1)

goes_on : (c : ParseCode) (f : Front) (left : Symbols) → Goes (Many (Any IsItem)) c f left → GoesOn c (f.put []) left
goes_on P1 f left (r, h) = let all = begun f (r []) (h []) (r []) refl in (r [], all.0, all.1)
goes_on P2 f [] h = h
goes_on P2 f (x ∷ left) (r, h) =
    let all = begun f (x ∷ r []) (h []) (x ∷ r []) refl in
    (r [], all.0, subst (λ (l : Symbols). IsTreeOf l all.0) (sym (append_assoc (f.put []) (x ∷ []) (r []))) all.1)

steady_stops : (symbols : Symbols) (c : ParseCode) (left : Symbols) → reading symbols ≡ refused c left → Steady (Many (Any IsItem)) reading symbols → Stops symbols c left
steady_stops symbols c left e (gives items f l is read spelled same) = absurd (read_never (reading symbols) items l c left read e)
steady_stops symbols c left e (refuses d f l is read goes same) =
    let once = refuses_once d c l left (sym read ∙ e) in
    subst (λ (z : Symbols). Stops symbols c z) once.1
    (subst (λ (d : ParseCode). Stops symbols d l) once.0
    (record { before = f.put []; is = is ∙ f.is l; goes = goes_on d f l goes; same = λ x rest other ends. ap reading (sym (f.is (x ∷ other))) ∙ same x rest other ends }))

stops : (symbols : Symbols) (c : ParseCode) (left : Symbols) → reading symbols ≡ refused c left → Stops symbols c left
stops symbols c left e = steady_stops symbols c left e (file_steady most_operators most_levels symbols)

-- symbols with a tree are not unexpected
no_tree : (symbols left : Symbols) (items : List ItemTree) → IsTreeOf symbols items → reading symbols ≡ refused P1 left → ⊥
no_tree symbols left items h e = told_no_p1 (over_file items symbols h) items left (sym (file_told most_operators most_levels symbols items h) ∙ e)

-- what passes a limit is refused, whatever follows
passes_stops : (before : Symbols) (x : Symbol) (other : Symbols) → Passes before x → reading (before ++ x ∷ other) ≡ refused P2 (x ∷ other)
passes_stops before x other p =
    let e : reading (before ++ x ∷ p.rest) ≡ refused P2 (x ∷ p.rest) = file_told most_operators most_levels (before ++ x ∷ p.rest) p.items p.spelled ∙ ap (λ o. told o (p.items, [])) p.first in
    let s : Stops (before ++ x ∷ p.rest) P2 (x ∷ p.rest) = stops (before ++ x ∷ p.rest) P2 (x ∷ p.rest) e in
    let f : s.before ≡ before = append_cancel_right s.before before (x ∷ p.rest) (sym s.is) in
    subst (λ (l : Symbols). reading (l ++ x ∷ other) ≡ refused P2 (x ∷ other)) f (s.same x p.rest other refl)

none_passes : (symbols before : Symbols) (c : ParseCode) (left : Symbols) → symbols ≡ before ++ left → reading symbols ≡ refused c left → NonePasses before
none_passes symbols before c left e h = λ front y tail is p.
    let f : symbols ≡ front ++ y ∷ (tail ++ left) = e ∙ ap (λ (l : Symbols). l ++ left) is ∙ append_assoc front (y ∷ tail) left in
    let g : reading symbols ≡ refused P2 (y ∷ (tail ++ left)) = subst (λ (l : Symbols). reading l ≡ refused P2 (y ∷ (tail ++ left))) (sym f) (passes_stops front y (tail ++ left) p) in
    let same : left ≡ y ∷ (tail ++ left) = (refuses_once c P2 left (y ∷ (tail ++ left)) (sym h ∙ g)).1 in
    absurd (omega (arith, ap (λ (l : Symbols). length l) same, length-append tail left))

stops_here : (before left : Symbols) → reading (before ++ left) ≡ refused P1 left → SameRefusal P1 before left → StopsAt before left
stops_here before [] e same = λ items tree. no_tree before [] items tree (subst (λ (l : Symbols). reading l ≡ refused P1 []) (append-nil before) e)
stops_here before (x ∷ rest) e same = λ b.
    no_tree (before ++ x ∷ b.0) (x ∷ b.0) b.1 (subst (λ (l : Symbols). IsTreeOf l b.1) (append_assoc before (x ∷ []) b.0) b.2) (same x rest b.0 refl)

passed : (before : Symbols) (x : Symbol) (rest : Symbols) → SameRefusal P2 before (x ∷ rest) → Begins (before ++ x ∷ []) → Passes before x
passed before x rest same (more, items, tree) =
    let h : IsTreeOf (before ++ x ∷ more) items = subst (λ (l : Symbols). IsTreeOf l items) (append_assoc before (x ∷ []) more) tree in
    record {
      rest = more;
      items = items;
      spelled = h;
      first = told_p2 (over_file items (before ++ x ∷ more) h) items (x ∷ more) (sym (file_told most_operators most_levels (before ++ x ∷ more) items h) ∙ same x rest more refl);
    }

refused_by : (symbols : Symbols) (c : ParseCode) (left : Symbols) → reading symbols ≡ refused c left → Stops symbols c left → IsRefused c symbols left
refused_by symbols P1 left e s = record {
  before = s.before;
  is = s.is;
  begun = s.goes;
  stops = stops_here s.before left (subst (λ (l : Symbols). reading l ≡ refused P1 left) s.is e) s.same;
  within = none_passes symbols s.before P1 left s.is e;
}
refused_by symbols P2 [] e s = absurd s.goes
refused_by symbols P2 (x ∷ rest) e s = record {
  before = s.before;
  first = x;
  behind = rest;
  is = s.is;
  left_is = refl;
  passes = passed s.before x rest s.same s.goes;
  within = none_passes symbols s.before P2 (x ∷ rest) s.is e;
}

-- where reading stops the symbols are refused
pub refused_there : (symbols : Symbols) (c : ParseCode) (left : Symbols) → reading symbols ≡ refused c left → IsRefused c symbols left
refused_there symbols c left e = refused_by symbols c left e (stops symbols c left e)

-- what the parser tells
pub refused_so : (text : Bytes) (symbols : Symbols) (c : ParseCode) (place : Place)
    → Reads text (Err (At c place)) (file most_operators (below most_levels) symbols) → Refuses text symbols (At c place)
refused_so text symbols c place (left, at, is) = (left, at, refused_there symbols c left is)

-- and where they are refused it stops
pub reads_so : (symbols : Symbols) (c : ParseCode) (left : Symbols) → IsRefused c symbols left → reading symbols ≡ refused c left
reads_so symbols P2 left r =
    let all : symbols ≡ r.before ++ r.first ∷ r.behind = r.is ∙ ap (λ (l : Symbols). r.before ++ l) r.left_is in
    subst (λ (l : Symbols). reading symbols ≡ refused P2 l) (sym r.left_is)
    (subst (λ (l : Symbols). reading l ≡ refused P2 (r.first ∷ r.behind)) (sym all) (passes_stops r.before r.first r.behind r.passes))
reads_so symbols P1 left r = by (reading symbols) refl
  where
    by : (o : Outcome (List ItemTree)) → reading symbols ≡ o → reading symbols ≡ refused P1 left
    by (Ok (items, rest)) e = absurd (never_tree r.before left items r.stops (subst (λ (l : Symbols). IsTreeOf l items) r.is (found_sound symbols rest items e).0))
    by (Err (P1, l)) e = e ∙ ap (refused P1) (unexpected_once symbols l left (refused_there symbols P1 l e) r)
    by (Err (P2, l)) e = absurd (not_too_deep symbols left l r (refused_there symbols P2 l e))

pub one_refusal : RefusedOnce
one_refusal symbols left other c d h k = refuses_once c d left other (sym (reads_so symbols c left h) ∙ reads_so symbols d other k)

not_both : (symbols : Symbols) → IsFile symbols → IsRefusedSomewhere symbols → ⊥
not_both symbols (items, tree, within) (c, left, h) =
    read_never (reading symbols) items [] c left (file_complete most_operators most_levels symbols items tree within.levels within.longest (omega arith)) (reads_so symbols c left h)

one_of_both : (symbols : Symbols) (o : Outcome (List ItemTree)) → reading symbols ≡ o → IsFile symbols ⊎ IsRefusedSomewhere symbols
one_of_both symbols (Ok (items, rest)) e = let found = found_sound symbols rest items e in inl (items, found.0, found.1)
one_of_both symbols (Err (c, left)) e = inr (c, left, refused_there symbols c left e)

pub file_or_refused : FileOrRefused
file_or_refused symbols = (one_of_both symbols (reading symbols) refl, not_both symbols)
