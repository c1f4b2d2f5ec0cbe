-- What a reader answers hangs on the symbols up to the one that it stops before, and on none behind; and what stands before that one may go on.
use Rattle.std.proofs.Common.{◌≡◌, inl, inr, ℕ, zero, suc, ◌<◌, Bool, true, false, cond, [], ◌∷◌, ◌++◌, length, drop, Option, Some, None, Ok, Err, refl, sym, ap, subst, ◌∙◌, append_assoc, arith}
use Rattle.std.specs.Prelude.{if◌then◌else◌}
use Rattle.tapa_base.specs.declared.text.Place.{Place}
use Rattle.tapa_base.specs.declared.kind.Kind.{Kind}
use Rattle.tapa_base.specs.declared.kind.Kind.TheVariants as kind
use Rattle.tapa_base.specs.Spans.{◌⨾◌, Nothing}
use Rattle.tapa_syntax.specs.declared.terminal.Terminal.{Terminal}
use Rattle.tapa_syntax.specs.declared.terminal.Terminal.TheVariants as terminal
use Rattle.tapa_syntax.specs.Symbols.{Symbol}
use Rattle.tapa_syntax.specs.Grammar.{Part, Takes, May, MeansTree, IsName, IsPlainName, IsLiteral, is_name, named}
use Rattle.tapa_syntax.specs.declared.tree.Name.{Name}
use Rattle.tapa_parse_expression.specs.declared.fault.ParseCode.{ParseCode}
use Rattle.tapa_parse_expression.specs.declared.fault.ParseCode.TheVariants.{P1, P2}
use Rattle.tapa_parse_expression.specs.Readers.{Outcome, Reader, and_then, ◌>>=◌, ◌>>◌, pure, refuse, next, first_place, same, sees, skip, here, expect, past, eat, known, name, plain_by, plain_name, literal_value, no_place}
use Rattle.tapa_parse_expression.specs.Reading.{Readers, enter, count, open_level}
use Rattle.tapa_parse_expression.proofs.Parts.{Symbols, ok_is, then_is, if_false, is_end, sees_is}

-- ---- fronts

-- some symbols, put before others
pub record Front : Type 0 where
  pub put : Symbols → Symbols
  pub is : (j : Symbols) → put j ≡ put [] ++ j

abbrev pub front_none : Front
front_none = record { put = λ j. j; is = λ j. refl }

abbrev pub front_one : Symbol → Front
front_one x = record { put = λ j. x ∷ j; is = λ j. refl }

pub joined : (f g : Front) (j : Symbols) → f.put (g.put j) ≡ f.put (g.put []) ++ j
joined f g j = f.is (g.put j) ∙ ap (λ k. f.put [] ++ k) (g.is j) ∙ sym (append_assoc (f.put []) (g.put []) j) ∙ ap (λ k. k ++ j) (sym (f.is (g.put [])))

abbrev pub front_then : Front → Front → Front
front_then f g = record { put = λ j. f.put (g.put j); is = λ j. joined f g j }

-- ---- steady readers

-- a part has a spelling, and some end of it may come
pub record Full (P : Part) : Type 0 where
  pub before : Symbols → Symbols
  pub spelled : (j : Symbols) → P (before j) j

-- What stands before the refused symbol may go on to the part; where it passes a limit, with that symbol.
abbrev pub Goes : Part → ParseCode → Front → Symbols → Type 0
Goes P P1 f l = (r : Symbols → Symbols) × ((j : Symbols) → P (f.put (r j)) j)
Goes P P2 f [] = ⊥
Goes P P2 f (x ∷ l) = (r : Symbols → Symbols) × ((j : Symbols) → P (f.put (x ∷ r j)) j)

-- the same answer, whatever stands behind the symbol that it stops before
abbrev pub SameGiven : {A : Type 0} → Reader A → Front → Symbols → A → Type 0
SameGiven p f l a = (x : Symbol) (z other : Symbols) → l ≡ x ∷ z → p (f.put (x ∷ other)) ≡ Ok (a, x ∷ other)

abbrev pub SameRefused : {A : Type 0} → Reader A → Front → Symbols → ParseCode → Type 0
SameRefused p f l c = (x : Symbol) (z other : Symbols) → l ≡ x ∷ z → p (f.put (x ∷ other)) ≡ Err (c, x ∷ other)

-- A reader at some symbols: what it passed is this part whatever follows, or a front of it; and it looked at nothing behind where it stops.
pub data Steady {A : Type 0} (P : Part) (p : Reader A) (i : Symbols) : Type 0 where
  gives : (a : A) (f : Front) (l : Symbols) → i ≡ f.put l → p i ≡ Ok (a, l) → ((j : Symbols) → P (f.put j) j) → SameGiven p f l a → Steady P p i
  refuses : (c : ParseCode) (f : Front) (l : Symbols) → i ≡ f.put l → p i ≡ Err (c, l) → Goes P c f l → SameRefused p f l c → Steady P p i

-- ---- what follows of the fronts

-- what is the same of a list whatever follows, is it where a front goes on
pub carry : {A : Type 0} (p : Reader A) (a : A) (f g : Front) (l m : Symbols) (x : Symbol) (z other : Symbols) → SameGiven p f l a → l ≡ g.put m → m ≡ x ∷ z → p (f.put (g.put (x ∷ other))) ≡ Ok (a, g.put (x ∷ other))
carry p a f g l m x z other same is ends =
    subst (λ k. p (f.put k) ≡ Ok (a, k)) (sym (g.is (x ∷ other))) (pick (g.put []) (is ∙ g.is m ∙ ap (λ k. g.put [] ++ k) ends))
  where
    pick : (ys : Symbols) → l ≡ ys ++ (x ∷ z) → p (f.put (ys ++ (x ∷ other))) ≡ Ok (a, ys ++ (x ∷ other))
    pick [] e = same x z other e
    pick (y ∷ ys) e = same y (ys ++ (x ∷ z)) (ys ++ (x ∷ other)) e

-- and so is what is seen of the first symbol
pub same_first : {B : Type 0} (see : Symbols → B) → ((x : Symbol) (z other : Symbols) → see (x ∷ other) ≡ see (x ∷ z)) → (f : Front) (i l : Symbols) (x : Symbol) (z other : Symbols) → i ≡ f.put l → l ≡ x ∷ z → see (f.put (x ∷ other)) ≡ see i
same_first see looks f i l x z other is ends = ap see (f.is (x ∷ other)) ∙ pick (f.put []) ∙ sym (ap see (is ∙ f.is l ∙ ap (λ k. f.put [] ++ k) ends))
  where
    pick : (ys : Symbols) → see (ys ++ (x ∷ other)) ≡ see (ys ++ (x ∷ z))
    pick [] = looks x z other
    pick (y ∷ ys) = looks y (ys ++ (x ∷ z)) (ys ++ (x ∷ other))

-- ---- one after another

pub full_then : {P Q : Part} → Full P → Full Q → Full (P ⨾ Q)
full_then h k = record { before = λ j. h.before (k.before j); spelled = λ j. (k.before j, h.spelled (k.before j), k.spelled j) }

-- what goes on to a part goes on to each that is made of it behind the front
pub goes_put : (P Q : Part) (f g : Front) → ((m j : Symbols) → P (f.put m) j → Q (g.put m) j) → (c : ParseCode) (l : Symbols) → Goes P c f l → Goes Q c g l
goes_put P Q f g k P1 l h = (h.0, λ j. k (h.0 j) j (h.1 j))
goes_put P Q f g k P2 [] h = h
goes_put P Q f g k P2 (x ∷ l) h = (h.0, λ j. k (x ∷ h.0 j) j (h.1 j))

-- and to what another part makes of it
pub goes_then : (P Q : Part) → Full Q → (f : Front) (c : ParseCode) (l : Symbols) → Goes P c f l → Goes (P ⨾ Q) c f l
goes_then P Q full f P1 l goes = (λ j. goes.0 (full.before j), λ j. (full.before j, goes.1 (full.before j), full.spelled j))
goes_then P Q full f P2 [] goes = goes
goes_then P Q full f P2 (x ∷ l) goes = (λ j. goes.0 (full.before j), λ j. (full.before j, goes.1 (full.before j), full.spelled j))

pub steady_map : {A : Type 0} (P Q : Part) {p : Reader A} {i : Symbols} → ((i j : Symbols) → P i j → Q i j) → Steady P p i → Steady Q p i
steady_map P Q f (gives a g l is e part same) = gives a g l is e (λ j. f (g.put j) j (part j)) same
steady_map P Q f (refuses c g l is e goes same) = refuses c g l is e (goes_put P Q g g (λ m j. f (g.put m) j) c l goes) same

module _ {A B : Type 0} (p : Reader A) (q : A → Reader B) (i : Symbols) where
  -- by what is given; a refusal stays one
  pub by_given : (P R : Part) → ((f : Front) (c : ParseCode) (l : Symbols) → Goes P c f l → Goes R c f l) → Steady P p i
      → ((a : A) (f : Front) (l : Symbols) → i ≡ f.put l → p i ≡ Ok (a, l) → SameGiven p f l a → ((j : Symbols) → P (f.put j) j) → Steady R (p >>= q) i) → Steady R (p >>= q) i
  by_given P R g (gives a f l is e part same) k = k a f l is e same part
  by_given P R g (refuses c f l is e goes same) k = refuses c f l is (ap (λ o. and_then o q) e) (g f c l goes) (λ x z other ends. ap (λ o. and_then o q) (same x z other ends))

  -- what comes behind a value that was given
  pub after_given : (a : A) (f : Front) (l : Symbols) → i ≡ f.put l → p i ≡ Ok (a, l) → SameGiven p f l a → (Q R : Part) → ((m j : Symbols) → Q m j → R (f.put m) j) → Steady Q (q a) l → Steady R (p >>= q) i
  after_given a f l is e same Q R join (gives b g m behind given part same') =
      gives b (front_then f g) m (is ∙ ap f.put behind) (then_is q a l e given) (λ j. join (g.put j) j (part j)) (λ x z other ends. then_is q a (g.put (x ∷ other)) (carry p a f g l m x z other same behind ends) (same' x z other ends))
  after_given a f l is e same Q R join (refuses c g m behind refused goes same') =
      refuses c (front_then f g) m (is ∙ ap f.put behind) (then_is q a l e refused) (goes_put Q R g (front_then f g) (λ m j. join (g.put m) j) c m goes)
      (λ x z other ends. then_is q a (g.put (x ∷ other)) (carry p a f g l m x z other same behind ends) (same' x z other ends))

pub then_steady : {A B : Type 0} (P Q : Part) (p : Reader A) (q : A → Reader B) (i : Symbols) → Steady P p i → Full Q → ((a : A) (j : Symbols) → p i ≡ Ok (a, j) → Steady Q (q a) j) → Steady (P ⨾ Q) (p >>= q) i
then_steady P Q p q i h full k = by_given p q i P (P ⨾ Q) (goes_then P Q full) h (λ a f l is e same part. after_given p q i a f l is e same Q (P ⨾ Q) (λ m j behind. (m, part m, behind)) (k a l e))

-- a front with a symbol behind it is some
pub none_left : (f : Front) (x : Symbol) (l : Symbols) → [] ≡ f.put (x ∷ l) → ⊥
none_left f x l is = pick (f.put []) (is ∙ f.is (x ∷ l))
  where
    pick : (ys : Symbols) → [] ≡ ys ++ (x ∷ l) → ⊥
    pick [] e = cc
    pick (y ∷ ys) e = cc

pub put_some : (f : Front) (x : Symbol) (l : Symbols) → 0 < length (f.put (x ∷ l))
put_some f x l = subst (λ k. 0 < length k) (sym (f.is (x ∷ l))) (pick (f.put []))
  where
    pick : (ys : Symbols) → 0 < length (ys ++ (x ∷ l))
    pick [] = omega arith
    pick (y ∷ ys) = omega arith

-- what is read at no symbol has a spelling
pub full_of : {A : Type 0} (P : Part) (p : Reader A) → Steady P p [] → Full P
full_of P p (gives a f l is e part same) = record { before = f.put; spelled = part }
full_of P p (refuses P1 f l is e goes same) = record { before = λ j. f.put (goes.0 j); spelled = goes.1 }
full_of P p (refuses P2 f [] is e goes same) = absurd goes
full_of P p (refuses P2 f (x ∷ l) is e goes same) = absurd (none_left f x l is)

-- what is given is spelled so
pub spelled_of : {A : Type 0} {P : Part} {p : Reader A} {i : Symbols} (a : A) (j : Symbols) → Steady P p i → p i ≡ Ok (a, j) → P i j
spelled_of {P = P} {i = i} a j (gives b f l is e part same) h = let ends : l ≡ j = ap (λ y. y.1) (ok_is (b, l) (a, j) (sym e ∙ h)) in subst (λ k. P i k) ends (subst (λ k. P k l) (sym is) (part l))
spelled_of a j (refuses c f l is e goes same) h = absurd (let both = sym e ∙ h in cc)

-- where one value is known, what comes next needs no spelling of its own
pub steady_then : {A B : Type 0} {P Q : Part} {p : Reader A} {q : A → Reader B} {i : Symbols} → A → Steady P p i → ((a : A) (j : Symbols) → Steady Q (q a) j) → Steady (P ⨾ Q) (p >>= q) i
steady_then {P = P} {Q = Q} {p = p} {q = q} {i = i} a h k = then_steady P Q p q i h (full_of Q (q a) (k a [])) (λ b j e. k b j)

pub steady_pure : {A : Type 0} (a : A) (i : Symbols) → Steady Nothing (pure a) i
steady_pure a i = gives a front_none i refl refl (λ j. refl) (λ x z other ends. refl)

pub steady_value : {A B : Type 0} {P : Part} {p : Reader A} {i : Symbols} (g : A → B) → Steady P p i → Steady P (p >>= (λ a. pure (g a))) i
steady_value g (gives a f l is e part same) = gives (g a) f l is (then_is _ a l e refl) part (λ x z other ends. then_is _ a (x ∷ other) (same x z other ends) refl)
steady_value g (refuses c f l is e goes same) = refuses c f l is (ap (λ o. and_then o (λ a. pure (g a))) e) goes (λ x z other ends. ap (λ o. and_then o (λ a. pure (g a))) (same x z other ends))

-- a reader that answers as another does
pub steady_as : {A : Type 0} {P : Part} (p q : Reader A) (i : Symbols) → ((k : Symbols) → q k ≡ p k) → Steady P p i → Steady P q i
steady_as p q i eq (gives a f l is e part same) = gives a f l is (eq i ∙ e) part (λ x z other ends. eq (f.put (x ∷ other)) ∙ same x z other ends)
steady_as p q i eq (refuses c f l is e goes same) = refuses c f l is (eq i ∙ e) goes (λ x z other ends. eq (f.put (x ∷ other)) ∙ same x z other ends)

-- the same, where the next symbol is this one
pub steady_where : {A : Type 0} {P : Part} (p q : Reader A) (i : Symbols) → ((k : Symbols) → next k ≡ next i → q k ≡ p k) → Steady P p i → Steady P q i
steady_where p q i eq (gives a f l is e part same) = gives a f l is (eq i refl ∙ e) part (λ x z other ends. eq (f.put (x ∷ other)) (same_first next (λ x z other. refl) f i l x z other is ends) ∙ same x z other ends)
steady_where p q i eq (refuses c f l is e goes same) = refuses c f l is (eq i refl ∙ e) goes (λ x z other ends. eq (f.put (x ∷ other)) (same_first next (λ x z other. refl) f i l x z other is ends) ∙ same x z other ends)

-- a reader that passes a symbol, and answers behind it as another does
pub steady_behind : {A : Type 0} (P Q : Part) (p q : Reader A) (x : Symbol) (s : Symbols) → ((k : Symbols) → q (x ∷ k) ≡ p k) → ((j r : Symbols) → P j r → Q (x ∷ j) r) → Steady P p s → Steady Q q (x ∷ s)
steady_behind P Q p q x s eq g (gives a f l is e part same) = gives a (front_then (front_one x) f) l (ap (λ k. x ∷ k) is) (eq s ∙ e) (λ j. g (f.put j) j (part j)) (λ y z other ends. eq (f.put (y ∷ other)) ∙ same y z other ends)
steady_behind P Q p q x s eq g (refuses c f l is e goes same) =
    refuses c (front_then (front_one x) f) l (ap (λ k. x ∷ k) is) (eq s ∙ e) (goes_put P Q f (front_then (front_one x) f) (λ m j. g (f.put m) j) c l goes) (λ y z other ends. eq (f.put (y ∷ other)) ∙ same y z other ends)

-- ---- choices by the next symbol

pub steady_look : {A B : Type 0} {P : Part} (see : Symbols → B) → ((x : Symbol) (z other : Symbols) → see (x ∷ other) ≡ see (x ∷ z)) → (pick : B → Reader A) (i : Symbols) → Steady P (pick (see i)) i → Steady P (λ k. pick (see k) k) i
steady_look see looks pick i (gives a f l is e part same) = gives a f l is e part (λ x z other ends. ap (λ m. pick m (f.put (x ∷ other))) (same_first see looks f i l x z other is ends) ∙ same x z other ends)
steady_look see looks pick i (refuses c f l is e goes same) = refuses c f l is e goes (λ x z other ends. ap (λ m. pick m (f.put (x ∷ other))) (same_first see looks f i l x z other is ends) ∙ same x z other ends)

pub steady_by : {A : Type 0} {P : Part} (pick : Terminal → Reader A) (i : Symbols) → Steady P (pick (next i)) i → Steady P (λ k. pick (next k) k) i
steady_by pick i h = steady_look next (λ x z other. refl) pick i h

-- the place of the next symbol
pub steady_at : {A : Type 0} {P : Part} (q : Place → Reader A) (i : Symbols) → Steady P (q (first_place i)) i → Steady P (here >>= q) i
steady_at q i h = steady_look first_place (λ x z other. refl) q i h

pub steady_test : {A : Type 0} {P : Part} (test : Terminal → Bool) (p q : Reader A) (i : Symbols) → (test (next i) ≡ true → Steady P p i) → (test (next i) ≡ false → Steady P q i) → Steady P (λ k. if test (next k) then p k else q k) i
steady_test {P = P} test p q i h k = steady_by (λ m j. if test m then p j else q j) i (pick (test (next i)) refl)
  where
    pick : (b : Bool) → test (next i) ≡ b → Steady P (λ j. if b then p j else q j) i
    pick true e = h e
    pick false e = k e

pub steady_sees : {A : Type 0} {P : Part} (m : Terminal) (p q : Reader A) (i : Symbols) → (next i ≡ m → Steady P p i) → (sees m i ≡ false → Steady P q i) → Steady P (λ k. if sees m k then p k else q k) i
unfolding sees
steady_sees m p q i h k = steady_test (λ t. same t m) p q i (λ e. h (sees_is m i e)) k

pub steady_refuse : {A : Type 0} {P : Part} (i : Symbols) → Full P → Steady P (refuse {A = A} P1) i
steady_refuse i full = refuses P1 front_none i refl refl (full.before, full.spelled) (λ x z other ends. refl)

-- ---- single symbols

-- the symbol that spells a terminal in files that are made
abbrev pub mark : Terminal → Symbol
mark m = record { terminal = m; text = []; place = no_place; literal = (kind.Bool, 0) }

abbrev pub took : {A : Type 0} → Option A → Reader A
took None i = Err (P1, i)
took (Some a) i = Ok (a, drop 1 i)

-- a reader of one symbol, by what that symbol means to it
pub steady_symbol : {A : Type 0} {P : Part} (p : Reader A) (means : Symbol → Option A) → Full P → ((x : Symbol) (a : A) → means x ≡ Some a → (j : Symbols) → P (x ∷ j) j) → p [] ≡ Err (P1, []) → ((x : Symbol) (i : Symbols) → p (x ∷ i) ≡ took (means x) (x ∷ i)) → (i : Symbols) → Steady P p i
steady_symbol p means full part none some [] = refuses P1 front_none [] refl none (full.before, full.spelled) (λ x z other ends. absurd cc)
steady_symbol {A} {P} p means full part none some (x ∷ i) = pick (means x) refl
  where
    pick : (o : Option A) → means x ≡ o → Steady P p (x ∷ i)
    pick None e = refuses P1 front_none (x ∷ i) refl (some x i ∙ ap (λ o. took o (x ∷ i)) e) (full.before, full.spelled) (λ y z other ends. some y other ∙ ap (λ o. took o (y ∷ other)) (ap means (sym (first ends)) ∙ e))
      where
        first : {y : Symbol} {z : Symbols} → x ∷ i ≡ y ∷ z → x ≡ y
        first ends = cc
    pick (Some a) e = gives a (front_one x) i refl (some x i ∙ ap (λ o. took o (x ∷ i)) e) (part x a e) (λ y z other ends. some x (y ∷ other) ∙ ap (λ o. took o (x ∷ (y ∷ other))) e)

if_some : {A : Type 0} (b : Bool) (c a : A) → cond b (Some c) None ≡ Some a → (b ≡ true) × (c ≡ a)
if_some true c a e = (refl, cc)
if_some false c a e = absurd cc

took_if : {A : Type 0} (b : Bool) (a : A) (k : Symbols) → cond {A = Outcome A} b (Ok (a, drop 1 k)) (Err (P1, k)) ≡ took (cond b (Some a) None) k
took_if true a k = refl
took_if false a k = refl

not_seen : (m : Terminal) → is_end m ≡ false → sees m [] ≡ false
not_seen m real = pick (sees m []) refl
  where
    pick : (b : Bool) → sees m [] ≡ b → b ≡ false
    pick false e = refl
    pick true e = absurd (let f : true ≡ false = ap is_end (sees_is m [] e) ∙ real in cc)

-- some value of a reader of single symbols
abbrev pub no_name : Name
no_name = record { text = []; place = no_place }

-- a part of some tree
abbrev pub Any : {A : Type 0} → (A → Part) → Part
Any {A} Q i j = (x : A) × Q x i j

pub full_takes : (m : Terminal) → Full (Takes m)
full_takes m = record { before = λ j. mark m ∷ j; spelled = λ j. (mark m, refl, refl) }

pub steady_expect : (m : Terminal) (i : Symbols) → is_end m ≡ false → Steady (Takes m) (expect m) i
unfolding expect sees
steady_expect m i real =
    steady_symbol (expect m) (λ x. if same x.terminal m then Some tt else None) (full_takes m) (λ x a e j. (x, sees_is m (x ∷ j) (if_some (same x.terminal m) tt a e).0, refl))
    (if_false _ (not_seen m real) refl) (λ x k. took_if (same x.terminal m) tt (x ∷ k)) i

pub full_name : Full (Any IsName)
full_name = record { before = λ j. mark terminal.Name ∷ j; spelled = λ j. (no_name, (mark terminal.Name, (refl, refl), refl)) }

pub steady_name : (i : Symbols) → Steady (Any IsName) name i
unfolding name
steady_name i =
    steady_symbol name (λ x. if is_name x.terminal then Some (named x) else None) full_name
    (λ x a e j. (named x, (x, ((if_some (is_name x.terminal) (named x) a e).0, refl), refl))) refl (λ x k. took_if (is_name x.terminal) (named x) (x ∷ k)) i

abbrev plain_means : Terminal → Symbol → Option Name
plain_means terminal.Name x = Some (named x)
plain_means _ x = None

pub full_plain : Full (Any IsPlainName)
full_plain = record { before = λ j. mark terminal.Name ∷ j; spelled = λ j. (no_name, (mark terminal.Name, (refl, refl), refl)) }

pub steady_plain : (i : Symbols) → Steady (Any IsPlainName) plain_name i
unfolding plain_name
steady_plain i =
    steady_symbol plain_name (λ x. plain_means x.terminal x) full_plain
    (λ x a e j. (named x, (x, (is_plain x x.terminal a refl e, refl), refl))) refl (λ x k. plain_took x x.terminal k) i
  where
    is_plain : (x : Symbol) (m : Terminal) (a : Name) → x.terminal ≡ m → plain_means m x ≡ Some a → x.terminal ≡ terminal.Name
    is_plain x terminal.Name a is e = is
    is_plain x _ a is e = absurd cc

    plain_took : (x : Symbol) (m : Terminal) (k : Symbols) → plain_by m (x ∷ k) ≡ took (plain_means m x) (x ∷ k)
    plain_took x terminal.Name k = refl
    plain_took x _ k = refl

-- any literal
abbrev pub Literal : Part
Literal = Any (λ (v : Kind × ℕ). IsLiteral v.0 v.1)

pub full_literal : Full Literal
full_literal = record { before = λ j. mark terminal.Literal ∷ j; spelled = λ j. ((kind.Bool, 0), (mark terminal.Literal, (refl, refl), refl)) }

pub steady_literal : (i : Symbols) → Steady Literal literal_value i
unfolding literal_value sees
steady_literal i =
    steady_symbol literal_value (λ x. if same x.terminal terminal.Literal then Some x.literal else None) full_literal
    (λ x a e j. (x.literal, (x, (sees_is terminal.Literal (x ∷ j) (if_some (same x.terminal terminal.Literal) x.literal a e).0, refl), refl)))
    (if_false _ (not_seen terminal.Literal refl) refl) (λ x k. took_if (same x.terminal terminal.Literal) x.literal (x ∷ k)) i

-- what a table says of the next symbol
pub steady_means : {A : Type 0} (table : Terminal → Option A) (m : Terminal) (i : Symbols) → table terminal.End ≡ None → (b : A) → table m ≡ Some b → Steady (Any (MeansTree table)) (λ k. (known (table (next k)) >>= (λ a. skip >> pure a)) k) i
steady_means {A} table m i none b some =
    steady_symbol (λ k. (known (table (next k)) >>= (λ a. skip >> pure a)) k) (λ x. table x.terminal) (record { before = λ j. mark m ∷ j; spelled = λ j. (b, (mark m, some, refl)) })
    (λ x a e j. (a, (x, e, refl))) (ap (λ o. and_then (known o []) (λ a. skip >> pure a)) none) (λ x k. took_known (table x.terminal) (x ∷ k)) i
  where
    took_known : (o : Option A) (k : Symbols) → and_then (known o k) (λ a. skip >> pure a) ≡ took o k
    took_known None k = refl
    took_known (Some a) k = refl

-- a symbol that was looked at before
pub steady_skip : {P : Part} (i : Symbols) → is_end (next i) ≡ false → ((x : Symbol) → x.terminal ≡ next i → (j : Symbols) → P (x ∷ j) j) → Steady P skip i
steady_skip [] real part = absurd cc
steady_skip (x ∷ i) real part = gives tt (front_one x) i refl refl (part x refl) (λ y z other ends. refl)

pub steady_skips : (m : Terminal) (i : Symbols) → is_end m ≡ false → next i ≡ m → Steady (Takes m) skip i
steady_skips m i real e = steady_skip i (ap is_end e ∙ real) (λ x is j. (x, is ∙ e, refl))

pub steady_eat : (m : Terminal) (i : Symbols) → is_end m ≡ false → Steady (May m) (eat m) i
unfolding past sees
steady_eat m i real = steady_as (λ k. if sees m k then Ok (true, drop 1 k) else Ok (false, k)) (eat m) i ate (steady_sees m (λ k. Ok (true, drop 1 k)) (λ k. Ok (false, k)) i there (λ e. not_there i e))
  where
    ate : (k : Symbols) → eat m k ≡ (if sees m k then Ok (true, drop 1 k) else Ok (false, k))
    ate k = pick (sees m k)
      where
        pick : (b : Bool) → Ok (b, cond b (drop 1 k) k) ≡ cond {A = Outcome Bool} b (Ok (true, drop 1 k)) (Ok (false, k))
        pick true = refl
        pick false = refl

    there : next i ≡ m → Steady (May m) (λ k. Ok (true, drop 1 k)) i
    there e = steady_map (Takes m) (May m) (λ j k h. inl h) (steady_value (λ _. true) (steady_skips m i real e))

    not_there : (i : Symbols) → sees m i ≡ false → Steady (May m) (λ k. Ok (false, k)) i
    not_there i e = steady_map Nothing (May m) (λ j k h. inr h) (steady_pure false i)

-- ---- limits

-- one more, at a symbol with which the part goes on
pub goes_at : (P : Part) (i : Symbols) → is_end (next i) ≡ false → ((x : Symbol) → x.terminal ≡ next i → (r : Symbols → Symbols) × ((j : Symbols) → P (x ∷ r j) j)) → Goes P P2 front_none i
goes_at P [] real part = absurd cc
goes_at P (x ∷ i) real part = part x refl

pub steady_count : {A : Type 0} {P : Part} (f : ℕ → Reader A) (n : ℕ) (i : Symbols) → ((m : ℕ) → Steady P (f m) i) → Goes P P2 front_none i → Steady P (count n >>= f) i
unfolding count
steady_count f zero i k goes = refuses P2 front_none i refl refl goes (λ x z other ends. refl)
steady_count f (suc n) i k goes = k n

-- the readers of one level below, if there is one
abbrev pub MaySteady : (Readers → Type 0) → Option Readers → Type 0
MaySteady S None = Unit {0}
MaySteady S (Some R) = S R

pub steady_enter : {A : Type 0} {P : Part} (S : Readers → Type 0) (inner : Option Readers) (f : Readers → Reader A) (i : Symbols) → MaySteady S inner → ((R : Readers) → S R → Steady P (f R) i) → Goes P P2 front_none i → Steady P (enter inner >>= f) i
steady_enter S None f i h k goes = refuses P2 front_none i refl refl goes (λ x z other ends. refl)
steady_enter S (Some R) f i h k goes = k R h

pub steady_open : {A : Type 0} {Q : Part} (S : Readers → Type 0) (m : Terminal) (inner : Option Readers) (f : Readers → Reader A) (i : Symbols) → is_end m ≡ false → MaySteady S inner → Full Q → ((R : Readers) (j : Symbols) → S R → Steady Q (f R) j) → Steady (Takes m ⨾ Q) (open_level m inner >>= f) i
unfolding open_level
steady_open {A} {Q} S m inner f i real h full k =
    steady_as (λ j. if sees m j then (enter inner >>= (λ R. skip >> f R)) j else Err (P1, j)) (open_level m inner >>= f) i (λ j. opens inner (sees m j) j) (steady_sees m (enter inner >>= (λ R. skip >> f R)) (refuse P1) i there (λ e. steady_refuse i (full_then (full_takes m) full)))
  where
    opens : (inner : Option Readers) (b : Bool) (j : Symbols) → and_then (cond b (and_then (enter inner j) (λ R. skip >> pure R)) (Err (P1, j))) f ≡ cond b (and_then (enter inner j) (λ R. skip >> f R)) (Err (P1, j))
    opens None true j = refl
    opens (Some R) true j = refl
    opens inner false j = refl

    there : next i ≡ m → Steady (Takes m ⨾ Q) (enter inner >>= (λ R. skip >> f R)) i
    there e =
        steady_enter S inner (λ R. skip >> f R) i h (λ R s. steady_then tt (steady_skips m i real e) (λ _ j. k R j s))
        (goes_at (Takes m ⨾ Q) i (ap is_end e ∙ real) (λ x is. (full.before, λ j. (full.before j, (x, is ∙ e, refl), full.spelled j))))
