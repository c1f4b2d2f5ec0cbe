-- Elements of which each is named by a net of some sort, no two by one net.
use Rattle.std.proofs.Common.{◌≡◌, ℕ, zero, suc, ◌+◌, ◌^◌, ◌<◌, ◌≤◌, Bool, true, false, ◌&&◌, ◌||◌, List, [], ◌∷◌, ◌++◌, length, inl, inr, refl, sym, ap, subst, ◌∙◌, arith, leb-true, ltb-true, ⊎_elim}
use Rattle.std.specs.Prelude.{◌⊎◌, bytes_eq, nat_le, nat_lt}
use Rattle.std.specs.List.{flat_map}
use Rattle.std.proofs.lemmas.Bool.{cases_eq}
use Rattle.std.proofs.lemmas.Grind.{flat_map-append}
use Rattle.tapa_base.specs.Lists.{Has}
use Rattle.vlog_tree.specs.Table.{Name, times_in, one_if}
use Rattle.tapa_base.proofs.Lists.{has_split}
use Rattle.vlog_module_laws.proofs.Lists.{count_cons}
use Rattle.hw_build.specs.Elements.{Element}
use Rattle.hw_build.specs.Trees.{numbered}
use Rattle.hw_build.specs.Scope.{each}
use Rattle.hw_build.specs.Fits.{declared_names, AreOnce}
use Rattle.hw_build.proofs.Parts.{of_each}
use Rattle.hw_build.proofs.Once.{two_once, parts_once}
use Rattle.hw_lines.specs.declared.nets.Choice.{Choice}
use Rattle.hw_lines.specs.declared.nets.Net.{Net}
use Rattle.hw_lines.specs.declared.nets.Choice.TheVariants.{ToState, ToEnd, Clear, Set, NextValue, Stores, WriteIndex, WriteData, Reads, ArrayIndex, Puts, Token, Takes, Address, StoreEnable, Data}
use Rattle.hw_lines.specs.declared.nets.Net.TheVariants.{State, Ended, Done, Scalar, Variable, Array, Has as HasNet, Dout, Taken, Din, Wr, Rdy, Ack, Rdata, Addr, Wdata, We, Plain, Datum, Eot, At, Go, Inside, Into, Packed, Reset, Next, Value, Index, ReadIndex, ReadInside, ReadOn, Raw, Answer, Node}
use Rattle.hw_lines.specs.Nets.{numbers, name}
use Rattle.hw_lines.specs.Names.{AreSmall}
use Rattle.hw_lines.proofs.Names.{names_tell}
use Rattle.hw_task_laws.proofs.names.Bounds.{left_short, right_short}
use Rattle.hw_task_laws.proofs.names.Rows.{AreRow, named_so, row_names}
use Rattle.tapa_base.proofs.Tests.{both_true}

-- ---- what tells nets: their sorts, in the order of a module's elements, and their numbers

abbrev pub choice_sort : Choice → ℕ
choice_sort (Reads p a) = 43
choice_sort (ArrayIndex p a) = 44
choice_sort ToState = 60
choice_sort ToEnd = 61
choice_sort (Clear r) = 62
choice_sort (Set r) = 64
choice_sort (NextValue r) = 65
choice_sort (Stores a) = 66
choice_sort (WriteIndex a) = 67
choice_sort (WriteData a) = 68
choice_sort (Puts s) = 71
choice_sort (Token s) = 72
choice_sort (Takes s) = 75
choice_sort (Address m) = 77
choice_sort (StoreEnable m) = 78
choice_sort (Data m) = 79

abbrev pub sort_of : Net → ℕ
sort_of (Scalar a) = 0
sort_of (Rdy a) = 1
sort_of (HasNet a) = 2
sort_of (Dout a) = 3
sort_of (Ack a) = 4
sort_of (Rdata a) = 5
sort_of State = 10
sort_of Ended = 11
sort_of (Variable a) = 12
sort_of (Array a) = 13
sort_of (At a) = 20
sort_of (Plain a) = 30
sort_of (Datum a) = 31
sort_of (Eot a) = 32
sort_of (ReadIndex a b c) = 40
sort_of (ReadInside a b) = 41
sort_of (ReadOn a b) = 42
sort_of (Raw a b) = 45
sort_of (Answer a b) = 46
sort_of (Index a b) = 50
sort_of (Value a b) = 51
sort_of (Inside a) = 52
sort_of (Into a) = 53
sort_of (Packed a) = 54
sort_of (Go a) = 55
sort_of (Next a) = 56
sort_of (Reset a) = 63
sort_of Done = 70
sort_of (Wr a) = 73
sort_of (Din a) = 74
sort_of (Taken a) = 76
sort_of (Addr a) = 80
sort_of (Wdata a) = 81
sort_of (We a) = 82
sort_of (Node c j) = choice_sort c

-- the number of its part, and of its part within that
abbrev pub choice_part : Choice → ℕ
choice_part (Clear r) = r
choice_part (Set r) = r
choice_part (NextValue r) = r
choice_part (Stores a) = a
choice_part (WriteIndex a) = a
choice_part (WriteData a) = a
choice_part (Reads p a) = p
choice_part (ArrayIndex p a) = p
choice_part (Puts s) = s
choice_part (Token s) = s
choice_part (Takes s) = s
choice_part (Address m) = m
choice_part (StoreEnable m) = m
choice_part (Data m) = m
choice_part _ = 0

abbrev pub part_of : Net → ℕ
part_of (Scalar a) = a
part_of (Variable a) = a
part_of (Array a) = a
part_of (HasNet a) = a
part_of (Dout a) = a
part_of (Taken a) = a
part_of (Din a) = a
part_of (Wr a) = a
part_of (Rdy a) = a
part_of (Ack a) = a
part_of (Rdata a) = a
part_of (Addr a) = a
part_of (Wdata a) = a
part_of (We a) = a
part_of (Plain a) = a
part_of (Datum a) = a
part_of (Eot a) = a
part_of (At a) = a
part_of (Go a) = a
part_of (Inside a) = a
part_of (Into a) = a
part_of (Packed a) = a
part_of (Reset a) = a
part_of (Next a) = a
part_of (Value a b) = a
part_of (Index a b) = a
part_of (ReadIndex a b c) = b
part_of (ReadInside a b) = b
part_of (ReadOn a b) = b
part_of (Raw a b) = a
part_of (Answer a b) = a
part_of (Node c j) = choice_part c
part_of _ = 0

abbrev pub choice_inner : Choice → ℕ
choice_inner (Reads p a) = a
choice_inner (ArrayIndex p a) = a
choice_inner _ = 0

abbrev pub inner_of : Net → ℕ
inner_of (ReadIndex a b c) = a
inner_of (ReadInside a b) = a
inner_of (ReadOn a b) = a
inner_of (Raw a b) = b
inner_of (Answer a b) = b
inner_of (Node c j) = choice_inner c
inner_of _ = 0

-- and its number among wires of one front
abbrev pub last_of : Net → ℕ
last_of (Value a b) = b
last_of (Index a b) = b
last_of (ReadIndex a b c) = c
last_of (Node c j) = j
last_of _ = 0

abbrev pub is_sorted : ℕ → ℕ → Net → Bool
is_sorted low high y = nat_le low (sort_of y) && nat_lt (sort_of y) high

-- ---- names of nets

-- a name that is a net's, of sorts from one to before another
pub record IsNetOf (Q : Net → Type 0) (low high : ℕ) (x : Name) : Type 0 where
  pub net : Net
  pub is : name net ≡ x
  pub small : AreSmall (numbers net)
  pub so : Q net
  pub from : low ≤ sort_of net
  pub below : sort_of net < high

pub record Named (g : Element → List Name) (Q : Net → Type 0) (low high : ℕ) (es : List Element) : Type 0 where
  pub once : AreOnce (flat_map g es)
  pub nets : (x : Name) → Has (flat_map g es) x → IsNetOf Q low high x

-- of elements that can be counted
abbrev pub Names : (Element → List Name) → (Net → Type 0) → ℕ → ℕ → List Element → Type 0
Names g Q low high es = length es ≤ 2 ^ 64 → Named g Q low high es

-- beside being of a part
abbrev pub In_part : (Net → Type 0) → (Net → ℕ) → ℕ → Net → Type 0
In_part Q key k y = Q y × (key y ≡ k)

one_low : (b : Bool) → one_if b ≤ 1
one_low true = omega arith
one_low false = omega arith

pub single : (x : Name) → AreOnce (x ∷ [])
single x y =
    let c : times_in (x ∷ []) y ≡ one_if (bytes_eq x y) + 0 = count_cons (λ z. bytes_eq z y) x [] in
    let b = one_low (bytes_eq x y) in
    omega (arith, c, b)

pub same_net : (x y : Net) → AreSmall (numbers x) → AreSmall (numbers y) → name x ≡ name y → x ≡ y
same_net x y a b e = names_tell x y a b e

pub each_short : (f : ℕ → List Element) (n k : ℕ) → k < n → length (each f n) ≤ 2 ^ 64 → length (f k) ≤ 2 ^ 64
each_short f zero k l h = absurd (omega arith)
each_short f (suc n) k l h =
    ⊎_elim
    (λ e. subst (λ j. length (f j) ≤ 2 ^ 64) (sym e) (right_short (each f n) (f n) h))
    (λ e. each_short f n k (omega (arith, l, e)) (left_short (each f n) (f n) h))
    (cases_eq k n)

pub flat_each : {A : Type 0} (g : Element → List A) (f : ℕ → List Element) (n : ℕ) → flat_map g (each f n) ≡ each (λ k. flat_map g (f k)) n
flat_each g f zero = refl
flat_each g f (suc n) = flat_map-append g (each f n) (f n) ∙ ap (λ l. l ++ flat_map g (f n)) (flat_each g f n)

-- the parts are apart, and within
abbrev pub are_apart : ℕ → ℕ → ℕ → ℕ → ℕ → ℕ → Bool
are_apart a b c d low high = (nat_le b c || nat_le d a) && ((nat_le low a && nat_le low c) && (nat_le b high && nat_le d high))

record Bounded (a b c d low high : ℕ) : Type 0 where
  order : (b ≤ c) ⊎ (d ≤ a)
  low_a : low ≤ a
  low_c : low ≤ c
  b_high : b ≤ high
  d_high : d ≤ high

bounded : (a b c d low high : ℕ) → are_apart a b c d low high ≡ true → Bounded a b c d low high
bounded a b c d low high h =
    let p = both_true (nat_le b c || nat_le d a) ((nat_le low a && nat_le low c) && (nat_le b high && nat_le d high)) h in
    let q = both_true (nat_le low a && nat_le low c) (nat_le b high && nat_le d high) p.1 in
    let r = both_true (nat_le low a) (nat_le low c) q.0 in
    let s = both_true (nat_le b high) (nat_le d high) q.1 in
    record {
      order = ordered (nat_le b c) refl p.0;
      low_a = leb-true low a r.0;
      low_c = leb-true low c r.1;
      b_high = leb-true b high s.0;
      d_high = leb-true d high s.1;
    } where
      ordered : (t : Bool) → nat_le b c ≡ t → (nat_le b c || nat_le d a) ≡ true → (b ≤ c) ⊎ (d ≤ a)
      ordered true e k = inl (leb-true b c e)
      ordered false e k = inr (leb-true d a (ap (λ z. z || nat_le d a) (sym e) ∙ k))

wider : (Q : Net → Type 0) (a b low high : ℕ) (x : Name) → low ≤ a → b ≤ high → IsNetOf Q a b x → IsNetOf Q low high x
wider Q a b low high x h k t =
    let f = t.from in
    let g = t.below in
    record { net = t.net; is = t.is; small = t.small; so = t.so; from = omega (arith, f, h); below = omega (arith, g, k) }

-- two sorts of nets that are apart have no name in common
clash : (Q : Net → Type 0) (a b c d : ℕ) (x : Name) → (b ≤ c) ⊎ (d ≤ a) → IsNetOf Q a b x → IsNetOf Q c d x → ⊥
clash Q a b c d x o t u =
    let same : sort_of t.net ≡ sort_of u.net = ap sort_of (same_net t.net u.net t.small u.small (t.is ∙ sym u.is)) in
    let f = t.from in
    let g = t.below in
    let h = u.from in
    let k = u.below in
    ⊎_elim (λ l. omega (arith, same, f, g, h, k, l)) (λ l. omega (arith, same, f, g, h, k, l)) o

pub names_both : (g : Element → List Name) (Q : Net → Type 0) (a b c d low high : ℕ) (xs ys : List Element) → Names g Q a b xs → Names g Q c d ys → are_apart a b c d low high ≡ true → Names g Q low high (xs ++ ys)
names_both g Q a b c d low high xs ys left right ok s =
    let h = left (left_short xs ys s) in
    let k = right (right_short xs ys s) in
    let o = bounded a b c d low high ok in
    let e = flat_map-append g xs ys in
    record {
      once = subst AreOnce (sym e) (two_once (flat_map g xs) (flat_map g ys) h.once k.once (λ x p q. clash Q a b c d x o.order (h.nets x p) (k.nets x q)));
      nets = λ x p. ⊎_elim (λ l. wider Q a b low high x o.low_a o.b_high (h.nets x l)) (λ r. wider Q c d low high x o.low_c o.d_high (k.nets x r)) (has_split (flat_map g xs) (flat_map g ys) x (subst (λ l. Has l x) e p));
    }

-- parts that a number of their nets tells
pub names_each : (g : Element → List Name) (Q : Net → Type 0) (key : Net → ℕ) (low high : ℕ) (f : ℕ → List Element) (n : ℕ) → ((k : ℕ) → k < n → Names g (In_part Q key k) low high (f k)) → Names g Q low high (each f n)
names_each g Q key low high f n short s =
    let e = flat_each g f n in
    record {
      once = subst AreOnce (sym e) (parts_once (λ k. flat_map g (f k)) n (λ k l. (h k l).once) told);
      nets = λ x p. let r = of_each (λ k. flat_map g (f k)) n x (subst (λ l. Has l x) e p) in plain x r.0 ((h r.0 r.1).nets x r.2);
    } where
      h : (k : ℕ) → k < n → Named g (In_part Q key k) low high (f k)
      h k l = short k l (each_short f n k l s)

      told : (j k : ℕ) (x : Name) → j < n → k < n → Has (flat_map g (f j)) x → Has (flat_map g (f k)) x → j ≡ k
      told j k x l m p q =
          let t = (h j l).nets x p in
          let u = (h k m).nets x q in
          sym t.so.1 ∙ ap key (same_net t.net u.net t.small u.small (t.is ∙ sym u.is)) ∙ u.so.1

      plain : (x : Name) (k : ℕ) → IsNetOf (In_part Q key k) low high x → IsNetOf Q low high x
      plain x k t = record { net = t.net; is = t.is; small = t.small; so = t.so.0; from = t.from; below = t.below }

pub names_none : (g : Element → List Name) (Q : Net → Type 0) (low high : ℕ) (es : List Element) → flat_map g es ≡ [] → Names g Q low high es
names_none g Q low high es e s = record {
  once = subst AreOnce (sym e) (λ x. omega arith);
  nets = λ x h. absurd (subst (λ l. Has l x) e h);
}

-- one element
pub names_one : (g : Element → List Name) (Q : Net → Type 0) (low high : ℕ) (e : Element) (y : Net) → g e ≡ name y ∷ [] → Q y → AreSmall (numbers y) → is_sorted low high y ≡ true → Names g Q low high (e ∷ [])
names_one g Q low high e y is so small sorted short = record { once = subst AreOnce (sym s) (single (name y)); nets = λ x h. only x (subst (λ l. Has l x) s h) } where
  s : flat_map g (e ∷ []) ≡ name y ∷ []
  s = ap (λ l. l ++ []) is

  only : (x : Name) → Has (name y ∷ []) x → IsNetOf Q low high x
  only x (inl k) =
      let p = both_true (nat_le low (sort_of y)) (nat_lt (sort_of y) high) sorted in
      record { net = y; is = k; small = small; so = so; from = leb-true low (sort_of y) p.0; below = ltb-true (sort_of y) high p.1 }
  only x (inr n) = absurd n

-- and one before others
pub names_more : (g : Element → List Name) (Q : Net → Type 0) (a b c d low high : ℕ) (e : Element) (es : List Element) → Names g Q a b (e ∷ []) → Names g Q c d es → are_apart a b c d low high ≡ true → Names g Q low high (e ∷ es)
names_more g Q a b c d low high e es h k ok = names_both g Q a b c d low high (e ∷ []) es h k ok

-- ---- wires with numbers

pub record AreNumbered (front : Name) (y : ℕ → Net) : Type 0 where
  pub is : (i : ℕ) → name (y i) ≡ numbered front i
  pub last : (i : ℕ) → last_of (y i) ≡ i

row_once : (front : Name) (n : ℕ) (es : List Element) (y : ℕ → Net) → AreRow front n es → AreNumbered front y → ((i : ℕ) → i < n + length es → AreSmall (numbers (y i))) → AreOnce (flat_map declared_names es)
row_once front n [] y h k small = λ x. omega arith
row_once front n (e ∷ es) y h k small =
    two_once (declared_names e) (flat_map declared_names es) (subst AreOnce (sym (ap declared_names h.0.2)) (single (numbered front n)))
    (row_once front (suc n) es y h.1 k (λ i l. small i (omega (arith, l)))) apart where
      apart : (x : Name) → Has (declared_names e) x → Has (flat_map declared_names es) x → ⊥
      apart x p q =
          let t = row_names front (suc n) es h.1 x q in
          let low : suc n ≤ t.0 = t.1 in
          let high : t.0 < suc n + length es = t.2 in
          let same : y n ≡ y t.0 = same_net (y n) (y t.0) (small n (omega arith)) (small t.0 (omega (arith, high))) (k.is n ∙ sym (named_so e x (numbered front n) h.0 p) ∙ t.3 ∙ sym (k.is t.0)) in
          let f : n ≡ t.0 = sym (k.last n) ∙ ap last_of same ∙ k.last t.0 in
          omega (arith, low, f)

pub names_row : (Q : Net → Type 0) (low high : ℕ) (front : Name) (es : List Element) (y : ℕ → Net) → AreRow front 0 es → AreNumbered front y → ((i : ℕ) → i < 2 ^ 64 → Q (y i) × AreSmall (numbers (y i)))
    → ((i : ℕ) → is_sorted low high (y i) ≡ true) → Names declared_names Q low high es
names_row Q low high front es y h k so sorted = λ s. record {
  once = row_once front 0 es y h k (λ i l. (so i (omega (arith, l, s))).1);
  nets = λ x p.
      let t = row_names front 0 es h x p in
      let l : t.0 < 0 + length es = t.2 in
      let q = so t.0 (omega (arith, l, s)) in
      let b = both_true (nat_le low (sort_of (y t.0))) (nat_lt (sort_of (y t.0)) high) (sorted t.0) in
      record { net = y t.0; is = k.is t.0 ∙ sym t.3; small = q.1; so = q.0; from = leb-true low (sort_of (y t.0)) b.0; below = ltb-true (sort_of (y t.0)) high b.1 };
}
