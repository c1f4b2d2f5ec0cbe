-- Values that are known, and what each line that is read is good for.
use Rattle.tapa_base.proofs.Got.{some_at, the_same}
use Rattle.std.proofs.Common.{◌≡◌, ◌≢◌, ◌⊎◌, ℕ, zero, suc, ◌+◌, ◌^◌, ◌<◌, ◌≤◌, cond, List, [], ◌∷◌, ◌++◌, length, map, get_or, set, inl, inr, refl, sym, ap, subst, ◌∙◌, arith, nat_lt, add-one}
use Rattle.std.specs.Prelude.{Option, Some, None, slice_get}
use Rattle.std.specs.Option.{unwrap_or}
use Rattle.std.proofs.lemmas.Bool.Decides.{eqb_tells}
use Rattle.std.proofs.lemmas.List.{length-map, length-set}
use Rattle.std.proofs.lemmas.Nat.{pow_pos}
use Rattle.std.proofs.lemmas.Option.{none-some, slice_get-get_or, slice_get_within, slice_get_past}
use Rattle.std.proofs.Math.Path.{fun_ext}
use Rattle.tapa_base.specs.declared.shape.Port.{Port}
use Rattle.tapa_base.specs.Gaps.{Bytes}
use Rattle.vcd_text.specs.Nets.{Net}
use Rattle.vcd_text.specs.Along.{StopsBefore}
use Rattle.vcd_text.specs.Dump.{change_line, cycle_line}
use Rattle.vcd_text.specs.Read.{port_of}
use Rattle.vcd_text.specs.Lines.{IsNewValue, IsChangeAt, IsLineTo, IsLineFound}
use Rattle.vcd_text.specs.declared.line.Found.{Found}
use Rattle.vcd_text.specs.declared.line.Found.TheVariants as found
use Rattle.vcd_text.specs.Rest.{Answer, Texts, FailsBefore, Known, change_of, Left, HaveValues, Serves}
use Rattle.vcd_text.specs.declared.dump.Change.{Change}
use Rattle.vcd_text.proofs.Common.{less, cond_yes, cond_no}
use Rattle.vcd_text.proofs.Reading.{fails_lines, serves_more}
use Rattle.vcd_text.proofs.Values.{IsChange}
use Rattle.vcd_text.proofs.Going.{put, put_here, put_there, turn}
use Rattle.vcd_text.proofs.GoingOn.{AreKnown, change_steps, cycle_steps, end_left, net_of_port, stops_fail, port_at}

-- ---- a list of values, one of them put in

pushed : (vs : List ℕ) (v i : ℕ) → slice_get (vs ++ v ∷ []) i ≡ put (slice_get vs) (length vs) v i
pushed [] v zero = refl
pushed [] v (suc i) = sym (put_there (slice_get []) 0 v (suc i) (λ e. absurd (omega (arith, e))))
pushed (x ∷ vs) v zero = sym (put_there (slice_get (x ∷ vs)) (suc (length vs)) v 0 (λ e. absurd (omega (arith, e))))
pushed (x ∷ vs) v (suc i) = pushed vs v i ∙ elim (eqb_tells i (length vs)) [
  | inl t ↦ subst (λ (k : ℕ). put (slice_get vs) (length vs) v k ≡ put (slice_get (x ∷ vs)) (suc (length vs)) v (suc k)) (sym t.1) (put_here (slice_get vs) (length vs) v ∙ sym (put_here (slice_get (x ∷ vs)) (suc (length vs)) v))
  | inr t ↦ put_there (slice_get vs) (length vs) v i t.1 ∙ sym (put_there (slice_get (x ∷ vs)) (suc (length vs)) v (suc i) (λ e. t.1 (omega (arith, e))))
]

pub push_is_put : (vs : List ℕ) (v k : ℕ) → length vs ≡ k → slice_get (vs ++ v ∷ []) ≡ put (slice_get vs) k v
push_is_put vs v k e = subst (λ (n : ℕ). slice_get (vs ++ v ∷ []) ≡ put (slice_get vs) n v) e (fun_ext (λ i. pushed vs v i))

was_set : (vs : List ℕ) (k v i : ℕ) → k < length vs → slice_get (set vs k v) i ≡ put (slice_get vs) k v i
was_set [] k v i h = absurd (omega arith)
was_set (x ∷ vs) zero v zero h = refl
was_set (x ∷ vs) zero v (suc i) h = sym (put_there (slice_get (x ∷ vs)) 0 v (suc i) (λ e. absurd (omega (arith, e))))
was_set (x ∷ vs) (suc k) v zero h = sym (put_there (slice_get (x ∷ vs)) (suc k) v 0 (λ e. absurd (omega (arith, e))))
was_set (x ∷ vs) (suc k) v (suc i) h = was_set vs k v i (omega arith) ∙ elim (eqb_tells i k) [
  | inl t ↦ subst (λ (j : ℕ). put (slice_get vs) k v j ≡ put (slice_get (x ∷ vs)) (suc k) v (suc j)) (sym t.1) (put_here (slice_get vs) k v ∙ sym (put_here (slice_get (x ∷ vs)) (suc k) v))
  | inr t ↦ put_there (slice_get vs) k v i t.1 ∙ sym (put_there (slice_get (x ∷ vs)) (suc k) v (suc i) (λ e. t.1 (omega (arith, e))))
]

pub set_is_put : (vs : List ℕ) (k v : ℕ) → k < length vs → slice_get (set vs k v) ≡ put (slice_get vs) k v
set_is_put vs k v h = fun_ext (λ i. was_set vs k v i h)

-- ---- values of nets

pub values_known : (xs : List Net) (ports : List Port) (values : List ℕ) → ports ≡ map port_of xs → HaveValues ports values → AreKnown xs (length xs) (slice_get values)
values_known xs ports values same have i x h at =
    let long : length values ≡ length xs = have.count ∙ ap (λ (l : List Port). length l) same ∙ length-map xs port_of in
    let value : slice_get values i ≡ Some (get_or values i 0) = slice_get-get_or values i 0 (omega (arith, long)) in
    let port : slice_get ports i ≡ Some (port_of x) = subst (λ (l : List Port). slice_get l i ≡ Some (port_of x)) (sym same) (port_at xs i x at) in
    (get_or values i 0, value, have.fit i (port_of x) (get_or values i 0) port value)

pub put_fits : (ports : List Port) (values : List ℕ) (k v : ℕ) (p : Port) → slice_get ports k ≡ Some p → v < 2 ^ p.bits → HaveValues ports values → HaveValues ports (set values k v)
put_fits ports values k v p at h have = record {
  count = length-set values k v ∙ have.count;
  fit = λ i q u at_i is. elim (eqb_tells i k) [
    | inl t ↦
        let here : slice_get (set values k v) i ≡ Some v = ap (λ (f : Known). f i) (set_is_put values k v within) ∙ subst (λ (j : ℕ). put (slice_get values) k v j ≡ Some v) (sym t.1) (put_here (slice_get values) k v) in
        let one : u ≡ v = the_same u v (sym is ∙ here) in
        let net : p ≡ q = the_same p q (sym (subst (λ (j : ℕ). slice_get ports j ≡ Some p) (sym t.1) at) ∙ at_i) in
        subst (λ (n : ℕ). n < 2 ^ q.bits) (sym one) (subst (λ (r : Port). v < 2 ^ r.bits) net h)
    | inr t ↦ have.fit i q u at_i (sym (ap (λ (f : Known). f i) (set_is_put values k v within) ∙ put_there (slice_get values) k v i t.1) ∙ is)
  ];
}
  where
    within : k < length values
    within = omega (arith, have.count, slice_get_within ports k p at)

-- ---- some text is left

pub some_left : (nets : List Net) (n k : ℕ) (p : Known) (done : List Change) → k ≤ length nets → AreKnown nets k p → (a : Answer) × (z : Bytes) × Left nets n k p done a z
some_left nets n k p done h values = (
  record { ports = _; last = _; changes = _ },
  _,
  record {
    rows = λ m i. cond (nat_lt i k) (unwrap_or (p i) 0) 0;
    more = 0;
    are_rows = λ m i net g at. elim (less i k) [
      | inl t ↦ let v : (v : ℕ) × (p i ≡ Some v) × (v < 2 ^ net.bits) = values i net t.1 at in subst (λ (u : ℕ). u < 2 ^ net.bits) (sym (cond_yes (nat_lt i k) (unwrap_or (p i) 0) 0 t.0)) (subst (λ (o : Option ℕ). unwrap_or o 0 < 2 ^ net.bits) (sym v.1) v.2)
      | inr f ↦ subst (λ (u : ℕ). u < 2 ^ net.bits) (sym (cond_no (nat_lt i k) (unwrap_or (p i) 0) 0 f.0)) (pow_pos net.bits)
    ];
    seen = λ i g. elim (less i k) [
      | inl t ↦
          let x : (x : Net) × (slice_get nets i ≡ Some x) = some_at nets i (omega (arith, h, t.1)) in
          let v : (v : ℕ) × (p i ≡ Some v) × (v < 2 ^ x.0.bits) = values i x.0 t.1 x.1 in
          v.1 ∙ ap (λ (o : Option ℕ). Some (unwrap_or o 0)) (sym v.1) ∙ ap (λ (u : ℕ). Some u) (sym (cond_yes (nat_lt i k) (unwrap_or (p i) 0) 0 t.0))
      | inr f ↦ absurd (omega (arith, f.1, g))
    ];
    is = refl;
    ports = refl;
    last = refl;
    changes = refl;
  },
)

-- ---- lines of the first cycle

-- a net without a value whose line doesn't come
pub first_stop : (nets : List Net) (n k : ℕ) (p : Known) (done : List Change) (x : Net) (z : Bytes) (left : ℕ) → slice_get nets k ≡ Some x → p k ≡ None → AreKnown nets k p → StopsBefore (IsChange k x.bits None) z left → FailsBefore (Left nets n k p done) z left
first_stop nets n k p done x z left at none values s = fails_lines (Left nets n k p done) (IsChange k x.bits None) z left into out s
  where
    into : (w : Bytes) → IsChange k x.bits None w → (a : Answer) × (y : Bytes) × Left nets n k p done a (w ++ y)
    into w (v, new, e) =
        let new_here : IsNewValue x.bits (p k) v = subst (λ (o : Option ℕ). IsNewValue x.bits o v) (sym none) new in
        let more : AreKnown nets (suc k) (put p k v) = λ i y h at_i. elim (eqb_tells i k) [
          | inl t ↦ (v, subst (λ (m : ℕ). put p k v m ≡ Some v) (sym t.1) (put_here p k v), subst (λ (m : Net). v < 2 ^ m.bits) (the_same x y (sym (subst (λ (m : ℕ). slice_get nets m ≡ Some x) (sym t.1) at) ∙ at_i)) new.0)
          | inr t ↦ let u : (u : ℕ) × (p i ≡ Some u) × (u < 2 ^ y.bits) = values i y (omega (arith, h, t.1)) at_i in (u.0, put_there p k v i t.1 ∙ u.1, u.2)
        ] in
        let some : (a : Answer) × (y : Bytes) × Left nets n (suc k) (put p k v) (done ++ change_of n k v ∷ []) a y = some_left nets n (suc k) (put p k v) (done ++ change_of n k v ∷ []) (omega (arith, slice_get_within nets k x at)) more in
        (some.0, some.1, subst (λ (l : Bytes). Left nets n k p done some.0 (l ++ some.1)) (sym e) ((change_steps nets n k k p done x v (omega arith) at values new_here some.0 some.1).1 some.2))

    out : (a : Answer) (y : Bytes) → Left nets n k p done a y → ((y ≡ []) × (z ≢ [])) ⊎ ((w : Bytes) × (b : Bytes) × IsChange k x.bits None w × (y ≡ w ++ b))
    out a y l = elim (turn nets n k p done x at a y l) [
      | inl s ↦ absurd (none-some _ (sym none ∙ s.seen k (omega arith)))
      | inr t ↦ inr (change_line k x.bits t.value, t.behind, (t.value, subst (λ (o : Option ℕ). IsNewValue x.bits o t.value) none t.new_value, refl), t.is)
    ]

-- ---- what lines are good for

pub serve_change : (xs : List Net) (ports : List Port) (L : Texts) (z y x : Bytes) (n from place v : ℕ) (values : List ℕ) (done : List Change) → ports ≡ map port_of xs → HaveValues ports values
    → IsChangeAt ports (slice_get values) from place v y x → Serves L z (Left xs n from (slice_get values) done) y → Serves L z (Left xs n (place + 1) (slice_get (set values place v)) (done ++ change_of n place v ∷ [])) x
serve_change xs ports L z y x n from place v values done same have c s =
    let net : (w : Net) × (slice_get xs place ≡ Some w) × (c.net ≡ port_of w) = net_of_port xs place c.net (subst (λ (l : List Port). slice_get l place ≡ Some c.net) same c.at) in
    let bits : c.net.bits ≡ net.0.bits = ap (λ (q : Port). q.bits) net.2 in
    let values_are : AreKnown xs (length xs) (slice_get values) = values_known xs ports values same have in
    let within : place < length xs = slice_get_within xs place net.0 net.1 in
    let line : y ≡ change_line place net.0.bits v ++ x = c.is ∙ ap (λ (b : ℕ). change_line place b v ++ x) bits in
    let new : IsNewValue net.0.bits (slice_get values place) v = subst (λ (b : ℕ). IsNewValue b (slice_get values place) v) bits c.new_value in
    let there : place < length values = omega (arith, have.count, slice_get_within ports place c.net c.at) in
    subst (λ (k : ℕ). Serves L z (Left xs n k (slice_get (set values place v)) (done ++ change_of n place v ∷ [])) x) (sym (add-one place))
    (subst (λ (p : Known). Serves L z (Left xs n (suc place) p (done ++ change_of n place v ∷ [])) x) (sym (set_is_put values place v there))
    (serves_more L (Left xs n from (slice_get values) done) (Left xs n (suc place) (put (slice_get values) place v) (done ++ change_of n place v ∷ [])) z y (change_line place net.0.bits v) x s line
    (change_steps xs n from place (slice_get values) done net.0 v c.from net.1 (λ i w h at. values_are i w (omega (arith, h, within)) at) new)))

pub serve_cycle : (xs : List Net) (ports : List Port) (L : Texts) (z y x : Bytes) (n from : ℕ) (values : List ℕ) (done : List Change) → ports ≡ map port_of xs → HaveValues ports values → from ≤ length ports
    → y ≡ cycle_line (n + 1) ++ x → Serves L z (Left xs n from (slice_get values) done) y → Serves L z (Left xs (n + 1) 0 (slice_get values) done) x
serve_cycle xs ports L z y x n from values done same have h e s =
    serves_more L (Left xs n from (slice_get values) done) (Left xs (n + 1) 0 (slice_get values) done) z y (cycle_line (n + 1)) x s e
    (cycle_steps xs n from (slice_get values) done (omega (arith, h, ap (λ (l : List Port). length l) same, length-map xs port_of)) (values_known xs ports values same have))

pub serve_stop : (xs : List Net) (ports : List Port) (L : Texts) (z y : Bytes) (n from left : ℕ) (values : List ℕ) (done : List Change) → ports ≡ map port_of xs → HaveValues ports values → from ≤ length ports → y ≢ []
    → StopsBefore (IsLineTo ports (slice_get values) (n + 1) from (length ports)) y left → Serves L z (Left xs n from (slice_get values) done) y → FailsBefore L z left
serve_stop xs ports L z y n from left values done same have h some st s =
    let long : length ports ≡ length xs = ap (λ (l : List Port). length l) same ∙ length-map xs port_of in
    s.fails left (stops_fail xs n from (slice_get values) done y left (omega (arith, h, long)) (values_known xs ports values same have) some
    (subst (λ (m : ℕ). StopsBefore (IsLineTo (map port_of xs) (slice_get values) (n + 1) from m) y left) long (subst (λ (l : List Port). StopsBefore (IsLineTo l (slice_get values) (n + 1) from (length ports)) y left) same st)))

pub serve_end : (xs : List Net) (ports : List Port) (L : Texts) (z y : Bytes) (n from : ℕ) (values : List ℕ) (done : List Change) (a : Answer) → ports ≡ map port_of xs → HaveValues ports values → from ≤ length ports → y ≡ []
    → a.ports ≡ ports → a.last ≡ n → a.changes ≡ done → Serves L z (Left xs n from (slice_get values) done) y → L a z
serve_end xs ports L z y n from values done a same have h e is_ports is_last is_changes s =
    let long : length ports ≡ length xs = ap (λ (l : List Port). length l) same ∙ length-map xs port_of in
    s.found a (subst (λ (l : Bytes). Left xs n from (slice_get values) done a l) (sym e)
    (end_left xs n from (slice_get values) done (omega (arith, h, long)) (values_known xs ports values same have) a (record { is = refl; ports = is_ports ∙ same; last = is_last; changes = is_changes })))

-- ---- what is found, by slices that are seen as these lists

pub change_in : (ports seen : List Port) (values shown : List ℕ) (next from place v : ℕ) (y x : Bytes) (f : Found) → seen ≡ ports → shown ≡ values → f ≡ found.Change place v → IsLineFound seen (slice_get shown) next from y f x → IsChangeAt ports (slice_get values) from place v y x
change_in ports seen values shown next from place v y x f a b c is =
    subst (λ (l : List Port). IsChangeAt l (slice_get values) from place v y x) a
    (subst (λ (l : List ℕ). IsChangeAt seen (slice_get l) from place v y x) b (subst (λ (g : Found). IsLineFound seen (slice_get shown) next from y g x) c is))

pub cycle_in : (seen : List Port) (shown : List ℕ) (next from : ℕ) (y x : Bytes) (f : Found) → f ≡ found.Cycle → IsLineFound seen (slice_get shown) next from y f x → y ≡ cycle_line next ++ x
cycle_in seen shown next from y x f c is = subst (λ (g : Found). IsLineFound seen (slice_get shown) next from y g x) c is

pub stop_in : (ports seen : List Port) (values shown : List ℕ) (next from left : ℕ) (y : Bytes) → seen ≡ ports → shown ≡ values → StopsBefore (IsLineTo seen (slice_get shown) next from (length seen)) y left → StopsBefore (IsLineTo ports (slice_get values) next from (length ports)) y left
stop_in ports seen values shown next from left y a b s =
    subst (λ (l : List Port). StopsBefore (IsLineTo l (slice_get values) next from (length l)) y left) a (subst (λ (l : List ℕ). StopsBefore (IsLineTo seen (slice_get l) next from (length seen)) y left) b s)

-- ---- a net's value in the first cycle

pub front_known : (xs : List Net) (ports : List Port) (values : List ℕ) (k : ℕ) → ports ≡ map port_of xs → length values ≡ k → ((i : ℕ) (p : Port) (v : ℕ) → slice_get ports i ≡ Some p → slice_get values i ≡ Some v → v < 2 ^ p.bits) → AreKnown xs k (slice_get values)
front_known xs ports values k same count fit i x h at =
    let value : slice_get values i ≡ Some (get_or values i 0) = slice_get-get_or values i 0 (omega (arith, count)) in
    let port : slice_get ports i ≡ Some (port_of x) = subst (λ (l : List Port). slice_get l i ≡ Some (port_of x)) (sym same) (port_at xs i x at) in
    (get_or values i 0, value, fit i (port_of x) (get_or values i 0) port value)

pub push_fits : (ports : List Port) (values : List ℕ) (k v : ℕ) (p : Port) → length values ≡ k → slice_get ports k ≡ Some p → v < 2 ^ p.bits → ((i : ℕ) (q : Port) (u : ℕ) → slice_get ports i ≡ Some q → slice_get values i ≡ Some u → u < 2 ^ q.bits)
    → (i : ℕ) (q : Port) (u : ℕ) → slice_get ports i ≡ Some q → slice_get (values ++ v ∷ []) i ≡ Some u → u < 2 ^ q.bits
push_fits ports values k v p count at h fit i q u at_i is = elim (eqb_tells i k) [
  | inl t ↦
      let here : slice_get (values ++ v ∷ []) i ≡ Some v = ap (λ (f : Known). f i) (push_is_put values v k count) ∙ subst (λ (j : ℕ). put (slice_get values) k v j ≡ Some v) (sym t.1) (put_here (slice_get values) k v) in
      let net : p ≡ q = the_same p q (sym (subst (λ (j : ℕ). slice_get ports j ≡ Some p) (sym t.1) at) ∙ at_i) in
      subst (λ (n : ℕ). n < 2 ^ q.bits) (sym (the_same u v (sym is ∙ here))) (subst (λ (r : Port). v < 2 ^ r.bits) net h)
  | inr t ↦ fit i q u at_i (sym (ap (λ (f : Known). f i) (push_is_put values v k count) ∙ put_there (slice_get values) k v i t.1) ∙ is)
]

pub serve_first : (xs : List Net) (ports : List Port) (L : Texts) (z y x : Bytes) (k v : ℕ) (values : List ℕ) (done : List Change) (p : Port) → ports ≡ map port_of xs → length values ≡ k → slice_get ports k ≡ Some p
    → ((i : ℕ) (q : Port) (u : ℕ) → slice_get ports i ≡ Some q → slice_get values i ≡ Some u → u < 2 ^ q.bits) → IsNewValue p.bits None v → y ≡ change_line k p.bits v ++ x
    → Serves L z (Left xs 0 k (slice_get values) done) y → Serves L z (Left xs 0 (k + 1) (slice_get (values ++ v ∷ [])) (done ++ change_of 0 k v ∷ [])) x
serve_first xs ports L z y x k v values done p same count at fit new e s =
    let net : (w : Net) × (slice_get xs k ≡ Some w) × (p ≡ port_of w) = net_of_port xs k p (subst (λ (l : List Port). slice_get l k ≡ Some p) same at) in
    let bits : p.bits ≡ net.0.bits = ap (λ (q : Port). q.bits) net.2 in
    let none : slice_get values k ≡ None = slice_get_past values k (omega (arith, count)) in
    let line : y ≡ change_line k net.0.bits v ++ x = e ∙ ap (λ (b : ℕ). change_line k b v ++ x) bits in
    let new_here : IsNewValue net.0.bits (slice_get values k) v = subst (λ (o : Option ℕ). IsNewValue net.0.bits o v) (sym none) (subst (λ (b : ℕ). IsNewValue b None v) bits new) in
    subst (λ (j : ℕ). Serves L z (Left xs 0 j (slice_get (values ++ v ∷ [])) (done ++ change_of 0 k v ∷ [])) x) (sym (add-one k))
    (subst (λ (q : Known). Serves L z (Left xs 0 (suc k) q (done ++ change_of 0 k v ∷ [])) x) (sym (push_is_put values v k count))
    (serves_more L (Left xs 0 k (slice_get values) done) (Left xs 0 (suc k) (put (slice_get values) k v) (done ++ change_of 0 k v ∷ [])) z y (change_line k net.0.bits v) x s line
    (change_steps xs 0 k k (slice_get values) done net.0 v (omega arith) net.1 (front_known xs ports values k same count fit) new_here)))

pub serve_first_stop : (xs : List Net) (ports : List Port) (L : Texts) (z y : Bytes) (k left : ℕ) (values : List ℕ) (done : List Change) (p : Port) → ports ≡ map port_of xs → length values ≡ k → slice_get ports k ≡ Some p
    → ((i : ℕ) (q : Port) (u : ℕ) → slice_get ports i ≡ Some q → slice_get values i ≡ Some u → u < 2 ^ q.bits) → StopsBefore (IsChange k p.bits None) y left → Serves L z (Left xs 0 k (slice_get values) done) y → FailsBefore L z left
serve_first_stop xs ports L z y k left values done p same count at fit st s =
    let net : (w : Net) × (slice_get xs k ≡ Some w) × (p ≡ port_of w) = net_of_port xs k p (subst (λ (l : List Port). slice_get l k ≡ Some p) same at) in
    let bits : p.bits ≡ net.0.bits = ap (λ (q : Port). q.bits) net.2 in
    s.fails left (first_stop xs 0 k (slice_get values) done net.0 y left net.1 (slice_get_past values k (omega (arith, count))) (front_known xs ports values k same count fit) (subst (λ (b : ℕ). StopsBefore (IsChange k b None) y left) bits st))
