-- What is left of a dump behind each line of its head.
use Rattle.std.proofs.Common.{◌≡◌, ◌≢◌, ◌⊎◌, ℕ, zero, suc, ◌<◌, ◌≤◌, Bool, true, false, List, [], ◌∷◌, ◌++◌, length, map, inl, inr, refl, sym, ap, subst, ◌∙◌, append_assoc, arith}
use Rattle.std.specs.Prelude.{Some, None, slice_get, codes, decimal}
use Rattle.std.proofs.lemmas.Fmt.{decimal_injective, decimal_digit}
use Rattle.std.proofs.lemmas.List.{append-nil, append_cancel_left, length-append}
use Rattle.std.proofs.lemmas.Option.{slice_get_within}
use Rattle.tapa_base.specs.declared.shape.Port.{Port}
use Rattle.tapa_base.proofs.Got.{got_left, the_same}
use Rattle.tapa_base.specs.Gaps.{Bytes}
use Rattle.vlog_tree.specs.Names.{IsName}
use Rattle.vcd_text.specs.Nets.{Net}
use Rattle.vcd_text.specs.Along.{StopsBefore}
use Rattle.vcd_text.specs.Dump.{Values, AreNets, AreValues, lines_from, var_line, net_type, identifier, cycle_line, cycles_text}
use Rattle.vcd_text.specs.Head.{IsFree, MayName, IsHeadLineTo}
use Rattle.vcd_text.specs.Lines.{MayFollow, head_end}
use Rattle.vcd_text.specs.Read.{port_of, changes_to}
use Rattle.vcd_text.specs.Rest.{Answer, FailsBefore, row_line, later_text, Left, LeftOfHead}
use Rattle.vcd_text.proofs.GoingOn.{net_of_port, port_at}
use Rattle.vcd_text.proofs.HeadSteps.{cycles_are, changes_are}
use Rattle.vcd_text.proofs.Heads.{decimal_free, name_free}
use Rattle.vcd_text.proofs.Knowing.{some_left}
use Rattle.vcd_text.proofs.Reading.{Steps, fails_lines}
use Rattle.vcd_text.proofs.Sequences.{ended_same, head_tail as heads}

-- ---- one net more

at_middle : (xs more : List Net) (x : Net) → slice_get (xs ++ x ∷ more) (length xs) ≡ Some x
at_middle [] more x = refl
at_middle (y ∷ xs) more x = at_middle xs more x

front_or_last : (xs : List Net) (x : Net) (k : ℕ) (n : Net) → slice_get (xs ++ x ∷ []) k ≡ Some n → (slice_get xs k ≡ Some n) ⊎ ((k ≡ length xs) × (n ≡ x))
front_or_last [] x zero n e = inr (refl, the_same n x (sym e))
front_or_last [] x (suc k) n e = inl e
front_or_last (y ∷ xs) x zero n e = inl e
front_or_last (y ∷ xs) x (suc k) n e = elim (front_or_last xs x k n e) [ inl f ↦ inl f | inr g ↦ inr (ap suc g.0, g.1) ]

may_follow : (xs more : List Net) (x : Net) → AreNets (xs ++ x ∷ more) → MayFollow xs x
may_follow xs more x are = record {
  name = are.names (length xs) x (at_middle xs more x);
  some_bits = are.some_bits (length xs) x (at_middle xs more x);
  few_bits = are.few_bits (length xs) x (at_middle xs more x);
  other = λ k n e same. absurd (omega (arith, are.own k (length xs) n x (got_left xs (x ∷ more) k n e) (at_middle xs more x) same, slice_get_within xs k n e));
}

pub nets_more : (xs : List Net) (x : Net) → AreNets xs → MayFollow xs x → AreNets (xs ++ x ∷ [])
nets_more xs x are next = record {
  names = λ k n e. elim (front_or_last xs x k n e) [ inl f ↦ are.names k n f | inr g ↦ subst (λ (m : Net). IsName m.name) (sym g.1) next.name ];
  some_bits = λ k n e. elim (front_or_last xs x k n e) [ inl f ↦ are.some_bits k n f | inr g ↦ subst (λ (m : Net). 0 < m.bits) (sym g.1) next.some_bits ];
  few_bits = λ k n e. elim (front_or_last xs x k n e) [ inl f ↦ are.few_bits k n f | inr g ↦ subst (λ (m : Net). m.bits ≤ 128) (sym g.1) next.few_bits ];
  own = λ j k m n e f same. elim (front_or_last xs x j m e) [
    | inl p ↦ elim (front_or_last xs x k n f) [ inl q ↦ are.own j k m n p q same | inr q ↦ absurd (next.other j m p (same ∙ ap (λ (w : Net). w.name) q.1)) ]
    | inr p ↦ elim (front_or_last xs x k n f) [ inl q ↦ absurd (next.other k n q (sym same ∙ ap (λ (w : Net). w.name) p.1)) | inr q ↦ p.0 ∙ sym q.0 ]
  ];
}

regrouped : (xs more : List Net) (x : Net) → (xs ++ x ∷ []) ++ more ≡ xs ++ x ∷ more
regrouped xs more x = append_assoc xs (x ∷ []) more

one_longer : (xs : List Net) (x : Net) → length (xs ++ x ∷ []) ≡ suc (length xs)
one_longer xs x = omega (arith, length-append xs (x ∷ []))

abbrev behind_nets : List Net → Values → ℕ → Bytes
behind_nets nets v last = codes "$upscope $end\n$enddefinitions $end\n" ++ cycles_text nets v last

head_more : (xs : List Net) (x : Net) (a : Answer) (z : Bytes) → LeftOfHead (xs ++ x ∷ []) a z → LeftOfHead xs a (var_line (length xs) x ++ z)
head_more xs x a z l = record {
  more = x ∷ l.more;
  values = l.values;
  last = l.last;
  are_nets = subst AreNets (regrouped xs l.more x) l.are_nets;
  are_values = subst (λ (ns : List Net). AreValues ns l.values l.last) (regrouped xs l.more x) l.are_values;
  is = ap (λ (y : Bytes). var_line (length xs) x ++ y) (l.is ∙ ap (λ (k : ℕ). lines_from var_line k l.more ++ behind_nets ((xs ++ x ∷ []) ++ l.more) l.values l.last) (one_longer xs x) ∙ ap (λ (ns : List Net). lines_from var_line (suc (length xs)) l.more ++ behind_nets ns l.values l.last) (regrouped xs l.more x))
      ∙ sym (append_assoc (var_line (length xs) x) (lines_from var_line (suc (length xs)) l.more) (behind_nets (xs ++ x ∷ l.more) l.values l.last));
  are_ports = l.are_ports ∙ ap (λ (ns : List Net). map port_of ns) (regrouped xs l.more x);
  is_last = l.is_last;
  are_changes = l.are_changes ∙ ap (λ (ns : List Net). changes_to ns l.values l.last) (regrouped xs l.more x);
}

-- ---- the end of the head

zero_line : cycle_line 0 ≡ codes "#0\n"
zero_line = ap (λ (l : Bytes). codes "#" ++ (l ++ codes "\n")) (decimal_digit 0 (omega arith))

end_text : (nets : List Net) (v : Values) (last : ℕ) → behind_nets nets v last ≡ head_end ++ (lines_from (row_line (λ _. None) (v 0)) 0 nets ++ later_text nets 0 v last)
end_text nets v last =
    ap (λ (l : Bytes). codes "$upscope $end\n$enddefinitions $end\n" ++ l) (cycles_are nets v last ∙ append_assoc (cycle_line 0) (lines_from (row_line (λ _. None) (v 0)) 0 nets) (later_text nets 0 v last))
    ∙ ap (λ (l : Bytes). codes "$upscope $end\n$enddefinitions $end\n" ++ (l ++ (lines_from (row_line (λ _. None) (v 0)) 0 nets ++ later_text nets 0 v last))) zero_line

head_ends : (xs : List Net) (a : Answer) (z : Bytes) → AreNets xs → Left xs 0 0 (λ _. None) [] a z → LeftOfHead xs a (head_end ++ z)
head_ends xs a z are l = record {
  more = [];
  values = l.rows;
  last = l.more;
  are_nets = subst AreNets (sym (append-nil xs)) are;
  are_values = subst (λ (ns : List Net). AreValues ns l.rows l.more) (sym (append-nil xs)) l.are_rows;
  is = ap (λ (y : Bytes). head_end ++ y) l.is ∙ sym (end_text xs l.rows l.more) ∙ ap (λ (ns : List Net). behind_nets ns l.rows l.more) (sym (append-nil xs));
  are_ports = l.ports ∙ ap (λ (ns : List Net). map port_of ns) (sym (append-nil xs));
  is_last = l.last ∙ omega arith;
  are_changes = l.changes ∙ sym (changes_are xs l.rows l.more) ∙ ap (λ (ns : List Net). changes_to ns l.rows l.more) (sym (append-nil xs));
}

-- ---- the end of the head comes, or a net

pub record HeadEnds (xs : List Net) (a : Answer) (z : Bytes) : Type 0 where
  pub behind : Bytes
  pub is : z ≡ head_end ++ behind
  pub left : Left xs 0 0 (λ _. None) [] a behind

pub record NetComes (xs : List Net) (a : Answer) (z : Bytes) : Type 0 where
  pub net : Net
  pub behind : Bytes
  pub next : MayFollow xs net
  pub is : z ≡ var_line (length xs) net ++ behind
  pub left : LeftOfHead (xs ++ net ∷ []) a behind

head_turn : (xs : List Net) (a : Answer) (z : Bytes) → LeftOfHead xs a z → HeadEnds xs a z ⊎ NetComes xs a z
head_turn xs a z l = by_more l.more l.are_nets l.are_values l.is l.are_ports l.are_changes
  where
    by_more : (more : List Net) → AreNets (xs ++ more) → AreValues (xs ++ more) l.values l.last → z ≡ lines_from var_line (length xs) more ++ behind_nets (xs ++ more) l.values l.last → a.ports ≡ map port_of (xs ++ more) → a.changes ≡ changes_to (xs ++ more) l.values l.last → HeadEnds xs a z ⊎ NetComes xs a z
    by_more [] nets values is ports changes = inl (record {
      behind = lines_from (row_line (λ _. None) (l.values 0)) 0 xs ++ later_text xs 0 l.values l.last;
      is = is ∙ ap (λ (ns : List Net). behind_nets ns l.values l.last) (append-nil xs) ∙ end_text xs l.values l.last;
      left = record {
        rows = l.values;
        more = l.last;
        are_rows = subst (λ (ns : List Net). AreValues ns l.values l.last) (append-nil xs) values;
        seen = λ i h. absurd (omega arith);
        is = refl;
        ports = ports ∙ ap (λ (ns : List Net). map port_of ns) (append-nil xs);
        last = l.is_last ∙ omega arith;
        changes = changes ∙ ap (λ (ns : List Net). changes_to ns l.values l.last) (append-nil xs) ∙ changes_are xs l.values l.last;
      };
    })
    by_more (x ∷ more) nets values is ports changes = inr (record {
      net = x;
      behind = lines_from var_line (suc (length xs)) more ++ behind_nets (xs ++ x ∷ more) l.values l.last;
      next = may_follow xs more x nets;
      is = is ∙ append_assoc (var_line (length xs) x) (lines_from var_line (suc (length xs)) more) (behind_nets (xs ++ x ∷ more) l.values l.last);
      left = record {
        more = more;
        values = l.values;
        last = l.last;
        are_nets = subst AreNets (sym (regrouped xs more x)) nets;
        are_values = subst (λ (ns : List Net). AreValues ns l.values l.last) (sym (regrouped xs more x)) values;
        is = ap (λ (k : ℕ). lines_from var_line k more ++ behind_nets (xs ++ x ∷ more) l.values l.last) (sym (one_longer xs x)) ∙ ap (λ (ns : List Net). lines_from var_line (length (xs ++ x ∷ [])) more ++ behind_nets ns l.values l.last) (sym (regrouped xs more x));
        are_ports = ports ∙ ap (λ (ns : List Net). map port_of ns) (sym (regrouped xs more x));
        is_last = l.is_last;
        are_changes = changes ∙ ap (λ (ns : List Net). changes_to ns l.values l.last) (sym (regrouped xs more x));
      };
    })

-- ---- lines of nets are apart

var_flat : (k : ℕ) (x : Net) (y : Bytes) → var_line k x ++ y ≡ codes "$var " ++ (net_type x.is_reg ++ (decimal x.bits ++ 32 ∷ (identifier k ++ 32 ∷ (x.name ++ 32 ∷ (codes "$end\n" ++ y)))))
var_flat k x y = simp append_assoc

type_same : (r q : Bool) (y z : Bytes) → net_type r ++ y ≡ net_type q ++ z → (r ≡ q) × (y ≡ z)
type_same true true y z e = (refl, append_cancel_left (net_type true) y z e)
type_same false false y z e = (refl, append_cancel_left (net_type false) y z e)
type_same true false y z e = absurd (omega (arith, (heads 114 119 _ _ e).0))
type_same false true y z e = absurd (omega (arith, (heads 119 114 _ _ e).0))

pub var_same : (k : ℕ) (x w : Net) (y z : Bytes) → IsName x.name → IsName w.name → x.bits ≤ 128 → w.bits ≤ 128 → var_line k x ++ y ≡ var_line k w ++ z → (x ≡ w) × (y ≡ z)
var_same k x w y z n m p q e =
    let one : net_type x.is_reg ++ (decimal x.bits ++ 32 ∷ (identifier k ++ 32 ∷ (x.name ++ 32 ∷ (codes "$end\n" ++ y)))) ≡ net_type w.is_reg ++ (decimal w.bits ++ 32 ∷ (identifier k ++ 32 ∷ (w.name ++ 32 ∷ (codes "$end\n" ++ z)))) = append_cancel_left (codes "$var ") _ _ (sym (var_flat k x y) ∙ e ∙ var_flat k w z) in
    let two : (x.is_reg ≡ w.is_reg) × (decimal x.bits ++ 32 ∷ (identifier k ++ 32 ∷ (x.name ++ 32 ∷ (codes "$end\n" ++ y))) ≡ decimal w.bits ++ 32 ∷ (identifier k ++ 32 ∷ (w.name ++ 32 ∷ (codes "$end\n" ++ z)))) = type_same x.is_reg w.is_reg _ _ one in
    let three : (decimal x.bits ≡ decimal w.bits) × (identifier k ++ 32 ∷ (x.name ++ 32 ∷ (codes "$end\n" ++ y)) ≡ identifier k ++ 32 ∷ (w.name ++ 32 ∷ (codes "$end\n" ++ z))) = ended_same 32 (decimal x.bits) (decimal w.bits) _ _ (decimal_free 32 x.bits (omega arith) (omega (arith, p))) (decimal_free 32 w.bits (omega arith) (omega (arith, q))) two.1 in
    let four : 32 ∷ (x.name ++ 32 ∷ (codes "$end\n" ++ y)) ≡ 32 ∷ (w.name ++ 32 ∷ (codes "$end\n" ++ z)) = append_cancel_left (identifier k) _ _ three.1 in
    let five : (x.name ≡ w.name) × (codes "$end\n" ++ y ≡ codes "$end\n" ++ z) = ended_same 32 x.name w.name _ _ (name_free x.name n) (name_free w.name m) (heads 32 32 _ _ four).1 in
    let bits : x.bits ≡ w.bits = decimal_injective x.bits w.bits (omega (arith, p)) (omega (arith, q)) three.0 in
    (same_net x w five.0 bits two.0, append_cancel_left (codes "$end\n") y z five.1)
  where
    same_net : (x w : Net) → x.name ≡ w.name → x.bits ≡ w.bits → x.is_reg ≡ w.is_reg → x ≡ w
    same_net x w a b c =
        ap (λ (n : List ℕ). record { name = n; bits = x.bits; is_reg = x.is_reg }) a ∙ ap (λ (n : ℕ). record { name = w.name; bits = n; is_reg = x.is_reg }) b ∙ ap (λ (r : Bool). record { name = w.name; bits = w.bits; is_reg = r }) c

pub var_begins : (k : ℕ) (x : Net) (y z : Bytes) → var_line k x ++ y ≡ head_end ++ z → ⊥
var_begins k x y z e = absurd (omega (arith, (heads 118 117 _ _ (heads 36 36 _ _ e).1).0))

-- ---- behind a line

pub var_steps : (xs : List Net) (x : Net) → MayFollow xs x → Steps (LeftOfHead xs) (var_line (length xs) x) (LeftOfHead (xs ++ x ∷ []))
var_steps xs x next a z = (to, λ l. head_more xs x a z l)
  where
    to : LeftOfHead xs a (var_line (length xs) x ++ z) → LeftOfHead (xs ++ x ∷ []) a z
    to l = elim (head_turn xs a (var_line (length xs) x ++ z) l) [
      | inl h ↦ absurd (var_begins (length xs) x z h.behind h.is)
      | inr n ↦
          let s : (x ≡ n.net) × (z ≡ n.behind) = var_same (length xs) x n.net z n.behind next.name n.next.name next.few_bits n.next.few_bits n.is in
          subst (λ (y : Bytes). LeftOfHead (xs ++ x ∷ []) a y) (sym s.1) (subst (λ (w : Net). LeftOfHead (xs ++ w ∷ []) a n.behind) (sym s.0) n.left)
    ]

pub end_steps : (xs : List Net) → AreNets xs → Steps (LeftOfHead xs) head_end (Left xs 0 0 (λ _. None) [])
end_steps xs are a z = (to, λ l. head_ends xs a z are l)
  where
    to : LeftOfHead xs a (head_end ++ z) → Left xs 0 0 (λ _. None) [] a z
    to l = elim (head_turn xs a (head_end ++ z) l) [
      | inl h ↦ subst (λ (y : Bytes). Left xs 0 0 (λ _. None) [] a y) (sym (append_cancel_left head_end z h.behind h.is)) h.left
      | inr n ↦ absurd (var_begins (length xs) n.net n.behind z (sym n.is))
    ]

-- ---- a text that begins with no line of the head

pub some_head : (xs : List Net) → AreNets xs → (a : Answer) × (z : Bytes) × LeftOfHead xs a (head_end ++ z)
some_head xs are =
    let s : (a : Answer) × (z : Bytes) × Left xs 0 0 (λ _. None) [] a z = some_left xs 0 0 (λ _. None) [] (omega arith) (λ i x h at. absurd (omega arith)) in
    (s.0, s.1, head_ends xs s.0 s.1 are s.2)

parts_are : (k n : ℕ) (r : Bool) (x : List ℕ) → codes "$var " ++ (net_type r ++ ((decimal n ++ 32 ∷ []) ++ ((identifier k ++ 32 ∷ []) ++ (x ++ codes " $end\n")))) ≡ var_line k (record { name = x; bits = n; is_reg = r })
parts_are k n r x = simp append_assoc

pub follows : (xs : List Net) (ports : List Port) (x : List ℕ) (n : ℕ) (r : Bool) → ports ≡ map port_of xs → MayName ports x → 1 ≤ n → n ≤ 128 → MayFollow xs (record { name = x; bits = n; is_reg = r })
follows xs ports x n r same ok low high = record {
  name = ok.0;
  some_bits = omega (arith, low);
  few_bits = high;
  other = λ k m e f. ok.1 k (port_of m) (subst (λ (l : List Port). slice_get l k ≡ Some (port_of m)) (sym same) (port_at xs k m e)) f;
}

pub head_stop : (xs : List Net) (ports : List Port) (z : Bytes) (left : ℕ) → ports ≡ map port_of xs → AreNets xs → StopsBefore (IsHeadLineTo ports (length xs)) z left → FailsBefore (LeftOfHead xs) z left
head_stop xs ports z left same are s = fails_lines (LeftOfHead xs) (IsHeadLineTo ports (length xs)) z left into out s
  where
    into : (w : Bytes) → IsHeadLineTo ports (length xs) w → (a : Answer) × (y : Bytes) × LeftOfHead xs a (w ++ y)
    into w (inl e) = let h : (a : Answer) × (y : Bytes) × LeftOfHead xs a (head_end ++ y) = some_head xs are in (h.0, h.1, subst (λ (l : Bytes). LeftOfHead xs h.0 (l ++ h.1)) (sym e) h.2)
    into w (inr (y, (r, u, (n, v, low, high, (t, (x, ok, f), g), h), i), j)) =
        let next : MayFollow xs (record { name = x; bits = n; is_reg = r }) = follows xs ports x n r same ok low (omega (arith, high)) in
        let line : w ≡ var_line (length xs) (record { name = x; bits = n; is_reg = r }) =
        j ∙ ap (λ (l : Bytes). codes "$var " ++ l) (i ∙ ap (λ (l : Bytes). net_type r ++ l) (h ∙ ap (λ (l : Bytes). (decimal n ++ 32 ∷ []) ++ l) (g ∙ ap (λ (l : Bytes). (identifier (length xs) ++ 32 ∷ []) ++ l) f))) ∙ parts_are (length xs) n r x in
        let more : (a : Answer) × (q : Bytes) × LeftOfHead (xs ++ (record { name = x; bits = n; is_reg = r }) ∷ []) a (head_end ++ q) = some_head (xs ++ (record { name = x; bits = n; is_reg = r }) ∷ []) (nets_more xs (record { name = x; bits = n; is_reg = r }) are next) in
        (more.0, head_end ++ more.1, subst (λ (l : Bytes). LeftOfHead xs more.0 (l ++ (head_end ++ more.1))) (sym line) (head_more xs (record { name = x; bits = n; is_reg = r }) more.0 (head_end ++ more.1) more.2))

    out : (a : Answer) (y : Bytes) → LeftOfHead xs a y → ((y ≡ []) × (z ≢ [])) ⊎ ((w : Bytes) × (b : Bytes) × IsHeadLineTo ports (length xs) w × (y ≡ w ++ b))
    out a y l = elim (head_turn xs a y l) [
      | inl h ↦ inr (head_end, h.behind, inl refl, h.is)
      | inr n ↦ inr (var_line (length xs) n.net, n.behind, inr (_, (n.net.is_reg, _, (n.net.bits, _, n.next.some_bits, omega (arith, n.next.few_bits), (_, (n.net.name, (n.next.name, free n.net n.next), refl), refl), refl), refl), sym (parts_are (length xs) n.net.bits n.net.is_reg n.net.name)), n.is)
    ]
      where
        free : (x : Net) → MayFollow xs x → IsFree ports x.name
        free x next i p e f = let w : (m : Net) × (slice_get xs i ≡ Some m) × (p ≡ port_of m) = net_of_port xs i p (subst (λ (l : List Port). slice_get l i ≡ Some p) same e) in next.other i w.0 w.1 (ap (λ (q : Port). q.name) (sym w.2) ∙ f)
