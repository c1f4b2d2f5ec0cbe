-- A text is the dump of one list of nets and of one value of each net in each cycle.
use Rattle.vcd_text.proofs.Sequences.{head_tail as heads}
use Rattle.tapa_base.proofs.Got.{some_at as net_at}
use Rattle.std.proofs.Common.{◌≡◌, ℕ, zero, suc, ◌+◌, ◌-◌, ◌<◌, ◌≤◌, List, [], ◌∷◌, ◌++◌, length, map, inl, inr, refl, sym, ap, subst, ◌∙◌, append_assoc, arith}
use Rattle.std.specs.Prelude.{Some, None, slice_get, codes}
use Rattle.std.proofs.lemmas.List.{append_cancel_left, length-append}
use Rattle.tapa_base.specs.Gaps.{Bytes}
use Rattle.vlog_tree.specs.Names.{IsName}
use Rattle.vcd_text.specs.Nets.{Net}
use Rattle.vcd_text.specs.Dump.{Values, AreValues, IsSameDump, IsOneDump, lines_from, var_line, value_text, identifier, change_line, cycle_line, cycles_text}
use Rattle.vcd_text.specs.Read.{port_of, value_of, changes_to, ReadsValues}
use Rattle.vcd_text.specs.Rest.{Answer, Known, row_line, change_of, later_text, Left}
use Rattle.vcd_text.specs.declared.dump.Change.{Change}
use Rattle.vcd_text.proofs.Going.{put, turn, Turns, cycle}
use Rattle.vcd_text.proofs.GoingOn.{begins}
use Rattle.vcd_text.proofs.HeadLines.{var_same}
use Rattle.vcd_text.proofs.HeadSteps.{cycles_are, changes_are}
use Rattle.vcd_text.proofs.Tops.{top_same, text_is, behind_top}
use Rattle.vcd_text.proofs.Values.{lines_one, line_begins, value_same}
use Rattle.vcd_text.proofs.ValuesOf.{gives_values}

-- ---- what is left behind the head is left in one way

abbrev Same : Answer → Answer → Type 0
Same a b = (a.last ≡ b.last) × (a.changes ≡ b.changes)

line_long : (k bits v : ℕ) (y : Bytes) → length y < length (change_line k bits v ++ y)
line_long k bits v y = omega (arith, length-append (change_line k bits v) y, length-append (value_text bits v) (identifier k ++ 10 ∷ []), length-append (identifier k) (10 ∷ []))

-- a net's change doesn't come where the net keeps its value
mixed : (nets : List Net) (a b : Answer) (gap k n : ℕ) (p : Known) (done : List Change) (x : Net) (z : Bytes) → suc k + gap ≡ length nets → Left nets n (suc k) p done a z → Turns nets n k p done x b z → ⊥
mixed nets a b gap k n p done x z h l t = elim (begins nets n p done a gap (suc k) z h l) [
  | inl e ↦ absurd (omega (arith, ap (λ (y : Bytes). length y) (sym e ∙ t.is), line_long k x.bits t.value t.behind))
  | inr (w, y, inl c, e) ↦ line_begins k x.bits t.value t.behind _ (sym t.is ∙ e ∙ ap (λ (u : Bytes). u ++ y) c)
  | inr (w, y, inr c, e) ↦ absurd (omega (arith, c.from, (lines_one k c.place x.bits c.net.bits t.value c.value t.behind y t.new_value.0 c.new_value.0 (sym t.is ∙ e ∙ ap (λ (u : Bytes). u ++ y) c.is)).0))
]

abbrev One : List Net → Answer → Answer → Bytes → Type 0
One nets a b z = (n k : ℕ) (p : Known) (done : List Change) → k ≤ length nets → Left nets n k p done a z → Left nets n k p done b z → Same a b

row_one : (nets : List Net) (a b : Answer) (z : Bytes) → ((y : Bytes) → length y < length z → One nets a b y) → (gap k n : ℕ) (p : Known) (done : List Change) → k + gap ≡ length nets → Left nets n k p done a z → Left nets n k p done b z → Same a b
row_one nets a b z less zero k n p done h l m = elim (cycle nets n k (omega (arith, h)) p done a z l) [
  | inl c ↦ elim (cycle nets n k (omega (arith, h)) p done b z m) [
    | inl d ↦
        let same : c.behind ≡ d.behind = append_cancel_left (cycle_line (n + 1)) c.behind d.behind (sym c.is ∙ d.is) in
        less c.behind (omega (arith, ap (λ (y : Bytes). length y) c.is, length-append (cycle_line (n + 1)) c.behind)) (n + 1) 0 p done (omega arith) c.left (subst (λ (y : Bytes). Left nets (n + 1) 0 p done b y) (sym same) d.left)
    | inr d ↦ absurd (omega (arith, ap (λ (y : Bytes). length y) (sym d.is ∙ c.is), length-append (cycle_line (n + 1)) c.behind))
  ]
  | inr c ↦ elim (cycle nets n k (omega (arith, h)) p done b z m) [
    | inl d ↦ absurd (omega (arith, ap (λ (y : Bytes). length y) (sym c.is ∙ d.is), length-append (cycle_line (n + 1)) d.behind))
    | inr d ↦ (c.last ∙ sym d.last, c.changes ∙ sym d.changes)
  ]
]
row_one nets a b z less (suc gap) k n p done h l m =
    let x : (x : Net) × (slice_get nets k ≡ Some x) = net_at nets k (omega (arith, h)) in
    elim (turn nets n k p done x.0 x.1 a z l) [
      | inl s ↦ elim (turn nets n k p done x.0 x.1 b z m) [
        | inl t ↦ row_one nets a b z less gap (suc k) n p done (omega (arith, h)) s t
        | inr t ↦ absurd (mixed nets a b gap k n p done x.0 z (omega (arith, h)) s t)
      ]
      | inr s ↦ elim (turn nets n k p done x.0 x.1 b z m) [
        | inl t ↦ absurd (mixed nets b a gap k n p done x.0 z (omega (arith, h)) t s)
        | inr t ↦
            let o : (k ≡ k) × (value_text x.0.bits s.value ≡ value_text x.0.bits t.value) × (s.behind ≡ t.behind) = lines_one k k x.0.bits x.0.bits s.value t.value s.behind t.behind s.new_value.0 t.new_value.0 (sym s.is ∙ t.is) in
            let v : s.value ≡ t.value = value_same x.0.bits s.value t.value o.1 in
            less s.behind (omega (arith, ap (λ (y : Bytes). length y) s.is, line_long k x.0.bits s.value s.behind)) n (suc k) (put p k s.value) (done ++ change_of n k s.value ∷ []) (omega (arith, h)) s.left
            (subst (λ (u : ℕ). Left nets n (suc k) (put p k u) (done ++ change_of n k u ∷ []) b s.behind) (sym v) (subst (λ (y : Bytes). Left nets n (suc k) (put p k t.value) (done ++ change_of n k t.value ∷ []) b y) (sym o.2) t.left))
      ]
    ]

one : (nets : List Net) (a b : Answer) (fuel : ℕ) (z : Bytes) → length z < fuel → One nets a b z
one nets a b zero z h n k p done g l m = absurd (omega (arith, h))
one nets a b (suc fuel) z h n k p done g l m = row_one nets a b z (λ y f. one nets a b fuel y (omega (arith, h, f))) (length nets - k) k n p done (omega (arith, g)) l m

-- ---- nets that are read

abbrev AreFit : List Net → Type 0
AreFit [] = Unit {0}
AreFit (x ∷ xs) = IsName x.name × (x.bits ≤ 128) × AreFit xs

are_fit : (nets : List Net) → ((k : ℕ) (n : Net) → slice_get nets k ≡ Some n → IsName n.name) → ((k : ℕ) (n : Net) → slice_get nets k ≡ Some n → n.bits ≤ 128) → AreFit nets
are_fit [] names bits = tt
are_fit (x ∷ xs) names bits = (names 0 x refl, bits 0 x refl, are_fit xs (λ k n e. names (suc k) n e) (λ k n e. bits (suc k) n e))

abbrev head_behind : Bytes
head_behind = codes "$upscope $end\n$enddefinitions $end\n"

-- the line of a net doesn't begin as the end of the head does
ends_apart : (k : ℕ) (x : Net) (y z : Bytes) → var_line k x ++ y ≡ head_behind ++ z → ⊥
ends_apart k x y z e = absurd (omega (arith, (heads 118 117 _ _ (heads 36 36 _ _ e).1).0))

nets_one : (nets others : List Net) (k : ℕ) (y z : Bytes) → AreFit nets → AreFit others → lines_from var_line k nets ++ (head_behind ++ y) ≡ lines_from var_line k others ++ (head_behind ++ z) → (nets ≡ others) × (y ≡ z)
nets_one [] [] k y z f g e = (refl, append_cancel_left head_behind y z e)
nets_one [] (x ∷ others) k y z f g e = absurd (ends_apart k x (lines_from var_line (suc k) others ++ (head_behind ++ z)) y (sym (e ∙ append_assoc (var_line k x) (lines_from var_line (suc k) others) (head_behind ++ z))))
nets_one (x ∷ nets) [] k y z f g e = absurd (ends_apart k x (lines_from var_line (suc k) nets ++ (head_behind ++ y)) z (sym (append_assoc (var_line k x) (lines_from var_line (suc k) nets) (head_behind ++ y)) ∙ e))
nets_one (x ∷ nets) (w ∷ others) k y z f g e =
    let s : (x ≡ w) × (lines_from var_line (suc k) nets ++ (head_behind ++ y) ≡ lines_from var_line (suc k) others ++ (head_behind ++ z)) = var_same k x w _ _ f.0 g.0 f.1 g.1
    (sym (append_assoc (var_line k x) (lines_from var_line (suc k) nets) (head_behind ++ y)) ∙ e ∙ append_assoc (var_line k w) (lines_from var_line (suc k) others) (head_behind ++ z)) in
    let t : (nets ≡ others) × (y ≡ z) = nets_one nets others (suc k) y z f.2 g.2 s.1 in
    (ap (λ (n : Net). n ∷ nets) s.0 ∙ ap (λ (l : List Net). w ∷ l) t.0, t.1)

-- ---- the whole

abbrev values_text : List Net → Values → ℕ → Bytes
values_text nets v last = lines_from (row_line (λ _. None) (v 0)) 0 nets ++ later_text nets 0 v last

cycles_split : (nets : List Net) (v : Values) (last : ℕ) → cycles_text nets v last ≡ cycle_line 0 ++ values_text nets v last
cycles_split nets v last = cycles_are nets v last ∙ append_assoc (cycle_line 0) (lines_from (row_line (λ _. None) (v 0)) 0 nets) (later_text nets 0 v last)

abbrev answer : List Net → Values → ℕ → Answer
answer nets v last = record { ports = map port_of nets; last = last; changes = changes_to nets v last }

all_left : (nets : List Net) (v : Values) (last : ℕ) → AreValues nets v last → Left nets 0 0 (λ _. None) [] (answer nets v last) (values_text nets v last)
all_left nets v last are = record {
  rows = v;
  more = last;
  are_rows = are;
  seen = λ i h. absurd (omega arith);
  is = refl;
  ports = refl;
  last = omega arith;
  changes = changes_are nets v last;
}

-- of the same nets
values_one : (nets : List Net) (v w : Values) (last end : ℕ) → AreValues nets v last → AreValues nets w end → cycles_text nets v last ≡ cycles_text nets w end → (last ≡ end) × ((n k : ℕ) → n ≤ last → k < length nets → v n k ≡ w n k)
values_one nets v w last end f g e =
    let same : values_text nets v last ≡ values_text nets w end = append_cancel_left (cycle_line 0) (values_text nets v last) (values_text nets w end) (sym (cycles_split nets v last) ∙ e ∙ cycles_split nets w end) in
    let s : Same (answer nets v last) (answer nets w end) = one nets (answer nets v last) (answer nets w end) (suc (length (values_text nets v last))) (values_text nets v last) (omega arith) 0 0 (λ _. None) [] (omega arith) (all_left nets v last f)
    (subst (λ (y : Bytes). Left nets 0 0 (λ _. None) [] (answer nets w end) y) (sym same) (all_left nets w end g)) in
    (s.0, λ n k h q. sym (gives_values nets v last n k h q) ∙ ap (λ (c : List Change). value_of c k n) s.1 ∙ gives_values nets w end n k (omega (arith, h, s.0)) q)

pub one_dump : IsOneDump
one_dump top other nets others v w last end text d e =
    let behind : behind_top nets v last ≡ behind_top others w end = (top_same top other (behind_top nets v last) (behind_top others w end) d.top_name e.top_name (text_is top nets v last ∙ sym d.is ∙ e.is ∙ sym (text_is other others w end))).1 in
    let heads : (nets ≡ others) × (cycles_text nets v last ≡ cycles_text others w end) = nets_one nets others 0 (cycles_text nets v last) (cycles_text others w end) (are_fit nets d.are_nets.names d.are_nets.few_bits) (are_fit others e.are_nets.names e.are_nets.few_bits) behind in
    let values : (last ≡ end) × ((n k : ℕ) → n ≤ last → k < length nets → v n k ≡ w n k) = values_one nets v w last end d.are_values (subst (λ (ns : List Net). AreValues ns w end) (sym heads.0) e.are_values)
    (heads.1 ∙ ap (λ (ns : List Net). cycles_text ns w end) (sym heads.0)) in
    record { same_nets = heads.0; same_last = values.0; same_values = values.1 }

pub reads_values : ReadsValues
reads_values top nets v last text ports end changes d r n k h q =
    let s : IsSameDump nets r.nets v r.values last end = one_dump top r.top nets r.nets v r.values last end text d r.dump in
    ap (λ (c : List Change). value_of c k n) r.are_changes ∙ gives_values r.nets r.values end n k (omega (arith, h, s.same_last)) (subst (λ (ns : List Net). k < length ns) s.same_nets q) ∙ sym (s.same_values n k h q)
