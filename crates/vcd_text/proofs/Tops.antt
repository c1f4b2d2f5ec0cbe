-- The lines in front of the nets, the lines of nets, and what is left of a dump behind each.
use Rattle.std.proofs.Common.{◌≡◌, ◌⊎◌, ℕ, ◌<◌, ◌≤◌, List, [], ◌∷◌, ◌++◌, length, map, inl, inr, refl, sym, ap, subst, ◌∙◌, append_assoc, arith}
use Rattle.std.specs.Prelude.{Some, None, slice_get, codes}
use Rattle.std.proofs.lemmas.List.{append_cancel_left, length-append, length-map, map-append}
use Rattle.std.proofs.lemmas.Option.{none-some}
use Rattle.tapa_base.specs.declared.shape.Port.{Port}
use Rattle.tapa_base.specs.Gaps.{Bytes}
use Rattle.vlog_tree.specs.Names.{IsName}
use Rattle.vlog_tree.specs.Table.{Name}
use Rattle.vcd_text.specs.Nets.{Net}
use Rattle.vcd_text.specs.Along.{StopsBefore}
use Rattle.vcd_text.specs.Dump.{Values, AreNets, lines_from, var_line, cycles_text, dump_text}
use Rattle.vcd_text.specs.Head.{MayName, IsFromName, IsHeadLineTo, IsNetFound, top_line, IsTopLine}
use Rattle.vcd_text.specs.Lines.{HaveBits, MayFollow, head_end}
use Rattle.vcd_text.specs.Read.{port_of, IsReadAs}
use Rattle.vcd_text.specs.Rest.{Answer, Texts, IsRead, FailsBefore, IsStopOf, Serves, Left, LeftOfHead}
use Rattle.vcd_text.specs.declared.halt.Halt.{Halt}
use Rattle.vcd_text.specs.declared.halt.Halt.TheVariants.{Stopped, OutOfMemory}
use Rattle.vcd_text.proofs.GoingOn.{net_of_port}
use Rattle.vcd_text.proofs.HeadLines.{nets_more, some_head, follows, head_stop, var_steps, end_steps}
use Rattle.vcd_text.proofs.Heads.{name_free}
use Rattle.vcd_text.proofs.Names.{new_name}
use Rattle.vcd_text.proofs.Reading.{Steps, fails_lines, serves_self, serves_more}
use Rattle.vcd_text.proofs.Sequences.{ended_same, before_first, before_next}

-- ---- the lines in front of the nets

abbrev before_top : Bytes
before_top = codes "$timescale 1 ns $end\n$scope module "

pub top_first : (z : Bytes) (left : ℕ) → StopsBefore (λ w. w ≡ codes "$timescale 1 ns $end\n$scope module ") z left → StopsBefore IsTopLine z left
top_first z left s = before_first (λ w. w ≡ before_top) IsTopLine z left
    (λ w e. let n : (y : Bytes) × MayName [] y = new_name [] [] in (n.0 ++ codes " $end\n", (n.0, n.1.0, ap (λ (l : Bytes). l ++ (n.0 ++ codes " $end\n")) e)))
    (λ w is. (before_top, is.0 ++ codes " $end\n", refl, is.2)) s

pub top_next : (z all : Bytes) (left : ℕ) → all ≡ codes "$timescale 1 ns $end\n$scope module " ++ z → StopsBefore (IsFromName []) z left → StopsBefore IsTopLine all left
top_next z all left e s = before_next IsTopLine (IsFromName []) before_top z all left e
    (λ y is. (is.0, is.1.0, ap (λ (l : Bytes). before_top ++ l) is.2))
    (λ w is. inl (is.0 ++ codes " $end\n", is.2, (is.0, (is.1, λ i p at same. none-some p at), refl))) s

pub top_found : (x : Name) (z y all : Bytes) → all ≡ codes "$timescale 1 ns $end\n$scope module " ++ z → z ≡ (x ++ codes " $end\n") ++ y → all ≡ top_line x ++ y
top_found x z y all e f = e ∙ ap (λ (l : Bytes). before_top ++ l) f ∙ sym (append_assoc before_top (x ++ codes " $end\n") y)

top_flat : (x : Name) (u : Bytes) → top_line x ++ u ≡ codes "$timescale 1 ns $end\n$scope module " ++ (x ++ 32 ∷ (codes "$end\n" ++ u))
top_flat x u = simp append_assoc

pub top_same : (x y : Name) (u z : Bytes) → IsName x → IsName y → top_line x ++ u ≡ top_line y ++ z → (x ≡ y) × (u ≡ z)
top_same x y u z h g e =
    let one : x ++ 32 ∷ (codes "$end\n" ++ u) ≡ y ++ 32 ∷ (codes "$end\n" ++ z) = append_cancel_left before_top _ _ (sym (top_flat x u) ∙ e ∙ top_flat y z) in
    let two : (x ≡ y) × (codes "$end\n" ++ u ≡ codes "$end\n" ++ z) = ended_same 32 x y _ _ (name_free x h) (name_free y g) one in
    (two.0, append_cancel_left (codes "$end\n") u z two.1)

abbrev pub behind_top : List Net → Values → ℕ → Bytes
behind_top nets v last = lines_from var_line 0 nets ++ (codes "$upscope $end\n$enddefinitions $end\n" ++ cycles_text nets v last)

pub text_is : (x : Name) (nets : List Net) (v : Values) (last : ℕ) → top_line x ++ behind_top nets v last ≡ dump_text x nets v last
text_is x nets v last = simp append_assoc

read_head : (x : Name) (a : Answer) (z : Bytes) → IsName x → LeftOfHead [] a z → IsRead a (top_line x ++ z)
read_head x a z h l = subst (λ (n : ℕ). IsReadAs (top_line x ++ z) a.ports n a.changes) (sym l.is_last) (record {
  top = x;
  nets = l.more;
  values = l.values;
  dump = record { top_name = h; are_nets = l.are_nets; are_values = l.are_values; is = ap (λ (y : Bytes). top_line x ++ y) l.is ∙ text_is x l.more l.values l.last };
  are_ports = l.are_ports;
  are_changes = l.are_changes;
})

pub top_steps : (x : Name) → IsName x → Steps IsRead (top_line x) (LeftOfHead [])
top_steps x h a z = (to, λ l. read_head x a z h l)
  where
    to : IsRead a (top_line x ++ z) → LeftOfHead [] a z
    to r = record {
      more = r.nets;
      values = r.values;
      last = a.last;
      are_nets = r.dump.are_nets;
      are_values = r.dump.are_values;
      is = (top_same x r.top z (behind_top r.nets r.values a.last) h r.dump.top_name (r.dump.is ∙ sym (text_is r.top r.nets r.values a.last))).1;
      are_ports = r.are_ports;
      is_last = refl;
      are_changes = r.are_changes;
    }

no_net_yet : AreNets []
no_net_yet = record {
  names = λ k n e. absurd (none-some n e);
  some_bits = λ k n e. absurd (none-some n e);
  few_bits = λ k n e. absurd (none-some n e);
  own = λ j k m n e f same. absurd (none-some m e);
}

pub top_stop : (z : Bytes) (left : ℕ) → StopsBefore IsTopLine z left → FailsBefore IsRead z left
top_stop z left s = fails_lines IsRead IsTopLine z left into out s
  where
    into : (w : Bytes) → IsTopLine w → (a : Answer) × (y : Bytes) × IsRead a (w ++ y)
    into w (x, h, e) =
        let l : (a : Answer) × (y : Bytes) × LeftOfHead [] a (head_end ++ y) = some_head [] no_net_yet in
        (l.0, head_end ++ l.1, subst (λ (v : Bytes). IsRead l.0 (v ++ (head_end ++ l.1))) (sym e) (read_head x l.0 (head_end ++ l.1) h l.2))

    out : (a : Answer) (y : Bytes) → IsRead a y → ((y ≡ []) × (z ≡ [] → ⊥)) ⊎ ((w : Bytes) × (b : Bytes) × IsTopLine w × (y ≡ w ++ b))
    out a y r = inr (top_line r.top, behind_top r.nets r.values a.last, (r.top, r.dump.top_name, refl), r.dump.is ∙ sym (text_is r.top r.nets r.values a.last))

-- ---- the nets

-- these nets were read of the front of a text, and this is left of it
pub record HeadSo (nets : List Port) (z y : Bytes) : Type 0 where
  pub found : List Net
  pub are_nets : AreNets found
  pub are_ports : nets ≡ map port_of found
  pub serves : Serves (LeftOfHead []) z (LeftOfHead found) y

pub head_begin : (z : Bytes) → HeadSo [] z z
head_begin z = record { found = []; are_nets = no_net_yet; are_ports = refl; serves = serves_self (LeftOfHead []) z }

ports_long : (nets : List Port) (xs : List Net) → nets ≡ map port_of xs → length nets ≡ length xs
ports_long nets xs e = ap (λ (l : List Port). length l) e ∙ length-map xs port_of

pub head_net : (nets : List Port) (z y rest : Bytes) (x : Name) (n : ℕ) → HeadSo nets z y → IsNetFound nets (length nets) x n y rest → HeadSo (nets ++ record { name = x; bits = n } ∷ []) z rest
head_net nets z y rest x n h (ok, low, high, (r, line)) =
    let next : MayFollow h.found (record { name = x; bits = n; is_reg = r }) = follows h.found nets x n r h.are_ports ok low high in
    let at : y ≡ var_line (length h.found) (record { name = x; bits = n; is_reg = r }) ++ rest = line ∙ ap (λ (k : ℕ). var_line k (record { name = x; bits = n; is_reg = r }) ++ rest) (ports_long nets h.found h.are_ports) in
    record {
      found = h.found ++ record { name = x; bits = n; is_reg = r } ∷ [];
      are_nets = nets_more h.found (record { name = x; bits = n; is_reg = r }) h.are_nets next;
      are_ports = ap (λ (l : List Port). l ++ record { name = x; bits = n } ∷ []) h.are_ports ∙ sym (map-append port_of h.found (record { name = x; bits = n; is_reg = r } ∷ []));
      serves = serves_more (LeftOfHead []) (LeftOfHead h.found) (LeftOfHead (h.found ++ record { name = x; bits = n; is_reg = r } ∷ [])) z y (var_line (length h.found) (record { name = x; bits = n; is_reg = r })) rest h.serves at (var_steps h.found (record { name = x; bits = n; is_reg = r }) next);
    }

pub net_shorter : (nets : List Port) (k : ℕ) (x : Name) (n : ℕ) (y rest : Bytes) → IsNetFound nets k x n y rest → length rest < length y
net_shorter nets k x n y rest (ok, low, high, (r, line)) = omega (arith, ap (λ (l : Bytes). length l) line, length-append (var_line k (record { name = x; bits = n; is_reg = r })) rest)

pub head_done : (nets : List Port) (z y rest : Bytes) → HeadSo nets z y → y ≡ head_end ++ rest → (xs : List Net) × (nets ≡ map port_of xs) × Serves (LeftOfHead []) z (Left xs 0 0 (λ _. None) []) rest
head_done nets z y rest h e = (
  h.found,
  h.are_ports,
  serves_more (LeftOfHead []) (LeftOfHead h.found) (Left h.found 0 0 (λ _. None) []) z y head_end rest h.serves e (end_steps h.found h.are_nets),
)

pub head_bits : (nets : List Port) (z y : Bytes) → HeadSo nets z y → HaveBits nets
head_bits nets z y h i p at =
    let w : (x : Net) × (slice_get h.found i ≡ Some x) × (p ≡ port_of x) = net_of_port h.found i p (subst (λ (l : List Port). slice_get l i ≡ Some p) h.are_ports at) in
    let bits : p.bits ≡ w.0.bits = ap (λ (q : Port). q.bits) w.2 in
    (omega (arith, bits, h.are_nets.some_bits i w.0 w.1), omega (arith, bits, h.are_nets.few_bits i w.0 w.1))

pub head_fails : (nets : List Port) (z y : Bytes) (left : ℕ) → HeadSo nets z y → StopsBefore (IsHeadLineTo nets (length nets)) y left → FailsBefore (LeftOfHead []) z left
head_fails nets z y left h s = h.serves.fails left (head_stop h.found nets y left h.are_ports h.are_nets (subst (λ (k : ℕ). StopsBefore (IsHeadLineTo nets k) y left) (ports_long nets h.found h.are_ports) s))

-- ---- one part behind another

pub serves_then : (L M N : Texts) (z y x : Bytes) → Serves L z M y → Serves M y N x → Serves L z N x
serves_then L M N z y x s t = record { found = λ a h. s.found a (t.found a h); fails = λ left h. s.fails left (t.fails left h) }

pub serves_top : (x : Name) (z y : Bytes) → IsName x → z ≡ top_line x ++ y → Serves IsRead z (LeftOfHead []) y
serves_top x z y h e = serves_more IsRead IsRead (LeftOfHead []) z z (top_line x) y (serves_self IsRead z) e (top_steps x h)

pub stops_then : (L M : Texts) (z y : Bytes) (h : Halt) → Serves L z M y → IsStopOf M y h → IsStopOf L z h
stops_then L M z y (Stopped left) s f = s.fails left f
stops_then L M z y OutOfMemory s f = tt

pub left_within : (L : Texts) (z : Bytes) (left : ℕ) → FailsBefore L z left → left ≤ length z
left_within L z left (n, is, f) = omega (arith, is)
