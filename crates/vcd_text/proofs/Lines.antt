-- Where a text stops that goes on with none of many lines.
use Rattle.tapa_base.proofs.Got.{the_same}
use Rattle.std.proofs.Common.{◌≡◌, ◌⊎◌, ℕ, ◌+◌, ◌<◌, ◌≤◌, List, length, inl, inr, sym, ap, subst, ◌∙◌, arith}
use Rattle.std.specs.Prelude.{Option, Some, min, slice_get}
use Rattle.std.proofs.lemmas.Option.{slice_get_within}
use Rattle.tapa_base.specs.declared.shape.Port.{Port}
use Rattle.tapa_base.specs.Gaps.{Bytes}
use Rattle.vcd_text.specs.Along.{Stops, StopsBefore}
use Rattle.vcd_text.specs.Dump.{change_line, cycle_line}
use Rattle.vcd_text.specs.Lines.{IsNewValue, IsChangeAmong, IsLineTo}
use Rattle.vcd_text.proofs.Common.{stops_like, less}

pub before_like : (W V : Bytes → Type 0) (z : Bytes) (left : ℕ) → ((w : Bytes) → W w → V w) → ((w : Bytes) → V w → W w) → StopsBefore W z left → StopsBefore V z left
before_like W V z left to from (n, is, s) = (n, is, stops_like W V z n to from s)

stops_either : (W V U : Bytes → Type 0) (z : Bytes) (m n : ℕ) → n ≤ m → ((w : Bytes) → W w → U w) → ((w : Bytes) → U w → W w ⊎ V w) → Stops W z m → Stops V z n → Stops U z m
stops_either W V U z m n h to from s t = record {
  word = s.word;
  is_word = to s.word s.is_word;
  along = s.along;
  most = λ w u. elim (from w u) [ inl a ↦ s.most w a | inr b ↦ omega (arith, t.most w b) ];
  none = λ w u. elim (from w u) [ inl a ↦ s.none w a | inr b ↦ t.none w b ];
}

-- words of two kinds
pub before_either : (W V U : Bytes → Type 0) (z : Bytes) (l r : ℕ) → ((w : Bytes) → W w → U w) → ((w : Bytes) → V w → U w) → ((w : Bytes) → U w → W w ⊎ V w) → StopsBefore W z l → StopsBefore V z r → StopsBefore U z (min l r)
before_either W V U z l r one two from (m, is, s) (n, be, t) = elim (less m n) [
  | inl h ↦ (n, omega (arith, is, be, h.1), stops_either V W U z n m (omega (arith, h.1)) two (λ w u. elim (from w u) [ inl a ↦ inr a | inr b ↦ inl b ]) t s)
  | inr h ↦ (m, omega (arith, is, be, h.1), stops_either W V U z m n (omega (arith, h.1)) one from s t)
]

-- the change of a net from another index on, and before another
pub among : {nets : List Port} {before : ℕ → Option ℕ} {k j l m : ℕ} {w : Bytes} (c : IsChangeAmong nets before k j w) → l ≤ c.place → c.place < m → IsChangeAmong nets before l m w
among c low high = record { place = c.place; net = c.net; value = c.value; from = low; to = high; at = c.at; new_value = c.new_value; is = c.is }

-- the change of one net
pub change_among : (nets : List Port) (before : ℕ → Option ℕ) (o : Option ℕ) (k : ℕ) (p : Port) (z : Bytes) (left : ℕ) → slice_get nets k ≡ Some p → o ≡ before k
    → StopsBefore (λ w. (v : ℕ) × IsNewValue p.bits o v × (w ≡ change_line k p.bits v)) z left → StopsBefore (IsChangeAmong nets before k (k + 1)) z left
change_among nets before o k p z left at same s = before_like (λ w. (v : ℕ) × IsNewValue p.bits o v × (w ≡ change_line k p.bits v)) (IsChangeAmong nets before k (k + 1)) z left
    (λ w c. record { place = k; net = p; value = c.0; from = omega arith; to = omega arith; at = at; new_value = subst (λ (b : Option ℕ). IsNewValue p.bits b c.0) same c.1; is = c.2 })
    (λ w c. out w c) s
  where
    out : (w : Bytes) → IsChangeAmong nets before k (k + 1) w → (v : ℕ) × IsNewValue p.bits o v × (w ≡ change_line k p.bits v)
    out w c =
        let here : c.place ≡ k = omega (arith, c.from, c.to) in
        let net : c.net ≡ p = the_same c.net p (sym (subst (λ (i : ℕ). slice_get nets i ≡ Some c.net) here c.at) ∙ at) in (
          c.value,
          subst (λ (b : Option ℕ). IsNewValue p.bits b c.value) (sym same) (subst (λ (i : ℕ). IsNewValue p.bits (before i) c.value) here (subst (λ (q : Port). IsNewValue q.bits (before c.place) c.value) net c.new_value)),
          c.is ∙ ap (λ (i : ℕ). change_line i c.net.bits c.value) here ∙ ap (λ (q : Port). change_line k q.bits c.value) net,
        )

pub no_net_yet : (nets : List Port) (before : ℕ → Option ℕ) (next k : ℕ) (z : Bytes) (left : ℕ) → StopsBefore (λ w. w ≡ cycle_line next) z left → StopsBefore (IsLineTo nets before next k k) z left
no_net_yet nets before next k z left s = before_like (λ w. w ≡ cycle_line next) (IsLineTo nets before next k k) z left (λ w e. inl e) (λ w l. elim l [ inl e ↦ e | inr c ↦ absurd (omega (arith, c.from, c.to)) ]) s

pub one_net_more : (nets : List Port) (before : ℕ → Option ℕ) (next k j : ℕ) (z : Bytes) (l r : ℕ) → k ≤ j → StopsBefore (IsLineTo nets before next k j) z l → StopsBefore (IsChangeAmong nets before j (j + 1)) z r → StopsBefore (IsLineTo nets before next k (j + 1)) z (min l r)
one_net_more nets before next k j z l r h s t = before_either (IsLineTo nets before next k j) (IsChangeAmong nets before j (j + 1)) (IsLineTo nets before next k (j + 1)) z l r
    (λ w u. elim u [ inl e ↦ inl e | inr c ↦ inr (among c c.from (omega (arith, c.to))) ]) (λ w c. inr (among c (omega (arith, c.from)) c.to))
    (λ w u. elim u [
      | inl e ↦ inl (inl e)
      | inr c ↦ elim (less c.place j) [ inl t ↦ inl (inr (among c c.from t.1)) | inr f ↦ inr (among c f.1 c.to) ]
    ]) s t

pub all_nets : (nets : List Port) (before : ℕ → Option ℕ) (next k j : ℕ) (z : Bytes) (left : ℕ) → length nets ≤ j → StopsBefore (IsLineTo nets before next k j) z left → StopsBefore (IsLineTo nets before next k (length nets)) z left
all_nets nets before next k j z left h s = before_like (IsLineTo nets before next k j) (IsLineTo nets before next k (length nets)) z left
    (λ w u. elim u [ inl e ↦ inl e | inr c ↦ inr (among c c.from (slice_get_within nets c.place c.net c.at)) ]) (λ w u. elim u [ inl e ↦ inl e | inr c ↦ inr (among c c.from (omega (arith, h, c.to))) ]) s
