-- Lines behind changes of a cycle, and what is left of a dump behind each.
use Rattle.vcd_text.proofs.Lines.{among}
use Rattle.tapa_base.proofs.Got.{some_at as net_at, the_same}
use Rattle.std.proofs.Common.{◌≡◌, ◌≢◌, ◌⊎◌, ℕ, zero, suc, ◌+◌, ◌-◌, ◌^◌, ◌<◌, ◌≤◌, List, [], ◌∷◌, ◌++◌, length, map, inl, inr, refl, sym, ap, subst, ◌∙◌, arith}
use Rattle.std.specs.Prelude.{Option, Some, slice_get, option_map}
use Rattle.std.proofs.lemmas.List.{append_cancel_left, length-append}
use Rattle.std.proofs.lemmas.Option.{none-some, slice_get-map, slice_get_within}
use Rattle.tapa_base.specs.declared.shape.Port.{Port}
use Rattle.tapa_base.specs.Gaps.{Bytes}
use Rattle.vcd_text.specs.Nets.{Net}
use Rattle.vcd_text.specs.Along.{StopsBefore}
use Rattle.vcd_text.specs.Dump.{identifier, value_text, change_line, cycle_line}
use Rattle.vcd_text.specs.Read.{port_of}
use Rattle.vcd_text.specs.Lines.{IsNewValue, IsLineTo}
use Rattle.vcd_text.specs.Rest.{Answer, FailsBefore, Known, change_of, Left}
use Rattle.vcd_text.specs.declared.dump.Change.{Change}
use Rattle.std.proofs.lemmas.Bool.Decides.{eqb_tells}
use Rattle.vcd_text.proofs.Values.{lines_one, line_begins, value_same}
use Rattle.vcd_text.proofs.Reading.{Steps, fails_lines}
use Rattle.vcd_text.proofs.Going.{put, put_here, put_there, turn, keep, change, Turns, Ends, cycle, ended, cycled}

-- values of these nets are known, each of its bits
abbrev pub AreKnown : List Net → ℕ → Known → Type 0
AreKnown nets k p = (i : ℕ) (x : Net) → i < k → slice_get nets i ≡ Some x → (v : ℕ) × (p i ≡ Some v) × (v < 2 ^ x.bits)

-- ---- nets that keep their values

module _ (nets : List Net) (n : ℕ) (p : Known) (done : List Change) (a : Answer) where
  -- none of the next nets changes
  pub skip : (gap k : ℕ) (z : Bytes) → k + gap ≤ length nets → ((i : ℕ) (x : Net) → k ≤ i → i < k + gap → slice_get nets i ≡ Some x → Turns nets n i p done x a z → ⊥) → Left nets n k p done a z → Left nets n (k + gap) p done a z
  skip zero k z h never l = subst (λ (j : ℕ). Left nets n j p done a z) (omega arith) l
  skip (suc gap) k z h never l =
      let x : (x : Net) × (slice_get nets k ≡ Some x) = net_at nets k (omega arith) in
      subst (λ (j : ℕ). Left nets n j p done a z) (omega arith) (skip gap (suc k) z (omega arith) (λ i y g f at t. never i y (omega arith) (omega arith) at t)
      (elim (turn nets n k p done x.0 x.1 a z l) [ inl s ↦ s | inr t ↦ absurd (never k x.0 (omega arith) (omega arith) x.1 t) ]))

  pub back : (gap k : ℕ) (z : Bytes) → k + gap ≤ length nets → AreKnown nets (k + gap) p → Left nets n (k + gap) p done a z → Left nets n k p done a z
  back zero k z h values l = subst (λ (j : ℕ). Left nets n j p done a z) (omega arith) l
  back (suc gap) k z h values l =
      let x : (x : Net) × (slice_get nets k ≡ Some x) = net_at nets k (omega arith) in
      let v : (v : ℕ) × (p k ≡ Some v) × (v < 2 ^ x.0.bits) = values k x.0 (omega arith) x.1 in
      keep nets n k p done x.0 x.1 a z v.0 v.1 (back gap (suc k) z (omega arith) (λ i y g at. values i y (omega arith) at) (subst (λ (j : ℕ). Left nets n j p done a z) (omega arith) l))

-- ---- behind a line

some_line : (j bits v : ℕ) (z : Bytes) → change_line j bits v ++ z ≡ [] → ⊥
some_line j bits v z e = absurd (omega (arith, ap (λ (l : Bytes). length l) e, length-append (change_line j bits v) z, length-append (value_text bits v) (identifier j ++ 10 ∷ []), length-append (identifier j) (10 ∷ [])))

-- behind the change of a net that has its turn
pub change_steps : (nets : List Net) (n k j : ℕ) (p : Known) (done : List Change) (x : Net) (v : ℕ) → k ≤ j → slice_get nets j ≡ Some x → AreKnown nets j p → IsNewValue x.bits (p j) v
    → Steps (Left nets n k p done) (change_line j x.bits v) (Left nets n (suc j) (put p j v) (done ++ change_of n j v ∷ []))
change_steps nets n k j p done x v h at values new a z = (to, from)
  where
    within : j < length nets
    within = slice_get_within nets j x at

    here : k + (j - k) ≡ j
    here = omega arith

    to : Left nets n k p done a (change_line j x.bits v ++ z) → Left nets n (suc j) (put p j v) (done ++ change_of n j v ∷ []) a z
    to l =
        let there : Left nets n (k + (j - k)) p done a (change_line j x.bits v ++ z) = skip nets n p done a (j - k) k (change_line j x.bits v ++ z) (omega (arith, within, h))
        (λ i y g f at_i t. absurd (omega (arith, f, h, (lines_one j i x.bits y.bits v t.value z t.behind new.0 t.new_value.0 t.is).0))) l in
        elim (turn nets n j p done x at a (change_line j x.bits v ++ z) (subst (λ (i : ℕ). Left nets n i p done a (change_line j x.bits v ++ z)) here there)) [
          | inl s ↦ absurd (elsewhere s)
          | inr t ↦ same_turn t
        ]
      where
        elsewhere : Left nets n (suc j) p done a (change_line j x.bits v ++ z) → ⊥
        elsewhere s =
            let end : Left nets n (suc j + (length nets - suc j)) p done a (change_line j x.bits v ++ z) = skip nets n p done a (length nets - suc j) (suc j) (change_line j x.bits v ++ z) (omega (arith, within))
            (λ i y g f at_i t. absurd (omega (arith, g, (lines_one j i x.bits y.bits v t.value z t.behind new.0 t.new_value.0 t.is).0))) s in
            elim (cycle nets n (suc j + (length nets - suc j)) (omega (arith, within)) p done a (change_line j x.bits v ++ z) end) [
              | inl c ↦ line_begins j x.bits v z _ c.is
              | inr e ↦ some_line j x.bits v z e.is
            ]

        same_turn : Turns nets n j p done x a (change_line j x.bits v ++ z) → Left nets n (suc j) (put p j v) (done ++ change_of n j v ∷ []) a z
        same_turn t =
            let s : (j ≡ j) × (value_text x.bits v ≡ value_text x.bits t.value) × (z ≡ t.behind) = lines_one j j x.bits x.bits v t.value z t.behind new.0 t.new_value.0 t.is in
            let e : v ≡ t.value = value_same x.bits v t.value s.1 in
            subst (λ (y : Bytes). Left nets n (suc j) (put p j v) (done ++ change_of n j v ∷ []) a y) (sym s.2) (subst (λ (u : ℕ). Left nets n (suc j) (put p j u) (done ++ change_of n j u ∷ []) a t.behind) (sym e) t.left)

    from : Left nets n (suc j) (put p j v) (done ++ change_of n j v ∷ []) a z → Left nets n k p done a (change_line j x.bits v ++ z)
    from l = back nets n p done a (j - k) k (change_line j x.bits v ++ z) (omega (arith, within, h)) (λ i y g at_i. values i y (omega (arith, g, h)) at_i)
        (subst (λ (i : ℕ). Left nets n i p done a (change_line j x.bits v ++ z)) (sym here) (change nets n j p done x at a (change_line j x.bits v ++ z) (record { value = v; behind = z; new_value = new; is = refl; left = l })))

module _ (nets : List Net) (n k : ℕ) (p : Known) (done : List Change) (h : k ≤ length nets) (values : AreKnown nets (length nets) p) where
  here : k + (length nets - k) ≡ length nets
  here = omega arith

  all_known : (i : ℕ) (x : Net) → slice_get nets i ≡ Some x → (v : ℕ) × (p i ≡ Some v) × (v < 2 ^ x.bits)
  all_known i x at = values i x (slice_get_within nets i x at) at

  seen : (i : ℕ) → i < length nets → (v : ℕ) × (p i ≡ Some v)
  seen i f = let x = net_at nets i f in let v = values i x.0 f x.1 in (v.0, v.1)

  last_left : (a : Answer) (z : Bytes) → Left nets n (length nets) p done a z → Left nets n k p done a z
  last_left a z l = back nets n p done a (length nets - k) k z (omega arith) (λ i y g at_i. values i y (omega (arith, g, here)) at_i) (subst (λ (i : ℕ). Left nets n i p done a z) (sym here) l)

  -- behind the line of the next cycle
  pub cycle_steps : Steps (Left nets n k p done) (cycle_line (n + 1)) (Left nets (n + 1) 0 p done)
  cycle_steps a z = (to, λ l. last_left a (cycle_line (n + 1) ++ z) (cycled nets n (length nets) (omega arith) p done a (cycle_line (n + 1) ++ z) all_known seen (record { behind = z; is = refl; left = l })))
    where
      to : Left nets n k p done a (cycle_line (n + 1) ++ z) → Left nets (n + 1) 0 p done a z
      to l =
          let end : Left nets n (k + (length nets - k)) p done a (cycle_line (n + 1) ++ z) = skip nets n p done a (length nets - k) k (cycle_line (n + 1) ++ z) (omega arith)
          (λ i y g f at_i t. line_begins i y.bits t.value t.behind _ (sym t.is)) l in
          elim (cycle nets n (k + (length nets - k)) (omega (arith, here)) p done a (cycle_line (n + 1) ++ z) end) [
            | inl c ↦ subst (λ (y : Bytes). Left nets (n + 1) 0 p done a y) (sym (append_cancel_left (cycle_line (n + 1)) z c.behind c.is)) c.left
            | inr e ↦ absurd (omega (arith, ap (λ (l : Bytes). length l) e.is))
          ]

  -- a text that ends here is a dump
  pub end_left : (a : Answer) → Ends nets n done a [] → Left nets n k p done a []
  end_left a e = last_left a [] (ended nets n (length nets) (omega arith) p done a [] all_known seen e)

-- what is read where a text ends
abbrev pub end_answer : List Net → ℕ → List Change → Answer
end_answer nets n done = record { ports = map port_of nets; last = n; changes = done }

-- ---- lines of nets by their ports

pub port_at : (nets : List Net) (i : ℕ) (x : Net) → slice_get nets i ≡ Some x → slice_get (map port_of nets) i ≡ Some (port_of x)
port_at nets i x e = slice_get-map port_of nets i ∙ ap (λ (o : Option Net). option_map port_of o) e

pub net_of_port : (nets : List Net) (i : ℕ) (p : Port) → slice_get (map port_of nets) i ≡ Some p → (x : Net) × (slice_get nets i ≡ Some x) × (p ≡ port_of x)
net_of_port [] i p e = absurd (none-some p e)
net_of_port (x ∷ nets) zero p e = (x, refl, the_same p (port_of x) (sym e))
net_of_port (x ∷ nets) (suc i) p e = net_of_port nets i p e

-- texts behind some turns are none or begin with a line
pub begins : (nets : List Net) (n : ℕ) (p : Known) (done : List Change) (a : Answer) (gap k : ℕ) (z : Bytes) → k + gap ≡ length nets → Left nets n k p done a z
    → (z ≡ []) ⊎ ((w : Bytes) × (y : Bytes) × IsLineTo (map port_of nets) p (n + 1) k (length nets) w × (z ≡ w ++ y))
begins nets n p done a zero k z h l = elim (cycle nets n k (omega (arith, h)) p done a z l) [
  | inl c ↦ inr (cycle_line (n + 1), c.behind, inl refl, c.is)
  | inr e ↦ inl e.is
]
begins nets n p done a (suc gap) k z h l =
    let x : (x : Net) × (slice_get nets k ≡ Some x) = net_at nets k (omega (arith, h)) in
    elim (turn nets n k p done x.0 x.1 a z l) [
      | inl s ↦ elim (begins nets n p done a gap (suc k) z (omega (arith, h)) s) [
        | inl e ↦ inl e
        | inr (w, y, inl c, e) ↦ inr (w, y, inl c, e)
        | inr (w, y, inr c, e) ↦ inr (w, y, inr (among c (omega (arith, c.from)) c.to), e)
      ]
      | inr t ↦ inr (change_line k x.0.bits t.value, t.behind, inr (record { place = k; net = port_of x.0; value = t.value; from = omega arith; to = omega (arith, h); at = port_at nets k x.0 x.1; new_value = t.new_value; is = refl }), t.is)
    ]

put_known : (nets : List Net) (k j : ℕ) (p : Known) (x : Net) (v : ℕ) → slice_get nets j ≡ Some x → v < 2 ^ x.bits → AreKnown nets k p → AreKnown nets k (put p j v)
put_known nets k j p x v at h values i y f at_i = elim (eqb_tells i j) [
  | inl t ↦ (v, subst (λ (m : ℕ). put p j v m ≡ Some v) (sym t.1) (put_here p j v), subst (λ (m : Net). v < 2 ^ m.bits) (the_same x y (sym (subst (λ (m : ℕ). slice_get nets m ≡ Some x) (sym t.1) at) ∙ at_i)) h)
  | inr t ↦ let u : (u : ℕ) × (p i ≡ Some u) × (u < 2 ^ y.bits) = values i y f at_i in (u.0, put_there p j v i t.1 ∙ u.1, u.2)
]

-- a text that begins with no line, and has some byte
pub stops_fail : (nets : List Net) (n k : ℕ) (p : Known) (done : List Change) (z : Bytes) (left : ℕ) → k ≤ length nets → AreKnown nets (length nets) p → z ≢ [] → StopsBefore (IsLineTo (map port_of nets) p (n + 1) k (length nets)) z left
    → FailsBefore (Left nets n k p done) z left
stops_fail nets n k p done z left h values some s = fails_lines (Left nets n k p done) (IsLineTo (map port_of nets) p (n + 1) k (length nets)) z left into out s
  where
    out : (a : Answer) (y : Bytes) → Left nets n k p done a y → ((y ≡ []) × (z ≢ [])) ⊎ ((w : Bytes) × (x : Bytes) × IsLineTo (map port_of nets) p (n + 1) k (length nets) w × (y ≡ w ++ x))
    out a y l = elim (begins nets n p done a (length nets - k) k y (omega arith) l) [ inl e ↦ inl (e, some) | inr f ↦ inr f ]

    into : (w : Bytes) → IsLineTo (map port_of nets) p (n + 1) k (length nets) w → (a : Answer) × (y : Bytes) × Left nets n k p done a (w ++ y)
    into w (inl e) = (
      end_answer nets (n + 1) done,
      [],
      subst (λ (l : Bytes). Left nets n k p done (end_answer nets (n + 1) done) (l ++ [])) (sym e)
          ((cycle_steps nets n k p done h values (end_answer nets (n + 1) done) []).1 (end_left nets (n + 1) 0 p done (omega arith) values (end_answer nets (n + 1) done) (record { is = refl; ports = refl; last = refl; changes = refl }))),
    )
    into w (inr c) =
        let x : (x : Net) × (slice_get nets c.place ≡ Some x) × (c.net ≡ port_of x) = net_of_port nets c.place c.net c.at in
        let bits : c.net.bits ≡ x.0.bits = ap (λ (q : Port). q.bits) x.2 in
        let new : IsNewValue x.0.bits (p c.place) c.value = subst (λ (b : ℕ). IsNewValue b (p c.place) c.value) bits c.new_value in
        let line : w ≡ change_line c.place x.0.bits c.value = c.is ∙ ap (λ (b : ℕ). change_line c.place b c.value) bits in
        let more : List Change = done ++ change_of n c.place c.value ∷ [] in (
          end_answer nets n (done ++ change_of n c.place c.value ∷ []),
          [],
          subst (λ (l : Bytes). Left nets n k p done (end_answer nets n (done ++ change_of n c.place c.value ∷ [])) (l ++ [])) (sym line)
              ((change_steps nets n k c.place p done x.0 c.value c.from x.1 (λ i y f at_i. values i y (omega (arith, f, c.to)) at_i) new (end_answer nets n (done ++ change_of n c.place c.value ∷ [])) []).1
              (end_left nets n (suc c.place) (put p c.place c.value) (done ++ change_of n c.place c.value ∷ []) (omega (arith, c.to)) (put_known nets (length nets) c.place p x.0 c.value x.1 new.0 values) (end_answer nets n (done ++ change_of n c.place c.value ∷ [])) (record { is = refl; ports = refl; last = refl; changes = refl }))),
        )
