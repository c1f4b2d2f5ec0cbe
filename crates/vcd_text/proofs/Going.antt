-- How a dump goes on behind changes of a cycle: what may come, and what comes behind each line.
use Rattle.std.proofs.Common.{◌≡◌, ◌≢◌, ◌⊎◌, ℕ, zero, suc, ◌+◌, ◌^◌, ◌<◌, ◌≤◌, true, false, cond, List, [], ◌∷◌, ◌++◌, length, map, drop, inl, inr, refl, sym, ap, subst, ◌∙◌, append_assoc, arith, nat_eq, eq-eqb, ne_eqb}
use Rattle.std.specs.Prelude.{Option, Some, None, not, slice_get}
use Rattle.std.specs.Option.{unwrap_or}
use Rattle.std.proofs.lemmas.Bool.Decides.{eqb_tells}
use Rattle.std.proofs.lemmas.List.{append-nil, drop_all}
use Rattle.std.proofs.lemmas.Option.{same_Some}
use Rattle.tapa_base.specs.Gaps.{Bytes}
use Rattle.vcd_text.specs.Nets.{Net}
use Rattle.vcd_text.specs.Dump.{Values, AreValues, lines_from, change_line, cycle_line}
use Rattle.vcd_text.specs.Read.{port_of}
use Rattle.vcd_text.specs.Lines.{is_new, IsNewValue}
use Rattle.vcd_text.specs.Rest.{Answer, Row, Known, known, row_line, change_of, row_changes, rest_of, later_text, later_changes, Left}
use Rattle.vcd_text.specs.declared.dump.Change.{Change}
use Rattle.vcd_text.proofs.Common.{cond_yes, cond_no, not_both}
use Rattle.tapa_base.proofs.Tests.{bool_cases as yes_or_no}

-- ---- rows that are alike

new_same : (o : Option ℕ) (v : ℕ) → is_new o v ≡ false → o ≡ Some v
new_same None v e = absurd (not_both true refl e)
new_same (Some u) v e = elim (eqb_tells v u) [ inl t ↦ ap (λ (x : ℕ). Some x) (sym t.1) | inr t ↦ absurd (not_both true refl (ap not (sym t.0) ∙ e)) ]

old_value : (v : ℕ) → is_new (Some v) v ≡ false
old_value v = ap not (eq-eqb v v refl)

-- values are known alike up to the last net
until : (p r : Known) (q : Row) (n k : ℕ) (xs : List Net) → ((i : ℕ) → k ≤ i → i < k + length xs → p i ≡ r i)
    → (lines_from (row_line p q) k xs ≡ lines_from (row_line r q) k xs) × (row_changes p q n k xs ≡ row_changes r q n k xs)
until p r q n k [] h = (refl, refl)
until p r q n k (x ∷ xs) h =
    let e : p k ≡ r k = h k (omega arith) (omega arith) in
    let more = until p r q n (suc k) xs (λ i g f. h i (omega arith) (omega arith)) in (
      ap (λ (o : Option ℕ). cond (is_new o (q k)) (change_line k x.bits (q k)) [] ++ lines_from (row_line p q) (suc k) xs) e ∙ ap (λ (l : Bytes). cond (is_new (r k) (q k)) (change_line k x.bits (q k)) [] ++ l) more.0,
      ap (λ (o : Option ℕ). cond (is_new o (q k)) (change_of n k (q k) ∷ []) [] ++ row_changes p q n (suc k) xs) e ∙ ap (λ (l : List Change). cond (is_new (r k) (q k)) (change_of n k (q k) ∷ []) [] ++ l) more.1,
    )

-- ---- one net's turn

abbrev pub put : Known → ℕ → ℕ → Known
put p k v i = cond (nat_eq i k) (Some v) (p i)

pub put_here : (p : Known) (k v : ℕ) → put p k v k ≡ Some v
put_here p k v = cond_yes (nat_eq k k) (Some v) (p k) (eq-eqb k k refl)

pub put_there : (p : Known) (k v i : ℕ) → i ≢ k → put p k v i ≡ p i
put_there p k v i ne = cond_no (nat_eq i k) (Some v) (p i) (ne_eqb i k ne)

drop_net : (nets : List Net) (k : ℕ) (x : Net) → slice_get nets k ≡ Some x → drop k nets ≡ x ∷ drop (suc k) nets
drop_net [] k x e = cc
drop_net (y ∷ nets) zero x e = ap (λ (z : Net). z ∷ nets) (same_Some y x e)
drop_net (y ∷ nets) (suc k) x e = drop_net nets k x e

-- what is left of other turns, or behind another text
moved : {nets : List Net} {n i k : ℕ} {p r : Known} {before done : List Change} {a : Answer} {y z : Bytes} (l : Left nets n i p before a y) → ((j : ℕ) → j < k → r j ≡ Some (l.rows 0 j))
    → z ≡ lines_from (row_line r (l.rows 0)) k (drop k nets) ++ later_text nets n l.rows l.more → a.changes ≡ done ++ (row_changes r (l.rows 0) n k (drop k nets) ++ later_changes nets n l.rows l.more)
    → Left nets n k r done a z
moved l seen is changes = record { rows = l.rows; more = l.more; are_rows = l.are_rows; seen = seen; is = is; ports = l.ports; last = l.last; changes = changes }

-- the texts that are left where a net's value is written
pub record Turns (nets : List Net) (n k : ℕ) (p : Known) (done : List Change) (x : Net) (a : Answer) (z : Bytes) : Type 0 where
  pub value : ℕ
  pub behind : Bytes
  pub new_value : IsNewValue x.bits (p k) value
  pub is : z ≡ change_line k x.bits value ++ behind
  pub left : Left nets n (suc k) (put p k value) (done ++ change_of n k value ∷ []) a behind

module _ (nets : List Net) (n k : ℕ) (p : Known) (done : List Change) (x : Net) (at : slice_get nets k ≡ Some x) (a : Answer) (z : Bytes) where
  lines_at : (r : Known) (q : Row) (b : Bytes) → cond (is_new (r k) (q k)) (change_line k x.bits (q k)) [] ≡ b → lines_from (row_line r q) k (drop k nets) ≡ b ++ lines_from (row_line r q) (suc k) (drop (suc k) nets)
  lines_at r q b e = ap (λ (l : List Net). lines_from (row_line r q) k l) (drop_net nets k x at) ∙ ap (λ (y : Bytes). y ++ lines_from (row_line r q) (suc k) (drop (suc k) nets)) e

  changes_at : (r : Known) (q : Row) (b : List Change) → cond (is_new (r k) (q k)) (change_of n k (q k) ∷ []) [] ≡ b → row_changes r q n k (drop k nets) ≡ b ++ row_changes r q n (suc k) (drop (suc k) nets)
  changes_at r q b e = ap (λ (l : List Net). row_changes r q n k l) (drop_net nets k x at) ∙ ap (λ (y : List Change). y ++ row_changes r q n (suc k) (drop (suc k) nets)) e

  -- a net keeps its value, or its change comes
  pub turn : Left nets n k p done a z → Left nets n (suc k) p done a z ⊎ Turns nets n k p done x a z
  turn l = elim (yes_or_no (is_new (p k) (l.rows 0 k))) [
    | inr old ↦ inl (moved l
        (λ i h. elim (eqb_tells i k) [ inl t ↦ subst (λ (j : ℕ). p j ≡ Some (l.rows 0 j)) (sym t.1) (new_same (p k) (l.rows 0 k) old) | inr t ↦ l.seen i (omega (arith, t.1)) ])
        (l.is ∙ ap (λ (y : Bytes). y ++ later_text nets n l.rows l.more) (lines_at p (l.rows 0) [] (cond_no _ (change_line k x.bits (l.rows 0 k)) [] old)))
        (l.changes ∙ ap (λ (y : List Change). done ++ (y ++ later_changes nets n l.rows l.more)) (changes_at p (l.rows 0) [] (cond_no _ (change_of n k (l.rows 0 k) ∷ []) [] old))))
    | inl new ↦
        let alike = until p (put p k (l.rows 0 k)) (l.rows 0) n (suc k) (drop (suc k) nets) (λ i h f. sym (put_there p k (l.rows 0 k) i (λ e. absurd (omega (arith, e))))) in
        inr (record {
          value = l.rows 0 k;
          behind = lines_from (row_line (put p k (l.rows 0 k)) (l.rows 0)) (suc k) (drop (suc k) nets) ++ later_text nets n l.rows l.more;
          new_value = (l.are_rows 0 k x (omega arith) at, new);
          is = l.is
              ∙ ap (λ (y : Bytes). y ++ later_text nets n l.rows l.more) (lines_at p (l.rows 0) _ (cond_yes _ (change_line k x.bits (l.rows 0 k)) [] new))
              ∙ ap (λ (y : Bytes). (change_line k x.bits (l.rows 0 k) ++ y) ++ later_text nets n l.rows l.more) alike.0
              ∙ append_assoc (change_line k x.bits (l.rows 0 k)) (lines_from (row_line (put p k (l.rows 0 k)) (l.rows 0)) (suc k) (drop (suc k) nets)) (later_text nets n l.rows l.more);
          left = moved l
              (λ i h. elim (eqb_tells i k) [ inl t ↦ subst (λ (j : ℕ). put p k (l.rows 0 k) j ≡ Some (l.rows 0 j)) (sym t.1) (put_here p k (l.rows 0 k)) | inr t ↦ put_there p k (l.rows 0 k) i t.1 ∙ l.seen i (omega (arith, t.1)) ])
              refl
              (l.changes
              ∙ ap (λ (y : List Change). done ++ (y ++ later_changes nets n l.rows l.more)) (changes_at p (l.rows 0) _ (cond_yes _ (change_of n k (l.rows 0 k) ∷ []) [] new))
              ∙ ap (λ (y : List Change). done ++ ((change_of n k (l.rows 0 k) ∷ y) ++ later_changes nets n l.rows l.more)) alike.1
              ∙ sym (append_assoc done (change_of n k (l.rows 0 k) ∷ []) (row_changes (put p k (l.rows 0 k)) (l.rows 0) n (suc k) (drop (suc k) nets) ++ later_changes nets n l.rows l.more)));
        })
  ]

  -- a net that keeps its value
  pub keep : (c : ℕ) → p k ≡ Some c → Left nets n (suc k) p done a z → Left nets n k p done a z
  keep c e l =
      let same : p k ≡ Some (l.rows 0 k) = l.seen k (omega arith) in
      let old : is_new (p k) (l.rows 0 k) ≡ false = ap (λ (o : Option ℕ). is_new o (l.rows 0 k)) same ∙ old_value (l.rows 0 k) in
      moved l (λ i h. l.seen i (omega arith))
      (l.is ∙ ap (λ (y : Bytes). y ++ later_text nets n l.rows l.more) (sym (lines_at p (l.rows 0) [] (cond_no _ (change_line k x.bits (l.rows 0 k)) [] old))))
      (l.changes ∙ ap (λ (y : List Change). done ++ (y ++ later_changes nets n l.rows l.more)) (sym (changes_at p (l.rows 0) [] (cond_no _ (change_of n k (l.rows 0 k) ∷ []) [] old))))

  -- a net whose change comes
  pub change : Turns nets n k p done x a z → Left nets n k p done a z
  change t =
      let l : Left nets n (suc k) (put p k t.value) (done ++ change_of n k t.value ∷ []) a t.behind = t.left in
      let same : t.value ≡ l.rows 0 k = cc (put_here p k t.value, l.seen k (omega arith)) in
      let new : is_new (p k) (l.rows 0 k) ≡ true = subst (λ (v : ℕ). is_new (p k) v ≡ true) same t.new_value.1 in
      let alike = until (put p k t.value) p (l.rows 0) n (suc k) (drop (suc k) nets) (λ i h f. put_there p k t.value i (λ e. absurd (omega (arith, e)))) in
      moved l (λ i h. sym (put_there p k t.value i (λ e. absurd (omega (arith, e)))) ∙ l.seen i (omega arith))
      (t.is
      ∙ ap (λ (v : ℕ). change_line k x.bits v ++ t.behind) same
      ∙ ap (λ (y : Bytes). change_line k x.bits (l.rows 0 k) ++ y) (l.is ∙ ap (λ (y : Bytes). y ++ later_text nets n l.rows l.more) alike.0)
      ∙ sym (append_assoc (change_line k x.bits (l.rows 0 k)) (lines_from (row_line p (l.rows 0)) (suc k) (drop (suc k) nets)) (later_text nets n l.rows l.more))
      ∙ ap (λ (y : Bytes). y ++ later_text nets n l.rows l.more) (sym (lines_at p (l.rows 0) _ (cond_yes _ (change_line k x.bits (l.rows 0 k)) [] new))))
      (l.changes
      ∙ append_assoc done (change_of n k t.value ∷ []) (row_changes (put p k t.value) (l.rows 0) n (suc k) (drop (suc k) nets) ++ later_changes nets n l.rows l.more)
      ∙ ap (λ (v : ℕ). done ++ (change_of n k v ∷ (row_changes (put p k t.value) (l.rows 0) n (suc k) (drop (suc k) nets) ++ later_changes nets n l.rows l.more))) same
      ∙ ap (λ (y : List Change). done ++ (change_of n k (l.rows 0 k) ∷ (y ++ later_changes nets n l.rows l.more))) alike.1
      ∙ ap (λ (y : List Change). done ++ (y ++ later_changes nets n l.rows l.more)) (sym (changes_at p (l.rows 0) _ (cond_yes _ (change_of n k (l.rows 0 k) ∷ []) [] new))))

-- ---- the next cycle

-- a cycle's line comes
pub record Cycles (nets : List Net) (n : ℕ) (p : Known) (done : List Change) (a : Answer) (z : Bytes) : Type 0 where
  pub behind : Bytes
  pub is : z ≡ cycle_line (n + 1) ++ behind
  pub left : Left nets (n + 1) 0 p done a behind

-- the text ends
pub record Ends (nets : List Net) (n : ℕ) (done : List Change) (a : Answer) (z : Bytes) : Type 0 where
  pub is : z ≡ []
  pub ports : a.ports ≡ map port_of nets
  pub last : a.last ≡ n
  pub changes : a.changes ≡ done

module _ (nets : List Net) (n k : ℕ) (past : length nets ≤ k) (p : Known) (done : List Change) (a : Answer) (z : Bytes) where
  no_nets : drop k nets ≡ []
  no_nets = drop_all k nets past

  pub cycle : Left nets n k p done a z → Cycles nets n p done a z ⊎ Ends nets n done a z
  cycle l = by_more l.more l.are_rows
      (l.is ∙ ap (λ (y : List Net). lines_from (row_line p (l.rows 0)) k y ++ later_text nets n l.rows l.more) no_nets) l.last
      (l.changes ∙ ap (λ (y : List Net). done ++ (row_changes p (l.rows 0) n k y ++ later_changes nets n l.rows l.more)) no_nets)
    where
      by_more : (d : ℕ) → AreValues nets l.rows d → z ≡ later_text nets n l.rows d → a.last ≡ n + d → a.changes ≡ done ++ later_changes nets n l.rows d → Cycles nets n p done a z ⊎ Ends nets n done a z
      by_more zero rows is last changes = inr (record { is = is; ports = l.ports; last = last ∙ omega arith; changes = changes ∙ append-nil done })
      by_more (suc d) rows is last changes =
          let alike = until (known (l.rows 0)) p (l.rows 1) (n + 1) 0 nets (λ i g f. sym (l.seen i (omega arith))) in
          inl (record {
            behind = lines_from (row_line p (l.rows 1)) 0 nets ++ later_text nets (n + 1) (rest_of l.rows) d;
            is = is ∙ ap (λ (y : Bytes). (cycle_line (n + 1) ++ y) ++ later_text nets (n + 1) (rest_of l.rows) d) alike.0
                ∙ append_assoc (cycle_line (n + 1)) (lines_from (row_line p (l.rows 1)) 0 nets) (later_text nets (n + 1) (rest_of l.rows) d);
            left = record {
              rows = rest_of l.rows;
              more = d;
              are_rows = λ m i net h at. rows (suc m) i net (omega arith) at;
              seen = λ i h. absurd (omega arith);
              is = refl;
              ports = l.ports;
              last = last ∙ omega arith;
              changes = changes ∙ ap (λ (y : List Change). done ++ (y ++ later_changes nets (n + 1) (rest_of l.rows) d)) alike.1;
            };
          })

  had : ((i : ℕ) → i < k → (v : ℕ) × (p i ≡ Some v)) → (i : ℕ) → i < k → p i ≡ Some (unwrap_or (p i) 0)
  had seen i h = let v = seen i h in v.1 ∙ ap (λ (o : Option ℕ). Some (unwrap_or o 0)) (sym v.1)

  -- values of all nets are known, each of its net's bits
  abbrev pub AreKnown : Type 0
  AreKnown = (i : ℕ) (net : Net) → slice_get nets i ≡ Some net → (v : ℕ) × (p i ≡ Some v) × (v < 2 ^ net.bits)

  fitting : AreKnown → (i : ℕ) (net : Net) → slice_get nets i ≡ Some net → unwrap_or (p i) 0 < 2 ^ net.bits
  fitting values i net at = let v = values i net at in subst (λ (o : Option ℕ). unwrap_or o 0 < 2 ^ net.bits) (sym v.1) v.2

  pub ended : AreKnown → ((i : ℕ) → i < k → (v : ℕ) × (p i ≡ Some v)) → Ends nets n done a z → Left nets n k p done a z
  ended values seen e = record {
    rows = λ m i. unwrap_or (p i) 0;
    more = 0;
    are_rows = λ m i net h at. fitting values i net at;
    seen = had seen;
    is = e.is ∙ ap (λ (y : List Net). lines_from (row_line p (λ i. unwrap_or (p i) 0)) k y ++ []) (sym no_nets);
    ports = e.ports;
    last = e.last ∙ omega arith;
    changes = e.changes ∙ sym (append-nil done) ∙ ap (λ (y : List Net). done ++ (row_changes p (λ i. unwrap_or (p i) 0) n k y ++ [])) (sym no_nets);
  }

  abbrev first_row : Values → Values
  first_row u zero = λ i. unwrap_or (p i) 0
  first_row u (suc m) = u m

  pub cycled : AreKnown → ((i : ℕ) → i < k → (v : ℕ) × (p i ≡ Some v)) → Cycles nets n p done a z → Left nets n k p done a z
  cycled values seen c =
      let l : Left nets (n + 1) 0 p done a c.behind = c.left in
      let alike = until p (λ i. Some (unwrap_or (p i) 0)) (l.rows 0) (n + 1) 0 nets (λ i g f. had seen i (omega arith)) in
      record {
        rows = first_row l.rows;
        more = suc l.more;
        are_rows = rows_are l;
        seen = had seen;
        is = c.is ∙ ap (λ (y : Bytes). cycle_line (n + 1) ++ y) (l.is ∙ ap (λ (y : Bytes). y ++ later_text nets (n + 1) l.rows l.more) alike.0)
            ∙ sym (append_assoc (cycle_line (n + 1)) (lines_from (row_line (λ i. Some (unwrap_or (p i) 0)) (l.rows 0)) 0 nets) (later_text nets (n + 1) l.rows l.more))
            ∙ ap (λ (y : List Net). lines_from (row_line p (λ i. unwrap_or (p i) 0)) k y ++ later_text nets n (first_row l.rows) (suc l.more)) (sym no_nets);
        ports = l.ports;
        last = l.last ∙ omega arith;
        changes = l.changes ∙ ap (λ (y : List Change). done ++ (y ++ later_changes nets (n + 1) l.rows l.more)) alike.1
            ∙ ap (λ (y : List Net). done ++ (row_changes p (λ i. unwrap_or (p i) 0) n k y ++ later_changes nets n (first_row l.rows) (suc l.more))) (sym no_nets);
      }
    where
      rows_are : (l : Left nets (n + 1) 0 p done a c.behind) → AreValues nets (first_row l.rows) (suc l.more)
      rows_are l zero i net h at = fitting values i net at
      rows_are l (suc m) i net h at = l.are_rows m i net (omega arith) at
