-- What holds in each run at a moment, from what a call says of it.
use Rattle.std.proofs.Common.{◌≡◌, ℕ, suc, ◌<◌, ◌≤◌, Bool, true, false, cond, ◌&&◌, List, [], ◌++◌, Option, Some, None, length, take, refl, sym, ap, subst, ◌∙◌, arith}
use Rattle.std.specs.Prelude.{◌==◌}
use Rattle.std.specs.Option.{option_to_list, IfSome}
use Rattle.std.proofs.lemmas.List.{take_all}
use Rattle.std.proofs.lemmas.Bool.Decides.{nat_tests}
use Rattle.vlog_tree.specs.Grounded.{AllTwo}
use Rattle.vlog_tree.specs.Table.{Name}
use Rattle.vlog_tree.specs.Labels.{s_din, s_wr, s_rdy, done, m_ack, m_we, m_addr, m_wdata}
use Rattle.vlog_tree.specs.Environment.{carried, set_cell, RaisesDone}
use Rattle.vlog_values.specs.declared.moment.Circuit.{Circuit}
use Rattle.vlog_values.specs.declared.moment.Moment.{Moment}
use Rattle.vlog_ref_cycle.specs.Moments.{InEachRun}
use Rattle.vlog_ref_cycle.specs.Next.{stored_cells}
use Rattle.vlog_ref_cycle.proofs.Carried.{carries_one, carries_none}
use Rattle.std.proofs.lemmas.Bool.{and_right as and_false}

not_one : (n : ℕ) → (n ≡ 1 → ⊥) → (n == 1) ≡ false
not_one n h = grind (arith, nat_tests)

is_one : (n : ℕ) → (n == 1) ≡ true → n ≡ 1
is_one n h = grind (arith, nat_tests)

one_is : (n : ℕ) → n ≡ 1 → (n == 1) ≡ true
one_is n h = grind (arith, nat_tests)

pub first_not : (a b : ℕ) → (a ≡ 1 → ⊥) → ((a == 1) && (b == 1)) ≡ false
first_not a b h = ap (λ q. q && (b == 1)) (not_one a h)

pub second_not : (a b : ℕ) → (b ≡ 1 → ⊥) → ((a == 1) && (b == 1)) ≡ false
second_not a b h = and_false (a == 1) (b == 1) (not_one b h)

pub all_taken : {A B : Type 0} (R : A → B → Type 0) (xs : List A) (ys : List B) (i : ℕ) → length xs ≤ i → AllTwo R (take i xs) ys → AllTwo R xs ys
all_taken R xs ys i h a = subst (λ l. AllTwo R l ys) (taken xs i h) a where
  taken : {A : Type 0} (xs : List A) (i : ℕ) → length xs ≤ i → take i xs ≡ xs
  taken xs i h = search (arith, take_all)

module _ (c : Circuit) (now : Moment) where
  -- a net of the top has this number
  abbrev pub HasNumber : Name → ℕ → Type 0
  HasNumber x v = InEachRun c now (λ env nets. (nets now.cycle []).net x ≡ v)

  pub named_number : (o : Option ℕ) (v : ℕ) (name x : Name) → o ≡ Some v → name ≡ x → IfSome o (HasNumber name) → HasNumber x v
  named_number o v name x is same h = subst (λ z. HasNumber z v) same (subst (λ q. IfSome q (HasNumber name)) is h)

  abbrev pub Carries : Name → Option ℕ → Type 0
  Carries x t = InEachRun c now (λ env nets. (k : ℕ) → now.cycle ≡ suc k → carried (λ n. nets n []) x (suc k) ≡ carried (λ n. nets n []) x k ++ option_to_list t)

  module _ (x : Name) (wr rdy din : ℕ) (has_wr : HasNumber (s_wr x) wr) (has_rdy : HasNumber (s_rdy x) rdy) (has_din : HasNumber (s_din x) din) where
    pub carries_din : wr ≡ 1 → rdy ≡ 1 → Carries x (Some din)
    carries_din a b = λ env nets q k is.
        carries_one (λ n. nets n []) x k wr rdy din
        (subst (λ n. (nets n []).net (s_wr x) ≡ wr) is (has_wr env nets q)) (subst (λ n. (nets n []).net (s_rdy x) ≡ rdy) is (has_rdy env nets q)) (subst (λ n. (nets n []).net (s_din x) ≡ din) is (has_din env nets q)) a b

    pub carries_nothing : ((wr == 1) && (rdy == 1)) ≡ false → Carries x None
    carries_nothing e = λ env nets q k is.
        carries_none (λ n. nets n []) x k wr rdy din
        (subst (λ n. (nets n []).net (s_wr x) ≡ wr) is (has_wr env nets q)) (subst (λ n. (nets n []).net (s_rdy x) ≡ rdy) is (has_rdy env nets q)) (subst (λ n. (nets n []).net (s_din x) ≡ din) is (has_din env nets q)) e

  pub carries_at_reset : (x : Name) → now.cycle ≤ 0 → Carries x None
  carries_at_reset x low = λ env nets q k is. absurd (omega arith)

  module _ (x : Name) (ack we addr wdata : ℕ) (has_ack : HasNumber (m_ack x) ack) (has_we : HasNumber (m_we x) we) (has_addr : HasNumber (m_addr x) addr) (has_wdata : HasNumber (m_wdata x) wdata) (old : List ℕ) where
    stored_by : (a a' w w' p p' d d' : ℕ) → a ≡ a' → w ≡ w' → p ≡ p' → d ≡ d' → cond ((a == 1) && (w == 1)) (set_cell old p d) old ≡ cond ((a' == 1) && (w' == 1)) (set_cell old p' d') old
    stored_by a a' w w' p p' d d' e f g h = rw (e, f, g, h) refl

    pub stores : (cells : List ℕ) → cells ≡ cond ((ack == 1) && (we == 1)) (set_cell old addr wdata) old → InEachRun c now (λ env nets. cells ≡ stored_cells (nets now.cycle []) x old)
    stores cells e = λ env nets q.
        let r = nets now.cycle [] in
        e ∙ stored_by ack (r.net (m_ack x)) we (r.net (m_we x)) addr (r.net (m_addr x)) wdata (r.net (m_wdata x)) (sym (has_ack env nets q)) (sym (has_we env nets q)) (sym (has_addr env nets q)) (sym (has_wdata env nets q))

  pub done_is : (n : ℕ) → 0 < now.cycle → HasNumber done n → InEachRun c now (λ env nets. ((n == 1) ≡ true → RaisesDone (λ k. nets k []) now.cycle) × (RaisesDone (λ k. nets k []) now.cycle → (n == 1) ≡ true))
  done_is n low h = λ env nets q. (λ e. (omega arith, h env nets q ∙ is_one n e), λ d. one_is n (sym (h env nets q) ∙ d.1))
