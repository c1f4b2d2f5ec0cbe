-- Two lists of halves after stores have the halves of what a memory has after them.
use Rattle.std.proofs.Common.{◌≡◌, ◌≢◌, ℕ, ◌+◌, ◌*◌, ◌^◌, ◌<◌, ◌≤◌, Bool, true, false, cond, ◌&&◌, List, [], ◌∷◌, length, get_or, inl, inr, refl, sym, ap, ◌∙◌, arith}
use Rattle.std.specs.Prelude.{◌⊎◌, ◌==◌, nat_lt, slice_set}
use Rattle.std.proofs.lemmas.Bool.{cases_eq, eq-eqb, ne_eqb, lt-ltb, le-ltb}
use Rattle.std.proofs.lemmas.Bool.Decides.{nat_tests}
use Rattle.std.proofs.lemmas.List.{get_or-set_other, length-set}
use Rattle.std.proofs.lemmas.Grind.{get_or-set_at}
use Rattle.tapa_base.specs.Lists.{Has}
use Rattle.vlog_tree.specs.Environment.{set_cell}
use Rattle.sim_tape.specs.declared.gates.Pair.{Pair}
use Rattle.sim_tape.specs.Tape.{number_at, pair_value}
use Rattle.sim_gates.specs.declared.writes.Store.{Store}
use Rattle.sim_gates.specs.Next.{hits, cell_after}
use Rattle.cycle_sim.specs.Steps.{put_list, stored_list, stored_all}
use Rattle.cycle_sim.proofs.Writing.{cond_here, cond_away}

-- two memories with no list in common
abbrev pub AreApart : Pair → Pair → Type 0
AreApart p q = (p.low ≢ q.low) × (p.low ≢ q.high) × (p.high ≢ q.low) × (p.high ≢ q.high)

pub set_length : (cells : List ℕ) (a v : ℕ) → length (set_cell cells a v) ≡ length cells
set_length cells a v = by_test (nat_lt a (length cells)) where
  by_test : (b : Bool) → length (cond b (slice_set cells a v) cells) ≡ length cells
  by_test true = length-set cells a v
  by_test false = refl

pub set_past : (cells : List ℕ) (a v : ℕ) → length cells ≤ a → set_cell cells a v ≡ cells
set_past cells a v h = ap (λ b. cond b (slice_set cells a v) cells) (le-ltb a (length cells) h)

-- a cell after one is set
set_read : (cells : List ℕ) (at v a : ℕ) → a < length cells → get_or (set_cell cells at v) a 0 ≡ cond (a == at) v (get_or cells a 0)
set_read cells at v a low = by_case (cases_eq a at) where
  by_case : (a ≡ at) ⊎ (a ≢ at) → get_or (set_cell cells at v) a 0 ≡ cond (a == at) v (get_or cells a 0)
  by_case (inl e) =
      let there : at < length cells = omega arith in
      ap (λ b. get_or (cond b (slice_set cells at v) cells) a 0) (lt-ltb at (length cells) there) ∙ get_or-set_at cells at a v 0 e there ∙ sym (cond_here a at v (get_or cells a 0) e)
  by_case (inr ne) = other (nat_lt at (length cells)) ∙ sym (cond_away a at v (get_or cells a 0) ne) where
    other : (b : Bool) → get_or (cond b (slice_set cells at v) cells) a 0 ≡ get_or cells a 0
    other true = get_or-set_other cells at a v 0 ne
    other false = refl

module _ (ns : List ℕ) (k : ℕ) (few : k < 2 ^ 64) (q : Pair) (two : q.low ≢ q.high) where
  abbrev IsKnown : Store → Type 0
  IsKnown t = (t.memory ≡ q) ⊎ AreApart t.memory q

  list_length : (t : Store) (m : ℕ) (cells : List ℕ) → length (stored_list ns t m cells) ≡ length cells
  list_length t m cells = by_on ((number_at ns t.on == 1) && (number_at ns t.at.high == 0)) where
    put_length : (memory at v : ℕ) (l : List ℕ) → length (put_list memory at v m l) ≡ length l
    put_length memory at v l = by_test (m == memory) where
      by_test : (b : Bool) → length (cond b (set_cell l at v) l) ≡ length l
      by_test true = set_length l at v
      by_test false = refl

    by_on : (b : Bool) → length (cond b (put_list t.memory.high (number_at ns t.at.low) (number_at ns t.value.high) m (put_list t.memory.low (number_at ns t.at.low) (number_at ns t.value.low) m cells)) cells) ≡ length cells
    by_on true = put_length t.memory.high (number_at ns t.at.low) (number_at ns t.value.high) _ ∙ put_length t.memory.low (number_at ns t.at.low) (number_at ns t.value.low) cells
    by_on false = refl

  pub all_length : (stores : List Store) (m : ℕ) (cells : List ℕ) → length (stored_all ns m cells stores) ≡ length cells
  all_length [] m cells = refl
  all_length (t ∷ stores) m cells = all_length stores m (stored_list ns t m cells) ∙ list_length t m cells

  -- a list that no store is into stays
  list_stays : (t : Store) (m : ℕ) (cells : List ℕ) → (m ≢ t.memory.low) → (m ≢ t.memory.high) → stored_list ns t m cells ≡ cells
  list_stays t m cells low high = by_on ((number_at ns t.on == 1) && (number_at ns t.at.high == 0)) where
    by_on : (b : Bool) → cond b (put_list t.memory.high (number_at ns t.at.low) (number_at ns t.value.high) m (put_list t.memory.low (number_at ns t.at.low) (number_at ns t.value.low) m cells)) cells ≡ cells
    by_on true = cond_away m t.memory.high _ _ high ∙ cond_away m t.memory.low _ _ low
    by_on false = refl

  pub all_stay : (stores : List Store) (m : ℕ) (cells : List ℕ) → ((t : Store) → Has stores t → (m ≢ t.memory.low) × (m ≢ t.memory.high)) → stored_all ns m cells stores ≡ cells
  all_stay [] m cells away = refl
  all_stay (t ∷ stores) m cells away =
      let h = away t (inl refl) in
      ap (λ l. stored_all ns m l stores) (list_stays t m cells h.0 h.1) ∙ all_stay stores m cells (λ u k. away u (inr k))

  -- a store into the memory itself
  module _ (t : Store) (is : t.memory ≡ q) (low high : List ℕ) (low_long : length low ≡ k) (high_long : length high ≡ k) (a : ℕ) (below : a < k) where
    abbrev at : ℕ
    at = number_at ns t.at.low

    low_list : (on : Bool) → ((number_at ns t.on == 1) && (number_at ns t.at.high == 0)) ≡ on → stored_list ns t q.low low ≡ cond on (set_cell low at (number_at ns t.value.low)) low
    low_list true e =
        ap (λ b. cond b (put_list t.memory.high at (number_at ns t.value.high) q.low (put_list t.memory.low at (number_at ns t.value.low) q.low low)) low) e
        ∙ ap (λ (p : Pair). put_list p.high at (number_at ns t.value.high) q.low (put_list p.low at (number_at ns t.value.low) q.low low)) is
        ∙ cond_away q.low q.high _ _ two ∙ cond_here q.low q.low _ _ refl
    low_list false e = ap (λ b. cond b (put_list t.memory.high at (number_at ns t.value.high) q.low (put_list t.memory.low at (number_at ns t.value.low) q.low low)) low) e

    high_list : (on : Bool) → ((number_at ns t.on == 1) && (number_at ns t.at.high == 0)) ≡ on → stored_list ns t q.high high ≡ cond on (set_cell high at (number_at ns t.value.high)) high
    high_list true e =
        ap (λ b. cond b (put_list t.memory.high at (number_at ns t.value.high) q.high (put_list t.memory.low at (number_at ns t.value.low) q.high high)) high) e
        ∙ ap (λ (p : Pair). put_list p.high at (number_at ns t.value.high) q.high (put_list p.low at (number_at ns t.value.low) q.high high)) is
        ∙ cond_here q.high q.high _ _ refl
        ∙ ap (λ l. set_cell l at (number_at ns t.value.high)) (cond_away q.high q.low _ _ (λ e. two (sym e)))
    high_list false e = ap (λ b. cond b (put_list t.memory.high at (number_at ns t.value.high) q.high (put_list t.memory.low at (number_at ns t.value.low) q.high high)) high) e

    abbrev value_of : List ℕ → List ℕ → ℕ
    value_of l h = get_or h a 0 * 2 ^ 64 + get_or l a 0

    -- where nothing is stored, or at another place
    both_same : (l h : List ℕ) → get_or l a 0 ≡ get_or low a 0 → get_or h a 0 ≡ get_or high a 0 → value_of l h ≡ value_of low high
    both_same l h e g = ap (λ z. z * 2 ^ 64 + get_or l a 0) g ∙ ap (λ z. get_or high a 0 * 2 ^ 64 + z) e

    no_hit : hits ns k q a t ≡ false → cond (hits ns k q a t) (pair_value ns t.value) (value_of low high) ≡ value_of low high
    no_hit e = ap (λ b. cond b (pair_value ns t.value) (value_of low high)) e

    place_is : number_at ns t.at.high ≡ 0 → pair_value ns t.at ≡ at
    place_is e = let z : 0 * 2 ^ 64 + at ≡ at = omega arith in ap (λ z. z * 2 ^ 64 + at) e ∙ z

    hit_by : (x y : Bool) → (number_at ns t.on == 1) ≡ x → (number_at ns t.at.high == 0) ≡ y
        → value_of (cond (x && y) (set_cell low at (number_at ns t.value.low)) low) (cond (x && y) (set_cell high at (number_at ns t.value.high)) high) ≡ cond (hits ns k q a t) (pair_value ns t.value) (value_of low high)
    hit_by false y ex ey = sym (no_hit (ap (λ b. b && (((t.memory.low == q.low) && (a == pair_value ns t.at)) && nat_lt (pair_value ns t.at) k)) ex))
    hit_by true false ex ey =
        let pos : 0 < number_at ns t.at.high = grind (arith, nat_tests) in
        let far : k ≤ pair_value ns t.at = omega arith in
        sym (no_hit (
        ap (λ b. (number_at ns t.on == 1) && (((t.memory.low == q.low) && (a == pair_value ns t.at)) && b)) (le-ltb (pair_value ns t.at) k far)
        ∙ dead (number_at ns t.on == 1) (t.memory.low == q.low) (a == pair_value ns t.at))) where
          dead : (x y z : Bool) → (x && ((y && z) && false)) ≡ false
          dead true true true = refl
          dead true true false = refl
          dead true false z = refl
          dead false y z = refl
    hit_by true true ex ey = by_place (cases_eq a at) where
      zero_high : number_at ns t.at.high ≡ 0
      zero_high = grind (arith, nat_tests)

      hit_test : (b c : Bool) → (a == at) ≡ b → nat_lt at k ≡ c → hits ns k q a t ≡ (b && c)
      hit_test b c eb ec =
          ap (λ z. z && (((t.memory.low == q.low) && (a == pair_value ns t.at)) && nat_lt (pair_value ns t.at) k)) ex
          ∙ ap (λ z. (z && (a == pair_value ns t.at)) && nat_lt (pair_value ns t.at) k) (eq-eqb t.memory.low q.low (ap (λ (p : Pair). p.low) is))
          ∙ ap (λ z. (a == z) && nat_lt z k) (place_is zero_high)
          ∙ ap (λ z. z && nat_lt at k) eb ∙ ap (λ z. b && z) ec

      by_place : (a ≡ at) ⊎ (a ≢ at) → value_of (set_cell low at (number_at ns t.value.low)) (set_cell high at (number_at ns t.value.high)) ≡ cond (hits ns k q a t) (pair_value ns t.value) (value_of low high)
      by_place (inl e) =
          let x : get_or (set_cell low at (number_at ns t.value.low)) a 0 ≡ number_at ns t.value.low = set_read low at (number_at ns t.value.low) a (omega arith) ∙ cond_here a at _ _ e in
          let y : get_or (set_cell high at (number_at ns t.value.high)) a 0 ≡ number_at ns t.value.high = set_read high at (number_at ns t.value.high) a (omega arith) ∙ cond_here a at _ _ e in
          ap (λ z. z * 2 ^ 64 + get_or (set_cell low at (number_at ns t.value.low)) a 0) y ∙ ap (λ z. number_at ns t.value.high * 2 ^ 64 + z) x
          ∙ sym (ap (λ b. cond b (pair_value ns t.value) (value_of low high)) (hit_test true true (eq-eqb a at e) (lt-ltb at k (omega arith))))
      by_place (inr ne) =
          both_same _ _ (set_read low at (number_at ns t.value.low) a (omega arith) ∙ cond_away a at _ _ ne) (set_read high at (number_at ns t.value.high) a (omega arith) ∙ cond_away a at _ _ ne)
          ∙ sym (no_hit (hit_test false (nat_lt at k) (ne_eqb a at ne) refl))

    store_here : value_of (stored_list ns t q.low low) (stored_list ns t q.high high) ≡ cond (hits ns k q a t) (pair_value ns t.value) (value_of low high)
    store_here =
        ap (λ l. value_of l (stored_list ns t q.high high)) (low_list _ refl) ∙ ap (λ h. value_of (cond ((number_at ns t.on == 1) && (number_at ns t.at.high == 0)) (set_cell low at (number_at ns t.value.low)) low) h) (high_list _ refl)
        ∙ hit_by _ _ refl refl

  one_store : (t : Store) → IsKnown t → (low high : List ℕ) → length low ≡ k → length high ≡ k → (a : ℕ) → a < k
      → get_or (stored_list ns t q.high high) a 0 * 2 ^ 64 + get_or (stored_list ns t q.low low) a 0 ≡ cond (hits ns k q a t) (pair_value ns t.value) (get_or high a 0 * 2 ^ 64 + get_or low a 0)
  one_store t (inl is) low high el eh a below = store_here t is low high el eh a below
  one_store t (inr apart) low high el eh a below =
      ap (λ l. get_or l a 0 * 2 ^ 64 + get_or (stored_list ns t q.low low) a 0) (list_stays t q.high high (λ e. apart.1 (sym e)) (λ e. apart.3 (sym e)))
      ∙ ap (λ l. get_or high a 0 * 2 ^ 64 + get_or l a 0) (list_stays t q.low low (λ e. apart.0 (sym e)) (λ e. apart.2 (sym e)))
      ∙ sym (ap (λ b. cond b (pair_value ns t.value) (get_or high a 0 * 2 ^ 64 + get_or low a 0)) (miss (number_at ns t.on == 1))) where
        miss : (x : Bool) → (x && (((t.memory.low == q.low) && (a == pair_value ns t.at)) && nat_lt (pair_value ns t.at) k)) ≡ false
        miss true = ap (λ b. (b && (a == pair_value ns t.at)) && nat_lt (pair_value ns t.at) k) (ne_eqb t.memory.low q.low apart.0)
        miss false = refl

  -- all stores, one after another
  pub all_stores : (stores : List Store) → ((t : Store) → Has stores t → IsKnown t) → (low high : List ℕ) → length low ≡ k → length high ≡ k → (a : ℕ) → a < k
      → get_or (stored_all ns q.high high stores) a 0 * 2 ^ 64 + get_or (stored_all ns q.low low stores) a 0 ≡ cell_after ns k q a stores (get_or high a 0 * 2 ^ 64 + get_or low a 0)
  all_stores [] known low high el eh a below = refl
  all_stores (t ∷ stores) known low high el eh a below =
      all_stores stores (λ u h. known u (inr h)) (stored_list ns t q.low low) (stored_list ns t q.high high) (list_length t q.low low ∙ el) (list_length t q.high high ∙ eh) a below
      ∙ ap (λ n. cell_after ns k q a stores n) (one_store t (known t (inl refl)) low high el eh a below)
