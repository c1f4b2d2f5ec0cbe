-- How batches go out of a case and come back.
use Rattle.std.proofs.Common.{◌≡◌, ◌⊎◌, ℕ, zero, suc, ◌+◌, ◌-◌, ◌*◌, ◌<◌, ◌≤◌, true, false, List, [], ◌∷◌, ◌++◌, length, Some, inl, inr, refl, sym, ap, ◌∙◌, subst, ⊎_elim, arith, length-set}
use Rattle.std.specs.Prelude.{slice_get, slice_index, slice_index_or}
use Rattle.std.proofs.Math.Path.{fun_ext}
use Rattle.std.proofs.lemmas.Bool.{cases_eq, cases_lt, cases_Bool}
use Rattle.std.proofs.lemmas.List.{get_or-set_same, get_or-set_other, get_or_past}
use Rattle.std.proofs.lemmas.Option.{slice_get_within}
use Rattle.kahn_model.specs.Counts.{total}
use Rattle.kahn_model.specs.Network.{Network}
use Rattle.kahn_model.proofs.Count.{IsBelow}
use Rattle.kahn_model.proofs.Ends.{total_cap}
use Rattle.tapa_syntax.specs.declared.program.Program.{Program}
use Rattle.net_core.specs.Bounded.{network_on, count_of}
use Rattle.net_core.specs.Settle.{ticks_ahead}
use Rattle.net_core.proofs.Chunk.{plus, plus_other, total_plus}
use Rattle.net_core.proofs.Resuming.{count_set}
use Rattle.net_core.proofs.Stepped.{plus_above}
use Rattle.net_case.specs.declared.lot.Lot.{Lot}
use Rattle.net_case.specs.declared.case_state.CaseState.{CaseState}
use Rattle.net_case.specs.Claims.{IsSameCase, HandsOut, Commits, MayCommit}
use Rattle.net_case.specs.State.{IsValidCase, network, count, IsOut, IsAtHome, AreAllHome}
use Rattle.coro_threads.specs.Out.{IsOutWith, AreOut, AreSameLots, ahead}
use Rattle.net_core.proofs.Quiet.{fewer_by, less_by}
use Rattle.tapa_base.proofs.Got.{some_at as has_item, last_at as get_last}

-- ---- lists with one more at the end

get_front : {A : Type 0} (xs : List A) (y x : A) (n : ℕ) → slice_get xs n ≡ Some x → slice_get (xs ++ y ∷ []) n ≡ Some x
get_front [] y x n e = absurd (cc)
get_front (z ∷ xs) y x zero e = e
get_front (z ∷ xs) y x (suc n) e = get_front xs y x n e

-- it is the last one, or one of the others
pub get_cases : {A : Type 0} (xs : List A) (y x : A) (n : ℕ) → slice_get (xs ++ y ∷ []) n ≡ Some x → (slice_get xs n ≡ Some x) ⊎ ((n ≡ length xs) × (x ≡ y))
get_cases [] y x zero e = inr (refl, cc)
get_cases [] y x (suc n) e = absurd (cc)
get_cases (z ∷ xs) y x zero e = inl e
get_cases (z ∷ xs) y x (suc n) e = ⊎_elim (λ (h : slice_get xs n ≡ Some x). inl h) (λ (h : (n ≡ length xs) × (x ≡ y)). inr (ap suc h.0, h.1)) (get_cases xs y x n e)

-- ---- who is out

out_inside : (c : CaseState) (i : ℕ) → IsOut c i → i < length c.out
out_inside c i e =
    ⊎_elim (λ (l : i < length c.out). l)
    (λ (l : length c.out ≤ i). let d = get_or_past c.out i false l in let both : false ≡ true = sym d ∙ e in absurd (cc))
    (cases_lt i (length c.out))

pub not_both : (c : CaseState) (i : ℕ) → IsOut c i → IsAtHome c i → ⊥
not_both c i o h = let both : true ≡ false = sym o ∙ h in cc

pub none_out : (c : CaseState) → AreAllHome c → AreOut c []
none_out c home = record { each = λ n b e. absurd (cc); apart = λ n m a b e f same. absurd (cc); whole = λ i o. absurd (not_both c i o (home i)) }

pub all_home : (c : CaseState) → AreOut c [] → AreAllHome c
all_home c out i =
    ⊎_elim (λ (o : IsOut c i). let w = out.whole i o in absurd (let e = w.2 in cc)) (λ (h : IsAtHome c i). h) (cases_Bool (slice_index_or c.out i false))

-- a case that only looked has the same batches out
pub same_out : (c c' : CaseState) (bs : List Lot) → IsSameCase c c' → AreOut c bs → AreOut c' bs
same_out c c' bs s out = record {
  each = λ n b e.
      let w = out.each n b e in record {
        program = w.program ∙ sym s.program;
        input = w.input ∙ sym s.input;
        budget = w.budget ∙ sym s.budget;
        out = ap (λ l. slice_index_or l b.instance false) s.out ∙ w.out;
        from = ap (λ l. slice_index l b.instance) s.counts ∙ w.from;
        later = λ i. subst (λ l. slice_index b.at i ≤ slice_index l i) (sym s.counts) (w.later i);
        some = w.some;
      };
  apart = out.apart;
  whole = λ i o. out.whole i (ap (λ l. slice_index_or l i false) (sym s.out) ∙ o);
}

-- one more goes out
module _ (c : CaseState) (valid : IsValidCase c) (b : Lot) (c' : CaseState) (h : HandsOut c b c') where
  here : b.instance < length c.out
  here = let a = h.inside in let l = valid.counts_len in let o = valid.out_len in omega arith

  is_out_now : IsOut c' b.instance
  is_out_now = ap (λ l. slice_index_or l b.instance false) h.out ∙ get_or-set_same c.out b.instance true false here

  other : (i : ℕ) → (i ≡ b.instance → ⊥) → slice_index_or c'.out i false ≡ slice_index_or c.out i false
  other i d = ap (λ l. slice_index_or l i false) h.out ∙ get_or-set_other c.out b.instance i true false d

  pub hands_out : (bs : List Lot) → AreOut c bs → AreOut c' (bs ++ b ∷ [])
  hands_out bs out = record { each = each; apart = apart; whole = whole }
    where
      still : (n : ℕ) (a : Lot) → slice_get bs n ≡ Some a → a.instance ≡ b.instance → ⊥
      still n a e same = not_both c b.instance (subst (IsOut c) same (out.each n a e).out) h.at_home

      each : (n : ℕ) (a : Lot) → slice_get (bs ++ b ∷ []) n ≡ Some a → IsOutWith c' a
      each n a e =
          ⊎_elim
          (λ (old : slice_get bs n ≡ Some a).
          let w = out.each n a old in record {
            program = w.program ∙ sym h.program;
            input = w.input ∙ sym h.input;
            budget = w.budget ∙ sym h.budget;
            out = other a.instance (still n a old) ∙ w.out;
            from = ap (λ l. slice_index l a.instance) h.counts ∙ w.from;
            later = λ i. subst (λ l. slice_index a.at i ≤ slice_index l i) (sym h.counts) (w.later i);
            some = w.some;
          })
          (λ (last : (n ≡ length bs) × (a ≡ b)).
          subst (IsOutWith c') (sym last.1)
          (record {
            program = h.starts.program ∙ sym h.program;
            input = h.starts.input ∙ sym h.input;
            budget = h.starts.budget ∙ sym h.budget;
            out = is_out_now;
            from = ap (λ l. slice_index l b.instance) h.counts ∙ sym h.starts.from;
            later = λ i. let e = ap (λ l. slice_index l i) (h.starts.at ∙ sym h.counts) in omega arith;
            some = h.some;
          }))
          (get_cases bs b a n e)

      apart : (n m : ℕ) (x y : Lot) → slice_get (bs ++ b ∷ []) n ≡ Some x → slice_get (bs ++ b ∷ []) m ≡ Some y → x.instance ≡ y.instance → n ≡ m
      apart n m x y e g same =
          ⊎_elim
          (λ (old : slice_get bs n ≡ Some x).
          ⊎_elim
          (λ (old' : slice_get bs m ≡ Some y). out.apart n m x y old old' same)
          (λ (last : (m ≡ length bs) × (y ≡ b)). absurd (still n x old (same ∙ ap (λ (z : Lot). z.instance) last.1)))
          (get_cases bs b y m g))
          (λ (last : (n ≡ length bs) × (x ≡ b)).
          ⊎_elim
          (λ (old' : slice_get bs m ≡ Some y). absurd (still m y old' (sym same ∙ ap (λ (z : Lot). z.instance) last.1)))
          (λ (last' : (m ≡ length bs) × (y ≡ b)). last.0 ∙ sym last'.0)
          (get_cases bs b y m g))
          (get_cases bs b x n e)

      whole : (i : ℕ) → IsOut c' i → (n : ℕ) × (x : Lot) × (slice_get (bs ++ b ∷ []) n ≡ Some x) × (x.instance ≡ i)
      whole i o =
          ⊎_elim
          (λ (e : i ≡ b.instance). (length bs, b, get_last bs b, sym e))
          (λ (d : i ≡ b.instance → ⊥). let w = out.whole i (sym (other i d) ∙ o) in (w.0, w.1, get_front bs b w.1 w.0 w.2, w.3))
          (cases_eq i b.instance)

-- ---- the last one comes back

last_is : (c : CaseState) (bs : List Lot) (b : Lot) → AreOut c (bs ++ b ∷ []) → IsOutWith c b
last_is c bs b out = out.each (length bs) b (get_last bs b)

pub may_commit : (c : CaseState) (bs : List Lot) (b : Lot) → AreOut c (bs ++ b ∷ []) → MayCommit c b
may_commit c bs b out = let w = last_is c bs b out in record { out = w.out; later = w.later }

pub of_case : (c : CaseState) (bs : List Lot) (b : Lot) → AreOut c (bs ++ b ∷ []) → IsOutWith c b
of_case c bs b out = last_is c bs b out

module _ (c : CaseState) (bs : List Lot) (b : Lot) (out : AreOut c (bs ++ b ∷ [])) (c' : CaseState) (h : Commits c b c') (valid : IsValidCase c') where
  pub counts_len : length c'.counts ≡ length c.counts
  counts_len = ap length h.counts ∙ length-set c.counts b.instance (b.from + b.made)

  out_here : b.instance < length c.out
  out_here = out_inside c b.instance (last_is c bs b out).out

  -- there are xs many counts xs marks of who is out
  inside : b.instance < length c.counts
  inside =
      let o = out_here in
      let a = ap length h.out in
      let s = length-set c.out b.instance false in
      let k = counts_len in
      let l = valid.counts_len in
      let m = valid.out_len in
      omega arith

  counts_are : (j : ℕ) → count c' j ≡ plus b.instance b.made (count c) j
  counts_are j =
      ap (λ l. count_of l j) h.counts
      ∙ count_set c.counts b.instance (b.from + b.made) b.made inside (ap (λ n. n + b.made) (sym h.fresh)) j

  above : IsBelow (count c) (count c')
  above j = let a = plus_above b.instance b.made (count c) j in let e = counts_are j in omega arith

  other_out : (i : ℕ) → (i ≡ b.instance → ⊥) → slice_index_or c'.out i false ≡ slice_index_or c.out i false
  other_out i d = ap (λ l. slice_index_or l i false) h.out ∙ get_or-set_other c.out b.instance i false false d

  back_home : IsAtHome c' b.instance
  back_home = ap (λ l. slice_index_or l b.instance false) h.out ∙ get_or-set_same c.out b.instance false false out_here

  differs : (n : ℕ) (a : Lot) → slice_get bs n ≡ Some a → a.instance ≡ b.instance → ⊥
  differs n a e same =
      let at = out.apart n (length bs) a b (get_front bs b a n e) (get_last bs b) same in
      let w = slice_get_within bs n a e in
      omega arith

  pub comes_back : AreOut c' bs
  comes_back = record {
    each = λ n a e.
        let w = out.each n a (get_front bs b a n e) in record {
          program = w.program ∙ sym h.program;
          input = w.input ∙ sym h.input;
          budget = w.budget ∙ sym h.budget;
          out = other_out a.instance (differs n a e) ∙ w.out;
          from = let k = counts_are a.instance in let p = plus_other b.instance b.made a.instance (count c) (differs n a e) in k ∙ p ∙ w.from;
          later = λ i. let l = w.later i in let u = above i in omega arith;
          some = w.some;
        };
    apart = λ n m x y e g same. out.apart n m x y (get_front bs b x n e) (get_front bs b y m g) same;
    whole = λ i o.
        ⊎_elim
        (λ (e : i ≡ b.instance). absurd (not_both c' i o (subst (IsAtHome c') (sym e) back_home)))
        (λ (d : i ≡ b.instance → ⊥).
        let w = out.whole i (sym (other_out i d) ∙ o) in
        ⊎_elim
        (λ (old : slice_get bs w.0 ≡ Some w.1). (w.0, w.1, old, w.3))
        (λ (last : (w.0 ≡ length bs) × (w.1 ≡ b)). absurd (d (sym w.3 ∙ ap (λ (z : Lot). z.instance) last.1)))
        (get_cases bs b w.1 w.0 w.2))
        (cases_eq i b.instance);
  }

  -- ---- with its ticks fewer are ahead

  same_network : network c' ≡ network c
  same_network = ap (λ (p : Program). network_on p c'.input) h.program ∙ ap (network_on c.program) h.input

  inside_network : b.instance < (network c).size
  inside_network =
      let i = inside in
      let k = counts_len in
      let l = valid.counts_len in
      let z = valid.size in
      let n = ap (λ (net : Network). net.size) same_network in
      omega arith

  total_after : total (network c').size (count c') ≡ total (network c).size (count c) + b.made
  total_after =
      ap (λ (net : Network). total net.size (count c')) same_network
      ∙ ap (total (network c).size) (fun_ext counts_are)
      ∙ total_plus (network c).size b.instance b.made (count c) inside_network

  same_room : (network c').size * c'.budget ≡ (network c).size * c.budget
  same_room = ap (λ (net : Network). net.size * c'.budget) same_network ∙ ap (λ n. (network c).size * n) h.budget

  pub less : ahead c' ≤ ahead c
  unfolding ticks_ahead
  less = less_by ((network c).size * c.budget) ((network c').size * c'.budget) (total (network c).size (count c)) (total (network c').size (count c')) b.made same_room total_after

  pub fewer : 0 < b.made → ahead c' < ahead c
  unfolding ticks_ahead
  fewer some =
      fewer_by ((network c).size * c.budget) ((network c').size * c'.budget) (total (network c).size (count c)) (total (network c').size (count c')) b.made same_room total_after some
      (total_cap (network c').size c'.budget (count c') valid.capped)

-- ---- batches that are the same with more ticks

pub out_later : (c : CaseState) (xs bs : List Lot) → AreSameLots xs bs → AreOut c xs → AreOut c bs
out_later c xs bs s out = record { each = each; apart = apart; whole = whole }
  where
    there : (n : ℕ) (b : Lot) → slice_get bs n ≡ Some b → (a : Lot) × (slice_get xs n ≡ Some a)
    there n b e = let w = slice_get_within bs n b e in let l = s.len in has_item xs n (omega arith)

    each : (n : ℕ) (b : Lot) → slice_get bs n ≡ Some b → IsOutWith c b
    each n b e =
        let a = there n b e in
        let w = out.each n a.0 a.1 in
        let q = s.same n a.0 b a.1 e in record {
          program = q.program ∙ w.program;
          input = q.input ∙ w.input;
          budget = q.budget ∙ w.budget;
          out = subst (IsOut c) (sym q.instance) w.out;
          from = ap (slice_index c.counts) q.instance ∙ w.from ∙ sym q.from;
          later = λ i. let l = w.later i in let d = ap (λ l. slice_index l i) q.at in omega arith;
          some = let l = w.some in let f = q.fuel in omega arith;
        }

    apart : (n m : ℕ) (x y : Lot) → slice_get bs n ≡ Some x → slice_get bs m ≡ Some y → x.instance ≡ y.instance → n ≡ m
    apart n m x y e g same =
        let a = there n x e in
        let b = there m y g in
        out.apart n m a.0 b.0 a.1 b.1 (sym (s.same n a.0 x a.1 e).instance ∙ same ∙ (s.same m b.0 y b.1 g).instance)

    whole : (i : ℕ) → IsOut c i → (n : ℕ) × (b : Lot) × (slice_get bs n ≡ Some b) × (b.instance ≡ i)
    whole i o =
        let w = out.whole i o in
        let l = slice_get_within xs w.0 w.1 w.2 in
        let n = s.len in
        let b = has_item bs w.0 (omega arith) in
        (w.0, b.0, b.1, (s.same w.0 w.1 b.0 w.2 b.1).instance ∙ w.3)
