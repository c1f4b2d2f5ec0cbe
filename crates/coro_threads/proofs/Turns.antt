-- A case while its batches go out, and while they come back.
use Rattle.std.proofs.Common.{◌≡◌, ◌⊎◌, ℕ, zero, suc, ◌-◌, ◌*◌, ◌<◌, ◌≤◌, List, [], ◌∷◌, ◌++◌, length, Some, inl, inr, refl, ap, ◌∙◌, subst, ⊎_elim, arith}
use Rattle.std.specs.Prelude.{slice_get}
use Rattle.net_core.specs.Settle.{ticks_ahead}
use Rattle.net_core.specs.declared.input.Input.{Input}
use Rattle.net_core.specs.Bounded.{network_on, count_of}
use Rattle.tapa_syntax.specs.declared.program.Program.{Program}
use Rattle.kahn_model.specs.Counts.{total}
use Rattle.net_case.specs.declared.lot.Lot.{Lot}
use Rattle.net_case.specs.Batch.{IsSameLot}
use Rattle.net_case.specs.declared.case_state.CaseState.{CaseState}
use Rattle.net_case.specs.Claims.{IsSameCase, HandsOut, MustWait, Commits}
use Rattle.net_case.specs.State.{IsValidCase, AreAllHome}
use Rattle.coro_threads.specs.Out.{IsSameRun, AreOut, ahead}
use Rattle.coro_threads.proofs.Outs.{get_cases, none_out, same_out, hands_out, counts_len, comes_back, less, fewer, out_later, all_home, not_both}

pub same_run_refl : (c : CaseState) → IsSameRun c c
same_run_refl c = record { program = refl; input = refl; budget = refl }

pub same_run_trans : (a b c : CaseState) → IsSameRun a b → IsSameRun b c → IsSameRun a c
same_run_trans a b c h j = record { program = j.program ∙ h.program; input = j.input ∙ h.input; budget = j.budget ∙ h.budget }

-- ---- they go out

pub record HaveGone (start c : CaseState) (bs : List Lot) : Type 0 where
  pub run : IsSameRun start c
  pub counts : c.counts ≡ start.counts
  pub out : AreOut c bs

pub gone_none : (c : CaseState) (bs : List Lot) → AreOut c bs → HaveGone c c bs
gone_none c bs out = record { run = same_run_refl c; counts = refl; out = out }

pub gone_more : (start c c' : CaseState) (bs : List Lot) (b : Lot) → HaveGone start c bs → IsValidCase c → HandsOut c b c' → HaveGone start c' (bs ++ b ∷ [])
gone_more start c c' bs b g valid h = record {
  run = same_run_trans start c c' g.run (record { program = h.program; input = h.input; budget = h.budget });
  counts = h.counts ∙ g.counts;
  out = hands_out c valid b c' h bs g.out;
}

pub gone_same : (start c c' : CaseState) (bs : List Lot) → HaveGone start c bs → IsSameCase c c' → HaveGone start c' bs
gone_same start c c' bs g s = record {
  run = same_run_trans start c c' g.run (record { program = s.program; input = s.input; budget = s.budget });
  counts = s.counts ∙ g.counts;
  out = same_out c c' bs s g.out;
}

-- as many ticks are ahead where no more were made
pub same_ahead : (c c' : CaseState) → IsSameRun c c' → c'.counts ≡ c.counts → ahead c' ≡ ahead c
unfolding ticks_ahead
same_ahead c c' s e =
    ap (λ (p : Program). (network_on p c'.input).size * c'.budget - total (network_on p c'.input).size (count_of c'.counts)) s.program
    ∙ ap (λ (i : Input). (network_on c.program i).size * c'.budget - total (network_on c.program i).size (count_of c'.counts)) s.input
    ∙ ap (λ n. (network_on c.program c.input).size * n - total (network_on c.program c.input).size (count_of c'.counts)) s.budget
    ∙ ap (λ k. (network_on c.program c.input).size * c.budget - total (network_on c.program c.input).size (count_of k)) e

-- where all are at home there is no waiting
pub no_wait : (c c' : CaseState) → AreAllHome c → MustWait c c' → ⊥
no_wait c c' home w = not_both c w.away.0 w.away.1 (home w.away.0)

-- ---- they come back

pub record HaveComeBack (start : CaseState) (all : List Lot) (c : CaseState) (left : List Lot) : Type 0 where
  pub run : IsSameRun start c
  pub len : length c.counts ≡ length start.counts
  pub out : AreOut c left
  pub less : ahead c ≤ ahead start
  pub progress : (n : ℕ) (b : Lot) → slice_get all n ≡ Some b → 0 < b.made → (slice_get left n ≡ Some b) ⊎ (ahead c < ahead start)

pub back_none : (c : CaseState) (all : List Lot) → AreOut c all → HaveComeBack c all c all
back_none c all out = record { run = same_run_refl c; len = refl; out = out; less = omega arith; progress = λ n b e some. inl e }

pub back_more : (start : CaseState) (all : List Lot) (c : CaseState) (rest : List Lot) (b : Lot) (c' : CaseState) → HaveComeBack start all c (rest ++ b ∷ []) → Commits c b c' → IsValidCase c' → HaveComeBack start all c' rest
back_more start all c rest b c' g h valid = record {
  run = same_run_trans start c c' g.run (record { program = h.program; input = h.input; budget = h.budget });
  len = counts_len c rest b g.out c' h valid ∙ g.len;
  out = comes_back c rest b g.out c' h valid;
  less = let a = less c rest b g.out c' h valid in let e = g.less in omega arith;
  progress = λ n a e some.
      ⊎_elim
      (λ (at : slice_get (rest ++ b ∷ []) n ≡ Some a).
      ⊎_elim
      (λ (old : slice_get rest n ≡ Some a). inl old)
      (λ (last : (n ≡ length rest) × (a ≡ b)).
      let made = ap (λ (z : Lot). z.made) last.1 in
      let f = fewer c rest b g.out c' h valid (omega arith) in
      let l = g.less in
      inr (omega arith))
      (get_cases rest b a n at))
      (λ (f : ahead c < ahead start). let l = less c rest b g.out c' h valid in inr (omega arith))
      (g.progress n a e some);
}

pub back_home : (start : CaseState) (all : List Lot) (c : CaseState) (left : List Lot) → HaveComeBack start all c left → left ≡ [] → AreAllHome c
back_home start all c left g none = all_home c (subst (AreOut c) none g.out)

-- ---- one batch alone

module _ (c c1 : CaseState) (a b : Lot) (home : AreAllHome c) (valid : IsValidCase c) (h : HandsOut c a c1) (same : IsSameLot a b) where
  pub one_out : AreOut c1 ([] ++ b ∷ [])
  one_out =
      out_later c1 (a ∷ []) (b ∷ [])
      (record {
        len = refl;
        same = λ n x y e f. one_of n x y e f;
      })
      (hands_out c valid a c1 h [] (none_out c home))
    where
      one_of : (n : ℕ) (x y : Lot) → slice_get (a ∷ []) n ≡ Some x → slice_get (b ∷ []) n ≡ Some y → IsSameLot x y
      one_of zero x y e f = let p : a ≡ x = cc in let q : b ≡ y = cc in subst (λ z. IsSameLot z y) p (subst (IsSameLot a) q same)
      one_of (suc n) x y e f = absurd (cc)

  module _ (c2 : CaseState) (back : Commits c1 b c2) (valid2 : IsValidCase c2) where
    pub one_fewer : 0 < b.made → ahead c2 < ahead c
    one_fewer some =
        let f = fewer c1 [] b one_out c2 back valid2 some in
        let s = same_ahead c c1 (record { program = h.program; input = h.input; budget = h.budget }) h.counts in
        omega arith
