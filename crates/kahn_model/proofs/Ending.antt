-- Within every bound a network ends, stops or goes past it, and does one of these alone.
use Rattle.std.proofs.Common.{◌≡◌, ◌⊎◌, ◌<◌, ◌≤◌, ℕ, zero, suc, List, [], ◌∷◌, Bool, true, false, Some, inl, inr, refl, sym, ap, subst, ⊎_elim, arith}
use Rattle.std.specs.Prelude.{slice_get}
use Rattle.std.proofs.lemmas.Bool.{cases_lt}
use Rattle.std.proofs.Math.Path.{fun_ext}
use Rattle.kahn_model.specs.Behavior.{Tick, Did, Take, See, End}
use Rattle.kahn_model.specs.Network.{Network, IsNetwork}
use Rattle.kahn_model.specs.Counts.{ticks_made, HasEnded, IsAllowed}
use Rattle.kahn_model.specs.Outcome.{IsGreatest, IsJoined, joined_ticks, HaveJoinedEnded, HasJoinedLeft, IsDone, IsStopped, GoesOn, IsPast}
use Rattle.kahn_model.specs.Ending.{EndsWithin, StopsWithin, GoesPast, Way, done, stopped, past, RunsSo}
use Rattle.kahn_model.proofs.Ends.{Step, find_step, greatest}

-- ---- whether an instance has ended

HasEnd : List Tick → Type 0
HasEnd ts = (j : ℕ) × (slice_get ts j ≡ Some End)

later_end : (t : Tick) (ts : List Tick) → HasEnd ts → HasEnd (t ∷ ts)
unfolding HasEnd
later_end t ts (j, e) = (suc j, e)

no_end_yet : (t : Tick) (ts : List Tick) → (Some t ≡ Some End → ⊥) → (HasEnd ts → ⊥) → HasEnd (t ∷ ts) → ⊥
unfolding HasEnd
no_end_yet t ts first none (zero, e) = first e
no_end_yet t ts first none (suc j, e) = none (j, e)

has_end_here : (t : Tick) → (t ≡ End) ⊎ (Some t ≡ Some End → ⊥)
has_end_here End = inl refl
has_end_here (Did a) = inr (λ e. cc)
has_end_here (Take s t) = inr (λ e. cc)
has_end_here (See s t) = inr (λ e. cc)

has_end : (ts : List Tick) → HasEnd ts ⊎ (HasEnd ts → ⊥)
unfolding HasEnd
has_end [] = inr (λ h. let e = h.1 in cc)
has_end (t ∷ ts) =
    ⊎_elim
    (λ (h : HasEnd ts). inl (later_end t ts h))
    (λ (n : HasEnd ts → ⊥). ⊎_elim (λ (e : t ≡ End). inl (0, ap Some e)) (λ (d : Some t ≡ Some End → ⊥). inr (no_end_yet t ts d n)) (has_end_here t))
    (has_end ts)

pub has_ended : (net : Network) (k : ℕ → ℕ) (i : ℕ) → HasEnded net k i ⊎ (HasEnded net k i → ⊥)
unfolding HasEnd
has_ended net k i = has_end (ticks_made net k i)

-- ---- whether the joined instances have ended

-- one of the first n is joined and has not, or all of these have
JoinedLeftIn : Network → (ℕ → ℕ) → ℕ → Type 0
JoinedLeftIn net k n = (i : ℕ) × (i < n) × IsJoined net i × (HasEnded net k i → ⊥)

HaveEndedIn : Network → (ℕ → ℕ) → ℕ → Type 0
HaveEndedIn net k n = (i : ℕ) → i < n → IsJoined net i → HasEnded net k i

is_joined : (b : Bool) → (b ≡ false) ⊎ (b ≡ false → ⊥)
is_joined false = inl refl
is_joined true = inr (λ e. cc)

more_left : (net : Network) (k : ℕ → ℕ) (n : ℕ) → JoinedLeftIn net k n → JoinedLeftIn net k (suc n)
unfolding JoinedLeftIn
more_left net k n (i, l, j, d) = (i, omega arith, j, d)

here_left : (net : Network) (k : ℕ → ℕ) (n : ℕ) → IsJoined net n → (HasEnded net k n → ⊥) → JoinedLeftIn net k (suc n)
unfolding JoinedLeftIn
here_left net k n j d = (n, omega arith, j, d)

more_ended : (net : Network) (k : ℕ → ℕ) (n : ℕ) → (IsJoined net n → HasEnded net k n) → HaveEndedIn net k n → HaveEndedIn net k (suc n)
unfolding HaveEndedIn
more_ended net k n h all = λ i l j.
    ⊎_elim
    (λ (s : i < n). all i s j)
    (λ (b : n ≤ i). let same : n ≡ i = omega arith in subst (HasEnded net k) same (h (subst (IsJoined net) (sym same) j)))
    (cases_lt i n)

none_ended : (net : Network) (k : ℕ → ℕ) → HaveEndedIn net k 0
unfolding HaveEndedIn
none_ended net k = λ i l j. absurd (omega arith)

left_or_ended : (net : Network) (k : ℕ → ℕ) (n : ℕ) → JoinedLeftIn net k n ⊎ HaveEndedIn net k n
left_or_ended net k zero = inr (none_ended net k)
left_or_ended net k (suc n) =
    ⊎_elim
    (λ (g : JoinedLeftIn net k n). inl (more_left net k n g))
    (λ (all : HaveEndedIn net k n).
    ⊎_elim
    (λ (j : IsJoined net n).
    ⊎_elim
    (λ (e : HasEnded net k n). inr (more_ended net k n (λ x. e) all))
    (λ (d : HasEnded net k n → ⊥). inl (here_left net k n j d))
    (has_ended net k n))
    (λ (no : IsJoined net n → ⊥). inr (more_ended net k n (λ j. absurd (no j)) all))
    (is_joined (net.detached n)))
    (left_or_ended net k n)

pub joined_left : (net : Network) (k : ℕ → ℕ) → HasJoinedLeft net k ⊎ HaveJoinedEnded net k
unfolding JoinedLeftIn HaveEndedIn
joined_left net k =
    ⊎_elim
    (λ (g : JoinedLeftIn net k net.size). inl (record { instance = g.0; inside = g.1; joined = g.2; goes_on = g.3 }))
    (λ (all : HaveEndedIn net k net.size). inr all)
    (left_or_ended net k net.size)

-- ---- one of three ways

left_by : (net : Network) (n : ℕ) (k : ℕ → ℕ) → IsGreatest net n k → joined_ticks net k ≤ n → HasJoinedLeft net k → EndsWithin net n ⊎ (StopsWithin net n ⊎ GoesPast net n)
left_by net n k g w left =
    ⊎_elim
    (λ (s : Step net (suc n) k). inr (inr (k, record { greatest = g; more = inr (record { left = left; instance = s.at; allowed = s.allowed }) })))
    (λ (none : (i : ℕ) → i < net.size → IsAllowed net k i → k i < suc n → ⊥).
    inr (inl (k, record { greatest = g; over = λ i a. none i a.supplied.inside a (let c = g.capped i in omega arith); left = left; within = w })))
    (find_step net (suc n) k net.size)

three_by : (net : Network) (n : ℕ) (k : ℕ → ℕ) → IsGreatest net n k → EndsWithin net n ⊎ (StopsWithin net n ⊎ GoesPast net n)
three_by net n k g =
    ⊎_elim
    (λ (l : n < joined_ticks net k). inr (inr (k, record { greatest = g; more = inl l })))
    (λ (w : joined_ticks net k ≤ n).
    ⊎_elim
    (λ (left : HasJoinedLeft net k). left_by net n k g w left)
    (λ (all : HaveJoinedEnded net k). inl (k, record { greatest = g; ended = all; within = w }))
    (joined_left net k))
    (cases_lt n (joined_ticks net k))

pub three_ways : (net : Network) → IsNetwork net → (n : ℕ) → EndsWithin net n ⊎ (StopsWithin net n ⊎ GoesPast net n)
three_ways net ok n = let g = greatest net ok n in three_by net n g.0 g.1

-- ---- and of one alone

pub greatest_one : (net : Network) (n : ℕ) (k m : ℕ → ℕ) → IsGreatest net n k → IsGreatest net n m → (i : ℕ) → k i ≡ m i
greatest_one net n k m g h i =
    let a = h.above k g.reachable g.capped i in
    let b = g.above m h.reachable h.capped i in
    omega arith

greatest_of : (net : Network) (n : ℕ) (k : ℕ → ℕ) (a : Way) → RunsSo net n a k → IsGreatest net n k
greatest_of net n k done h = h.greatest
greatest_of net n k stopped h = h.greatest
greatest_of net n k past h = h.greatest

module _ (net : Network) (n : ℕ) (k : ℕ → ℕ) where
  not_both : HaveJoinedEnded net k → HasJoinedLeft net k → ⊥
  not_both all left = left.goes_on (all left.instance left.inside left.joined)

  done_past : IsDone net n k → IsPast net n k → ⊥
  done_past d p =
      let w = d.within in
      ⊎_elim
      (λ (l : n < joined_ticks net k). omega arith)
      (λ (g : GoesOn net k). not_both d.ended g.left)
      p.more

  stopped_past : IsStopped net n k → IsPast net n k → ⊥
  stopped_past s p =
      let w = s.within in
      ⊎_elim
      (λ (l : n < joined_ticks net k). omega arith)
      (λ (g : GoesOn net k). s.over g.instance g.allowed)
      p.more

  way_here : (a b : Way) → RunsSo net n a k → RunsSo net n b k → a ≡ b
  way_here done done x y = refl
  way_here done stopped x y = absurd (not_both x.ended y.left)
  way_here done past x y = absurd (done_past x y)
  way_here stopped done x y = absurd (not_both y.ended x.left)
  way_here stopped stopped x y = refl
  way_here stopped past x y = absurd (stopped_past x y)
  way_here past done x y = absurd (done_past y x)
  way_here past stopped x y = absurd (stopped_past y x)
  way_here past past x y = refl

pub one_way : (net : Network) → IsNetwork net → (n : ℕ) (a b : Way) (k m : ℕ → ℕ) → RunsSo net n a k → RunsSo net n b m → (a ≡ b) × ((i : ℕ) → k i ≡ m i)
one_way net ok n a b k m x y =
    let same = greatest_one net n k m (greatest_of net n k a x) (greatest_of net n m b y) in
    let is : k ≡ m = fun_ext same in
    (way_here net n k a b x (subst (RunsSo net n b) (sym is) y), same)
