use Rattle.std.proofs.Common.{◌≡◌, ℕ, zero, suc, ◌-◌, ◌<◌, ◌≤◌, Bool, List, [], ◌∷◌, ◌++◌, length, take, drop, get_or, Some, refl, sym, ap, ◌∙◌, subst, arith, take_all, length-drop}
use Rattle.std.specs.Prelude.{slice_get, slice_set, if◌then◌else◌}
use Rattle.std.proofs.lemmas.List.{take-append-drop, take-append-le, length-set, length-take-le}
use Rattle.std.proofs.lemmas.Option.{slice_get_read}
use Rattle.tapa_base.specs.declared.token.Token.{Token}
use Rattle.net_core.specs.declared.ports.Ports.{Ports}
use Rattle.net_core.specs.Kinds.{AreTokensOf}
use Rattle.net_core.specs.Ports.{Adjusted, IsReloaded, kind_at, port_count, waiting, carried, waiting_by, carried_by, waiting_of, carried_of}
use Rattle.net_core.proofs.Tokens.{tokens_drop}
use Rattle.net_core.proofs.Moves.{get_set_same, reloaded}
use Rattle.tapa_base.proofs.Got.{get_drop as get_back}
use Rattle.net_core.proofs.load.offer_more.Goals.{After-index-low-j}
use Rattle.net_core.proofs.load.offer_more.Goals as goal

set_front : {A : Type 0} (xs : List A) (i m : ℕ) (y : A) → i < m → m ≤ length xs → slice_set (take m xs) i y ++ drop m xs ≡ slice_set xs i y
set_front [] i m y h l = absurd (omega arith)
set_front (x ∷ xs) i zero y h l = absurd (omega arith)
set_front (x ∷ xs) zero (suc m) y h l = ap (λ zs. y ∷ zs) (take-append-drop m xs)
set_front (x ∷ xs) (suc i) (suc m) y h l = ap (λ zs. x ∷ zs) (set_front xs i m y (omega arith) (omega arith))

set_back : {A : Type 0} (xs : List A) (i : ℕ) (y : A) → i < length xs → take i xs ++ slice_set (drop i xs) 0 y ≡ slice_set xs i y
set_back [] i y h = absurd (omega arith)
set_back (x ∷ xs) zero y h = refl
set_back (x ∷ xs) (suc i) y h = ap (λ zs. x ∷ zs) (set_back xs i y (omega arith))

get_front : {A : Type 0} (xs : List A) (i m : ℕ) → i < m → slice_get (take m xs) i ≡ slice_get xs i
get_front xs i zero h = absurd (omega arith)
get_front [] i (suc m) h = refl
get_front (x ∷ xs) zero (suc m) h = refl
get_front (x ∷ xs) (suc i) (suc m) h = get_front xs i m (omega arith)

written : {A : Type 0} (n : ℕ) (u zs xs : List A) → u ≡ zs → length zs ≡ n → take n (u ++ drop (length u) xs) ≡ zs
written n u zs xs e l = ap (λ v. take n (v ++ drop (length v) xs)) e ∙ take-append-le n zs (drop (length zs) xs) (omega arith) ∙ take_all n zs (omega arith)

-- a list that is cut at m: what is read in its two parts, and what it is after a write to one of them
module _ {A : Type 0} (xs low high : List A) (m : ℕ) (front : low ≡ take m xs) (back : high ≡ drop m xs) (inside : m < length xs) where
  low_at : (i : ℕ) (x : A) → i < m → x ≡ get_or low i x → slice_get xs i ≡ Some x
  low_at i x h is = let a = ap length front in let b = length-take-le m xs (omega arith) in sym (get_front xs i m h) ∙ ap (λ l. slice_get l i) (sym front) ∙ slice_get_read low _ i x refl (omega arith) is

  high_at : (x : A) → x ≡ get_or high 0 x → slice_get xs m ≡ Some x
  high_at x is = let a = ap length back in let b = length-drop m xs in sym (get_back xs m) ∙ ap (λ l. slice_get l 0) (sym back) ∙ slice_get_read high _ 0 x refl (omega arith) is

  low_set : (n i : ℕ) (y : A) → i < m → length xs ≡ n → take n ((slice_set low i y ++ high) ++ drop (length (slice_set low i y ++ high)) xs) ≡ slice_set xs i y
  low_set n i y h l =
      written n (slice_set low i y ++ high) (slice_set xs i y) xs
      (ap (λ l. slice_set l i y ++ high) front ∙ ap (λ l. slice_set (take m xs) i y ++ l) back ∙ set_front xs i m y h (omega arith)) (length-set xs i y ∙ l)

  high_set : (n : ℕ) (y : A) → length xs ≡ n → take n ((low ++ slice_set high 0 y) ++ drop (length (low ++ slice_set high 0 y)) xs) ≡ slice_set xs m y
  high_set n y l =
      written n (low ++ slice_set high 0 y) (slice_set xs m y) xs
      (ap (λ l. l ++ slice_set high 0 y) front ∙ ap (λ l. take m xs ++ slice_set l 0 y) back ∙ set_back xs m y inside) (length-set xs m y ∙ l)

-- port p of instance i got what the list at port q of instance j has from an index on
offers : (all new : List Ports) (i p j q from : ℕ) (x x' y z z' : Ports) (list : List Token) (ok : Bool) → i < length all → new ≡ slice_set all i y → slice_get all i ≡ Some x → x ≡ x' → slice_get all j ≡ Some z → z ≡ z' → list ≡ carried z' q → Adjusted x' p y → waiting y p ≡ (if ok then waiting x' p ++ take (length list - from) (drop from list) else waiting x' p) → IsReloaded all i p new × (waiting_of new i p ≡ (if ok then waiting_of all i p ++ drop from (carried_of all j q) else waiting_of all i p))
offers all new i p j q from x x' y z z' list ok inside is ex xe ez ze e adjusted waits = (
  reloaded all new i p x y ex is (subst (λ v. Adjusted v p y) (sym xe) adjusted),
  ap (λ l. waiting_of l i p) is ∙ ap (λ o. waiting_by o p) (get_set_same all i y inside) ∙ waits
      ∙ ap (λ w. if ok then w ++ take (length list - from) (drop from list) else w) (ap (λ v. waiting v p) (sym xe) ∙ sym (ap (λ o. waiting_by o p) ex))
      ∙ ap (λ l. if ok then waiting_of all i p ++ l else waiting_of all i p)
      (take_all (length list - from) (drop from list) (omega (arith, length-drop from list)) ∙ ap (drop from) (e ∙ ap (λ v. carried v q) (sym ze) ∙ sym (ap (λ o. carried_by o q) ez))),
)

pub returns-then-i-j : goal.returns-then-i-j
returns-then-i-j c =
    let all = c.args.all.now.items in
    let s = c.split_at_mut-low.ensures in
    let front = s.front ∙ ap (take c.args.j) c.deref_mut.ensures.value in
    let back = s.back ∙ ap (drop c.args.j) c.deref_mut.ensures.value in
    let k = c.args.all.now.ok.0 in
    let h : c.args.i < c.args.j = omega arith in
    let ex = low_at all _ _ c.args.j front back c.requires.writer c.args.i _ h c.index-low-i.is in
    let ey = high_at all _ _ c.args.j front back c.requires.writer _ c.index-high-0.is in
    let r =
    offers all _ c.args.i c.args.p c.args.j c.args.q c.args.from _ _ c.offer_more.new.self _ _ c.carried.result.now _ c.requires.reader
    (low_set all _ _ c.args.j front back c.requires.writer c.args.all.now.len c.args.i c.offer_more.new.self h (omega arith))
    ex c.index-low-i.is ey c.index-high-0.is c.carried.ensures.tokens c.offer_more.ensures.adjusted c.offer_more.ensures.waits
    in
    record { reloaded = r.0; waits = r.1 }

module _ (c : After-index-low-j) where
  front : c.split_at_mut-low-then-j-i.result.0.now ≡ take c.args.i c.args.all.now.items
  front = c.split_at_mut-low-then-j-i.ensures.front ∙ ap (take c.args.i) c.deref_mut-then-j-i.ensures.value

  back : c.split_at_mut-low-then-j-i.result.1.now ≡ drop c.args.i c.args.all.now.items
  back = c.split_at_mut-low-then-j-i.ensures.back ∙ ap (drop c.args.i) c.deref_mut-then-j-i.ensures.value

  reader : slice_get c.args.all.now.items c.args.i ≡ Some c.index-high-0-then-j-i.result
  reader = high_at c.args.all.now.items _ _ c.args.i front back c.requires.reader _ c.index-high-0-then-j-i.is

  writer : slice_get c.args.all.now.items c.args.j ≡ Some c.index-low-j.result
  writer = low_at c.args.all.now.items _ _ c.args.i front back c.requires.reader c.args.j _ (omega arith) c.index-low-j.is

pub carried-requires-then-j-i : goal.carried-requires-then-j-i
carried-requires-then-j-i c = subst (λ x. c.args.q < port_count x) c.index-low-j.is (c.requires.other_port c.index-low-j.result (writer (goal.at.carried-requires-then-j-i c).After-index-low-j))

pub offer_more-requires-then-j-i-clause-port : goal.offer_more-requires-then-j-i-clause-port
offer_more-requires-then-j-i-clause-port c =
    subst (λ x. c.args.p < port_count x) c.index-high-0-then-j-i.is (c.requires.port c.index-high-0-then-j-i.result (reader (goal.at.offer_more-requires-then-j-i-clause-port c).After-index-low-j))

pub offer_more-requires-then-j-i-clause-kind : goal.offer_more-requires-then-j-i-clause-kind
offer_more-requires-then-j-i-clause-kind c =
    let k = (goal.at.offer_more-requires-then-j-i-clause-kind c).After-index-low-j in
    let list = c.carried-then-j-i.result.now in
    let x = get_or c.split_at_mut-low-then-j-i.result.1.now 0 c.index-high-0-then-j-i.result in
    let same = c.requires.kind _ _ (reader k) (writer k) in
    subst (AreTokensOf (kind_at x c.args.p)) (sym (take_all (length list - c.args.from) (drop c.args.from list) (omega (arith, length-drop c.args.from list))))
    (tokens_drop (kind_at x c.args.p) c.args.from list
    (subst (λ k. AreTokensOf k list) (ap (λ x. kind_at x c.args.q) (sym c.index-low-j.is) ∙ same ∙ ap (λ x. kind_at x c.args.p) c.index-high-0-then-j-i.is) c.carried-then-j-i.ensures.kind))

pub returns-then-j-i : goal.returns-then-j-i
returns-then-j-i c =
    let all = c.args.all.now.items in
    let k = (goal.at.returns-then-j-i c).After-index-low-j in
    let o = c.args.all.now.ok.0 in
    let r =
    offers all _ c.args.i c.args.p c.args.j c.args.q c.args.from _ _ c.offer_more-then-j-i.new.self _ _ c.carried-then-j-i.result.now _ c.requires.reader
    (high_set all _ _ c.args.i (front k) (back k) c.requires.reader c.args.all.now.len c.offer_more-then-j-i.new.self (omega arith))
    (reader k) c.index-high-0-then-j-i.is (writer k) c.index-low-j.is c.carried-then-j-i.ensures.tokens c.offer_more-then-j-i.ensures.adjusted c.offer_more-then-j-i.ensures.waits
    in
    record { reloaded = r.0; waits = r.1 }
