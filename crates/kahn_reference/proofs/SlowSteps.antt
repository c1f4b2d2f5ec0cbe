-- One operation on a stream, as a run over lists makes it.
use Rattle.std.proofs.Common.{◌≡◌, ℕ, ◌+◌, ◌<◌, ◌≤◌, List, [], ◌∷◌, ◌++◌, length, get_or, drop, true, false, ◌&&◌, Some, sym, ap, ◌∙◌, subst, ⊎_elim, arith, append_assoc}
use Rattle.std.specs.Prelude.{◌==◌, slice_get, slice_index, slice_set, if◌then◌else◌, Vec}
use Rattle.std.specs.declared.alloc.Global.{Global}
use Rattle.std.proofs.Math.Path.{fun_ext}
use Rattle.std.proofs.lemmas.Bool.{cases_eq}
use Rattle.std.proofs.lemmas.Bool.Decides.{nat_tests}
use Rattle.std.proofs.lemmas.List.{append-nil, drop_all, drop_more, drop-drop, get_or-set_same, get_or-set_other, get_or_default}
use Rattle.std.proofs.lemmas.Option.{slice_get_past, slice_get-get_or}
use Rattle.tapa_base.specs.declared.token.Token.{Token}
use Rattle.kahn_model.specs.Behavior.{Behavior, Await, NoToken, WrongToken, Answer, judge_token, first_offer, takes, tick_of, lists_after, on_offer, ticks, trace_end}
use Rattle.kahn_model.specs.declared.tick.Tick.{Tick}
use Rattle.kahn_model.specs.declared.tick.StreamOperation.{StreamOperation}
use Rattle.kahn_model.specs.declared.tick.TraceEnd.TheVariants.{Needs, Bad}
use Rattle.kahn_reference.specs.Slow.{row_at, feed, GoesOn, Stops}

found_none : (how : StreamOperation) (l : List Token) → l ≡ [] → first_offer how l ≡ NoToken
found_none how l e = ap (first_offer how) e

found_some : (how : StreamOperation) (l rest : List Token) (t : Token) → l ≡ t ∷ rest → first_offer how l ≡ judge_token how t
found_some how l rest t e = ap (first_offer how) e

pub ask_none : (how : StreamOperation) (s : ℕ) (ins : ℕ → List Token) (before : List Tick) → ins s ≡ [] → (go : ℕ → Behavior) → Stops before (Await s how go) ins before (Needs s)
ask_none how s ins before e go =
    let f = found_none how (ins s) e in
    record {
      ticks_are = ap (λ o. before ++ on_offer o [] [] (λ t v. tick_of how s t ∷ ticks (go v) (lists_after how s ins))) f ∙ append-nil before;
      trace_end_is = ap (λ o. on_offer o (Needs s) (Bad s) (λ t v. trace_end (go v) (lists_after how s ins))) f;
    }

pub ask_wrong : (how : StreamOperation) (s : ℕ) (ins : ℕ → List Token) (before : List Tick) (t : Token) (rest : List Token) → ins s ≡ t ∷ rest → judge_token how t ≡ WrongToken → (go : ℕ → Behavior) → Stops before (Await s how go) ins before (Bad s)
ask_wrong how s ins before t rest e j go =
    let f = found_some how (ins s) rest t e ∙ j in
    record {
      ticks_are = ap (λ o. before ++ on_offer o [] [] (λ t v. tick_of how s t ∷ ticks (go v) (lists_after how s ins))) f ∙ append-nil before;
      trace_end_is = ap (λ o. on_offer o (Needs s) (Bad s) (λ t v. trace_end (go v) (lists_after how s ins))) f;
    }

pub ask_got : (how : StreamOperation) (s : ℕ) (ins outs : ℕ → List Token) (before after : List Tick) (x : Tick) (t : Token) (v : ℕ) (rest : List Token) → ins s ≡ t ∷ rest → judge_token how t ≡ Answer t v → x ≡ tick_of how s t → after ≡ before ++ x ∷ [] → outs ≡ lists_after how s ins → (go : ℕ → Behavior) → GoesOn before (Await s how go) ins after (go v) outs
ask_got how s ins outs before after x t v rest e j ex ea eo go =
    let f = found_some how (ins s) rest t e ∙ j in
    record {
      ticks_are =
          ap (λ o. before ++ on_offer o [] [] (λ t v. tick_of how s t ∷ ticks (go v) (lists_after how s ins))) f
          ∙ ap (λ o. before ++ tick_of how s t ∷ ticks (go v) o) (sym eo)
          ∙ sym (append_assoc before (tick_of how s t ∷ []) (ticks (go v) outs))
          ∙ ap (λ y. before ++ y ∷ [] ++ ticks (go v) outs) (sym ex)
          ∙ ap (λ y. y ++ ticks (go v) outs) (sym ea);
      trace_end_is = ap (λ o. on_offer o (Needs s) (Bad s) (λ t v. trace_end (go v) (lists_after how s ins))) f ∙ ap (trace_end (go v)) (sym eo);
    }

-- what is left of a list
pub feed_past : (lists : List (Vec Token Global)) (heads : List ℕ) (s : ℕ) → length lists ≤ s → feed lists heads s ≡ []
feed_past lists heads s h = ap (λ o. drop (slice_index heads s) (row_at o)) (slice_get_past lists s h) ∙ drop_all (slice_index heads s) [] (omega arith)

pub feed_is : (lists : List (Vec Token Global)) (heads : List ℕ) (s at : ℕ) (v : Vec Token Global) → length heads ≡ length lists → s < length lists → v ≡ get_or lists s v → at ≡ get_or heads s at → feed lists heads s ≡ drop at v.items
feed_is lists heads s at v e h ev ea =
    let there : slice_get lists s ≡ Some v = slice_get-get_or lists s v h ∙ ap Some (sym ev) in
    let here : slice_index heads s ≡ at = get_or_default heads s 0 at (omega arith) ∙ sym ea in
    ap (λ o. drop (slice_index heads s) (row_at o)) there ∙ ap (λ n. drop n v.items) here

pub feed_end : (lists : List (Vec Token Global)) (heads : List ℕ) (s at : ℕ) (v : Vec Token Global) → length heads ≡ length lists → s < length lists → v ≡ get_or lists s v → at ≡ get_or heads s at → length v.items ≤ at → feed lists heads s ≡ []
feed_end lists heads s at v e h ev ea l = feed_is lists heads s at v e h ev ea ∙ drop_all at v.items l

pub feed_next : (lists : List (Vec Token Global)) (heads : List ℕ) (s at : ℕ) (v : Vec Token Global) (t : Token) → length heads ≡ length lists → s < length lists → v ≡ get_or lists s v → at ≡ get_or heads s at → at < length v.items → t ≡ get_or v.items at t → feed lists heads s ≡ t ∷ drop (at + 1) v.items
feed_next lists heads s at v t e h ev ea l et =
    feed_is lists heads s at v e h ev ea ∙ drop_more v.items at t l ∙ ap (λ y. y ∷ drop (at + 1) v.items) (sym et)

-- an operation that leaves the token
pub feed_stays : (how : StreamOperation) (s : ℕ) (ins : ℕ → List Token) → false ≡ takes how → ins ≡ lists_after how s ins
feed_stays how s ins e = fun_ext (λ p. ap (λ b. if b && s == p then drop 1 (ins p) else ins p) e)

if_same : (s : ℕ) (x y : List Token) → (if s == s then x else y) ≡ x
if_same s x y = grind (arith, nat_tests)

if_other : (s p : ℕ) (x y : List Token) → (s ≡ p → ⊥) → (if s == p then x else y) ≡ y
if_other s p x y d = grind (arith, nat_tests)

-- and one that takes it
feed_took_at : (lists : List (Vec Token Global)) (heads : List ℕ) (s at : ℕ) → s < length heads → at ≡ get_or heads s at → (p : ℕ) → feed lists (slice_set heads s (at + 1)) p ≡ (if s == p then drop 1 (feed lists heads p) else feed lists heads p)
feed_took_at lists heads s at h ea p =
    ⊎_elim
    (λ (e : s ≡ p). subst (λ q. feed lists (slice_set heads s (at + 1)) q ≡ (if s == q then drop 1 (feed lists heads q) else feed lists heads q)) e
    (ap (λ n. drop n (row_at (slice_get lists s))) (get_or-set_same heads s (at + 1) 0 h)
    ∙ sym (drop-drop 1 at (row_at (slice_get lists s)))
    ∙ ap (λ n. drop 1 (drop n (row_at (slice_get lists s)))) (ea ∙ get_or_default heads s at 0 h)
    ∙ sym (if_same s (drop 1 (feed lists heads s)) (feed lists heads s))))
    (λ (d : s ≡ p → ⊥).
    ap (λ n. drop n (row_at (slice_get lists p))) (get_or-set_other heads s p (at + 1) 0 (λ q. d (sym q)))
    ∙ sym (if_other s p (drop 1 (feed lists heads p)) (feed lists heads p) d))
    (cases_eq s p)

pub feed_took : (how : StreamOperation) (lists : List (Vec Token Global)) (heads : List ℕ) (s at : ℕ) → s < length heads → at ≡ get_or heads s at → true ≡ takes how → feed lists (slice_set heads s (at + 1)) ≡ lists_after how s (feed lists heads)
feed_took how lists heads s at h ea e =
    fun_ext (λ p. feed_took_at lists heads s at h ea p ∙ ap (λ b. if b && s == p then drop 1 (feed lists heads p) else feed lists heads p) e)
