-- What the loops keep that take a net apart and put it together.
use Rattle.std.proofs.Common.{◌≡◌, ℕ, zero, suc, ◌+◌, ◌*◌, ◌<◌, ◌≤◌, List, [], ◌∷◌, ◌++◌, length, Option, Some, refl, sym, ap, ◌∙◌, subst, ⊎_elim, arith, length-append, append_assoc}
use Rattle.std.specs.Prelude.{slice_get, slice_set, Vec}
use Rattle.std.specs.declared.alloc.Global.{Global}
use Rattle.std.proofs.lemmas.Bool.{cases_eq}
use Rattle.std.proofs.lemmas.List.{length-set}
use Rattle.std.proofs.lemmas.Option.{slice_get_within}
use Rattle.tapa_syntax.specs.declared.program.Program.{Program}
use Rattle.net_core.specs.declared.ports.Ports.{Ports}
use Rattle.net_core.specs.Bindings.{arity, depth_of}
use Rattle.net_core.proofs.Loaded.{each_push}
use Rattle.net_core.proofs.Moves.{get_set_same, get_set_other, set_some}
use Rattle.net_case.specs.declared.batch.Process.{Process}
use Rattle.net_case.specs.declared.queue.Queue.{Queue}
use Rattle.net_case.specs.Queue.{waits, space}
use Rattle.net_case.specs.Make.{AreEmptyQueues, AreLimits, AreBroughtHome, AreParted}
use Rattle.net_core.proofs.Chunk.{get_past}

pub queues_push : (program : Program) (n : ℕ) (xs zs : List Queue) (q : Queue) → zs ≡ xs ++ q ∷ [] → waits q ≡ [] → 2 * depth_of program n ≤ space q → AreEmptyQueues program n xs → AreEmptyQueues program (n + 1) zs
queues_push program n xs zs q e empty room h =
    let l = ap length e in
    let a = length-append xs (q ∷ []) in
    let len = h.len in
    record {
      len = omega arith;
      empty = each_push xs zs q (λ s x. waits x ≡ []) e h.empty empty;
      spaces = each_push xs zs q (λ s x. 2 * depth_of program s ≤ space x) e h.spaces (subst (λ m. 2 * depth_of program m ≤ space q) (sym len) room);
    }

pub limits_push : (program : Program) (n : ℕ) (xs zs : List (Vec ℕ Global)) (v : Vec ℕ Global) → zs ≡ xs ++ v ∷ [] → length v.items ≡ arity program n → AreLimits program n xs → AreLimits program (n + 1) zs
limits_push program n xs zs v e many h =
    let l = ap length e in
    let a = length-append xs (v ∷ []) in
    let len = h.len in
    record {
      len = omega arith;
      each = each_push xs zs v (λ i x. length x.items ≡ arity program i) e h.each (subst (λ m. length v.items ≡ arity program m) (sym len) many);
    }

-- the last of a list's front part
pub last_of : {A : Type 0} (old front new r : List A) (y : A) → old ≡ front ++ r → front ≡ new ++ y ∷ [] → old ≡ new ++ (y ∷ r)
last_of old front new r y e g = e ∙ ap (λ l. l ++ r) g ∙ append_assoc new (y ∷ []) r

pub last_at : {A : Type 0} (old new r : List A) (y : A) (m : ℕ) → old ≡ new ++ (y ∷ r) → length new ≡ m → slice_get old m ≡ Some y
last_at old new r y m e l = ap (λ z. slice_get z m) e ∙ subst (λ n. slice_get (new ++ y ∷ r) n ≡ Some y) l (get_past new r y)

-- before the first is brought home
pub brought_none : {B : Type 0} (m : ℕ) (limits : List (Vec ℕ Global)) (bodies : List B) (ports : List Ports) (homes : List (Option (Process B))) → length homes ≤ m → AreBroughtHome m limits bodies ports homes
brought_none m limits bodies ports homes l = record {
  home = λ i a b. absurd (omega arith);
  body = λ i x a e. let w = slice_get_within homes i (Some x) e in absurd (omega arith);
  port = λ i x a e. let w = slice_get_within homes i (Some x) e in absurd (omega arith);
  limit = λ i x a e. let w = slice_get_within homes i (Some x) e in absurd (omega arith);
}

-- one more instance is at home
module _ {B : Type 0} (m : ℕ) (limits : List (Vec ℕ Global)) (bodies : List B) (ports : List Ports) (homes : List (Option (Process B))) (x : Process B) (inside : m < length homes) (h : AreBroughtHome (m + 1) limits bodies ports homes) where
  abbrev homes' : List (Option (Process B))
  homes' = slice_set homes m (Some x)

  here : slice_get homes' m ≡ Some (Some x)
  here = get_set_same homes m (Some x) inside

  else_at : (i : ℕ) → (i ≡ m → ⊥) → slice_get homes' i ≡ slice_get homes i
  else_at i d = get_set_other homes m i (Some x) (λ e. d (sym e))

  by_place : {X : Type 0} (xs : List X) (part : Process B → X) → slice_get xs m ≡ Some (part x) → ((i : ℕ) (y : Process B) → m + 1 ≤ i → slice_get homes i ≡ Some (Some y) → slice_get xs i ≡ Some (part y)) → (i : ℕ) (y : Process B) → m ≤ i → slice_get homes' i ≡ Some (Some y) → slice_get xs i ≡ Some (part y)
  by_place xs part at old i y l e = set_some (λ n w. slice_get xs n ≡ Some (part w)) homes m i x y at (λ d. old i y (omega arith)) e

  pub brought_more : slice_get bodies m ≡ Some x.body → slice_get ports m ≡ Some x.ports → slice_get limits m ≡ Some x.limits → AreBroughtHome m limits bodies ports homes'
  brought_more eb ep el = record {
    home = λ i l w.
        ⊎_elim
        (λ (q : i ≡ m). (x, subst (λ n. slice_get homes' n ≡ Some (Some x)) (sym q) here))
        (λ (d : i ≡ m → ⊥). let o = h.home i (omega arith) (let s = length-set homes m (Some x) in omega arith) in (o.0, else_at i d ∙ o.1))
        (cases_eq i m);
    body = by_place bodies (λ (y : Process B). y.body) eb h.body;
    port = by_place ports (λ (y : Process B). y.ports) ep h.port;
    limit = by_place limits (λ (y : Process B). y.limits) el h.limit;
  }

-- one more instance is parted
pub parted_more : {B : Type 0} (n : ℕ) (homes : List (Option (Process B))) (bodies bodies' : List B) (ports ports' : List Ports) (x : Process B) → slice_get homes n ≡ Some (Some x) → bodies' ≡ bodies ++ x.body ∷ [] → ports' ≡ ports ++ x.ports ∷ [] → AreParted n homes bodies ports → AreParted (n + 1) homes bodies' ports'
parted_more {B} n homes bodies bodies' ports ports' x at eb ep h =
    let lb = ap length eb in
    let lp = ap length ep in
    let ab = length-append bodies (x.body ∷ []) in
    let ap' = length-append ports (x.ports ∷ []) in
    let hb = h.bodies_len in
    let hp = h.ports_len in
    record {
      bodies_len = omega arith;
      ports_len = omega arith;
      body = λ i y l e. each bodies bodies' (λ (z : Process B). z.body) eb hb h.body i y l e;
      port = λ i y l e. each ports ports' (λ (z : Process B). z.ports) ep hp h.port i y l e;
    }
  where
    before : {X : Type 0} (xs : List X) (y : X) (i : ℕ) → i < length xs → slice_get (xs ++ y ∷ []) i ≡ slice_get xs i
    before [] y i l = absurd (omega arith)
    before (z ∷ zs) y zero l = refl
    before (z ∷ zs) y (suc i) l = before zs y i (omega arith)

    each : {X : Type 0} (xs xs' : List X) (part : Process B → X) → xs' ≡ xs ++ part x ∷ [] → length xs ≡ n → ((i : ℕ) (y : Process B) → i < n → slice_get homes i ≡ Some (Some y) → slice_get xs i ≡ Some (part y)) → (i : ℕ) (y : Process B) → i < n + 1 → slice_get homes i ≡ Some (Some y) → slice_get xs' i ≡ Some (part y)
    each xs xs' part e len old i y l g =
        ⊎_elim
        (λ (q : i ≡ n).
        let same : x ≡ y = let z = sym at ∙ subst (λ m. slice_get homes m ≡ Some (Some y)) q g in cc in
        last_at xs' xs [] (part y) i (e ∙ ap (λ z. xs ++ part z ∷ []) same) (len ∙ sym q))
        (λ (d : i ≡ n → ⊥). ap (λ z. slice_get z i) e ∙ before xs (part x) i (omega arith) ∙ old i y (omega arith) g)
        (cases_eq i n)
