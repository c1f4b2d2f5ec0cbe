-- New tables.
use Rattle.std.proofs.Common.{◌≡◌, ℕ, zero, suc, ◌+◌, ◌<◌, List, [], ◌∷◌, ◌++◌, length, map, take, drop, Bool, true, false, Option, Some, None, refl, sym, ap, ◌∙◌, subst, arith}
use Rattle.std.specs.Prelude.{slice_get, replicate, slice_index, if◌then◌else◌}
use Rattle.std.proofs.lemmas.List.{map-append}
use Rattle.std.proofs.lemmas.Option.{slice_get_within}
use Rattle.tapa_syntax.specs.declared.program.End.{End}
use Rattle.net_core.specs.declared.port.Port.{Port}
use Rattle.net_core.proofs.Chunk.{take_get}
use Rattle.net_core.proofs.Loaded.{each_push}
use Rattle.std.proofs.Math.Path.{fun_ext}
use Rattle.kahn_model.specs.declared.tick.Tick.{Tick}
use Rattle.tapa_syntax.specs.declared.program.Program.{Program}
use Rattle.kahn_model.specs.Network.{Network}
use Rattle.kahn_model.specs.Counts.{total, written, taken, zeros, IsReachable}
use Rattle.kahn_model.specs.Outcome.{joined_part, joined_ticks}
use Rattle.kahn_model.proofs.Joined.{total_same}
use Rattle.net_core.specs.declared.streams.Streams.{Streams}
use Rattle.net_core.specs.declared.body.Pause.{Pause}
use Rattle.net_core.specs.declared.input.Input.{Input}
use Rattle.net_core.specs.Job.{Job}
use Rattle.net_core.specs.Ports.{carried_of, waiting_of}
use Rattle.net_core.specs.Bindings.{stream_at, producer_of, IsWriter, TellsFedBySelf}
use Rattle.net_core.specs.Bounded.{network_on, instance_job, count_of, IsGiven, AreBound, IsNetAt}
use Rattle.net_core.specs.Load.{HasTables}
use Rattle.net_core.proofs.Moves.{replicated}

-- what holds at each index of a list and of one more element
pub get_push : {A X : Type 0} (f : Option A → X) (xs : List A) (y : A) (P : ℕ → X → Type 0) → ((i : ℕ) → i < length xs → P i (f (slice_get xs i))) → P (length xs) (f (Some y)) → (i : ℕ) → i < length xs + 1 → P i (f (slice_get (xs ++ y ∷ []) i))
get_push f [] y P h g zero l = g
get_push f [] y P h g (suc i) l = absurd (omega arith)
get_push f (x ∷ xs) y P h g zero l = h zero (omega arith)
get_push f (x ∷ xs) y P h g (suc i) l = get_push f xs y (λ n. P (suc n)) (λ n k. h (suc n) (omega arith)) g i (omega arith)

pub get_push_all : {A X : Type 0} (f : Option A → X) (z : X) (xs : List A) (y : A) → ((i : ℕ) → f (slice_get xs i) ≡ z) → f (Some y) ≡ z → (i : ℕ) → f (slice_get (xs ++ y ∷ []) i) ≡ z
get_push_all f z [] y h g zero = g
get_push_all f z [] y h g (suc i) = h (suc i)
get_push_all f z (x ∷ xs) y h g zero = h zero
get_push_all f z (x ∷ xs) y h g (suc i) = get_push_all f z xs y (λ n. h (suc n)) g i

pub ends_push : (ports zs : List Port) (p : Port) (ends : List End) (n : ℕ) → zs ≡ ports ++ p ∷ [] → map (λ (p : Port). p.end) ports ≡ take n ends → slice_get ends n ≡ Some p.end → map (λ (p : Port). p.end) zs ≡ take (n + 1) ends
ends_push ports zs p ends n e h g =
    ap (map (λ (p : Port). p.end)) e ∙ map-append (λ (p : Port). p.end) ports (p ∷ []) ∙ ap (λ l. l ++ p.end ∷ []) h
    ∙ sym (take_get n ends p.end g) ∙ ap (λ m. take m ends) (let q : suc n ≡ n + 1 = omega arith in q)

abbrev pub no_pauses : ℕ → List (Option Pause)
no_pauses n = replicate n None

pub none_at : (n i : ℕ) → i < n → slice_get (no_pauses n) i ≡ Some None
none_at zero i l = absurd (omega arith)
none_at (suc n) zero l = refl
none_at (suc n) (suc i) l = none_at n i (omega arith)

pub zero_at : (n i : ℕ) → slice_index (replicate n 0) i ≡ 0
zero_at zero i = refl
zero_at (suc n) zero = refl
zero_at (suc n) (suc i) = zero_at n i

pub zero_count : (n : ℕ) → zeros ≡ count_of (replicate n 0)
zero_count n = fun_ext (λ i. sym (zero_at n i))

pub zero_total : (m : ℕ) → total m zeros ≡ 0
zero_total zero = refl
zero_total (suc m) = let a = zero_total m in omega arith

pub zero_joined : (net : Network) → joined_ticks net zeros ≡ 0
zero_joined net = total_same net.size (joined_part net zeros) zeros (λ i l. none (net.detached i) (zeros i) refl) ∙ zero_total net.size
  where
    none : (b : Bool) (n : ℕ) → n ≡ 0 → (if b then 0 else n) ≡ n
    none true n e = sym e
    none false n e = refl

pub writer_push : (program : Program) (xs zs : List ℕ) (y : ℕ) → zs ≡ xs ++ y ∷ [] → ((s : ℕ) → s < length xs → IsWriter program s (producer_of program s) (slice_index xs s)) → IsWriter program (length xs) (producer_of program (length xs)) y → (s : ℕ) → s < length xs + 1 → IsWriter program s (producer_of program s) (slice_index zs s)
writer_push program xs zs y e h g s l = subst (λ v. IsWriter program s (producer_of program s) (slice_index v s)) (sym e) (go xs (λ s p. IsWriter program s (producer_of program s) p) h g s l)
  where
    go : (xs : List ℕ) (P : ℕ → ℕ → Type 0) → ((s : ℕ) → s < length xs → P s (slice_index xs s)) → P (length xs) y → (s : ℕ) → s < length xs + 1 → P s (slice_index (xs ++ y ∷ []) s)
    go [] P h g zero l = g
    go [] P h g (suc s) l = absurd (omega arith)
    go (x ∷ xs) P h g zero l = h zero (omega arith)
    go (x ∷ xs) P h g (suc s) l = go xs (λ n. P (suc n)) (λ n k. h (suc n) (omega arith)) g s (omega arith)

pub first_net : {B : Type 0} (Stands : B → Job → List Tick → Type 0) (program : Program) (input : Input) → IsGiven program input → (bodies : List B) (t : Streams) (fed : List Bool) (counts : List ℕ) (pauses : List (Option Pause)) → length bodies ≡ length program.instances.items → HasTables program t → AreBound program t.writers.items fed → length counts ≡ length program.instances.items → length pauses ≡ length program.instances.items → ((i : ℕ) (b : B) → slice_get bodies i ≡ Some b → Stands b (instance_job program input i) []) → ((i p : ℕ) → carried_of t.ports.items i p ≡ []) → ((i p : ℕ) → waiting_of t.ports.items i p ≡ []) → ((s : ℕ) → slice_index t.taken.items s ≡ 0) → ((s : ℕ) → slice_index t.offered.items s ≡ 0) → ((i : ℕ) (x : Pause) → slice_get pauses i ≡ Some (Some x) → ⊥) → zeros ≡ count_of counts → IsNetAt Stands program input bodies t fed counts pauses
first_net Stands program input given bodies t fed counts pauses lb tables bound lc lu first none wz tz oz unpaused z = record {
  given = given;
  bound = bound;
  answered = record { counts_len = lc; pauses_len = lu; paused = λ i x e. absurd (unpaused i x e); unresumed = λ i e. sym (ap (λ m. m i) z) };
  reachable = subst (IsReachable (network_on program input)) z (record { steps = []; allowed = tt; is_after = λ i. refl });
  bodies_len = lb;
  tables = tables;
  standing = λ i b e. record { ticks = []; stands = first i b e; count = ap (λ m. m i) z; tests = 0; runs = tt };
  carries = λ i p l d. none i p ∙ ap (λ m. written (network_on program input) m (stream_at program i p)) z;
  took = λ s l. tz s ∙ ap (λ m. length (taken (network_on program input) m s)) z;
  queued = record {
    waits = λ i p l d. wz i p ∙ sym (ap (λ n. drop n (take (slice_index t.offered.items (stream_at program i p)) (written (network_on program input) (count_of counts) (stream_at program i p)))) (tz (stream_at program i p)) ∙ ap (λ n. take n (written (network_on program input) (count_of counts) (stream_at program i p))) (oz (stream_at program i p)));
    offered_within = λ s l. let e = oz s in omega arith;
    taken_within = λ s l. let e = tz s in omega arith;
  };
}

pub not_some : (n i : ℕ) (x : Pause) → slice_get (no_pauses n) i ≡ Some (Some x) → ⊥
not_some n i x e = let q = replicated n i None (Some x) e in cc

pub fed_push : (program : Program) (xs zs : List Bool) (y : Bool) → zs ≡ xs ++ y ∷ [] → ((i : ℕ) (b : Bool) → i < length xs → slice_get xs i ≡ Some b → TellsFedBySelf program i b) → TellsFedBySelf program (length xs) y → (i : ℕ) (b : Bool) → i < length zs → slice_get zs i ≡ Some b → TellsFedBySelf program i b
fed_push program xs zs y e h g i b l at = each_push xs zs y (TellsFedBySelf program) e (λ n c k. h n c (slice_get_within xs n c k) k) g i b at
