-- The top task: its memories and scalars are bound to themselves; and the limits and the rules of the whole program.
use Rattle.std.proofs.Common.{◌≡◌, ◌<◌, ◌≤◌, ◌+◌, ℕ, zero, suc, List, [], ◌∷◌, ◌++◌, length, map, Bool, true, false, Some, None, refl, sym, ap, subst, ◌∙◌, arith, length-append}
use Rattle.std.specs.Prelude.{slice_get, nat_le}
use Rattle.std.specs.List.{list_any}
use Rattle.std.proofs.lemmas.Bool.{leb-false}
use Rattle.std.proofs.lemmas.List.{append-nil}
use Rattle.tapa_base.specs.declared.kind.Kind.{Kind}
use Rattle.tapa_base.specs.declared.text.Place.{Place}
use Rattle.tapa_syntax.specs.declared.program.Memory.{Memory}
use Rattle.tapa_syntax.specs.declared.program.Scalar.{Scalar}
use Rattle.tapa_syntax.specs.declared.program.Stream.{Stream}
use Rattle.tapa_syntax.specs.declared.tree.Parameter.{Parameter}
use Rattle.tapa_syntax.specs.declared.tree.Parameter.TheVariants as parameter
use Rattle.tapa_syntax.specs.Flat.{FlatBound, top_scalar, FlatInstance}
use Rattle.check_scope.specs.declared.fault.Broken.{Broken}
use Rattle.check_scope.specs.declared.fault.CheckCode.{CheckCode}
use Rattle.check_scope.specs.declared.fault.CheckCode.TheVariants.{C4, C5, C7, C11}
use Rattle.check_scope.specs.Faults.{over, where_so}
use Rattle.check_upper.specs.declared.task.Channel.{Channel}
use Rattle.check_upper.specs.Tasks.{Task}
use Rattle.check_scope.specs.One.{is_one, the_one, one_faults}
use Rattle.stream_check.specs.Parts.{Part, own, instance, too_deep, streams_in, instances_in}
use Rattle.stream_check.specs.Programs.{is_stream_parameter, top_scalars, top_memories, top_instance, limit_faults, instances_at, instances_with, stream_faults, stream_of, streams_faults, streams_of, memories_faults, memories_of, scalars_of}
use Rattle.stream_check.proofs.WellLists.{nothing, no_faults, holds, get_last, Pairs, pairs_push}
use Rattle.stream_check.proofs.WellPorts.{Ports, no_ports, with_stream, with_memory, with_scalar, with_ports, ports_of}
use Rattle.stream_check.proofs.WellParts.{Known, IsStream, IsMemory, IsScalar, Fits}
use Rattle.stream_check.proofs.WellUppers.{one_more as one_longer}
use Rattle.tapa_base.proofs.Got.{got_left as get_left, the_same}

-- ---- the ports of the top task

abbrev kind_of_memory : Memory → Kind
kind_of_memory m = m.kind

abbrev kind_of_scalar : Scalar → Kind
kind_of_scalar s = s.kind

pub joined : {A : Type 0} (xs : List A) (x : A) (ys : List A) → (xs ++ x ∷ []) ++ ys ≡ xs ++ x ∷ ys
joined [] x ys = refl
joined (y ∷ xs) x ys = ap (λ zs. y ∷ zs) (joined xs x ys)

memory_kinds : (is : List FlatInstance) (m : ℕ) (q : Ports) (ps : List Parameter) → (with_ports q ps).memories ≡ q.memories ++ map kind_of_memory (memories_of is m ps)
memory_kinds is m q [] = sym (append-nil q.memories)
memory_kinds is m q (parameter.InputStream k x ∷ ps) = memory_kinds is (m + 0) (with_stream false k q) ps
memory_kinds is m q (parameter.OutputStream k x ∷ ps) = memory_kinds is (m + 0) (with_stream true k q) ps
memory_kinds is m q (parameter.Memory constant k x ∷ ps) = memory_kinds is (m + 1) (with_memory k q) ps ∙ joined q.memories k (map kind_of_memory (memories_of is (m + 1) ps))
memory_kinds is m q (parameter.Scalar constant k x ∷ ps) = memory_kinds is (m + 0) (with_scalar k q) ps

pub memories_are : (is : List FlatInstance) (ps : List Parameter) → (ports_of ps).memories ≡ map kind_of_memory (memories_of is 0 ps)
memories_are is ps = memory_kinds is 0 no_ports ps

scalar_kinds : (q : Ports) (ps : List Parameter) → (with_ports q ps).scalars ≡ q.scalars ++ map kind_of_scalar (scalars_of ps)
scalar_kinds q [] = sym (append-nil q.scalars)
scalar_kinds q (parameter.InputStream k x ∷ ps) = scalar_kinds (with_stream false k q) ps
scalar_kinds q (parameter.OutputStream k x ∷ ps) = scalar_kinds (with_stream true k q) ps
scalar_kinds q (parameter.Memory constant k x ∷ ps) = scalar_kinds (with_memory k q) ps
scalar_kinds q (parameter.Scalar constant k x ∷ ps) = scalar_kinds (with_scalar k q) ps ∙ joined q.scalars k (map kind_of_scalar (scalars_of ps))

pub scalars_are : (ps : List Parameter) → (ports_of ps).scalars ≡ map kind_of_scalar (scalars_of ps)
scalars_are ps = scalar_kinds no_ports ps

-- ports stay where they are
kept_memory : (q : Ports) (ps : List Parameter) (n : ℕ) (k : Kind) → slice_get q.memories n ≡ Some k → slice_get (with_ports q ps).memories n ≡ Some k
kept_memory q [] n k h = h
kept_memory q (parameter.InputStream j x ∷ ps) n k h = kept_memory (with_stream false j q) ps n k h
kept_memory q (parameter.OutputStream j x ∷ ps) n k h = kept_memory (with_stream true j q) ps n k h
kept_memory q (parameter.Memory constant j x ∷ ps) n k h = kept_memory (with_memory j q) ps n k (get_left q.memories (j ∷ []) n k h)
kept_memory q (parameter.Scalar constant j x ∷ ps) n k h = kept_memory (with_scalar j q) ps n k h

kept_scalar : (q : Ports) (ps : List Parameter) (n : ℕ) (k : Kind) → slice_get q.scalars n ≡ Some k → slice_get (with_ports q ps).scalars n ≡ Some k
kept_scalar q [] n k h = h
kept_scalar q (parameter.InputStream j x ∷ ps) n k h = kept_scalar (with_stream false j q) ps n k h
kept_scalar q (parameter.OutputStream j x ∷ ps) n k h = kept_scalar (with_stream true j q) ps n k h
kept_scalar q (parameter.Memory constant j x ∷ ps) n k h = kept_scalar (with_memory j q) ps n k h
kept_scalar q (parameter.Scalar constant j x ∷ ps) n k h = kept_scalar (with_scalar j q) ps n k (get_left q.scalars (j ∷ []) n k h)

pub none_longer : (n m : ℕ) → n ≡ m → n + 0 ≡ m
none_longer n m e = omega arith

module _ (w : Known) where
  abbrev HaveMemories : Ports → List Parameter → Type 0
  HaveMemories q ps = (n : ℕ) (k : Kind) → slice_get (with_ports q ps).memories n ≡ Some k → slice_get w.memories n ≡ Some k

  memories_fit : (q : Ports) (ps : List Parameter) (n : ℕ) (ms : List ℕ) → n ≡ length q.memories → HaveMemories q ps → Pairs (IsMemory w) ms q.memories → Pairs (IsMemory w) (ms ++ top_memories n ps) (with_ports q ps).memories
  memories_fit q [] n ms e h f = subst (λ xs. Pairs (IsMemory w) xs q.memories) (sym (append-nil ms)) f
  memories_fit q (parameter.InputStream k x ∷ ps) n ms e h f = memories_fit (with_stream false k q) ps (n + 0) ms (none_longer n (length q.memories) e) h f
  memories_fit q (parameter.OutputStream k x ∷ ps) n ms e h f = memories_fit (with_stream true k q) ps (n + 0) ms (none_longer n (length q.memories) e) h f
  memories_fit q (parameter.Scalar constant k x ∷ ps) n ms e h f = memories_fit (with_scalar k q) ps (n + 0) ms (none_longer n (length q.memories) e) h f
  memories_fit q (parameter.Memory constant k x ∷ ps) n ms e h f =
      subst (λ xs. Pairs (IsMemory w) xs (with_ports (with_memory k q) ps).memories) (joined ms n (top_memories (n + 1) ps))
      (memories_fit (with_memory k q) ps (n + 1) (ms ++ n ∷ []) (one_longer q.memories k n e) h (pairs_push (IsMemory w) ms q.memories n k f (h n k (kept_memory (with_memory k q) ps n k (get_last q.memories k n e)))))

  abbrev HaveScalars : Ports → List Parameter → Type 0
  HaveScalars q ps = (n : ℕ) (k : Kind) → slice_get (with_ports q ps).scalars n ≡ Some k → slice_get w.scalars n ≡ Some k

  scalars_fit : (q : Ports) (ps : List Parameter) (n : ℕ) (bs : List FlatBound) → n ≡ length q.scalars → HaveScalars q ps → Pairs (IsScalar w) bs q.scalars → Pairs (IsScalar w) (bs ++ top_scalars n ps) (with_ports q ps).scalars
  scalars_fit q [] n bs e h f = subst (λ xs. Pairs (IsScalar w) xs q.scalars) (sym (append-nil bs)) f
  scalars_fit q (parameter.InputStream k x ∷ ps) n bs e h f = scalars_fit (with_stream false k q) ps (n + 0) bs (none_longer n (length q.scalars) e) h f
  scalars_fit q (parameter.OutputStream k x ∷ ps) n bs e h f = scalars_fit (with_stream true k q) ps (n + 0) bs (none_longer n (length q.scalars) e) h f
  scalars_fit q (parameter.Memory constant k x ∷ ps) n bs e h f = scalars_fit (with_memory k q) ps (n + 0) bs (none_longer n (length q.scalars) e) h f
  scalars_fit q (parameter.Scalar constant k x ∷ ps) n bs e h f =
      subst (λ xs. Pairs (IsScalar w) xs (with_ports (with_scalar k q) ps).scalars) (joined bs (top_scalar n []) (top_scalars (n + 1) ps))
      (scalars_fit (with_scalar k q) ps (n + 1) (bs ++ top_scalar n [] ∷ []) (one_longer q.scalars k n e) h (pairs_push (IsScalar w) bs q.scalars (top_scalar n []) k f (k, h n k (kept_scalar (with_scalar k q) ps n k (get_last q.scalars k n e)), refl)))

  no_streams : (q : Ports) (ps : List Parameter) → list_any is_stream_parameter ps ≡ false → (with_ports q ps).streams ≡ q.streams
  no_streams q [] h = refl
  no_streams q (parameter.InputStream k x ∷ ps) h = absurd (cc)
  no_streams q (parameter.OutputStream k x ∷ ps) h = absurd (cc)
  no_streams q (parameter.Memory constant k x ∷ ps) h = no_streams (with_memory k q) ps h
  no_streams q (parameter.Scalar constant k x ∷ ps) h = no_streams (with_scalar k q) ps h

  pub top_fits : (top : ℕ) (ps : List Parameter) → list_any is_stream_parameter ps ≡ false → w.memories ≡ (ports_of ps).memories → w.scalars ≡ (ports_of ps).scalars → Fits w (top_instance top ps) (ports_of ps)
  top_fits top ps none ms ss = record {
    streams = subst (Pairs (IsStream w) []) (sym (no_streams no_ports ps none)) tt;
    memories = memories_fit no_ports ps 0 [] refl (λ n k h. subst (λ ks. slice_get ks n ≡ Some k) (sym ms) h) tt;
    scalars = scalars_fit no_ports ps 0 [] refl (λ n k h. subst (λ ks. slice_get ks n ≡ Some k) (sym ss) h) tt;
  }

-- ---- limits

below_if : (n m : ℕ) → nat_le n m ≡ false → m < n
below_if n m e = leb-false n m e

within_one : (b : Bool) (n m : ℕ) (x : Broken) → nat_le n m ≡ b → where_so b (x ∷ []) ≡ [] → m < n
within_one true n m x e h = absurd (cc)
within_one false n m x e h = below_if n m e

pub limits : (s i : ℕ) (ps : List Part) → s ≤ 1024 → i ≤ 512 → limit_faults s i ps ≡ [] → (s + length (streams_in ps) ≤ 1024) × (i + length (instances_in ps) ≤ 512)
limits s i [] a b h = (omega arith, omega arith)
limits s i (own c ∷ ps) a b h =
    let f = no_faults (where_so (nat_le 1024 s) (over 1024 c.place)) (limit_faults (s + 1) i ps) h in
    let l = within_one (nat_le 1024 s) 1024 s (record { code = C11; place = c.place; limit = Some 1024 }) refl f.0 in
    let r = limits (s + 1) i ps (omega arith) b f.1 in
    let x = r.0 in
    (omega arith, r.1)
limits s i (instance at x ∷ ps) a b h =
    let f = no_faults (where_so (nat_le 512 i) (over 512 at)) (limit_faults s (i + 1) ps) h in
    let l = within_one (nat_le 512 i) 512 i (record { code = C11; place = at; limit = Some 512 }) refl f.0 in
    let r = limits s (i + 1) ps a (omega arith) f.1 in
    let y = r.1 in
    (r.0, omega arith)
limits s i (too_deep at ∷ ps) a b h = absurd (cc)

-- ---- streams and memories

abbrev the_fault : CheckCode → Place → Broken
the_fault code place = record { code = code; place = place; limit = None }

pub streams_one : (tasks : List Task) (is : List FlatInstance) (k : ℕ) (cs : List Channel) → streams_faults tasks is k cs ≡ [] → (s : ℕ) (c : Channel) → slice_get cs s ≡ Some c → (slice_get (streams_of tasks is k cs) s ≡ Some (stream_of tasks is (k + s) c)) × (is_one (instances_at tasks (k + s) true 0 is) ≡ true) × (is_one (instances_at tasks (k + s) false 0 is) ≡ true)
streams_one tasks is k [] h s c a = absurd (nothing c a)
streams_one tasks is k (d ∷ cs) h zero c a =
    let f = no_faults (stream_faults tasks is k d) (streams_faults tasks is (k + 1) cs) h in
    let g = no_faults (one_faults C4 d.place (instances_at tasks k true 0 is)) (one_faults C5 d.place (instances_at tasks k false 0 is)) f.0 in
    let z : k ≡ k + 0 = omega arith in
    subst (λ n. (Some (stream_of tasks is k d) ≡ Some (stream_of tasks is n c)) × (is_one (instances_at tasks n true 0 is) ≡ true) × (is_one (instances_at tasks n false 0 is) ≡ true)) z
    (ap (λ e. Some (stream_of tasks is k e)) (the_same d c a), holds (is_one (instances_at tasks k true 0 is)) (the_fault C4 d.place) g.0, holds (is_one (instances_at tasks k false 0 is)) (the_fault C5 d.place) g.1)
streams_one tasks is k (d ∷ cs) h (suc s) c a =
    let f = no_faults (stream_faults tasks is k d) (streams_faults tasks is (k + 1) cs) h in
    let z : k + 1 + s ≡ k + suc s = omega arith in
    subst (λ n. (slice_get (streams_of tasks is (k + 1) cs) s ≡ Some (stream_of tasks is n c)) × (is_one (instances_at tasks n true 0 is) ≡ true) × (is_one (instances_at tasks n false 0 is) ≡ true)) z (streams_one tasks is (k + 1) cs f.1 s c a)

pub streams_from : (tasks : List Task) (is : List FlatInstance) (k : ℕ) (cs : List Channel) (s : ℕ) (r : Stream) → slice_get (streams_of tasks is k cs) s ≡ Some r → (c : Channel) × (slice_get cs s ≡ Some c)
streams_from tasks is k [] s r a = absurd (nothing r a)
streams_from tasks is k (d ∷ cs) zero r a = (d, refl)
streams_from tasks is k (d ∷ cs) (suc s) r a = streams_from tasks is (k + 1) cs s r a

pub memories_one : (is : List FlatInstance) (k : ℕ) (ps : List Parameter) → memories_faults is k ps ≡ [] → (m : ℕ) (r : Memory) → slice_get (memories_of is k ps) m ≡ Some r → (r.owner ≡ the_one (instances_with (k + m) 0 is)) × (is_one (instances_with (k + m) 0 is) ≡ true)
memories_one is k [] h m r a = absurd (nothing r a)
memories_one is k (parameter.InputStream j x ∷ ps) h m r a = let z : k + 0 + m ≡ k + m = omega arith in subst (λ n. (r.owner ≡ the_one (instances_with n 0 is)) × (is_one (instances_with n 0 is) ≡ true)) z (memories_one is (k + 0) ps h m r a)
memories_one is k (parameter.OutputStream j x ∷ ps) h m r a = let z : k + 0 + m ≡ k + m = omega arith in subst (λ n. (r.owner ≡ the_one (instances_with n 0 is)) × (is_one (instances_with n 0 is) ≡ true)) z (memories_one is (k + 0) ps h m r a)
memories_one is k (parameter.Scalar constant j x ∷ ps) h m r a = let z : k + 0 + m ≡ k + m = omega arith in subst (λ n. (r.owner ≡ the_one (instances_with n 0 is)) × (is_one (instances_with n 0 is) ≡ true)) z (memories_one is (k + 0) ps h m r a)
memories_one is k (parameter.Memory constant j x ∷ ps) h zero r a =
    let f = no_faults (one_faults C7 x.place (instances_with k 0 is)) (memories_faults is (k + 1) ps) h in
    let z : k ≡ k + 0 = omega arith in
    subst (λ n. (r.owner ≡ the_one (instances_with n 0 is)) × (is_one (instances_with n 0 is) ≡ true)) z
    (ap (λ (v : Memory). v.owner) (sym (the_same (record { name = x.text; kind = j; constant = constant; owner = the_one (instances_with k 0 is) }) r a)), holds (is_one (instances_with k 0 is)) (the_fault C7 x.place) f.0)
memories_one is k (parameter.Memory constant j x ∷ ps) h (suc m) r a =
    let f = no_faults (one_faults C7 x.place (instances_with k 0 is)) (memories_faults is (k + 1) ps) h in
    let z : k + 1 + m ≡ k + suc m = omega arith in
    subst (λ n. (r.owner ≡ the_one (instances_with n 0 is)) × (is_one (instances_with n 0 is) ≡ true)) z (memories_one is (k + 1) ps f.1 m r a)
