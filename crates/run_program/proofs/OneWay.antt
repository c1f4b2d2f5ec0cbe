-- Programs that are one as plain data run alike, and a program runs in one way.
use Rattle.std.proofs.Common.{◌≡◌, ◌⊎◌, ◌<◌, ◌≤◌, ◌+◌, ℕ, suc, List, [], ◌∷◌, ◌++◌, length, map, inl, inr, refl, sym, ap, subst, ◌∙◌, ⊎_elim, arith}
use Rattle.std.specs.Prelude.{Bool, Option, Some, None, if◌then◌else◌, option_map, slice_get, slice_index_or}
use Rattle.std.proofs.Math.Path.{fun_ext}
use Rattle.std.proofs.lemmas.Option.{slice_get-map}
use Rattle.tapa_syntax.specs.declared.program.Instance.{Instance}
use Rattle.tapa_syntax.specs.declared.program.Memory.{Memory}
use Rattle.tapa_syntax.specs.declared.program.Program.{Program}
use Rattle.tapa_syntax.specs.declared.program.Stream.{Stream}
use Rattle.tapa_syntax.specs.Flat.{FlatInstance, FlatProgram, flat_instance, flat_program}
use Rattle.tapa_syntax.specs.WellFormed.{IsWellFormed}
use Rattle.kahn_model.specs.Network.{Network, IsNetwork}
use Rattle.kahn_model.specs.Cells.{cells_at, memory_at, owner_of, after_stores}
use Rattle.kahn_model.specs.Counts.{ticks_made, HasEnded, IsReachable, IsEnding, IsKahnPrefix, IsKahnStream}
use Rattle.kahn_model.specs.Ending as way
use Rattle.kahn_model.specs.Ending.{EndsWithin, StopsWithin, GoesPast, Way, RunsSo}
use Rattle.kahn_model.specs.Outcome as outcome
use Rattle.kahn_model.specs.Outcome.{IsJoined, joined_ticks, IsDone, IsStopped}
use Rattle.kahn_model.specs.ProgramNetwork.{is_detached}
use Rattle.kahn_model.specs.Standing.{Standing, over, to_read, to_write, at_bad, StandsSo}
use Rattle.kahn_model.proofs.Ending as kahn
use Rattle.kahn_model.proofs.Ending.{has_ended, three_ways}
use Rattle.kahn_model.proofs.Ends.{Waits, waits}
use Rattle.kahn_model.proofs.OneMeaning.{one_meaning}
use Rattle.kahn_model.proofs.Standing.{stand_one_way}
use Rattle.kahn_model.proofs.WellFormed.{program_network}
use Rattle.run_data.specs.Report.{last_line}
use Rattle.run_data.specs.declared.lines.Last.{Last}
use Rattle.run_data.specs.declared.lines.Last.TheVariants as last_line_of
use Rattle.run_program.specs.Laws.{RunMeaning, Done, Stopped, Limit, RunsAs}
use Rattle.net_core.specs.Bindings.{detached_at}
use Rattle.run_program.specs.Run.{network, ticks_of, tokens_at, hides_stores, cells_shown, stream_lines, memory_lines, lines_at, report_of, label_of, read_line, write_line, bad_line, IsWaitLine, AreWaitLines, DoneRun, StoppedRun, LimitRun}
use Rattle.net_core.specs.Bounded.{Values}
use Rattle.run_program.proofs.Running.{size_of, done_run, stopped_run}

-- ---- the same lines of waiting instances, whose labels alone are shown

first_same : {A : Type 0} (x y : A) (xs ys : List A) → (x ∷ xs) ≡ (y ∷ ys) → x ≡ y
first_same x y xs ys e = cc

rest_same : {A : Type 0} (x y : A) (xs ys : List A) → (x ∷ xs) ≡ (y ∷ ys) → xs ≡ ys
rest_same x y xs ys e = cc

not_nil : {A : Type 0} (y : A) (ys : List A) → [] ≡ (y ∷ ys) → ⊥
not_nil y ys e = cc

module _ (net : Network) (k : ℕ → ℕ) (streams : List Stream) where
  relabelled : (i : ℕ) (xs ys : List Instance) (text : List (List ℕ)) → map flat_instance xs ≡ map flat_instance ys → AreWaitLines net k streams i xs text → AreWaitLines net k streams i ys text
  relabelled i [] [] text e h = h
  relabelled i [] (y ∷ ys) text e h = absurd (not_nil (flat_instance y) (map flat_instance ys) e)
  relabelled i (x ∷ xs) [] text e h = absurd (not_nil (flat_instance x) (map flat_instance xs) (sym e))
  relabelled i (x ∷ xs) (y ∷ ys) text e h =
      let label : x.label ≡ y.label = ap (λ (f : FlatInstance). f.label) (first_same (flat_instance x) (flat_instance y) (map flat_instance xs) (map flat_instance ys) e) in
      let rest = rest_same (flat_instance x) (flat_instance y) (map flat_instance xs) (map flat_instance ys) e in
      elim h [
        | inl w ↦ inl (w.0, relabelled (suc i) xs ys text rest w.1)
        | inr w ↦ inr (w.0, w.1, w.2, subst (λ (l : List ℕ). IsWaitLine net k streams i l w.0) label w.3, relabelled (suc i) xs ys w.1 rest w.4)
      ]

-- ---- the same cells of memories

memory_alike : (x y : Option Instance) (m : ℕ) → option_map flat_instance x ≡ option_map flat_instance y → (q : ℕ) → memory_at x q ≡ memory_at y q
memory_alike None None m e q = refl
memory_alike None (Some y) m e q = absurd cc
memory_alike (Some x) None m e q = absurd cc
memory_alike (Some x) (Some y) m e q = let same : flat_instance x ≡ flat_instance y = cc in ap (λ (f : FlatInstance). slice_get f.memories q) same

detached_alike : (x y : Option Instance) → option_map flat_instance x ≡ option_map flat_instance y → is_detached x ≡ is_detached y
detached_alike None None e = refl
detached_alike None (Some y) e = absurd cc
detached_alike (Some x) None e = absurd cc
detached_alike (Some x) (Some y) e = let same : flat_instance x ≡ flat_instance y = cc in ap (λ (f : FlatInstance). f.detached) same

abbrev cells_by : Program → Values → (ℕ → ℕ) → ℕ → ℕ → Network → List ℕ
cells_by p values k m owner net = after_stores (memory_at (slice_get p.instances.items owner)) m (slice_index_or values.memories m []) (ticks_made net k owner)

one_cells : (p q : Program) → flat_program p ≡ flat_program q → (values : Values) (k : ℕ → ℕ) → cells_at p values.scalars values.memories k ≡ cells_at q values.scalars values.memories k
one_cells p q same values k =
    let ms = ap (λ (f : FlatProgram). f.memories) same in
    let is = ap (λ (f : FlatProgram). f.instances) same in
    let nets = one_meaning p q same values.scalars values.memories in
    let bound : (i : ℕ) → memory_at (slice_get p.instances.items i) ≡ memory_at (slice_get q.instances.items i) =
    λ i. fun_ext (memory_alike _ _ 0 (sym (slice_get-map flat_instance p.instances.items i) ∙ ap (λ (l : List FlatInstance). slice_get l i) is ∙ slice_get-map flat_instance q.instances.items i)) in
    fun_ext (λ m.
    ap (λ (l : List Memory). cells_by p values k m (owner_of (slice_get l m)) (network p values)) ms
    ∙ ap (λ (net : Network). cells_by p values k m (owner_of (slice_get q.memories.items m)) net) nets
    ∙ ap (λ (b : ℕ → Option ℕ). after_stores b m (slice_index_or values.memories m []) (ticks_made (network q values) k (owner_of (slice_get q.memories.items m)))) (bound (owner_of (slice_get q.memories.items m))))

module _ (p q : Program) (same : flat_program p ≡ flat_program q) (values : Values) where
  networks : network p values ≡ network q values
  networks = one_meaning p q same values.scalars values.memories

  same_streams : p.streams.items ≡ q.streams.items
  same_streams = ap (λ (f : FlatProgram). f.streams) same

  memories : p.memories.items ≡ q.memories.items
  memories = ap (λ (f : FlatProgram). f.memories) same

  instances : map flat_instance p.instances.items ≡ map flat_instance q.instances.items
  instances = ap (λ (f : FlatProgram). f.instances) same

  cells : (k : ℕ → ℕ) → cells_at p values.scalars values.memories k ≡ cells_at q values.scalars values.memories k
  cells k = one_cells p q same values k

  detached : (i : ℕ) → detached_at p i ≡ detached_at q i
  detached i =
      detached_alike (slice_get p.instances.items i) (slice_get q.instances.items i)
      (sym (slice_get-map flat_instance p.instances.items i) ∙ ap (λ (l : List FlatInstance). slice_get l i) instances ∙ slice_get-map flat_instance q.instances.items i)

  hides : (last : Last) (m : ℕ) → hides_stores p last m ≡ hides_stores q last m
  hides (last_line_of.Done t) m =
      ap (λ (ms : List Memory). detached_at p (owner_of (slice_get ms m))) memories ∙ detached (owner_of (slice_get q.memories.items m))
  hides (last_line_of.Stopped t) m = refl
  hides (last_line_of.Running t) m = refl

  shown : (k : ℕ → ℕ) (last : Last) → cells_shown p values k last ≡ cells_shown q values k last
  shown k last = fun_ext (λ m.
      ap (λ (b : Bool). if b then slice_index_or values.memories m [] else cells_at p values.scalars values.memories k m) (hides last m)
      ∙ ap (λ (c : ℕ → List ℕ). if hides_stores q last m then slice_index_or values.memories m [] else c m) (cells k))

  lines : (k : ℕ → ℕ) (last : Last) → lines_at p values k last ≡ lines_at q values k last
  lines k last =
      ap (λ (net : Network). stream_lines (tokens_at net k last) 0 p.streams.items ++ memory_lines (cells_shown p values k last) 0 p.memories.items) networks
      ∙ ap (λ (ss : List Stream). stream_lines (tokens_at (network q values) k last) 0 ss ++ memory_lines (cells_shown p values k last) 0 p.memories.items) same_streams
      ∙ ap (λ (c : ℕ → List ℕ). stream_lines (tokens_at (network q values) k last) 0 q.streams.items ++ memory_lines c 0 p.memories.items) (shown k last)
      ∙ ap (λ (ms : List Memory). stream_lines (tokens_at (network q values) k last) 0 q.streams.items ++ memory_lines (cells_shown q values k last) 0 ms) memories

  reports : (k : ℕ → ℕ) (last : ℕ → Last) → report_of p values k (last (ticks_of p values k)) ≡ report_of q values k (last (ticks_of q values k))
  reports k last =
      ap (λ (l : List ℕ). l ++ last_line (last (ticks_of p values k))) (lines k (last (ticks_of p values k)))
      ∙ ap (λ (net : Network). report_of q values k (last (joined_ticks net k))) networks

  pub runs_alike : (limit : ℕ) (m : RunMeaning) → RunsAs p values limit m → RunsAs q values limit m
  runs_alike limit (Done report) h = record {
    count = h.count;
    done = subst (λ (net : Network). IsDone net limit h.count) networks h.done;
    front = λ s l.
        subst (λ (net : Network). IsKahnPrefix net s (outcome.shown net h.count s)) networks
        (h.front s (subst (λ (ss : List Stream). s < length ss) (sym same_streams) l));
    whole = λ s l joined.
        subst (λ (net : Network). IsKahnStream net s (outcome.shown net h.count s)) networks
        (h.whole s (subst (λ (ss : List Stream). s < length ss) (sym same_streams) l) (subst (λ (net : Network). IsJoined net (net.producer s)) (sym networks) joined));
    shown = h.shown ∙ reports h.count last_line_of.Done;
  }
  runs_alike limit (Stopped report lines) h = record {
    count = h.count;
    stopped = subst (λ (net : Network). IsStopped net limit h.count) networks h.stopped;
    shown = h.shown ∙ reports h.count last_line_of.Stopped;
    waits = relabelled (network q values) h.count q.streams.items 0 p.instances.items q.instances.items lines instances
        (subst (λ (ss : List Stream). AreWaitLines (network q values) h.count ss 0 p.instances.items lines) same_streams
        (subst (λ (net : Network). AreWaitLines net h.count p.streams.items 0 p.instances.items lines) networks h.waits));
  }
  runs_alike limit Limit h = subst (λ (net : Network). GoesPast net limit) networks h

-- ---- the lines of waiting instances are one list

-- the line that tells how an instance stands
abbrev line_at : List Stream → List ℕ → Standing → List ℕ
line_at streams label over = []
line_at streams label (to_read s) = read_line label (label_of streams s)
line_at streams label (to_write s) = write_line label (label_of streams s)
line_at streams label (at_bad s) = bad_line label (label_of streams s)

record WaitsAt (net : Network) (k : ℕ → ℕ) (streams : List Stream) (i : ℕ) (label line : List ℕ) : Type 0 where
  standing : Standing
  so : StandsSo net k i standing
  goes_on : over ≡ standing → ⊥
  told : line ≡ line_at streams label standing

over_reads : (s : ℕ) → over ≡ to_read s → ⊥
over_reads s e = cc

over_writes : (s : ℕ) → over ≡ to_write s → ⊥
over_writes s e = cc

over_bad : (s : ℕ) → over ≡ at_bad s → ⊥
over_bad s e = cc

waits_at : (net : Network) (k : ℕ → ℕ) (streams : List Stream) (i : ℕ) (label line : List ℕ) → IsWaitLine net k streams i label line → WaitsAt net k streams i label line
waits_at net k streams i label line (s, h) = elim h [
  | inl r ↦ record { standing = to_read s; so = r.0; goes_on = over_reads s; told = r.1 }
  | inr (inl w) ↦ record { standing = to_write s; so = w.0; goes_on = over_writes s; told = w.1 }
  | inr (inr b) ↦ record { standing = at_bad s; so = b.0; goes_on = over_bad s; told = b.1 }
]

module _ (net : Network) (ok : IsNetwork net) (k : ℕ → ℕ) (reach : IsReachable net k) (streams : List Stream) where
  one_line : (i : ℕ) → i < net.size → (label line other : List ℕ) → IsWaitLine net k streams i label line → IsWaitLine net k streams i label other → line ≡ other
  one_line i inside label line other h g =
      let a = waits_at net k streams i label line h in
      let b = waits_at net k streams i label other g in
      a.told ∙ ap (line_at streams label) (stand_one_way net ok k reach i inside a.standing b.standing a.so b.so) ∙ sym b.told

  not_over : (i : ℕ) → i < net.size → (label line : List ℕ) → HasEnded net k i → IsWaitLine net k streams i label line → ⊥
  not_over i inside label line e h =
      let a = waits_at net k streams i label line h in
      a.goes_on (stand_one_way net ok k reach i inside over a.standing e a.so)

  pub one_list : (i : ℕ) (xs : List Instance) → i + length xs ≤ net.size → (t u : List (List ℕ)) → AreWaitLines net k streams i xs t → AreWaitLines net k streams i xs u → t ≡ u
  one_list i [] few t u h g = h ∙ sym g
  one_list i (x ∷ xs) few t u h g =
      let inside : i < net.size = omega arith in
      let later : suc i + length xs ≤ net.size = omega arith in
      ⊎_elim
      (λ (a : HasEnded net k i × AreWaitLines net k streams (suc i) xs t).
      ⊎_elim
      (λ (b : HasEnded net k i × AreWaitLines net k streams (suc i) xs u). one_list (suc i) xs later t u a.1 b.1)
      (λ (b : (line : List ℕ) × (more : List (List ℕ)) × (u ≡ line ∷ more) × IsWaitLine net k streams i x.label line × AreWaitLines net k streams (suc i) xs more). absurd (not_over i inside x.label b.0 a.0 b.3))
      g)
      (λ (a : (line : List ℕ) × (more : List (List ℕ)) × (t ≡ line ∷ more) × IsWaitLine net k streams i x.label line × AreWaitLines net k streams (suc i) xs more).
      ⊎_elim
      (λ (b : HasEnded net k i × AreWaitLines net k streams (suc i) xs u). absurd (not_over i inside x.label a.0 b.0 a.3))
      (λ (b : (line : List ℕ) × (more : List (List ℕ)) × (u ≡ line ∷ more) × IsWaitLine net k streams i x.label line × AreWaitLines net k streams (suc i) xs more).
      a.2
      ∙ ap (λ (l : List ℕ). l ∷ a.1) (one_line i inside x.label a.0 b.0 a.3 b.3)
      ∙ ap (λ (m : List (List ℕ)). b.0 ∷ m) (one_list (suc i) xs later a.1 b.1 a.4 b.4)
      ∙ sym b.2)
      g)
      h

-- ---- where no step is allowed there are such lines

module _ (net : Network) (ok : IsNetwork net) (k : ℕ → ℕ) (ending : IsEnding net k) (streams : List Stream) where
  line_of : (i : ℕ) (label : List ℕ) → Waits net k i → (line : List ℕ) × IsWaitLine net k streams i label line
  line_of i label w = elim w [
    | inl a ↦ (write_line label (label_of streams a.0), (a.0, inr (inl (a.1, refl))))
    | inr (inl a) ↦ (read_line label (label_of streams a.0), (a.0, inl (a.1, refl)))
    | inr (inr a) ↦ (bad_line label (label_of streams a.0), (a.0, inr (inr (a.1, refl))))
  ]

  pub some_list : (i : ℕ) (xs : List Instance) → i + length xs ≤ net.size → (t : List (List ℕ)) × AreWaitLines net k streams i xs t
  some_list i [] few = ([], refl)
  some_list i (x ∷ xs) few =
      let later = some_list (suc i) xs (omega arith) in
      ⊎_elim
      (λ (e : HasEnded net k i). (later.0, inl (e, later.1)))
      (λ (d : HasEnded net k i → ⊥). let l = line_of i x.label (waits net ok k ending i (omega arith) d) in (l.0 ∷ later.0, inr (l.0, later.0, refl, l.1, later.1)))
      (has_ended net k i)

-- ---- a program runs in one way

done_stopped : way.done ≡ way.stopped → ⊥
done_stopped e = cc

past_done : way.past ≡ way.done → ⊥
past_done e = cc

past_stopped : way.past ≡ way.stopped → ⊥
past_stopped e = cc

module _ (p : Program) (w : IsWellFormed p) (values : Values) (limit : ℕ) where
  net_ok : IsNetwork (network p values)
  net_ok = program_network p w values.scalars values.memories

  one_count : (a b : Way) (k m : ℕ → ℕ) → RunsSo (network p values) limit a k → RunsSo (network p values) limit b m → (a ≡ b) × (k ≡ m)
  one_count a b k m x y = let h = kahn.one_way (network p values) net_ok limit a b k m x y in (h.0, fun_ext h.1)

  all_inside : 0 + length p.instances.items ≤ (network p values).size
  all_inside = omega (arith, size_of p values)

  one_report : (report other : List ℕ) → DoneRun p values limit report → DoneRun p values limit other → report ≡ other
  one_report report other a b =
      a.shown ∙ ap (λ (k : ℕ → ℕ). report_of p values k (last_line_of.Done (ticks_of p values k))) (one_count way.done way.done a.count b.count a.done b.done).1 ∙ sym b.shown

  one_stop : (report other : List ℕ) (lines rows : List (List ℕ)) → StoppedRun p values limit report lines → StoppedRun p values limit other rows → (report ≡ other) × (lines ≡ rows)
  one_stop report other lines rows a b =
      let same = (one_count way.stopped way.stopped a.count b.count a.stopped b.stopped).1 in (
        a.shown ∙ ap (λ (k : ℕ → ℕ). report_of p values k (last_line_of.Stopped (ticks_of p values k))) same ∙ sym b.shown,
        one_list (network p values) net_ok b.count b.stopped.greatest.reachable p.streams.items 0 p.instances.items all_inside lines rows
            (subst (λ (k : ℕ → ℕ). AreWaitLines (network p values) k p.streams.items 0 p.instances.items lines) same a.waits) b.waits,
      )

  ends_stops : (report other : List ℕ) (lines : List (List ℕ)) → DoneRun p values limit report → StoppedRun p values limit other lines → ⊥
  ends_stops report other lines ends stops = done_stopped (one_count way.done way.stopped ends.count stops.count ends.done stops.stopped).0

  past_ends : (report : List ℕ) → LimitRun p values limit → DoneRun p values limit report → ⊥
  past_ends report past ends = past_done (one_count way.past way.done past.0 ends.count past.1 ends.done).0

  past_stops : (report : List ℕ) (lines : List (List ℕ)) → LimitRun p values limit → StoppedRun p values limit report lines → ⊥
  past_stops report lines past stops = past_stopped (one_count way.past way.stopped past.0 stops.count past.1 stops.stopped).0

  pub one_way : (m n : RunMeaning) → RunsAs p values limit m → RunsAs p values limit n → m ≡ n
  one_way (Done report) (Done other) a b = ap Done (one_report report other a b)
  one_way (Done report) (Stopped other lines) a b = absurd (ends_stops report other lines a b)
  one_way (Done report) Limit a b = absurd (past_ends report b a)
  one_way (Stopped report lines) (Done other) a b = absurd (ends_stops other report lines b a)
  one_way (Stopped report lines) (Stopped other rows) a b =
      let both = one_stop report other lines rows a b in
      ap (λ (r : List ℕ). Stopped r lines) both.0 ∙ ap (Stopped other) both.1
  one_way (Stopped report lines) Limit a b = absurd (past_stops report lines b a)
  one_way Limit (Done other) a b = absurd (past_ends other a b)
  one_way Limit (Stopped other rows) a b = absurd (past_stops other rows a b)
  one_way Limit Limit a b = refl

  pub some_way : (m : RunMeaning) × RunsAs p values limit m
  some_way =
      ⊎_elim
      (λ (e : EndsWithin (network p values) limit). (Done _, done_run p values w (network p values) refl e.0 (ticks_of p values e.0) limit refl e.1))
      (λ (o : StopsWithin (network p values) limit ⊎ GoesPast (network p values) limit).
      ⊎_elim
      (λ (s : StopsWithin (network p values) limit).
      let t = some_list (network p values) net_ok s.0 (record { reachable = s.1.greatest.reachable; over = s.1.over }) p.streams.items 0 p.instances.items all_inside in
      (Stopped _ t.0, stopped_run p values w (network p values) refl s.0 (ticks_of p values s.0) limit refl s.1 t.0 t.1))
      (λ (g : GoesPast (network p values) limit). (Limit, g))
      o)
      (three_ways (network p values) net_ok limit)
