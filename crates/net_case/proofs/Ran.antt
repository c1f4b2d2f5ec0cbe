-- What calls of prepare and resume leave.
use Rattle.std.proofs.Common.{◌≡◌, ℕ, ◌+◌, ◌-◌, ◌<◌, ◌≤◌, Bool, List, ◌++◌, length, true, Option, Some, inl, inr, refl, sym, ap, ◌∙◌, subst, ⊎_elim, arith, length-append}
use Rattle.std.specs.Prelude.{slice_index, flat_map}
use Rattle.std.proofs.lemmas.Bool.{cases_lt}
use Rattle.tapa_syntax.specs.declared.program.End.{End}
use Rattle.tapa_syntax.specs.declared.program.Program.{Program}
use Rattle.tapa_syntax.specs.LeafKinds.{writes_of}
use Rattle.kahn_model.specs.declared.tick.Tick.{Tick}
use Rattle.kahn_model.specs.Behavior.{Behavior}
use Rattle.kahn_model.specs.Network.{Network, put_on, take_from}
use Rattle.kahn_model.proofs.Reach.{reach_founded}
use Rattle.net_core.specs.declared.ports.Ports.{Ports}
use Rattle.net_core.specs.declared.body.Pause.{Pause}
use Rattle.net_core.specs.declared.body.Pause.TheVariants.{Fuel}
use Rattle.net_core.specs.Job.{Job}
use Rattle.net_core.specs.Ports.{carried, room_at, port_count, ends_of}
use Rattle.net_core.specs.Resume.{CanResume, Agrees, lists_at, PausesBy, Resumed}
use Rattle.net_core.specs.declared.input.Input.{Input}
use Rattle.net_core.specs.Bindings.{IsFedBySelf, stream_at, arity, arity_in, Reads, Writes}
use Rattle.net_core.specs.Bounded.{network_on, instance_job, count_of}
use Rattle.net_core.specs.Placement.{IsPlaced}
use Rattle.net_core.proofs.Chunk.{plus, plus_none}
use Rattle.net_core.proofs.Ends.{stopped}
use Rattle.net_core.proofs.Moves.{port_count_is}
use Rattle.net_core.proofs.Lasting.{decide_fuel}
use Rattle.net_core.specs.Waits.{HoldsPause}
use Rattle.net_case.specs.declared.lot.Lot.{Lot}
use Rattle.net_case.specs.Batch.{WritesAt, KeepsTokens, AreRoomsWhole, HasRun, HasSaid, IsBatchAt, Ran}
use Rattle.net_case.proofs.Runs.{agrees, made_now, again}
use Rattle.net_case.proofs.Holds.{said}
use Rattle.tapa_base.proofs.Got.{some_at as has_item}

module _ {B : Type 0} (Stands : B → Job → List Tick → Type 0) (program : Program) (input : Input) (budget : ℕ) (at : List ℕ) (i from fuel made : ℕ) (pause : Option Pause) (is_ready : Bool) (body : B) (ports : Ports) (limits : List ℕ) (b : IsBatchAt Stands program input budget at i from fuel made pause is_ready body ports limits) where
  abbrev net : Network
  net = network_on program input

  abbrev job : ℕ → Behavior
  job = (instance_job program input i).behavior

  abbrev plug : IsPlaced net i job (stream_at program i) (Reads program i) (Writes program i)
  plug = b.network.placed i b.inside

  abbrev now : List Tick
  now = b.run.before ++ b.run.new

  -- there is a limit for each port
  pub count_is : length limits ≡ port_count ports
  count_is =
      let x = has_item program.instances.items i b.inside in
      let many = (b.connected.built i x.0 x.1).as_many in
      let arity_is : arity program i ≡ length x.0.streams.items = ap arity_in x.1 in
      let len = ap length b.ends in
      let ports_are = port_count_is ports in
      let l = b.limits_len in
      omega arith

  -- ---- its rooms are made

  pub prepared : (after : Ports) → KeepsTokens ports after → (flag : Bool) → (flag ≡ true → AreRoomsWhole limits (length limits) after) → IsBatchAt Stands program input budget at i from fuel made pause flag body after limits
  prepared after keeps flag whole = record {
    claimed = b.claimed;
    within = b.within;
    ends = keeps.ends ∙ b.ends;
    spaces = λ p d. let a = b.spaces p d in let c = keeps.spaces p in omega arith;
    run = record {
      before = b.run.before;
      count = b.run.count;
      new = b.run.new;
      as_many = b.run.as_many;
      stands = b.run.stands;
      tests = b.run.tests;
      runs = b.run.runs;
      lists = λ p d. ap (λ l. flat_map (take_from p) now ++ l) (keeps.waits p) ∙ b.run.lists p d;
      carries = λ p w. keeps.carries p ∙ b.run.carries p w;
      limits_are = b.run.limits_are;
      given_are = b.run.given_are;
      puts = λ p w some. let same = ap length (keeps.carries p) in let old = b.run.puts p w some in omega arith;
    };
    unrun = b.unrun;
    says = b.says;
    rooms = whole;
  }

  -- ---- it is resumed

  now_is : length now ≡ count_of at i + made
  now_is = made_now net b.network.is_network (count_of at) b.reachable i job (stream_at program i) (Reads program i) (Writes program i) plug limits (Stands body (instance_job program input i)) made ports b.run

  pub ends_are : ends_of ports ≡ (instance_job program input i).ends
  ends_are = b.ends ∙ sym (b.network.ends i)

  pub agrees_here : Agrees job now ports
  agrees_here = agrees net b.network.is_network (count_of at) b.reachable i job (stream_at program i) (Reads program i) (Writes program i) plug limits (Stands body (instance_job program input i)) made ports b.run

  pub can_resume : CanResume (Stands body) ports (fuel - made)
  can_resume = record {
    job = instance_job program input i;
    ticks = now;
    stands = b.run.stands;
    ends = ends_are;
    agrees = agrees_here;
    fits = let a = now_is in let c = b.capped in let d = b.few in let e = b.begins in let g = b.within in omega arith;
  }

  module _ (rooms : AreRoomsWhole limits (length limits) ports) (body' : B) (after : Ports) (x : Pause) (u : Resumed (Stands body' (instance_job program input i)) job now ports (fuel - made) x after) where
    whole : (p : ℕ) → Writes program i p → room_at ports p ≡ slice_index limits p - length (carried ports p)
    whole p w =
        let here : WritesAt ports p = subst (λ (es : List End). writes_of es p ≡ Some true) (sym b.ends) w.1 in
        let l = b.limits_len in
        let inside = w.0 in
        rooms p (omega arith) here

    -- what it puts it has room for, and as much less room then
    whole_after : AreRoomsWhole limits (length limits) after
    whole_after p inside w =
        let here : WritesAt ports p = subst (λ (es : List End). writes_of es p ≡ Some true) u.moved.ends w in
        let before = rooms p inside here in
        let c = ap length (u.moved.puts p) in
        let d = length-append (carried ports p) (flat_map (put_on p) u.made) in
        let e = u.moved.rooms p in
        omega arith

    all_after : (p : ℕ) → Writes program i p → room_at after p ≡ slice_index limits p - length (carried after p)
    all_after p w =
        let here : WritesAt after p = subst (λ (es : List End). writes_of es p ≡ Some true) (sym (u.moved.ends ∙ b.ends)) w.1 in
        let l = b.limits_len in
        let inside = w.0 in
        whole_after p (omega arith) here

    abbrev later : ℕ
    later = made + length u.made

    pub run_after : HasRun (Stands body' (instance_job program input i)) net (count_of at) i job (stream_at program i) (Reads program i) (Writes program i) limits later after
    run_after = again net b.network.is_network (count_of at) b.reachable i job (stream_at program i) (Reads program i) (Writes program i) plug limits (Stands body (instance_job program input i)) made ports b.run (Stands body' (instance_job program input i)) (fuel - made) x after u whole

    -- the answer, for all ticks that it has made by now
    length_all : length now + length u.made ≡ length (run_after.before ++ run_after.new)
    length_all =
        let a = now_is in
        let c = made_now net b.network.is_network (count_of at) b.reachable i job (stream_at program i) (Reads program i) (Writes program i) plug limits (Stands body' (instance_job program input i)) later after run_after in
        omega arith

    answer : PausesBy job (length (run_after.before ++ run_after.new)) (lists_at now ports) after (length u.made ≡ fuel - made) x
    answer = subst (λ n. PausesBy job n (lists_at now ports) after (length u.made ≡ fuel - made) x) length_all u.pauses

    says : HasSaid net (count_of at) i later (stream_at program i) (IsFedBySelf program i) x
    says =
        said net b.network.is_network (count_of at) b.reachable i job (stream_at program i) (Reads program i) (Writes program i) plug limits (Stands body' (instance_job program input i)) later after run_after all_after (lists_at now ports) b.run.lists (length u.made ≡ fuel - made) x answer (IsFedBySelf program i)
        (λ d p q w r e. d (record { writes_at = p; reads_at = q; writes = w; reads = r; same = e }))

    spent_is : x ≡ Fuel → length u.made ≡ fuel - made
    spent_is e = (subst (PausesBy job (length now + length u.made) (lists_at now ports) after (length u.made ≡ fuel - made)) e u.pauses).0

    -- where it has made no tick its answer holds at the count of the claim, where it could make one
    holds_then : later ≡ 0 → HoldsPause net (count_of at) i (stream_at program i) x
    holds_then none =
        subst (λ (m : ℕ → ℕ). HoldsPause net m i (stream_at program i) x) (sym (plus_none i (count_of at)))
        (subst (λ m. HoldsPause net (plus i m (count_of at)) i (stream_at program i) x) none (says.holds (inr (inl none))))

    -- with some fuel it has made a tick
    some_made : 0 < fuel → 0 < later
    some_made more =
        ⊎_elim
        (λ (l : 0 < later). l)
        (λ (z : later ≤ 0).
        ⊎_elim
        (λ (e : x ≡ Fuel). let s = spent_is e in absurd (omega arith))
        (λ (d : x ≡ Fuel → ⊥). absurd (stopped net b.network.is_network (count_of at) (reach_founded net (count_of at) b.reachable) i plug.inside (stream_at program i) x d (holds_then (omega arith)) b.allowed))
        (decide_fuel x))
        (cases_lt 0 later)

    pub batch_after : (more : ℕ) → length u.made ≡ more → IsBatchAt Stands program input budget at i from fuel (made + more) (Some x) is_ready body' after limits
    batch_after more m = subst (λ n. IsBatchAt Stands program input budget at i from fuel (made + n) (Some x) is_ready body' after limits) m (record {
      claimed = b.claimed;
      within = let a = u.within in let c = b.within in omega arith;
      ends = u.moved.ends ∙ b.ends;
      spaces = λ p d. let a = b.spaces p d in let e = u.moved.spaces p in omega arith;
      run = run_after;
      unrun = λ e. absurd (cc);
      says = λ y e. let same : x ≡ y = cc in subst (HasSaid net (count_of at) i later (stream_at program i) (IsFedBySelf program i)) same says;
      rooms = λ e. whole_after;
    })

    abbrev lot : ℕ → Option Pause → Lot
    lot m y = record { program = program; input = input; budget = budget; instance = i; at = at; from = from; fuel = fuel; made = m; pause = y; ready = is_ready }

    pub ran : is_ready ≡ true → (more : ℕ) → length u.made ≡ more → Ran (lot made pause) (lot (made + more) (Some x)) x
    ran ready more m = subst (λ n. Ran (lot made pause) (lot (made + n) (Some x)) x) m (record {
      same = record { program = refl; input = refl; budget = refl; instance = refl; at = refl; from = refl; fuel = refl };
      ready = ready;
      more = omega arith;
      within = let a = u.within in let c = b.within in omega arith;
      last = refl;
      some = some_made;
      spent = λ e. let s = spent_is e in let c = b.within in omega arith;
      says = says;
    })

  -- by what the call of the body ensures
  module _ (is : is_ready ≡ true) (body' : B) (after : Ports) (x : Pause) (more : ℕ) (e : (job' : Job) (ts : List Tick) → Stands body job' ts → ends_of ports ≡ job'.ends → Agrees job'.behavior ts ports → (h : Resumed (Stands body' job') job'.behavior ts ports (fuel - made) x after) × (length h.made ≡ more)) where
    pub resumed : (h : Resumed (Stands body' (instance_job program input i)) job now ports (fuel - made) x after) × (length h.made ≡ more)
    resumed = e (instance_job program input i) now b.run.stands ends_are agrees_here

    pub fits_made : made + more ≤ fuel
    fits_made = let u = resumed in let a = u.0.within in let m = u.1 in let c = b.within in omega arith

    pub batch_done : IsBatchAt Stands program input budget at i from fuel (made + more) (Some x) is_ready body' after limits
    batch_done = let u = resumed in batch_after (b.rooms is) body' after x u.0 more u.1

    pub ran_done : Ran (record { program = program; input = input; budget = budget; instance = i; at = at; from = from; fuel = fuel; made = made; pause = pause; ready = is_ready }) (record { program = program; input = input; budget = budget; instance = i; at = at; from = from; fuel = fuel; made = made + more; pause = Some x; ready = is_ready }) x
    ran_done = let u = resumed in ran (b.rooms is) body' after x u.0 is more u.1
