-- All modules below the top.
use Rattle.std.proofs.Common.{◌≡◌, ℕ, zero, suc, ◌+◌, ◌≤◌, false, List, [], ◌∷◌, length, map, Some, inl, inr, refl, sym, ap, subst, ◌∙◌, arith, ⊎_elim}
use Rattle.std.specs.Prelude.{◌⊎◌, bytes_eq, nat_le, slice_get, slice_index}
use Rattle.std.specs.List.{flat_map}
use Rattle.std.specs.Cmp.Lexicographic.{bytes_decides}
use Rattle.std.proofs.lemmas.Bool.{false_from_ne_true}
use Rattle.tapa_syntax.specs.declared.program.Leaf.{Leaf}
use Rattle.tapa_syntax.specs.declared.program.Program.{Program}
use Rattle.tapa_syntax.specs.declared.program.Stream.{Stream}
use Rattle.task_fsm.specs.declared.machine.Fsm.{Fsm}
use Rattle.vlog_tree.specs.declared.tree.PortDecl.{PortDecl}
use Rattle.vlog_tree.specs.declared.table.Declaration.{Declaration}
use Rattle.vlog_tree.specs.Form.{ModuleTree, IsModule}
use Rattle.tapa_base.specs.Lists.{Has}
use Rattle.vlog_tree.specs.Table.{Name, declared, port_declared, items_declared, module_named, module_declared, is_doubled_name, times_in, one_if}
use Rattle.vlog_tree.specs.V2.{module_uses, port_uses, item_uses}
use Rattle.tapa_base.proofs.Lists.{has_left, has_right, has_split, has_flat, of_map}
use Rattle.vlog_module_laws.specs.Larger.{IsRightBeside, IsWithin}
use Rattle.vlog_module_laws.proofs.Larger.{each_right, stays_right, sound_of}
use Rattle.vlog_module_laws.proofs.Lists.{count_cons, right}
use Rattle.vlog_run_laws.proofs.runs.Alone.{module_is}
use Rattle.hw_build.proofs.Drivers.{times_has}
use Rattle.hw_build.proofs.Tables.{times, count_append}
use Rattle.hw_channel_laws.proofs.modules.Fits.{clear}
use Rattle.hw_channel_laws.proofs.modules.Together.{AreApart, finds, single}
use Rattle.hw_lines.specs.Texts.{task_name}
use Rattle.hw_top_laws.specs.joins.Joins.{port_names}
use Rattle.hw_top_laws.proofs.joins.Joined.{declared_times}
use Rattle.hw_top_lines.specs.Channels.{channel_modules}
use Rattle.hw_top_lines.specs.Designs.{channels_before, task_modules}
use Rattle.hw_top_lines.specs.Legal.{IsReady}
use Rattle.hw_top_lines.specs.Texts.{token_bits}
use Rattle.hw_top_laws.specs.modules.Lower.{lower_modules, task_module, KeepPromises, LowerAreApart, TopIsApart, ChannelsAreFound, TasksAreFound, LowerAreModules, LowerAreRight, LowerIsSound, LowerPortsAreOnce}
use Rattle.hw_top_laws.proofs.modules.Added.{apart_append, placed_apart}
use Rattle.hw_top_laws.proofs.modules.Channels.{sizes, IsOfStream, in_channels, channels_apart, channel_are, stream_there, channel_form, channel_no_task}
use Rattle.hw_top_laws.proofs.modules.Tasks.{IsTask, in_tasks, has_task, title, task_title, not_top, tasks_apart}
use Rattle.vlog_module_laws.proofs.Blocks.{low_of as few}

-- ---- a name that no module has
none_named : (ms : List ModuleTree) (x : Name) → ((m : ModuleTree) → Has ms m → m.name ≡ x → ⊥) → times (map module_declared ms) x ≡ 0
none_named [] x h = refl
none_named (m ∷ ms) x h =
    let c : times (map module_declared (m ∷ ms)) x ≡ one_if (bytes_eq m.name x) + times (map module_declared ms) x = count_cons (λ (d : Declaration). bytes_eq d.name x) (module_declared m) (map module_declared ms) in
    let z : one_if (bytes_eq m.name x) ≡ 0 = ap one_if (false_from_ne_true (bytes_eq m.name x) (λ e. h m (inl refl) ((bytes_decides m.name x).0 e))) in
    let r : times (map module_declared ms) x ≡ 0 = none_named ms x (λ n i. h n (inr i)) in
    omega (arith, c, z, r)

-- ---- the ports of a module that breaks no rule

not_doubled : (ms : List ModuleTree) (m : ModuleTree) → IsRightBeside ms m → (p : PortDecl) → Has m.ports p → is_doubled_name (declared m) p.name ≡ false
unfolding module_uses port_uses
not_doubled ms m r p h =
    right (module_uses ms m) r.names (p.name, is_doubled_name (declared m) p.name)
    (inr (has_left (flat_map (port_uses (declared m)) m.ports) (flat_map (item_uses ms (declared m)) m.items) (p.name, is_doubled_name (declared m) p.name) (has_flat (port_uses (declared m)) m.ports p (p.name, is_doubled_name (declared m) p.name) h (inl refl))))

pub ports_once : (ms : List ModuleTree) (m : ModuleTree) → IsRightBeside ms m → (x : Name) → times_in (port_names m.ports) x ≤ 1
ports_once ms m r x = by (times_in (port_names m.ports) x) refl where
  by : (n : ℕ) → times_in (port_names m.ports) x ≡ n → times_in (port_names m.ports) x ≤ 1
  by zero e = omega (arith, e)
  by (suc n) e =
      let t = of_map (λ (p : PortDecl). p.name) m.ports x (times_has (port_names m.ports) x (omega (arith, e))) in
      let d : times (declared m) x ≤ 1 = few (times (declared m) x) (subst (λ y. is_doubled_name (declared m) y ≡ false) t.2 (not_doubled ms m r t.0 t.1)) in
      let c : times (declared m) x ≡ times (map port_declared m.ports) x + times (items_declared m.items) x = count_append (λ (q : Declaration). bytes_eq q.name x) (map port_declared m.ports) (items_declared m.items) in
      let s : times (map port_declared m.ports) x ≡ times_in (port_names m.ports) x = declared_times m.ports x in
      omega (arith, d, c, s)

module _ (program : Program) (machines : List Fsm) (added : List ℕ) (ready : IsReady program machines added) (kept : KeepPromises program machines) where
  abbrev lower : List ModuleTree
  lower = lower_modules program machines added

  abbrev channels : List ModuleTree
  channels = channels_before program added (length program.streams.items)

  abbrev tasks : List ModuleTree
  tasks = task_modules program machines

  abbrev IsOne : ModuleTree → Type 0
  IsOne m = IsOfStream program ready.well_formed added ready.short m ⊎ IsTask program ready.told_apart machines ready.lowered m

  pub one_of : (m : ModuleTree) → Has lower m → IsOne m
  one_of m h =
      ⊎_elim (λ l. inl (in_channels program ready.well_formed added ready.short (length program.streams.items) m l)) (λ r. inr (in_tasks program ready.told_apart machines ready.lowered m r))
      (has_split channels tasks m h)

  pub apart : AreApart lower
  apart =
      apart_append channels tasks (channels_apart program ready.well_formed added ready.short (length program.streams.items)) (tasks_apart program ready.told_apart machines ready.lowered)
      (λ m n h k s.
      let t = in_tasks program ready.told_apart machines ready.lowered n k in
      channel_no_task program ready.well_formed added ready.short m (in_channels program ready.well_formed added ready.short (length program.streams.items) m h) t.leaf.name
      (s ∙ task_title program ready.told_apart machines ready.lowered n t))

  pub found : (m : ModuleTree) → Has lower m → module_named lower m.name ≡ Some m
  found m h = finds lower apart m h

  pub once : (m : ModuleTree) → Has lower m → is_doubled_name (map module_declared lower) m.name ≡ false
  once m h = single lower apart m h

  pub stream_has : (s : ℕ) (r : Stream) → slice_get program.streams.items s ≡ Some r → (m : ModuleTree) → Has (channel_modules (token_bits r.kind) r.depth (slice_index added s)) m → Has lower m
  stream_has s r e m h = has_left channels tasks m (stream_there program ready.well_formed added ready.short s r e m h)

  pub task_has : (t : ModuleTree) → IsTask program ready.told_apart machines ready.lowered t → Has lower t
  task_has t i =
      has_right channels tasks t (subst (λ (z : ModuleTree). Has tasks z) i.is (has_task program ready.told_apart machines ready.lowered i.number i.leaf i.machine i.got_leaf i.got_machine i.used))

  -- the modules of a stream's channel are within all
  pub channel_within : (s : ℕ) (r : Stream) → slice_get program.streams.items s ≡ Some r → IsWithin (channel_modules (token_bits r.kind) r.depth (slice_index added s)) lower
  channel_within s r e x k h =
      let i = module_is (channel_modules (token_bits r.kind) r.depth (slice_index added s)) x k h in
      subst (λ y. module_named lower y ≡ Some k) i.name (found k (stream_has s r e k i.has))

  channel_right : (m : ModuleTree) → Has lower m → IsOfStream program ready.well_formed added ready.short m → IsRightBeside lower m
  channel_right m h i =
      let z = sizes program ready.well_formed added ready.short i.number i.stream i.got in
      let deep = z.deep in
      let late = z.late in
      let bits = token_bits i.stream.kind in
      let ms = channel_modules bits i.stream.depth (slice_index added i.number) in
      let c = clear bits i.stream.depth (slice_index added i.number) ms (channel_are bits i.stream.depth (slice_index added i.number)) z.least z.most z.some (omega (arith, deep, late)) in
      stays_right ms lower m (channel_within i.number i.stream i.got) (each_right ms c.sound m i.has) (once m h)

  task_right : (m : ModuleTree) → Has lower m → IsTask program ready.told_apart machines ready.lowered m → IsRightBeside lower m
  task_right m h i =
      let k = kept i.number i.leaf i.machine i.got_leaf i.got_machine i.used in
      let name : m.name ≡ task_name i.machine.name = ap (λ (z : ModuleTree). z.name) (sym i.is) ∙ title i.leaf i.machine in
      subst (λ (z : ModuleTree). IsRightBeside lower z) i.is (k.right lower (subst (λ y. is_doubled_name (map module_declared lower) y ≡ false) name (once m h)))

  pub is_right : (m : ModuleTree) → Has lower m → IsRightBeside lower m
  is_right m h = ⊎_elim (λ l. channel_right m h l) (λ r. task_right m h r) (one_of m h)

  pub has_form : (m : ModuleTree) → Has lower m → IsModule m
  has_form m h =
      ⊎_elim (λ l. channel_form program ready.well_formed added ready.short m l)
      (λ r. subst IsModule r.is (kept r.number r.leaf r.machine r.got_leaf r.got_machine r.used).form) (one_of m h)

  pub no_top : (m : ModuleTree) → Has lower m → m.name ≡ task_name program.top → ⊥
  no_top m h e =
      ⊎_elim (λ l. channel_no_task program ready.well_formed added ready.short m l program.top e) (λ r. not_top program ready.told_apart machines ready.lowered m r e) (one_of m h)

  pub top_is_new : is_doubled_name (map module_declared lower) (task_name program.top) ≡ false
  top_is_new = ap (λ n. nat_le 2 n) (none_named lower (task_name program.top) no_top)

  pub task_found : (b : ℕ) (leaf : Leaf) (machine : Fsm) (t : IsTask program ready.told_apart machines ready.lowered (task_module leaf machine)) → module_named lower (task_name t.leaf.name) ≡ Some (task_module leaf machine)
  task_found b leaf machine t =
      subst (λ y. module_named lower y ≡ Some (task_module leaf machine)) (task_title program ready.told_apart machines ready.lowered (task_module leaf machine) t)
      (found (task_module leaf machine) (task_has (task_module leaf machine) t))

pub lower_apart : LowerAreApart
lower_apart program machines added ready kept = placed_apart (lower_modules program machines added) (apart program machines added ready kept)

pub top_apart : TopIsApart
top_apart program machines added ready kept m h e = no_top program machines added ready kept m h e

pub top_new : (program : Program) (machines : List Fsm) (added : List ℕ) → IsReady program machines added → KeepPromises program machines
    → is_doubled_name (map module_declared (lower_modules program machines added)) (task_name program.top) ≡ false
top_new program machines added ready kept = top_is_new program machines added ready kept

pub channels_found : ChannelsAreFound
channels_found program machines added ready kept s r e m h = found program machines added ready kept m (stream_has program machines added ready kept s r e m h)

pub tasks_found : TasksAreFound
tasks_found program machines added ready kept b leaf machine f g u =
    task_found program machines added ready kept b leaf machine (record { number = b; leaf = leaf; machine = machine; got_leaf = f; got_machine = g; used = u; is = refl })

pub lower_form : LowerAreModules
lower_form program machines added ready kept m h = has_form program machines added ready kept m h

pub lower_right : LowerAreRight
lower_right program machines added ready kept m h = is_right program machines added ready kept m h

pub lower_sound : LowerIsSound
lower_sound program machines added ready kept = sound_of (lower_modules program machines added) (is_right program machines added ready kept)

pub lower_ports : LowerPortsAreOnce
lower_ports program machines added ready kept m h = ports_once (lower_modules program machines added) m (is_right program machines added ready kept m h)
