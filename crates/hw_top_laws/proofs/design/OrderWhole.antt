-- No name of a circuit is on a loop.
use Rattle.std.proofs.Common.{◌≡◌, ℕ, Bool, false, List, [], ◌∷◌, Some, None, inl, inr, refl, sym, ap, subst, ◌∙◌, arith, ⊎_elim}
use Rattle.std.specs.Prelude.{◌⊎◌, slice_get, slice_index}
use Rattle.tapa_syntax.specs.declared.program.Program.{Program}
use Rattle.tapa_syntax.specs.declared.program.Stream.{Stream}
use Rattle.task_fsm.specs.declared.machine.Fsm.{Fsm}
use Rattle.vlog_tree.specs.declared.table.Declaration.{Declaration}
use Rattle.vlog_tree.specs.Form.{ModuleTree}
use Rattle.tapa_base.specs.Lists.{Has}
use Rattle.vlog_tree.specs.Loops.{Rests, TextPlace, LiesOnLoop, own_places, text_places, instances, port_of}
use Rattle.vlog_tree.specs.Refused.{IsSound}
use Rattle.vlog_tree.specs.Table.{Name, declared}
use Rattle.tapa_base.proofs.Lists.{has_split, has_flat, of_flat, of_map}
use Rattle.vlog_module_laws.specs.Larger.{IsWithin, HaveInstancesOf}
use Rattle.vlog_module_laws.proofs.Larger.{front_within, each_right, right_has_instances, rests_fewer}
use Rattle.vlog_run_laws.proofs.runs.Alone.{module_is, module_there}
use Rattle.hw_channel_laws.proofs.modules.Clear.{no_loop}
use Rattle.hw_channel_laws.proofs.modules.Fits.{clear}
use Rattle.hw_lines.specs.Texts.{task_name}
use Rattle.hw_top_lines.specs.Channels.{channel_modules}
use Rattle.hw_top_lines.specs.Designs.{design_tree}
use Rattle.hw_top_lines.specs.Legal.{IsReady}
use Rattle.hw_top_lines.specs.Texts.{token_bits, top_tree}
use Rattle.hw_top_laws.specs.modules.Lower.{lower_modules, KeepPromises}
use Rattle.hw_top_laws.proofs.modules.Channels.{sizes, channel_are}
use Rattle.hw_top_laws.proofs.modules.Lower.{one_of, lower_right, channel_within}
use Rattle.hw_top_laws.proofs.modules.Tasks.{IsTask, title}
use Rattle.hw_top_laws.proofs.form.Whole.{tops_are_right}
use Rattle.hw_top_laws.specs.design.Order.{AreBelow, DesignsAreLoopless}
use Rattle.hw_top_laws.proofs.design.Chains.{one_module, own_there, lower_there, no_cycle}
use Rattle.hw_top_laws.proofs.design.Loops.{fewer, top_no_loop}

-- a place in a text is one of the module that it names
place_of : (m x : Name) (k : ModuleTree) → Has (own_places k) (m, Some x) → k.name ≡ m
place_of m x k (inl e) = ap (λ (s : TextPlace). s.0) e
place_of m x k (inr h) = let t = of_map (λ (d : Declaration). (k.name, Some d.name)) (declared k) (m, Some x) h in ap (λ (s : TextPlace). s.0) t.2

module _ (program : Program) (machines : List Fsm) (added : List ℕ) (ready : IsReady program machines added) (kept : KeepPromises program machines) (is_top : Name → Bool)
    (below : AreBelow is_top (lower_modules program machines added)) where
  abbrev lower : List ModuleTree
  lower = lower_modules program machines added

  abbrev tree : ModuleTree
  tree = top_tree program added

  abbrev all : List ModuleTree
  all = design_tree program machines added

  lower_within : IsWithin lower all
  lower_within = front_within lower (tree ∷ [])

  lower_has : (m : ModuleTree) → Has lower m → HaveInstancesOf lower m
  lower_has m h = right_has_instances lower m (lower_right program machines added ready kept m h)

  place_among : (m x : Name) → Has (text_places all) (m, Some x) → (k : ModuleTree) → Has all k → k.name ≡ m → (xs : List ModuleTree) → Has xs k → Has (text_places xs) (m, Some x)
  place_among m x h k hk n xs hx =
      let t = of_flat own_places all (m, Some x) h in
      let same : t.0 ≡ k = one_module program machines added ready kept t.0 k t.1 hk (place_of m x t.0 t.2 ∙ sym n) in
      has_flat own_places xs k (m, Some x) hx (subst (λ q. Has (own_places q) (m, Some x)) same t.2)

  -- ---- in the top

  top_free : (x : Name) → Rests all is_top tree x x → ⊥
  top_free x r =
      top_no_loop program machines added ready kept is_top below x
      (fewer lower all is_top lower_within lower_has r (right_has_instances lower tree (tops_are_right program machines added ready kept)))

  -- ---- in a task

  task_free : (m : ModuleTree) → Has lower m → IsTask program ready.told_apart machines ready.lowered m → (x : Name) → Rests all is_top m x x → ⊥
  task_free m h t x r =
      let promise = kept t.number t.leaf t.machine t.got_leaf t.got_machine t.used in
      let name : is_top (task_name t.machine.name) ≡ false = ap is_top (sym (title t.leaf t.machine) ∙ ap (λ (q : ModuleTree). q.name) t.is) ∙ below m h in
      promise.loopless all is_top name x (subst (λ q. Rests all is_top q x x) (sym t.is) r)

  -- ---- in a module of a channel

  module _ (s : ℕ) (r : Stream) (got : slice_get program.streams.items s ≡ Some r) where
    abbrev own : List ModuleTree
    own = channel_modules (token_bits r.kind) r.depth (slice_index added s)

    own_sound : IsSound own
    own_sound =
        let z = sizes program ready.well_formed added ready.short s r got in
        let deep = z.deep in
        let short = z.late in
        (clear (token_bits r.kind) r.depth (slice_index added s) own (channel_are (token_bits r.kind) r.depth (slice_index added s)) z.least z.most z.some (omega (arith, deep, short))).sound

    own_has : (m : ModuleTree) → Has own m → HaveInstancesOf own m
    own_has m h = right_has_instances own m (each_right own own_sound m h)

    own_rests : (k : ModuleTree) → Has own k → (x : Name) → Rests all is_top k x x → Rests own is_top k x x
    own_rests k h x rests =
        rests_fewer own all is_top is_top (λ y q n. lower_within y q (channel_within program machines added ready kept s r got y q n)) own_has (λ q i. refl) rests h

    own_free : (p : TextPlace) → Has (text_places own) p → LiesOnLoop own is_top p → ⊥
    own_free p h l =
        let z = sizes program ready.well_formed added ready.short s r got in
        let most = z.most in
        let short = z.late in
        no_loop (token_bits r.kind) r.depth (slice_index added s) own (channel_are (token_bits r.kind) r.depth (slice_index added s)) (omega (arith, most)) (omega (arith, short)) is_top p h l

    channel_free : (m x : Name) → Has (text_places all) (m, Some x) → (k : ModuleTree) → Has own k → k.name ≡ m → Rests all is_top k x x → ⊥
    channel_free m x h k hk n rests =
        let there : Has all k = lower_there program machines added ready kept k (own_there program machines added ready kept s r got k hk) in
        own_free (m, Some x) (place_among m x h k there n own hk) (inl (k, hk, n, own_rests k hk x rests))

    port_free : (m x : Name) → Has (text_places all) (m, Some x) → (k : ModuleTree) → Has own k → (i : Name) → Has (instances k) (m, i) → Rests all is_top k (port_of i x) (port_of i x) → ⊥
    port_free m x h k hk i inst rests =
        let q = module_there own m (own_has k hk m i inst) in
        let is = module_is own m q.0 q.1 in
        let there : Has all q.0 = lower_there program machines added ready kept q.0 (own_there program machines added ready kept s r got q.0 is.has) in
        own_free (m, Some x) (place_among m x h q.0 there is.name own is.has) (inr (k, i, hk, inst, own_rests k hk (port_of i x) rests))

  -- ---- in all

  own_net : (m x : Name) → Has (text_places all) (m, Some x) → (k : ModuleTree) → Has lower k ⊎ Has (tree ∷ []) k → k.name ≡ m → Rests all is_top k x x → ⊥
  own_net m x h k (inl l) n r =
      ⊎_elim (λ c. channel_free c.number c.stream c.got m x h k c.has n r) (λ t. task_free k l t x r) (one_of program machines added ready kept k l)
  own_net m x h k (inr (inl s)) n r = top_free x (subst (λ q. Rests all is_top q x x) (sym s) r)
  own_net m x h k (inr (inr z)) n r = absurd z

  own_port : (m x : Name) → Has (text_places all) (m, Some x) → (k : ModuleTree) → Has lower k ⊎ Has (tree ∷ []) k → (i : Name) → Has (instances k) (m, i) → Rests all is_top k (port_of i x) (port_of i x) → ⊥
  own_port m x h k (inl l) i inst r =
      ⊎_elim (λ c. port_free c.number c.stream c.got m x h k c.has i inst r) (λ t. task_free k l t (port_of i x) r) (one_of program machines added ready kept k l)
  own_port m x h k (inr (inl s)) i inst r = top_free (port_of i x) (subst (λ q. Rests all is_top q (port_of i x) (port_of i x)) (sym s) r)
  own_port m x h k (inr (inr z)) i inst r = absurd z

  no_place : (s : TextPlace) → Has (text_places all) s → LiesOnLoop all is_top s → ⊥
  no_place (m, None) h r = no_cycle program machines added ready kept m r
  no_place (m, Some x) h (inl r) = own_net m x h r.0 (has_split lower (tree ∷ []) r.0 r.1) r.2 r.3
  no_place (m, Some x) h (inr r) = own_port m x h r.0 (has_split lower (tree ∷ []) r.0 r.2) r.1 r.3 r.4

pub designs_are_loopless : DesignsAreLoopless
designs_are_loopless program machines added ready kept is_top below s h r = no_place program machines added ready kept is_top below s h r
