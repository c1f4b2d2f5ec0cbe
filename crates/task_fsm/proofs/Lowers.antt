-- What `lower` gives is the machine of its leaf.
use Rattle.std.proofs.Common.{◌≡◌, ℕ, ◌+◌, ◌-◌, ◌<◌, List, [], ◌∷◌, ◌++◌, length, Some, sym, ap, ◌∙◌, subst, arith, length-append}
use Rattle.std.specs.Prelude.{slice_get, slice_index_or}
use Rattle.std.proofs.lemmas.List.{get_or_append_left, get_or-append-add, length-map}
use Rattle.kahn_model.specs.Prefix.{IsPrefixOf}
use Rattle.tapa_base.specs.declared.kind.Kind.{Kind}
use Rattle.tapa_base.specs.declared.kind.Kind.TheVariants.{U32, U64}
use Rattle.tapa_syntax.specs.declared.program.Leaf.{Leaf}
use Rattle.tapa_syntax.specs.LeafKinds.{kinds_of, writes_of}
use Rattle.tapa_syntax.specs.WellFormed.{IsLeaf}
use Rattle.kahn_model.specs.Behavior.{ticks}
use Rattle.kahn_model.specs.Trace.{job_of}
use Rattle.task_fsm.specs.declared.machine.Fsm.{Fsm}
use Rattle.task_fsm.specs.Machine.{form_of, forms_of, TrapAt}
use Rattle.task_fsm.specs.Run.{trap_of, cells_after}
use Rattle.task_fsm.specs.MachineKinds.{with_registers, machine_kinds, AreTypedStates}
use Rattle.task_fsm.specs.Code.{Emitted, last_code, leaf_code}
use Rattle.tapa_syntax.specs.TickPlaces.{size_of_list}
use Rattle.task_fsm.specs.Lowered.{IsLowered, with_temporaries}
use Rattle.task_fsm.proofs.Grows.{IsFront, no_more}
use Rattle.task_fsm.proofs.Body.{grows_list, size_leaf, trap_leaf, front_leaf, follows_at, machine_at}
use Rattle.task_fsm.specs.Ranges.{Ranges, ranges_of, AreInRange}
use Rattle.task_fsm.proofs.Ranged.{ranged_leaf}
use Rattle.task_fsm.proofs.Registers.{registers_leaf}
use Rattle.task_fsm.proofs.Runs.{run_cells}
use Rattle.task_fsm.proofs.Typed.{typed_list}

-- the variables and the counter keep their kinds
var_kept : (vars F : List Kind) (x : ℕ) → IsFront (vars ++ U32 ∷ []) F → x < length vars → slice_index_or F x U64 ≡ slice_index_or vars x U64
var_kept vars F x f l =
    let n = length-append vars (U32 ∷ []) in
    ap (λ (z : List Kind). slice_index_or z x U64) f.joins
    ∙ get_or_append_left (vars ++ U32 ∷ []) f.after U64 x (omega arith)
    ∙ get_or_append_left vars (U32 ∷ []) U64 x l

counter_kept : (vars F : List Kind) → IsFront (vars ++ U32 ∷ []) F → slice_index_or F (length vars) U64 ≡ U32
counter_kept vars F f =
    let n = length-append vars (U32 ∷ []) in
    let e : length vars ≡ length vars + 0 = omega arith in
    ap (λ (z : List Kind). slice_index_or z (length vars) U64) f.joins
    ∙ get_or_append_left (vars ++ U32 ∷ []) f.after U64 (length vars) (omega arith)
    ∙ ap (λ n. slice_index_or (vars ++ U32 ∷ []) n U64) e
    ∙ get_or-append-add vars (U32 ∷ []) 0 U64

typed_leaf : (leaf : Leaf) → IsLeaf leaf → AreTypedStates (with_registers (kinds_of leaf) (leaf_code leaf).regs) (leaf_code leaf).places
typed_leaf leaf is =
    let z = size_of_list leaf.code.items in
    let W = leaf_code leaf in
    let g = grows_list (kinds_of leaf) (z + 2) (length leaf.vars.items) leaf.code.items z z (last_code (z + 2) leaf) in
    typed_list (kinds_of leaf) W.regs (length leaf.vars.items) (λ x l. var_kept leaf.vars.items W.regs x g.front l) (z + 2) (length leaf.vars.items) (length leaf.arrays.items) [] leaf.code.items z z (last_code (z + 2) leaf)
    (counter_kept leaf.vars.items W.regs g.front) is.typed is.fits (no_more W.regs) (tt, (tt, tt))

in_ranges : (leaf : Leaf) (fsm : Fsm) → IsLeaf leaf → forms_of fsm.states.items ≡ (leaf_code leaf).places → fsm.regs.items ≡ (leaf_code leaf).regs → AreInRange (ranges_of leaf fsm) (forms_of fsm.states.items)
in_ranges leaf fsm fits p r =
    let states : length fsm.states.items ≡ length (leaf_code leaf).places = sym (length-map fsm.states.items form_of) ∙ ap length p in
    let with : ℕ → ℕ → Ranges = λ regs states. record { registers = regs; arrays = length leaf.arrays.items; memories = length leaf.memories.items; states = states; writes = writes_of leaf.streams.items } in
    subst (λ P. AreInRange (ranges_of leaf fsm) P) (sym p)
    (subst (λ n. AreInRange (with n (length fsm.states.items - 1)) (leaf_code leaf).places) (sym (ap length r))
    (subst (λ n. AreInRange (with (length (leaf_code leaf).regs) (n - 1)) (leaf_code leaf).places) (sym states) (ranged_leaf leaf fits)))

pub lowered : (leaf : Leaf) (fsm : Fsm) (w : Emitted) → IsLeaf leaf → w ≡ leaf_code leaf → forms_of fsm.states.items ≡ w.places → fsm.regs.items ≡ w.regs → fsm.name ≡ leaf.name → fsm.scalars.items ≡ leaf.scalars.items → fsm.arrays.items ≡ leaf.arrays.items → IsLowered leaf fsm
lowered leaf fsm w fits e ep er em es ea =
    let p : forms_of fsm.states.items ≡ (leaf_code leaf).places = ep ∙ ap (λ (x : Emitted). x.places) e in
    let r : fsm.regs.items ≡ (leaf_code leaf).regs = er ∙ ap (λ (x : Emitted). x.regs) e in
    record {
      machine = λ σ start. machine_at leaf fsm fits p r σ start;
      follows = λ σ start. follows_at leaf fsm fits p r σ start;
      cells = λ σ start n ins.
          let P = forms_of fsm.states.items in
          let job = job_of (kinds_of leaf) leaf.code.items σ n in
          let τ = with_temporaries (length fsm.regs.items - length leaf.vars.items) σ in
          let m = machine_at leaf fsm fits p r σ start n ins in
          run_cells P (length (ticks job ins) + 0) 0 τ [] ins ∙ ap (λ l. cells_after l σ.cells) m.first;
      typed = subst (λ P. AreTypedStates (machine_kinds leaf fsm) P) (sym p)
          (subst (λ F. AreTypedStates (with_registers (kinds_of leaf) F) (leaf_code leaf).places) (sym r) (typed_leaf leaf fits));
      states = sym (length-map fsm.states.items form_of) ∙ ap length p ∙ size_leaf leaf;
      registers = ap length r ∙ registers_leaf leaf;
      in_range = in_ranges leaf fsm fits p r;
      trap = subst (λ P. slice_get P (trap_of P) ≡ Some TrapAt) (sym p) (trap_leaf leaf);
      regs = subst (λ l. IsPrefixOf leaf.vars.items l) (sym r) (front_leaf leaf);
      name = em;
      scalars = es;
      arrays = ea;
    }
