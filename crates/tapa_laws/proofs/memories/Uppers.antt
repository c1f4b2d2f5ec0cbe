-- A legal upper-level task passes no const memory on to a parameter that may be stored to.
use Rattle.std.proofs.Common.{◌≡◌, ℕ, List, [], ◌∷◌, ◌++◌, length, Bool, true, false, not, ◌||◌, Option, Some, None, refl, sym, ap, subst, ◌∙◌}
use Rattle.std.specs.Prelude.{slice_get, bytes_eq, ◌==◌, if◌then◌else◌}
use Rattle.tapa_base.specs.declared.kind.Kind.{Kind}
use Rattle.tapa_base.specs.declared.text.Place.{Place}
use Rattle.tapa_syntax.specs.declared.tree.Name.{Name}
use Rattle.tapa_syntax.specs.declared.tree.Parameter.{Parameter}
use Rattle.tapa_syntax.specs.declared.tree.Parameter.TheVariants as parameter
use Rattle.tapa_syntax.specs.Trees as tree
use Rattle.tapa_syntax.specs.Trees.{ExpressionTree, StreamTree, ArgumentTree, InvocationTree, TaskTree}
use Rattle.check_scope.specs.declared.entity.Entity.{Entity}
use Rattle.check_scope.specs.declared.entity.Entity.TheVariants as entity
use Rattle.check_scope.specs.declared.fault.CheckCode.TheVariants.{C3, C10}
use Rattle.check_scope.specs.Faults.{fault, where_so, wrong_entity}
use Rattle.check_scope.specs.Scopes.{Block, Scope, entity_of}
use Rattle.check_expression.specs.Kinds.{same_kind}
use Rattle.check_upper.specs.declared.task.Binding.{Binding}
use Rattle.check_upper.specs.declared.task.Binding.TheVariants.{OwnStream, StreamParameter, MemoryParameter, ScalarParameter, Constant}
use Rattle.check_upper.specs.Tasks.{Invocation, Task, parameters_of}
use Rattle.check_upper.specs.Uppers as upper
use Rattle.check_upper.specs.Uppers.{Signature, Channels, parameter_kind, is_bound_to, is_task}
use Rattle.stream_check.proofs.WellLists.{no_faults, holds_not, Each, get_last}
use Rattle.stream_check.proofs.WellPorts.{Declares, found, declare}
use Rattle.stream_check.proofs.WellUppers.{right_entity, one_more as one_longer}
use Rattle.tapa_laws.proofs.memories.Flags.{with_free, with_frees, frees_of, IsFree, IsFlagged, AreFlagged, flags_pushed}
use Rattle.tapa_base.proofs.Tests.{both_true as both}
use Rattle.tapa_base.proofs.Got.{the_same}

-- ---- parameters and streams

record SignatureFlags (q : List Bool) (h : Signature) : Type 0 where
  names : AreFlagged q h.scope
  count : h.memories ≡ length q

parameter_flags : (q : List Bool) (h : Signature) (p : Parameter) → SignatureFlags q h → SignatureFlags (with_free q p) (upper.after_parameter h p)
parameter_flags q h (parameter.InputStream k x) f = record { names = declare (IsFlagged q) x.text (entity.Stream false k h.streams) h.scope f.names tt; count = f.count }
parameter_flags q h (parameter.OutputStream k x) f = record { names = declare (IsFlagged q) x.text (entity.Stream true k h.streams) h.scope f.names tt; count = f.count }
parameter_flags q h (parameter.Memory constant k x) f = record {
  names = declare (IsFlagged (q ++ not constant ∷ [])) x.text (entity.Memory (not constant) k h.memories) h.scope (flags_pushed q (not constant) h.scope f.names)
      (get_last q (not constant) h.memories f.count);
  count = one_longer q (not constant) h.memories f.count;
}
parameter_flags q h (parameter.Scalar constant k x) f = record { names = declare (IsFlagged q) x.text (entity.Variable (not constant) k h.scalars) h.scope f.names tt; count = f.count }

parameters_flags : (q : List Bool) (h : Signature) (ps : List Parameter) → SignatureFlags q h → SignatureFlags (with_frees q ps) (upper.after_parameters h ps)
parameters_flags q h [] f = f
parameters_flags q h (p ∷ ps) f = parameters_flags (with_free q p) (upper.after_parameter h p) ps (parameter_flags q h p f)

channels_flags : (q : List Bool) (k : Kind) (depth : ℕ) (c : Channels) (xs : List Name) → AreFlagged q c.scope → AreFlagged q (upper.with_channels k depth c xs).scope
channels_flags q k depth c [] h = h
channels_flags q k depth c (x ∷ xs) h = channels_flags q k depth (upper.with_channel k depth c x) xs (declare (IsFlagged q) x.text (entity.Channel k (length c.streams)) c.scope h tt)

streams_flags : (q : List Bool) (c : Channels) (ss : List StreamTree) → AreFlagged q c.scope → AreFlagged q (upper.after_streams c ss).scope
streams_flags q c [] h = h
streams_flags q c (s ∷ ss) h = streams_flags q (upper.after_stream c s) ss (channels_flags q s.kind (upper.depth_of c.scope s.depth) c s.names h)

-- ---- arguments

-- a memory that is passed to a parameter that may be stored to may itself be stored to
abbrev pub PassesFree : List Bool → Bool → Binding → Type 0
PassesFree q constant (MemoryParameter n) = not constant ≡ true → IsFree q n
PassesFree q constant (OwnStream n) = Unit {0}
PassesFree q constant (StreamParameter n) = Unit {0}
PassesFree q constant (ScalarParameter n from to) = Unit {0}
PassesFree q constant (Constant n) = Unit {0}

abbrev pub BindingKeeps : List Bool → Parameter → Binding → Type 0
BindingKeeps q (parameter.Memory constant k x) l = PassesFree q constant l
BindingKeeps q (parameter.InputStream k x) l = Unit {0}
BindingKeeps q (parameter.OutputStream k x) l = Unit {0}
BindingKeeps q (parameter.Scalar constant k x) l = Unit {0}

abbrev pub BindingsKeep : List Bool → List Parameter → List Binding → Type 0
BindingsKeep q [] ls = Unit {0}
BindingsKeep q (p ∷ ps) [] = Unit {0}
BindingsKeep q (p ∷ ps) (l ∷ ls) = BindingKeeps q p l × BindingsKeep q ps ls

free_where : (q : List Bool) (constant free : Bool) (n : ℕ) → slice_get q n ≡ Some free → (constant || free) ≡ true → not constant ≡ true → IsFree q n
free_where q true free n h e k = absurd (cc)
free_where q false free n h e k = h ∙ ap Some e

memory_passes : (q : List Bool) (x : List ℕ) (constant : Bool) (k : Kind) (s : Entity) → IsFlagged q x s → upper.is_bound_to_memory constant k s ≡ true
    → PassesFree q constant (upper.named_binding k (Some s))
memory_passes q x constant k (entity.Memory free j n) m h = free_where q constant free n m (both (same_kind j k) (constant || free) h).1
memory_passes q x constant k (entity.Channel j n) m h = tt
memory_passes q x constant k (entity.Stream w j n) m h = tt
memory_passes q x constant k (entity.Constant j n) m h = tt
memory_passes q x constant k (entity.Variable free j n) m h = tt
memory_passes q x constant k (entity.Array free j n) m h = tt
memory_passes q x constant k (entity.Task task_number) m h = tt

module _ (q : List Bool) (E : Scope) (names : AreFlagged q E) where
  named_keeps : (p : Parameter) (x : Name) → wrong_entity (is_bound_to p) x.place (entity_of x.text E) ≡ [] → BindingKeeps q p (upper.named_binding (parameter_kind p) (entity_of x.text E))
  named_keeps (parameter.InputStream k x) y h = tt
  named_keeps (parameter.OutputStream k x) y h = tt
  named_keeps (parameter.Scalar constant k x) y h = tt
  named_keeps (parameter.Memory constant k x) y h =
      let r = right_entity (upper.is_bound_to_memory constant k) y.place (entity_of y.text E) h in
      subst (λ o. PassesFree q constant (upper.named_binding k o)) (sym r.1) (memory_passes q y.text constant k r.0 (found (IsFlagged q) y.text E names r.0 r.1) r.2)

  constant_keeps : (p : Parameter) (e : ExpressionTree) → BindingKeeps q p (upper.constant_binding E (parameter_kind p) e)
  constant_keeps (parameter.InputStream k x) e = tt
  constant_keeps (parameter.OutputStream k x) e = tt
  constant_keeps (parameter.Memory constant k x) e = tt
  constant_keeps (parameter.Scalar constant k x) e = tt

  argument_keeps : (p : Parameter) (at : Place) (e : ExpressionTree) → upper.argument_faults E p at e ≡ [] → BindingKeeps q p (upper.binding_of E (parameter_kind p) e)
  argument_keeps p at (tree.variable x) h = named_keeps p x h
  argument_keeps p at (tree.literal k n) h = constant_keeps p (tree.literal k n)
  argument_keeps p at (tree.boolean b) h = constant_keeps p (tree.boolean b)
  argument_keeps p at (tree.element x e) h = constant_keeps p (tree.element x e)
  argument_keeps p at (tree.call s m es) h = constant_keeps p (tree.call s m es)
  argument_keeps p at tree.nullptr h = constant_keeps p tree.nullptr
  argument_keeps p at (tree.construct k e) h = constant_keeps p (tree.construct k e)
  argument_keeps p at (tree.static_cast k e) h = constant_keeps p (tree.static_cast k e)
  argument_keeps p at (tree.cast k e) h = constant_keeps p (tree.cast k e)
  argument_keeps p at (tree.parenthesized e) h = constant_keeps p (tree.parenthesized e)
  argument_keeps p at (tree.prefix o a e) h = constant_keeps p (tree.prefix o a e)
  argument_keeps p at (tree.binary o a x y) h = constant_keeps p (tree.binary o a x y)
  argument_keeps p at (tree.conditional a x y z) h = constant_keeps p (tree.conditional a x y z)

  arguments_keep : (ps : List Parameter) (bs : List ArgumentTree) → upper.arguments_faults E ps bs ≡ [] → BindingsKeep q ps (upper.bindings_of E ps bs)
  arguments_keep [] bs h = tt
  arguments_keep (p ∷ ps) [] h = tt
  arguments_keep (p ∷ ps) (b ∷ bs) h =
      let f = no_faults (upper.argument_faults E p b.place b.value) (upper.arguments_faults E ps bs) h in
      (argument_keeps p b.place b.value f.0, arguments_keep ps bs f.1)

-- ---- invocations

-- of a task that has this number among all
abbrev pub InvocationKeeps : List Task → List Bool → Invocation → Type 0
InvocationKeeps all q i = (t : Task) → slice_get all i.task ≡ Some t → BindingsKeep q t.declared.parameters i.bindings

-- the tasks before are the first of all
abbrev pub Begins : List Task → List Task → Type 0
Begins before all = (n : ℕ) (t : Task) → slice_get before n ≡ Some t → slice_get all n ≡ Some t

no_bindings : (E : Scope) (q : List Bool) (ps : List Parameter) (bs : List ArgumentTree) → BindingsKeep q ps (upper.bindings_of E [] bs)
no_bindings E q [] bs = tt
no_bindings E q (p ∷ ps) bs = tt

-- the parameters of the task that was found before are those of the task among all
same_parameters : (E : Scope) (q : List Bool) (all : List Task) (n : ℕ) (o : Option Task) (bs : List ArgumentTree) → ((t : Task) → o ≡ Some t → slice_get all n ≡ Some t)
    → BindingsKeep q (parameters_of o) (upper.bindings_of E (parameters_of o) bs) → (t : Task) → slice_get all n ≡ Some t
    → BindingsKeep q t.declared.parameters (upper.bindings_of E (parameters_of o) bs)
same_parameters E q all n None bs f h t e = no_bindings E q t.declared.parameters bs
same_parameters E q all n (Some u) bs f h t e =
    subst (λ (v : Task). BindingsKeep q v.declared.parameters (upper.bindings_of E u.declared.parameters bs)) (the_same u t (sym (f u refl) ∙ e)) h

invoked_keeps : (E : Scope) (q : List Bool) → AreFlagged q E → (before all : List Task) → Begins before all → (self : TaskTree) (i : InvocationTree) (ps : List Parameter)
    → ps ≡ parameters_of (slice_get before (upper.invoked_task E i.task.text)) → upper.arguments_faults E ps i.arguments ≡ [] → (t : Task)
    → slice_get all (upper.invoked_task E i.task.text) ≡ Some t → BindingsKeep q t.declared.parameters (upper.bindings_of E ps i.arguments)
invoked_keeps E q names before all begins self i ps same h t e =
    let n = upper.invoked_task E i.task.text in
    let o = slice_get before (upper.invoked_task E i.task.text) in
    let h' = subst (λ qs. upper.arguments_faults E qs i.arguments ≡ []) same h in
    subst (λ qs. BindingsKeep q t.declared.parameters (upper.bindings_of E qs i.arguments)) (sym same)
    (same_parameters E q all n o i.arguments (λ u a. begins n u a) (arguments_keep q E names (parameters_of o) i.arguments h') t e)

invocation_keeps : (E : Scope) (q : List Bool) → AreFlagged q E → (before all : List Task) → Begins before all → (self : TaskTree) (i : InvocationTree)
    → upper.invocation_faults E before self i ≡ [] → InvocationKeeps all q (upper.invocation_of E before self i)
invocation_keeps E q names before all begins self i h =
    let ps = upper.invoked_parameters E before self i.task.text in
    let is_self = bytes_eq i.task.text self.name.text in
    let named = wrong_entity is_task i.task.place (entity_of i.task.text E) in
    let callee = upper.callee_faults E (upper.invoked_parameters E before self i.task.text) (bytes_eq i.task.text self.name.text) i in
    let a = no_faults (upper.mode_faults i.mode) (named ++ callee) h in
    let b = no_faults named callee a.1 in
    let c = no_faults (where_so (not (length ps == length i.arguments)) (fault C3 i.task.place)) (where_so is_self (fault C10 i.task.place) ++ upper.arguments_faults E ps i.arguments) b.1 in
    let d = no_faults (where_so is_self (fault C10 i.task.place)) (upper.arguments_faults E ps i.arguments) c.1 in
    let other = holds_not (bytes_eq i.task.text self.name.text) (record { code = C10; place = i.task.place; limit = None }) d.0 in
    let theirs : upper.invoked_parameters E before self i.task.text ≡ parameters_of (slice_get before (upper.invoked_task E i.task.text)) =
    ap (λ b. if b then self.parameters else parameters_of (slice_get before (upper.invoked_task E i.task.text))) other in
    invoked_keeps E q names before all begins self i ps theirs d.1

invocations_keep : (E : Scope) (q : List Bool) → AreFlagged q E → (before all : List Task) → Begins before all → (self : TaskTree) (is : List InvocationTree)
    → upper.invocations_faults E before self is ≡ [] → Each (InvocationKeeps all q) (upper.invocations_of E before self is)
invocations_keep E q names before all begins self [] h = tt
invocations_keep E q names before all begins self (i ∷ is) h =
    let f = no_faults (upper.invocation_faults E before self i) (upper.invocations_faults E before self is) h in
    (invocation_keeps E q names before all begins self i f.0, invocations_keep E q names before all begins self is f.1)

-- ---- an upper-level task

pub upper_keeps : (file : Block) → Declares (IsFlagged []) file → (before all : List Task) → Begins before all → (t : TaskTree) (ss : List StreamTree) (is : List InvocationTree)
    → upper.upper_faults file before t ss is ≡ []
    → Each (InvocationKeeps all (frees_of t.parameters)) (upper.invocations_of (upper.after_streams (upper.streams_begin file t) ss).scope before t is)
upper_keeps file names before all begins t ss is h =
    let q = frees_of t.parameters in
    let c = upper.after_streams (upper.streams_begin file t) ss in
    let a = no_faults (upper.parameters_faults (upper.task_begins file) t.parameters) (upper.streams_faults (upper.streams_begin file t) ss ++ upper.invocations_faults c.scope before t is) h in
    let b = no_faults (upper.streams_faults (upper.streams_begin file t) ss) (upper.invocations_faults c.scope before t is) a.1 in
    let s = parameters_flags [] (upper.task_begins file) t.parameters (record { names = (names, (tt, tt)); count = refl }) in
    invocations_keep c.scope q (streams_flags q (upper.streams_begin file t) ss s.names) before all begins t is b.1
