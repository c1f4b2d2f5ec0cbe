-- An upper-level task without faults: each argument fits its parameter, and each stream has a depth.
use Rattle.std.proofs.Common.{◌≡◌, ◌<◌, ◌≤◌, ◌+◌, inl, inr, ℕ, List, [], ◌∷◌, ◌++◌, length, Bool, true, false, not, ◌&&◌, Some, None, refl, sym, ap, subst, ◌∙◌, arith, length-append}
use Rattle.std.specs.Prelude.{Option, slice_get, bytes_eq, ◌==◌, nat_le, if◌then◌else◌}
use Rattle.std.proofs.lemmas.Bool.{eqb-true, leb-true}
use Rattle.std.proofs.lemmas.Slice.Eq.{bytes_eq-Decides}
use Rattle.tapa_base.specs.declared.kind.Kind.{Kind}
use Rattle.tapa_base.specs.declared.text.Place.{Place}
use Rattle.tapa_base.specs.Kinds.{values_of}
use Rattle.tapa_syntax.specs.declared.program.End.{End}
use Rattle.tapa_syntax.specs.declared.tree.Name.{Name}
use Rattle.tapa_syntax.specs.declared.tree.Parameter.{Parameter}
use Rattle.tapa_syntax.specs.declared.tree.Parameter.TheVariants as parameter
use Rattle.tapa_syntax.specs.Trees as tree
use Rattle.tapa_syntax.specs.Trees.{ExpressionTree, CountTree, StreamTree, ArgumentTree, InvocationTree, TaskTree}
use Rattle.check_scope.specs.declared.fault.Broken.{Broken}
use Rattle.check_scope.specs.declared.entity.Entity.{Entity}
use Rattle.check_scope.specs.declared.entity.Entity.TheVariants as entity
use Rattle.check_scope.specs.Scopes.{Block, Scope, entity_of, number_of}
use Rattle.check_scope.specs.declared.fault.CheckCode.{CheckCode}
use Rattle.check_scope.specs.declared.fault.CheckCode.TheVariants.{C3, C10, C11}
use Rattle.check_scope.specs.Faults.{fault, over, where_so, wrong_entity}
use Rattle.check_expression.specs.Expressions.{is_constant, constant_faults}
use Rattle.check_expression.specs.Counts.{count_of, form_faults, most_of_count}
use Rattle.check_expression.specs.Kinds.{same_kind}
use Rattle.tapa_syntax.specs.Flat.{literal}
use Rattle.check_upper.specs.declared.task.Channel.{Channel}
use Rattle.check_upper.specs.declared.task.Binding.{Binding}
use Rattle.check_upper.specs.declared.task.Binding.TheVariants.{OwnStream, StreamParameter, MemoryParameter, ScalarParameter, Constant}
use Rattle.check_upper.specs.Tasks.{Invocation, Task, parameters_of}
use Rattle.check_upper.specs.Uppers as upper
use Rattle.check_upper.specs.Uppers.{Signature, Channels, parameter_kind, is_bound_to, is_task}
use Rattle.stream_check.proofs.WellLists.{no_faults, holds, holds_not, Each, each_append, get_last, Pairs}
use Rattle.stream_check.proofs.WellValues.{as_kind_fits, wanted_fits}
use Rattle.stream_check.proofs.WellPorts.{Ports, no_ports, end_of, with_stream, with_memory, with_scalar, with_port, with_ports, ports_of, IsTask, Means, DeclareAll, found, declare, declare_all_more, scope_sound, means_more}
use Rattle.check_expression.proofs.Constants.{all_constant as constant_so}
use Rattle.check_leaf.proofs.Conversions.{same_kinds as kinds_same}
use Rattle.tapa_base.proofs.Tests.{both_true as both}
use Rattle.tapa_base.proofs.Got.{got_left as get_left}

abbrev the_broken : CheckCode → Place → Option ℕ → Broken
the_broken code place limit = record { code = code; place = place; limit = limit }

-- ---- parameters

pub record SignatureFits (tasks : List Task) (self : List ℕ) (h : Signature) (q : Ports) : Type 0 where
  pub names : DeclareAll (Means tasks self q []) h.scope
  pub streams : h.streams ≡ length q.streams
  pub memories : h.memories ≡ length q.memories
  pub scalars : h.scalars ≡ length q.scalars

pub one_more : {A : Type 0} (xs : List A) (x : A) (n : ℕ) → n ≡ length xs → n + 1 ≡ length (xs ++ x ∷ [])
one_more xs x n e = let l = length-append xs (x ∷ []) in omega arith

stream_step : (tasks : List Task) (self : List ℕ) (h : Signature) (q : Ports) (w : Bool) (k : Kind) (x : Name) → SignatureFits tasks self h q → SignatureFits tasks self (upper.with_stream w k x h) (with_stream w k q)
stream_step tasks self h q w k x f = record {
  names = declare (Means tasks self (with_stream w k q) []) x.text (entity.Stream w k h.streams) h.scope
      (declare_all_more (Means tasks self q []) (Means tasks self (with_stream w k q) []) (means_more tasks self q (with_stream w k q) [] [] (λ n e a. get_left q.streams (end_of w k ∷ []) n e a) (λ n j a. a) (λ n j a. a) (λ n c a. a)) h.scope f.names)
      (get_last q.streams (end_of w k) h.streams f.streams);
  streams = one_more q.streams (end_of w k) h.streams f.streams;
  memories = f.memories;
  scalars = f.scalars;
}

memory_step : (tasks : List Task) (self : List ℕ) (h : Signature) (q : Ports) (w : Bool) (k : Kind) (x : Name) → SignatureFits tasks self h q → SignatureFits tasks self (upper.with_memory w k x h) (with_memory k q)
memory_step tasks self h q w k x f = record {
  names = declare (Means tasks self (with_memory k q) []) x.text (entity.Memory w k h.memories) h.scope
      (declare_all_more (Means tasks self q []) (Means tasks self (with_memory k q) []) (means_more tasks self q (with_memory k q) [] [] (λ n e a. a) (λ n j a. get_left q.memories (k ∷ []) n j a) (λ n j a. a) (λ n c a. a)) h.scope f.names)
      (get_last q.memories k h.memories f.memories);
  streams = f.streams;
  memories = one_more q.memories k h.memories f.memories;
  scalars = f.scalars;
}

scalar_step : (tasks : List Task) (self : List ℕ) (h : Signature) (q : Ports) (w : Bool) (k : Kind) (x : Name) → SignatureFits tasks self h q → SignatureFits tasks self (upper.with_scalar w k x h) (with_scalar k q)
scalar_step tasks self h q w k x f = record {
  names = declare (Means tasks self (with_scalar k q) []) x.text (entity.Variable w k h.scalars) h.scope
      (declare_all_more (Means tasks self q []) (Means tasks self (with_scalar k q) []) (means_more tasks self q (with_scalar k q) [] [] (λ n e a. a) (λ n j a. a) (λ n j a. get_left q.scalars (k ∷ []) n j a) (λ n c a. a)) h.scope f.names)
      (get_last q.scalars k h.scalars f.scalars);
  streams = f.streams;
  memories = f.memories;
  scalars = one_more q.scalars k h.scalars f.scalars;
}

signature_step : (tasks : List Task) (self : List ℕ) (h : Signature) (q : Ports) (p : Parameter) → SignatureFits tasks self h q → SignatureFits tasks self (upper.after_parameter h p) (with_port q p)
signature_step tasks self h q (parameter.InputStream k x) f = stream_step tasks self h q false k x f
signature_step tasks self h q (parameter.OutputStream k x) f = stream_step tasks self h q true k x f
signature_step tasks self h q (parameter.Memory constant k x) f = memory_step tasks self h q (not constant) k x f
signature_step tasks self h q (parameter.Scalar constant k x) f = scalar_step tasks self h q (not constant) k x f

signature_steps : (tasks : List Task) (self : List ℕ) (h : Signature) (q : Ports) (ps : List Parameter) → SignatureFits tasks self h q → SignatureFits tasks self (upper.after_parameters h ps) (with_ports q ps)
signature_steps tasks self h q [] f = f
signature_steps tasks self h q (p ∷ ps) f = signature_steps tasks self (upper.after_parameter h p) (with_port q p) ps (signature_step tasks self h q p f)

-- ---- streams

abbrev pub IsDepth : ℕ → Type 0
IsDepth d = (1 ≤ d) × (d ≤ 4096)

abbrev pub HasDepth : Channel → Type 0
HasDepth c = IsDepth c.depth

pub record ChannelsFit (tasks : List Task) (self : List ℕ) (q : Ports) (c : Channels) : Type 0 where
  pub names : DeclareAll (Means tasks self q c.streams) c.scope
  pub depths : Each HasDepth c.streams

channel_step : (tasks : List Task) (self : List ℕ) (q : Ports) (k : Kind) (depth : ℕ) (c : Channels) (x : Name) → IsDepth depth → ChannelsFit tasks self q c → ChannelsFit tasks self q (upper.with_channel k depth c x)
channel_step tasks self q k depth c x d f =
    let new : Channel = record { name = x.text; place = x.place; kind = k; depth = depth } in
    record {
      names = declare (Means tasks self q (upper.with_channel k depth c x).streams) x.text (entity.Channel k (length c.streams)) c.scope
          (declare_all_more (Means tasks self q c.streams) (Means tasks self q (upper.with_channel k depth c x).streams) (means_more tasks self q q c.streams (upper.with_channel k depth c x).streams (λ n e a. a) (λ n j a. a) (λ n j a. a) (λ n y a. get_left c.streams (new ∷ []) n y a)) c.scope f.names)
          (new, get_last c.streams new (length c.streams) refl, refl);
      depths = each_append HasDepth c.streams (new ∷ []) f.depths (d, tt);
    }

channel_steps : (tasks : List Task) (self : List ℕ) (q : Ports) (k : Kind) (depth : ℕ) (c : Channels) (xs : List Name) → IsDepth depth → ChannelsFit tasks self q c → ChannelsFit tasks self q (upper.with_channels k depth c xs)
channel_steps tasks self q k depth c [] d f = f
channel_steps tasks self q k depth c (x ∷ xs) d f = channel_steps tasks self q k depth (upper.with_channel k depth c x) xs d (channel_step tasks self q k depth c x d f)

depth_is : (E : Scope) (o : Option CountTree) → upper.depth_faults E o ≡ [] → IsDepth (upper.depth_of E o)
depth_is E None h = (omega arith, omega arith)
depth_is E (Some count) h =
    let p = no_faults (form_faults E count.form) (where_so (not (nat_le 1 (count_of E count) && nat_le (count_of E count) most_of_count)) (over most_of_count count.place)) h in
    let b = both (nat_le 1 (count_of E count)) (nat_le (count_of E count) 4096) (holds (nat_le 1 (count_of E count) && nat_le (count_of E count) most_of_count) (the_broken C11 count.place (Some most_of_count)) p.1) in
    (leb-true 1 (count_of E count) b.0, leb-true (count_of E count) 4096 b.1)

streams_steps : (tasks : List Task) (self : List ℕ) (q : Ports) (c : Channels) (ss : List StreamTree) → upper.streams_faults c ss ≡ [] → ChannelsFit tasks self q c → ChannelsFit tasks self q (upper.after_streams c ss)
streams_steps tasks self q c [] h f = f
streams_steps tasks self q c (s ∷ ss) h f =
    let p = no_faults (upper.stream_faults c s) (upper.streams_faults (upper.after_stream c s) ss) h in
    let d = no_faults (upper.depth_faults c.scope s.depth) (upper.channels_faults s.kind (upper.depth_of c.scope s.depth) c s.names) p.0 in
    streams_steps tasks self q (upper.after_stream c s) ss p.1 (channel_steps tasks self q s.kind (upper.depth_of c.scope s.depth) c s.names (depth_is c.scope s.depth d.0) f)

-- ---- arguments

abbrev pub StreamBinding : Ports → List Channel → Kind → Binding → Type 0
StreamBinding q c k (OwnStream n) = (d : Channel) × (slice_get c n ≡ Some d) × (d.kind ≡ k)
StreamBinding q c k (StreamParameter n) = (e : End) × (slice_get q.streams n ≡ Some e) × (e.kind ≡ k)
StreamBinding q c k (MemoryParameter n) = ⊥
StreamBinding q c k (ScalarParameter n from to) = ⊥
StreamBinding q c k (Constant n) = ⊥

abbrev pub MemoryBinding : Ports → Kind → Binding → Type 0
MemoryBinding q k (MemoryParameter n) = slice_get q.memories n ≡ Some k
MemoryBinding q k (OwnStream n) = ⊥
MemoryBinding q k (StreamParameter n) = ⊥
MemoryBinding q k (ScalarParameter n from to) = ⊥
MemoryBinding q k (Constant n) = ⊥

abbrev pub ScalarBinding : Ports → Kind → Binding → Type 0
ScalarBinding q k (ScalarParameter n from to) = (slice_get q.scalars n ≡ Some from) × (to ≡ k)
ScalarBinding q k (Constant n) = n < values_of k
ScalarBinding q k (OwnStream n) = ⊥
ScalarBinding q k (StreamParameter n) = ⊥
ScalarBinding q k (MemoryParameter n) = ⊥

-- what is bound to a parameter fits it
abbrev pub BindingFits : Ports → List Channel → Parameter → Binding → Type 0
BindingFits q c (parameter.InputStream k x) l = StreamBinding q c k l
BindingFits q c (parameter.OutputStream k x) l = StreamBinding q c k l
BindingFits q c (parameter.Memory constant k x) l = MemoryBinding q k l
BindingFits q c (parameter.Scalar constant k x) l = ScalarBinding q k l

module _ (tasks : List Task) (self : List ℕ) (q : Ports) (c : List Channel) (y : List ℕ) where
  stream_bound : (w : Bool) (k : Kind) (s : Entity) → Means tasks self q c y s → upper.is_bound_to_stream w k s ≡ true → StreamBinding q c k (upper.named_binding k (Some s))
  stream_bound w k (entity.Channel j n) m h = (m.0, m.1, m.2 ∙ kinds_same j k h)
  stream_bound w k (entity.Stream true j n) m h = (end_of true j, m, kinds_same j k (both w (same_kind j k) h).1)
  stream_bound w k (entity.Stream false j n) m h = (end_of false j, m, kinds_same j k (both (not w) (same_kind j k) h).1)
  stream_bound w k (entity.Constant j n) m h = absurd (cc)
  stream_bound w k (entity.Variable free j n) m h = absurd (cc)
  stream_bound w k (entity.Array free j n) m h = absurd (cc)
  stream_bound w k (entity.Memory free j n) m h = absurd (cc)
  stream_bound w k (entity.Task task_number) m h = absurd (cc)

  memory_bound : (constant : Bool) (k : Kind) (s : Entity) → Means tasks self q c y s → upper.is_bound_to_memory constant k s ≡ true → MemoryBinding q k (upper.named_binding k (Some s))
  memory_bound constant k (entity.Memory free j n) m h = m ∙ ap Some (kinds_same j k (both (same_kind j k) _ h).0)
  memory_bound constant k (entity.Channel j n) m h = absurd (cc)
  memory_bound constant k (entity.Stream writes j n) m h = absurd (cc)
  memory_bound constant k (entity.Constant j n) m h = absurd (cc)
  memory_bound constant k (entity.Variable free j n) m h = absurd (cc)
  memory_bound constant k (entity.Array free j n) m h = absurd (cc)
  memory_bound constant k (entity.Task task_number) m h = absurd (cc)

  scalar_bound : (k : Kind) (s : Entity) → Means tasks self q c y s → upper.is_bound_to_scalar s ≡ true → ScalarBinding q k (upper.named_binding k (Some s))
  scalar_bound k (entity.Variable free j n) m h = (m, refl)
  scalar_bound k (entity.Constant j n) m h = as_kind_fits j k (literal j n) m
  scalar_bound k (entity.Memory free j n) m h = absurd (cc)
  scalar_bound k (entity.Channel j n) m h = absurd (cc)
  scalar_bound k (entity.Stream writes j n) m h = absurd (cc)
  scalar_bound k (entity.Array free j n) m h = absurd (cc)
  scalar_bound k (entity.Task task_number) m h = absurd (cc)

  bound : (p : Parameter) (s : Entity) → Means tasks self q c y s → is_bound_to p s ≡ true → BindingFits q c p (upper.named_binding (parameter_kind p) (Some s))
  bound (parameter.InputStream k x) s m h = stream_bound false k s m h
  bound (parameter.OutputStream k x) s m h = stream_bound true k s m h
  bound (parameter.Memory constant k x) s m h = memory_bound constant k s m h
  bound (parameter.Scalar constant k x) s m h = scalar_bound k s m h

pub right_entity : (fits : Entity → Bool) (place : Place) (o : Option Entity) → wrong_entity fits place o ≡ [] → (s : Entity) × (o ≡ Some s) × (fits s ≡ true)
right_entity fits place None h = absurd (cc)
right_entity fits place (Some s) h = (s, refl, holds (fits s) (the_broken C3 place None) h)

module _ (tasks : List Task) (self : List ℕ) (q : Ports) (c : List Channel) (E : Scope) (names : DeclareAll (Means tasks self q c) E) where
  named : (p : Parameter) (x : Name) → wrong_entity (is_bound_to p) x.place (entity_of x.text E) ≡ [] → BindingFits q c p (upper.named_binding (parameter_kind p) (entity_of x.text E))
  named p x h =
      let r = right_entity (is_bound_to p) x.place (entity_of x.text E) h in
      subst (λ o. BindingFits q c p (upper.named_binding (parameter_kind p) o)) (sym r.1) (bound tasks self q c x.text p r.0 (found (Means tasks self q c) x.text E names r.0 r.1) r.2)

  refused : (b : Bool) (x : Broken) → b ≡ true → where_so (b && true) (x ∷ []) ≡ [] → ⊥
  refused true x e h = cc
  refused false x e h = cc

  constant_argument : (p : Parameter) (at : Place) (e : ExpressionTree) → upper.constant_argument_faults E p at e ≡ [] → BindingFits q c p (upper.constant_binding E (parameter_kind p) e)
  constant_argument (parameter.Scalar constant k x) at e h = wanted_fits E (scope_sound tasks self q c E names) k e
  constant_argument (parameter.InputStream k x) at e h = let f = no_faults (where_so (is_constant E e && true) (fault C3 at)) (constant_faults E e) h in absurd (refused (is_constant E e) (the_broken C3 at None) (constant_so E e f.1) f.0)
  constant_argument (parameter.OutputStream k x) at e h = let f = no_faults (where_so (is_constant E e && true) (fault C3 at)) (constant_faults E e) h in absurd (refused (is_constant E e) (the_broken C3 at None) (constant_so E e f.1) f.0)
  constant_argument (parameter.Memory constant k x) at e h = let f = no_faults (where_so (is_constant E e && true) (fault C3 at)) (constant_faults E e) h in absurd (refused (is_constant E e) (the_broken C3 at None) (constant_so E e f.1) f.0)

  argument : (p : Parameter) (at : Place) (e : ExpressionTree) → upper.argument_faults E p at e ≡ [] → BindingFits q c p (upper.binding_of E (parameter_kind p) e)
  argument p at (tree.variable x) h = named p x h
  argument p at (tree.literal k n) h = constant_argument p at (tree.literal k n) h
  argument p at (tree.boolean b) h = constant_argument p at (tree.boolean b) h
  argument p at (tree.element x e) h = constant_argument p at (tree.element x e) h
  argument p at (tree.call s m es) h = constant_argument p at (tree.call s m es) h
  argument p at tree.nullptr h = constant_argument p at tree.nullptr h
  argument p at (tree.construct k e) h = constant_argument p at (tree.construct k e) h
  argument p at (tree.static_cast k e) h = constant_argument p at (tree.static_cast k e) h
  argument p at (tree.cast k e) h = constant_argument p at (tree.cast k e) h
  argument p at (tree.parenthesized e) h = constant_argument p at (tree.parenthesized e) h
  argument p at (tree.prefix o a e) h = constant_argument p at (tree.prefix o a e) h
  argument p at (tree.binary o a x y) h = constant_argument p at (tree.binary o a x y) h
  argument p at (tree.conditional a x y z) h = constant_argument p at (tree.conditional a x y z) h

  arguments : (ps : List Parameter) (bs : List ArgumentTree) → length ps ≡ length bs → upper.arguments_faults E ps bs ≡ [] → Pairs (BindingFits q c) ps (upper.bindings_of E ps bs)
  arguments [] [] l h = tt
  arguments [] (b ∷ bs) l h = absurd (omega arith)
  arguments (p ∷ ps) [] l h = absurd (omega arith)
  arguments (p ∷ ps) (b ∷ bs) l h =
      let f = no_faults (upper.argument_faults E p b.place b.value) (upper.arguments_faults E ps bs) h in
      (argument p b.place b.value f.0, arguments ps bs (omega arith) f.1)

-- ---- invocations

pub record InvocationFits (tasks : List Task) (q : Ports) (c : List Channel) (i : Invocation) : Type 0 where
  pub task : Task
  pub there : slice_get tasks i.task ≡ Some task
  pub bindings : Pairs (BindingFits q c) task.declared.parameters i.bindings

task_named : (tasks : List Task) (self x : List ℕ) (q : Ports) (c : List Channel) (s : Entity) → Means tasks self q c x s → is_task s ≡ true → bytes_eq x self ≡ false → IsTask tasks (number_of (Some s))
task_named tasks self x q c (entity.Task task_number) (inl e) h k = absurd (let t = (bytes_eq-Decides x self).1 e in cc)
task_named tasks self x q c (entity.Task task_number) (inr m) h k = m
task_named tasks self x q c (entity.Constant j n) m h k = absurd (cc)
task_named tasks self x q c (entity.Variable free j n) m h k = absurd (cc)
task_named tasks self x q c (entity.Array free j n) m h k = absurd (cc)
task_named tasks self x q c (entity.Memory free j n) m h k = absurd (cc)
task_named tasks self x q c (entity.Stream writes j n) m h k = absurd (cc)
task_named tasks self x q c (entity.Channel j n) m h k = absurd (cc)

invoked_fits : (tasks : List Task) (self : TaskTree) (q : Ports) (c : List Channel) (E : Scope) → DeclareAll (Means tasks self.name.text q c) E → (i : InvocationTree) (ps : List Parameter) → upper.invoked_parameters E tasks self i.task.text ≡ ps → wrong_entity is_task i.task.place (entity_of i.task.text E) ≡ [] → upper.callee_faults E ps (bytes_eq i.task.text self.name.text) i ≡ [] → InvocationFits tasks q c (upper.invocation_of E tasks self i)
invoked_fits tasks self q c E names i ps same a h =
    let d = no_faults (where_so (not (length ps == length i.arguments)) (fault C3 i.task.place)) (where_so (bytes_eq i.task.text self.name.text) (fault C10 i.task.place) ++ upper.arguments_faults E ps i.arguments) h in
    let e = no_faults (where_so (bytes_eq i.task.text self.name.text) (fault C10 i.task.place)) (upper.arguments_faults E ps i.arguments) d.1 in
    let r = right_entity is_task i.task.place (entity_of i.task.text E) a in
    let other = holds_not (bytes_eq i.task.text self.name.text) (the_broken C10 i.task.place None) e.0 in
    let n = task_named tasks self.name.text i.task.text q c r.0 (found (Means tasks self.name.text q c) i.task.text E names r.0 r.1) r.2 other in
    let there : slice_get tasks (upper.invoked_task E i.task.text) ≡ Some n.0 = subst (λ o. slice_get tasks (number_of o) ≡ Some n.0) (sym r.1) n.1 in
    let theirs : upper.invoked_parameters E tasks self i.task.text ≡ n.0.declared.parameters = ap (λ b. if b then self.parameters else parameters_of (slice_get tasks (upper.invoked_task E i.task.text))) other ∙ ap parameters_of there in
    let count = eqb-true (length ps) (length i.arguments) (holds (length ps == length i.arguments) (the_broken C3 i.task.place None) d.0) in
    let bindings = arguments tasks self.name.text q c E names ps i.arguments count e.1 in
    record {
      task = n.0;
      there = there;
      bindings = subst (λ qs. Pairs (BindingFits q c) qs (upper.bindings_of E (upper.invoked_parameters E tasks self i.task.text) i.arguments)) theirs
          (subst (λ qs. Pairs (BindingFits q c) qs (upper.bindings_of E qs i.arguments)) (sym same) bindings);
    }

invocation_fits : (tasks : List Task) (self : TaskTree) (q : Ports) (c : List Channel) (E : Scope) → DeclareAll (Means tasks self.name.text q c) E → (i : InvocationTree) → upper.invocation_faults E tasks self i ≡ [] → InvocationFits tasks q c (upper.invocation_of E tasks self i)
invocation_fits tasks self q c E names i h =
    let ps = upper.invoked_parameters E tasks self i.task.text in
    let is_self = bytes_eq i.task.text self.name.text in
    let a = no_faults (upper.mode_faults i.mode) (wrong_entity is_task i.task.place (entity_of i.task.text E) ++ upper.callee_faults E (upper.invoked_parameters E tasks self i.task.text) (bytes_eq i.task.text self.name.text) i) h in
    let b = no_faults (wrong_entity is_task i.task.place (entity_of i.task.text E)) (upper.callee_faults E (upper.invoked_parameters E tasks self i.task.text) (bytes_eq i.task.text self.name.text) i) a.1 in
    invoked_fits tasks self q c E names i (upper.invoked_parameters E tasks self i.task.text) refl b.0 b.1

invocations_fit : (tasks : List Task) (self : TaskTree) (q : Ports) (c : List Channel) (E : Scope) → DeclareAll (Means tasks self.name.text q c) E → (is : List InvocationTree) → upper.invocations_faults E tasks self is ≡ [] → Each (InvocationFits tasks q c) (upper.invocations_of E tasks self is)
invocations_fit tasks self q c E names [] h = tt
invocations_fit tasks self q c E names (i ∷ is) h =
    let f = no_faults (upper.invocation_faults E tasks self i) (upper.invocations_faults E tasks self is) h in
    (invocation_fits tasks self q c E names i f.0, invocations_fit tasks self q c E names is f.1)

-- ---- an upper-level task

pub record UpperFits (tasks : List Task) (q : Ports) (channels : List Channel) (is : List Invocation) : Type 0 where
  pub depths : Each HasDepth channels
  pub invocations : Each (InvocationFits tasks q channels) is

pub upper_fits : (file : Block) (tasks : List Task) (t : TaskTree) (ss : List StreamTree) (is : List InvocationTree) → DeclareAll (Means tasks t.name.text no_ports []) (file ∷ [] ∷ []) → upper.upper_faults file tasks t ss is ≡ [] → UpperFits tasks (ports_of t.parameters) (upper.after_streams (upper.streams_begin file t) ss).streams (upper.invocations_of (upper.after_streams (upper.streams_begin file t) ss).scope tasks t is)
upper_fits file tasks t ss is names h =
    let a = no_faults (upper.parameters_faults (upper.task_begins file) t.parameters) (upper.streams_faults (upper.streams_begin file t) ss ++ upper.invocations_faults (upper.after_streams (upper.streams_begin file t) ss).scope tasks t is) h in
    let b = no_faults (upper.streams_faults (upper.streams_begin file t) ss) (upper.invocations_faults (upper.after_streams (upper.streams_begin file t) ss).scope tasks t is) a.1 in
    let s = signature_steps tasks t.name.text (upper.task_begins file) no_ports t.parameters (record { names = names; streams = refl; memories = refl; scalars = refl }) in
    let f = streams_steps tasks t.name.text (ports_of t.parameters) (upper.streams_begin file t) ss b.0 (record { names = s.names; depths = tt }) in
    record {
      depths = f.depths;
      invocations = invocations_fit tasks t (ports_of t.parameters) (upper.after_streams (upper.streams_begin file t) ss).streams (upper.after_streams (upper.streams_begin file t) ss).scope f.names is b.1;
    }
