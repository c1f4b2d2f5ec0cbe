-- The names that a file without faults declares: no two in one block are the same.
use Rattle.std.proofs.Common.{◌≡◌, ◌⊎◌, inl, inr, ℕ, zero, suc, List, [], ◌∷◌, ◌++◌, length, map, Bool, true, false, not, Some, None, refl, sym, ap, subst, ◌∙◌, append_assoc, append-nil}
use Rattle.std.specs.Prelude.{Option, slice_get, bytes_eq, if◌then◌else◌}
use Rattle.std.specs.List.{AllByRecursion}
use Rattle.std.proofs.lemmas.List.{map-append}
use Rattle.std.proofs.lemmas.Slice.Eq.{bytes_eq-Decides}
use Rattle.tapa_base.specs.declared.kind.Kind.{Kind}
use Rattle.tapa_syntax.specs.declared.tree.Name.{Name}
use Rattle.tapa_syntax.specs.declared.tree.Parameter.{Parameter}
use Rattle.tapa_syntax.specs.declared.tree.Parameter.TheVariants as parameter
use Rattle.tapa_base.specs.Gaps.{Bytes}
use Rattle.tapa_syntax.specs.Trees as tree
use Rattle.tapa_syntax.specs.Trees.{StreamTree, BodyTree, TaskTree, ItemTree}
use Rattle.check_scope.specs.declared.fault.CheckCode.TheVariants.{C2}
use Rattle.check_scope.specs.declared.entity.Entity.{Entity}
use Rattle.check_scope.specs.declared.entity.Entity.TheVariants as entity
use Rattle.check_scope.specs.Scopes.{Block, Scope, in_block, entity_here, declaring}
use Rattle.check_scope.specs.Faults.{is_there, doubled}
use Rattle.check_expression.specs.Expressions.{wanted, constant_value}
use Rattle.check_leaf.specs.Statements.{statements_faults, codes_of}
use Rattle.check_leaf.specs.Leaves as leaf
use Rattle.check_leaf.specs.Leaves.{Head}
use Rattle.check_upper.specs.declared.task.Channel.{Channel}
use Rattle.check_upper.specs.Tasks.{Body, leaf_body, upper_body, Task}
use Rattle.check_upper.specs.Uppers as upper
use Rattle.check_upper.specs.Uppers.{Signature, Channels}
use Rattle.stream_check.specs.Items.{Items, no_items, with_task, body_of, body_faults, after_task, after_item, item_faults, after_items, items_faults, tasks_of}
use Rattle.stream_check.proofs.WellLists.{nothing, no_faults, holds_not}
use Rattle.command_source.specs.Labels.{IsPlainName}
use Rattle.tapa_syntax.specs.OwnNames.{AreApart}
use Rattle.command_source.specs.Named.{parameter_name, NamesStreams, IsNamedTask, IsNamedItem, AreNamed}
use Rattle.command_source.specs.Owned.{HaveOwnNames}
use Rattle.command_source.proofs.Apart.{all_at}
use Rattle.check_leaf.proofs.Leaves.{pushed}
use Rattle.tapa_base.proofs.Got.{all_push, the_same}

-- ---- lists

all_unmap : {A B : Type 0} (P : B → Type 0) (f : A → B) (xs : List A) → AllByRecursion P (map f xs) → AllByRecursion (λ (x : A). P (f x)) xs
all_unmap P f [] a = tt
all_unmap P f (x ∷ xs) (p, a) = (p, all_unmap P f xs a)

-- ---- names of the innermost block

-- some block is open
abbrev IsOpen : Scope → Type 0
IsOpen [] = ⊥
IsOpen (b ∷ E) = Unit {0}

-- the innermost block declares a name
abbrev IsHere : Bytes → Scope → Type 0
IsHere x E = is_there (entity_here x E) ≡ true

not_here : (E : Scope) (x : Name) → doubled E x ≡ [] → is_there (entity_here x.text E) ≡ false
not_here E x h = holds_not (is_there (entity_here x.text E)) (record { code = C2; place = x.place; limit = None }) h

there_first : (b : Bool) (s : Entity) (o : Option Entity) → b ≡ true → is_there (if b then Some s else o) ≡ true
there_first true s o h = refl
there_first false s o h = absurd (cc)

there_second : (b : Bool) (s : Entity) (o : Option Entity) → is_there o ≡ true → is_there (if b then Some s else o) ≡ true
there_second true s o h = refl
there_second false s o h = h

there_still : (b : Bool) (s : Entity) (o p : Option Entity) → (is_there o ≡ true → is_there p ≡ true) → is_there (if b then Some s else o) ≡ true → is_there (if b then Some s else p) ≡ true
there_still true s o p f h = refl
there_still false s o p f h = f h

in_more : (x y : Bytes) (s : Entity) (b : Block) → is_there (in_block x b) ≡ true → is_there (in_block x (b ++ (y, s) ∷ [])) ≡ true
in_more x y s [] h = absurd (cc)
in_more x y s (d ∷ rest) h = there_still (bytes_eq d.0 x) d.1 (in_block x rest) (in_block x (rest ++ (y, s) ∷ [])) (in_more x y s rest) h

in_last : (x : Bytes) (s : Entity) (b : Block) → is_there (in_block x (b ++ (x, s) ∷ [])) ≡ true
in_last x s [] = there_first (bytes_eq x x) s None ((bytes_eq-Decides x x).1 refl)
in_last x s (d ∷ rest) = there_second (bytes_eq d.0 x) d.1 (in_block x (rest ++ (x, s) ∷ [])) (in_last x s rest)

still_open : (y : Bytes) (s : Entity) (E : Scope) → IsOpen E → IsOpen (declaring y s E)
still_open y s [] o = o
still_open y s (b ∷ []) o = tt
still_open y s (b ∷ c ∷ E) o = tt

deeper : (x : Bytes) (b : Block) (E : Scope) → IsOpen E → entity_here x E ≡ entity_here x (b ∷ E)
deeper x b [] o = absurd o
deeper x b (c ∷ E) o = refl

here_more : (x y : Bytes) (s : Entity) (E : Scope) → IsHere x E → IsHere x (declaring y s E)
here_more x y s [] h = h
here_more x y s (b ∷ []) h = in_more x y s b h
here_more x y s (b ∷ c ∷ E) h = subst (λ o. is_there o ≡ true) (deeper x b (declaring y s (c ∷ E)) (still_open y s (c ∷ E) tt)) (here_more x y s (c ∷ E) h)

here_last : (x : Bytes) (s : Entity) (E : Scope) → IsOpen E → IsHere x (declaring x s E)
here_last x s [] o = absurd o
here_last x s (b ∷ []) o = in_last x s b
here_last x s (b ∷ c ∷ E) o = subst (λ o. is_there o ≡ true) (deeper x b (declaring x s (c ∷ E)) (still_open x s (c ∷ E) tt)) (here_last x s (c ∷ E) tt)

-- names that the innermost block declares, each once
record Declared (xs : List Bytes) (E : Scope) : Type 0 where
  begun : IsOpen E
  plain : AllByRecursion IsPlainName xs
  apart : AreApart xs
  here : (n : ℕ) (x : Bytes) → slice_get xs n ≡ Some x → IsHere x E

none_declared : (E : Scope) → IsOpen E → Declared [] E
none_declared E o = record {
  begun = o;
  plain = tt;
  apart = λ p q x h j. absurd (nothing x h);
  here = λ n x h. absurd (nothing x h);
}

-- a name of something else is declared
declare_other : (xs : List Bytes) (E : Scope) (y : Bytes) (s : Entity) → Declared xs E → Declared xs (declaring y s E)
declare_other xs E y s d = record {
  begun = still_open y s E d.begun;
  plain = d.plain;
  apart = d.apart;
  here = λ n x h. here_more x y s E (d.here n x h);
}

clash : (x y : Bytes) (E : Scope) → IsHere x E → y ≡ x → is_there (entity_here y E) ≡ false → ⊥
clash x y E h e k = let t : IsHere y E = subst (λ z. IsHere z E) (sym e) h in cc

declare_one : (xs : List Bytes) (E : Scope) (y : Bytes) (s : Entity) → IsPlainName y → is_there (entity_here y E) ≡ false → Declared xs E → Declared (xs ++ y ∷ []) (declaring y s E)
declare_one xs E y s k f d = record {
  begun = still_open y s E d.begun;
  plain = all_push IsPlainName xs y d.plain k;
  apart = λ p q x h j. elim (pushed xs y x p h) [
    | inl a ↦ elim (pushed xs y x q j) [ inl b ↦ d.apart p q x a b | inr b ↦ absurd (clash x y E (d.here p x a) b.1 f) ]
    | inr a ↦ elim (pushed xs y x q j) [ inl b ↦ absurd (clash x y E (d.here q x b) a.1 f) | inr b ↦ a.0 ∙ sym b.0 ]
  ];
  here = λ n x h. elim (pushed xs y x n h) [
    | inl a ↦ here_more x y s E (d.here n x a)
    | inr a ↦ subst (λ z. IsHere z (declaring y s E)) a.1 (here_last y s E d.begun)
  ];
}

-- ---- parameters

abbrev AreNamedParameters : List Parameter → Type 0
AreNamedParameters ps = AllByRecursion (λ (p : Parameter). IsPlainName (parameter_name p)) ps

all_named : (ps : List Parameter) → AreNamedParameters ps → AllByRecursion IsPlainName (map parameter_name ps)
all_named [] a = tt
all_named (p ∷ ps) (n, a) = (n, all_named ps a)

-- of an upper-level task
upper_parameter : (xs : List Bytes) (h : Signature) (p : Parameter) → IsPlainName (parameter_name p) → doubled h.scope (upper.parameter_name p) ≡ [] → Declared xs h.scope → Declared (xs ++ parameter_name p ∷ []) (upper.after_parameter h p).scope
upper_parameter xs h (parameter.InputStream k x) n e d = declare_one xs h.scope x.text (entity.Stream false k h.streams) n (not_here h.scope x e) d
upper_parameter xs h (parameter.OutputStream k x) n e d = declare_one xs h.scope x.text (entity.Stream true k h.streams) n (not_here h.scope x e) d
upper_parameter xs h (parameter.Memory constant k x) n e d = declare_one xs h.scope x.text (entity.Memory (not constant) k h.memories) n (not_here h.scope x e) d
upper_parameter xs h (parameter.Scalar constant k x) n e d = declare_one xs h.scope x.text (entity.Variable (not constant) k h.scalars) n (not_here h.scope x e) d

upper_parameters : (xs : List Bytes) (h : Signature) (ps : List Parameter) → AreNamedParameters ps → upper.parameters_faults h ps ≡ [] → Declared xs h.scope → Declared (xs ++ map parameter_name ps) (upper.after_parameters h ps).scope
upper_parameters xs h [] a e d = subst (λ ys. Declared ys h.scope) (sym (append-nil xs)) d
upper_parameters xs h (p ∷ ps) (n, a) e d =
    let f = no_faults (doubled h.scope (upper.parameter_name p)) (upper.parameters_faults (upper.after_parameter h p) ps) e in
    subst (λ ys. Declared ys (upper.after_parameters (upper.after_parameter h p) ps).scope) (append_assoc xs (parameter_name p ∷ []) (map parameter_name ps))
    (upper_parameters (xs ++ parameter_name p ∷ []) (upper.after_parameter h p) ps a f.1 (upper_parameter xs h p n f.0 d))

-- of a leaf
leaf_parameter : (xs : List Bytes) (h : Head) (p : Parameter) → IsPlainName (parameter_name p) → leaf.parameter_faults h p ≡ [] → Declared xs h.frame.scope → Declared (xs ++ parameter_name p ∷ []) (leaf.after_parameter h p).frame.scope
leaf_parameter xs h (parameter.InputStream k x) n e d = declare_one xs h.frame.scope x.text (entity.Stream false k (length h.streams)) n (not_here h.frame.scope x e) d
leaf_parameter xs h (parameter.OutputStream k x) n e d = declare_one xs h.frame.scope x.text (entity.Stream true k (length h.streams)) n (not_here h.frame.scope x e) d
leaf_parameter xs h (parameter.Memory constant k x) n e d = declare_one xs h.frame.scope x.text (entity.Memory (not constant) k (length h.memories)) n (not_here h.frame.scope x e) d
leaf_parameter xs h (parameter.Scalar constant k x) n e d = declare_one xs h.frame.scope x.text (entity.Variable (not constant) k (length h.frame.vars)) n (not_here h.frame.scope x (no_faults (doubled h.frame.scope x) _ e).0) d

leaf_parameters : (xs : List Bytes) (h : Head) (ps : List Parameter) → AreNamedParameters ps → leaf.parameters_faults h ps ≡ [] → Declared xs h.frame.scope → Declared (xs ++ map parameter_name ps) (leaf.after_parameters h ps).frame.scope
leaf_parameters xs h [] a e d = subst (λ ys. Declared ys h.frame.scope) (sym (append-nil xs)) d
leaf_parameters xs h (p ∷ ps) (n, a) e d =
    let f = no_faults (leaf.parameter_faults h p) (leaf.parameters_faults (leaf.after_parameter h p) ps) e in
    subst (λ ys. Declared ys (leaf.after_parameters (leaf.after_parameter h p) ps).frame.scope) (append_assoc xs (parameter_name p ∷ []) (map parameter_name ps))
    (leaf_parameters (xs ++ parameter_name p ∷ []) (leaf.after_parameter h p) ps a f.1 (leaf_parameter xs h p n f.0 d))

-- ---- streams

abbrev channel_names : List Channel → List Bytes
channel_names channels = map (λ (c : Channel). c.name) channels

abbrev AreDeclared : Channels → Type 0
AreDeclared c = Declared (channel_names c.streams) c.scope

stream_step : (k : Kind) (depth : ℕ) (c : Channels) (x : Name) → IsPlainName x.text → doubled c.scope x ≡ [] → AreDeclared c → AreDeclared (upper.with_channel k depth c x)
stream_step k depth c x n e d =
    let new : Channel = record { name = x.text; place = x.place; kind = k; depth = depth } in
    subst (λ ys. Declared ys (upper.with_channel k depth c x).scope) (sym (map-append (λ (c : Channel). c.name) c.streams (new ∷ [])))
    (declare_one (channel_names c.streams) c.scope x.text (entity.Channel k (length c.streams)) n (not_here c.scope x e) d)

stream_steps : (k : Kind) (depth : ℕ) (c : Channels) (xs : List Name) → AllByRecursion (λ (x : Name). IsPlainName x.text) xs → upper.channels_faults k depth c xs ≡ [] → AreDeclared c → AreDeclared (upper.with_channels k depth c xs)
stream_steps k depth c [] a e d = d
stream_steps k depth c (x ∷ xs) (n, a) e d =
    let f = no_faults (doubled c.scope x) (upper.channels_faults k depth (upper.with_channel k depth c x) xs) e in
    stream_steps k depth (upper.with_channel k depth c x) xs a f.1 (stream_step k depth c x n f.0 d)

all_streams : (c : Channels) (ss : List StreamTree) → AllByRecursion (λ (s : StreamTree). AllByRecursion (λ (x : Name). IsPlainName x.text) s.names) ss → upper.streams_faults c ss ≡ [] → AreDeclared c → AreDeclared (upper.after_streams c ss)
all_streams c [] a e d = d
all_streams c (s ∷ ss) (n, a) e d =
    let f = no_faults (upper.stream_faults c s) (upper.streams_faults (upper.after_stream c s) ss) e in
    let g = no_faults (upper.depth_faults c.scope s.depth) (upper.channels_faults s.kind (upper.depth_of c.scope s.depth) c s.names) f.0 in
    all_streams (upper.after_stream c s) ss a f.1 (stream_steps s.kind (upper.depth_of c.scope s.depth) c s.names n g.1 d)

-- ---- tasks

-- the names of a body in a task of a name
abbrev HasOwnBody : Bytes → Body → Type 0
HasOwnBody x (leaf_body l) = l.name ≡ x
HasOwnBody x (upper_body channels invocations) = AllByRecursion IsPlainName (channel_names channels) × AreApart (channel_names channels)

record HasOwnParts (t : Task) : Type 0 where
  parameters : AllByRecursion IsPlainName (map parameter_name t.declared.parameters)
  parameters_apart : AreApart (map parameter_name t.declared.parameters)
  body : HasOwnBody t.declared.name.text t.body

task_parts : (file : Block) (tasks : List Task) (t : TaskTree) (b : BodyTree) → AreNamedParameters t.parameters → NamesStreams b → body_faults file tasks t b ≡ [] → HasOwnParts (record { declared = t; body = body_of file tasks t b })
task_parts file tasks t (tree.leaf ss) a n e =
    let h = leaf.after_parameters (leaf.task_begins file) t.parameters in
    let f = no_faults (leaf.parameters_faults (leaf.task_begins file) t.parameters ++ statements_faults false h.frame ss) (leaf.size_faults (codes_of h.frame ss) t.end) e in
    let g = no_faults (leaf.parameters_faults (leaf.task_begins file) t.parameters) (statements_faults false h.frame ss) f.0 in
    let d = leaf_parameters [] (leaf.task_begins file) t.parameters a g.0 (none_declared (file ∷ [] ∷ []) tt) in
    record { parameters = d.plain; parameters_apart = d.apart; body = refl }
task_parts file tasks t (tree.upper streams invocations) a n e =
    let c = upper.streams_begin file t in
    let f = no_faults (upper.parameters_faults (upper.task_begins file) t.parameters) (upper.streams_faults c streams ++ upper.invocations_faults (upper.after_streams c streams).scope tasks t invocations) e in
    let g = no_faults (upper.streams_faults c streams) (upper.invocations_faults (upper.after_streams c streams).scope tasks t invocations) f.1 in
    let d = upper_parameters [] (upper.task_begins file) t.parameters a f.0 (none_declared (file ∷ [] ∷ []) tt) in
    let s = all_streams c streams n g.0 (none_declared c.scope d.begun) in
    record { parameters = d.plain; parameters_apart = d.apart; body = (s.plain, s.apart) }

-- ---- items

abbrev task_names : List Task → List Bytes
task_names tasks = map (λ (t : Task). t.declared.name.text) tasks

record ItemsOwn (f : Items) : Type 0 where
  names : Declared (task_names f.tasks) (f.block ∷ [])
  tasks : AllByRecursion HasOwnParts f.tasks

task_step : (f : Items) (t : TaskTree) → IsNamedTask t → item_faults f (tree.task t) ≡ [] → ItemsOwn f → ItemsOwn (after_task f t)
task_step f t n e g =
    let h = no_faults (doubled (f.block ∷ []) t.name) (body_faults (with_task f t) f.tasks t t.body) e in
    let new : Task = record { declared = t; body = body_of (with_task f t) f.tasks t t.body } in
    record {
      names = subst (λ ys. Declared ys (with_task f t ∷ [])) (sym (map-append (λ (t : Task). t.declared.name.text) f.tasks (new ∷ [])))
          (declare_one (task_names f.tasks) (f.block ∷ []) t.name.text (entity.Task (length f.tasks)) n.name (not_here (f.block ∷ []) t.name h.0) g.names);
      tasks = all_push HasOwnParts f.tasks new g.tasks (task_parts (with_task f t) f.tasks t t.body n.parameters n.streams h.1);
    }

item_step : (f : Items) (x : ItemTree) → IsNamedItem x → item_faults f x ≡ [] → ItemsOwn f → ItemsOwn (after_item f x)
item_step f (tree.constant attributes k x e) n h g = record {
  names = declare_other (task_names f.tasks) (f.block ∷ []) x.text (entity.Constant k (constant_value (wanted (f.block ∷ []) k e))) g.names;
  tasks = g.tasks;
}
item_step f (tree.task t) n h g = task_step f t n h g

item_steps : (f : Items) (xs : List ItemTree) → AreNamed xs → items_faults f xs ≡ [] → ItemsOwn f → ItemsOwn (after_items f xs)
item_steps f [] a e g = g
item_steps f (x ∷ xs) (n, a) e g =
    let h = no_faults (item_faults f x) (items_faults (after_item f x) xs) e in
    item_steps (after_item f x) xs a h.1 (item_step f x n h.0 g)

-- the tasks of a legal file whose names are names
pub legal_names : (items : List ItemTree) → items_faults no_items items ≡ [] → AreNamed items → HaveOwnNames (tasks_of items)
legal_names items e a =
    let g = item_steps no_items items a e (record { names = none_declared ([] ∷ []) tt; tasks = tt }) in
    let parts : (n : ℕ) (t : Task) → slice_get (tasks_of items) n ≡ Some t → HasOwnParts t = λ n t h. all_at HasOwnParts (tasks_of items) n t g.tasks h in
    record {
      names = all_unmap IsPlainName (λ (t : Task). t.declared.name.text) (tasks_of items) g.names.plain;
      apart = g.names.apart;
      parameters = λ n t h. (parts n t h).parameters;
      parameters_apart = λ n t h. (parts n t h).parameters_apart;
      streams = λ n t channels invocations h e. (subst (HasOwnBody t.declared.name.text) e (parts n t h).body).0;
      streams_apart = λ n t channels invocations h e. (subst (HasOwnBody t.declared.name.text) e (parts n t h).body).1;
      leaves = λ n t l h e. subst (HasOwnBody t.declared.name.text) e (parts n t h).body;
    }
