-- The labels of the parts that an instance is made of: each is of one part alone.
use Rattle.std.proofs.Common.{◌≡◌, ◌<◌, ◌≤◌, ◌+◌, ◌^◌, ℕ, zero, suc, List, [], ◌∷◌, ◌++◌, ◌||◌, length, map, Some, refl, sym, ap, subst, ◌∙◌, arith}
use Rattle.std.specs.Prelude.{slice_get}
use Rattle.std.specs.List.{AllByRecursion}
use Rattle.std.proofs.lemmas.List.{append-nil}
use Rattle.tapa_base.specs.declared.text.Place.{Place}
use Rattle.tapa_base.specs.Gaps.{Bytes}
use Rattle.tapa_syntax.specs.Flat.{FlatInstance}
use Rattle.check_upper.specs.declared.task.Channel.{Channel}
use Rattle.check_upper.specs.declared.task.Binding.{Binding}
use Rattle.check_upper.specs.declared.task.Binding.TheVariants.{OwnStream, StreamParameter, MemoryParameter, ScalarParameter, Constant}
use Rattle.check_upper.specs.Tasks.{Invocation, Body, leaf_body, upper_body, Task}
use Rattle.stream_check.specs.Parts.{Part, own, instance, too_deep, streams_in, instances_in, below, instance_name, name_of, bind, bind_all, unbound, invoked, own_parts, Expands, chain_parts, body_of, body_parts, deepest_parts, parts_of}
use Rattle.command_source.specs.Labels.{IsPlainName, IsLabel}
use Rattle.command_source.specs.Owned.{HaveOwnNames}
use Rattle.command_source.proofs.Apart.{all_append, all_more, all_map, all_at, Distinct, distinct, distinct_append, distinct_map, all_avoid}
use Rattle.command_source.proofs.Dollars.{IsFree, IsTail, below_same, below_append, name_free, name_is_label, IsStart, label_starts, below_is_label, instance_is_label, positions_differ, name_differs}
use Rattle.stream_check.proofs.WellParts.{bind_bodies}

-- each upper-level task invokes something, and what it invokes are tasks of the list
pub record AreInvoked (tasks : List Task) : Type 0 where
  pub some : (n : ℕ) (t : Task) (channels : List Channel) (invocations : List Invocation) → slice_get tasks n ≡ Some t → t.body ≡ upper_body channels invocations → 1 ≤ length invocations
  pub known : (n : ℕ) (t : Task) (channels : List Channel) (invocations : List Invocation) → slice_get tasks n ≡ Some t → t.body ≡ upper_body channels invocations → AllByRecursion (λ (i : Invocation). (u : Task) × (slice_get tasks i.task ≡ Some u)) invocations

-- ---- names in parts

abbrev pub stream_names : List Part → List Bytes
stream_names parts = map (λ (c : Channel). c.name) (streams_in parts)

abbrev pub instance_names : List Part → List Bytes
instance_names parts = map (λ (x : FlatInstance). x.label) (instances_in parts)

-- no part is at level 9
abbrev pub IsFlat : List Part → Type 0
IsFlat [] = Unit {0}
IsFlat (own c ∷ rest) = IsFlat rest
IsFlat (instance at x ∷ rest) = IsFlat rest
IsFlat (too_deep at ∷ rest) = ⊥

streams_joined : (xs ys : List Part) → stream_names (xs ++ ys) ≡ stream_names xs ++ stream_names ys
streams_joined [] ys = refl
streams_joined (own c ∷ xs) ys = ap (λ rest. c.name ∷ rest) (streams_joined xs ys)
streams_joined (instance at x ∷ xs) ys = streams_joined xs ys
streams_joined (too_deep at ∷ xs) ys = streams_joined xs ys

instances_joined : (xs ys : List Part) → instance_names (xs ++ ys) ≡ instance_names xs ++ instance_names ys
instances_joined [] ys = refl
instances_joined (own c ∷ xs) ys = instances_joined xs ys
instances_joined (instance at x ∷ xs) ys = ap (λ rest. x.label ∷ rest) (instances_joined xs ys)
instances_joined (too_deep at ∷ xs) ys = instances_joined xs ys

count_joined : (xs ys : List Part) → length (instances_in (xs ++ ys)) ≡ length (instances_in xs) + length (instances_in ys)
count_joined [] ys = omega arith
count_joined (own c ∷ xs) ys = count_joined xs ys
count_joined (instance at x ∷ xs) ys = omega (arith, count_joined xs ys)
count_joined (too_deep at ∷ xs) ys = count_joined xs ys

flat_left : (xs ys : List Part) → IsFlat (xs ++ ys) → IsFlat xs
flat_left [] ys f = tt
flat_left (own c ∷ xs) ys f = flat_left xs ys f
flat_left (instance at x ∷ xs) ys f = flat_left xs ys f
flat_left (too_deep at ∷ xs) ys f = absurd f

flat_right : (xs ys : List Part) → IsFlat (xs ++ ys) → IsFlat ys
flat_right [] ys f = f
flat_right (own c ∷ xs) ys f = flat_right xs ys f
flat_right (instance at x ∷ xs) ys f = flat_right xs ys f
flat_right (too_deep at ∷ xs) ys f = absurd f

-- ---- labels that are apart, and of which something is known

pub record Told (P : Bytes → Type 0) (labels : List Bytes) : Type 0 where
  pub known : AllByRecursion P labels
  pub apart : Distinct labels
  pub written : AllByRecursion IsLabel labels

pub record AreTold (P : Bytes → Type 0) (parts : List Part) : Type 0 where
  pub streams : Told P (stream_names parts)
  pub instances : Told P (instance_names parts)

told_none : (P : Bytes → Type 0) → Told P []
told_none P = record { known = tt; apart = tt; written = tt }

told_more : (P Q : Bytes → Type 0) → ((x : Bytes) → P x → Q x) → (xs : List Bytes) → Told P xs → Told Q xs
told_more P Q f xs t = record { known = all_more P Q f xs t.known; apart = t.apart; written = t.written }

are_told_more : (P Q : Bytes → Type 0) → ((x : Bytes) → P x → Q x) → (parts : List Part) → AreTold P parts → AreTold Q parts
are_told_more P Q f parts t = record { streams = told_more P Q f (stream_names parts) t.streams; instances = told_more P Q f (instance_names parts) t.instances }

module _ (P Q R : Bytes → Type 0) (differ : (x y : Bytes) → P x → Q y → x ≡ y → ⊥) (f : (x : Bytes) → P x → R x) (g : (x : Bytes) → Q x → R x) where
  told_append : (xs ys : List Bytes) → Told P xs → Told Q ys → Told R (xs ++ ys)
  told_append xs ys t u = record {
    known = all_append R xs ys (all_more P R f xs t.known) (all_more Q R g ys u.known);
    apart = distinct_append xs ys t.apart u.apart (all_avoid P Q differ xs ys t.known u.known);
    written = all_append IsLabel xs ys t.written u.written;
  }

  told_joined : (xs ys : List Part) → AreTold P xs → AreTold Q ys → AreTold R (xs ++ ys)
  told_joined xs ys t u = record {
    streams = subst (Told R) (sym (streams_joined xs ys)) (told_append (stream_names xs) (stream_names ys) t.streams u.streams);
    instances = subst (Told R) (sym (instances_joined xs ys)) (told_append (instance_names xs) (instance_names ys) t.instances u.instances);
  }

-- ---- which part a label is of

-- a name below a label
pub record IsBelow (label x : Bytes) : Type 0 where
  pub name : Bytes
  pub is : x ≡ below label name

-- the label itself, or what is below it
pub record IsUnder (label x : Bytes) : Type 0 where
  pub tail : Bytes
  pub is_tail : IsTail tail
  pub is : x ≡ label ++ tail

-- of a stream of the task's own
pub record IsOwn (label x : Bytes) : Type 0 where
  pub name : Bytes
  pub free : IsFree name
  pub is : x ≡ below label name

-- of an instance at this position or behind it, or of what is below that
pub record IsFrom (label : Bytes) (k : ℕ) (x : Bytes) : Type 0 where
  pub task : Bytes
  pub position : ℕ
  pub tail : Bytes
  pub free : IsFree task
  pub least : k ≤ position
  pub small : position < 2 ^ 64
  pub is_tail : IsTail tail
  pub is : x ≡ below label (instance_name task position ++ tail)

under_below : (label x : Bytes) → IsLabel label → IsBelow label x → IsUnder label x
under_below [] x w b = let z = w.first in absurd (cc)
under_below (c ∷ label) x w b = record { tail = 36 ∷ b.name; is_tail = refl; is = b.is }

own_below : (label x : Bytes) → IsOwn label x → IsBelow label x
own_below label x o = record { name = o.name; is = o.is }

from_below : (label x : Bytes) → IsFrom label 0 x → IsBelow label x
from_below label x o = record { name = instance_name o.task o.position ++ o.tail; is = o.is }

from_later : (label : Bytes) (k : ℕ) (x : Bytes) → IsFrom label (k + 1) x → IsFrom label k x
from_later label k x o = record { task = o.task; position = o.position; tail = o.tail; free = o.free; least = (let l = o.least in omega arith); small = o.small; is_tail = o.is_tail; is = o.is }

own_differs : (label x y : Bytes) → IsOwn label x → IsFrom label 0 y → x ≡ y → ⊥
own_differs label x y o f e = name_differs o.name f.task f.position f.tail o.free f.free (below_same label o.name (instance_name f.task f.position ++ f.tail) (sym o.is ∙ e ∙ f.is))

-- what is under the label of an instance at a position
module _ (label task : Bytes) (k : ℕ) (free : IsFree task) (small : k < 2 ^ 64) where
  from_under : (x : Bytes) → IsUnder (below label (instance_name task k)) x → IsFrom label k x
  from_under x u = record { task = task; position = k; tail = u.tail; free = free; least = omega arith; small = small; is_tail = u.is_tail; is = u.is ∙ below_append label (instance_name task k) u.tail }

  under_differs : (x y : Bytes) → IsUnder (below label (instance_name task k)) x → IsFrom label (k + 1) y → x ≡ y → ⊥
  under_differs x y u f e =
      let whole = below_same label (instance_name task k ++ u.tail) (instance_name f.task f.position ++ f.tail) (sym (u.is ∙ below_append label (instance_name task k) u.tail) ∙ e ∙ f.is) in
      let same : k ≡ f.position = positions_differ task f.task k f.position u.tail f.tail free f.free small f.small u.is_tail f.is_tail whole in
      let l = f.least in
      omega arith

-- ---- a task's own streams

own_names : (label : Bytes) (cs : List Channel) → stream_names (own_parts label cs) ≡ map (below label) (map (λ (c : Channel). c.name) cs)
own_names label [] = refl
own_names label (c ∷ cs) = ap (λ rest. below label c.name ∷ rest) (own_names label cs)

own_instances : (label : Bytes) (cs : List Channel) → instances_in (own_parts label cs) ≡ []
own_instances label [] = refl
own_instances label (c ∷ cs) = own_instances label cs

own_told : (label : Bytes) (cs : List Channel) → IsStart label → AllByRecursion IsPlainName (map (λ (c : Channel). c.name) cs) → Distinct (map (λ (c : Channel). c.name) cs) → AreTold (IsOwn label) (own_parts label cs)
own_told label cs s named d =
    let names = map (λ (c : Channel). c.name) cs in
    record {
      streams = subst (Told (IsOwn label)) (sym (own_names label cs)) (record {
        known = all_map (IsOwn label) (below label) names (all_more IsPlainName (λ x. IsOwn label (below label x)) (λ x p. record { name = x; free = name_free x p; is = refl }) names named);
        apart = distinct_map (below label) (below_same label) names d;
        written = all_map IsLabel (below label) names (all_more IsPlainName (λ x. IsLabel (below label x)) (λ x p. below_is_label label x s (name_is_label x p)) names named);
      });
      instances = subst (λ is. Told (IsOwn label) (map (λ (x : FlatInstance). x.label) is)) (sym (own_instances label cs)) (told_none (IsOwn label));
    }

-- ---- what is invoked

bind_label : (x : FlatInstance) (first : ℕ) (y : FlatInstance) (l : Binding) → (bind x first y l).label ≡ y.label
bind_label x first y (OwnStream n) = refl
bind_label x first y (StreamParameter n) = refl
bind_label x first y (MemoryParameter n) = refl
bind_label x first y (ScalarParameter n from to) = refl
bind_label x first y (Constant n) = refl

bind_labels : (x : FlatInstance) (first : ℕ) (y : FlatInstance) (ls : List Binding) → (bind_all x first y ls).label ≡ y.label
bind_labels x first y [] = refl
bind_labels x first y (l ∷ ls) = bind_labels x first (bind x first y l) ls ∙ bind_label x first y l

-- the parts of an instance with this label are told apart, and a leaf instance is among them
abbrev pub IsGood : Bytes → List Part → Type 0
IsGood label parts = IsFlat parts → length (instances_in parts) ≤ 512 → AreTold (IsUnder label) parts × (1 ≤ length (instances_in parts))

abbrev Good : List Task → Expands → Type 0
Good tasks expand = (at : Place) (y : FlatInstance) (n : ℕ) (t : Task) → slice_get tasks y.body ≡ Some t → IsLabel y.label → IsGood y.label (expand at y n)

leaf_good : (at : Place) (y : FlatInstance) → IsLabel y.label → AreTold (IsUnder y.label) (instance at y ∷ []) × (1 ≤ 1)
leaf_good at y w = (
  record {
    streams = told_none (IsUnder y.label);
    instances = record { known = (record { tail = []; is_tail = tt; is = sym (append-nil y.label) }, tt); apart = (tt, tt); written = (w, tt) };
  },
  omega arith,
)

module _ (tasks : List Task) (h : HaveOwnNames tasks) (invoked_so : AreInvoked tasks) where
  task_plain : (n : ℕ) (t : Task) → slice_get tasks n ≡ Some t → IsPlainName t.declared.name.text
  task_plain n t there = all_at (λ (u : Task). IsPlainName u.declared.name.text) tasks n t h.names there

  chain_good : (expand : Expands) → Good tasks expand → (x : FlatInstance) (first k n : ℕ) (is : List Invocation) → IsStart x.label → AllByRecursion (λ (i : Invocation). (u : Task) × (slice_get tasks i.task ≡ Some u)) is → IsFlat (chain_parts expand tasks x first k n is) → k + length (instances_in (chain_parts expand tasks x first k n is)) ≤ 512 → AreTold (IsFrom x.label k) (chain_parts expand tasks x first k n is) × (length is ≤ length (instances_in (chain_parts expand tasks x first k n is)))
  chain_good expand good x first k n [] s known flat few = (record { streams = told_none (IsFrom x.label k); instances = told_none (IsFrom x.label k) }, omega arith)
  chain_good expand good x first k n (i ∷ is) s known flat few =
      let here = expand i.place (invoked tasks x first k i) n in
      let m = n + length (streams_in (expand i.place (invoked tasks x first k i) n)) in
      let more = chain_parts expand tasks x first (k + 1) (n + length (streams_in (expand i.place (invoked tasks x first k i) n))) is in
      let t = known.0.0 in
      let name = t.declared.name.text in
      let z = below x.label (instance_name t.declared.name.text k) in
      let count : length (instances_in (here ++ more)) ≡ length (instances_in here) + length (instances_in more) = count_joined here more in
      let there : slice_get tasks (invoked tasks x first k i).body ≡ Some t = ap (slice_get tasks) (bind_bodies x first (unbound (below x.label (instance_name (name_of (slice_get tasks i.task)) k)) i.task (x.detached || i.detached)) i.bindings) ∙ known.0.1 in
      let label : (invoked tasks x first k i).label ≡ z = bind_labels x first (unbound (below x.label (instance_name (name_of (slice_get tasks i.task)) k)) i.task (x.detached || i.detached)) i.bindings ∙ ap (λ o. below x.label (instance_name (name_of o) k)) known.0.1 in
      let plain : IsPlainName name = task_plain i.task t known.0.1 in
      let free : IsFree name = name_free name plain in
      let small : k < 2 ^ 64 = omega arith in
      let written : IsLabel z = below_is_label x.label (instance_name name k) s (instance_is_label name k small plain) in
      let a = good i.place (invoked tasks x first k i) n t there (subst IsLabel (sym label) written) (flat_left here more flat) (omega arith) in
      let one : 1 ≤ length (instances_in here) = a.1 in
      let b = chain_good expand good x first (k + 1) m is s known.1 (flat_right here more flat) (omega arith) in
      let rest : length is ≤ length (instances_in more) = b.1 in (
        told_joined (IsUnder z) (IsFrom x.label (k + 1)) (IsFrom x.label k) (under_differs x.label name k free small) (from_under x.label name k free small) (from_later x.label k) here more (subst (λ l. AreTold (IsUnder l) here) label a.0) b.0,
        omega arith,
      )

  upper_good : (expand : Expands) → Good tasks expand → (at : Place) (x : FlatInstance) (n task : ℕ) (t : Task) (channels : List Channel) (invocations : List Invocation) → slice_get tasks task ≡ Some t → t.body ≡ upper_body channels invocations → IsStart x.label → IsFlat (body_parts expand tasks at x n (Some (upper_body channels invocations))) → length (instances_in (body_parts expand tasks at x n (Some (upper_body channels invocations)))) ≤ 512 → AreTold (IsBelow x.label) (body_parts expand tasks at x n (Some (upper_body channels invocations))) × (1 ≤ length (instances_in (body_parts expand tasks at x n (Some (upper_body channels invocations)))))
  upper_good expand good at x n task t channels invocations there e s flat few =
      let here = own_parts x.label channels in
      let more = chain_parts expand tasks x n 0 (n + length (streams_in (own_parts x.label channels))) invocations in
      let count : length (instances_in (here ++ more)) ≡ length (instances_in here) + length (instances_in more) = count_joined here more in
      let names = map (λ (c : Channel). c.name) channels in
      let a = own_told x.label channels s (h.streams task t channels invocations there e) (distinct names (h.streams_apart task t channels invocations there e)) in
      let b = chain_good expand good x n 0 (n + length (streams_in (own_parts x.label channels))) invocations s (invoked_so.known task t channels invocations there e) (flat_right here more flat) (omega arith) in
      let some = invoked_so.some task t channels invocations there e in
      let rest : length invocations ≤ length (instances_in more) = b.1 in
      (told_joined (IsOwn x.label) (IsFrom x.label 0) (IsBelow x.label) (own_differs x.label) (own_below x.label) (from_below x.label) here more a b.0, omega arith)

  deepest_good : (at : Place) (y : FlatInstance) (b : Body) → IsLabel y.label → IsGood y.label (deepest_parts at y (Some b))
  deepest_good at y (leaf_body l) w flat few = leaf_good at y w
  deepest_good at y (upper_body channels invocations) w flat few = absurd flat

  body_good : (expand : Expands) → Good tasks expand → (at : Place) (y : FlatInstance) (n : ℕ) (t : Task) (b : Body) → slice_get tasks y.body ≡ Some t → t.body ≡ b → IsLabel y.label → IsGood y.label (body_parts expand tasks at y n (Some b))
  body_good expand good at y n t (leaf_body l) there e w flat few = leaf_good at y w
  body_good expand good at y n t (upper_body channels invocations) there e w flat few =
      let a = upper_good expand good at y n y.body t channels invocations there e (label_starts y.label w) flat few in
      (are_told_more (IsBelow y.label) (IsUnder y.label) (λ x b. under_below y.label x w b) (body_parts expand tasks at y n (Some (upper_body channels invocations))) a.0, a.1)

  pub parts_good : (levels : ℕ) → Good tasks (parts_of levels tasks)
  parts_good zero at y n t there w = subst (λ o. IsGood y.label (deepest_parts at y (body_of o))) (sym there) (deepest_good at y t.body w)
  parts_good (suc levels) at y n t there w = subst (λ o. IsGood y.label (body_parts (parts_of levels tasks) tasks at y n (body_of o))) (sym there) (body_good (parts_of levels tasks) (parts_good levels) at y n t t.body there refl w)

  -- the top task has no label
  abbrev pub TopGood : List Part → Type 0
  TopGood parts = IsFlat parts → length (instances_in parts) ≤ 512 → AreTold (IsBelow []) parts

  pub top_good : (levels : ℕ) (at : Place) (x : FlatInstance) (n : ℕ) (t : Task) (channels : List Channel) (invocations : List Invocation) → slice_get tasks x.body ≡ Some t → t.body ≡ upper_body channels invocations → x.label ≡ [] → TopGood (parts_of levels tasks at x n)
  top_good zero at x n t channels invocations there e top = subst (λ o. TopGood (deepest_parts at x o)) (sym (ap body_of there ∙ ap Some e)) (λ flat few. absurd flat)
  top_good (suc levels) at x n t channels invocations there e top = subst (λ o. TopGood (body_parts (parts_of levels tasks) tasks at x n o)) (sym (ap body_of there ∙ ap Some e))
      (λ flat few. subst (λ l. AreTold (IsBelow l) (body_parts (parts_of levels tasks) tasks at x n (Some (upper_body channels invocations)))) top
      (upper_good (parts_of levels tasks) (parts_good levels) at x n x.body t channels invocations there e (subst IsStart (sym top) tt) flat few).0)
