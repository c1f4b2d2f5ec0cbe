-- Filled ports.
use Rattle.std.proofs.Common.{◌≡◌, ℕ, zero, suc, ◌+◌, ◌-◌, ◌<◌, List, [], ◌∷◌, ◌++◌, length, drop, Bool, true, false, Some, refl, sym, ap, ◌∙◌, subst, ⊎_elim, arith}
use Rattle.std.specs.Prelude.{replicate, slice_get, slice_index, slice_set}
use Rattle.std.proofs.lemmas.Bool.{cases_eq}
use Rattle.tapa_syntax.specs.declared.program.Program.{Program}
use Rattle.net_core.specs.declared.ports.Ports.{Ports}
use Rattle.net_core.specs.declared.streams.Streams.{Streams}
use Rattle.tapa_base.specs.declared.token.Token.{Token}
use Rattle.kahn_model.specs.Fits.{stream_kind}
use Rattle.net_core.specs.Kinds.{kind_in}
use Rattle.net_core.specs.Ports.{carried, kind_at, port_count, ends_by, carried_by, ends_in, carried_of, waiting_of}
use Rattle.net_core.specs.Bindings.{IsConnected, IsWriter, arity, ends_at, arity_in, stream_at, stream_in, Reads, Writes, producer_of, consumer_of, depth_of}
use Rattle.net_core.proofs.Cases.{up_to}
use Rattle.net_core.proofs.Moves.{get_set_other, replicated, port_count_is}
use Rattle.net_core.specs.declared.ties.Tie.{Tie}
use Rattle.net_core.specs.Ties.{IsTie}
use Rattle.net_core.specs.Load.{IsIn, AreBelow, AreListed, HasTables, AreKept, Reloads, ChangesTaken, AreLoaded, IsLoaded, AreWoken, list_at}
use Rattle.tapa_base.proofs.Got.{some_at as has_item, last_at as get_last, got_left as get_append}

pub in_streams : (program : Program) → IsConnected program → (i p : ℕ) → i < length program.instances.items → p < arity program i → stream_at program i p < length program.streams.items
in_streams program connected i p inside l =
    let x = has_item program.instances.items i inside in
    let b = connected.built i x.0 x.1 in
    let l' : p < length x.0.streams.items = subst (λ o. p < arity_in o) x.1 l in
    subst (λ o. stream_in o p < length program.streams.items) (sym x.1) (b.streams p l')

pub producer_in : (program : Program) → IsConnected program → (s : ℕ) → s < length program.streams.items → producer_of program s < length program.instances.items
producer_in program connected s l =
    let r = has_item program.streams.items s l in
    let k = connected.linked s r.0 r.1 in
    subst (λ n. n < length program.instances.items) (sym k.producer) k.producer_in

pub consumer_in : (program : Program) → IsConnected program → (s : ℕ) → s < length program.streams.items → consumer_of program s < length program.instances.items
consumer_in program connected s l =
    let r = has_item program.streams.items s l in
    let k = connected.linked s r.0 r.1 in
    subst (λ n. n < length program.instances.items) (sym k.consumer) k.consumer_in

-- what a reading port is loaded from
pub list_read : (program : Program) (t : Streams) (s s' j q : ℕ) (x : Ports) (list : List Token) → s ≡ s' → j ≡ producer_of program s → slice_index t.writers.items s ≡ q → slice_get t.ports.items j ≡ Some x → list ≡ carried x q → list ≡ list_at program t s'
list_read program t s s' j q x list es ej qw at e =
    e ∙ ap (λ o. carried_by o q) (sym at) ∙ ap (λ z. carried_of t.ports.items z q) ej ∙ ap (carried_of t.ports.items (producer_of program s)) (sym qw) ∙ ap (list_at program t) es

kind_of_end : (program : Program) → IsConnected program → (i p : ℕ) (all : List Ports) (x : Ports) → p < arity program i → slice_get all i ≡ Some x → ends_in all i ≡ ends_at program i → kind_at x p ≡ stream_kind program (stream_at program i p)
kind_of_end program connected i p all x l e h = ap (λ ends. kind_in ends p) (ap ends_by (sym e) ∙ h) ∙ connected.kinds i p l

-- the two ends of a stream have its kind
pub same_kind : (program : Program) → IsConnected program → (all : List Ports) (i p s j q : ℕ) (x y : Ports) → ((i : ℕ) → i < length program.instances.items → ends_in all i ≡ ends_at program i) → i < length program.instances.items → Reads program i p → s ≡ stream_at program i p → j ≡ producer_of program s → j < length program.instances.items → IsWriter program s (producer_of program s) q → slice_get all i ≡ Some x → slice_get all j ≡ Some y → kind_at y q ≡ kind_at x p
same_kind program connected all i p s j q x y ends inside d es ej lj w ex ey =
    let w' : IsWriter program s j q = subst (λ z. IsWriter program s z q) (sym ej) w in
    kind_of_end program connected j q all y w'.0.0 ey (ends j lj) ∙ ap (stream_kind program) (w'.1 ∙ es) ∙ sym (kind_of_end program connected i p all x d.0 ex (ends i inside))

-- the port is there
pub port_in : (program : Program) → IsConnected program → (all : List Ports) → ((i : ℕ) → i < length program.instances.items → ends_in all i ≡ ends_at program i) → (i p : ℕ) → i < length program.instances.items → p < arity program i → (x : Ports) → slice_get all i ≡ Some x → p < port_count x
port_in program connected all ends i p inside l x ex =
    let it = has_item program.instances.items i inside in
    let b = connected.built i it.0 it.1 in
    let l' : p < length it.0.streams.items = subst (λ o. p < arity_in o) it.1 l in
    let e = ap length (ap ends_by (sym ex) ∙ ends i inside) in
    let n = port_count_is x in
    let m = b.as_many in
    omega arith

pub read_or_write : (program : Program) (i p : ℕ) → Reads program i p → Writes program i p → ⊥
read_or_write program i p r w = let a = r.1 in let b = w.1 in cc

pub kept_none : (a : Streams) → AreKept a a
kept_none a = record { len = refl; ends = λ j. refl; carries = λ j q. refl; offered_len = refl; writers = refl; taken = refl }

pub kept_more : (program : Program) (a b c : Streams) (i p : ℕ) → AreKept a b → Reloads program i p b c → AreKept a c
kept_more program a b c i p h r = record {
  len = r.ports.len ∙ h.len;
  ends = λ j. r.ports.ends j ∙ h.ends j;
  carries = λ j q. r.ports.carries j q ∙ h.carries j q;
  offered_len = r.offered_len ∙ h.offered_len;
  writers = r.writers ∙ h.writers;
  taken = r.taken ∙ h.taken;
}

pub loaded_none : (program : Program) (i : ℕ) (a b : Streams) → AreLoaded program 0 i a b
loaded_none program i a b p l = absurd (omega arith)

-- what is written on a stream is the same after loading
pub list_kept : (program : Program) (a b : Streams) → AreKept a b → (s : ℕ) → list_at program b s ≡ list_at program a s
list_kept program a b k s = k.carries (producer_of program s) (slice_index b.writers.items s) ∙ ap (λ w. carried_of a.ports.items (producer_of program s) (slice_index w s)) k.writers

pub loaded_more : (program : Program) → IsConnected program → (i p : ℕ) → i < length program.instances.items → (a b c : Streams) → AreKept a b → AreLoaded program p i a b → Reloads program i p b c → IsLoaded program i p b c → AreLoaded program (p + 1) i a c
loaded_more program connected i p inside a b c k h r f q l =
    let s = stream_at program i p in
    up_to (λ x. IsLoaded program i x a c) p q l
    (λ e. record {
      waits = λ d. r.ports.waits q (λ x. omega arith) ∙ (h q e).waits d;
      offers = λ d. r.others (stream_at program i q) (λ d' x. let y = connected.reads_one i q p d d' x in omega arith) ∙ (h q e).offers d;
      room = λ d. r.ports.rooms q (λ x. omega arith) ∙ (h q e).room d;
    })
    (record {
      waits = λ d. f.waits d ∙ ap (drop (slice_index b.taken.items s)) (list_kept program a b k s) ∙ ap (λ t. drop (slice_index t s) (list_at program a s)) k.taken;
      offers = λ d. f.offers d ∙ ap length (list_kept program a b k s);
      room = λ d.
          f.room d ∙ ap (λ l. depth_of program s - (length l - slice_index b.taken.items s)) (k.carries i p)
          ∙ ap (λ t. depth_of program s - (length (carried_of a.ports.items i p) - slice_index t s)) k.taken;
    })

-- the tables are there when other tokens are taken
pub tables_same : (program : Program) (a b : Streams) → HasTables program a → ChangesTaken a b → HasTables program b
tables_same program a b h same = record {
  ports_len = ap length same.ports ∙ h.ports_len;
  offered_len = ap length same.offered ∙ h.offered_len;
  taken_len = same.taken_len ∙ h.taken_len;
  ends = λ i l. ap (λ ps. ends_in ps i) same.ports ∙ h.ends i l;
}

-- what a port was offered and has not taken, where only others took
pub left_same : (a b : Streams) → ChangesTaken a b → (i p s : ℕ) → slice_index b.offered.items s - length (waiting_of b.ports.items i p) ≡ slice_index a.offered.items s - length (waiting_of a.ports.items i p)
left_same a b same i p s = ap (λ o. slice_index o s - length (waiting_of b.ports.items i p)) same.offered ∙ ap (λ ps. slice_index a.offered.items s - length (waiting_of ps i p)) same.ports

-- what is collected at one more port
pub took_more : (program : Program) → IsConnected program → (i p : ℕ) → (a b c : Streams) → ChangesTaken a b → ((q : ℕ) → q < p → Reads program i q → slice_index b.taken.items (stream_at program i q) ≡ slice_index a.offered.items (stream_at program i q) - length (waiting_of a.ports.items i q)) → (Reads program i p → slice_index c.taken.items (stream_at program i p) ≡ slice_index b.offered.items (stream_at program i p) - length (waiting_of b.ports.items i p)) → ((s : ℕ) → (Reads program i p → s ≡ stream_at program i p → ⊥) → slice_index c.taken.items s ≡ slice_index b.taken.items s) → (q : ℕ) → q < p + 1 → Reads program i q → slice_index c.taken.items (stream_at program i q) ≡ slice_index a.offered.items (stream_at program i q) - length (waiting_of a.ports.items i q)
took_more program connected i p a b c same h f g q l d =
    up_to (λ x. Reads program i x → slice_index c.taken.items (stream_at program i x) ≡ slice_index a.offered.items (stream_at program i x) - length (waiting_of a.ports.items i x)) p q l
    (λ e dq. g (stream_at program i q) (λ d' x. let y = connected.reads_one i q p dq d' x in omega arith) ∙ h q e dq)
    (λ d'. f d' ∙ left_same a b same i p (stream_at program i p)) d

pub in_more : (xs ys : List ℕ) (x : ℕ) → IsIn x xs → IsIn x (xs ++ ys)
in_more xs ys x (n, e) = (n, get_append xs ys n x e)

pub in_last : (xs : List ℕ) (x : ℕ) → IsIn x (xs ++ x ∷ [])
in_last xs x = (length xs, get_last xs x)

pub below_push : (m : ℕ) (xs : List ℕ) (y : ℕ) → AreBelow m xs → y < m → AreBelow m (xs ++ y ∷ [])
below_push m [] y h l zero x e = let q : y ≡ x = cc in omega arith
below_push m [] y h l (suc n) x e = cc
below_push m (z ∷ xs) y h l zero x e = h zero x e
below_push m (z ∷ xs) y h l (suc n) x e = below_push m xs y (λ n' x' e'. h (suc n') x' e') l n x e

-- what is on a list is on a longer one
pub woken_by : (program : Program) (i p : ℕ) (xs zs : List ℕ) → ((x : ℕ) → IsIn x xs → IsIn x zs) → AreWoken program i p xs → AreWoken program i p zs
woken_by program i p xs zs kept h = record { reader = λ d. kept _ (h.reader d); writer = λ d. kept _ (h.writer d) }

-- one more port's other end is on the list
pub woken_more : (program : Program) (i p : ℕ) (xs zs : List ℕ) (y : ℕ) → ((x : ℕ) → IsIn x xs → IsIn x zs) → IsIn y zs → ((q : ℕ) → q < p → AreWoken program i q xs) → (Writes program i p → y ≡ consumer_of program (stream_at program i p)) → (Reads program i p → y ≡ producer_of program (stream_at program i p)) → (q : ℕ) → q < p + 1 → AreWoken program i q zs
woken_more program i p xs zs y kept there h w r q l =
    up_to (λ x. AreWoken program i x zs) p q l (λ e. woken_by program i q xs zs kept (h q e))
    (record {
      reader = λ d. subst (λ z. IsIn z zs) (w d) there;
      writer = λ d. subst (λ z. IsIn z zs) (r d) there;
    })

-- an instance is listed
pub listed_push : (listed listed' : List Bool) (xs zs : List ℕ) (j : ℕ) → AreListed listed xs → listed' ≡ slice_set listed j true → zs ≡ xs ++ j ∷ [] → AreListed listed' zs
listed_push listed listed' xs zs j h el ez x e =
    subst (IsIn x) (sym ez)
    (⊎_elim
    (λ (s : j ≡ x). subst (λ z. IsIn z (xs ++ j ∷ [])) s (in_last xs j))
    (λ (d : j ≡ x → ⊥). in_more xs (j ∷ []) x (h x (sym (get_set_other listed j x true d) ∙ ap (λ l. slice_get l x) (sym el) ∙ e)))
    (cases_eq j x))

pub all_push : (i : ℕ) (xs : List ℕ) → ((j : ℕ) → j < i → IsIn j xs) → (j : ℕ) → j < i + 1 → IsIn j (xs ++ i ∷ [])
all_push i xs h j l = up_to (λ z. IsIn z (xs ++ i ∷ [])) i j l (λ e. in_more xs (i ∷ []) j (h j e)) (in_last xs i)

-- one more item of a list is on another
pub all_more : (near xs zs : List ℕ) (n y : ℕ) → slice_get near n ≡ Some y → ((x : ℕ) → IsIn x xs → IsIn x zs) → IsIn y zs → ((m x : ℕ) → m < n → slice_get near m ≡ Some x → IsIn x xs) → (m x : ℕ) → m < n + 1 → slice_get near m ≡ Some x → IsIn x zs
all_more near xs zs n y at kept there h m x l e =
    up_to (λ k. slice_get near k ≡ Some x → IsIn x zs) n m l (λ q e'. kept x (h m x q e'))
    (λ here. let is : y ≡ x = cc in subst (λ z. IsIn z zs) is there) e

-- nothing is in an empty list
pub none_in : {A : Type 0} (n : ℕ) (x : A) (l : List A) → l ≡ [] → slice_get l n ≡ Some x → ⊥
none_in n x [] e h = cc
none_in n x (y ∷ l) e h = cc

-- no instance is listed at first
pub none_listed : (n x : ℕ) → slice_get (replicate n false) x ≡ Some true → ⊥
none_listed n x e = let q = replicated n x false true e in cc

each_next : {A : Type 0} (xs : List A) (y : A) (P : ℕ → A → Type 0) → ((i : ℕ) (x : A) → slice_get xs i ≡ Some x → P i x) → P (length xs) y → (i : ℕ) (x : A) → slice_get (xs ++ y ∷ []) i ≡ Some x → P i x
each_next [] y P h g zero x at = let q : y ≡ x = cc in subst (P 0) q g
each_next [] y P h g (suc i) x at = cc
each_next (z ∷ xs) y P h g zero x at = h zero x at
each_next (z ∷ xs) y P h g (suc i) x at = each_next xs y (λ n. P (suc n)) (λ n w k. h (suc n) w k) g i x at

-- what holds of each item of a list and of one more
pub each_push : {A : Type 0} (xs zs : List A) (y : A) (P : ℕ → A → Type 0) → zs ≡ xs ++ y ∷ [] → ((i : ℕ) (x : A) → slice_get xs i ≡ Some x → P i x) → P (length xs) y → (i : ℕ) (x : A) → slice_get zs i ≡ Some x → P i x
each_push xs zs y P e h g i x at = each_next xs y P h g i x (subst (λ v. slice_get v i ≡ Some x) e at)

-- a tie has the position of its stream's writer
pub tie_written : (program : Program) → IsConnected program → (writers : List ℕ) (i p : ℕ) (tie : Tie) → ((s : ℕ) → s < length program.streams.items → IsWriter program s (producer_of program s) (slice_index writers s)) → IsTie program i p tie → slice_index writers tie.stream ≡ tie.position
tie_written program connected writers i p tie w t =
    let a = w tie.stream t.stream_in in
    connected.writes_one (producer_of program tie.stream) (slice_index writers tie.stream) tie.position a.0 t.writer.0 (a.1 ∙ sym t.writer.1)
