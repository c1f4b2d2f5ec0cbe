-- The drivers of a module's nets: each net has one at most.
use Rattle.std.proofs.Common.{◌≡◌, ℕ, ◌+◌, ◌<◌, ◌≤◌, Bool, true, false, cond, List, [], ◌∷◌, ◌++◌, Option, Some, None, inl, inr, refl, sym, ap, subst, ◌∙◌, map, arith}
use Rattle.std.specs.Prelude.{◌⊎◌, ◌==◌, bytes_eq, if◌then◌else◌, count_by, not}
use Rattle.std.specs.List.{flat_map}
use Rattle.std.specs.Cmp.Lexicographic.{bytes_decides}
use Rattle.std.proofs.lemmas.Bool.Decides.{nat_tests}
use Rattle.vlog_tree.specs.declared.tree.Value.{Value}
use Rattle.vlog_tree.specs.declared.tree.Connection.{Connection}
use Rattle.vlog_tree.specs.declared.tree.Item.{Item}
use Rattle.vlog_tree.specs.declared.tree.Item.TheVariants.{Wire, Reg, Memory, Assign, Always, Instance}
use Rattle.vlog_tree.specs.declared.table.Declaration.{Declaration}
use Rattle.vlog_tree.specs.declared.table.NetKind.{NetKind}
use Rattle.vlog_tree.specs.declared.table.NetKind.TheVariants.{Unknown, Input, Output, WireNet, Register, MemoryArray, ChildInstance}
use Rattle.vlog_tree.specs.Form.{ModuleTree}
use Rattle.tapa_base.specs.Lists.{Has}
use Rattle.vlog_tree.specs.Table.{Name, declared, port_declared, find_name, net_kind_of, net_kind_is_driven, net_kind_is_input, ports_of, first_violation, one_if, times_in}
use Rattle.vlog_tree.specs.V4.{connection_driven, line_driven, drives, is_block_of, breaks_driving, driving_use, module_drives, v4_uses}
use Rattle.tapa_base.proofs.Lists.{has_flat, of_flat, has_map}
use Rattle.vlog_run_laws.proofs.runs.Sound.{right}
use Rattle.vlog_run_laws.proofs.runs.Alone.{count_cons, counted, alone, same_name}
use Rattle.vlog_run_laws.proofs.runs.Sizes.{found_name}
use Rattle.tapa_base.proofs.Got.{map_append as map_both}

-- what drives a net: a value, or a port of an instance
pub data Source : Type 0 where
  value : Value → Source
  output : Name → Name → Source

abbrev pub connection_source : List Declaration → Name → Connection → List (Name × Source)
connection_source ports i l = if net_kind_is_input (net_kind_of ports l.port) then [] else (l.net, output i l.port) ∷ []

abbrev pub line_sources : List ModuleTree → Item → List (Name × Source)
line_sources ms (Assign x e) = (x, value e) ∷ []
line_sources ms (Instance m i connections) = flat_map (connection_source (map port_declared (ports_of ms m)) i) connections
line_sources ms (Wire w y) = []
line_sources ms (Reg w y) = []
line_sources ms (Memory w y n) = []
line_sources ms (Always b) = []

abbrev pub sources : List ModuleTree → List Item → List (Name × Source)
sources ms items = flat_map (line_sources ms) items

abbrev pub source_of : List (Name × Source) → Name → Option Source
source_of [] x = None
source_of (s ∷ ss) x = if bytes_eq s.0 x then Some s.1 else source_of ss x

abbrev pub SourceCases : List (Name × Source) → Name → Type 0
SourceCases ss x = (source_of ss x ≡ None) ⊎ ((s : Source) × Has ss (x, s) × (source_of ss x ≡ Some s))

source_step : (ss : List (Name × Source)) (y x : Name) (s : Source) (b : Bool) → bytes_eq y x ≡ b → SourceCases ss x
    → (cond b (Some s) (source_of ss x) ≡ None) ⊎ ((t : Source) × Has {N = Name × Source} ((y, s) ∷ ss) (x, t) × (cond b (Some s) (source_of ss x) ≡ Some t))
source_step ss y x s true e r = inr (s, inl (ap (λ z. (z, s)) ((bytes_decides y x).0 e)), refl)
source_step ss y x s false e (inl n) = inl n
source_step ss y x s false e (inr r) = inr (r.0, inr r.1, r.2)

pub source_cases : (ss : List (Name × Source)) (x : Name) → SourceCases ss x
source_cases [] x = inl refl
source_cases (s ∷ ss) x = source_step ss s.0 x s.1 (bytes_eq s.0 x) refl (source_cases ss x)

abbrev pub names_it : Name → Name × Source → Bool
names_it x s = bytes_eq s.0 x

there_step : (ss : List (Name × Source)) (x : Name) (s : Source) (b : Bool) → (source_of ss x ≡ None → ⊥) → cond b (Some s) (source_of ss x) ≡ None → ⊥
there_step ss x s true f h = cc
there_step ss x s false f h = f h

here_step : (o : Option Source) (s : Source) (b : Bool) → b ≡ true → cond b (Some s) o ≡ None → ⊥
here_step o s true e h = cc
here_step o s false e h = cc

source_there : (ss : List (Name × Source)) (x : Name) (s : Source) → Has ss (x, s) → source_of ss x ≡ None → ⊥
source_there [] x s h e = absurd h
source_there (q ∷ ss) x s (inl p) e = here_step (source_of ss x) q.1 (bytes_eq q.0 x) (ap (λ (q : Name × Source). bytes_eq q.0 x) p ∙ same_name x) e
source_there (q ∷ ss) x s (inr h) e = there_step ss x q.1 (bytes_eq q.0 x) (source_there ss x s h) e

-- the one source of a net
pub source_is : (ss : List (Name × Source)) (x : Name) (s : Source) → Has ss (x, s) → count_by (names_it x) ss < 2 → source_of ss x ≡ Some s
source_is ss x s h low = elim (source_cases ss x) [
  | inl n ↦ absurd (source_there ss x s h n)
  | inr r ↦ r.2 ∙ ap (λ (q : Name × Source). Some q.1) (alone (names_it x) ss (x, r.0) (x, s) r.1 h (same_name x) (same_name x) low)
]

pub source_none : (ss : List (Name × Source)) (x : Name) → count_by (names_it x) ss ≡ 0 → source_of ss x ≡ None
source_none ss x e = elim (source_cases ss x) [
  | inl n ↦ n
  | inr r ↦ (let c : 1 ≤ count_by (names_it x) ss = counted (names_it x) ss (x, r.0) r.1 (same_name x) in absurd (omega arith))
]

none_step : (ss : List (Name × Source)) (x : Name) (s : Source) (b : Bool) → (source_of ss x ≡ None → count_by (names_it x) ss ≡ 0) → cond b (Some s) (source_of ss x) ≡ None → one_if b + count_by (names_it x) ss ≡ 0
none_step ss x s true f h = cc
none_step ss x s false f h = let z : count_by (names_it x) ss ≡ 0 = f h in omega arith

pub none_counted : (ss : List (Name × Source)) (x : Name) → source_of ss x ≡ None → count_by (names_it x) ss ≡ 0
none_counted [] x e = refl
none_counted (s ∷ ss) x e = count_cons (names_it x) s ss ∙ none_step ss x s.1 (bytes_eq s.0 x) (none_counted ss x) e

pub count_map : {A B : Type 0} (p : B → Bool) (f : A → B) (xs : List A) → count_by p (map f xs) ≡ count_by (λ x. p (f x)) xs
count_map p f [] = refl
count_map p f (x ∷ xs) = count_cons p (f x) (map f xs) ∙ ap (λ n. cond (p (f x)) 1 0 + n) (count_map p f xs) ∙ sym (count_cons (λ x. p (f x)) x xs)

map_flat : {A B C : Type 0} (f : B → C) (g : A → List B) (k : A → List C) → ((x : A) → map f (g x) ≡ k x) → (xs : List A) → map f (flat_map g xs) ≡ flat_map k xs
map_flat f g k e [] = refl
map_flat f g k e (x ∷ xs) = map_both f (g x) (flat_map g xs) ∙ ap (λ l. l ++ map f (flat_map g xs)) (e x) ∙ ap (λ l. k x ++ l) (map_flat f g k e xs)

abbrev source_name : Name × Source → Name
source_name s = s.0

connection_names : (ports : List Declaration) (i : Name) (l : Connection) → map source_name (connection_source ports i l) ≡ connection_driven ports l
unfolding connection_driven
connection_names ports i l = by_test (net_kind_is_input (net_kind_of ports l.port)) where
  by_test : (b : Bool) → ◌≡◌ {A = List Name} (map source_name (cond b [] ((l.net, output i l.port) ∷ []))) (cond b [] (l.net ∷ []))
  by_test true = refl
  by_test false = refl

line_names : (ms : List ModuleTree) (it : Item) → map source_name (line_sources ms it) ≡ line_driven ms it
line_names ms (Assign x e) = refl
line_names ms (Instance m i connections) = map_flat source_name (connection_source (map port_declared (ports_of ms m)) i) (connection_driven (map port_declared (ports_of ms m))) (connection_names (map port_declared (ports_of ms m)) i) connections
line_names ms (Wire w y) = refl
line_names ms (Reg w y) = refl
line_names ms (Memory w y n) = refl
line_names ms (Always b) = refl

pub source_count : (ms : List ModuleTree) (items : List Item) (x : Name) → count_by (names_it x) (sources ms items) ≡ drives ms items x
source_count ms items x =
    sym (count_map (λ (y : Name). bytes_eq y x) source_name (sources ms items))
    ∙ ap (λ l. times_in l x) (map_flat source_name (line_sources ms) (line_driven ms) (line_names ms) items)

-- which line a source is of
pub value_line : (ms : List ModuleTree) (it : Item) (x : Name) (e : Value) → Has (line_sources ms it) (x, value e) → it ≡ Assign x e
value_line ms (Assign y f) x e (inl p) = by_parts (ap (λ (q : Name × Source). q.0) p) (ap (λ (q : Name × Source). q.1) p) where
  by_parts : y ≡ x → value f ≡ value e → Assign y f ≡ Assign x e
  by_parts a b = cc
value_line ms (Assign y f) x e (inr h) = absurd h
value_line ms (Instance m i connections) x e h = let t = of_flat (connection_source (map port_declared (ports_of ms m)) i) connections (x, value e) h in by_test t.0 (net_kind_is_input (net_kind_of (map port_declared (ports_of ms m)) t.0.port)) t.2 where
  by_test : (l : Connection) (b : Bool) → Has {N = Name × Source} (cond b [] ((l.net, output i l.port) ∷ [])) (x, value e) → Instance m i connections ≡ Assign x e
  by_test l true h = absurd h
  by_test l false (inl p) = let q : output i l.port ≡ value e = ap (λ (q : Name × Source). q.1) p in cc
  by_test l false (inr h) = absurd h
value_line ms (Wire w y) x e h = absurd h
value_line ms (Reg w y) x e h = absurd h
value_line ms (Memory w y n) x e h = absurd h
value_line ms (Always b) x e h = absurd h

-- the connection of a port that drives a net
pub record IsDrivenBy (ms : List ModuleTree) (items : List Item) (x i p : Name) : Type 0 where
  pub kn : Name
  pub connections : List Connection
  pub has : Has items (Instance kn i connections)
  pub connection : Connection
  pub connected : Has connections connection
  pub net : connection.net ≡ x
  pub port : connection.port ≡ p
  pub output : net_kind_is_input (net_kind_of (map port_declared (ports_of ms kn)) connection.port) ≡ false

output_connection : (ms : List ModuleTree) (items : List Item) (kn j : Name) (connections : List Connection) → Has items (Instance kn j connections) → (x i p : Name) (l : Connection) → Has connections l → (b : Bool) → net_kind_is_input (net_kind_of (map port_declared (ports_of ms kn)) l.port) ≡ b
    → Has {N = Name × Source} (cond b [] ((l.net, output j l.port) ∷ [])) (x, output i p) → IsDrivenBy ms items x i p
output_connection ms items kn j connections has x i p l h true e k = absurd k
output_connection ms items kn j connections has x i p l h false e (inl q) =
    let s : output j l.port ≡ output i p = ap (λ (q : Name × Source). q.1) q in
    let same : j ≡ i = cc s in
    record {
      kn = kn;
      connections = connections;
      has = subst (λ z. Has items (Instance kn z connections)) same has;
      connection = l;
      connected = h;
      net = ap (λ (q : Name × Source). q.0) q;
      port = cc s;
      output = e;
    }
output_connection ms items kn j connections has x i p l h false e (inr k) = absurd k

pub output_line : (ms : List ModuleTree) (items : List Item) (it : Item) → Has items it → (x i p : Name) → Has (line_sources ms it) (x, output i p) → IsDrivenBy ms items x i p
output_line ms items (Assign y f) has x i p (inl q) = let s : value f ≡ output i p = ap (λ (q : Name × Source). q.1) q in cc
output_line ms items (Assign y f) has x i p (inr h) = absurd h
output_line ms items (Instance kn j connections) has x i p h =
    let t = of_flat (connection_source (map port_declared (ports_of ms kn)) j) connections (x, output i p) h in
    output_connection ms items kn j connections has x i p t.0 t.1 _ refl t.2
output_line ms items (Wire w y) has x i p h = absurd h
output_line ms items (Reg w y) has x i p h = absurd h
output_line ms items (Memory w y n) has x i p h = absurd h
output_line ms items (Always b) has x i p h = absurd h

pub assign_source : (ms : List ModuleTree) (items : List Item) (x : Name) (e : Value) → Has items (Assign x e) → Has (sources ms items) (x, value e)
assign_source ms items x e has = has_flat (line_sources ms) items (Assign x e) (x, value e) has (inl refl)

pub connection_has_source : (ms : List ModuleTree) (items : List Item) (kn i : Name) (connections : List Connection) → Has items (Instance kn i connections) → (l : Connection) → Has connections l → net_kind_is_input (net_kind_of (map port_declared (ports_of ms kn)) l.port) ≡ false
    → Has (sources ms items) (l.net, output i l.port)
connection_has_source ms items kn i connections has l h e =
    has_flat (line_sources ms) items (Instance kn i connections) (l.net, output i l.port) has
    (has_flat (connection_source (map port_declared (ports_of ms kn)) i) connections l (l.net, output i l.port) h
    (subst (λ b. Has {N = Name × Source} (cond b [] ((l.net, output i l.port) ∷ [])) (l.net, output i l.port)) (sym e) (inl refl)))

zero_of : (n : ℕ) → not (n == 0) ≡ false → n ≡ 0
zero_of n h = grind (arith, nat_tests)

one_of : (n : ℕ) → not (n == 1) ≡ false → n ≡ 1
one_of n h = grind (arith, nat_tests)

few_by_net_kind : (n k : ℕ) (s : NetKind) → net_kind_is_driven s ≡ true → breaks_driving n k s ≡ false → n < 2
few_by_net_kind n k Input h e = let z : n ≡ 0 = zero_of n e in omega arith
few_by_net_kind n k Output h e = let z : n ≡ 1 = one_of n e in omega arith
few_by_net_kind n k WireNet h e = let z : n ≡ 1 = one_of n e in omega arith
few_by_net_kind n k Unknown h e = cc
few_by_net_kind n k Register h e = cc
few_by_net_kind n k MemoryArray h e = cc
few_by_net_kind n k ChildInstance h e = cc

module _ (ms : List ModuleTree) (drivers : first_violation (v4_uses ms) ≡ None) (m : ModuleTree) (in_ms : Has ms m) where
  driving_right : (d : Declaration) → Has (declared m) d → breaks_driving (drives ms m.items d.name) (count_by (is_block_of d.name) m.items) d.net_kind ≡ false
  unfolding module_drives driving_use
  driving_right d h = right (v4_uses ms) drivers (driving_use ms m.items d) (has_flat (module_drives ms) ms m _ in_ms (has_map (driving_use ms m.items) (declared m) d h))

  driving_of : (x : Name) (test : NetKind → Bool) → test Unknown ≡ false → test (net_kind_of (declared m) x) ≡ true → (k : ℕ) × (breaks_driving (drives ms m.items x) k (net_kind_of (declared m) x) ≡ false)
  driving_of x test none h =
      let f = found_name (declared m) x test none h in
      let d = find_name (declared m) x in
      (count_by (is_block_of d.name) m.items, subst (λ z. breaks_driving (drives ms m.items z) (count_by (is_block_of d.name) m.items) d.net_kind ≡ false) f.1 (driving_right d f.0))

  -- a net has one source at most
  pub few_sources : (x : Name) → net_kind_is_driven (net_kind_of (declared m) x) ≡ true → count_by (names_it x) (sources ms m.items) < 2
  few_sources x h = let b = driving_of x net_kind_is_driven refl h in let c : count_by (names_it x) (sources ms m.items) ≡ drives ms m.items x = source_count ms m.items x in
      let l : drives ms m.items x < 2 = few_by_net_kind (drives ms m.items x) b.0 (net_kind_of (declared m) x) h b.1 in omega arith

  pub input_undriven : (x : Name) → net_kind_of (declared m) x ≡ Input → source_of (sources ms m.items) x ≡ None
  input_undriven x e =
      let b = driving_of x net_kind_is_input refl (ap net_kind_is_input e) in
      let z : drives ms m.items x ≡ 0 = zero_of (drives ms m.items x) (subst (λ s. breaks_driving (drives ms m.items x) b.0 s ≡ false) e b.1) in
      source_none (sources ms m.items) x (source_count ms m.items x ∙ z)

  once_by_net_kind : (n k : ℕ) (s : NetKind) → net_kind_is_driven s ≡ true → (s ≡ Input → ⊥) → breaks_driving n k s ≡ false → n ≡ 1
  once_by_net_kind n k Input h f e = absurd (f refl)
  once_by_net_kind n k Output h f e = one_of n e
  once_by_net_kind n k WireNet h f e = one_of n e
  once_by_net_kind n k Unknown h f e = cc
  once_by_net_kind n k Register h f e = cc
  once_by_net_kind n k MemoryArray h f e = cc
  once_by_net_kind n k ChildInstance h f e = cc

  -- a net that lines drive has a source
  pub has_source : (x : Name) → net_kind_is_driven (net_kind_of (declared m) x) ≡ true → (net_kind_of (declared m) x ≡ Input → ⊥) → source_of (sources ms m.items) x ≡ None → ⊥
  has_source x h f e =
      let b = driving_of x net_kind_is_driven refl h in
      let c : count_by (names_it x) (sources ms m.items) ≡ drives ms m.items x = source_count ms m.items x in
      let one : drives ms m.items x ≡ 1 = once_by_net_kind (drives ms m.items x) b.0 (net_kind_of (declared m) x) h f b.1 in
      let none : count_by (names_it x) (sources ms m.items) ≡ 0 = none_counted (sources ms m.items) x e in
      omega arith
