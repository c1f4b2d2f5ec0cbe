-- The inputs of a design's top, and what each is given.
use Rattle.std.proofs.Common.{◌≡◌, ◌≢◌, ℕ, ◌+◌, ◌<◌, ◌≤◌, Bool, true, false, cond, List, [], ◌∷◌, ◌++◌, Option, Some, None, length, get_or, map, append-nil, inl, inr, refl, sym, ap, subst, ◌∙◌, arith}
use Rattle.std.specs.Prelude.{◌⊎◌, IfSome, IsSome, bytes_eq, is_some, nat_lt, option_map, slice_get, slice_index}
use Rattle.std.specs.List.{position_or_len}
use Rattle.std.specs.Option.{option_to_list}
use Rattle.std.specs.Cmp.Lexicographic.{bytes_decides}
use Rattle.std.proofs.lemmas.Bool.{cases_eq, cases_lt, ltb-false}
use Rattle.std.proofs.lemmas.List.{length_push}
use Rattle.std.proofs.lemmas.List.Quantifiers.{position-Some}
use Rattle.std.proofs.lemmas.List.Sums.{fails_before_first}
use Rattle.std.proofs.lemmas.Option.{same_Some, get_or_from_slice_get, slice_get-get_or, slice_get_within}
use Rattle.tapa_base.specs.declared.shape.Port.{Port}
use Rattle.vlog_tree.specs.declared.tree.PortDecl.{PortDecl}
use Rattle.vlog_tree.specs.declared.table.Declaration.{Declaration}
use Rattle.vlog_tree.specs.declared.table.NetKind.TheVariants.{Input as InputKind, Output as OutputKind}
use Rattle.vlog_tree.specs.Form.{ModuleTree, is_input}
use Rattle.tapa_base.specs.Lists.{Has}
use Rattle.vlog_tree.specs.Flattened.{FlatNet}
use Rattle.vlog_tree.specs.Environment.{shape_of, scalar_label, memory_label}
use Rattle.vlog_tree.specs.Labels.{rst, scalar, m_ack, m_rdata, scalar_of, ack_of, rdata_of}
use Rattle.vlog_tree.specs.Table.{Name, is_clk, declared, port_declared, net_kind_of, bits_of, first_violation}
use Rattle.vlog_tree.specs.V2.{v2_uses}
use Rattle.vlog_tree.specs.V6.{v6_uses, is_top}
use Rattle.tapa_base.proofs.Lists.{got_has, has_flat}
use Rattle.vlog_run_laws.proofs.runs.Labelled.{ack_label, ack_is_no_scalar}
use Rattle.vlog_run_laws.proofs.runs.Ports.{PortFits, fits, input_has_label}
use Rattle.vlog_run_laws.proofs.runs.TopPorts.{input_port}
use Rattle.sim_tape.specs.declared.gates.Pair.{Pair}
use Rattle.sim_tape.specs.Tape.{TapeTree}
use Rattle.sim_flat.specs.declared.flat.Flat.{Flat}
use Rattle.sim_flat.specs.Flat.{HasNumber}
use Rattle.sim_flat.proofs.Standing.{net_single}
use Rattle.sim_design.specs.States.{IsFree}
use Rattle.cycle_sim.specs.declared.inputs.Supply.TheVariants.{Scalar, Ready}
use Rattle.cycle_sim.specs.declared.inputs.Input.{Input}
use Rattle.cycle_sim.specs.Firsts.{place_of}
use Rattle.cycle_sim.specs.Machines.{HasSupply, IsTopPlaced, IsSuppliedBy, IsInput, AreInputs}
use Rattle.cycle_sim.proofs.Growing.{got_last, got_before}
use Rattle.cycle_sim.proofs.Naming.{top_number, number_place, declared_kind, tree}
use Rattle.tapa_base.proofs.Tests.{true_not_false}
use Rattle.tapa_base.proofs.Got.{clash}

pub none_of : {A B : Type 0} (g : A → B) (o : Option A) → is_some o ≡ false → option_map g o ≡ None
none_of g None h = refl
none_of g (Some x) h = cc

pub some_clash : {A B : Type 0} (g : A → B) (o : Option A) → is_some o ≡ true → option_map g o ≡ None → ⊥
some_clash g None h e = cc
some_clash g (Some x) h e = cc

abbrev is_named : Name → Port → Bool
is_named x l = bytes_eq l.name x

-- the label at the first place of a name
pub label_got : (ls : List Port) (x : Name) (i : ℕ) → place_of ls x ≡ Some i → (l : Port) × (slice_get ls i ≡ Some l) × (l.name ≡ x)
label_got ls x i e =
    let none : Port = record { name = []; bits = 0 } in
    let p = position-Some (is_named x) ls i none e in
    (get_or ls i none, slice_get-get_or ls i none p.0, (bytes_decides (get_or ls i none).name x).0 p.1)

there_by : (ls : List Port) (x : Name) (l : Port) → Has ls l → l.name ≡ x → (b : Bool) → nat_lt (position_or_len (is_named x) ls) (length ls) ≡ b → cond b (Some (position_or_len (is_named x) ls)) None ≡ None → ⊥
there_by ls x l has name true t e = cc
there_by ls x l has name false t e =
    let past : length ls ≤ position_or_len (is_named x) ls = ltb-false _ _ t in
    let g = got_has ls l has in
    let low : g.0 < length ls = g.1 in
    let fails : is_named x (get_or ls g.0 l) ≡ false = fails_before_first (is_named x) ls g.0 l (omega arith) in
    let same : get_or ls g.0 l ≡ l = get_or_from_slice_get ls g.0 l l g.2 in
    true_not_false (sym ((bytes_decides l.name x).1 name) ∙ ap (is_named x) (sym same) ∙ fails)

pub label_there : (ls : List Port) (x : Name) (l : Port) → Has ls l → l.name ≡ x → place_of ls x ≡ None → ⊥
label_there ls x l has name e = there_by ls x l has name (nat_lt (position_or_len (is_named x) ls) (length ls)) refl e

pub scalar_is : (top : ModuleTree) (labels : List Port) (scalars : List ℕ) (x : Name) (i v : ℕ) → labels ≡ (shape_of top).scalars → place_of labels x ≡ Some i → v ≡ slice_index scalars i → IsSuppliedBy top scalars (scalar x) (Scalar v)
scalar_is top labels scalars x i v are e value = let g = label_got labels x i e in (i, g.0, ap (λ ls. slice_get ls i) (sym are) ∙ g.1, ap scalar (sym g.2), value)

pub ready_is : (top : ModuleTree) (labels : List Port) (scalars : List ℕ) (x : Name) (i : ℕ) → labels ≡ (shape_of top).memories → place_of labels x ≡ Some i → IsSuppliedBy top scalars (m_ack x) (Ready i)
ready_is top labels scalars x i are e = let g = label_got labels x i e in (g.0, ap (λ ls. slice_get ls i) (sym are) ∙ g.1, ap m_ack (sym g.2))

-- what a name is given that is not the reset
module _ (top : ModuleTree) (x : Name) (has : HasSupply top x) (other : bytes_eq x rst ≡ false) where
  not_reset : x ≡ rst → ⊥
  not_reset e = true_not_false (sym ((bytes_decides x rst).1 e) ∙ other)

  pub scalar_there : (label : Name) → scalar_of x ≡ Some label → (l : Port) × Has (shape_of top).scalars l × (l.name ≡ label)
  scalar_there label e = elim has [
    | inl is ↦ absurd (not_reset is)
    | inr r ↦ elim r [
      | inl s ↦ (s.0, s.1, same_Some s.0.name label (sym s.2 ∙ e))
      | inr a ↦ absurd (clash (scalar_of x) label (ap scalar_of (ack_label x a.0.name a.2).0 ∙ ack_is_no_scalar a.0.name) e)
    ]
  ]

  pub ack_there : scalar_of x ≡ None → (label : Name) → ack_of x ≡ Some label → (l : Port) × Has (shape_of top).memories l × (l.name ≡ label)
  ack_there none label e = elim has [
    | inl is ↦ absurd (not_reset is)
    | inr r ↦ elim r [ inl s ↦ absurd (clash (scalar_of x) s.0.name none s.2) | inr a ↦ (a.0, a.1, same_Some a.0.name label (sym a.2 ∙ e)) ]
  ]

  pub no_supply : scalar_of x ≡ None → ack_of x ≡ None → ⊥
  no_supply none neither = elim has [
    | inl is ↦ not_reset is
    | inr r ↦ elim r [ inl s ↦ clash (scalar_of x) s.0.name none s.2 | inr a ↦ clash (ack_of x) a.0.name neither a.2 ]
  ]

direction : (b : Bool) → cond b InputKind OutputKind ≡ InputKind → b ≡ true
direction true e = refl
direction false e = cc

module _ (ms : List ModuleTree) (names : first_violation (v2_uses ms) ≡ None) (tops : first_violation (v6_uses ms) ≡ None) (m : ModuleTree) (in_ms : Has ms m) (top : is_top ms m.name ≡ true) where
  abbrev ports : List Declaration
  ports = map port_declared m.ports

  module _ (p : PortDecl) (h : Has m.ports p) (before : List PortDecl) (f : PortFits ports before p) (way : is_input p.direction ≡ true) (clock : is_clk p.name ≡ false) (silent : rdata_of p.name ≡ None) where
    by_ack : bytes_eq p.name rst ≡ false → scalar_of p.name ≡ None → (o : Option Name) → ack_of p.name ≡ o → HasSupply m p.name
    by_ack e s None a = absurd (input_has_label ports before p f way clock e s a silent)
    by_ack e s (Some l) a =
        let k : Port = record { name = l; bits = bits_of (declared m) (m_rdata l) } in
        inr (inr (k, has_flat (λ (p : PortDecl). memory_label (declared m) (ack_of p.name)) m.ports p k h (subst (λ o. Has (memory_label (declared m) o) k) (sym a) (inl refl)), a))

    by_scalar : bytes_eq p.name rst ≡ false → (o : Option Name) → scalar_of p.name ≡ o → HasSupply m p.name
    by_scalar e None s = by_ack e s (ack_of p.name) refl
    by_scalar e (Some l) s =
        let k : Port = record { name = l; bits = p.width } in
        inr (inl (k, has_flat (λ (p : PortDecl). scalar_label p (scalar_of p.name)) m.ports p k h (subst (λ o. Has (scalar_label p o) k) (sym s) (inl refl)), s))

    by_reset : (b : Bool) → bytes_eq p.name rst ≡ b → HasSupply m p.name
    by_reset true e = inl ((bytes_decides p.name rst).0 e)
    by_reset false e = by_scalar e (scalar_of p.name) refl

  -- each input of the top that is no clock, and that no memory answers, is given something
  pub supplied_input : (x : Name) → net_kind_of (declared m) x ≡ InputKind → is_clk x ≡ false → rdata_of x ≡ None → HasSupply m x
  supplied_input x input clock silent =
      let q = input_port m x input in
      let way = direction (is_input q.0.direction) (ap (λ (d : Declaration). d.net_kind) q.3 ∙ input) in
      let fit = fits ms names tops m in_ms top q.0 q.1 in
      subst (λ z. HasSupply m z) q.2 (by_reset q.0 q.1 fit.0 fit.1 way (ap is_clk q.2 ∙ clock) (ap rdata_of q.2 ∙ silent) (bytes_eq q.0.name rst) refl)

-- the inputs with numbers below one, each once
pub record InputsBelow (ms : List ModuleTree) (top : ModuleTree) (f : Flat) (pairs : List (Option Pair)) (scalars : List ℕ) (n : ℕ) (inputs : List Input) : Type 0 where
  pub all : (number : ℕ) (x : Name) (p : Pair) → number < n → HasNumber ms f number ([], x) → net_kind_of (declared top) x ≡ InputKind → rdata_of x ≡ None → get_or pairs number None ≡ Some p
      → (i : ℕ) × (a : Input) × (slice_get inputs i ≡ Some a) × (a.pair ≡ p) × IsSuppliedBy top scalars x a.supply
  pub each : (i : ℕ) (a : Input) → slice_get inputs i ≡ Some a → (number : ℕ) × (number < n) × IsInput ms top f pairs scalars number a
  pub once : (i j number : ℕ) (a b : Input) → slice_get inputs i ≡ Some a → slice_get inputs j ≡ Some b → IsInput ms top f pairs scalars number a → IsInput ms top f pairs scalars number b → i ≡ j

pub no_inputs : (ms : List ModuleTree) (top : ModuleTree) (f : Flat) (pairs : List (Option Pair)) (scalars : List ℕ) → InputsBelow ms top f pairs scalars 0 []
no_inputs ms top f pairs scalars = record {
  all = λ number x p low h input silent e. absurd (omega (arith, low));
  each = λ i a got. absurd (clash None a refl got);
  once = λ i j number a b got other ia ib. absurd (clash None a refl got);
}

module _ (ms : List ModuleTree) (top : ModuleTree) (f : Flat) (pairs : List (Option Pair)) (t : TapeTree) (names : List Declaration) (here : IsTopPlaced ms top f pairs t names) (scalars : List ℕ) where
  -- the name at a place of the top that is given something
  pub given_something : (place : ℕ) (d : Declaration) (p : Pair) → slice_get names place ≡ Some d → get_or pairs place None ≡ Some p → d.net_kind ≡ InputKind → rdata_of d.name ≡ None → HasSupply top d.name
  given_something place d p got e input silent =
      let at : slice_get (declared top) place ≡ Some d = ap (λ ds. slice_get ds place) (sym here.are_names) ∙ got in
      let w = tree ms top f pairs t names here in
      let number = top_number ms top f pairs t names here place d.name (d, at, refl) in
      let clock = (here.placed.only place ([], d.name) top p number refl e).1 in
      supplied_input ms here.flat.design.sound.names here.flat.design.outside top w.has w.is_top d.name (declared_kind ms top f pairs t names here place d at ∙ input) clock silent

  -- an input stands at one place alone
  input_single : (n k : ℕ) (a : Input) → IsInput ms top f pairs scalars n a → IsInput ms top f pairs scalars k a → n ≡ k
  input_single n k a x y = by_case (cases_eq n k) where
    free : (number : ℕ) (i : IsInput ms top f pairs scalars number a) → IsFree ms top ([], i.name)
    free number i = record { tree = top; at = refl; by = inr (refl, i.net_kind, i.no_answer) }

    by_case : (n ≡ k) ⊎ (n ≢ k) → n ≡ k
    by_case (inl e) = e
    by_case (inr ne) = absurd ((here.given.own n k ([], x.name) ([], y.name) a.pair a.pair x.has_number y.has_number (free n x) (free k y) ne x.placed y.placed).0 refl)

  module _ (n : ℕ) (inputs : List Input) (below : InputsBelow ms top f pairs scalars n inputs) where
    -- no input stands at a place
    pub none_more : ((p : Pair) (d : Declaration) → slice_get names n ≡ Some d → get_or pairs n None ≡ Some p → d.net_kind ≡ InputKind → rdata_of d.name ≡ None → ⊥) → InputsBelow ms top f pairs scalars (n + 1) inputs
    none_more none = record { all = all_more; each = λ i a got. (let e = below.each i a got in let low : e.0 < n = e.1 in (e.0, omega arith, e.2)); once = below.once } where
      all_more : (number : ℕ) (x : Name) (p : Pair) → number < n + 1 → HasNumber ms f number ([], x) → net_kind_of (declared top) x ≡ InputKind → rdata_of x ≡ None → get_or pairs number None ≡ Some p
          → (i : ℕ) × (a : Input) × (slice_get inputs i ≡ Some a) × (a.pair ≡ p) × IsSuppliedBy top scalars x a.supply
      all_more number x p low h input silent e = elim (cases_lt number n) [
        | inl lt ↦ below.all number x p lt h input silent e
        | inr ge ↦
            let same : number ≡ n = omega (arith, low, ge) in
            let d = number_place ms top f pairs t names here number x h in
            let at : slice_get names n ≡ Some d.0 = ap (λ ds. slice_get ds n) here.are_names ∙ ap (λ k. slice_get (declared top) k) (sym same) ∙ d.1 in
            let kind : d.0.net_kind ≡ InputKind = sym (declared_kind ms top f pairs t names here number d.0 d.1) ∙ ap (net_kind_of (declared top)) d.2 ∙ input in
            absurd (none p d.0 at (ap (λ k. get_or pairs k None) (sym same) ∙ e) kind (ap rdata_of d.2 ∙ silent))
      ]

    -- one more input
    module _ (a : Input) (is : IsInput ms top f pairs scalars n a) where
      abbrev more : List Input
      more = inputs ++ a ∷ []

      among : (i : ℕ) (b : Input) → slice_get more i ≡ Some b → (slice_get inputs i ≡ Some b) ⊎ ((i ≡ length inputs) × (b ≡ a))
      among i b got = elim (cases_lt i (length inputs)) [
        | inl lt ↦ inl (sym (got_before inputs a i lt) ∙ got)
        | inr ge ↦ elim (cases_eq i (length inputs)) [
          | inl e ↦ inr (e, same_Some b a (sym got ∙ got_last inputs a i e))
          | inr ne ↦ absurd (behind i b ge ne got)
        ]
      ] where
        behind : (i : ℕ) (b : Input) → length inputs ≤ i → (i ≢ length inputs) → slice_get more i ≡ Some b → ⊥
        behind i b ge ne got =
            let low : i < length (inputs ++ a ∷ []) = slice_get_within more i b got in
            let long = length_push inputs a in
            omega arith

      kept : (i : ℕ) (b : Input) → slice_get inputs i ≡ Some b → slice_get more i ≡ Some b
      kept i b got = got_before inputs a i (slice_get_within inputs i b got) ∙ got

      -- it is none of the former ones
      apart : (i number : ℕ) (b : Input) → slice_get inputs i ≡ Some b → IsInput ms top f pairs scalars number b → IsInput ms top f pairs scalars number a → ⊥
      apart i number b got ib ia =
          let e = below.each i b got in
          let low : e.0 < n = e.1 in
          let x : e.0 ≡ number = input_single e.0 number b e.2 ib in
          let y : n ≡ number = input_single n number a is ia in
          omega arith

      pub one_more : InputsBelow ms top f pairs scalars (n + 1) more
      one_more = record {
        all = all_more;
        each = λ i b got. elim (among i b got) [
          | inl old ↦ (let e = below.each i b old in let low : e.0 < n = e.1 in (e.0, omega arith, e.2))
          | inr new ↦ (n, omega arith, subst (λ (z : Input). IsInput ms top f pairs scalars n z) (sym new.1) is)
        ];
        once = λ i j number b c got other ib ic. elim (among i b got) [
          | inl old ↦ elim (among j c other) [
            | inl o ↦ below.once i j number b c old o ib ic
            | inr o ↦ absurd (apart i number b old ib (subst (λ (z : Input). IsInput ms top f pairs scalars number z) o.1 ic))
          ]
          | inr new ↦ elim (among j c other) [
            | inl o ↦ absurd (apart j number c o ic (subst (λ (z : Input). IsInput ms top f pairs scalars number z) new.1 ib))
            | inr o ↦ new.0 ∙ sym o.0
          ]
        ];
      } where
        all_more : (number : ℕ) (x : Name) (p : Pair) → number < n + 1 → HasNumber ms f number ([], x) → net_kind_of (declared top) x ≡ InputKind → rdata_of x ≡ None → get_or pairs number None ≡ Some p
            → (i : ℕ) × (b : Input) × (slice_get more i ≡ Some b) × (b.pair ≡ p) × IsSuppliedBy top scalars x b.supply
        all_more number x p low h input silent e = elim (cases_lt number n) [
          | inl lt ↦ (let o = below.all number x p lt h input silent e in (o.0, o.1, kept o.0 o.1 o.2, o.3, o.4))
          | inr ge ↦
              let same : number ≡ n = omega (arith, low, ge) in
              let pair : a.pair ≡ p = same_Some a.pair p (sym is.placed ∙ ap (λ k. get_or pairs k None) (sym same) ∙ e) in
              let there = net_single ms top f here.flat n ([], is.name) ([], x) is.has_number (subst (λ k. HasNumber ms f k ([], x)) same h) in
              let name : is.name ≡ x = ap (λ (k : FlatNet). k.1) there in
              (length inputs, a, got_last inputs a (length inputs) refl, pair, subst (λ z. IsSuppliedBy top scalars z a.supply) name is.supplied)
        ]

    -- the input that stands at a place, if there is one
    pub more_inputs : (o : Option Input) → IfSome o (λ a. IsInput ms top f pairs scalars n a)
        → ((p : Pair) (d : Declaration) → slice_get names n ≡ Some d → get_or pairs n None ≡ Some p → d.net_kind ≡ InputKind → rdata_of d.name ≡ None → IsSome o) → InputsBelow ms top f pairs scalars (n + 1) (inputs ++ option_to_list o)
    more_inputs None is all = subst (λ l. InputsBelow ms top f pairs scalars (n + 1) l) (sym (append-nil inputs)) (none_more (λ p d at e input silent. not_some (all p d at e input silent))) where
      not_some : IsSome {T = Input} None → ⊥
      not_some h = cc
    more_inputs (Some a) is all = one_more a is

  pub all_inputs : (inputs : List Input) → InputsBelow ms top f pairs scalars (length names) inputs → AreInputs ms top f pairs scalars inputs
  all_inputs inputs below = record {
    all = λ number x p h input silent e.
        let d = number_place ms top f pairs t names here number x h in
        let low : number < length (declared top) = slice_get_within (declared top) number d.0 d.1 in
        below.all number x p (subst (λ ds. number < length ds) (sym here.are_names) low) h input silent e;
    each = λ i a got. (let e = below.each i a got in (e.0, e.2));
    once = below.once;
  }
