-- The numbers of the memories inside a design.
use Rattle.std.proofs.Common.{◌≡◌, ℕ, ◌+◌, ◌*◌, ◌-◌, ◌<◌, ◌≤◌, Bool, true, false, cond, List, [], ◌∷◌, ◌++◌, Option, Some, None, length, get_or, inl, inr, refl, sym, ap, subst, ◌∙◌, arith}
use Rattle.std.specs.Prelude.{◌⊎◌, slice_get, option_and_then}
use Rattle.std.proofs.lemmas.Bool.{cases_eq, cases_lt}
use Rattle.std.proofs.lemmas.List.{get_or_append_left, get_or_push, get_or_past, length_push, length-append}
use Rattle.std.proofs.lemmas.Option.{slice_get_within}
use Rattle.vlog_tree.specs.declared.tree.Item.TheVariants.{Memory}
use Rattle.vlog_tree.specs.declared.table.Declaration.{Declaration}
use Rattle.vlog_tree.specs.declared.table.NetKind.TheVariants.{MemoryArray}
use Rattle.vlog_tree.specs.Form.{ModuleTree}
use Rattle.tapa_base.specs.Lists.{Has}
use Rattle.vlog_tree.specs.Flattened.{FlatNet}
use Rattle.vlog_tree.specs.Cycle.{module_at}
use Rattle.vlog_tree.specs.Environment.{shape_of}
use Rattle.vlog_tree.specs.Table.{declared, find_name, net_kind_of, net_kind_is_memory}
use Rattle.tapa_base.proofs.Lists.{has_got}
use Rattle.vlog_run_laws.proofs.runs.Alike.{memory_is}
use Rattle.vlog_run_laws.proofs.runs.Alone.{stands_for}
use Rattle.vlog_run_laws.proofs.runs.Settled.{module_in}
use Rattle.vlog_run_laws.proofs.runs.Sizes.{has_line}
use Rattle.sim_tape.specs.declared.gates.Pair.{Pair}
use Rattle.sim_flat.specs.declared.flat.Flat.{Flat}
use Rattle.sim_flat.specs.declared.tables.Table.{Table}
use Rattle.sim_flat.specs.Flat.{IsFlat, HasNumber}
use Rattle.sim_flat.specs.Edges.{table_at, base_at}
use Rattle.sim_flat.proofs.Got.{got_left, got_behind}
use Rattle.sim_flat.proofs.Standing.{module_of, table_of, number_low}
use Rattle.sim_design.specs.declared.drafts.Width.{Width}
use Rattle.sim_design.specs.Memories.{declaration_at, memory_pair, number_for, widths_for, IsMemoryAt, IsMemoryOf, AreNumbersBelow}
use Rattle.sim_design.specs.Drafts.{AreMemories}

none_below : (f : Flat) (outside : ℕ) → AreNumbersBelow f outside [] []
none_below f outside = record {
  all = λ number d low at kind. absurd (omega (arith, low));
  only = λ number q got. (let clash : None ≡ Some q = got in cc);
  own = λ number other p q got more same. (let clash : None ≡ Some p = got in cc);
}

-- what the last of more names has, and those before
number_split : (numbers : List (Option Pair)) (o : Option Pair) (i : ℕ) (q : Pair) → get_or (numbers ++ o ∷ []) i None ≡ Some q
    → ((i < length numbers) × (get_or numbers i None ≡ Some q)) ⊎ ((i ≡ length numbers) × (o ≡ Some q))
number_split numbers o i q got = elim (cases_lt i (length numbers)) [
  | inl lt ↦ inl (lt, sym (get_or_append_left numbers (o ∷ []) None i lt) ∙ got)
  | inr ge ↦ elim (cases_eq i (length numbers)) [
    | inl e ↦ inr (e, sym (get_or_push numbers o None i (sym e)) ∙ got)
    | inr ne ↦
        let none : get_or (numbers ++ o ∷ []) i None ≡ None = get_or_past (numbers ++ o ∷ []) i None (let long = length_push numbers o in omega arith) in
        let clash : None ≡ Some q = sym none ∙ got in cc
  ]
]

of_later : (f : Flat) (outside count more number : ℕ) (q : Pair) → count ≤ more → IsMemoryOf f outside count number q → IsMemoryOf f outside more number q
of_later f outside count more number q le h =
    let low : h.place < count = h.low in
    record { declaration = h.declaration; declared_at = h.declared_at; kind = h.kind; place = h.place; low = omega arith; is = h.is }

-- a name that is no memory
module _ (f : Flat) (outside : ℕ) (numbers : List (Option Pair)) (widths : List Width) (below : AreNumbersBelow f outside numbers widths) where
  plain : (o : Option Declaration) → declaration_at f (length numbers) ≡ o → ((d : Declaration) → o ≡ Some d → net_kind_is_memory d.net_kind ≡ false) → AreNumbersBelow f outside (numbers ++ None ∷ []) (widths ++ [])
  plain o e other_kind = record {
    all = λ number d low at kind. elim (cases_lt number (length numbers)) [
      | inl lt ↦ (let h = below.all number d lt at kind in record { place = h.place; width = got_left widths [] h.place (slice_get_within widths h.place _ h.width) ∙ h.width; numbered = get_or_append_left numbers (None ∷ []) None number lt ∙ h.numbered })
      | inr ge ↦
          let long : length (numbers ++ None ∷ []) ≡ length numbers + 1 = length_push numbers None in
          let same : number ≡ length numbers = omega arith in
          let clash : false ≡ true = sym (other_kind d (sym e ∙ ap (declaration_at f) (sym same) ∙ at)) ∙ kind in cc
    ];
    only = λ number q got. elim (number_split numbers None number q got) [
      | inl l ↦ of_later f outside (length widths) (length (widths ++ [])) number q (longer []) (below.only number q l.1)
      | inr r ↦ (let clash : None ≡ Some q = r.1 in cc)
    ];
    own = λ number other p q got more same. elim (number_split numbers None number p got) [
      | inl l ↦ elim (number_split numbers None other q more) [
        | inl k ↦ below.own number other p q l.1 k.1 same
        | inr r ↦ (let clash : None ≡ Some q = r.1 in cc)
      ]
      | inr r ↦ (let clash : None ≡ Some p = r.1 in cc)
    ];
  } where
    longer : (more : List Width) → length widths ≤ length (widths ++ more)
    longer more = let l = length-append widths more in omega arith

  abbrev width_of : Declaration → Width
  width_of d = record { pair = memory_pair outside (length widths); bits = d.bits; cells = d.cells }

  abbrev last : Pair
  last = memory_pair outside (length widths)

  memory : (d : Declaration) → declaration_at f (length numbers) ≡ Some d → net_kind_is_memory d.net_kind ≡ true → AreNumbersBelow f outside (numbers ++ Some last ∷ []) (widths ++ width_of d ∷ [])
  memory d e kind = record {
    all = λ number k low at is. elim (cases_lt number (length numbers)) [
      | inl lt ↦ (let h = below.all number k lt at is in record { place = h.place; width = got_left widths (width_of d ∷ []) h.place (slice_get_within widths h.place _ h.width) ∙ h.width; numbered = get_or_append_left numbers (Some last ∷ []) None number lt ∙ h.numbered })
      | inr ge ↦
          let long : length (numbers ++ Some last ∷ []) ≡ length numbers + 1 = length_push numbers (Some last) in
          let same : number ≡ length numbers = omega arith in
          let some : Some d ≡ Some k = sym e ∙ ap (declaration_at f) (sym same) ∙ at in
          let one : d ≡ k = cc some in
          let zero : length widths ≡ length widths + 0 = omega arith in
          record {
            place = length widths;
            width = ap (slice_get (widths ++ width_of d ∷ [])) zero ∙ got_behind widths (width_of d ∷ []) 0 ∙ ap (λ k. Some (width_of k)) one;
            numbered = get_or_push numbers (Some last) None number (sym same);
          }
    ];
    only = λ number q got. elim (number_split numbers (Some last) number q got) [
      | inl l ↦ of_later f outside (length widths) (length (widths ++ width_of d ∷ [])) number q (let long = length_push widths (width_of d) in omega arith) (below.only number q l.1)
      | inr r ↦
          let one : last ≡ q = cc (r.1) in
          record {
            declaration = d;
            declared_at = ap (declaration_at f) r.0 ∙ e;
            kind = kind;
            place = length widths;
            low = (let long = length_push widths (width_of d) in omega arith);
            is = ap (λ (p : Pair). p.low) (sym one);
          }
    ];
    own = λ number other p q got more same. elim (number_split numbers (Some last) number p got) [
      | inl l ↦ elim (number_split numbers (Some last) other q more) [
        | inl k ↦ below.own number other p q l.1 k.1 same
        | inr r ↦ absurd (apart number p q l.1 r.1 same)
      ]
      | inr r ↦ elim (number_split numbers (Some last) other q more) [
        | inl k ↦ absurd (apart other q p k.1 r.1 (sym same))
        | inr s ↦ r.0 ∙ sym s.0
      ]
    ];
  } where
    apart : (number : ℕ) (p q : Pair) → get_or numbers number None ≡ Some p → Some last ≡ Some q → p.low ≡ q.low → ⊥
    apart number p q got is same =
        let h = below.only number p got in
        let one : last ≡ q = cc is in
        let low : h.place < length widths = h.low in
        let a : p.low ≡ outside + 2 * h.place = h.is in
        let b : outside + 2 * length widths ≡ q.low = ap (λ (p : Pair). p.low) one in
        omega arith

  more_by : (d : Declaration) → declaration_at f (length numbers) ≡ Some d → (b : Bool) → net_kind_is_memory d.net_kind ≡ b
      → AreNumbersBelow f outside (numbers ++ cond b (Some last) None ∷ []) (widths ++ cond b (width_of d ∷ []) [])
  more_by d e true kind = memory d e kind
  more_by d e false kind = plain (Some d) e (λ k same. (let one : d ≡ k = cc same in ap (λ (d : Declaration). net_kind_is_memory d.net_kind) (sym one) ∙ kind))

  more_of : (o : Option Declaration) → declaration_at f (length numbers) ≡ o → AreNumbersBelow f outside (numbers ++ number_for outside (length widths) o ∷ []) (widths ++ widths_for outside (length widths) o)
  more_of None e = plain None e (λ d same. cc)
  more_of (Some d) e = more_by d e (net_kind_is_memory d.net_kind) refl

pub below_more : (f : Flat) (outside : ℕ) (numbers : List (Option Pair)) (widths : List Width) (o : Option Declaration) → declaration_at f (length numbers) ≡ o → AreNumbersBelow f outside numbers widths
    → AreNumbersBelow f outside (numbers ++ number_for outside (length widths) o ∷ []) (widths ++ widths_for outside (length widths) o)
below_more f outside numbers widths o e below = more_of f outside numbers widths below o e

module _ (ms : List ModuleTree) (top : ModuleTree) (f : Flat) (flat : IsFlat ms top f) where
  pub declaration_is : (number : ℕ) (n : FlatNet) (h : HasNumber ms f number n) → declaration_at f number ≡ Some h.at.declared_at.0
  declaration_is number n h =
      let k : ℕ = h.instance in
      let low : h.place < length (declared h.at.tree) = slice_get_within (declared h.at.tree) h.place h.at.declared_at.0 h.at.declared_at.1 in
      let owner : slice_get f.owners.items number ≡ Some k = ap (λ i. slice_get f.owners.items i) h.is ∙ flat.numbers.owned k h.place h.at.tree h.at.there h.at.of_module low in
      let t = table_of ms top f flat k n.0 h.at.tree h.at.there h.at.stands h.at.of_module in
      let is : number ≡ base_at f k + h.place = h.is in
      let place : number - base_at f k ≡ h.place = omega arith in
      ap (λ (o : Option ℕ). option_and_then (λ (k : ℕ). option_and_then (λ (t : Table). slice_get t.scope (number - base_at f k)) (table_at f k)) o) owner
      ∙ ap (λ (o : Option Table). option_and_then (λ (t : Table). slice_get t.scope (number - base_at f k)) o) t.1
      ∙ ap (λ (l : List Declaration). slice_get l (number - base_at f k)) t.2.names
      ∙ ap (slice_get (declared h.at.tree)) place
      ∙ h.at.declared_at.1

  pub tree_is : (number : ℕ) (n : FlatNet) (m : ModuleTree) (h : HasNumber ms f number n) → module_at ms top n.0 ≡ Some m → h.at.tree ≡ m
  tree_is number n m h at =
      let some : Some h.at.tree ≡ Some m = sym (module_of ms top f flat h.instance n.0 h.at.tree h.at.there h.at.stands h.at.of_module) ∙ at in
      cc some

  in_ms : (n : FlatNet) (m : ModuleTree) → module_at ms top n.0 ≡ Some m → Has ms m
  in_ms n m at = module_in ms top (has_got ms flat.top_place top flat.top_at) n.0 m at

  -- the declaration of a number is that of its net
  found_is : (number : ℕ) (n : FlatNet) (m : ModuleTree) → HasNumber ms f number n → module_at ms top n.0 ≡ Some m → declaration_at f number ≡ Some (find_name (declared m) n.1)
  found_is number n m h at =
      let tree = tree_is number n m h at in
      let d : Declaration = h.at.declared_at.0 in
      let has : Has (declared m) d = subst (λ (q : ModuleTree). Has (declared q) d) tree (has_got (declared h.at.tree) h.place d h.at.declared_at.1) in
      let one : find_name (declared m) d.name ≡ d = stands_for ms flat.design.sound.names m (in_ms n m at) d has in
      declaration_is number n h ∙ ap (λ (d : Declaration). Some d) (sym one ∙ ap (find_name (declared m)) h.at.declared_at.2)

  module _ (outside : ℕ) (numbers : List (Option Pair)) (widths : List Width) (out : outside ≡ length (shape_of top).memories) (count : length numbers ≡ length f.owners.items) (below : AreNumbersBelow f outside numbers widths) where
    pub are_memories : AreMemories ms top f numbers widths
    are_memories = record {
      count = count;
      all = λ number n m w k h at has.
          let d : Declaration = record { name = n.1; net_kind = MemoryArray; bits = w; cells = k } in
          let is : find_name (declared m) n.1 ≡ d = stands_for ms flat.design.sound.names m (in_ms n m at) d (has_line m ms flat.design.sound.names (in_ms n m at) (Memory w n.1 k) has d (inl refl)) in
          let low : number < length f.owners.items = number_low ms top f flat number n h in
          let there : IsMemoryAt outside numbers widths number d = below.all number d (subst (λ i. number < i) (sym count) low) (found_is number n m h at ∙ ap (λ (d : Declaration). Some d) is) refl in (
            there.place,
            (there.width ∙ ap (λ o. Some (record { pair = memory_pair o there.place; bits = w; cells = k })) out),
            (there.numbered ∙ ap (λ o. Some (memory_pair o there.place)) out),
          );
      only = λ number n m q h at got.
          let it = below.only number q got in
          let some : Some (find_name (declared m) n.1) ≡ Some it.declaration = sym (found_is number n m h at) ∙ it.declared_at in
          let one : find_name (declared m) n.1 ≡ it.declaration = cc some in
          memory_is (net_kind_of (declared m) n.1) (ap (λ (d : Declaration). net_kind_is_memory d.net_kind) one ∙ it.kind);
      own = below.own;
    }

pub empty_below : (f : Flat) (outside : ℕ) (numbers : List (Option Pair)) (widths : List Width) → numbers ≡ [] → widths ≡ [] → AreNumbersBelow f outside numbers widths
empty_below f outside numbers widths i j = subst (λ l. AreNumbersBelow f outside l widths) (sym i) (subst (λ l. AreNumbersBelow f outside [] l) (sym j) (none_below f outside))
