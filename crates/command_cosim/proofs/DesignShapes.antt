-- What the top of a design asks for, and the environments that fit it.
use Rattle.std.proofs.Common.{◌≡◌, ◌≤◌, ℕ, Bool, true, false, ◌&&◌, List, length, map, Option, Some, None, Result, Ok, Err, inl, inr, refl, sym, ap, subst, ◌∙◌, arith}
use Rattle.std.specs.Prelude.{All, IfOk, ◌||◌, not, is_some, nat_le, slice_get, get_or, Vec}
use Rattle.std.specs.Option.{option_map_or}
use Rattle.std.specs.declared.alloc.Global.{Global}
use Rattle.std.proofs.lemmas.List.{length-map}
use Rattle.std.proofs.lemmas.Option.{slice_get-get_or}
use Rattle.tapa_base.specs.declared.shape.Port.{Port}
use Rattle.tapa_base.specs.declared.shape.Shape.{Shape}
use Rattle.tapa_base.specs.Fits.{Fits}
use Rattle.vlog_tree.specs.declared.tree.PortDecl.{PortDecl}
use Rattle.vlog_tree.specs.declared.table.Declaration.{Declaration}
use Rattle.vlog_tree.specs.Environment.{FitsShape, shape_of, scalar_label, memory_label, widths}
use Rattle.vlog_tree.specs.Form.{ModuleTree, is_input}
use Rattle.tapa_base.specs.Lists.{Has}
use Rattle.vlog_tree.specs.Labels.{m_rdata, m_wdata, scalar_of, ack_of, rdata_of}
use Rattle.vlog_tree.specs.Refused.{IsDesign}
use Rattle.vlog_tree.specs.Table.{Name, declared, port_declared, bits_of}
use Rattle.vlog_tree.specs.V6.{scalar_fits, rdata_fits, has_all_five, agrees}
use Rattle.tapa_base.proofs.Lists.{of_flat, has_got}
use Rattle.vlog_design.specs.Designs.{DesignTree, TopOf}
use Rattle.vlog_run_laws.proofs.runs.Labelled.{ack_label, rdata_of_label}
use Rattle.vlog_run_laws.proofs.runs.Ports.{PortFits, fits, ack_input, named_port, either_true}
use Rattle.vlog_run_laws.proofs.runs.Settled.{IsTopTree, top_tree}
use Rattle.vlog_run_laws.proofs.runs.Sizes.{declared_bits, has_port as port_in}
use Rattle.vlog_run_laws.proofs.runs.TopPorts.{five_rdata}
use Rattle.run_data.specs.Answer.{bits_of_ports, IsDataOf}
use Rattle.run_data.specs.declared.data.Data.{Data}
use Rattle.command_cosim.specs.Designs.{IsShapeIn, GivesEnvironment}
use Rattle.tapa_base.proofs.Tests.{both_true}

few : (n : ℕ) → nat_le n 64 ≡ true → n ≤ 64
few n h = grind arith

scalar_width : (p : PortDecl) (l : Name) → scalar_of p.name ≡ Some l → scalar_fits p ≡ true → nat_le p.width 64 ≡ true
unfolding scalar_fits
scalar_width p l e h = (both_true (is_input p.direction) (nat_le p.width 64) (either_true (is_some (scalar_of p.name)) _ (ap (λ (o : Option Name). is_some o) e) h)).1

rdata_width : (ports : List Declaration) (before : List PortDecl) (p : PortDecl) (l : Name) → rdata_of p.name ≡ Some l → rdata_fits ports before p ≡ true → nat_le p.width 64 ≡ true
unfolding rdata_fits
rdata_width ports before p l e h =
    let s = subst (λ (o : Option Name). option_map_or (λ x. is_input p.direction && nat_le p.width 64 && has_all_five ports x && agrees before (m_wdata x) p.width) o true ≡ true) e h in
    (both_true (is_input p.direction) (nat_le p.width 64) (both_true _ (has_all_five ports l) (both_true _ (agrees before (m_wdata l) p.width) s).0).0).1

abbrev FewBits : Port → Type 0
FewBits port = port.bits ≤ 64

module _ (ms : List ModuleTree) (place : ℕ) (m : ModuleTree) (design : IsDesign ms place) (at : slice_get ms place ≡ Some m) where
  tree : IsTopTree ms m
  tree = top_tree ms place design m at

  abbrev ports : List Declaration
  ports = map port_declared m.ports

  fits_of : (p : PortDecl) → Has m.ports p → (b : List PortDecl) × PortFits ports b p
  fits_of p h = fits ms design.sound.names design.outside m tree.has tree.is_top p h

  scalar_few : (p : PortDecl) (l : Name) → Has m.ports p → scalar_of p.name ≡ Some l → p.width ≤ 64
  scalar_few p l h e = few p.width (scalar_width p l e (fits_of p h).1.scalar)

  memory_few : (p : PortDecl) (l : Name) → Has m.ports p → ack_of p.name ≡ Some l → bits_of (declared m) (m_rdata l) ≤ 64
  memory_few p l h e =
      let f = fits_of p h in
      let five = (ack_input ports f.0 p f.1 l e).1 in
      let r = named_port ms design.sound.names design.outside m tree.has tree.is_top (m_rdata l) (five_rdata ms design.outside m tree.has l five) in
      let g = fits_of r.0 r.1 in
      let label : rdata_of r.0.name ≡ Some l = ap rdata_of r.2 ∙ rdata_of_label l (ack_label p.name l e).1 in
      let narrow = few r.0.width (rdata_width ports g.0 r.0 l label g.1.rdata) in
      let bits : bits_of (declared m) (m_rdata l) ≡ r.0.width =
      subst (λ (z : Name). bits_of (declared m) z ≡ r.0.width) r.2 (declared_bits m ms design.sound.names tree.has (port_declared r.0) (port_in m ms design.sound.names tree.has r.0 r.1)) in
      subst (λ (n : ℕ). n ≤ 64) (sym bits) narrow

  in_scalar : (l : Port) (p : PortDecl) → Has m.ports p → (o : Option Name) → scalar_of p.name ≡ o → Has (scalar_label p o) l → l.bits ≤ 64
  in_scalar l p h None e k = absurd k
  in_scalar l p h (Some x) e (inl same) = subst (λ (q : Port). q.bits ≤ 64) same (scalar_few p x h e)
  in_scalar l p h (Some x) e (inr k) = absurd k

  in_memory : (l : Port) (p : PortDecl) → Has m.ports p → (o : Option Name) → ack_of p.name ≡ o → Has (memory_label (declared m) o) l → l.bits ≤ 64
  in_memory l p h None e k = absurd k
  in_memory l p h (Some x) e (inl same) = subst (λ (q : Port). q.bits ≤ 64) same (memory_few p x h e)
  in_memory l p h (Some x) e (inr k) = absurd k

  some_scalar : (l : Port) → Has (shape_of m).scalars l → l.bits ≤ 64
  some_scalar l has = let w = of_flat (λ (p : PortDecl). scalar_label p (scalar_of p.name)) m.ports l has in in_scalar l w.0 w.1 (scalar_of w.0.name) refl w.2

  some_memory : (l : Port) → Has (shape_of m).memories l → l.bits ≤ 64
  some_memory l has = let w = of_flat (λ (p : PortDecl). memory_label (declared m) (ack_of p.name)) m.ports l has in in_memory l w.0 w.1 (ack_of w.0.name) refl w.2

  pub scalars_few : (xs : List Port) → xs ≡ (shape_of m).scalars → All FewBits xs
  scalars_few xs is k d lt = some_scalar (get_or xs k d) (subst (λ (l : List Port). Has l (get_or xs k d)) is (has_got xs k (get_or xs k d) (slice_get-get_or xs k d lt)))

  pub memories_few : (xs : List Port) → xs ≡ (shape_of m).memories → All FewBits xs
  memories_few xs is k d lt = some_memory (get_or xs k d) (subst (λ (l : List Port). Has l (get_or xs k d)) is (has_got xs k (get_or xs k d) (slice_get-get_or xs k d lt)))

pub map_if_ok : {A E : Type 0} (P Q : A → Type 0) (r : Result A E) → ((x : A) → P x → Q x) → IfOk r P → IfOk r Q
map_if_ok P Q (Ok x) f h = f x h
map_if_ok P Q (Err e) f h = tt

module _ (design : DesignTree) (shape : Shape) (is : IsShapeIn design shape) where
  -- data that fit the shape fit the top
  pub fits_top : (given : Data) → Fits (bits_of_ports shape.scalars.items) (bits_of_ports shape.memories.items) given.scalars.items (map (λ (v : Vec ℕ Global). v.items) given.memories.items) → length given.waits.items ≡ length shape.memories.items
      → (m : ModuleTree) → TopOf design m → FitsShape (record { scalars = given.scalars.items; memories = map (λ (v : Vec ℕ Global). v.items) given.memories.items; ready = map (λ (v : Vec Bool Global). v.items) given.waits.items }) (shape_of m)
  fits_top given h waits m at =
      let both : Some is.top ≡ Some m = sym is.is_top ∙ at in
      let same : is.top ≡ m = cc in
      let scalars : shape.scalars.items ≡ (shape_of m).scalars = is.scalars ∙ ap (λ (t : ModuleTree). (shape_of t).scalars) same in
      let memories : shape.memories.items ≡ (shape_of m).memories = is.memories ∙ ap (λ (t : ModuleTree). (shape_of t).memories) same in
      record {
        numbers = subst (λ (xs : List Port). Fits (widths xs) (widths (shape_of m).memories) given.scalars.items (map (λ (v : Vec ℕ Global). v.items) given.memories.items)) scalars
            (subst (λ (xs : List Port). Fits (widths shape.scalars.items) (widths xs) given.scalars.items (map (λ (v : Vec ℕ Global). v.items) given.memories.items)) memories h);
        as_many_ready = length-map given.waits.items (λ (v : Vec Bool Global). v.items) ∙ waits ∙ ap length memories;
      }

  pub gives_environment : (text : List ℕ) (given : Data) → IsDataOf text shape given → Fits (bits_of_ports shape.scalars.items) (bits_of_ports shape.memories.items) given.scalars.items (map (λ (v : Vec ℕ Global). v.items) given.memories.items) → length given.waits.items ≡ length shape.memories.items
      → GivesEnvironment design text (record { scalars = given.scalars.items; memories = map (λ (v : Vec ℕ Global). v.items) given.memories.items; ready = map (λ (v : Vec Bool Global). v.items) given.waits.items })
  gives_environment text given d h waits = record {
    shape = shape;
    is_shape = is;
    file = d.file;
    is_json = d.is_json;
    faultless = d.faultless;
    scalars = d.scalars;
    memories = d.memories;
    ready = d.waits;
    fits = fits_top given h waits;
  }
