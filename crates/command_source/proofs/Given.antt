-- Data give the programs of a source the same values.
use Rattle.std.proofs.Common.{◌≡◌, ℕ, List, [], length, map, Some, refl, sym, ap, subst, ◌∙◌}
use Rattle.std.specs.Prelude.{Vec}
use Rattle.std.specs.declared.alloc.Global.{Global}
use Rattle.serde_json.specs.Data.{Data as Json}
use Rattle.tapa_base.specs.declared.shape.Port.{Port}
use Rattle.tapa_base.specs.declared.shape.Shape.{Shape}
use Rattle.tapa_syntax.specs.declared.program.Memory.{Memory}
use Rattle.tapa_syntax.specs.declared.program.Program.{Program}
use Rattle.tapa_syntax.specs.declared.program.Scalar.{Scalar}
use Rattle.tapa_syntax.specs.Flat.{FlatProgram, flat_program}
use Rattle.run_data.specs.Data.{IsJson, Fault, faults, scalars_of, memories_of, waits_of, misshapen, misshapen_in, misfits, misfits_in, oversized}
use Rattle.run_data.specs.Seen.{first}
use Rattle.net_core.specs.Bounded.{Values}
use Rattle.command_source.specs.Inputs.{GivesValues, HasDataFault}
use Rattle.tapa_syntax.specs.Shapes.{port_of, IsShapeOf}
use Rattle.command_answers.specs.Refusal.{DataFault, NotJson, Faulty}

-- a vector with another list of as many elements
abbrev with_ports : (v : Vec Port Global) (l : List Port) → length l ≡ length v.items → Vec Port Global
with_ports v l h = record v { items = l; ok = (v.ok.0 ∙ sym h, v.ok.1) }

module _ (s t : Shape) (xs : s.scalars.items ≡ t.scalars.items) (ms : s.memories.items ≡ t.memories.items) where
  abbrev mixed : (l : List Port) → length l ≡ length s.scalars.items → (k : List Port) → length k ≡ length s.memories.items → Shape
  mixed l h k g = record { scalars = with_ports s.scalars l h; memories = with_ports s.memories k g }

  abbrev Begins : {A : Type 0} → (Shape → A) → Type 0
  Begins F = (h : length s.scalars.items ≡ length s.scalars.items) (g : length s.memories.items ≡ length s.memories.items) → F s ≡ F (mixed s.scalars.items h s.memories.items g)

  abbrev EndsAt : {A : Type 0} → (Shape → A) → Type 0
  EndsAt F = (h : length t.scalars.items ≡ length s.scalars.items) (g : length t.memories.items ≡ length s.memories.items) → F (mixed t.scalars.items h t.memories.items g) ≡ F t

  -- what depends on the lists of a shape alone is the same of shapes with the same lists
  moved : {A : Type 0} (F : Shape → A) → Begins F → EndsAt F → F s ≡ F t
  moved F begins ends =
      let h : length t.scalars.items ≡ length s.scalars.items = ap length (sym xs) in
      let g : length t.memories.items ≡ length s.memories.items = ap length (sym ms) in
      let first : (h : length t.scalars.items ≡ length s.scalars.items) (g : length s.memories.items ≡ length s.memories.items) → F s ≡ F (mixed t.scalars.items h s.memories.items g) =
      subst (λ (l : List Port). (h : length l ≡ length s.scalars.items) (g : length s.memories.items ≡ length s.memories.items) → F s ≡ F (mixed l h s.memories.items g)) xs begins in
      let second : (g : length t.memories.items ≡ length s.memories.items) → F s ≡ F (mixed t.scalars.items h t.memories.items g) =
      subst (λ (k : List Port). (g : length k ≡ length s.memories.items) → F s ≡ F (mixed t.scalars.items h k g)) ms (first h) in
      second g ∙ ends h g

  module _ (file : Json) where
    begin_faults : Begins (λ shape. faults shape file)
    unfolding faults misshapen misshapen_in misfits misfits_in oversized
    begin_faults h g = refl

    end_faults : EndsAt (λ shape. faults shape file)
    unfolding faults misshapen misshapen_in misfits misfits_in oversized
    end_faults h g = refl

    begin_scalars : Begins (λ shape. scalars_of shape file)
    unfolding scalars_of
    begin_scalars h g = refl

    end_scalars : EndsAt (λ shape. scalars_of shape file)
    unfolding scalars_of
    end_scalars h g = refl

    begin_memories : Begins (λ shape. memories_of shape file)
    unfolding memories_of
    begin_memories h g = refl

    end_memories : EndsAt (λ shape. memories_of shape file)
    unfolding memories_of
    end_memories h g = refl

    begin_waits : Begins (λ shape. waits_of shape file)
    unfolding waits_of
    begin_waits h g = refl

    end_waits : EndsAt (λ shape. waits_of shape file)
    unfolding waits_of
    end_waits h g = refl

    pub same_faults : faults s file ≡ faults t file
    same_faults = moved (λ shape. faults shape file) begin_faults end_faults

    pub same_scalars : scalars_of s file ≡ scalars_of t file
    same_scalars = moved (λ shape. scalars_of shape file) begin_scalars end_scalars

    pub same_memories : memories_of s file ≡ memories_of t file
    same_memories = moved (λ shape. memories_of shape file) begin_memories end_memories

    pub same_waits : waits_of s file ≡ waits_of t file
    same_waits = moved (λ shape. waits_of shape file) begin_waits end_waits

pub one_json : (text : List ℕ) (a b : Json) → IsJson text a → IsJson text b → a ≡ b
one_json text a b h g = let both : Some a ≡ Some b = sym h.1 ∙ g.1 in cc

pub no_first : (l : List Fault) (f : Fault) → l ≡ [] → first l ≡ Some f → ⊥
no_first l f e h = let none : first {A = Fault} [] ≡ Some f = subst (λ (k : List Fault). first k ≡ Some f) e h in cc

module _ (p q : Program) (same : flat_program p ≡ flat_program q) where
  same_scalar_ports : (s t : Shape) → IsShapeOf p s → IsShapeOf q t → s.scalars.items ≡ t.scalars.items
  same_scalar_ports s t h g = h.scalars ∙ ap (λ (f : FlatProgram). map (λ (c : Scalar). port_of c.name c.kind) f.scalars) same ∙ sym g.scalars

  same_memory_ports : (s t : Shape) → IsShapeOf p s → IsShapeOf q t → s.memories.items ≡ t.memories.items
  same_memory_ports s t h g = h.memories ∙ ap (λ (f : FlatProgram). map (λ (c : Memory). port_of c.name c.kind) f.memories) same ∙ sym g.memories

  pub one_input : (text : List ℕ) (v w : Values) → GivesValues p text v → GivesValues q text w → v ≡ w
  one_input text v w h g =
      let xs = same_scalar_ports h.shape g.shape h.is_shape g.is_shape in
      let ms = same_memory_ports h.shape g.shape h.is_shape g.is_shape in
      let json = one_json text h.file g.file h.is_json g.is_json in
      let scalars : v.scalars ≡ w.scalars = h.scalars ∙ ap (scalars_of h.shape) json ∙ same_scalars h.shape g.shape xs ms g.file ∙ sym g.scalars in
      let memories : v.memories ≡ w.memories = h.memories ∙ ap (memories_of h.shape) json ∙ same_memories h.shape g.shape xs ms g.file ∙ sym g.memories in
      ap (λ (l : List ℕ). record { scalars = l; memories = v.memories }) scalars ∙ ap (λ (l : List (List ℕ)). record { scalars = w.scalars; memories = l }) memories

  -- data that give values have no fault
  pub not_misgiven : (text : List ℕ) (v : Values) (fault : DataFault) → GivesValues p text v → HasDataFault q text fault → ⊥
  not_misgiven text v NotJson h d = d h.file h.is_json
  not_misgiven text v (Faulty fault) h (shape, is, d) =
      let xs = same_scalar_ports h.shape shape h.is_shape is in
      let ms = same_memory_ports h.shape shape h.is_shape is in
      let none : faults shape d.file ≡ [] = sym (same_faults h.shape shape xs ms d.file) ∙ ap (faults h.shape) (one_json text d.file h.file d.is_json h.is_json) ∙ h.faultless in
      no_first (faults shape d.file) fault none d.first

  -- data have one first fault
  pub one_fault : (text : List ℕ) (fault other : DataFault) → HasDataFault p text fault → HasDataFault q text other → fault ≡ other
  one_fault text NotJson NotJson h k = refl
  one_fault text NotJson (Faulty g) h (shape, is, d) = absurd (h d.file d.is_json)
  one_fault text (Faulty f) NotJson (shape, is, d) k = absurd (k d.file d.is_json)
  one_fault text (Faulty f) (Faulty g) (s, is, d) (t, also, e) =
      let xs = same_scalar_ports s t is also in
      let ms = same_memory_ports s t is also in
      let faults_are : faults s d.file ≡ faults t e.file = ap (faults s) (one_json text d.file e.file d.is_json e.is_json) ∙ same_faults s t xs ms e.file in
      let both : Some f ≡ Some g = sym d.first ∙ ap first faults_are ∙ e.first in
      let one : f ≡ g = cc in
      ap Faulty one
