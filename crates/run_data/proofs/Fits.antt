-- The data of a file fit the shape.
use Rattle.std.proofs.Common.{◌≡◌, ℕ, zero, suc, ◌^◌, ◌<◌, List, [], ◌∷◌, map, length, get_or, Option, Some, None, option_and_then, unwrap_or, slice_get, All, refl, sym, ap, subst, ◌∙◌, arith}
use Rattle.std.proofs.lemmas.Nat.{pow_pos}
use Rattle.std.proofs.lemmas.Option.{option_and_then_some}
use Rattle.serde_json.specs.Data.{Data as Json}
use Rattle.serde_json.specs.Find.{as_number, as_integer}
use Rattle.tapa_base.specs.declared.shape.Port.{Port}
use Rattle.tapa_base.specs.declared.shape.Shape.{Shape}
use Rattle.tapa_base.specs.Fits.{Fits}
use Rattle.run_data.specs.Answer.{bits_of_ports}
use Rattle.run_data.specs.Data.{bits_of_whole, bits_of, bits_or_zero, items_at, value_in, scalars_of, memories_of, waits_of}
use Rattle.run_data.specs.declared.data.Data.{Data}
use Rattle.run_data.specs.declared.group.Group.TheVariants.{Scalars, Memories}
use Rattle.run_data.proofs.Numbers.{whole_below}
use Rattle.tapa_base.proofs.Got.{length_map}

below_or_zero : (bits : ℕ) (found : Option ℕ) → ((n : ℕ) → found ≡ Some n → n < 2 ^ bits) → unwrap_or found 0 < 2 ^ bits
below_or_zero bits None h = pow_pos bits
below_or_zero bits (Some n) h = h n refl

bits_below : (bits : ℕ) (json : Json) (n : ℕ) → bits_of bits json ≡ Some n → n < 2 ^ bits
bits_below bits json n e = option_and_then_some (bits_of_whole bits) (option_and_then as_integer (as_number json)) n e (λ z is found. whole_below bits z n found)

scalar_below : (port : Port) (found : Option Json) → unwrap_or (option_and_then (bits_of port.bits) found) 0 < 2 ^ port.bits
scalar_below port found = below_or_zero port.bits _ (λ n e. option_and_then_some (bits_of port.bits) found n e (λ json is bits. bits_below port.bits json n bits))

cells_below : (bits : ℕ) (items : List Json) → All (λ cell. cell < 2 ^ bits) (map (bits_or_zero bits) items)
cells_below bits [] k d h = absurd (omega arith)
cells_below bits (json ∷ items) zero d h = below_or_zero bits _ (bits_below bits json)
cells_below bits (json ∷ items) (suc k) d h = cells_below bits items k d (omega arith)

-- what holds of f of each element holds at each place of the list
at_place : {A : Type 0} (f : A → ℕ) (xs : List A) (i : ℕ) (x : A) → slice_get xs i ≡ Some x → get_or (map f xs) i 0 ≡ f x
at_place f [] i x e = cc
at_place f (y ∷ xs) zero x e = let is : y ≡ x = cc in ap f is
at_place f (y ∷ xs) (suc i) x e = at_place f xs i x e

list_at_place : {A : Type 0} (f : A → List ℕ) (xs : List A) (i : ℕ) (x : A) → slice_get xs i ≡ Some x → get_or (map f xs) i [] ≡ f x
list_at_place f [] i x e = cc
list_at_place f (y ∷ xs) zero x e = let is : y ≡ x = cc in ap f is
list_at_place f (y ∷ xs) (suc i) x e = list_at_place f xs i x e

-- a width stands where its port does
port_at : (ports : List Port) (i bits : ℕ) → slice_get (bits_of_ports ports) i ≡ Some bits → (port : Port) × (slice_get ports i ≡ Some port) × (port.bits ≡ bits)
port_at [] i bits e = cc
port_at (port ∷ ports) zero bits e = (port, refl, cc)
port_at (port ∷ ports) (suc i) bits e = port_at ports i bits e

pub fits : (shape : Shape) (file : Json) (given : Data) → given.scalars.items ≡ scalars_of shape file → map (λ cells. cells.items) given.memories.items ≡ memories_of shape file → Fits (bits_of_ports shape.scalars.items) (bits_of_ports shape.memories.items) given.scalars.items (map (λ cells. cells.items) given.memories.items)
unfolding scalars_of memories_of
fits shape file given scalars memories = record {
  as_many_scalars = ap length scalars ∙ length_map _ shape.scalars.items ∙ sym (length_map (λ (port : Port). port.bits) shape.scalars.items);
  as_many_memories = ap length memories ∙ length_map _ shape.memories.items ∙ sym (length_map (λ (port : Port). port.bits) shape.memories.items);
  scalars_fit = λ i bits is.
      let (port, at, same) = port_at shape.scalars.items i bits is in
      subst (λ n. get_or given.scalars.items i 0 < 2 ^ n) same
      (rw (scalars, at_place (λ p. unwrap_or (option_and_then (bits_of p.bits) (value_in Scalars file p.name)) 0) shape.scalars.items i port at) (scalar_below port (value_in Scalars file port.name)));
  cells_fit = λ m bits is.
      let (port, at, same) = port_at shape.memories.items m bits is in
      subst (λ n. All (λ cell. cell < 2 ^ n) (get_or (map (λ cells. cells.items) given.memories.items) m [])) same
      (rw (memories, list_at_place (λ p. map (bits_or_zero p.bits) (items_at (value_in Memories file p.name))) shape.memories.items m port at) (cells_below port.bits (items_at (value_in Memories file port.name))));
}

pub as_many_waits : (shape : Shape) (file : Json) (given : Data) → map (λ ready. ready.items) given.waits.items ≡ waits_of shape file → length given.waits.items ≡ length shape.memories.items
unfolding waits_of
as_many_waits shape file given waits = sym (length_map (λ ready. ready.items) given.waits.items) ∙ ap length waits ∙ length_map _ shape.memories.items
