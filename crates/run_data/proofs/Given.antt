-- The values of a file, where its groups and the inputs of the shape are known.
use Rattle.std.proofs.Common.{◌≡◌, List, map, Option, option_and_then, unwrap_or}
use Rattle.serde_json.specs.Data.{Data as Json}
use Rattle.serde_json.specs.Find.{get_member}
use Rattle.tapa_base.specs.declared.shape.Port.{Port}
use Rattle.tapa_base.specs.declared.shape.Shape.{Shape}
use Rattle.run_data.specs.Data.{bits_of, bits_or_zero, is_ready, items_at, members_at, group_in, scalars_of, memories_of, waits_of}
use Rattle.run_data.specs.declared.group.Group.TheVariants.{Scalars, Memories, Waits}

pub scalars_by : (shape : Shape) (file : Json) (found : Option Json) (ports : List Port) → found ≡ group_in Scalars file → ports ≡ shape.scalars.items
    → map (λ port. unwrap_or (option_and_then (bits_of port.bits) (get_member port.name (members_at found))) 0) ports ≡ scalars_of shape file
unfolding scalars_of
scalars_by shape file found ports is all = rw (is, all)

pub memories_by : (shape : Shape) (file : Json) (found : Option Json) (ports : List Port) → found ≡ group_in Memories file → ports ≡ shape.memories.items
    → map (λ port. map (bits_or_zero port.bits) (items_at (get_member port.name (members_at found)))) ports ≡ memories_of shape file
unfolding memories_of
memories_by shape file found ports is all = rw (is, all)

pub waits_by : (shape : Shape) (file : Json) (found : Option Json) (ports : List Port) → found ≡ group_in Waits file → ports ≡ shape.memories.items
    → map (λ port. map is_ready (items_at (get_member port.name (members_at found)))) ports ≡ waits_of shape file
unfolding waits_of
waits_by shape file found ports is all = rw (is, all)
