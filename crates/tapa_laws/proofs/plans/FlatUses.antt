-- What instances are estimated to use depends on the plain data of their program alone.
use Rattle.std.proofs.Common.{◌≡◌, ℕ, ◌+◌, ◌*◌, List, map, option_map, unwrap_or, sym, ap}
use Rattle.std.specs.Prelude.{slice_get, slice_index_or}
use Rattle.std.specs.List.{sum_by}
use Rattle.std.proofs.lemmas.Simd.{map-map}
use Rattle.tapa_base.specs.declared.kind.Kind.TheVariants.{U64}
use Rattle.tapa_base.specs.Kinds.{bits_of}
use Rattle.tapa_syntax.specs.declared.program.Array.{Array}
use Rattle.tapa_syntax.specs.declared.program.End.{End}
use Rattle.tapa_syntax.specs.declared.program.Instance.{Instance}
use Rattle.tapa_syntax.specs.declared.program.Leaf.{Leaf}
use Rattle.tapa_syntax.specs.Flat.{FlatInstance, FlatLeaf, flat_instance, flat_leaf, in_row}
use Rattle.tapa_syntax.specs.LeafKinds.{Kinds}
use Rattle.tapa_syntax.specs.TickPlaces.{places_of}
use Rattle.task_graph.specs.declared.Use.{Use}
use Rattle.task_graph.specs.Estimate.{Rates, lut_rates, dsp_rates, temporary_rates, in_statements, array_luts, array_brams, at_most}
use Rattle.task_graph.specs.Uses.{nothing, use_of}

abbrev flat_kinds : FlatLeaf → Kinds
flat_kinds leaf = record {
  vars = λ x. slice_index_or leaf.vars x U64;
  arrays = λ a. unwrap_or (option_map (λ (r : Array). r.kind) (slice_get leaf.arrays a)) U64;
  memories = λ m. slice_index_or leaf.memories m U64;
  streams = λ p. unwrap_or (option_map (λ (e : End). e.kind) (slice_get leaf.streams p)) U64;
}

abbrev flat_code : Rates → FlatLeaf → ℕ
flat_code R leaf = in_statements R (flat_kinds leaf) (in_row leaf.code)

-- the estimate by a leaf's plain data
abbrev pub flat_estimate : FlatLeaf → Use
flat_estimate leaf = record {
  lut = at_most (2 * places_of leaf.code + flat_code lut_rates leaf + sum_by array_luts leaf.arrays);
  ff = at_most (13 + sum_by bits_of leaf.vars + flat_code temporary_rates leaf);
  bram = at_most (sum_by array_brams leaf.arrays);
  dsp = at_most (flat_code dsp_rates leaf);
  uram = 0;
}

abbrev pub flat_use : List FlatLeaf → FlatInstance → Use
flat_use leaves instance = slice_index_or (map flat_estimate leaves) instance.body nothing

pub use_by_data : (leaves : List Leaf) (instance : Instance) → use_of leaves instance ≡ flat_use (map flat_leaf leaves) (flat_instance instance)
use_by_data leaves instance = ap (λ (uses : List Use). slice_index_or uses instance.body nothing) (sym (map-map flat_estimate flat_leaf leaves))
