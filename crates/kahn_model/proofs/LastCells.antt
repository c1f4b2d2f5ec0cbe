-- Where every instance that is waited for has ended, the memories that they own have the same cells.
use Rattle.std.proofs.Common.{◌≡◌, ℕ, ◌<◌, List, [], length, refl, sym, ap, subst, arith}
use Rattle.std.specs.Prelude.{slice_get, slice_index_or}
use Rattle.std.proofs.lemmas.Option.{slice_get_within}
use Rattle.tapa_syntax.specs.declared.program.Program.{Program}
use Rattle.kahn_model.specs.Counts.{ticks_made}
use Rattle.kahn_model.specs.Start.{network_of}
use Rattle.kahn_model.specs.Cells.{after_stores, memory_at, owner_of}
use Rattle.kahn_model.specs.LastCells.{EndsLeaveAlike}
use Rattle.kahn_model.proofs.Ended.{ended_same}
use Rattle.kahn_model.proofs.WellFormed.{program_network}

size_is : (program : Program) (scalars : List ℕ) (memories : List (List ℕ)) → (network_of program scalars memories).size ≡ length program.instances.items
unfolding network_of
size_is program scalars memories = refl

pub ends_leave_alike : EndsLeaveAlike
ends_leave_alike program w scalars memories k l hk hl m c at joined =
    let net = network_of program scalars memories in
    let ok = program_network program w scalars memories in
    let own = w.memories m c at in
    let low = slice_get_within program.instances.items c.owner own.instance own.is in
    let z = size_is program scalars memories in
    let inside : c.owner < net.size = omega (arith, low, z) in
    let made = ended_same net ok k l c.owner (hk c.owner inside joined) (hl c.owner inside joined) in
    let owner : c.owner ≡ owner_of (slice_get program.memories.items m) = sym (ap owner_of at) in
    subst (λ j. after_stores (memory_at (slice_get program.instances.items j)) m (slice_index_or memories m []) (ticks_made net k j)
    ≡ after_stores (memory_at (slice_get program.instances.items j)) m (slice_index_or memories m []) (ticks_made net l j)) owner
    (ap (after_stores (memory_at (slice_get program.instances.items c.owner)) m (slice_index_or memories m [])) made)
