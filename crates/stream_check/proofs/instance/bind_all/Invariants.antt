use Rattle.std.proofs.Common.{◌≡◌, drop}
use Rattle.tapa_syntax.specs.Flat.{flat_instance}
use Rattle.stream_check.specs.Parts as parts
use Rattle.stream_check.proofs.instance.bind_all.Given as goal

abbrev pub invariant-loop-binding : goal.invariant-loop-binding
invariant-loop-binding l = parts.bind_all (flat_instance l.outer) l.first (flat_instance l.initial.made) l.bindings ≡ parts.bind_all (flat_instance l.outer) l.first (flat_instance l.made) (drop l.binding-index l.bindings)
