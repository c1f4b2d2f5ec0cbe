-- From why a source has no program to how it is refused.
use Rattle.std.proofs.Common.{ℕ, List, refl}
use Rattle.command_answers.specs.Meaning.{end_at}
use Rattle.command_answers.specs.Steps.{Fails}
use Rattle.command_source.specs.Codes.{source_refusal}
use Rattle.command_source.specs.Means.{IsSourceFault}
use Rattle.command_source.specs.Refused.{IsSourceCause}
use Rattle.command_source.specs.declared.program.SourceFault.{SourceFault}
use Rattle.command_source.specs.declared.program.SourceFault.TheVariants.{At, OutOfMemory}

pub refused_source : (text top : List ℕ) (fault : SourceFault) → IsSourceCause text top fault → Fails (IsSourceFault top text) (end_at (source_refusal fault))
refused_source text top (At code place) h = (place, code, h, refl)
refused_source text top OutOfMemory h = tt
