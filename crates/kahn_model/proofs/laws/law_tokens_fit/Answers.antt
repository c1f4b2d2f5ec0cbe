use Rattle.kahn_model.specs.Fits.{stream_kind, memory_kind}
use Rattle.kahn_model.specs.Start.{network_of}
use Rattle.kahn_model.proofs.FitsNetwork.{stream_fits, made_fits, written_fits, network_keeps}
use Rattle.kahn_model.proofs.laws.law_tokens_fit.Goals as goal

pub returns : goal.returns
returns c = record {
  behaviors = λ program w scalars memories f. (network_keeps program w scalars memories f).each;
  rounds = λ program w scalars memories f. stream_fits (stream_kind program) (memory_kind program) (network_of program scalars memories) (network_keeps program w scalars memories f);
  written = λ program w scalars memories f. written_fits (stream_kind program) (memory_kind program) (network_of program scalars memories) (network_keeps program w scalars memories f);
  made = λ program w scalars memories f. made_fits (stream_kind program) (memory_kind program) (network_of program scalars memories) (network_keeps program w scalars memories f);
}
