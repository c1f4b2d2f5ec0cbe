-- Which rates a sum over a text is made with.
use Rattle.std.specs.Prelude.{◌≡◌, ℕ}
use Rattle.task_graph.specs.declared.code_sums.Counted.{Counted}
use Rattle.task_graph.specs.declared.code_sums.Counted.TheVariants.{Luts, Dsps, TemporaryBits}
use Rattle.task_graph.specs.Estimate.{Rates, lut_rates, dsp_rates, temporary_rates}

unfoldable pub rates_of : Counted → Rates
rates_of Luts = lut_rates
rates_of Dsps = dsp_rates
rates_of TemporaryBits = temporary_rates
