-- Bounds on amounts, kind by kind.
use Rattle.std.specs.Prelude.{ℕ, ◌*◌, ◌<◌, ◌≤◌}
use Rattle.task_graph.specs.declared.Use.{Use}

-- each kind is below a bound
pub record AreBelow (u : Use) (n : ℕ) : Type 0 where
  pub lut : u.lut < n
  pub ff : u.ff < n
  pub bram : u.bram < n
  pub dsp : u.dsp < n
  pub uram : u.uram < n

-- each kind is within a part of a capacity
pub record FitsIn (u capacity : Use) (percent : ℕ) : Type 0 where
  pub lut : u.lut * 100 ≤ capacity.lut * percent
  pub ff : u.ff * 100 ≤ capacity.ff * percent
  pub bram : u.bram * 100 ≤ capacity.bram * percent
  pub dsp : u.dsp * 100 ≤ capacity.dsp * percent
  pub uram : u.uram * 100 ≤ capacity.uram * percent

-- each kind is at most another's
pub record IsAtMost (a b : Use) : Type 0 where
  pub lut : a.lut ≤ b.lut
  pub ff : a.ff ≤ b.ff
  pub bram : a.bram ≤ b.bram
  pub dsp : a.dsp ≤ b.dsp
  pub uram : a.uram ≤ b.uram
