-- Memories around a design that show a cell in the cycles in which they answer and nothing is stored, and any number of their width in the others.
use Rattle.std.specs.Prelude.{◌≡◌, ℕ, suc, ◌^◌, ◌<◌, Bool, true, false, List, [], Some, unwrap_or, slice_get, slice_index, slice_index_or, ◌==◌, if◌then◌else◌}
use Rattle.tapa_base.specs.declared.shape.Port.{Port}
use Rattle.vlog_tree.specs.Form.{ModuleTree}
use Rattle.vlog_tree.specs.Labels.{rst, scalar, m_ack, m_rdata, m_addr, m_we}
use Rattle.vlog_tree.specs.Cycle.{Cycle, Path, Runs}
use Rattle.vlog_tree.specs.Environment.{Environment, shape_of, ready_at, cells_at}

-- What such a memory does where it answers in these cycles: in none of reset, and in any others. Its data are of its width. In a
-- cycle in which it answers and nothing is stored (m_we is 0), they are the cell that is asked for, or 0 past the end.
pub record ShowsCells (run : ℕ → Cycle) (l : Port) (first : List ℕ) (answers : ℕ → Bool) : Type 0 where
  pub quiet : answers 0 ≡ false
  pub ack : (n : ℕ) → (run n).net (m_ack l.name) ≡ (if answers n then 1 else 0)
  pub width : (n : ℕ) → (run n).net (m_rdata l.name) < 2 ^ l.bits
  pub rdata : (n : ℕ) → answers n ≡ true → (run n).net (m_we l.name) ≡ 0
      → (run n).net (m_rdata l.name) ≡ unwrap_or (slice_get (cells_at run l.name first n) ((run n).net (m_addr l.name))) 0

-- the top's inputs beside such memories, by number and cycle of an answer: reset in cycle 0 alone, the scalars and first cells of an
-- environment, whose own lists of answers are not looked at
pub record StandsBeside (top : ModuleTree) (env : Environment) (answers : ℕ → ℕ → Bool) (run : ℕ → Cycle) : Type 0 where
  pub reset : (run 0).net rst ≡ 1
  pub runs : (n : ℕ) → (run (suc n)).net rst ≡ 0
  pub scalars : (n i : ℕ) (l : Port) → slice_get (shape_of top).scalars i ≡ Some l → (run n).net (scalar l.name) ≡ slice_index env.scalars i
  pub memories : (i : ℕ) (l : Port) → slice_get (shape_of top).memories i ≡ Some l → ShowsCells run l (slice_index_or env.memories i []) (answers i)

-- a run of a design beside such memories, from any power-up contents
pub record RunsBeside (ms : List ModuleTree) (top : ModuleTree) (env : Environment) (answers : ℕ → ℕ → Bool) (nets : ℕ → Path → Cycle) : Type 0 where
  pub runs : Runs ms top nets
  pub stands : StandsBeside top env answers (λ n. nets n [])

-- the cycles in which the memories of an environment answer, by their number
abbrev pub answers_in : Environment → ℕ → ℕ → Bool
answers_in env m n = ready_at (slice_index_or env.ready m []) n == 1
