-- Runs beside memories that answer in given cycles, show the requested cell in given cycles, and show given numbers in the others.
use Rattle.std.specs.Prelude.{◌≡◌, ◌^◌, ◌<◌, ◌==◌, ◌&&◌, if◌then◌else◌}
use Rattle.std.specs.Prelude.{ℕ, suc, Bool, true, false, List, [], Option, Some, None, unwrap_or, slice_get, slice_index, slice_index_or}
use Rattle.tapa_base.specs.declared.shape.Port.{Port}
use Rattle.vlog_tree.specs.Form.{ModuleTree}
use Rattle.vlog_tree.specs.Labels.{rst, scalar, m_ack, m_rdata, m_addr, m_we}
use Rattle.vlog_tree.specs.Table.{Name}
use Rattle.vlog_tree.specs.Cycle.{Cycle, Path, Runs}
use Rattle.vlog_tree.specs.Environment.{Environment, FitsShape, shape_of, cells_at}
use Rattle.vlog_tree.specs.Refused.{IsDesign}
use Rattle.vlog_run_laws.specs.Beside.{RunsBeside}
use Rattle.vlog_run_laws.specs.runs.OneRun.{FitsPowerUp, BeginsWith, IsOnly}

-- The inputs of the top with memories that answer, and show the requested cell, in these cycles, by number and cycle. Reset is raised in cycle 0 only.
-- Scalars and first cells are those of an environment, whose own lists of answers are not used. A memory's data is the requested cell, or 0 past the end, in a
-- cycle in which the memory shows it, and the number given for it in any other cycle.
pub record StandsAmong (top : ModuleTree) (env : Environment) (answers shows : ℕ → ℕ → Bool) (others : ℕ → ℕ → ℕ) (run : ℕ → Cycle) : Type 0 where
  pub reset : (run 0).net rst ≡ 1
  pub runs : (n : ℕ) → (run (suc n)).net rst ≡ 0
  pub scalars : (n i : ℕ) (l : Port) → slice_get (shape_of top).scalars i ≡ Some l → (run n).net (scalar l.name) ≡ slice_index env.scalars i
  pub ack : (n i : ℕ) (l : Port) → slice_get (shape_of top).memories i ≡ Some l → (run n).net (m_ack l.name) ≡ (if answers i n then 1 else 0)
  pub rdata : (n i : ℕ) (l : Port) → slice_get (shape_of top).memories i ≡ Some l
      → (run n).net (m_rdata l.name)
      ≡ (if shows i n then unwrap_or (slice_get (cells_at run l.name (slice_index_or env.memories i []) n) ((run n).net (m_addr l.name))) 0 else others i n)

-- a run of a design beside them from these contents
pub record IsRunAmong (ms : List ModuleTree) (top : ModuleTree) (env : Environment) (answers shows : ℕ → ℕ → Bool) (others : ℕ → ℕ → ℕ)
    (contents : Path → Cycle) (nets : ℕ → Path → Cycle) : Type 0 where
  pub runs : Runs ms top nets
  pub stands : StandsAmong top env answers shows others (λ n. nets n [])
  pub begins : BeginsWith ms top contents nets

-- from each power-up there is one
abbrev pub OneRunAmong : Type 0
OneRunAmong =
    (ms : List ModuleTree) (place : ℕ) (m : ModuleTree) (env : Environment) (answers shows : ℕ → ℕ → Bool) (others : ℕ → ℕ → ℕ) (contents : Path → Cycle)
    → IsDesign ms place → slice_get ms place ≡ Some m → FitsPowerUp ms m contents → IsOnly ms m (IsRunAmong ms m env answers shows others contents)

-- It is one beside memories that show cells, where none answers in reset and the other numbers are of their width. Each memory shows the cell in the
-- cycles in which it answers and nothing is stored.
abbrev pub AmongIsBeside : Type 0
AmongIsBeside =
    (ms : List ModuleTree) (place : ℕ) (m : ModuleTree) (env : Environment) (answers shows : ℕ → ℕ → Bool) (others : ℕ → ℕ → ℕ)
    (contents : Path → Cycle) (nets : ℕ → Path → Cycle)
    → IsDesign ms place → slice_get ms place ≡ Some m → FitsShape env (shape_of m) → ((i : ℕ) → answers i 0 ≡ false)
    → ((i n : ℕ) (l : Port) → slice_get (shape_of m).memories i ≡ Some l → answers i n ≡ true → (nets n []).net (m_we l.name) ≡ 0 → shows i n ≡ true)
    → ((i n : ℕ) (l : Port) → slice_get (shape_of m).memories i ≡ Some l → others i n < 2 ^ l.bits)
    → IsRunAmong ms m env answers shows others contents nets → RunsBeside ms m env answers nets

abbrev pub port_name : Option Port → Name
port_name None = []
port_name (Some l) = l.name

-- whether memory i of a top answers in cycle n of a run, and nothing is stored
abbrev pub answers_load : ModuleTree → (ℕ → ℕ → Bool) → (ℕ → Cycle) → ℕ → ℕ → Bool
answers_load top answers run i n = answers i n && ((run n).net (m_we (port_name (slice_get (shape_of top).memories i))) == 0)

-- what memory i of a top shows in cycle n of a run
abbrev pub data_of : ModuleTree → (ℕ → Cycle) → ℕ → ℕ → ℕ
data_of top run i n = (run n).net (m_rdata (port_name (slice_get (shape_of top).memories i)))

-- and each run beside such memories is one of these, by what they show in each cycle and what registers and cells begin with
abbrev pub BesideIsAmong : Type 0
BesideIsAmong =
    (ms : List ModuleTree) (m : ModuleTree) (env : Environment) (answers : ℕ → ℕ → Bool) (nets : ℕ → Path → Cycle)
    → RunsBeside ms m env answers nets → IsRunAmong ms m env answers (answers_load m answers (λ n. nets n [])) (data_of m (λ n. nets n [])) (nets 0) nets
