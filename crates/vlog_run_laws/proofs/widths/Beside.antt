-- Each run in an environment is one beside memories that show a cell where they answer and nothing is stored, and so is one beside memories that show
-- given numbers else.
use Rattle.std.proofs.Common.{◌≡◌, ℕ, zero, suc, ◌^◌, ◌<◌, Bool, true, false, cond, List, [], get_or, Some, refl, ap, ◌∙◌}
use Rattle.std.specs.Prelude.{◌==◌, if◌then◌else◌, slice_get, unwrap_or}
use Rattle.tapa_base.specs.declared.shape.Port.{Port}
use Rattle.vlog_run_laws.specs.Beside.{RunsBeside, answers_in}
use Rattle.vlog_run_laws.specs.runs.Among.{IsRunAmong}
use Rattle.vlog_tree.specs.Cycle.{Cycle, Path}
use Rattle.vlog_tree.specs.Environment.{Environment, FitsShape, RunsIn, shape_of, ready_at, cells_at}
use Rattle.vlog_tree.specs.Form.{ModuleTree}
use Rattle.vlog_tree.specs.Refused.{IsDesign}
use Rattle.vlog_tree.specs.Labels.{m_addr, m_we}
use Rattle.vlog_run_laws.proofs.runs.Surround.{cell_at}
use Rattle.vlog_run_laws.proofs.widths.Fitting.{run_fits, run_fits_among}
use Rattle.vlog_run_laws.proofs.widths.Given.{GivesTop, stands_give, among_gives}

abbrev bit : Bool → ℕ
bit b = if b then 1 else 0

-- a bit is told by whether it is 1
bit_back : (ready : List Bool) (n : ℕ) → ready_at ready n ≡ bit (ready_at ready n == 1)
bit_back ready zero = refl
bit_back ready (suc n) = of_bit (unwrap_or (slice_get ready n) true) where
  of_bit : (b : Bool) → bit b ≡ bit (bit b == 1)
  of_bit true = refl
  of_bit false = refl

pub runs_beside : (ms : List ModuleTree) (place : ℕ) (root : ModuleTree) → IsDesign ms place → slice_get ms place ≡ Some root → (env : Environment) → FitsShape env (shape_of root) → (nets : ℕ → Path → Cycle) → RunsIn ms root env nets → RunsBeside ms root env (answers_in env) nets
runs_beside ms place root d at env env_fits nets r =
    let fits = run_fits ms place root d at env env_fits nets r in
    let given : GivesTop root env (λ n. nets n []) = stands_give root env (λ n. nets n []) r.stands in
    record {
      runs = r.runs;
      stands = record {
        reset = r.stands.reset;
        runs = r.stands.runs;
        scalars = r.stands.scalars;
        memories = λ i l got. record {
          quiet = refl;
          ack = λ n. (r.stands.memories i l got).ack n ∙ bit_back (get_or env.ready i []) n;
          width = λ n. given.rdata n i l got (fits.outside n i l got);
          rdata = λ n ok still. (r.stands.memories i l got).rdata n;
        };
      };
    }

module _ (ms : List ModuleTree) (place : ℕ) (root : ModuleTree) (d : IsDesign ms place) (at : slice_get ms place ≡ Some root)
    (env : Environment) (env_fits : FitsShape env (shape_of root)) (answers shows : ℕ → ℕ → Bool) (others : ℕ → ℕ → ℕ) (quiet : (i : ℕ) → answers i 0 ≡ false)
    (low : (i n : ℕ) (l : Port) → slice_get (shape_of root).memories i ≡ Some l → others i n < 2 ^ l.bits) where
  pub among_is_beside : (contents : Path → Cycle) (nets : ℕ → Path → Cycle)
      → ((i n : ℕ) (l : Port) → slice_get (shape_of root).memories i ≡ Some l → answers i n ≡ true → (nets n []).net (m_we l.name) ≡ 0 → shows i n ≡ true)
      → IsRunAmong ms root env answers shows others contents nets → RunsBeside ms root env answers nets
  among_is_beside contents nets shown r =
      let run : ℕ → Cycle = λ n. nets n [] in
      let fits = run_fits_among ms place root d at env env_fits answers shows others low nets r.runs r.stands in
      let given : GivesTop root env run = among_gives root env answers shows others low run r.stands in
      record {
        runs = r.runs;
        stands = record {
          reset = r.stands.reset;
          runs = r.stands.runs;
          scalars = r.stands.scalars;
          memories = λ i l got. record {
            quiet = quiet i;
            ack = λ n. r.stands.ack n i l got;
            width = λ n. given.rdata n i l got (fits.outside n i l got);
            rdata = λ n ok still.
                r.stands.rdata n i l got
                ∙ ap (λ b. cond b (cell_at (cells_at run l.name (get_or env.memories i []) n) ((run n).net (m_addr l.name))) (others i n)) (shown i n l got ok still);
          };
        };
      }
