-- A design has one run from each power-up beside memories that answer in given cycles, show the requested cell in given cycles, and show given
-- numbers in the others. Each run beside memories that show cells is such a one.
use Rattle.std.proofs.Common.{eqb-true, ◌≡◌, ℕ, Bool, true, false, cond, ◌&&◌, List, [], Some, get_or, refl, sym, ap, ◌∙◌}
use Rattle.std.specs.Prelude.{◌==◌, slice_get, if◌then◌else◌}
use Rattle.tapa_base.specs.declared.shape.Port.{Port}
use Rattle.vlog_tree.specs.declared.tree.Item.{Item}
use Rattle.vlog_tree.specs.declared.tree.Item.TheVariants.{Wire, Reg, Memory, Assign, Always, Instance}
use Rattle.vlog_tree.specs.Form.{ModuleTree}
use Rattle.vlog_tree.specs.Labels.{m_rdata, m_addr, m_we}
use Rattle.vlog_tree.specs.Cycle.{Cycle, Path}
use Rattle.vlog_tree.specs.Environment.{Environment, shape_of, cells_at}
use Rattle.vlog_tree.specs.Refused.{IsDesign}
use Rattle.vlog_run_laws.specs.Beside.{ShowsCells, RunsBeside}
use Rattle.vlog_run_laws.specs.runs.OneRun.{SameHeld, FitsPowerUp, IsOnly}
use Rattle.vlog_run_laws.specs.runs.Among.{IsRunAmong, port_name, answers_load, data_of}
use Rattle.vlog_run_laws.proofs.runs.Surround.{cell_at, IsRunAround, only_of, one_run_around}
use Rattle.tapa_base.proofs.Got.{all_from}

module _ (ms : List ModuleTree) (m : ModuleTree) (env : Environment) (contents : Path → Cycle) (answers shows : ℕ → ℕ → Bool) (others : ℕ → ℕ → ℕ) where
  -- a memory answers in these cycles, shows the cell in these, and the given number in the others
  abbrev bit_acks : ℕ → ℕ → ℕ
  bit_acks i n = if answers i n then 1 else 0

  abbrev chosen : ℕ → ℕ → ℕ → ℕ
  chosen i n cell = if shows i n then cell else others i n

  abbrev AroundBits : (ℕ → Path → Cycle) → Type 0
  AroundBits nets = IsRunAround ms m env bit_acks chosen contents nets

  among_there : (nets : ℕ → Path → Cycle) → AroundBits nets → IsRunAmong ms m env answers shows others contents nets
  among_there nets r = record {
    runs = r.runs;
    stands = record { reset = r.stands.reset; runs = r.stands.runs; scalars = r.stands.scalars; ack = r.stands.ack; rdata = r.stands.rdata };
    begins = r.begins;
  }

  among_back : (nets : ℕ → Path → Cycle) → IsRunAmong ms m env answers shows others contents nets → AroundBits nets
  among_back nets r = record {
    runs = r.runs;
    stands = record { reset = r.stands.reset; runs = r.stands.runs; scalars = r.stands.scalars; ack = r.stands.ack; rdata = r.stands.rdata };
    begins = r.begins;
  }

  pub one_run_among : (place : ℕ) → IsDesign ms place → slice_get ms place ≡ Some m → FitsPowerUp ms m contents
      → IsOnly ms m (IsRunAmong ms m env answers shows others contents)
  one_run_among place d at power_up =
      only_of ms m AroundBits (IsRunAmong ms m env answers shows others contents) among_there among_back (one_run_around ms place m d at env bit_acks chosen contents power_up)

-- what is held is what is held
held_itself : (c : Cycle) (it : Item) → SameHeld c c it
held_itself c (Reg w x) = refl
held_itself c (Memory w x n) = λ a low. refl
held_itself c (Wire w x) = tt
held_itself c (Assign x e) = tt
held_itself c (Always b) = tt
held_itself c (Instance k i connections) = tt

module _ (m : ModuleTree) (env : Environment) (answers : ℕ → ℕ → Bool) (run : ℕ → Cycle) (i : ℕ) (l : Port)
    (got : slice_get (shape_of m).memories i ≡ Some l) (shows : ShowsCells run l (get_or env.memories i []) (answers i)) where
  abbrev cell : ℕ → ℕ
  cell n = cell_at (cells_at run l.name (get_or env.memories i []) n) ((run n).net (m_addr l.name))

  abbrev stores : ℕ → ℕ
  stores n = (run n).net (m_we (port_name (slice_get (shape_of m).memories i)))

  itself : (n : ℕ) → (run n).net (m_rdata l.name) ≡ data_of m run i n
  itself n = ap (λ o. (run n).net (m_rdata (port_name o))) (sym got)

  by_answer : (n : ℕ) (b c : Bool) → answers i n ≡ b → (stores n == 0) ≡ c → (run n).net (m_rdata l.name) ≡ cond (b && c) (cell n) (data_of m run i n)
  by_answer n true true e f = shows.rdata n e (ap (λ o. (run n).net (m_we (port_name o))) (sym got) ∙ eqb-true (stores n) 0 f)
  by_answer n true false e f = itself n
  by_answer n false c e f = itself n

pub beside_is_among : (ms : List ModuleTree) (m : ModuleTree) (env : Environment) (answers : ℕ → ℕ → Bool) (nets : ℕ → Path → Cycle)
    → RunsBeside ms m env answers nets → IsRunAmong ms m env answers (answers_load m answers (λ n. nets n [])) (data_of m (λ n. nets n [])) (nets 0) nets
beside_is_among ms m env answers nets r = record {
  runs = r.runs;
  stands = record {
    reset = r.stands.reset;
    runs = r.stands.runs;
    scalars = r.stands.scalars;
    ack = λ n i l got. (r.stands.memories i l got).ack n;
    rdata = λ n i l got.
        by_answer m env answers (λ n. nets n []) i l got (r.stands.memories i l got) n (answers i n) ((nets n []).net (m_we (port_name (slice_get (shape_of m).memories i))) == 0) refl refl;
  };
  begins = λ path k at. all_from (SameHeld (nets 0 path) (nets 0 path)) k.items (λ it h. held_itself (nets 0 path) it);
}
