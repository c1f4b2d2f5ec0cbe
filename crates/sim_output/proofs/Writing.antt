-- What is written of a simulator's cycles is the dump of each run that it tells of.
use Rattle.std.proofs.Common.{◌≡◌, ℕ, suc, ◌+◌, ◌-◌, ◌^◌, ◌<◌, ◌≤◌, List, [], ◌∷◌, ◌++◌, Option, Some, None, length, get_or, refl, sym, ap, subst, ◌∙◌, append_assoc, add-one, arith}
use Rattle.std.specs.Prelude.{◌==◌, min}
use Rattle.std.proofs.Math.Nat.{min-le_left, min-le_right, le-min}
use Rattle.std.specs.Io.KnownBytes.{Appends}
use Rattle.tapa_base.specs.Gaps.{Bytes}
use Rattle.tapa_files.specs.Outside.{AppendsPart, Rose}
use Rattle.tapa_files.proofs.Known.{appends_none, appends_both, part_so_far, part_of_next}
use Rattle.vlog_tree.specs.Form.{ModuleTree}
use Rattle.vlog_tree.specs.Refused.{IsDesign}
use Rattle.vlog_tree.specs.Cycle.{Cycle, Path}
use Rattle.vlog_tree.specs.Environment.{RaisesDone}
use Rattle.vlog_design.specs.Designs.{DesignTree, TopOf}
use Rattle.cycle_sim.specs.Told.{IsToldOf}
use Rattle.cycle_sim.specs.Sims.{SimTree, InRuns, IsNext, IsLater, IsDoneAt, last_cycle}
use Rattle.vcd_text.specs.Dump.{head_text, cycle_line, cycle_text}
use Rattle.sim_output.specs.Dumped.{nets_of, widths_of, values_in, dump_of}
use Rattle.sim_output.specs.Turns.{told_at, Fit, turn_lines, IsKept}
use Rattle.sim_output.proofs.Dumping.{dump_next, dump_front, told_is, fit, first_turn, next_turn}
use Rattle.sim_output.proofs.Going.{from_later, later_step, IsGoing, goes_to, going_on, not_at_first}

-- the lines of a cycle were put behind a text, where values of the nets were kept
abbrev pub IsTurnPut : SimTree → List ℕ → List ℕ → Bytes → Bytes → Type 0
IsTurnPut s widths before old new =
    (m : ModuleTree) → TopOf s.design m → widths ≡ widths_of (nets_of m) → Fit m (told_at s m)
    → new ≡ old ++ (cycle_line s.told.cycle ++ turn_lines (s.told.cycle == 0) before (told_at s m) (nets_of m))

-- what was written, and a text that is still to be written, are the dump up to a cycle
abbrev pub IsWrittenTo : SimTree → ℕ → Option (List ℕ) → Option (List ℕ) → Bytes → Type 0
IsWrittenTo first n old new text = InRuns first (λ m env nets. (front : Bytes) × Appends old new front × (dump_of m (λ n. nets n []) n ≡ front ++ text))

-- the nets of the top that a design has
abbrev pub AreWidths : DesignTree → List ℕ → Type 0
AreWidths design widths = (m : ModuleTree) → TopOf design m → widths ≡ widths_of (nets_of m)

-- none of the cycles before was the last
abbrev pub AreGoing : SimTree → ℕ → Type 0
AreGoing first n = InRuns first (λ m env nets. IsGoing (λ n. nets n []) n)

-- a front of the dump of all cycles was written
abbrev pub IsPartWritten : SimTree → ℕ → Option (List ℕ) → Option (List ℕ) → Type 0
IsPartWritten first limit old new = InRuns first (λ m env nets. (at : Option ℕ) → IsDoneAt (λ n. nets n []) limit at → AppendsPart old new (dump_of m (λ n. nets n []) (last_cycle limit at)))

module _ (first : SimTree) (is_design : IsDesign first.design.modules first.design.top) (widths : List ℕ) (are : AreWidths first.design widths) where
  -- the head and the first cycle
  pub first_written : (zero : first.told.cycle ≡ 0) (before : List ℕ) (known : Option (List ℕ)) (head text : Bytes) → ((m : ModuleTree) → TopOf first.design m → head ≡ head_text m.name (nets_of m)) → IsTurnPut first widths before head text → IsWrittenTo first 0 known known text
  first_written zero before known head text is_head put m env nets at f ready r told =
      let turn = first_turn first.design is_design m at env f nets r first told before zero in
      ([], appends_none known, sym (put m at (are m at) (fit first.design is_design m at env f nets r first told) ∙ ap (λ (l : Bytes). head ++ l) turn ∙ ap (λ (l : Bytes). l ++ cycle_text (nets_of m) (values_in (nets_of m) (λ n. nets n [])) 0) (is_head m at)))

  -- nothing was written yet
  pub nothing_written : (limit : ℕ) (known : Option (List ℕ)) → IsPartWritten first limit known known
  nothing_written limit known m env nets at f ready r told done_at done = part_so_far known known (dump_of m (λ n. nets n []) (last_cycle limit done_at)) [] _ refl (appends_none known)

  module _ (now : SimTree) (n : ℕ) (run : IsLater first now n) where
    -- a front of the dump up to a cycle that is gone over is one of the whole dump
    pub part_to : (limit : ℕ) (old mid new : Option (List ℕ)) (text : Bytes) → n ≤ limit → AreGoing first n → IsWrittenTo first n old mid text → AppendsPart mid new text → IsPartWritten first limit old new
    part_to limit old mid new text low going written part m env nets at f ready r told done_at done =
        let run : ℕ → Cycle = λ n. nets n [] in
        let w = written m env nets at f ready r told in
        let last : n ≤ last_cycle limit done_at = goes_to run limit n done_at done low (going m env nets at f ready r told) in
        let b = dump_front m run n (last_cycle limit done_at) last in
        part_of_next old mid new (dump_of m run (last_cycle limit done_at)) w.0 text b.0 (b.1 ∙ ap (λ (l : Bytes). l ++ b.0) w.2 ∙ append_assoc w.0 text b.0) w.1 part

    module _ (next : SimTree) (step : IsNext now next) where
      -- the lines of the next cycle
      pub next_written : (before : List ℕ) (old new : Option (List ℕ)) (text more : Bytes) → ((m : ModuleTree) → TopOf first.design m → IsKept m (told_at now m) before) → IsWrittenTo first n old new text → IsTurnPut next widths before text more
          → IsWrittenTo first (n + 1) old new more
      next_written before old new text more kept written put m env nets at f ready r told =
          let later = later_step first now n run next step in
          let v = values_in (nets_of m) (λ n. nets n []) in
          let told_now : IsToldOf first.design.modules m env nets now.told = run.told m env nets at f ready r told in
          let told_next : IsToldOf first.design.modules m env nets next.told = later.told m env nets at f ready r told in
          let same : next.design ≡ first.design = later.same in
          let at_next : TopOf next.design m = subst (λ (d : DesignTree). TopOf d m) (sym same) at in
          let cycle : next.told.cycle ≡ suc n = later.at ∙ add-one n in
          let held : (k : ℕ) → k < length (nets_of m) → get_or before k 0 ≡ v n k = λ k low. kept m at k low ∙ told_is first.design is_design m at env f nets r now told_now k low ∙ ap (λ (c : ℕ). v c k) run.at in
          let turn = next_turn first.design is_design m at env f nets r next told_next before n cycle held in
          let w = written m env nets at f ready r told in
          let grown : more ≡ text ++ cycle_text (nets_of m) v (suc n) = put m at_next (are m at) (fit first.design is_design m at env f nets r next told_next) ∙ ap (λ (l : Bytes). text ++ l) turn in (
            w.0,
            w.1,
            ap (λ (k : ℕ). dump_of m (λ n. nets n []) k) (add-one n) ∙ dump_next m (λ n. nets n []) n ∙ ap (λ (l : Bytes). l ++ cycle_text (nets_of m) v (suc n)) w.2
                ∙ append_assoc w.0 text (cycle_text (nets_of m) v (suc n)) ∙ ap (λ (l : Bytes). w.0 ++ l) (sym grown),
          )

-- a piece of the text was written
pub piece_written : (first : SimTree) (n : ℕ) (old mid new : Option (List ℕ)) (text piece rest : Bytes) → IsWrittenTo first n old mid text → Appends mid new piece → text ≡ piece ++ rest → IsWrittenTo first n old new rest
piece_written first n old mid new text piece rest written put is m env nets at f ready r told =
    let w = written m env nets at f ready r told in
    (w.0 ++ piece, appends_both old mid new w.0 piece w.1 put, w.2 ∙ ap (λ (l : Bytes). w.0 ++ l) is ∙ sym (append_assoc w.0 piece rest))

-- the whole text was written
pub all_written : (first : SimTree) (n : ℕ) (old mid new : Option (List ℕ)) (text : Bytes) → IsWrittenTo first n old mid text → Appends mid new text → InRuns first (λ m env nets. Appends old new (dump_of m (λ n. nets n []) n))
all_written first n old mid new text written put m env nets at f ready r told =
    let w = written m env nets at f ready r told in
    subst (λ (l : Bytes). Appends old new l) (sym w.2) (appends_both old mid new w.0 text w.1 put)

-- ---- from cycle to cycle

-- the lines were put, by widths that are the same
pub turned : (s : SimTree) (shared widths before : List ℕ) (old new : Bytes) → shared ≡ widths → IsTurnPut s shared before old new → IsTurnPut s widths before old new
turned s shared widths before old new same put = subst (λ (l : List ℕ). IsTurnPut s l before old new) same put

-- the values of a later cycle are kept
pub kept_later : (first next : SimTree) (n : ℕ) → IsLater first next n → (shared widths values : List ℕ) → AreWidths first.design widths → shared ≡ widths → ((m : ModuleTree) → TopOf next.design m → shared ≡ widths_of (nets_of m) → IsKept m (told_at next m) values)
    → (m : ModuleTree) → TopOf first.design m → IsKept m (told_at next m) values
kept_later first next n later shared widths values are same kept m at = kept m (subst (λ (d : DesignTree). TopOf d m) (sym later.same) at) (same ∙ are m at)

pub fewer : (first : SimTree) (n : ℕ) → AreGoing first (n + 1) → AreGoing first n
fewer first n going m env nets at f ready r told j low = going m env nets at f ready r told j (omega arith)

pub none_yet : (first : SimTree) → AreGoing first 1
none_yet first m env nets at f ready r told j low d = let zero : j ≡ 0 = omega arith in not_at_first (λ n. nets n []) (subst (λ (k : ℕ). RaisesDone (λ n. nets n []) k) zero d)

module _ (first next : SimTree) (n : ℕ) (later : IsLater first next n) (going : AreGoing first n) where
  pub still_going : InRuns next (λ m env nets. RaisesDone (λ n. nets n []) next.told.cycle → ⊥) → AreGoing first (n + 1)
  still_going not_now m env nets at f ready r told =
      going_on (λ n. nets n []) n (going m env nets at f ready r told)
      (λ d. from_later first next n later (λ m env nets. RaisesDone (λ n. nets n []) next.told.cycle → ⊥) not_now m env nets at f ready r told (subst (λ (k : ℕ). RaisesDone (λ n. nets n []) k) (sym later.at) d))

  pub done_here : (limit : ℕ) → n ≤ limit → InRuns next (λ m env nets. RaisesDone (λ n. nets n []) next.told.cycle) → InRuns first (λ m env nets. IsDoneAt (λ n. nets n []) limit (Some n))
  done_here limit low done m env nets at f ready r told = (
    low,
    subst (λ (k : ℕ). RaisesDone (λ n. nets n []) k) later.at (from_later first next n later (λ m env nets. RaisesDone (λ n. nets n []) next.told.cycle) done m env nets at f ready r told),
    going m env nets at f ready r told,
  )

-- done in none up to the limit
pub none_done : (first : SimTree) (limit : ℕ) → AreGoing first (limit + 1) → InRuns first (λ m env nets. IsDoneAt (λ n. nets n []) limit None)
none_done first limit going m env nets at f ready r told j low = going m env nets at f ready r told j (omega arith)

since : (m a b c : ℕ) → a ≤ b → min (b + 1) m ≤ c → min (a + 1) m ≤ c
since m a b c later h =
    let l = min-le_left (a + 1) m in
    let r = le-min {k = min (a + 1) m} {a = b + 1} {b = m} (omega (arith, l, later)) (min-le_right (a + 1) m) in
    omega (arith, r, h)

-- a count that rose after a later look rose after an earlier one
pub rose_since : (a b c : ℕ) → a ≤ b → Rose b c → Rose a c
rose_since a b c later h = since (2 ^ 64 - 1) a b c later h
