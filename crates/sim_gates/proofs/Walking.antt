-- The parts of a block that are open.
use Rattle.std.proofs.Common.{◌≡◌, ℕ, zero, suc, ◌+◌, ◌*◌, ◌^◌, ◌<◌, ◌≤◌, Bool, true, false, cond, ◌&&◌, List, [], ◌∷◌, ◌++◌, refl, sym, ap, subst, ◌∙◌, arith}
use Rattle.std.specs.Prelude.{◌==◌, not, reverse}
use Rattle.std.specs.List.{list_all}
use Rattle.std.proofs.lemmas.List.{reverse-append}
use Rattle.std.proofs.lemmas.Bool.{eqb-true}
use Rattle.vlog_tree.specs.declared.tree.Step.TheVariants.{If, Else, End}
use Rattle.vlog_tree.specs.Table.{Name, one_if}
use Rattle.vlog_tree.specs.Cycle.{Cycle, Sizes, run_steps}
use Rattle.sim_tape.specs.Tape.{number_at}
use Rattle.sim_gates.specs.declared.parts.Part.{Part}
use Rattle.sim_gates.specs.Parts.{part_runs, parts_run, WalkShows, WalkBefore, IsTurned}

pub reverse_push : {A : Type 0} (xs : List A) (x : A) → reverse (xs ++ x ∷ []) ≡ x ∷ reverse xs
reverse_push xs x = reverse-append xs (x ∷ [])

chosen : (a b : Bool) → cond a (one_if b) 0 ≡ one_if (a && b)
chosen true b = refl
chosen false b = refl

-- the slot says whether all open parts run
pub all_shown : (ns : List ℕ) (on : ℕ) (parts : List Part) → WalkShows ns on parts → number_at ns on ≡ one_if (list_all (λ b. b) (parts_run ns parts))
all_shown ns on [] h = h
all_shown ns on (p ∷ parts) h = h.0 ∙ ap (λ n. cond (part_runs ns p) n 0) (all_shown ns p.around parts h.1) ∙ chosen (part_runs ns p) (list_all (λ b. b) (parts_run ns parts))

pub walk_later : (m n on : ℕ) (parts : List Part) → m ≤ n → WalkBefore m on parts → WalkBefore n on parts
walk_later m n on [] le h = let b : on < m = h in omega arith
walk_later m n on (p ∷ parts) le h = ((let b : on < m = h.0 in omega arith), (let b : p.test < m = h.1 in omega arith), walk_later m n p.around parts le h.2)

pub on_before : (n on : ℕ) (parts : List Part) → WalkBefore n on parts → on < n
on_before n on [] h = h
on_before n on (p ∷ parts) h = h.0

-- a part inside others
pub entered : (m n on : ℕ) (p : Part) (parts after : List Part) → m ≤ n → after ≡ p ∷ parts → on < n → p.test < m → WalkBefore m p.around parts → WalkBefore n on after
entered m n on p parts after le e low test h = subst (λ l. WalkBefore n on l) (sym e) (low, (let b : p.test < m = test in omega arith), walk_later m n p.around parts le h)

high_none : (h l n : ℕ) → n ≡ h * 2 ^ 64 + l → n < 2 → l ≡ n
high_none zero l n e small = omega arith
high_none (suc h) l n e small = absurd (omega arith)

-- a number of one bit is its low half
pub one_bit : (n h l w : ℕ) → n ≡ h * 2 ^ 64 + l → n < 2 ^ w → (w == 1) ≡ true → l ≡ n
one_bit n h l w e small one = high_none h l n e (subst (λ k. n < 2 ^ k) (eqb-true w 1 one) small)

flipped : (e t : Bool) → not (cond e (not t) t) ≡ cond (not e) (not t) t
flipped true true = refl
flipped true false = refl
flipped false t = refl

module _ (s : Sizes) (c : Cycle) (ns : List ℕ) where
  pub if_turned : (x : Name) (test around on : ℕ) (parts after : List Part) → number_at ns test ≡ c.net x → after ≡ record { around = around; test = test; is_else = false } ∷ parts
      → number_at ns on ≡ cond (number_at ns test == 1) (number_at ns around) 0 → WalkShows ns around parts → IsTurned s c ns (If x) parts on after
  if_turned x test around on parts after is e runs h = record {
    shows = subst (λ l. WalkShows ns on l) (sym e) (runs, h);
    runs = λ rest next. ap (λ n. run_steps s c ((n == 1) ∷ parts_run ns parts) rest next) (sym is) ∙ ap (λ l. run_steps s c (parts_run ns l) rest next) (sym e);
  }

  pub else_turned : (p : Part) (on now : ℕ) (parts before after : List Part) → before ≡ p ∷ parts → after ≡ record { around = p.around; test = p.test; is_else = not p.is_else } ∷ parts
      → number_at ns on ≡ cond (part_runs ns (record { around = p.around; test = p.test; is_else = not p.is_else })) (number_at ns p.around) 0 → WalkShows ns now before → IsTurned s c ns Else before on after
  else_turned p on now parts before after b e runs h =
      let inside = subst (λ l. WalkShows ns now l) b h in
      record {
        shows = subst (λ l. WalkShows ns on l) (sym e) (runs, inside.1);
        runs = λ rest next.
            ap (λ l. run_steps s c (parts_run ns l) (Else ∷ rest) next) b
            ∙ ap (λ t. run_steps s c (t ∷ parts_run ns parts) rest next) (flipped p.is_else (number_at ns p.test == 1))
            ∙ ap (λ l. run_steps s c (parts_run ns l) rest next) (sym e);
      }

  pub end_turned : (p : Part) (now : ℕ) (parts before : List Part) → before ≡ p ∷ parts → WalkShows ns now before → IsTurned s c ns End before p.around parts
  end_turned p now parts before b h =
      let inside = subst (λ l. WalkShows ns now l) b h in
      record {
        shows = inside.1;
        runs = λ rest next. ap (λ l. run_steps s c (parts_run ns l) (End ∷ rest) next) b;
      }

pub ended_before : (p : Part) (n now : ℕ) (parts before : List Part) → before ≡ p ∷ parts → WalkBefore n now before → (p.around < n) × (p.test < n) × WalkBefore n p.around parts
ended_before p n now parts before b h =
    let inside = subst (λ l. WalkBefore n now l) b h in
    (on_before n p.around parts inside.2, inside.1, inside.2)

else_by : (t : Bool) (n : ℕ) → cond t 0 n ≡ cond (not t) n 0
else_by true n = refl
else_by false n = refl

-- the slot of a part that runs where its condition is not 1, and of one that runs where it is
pub off_says : (e t : Bool) (z n r : ℕ) → e ≡ true → z ≡ 0 → r ≡ cond t z n → r ≡ cond (cond e (not t) t) n 0
off_says e t z n r is none says = says ∙ ap (λ k. cond t k n) none ∙ else_by t n ∙ ap (λ q. cond (cond q (not t) t) n 0) (sym is)

pub on_says : (e t : Bool) (z n r : ℕ) → e ≡ false → z ≡ 0 → r ≡ cond t n z → r ≡ cond (cond e (not t) t) n 0
on_says e t z n r is none says = says ∙ ap (λ k. cond t n k) none ∙ ap (λ q. cond (cond q (not t) t) n 0) (sym is)

-- the innermost part of those that are open
pub popped : {A : Type 0} (old new : List A) (x : A) → old ≡ new ++ x ∷ [] → reverse old ≡ x ∷ reverse new
popped old new x e = ap reverse e ∙ reverse_push new x
