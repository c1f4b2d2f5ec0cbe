-- What the next cycle holds, as a loop gathers it.
use Rattle.std.proofs.Common.{◌≡◌, ℕ, zero, suc, ◌+◌, ◌<◌, Bool, true, ◌&&◌, List, [], ◌∷◌, ◌++◌, length, get_or, take, drop, sym, ap, subst, ◌∙◌, arith}
use Rattle.std.specs.List.{AllByRecursion, list_all}
use Rattle.vlog_tree.specs.Grounded.{AllTwo}
use Rattle.vlog_tree.proofs.Walks.{step}
use Rattle.vlog_values.specs.declared.moment.Circuit.{Circuit}
use Rattle.vlog_values.specs.declared.moment.Held.{Held}
use Rattle.vlog_values.specs.declared.moment.OutsideMemory.{OutsideMemory}
use Rattle.vlog_values.specs.declared.moment.Moment.{Moment}
use Rattle.vlog_ref_cycle.specs.Moments.{HeldIs, IsAt, IsRunAt, run_at, InEachRun}
use Rattle.vlog_tree.specs.Cycle.{Cycle, Path}
use Rattle.vlog_tree.specs.Environment.{Environment}
use Rattle.vlog_ref_cycle.specs.Next.{IsAfterStore}
use Rattle.vlog_ref_cycle.proofs.Leaves.{taken_more}
use Rattle.tapa_base.proofs.Got.{all_push as one_more}

at_index : {A : Type 0} (P : A → Type 0) (xs : List A) (i : ℕ) (x : A) → AllByRecursion P xs → i < length xs → x ≡ get_or xs i x → P x
at_index P [] i x a low e = absurd (omega arith)
at_index P (y ∷ ys) zero x a low e = subst P (sym e) a.0
at_index P (y ∷ ys) (suc i) x a low e = at_index P ys i x a.1 (omega arith) e

-- one more element passes, and the rest decide
pub passed : {A : Type 0} (f : A → Bool) (xs : List A) (i : ℕ) (x : A) (b : Bool) → i < length xs → x ≡ get_or xs i x → true ≡ f x → b ≡ list_all f (drop i xs) → b ≡ list_all f (drop (i + 1) xs)
passed f xs i x b low is t inv = step (λ r. list_all f r) xs i x b low is inv ∙ ap (λ q. q && list_all f (drop (i + 1) xs)) (sym t)

module _ (c : Circuit) (now : Moment) (i : ℕ) where
  -- one more instance
  pub held_more : (h k : Held) (out more : List Held) → i < length now.held.items → h ≡ get_or now.held.items i h
      → InEachRun c now (λ env nets. AllByRecursion (HeldIs c.modules.now c.top.now (nets (suc now.cycle))) out)
      → InEachRun c now (λ env nets. HeldIs c.modules.now c.top.now (nets now.cycle) h → HeldIs c.modules.now c.top.now (nets (suc now.cycle)) k)
      → more ≡ out ++ k ∷ []
      → InEachRun c now (λ env nets. AllByRecursion (HeldIs c.modules.now c.top.now (nets (suc now.cycle))) more)
  held_more h k out more low is inv one e = λ env nets q. more_held env nets q (at_of env nets q) where
    at_of : (env : Environment) (nets : ℕ → Path → Cycle) → IsRunAt c now env nets → IsAt c.modules.now c.top.now env nets now
    at_of env nets (run_at r a) = a

    more_held : (env : Environment) (nets : ℕ → Path → Cycle) → IsRunAt c now env nets → IsAt c.modules.now c.top.now env nets now → AllByRecursion (HeldIs c.modules.now c.top.now (nets (suc now.cycle))) more
    more_held env nets q a =
        let after = HeldIs c.modules.now c.top.now (nets (suc now.cycle)) in
        subst (λ l. AllByRecursion after l) (sym e)
        (one_more after out k (inv env nets q) (one env nets q (at_index (HeldIs c.modules.now c.top.now (nets now.cycle)) now.held.items i h a.held low is)))

  -- one more memory around the design
  pub outside_more : (m k : OutsideMemory) (out more : List OutsideMemory) → i < length now.outside.items → m ≡ get_or now.outside.items i m
      → InEachRun c now (λ env nets. AllTwo (IsAfterStore (nets now.cycle [])) (take i now.outside.items) out)
      → InEachRun c now (λ env nets. IsAfterStore (nets now.cycle []) m k)
      → more ≡ out ++ k ∷ []
      → InEachRun c now (λ env nets. AllTwo (IsAfterStore (nets now.cycle [])) (take (i + 1) now.outside.items) more)
  outside_more m k out more low is inv one e = λ env nets q.
      taken_more (IsAfterStore (nets now.cycle [])) now.outside.items i m out more k low is (inv env nets q) (one env nets q) e
