-- What a stream carries, one cycle further.
use Rattle.std.proofs.Common.{◌≡◌, ℕ, suc, false, cond, ◌&&◌, [], ◌∷◌, ◌++◌, sym, ap, ◌∙◌, append-nil}
use Rattle.std.specs.Prelude.{◌==◌}
use Rattle.vlog_tree.specs.Cycle.{Cycle}
use Rattle.vlog_tree.specs.Table.{Name}
use Rattle.vlog_tree.specs.Environment.{carried}
use Rattle.vlog_tree.specs.Labels.{s_din, s_wr, s_rdy}

module _ (run : ℕ → Cycle) (x : Name) (k wr rdy din : ℕ) (wr_is : (run (suc k)).net (s_wr x) ≡ wr) (rdy_is : (run (suc k)).net (s_rdy x) ≡ rdy) (din_is : (run (suc k)).net (s_din x) ≡ din) where
  goes : carried run x (suc k) ≡ cond ((wr == 1) && (rdy == 1)) (carried run x k ++ din ∷ []) (carried run x k)
  goes =
      ap (λ a. cond ((a == 1) && ((run (suc k)).net (s_rdy x) == 1)) (carried run x k ++ (run (suc k)).net (s_din x) ∷ []) (carried run x k)) wr_is
      ∙ ap (λ a. cond ((wr == 1) && (a == 1)) (carried run x k ++ (run (suc k)).net (s_din x) ∷ []) (carried run x k)) rdy_is
      ∙ ap (λ a. cond ((wr == 1) && (rdy == 1)) (carried run x k ++ a ∷ []) (carried run x k)) din_is

  pub carries_one : wr ≡ 1 → rdy ≡ 1 → carried run x (suc k) ≡ carried run x k ++ din ∷ []
  carries_one a b = goes ∙ ap (λ w. cond ((w == 1) && (rdy == 1)) (carried run x k ++ din ∷ []) (carried run x k)) a ∙ ap (λ w. cond (w == 1) (carried run x k ++ din ∷ []) (carried run x k)) b

  pub carries_none : ((wr == 1) && (rdy == 1)) ≡ false → carried run x (suc k) ≡ carried run x k ++ []
  carries_none e = goes ∙ ap (λ b. cond b (carried run x k ++ din ∷ []) (carried run x k)) e ∙ sym (append-nil (carried run x k))
