-- The moments that are computed one after the other are those of a run.
use Rattle.std.proofs.Common.{◌≡◌, ℕ, ◌+◌, ◌-◌, ◌≤◌, Some, arith}
use Rattle.std.specs.Prelude.{slice_get}
use Rattle.vlog_tree.specs.Refused.{IsDesign}
use Rattle.vlog_tree.specs.Cycle.{Cycle, Path}
use Rattle.vlog_tree.specs.Environment.{Environment, FitsShape, shape_of}
use Rattle.vlog_run_laws.specs.runs.OneRun.{IsRunFrom}
use Rattle.vlog_run_laws.specs.runs.Filled.{IsFilled}
use Rattle.vlog_values.specs.declared.moment.Circuit.{Circuit}
use Rattle.vlog_values.specs.declared.moment.Moment.{Moment}
use Rattle.vlog_ref_cycle.specs.Moments.{IsAt, run_at}
use Rattle.vlog_ref_start.specs.Whole.{IsWhole, HasNoMore}
use Rattle.vlog_ref_start.proofs.Deeper.{deeper}
use Rattle.vlog_ref_start.proofs.FoundNets.{each_found}
use Rattle.vlog_ref_start.proofs.Kept.{whole_kept, no_more_kept}
use Rattle.vlog_ref_start.proofs.Known.{next_from, more_steps}
use Rattle.vlog_ref_start.specs.Runs.{IsStart, IsComputed, at_first, at_next, IsMomentOf, ReferenceIsRun}

-- what the laws on the numbers and on the next moment ask
record IsRight (c : Circuit) (env : Environment) (nets : ℕ → Path → Cycle) (now : Moment) : Type 0 where
  at : IsAt c.modules.now c.top.now env nets now
  whole : IsWhole c.modules.now c.top.now now
  no_more : HasNoMore c.modules.now c.top.now now

module _ (c : Circuit) (top : ℕ) (env : Environment) (fill : ℕ) (contents : Path → Cycle) (nets : ℕ → Path → Cycle) (first : Moment) (d : IsDesign c.modules.now top) (at_top : slice_get c.modules.now top ≡ Some c.top.now)
    (fits : FitsShape env (shape_of c.top.now)) (filled : IsFilled c.modules.now c.top.now fill contents) (r : IsRunFrom c.modules.now c.top.now env contents nets) (start : IsStart c.modules.now c.top.now env fill first) where
  right : (now : Moment) → IsComputed c first now → IsRight c env nets now
  right now at_first = record { at = start.runs contents nets filled r; whole = start.whole; no_more = start.no_more }
  right after (at_next {now} k n) =
      let q = right now k in
      record {
        at = n.runs env nets (run_at r.runs_in q.at);
        whole = whole_kept c.modules.now c.top.now now after n.kept q.whole;
        no_more = no_more_kept c.modules.now c.top.now now after n.kept q.no_more;
      }

  moment_of : (now : Moment) → IsComputed c first now → IsMomentOf c env nets now
  moment_of now k =
      let q = right now k in
      record {
        at = q.at;
        numbers = λ path m x at read clock.
            let f = each_found c.modules.now top c.top.now d at_top env fits nets r.runs_in now q.at q.whole path m x at read clock in
            (f.0, λ e low. deeper c.modules.now c.top.now now (e - f.0) f.0 e (more_steps f.0 e low) path x ((nets now.cycle path).net x) f.1);
        next = λ low. next_from c top d at_top env fits nets r.runs_in now q.at q.whole q.no_more low;
      }

pub reference_is_run : ReferenceIsRun
reference_is_run c top env fill contents nets first now d at_top fits filled r start k = moment_of c top env fill contents nets first d at_top fits filled r start now k
