-- What is found at a moment is what each run has that is at this moment.
use Rattle.std.proofs.Common.{◌≡◌, ℕ, zero, suc, ◌-◌, Bool, true, false, cond, List, [], ◌∷◌, Option, Some, None, get_or, refl, sym, ap, subst, ◌∙◌, arith}
use Rattle.std.specs.Prelude.{◌==◌, bytes_eq, unwrap_or, slice_get, map}
use Rattle.std.specs.List.{AllByRecursion}
use Rattle.std.specs.Option.{option_map, IfSome}
use Rattle.std.specs.Cmp.Lexicographic.{bytes_decides}
use Rattle.std.proofs.lemmas.Bool.Decides.{nat_tests}
use Rattle.tapa_base.specs.declared.shape.Port.{Port}
use Rattle.vlog_tree.specs.declared.tree.Value.{Value}
use Rattle.vlog_tree.specs.declared.tree.Connection.{Connection}
use Rattle.vlog_tree.specs.declared.tree.Item.TheVariants.{Instance}
use Rattle.vlog_tree.specs.Form.{ModuleTree}
use Rattle.vlog_tree.specs.Table.{Name, declared, bits_of}
use Rattle.vlog_tree.specs.Cycle.{Cycle, Path, and_then, module_at, Connected}
use Rattle.vlog_tree.specs.Environment.{Environment, RunsIn, shape_of, ready_at, Answers}
use Rattle.vlog_tree.specs.Labels.{rst, scalar, m_ack, m_rdata, m_addr, scalar_of, ack_of, rdata_of}
use Rattle.vlog_tree.specs.Loops.{value_nets}
use Rattle.vlog_run_laws.proofs.runs.Labelled.{scalar_label, ack_label, rdata_label}
use Rattle.vlog_values.specs.declared.numbers.NetNumber.{NetNumber}
use Rattle.vlog_values.specs.Numbers.{first_net}
use Rattle.vlog_values.specs.declared.moment.Held.{Held}
use Rattle.vlog_values.specs.declared.moment.OutsideMemory.{OutsideMemory}
use Rattle.vlog_values.specs.declared.moment.Moment.{Moment}
use Rattle.vlog_ref_cycle.specs.Sources.{RuleTree, SourceTree, held_at, assigned, output_of, joined_to, net_read, given_number, same_number, can_drive, rdata_source, ack_source, scalar_source, memory_of, input_source, outer_source, output_source, line_source, register_source, source_of}
use Rattle.vlog_ref_cycle.specs.Numbers.{by_rule, all_numbers, net_within, number_at}
use Rattle.vlog_values.specs.declared.moment.Circuit.{Circuit}
use Rattle.vlog_ref_cycle.specs.Moments.{RegisterIs, MemoryIs, HeldIs, ScalarIs, OutsideIs, IsAt, IsRunAt, run_at, InEachRun}
use Rattle.vlog_ref_cycle.proofs.Options.{and_then_some, map_some}
use Rattle.vlog_ref_cycle.proofs.Sound.{held_found, net_found, outside_found, driver_found, numbers_read, IsOutput, output_found, joined_found, Gives, given_gives, same_gives, cells_give, driver_gives}
use Rattle.vlog_run_laws.proofs.runs.Surround.{later}
use Rattle.std.proofs.lemmas.Option.{cond_some}
use Rattle.tapa_base.proofs.Got.{all_at}

module _ (ms : List ModuleTree) (top : ModuleTree) (env : Environment) (nets : ℕ → Path → Cycle) (now : Moment) (r : RunsIn ms top env nets) (at : IsAt ms top env nets now) where
  abbrev labels : List Port
  labels = (shape_of top).memories

  abbrev n : ℕ
  n = now.cycle

  abbrev GivesNow : Path → Name → SourceTree → Type 0
  GivesNow path x s = Gives (nets n) path x s

  reset_is : (k : ℕ) → (nets k []).net rst ≡ cond (k == 0) 1 0
  reset_is zero = r.stands.reset
  reset_is (suc k) = r.stands.runs k ∙ ap (λ b. cond b 1 0) (sym (later k))

  scalar_is : (x l : Name) (w : NetNumber) → scalar_of x ≡ Some l → first_net now.scalars.items l ≡ Some w → (nets n []).net x ≡ w.number
  scalar_is x l w e h =
      let q = net_found now.scalars.items l w h in
      let v : ScalarIs env (shape_of top).scalars w = all_at (ScalarIs env (shape_of top).scalars) now.scalars.items w at.scalars q.0 in
      ap (λ z. (nets n []).net z) (scalar_label x l e).0
      ∙ ap (λ z. (nets n []).net (scalar z)) (sym q.1 ∙ v.name)
      ∙ r.stands.scalars n v.place v.label v.got ∙ sym v.number

  answers : (o : OutsideMemory) (q : OutsideIs env (λ k. nets k []) n labels o) → Answers (λ k. nets k []) o.name (get_or env.memories q.place []) (get_or env.ready q.place [])
  answers o q = subst (λ z. Answers (λ k. nets k []) z (get_or env.memories q.place []) (get_or env.ready q.place [])) (sym q.name) (r.stands.memories q.place q.label q.got)

  ack_is : (x l : Name) (o : OutsideMemory) → ack_of x ≡ Some l → memory_of now.outside.items l ≡ Some o → (nets n []).net x ≡ ready_at o.ready.items n
  ack_is x l o e h =
      let f = outside_found now.outside.items l o h in
      let q = all_at (OutsideIs env (λ k. nets k []) n labels) now.outside.items o at.outside f.0 in
      ap (λ z. (nets n []).net z) (ack_label x l e).0 ∙ ap (λ z. (nets n []).net (m_ack z)) (sym f.1) ∙ (answers o q).ack n ∙ ap (λ b. ready_at b n) (sym q.bits)

  rdata_is : (x l : Name) (o : OutsideMemory) → rdata_of x ≡ Some l → memory_of now.outside.items l ≡ Some o → (nets n []).net x ≡ unwrap_or (slice_get o.cells.items ((nets n []).net (m_addr l))) 0
  rdata_is x l o e h =
      let f = outside_found now.outside.items l o h in
      let q = all_at (OutsideIs env (λ k. nets k []) n labels) now.outside.items o at.outside f.0 in
      ap (λ z. (nets n []).net z) (rdata_label x l e).0 ∙ ap (λ z. (nets n []).net (m_rdata z)) (sym f.1) ∙ (answers o q).rdata n
      ∙ ap (λ c. unwrap_or (slice_get c ((nets n []).net (m_addr o.name))) 0) (sym q.cells) ∙ ap (λ z. unwrap_or (slice_get o.cells.items ((nets n []).net (m_addr z))) 0) f.1

  rdata_gives : (x : Name) (o : Option Name) → rdata_of x ≡ o → (s : SourceTree) → rdata_source now.outside.items o ≡ Some s → GivesNow [] x s
  rdata_gives x None e s h = cc
  rdata_gives x (Some l) e s h =
      let t = map_some (λ (o : OutsideMemory). record { path = []; reads = record { name = m_addr l; bits = 0; number = 0 } ∷ []; rule = RuleTree.cells o.cells.items }) (memory_of now.outside.items l) s h in
      subst (λ z. GivesNow [] x z) t.2 (cells_give (nets n) [] x (m_addr l) t.0.cells.items (rdata_is x l t.0 e t.1))

  ack_gives : (x : Name) (o : Option Name) → ack_of x ≡ o → (others : Option SourceTree) → ((s : SourceTree) → others ≡ Some s → GivesNow [] x s) → (s : SourceTree) → ack_source n now.outside.items o others ≡ Some s → GivesNow [] x s
  ack_gives x None e others f s h = f s h
  ack_gives x (Some l) e others f s h =
      let t = map_some (λ (o : OutsideMemory). given_number (ready_at o.ready.items n)) (memory_of now.outside.items l) s h in
      subst (λ z. GivesNow [] x z) t.2 (given_gives (nets n) [] x (ready_at t.0.ready.items n) (ack_is x l t.0 e t.1))

  scalar_gives : (x : Name) (o : Option Name) → scalar_of x ≡ o → (others : Option SourceTree) → ((s : SourceTree) → others ≡ Some s → GivesNow [] x s) → (s : SourceTree) → scalar_source now.scalars.items o others ≡ Some s → GivesNow [] x s
  scalar_gives x None e others f s h = f s h
  scalar_gives x (Some l) e others f s h =
      let t = map_some (λ (v : NetNumber). given_number v.number) (first_net now.scalars.items l) s h in
      subst (λ z. GivesNow [] x z) t.2 (given_gives (nets n) [] x t.0.number (scalar_is x l t.0 e t.1))

  reset_gives : (x : Name) (b : Bool) → bytes_eq x rst ≡ b → (others : Option SourceTree) → ((s : SourceTree) → others ≡ Some s → GivesNow [] x s) → (s : SourceTree) → cond b (Some (given_number (cond (n == 0) 1 0))) others ≡ Some s → GivesNow [] x s
  reset_gives x true e others f s h =
      let t : given_number (cond (n == 0) 1 0) ≡ s = cc in
      subst (λ z. GivesNow [] x z) t (given_gives (nets n) [] x (cond (n == 0) 1 0) (ap (λ z. (nets n []).net z) ((bytes_decides x rst).0 e) ∙ reset_is n))
  reset_gives x false e others f s h = f s h

  input_gives : (x : Name) (s : SourceTree) → input_source now x ≡ Some s → GivesNow [] x s
  input_gives x s h =
      reset_gives x (bytes_eq x rst) refl (scalar_source now.scalars.items (scalar_of x) (ack_source n now.outside.items (ack_of x) (rdata_source now.outside.items (rdata_of x))))
      (scalar_gives x (scalar_of x) refl (ack_source n now.outside.items (ack_of x) (rdata_source now.outside.items (rdata_of x)))
      (ack_gives x (ack_of x) refl (rdata_source now.outside.items (rdata_of x)) (rdata_gives x (rdata_of x) refl))) s h

  -- a net that is joined to a port has its number
  joined_is : (path : Path) (m : ModuleTree) → module_at ms top path ≡ Some m → (z : Name) (p : Name × Name) → IsOutput m.items z p → (nets n (p.0 ∷ path)).net p.1 ≡ (nets n path).net z
  joined_is path m e z p q =
      let connections : AllByRecursion (λ (l : Connection). (nets n (p.0 ∷ path)).net l.port ≡ (nets n path).net l.net) q.connections = all_at (Connected (nets n) path) m.items (Instance q.module_name p.0 q.connections) (r.runs.connections n path m e) q.has in
      let l : (nets n (p.0 ∷ path)).net q.connection.port ≡ (nets n path).net q.connection.net = all_at (λ (l : Connection). (nets n (p.0 ∷ path)).net l.port ≡ (nets n path).net l.net) q.connections q.connection connections q.connected in
      sym (ap (λ y. (nets n (p.0 ∷ path)).net y) q.port) ∙ l ∙ ap (λ y. (nets n path).net y) q.net

  outer_gives : (path : Path) (x : Name) (s : SourceTree) → outer_source ms top now path x ≡ Some s → GivesNow path x s
  outer_gives [] x s h = input_gives x s h
  outer_gives (i ∷ path) x s h =
      let t = and_then_some (module_at ms top path) (λ m. option_map (same_number path) (joined_to m.items i x)) s h in
      let u = map_some (same_number path) (joined_to t.0.items i x) s t.2 in
      subst (λ z. GivesNow (i ∷ path) x z) u.2 (same_gives (nets n) (i ∷ path) x path u.0 (joined_is path t.0 t.1 u.0 (i, x) (joined_found t.0.items i x u.0 u.1)))

  output_gives : (path : Path) (m : ModuleTree) → module_at ms top path ≡ Some m → (x : Name) (o : Option (Name × Name)) → output_of ms m.items x ≡ o → (others : Option SourceTree) → ((s : SourceTree) → others ≡ Some s → GivesNow path x s)
      → (s : SourceTree) → output_source path o others ≡ Some s → GivesNow path x s
  output_gives path m at_m x None e others f s h = f s h
  output_gives path m at_m x (Some p) e others f s h =
      let t : same_number (p.0 ∷ path) p.1 ≡ s = cc in
      subst (λ z. GivesNow path x z) t (same_gives (nets n) path x (p.0 ∷ path) p.1 (sym (joined_is path m at_m x p (output_found ms m.items x p e))))

  module _ (path : Path) (h : Held) (same : h.path.items ≡ path) (i : HeldIs ms top (nets n) h) (m : ModuleTree) (at_m : module_at ms top path ≡ Some m) where
    tree_is : i.tree ≡ m
    tree_is = let e : Some i.tree ≡ Some m = sym i.at ∙ ap (λ p. module_at ms top p) same ∙ at_m in cc

    registers_are : AllByRecursion (RegisterIs m.items (nets n path)) h.nets.items
    registers_are = subst (λ p. AllByRecursion (RegisterIs m.items (nets n p)) h.nets.items) same (subst (λ (t : ModuleTree). AllByRecursion (RegisterIs t.items (nets n h.path.items)) h.nets.items) tree_is i.registers)

    memories_are : AllByRecursion (MemoryIs m.items (nets n path)) h.memories.items
    memories_are = subst (λ p. AllByRecursion (MemoryIs m.items (nets n p)) h.memories.items) same (subst (λ (t : ModuleTree). AllByRecursion (MemoryIs t.items (nets n h.path.items)) h.memories.items) tree_is i.memories)

    line_gives : (x : Name) (o : Option Value) → assigned m.items x ≡ o → (others : Option SourceTree) → ((s : SourceTree) → others ≡ Some s → GivesNow path x s) → (s : SourceTree) → line_source (declared m) path h.memories.items x o others ≡ Some s → GivesNow path x s
    line_gives x None e others f s k = f s k
    line_gives x (Some v) e others f s k =
        let t = cond_some (can_drive (declared m) h.memories.items x v) (record { path = path; reads = map (net_read (declared m)) (value_nets v); rule = RuleTree.driver (bits_of (declared m) x) v h.memories.items }) s k in
        let follows = r.runs.each path m at_m in
        subst (λ z. GivesNow path x z) t.1 (driver_gives (nets n) path x m follows.sizes follows.ports (follows.lines n) h.memories.items memories_are v (driver_found m.items x v e) t.0)

    register_gives : (x : Name) (o : Option NetNumber) → first_net h.nets.items x ≡ o → (others : Option SourceTree) → ((s : SourceTree) → others ≡ Some s → GivesNow path x s) → (s : SourceTree) → register_source o others ≡ Some s → GivesNow path x s
    register_gives x None e others f s k = f s k
    register_gives x (Some w) e others f s k =
        let t : given_number w.number ≡ s = cc in
        let q = net_found h.nets.items x w e in
        let is : (nets n path).net w.name ≡ w.number = (all_at (RegisterIs m.items (nets n path)) h.nets.items w registers_are q.0).1 in
        subst (λ z. GivesNow path x z) t (given_gives (nets n) path x w.number (ap (λ y. (nets n path).net y) (sym q.1) ∙ is))

    module_gives : (x : Name) (s : SourceTree) → register_source (first_net h.nets.items x) (line_source (declared m) path h.memories.items x (assigned m.items x) (output_source path (output_of ms m.items x) (outer_source ms top now path x))) ≡ Some s → GivesNow path x s
    module_gives x s k =
        register_gives x (first_net h.nets.items x) refl (line_source (declared m) path h.memories.items x (assigned m.items x) (output_source path (output_of ms m.items x) (outer_source ms top now path x)))
        (line_gives x (assigned m.items x) refl (output_source path (output_of ms m.items x) (outer_source ms top now path x))
        (output_gives path m at_m x (output_of ms m.items x) refl (outer_source ms top now path x) (outer_gives path x))) s k

  source_gives : (path : Path) (x : Name) (s : SourceTree) → source_of ms top now path x ≡ Some s → GivesNow path x s
  source_gives path x s e =
      let rest = λ (h : Held) (m : ModuleTree). register_source (first_net h.nets.items x) (line_source (declared m) path h.memories.items x (assigned m.items x) (output_source path (output_of ms m.items x) (outer_source ms top now path x))) in
      let t = and_then_some (held_at now.held.items path) (λ h. and_then (module_at ms top path) (λ m. rest h m)) s e in
      let u = and_then_some (module_at ms top path) (λ m. rest t.0 m) s t.2 in
      let q = held_found now.held.items path t.0 t.1 in
      module_gives path t.0 q.1 (all_at (HeldIs ms top (nets n)) now.held.items t.0 at.held q.0) u.0 u.1 x s u.2

  -- the number that is found is the one of the run
  pub number_is : (d : ℕ) (path : Path) (x : Name) (v : ℕ) → net_within ms top now d path x ≡ Some v → (nets n path).net x ≡ v
  number_is zero path x v h = cc
  number_is (suc d) path x v h =
      let t = and_then_some (source_of ms top now path x) (λ s. and_then (all_numbers (net_within ms top now d s.path) s.reads) (by_rule s.rule)) v h in
      let u = and_then_some (all_numbers (net_within ms top now d t.0.path) t.0.reads) (by_rule t.0.rule) v t.2 in
      source_gives path x t.0 t.1 u.0 v (numbers_read (nets n t.0.path) (net_within ms top now d t.0.path) (λ y w k. number_is d t.0.path y w k) t.0.reads u.0 u.1) u.2

pub runs_number : (c : Circuit) (now : Moment) (d : ℕ) (path : Path) (x : Name) (o : Option ℕ) → o ≡ number_at c now d path x → IfSome o (λ v. InEachRun c now (λ env nets. (nets now.cycle path).net x ≡ v))
runs_number c now d path x None e = tt
runs_number c now d path x (Some v) e = λ env nets q. at_run env nets q where
  at_run : (env : Environment) (nets : ℕ → Path → Cycle) → IsRunAt c now env nets → (nets now.cycle path).net x ≡ v
  at_run env nets (run_at r a) = number_is c.modules.now c.top.now env nets now r a d path x v (sym e)

module _ (c : Circuit) (now : Moment) (d : ℕ) (path : Path) (x : Name) (some : d ≡ 0 → ⊥) where
  rest_of : ℕ → SourceTree → Option ℕ
  rest_of k s = and_then (all_numbers (number_at c now k s.path) s.reads) (by_rule s.rule)

  at_step : (k : ℕ) → d ≡ suc k → number_at c now d path x ≡ and_then (source_of c.modules.now c.top.now now path x) (rest_of k)
  unfolding rest_of
  at_step k e = ap (λ j. number_at c now j path x) e

  one_less : d ≡ suc (d - 1)
  one_less = omega arith

  pub number_unknown : None ≡ source_of c.modules.now c.top.now now path x → None ≡ number_at c now d path x
  number_unknown h = ap (λ o. and_then o (rest_of (d - 1))) h ∙ sym (at_step (d - 1) one_less)

  module _ (s : SourceTree) (is : Some s ≡ source_of c.modules.now c.top.now now path x) where
    pub number_unread : None ≡ all_numbers (number_at c now (d - 1) s.path) s.reads → None ≡ number_at c now d path x
    unfolding rest_of
    number_unread h = ap (λ o. and_then o (by_rule s.rule)) h ∙ ap (λ o. and_then o (rest_of (d - 1))) is ∙ sym (at_step (d - 1) one_less)

    pub number_found : (ns : List NetNumber) (o : Option ℕ) → Some ns ≡ all_numbers (number_at c now (d - 1) s.path) s.reads → o ≡ by_rule s.rule ns → o ≡ number_at c now d path x
    unfolding rest_of
    number_found ns o h e = e ∙ ap (λ o. and_then o (by_rule s.rule)) h ∙ ap (λ o. and_then o (rest_of (d - 1))) is ∙ sym (at_step (d - 1) one_less)

pub number_zero : (c : Circuit) (now : Moment) (d : ℕ) (path : Path) (x : Name) → d ≡ 0 → None ≡ number_at c now d path x
number_zero c now d path x e = ap (λ j. number_at c now j path x) (sym e)
