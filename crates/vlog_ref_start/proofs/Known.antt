-- In a design, at a moment that leaves out nothing and has nothing else, enough steps give all that the next cycle needs.
use Rattle.std.proofs.Common.{◌≡◌, ℕ, ◌+◌, ◌-◌, ◌<◌, ◌≤◌, ◌^◌, Bool, true, false, ◌&&◌, List, [], ◌∷◌, Some, inl, inr, refl, ap, subst, ◌∙◌, arith}
use Rattle.std.specs.Prelude.{nat_lt, is_some, slice_get}
use Rattle.std.specs.List.{flat_map, list_all}
use Rattle.std.proofs.lemmas.Bool.Decides.{nat_tests}
use Rattle.vlog_tree.specs.Form.{ModuleTree}
use Rattle.tapa_base.specs.Lists.{Has}
use Rattle.vlog_tree.specs.Refused.{IsDesign}
use Rattle.vlog_tree.specs.Table.{Name, is_clk, declared, net_kind_of, net_kind_is_read}
use Rattle.vlog_tree.specs.Cycle.{Cycle, Path, and_then, module_at}
use Rattle.vlog_tree.specs.Environment.{Environment, FitsShape, RunsIn, shape_of}
use Rattle.vlog_tree.specs.Labels.{m_ack, m_we, m_addr, m_wdata}
use Rattle.tapa_base.proofs.Lists.{of_map, some_of}
use Rattle.vlog_run_laws.proofs.runs.Settled.{module_in, top_tree, IsTopTree}
use Rattle.vlog_values.specs.declared.numbers.NetNumber.{NetNumber}
use Rattle.vlog_values.specs.declared.moment.Circuit.{Circuit}
use Rattle.vlog_values.specs.declared.moment.Held.{Held}
use Rattle.vlog_values.specs.declared.moment.OutsideMemory.{OutsideMemory}
use Rattle.vlog_values.specs.declared.moment.Moment.{Moment}
use Rattle.vlog_ref_cycle.specs.Sources.{net_read}
use Rattle.vlog_ref_cycle.specs.Numbers.{all_numbers, number_at}
use Rattle.vlog_ref_cycle.specs.Moments.{IsAt}
use Rattle.vlog_ref_cycle.specs.Next.{item_nets, reads_of, held_known, outside_known, next_known}
use Rattle.vlog_ref_start.specs.Whole.{IsWhole, HasNoMore}
use Rattle.vlog_ref_start.proofs.Deeper.{IsFound, deeper, all_deeper, all_found}
use Rattle.vlog_ref_start.proofs.FoundNets.{each_found}
use Rattle.vlog_ref_start.proofs.Blocks.{block_reads}
use Rattle.vlog_ref_start.proofs.Asked.{asked_by}
use Rattle.std.proofs.lemmas.Bool.{and_from as both}

-- it holds from some number of steps on
abbrev pub FromSome : (ℕ → Bool) → Type 0
FromSome f = (d : ℕ) × ((e : ℕ) → d ≤ e → f e ≡ true)

first_less : (a b e : ℕ) → a + b ≤ e → a ≤ e
first_less a b e h = omega arith

second_less : (a b e : ℕ) → a + b ≤ e → b ≤ e
second_less a b e h = omega arith

both_from : (f g : ℕ → Bool) → FromSome f → FromSome g → FromSome (λ e. f e && g e)
both_from f g a b = (a.0 + b.0, λ e low. both (f e) (g e) (a.1 e (first_less a.0 b.0 e low)) (b.1 e (second_less a.0 b.0 e low)))

each_from : {A : Type 0} (f : ℕ → A → Bool) (xs : List A) → ((x : A) → Has xs x → FromSome (λ e. f e x)) → FromSome (λ e. list_all (f e) xs)
each_from f [] g = (0, λ e low. refl)
each_from f (x ∷ xs) g = both_from (λ e. f e x) (λ e. list_all (f e) xs) (g x (inl refl)) (each_from f xs (λ y h. g y (inr h)))

less_test : (a b : ℕ) → a < b → nat_lt a b ≡ true
less_test a b h = grind (arith, nat_tests)

pub more_steps : (d e : ℕ) → d ≤ e → e ≡ d + (e - d)
more_steps d e h = omega arith

module _ (c : Circuit) (place : ℕ) (d : IsDesign c.modules.now place) (at_place : slice_get c.modules.now place ≡ Some c.top.now) (env : Environment) (env_fits : FitsShape env (shape_of c.top.now)) (nets : ℕ → Path → Cycle)
    (r : RunsIn c.modules.now c.top.now env nets) (now : Moment) (is : IsAt c.modules.now c.top.now env nets now) (whole : IsWhole c.modules.now c.top.now now) (no_more : HasNoMore c.modules.now c.top.now now) where
  abbrev ms : List ModuleTree
  ms = c.modules.now

  abbrev root : ModuleTree
  root = c.top.now

  tree : IsTopTree ms root
  tree = top_tree ms place d root at_place

  found : (path : Path) (m : ModuleTree) → module_at ms root path ≡ Some m → (x : Name) → (net_kind_is_read (net_kind_of (declared m) x) ≡ true) × (is_clk x ≡ false) → IsFound ms root now (path, x)
  found path m at x q = let f = each_found ms place root d at_place env env_fits nets r now is whole path m x at q.0 q.1 in (f.0, (nets now.cycle path).net x, f.1)

  held_from : (h : Held) → Has now.held.items h → FromSome (λ e. held_known c now e h)
  held_from h has =
      let path = h.path.items in
      let t = some_of (module_at ms root path) (no_more.held h has) in
      let m : ModuleTree = t.0 in
      let reads = all_found ms root now path (reads_of m) (λ k q.
      let z = of_map (net_read (declared m)) (flat_map item_nets m.items) k q in
      subst (λ (w : NetNumber). IsFound ms root now (path, w.name)) z.2 (found path m t.1 z.0 (block_reads ms d.sound.names m (module_in ms root tree.has path m t.1) z.0 z.1))) in (
        reads.0,
        λ e low.
            ap (λ o. is_some (and_then o (λ k. all_numbers (number_at c now e path) (reads_of k)))) t.1
            ∙ ap (λ o. is_some o) (all_deeper ms root now (e - reads.0) reads.0 e (more_steps reads.0 e low) path (reads_of m) reads.1 reads.2),
      )

  top_from : (x : Name) → (net_kind_is_read (net_kind_of (declared root) x) ≡ true) × (is_clk x ≡ false) → FromSome (λ e. is_some (number_at c now e [] x))
  top_from x q = let f = found [] root refl x q in (f.0, λ e low. ap (λ o. is_some o) (deeper ms root now (e - f.0) f.0 e (more_steps f.0 e low) [] x f.1 f.2))

  outside_from : (o : OutsideMemory) → Has now.outside.items o → FromSome (λ e. outside_known c now e o)
  outside_from o has =
      let l = no_more.outside o has in
      let q = asked_by ms d.sound.names d.outside root tree.has tree.is_top l.0 l.1 in
      subst (λ (x : Name). FromSome (λ e. is_some (number_at c now e [] (m_ack x)) && is_some (number_at c now e [] (m_we x)) && is_some (number_at c now e [] (m_addr x)) && is_some (number_at c now e [] (m_wdata x)))) l.2
      (both_from _ (λ e. is_some (number_at c now e [] (m_wdata l.0.name)))
      (both_from _ (λ e. is_some (number_at c now e [] (m_addr l.0.name)))
      (both_from (λ e. is_some (number_at c now e [] (m_ack l.0.name))) (λ e. is_some (number_at c now e [] (m_we l.0.name))) (top_from (m_ack l.0.name) q.0) (top_from (m_we l.0.name) q.1))
      (top_from (m_addr l.0.name) q.2)) (top_from (m_wdata l.0.name) q.3))

  pub next_from : now.cycle + 1 < 2 ^ 64 → FromSome (λ e. next_known c now e)
  next_from low =
      both_from (λ e. nat_lt (now.cycle + 1) (2 ^ 64) && list_all (held_known c now e) now.held.items) (λ e. list_all (outside_known c now e) now.outside.items)
      (both_from (λ e. nat_lt (now.cycle + 1) (2 ^ 64)) (λ e. list_all (held_known c now e) now.held.items) (0, λ e h. less_test (now.cycle + 1) (2 ^ 64) low) (each_from (λ e h. held_known c now e h) now.held.items held_from))
      (each_from (λ e o. outside_known c now e o) now.outside.items outside_from)
