-- What the modules of a channel keep by themselves.
use Rattle.std.proofs.Common.{◌≡◌, ℕ, ◌+◌, ◌*◌, ◌/◌, ◌%◌, ◌^◌, ◌<◌, Bool, true, false, cond, eqb, List, [], ◌∷◌, Some, inl, inr, refl, sym, ap, subst, ◌∙◌, ⊎_elim}
use Rattle.std.specs.Prelude.{bytes_eq}
use Rattle.std.specs.List.{list_all}
use Rattle.std.specs.Cmp.Lexicographic.{bytes_decides}
use Rattle.std.proofs.lemmas.Bool.{eq-eqb, ne_eqb, cases_eq}
use Rattle.vlog_tree.specs.declared.tree.Connection.{Connection}
use Rattle.vlog_tree.specs.declared.tree.Item.{Item}
use Rattle.vlog_tree.specs.declared.tree.Item.TheVariants.{Wire, Reg, Memory, Assign, Always, Instance}
use Rattle.vlog_tree.specs.Form.{ModuleTree}
use Rattle.tapa_base.specs.Lists.{Has}
use Rattle.vlog_tree.specs.Table.{Name, clk, module_named}
use Rattle.vlog_module_laws.specs.Ranks.{HaveRanks}
use Rattle.vlog_module_laws.proofs.Ranks.{loopless}
use Rattle.hw_channel_lines.specs.Names.{channel_name, relay_name}
use Rattle.hw_channel_lines.specs.Texts.{step_tree, even_tree, odd_tree, fifo_tree, plain_tree, relayed_tree, AreRelays, One, More, AreModules, Alone, Relayed}
use Rattle.hw_channel_laws.specs.modules.Rules.{OfFirst, IsOutermost, HasNoWayThrough, HaveNoLoop, JoinClocks}
use Rattle.hw_channel_laws.proofs.modules.Parts.{part_of, IsPart, Outer, Queue, Part}
use Rattle.hw_channel_laws.proofs.modules.Ranks.{rank, IsCut, no_way, cut_step, cut_fifo, cut_even, cut_odd, cut_plain, cut_relayed}
use Rattle.hw_channel_laws.proofs.modules.Together.{finds, modules_apart, head_of, has_step, level_in, lower_level, modules_later}
use Rattle.tapa_base.proofs.Tests.{both_true}

pub outermost : (bits depth late : ℕ) (ms : List ModuleTree) → AreModules bits depth late ms → OfFirst (IsOutermost bits depth late) ms
outermost bits depth late ms (Alone k e) = (ap (channel_name bits depth) (sym e), refl)
outermost bits depth late ms (Relayed k relays l are) = (refl, refl)

-- ---- loops

module _ (ms : List ModuleTree) (is_top : Name → Bool) where
  abbrev AreFound : List ModuleTree → Type 0
  AreFound xs = (m : ModuleTree) → Has xs m → module_named ms m.name ≡ Some m

  relays_cut : (bits steps : ℕ) (xs : List ModuleTree) → AreRelays bits steps xs → AreFound xs → (m : ModuleTree) → Has xs m → IsCut ms is_top m
  relays_cut bits steps xs (One k e) found m (inl s) = subst (IsCut ms is_top) s (cut_step ms is_top bits)
  relays_cut bits steps xs (One k e) found m (inr h) = absurd h
  relays_cut bits steps xs (More k rest l r) found m (inr h) = relays_cut bits (k / 2) rest r (λ n i. found n (inr i)) m h
  relays_cut bits steps xs (More k rest l r) found m (inl s) =
      let c = head_of bits (k / 2) rest r in
      let cut_half : IsCut ms is_top c.0 = relays_cut bits (k / 2) rest r (λ n i. found n (inr i)) c.0 c.1 in
      let named : module_named ms (relay_name bits (k / 2)) ≡ Some c.0 = ap (module_named ms) (sym c.2) ∙ found c.0 (inr c.1) in
      let one : module_named ms (relay_name bits 1) ≡ Some (step_tree bits) = found (step_tree bits) (inr (has_step bits (k / 2) rest r)) in
      subst (IsCut ms is_top) s
      (⊎_elim
      (λ e. subst (IsCut ms is_top) (sym (ap (λ b. cond b (even_tree bits k (k / 2)) (odd_tree bits k (k / 2))) (eq-eqb (k % 2) 0 e))) (cut_even ms is_top bits k (k / 2) (c.0, named, cut_half, c.3)))
      (λ e.
      subst (IsCut ms is_top) (sym (ap (λ b. cond b (even_tree bits k (k / 2)) (odd_tree bits k (k / 2))) (ne_eqb (k % 2) 0 e)))
      (cut_odd ms is_top bits k (k / 2) (c.0, named, cut_half, c.3) (step_tree bits, one, cut_step ms is_top bits, refl)))
      (cases_eq (k % 2) 0))

  each_cut : (bits depth late : ℕ) (xs : List ModuleTree) → AreModules bits depth late xs → AreFound xs → (m : ModuleTree) → Has xs m → IsCut ms is_top m
  each_cut bits depth late xs (Alone k e) found m (inl s) =
      subst (IsCut ms is_top) s (cut_plain ms is_top bits depth (fifo_tree bits depth depth, found (fifo_tree bits depth depth) (inr (inl refl)), cut_fifo ms is_top bits depth depth, refl))
  each_cut bits depth late xs (Alone k e) found m (inr (inl s)) = subst (IsCut ms is_top) s (cut_fifo ms is_top bits depth depth)
  each_cut bits depth late xs (Alone k e) found m (inr (inr h)) = absurd h
  each_cut bits depth late xs (Relayed k relays l are) found m (inl s) =
      let c = head_of bits k relays are in
      let named : module_named ms (relay_name bits k) ≡ Some c.0 = ap (module_named ms) (sym c.2) ∙ found c.0 (inr (inr c.1)) in
      subst (IsCut ms is_top) s
      (cut_relayed ms is_top bits depth k (c.0, named, relays_cut bits k relays are (λ n i. found n (inr (inr i))) c.0 c.1, c.3)
      (fifo_tree bits depth (depth + 2 * k), found (fifo_tree bits depth (depth + 2 * k)) (inr (inl refl)), cut_fifo ms is_top bits depth (depth + 2 * k), refl))
  each_cut bits depth late xs (Relayed k relays l are) found m (inr (inl s)) = subst (IsCut ms is_top) s (cut_fifo ms is_top bits depth (depth + 2 * k))
  each_cut bits depth late xs (Relayed k relays l are) found m (inr (inr h)) = relays_cut bits k relays are (λ n i. found n (inr (inr i))) m h

module _ (bits depth late : ℕ) (ms : List ModuleTree) (are : AreModules bits depth late ms) (hb : bits < 2 ^ 32) (hl : late < 2 ^ 32) where
  ranks : (is_top : Name → Bool) → HaveRanks ms is_top
  ranks is_top = record {
    level = level_in ms;
    contains_lower = λ m kn h k. (lower_level ms (modules_apart bits depth late ms are hb hl) (modules_later bits depth late ms are) m h kn k).0;
    rank = λ m. rank;
    falls = λ m h. (each_cut ms is_top bits depth late ms are (finds ms (modules_apart bits depth late ms are hb hl)) m h).falls_by;
  }

  pub no_loop : HaveNoLoop ms
  no_loop is_top s h r = loopless ms is_top (ranks is_top) s r

  pub no_way_in : (m : ModuleTree) → Has ms m → HasNoWayThrough ms m
  no_way_in m h is_top x y out into r = no_way ms is_top m (each_cut ms is_top bits depth late ms are (finds ms (modules_apart bits depth late ms are hb hl)) m h) x y out into r

pub first_cut : (bits depth late : ℕ) (ms : List ModuleTree) → AreModules bits depth late ms → bits < 2 ^ 32 → late < 2 ^ 32 → OfFirst (HasNoWayThrough ms) ms
first_cut bits depth late ms (Alone k e) hb hl =
    no_way_in bits depth k (plain_tree bits depth ∷ fifo_tree bits depth depth ∷ []) (Alone k e) hb hl (plain_tree bits depth) (inl refl)
first_cut bits depth late ms (Relayed k relays l are) hb hl =
    no_way_in bits depth k (relayed_tree bits depth k ∷ fifo_tree bits depth (depth + 2 * k) ∷ relays) (Relayed k relays l are) hb hl (relayed_tree bits depth k) (inl refl)

-- ---- clocks

abbrev is_clocked : Connection → Bool
is_clocked l = cond (bytes_eq l.port clk) (bytes_eq l.net clk) true

abbrev are_clocked : Item → Bool
are_clocked (Instance k i connections) = list_all is_clocked connections
are_clocked (Wire w x) = true
are_clocked (Reg w x) = true
are_clocked (Memory w x n) = true
are_clocked (Assign x v) = true
are_clocked (Always b) = true

relay_clocked : (bits steps : ℕ) (a b : Bool) → list_all are_clocked (cond a (step_tree bits) (cond b (even_tree bits steps (steps / 2)) (odd_tree bits steps (steps / 2)))).items ≡ true
unfolding clk
relay_clocked bits steps true b = refl
relay_clocked bits steps false true = refl
relay_clocked bits steps false false = refl

outer_clocked : (bits depth late : ℕ) (a : Bool) → list_all are_clocked (cond a (plain_tree bits depth) (relayed_tree bits depth late)).items ≡ true
unfolding clk
outer_clocked bits depth late true = refl
outer_clocked bits depth late false = refl

part_clocked : (bits depth late : ℕ) (m : ModuleTree) → IsPart bits depth late m → list_all are_clocked m.items ≡ true
part_clocked bits depth late m (Outer e) = ap (λ (q : ModuleTree). list_all are_clocked q.items) e ∙ outer_clocked bits depth late (eqb late 0)
part_clocked bits depth late m (Queue e) = ap (λ (q : ModuleTree). list_all are_clocked q.items) e
part_clocked bits depth late m (Part r) = ap (λ (q : ModuleTree). list_all are_clocked q.items) r.is ∙ relay_clocked bits r.steps (eqb r.steps 1) (eqb (r.steps % 2) 0)

all_have : {A : Type 0} (p : A → Bool) (xs : List A) (x : A) → list_all p xs ≡ true → Has xs x → p x ≡ true
all_have p [] x h i = absurd i
all_have p (y ∷ ys) x h (inl e) = ap p (sym e) ∙ (both_true (p y) (list_all p ys) h).0
all_have p (y ∷ ys) x h (inr i) = all_have p ys x (both_true (p y) (list_all p ys) h).1 i

pub clocks : (bits depth late : ℕ) (ms : List ModuleTree) → AreModules bits depth late ms → JoinClocks ms
clocks bits depth late ms are m h k i connections has l joined port =
    let all : list_all are_clocked m.items ≡ true = part_clocked bits depth late m (part_of bits depth late ms are m h) in
    let own : list_all is_clocked connections ≡ true = all_have are_clocked m.items (Instance k i connections) all has in
    let this : cond (bytes_eq l.port clk) (bytes_eq l.net clk) true ≡ true = all_have is_clocked connections l own joined in
    (bytes_decides l.net clk).0 (sym (ap (λ b. cond b (bytes_eq l.net clk) true) ((bytes_decides l.port clk).1 port)) ∙ this)
