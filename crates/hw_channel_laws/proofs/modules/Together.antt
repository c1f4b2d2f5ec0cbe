-- The modules of a channel together: each is found by its name, and stands before those that it contains.
use Rattle.std.proofs.Common.{◌≡◌, ℕ, suc, ◌+◌, ◌*◌, ◌/◌, ◌%◌, ◌^◌, ◌<◌, ◌≤◌, Bool, true, false, cond, eqb, List, [], ◌∷◌, Some, inl, inr, refl, sym, ap, subst, ◌∙◌, arith, ⊎_elim, length, map}
use Rattle.std.specs.Prelude.{◌⊎◌, bytes_eq, nat_le, count_by}
use Rattle.std.specs.Cmp.Lexicographic.{bytes_decides}
use Rattle.std.proofs.lemmas.Bool.Decides.{nat_tests}
use Rattle.vlog_tree.specs.declared.table.Declaration.{Declaration}
use Rattle.vlog_tree.specs.Form.{ModuleTree}
use Rattle.tapa_base.specs.Lists.{Has}
use Rattle.vlog_tree.specs.Table.{Name, module_named, module_declared, is_doubled_name, one_if}
use Rattle.vlog_tree.specs.V6.{module_children}
use Rattle.vlog_module_laws.proofs.Lists.{count_cons}
use Rattle.hw_channel_lines.specs.Names.{channel_name, fifo_name, relay_name}
use Rattle.hw_channel_lines.specs.Texts.{step_tree, even_tree, odd_tree, row_tree, fifo_tree, plain_tree, relayed_tree, AreRelays, One, More, AreModules, Alone, Relayed}
use Rattle.hw_channel_laws.proofs.modules.Numbers.{relay_numbers, letter, channel_letter, fifo_letter, relay_letter}
use Rattle.hw_channel_laws.proofs.modules.Relays.{row_name}
use Rattle.hw_channel_laws.proofs.modules.Parts.{relay_of, relay_tree_name}
use Rattle.hw_channel_laws.proofs.modules.Ranks.{relay_ports}
use Rattle.hw_build.proofs.Drivers.{few_blocks as not_two}

-- the names of these modules differ
abbrev pub AreApart : List ModuleTree → Type 0
AreApart [] = Unit {0}
AreApart (m ∷ ms) = ((n : ModuleTree) → Has ms n → m.name ≡ n.name → ⊥) × AreApart ms

differ_by : (x y : Name) (b : Bool) → bytes_eq x y ≡ b → (x ≡ y → ⊥) → bytes_eq x y ≡ false
differ_by x y true e h = absurd (h ((bytes_decides x y).0 e))
differ_by x y false e h = e

differ : (x y : Name) → (x ≡ y → ⊥) → bytes_eq x y ≡ false
differ x y h = differ_by x y (bytes_eq x y) refl h

abbrev how_many : List ModuleTree → Name → ℕ
how_many ms x = count_by (λ (d : Declaration). bytes_eq d.name x) (map module_declared ms)

one_more : (m : ModuleTree) (ms : List ModuleTree) (x : Name) → how_many (m ∷ ms) x ≡ one_if (bytes_eq m.name x) + how_many ms x
one_more m ms x = count_cons (λ (d : Declaration). bytes_eq d.name x) (module_declared m) (map module_declared ms)

none : (ms : List ModuleTree) (x : Name) → ((n : ModuleTree) → Has ms n → n.name ≡ x → ⊥) → how_many ms x ≡ 0
none [] x h = refl
none (m ∷ ms) x h =
    let c = one_more m ms x in
    let z : one_if (bytes_eq m.name x) ≡ 0 = ap one_if (differ m.name x (h m (inl refl))) in
    let r = none ms x (λ n i. h n (inr i)) in
    omega (arith, c, z, r)

at_most_one : (b : Bool) → one_if b ≤ 1
at_most_one true = omega arith
at_most_one false = omega arith

one : (ms : List ModuleTree) → AreApart ms → (m : ModuleTree) → Has ms m → how_many ms m.name ≤ 1
one [] a m h = absurd h
one (n ∷ ms) a m (inl e) =
    let c = one_more n ms m.name in
    let z = at_most_one (bytes_eq n.name m.name) in
    let r = none ms m.name (λ k i s. a.0 k i (ap (λ (q : ModuleTree). q.name) e ∙ sym s)) in
    omega (arith, c, z, r)
one (n ∷ ms) a m (inr h) =
    let c = one_more n ms m.name in
    let z : one_if (bytes_eq n.name m.name) ≡ 0 = ap one_if (differ n.name m.name (a.0 m h)) in
    let r = one ms a.1 m h in
    omega (arith, c, z, r)

pub single : (ms : List ModuleTree) → AreApart ms → (m : ModuleTree) → Has ms m → is_doubled_name (map module_declared ms) m.name ≡ false
single ms a m h = not_two (how_many ms m.name) (one ms a m h)

pub finds : (ms : List ModuleTree) → AreApart ms → (m : ModuleTree) → Has ms m → module_named ms m.name ≡ Some m
finds [] a m h = absurd h
finds (n ∷ ms) a m (inl e) = ap (λ b. cond b (Some n) (module_named ms m.name)) ((bytes_decides n.name m.name).1 (ap (λ (q : ModuleTree). q.name) e)) ∙ ap Some e
finds (n ∷ ms) a m (inr h) = ap (λ b. cond b (Some n) (module_named ms m.name)) (differ n.name m.name (a.0 m h)) ∙ finds ms a.1 m h

-- ---- the modules of channels are apart

relays_apart : (bits steps : ℕ) (xs : List ModuleTree) → AreRelays bits steps xs → bits < 2 ^ 32 → steps < 2 ^ 32 → AreApart xs
relays_apart bits steps xs (One k e) hb hs = (λ n h s. absurd h, tt)
relays_apart bits steps xs (More k rest l r) hb hs = (apart, relays_apart bits (k / 2) rest r hb (omega arith)) where
  apart : (n : ModuleTree) → Has rest n → (row_tree bits k).name ≡ n.name → ⊥
  apart n h s =
      let t = relay_of bits (k / 2) rest r n h in
      let few = t.few in
      let low : t.steps < 2 ^ 64 = omega (arith, few) in
      let names : relay_name bits k ≡ relay_name bits t.steps = sym (row_name bits k) ∙ s ∙ ap (λ (q : ModuleTree). q.name) t.is ∙ relay_tree_name bits t.steps in
      let same = (relay_numbers bits k bits t.steps (omega arith) (omega arith) (omega arith) low names).1 in
      absurd (omega (arith, same, few))

relay_letters : (bits steps : ℕ) (xs : List ModuleTree) → AreRelays bits steps xs → (m : ModuleTree) → Has xs m → letter m.name ≡ 114
relay_letters bits steps xs r m h =
    let t = relay_of bits steps xs r m h in
    ap (λ (q : ModuleTree). letter q.name) t.is ∙ ap letter (relay_tree_name bits t.steps) ∙ relay_letter bits t.steps

apart_by_letter : (x y : Name) (a b : ℕ) → letter x ≡ a → letter y ≡ b → (a ≡ b → ⊥) → x ≡ y → ⊥
apart_by_letter x y a b e f h s = h (sym e ∙ ap letter s ∙ f)

pub modules_apart : (bits depth late : ℕ) (ms : List ModuleTree) → AreModules bits depth late ms → bits < 2 ^ 32 → late < 2 ^ 32 → AreApart ms
modules_apart bits depth late ms (Alone k e) hb hl = (outer, (λ n h s. absurd h, tt)) where
  outer : (n : ModuleTree) → Has (fifo_tree bits depth depth ∷ []) n → channel_name bits depth 0 ≡ n.name → ⊥
  outer n (inl e) s = apart_by_letter (channel_name bits depth 0) n.name 99 102 (channel_letter bits depth 0) (ap (λ (q : ModuleTree). letter q.name) (sym e) ∙ fifo_letter bits depth depth) (λ t. omega arith) s
  outer n (inr h) s = absurd h
modules_apart bits depth late ms (Relayed k relays l are) hb hl = (outer, (inner, relays_apart bits k relays are hb hl)) where
  inner : (n : ModuleTree) → Has relays n → fifo_name bits depth (depth + 2 * k) ≡ n.name → ⊥
  inner n h s = apart_by_letter (fifo_name bits depth (depth + 2 * k)) n.name 102 114 (fifo_letter bits depth (depth + 2 * k)) (relay_letters bits k relays are n h) (λ t. omega arith) s

  outer : (n : ModuleTree) → Has (fifo_tree bits depth (depth + 2 * k) ∷ relays) n → channel_name bits depth k ≡ n.name → ⊥
  outer n (inl e) s = apart_by_letter (channel_name bits depth k) n.name 99 102 (channel_letter bits depth k) (ap (λ (q : ModuleTree). letter q.name) (sym e) ∙ fifo_letter bits depth (depth + 2 * k)) (λ t. omega arith) s
  outer n (inr h) s = apart_by_letter (channel_name bits depth k) n.name 99 114 (channel_letter bits depth k) (relay_letters bits k relays are n h) (λ t. omega arith) s

-- ---- what a relay is made of

row_ports_are : (bits steps : ℕ) (b : Bool) → (cond b (even_tree bits steps (steps / 2)) (odd_tree bits steps (steps / 2))).ports ≡ relay_ports bits
row_ports_are bits steps true = refl
row_ports_are bits steps false = refl

-- the outermost module of a relay
abbrev pub IsHead : (bits steps : ℕ) (xs : List ModuleTree) → Type 0
IsHead bits steps xs = (c : ModuleTree) × Has xs c × (c.name ≡ relay_name bits steps) × (c.ports ≡ relay_ports bits)

pub head_of : (bits steps : ℕ) (xs : List ModuleTree) → AreRelays bits steps xs → IsHead bits steps xs
head_of bits steps xs (One k e) = (step_tree bits, inl refl, ap (relay_name bits) (sym e), refl)
head_of bits steps xs (More k rest l r) = (row_tree bits k, inl refl, row_name bits k, row_ports_are bits k (eqb (k % 2) 0))

pub has_step : (bits steps : ℕ) (xs : List ModuleTree) → AreRelays bits steps xs → Has xs (step_tree bits)
has_step bits steps xs (One k e) = inl refl
has_step bits steps xs (More k rest l r) = inr (has_step bits (k / 2) rest r)

-- each module stands before those that it contains
abbrev IsContained : List ModuleTree → Name → Type 0
IsContained ms kn = (n : ModuleTree) × Has ms n × (n.name ≡ kn)

abbrev pub ContainLater : List ModuleTree → Type 0
ContainLater [] = Unit {0}
ContainLater (m ∷ ms) = ((kn : Name) → Has (module_children m) kn → IsContained ms kn) × ContainLater ms

row_children : (bits steps : ℕ) (b : Bool) (kn : Name) → Has (module_children (cond b (even_tree bits steps (steps / 2)) (odd_tree bits steps (steps / 2)))) kn
    → (relay_name bits (steps / 2) ≡ kn) ⊎ (relay_name bits 1 ≡ kn)
unfolding module_children
row_children bits steps true kn (inl e) = inl e
row_children bits steps true kn (inr (inl e)) = inl e
row_children bits steps true kn (inr (inr h)) = absurd h
row_children bits steps false kn (inl e) = inl e
row_children bits steps false kn (inr (inl e)) = inl e
row_children bits steps false kn (inr (inr (inl e))) = inr e
row_children bits steps false kn (inr (inr (inr h))) = absurd h

relays_later : (bits steps : ℕ) (xs : List ModuleTree) → AreRelays bits steps xs → ContainLater xs
unfolding module_children
relays_later bits steps xs (One k e) = (λ kn h. absurd h, tt)
relays_later bits steps xs (More k rest l r) = (later, relays_later bits (k / 2) rest r) where
  later : (kn : Name) → Has (module_children (row_tree bits k)) kn → IsContained rest kn
  later kn h =
      ⊎_elim (λ e. let c = head_of bits (k / 2) rest r in (c.0, c.1, c.2 ∙ e)) (λ e. (step_tree bits, has_step bits (k / 2) rest r, e)) (row_children bits k (eqb (k % 2) 0) kn h)

pub modules_later : (bits depth late : ℕ) (ms : List ModuleTree) → AreModules bits depth late ms → ContainLater ms
unfolding module_children
modules_later bits depth late ms (Alone k e) = (later, (λ kn h. absurd h, tt)) where
  later : (kn : Name) → Has (module_children (plain_tree bits depth)) kn → IsContained (fifo_tree bits depth depth ∷ []) kn
  later kn (inl e) = (fifo_tree bits depth depth, inl refl, e)
  later kn (inr h) = absurd h
modules_later bits depth late ms (Relayed k relays l are) = (later, (λ kn h. absurd h, relays_later bits k relays are)) where
  later : (kn : Name) → Has (module_children (relayed_tree bits depth k)) kn → IsContained (fifo_tree bits depth (depth + 2 * k) ∷ relays) kn
  later kn (inl e) = let c = head_of bits k relays are in (c.0, inr c.1, c.2 ∙ e)
  later kn (inr (inl e)) = (fifo_tree bits depth (depth + 2 * k), inl refl, e)
  later kn (inr (inr h)) = absurd h

-- so that the number of modules from a module on is its level
abbrev pub level_in : List ModuleTree → Name → ℕ
level_in [] x = 0
level_in (m ∷ ms) x = cond (bytes_eq m.name x) (suc (length ms)) (level_in ms x)

low_by : (n k : ℕ) (b : Bool) → k ≤ n → cond b (suc n) k ≤ suc n
low_by n k true h = omega arith
low_by n k false h = omega arith

level_low : (ms : List ModuleTree) (x : Name) → level_in ms x ≤ length ms
level_low [] x = omega arith
level_low (m ∷ ms) x = low_by (length ms) (level_in ms x) (bytes_eq m.name x) (level_low ms x)

pub lower_level : (ms : List ModuleTree) → AreApart ms → ContainLater ms → (m : ModuleTree) → Has ms m → (kn : Name) → Has (module_children m) kn → (level_in ms kn < level_in ms m.name) × IsContained ms kn
lower_level [] a c m h kn k = absurd h
lower_level (n ∷ ms) a c m (inl e) kn k =
    let t = c.0 kn (subst (λ q. Has (module_children q) kn) (sym e) k) in
    let below : level_in (n ∷ ms) kn ≡ level_in ms kn = ap (λ b. cond b (suc (length ms)) (level_in ms kn)) (differ n.name kn (λ s. a.0 t.0 t.1 (s ∙ sym t.2))) in
    let here : level_in (n ∷ ms) m.name ≡ suc (length ms) = ap (λ b. cond b (suc (length ms)) (level_in ms m.name)) ((bytes_decides n.name m.name).1 (ap (λ (q : ModuleTree). q.name) e)) in
    let low = level_low ms kn in
    (omega (arith, below, here, low), (t.0, inr t.1, t.2))
lower_level (n ∷ ms) a c m (inr h) kn k =
    let r = lower_level ms a.1 c.1 m h kn k in
    let t = r.1 in
    let below : level_in (n ∷ ms) kn ≡ level_in ms kn = ap (λ b. cond b (suc (length ms)) (level_in ms kn)) (differ n.name kn (λ s. a.0 t.0 t.1 (s ∙ sym t.2))) in
    let here : level_in (n ∷ ms) m.name ≡ level_in ms m.name = ap (λ b. cond b (suc (length ms)) (level_in ms m.name)) (differ n.name m.name (a.0 m h)) in
    let low = r.0 in
    (omega (arith, below, here, low), (t.0, inr t.1, t.2))
