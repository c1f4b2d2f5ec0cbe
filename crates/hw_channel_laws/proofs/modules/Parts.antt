-- The modules of a channel, one by one.
use Rattle.std.proofs.Common.{◌≡◌, ℕ, ◌+◌, ◌*◌, ◌/◌, ◌^◌, ◌<◌, ◌≤◌, cond, eqb, List, inl, inr, sym, ap, ◌∙◌, arith, ⊎_elim}
use Rattle.std.proofs.lemmas.Bool.{eq-eqb, ne_eqb, cases_eq}
use Rattle.vlog_tree.specs.Form.{ModuleTree}
use Rattle.tapa_base.specs.Lists.{Has}
use Rattle.hw_channel_lines.specs.Names.{channel_name, fifo_name, relay_name}
use Rattle.hw_channel_lines.specs.Texts.{step_tree, row_tree, fifo_tree, plain_tree, relayed_tree, AreRelays, One, More, AreModules, Alone, Relayed}
use Rattle.hw_channel_laws.proofs.modules.Relays.{row_name}
use Rattle.hw_channel_laws.specs.modules.Rules.{NamesTellModules, AreNoTasks}
use Rattle.hw_channel_laws.proofs.modules.Numbers.{relay_numbers, fifo_numbers, channel_numbers, letter, channel_letter, fifo_letter, relay_letter, task_letter}

-- a relay's module by its number of steps
abbrev pub relay_tree : (bits steps : ℕ) → ModuleTree
relay_tree bits steps = cond (eqb steps 1) (step_tree bits) (row_tree bits steps)

abbrev pub outer_tree : (bits depth late : ℕ) → ModuleTree
outer_tree bits depth late = cond (eqb late 0) (plain_tree bits depth) (relayed_tree bits depth late)

pub relay_tree_name : (bits steps : ℕ) → (relay_tree bits steps).name ≡ relay_name bits steps
relay_tree_name bits steps =
    ⊎_elim
    (λ e. ap (λ b. (cond b (step_tree bits) (row_tree bits steps)).name) (eq-eqb steps 1 e) ∙ ap (relay_name bits) (sym e))
    (λ e. ap (λ b. (cond b (step_tree bits) (row_tree bits steps)).name) (ne_eqb steps 1 e) ∙ row_name bits steps)
    (cases_eq steps 1)

pub one_is : (bits steps : ℕ) → steps ≡ 1 → step_tree bits ≡ relay_tree bits steps
one_is bits steps e = sym (ap (λ b. cond b (step_tree bits) (row_tree bits steps)) (eq-eqb steps 1 e))

pub row_is : (bits steps : ℕ) → 1 < steps → row_tree bits steps ≡ relay_tree bits steps
row_is bits steps l = sym (ap (λ b. cond b (step_tree bits) (row_tree bits steps)) (ne_eqb steps 1 (λ e. omega arith)))

-- each module of a relay is that of some number of steps
pub record IsRelayOf (bits most : ℕ) (m : ModuleTree) : Type 0 where
  pub steps : ℕ
  pub some : 0 < steps
  pub few : steps ≤ most
  pub is : m ≡ relay_tree bits steps

pub relay_of : (bits steps : ℕ) (xs : List ModuleTree) → AreRelays bits steps xs → (m : ModuleTree) → Has xs m → IsRelayOf bits steps m
relay_of bits steps xs (One k e) m (inl h) = record { steps = k; some = omega arith; few = omega arith; is = sym h ∙ one_is bits k e }
relay_of bits steps xs (One k e) m (inr h) = absurd h
relay_of bits steps xs (More k rest l r) m (inl h) = record { steps = k; some = omega arith; few = omega arith; is = sym h ∙ row_is bits k l }
relay_of bits steps xs (More k rest l r) m (inr h) =
    let t = relay_of bits (k / 2) rest r m h in
    record { steps = t.steps; some = t.some; few = (let s = t.few in omega (arith, s)); is = t.is }

-- and each module of a channel is the outermost, the FIFO or one of the relay
pub data IsPart (bits depth late : ℕ) (m : ModuleTree) : Type 0 where
  Outer : m ≡ outer_tree bits depth late → IsPart bits depth late m
  Queue : m ≡ fifo_tree bits depth (depth + 2 * late) → IsPart bits depth late m
  Part : IsRelayOf bits late m → IsPart bits depth late m

plain_is : (bits depth late : ℕ) → late ≡ 0 → plain_tree bits depth ≡ outer_tree bits depth late
plain_is bits depth late e = sym (ap (λ b. cond b (plain_tree bits depth) (relayed_tree bits depth late)) (eq-eqb late 0 e))

relayed_is : (bits depth late : ℕ) → 0 < late → relayed_tree bits depth late ≡ outer_tree bits depth late
relayed_is bits depth late l = sym (ap (λ b. cond b (plain_tree bits depth) (relayed_tree bits depth late)) (ne_eqb late 0 (λ e. omega arith)))

pub outer_name : (bits depth late : ℕ) → (outer_tree bits depth late).name ≡ channel_name bits depth late
outer_name bits depth late =
    ⊎_elim
    (λ e. ap (λ b. (cond b (plain_tree bits depth) (relayed_tree bits depth late)).name) (eq-eqb late 0 e) ∙ ap (channel_name bits depth) (sym e))
    (λ e. ap (λ b. (cond b (plain_tree bits depth) (relayed_tree bits depth late)).name) (ne_eqb late 0 e))
    (cases_eq late 0)

pub part_of : (bits depth late : ℕ) (ms : List ModuleTree) → AreModules bits depth late ms → (m : ModuleTree) → Has ms m → IsPart bits depth late m
part_of bits depth late ms (Alone k e) m (inl h) = Outer (sym h ∙ plain_is bits depth k e)
part_of bits depth late ms (Alone k e) m (inr (inl h)) = let same : depth ≡ depth + 2 * k = omega arith in Queue (sym h ∙ ap (fifo_tree bits depth) same)
part_of bits depth late ms (Alone k e) m (inr (inr h)) = absurd h
part_of bits depth late ms (Relayed k relays l are) m (inl h) = Outer (sym h ∙ relayed_is bits depth k l)
part_of bits depth late ms (Relayed k relays l are) m (inr (inl h)) = Queue (sym h)
part_of bits depth late ms (Relayed k relays l are) m (inr (inr h)) = Part (relay_of bits k relays are m h)

-- the first letter of its name tells which
abbrev letter_of : (bits depth late : ℕ) (m : ModuleTree) → IsPart bits depth late m → ℕ
letter_of bits depth late m (Outer e) = 99
letter_of bits depth late m (Queue e) = 102
letter_of bits depth late m (Part r) = 114

letter_is : (bits depth late : ℕ) (m : ModuleTree) (p : IsPart bits depth late m) → letter m.name ≡ letter_of bits depth late m p
letter_is bits depth late m (Outer e) = ap (λ (n : ModuleTree). letter n.name) e ∙ ap letter (outer_name bits depth late) ∙ channel_letter bits depth late
letter_is bits depth late m (Queue e) = ap (λ (n : ModuleTree). letter n.name) e ∙ fifo_letter bits depth (depth + 2 * late)
letter_is bits depth late m (Part r) = ap (λ (n : ModuleTree). letter n.name) r.is ∙ ap letter (relay_tree_name bits r.steps) ∙ relay_letter bits r.steps

pub no_tasks : (bits depth late : ℕ) (ms : List ModuleTree) → AreModules bits depth late ms → AreNoTasks ms
no_tasks bits depth late ms are m h x e =
    let p = part_of bits depth late ms are m h in
    let t : letter m.name ≡ 116 = ap letter e ∙ task_letter x in
    never m p t where
      never : (m : ModuleTree) (p : IsPart bits depth late m) → letter m.name ≡ 116 → ⊥
      never m (Outer e) t = let l : letter m.name ≡ 99 = letter_is bits depth late m (Outer e) in absurd (omega arith)
      never m (Queue e) t = let l : letter m.name ≡ 102 = letter_is bits depth late m (Queue e) in absurd (omega arith)
      never m (Part r) t = let l : letter m.name ≡ 114 = letter_is bits depth late m (Part r) in absurd (omega arith)

different : (a b : ℕ) → (a ≡ b → ⊥) → a ≡ b → ⊥
different a b h e = h e

-- parts of one name are one module
module _ (b d l c e k : ℕ) (hb : b < 2 ^ 32) (hd : d + 2 * l < 2 ^ 32) (hc : c < 2 ^ 32) (he : e + 2 * k < 2 ^ 32) (m n : ModuleTree) (same : m.name ≡ n.name) where
  other_letters : (p : IsPart b d l m) (q : IsPart c e k n) → letter_of b d l m p ≡ letter_of c e k n q
  other_letters p q = sym (letter_is b d l m p) ∙ ap letter same ∙ letter_is c e k n q

  outers : m ≡ outer_tree b d l → n ≡ outer_tree c e k → m ≡ n
  outers f g =
      let names : channel_name b d l ≡ channel_name c e k = sym (outer_name b d l) ∙ ap (λ (x : ModuleTree). x.name) (sym f) ∙ same ∙ ap (λ (x : ModuleTree). x.name) g ∙ outer_name c e k in
      let t = channel_numbers b d l c e k (omega arith) (omega arith) (omega arith) (omega arith) (omega arith) (omega arith) names in
      f ∙ ap (λ z. outer_tree z d l) t.0 ∙ ap (λ z. outer_tree c z l) t.1 ∙ ap (λ z. outer_tree c e z) t.2 ∙ sym g

  queues : m ≡ fifo_tree b d (d + 2 * l) → n ≡ fifo_tree c e (e + 2 * k) → m ≡ n
  queues f g =
      let names : fifo_name b d (d + 2 * l) ≡ fifo_name c e (e + 2 * k) = ap (λ (x : ModuleTree). x.name) (sym f) ∙ same ∙ ap (λ (x : ModuleTree). x.name) g in
      let t = fifo_numbers b d (d + 2 * l) c e (e + 2 * k) (omega arith) (omega arith) (omega arith) (omega arith) (omega arith) (omega arith) names in
      f ∙ ap (λ z. fifo_tree z d (d + 2 * l)) t.0 ∙ ap (λ z. fifo_tree c z (d + 2 * l)) t.1 ∙ ap (λ z. fifo_tree c e z) t.2 ∙ sym g

  relays : IsRelayOf b l m → IsRelayOf c k n → m ≡ n
  relays f g =
      let names : relay_name b f.steps ≡ relay_name c g.steps = sym (relay_tree_name b f.steps) ∙ ap (λ (x : ModuleTree). x.name) (sym f.is) ∙ same ∙ ap (λ (x : ModuleTree). x.name) g.is ∙ relay_tree_name c g.steps in
      let low : f.steps < 2 ^ 64 = (let s = f.few in omega (arith, s)) in
      let low_too : g.steps < 2 ^ 64 = (let s = g.few in omega (arith, s)) in
      let t = relay_numbers b f.steps c g.steps (omega arith) low (omega arith) low_too names in
      f.is ∙ ap (λ z. relay_tree z f.steps) t.0 ∙ ap (λ z. relay_tree c z) t.1 ∙ sym g.is

  one_part : IsPart b d l m → IsPart c e k n → m ≡ n
  one_part (Outer f) (Outer g) = outers f g
  one_part (Queue f) (Queue g) = queues f g
  one_part (Part f) (Part g) = relays f g
  one_part (Outer f) (Queue g) = absurd (different 99 102 (λ t. omega arith) (other_letters (Outer f) (Queue g)))
  one_part (Outer f) (Part g) = absurd (different 99 114 (λ t. omega arith) (other_letters (Outer f) (Part g)))
  one_part (Queue f) (Outer g) = absurd (different 102 99 (λ t. omega arith) (other_letters (Queue f) (Outer g)))
  one_part (Queue f) (Part g) = absurd (different 102 114 (λ t. omega arith) (other_letters (Queue f) (Part g)))
  one_part (Part f) (Outer g) = absurd (different 114 99 (λ t. omega arith) (other_letters (Part f) (Outer g)))
  one_part (Part f) (Queue g) = absurd (different 114 102 (λ t. omega arith) (other_letters (Part f) (Queue g)))

pub names_tell : NamesTellModules
names_tell b d l c e k ms ns are too hb hd hc he m n h i same = one_part b d l c e k hb hd hc he m n same (part_of b d l ms are m h) (part_of c e k ns too n i)
