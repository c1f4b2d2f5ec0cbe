-- Two devices of a file are one as plain data.
use Rattle.std.proofs.Common.{◌≡◌, ℕ, ◌<◌, List, Option, Some, None, false, length, get_or, refl, sym, ap, subst, ◌∙◌}
use Rattle.std.proofs.lemmas.List.{ext_get_or}
use Rattle.serde_json.specs.Data.{Data as Json}
use Rattle.tapa_syntax.specs.declared.program.Program.{Program}
use Rattle.task_graph.specs.declared.Graph.{Graph}
use Rattle.run_data.specs.Data.{IsJson}
use Rattle.plan_device.specs.Answer.{IsMeaning}
use Rattle.plan_device.specs.One.{AreAlike, FilesGiveOneDevice}
use Rattle.plan_device.specs.declared.device.Device.{Device}

-- options of which each holds what the other holds
one_option : (o p : Option ℕ) → ((s : ℕ) → o ≡ Some s → p ≡ Some s) → ((s : ℕ) → p ≡ Some s → o ≡ Some s) → o ≡ p
one_option None None there back = refl
one_option None (Some s) there back = back s refl
one_option (Some s) p there back = sym (there s refl)

one_json : (text : List ℕ) (a b : Json) → IsJson text a → IsJson text b → a ≡ b
one_json text a b h g = let both : Some a ≡ Some b = sym h.1 ∙ g.1 in cc

module _ (program : Program) (graph : Graph) (file : Json) (d e : Device) (m : IsMeaning program graph file d) (n : IsMeaning program graph file e) where
  same_slots : d.slots.items ≡ e.slots.items
  same_slots = m.slots ∙ sym n.slots

  same_pin : (g : ℕ) → g < length d.pins.items → get_or d.pins.items g None ≡ get_or e.pins.items g None
  same_pin g less =
      let inside : g < graph.groups = subst (λ k. g < k) m.each_group less in
      one_option (get_or d.pins.items g None) (get_or e.pins.items g None) (λ s at. (n.pins g s inside).1 ((m.pins g s inside).0 at)) (λ s at. (m.pins g s inside).1 ((n.pins g s inside).0 at))

  same_mark : (s : ℕ) → s < length d.forbidden.items → get_or d.forbidden.items s false ≡ get_or e.forbidden.items s false
  same_mark s less =
      let inside : s < length d.slots.items = subst (λ k. s < k) m.each_slot less in
      m.forbidden s inside ∙ sym (n.forbidden s (subst (λ k. s < k) (ap length same_slots) inside))

  alike : AreAlike d e
  alike = record {
    rows = m.rows ∙ sym n.rows;
    cols = m.cols ∙ sym n.cols;
    levels_rows = m.levels_rows ∙ sym n.levels_rows;
    levels_cols = m.levels_cols ∙ sym n.levels_cols;
    percent = m.percent ∙ sym n.percent;
    slots = same_slots;
    uses = m.uses ∙ sym n.uses;
    pins = ext_get_or None d.pins.items e.pins.items (m.each_group ∙ sym n.each_group) same_pin;
    forbidden = ext_get_or false d.forbidden.items e.forbidden.items (m.each_slot ∙ ap length same_slots ∙ sym n.each_slot) same_mark;
  }

pub one_device : FilesGiveOneDevice
one_device text program graph d e h g =
    alike program graph h.file d e h.meaning (subst (λ (f : Json). IsMeaning program graph f e) (one_json text g.file h.file g.is_json h.is_json) g.meaning)
