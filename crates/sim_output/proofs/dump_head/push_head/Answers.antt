use Rattle.std.proofs.Common.{◌≡◌, ◌++◌, List, ℕ, sym, ap, ◌∙◌}
use Rattle.std.specs.Prelude.{codes, map}
use Rattle.vlog_tree.specs.declared.table.Declaration.{Declaration}
use Rattle.vlog_tree.specs.Form.{ModuleTree}
use Rattle.vcd_text.specs.Dump.{var_line, lines_from, head_text}
use Rattle.sim_output.specs.Dumped.{net_of, nets_of, widths_of}
use Rattle.sim_output.proofs.Heading.{nets_among, five_behind}
use Rattle.sim_output.proofs.dump_head.push_head.Goals as goal

pub returns-clause-text : goal.returns-clause-text
returns-clause-text c = λ m at.
    let top = c.top-top.result.now in
    let same : top ≡ m = cc (at, c.top-top.ensures) in
    let names = c.declarations.ensures ∙ c.scope.ensures m at in
    let lines = c.in_ok-widths.ensures.text ∙ ap (λ (ds : List Declaration). c.extend_from_slice-3.new.self.items ++ lines_from var_line 0 (nets_among ds)) names in
    let name = c.in_ok-extend_from_slice-2.ensures.items ∙ ap (λ (l : List ℕ). c.extend_from_slice.new.self.items ++ l) (c.bytes.ensures.value ∙ c.name.ensures ∙ ap (λ (k : ModuleTree). k.name) same) in
    five_behind c.args.text.now.items c.extend_from_slice.new.self.items c.extend_from_slice-2.new.self.items c.extend_from_slice-3.new.self.items c.push_nets.new.text.items c.extend_from_slice-4.new.self.items
    (codes "$timescale 1 ns $end\n$scope module ") m.name (codes " $end\n") (lines_from var_line 0 (nets_of m)) (codes "$upscope $end\n$enddefinitions $end\n")
    c.in_ok-extend_from_slice.ensures.items name c.in_ok-extend_from_slice-3.ensures.items lines c.in_ok-extend_from_slice-4.ensures.items

pub returns-clause-widths : goal.returns-clause-widths
returns-clause-widths c = λ m at. c.in_ok-widths.ensures.widths ∙ ap (λ (ds : List Declaration). widths_of (nets_among ds)) (c.declarations.ensures ∙ c.scope.ensures m at)
