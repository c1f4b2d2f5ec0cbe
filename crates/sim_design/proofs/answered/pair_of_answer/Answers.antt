use Rattle.std.proofs.Common.{sym, ap, map, ◌∙◌}
use Rattle.std.specs.Prelude.{is_some}
use Rattle.vlog_tree.specs.Table.{declaration_name}
use Rattle.vlog_tree.specs.Labels.{m_addr}
use Rattle.vlog_scope.specs.NameTable.{places_from}
use Rattle.sim_tape.specs.Trees.{tree_of}
use Rattle.sim_tape.proofs.Growing.{solved_on}
use Rattle.vlog_run_laws.proofs.runs.Ascii.{addr_ascii}
use Rattle.sim_design.proofs.Answering.{answer_told, label_there, asked_there, asked_number}
use Rattle.sim_design.proofs.answered.pair_of_answer.Goals as goal

pub new-addr-requires : goal.new-addr-requires
new-addr-requires c = addr_ascii c.in_ok-addr_name.field-0.items c.args.label.now c.in_ok-addr_name.ensures c.requires.ascii

pub returns-clause-told : goal.returns-clause-told
returns-clause-told c = λ ms top f memories flat names are some five.
    let label = c.args.label.now in
    let place =
    c.in-Some-place.ensures ∙ ap (λ y. places_from 0 (map declaration_name c.args.scope.now) y) (c.new-addr.ensures ∙ c.in_ok-addr_name.ensures)
    ∙ ap (λ ds. places_from 0 (map declaration_name ds) (m_addr label)) names in
    answer_told ms top f flat label some five c.args.pairs.now memories c.args.outside.now c.in-Some.place are c.in-Some.ensures.at (c.in-Some-place.at, c.in-Some-place.field-0-1) (sym place) c.in-Some-pair_of.asked (sym c.in-Some-pair_of.ensures.value)
    (tree_of c.operate.new.self) c.in_ok-cell.ensures.extends.new_tape c.in_ok-cell.cell c.in_ok-memory.memory (λ cells ns h. c.in_ok-cell.ensures.says cells ns h)
    (λ cells ns h. c.in_ok-memory.ensures.says cells ns (solved_on _ _ c.in_ok-cell.ensures.extends cells ns h))

pub returns-in_default-clause-some : goal.returns-in_default-clause-some
returns-in_default-clause-some c = λ ms top f flat names are some five asked.
    let g = label_there ms top f flat c.args.label.now some five c.args.outside.now are in
    c.in_default.ensures.there g.0 g.1

pub returns-in_default-place-clause-some : goal.returns-in_default-place-clause-some
returns-in_default-place-clause-some c = λ ms top f flat names are some five asked.
    let label = c.args.label.now in
    let place =
    c.in_default-place.ensures ∙ ap (λ y. places_from 0 (map declaration_name c.args.scope.now) y) (c.new-addr.ensures ∙ c.in_ok-addr_name.ensures)
    ∙ ap (λ ds. places_from 0 (map declaration_name ds) (m_addr label)) names in
    absurd (asked_there ms top f flat label some five (sym place))

pub returns-in_default-pair_of-clause-some : goal.returns-in_default-pair_of-clause-some
returns-in_default-pair_of-clause-some c = λ ms top f flat names are some five asked.
    let label = c.args.label.now in
    let place =
    c.in-Some-place.ensures ∙ ap (λ y. places_from 0 (map declaration_name c.args.scope.now) y) (c.new-addr.ensures ∙ c.in_ok-addr_name.ensures)
    ∙ ap (λ ds. places_from 0 (map declaration_name ds) (m_addr label)) names in
    ap is_some c.in_default-pair_of.ensures.value ∙ asked c.in-Some-place.at (asked_number ms top f flat label some five (c.in-Some-place.at, c.in-Some-place.field-0-1) (sym place))
