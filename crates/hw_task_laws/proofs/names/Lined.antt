-- The lines of a module that is made, and the names of modules of tasks.
use Rattle.std.proofs.Common.{◌≡◌, ◌+◌, ◌≤◌, true, List, [], ◌∷◌, ◌++◌, length, ap, arith, length-append}
use Rattle.std.specs.Prelude.{codes}
use Rattle.std.specs.List.{flat_map, list_all}
use Rattle.vlog_tree.specs.declared.tree.Item.{Item}
use Rattle.vlog_tree.specs.declared.tree.PortDecl.{PortDecl}
use Rattle.vlog_tree.specs.Names.{has_name_form, starts_name, goes_on}
use Rattle.vlog_tree.specs.Table.{Name}
use Rattle.vlog_module_laws.proofs.Labelled.{early_name}
use Rattle.hw_build.specs.Elements.{Element, Input, element_ports, element_items, empty, built}
use Rattle.hw_build.proofs.Tables.{ports_of_all, items_of_all}
use Rattle.hw_task_laws.specs.names.Countable.{LinesCountElements, TitlesAreNames}

one_line : (e : Element) → 1 ≤ length (element_ports e) + length (element_items e)
one_line (Input w x) = omega arith
one_line _ = omega arith

all_lines : (elements : List Element) → length elements ≤ length (flat_map element_ports elements) + length (flat_map element_items elements)
all_lines [] = omega arith
all_lines (e ∷ elements) =
    let p = length-append (element_ports e) (flat_map element_ports elements) in
    let i = length-append (element_items e) (flat_map element_items elements) in
    let here = one_line e in
    let rest = all_lines elements in
    omega (arith, p, i, here, rest)

pub lines_count : LinesCountElements
lines_count title elements =
    let p : length (built title elements).ports ≡ length ((empty title).ports ++ flat_map element_ports elements) = ap (λ (l : List PortDecl). length l) (ports_of_all elements (empty title)) in
    let i : length (built title elements).items ≡ length (flat_map element_items elements) = ap (λ (l : List Item). length l) (items_of_all elements (empty title)) in
    let q = length-append (empty title).ports (flat_map element_ports elements) in
    let rest = all_lines elements in
    omega (arith, p, i, q, rest)

title_form : (x : Name) → list_all goes_on x ≡ true → has_name_form (codes "t" ++ 95 ∷ x) ≡ true
unfolding starts_name goes_on
title_form x h = h

pub titles_are_names : TitlesAreNames
titles_are_names x h = early_name (codes "t") x (omega arith) (title_form x h)
