-- Blocks by their flat list of steps, from left to right, as a loop reads them.
use Rattle.std.specs.Prelude.{◌≡◌, true, List, [], codes}
use Rattle.vlog_tree.specs.declared.tree.Step.{Step}
use Rattle.vlog_tree.specs.declared.tree.Step.TheVariants.{If, Else, End, NonblockingAssign, MemoryAssign}
use Rattle.vlog_tree.specs.Form.{nested}
use Rattle.tapa_base.specs.Spans.{◌⨾◌, Each}
use Rattle.vlog_lex.specs.Spans.{Part, Takes}
use Rattle.vlog_lex.specs.Grammar.{SpellsName, SpellsAtom, SpellsCondition}

-- a step without its body: an else and an end close what is open
abbrev pub SpellsStep : Step → Part
SpellsStep (If c) = SpellsCondition c ⨾ Takes (codes "begin")
SpellsStep Else = Takes (codes "end") ⨾ Takes (codes "else") ⨾ Takes (codes "begin")
SpellsStep End = Takes (codes "end")
SpellsStep (NonblockingAssign x a) = SpellsName x ⨾ Takes (codes "<=") ⨾ SpellsAtom a ⨾ Takes (codes ";")
SpellsStep (MemoryAssign m x a) = SpellsName m ⨾ Takes (codes "[") ⨾ SpellsName x ⨾ Takes (codes "]") ⨾ Takes (codes "<=") ⨾ SpellsAtom a ⨾ Takes (codes ";")

-- `begin`, steps that are nested, and `end`
abbrev pub SpellsFlatBlock : List Step → Part
SpellsFlatBlock steps i j = (nested [] steps ≡ true) × (Takes (codes "begin") ⨾ Each SpellsStep steps ⨾ Takes (codes "end")) i j
