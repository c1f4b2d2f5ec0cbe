-- What parts of a task denote.
use Rattle.std.specs.Prelude.{ℕ, ◌^◌, ◌-◌, min, List, ◌++◌, map, Result}
use Rattle.tapa_syntax.specs.declared.program.Stmt.{Stmt}
use Rattle.tapa_syntax.specs.Flat.{FlatExpression, FlatStatement, flat_expression, flat_statement}
use Rattle.check_scope.specs.declared.fault.Broken.{Broken}
use Rattle.check_scope.specs.declared.fault.CheckFault.{CheckFault}
use Rattle.check_scope.specs.Answers.{ScopeAnswers}
use Rattle.check_leaf.specs.declared.target.Target.{Target}
use Rattle.check_leaf.specs.declared.target.Target.TheVariants.{Variable, Cell, Word}
use Rattle.check_leaf.specs.Statements as task
use Rattle.check_leaf.specs.Statements.{Frame}

abbrev pub flat_target : Target → task.Target
flat_target (Variable k n) = task.in_variable k n
flat_target (Cell k n i) = task.in_cell k n (flat_expression i)
flat_target (Word k n i) = task.in_word k n (flat_expression i)

-- what a part leaves: a frame and code
abbrev pub Part : Type 0
Part = Frame × List FlatStatement

-- the number of a variable or an array, and the frame that it is declared in
abbrev pub Numbered : Type 0
Numbered = ℕ × Frame

-- what the head of a for leaves: a frame and code, and its test and its step
abbrev pub HeadPart : Type 0
HeadPart = Frame × List FlatStatement × FlatExpression × List FlatStatement

-- code is added that a part means, and a frame is left
abbrev pub Adds : Result (Unit {0}) CheckFault → Frame → List Stmt → List Stmt → List Broken → Frame → List FlatStatement → Type 0
Adds result f before after faults g code = ScopeAnswers {B = Part} (λ x. (f, map flat_statement after)) result faults (g, map flat_statement before ++ code)

-- code is added that a part means, and the frame stays
abbrev pub Appends : Result (Unit {0}) CheckFault → List Stmt → List Stmt → List Broken → List FlatStatement → Type 0
Appends result before after faults code = ScopeAnswers (λ x. map flat_statement after) result faults (map flat_statement before ++ code)
