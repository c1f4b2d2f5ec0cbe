-- What a task's module is made of, without where it lies in memory.
use Rattle.hw_lines.specs.Shape.{Shape as ShapeForm, shape_of}
use Rattle.hw_nets.specs.declared.shape.Shape.{Shape}

unfoldable pub form : Shape → ShapeForm
form s = shape_of s.machine.now s.memories.now s.streams.now
