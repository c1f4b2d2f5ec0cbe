pub mod LeastSolution
