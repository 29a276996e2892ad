pub mod IsomorphicCells
pub mod FormulaLemmas
pub mod FormulaValues
pub mod OrderedFormulas
pub mod RearrangedFormulas
