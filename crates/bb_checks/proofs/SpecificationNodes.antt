-- Where the cells of the specification need more nodes than a check may hold, each check by diagrams says `nodes`.
use Rattle.std.proofs.Common.{refl}
use Rattle.bb_net.specs.Pairs.{NetPair}
use Rattle.bb_options.specs.declared.options.Options.{Options}
use Rattle.bb_options.specs.declared.rung.Rung.TheVariants.{Ternary, Symbolic, Local, Output, Input, Expand}
use Rattle.bb_input.specs.InputFunctions.{input_functions}
use Rattle.bb_sym.specs.Functions.{specification_functions, symbolic_functions, local_functions, output_functions}
use Rattle.bb_sym.specs.Laws.{HoldsSpecification}
use Rattle.bb_checks.specs.declared.specification.Specification.TheVariants.{Exceeds}
use Rattle.bb_checks.specs.Inside.Specification.{IsKnown}
use Rattle.bb_checks.specs.Rungs.{AreTooMany, TooMany, ChoicesTooMany}

module _ (symbolic : HoldsSpecification symbolic_functions) (local : HoldsSpecification local_functions) (output : HoldsSpecification output_functions) (input : HoldsSpecification input_functions) where
  pub each_reports_nodes : (p : NetPair) (o : Options) → AreTooMany o (specification_functions p.spec p.imp) → IsKnown p o Exceeds
  each_reports_nodes p o many Ternary is = cc is
  each_reports_nodes p o many Symbolic is = TooMany (symbolic p.spec p.imp o.nodes many) refl
  each_reports_nodes p o many Local is = TooMany (local p.spec p.imp o.nodes many) refl
  each_reports_nodes p o many Output is = TooMany (output p.spec p.imp o.nodes many) refl
  each_reports_nodes p o many Input is = ChoicesTooMany (input p.spec p.imp o.nodes many) refl
  each_reports_nodes p o many Expand is = cc is
