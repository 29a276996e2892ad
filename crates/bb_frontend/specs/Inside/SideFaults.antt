-- The faults of tokens, of statements, of names and of a design as faults of one side. Lack of memory is one of its
-- own.
use Rattle.bb_design.specs.declared.fault.ElabFault.{ElabFault}
use Rattle.bb_design.specs.declared.fault.ElabFault.TheVariants as elab
use Rattle.bb_names.specs.declared.fault.NameFault.{NameFault}
use Rattle.bb_names.specs.declared.fault.NameFault.TheVariants as name
use Rattle.bb_lex.specs.declared.fault.LexFault.{LexFault}
use Rattle.bb_lex.specs.declared.fault.LexFault.TheVariants as lex
use Rattle.bb_parse.specs.declared.fault.ParseFault.{ParseFault}
use Rattle.bb_parse.specs.declared.fault.ParseFault.TheVariants as parse
use Rattle.bb_frontend.specs.declared.side_fault.SideFault.{SideFault}
use Rattle.bb_frontend.specs.declared.side_fault.SideFault.TheVariants.{Token, Statement, Deep, Unended, Named, Elaborated, NoMemory}

abbrev pub of_lex : LexFault → SideFault
of_lex (lex.Bad line) = Token line
of_lex lex.NoMemory = NoMemory

abbrev pub of_parse : ParseFault → SideFault
of_parse (parse.Statement line) = Statement line
of_parse parse.Unended = Unended
of_parse (parse.Deep line) = Deep line
of_parse parse.NoMemory = NoMemory

abbrev pub of_name : NameFault → SideFault
of_name (name.Twice line n) = Named (name.Twice line n)
of_name (name.Unknown line n) = Named (name.Unknown line n)
of_name (name.Select line n) = Named (name.Select line n)
of_name (name.Width line n) = Named (name.Width line n)
of_name (name.Role line n) = Named (name.Role line n)
of_name name.NoMemory = NoMemory

abbrev pub of_elab : ElabFault → SideFault
of_elab elab.NoTop = Elaborated elab.NoTop
of_elab (elab.Recursive n) = Elaborated (elab.Recursive n)
of_elab (elab.TooDeep n) = Elaborated (elab.TooDeep n)
of_elab elab.TooLarge = Elaborated elab.TooLarge
of_elab (elab.DrivenTwice n) = Elaborated (elab.DrivenTwice n)
of_elab (elab.Undriven n) = Elaborated (elab.Undriven n)
of_elab (elab.Loop n) = Elaborated (elab.Loop n)
of_elab (elab.BoxTwice n) = Elaborated (elab.BoxTwice n)
of_elab (elab.RegTwice n) = Elaborated (elab.RegTwice n)
of_elab (elab.PortTwice n) = Elaborated (elab.PortTwice n)
of_elab elab.NoMemory = NoMemory
