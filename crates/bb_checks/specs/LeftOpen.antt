-- When checks leave the question open: each requested one finds neither an error nor tables, would need more nodes or
-- may need more clauses than its bound, or its tables would have too many bits to be printed; when the question stays
-- open, whatever the solver does; and when a check decides.
use Rattle.std.specs.Prelude.{◌⊎◌, ◌<◌, ◌≤◌, ◌^◌, All, Contains}
use Rattle.bb_net.specs.Completions.{HaveSmallTables, table_bits}
use Rattle.bb_net.specs.Conditions.{MayBeRightAmong, MayBeRightEverywhere, EachSometimesRight, AllRightTogether, SomeChoicesSuit}
use Rattle.bb_net.specs.Kinds.{representatives}
use Rattle.bb_net.specs.Pairs.{NetPair}
use Rattle.bb_sym.specs.Functions.{symbolic_functions, local_functions, output_functions}
use Rattle.bb_input.specs.InputFunctions.{input_functions}
use Rattle.bb_nest.specs.Answers.{AreFinishable}
use Rattle.bb_expand.specs.ClauseCounts.{clause_total}
use Rattle.bb_expand.specs.GivenUp.{NeedsMoreClauses}
use Rattle.bb_options.specs.declared.options.Options.{Options}
use Rattle.bb_options.specs.declared.rung.Rung.{Rung}
use Rattle.bb_options.specs.declared.rung.Rung.TheVariants.{Ternary, Symbolic, Local, Output, Input, Expand}
use Rattle.bb_options.specs.Rungs.{requested_rungs}
use Rattle.bb_checks.specs.Rungs.{AreTooMany, tried}

-- what an open report implies for a check
abbrev pub MayLeaveOpen : NetPair → Options → Rung → Type 0
MayLeaveOpen p o Ternary = MayBeRightAmong p.spec p.imp (tried p o)
MayLeaveOpen p o Symbolic = AreTooMany o (symbolic_functions p.spec p.imp) ⊎ MayBeRightEverywhere p.spec p.imp
MayLeaveOpen p o Local = AreTooMany o (local_functions p.spec p.imp) ⊎ EachSometimesRight p.spec p.imp
MayLeaveOpen p o Output = AreTooMany o (output_functions p.spec p.imp) ⊎ AllRightTogether p.spec p.imp
MayLeaveOpen p o Input = AreTooMany o (input_functions p.spec p.imp) ⊎ (SomeChoicesSuit p.spec p.imp × (AreFinishable p.imp p.kinds → ⊥))
MayLeaveOpen p o Expand = (2 ^ 24 < table_bits (representatives p.kinds p.imp.boxes)) ⊎ NeedsMoreClauses p.spec p.imp p.kinds o.clauses

abbrev pub AllMayLeaveOpen : NetPair → Options → Type 0
AllMayLeaveOpen p o = All (MayLeaveOpen p o) (requested_rungs o)

-- what makes the question stay open with a check, whatever the solver does: the same but at the expansion, which may
-- find distinguishing vectors that decide where others would need more clauses, so that tables that are too large are
-- the only cause
abbrev pub MustLeaveOpen : NetPair → Options → Rung → Type 0
MustLeaveOpen p o Expand = 2 ^ 24 < table_bits (representatives p.kinds p.imp.boxes)
MustLeaveOpen p o r = MayLeaveOpen p o r

abbrev pub AllMustLeaveOpen : NetPair → Options → Type 0
AllMustLeaveOpen p o = All (MustLeaveOpen p o) (requested_rungs o)

-- a check decides: `input` where the boxes are nested (a single box is), their tables may be written down and the nodes
-- suffice; `expand` where its tables may be written down and the clauses suffice
abbrev pub Decides : NetPair → Options → Rung → Type 0
Decides p o Ternary = ⊥
Decides p o Symbolic = ⊥
Decides p o Local = ⊥
Decides p o Output = ⊥
Decides p o Input = AreFinishable p.imp p.kinds × (AreTooMany o (input_functions p.spec p.imp) → ⊥)
Decides p o Expand = HaveSmallTables (representatives p.kinds p.imp.boxes) × (clause_total p.imp ≤ o.clauses)

-- some requested check does
abbrev pub SomeDecides : NetPair → Options → Type 0
SomeDecides p o = (r : Rung) × Contains (requested_rungs o) r × Decides p o r
