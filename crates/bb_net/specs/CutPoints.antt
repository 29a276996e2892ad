-- What a flat netlist takes from outside and what it gives, in the order of its inputs and outputs. A register bit is
-- cut: its present state is an input, its next state an output. Each is identified by its kind and its text.
use Rattle.std.specs.Prelude.{ℕ, List, map, ◌++◌, Option}
use Rattle.std.specs.Prelude.{slice_get}
use Rattle.std.specs.Option.{option_and_then}
use Rattle.bb_net.specs.declared.flat.Reg.{Reg}
use Rattle.bb_net.specs.Flats.{FlatNet}

-- what a design takes from outside, by its kind and its text: a bit of an input port of the top, or a register bit
pub data CutInput : Type 0 where
  TopInput : List ℕ → CutInput
  State : List ℕ → CutInput

-- what it gives: a bit of an output port of the top, or the next state of a register bit
pub data CutOutput : Type 0 where
  TopOutput : List ℕ → CutOutput
  NextState : List ℕ → CutOutput

abbrev pub state_texts : FlatNet → List (List ℕ)
state_texts f = map (λ r. r.text) f.regs

abbrev pub cut_inputs : FlatNet → List CutInput
cut_inputs f = map TopInput f.ins ++ map State (state_texts f)

abbrev pub cut_outputs : FlatNet → List CutOutput
cut_outputs f = map TopOutput f.outs ++ map NextState (state_texts f)

-- the text of the input that is the clock of a register, if one is
abbrev pub clock_text : FlatNet → Reg → Option (List ℕ)
clock_text f r = option_and_then (slice_get f.ins) r.clock
