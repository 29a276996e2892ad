-- Inputs and outputs of a pair that implements two designs have the names of those of the specification that are compared.
use Rattle.std.proofs.Common.{◌≡◌, ◌++◌, ◌∙◌, ℕ, Bool, List, map, None, Option, Some, sym, ap, ap₂, subst}
use Rattle.bb_net.specs.CutPoints.{TopInput, State, TopOutput, NextState, cut_inputs}
use Rattle.bb_net.specs.Flats.{FlatNet, IsFlat}
use Rattle.bb_net.specs.Pairs.{NetPair}
use Rattle.bb_implements.specs.Implements.{Implements}
use Rattle.bb_design.specs.Hierarchy.{Design}
use Rattle.bb_match.specs.Laws.{ComparedAreTheOthers}
use Rattle.bb_match.specs.Pairing.{IsPairOf, input_text, output_name}
use Rattle.bb_match.specs.Refusals.{compared}
use Rattle.bb_equiv.specs.Laws.Mistakes.{PairsAreNamed, outputs_of}
use Rattle.bb_equiv.specs.Mistakes.{inputs_of}
use Rattle.bb_equiv.proofs.NamedVectors.{registers_are}
use Rattle.bb_equiv.proofs.SeenPairs.{compared_outputs, less_outputs}

-- a netlist that implements a design has its inputs and its outputs

module _ (d : Design) (f : FlatNet) (occurs : Implements d f) where
  pub inputs_are : inputs_of d ≡ cut_inputs f
  inputs_are = ap₂ (λ ns ms. map TopInput ns ++ map State ms) (sym occurs.ins) (sym (registers_are d f occurs))

pub outputs_are : (care : Option (List ℕ)) (d : Design) (f : FlatNet) → Implements d f → outputs_of care d ≡ compared_outputs care f
outputs_are care d f occurs = ap₂ (λ ns ms. map TopOutput (compared care ns) ++ map NextState ms) (sym occurs.outs) (sym (registers_are d f occurs))

-- and a pair has those of the netlists

pub record IsNamedIn (care : Option (List ℕ)) (f : FlatNet) (p : NetPair) : Type 0 where
  pub ins : p.ins ≡ map input_text (cut_inputs f)
  pub outs : p.outs ≡ map output_name (compared_outputs care f)

named_in : ComparedAreTheOthers → (care : Option (List ℕ)) (shared : Bool) (f g : FlatNet) (p : NetPair) → IsFlat f → IsPairOf care shared f g p → IsNamedIn care f p
named_in others None shared f g p flat_f paired = record { ins = paired.ins; outs = paired.outs }
named_in others (Some care) shared f g p flat_f paired =
    subst (IsNamedIn (Some care) f) (sym paired.is) (record { ins = paired.paired.ins; outs = paired.paired.outs ∙ ap (map output_name) (less_outputs others f flat_f care paired.place paired.occurs) })

pub pairs_are_named : ComparedAreTheOthers → PairsAreNamed
pairs_are_named others care shared spec imp p pair =
    let named = named_in others care shared pair.spec_net pair.imp_net p pair.spec_flat pair.paired in
    record {
      ins = named.ins ∙ ap (map input_text) (sym (inputs_are spec pair.spec_net pair.spec_implements));
      outs = named.outs ∙ ap (map output_name) (sym (outputs_are care spec pair.spec_net pair.spec_implements));
    }
