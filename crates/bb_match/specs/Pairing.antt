-- When a pair is that of two flat netlists that fit. Inputs, outputs and registers go by their texts, in the order of
-- the specification, whose netlist stays as it is; the cells of the implementation stay in their order, but for its
-- inputs, which come in the order of the specification; its boxes stay as they are, each of the sharing class (kind) of
-- its key, which is its path, so a class of its own, unless boxes of one module share their contents. Where a care
-- output is requested, it is left out of the specification's outputs, and the others count only where it is 1: it is
-- taken out first, the rest is paired as every pair is, and then guarded, so that fit, refusals and the order of
-- outputs are defined once.
use Rattle.std.specs.Prelude.{◌≡◌, ℕ, suc, Bool, List, map, ◌++◌, take, drop, true, false, Option, None, Some, slice_get, slice_index}
use Rattle.bb_care.specs.Constrained.{constrained}
use Rattle.bb_net.specs.declared.pair.OutName.{OutName}
use Rattle.bb_net.specs.Kinds.{AreKinds}
use Rattle.bb_net.specs.Pairs.{NetPair, box_key}
use Rattle.bb_net.specs.Rearrangements.{IsRearranged}
use Rattle.bb_net.specs.Flats.{FlatNet}
use Rattle.bb_net.specs.CutPoints.{CutInput, TopInput, State, CutOutput, TopOutput, NextState, cut_inputs, cut_outputs}
use Rattle.bb_match.specs.Refusals.{Fit}

abbrev pub input_text : CutInput → List ℕ
input_text (TopInput text) = text
input_text (State text) = text

abbrev pub output_name : CutOutput → OutName
output_name (TopOutput text) = record { next = false; text = text }
output_name (NextState text) = record { next = true; text = text }

-- the items at these places of a list
abbrev pub Picks : {A : Type 0} → List A → List ℕ → List A → Type 0
Picks list places picked = map (slice_get list) places ≡ map Some picked

-- where no care output is requested
pub record IsPlainPairOf (shared : Bool) (spec imp : FlatNet) (p : NetPair) : Type 0 where
  pub fit : Fit None spec imp
  pub spec_stays : p.spec ≡ spec.net
  -- input i of the implementation is the input numbers(i) of the specification, and output j of the specification the
  -- output picks(j) of the implementation
  pub numbers : List ℕ
  pub picks : List ℕ
  pub rearranged : IsRearranged numbers picks imp.net p.imp
  pub inputs : Picks (cut_inputs spec) numbers (cut_inputs imp)
  pub outputs : Picks (cut_outputs imp) picks (cut_outputs spec)
  pub ins : p.ins ≡ map input_text (cut_inputs spec)
  pub outs : p.outs ≡ map output_name (cut_outputs spec)
  pub boxes : p.boxes ≡ imp.boxes
  pub kinds : AreKinds (map (box_key shared) imp.boxes) p.kinds

-- a list without the item at a place
abbrev pub without : {A : Type 0} → ℕ → List A → List A
without place list = take place list ++ drop (suc place) list

-- a flat netlist without an output of the top, given by its number
abbrev pub without_output : ℕ → FlatNet → FlatNet
without_output k f = record f { net = record f.net { outs = without k f.net.outs }; outs = without k f.outs }

-- where this output of the specification says at which vectors the others count
pub record IsConstrainedPairOf (care : List ℕ) (shared : Bool) (spec imp : FlatNet) (p : NetPair) : Type 0 where
  -- its number
  pub place : ℕ
  pub occurs : slice_get spec.outs place ≡ Some care
  -- the pair of all other outputs
  pub rest : NetPair
  pub paired : IsPlainPairOf shared (without_output place spec) imp rest
  pub is : p ≡ constrained (slice_index spec.net.outs place) rest

abbrev pub IsPairOf : Option (List ℕ) → Bool → FlatNet → FlatNet → NetPair → Type 0
IsPairOf None shared spec imp p = IsPlainPairOf shared spec imp p
IsPairOf (Some care) shared spec imp p = IsConstrainedPairOf care shared spec imp p
