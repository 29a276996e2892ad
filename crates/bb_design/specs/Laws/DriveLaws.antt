-- Laws of what drives a bit, of registers, and of worlds bit by bit.
use Rattle.std.specs.Prelude.{◌≡◌, Bool, List, ◌++◌, flat_map, length, map, Contains}
use Rattle.bb_ast.specs.declared.module.Gate.{Gate}
use Rattle.bb_ast.specs.Syntax.{PlainAlways, Always, PlainBody, PlainModule}
use Rattle.bb_bits.specs.Bits.{low_bits}
use Rattle.bb_expr.specs.Terms.{Term, term_bit}
use Rattle.bb_expr.specs.Values.{Bits}
use Rattle.bb_design.specs.Constructs.{Construct, Register, body_constructs, parts}
use Rattle.bb_design.specs.Contexts.{context_width, value_in}
use Rattle.bb_design.specs.Dependence.{dependences}
use Rattle.bb_design.specs.Drivers.{Free, Drive, driven, drives_at, driven_bits}
use Rattle.bb_design.specs.GateFunctions.{on_bits, on_terms, gate_gives}
use Rattle.bb_design.specs.Hierarchy.{Design, Scope}
use Rattle.bb_design.specs.NetBits.{Bit, net_order, top_inputs, top_outputs, written_bits}
use Rattle.bb_design.specs.Reading.{IsReadBit}
use Rattle.bb_design.specs.Registers.{RegisterBit, data_terms, registers, stored, stored_at}
use Rattle.bb_design.specs.Worlds.{World, bit_in, next_bit, outputs_in}

-- a gate of terms has the bit that the gate gives for the bits of the terms
abbrev pub GatesGoByTerms : Type 0
GatesGoByTerms = (env : Bits) (gate : Gate) (ts : List Term) → term_bit env (gate_gives on_terms gate ts) ≡ gate_gives on_bits gate (map (term_bit env) ts)

-- the inputs of the top are driven first
abbrev pub TopInputsAreDriven : Type 0
TopInputsAreDriven = (d : Design) → driven_bits d ≡ top_inputs d ++ map (λ u. u.bit) (flat_map drives_at (parts d))

-- what depends on another bit is driven
abbrev pub DependentBitsAreDriven : Type 0
DependentBitsAreDriven = (d : Design) (b c : Bit) → Contains (dependences d) (b, c) → Contains (driven_bits d) b

-- a construct stores to bits that it drives without source, and to no others
pub record StoresTo (part : Scope × Construct) : Type 0 where
  pub driven : (r : RegisterBit) → Contains (stored_at part) r → Contains (drives_at part) (driven Free r.bit)
  pub stored : (x : Drive) → Contains (drives_at part) x → x.source ≡ Free → (r : RegisterBit) × Contains (stored_at part) r × (r.bit ≡ x.bit)
  -- it is an always item where it stores
  pub always : (r : RegisterBit) → Contains (stored_at part) r → part ≡ (r.scope, Register r.item)

abbrev pub StoredBitsAreDriven : Type 0
StoredBitsAreDriven = (part : Scope × Construct) → StoresTo part

-- a bit of the design that is stored to is a register, and a register is stored to by an always item
abbrev pub StoredBitsAreRegisters : Type 0
StoredBitsAreRegisters = (d : Design) (r : RegisterBit) → Contains (stored d) r → Contains (net_order d) r.bit → (q : RegisterBit) × Contains (registers d) q × (q.bit ≡ r.bit)

abbrev pub RegistersAreParts : Type 0
RegistersAreParts = (d : Design) (r : RegisterBit) → Contains (registers d) r → Contains (parts d) (r.scope, Register r.item)

abbrev pub RegistersAreAlwaysItems : Type 0
RegistersAreAlwaysItems = (text : List PlainModule) (body : PlainBody) (a : PlainAlways) → Contains (body_constructs text body) (Register a) → body ≡ Always a

-- the next state of a register is what its terms give
abbrev pub NextStatesGoByTerms : Type 0
NextStatesGoByTerms = (w : World) (s : Scope) (a : PlainAlways) → low_bits (length (written_bits s a.left)) (value_in (w s.path) s a.right (context_width s a.left a.right)) ≡ map (term_bit (w s.path)) (data_terms s a)

-- the bits of the cut outputs of a world, in their order
abbrev pub cut_output_bits : Design → World → List Bool
cut_output_bits d w = map (bit_in w) (top_outputs d) ++ map (next_bit w) (registers d)

abbrev pub OutputsAreInOrder : Type 0
OutputsAreInOrder = (d : Design) (w : World) → map (λ o. o.1) (outputs_in d w) ≡ cut_output_bits d w

-- worlds that agree wherever a bit is read have the same bits at the cut outputs
abbrev pub OutputsGoByReadBits : Type 0
OutputsGoByReadBits = (d : Design) (w u : World) → ((b : Bit) → IsReadBit d b → bit_in w b ≡ bit_in u b) → cut_output_bits d w ≡ cut_output_bits d u
