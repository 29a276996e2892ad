-- The flat netlist of a design whose cells are in order and whose texts are found: it implements the design, and where no text
-- is twice, the design is sound.
use Rattle.std.proofs.Common.{◌≡◌, ℕ, ◌<◌, List, map, length, Contains, ap, ◌∙◌, subst, arith}
use Rattle.std.specs.Prelude.{All, slice_index}
use Rattle.std.specs.List.{AllZip, enumerate_from}
use Rattle.std.proofs.lemmas.List.{length-map, get_or_default}
use Rattle.bb_ast.specs.Syntax.{PlainModule}
use Rattle.bb_net.specs.Loose.{LooseList}
use Rattle.bb_net.specs.Netlists.{Netlist}
use Rattle.bb_net.specs.Pairs.{BoxTexts as BoxTextsOf}
use Rattle.bb_design.specs.declared.fault.ElabFault.{ElabFault}
use Rattle.bb_net.specs.declared.flat.Reg.{Reg}
use Rattle.bb_elab.specs.declared.elaboration.Elaborated.{Elaborated}
use Rattle.bb_net.specs.Flats.{FlatNet, IsFlat}
use Rattle.bb_design.specs.Hierarchy.{Design, boxes}
use Rattle.bb_implements.specs.Laws.ListLaws.{ImplementingNetsAreFlat, ImplementingNetsArePrintable}
use Rattle.bb_design.specs.NetBits.{net_order}
use Rattle.bb_blast.specs.Inside.Placements.{IsScopeAt, IsStoredAt}
use Rattle.bb_implements.specs.Places.{pins_of}
use Rattle.bb_design.specs.Refusals.{TwoDrivers, NoDriver, Cycle, BoxTexts, RegisterTexts, PortTexts, IsAbsentInDesign, IsSoundDesign, IsRefusalOf, input_texts, output_texts}
use Rattle.bb_design.specs.Laws.CauseLaws.{ReportsCause, AreClear}
use Rattle.bb_design.specs.Registers.{RegisterBit, registers}
use Rattle.bb_elab.specs.Inside.Stages.{IsElaborated, AreLevelized}
use Rattle.bb_implements.specs.Implements.{IsRegister, Implements, box_number, box_texts}
use Rattle.bb_lemmas.proofs.Members.{all_from}
use Rattle.bb_lemmas.proofs.Places.{there_at}
use Rattle.bb_lemmas.proofs.Numbered.{length-enumerated}
use Rattle.bb_lemmas.proofs.Zips.{zip_length}
use Rattle.bb_elab.proofs.FiniteDesigns.{finite_clear}
use Rattle.bb_elab.proofs.TimedRegisters.{zip_back}
use Rattle.bb_design.specs.Laws.DesignLaws.{DesignLaws}

module _ (of_designs : DesignLaws) (text : List PlainModule) (d : Design) (g : Elaborated) (has : IsElaborated text d g) (list : LooseList) (net : Netlist) (numbers : List ℕ) (are : AreLevelized d list net numbers) where
  -- each number is that of a box
  number_there : (b : ℕ) → Contains numbers b → b < length (boxes d)
  number_there b there =
      let inside = (are.ordered.boxes there.0 (omega (arith, there.1, are.ordered.number_count))).0 in
      let is : slice_index numbers there.0 ≡ b = get_or_default numbers there.0 0 b there.1 ∙ there.2 in
      omega (arith, inside, is, boxes_listed)
    where
      boxes_listed : length list.boxes ≡ length (boxes d)
      boxes_listed = ap length are.listed.boxes ∙ length-map (enumerate_from 0 (boxes d)) (pins_of are.listed.number) ∙ length-enumerated 0 (boxes d)

  pub numbers_within : (boxed : List ℕ) → AllZip (IsScopeAt d) boxed (boxes d) → (seen : List ℕ) → seen ≡ numbers → All (λ b. b < length boxed) seen
  numbers_within boxed all seen same = all_from (λ b. b < length boxed) seen (λ b there.
      let inside = number_there b (subst (λ l. Contains l b) same there) in
      omega (arith, inside, zip_length (IsScopeAt d) boxed (boxes d) all))

  register_there : (r : RegisterBit) → Contains (registers d) r → Contains (net_order d) r.bit
  register_there r there =
      let x = zip_back (IsStoredAt d) g.stored.items (registers d) r has.elaborated.registers there in
      there_at (net_order d) x.0.bit r.bit x.2.bit

  -- no cause before the texts
  clear_of_loops : AreClear d 6
  clear_of_loops = (of_designs.causes d).next Cycle ((of_designs.causes d).next NoDriver ((of_designs.causes d).next TwoDrivers (finite_clear of_designs d has.finite) has.elaborated.once) are.driven) are.acyclic

  pub boxes_refused : (fault : ElabFault) → ReportsCause d BoxTexts fault → IsRefusalOf d fault
  boxes_refused fault reports = (of_designs.causes d).refused BoxTexts fault reports clear_of_loops

  module _ (boxes_apart : IsAbsentInDesign d BoxTexts) where
    pub registers_refused : (fault : ElabFault) → ReportsCause d RegisterTexts fault → IsRefusalOf d fault
    registers_refused fault reports = (of_designs.causes d).refused RegisterTexts fault reports ((of_designs.causes d).next BoxTexts clear_of_loops boxes_apart)

    module _ (registers_apart : IsAbsentInDesign d RegisterTexts) where
      pub ports_refused : (fault : ElabFault) → ReportsCause d PortTexts fault → IsRefusalOf d fault
      ports_refused fault reports = (of_designs.causes d).refused PortTexts fault reports ((of_designs.causes d).next RegisterTexts ((of_designs.causes d).next BoxTexts clear_of_loops boxes_apart) registers_apart)

      module _ (ports_apart : IsAbsentInDesign d PortTexts) (ins : List (List ℕ)) (regs : List Reg) (outs : List (List ℕ)) (named : List BoxTextsOf)
          (ins_are : ins ≡ input_texts d) (regs_are : AllZip (IsRegister d) (registers d) regs) (outs_are : outs ≡ output_texts d) (named_are : named ≡ map (λ b. box_texts d (box_number d b)) numbers) where
        pub is_sound : IsSoundDesign d
        is_sound = (of_designs.causes d).sound ((of_designs.causes d).next PortTexts ((of_designs.causes d).next RegisterTexts ((of_designs.causes d).next BoxTexts clear_of_loops boxes_apart) registers_apart) ports_apart)

        abbrev pub flat : FlatNet
        flat = record { net = net; ins = ins; regs = regs; outs = outs; boxes = named }

        pub occurs : Implements d flat
        occurs = record {
          netlist = are.netlist;
          lowering = are.lowering;
          lowered = are.lowered;
          cells = list;
          listed = are.listed;
          numbers = numbers;
          ordered = are.ordered;
          ins = ins_are;
          regs = regs_are;
          outs = outs_are;
          boxes = named_are;
        }

        pub is_flat : ImplementingNetsAreFlat → ImplementingNetsArePrintable → IsFlat flat
        is_flat law printable = law d flat (record { bounded = has.finite.bounded; sound = is_sound }) occurs (printable d flat has.finite.bounded occurs)
