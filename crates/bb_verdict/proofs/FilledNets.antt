-- A flat netlist that implements the filled design is called as the netlist that was filled, since the design is called as this one, and it
-- has no box, since the design has none. Each of its registers is a register bit of the design, and so a register of the netlist that was
-- filled; their clocks are one input, since a bit follows one input at most. At each vector the design has a world, whose bits both have.
use Rattle.std.proofs.Common.{◌≡◌, ◌↔◌, ◌<◌, ◌∷◌, ◌∙◌, ℕ, List, [], map, length, Contains, None, Option, Some, inl, refl, sym, ap, subst, arith}
use Rattle.std.specs.Prelude.{slice_get}
use Rattle.std.specs.Option.{option_and_then}
use Rattle.std.proofs.lemmas.List.Elements.{All-contains}
use Rattle.std.proofs.lemmas.Option.{slice_get-get_or}
use Rattle.bb_lemmas.proofs.Members.{all_from}
use Rattle.bb_lemmas.proofs.Places.{got-map, head_same, some_at, there_at}
use Rattle.bb_lemmas.proofs.Zips.{zip_at, zip_length}
use Rattle.bb_bits.specs.Contents.{Contents}
use Rattle.bb_bits.specs.Tables.{TableBits}
use Rattle.bb_net.specs.CutPoints.{clock_text}
use Rattle.bb_net.specs.Flats.{FlatNet, HaveClocks}
use Rattle.bb_net.specs.declared.flat.Reg.{Reg as Register}
use Rattle.bb_parse.specs.Laws.{SourcesAreFormed}
use Rattle.bb_design.specs.Hierarchy.{Design, boxes}
use Rattle.bb_design.specs.Inside.Allowed.{IsAllowed, SoundTextsAreAllowed}
use Rattle.bb_design.specs.NetBits.{top_inputs}
use Rattle.bb_design.specs.Refusals.{TwoDrivers}
use Rattle.bb_design.specs.Registers.{RegisterBit, registers}
use Rattle.bb_design.specs.Texts.{bit_text}
use Rattle.bb_design.specs.Worlds.{World, Vector, HasVector, IsWorld, outputs_in}
use Rattle.bb_implements.specs.Laws.ContentTables.{TablesGiveOutputs}
use Rattle.bb_implements.specs.Laws.ListLaws.{ImplementingNetsGiveOutputs}
use Rattle.bb_implements.specs.Laws.NamingLaws.{FollowedInputsAreOne}
use Rattle.bb_implements.specs.Implements.{IsClockInput, IsRegister, Implements, box_number, box_texts}
use Rattle.bb_fill.specs.Filled.{filled_text}
use Rattle.bb_fill.specs.Laws.{IsReady}
use Rattle.bb_fill.specs.Sizes.{IsSmallText}
use Rattle.bb_readback.specs.Laws.Designs.{IsCalledAs, IsRegisterOf, filled_design, outputs_by}
use Rattle.bb_readback.specs.Laws.{FilledDesignsAreNamedTheSame, FilledDesignsAreSound, FilledDesignsHaveBits, FilledModulesAreSound, FilledModulesAreTops}
use Rattle.bb_readback.specs.Laws.{FilledTextsAreRead}
use Rattle.bb_verdict.specs.Laws.FilledNets.{FilledNetsImplement, IsSameRegister}
use Rattle.bb_verdict.proofs.FilledAgree.{fits_none, no_boxes, no_tables, outputs_are}
use Rattle.bb_verdict.proofs.FilledNames.{stored_as}

pub record NetLaws : Type 0 where
  -- of the filled text
  pub read : FilledTextsAreRead
  pub formed : SourcesAreFormed
  pub faultless : FilledModulesAreSound
  pub tops : FilledModulesAreTops
  pub sound : FilledDesignsAreSound
  pub allowed : SoundTextsAreAllowed
  pub called : FilledDesignsAreNamedTheSame
  pub bits : FilledDesignsHaveBits
  -- of netlists that implement designs
  pub outputs : TablesGiveOutputs
  pub worlds : ImplementingNetsGiveOutputs
  pub one_input : FollowedInputsAreOne

-- the filled design is one of which the laws of designs speak
filled_is_allowed : NetLaws → (f : FlatNet) (tables : List TableBits) → IsReady f tables → HaveClocks f → IsSmallText f tables → IsAllowed (filled_design f tables)
filled_is_allowed laws f tables ready clocks small =
    let d = filled_design f tables in
    let top = (laws.tops f tables).alone in
    laws.allowed d.text None d.top (laws.formed (filled_text f tables) d.text (laws.read f tables ready clocks)) (laws.faultless f tables ready clocks small)
    (d.top, top, (laws.sound f tables ready clocks small).sound) top

-- a netlist g that implements a design that is called as a netlist f
module _ (d : Design) (f g : FlatNet) (called : IsCalledAs d f) (occurs : Implements d g) where
  module _ (one_input : FollowedInputsAreOne) (allowed : IsAllowed d) where
    -- the registers of one register bit have one clock
    one_clock : (b : RegisterBit) (r q : Register) → IsRegister d b r → IsRegisterOf d f b q → clock_text g r ≡ clock_text f q
    one_clock b r q is of = by r.clock refl is.clock.2
      where
        clock_is : is.clock.0 ≡ of.input
        clock_is = head_same is.clock.0 of.input [] [] (sym is.clock.1 ∙ of.clock)

        by : (o : Option ℕ) → r.clock ≡ o → IsClockInput d is.clock.0 o → clock_text g r ≡ clock_text f q
        by None same none = absurd (none of.input of.top (inl clock_is))
        by (Some k) same (c, at, follows) =
            let input : c ≡ of.input = one_input d (allowed.sound TwoDrivers) is.clock.0 c of.input (there_at (top_inputs d) k c at) of.top follows (inl clock_is) in
            ap (option_and_then (slice_get g.ins)) same ∙ ap (λ ins. slice_get ins k) occurs.ins ∙ got-map (bit_text d) (top_inputs d) k c at ∙ ap (λ e. Some (bit_text d e)) input ∙ sym of.named

    same_register : (b : RegisterBit) (r q : Register) → IsRegister d b r → IsRegisterOf d f b q → IsSameRegister g f r q
    same_register b r q is of = record { text = is.text ∙ of.text; edge = is.falling ∙ of.edge; clock = one_clock b r q is of }

    -- each register of g is one of f
    one_of : (r : Register) → Contains g.regs r → (q : Register) × Contains f.regs q × IsSameRegister g f r q
    one_of r has =
        let b = stored_as d g occurs r has in
        let q = All-contains (λ (c : RegisterBit). (q : Register) × Contains f.regs q × IsRegisterOf d f c q) (registers d) b.0 called.each b.1 in
        (q.0, q.1, same_register b.0 r q.0 b.2 q.2)

    -- the register that implements a register bit
    occurs_as : (b : RegisterBit) → Contains (registers d) b → (r : Register) × Contains g.regs r × IsRegister d b r
    occurs_as b (k, lt, e) =
        let r = some_at g.regs k (subst (λ n. k < n) (zip_length (IsRegister d) (registers d) g.regs occurs.regs) lt) in
        (r.0, there_at g.regs k r.0 r.1, zip_at (IsRegister d) (registers d) g.regs k b r.0 occurs.regs (slice_get-get_or (registers d) k b lt ∙ ap Some e) r.1)

    -- and each of f is one of g
    other_of : (q : Register) → Contains f.regs q → (r : Register) × Contains g.regs r × IsSameRegister g f r q
    other_of q has =
        let b = All-contains (λ (q : Register). (c : RegisterBit) × Contains (registers d) c × IsRegisterOf d f c q) f.regs q called.all has in
        let r = occurs_as b.0 b.1 in
        (r.0, r.1, same_register b.0 r.0 q r.2 b.2)

  -- without boxes it has none
  none_called : boxes d ≡ [] → g.boxes ≡ []
  none_called none = occurs.boxes ∙ ap (map (λ b. box_texts d (box_number d b))) (nothing occurs.numbers (occurs.ordered.number_count ∙ sym occurs.ordered.box_count ∙ no_boxes d none g occurs))
    where
      nothing : (numbers : List ℕ) → length numbers ≡ 0 → numbers ≡ []
      nothing [] long = refl
      nothing (n ∷ numbers) long = absurd (omega (arith, long))

  -- at a vector it has the bits of a world
  world_of : TablesGiveOutputs → ImplementingNetsGiveOutputs → IsAllowed d → boxes d ≡ [] → (contents : Contents) (x : Vector) → (w : World) × IsWorld d contents w × HasVector d x w × (outputs_in d w ≡ outputs_by g [] x)
  world_of outputs worlds allowed none contents x =
      let fit = fits_none d none contents in
      let w = (worlds d g allowed occurs contents x fit).0 in
      (w.0, w.1, w.2, outputs_are outputs d g allowed occurs contents [] fit (no_tables d none g occurs contents) x w.0 w.1 w.2)

pub filled_nets_implement : NetLaws → FilledNetsImplement
filled_nets_implement laws f tables ready clocks small g occurs =
    let d = filled_design f tables in
    let allowed = filled_is_allowed laws f tables ready clocks small in
    let called = laws.called f tables ready clocks small in
    let none = (laws.sound f tables ready clocks small).complete in
    record {
      ins = occurs.ins ∙ called.ins;
      outs = occurs.outs ∙ called.outs;
      boxes = none_called d f g called occurs none;
      each = all_from (λ r. (q : Register) × Contains f.regs q × IsSameRegister g f r q) g.regs (one_of d f g called occurs laws.one_input allowed);
      all = all_from (λ q. (r : Register) × Contains g.regs r × IsSameRegister g f r q) f.regs (other_of d f g called occurs laws.one_input allowed);
      count = sym (zip_length (IsRegister d) (registers d) g.regs occurs.regs) ∙ called.count;
      bits = λ x o b.
          let empty : Contents = λ path. [] in
          let w = world_of d f g called occurs laws.outputs laws.worlds allowed none empty x in
          subst (λ os. Contains os (o, b) ↔ Contains (outputs_by f tables x) (o, b)) w.3 (laws.bits f tables ready clocks small empty x w.0 w.1 w.2 o b);
    }
