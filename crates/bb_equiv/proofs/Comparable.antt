-- Designs that fit can be compared: a copy has the bit of which it is one, so a clock has the bit of the input from which it comes; and the
-- netlists of a pair settle them.
use Rattle.std.proofs.Common.{◌≡◌, ◌∙◌, ◌∷◌, Bool, List, [], map, Contains, sym, ap, subst, inl, inr}
use Rattle.std.proofs.lemmas.List.Elements.{All-contains}
use Rattle.bb_bits.specs.Closures.{Leads, One, More}
use Rattle.bb_bits.specs.Contents.{Contents}
use Rattle.bb_bits.specs.Tables.{TableBits}
use Rattle.bb_lemmas.proofs.Members.{contains_cases, from_flat, from_map, none_in_nil}
use Rattle.bb_expr.specs.Terms.{Term, Const, Net, Not, And, Or, Xor, Mux, term_bit}
use Rattle.bb_design.specs.Drivers.{DrivingSource, Free, MadeOf, Box, Drive, drives}
use Rattle.bb_design.specs.Hierarchy.{Path, Design}
use Rattle.bb_design.specs.Inside.Allowed.{IsAllowed}
use Rattle.bb_design.specs.Laws.DesignLaws.{DesignLaws}
use Rattle.bb_design.specs.Laws.DrivenWorlds.{Gives, IsGiven}
use Rattle.bb_design.specs.NetBits.{Bit}
use Rattle.bb_design.specs.Reading.{bit_itself, copied, copied_bits}
use Rattle.bb_design.specs.Registers.{RegisterBit, registers}
use Rattle.bb_design.specs.Worlds.{World, IsWorld, FitDesign, bit_in, bits_in}
use Rattle.bb_implements.specs.Implements.{IsCopyOf}
use Rattle.bb_net.specs.Flats.{FlatNet}
use Rattle.bb_net.specs.Kinds.{representatives}
use Rattle.bb_match.specs.Refusals.{Box as SpecBox, Care, SpecInput, SpecOutput, ImpInput, ImpOutput, SpecRegister, ImpRegister, SpecClock, ImpClock, Clocks}
use Rattle.bb_equiv.specs.Comparable.{AreSettled, IsClockedByInput}
use Rattle.bb_equiv.specs.DesignFit.{HasClock, IsClockedBy}
use Rattle.bb_equiv.specs.Inside.LowerLaws.{LowerLaws}
use Rattle.bb_equiv.specs.Laws.Comparable.{FittingDesignsAreComparable}
use Rattle.bb_equiv.specs.Laws.DesignEquivalence.{TablesSpellContents}
use Rattle.bb_equiv.specs.Laws.DesignRefusals.{FittingDesignsHavePairs}
use Rattle.bb_equiv.proofs.Mistakes.{zero_of, zeros_fit}
use Rattle.bb_equiv.proofs.SeenDesigns.{imp_filled, pair_seen, spec_filled}
use Rattle.bb_equiv.proofs.WorldOutputs.{IsFilled, out_bits, some_world}

module _ (contents : Contents) (w : World) where
  -- what is a bit has it
  itself_same : (path : Path) (t : Term) (c : Bit) → Contains (bit_itself path t) c → term_bit (w path) t ≡ bit_in w c
  itself_same path (Const v) c has = absurd (none_in_nil c has)
  itself_same path (Net n i) c has = elim (contains_cases _ [] c has) [ inl same ↦ ap (bit_in w) same | inr none ↦ absurd (none_in_nil c none) ]
  itself_same path (Not t) c has = absurd (none_in_nil c has)
  itself_same path (And t u) c has = absurd (none_in_nil c has)
  itself_same path (Or t u) c has = absurd (none_in_nil c has)
  itself_same path (Xor t u) c has = absurd (none_in_nil c has)
  itself_same path (Mux i t u) c has = absurd (none_in_nil c has)

  source_same : (s : DrivingSource) (v : Bool) (c : Bit) → Gives contents w s v → Contains (copied s) c → v ≡ bit_in w c
  source_same Free v c gives has = absurd (none_in_nil c has)
  source_same (MadeOf path t) v c gives has = gives ∙ itself_same path t c has
  source_same (Box s pin) v c gives has = absurd (none_in_nil c has)

module _ (of : DesignLaws) (d : Design) (good : IsAllowed d) (contents : Contents) (w : World) (fit : FitDesign d contents) (world : IsWorld d contents w) where
  copy_same : (b c : Bit) → Contains (copied_bits d) (b, c) → bit_in w b ≡ bit_in w c
  copy_same b c has =
      let bounded = good.bounded in
      let driven = (of.driven_worlds d contents w (of.ends d bounded) bounded.shallow (of.legal d bounded contents fit)).0 world in
      let x = from_flat (λ (x : Drive). map (λ c. (x.bit, c)) (copied x.source)) (drives d) (b, c) has in
      let e = from_map {B = Bit × Bit} (λ c. (x.0.bit, c)) (copied x.0.source) (b, c) x.2 in
      let is : x.0.bit ≡ b = ap (λ (z : Bit × Bit). z.0) e.2 in
      let from : Contains (copied x.0.source) c = subst (Contains (copied x.0.source)) (ap (λ (z : Bit × Bit). z.1) e.2) e.1 in
      ap (bit_in w) (sym is) ∙ source_same contents w x.0.source (bit_in w x.0.bit) c (All-contains (IsGiven contents w) (drives d) x.0 driven x.1) from

  leads_same : (b c : Bit) → Leads (copied_bits d) b c → bit_in w b ≡ bit_in w c
  leads_same b c (One step) = copy_same b c step
  leads_same b c (More {y = y} step rest) = copy_same b y step ∙ leads_same y c rest

  pub follows_same : (b c : Bit) → IsCopyOf d b c → bit_in w b ≡ bit_in w c
  follows_same b c (inl same) = ap (bit_in w) same
  follows_same b c (inr leads) = leads_same b c leads

pub goes_by : DesignLaws → (d : Design) → IsAllowed d → (r : RegisterBit) (b : Bit) → IsClockedBy d r b → IsClockedByInput d r b
goes_by of d good r b is = λ contents w fit world. ap (bits_in w) is.is ∙ ap (λ v. v ∷ []) (follows_same of d good contents w fit world is.clock b is.comes)

-- a netlist that implements the design settles it
pub settled : LowerLaws → {d : Design} {f : FlatNet} {contents : Contents} {tables : List TableBits} → IsFilled d f contents tables → AreSettled d contents
settled laws filled = record {
  some = λ x. some_world laws filled x;
  one = λ x w v is_w has_w is_v has_v. out_bits laws filled x w is_w has_w ∙ sym (out_bits laws filled x v is_v has_v);
}

pub fitting_designs_are_comparable : DesignLaws → LowerLaws → FittingDesignsHavePairs → TablesSpellContents → FittingDesignsAreComparable
fitting_designs_are_comparable of laws have spell care shared spec imp good also fit =
    let (p, pair) = have care shared spec imp good also fit in
    let s = pair_seen laws spec imp p good also pair in
    let filling = spell care shared spec imp p good also pair (map zero_of (representatives p.kinds p.imp.boxes)) (zeros_fit (representatives p.kinds p.imp.boxes)) in (
      record {
        complete = fit SpecBox;
        has_care = fit Care;
        same_inputs = (fit SpecInput, fit ImpInput);
        same_outputs = (fit SpecOutput, fit ImpOutput);
        same_registers = (fit SpecRegister, fit ImpRegister);
        clocks = λ r q in_spec in_imp same.
            let b = All-contains (HasClock spec) (registers spec) r (fit SpecClock) in_spec in
            let c = All-contains (HasClock imp) (registers imp) q (fit ImpClock) in_imp in
            let alike = fit Clocks r q in_spec in_imp same in
            (alike.edges, (b.0, c.0, b.1.top, c.1.top, alike.clocks b.0 c.0 b.1 c.1, goes_by of spec good r b.0 b.1, goes_by of imp also q c.0 c.1));
        settled = λ contents fits.
            let t = laws.tables imp pair.imp_net pair.imp_implements contents fits in
            (settled laws (spec_filled s contents), settled laws (imp_filled s contents t.0 fits t.1));
      },
      (filling.0, filling.1),
    )
