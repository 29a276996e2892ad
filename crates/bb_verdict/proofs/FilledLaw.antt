-- The text of a netlist of the implementation that is filled with tables that agree finishes the design: it reads as one module, whose
-- design is sound, has no box, fits the specification and agrees with it, and with the filled implementation.
use Rattle.std.proofs.Common.{◌≡◌, ℕ, List, None, Option, Some, sym, subst}
use Rattle.std.specs.Prelude.{codes}
use Rattle.bb_equiv.specs.Laws.Comparable.{FittingDesignsAreComparable}
use Rattle.bb_equiv.specs.Laws.DesignEquivalence.{SpelledContentsHaveTables, TablesMakeEquivalentAsContents}
use Rattle.bb_equiv.specs.Laws.DesignRefusals.{PairsImplementExactlyFitting}
use Rattle.bb_equiv.specs.Laws.Runs.{EquivalentDesignsRunTheSame}
use Rattle.bb_bits.specs.Tables.{TableBits}
use Rattle.bb_implements.specs.Laws.ContentTables.{TablesGiveOutputs, TablesHaveContents}
use Rattle.bb_implements.specs.Laws.ListLaws.{ImplementingNetsGiveOutputs}
use Rattle.bb_implements.specs.Laws.NamingLaws.{FollowedInputsAreOne}
use Rattle.bb_design.specs.Hierarchy.{top_of}
use Rattle.bb_fill.specs.Answers as fill
use Rattle.bb_fill.specs.Clashes.{AreNamesApart}
use Rattle.bb_fill.specs.Filled.{filled_text}
use Rattle.bb_fill.specs.Laws.{IsReady}
use Rattle.bb_fill.specs.Sizes.{IsSmallText}
use Rattle.bb_match.specs.Refusals.{Box}
use Rattle.bb_net.specs.Flats.{FlatNet, HaveClocks}
use Rattle.bb_net.specs.Kinds.{per_box}
use Rattle.bb_parse.specs.Sources.{ReadsAs}
use Rattle.bb_readback.specs.Laws.Designs.{filled_design}
use Rattle.bb_readback.specs.Laws.{FilledDesignsAreNamedTheSame, FilledDesignsAreSound, FilledDesignsHaveBits, FilledModulesAreSound, FilledModulesAreTops}
use Rattle.bb_frontend.specs.TextDesigns.{IsDesignOf}
use Rattle.bb_readback.specs.Laws.{FilledTextsAreRead}
use Rattle.bb_verdict.specs.Laws.TextPairs.{DesignsAreAllowed, FilledTextsFinish}
use Rattle.bb_verdict.proofs.FilledAgree.{filled_agrees, filled_same, fits_none}
use Rattle.bb_verdict.proofs.FilledFit.{filled_fits}
use Rattle.bb_verdict.proofs.KeptNets.{TablesAreSpread, kept_nets}
use Rattle.bb_verdict.proofs.TextPairLaws.{own_texts, reads_as}

pub record FillingLaws : Type 0 where
  pub allowed : DesignsAreAllowed
  -- of the filled text
  pub read : FilledTextsAreRead
  pub faultless : FilledModulesAreSound
  pub tops : FilledModulesAreTops
  pub sound : FilledDesignsAreSound
  pub called : FilledDesignsAreNamedTheSame
  pub bits : FilledDesignsHaveBits
  -- of the pair and the designs for which it is
  pub fitting : PairsImplementExactlyFitting
  pub comparable : FittingDesignsAreComparable
  pub run : EquivalentDesignsRunTheSame
  pub as_contents : TablesMakeEquivalentAsContents
  pub contents : TablesHaveContents
  pub outputs : TablesGiveOutputs
  pub worlds : ImplementingNetsGiveOutputs
  pub one_input : FollowedInputsAreOne
  pub spread : TablesAreSpread
  pub spelled : SpelledContentsHaveTables

-- a text is answered where no name clashes and it is not too large, and it is the one of the netlist
answered : (f : FlatNet) (tables : List TableBits) (text : List ℕ) → fill.IsFillAnswer f tables (fill.Text text) → AreNamesApart f × IsSmallText f tables × (text ≡ filled_text f tables)
answered f tables text (fill.Clashes name clash is) = let no : fill.Text text ≡ fill.Clash name = is in absurd (cc no)
answered f tables text (fill.IsLarge names large is) = let no : fill.Text text ≡ fill.TooLarge = is in absurd (cc no)
answered f tables text (fill.IsFilled names small is) = (names, small, same text (filled_text f tables) is)
  where
    same : (a b : List ℕ) → fill.Text a ≡ fill.Text b → a ≡ b
    same a b e = cc e

module _ (laws : FillingLaws) (f : FlatNet) (tables : List TableBits) (ready : IsReady f tables) (clocks : HaveClocks f) (small : IsSmallText f tables) (text : List ℕ) (is : text ≡ filled_text f tables) where
  design_of : (name : Option (List ℕ)) → top_of (filled_design f tables).text name ≡ Some (filled_design f tables).top → IsDesignOf name text (filled_design f tables)
  design_of name top = record {
    reads = subst (λ t. ReadsAs t (filled_design f tables).text) (sym is) (laws.read f tables ready clocks);
    faultless = laws.faultless f tables ready clocks small;
    top = top;
    sound = (laws.sound f tables ready clocks small).sound;
  }

pub filled_texts_finish : FillingLaws → FilledTextsFinish
filled_texts_finish laws requested spec imp s i are p pair tables completion text may =
    let f = pair.imp_net in
    let all = per_box p.kinds tables in
    let d = filled_design f all in
    let s_allowed = laws.allowed requested.spec_top spec s are.spec_design in
    let i_allowed = laws.allowed requested.imp_top imp i are.imp_design in
    let fit = (laws.fitting requested.care requested.options.shared s i s_allowed i_allowed).fit p pair in
    let kept = kept_nets laws.spread s i p pair in
    let t = answered f all text may in
    let ready : IsReady f all = record { flat = pair.imp_flat; fit = kept.tables tables completion.fit; names = t.0 } in
    let sound = laws.sound f all ready kept.clocks t.1 in
    let unnamed = design_of laws f all ready kept.clocks t.1 text t.2 None (laws.tops f all).alone in
    let named = design_of laws f all ready kept.clocks t.1 text t.2 (Some (codes "filled")) (laws.tops f all).named in
    let d_allowed = laws.allowed None text d unnamed in
    let fits = filled_fits i d f pair.imp_implements (laws.called f all ready kept.clocks t.1) laws.one_input sound.sound sound.complete requested.care s fit in
    let comparable = (laws.comparable requested.care requested.options.shared s d s_allowed d_allowed fits).0 in
    let agree = filled_agrees laws.outputs laws.worlds laws.as_contents laws.contents requested.care requested.options.shared s i p s_allowed i_allowed pair (fit Box) all ready.fit completion.agree d
    (laws.bits f all ready kept.clocks t.1) in (
      record {
        d = d;
        reads = reads_as unnamed;
        reads_by_name = reads_as named;
        sound = unnamed.faultless;
        own = own_texts d unnamed.sound;
        complete = sound.complete;
        comparable = comparable;
        agree = agree;
        same = λ contents fills.
            filled_same laws.outputs laws.worlds laws.as_contents laws.contents requested.care requested.options.shared s i p s_allowed i_allowed pair (fit Box) all ready.fit completion.agree d
            (laws.bits f all ready kept.clocks t.1) contents fills.0
            (laws.spelled requested.care requested.options.shared s i p s_allowed i_allowed pair tables completion.fit contents fills.1);
      },
      ((s, d, record { spec_design = are.spec_design; imp_design = unnamed }, fits), (s, d, record { spec_design = are.spec_design; imp_design = named }, fits)),
      (d, reads_as unnamed, own_texts d unnamed.sound, λ contents. laws.run requested.care s d contents s_allowed d_allowed comparable (fits_none d sound.complete contents) (agree contents)),
    )
