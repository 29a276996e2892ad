-- The laws of designs on which crates above rest, as one record, which a lemma takes as its first argument: a dozen of
-- them recur at each border, and one by one each function above would have to call them and pass them on.
use Rattle.bb_design.specs.Laws.BitLaws.{BitsAreDistinct, BitsAreFound, BitsAreDistinguished, BoundedConstructsAreLegal, BoundedDesignsAreWired, BoundedDesignsHaveTheirBits, BoundedDesignsHaveTheirScopes, NetBitsAreOfScopes, NetsHaveTheirBits, PartsAreConstructs, PinTextsGoByModules, ScopesAreOfTexts, WrittenBitsAreFew}
use Rattle.bb_design.specs.Laws.DriveLaws.{DependentBitsAreDriven, GatesGoByTerms, NextStatesGoByTerms, OutputsAreInOrder, OutputsGoByReadBits, RegistersAreAlwaysItems, RegistersAreParts, StoredBitsAreDriven, StoredBitsAreRegisters, TopInputsAreDriven}
use Rattle.bb_design.specs.Laws.CauseLaws.{CausesAreInOrder, CyclesAreReported, RecursionsAreReported}
use Rattle.bb_design.specs.Laws.DrivenWorlds.{SoundConstructsAreLegal, VectorsHaveWorlds, WorldsAgreeWhereRead, WorldsAreDriven}
use Rattle.bb_design.specs.Laws.HierarchyLaws.{PathTextsGrow, SoundTextsHaveInstances, SoundTextsHaveModulesApart, WalksAreByPlaces}
use Rattle.bb_design.specs.Laws.{FirstRefusalsAreOne, NotSoundAndRefused, PathsLeadToScopes, SoundTextsHaveNamesApart}
use Rattle.bb_design.specs.Laws.SoundSites.{DeclaredNamesAreNets, SoundClocksHaveOneBit, SoundItemsAreLegal, SoundTextsHaveSoundSites, UsedNetsAreThere}

pub record DesignLaws : Type 0 where
  -- bits, scopes and parts
  pub distinguished : BitsAreDistinguished
  pub found : BitsAreFound
  pub net_bits : NetsHaveTheirBits
  pub of_scope : NetBitsAreOfScopes
  pub written_few : WrittenBitsAreFew
  pub distinct : BitsAreDistinct
  pub of_text : ScopesAreOfTexts
  pub pin_texts : PinTextsGoByModules
  pub part_of : PartsAreConstructs
  pub wired : BoundedDesignsAreWired
  pub bits_there : BoundedDesignsHaveTheirBits
  pub ends : BoundedDesignsHaveTheirScopes
  pub legal : BoundedConstructsAreLegal
  -- drives, registers and causes
  pub gates : GatesGoByTerms
  pub tops_driven : TopInputsAreDriven
  pub dependent_driven : DependentBitsAreDriven
  pub stores : StoredBitsAreDriven
  pub stored_register : StoredBitsAreRegisters
  pub register_part : RegistersAreParts
  pub always_item : RegistersAreAlwaysItems
  pub next_states : NextStatesGoByTerms
  pub outputs_in_order : OutputsAreInOrder
  pub outputs_by_reads : OutputsGoByReadBits
  pub recursion : RecursionsAreReported
  pub cycle : CyclesAreReported
  pub causes : CausesAreInOrder
  -- modules and instances
  pub instances : SoundTextsHaveInstances
  pub paths_grow : PathTextsGrow
  pub modules_apart : SoundTextsHaveModulesApart
  pub walks : WalksAreByPlaces
  -- sites at which nothing is at fault
  pub sound_sites : SoundTextsHaveSoundSites
  pub items_legal : SoundItemsAreLegal
  pub clock_width : SoundClocksHaveOneBit
  pub used_net : UsedNetsAreThere
  pub nets : DeclaredNamesAreNets
  -- sound texts, refusals and worlds
  pub names_apart : SoundTextsHaveNamesApart
  pub scopes_reached : PathsLeadToScopes
  pub constructs_legal : SoundConstructsAreLegal
  pub one_refusal : FirstRefusalsAreOne
  pub not_both : NotSoundAndRefused
  pub driven_worlds : WorldsAreDriven
  pub have_worlds : VectorsHaveWorlds
  pub agree_where_read : WorldsAgreeWhereRead
