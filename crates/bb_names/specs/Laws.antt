-- Laws that a reader expects of the faults of a source.
use Rattle.std.specs.Prelude.{◌≡◌, ◌⊎◌, List}
use Rattle.bb_ast.specs.Syntax.{PlainModule}
use Rattle.bb_names.specs.declared.fault.NameFault.{NameFault}
use Rattle.bb_names.specs.Faults.{IsSound, IsFirstFault}

-- a source is sound, or it has a first fault
abbrev pub SoundOrFault : Type 0
SoundOrFault = (text : List PlainModule) → IsSound text ⊎ ((fault : NameFault) × IsFirstFault text fault)

-- and not both
abbrev pub NotSoundAndFault : Type 0
NotSoundAndFault = (text : List PlainModule) (fault : NameFault) → IsSound text → IsFirstFault text fault → ⊥

-- there is one first fault at most
abbrev pub FirstFaultsAreOne : Type 0
FirstFaultsAreOne = (text : List PlainModule) (e f : NameFault) → IsFirstFault text e → IsFirstFault text f → e ≡ f
