-- A source has no faults, or a first one, and only one.
use Rattle.std.proofs.Common.{◌≡◌, List, [], ◌∷◌, refl, arith, inl, inr}
use Rattle.std.specs.Prelude.{◌⊎◌}
use Rattle.bb_names.specs.declared.fault.NameFault.{NameFault}
use Rattle.bb_names.specs.Faults.{faults_of}
use Rattle.bb_names.specs.Laws.{SoundOrFault, NotSoundAndFault, FirstFaultsAreOne}

abbrev pub IsHead : List NameFault → NameFault → Type 0
IsHead all fault = (rest : List NameFault) × (all ≡ fault ∷ rest)

split : (all : List NameFault) → (all ≡ []) ⊎ ((fault : NameFault) × IsHead all fault)
split [] = inl refl
split (x ∷ xs) = inr (x, (xs, refl))

pub sound_or_fault : SoundOrFault
sound_or_fault text = split (faults_of text)

pub not_sound_and_fault : NotSoundAndFault
not_sound_and_fault text fault none some = grind (arith, none, some.1)

pub first_faults_are_one : FirstFaultsAreOne
first_faults_are_one text e f a b = grind (arith, a.1, b.1)
