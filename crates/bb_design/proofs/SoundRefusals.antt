-- A text without faults is sound or has a first refusal.
use Rattle.std.proofs.Common.{ℕ, List, Contains, Option, Some, None}
use Rattle.bb_ast.specs.Syntax.{PlainModule}
use Rattle.bb_design.specs.Laws.{TopIsMeant, TopsAreMeant, SoundBitsAreThere, SoundOrRefused}
use Rattle.bb_design.proofs.CauseDecisions.{sound_or_reported}

-- what is meant is in the text
meant_there : (text : List PlainModule) (name : Option (List ℕ)) (top : PlainModule) → TopIsMeant text name top → Contains text top
meant_there text None top meant = meant.there
meant_there text (Some n) top meant = meant.there

pub sound_or_refused : TopsAreMeant → SoundBitsAreThere → SoundOrRefused
sound_or_refused tops bits text name sound = sound_or_reported text name (λ top e shallow. bits text top sound (meant_there text name top (tops text name top e)) shallow)
