-- A sink in memory: the bytes it took, the room that is left, and the plan of what the next calls do.
use Rattle.std.specs.Prelude.{ℕ, ◌-◌, ◌<◌, ⊤, min, max, Option, Some, None, MatchOption, List, [], ◌∷◌, ◌++◌, take, drop}
use Rattle.bb_outside.specs.declared.mem_sink.Take.{Take}
use Rattle.bb_outside.specs.declared.mem_sink.Take.TheVariants.{Some as AtMost, Fail}
use Rattle.bb_outside.specs.Counts.{next_count}

-- the bytes taken so far, how many more fit, what the next calls do (the first entry is the next call's),
-- and the count of failed calls
pub record PlannedSink : Type 0 where
  pub bytes : List ℕ
  pub room : ℕ
  pub plan : List Take
  pub faults : ℕ

-- how many bytes of a piece of this length the next call is to take; None where it is to fail
abbrev pub wanted : List Take → ℕ → Option ℕ
wanted [] len = Some len
wanted (AtMost most ∷ plan) len = Some (min (max most 1) len)
wanted (Fail ∷ plan) len = None

-- the next call fails at a piece of this length: by the plan, or since the room is less than what it is to take
abbrev pub Refuses : PlannedSink → ℕ → Type 0
Refuses s len = MatchOption (wanted s.plan len) ⊤ (λ n. s.room < n)

-- after n bytes of a piece were taken
abbrev pub after_put : PlannedSink → List ℕ → ℕ → PlannedSink
after_put s piece n = record { bytes = s.bytes ++ take n piece; room = s.room - n; plan = drop 1 s.plan; faults = s.faults }

-- after a call that failed
abbrev pub after_refusal : PlannedSink → PlannedSink
after_refusal s = record s { plan = drop 1 s.plan; faults = next_count s.faults }
