-- What a report shows of an error. It is made of the lines of the checks that were run, each with what shows its error
-- after it, and the line of the verdict. A check that finds an error at a vector shows it: the output that is wrong
-- there, where one is named, and the bits of the vector, each with the name of its input, in the order of the
-- specification; at that vector equivalence is requested and the two designs differ, whatever the boxes contain. The
-- check by choices of the boxes shows nothing, and the expansion, where a proof is requested, shows some vectors:
-- whatever contents may fill the boxes, with them the two differ at one of these. The clauses and steps that follow
-- them belong to the pair that is made of the texts, and are not defined here.
use Rattle.std.specs.Prelude.{◌≡◌, ℕ, if◌then◌else◌, List, [], ◌∷◌, ◌++◌, map, vec_items, All, Contains, Option, None}
use Rattle.std.specs.Prelude.{Some, codes}
use Rattle.std.specs.List.{flat_map}
use Rattle.bb_equiv.specs.Mistakes.{AreMistakesAmong, inputs_of, IsMistakeAt}
use Rattle.bb_design.specs.Hierarchy.{Design}
use Rattle.bb_design.specs.Worlds.{Vector}
use Rattle.bb_match.specs.Pairing.{input_text, output_name}
use Rattle.bb_net.specs.CutPoints.{CutOutput}
use Rattle.bb_options.specs.declared.rung.Rung.{Rung}
use Rattle.bb_options.specs.declared.rung.Rung.TheVariants.{Input, Expand}
use Rattle.bb_options.specs.Rungs.{rung_name}
use Rattle.bb_checks.specs.declared.line.Proof.{Proof}
use Rattle.bb_checks.specs.Reports.{input_line, output_line, proof_text}
use Rattle.bb_verdict.specs.declared.requested.TextComparison.{TextComparison}
use Rattle.bb_verdict.specs.TextPairs.{AreReadAs}

-- the line of a check with its result
abbrev pub check_line : Rung → List ℕ → List ℕ
check_line rung result = codes "rung " ++ rung_name rung ++ codes " " ++ result ++ codes "\n"

-- the results that are neither an error nor tables
abbrev pub no_verdict : List (List ℕ)
no_verdict = codes "none" ∷ codes "nodes" ∷ codes "clauses" ∷ codes "wide" ∷ []

-- the line of the output that is named, if one is
abbrev pub named_text : Option CutOutput → List ℕ
named_text None = []
named_text (Some o) = output_line (output_name o)

-- it, and the line of a vector: the inputs of the specification in their order, each with its bit
abbrev pub vector_text : Design → Vector → Option CutOutput → List ℕ
vector_text s x named = named_text named ++ input_line (map input_text (inputs_of s)) (map x (inputs_of s))

-- the text is the line of a check and what shows its error, if it has found one
pub data ShowsError (requested : TextComparison) (s i : Design) (text : List ℕ) : Type 0 where
  NoError : (rung : Rung) (result : List ℕ) → Contains no_verdict result → text ≡ check_line rung result
      → ShowsError requested s i text
  AtVector : (rung : Rung) (x : Vector) (named : Option CutOutput) → IsMistakeAt requested.care s i x named
      → text ≡ check_line rung (codes "error") ++ vector_text s x named → ShowsError requested s i text
  ByChoices : text ≡ check_line Input (codes "error") → ShowsError requested s i text
  ByRefutation : (proof : Proof)
      → AreMistakesAmong requested.care requested.options.shared s i (map vec_items proof.vectors.items)
      → text ≡ check_line Expand (codes "error") ++ (if requested.options.proof then proof_text proof else [])
      → ShowsError requested s i text

-- the text is a report of the two texts with the verdict that there is an error: some check has found one, and each
-- shows its own
pub record AreShown (requested : TextComparison) (spec imp text : List ℕ) : Type 0 where
  pub s : Design
  pub i : Design
  pub reads : AreReadAs requested spec imp s i
  pub checks : List (List ℕ)
  pub whole : text ≡ flat_map (λ check. check) checks ++ codes "verdict error\n"
  pub found : (rung : Rung) × (rest : List ℕ) × Contains checks (check_line rung (codes "error") ++ rest)
  pub shown : All (ShowsError requested s i) checks
