-- When contents of its boxes make a design equivalent to a specification. Both are taken between their cut points: a
-- register's present state counts as an input and its next state as an output, and inputs and outputs of the two go by
-- kind and text, so that they agree in every state, in what they give and in the state that comes next. Where a care
-- output is requested, a bit of an output port of the specification by its text, it says at which vectors the others
-- count: those at which it is 1.
-- All worlds of both designs are compared, and no netlist occurs here: that the same holds of netlists and tables is a
-- law, so a verdict on a pair needs no definition of its own.
use Rattle.std.specs.Prelude.{◌≡◌, ◌≢◌, ◌↔◌, ℕ, Bool, true, List, length, Contains, Option, None, Some}
use Rattle.std.specs.List.{AllZip}
use Rattle.bb_bits.specs.Contents.{Contents}
use Rattle.bb_bits.specs.Tables.{TableBits, HasAllBits, rows_of}
use Rattle.bb_net.specs.Pairs.{NetPair, BoxTexts, IsPair}
use Rattle.bb_net.specs.Values.{table_at}
use Rattle.bb_net.specs.Flats.{FlatNet, IsFlat}
use Rattle.bb_design.specs.Hierarchy.{Design, Scope, boxes}
use Rattle.bb_implements.specs.Implements.{Implements}
use Rattle.bb_design.specs.Texts.{path_text}
use Rattle.bb_design.specs.Worlds.{World, Vector, HasVector, IsWorld, FitDesign, outputs_in}
use Rattle.bb_net.specs.CutPoints.{CutOutput, TopOutput}
use Rattle.bb_match.specs.Pairing.{IsPairOf}

-- every output is compared but the care output, if one is requested
abbrev pub IsCompared : Option (List ℕ) → CutOutput → Type 0
IsCompared None o = Unit {0}
IsCompared (Some care) o = o ≢ TopOutput care

-- each output of the one that is compared is an output of the other, with the same bit, and back: in one direction
-- alone a missing output would pass
abbrev pub HaveSameBits : Option (List ℕ) → List (CutOutput × Bool) → List (CutOutput × Bool) → Type 0
HaveSameBits care os ps = (o : CutOutput) (b : Bool) → IsCompared care o → Contains os (o, b) ↔ Contains ps (o, b)

-- equivalence is required where the care output is 1, and everywhere where there is none; it is a bit of the world, and
-- all worlds of one vector have the same there
abbrev pub IsRequired : Option (List ℕ) → List (CutOutput × Bool) → Type 0
IsRequired None os = Unit {0}
IsRequired (Some care) os = Contains os (TopOutput care, true)

-- this holds of each world of the one and each of the other with the same vector
abbrev pub OfWorlds : Design → Design → Contents → (World → World → Type 0) → Type 0
OfWorlds spec imp contents Claims = (x : Vector) (w v : World) → IsWorld spec contents w → HasVector spec x w
    → IsWorld imp contents v → HasVector imp x v → Claims w v

-- for every vector, every world of the specification in which equivalence is required and every world of the
-- implementation have the same bits at all outputs that are compared; a specification without boxes has the same worlds
-- for all contents
abbrev pub ContentsMakeEquivalent : Option (List ℕ) → Design → Design → Contents → Type 0
ContentsMakeEquivalent care spec imp contents = OfWorlds spec imp contents (λ w v.
    IsRequired care (outputs_in spec w) → HaveSameBits care (outputs_in spec w) (outputs_in imp v))

-- boxes of one module have the same contents; contents stay by path, so that worlds, constructs and elaboration know
-- nothing of sharing
abbrev pub AreShared : Design → Contents → Type 0
AreShared d contents = (s t : Scope) → Contains (boxes d) s → Contains (boxes d) t → s.source.name ≡ t.source.name
    → contents (path_text s.path) ≡ contents (path_text t.path)

-- contents may fill the boxes of a design: they fit and, where requested, boxes of one module share theirs, since an
-- instance is a copy of its module, so that one definition serves all (IEEE 1364-2005, 12.1.2); a text has one module
-- of a name, and instances cannot differ by parameters, which the language lacks
pub record MayFill (shared : Bool) (d : Design) (contents : Contents) : Type 0 where
  pub fit : FitDesign d contents
  pub one : shared ≡ true → AreShared d contents

-- no contents that may fill the boxes of the implementation make the designs equivalent
abbrev pub NoContentsMakeEquivalent : Option (List ℕ) → Bool → Design → Design → Type 0
NoContentsMakeEquivalent care shared spec imp = (contents : Contents) → MayFill shared imp contents
    → ContentsMakeEquivalent care spec imp contents → ⊥

-- the pair of two designs: that of flat netlists that implement them, in which boxes of one module are of one sharing
-- class where they share their contents, and outputs count where the care output is 1, if one is requested
pub record IsPairFor (care : Option (List ℕ)) (shared : Bool) (spec imp : Design) (p : NetPair) : Type 0 where
  pub kept : IsPair p
  pub spec_net : FlatNet
  pub imp_net : FlatNet
  pub spec_implements : Implements spec spec_net
  pub imp_implements : Implements imp imp_net
  pub spec_flat : IsFlat spec_net
  pub imp_flat : IsFlat imp_net
  pub paired : IsPairOf care shared spec_net imp_net p

-- tables, one for each sharing class, spell contents: at the path of each box these have the rows of the table of its
-- class
abbrev pub AreSpelled : List BoxTexts → List ℕ → List TableBits → Contents → Type 0
AreSpelled boxes kinds tables contents = AllZip (λ box kind.
    contents box.path ≡ rows_of (table_at tables kind)) boxes kinds

-- a table of a box, by the texts of its pins: it has a bit for each output in each row
pub record IsTableOf (box : BoxTexts) (t : TableBits) : Type 0 where
  pub inputs : t.inputs ≡ length box.ins
  pub outputs : t.outputs ≡ length box.outs
  pub whole : HasAllBits t

-- what is compared is the same at every vector, whether the care output is 1 there or not
abbrev pub AreEquivalentEverywhere : Option (List ℕ) → Design → Design → Contents → Type 0
AreEquivalentEverywhere care spec imp contents = OfWorlds spec imp contents (λ w v.
    HaveSameBits care (outputs_in spec w) (outputs_in imp v))
