-- A pair: a specification and an implementation with boxes, over the same inputs and with as many outputs, the texts
-- that name inputs, outputs, boxes and pins, and which boxes share their contents. A text is a list of bytes.
use Rattle.std.specs.Prelude.{◌≡◌, ℕ, ◌+◌, ◌≤◌, Bool, if◌then◌else◌, List, [], length, sum_by}
use Rattle.std.specs.List.{AllZip}
use Rattle.bb_net.specs.declared.pair.OutName.{OutName}
use Rattle.bb_net.specs.Netlists.{Netlist, Pins, IsNetlist}
use Rattle.bb_net.specs.Kinds.{FitKinds}

-- the path of a box, the name of its module, and the texts of its pins in order
pub record BoxTexts : Type 0 where
  pub path : List ℕ
  pub «module» : List ℕ
  pub ins : List (List ℕ)
  pub outs : List (List ℕ)

-- the key of a box, by which its contents are named: the name of its module where boxes of one module share theirs,
-- else its path
abbrev pub box_key : Bool → BoxTexts → List ℕ
box_key shared box = if shared then box.module else box.path

pub record NetPair : Type 0 where
  pub spec : Netlist
  pub imp : Netlist
  pub ins : List (List ℕ)
  pub outs : List OutName
  pub boxes : List BoxTexts
  -- the sharing class of each box: boxes of one class hold one table
  pub kinds : List ℕ

-- one text for each pin of a box
pub record NamesPins (texts : BoxTexts) (pins : Pins) : Type 0 where
  pub ins : length texts.ins ≡ length pins.ins
  pub outs : length texts.outs ≡ length pins.outs

-- the input and output pins of all boxes
abbrev pub pin_count : List Pins → ℕ
pin_count boxes = sum_by (λ pins. length pins.ins + length pins.outs) boxes

-- the nets are side by side, everything in them has its text, and each box is of a sharing class
pub record AreBeside (p : NetPair) : Type 0 where
  pub inputs : p.spec.inputs ≡ p.imp.inputs
  pub outputs : length p.spec.outs ≡ length p.imp.outs
  pub no_box : p.spec.boxes ≡ []
  pub ins_named : length p.ins ≡ p.imp.inputs
  pub outs_named : length p.outs ≡ length p.imp.outs
  pub boxes_named : AllZip NamesPins p.boxes p.imp.boxes
  pub kinds : FitKinds p.kinds p.imp.boxes

-- they are not too large
pub record AreSmall (p : NetPair) : Type 0 where
  pub spec_cells : length p.spec.cells ≤ 8000000
  pub imp_cells : length p.imp.cells ≤ 8000000
  pub outs : length p.imp.outs ≤ 2000000
  pub boxes : length p.imp.boxes ≤ 1000000
  pub pins : p.imp.inputs + pin_count p.imp.boxes ≤ 2048

-- what every pair keeps
pub record IsPair (p : NetPair) : Type 0 where
  pub spec : IsNetlist p.spec
  pub imp : IsNetlist p.imp
  pub beside : AreBeside p
  pub small : AreSmall p
