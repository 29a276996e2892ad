-- The filled text as a flat netlist: each one that implements its design has the names of the netlist that was filled,
-- no box, and at every vector the bits that this one has with the tables in its boxes. Its registers may be in another
-- order.
use Rattle.std.specs.Prelude.{◌≡◌, ◌↔◌, Bool, List, [], length, All, Contains}
use Rattle.bb_bits.specs.Tables.{TableBits}
use Rattle.bb_implements.specs.Implements.{Implements}
use Rattle.bb_design.specs.Worlds.{Vector}
use Rattle.bb_fill.specs.Laws.{IsReady}
use Rattle.bb_fill.specs.Sizes.{IsSmallText}
use Rattle.bb_net.specs.CutPoints.{CutOutput, clock_text}
use Rattle.bb_net.specs.declared.flat.Reg.{Reg as Register}
use Rattle.bb_net.specs.Flats.{FlatNet, HaveClocks}
use Rattle.bb_readback.specs.Laws.Designs.{filled_design, outputs_by}

-- two registers have one text, one edge, and clocks of one text
pub record IsSameRegister (g f : FlatNet) (r q : Register) : Type 0 where
  pub text : r.text ≡ q.text
  pub edge : r.falling ≡ q.falling
  pub clock : clock_text g r ≡ clock_text f q

pub record IsFilledNet (f : FlatNet) (tables : List TableBits) (g : FlatNet) : Type 0 where
  pub ins : g.ins ≡ f.ins
  pub outs : g.outs ≡ f.outs
  pub boxes : g.boxes ≡ []
  pub each : All (λ r. (q : Register) × Contains f.regs q × IsSameRegister g f r q) g.regs
  pub all : All (λ q. (r : Register) × Contains g.regs r × IsSameRegister g f r q) f.regs
  pub count : length g.regs ≡ length f.regs
  pub bits : (x : Vector) (o : CutOutput) (b : Bool)
      → Contains (outputs_by g [] x) (o, b) ↔ Contains (outputs_by f tables x) (o, b)

abbrev pub FilledNetsImplement : Type 0
FilledNetsImplement = (f : FlatNet) (tables : List TableBits) → IsReady f tables → HaveClocks f → IsSmallText f tables
    → (g : FlatNet) → Implements (filled_design f tables) g → IsFilledNet f tables g
