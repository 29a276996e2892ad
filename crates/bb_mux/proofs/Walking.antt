-- A node is walked: first its children, then its cells.
use Rattle.std.proofs.Common.{◌≡◌, ◌<◌, ℕ, ◌+◌, ◌^◌, Bool, false, List, [], ◌∷◌, ◌++◌, length, take, set, get_or, cond, Option, Some, None, All, sym, ap, ap₂, ◌∙◌, subst, inl, inr, arith}
use Rattle.std.specs.Prelude.{if◌then◌else◌}
use Rattle.std.proofs.lemmas.Bool.{cases_eq}
use Rattle.std.proofs.lemmas.List.{get_or-set_other, get_or-set_same, get_or-take, length-set}
use Rattle.std.proofs.lemmas.List.Elements.{All-nil}
use Rattle.bb_bits.specs.Truth.{Truth, IsBeadOf, truth_at}
use Rattle.bb_bits.specs.TruthSets.{HasSize}
use Rattle.bb_net.specs.Netlists.{Netlist, IsNetlist}
use Rattle.bb_strash.specs.Inside.Extensions.{bit, Extends, Gives}
use Rattle.bb_strash.specs.Laws.{BitsStay}
use Rattle.bb_uniq.specs.declared.store.Ref.{Ref}
use Rattle.bb_uniq.specs.Inside.Nodes.{NodeStore}
use Rattle.bb_uniq.specs.Inside.Meaning.{IsHeld, truth_of}
use Rattle.bb_mux.specs.Inside.Functions.{Computes}
use Rattle.bb_mux.specs.Inside.Walks.{AreCounted, IsPlaced, IsWalked, Walks}
use Rattle.bb_mux.proofs.Children.{IsNode, own_bead, to_child}
use Rattle.bb_mux.proofs.Counting.{counted_node, in_order, of_node, room_for_node}
use Rattle.bb_mux.proofs.GateBits.{adds_none, input_bit, longer, then_more}
use Rattle.bb_mux.proofs.Given.{Given}

-- a leaf, or a node that has its place, adds nothing
pub walks_none : (s : NodeStore) (t : Truth) (net : Netlist) (places : List (Option ℕ)) → IsNetlist net → IsWalked s net places → Walks s t net net places places
walks_none s t net places kept walked = record {
  most = 0;
  extends = adds_none net 0 kept walked.boxes;
  walked = walked;
  counted = λ beads so. ([], All-nil (λ b. IsBeadOf b t), so);
}

pub still_computes : BitsStay → (s : NodeStore) (old new : Netlist) (most r place : ℕ) → Extends old new most → Computes s old r place → Computes s new r place
still_computes stay s old new most r place e so = record {
  there = longer old new most place e so.there;
  same = λ point long. ap (λ n. bit new (take n point) place) e.inputs ∙ stay old new most e (take old.inputs point) place so.there ∙ so.same point long;
}

module _ (given : Given) (s : NodeStore) where
  module _ (r v : ℕ) (lo hi : Ref) (node : IsNode s r v lo hi) where
    -- a choice by the variable's input computes the node
    pub computes_node : (net new : Netlist) (low high place : ℕ) → v < net.inputs → Computes s net lo.0 low → Computes s net hi.0 high → Extends net new 2
        → Gives new place (λ x. if bit net x (v + 2) then bit net x high else bit net x low) → Computes s new r place
    computes_node net new low high place inside at_lo at_hi e gives = record {
      there = gives.there;
      same = λ point long.
          let x = take net.inputs point in
          let chosen : bit net x (v + 2) ≡ get_or point v false = input_bit given.gates net e.before e.none x v inside ∙ get_or-take net.inputs point v false inside in
          ap (λ n. bit new (take n point) place) e.inputs
          ∙ gives.same x
          ∙ ap₂ (λ (y z : Bool). cond (bit net x (v + 2)) y z) (at_hi.same point long) (at_lo.same point long)
          ∙ ap (λ b. cond b (truth_at (truth_of s hi.0) point) (truth_at (truth_of s lo.0) point)) chosen
          ∙ sym (to_child given s r v lo hi node point long);
    }

    module _ (old mid net : Netlist) (before between places : List (Option ℕ)) (none : get_or before r None ≡ None) (begun : IsWalked s old before)
        (low : Walks s (truth_of s lo.0) old mid before between) (high : Walks s (truth_of s hi.0) mid net between places) where
      -- there is room for its cells
      pub room : (n : ℕ) → n ≡ length s.nodes → HasSize (IsHeld s) n → length net.cells + 2 < 2 ^ 32
      room n is size =
          let so = begun.counted in
          let one = low.counted so.0 so.1 in
          let two = high.counted (one.0 ++ so.0) one.2 in
          let l = room_for_node given s r v lo hi node old before one.0 two.0 so.0 none so.1 one.1 two.1 net places two.2 n size in
          omega (arith, l, is, high.walked.room)

      module _ (new : Netlist) (place : ℕ) (e : Extends net new 2) (computes : Computes s new r place) where
        abbrev after : List (Option ℕ)
        after = set places r (Some place)

        inside : r < length places
        inside = omega (arith, high.walked.all, node.ref)

        counted : (beads : List Truth) → AreCounted s old before beads → (more : List Truth) × All (λ b. IsBeadOf b (truth_of s r)) more × AreCounted s new after (more ++ beads)
        counted beads so =
            let one = low.counted beads so in
            let two = high.counted (one.0 ++ beads) one.2 in
            let whole = counted_node given s r v lo hi node old before one.0 two.0 beads none so one.1 two.1 net places two.2 new place inside e in
            (own_bead given s r v lo hi node ∷ (two.0 ++ one.0), of_node given s r v lo hi node old before one.0 two.0 beads none so one.1 two.1, subst (AreCounted s new after) (in_order given s r v lo hi node old before one.0 two.0 beads none so one.1 two.1) whole)

        still : (q at : ℕ) → IsPlaced after q at → Computes s new q at
        still q at placed = elim (cases_eq q r) [
          | inl same ↦
              let is : Some place ≡ Some at = sym (get_or-set_same places r (Some place) None inside) ∙ ap (λ k. get_or after k None) (sym same) ∙ placed in
              let at_is : place ≡ at = grind (arith, is) in
              subst (λ k. Computes s new q k) at_is (subst (λ k. Computes s new k place) (sym same) computes)
          | inr other ↦ still_computes given.stay s net new 2 q at e (high.walked.computed q at (sym (get_or-set_other places r q (Some place) None other) ∙ placed))
        ]

        pub walks_node : Walks s (truth_of s r) old new before after
        walks_node = record {
          most = low.most + high.most + 2;
          extends = then_more old net new (low.most + high.most) 2 (then_more old mid net low.most high.most low.extends high.extends) e;
          walked = record {
            boxes = e.boxes;
            room = omega (arith, high.walked.room, e.inputs);
            all = length-set places r (Some place) ∙ high.walked.all;
            computed = still;
            counted = let all = counted begun.counted.0 begun.counted.1 in (all.0 ++ begun.counted.0, all.2);
          };
          counted = counted;
        }
