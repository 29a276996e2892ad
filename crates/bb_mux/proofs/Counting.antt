-- The beads of the nodes that have places: a node that has none yet brings a new one.
use Rattle.std.proofs.Common.{◌≡◌, ◌≢◌, ◌<◌, ◌≤◌, ℕ, ◌+◌, ◌*◌, List, ◌∷◌, ◌++◌, length, set, get_or, Option, Some, None, All, Contains, sym, ap, ◌∙◌, subst, inl, inr, arith}
use Rattle.std.proofs.lemmas.Bool.{cases_eq}
use Rattle.std.proofs.lemmas.List.{append_assoc, get_or-set_other, get_or-set_same}
use Rattle.std.proofs.lemmas.List.Elements.{All-append, All-cons, All-contains, All-weaker, Contains-append_cases}
use Rattle.std.proofs.lemmas.List.Kept.{AllPairs-cons}
use Rattle.bb_lemmas.proofs.Members.{all_from}
use Rattle.bb_bits.specs.Truth.{Truth, IsBead, IsBeadOf, lifted}
use Rattle.bb_bits.specs.TruthSets.{AreDistinct, HasSize}
use Rattle.bb_net.specs.Netlists.{Netlist}
use Rattle.bb_strash.specs.Inside.Extensions.{Extends}
use Rattle.bb_uniq.specs.declared.store.Ref.{Ref}
use Rattle.bb_uniq.specs.Inside.Nodes.{NodeStore}
use Rattle.bb_uniq.specs.Inside.Meaning.{IsHeld, truth_of}
use Rattle.bb_mux.specs.Inside.Walks.{AreCounted, IsPlaced, IsPlacedBead}
use Rattle.bb_mux.proofs.Children.{IsNode, cofactors, of_hi, of_lo, own_bead, own_is_bead, own_of_node, not_of_hi, not_of_lo, same_ref}
use Rattle.bb_mux.proofs.GateBits.{grown}
use Rattle.bb_mux.proofs.Given.{Given}

module _ (given : Given) (s : NodeStore) where
  -- beads of places are held, so there are no more than nodes
  placed_is_held : (places : List (Option ℕ)) (b : Truth) → IsBead b → IsPlacedBead s places b → IsHeld s b
  placed_is_held places b bead at = (at.0, at.3, subst (IsBeadOf b) (sym at.5) ((given.beads.lifted at.2 b b).1 (given.beads.self b bead)))

  all_held : (net : Netlist) (places : List (Option ℕ)) (beads : List Truth) → AreCounted s net places beads → All (IsHeld s) beads
  all_held net places beads so = all_from (IsHeld s) beads (λ b has.
      placed_is_held places b (All-contains IsBead beads b so.are_beads has) (All-contains (IsPlacedBead s places) beads b so.placed has))

  no_more : (n : ℕ) (bs : List Truth) → HasSize (IsHeld s) n → AreDistinct bs → All (IsHeld s) bs → length bs ≤ n
  no_more n bs size distinct held =
      let l = given.sizes.fewer_entries bs size.0 distinct (All-weaker (IsHeld s) (Contains size.0) (λ b h. (size.2 b).1 h) bs held) in
      omega (arith, l, size.3)

  module _ (r v : ℕ) (lo hi : Ref) (node : IsNode s r v lo hi) where
    abbrev own : Truth
    own = own_bead given s r v lo hi node

    -- a place given to the node
    still_placed : (places : List (Option ℕ)) (place : ℕ) (b : Truth) → r < length places → IsPlacedBead s places b → IsPlacedBead s (set places r (Some place)) b
    still_placed places place b inside at = elim (cases_eq at.0 r) [
      | inl same ↦ (at.0, place, at.2, at.3, subst (λ q. IsPlaced (set places r (Some place)) q place) (sym same) (get_or-set_same places r (Some place) None inside), at.5)
      | inr other ↦ (at.0, at.1, at.2, at.3, get_or-set_other places r at.0 (Some place) None other ∙ at.4, at.5)
    ]

    module _ (old : Netlist) (before : List (Option ℕ)) (first second beads : List Truth) (none : get_or before r None ≡ None) (so : AreCounted s old before beads)
        (of_first : All (λ b. IsBeadOf b (truth_of s lo.0)) first) (of_second : All (λ b. IsBeadOf b (truth_of s hi.0)) second) where
      abbrev pub all_beads : List Truth
      all_beads = second ++ (first ++ beads)

      not_before : (b : Truth) → Contains beads b → own ≢ b
      not_before b has e =
          let at = All-contains (IsPlacedBead s before) beads b so.placed has in
          let same = same_ref given s r v lo hi node at.0 at.2 at.3 (at.5 ∙ ap (lifted at.2) (sym e)) in
          let clash : Some at.1 ≡ None = sym at.4 ∙ ap (λ q. get_or before q None) same ∙ none in
          grind (arith, clash)

      is_new : (b : Truth) → Contains all_beads b → own ≢ b
      is_new b has = elim (Contains-append_cases second (first ++ beads) b has) [
        | inl of ↦ λ e. not_of_hi given s r v lo hi node (subst (λ x. IsBeadOf x (truth_of s hi.0)) (sym e) (All-contains (λ x. IsBeadOf x (truth_of s hi.0)) second b of_second of))
        | inr rest ↦ elim (Contains-append_cases first beads b rest) [
          | inl of ↦ λ e. not_of_lo given s r v lo hi node (subst (λ x. IsBeadOf x (truth_of s lo.0)) (sym e) (All-contains (λ x. IsBeadOf x (truth_of s lo.0)) first b of_first of))
          | inr of ↦ not_before b of
        ]
      ]

      pub distinct_more : AreDistinct all_beads → AreDistinct (own ∷ all_beads)
      distinct_more distinct = AllPairs-cons ◌≢◌ own all_beads (all_from (◌≢◌ own) all_beads is_new) distinct

      module _ (net : Netlist) (places : List (Option ℕ)) (last : AreCounted s net places all_beads) where
        -- there is room for the cells of the node
        pub room_for_node : (n : ℕ) → HasSize (IsHeld s) n → length net.cells + 2 ≤ net.inputs + 2 + 2 * n
        room_for_node n size =
            let held = All-cons (IsHeld s) own all_beads (r, node.ref, own_of_node given s r v lo hi node) (all_held net places all_beads last) in
            let l = no_more n (own ∷ all_beads) size (distinct_more last.distinct) held in
            omega (arith, l, last.few)

        pub counted_node : (new : Netlist) (place : ℕ) → r < length places → Extends net new 2 → AreCounted s new (set places r (Some place)) (own ∷ all_beads)
        counted_node new place inside e = record {
          distinct = distinct_more last.distinct;
          are_beads = All-cons IsBead own all_beads (own_is_bead given s r v lo hi node) last.are_beads;
          placed = All-cons (IsPlacedBead s (set places r (Some place))) own all_beads
              (r, place, v, node.ref, get_or-set_same places r (Some place) None inside, cofactors_whole)
              (All-weaker (IsPlacedBead s places) (IsPlacedBead s (set places r (Some place))) (λ b at. still_placed places place b inside at) all_beads last.placed);
          few = omega (arith, last.few, grown net new 2 e, e.inputs);
        }
          where
            cofactors_whole : truth_of s r ≡ lifted v own
            cofactors_whole = (cofactors given s r v lo hi node).whole

      -- the new beads are beads of the node
      pub of_node : All (λ b. IsBeadOf b (truth_of s r)) (own ∷ (second ++ first))
      of_node = All-cons (λ b. IsBeadOf b (truth_of s r)) own (second ++ first) (own_of_node given s r v lo hi node)
          (All-append (λ b. IsBeadOf b (truth_of s r)) second first
          (All-weaker (λ b. IsBeadOf b (truth_of s hi.0)) (λ b. IsBeadOf b (truth_of s r)) (of_hi given s r v lo hi node) second of_second)
          (All-weaker (λ b. IsBeadOf b (truth_of s lo.0)) (λ b. IsBeadOf b (truth_of s r)) (of_lo given s r v lo hi node) first of_first))

      pub in_order : own ∷ all_beads ≡ (own ∷ (second ++ first)) ++ beads
      in_order = ap (λ l. own ∷ l) (sym (append_assoc second first beads))
