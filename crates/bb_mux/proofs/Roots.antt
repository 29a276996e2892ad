-- Roots are walked one after another.
use Rattle.std.proofs.Common.{◌≡◌, ◌<◌, ℕ, zero, suc, ◌+◌, ◌*◌, ◌^◌, Bool, List, [], ◌∷◌, ◌++◌, length, map, replicate, take, get_or, Option, Some, None, All, Contains, refl, sym, ap, ◌∙◌, subst, arith}
use Rattle.std.specs.List.{AllZip}
use Rattle.std.specs.Prelude.{slice_get}
use Rattle.std.proofs.lemmas.Option.{slice_get-get_or, slice_get_within}
use Rattle.std.proofs.lemmas.List.{length-replicate, take_more}
use Rattle.std.proofs.lemmas.List.Elements.{All-append, All-cons, All-nil, All-weaker, Contains-get_or}
use Rattle.bb_lemmas.proofs.Members.{contains-map}
use Rattle.bb_lemmas.proofs.Zips.{zip_append, zip_at, zip_length}
use Rattle.bb_bits.specs.Truth.{Truth, IsBead, IsBeadOf, IsBeadOfAny, truth_at}
use Rattle.bb_net.specs.Netlists.{Netlist}
use Rattle.bb_net.specs.Equivalence.{out_bit}
use Rattle.bb_net.specs.Values.{flat}
use Rattle.bb_strash.specs.Inside.Extensions.{bit, Extends}
use Rattle.bb_strash.specs.Laws.{BitsStay}
use Rattle.bb_uniq.specs.declared.store.Ref.{Ref}
use Rattle.bb_uniq.specs.Inside.Nodes.{NodeStore}
use Rattle.bb_uniq.specs.Inside.Meaning.{truth_of}
use Rattle.bb_mux.specs.Inside.Functions.{Computes, HasFewCells}
use Rattle.bb_mux.specs.Inside.Walks.{AreCounted, AreWalked, IsPlacedBead, Walks}
use Rattle.bb_mux.proofs.Walking.{still_computes}

abbrev the_none : Option ℕ
the_none = None

all_none : (n r : ℕ) → get_or (replicate n the_none) r None ≡ None
all_none zero r = refl
all_none (suc n) zero = refl
all_none (suc n) (suc r) = all_none n r

module _ (s : NodeStore) where
  counted_none : (net : Netlist) (places : List (Option ℕ)) → length net.cells ≡ net.inputs + 2 → AreCounted s net places []
  counted_none net places start = record {
    distinct = λ i j d before inside. absurd (omega (arith, inside));
    are_beads = All-nil IsBead;
    placed = All-nil (IsPlacedBead s places);
    few = omega (arith, start);
  }

  -- no node has its place yet
  pub none_walked : (ts : List Truth) (net : Netlist) (n : ℕ) → net.boxes ≡ [] → length net.cells ≡ net.inputs + 2 → net.inputs + 2 + 2 * length s.nodes < 2 ^ 32 → n ≡ length s.nodes + 2 → AreWalked s ts net (replicate n None)
  none_walked ts net n none start room all = record {
    walked = record {
      boxes = none;
      room = room;
      all = length-replicate n None ∙ all;
      computed = λ r place placed. let clash : Some place ≡ None = sym placed ∙ all_none n r in absurd (grind (arith, clash));
      counted = ([], counted_none net (replicate n None) start);
    };
    beads = [];
    counted = counted_none net (replicate n None) start;
    of_tables = All-nil (IsBeadOfAny ts);
  }

  -- one more diagram is walked
  pub one_walked : (ts : List Truth) (t : Truth) (old new : Netlist) (before after : List (Option ℕ)) → Contains ts t → AreWalked s ts old before → Walks s t old new before after → AreWalked s ts new after
  one_walked ts t old new before after has so walks =
      let more = walks.counted so.beads so.counted in
      record {
        walked = walks.walked;
        beads = more.0 ++ so.beads;
        counted = more.2;
        of_tables = All-append (IsBeadOfAny ts) more.0 so.beads (All-weaker (λ b. IsBeadOf b t) (IsBeadOfAny ts) (λ b of. (t, has, of)) more.0 more.1) so.of_tables;
      }

  -- the table of a root is in the list
  pub table_there : (roots : List Ref) (k : ℕ) (d : Ref) → k < length roots → Contains (map (λ r. truth_of s r.0) roots) (truth_of s (get_or roots k d).0)
  table_there roots k d inside = contains-map (λ r. truth_of s r.0) roots (get_or roots k d) (Contains-get_or roots k d inside)

  pub few_at_end : (ts : List Truth) (net : Netlist) (places : List (Option ℕ)) → AreWalked s ts net places → HasFewCells ts net
  few_at_end ts net places so n most = let l = most so.beads so.counted.distinct so.of_tables in omega (arith, l, so.counted.few)

  -- what was computed stays so
  still_computed : BitsStay → (old new : Netlist) (most : ℕ) (roots : List Ref) (outs : List ℕ) → Extends old new most → AllZip (λ r. Computes s old r.0) roots outs → AllZip (λ r. Computes s new r.0) roots outs
  still_computed stay old new most [] [] e zipped = zipped
  still_computed stay old new most [] (place ∷ outs) e zipped = absurd zipped
  still_computed stay old new most (r ∷ roots) [] e zipped = absurd zipped
  still_computed stay old new most (r ∷ roots) (place ∷ outs) e zipped = (still_computes stay s old new most r.0 place e zipped.0, still_computed stay old new most roots outs e zipped.1)

  -- one more root has its place
  pub one_computed : BitsStay → (old new : Netlist) (most k place : ℕ) (d : Ref) (roots : List Ref) (outs : List ℕ) → k < length roots → Extends old new most → AllZip (λ r. Computes s old r.0) (take k roots) outs → Computes s new (get_or roots k d).0 place
      → AllZip (λ r. Computes s new r.0) (take (k + 1) roots) (outs ++ place ∷ [])
  one_computed stay old new most k place d roots outs inside e so here =
      subst (λ rs. AllZip (λ (r : Ref). Computes s new r.0) rs (outs ++ place ∷ [])) (sym (take_more roots k d inside))
      (zip_append (λ (r : Ref). Computes s new r.0) (take k roots) outs (get_or roots k d ∷ []) (place ∷ []) (still_computed stay old new most (take k roots) outs e so) (here, tt))

  -- outputs at these places
  module _ (net all : Netlist) (roots : List Ref) (outs : List ℕ) (computed : AllZip (λ r. Computes s net r.0) roots outs) (is : all ≡ record net { outs = outs }) where
    pub as_many : length all.outs ≡ length roots
    as_many = ap (λ (n : Netlist). length n.outs) is ∙ sym (zip_length (λ (r : Ref). Computes s net r.0) roots outs computed)

    pub outs_compute : (n : ℕ) (point : List Bool) (j : ℕ) (r : Ref) → n ≡ net.inputs → length point ≡ s.vars → slice_get roots j ≡ Some r → out_bit all (flat all (take n point) []) j ≡ truth_at (truth_of s r.0) point
    outs_compute n point j r inputs long at =
        let inside : j < length outs = omega (arith, slice_get_within roots j r at, zip_length (λ (r : Ref). Computes s net r.0) roots outs computed) in
        let here = zip_at (λ (r : Ref). Computes s net r.0) roots outs j r (get_or outs j 0) computed at (slice_get-get_or outs j 0 inside) in
        ap (λ (m : Netlist). out_bit m (flat m (take n point) []) j) is ∙ ap (λ m. bit net (take m point) (get_or outs j 0)) inputs ∙ here.same point long

  pub outs_there : (net : Netlist) (roots : List Ref) (outs : List ℕ) → AllZip (λ r. Computes s net r.0) roots outs → All (λ place. place < length net.cells) outs
  outs_there net [] [] zipped = All-nil (λ place. place < length net.cells)
  outs_there net [] (place ∷ outs) zipped = absurd zipped
  outs_there net (r ∷ roots) [] zipped = absurd zipped
  outs_there net (r ∷ roots) (place ∷ outs) zipped = All-cons (λ place. place < length net.cells) place outs zipped.0.there (outs_there net roots outs zipped.1)
