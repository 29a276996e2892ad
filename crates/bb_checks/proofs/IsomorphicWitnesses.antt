-- What a check finds of one pair it may find of another that is alike: where outputs are wrong, the first and least of it, and tables.
use Rattle.std.proofs.Common.{ℕ, ◌<◌, Bool, List, ◌∙◌, sym, subst, arith}
use Rattle.bb_bits.specs.Tables.{TableBits}
use Rattle.bb_net.specs.Equivalence.{AllRight, IsOutput, SomeWrong}
use Rattle.bb_net.specs.Completions.{AreCompletion}
use Rattle.bb_net.specs.Conditions.{IsKnownWrong, IsFirstHit, IsAlwaysWrong, AlwaysSomeWrongAt}
use Rattle.bb_net.specs.Netlists.{Netlist, Pins}
use Rattle.bb_net.specs.Values.{FitBoxes, flat_with}
use Rattle.bb_sym.specs.Finds.{IsLeastVector, IsFirstFound, IsSometimesRight}
use Rattle.bb_checks.proofs.IsomorphicBoxes.{AreAsMany, box_count_isomorphic, output_pins_isomorphic, pins_at_isomorphic}
use Rattle.bb_checks.proofs.IsomorphicConditions.{AreKnownIsomorphic, may_be_right, right_among_isomorphic, there, vector, wanted_isomorphic}
use Rattle.bb_checks.proofs.IsomorphicFunctions.{ShareAll}

-- tables fit boxes with as many pins each
pub many_fit : (ps qs : List Pins) → AreAsMany ps qs → (tables : List TableBits) → FitBoxes tables ps → FitBoxes tables qs
many_fit ps qs many tables fit =
    let count = box_count_isomorphic ps qs many in
    let pins = pins_at_isomorphic ps qs many in
    record {
      count = fit.count ∙ count;
      inputs = λ b l. fit.inputs b (omega (arith, l, count)) ∙ (pins b).0;
      outputs = λ b l. fit.outputs b (omega (arith, l, count)) ∙ (pins b).1;
      whole = λ b l. fit.whole b (omega (arith, l, count));
    }

module _ (spec imp other_spec other_imp : Netlist) (share : ShareAll spec imp other_spec other_imp) where
  pub here : (j : ℕ) → IsOutput imp j → IsOutput other_imp j
  here j l = subst (λ n. j < n) share.imp.outputs l

  pub known_wrong_isomorphic : AreKnownIsomorphic imp other_imp → (x : List Bool) (j : ℕ) → IsOutput imp j → IsKnownWrong spec imp x j → IsKnownWrong other_spec other_imp x j
  known_wrong_isomorphic known x j l (bit, is, wrong) = (bit, sym (known x j l) ∙ is, λ e. wrong (wanted_isomorphic spec imp other_spec other_imp share x j l ∙ e))

  pub always_wrong_isomorphic : (x : List Bool) (j : ℕ) → IsOutput imp j → IsAlwaysWrong spec imp x j → IsAlwaysWrong other_spec other_imp x j
  always_wrong_isomorphic x j l wrong z long e =
      wrong z (long ∙ sym (output_pins_isomorphic imp.boxes other_imp.boxes share.imp.boxes)) (share.imp.out_bits x z j l ∙ e ∙ sym (wanted_isomorphic spec imp other_spec other_imp share x j l))

  pub sometimes_right_isomorphic : (x : List Bool) (j : ℕ) → IsOutput imp j → IsSometimesRight spec imp x j → IsSometimesRight other_spec other_imp x j
  sometimes_right_isomorphic x j l (z, long, right) =
      (z, long ∙ output_pins_isomorphic imp.boxes other_imp.boxes share.imp.boxes, sym (share.imp.out_bits x z j l) ∙ right ∙ wanted_isomorphic spec imp other_spec other_imp share x j l)

  pub has_wrong_isomorphic : (x : List Bool) → AlwaysSomeWrongAt spec imp x → AlwaysSomeWrongAt other_spec other_imp x
  has_wrong_isomorphic x wrong z long =
      let (j, l, off) = wrong z (long ∙ sym (output_pins_isomorphic imp.boxes other_imp.boxes share.imp.boxes)) in
      (j, here j l, λ e. off (share.imp.out_bits x z j l ∙ e ∙ sym (wanted_isomorphic spec imp other_spec other_imp share x j l)))

  pub first_hit_isomorphic : AreKnownIsomorphic imp other_imp → (patterns : List (List Bool)) (x : List Bool) (j : ℕ) → IsFirstHit spec imp patterns x j → IsFirstHit other_spec other_imp patterns x j
  first_hit_isomorphic known patterns x j h = record {
    before = h.before;
    after = h.after;
    occurs = h.occurs;
    earlier = right_among_isomorphic spec imp other_spec other_imp share known h.before h.earlier;
    there = here j h.there;
    wrong = known_wrong_isomorphic known x j h.there h.wrong;
    first = λ i l. may_be_right spec imp other_spec other_imp share known x i (omega (arith, l, h.there)) (h.first i l);
  }

  pub fit_isomorphic : (tables : List TableBits) → FitBoxes tables imp.boxes → FitBoxes tables other_imp.boxes
  fit_isomorphic = many_fit imp.boxes other_imp.boxes share.imp.boxes

  -- with tables in the boxes an output is right or wrong where it was
  pub agree_isomorphic : (tables : List TableBits) (x : List Bool) → AllRight spec imp x (flat_with imp x tables) → AllRight other_spec other_imp x (flat_with other_imp x tables)
  agree_isomorphic tables x right j l =
      let own = there spec imp other_spec other_imp share j l in
      sym (share.imp.tabled_bits x tables j own) ∙ right j own ∙ wanted_isomorphic spec imp other_spec other_imp share x j own

  pub fail_isomorphic : (tables : List TableBits) (x : List Bool) → SomeWrong spec imp x (flat_with imp x tables) → SomeWrong other_spec other_imp x (flat_with other_imp x tables)
  fail_isomorphic tables x (j, l, off) = (j, here j l, λ same. off (share.imp.tabled_bits x tables j l ∙ same ∙ sym (wanted_isomorphic spec imp other_spec other_imp share x j l)))

  pub completion_isomorphic : (tables : List TableBits) → AreCompletion spec imp tables → AreCompletion other_spec other_imp tables
  completion_isomorphic tables h = record {
    fit = fit_isomorphic tables h.fit;
    agree = λ x long. agree_isomorphic tables x (h.agree x (vector spec imp other_spec other_imp share x long));
  }

-- both ways
module _ (spec imp other_spec other_imp : Netlist) (to : ShareAll spec imp other_spec other_imp) (from : ShareAll other_spec other_imp spec imp) where
  pub least_vector_isomorphic : (P Q : List Bool → Type 0) → ((y : List Bool) → P y → Q y) → ((y : List Bool) → Q y → P y) → (x : List Bool) → IsLeastVector imp P x → IsLeastVector other_imp Q x
  least_vector_isomorphic P Q there back x h = record {
    vector = vector other_spec other_imp spec imp from x h.vector;
    holds = there x h.holds;
    least = λ y long holds. h.least y (vector spec imp other_spec other_imp to y long) (back y holds);
  }

  pub first_found_isomorphic : (P Q N M : List Bool → ℕ → Type 0) → ((y : List Bool) (j : ℕ) → IsOutput imp j → P y j → Q y j) → ((y : List Bool) (j : ℕ) → IsOutput other_imp j → Q y j → P y j)
      → ((y : List Bool) (j : ℕ) → IsOutput imp j → N y j → M y j) → (x : List Bool) (j : ℕ) → IsFirstFound imp P N x j → IsFirstFound other_imp Q M x j
  first_found_isomorphic P Q N M there back none x j h =
      let l = here spec imp other_spec other_imp to j h.there in
      record {
        there = l;
        at = least_vector_isomorphic (λ y. P y j) (λ y. Q y j) (λ y. there y j h.there) (λ y. back y j l) x h.at;
        earlier = λ i before y long. none y i (omega (arith, before, h.there)) (h.earlier i before y (vector spec imp other_spec other_imp to y long));
      }
