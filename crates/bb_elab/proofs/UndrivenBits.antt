-- The first bit that is read and has no driver, from the number of drivers of each bit and whether it is read.
use Rattle.std.proofs.Common.{◌≡◌, ℕ, suc, ◌<◌, Bool, true, false, List, take, drop, length, get_or, Some, refl, sym, arith}
use Rattle.std.specs.Prelude.{slice_get}
use Rattle.std.proofs.lemmas.Option.{slice_get_read}
use Rattle.bb_elab.specs.Inside.DrivenNumbers.{IsFirstAt, AreCounts, AreReads}
use Rattle.bb_design.specs.Hierarchy.{Design}
use Rattle.bb_design.specs.Inside.Allowed.{IsBounded}
use Rattle.bb_design.specs.NetBits.{net_order}
use Rattle.bb_design.specs.Refusals.{IsUndriven, AreDriven}
use Rattle.bb_elab.proofs.CountedDrivers.{driven_counted, undriven_counted}
use Rattle.bb_lemmas.proofs.Places.{some_at, split, taken}
use Rattle.bb_design.specs.Laws.DesignLaws.{DesignLaws}

-- each of these that is read has a driver
abbrev pub HaveDrivers : ℕ → List Bool → List ℕ → Type 0
HaveDrivers n read counts = (j : ℕ) → j < n → get_or read j false ≡ true → 0 < get_or counts j 0

module _ (of_designs : DesignLaws) (d : Design) (counts : List ℕ) (read : List Bool) (counted : AreCounts d counts) (reads : AreReads d read) where
  pub first_at : (k : ℕ) → k < length counts → get_or read k false ≡ true → get_or counts k 0 ≡ 0 → HaveDrivers k read counts → IsFirstAt d (IsUndriven d) k
  first_at k lt on none earlier =
      let b = some_at (net_order d) k (omega (arith, lt, counted.count)) in (
        b.0,
        b.1,
        record {
          before = take k (net_order d);
          after = drop (suc k) (net_order d);
          occurs = split (net_order d) k b.0 b.1;
          holds = ((reads.each k b.0 b.1).0 on, undriven_counted of_designs d counts counted k b.0 b.1 none);
          earlier = λ y has undriven.
              let j = taken (net_order d) k y has in
              undriven.1 (driven_counted of_designs d counts counted j.0 y j.2 (earlier j.0 j.1 ((reads.each j.0 y j.2).1 undriven.0)));
        },
      )

  pub all_driven : IsBounded d → HaveDrivers (length counts) read counts → AreDriven d
  all_driven bounded have b is_read =
      let there = (of_designs.bits_there d bounded).read b is_read in
      let at : slice_get (net_order d) there.0 ≡ Some b = slice_get_read (net_order d) (length (net_order d)) there.0 b refl there.1 (sym there.2) in
      driven_counted of_designs d counts counted there.0 b at (have there.0 (omega (arith, there.1, counted.count)) ((reads.each there.0 b at).1 is_read))
