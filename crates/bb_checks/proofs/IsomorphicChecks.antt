-- What a check leaves open or decides of one pair it leaves open or decides of another that is alike, and what may depend on the search
-- for the one does for the other.
use Rattle.std.proofs.Common.{◌<◌, ◌≤◌, ◌^◌, subst, inl, inr}
use Rattle.bb_net.specs.Conditions.{MayBeRightAmong}
use Rattle.bb_net.specs.Pairs.{NetPair}
use Rattle.bb_tern.specs.Patterns.{patterns}
use Rattle.bb_options.specs.declared.options.Options.{Options}
use Rattle.bb_options.specs.declared.rung.Rung.{Rung}
use Rattle.bb_options.specs.declared.rung.Rung.TheVariants.{Ternary, Symbolic, Local, Output, Input, Expand}
use Rattle.bb_checks.specs.Laws.IsomorphicPairs.{IsomorphicPairsAreLeftOpen, IsomorphicPairsStayOpen, IsomorphicPairsDependTheSame, IsomorphicPairsAreDecided}
use Rattle.bb_checks.specs.LeftOpen.{MayLeaveOpen, MustLeaveOpen, Decides}
use Rattle.bb_checks.specs.Laws.Searches.{MayDependOnSearch}
use Rattle.bb_checks.proofs.IsomorphicConditions.{right_among_isomorphic, right_everywhere_isomorphic, each_right_isomorphic, all_right_isomorphic, choices_isomorphic}
use Rattle.bb_checks.specs.Inside.IsomorphismLaws.{PairLaws}
use Rattle.bb_checks.proofs.IsomorphicShared.{Share, bits_isomorphic, small_isomorphic, finishable_isomorphic, share, share_back}
use Rattle.bb_checks.proofs.IsomorphicTables.{too_many_among}

module _ (p q : NetPair) (to : Share p q) (from : Share q p) (o : Options) where
  open_isomorphic : (r : Rung) → MayLeaveOpen p o r → MayLeaveOpen q o r
  open_isomorphic Ternary right =
      subst (λ n. MayBeRightAmong q.spec q.imp (patterns n o.patterns o.seed)) to.nets.imp.inputs
      (right_among_isomorphic p.spec p.imp q.spec q.imp to.nets to.known (patterns p.imp.inputs o.patterns o.seed) right)
  open_isomorphic Symbolic (inl many) = inl (too_many_among o _ _ to.symbolic many)
  open_isomorphic Symbolic (inr right) = inr (right_everywhere_isomorphic p.spec p.imp q.spec q.imp to.nets to.known right)
  open_isomorphic Local (inl many) = inl (too_many_among o _ _ to.local many)
  open_isomorphic Local (inr right) = inr (each_right_isomorphic p.spec p.imp q.spec q.imp to.nets right)
  open_isomorphic Output (inl many) = inl (too_many_among o _ _ to.output many)
  open_isomorphic Output (inr right) = inr (all_right_isomorphic p.spec p.imp q.spec q.imp to.nets right)
  open_isomorphic Input (inl many) = inl (too_many_among o _ _ to.input many)
  open_isomorphic Input (inr (suits, none)) = inr (choices_isomorphic p.spec p.imp q.spec q.imp to.nets suits, λ finishable. none (finishable_isomorphic q p from finishable))
  open_isomorphic Expand (inl wide) = inl (subst (λ n. 2 ^ 24 < n) (bits_isomorphic p q to) wide)
  open_isomorphic Expand (inr needs) = inr (to.needs o.clauses needs)

  stays_isomorphic : (r : Rung) → MustLeaveOpen p o r → MustLeaveOpen q o r
  stays_isomorphic Ternary stays = open_isomorphic Ternary stays
  stays_isomorphic Symbolic stays = open_isomorphic Symbolic stays
  stays_isomorphic Local stays = open_isomorphic Local stays
  stays_isomorphic Output stays = open_isomorphic Output stays
  stays_isomorphic Input stays = open_isomorphic Input stays
  stays_isomorphic Expand wide = subst (λ n. 2 ^ 24 < n) (bits_isomorphic p q to) wide

  pub depends_isomorphic : MayDependOnSearch p o → MayDependOnSearch q o
  depends_isomorphic h = record { requested = h.requested; small = small_isomorphic p q to h.small; needs = to.needs o.clauses h.needs }

  decides_isomorphic : (r : Rung) → Decides p o r → Decides q o r
  decides_isomorphic Ternary h = h
  decides_isomorphic Symbolic h = h
  decides_isomorphic Local h = h
  decides_isomorphic Output h = h
  decides_isomorphic Input (finishable, few) = (finishable_isomorphic p q to finishable, λ many. few (too_many_among o _ _ from.input many))
  decides_isomorphic Expand (small, few) = (small_isomorphic p q to small, subst (λ n. n ≤ o.clauses) to.clauses few)

pub isomorphic_pairs_are_left_open : PairLaws → IsomorphicPairsAreLeftOpen
isomorphic_pairs_are_left_open laws p q o r one other alike h = open_isomorphic p q (share laws p q one other alike) (share_back laws p q one other alike) o r h

pub isomorphic_pairs_stay_open : PairLaws → IsomorphicPairsStayOpen
isomorphic_pairs_stay_open laws p q o r one other alike h = stays_isomorphic p q (share laws p q one other alike) (share_back laws p q one other alike) o r h

pub isomorphic_pairs_depend_isomorphic : PairLaws → IsomorphicPairsDependTheSame
isomorphic_pairs_depend_isomorphic laws p q o one other alike h = depends_isomorphic p q (share laws p q one other alike) (share_back laws p q one other alike) o h

pub isomorphic_pairs_are_decided : PairLaws → IsomorphicPairsAreDecided
isomorphic_pairs_are_decided laws p q o r one other alike h = decides_isomorphic p q (share laws p q one other alike) (share_back laws p q one other alike) o r h
