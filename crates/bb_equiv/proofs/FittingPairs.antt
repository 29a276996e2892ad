-- A pair implements two designs exactly where they fit.
use Rattle.bb_implements.specs.Laws.ListLaws.{ImplementingNetsAreFlat, ImplementingNetsArePrintable, ImplementingNetsExist}
use Rattle.bb_match.specs.Laws.{FittingHavePair, FittingHaveKeptPair, PairsFit}
use Rattle.bb_equiv.specs.Laws.DesignRefusals.{AreNetsFor, FittingDesignsHavePairs, NetsAreTakenAsDesigns, PairsImplementExactlyFitting}

module _ (taken : NetsAreTakenAsDesigns) (pairs_fit : PairsFit) (have_pair : FittingHavePair) where
  pub pairs_implement_exactly_fitting : PairsImplementExactlyFitting
  pairs_implement_exactly_fitting care shared spec imp good also = record {
    fit = λ p pair.
        let nets : AreNetsFor spec imp pair.spec_net pair.imp_net = record { spec_implements = pair.spec_implements; imp_implements = pair.imp_implements } in
        (taken care spec imp pair.spec_net pair.imp_net good also nets).fit.0 (pairs_fit care shared pair.spec_net pair.imp_net p pair.spec_flat pair.paired);
    pair = λ fit f g nets flat also_flat. have_pair care shared f g flat also_flat ((taken care spec imp f g good also nets).fit.1 fit);
  }

pub fitting_designs_have_pairs : ImplementingNetsExist → ImplementingNetsAreFlat → ImplementingNetsArePrintable → NetsAreTakenAsDesigns → FittingHaveKeptPair → FittingDesignsHavePairs
fitting_designs_have_pairs exist flat printable taken have_pair care shared spec imp good also fit =
    let f = exist spec good in
    let g = exist imp also in
    let flat_f = flat spec f.0 good f.1 (printable spec f.0 good.bounded f.1) in
    let flat_g = flat imp g.0 also g.1 (printable imp g.0 also.bounded g.1) in
    let p = have_pair care shared f.0 g.0 flat_f flat_g ((taken care spec imp f.0 g.0 good also (record { spec_implements = f.1; imp_implements = g.1 })).fit.1 fit) in (
      p.0,
      record { kept = p.1; spec_net = f.0; imp_net = g.0; spec_implements = f.1; imp_implements = g.1; spec_flat = flat_f; imp_flat = flat_g; paired = p.2 },
    )
