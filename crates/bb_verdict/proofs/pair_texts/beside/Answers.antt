use Rattle.std.proofs.Common.{◌≡◌, ◌⊎◌, refl, subst, sym}
use Rattle.bb_frontend.specs.declared.refusal.Refusal.TheVariants.{NoMemory}
use Rattle.bb_match.specs.declared.fault.MatchFault.TheVariants as pair
use Rattle.bb_match.specs.Pairing.{IsPairOf}
use Rattle.bb_match.specs.Refusals.{IsFirstPairRefusal}
use Rattle.bb_verdict.proofs.TextPairLaws.{IsTextRefusal, pair_refused}
use Rattle.bb_verdict.proofs.pair_texts.beside.Goals as goal

pub returns-in-Ok-clause-ok : goal.returns-in-Ok-clause-ok
returns-in-Ok-clause-ok c s i spec_implements imp_implements = (
  record {
    kept = c.keeps.ensures.kept;
    spec_net = c.args.spec;
    imp_net = c.args.imp;
    spec_implements = spec_implements;
    imp_implements = imp_implements;
    spec_flat = c.in-Ok.ensures.kept.0;
    imp_flat = c.in-Ok.ensures.kept.1;
    paired = subst (λ care. IsPairOf care c.args.requested.now.options.shared c.args.spec c.args.imp c.in-Ok.pair) c.bytes_of-care.ensures.bytes c.in-Ok.ensures.ok;
  },
  refl,
)

pub returns-in-Err-clause-refusal : goal.returns-in-Err-clause-refusal
returns-in-Err-clause-refusal c = subst (λ r. (r ≡ NoMemory) ⊎ IsTextRefusal c.designs_are_allowed.ensures c.nets_are_taken_as_designs.ensures c.args.requested.now c.args.spec c.args.imp r) (sym c.of_pair.ensures.refusal) (pair_refused c.designs_are_allowed.ensures c.nets_are_taken_as_designs.ensures c.args.requested.now c.args.spec c.args.imp c.in-Err.fault (subst (λ care. (c.in-Err.fault ≡ pair.NoMemory) ⊎ IsFirstPairRefusal care c.args.spec c.args.imp c.in-Err.fault) c.bytes_of-care.ensures.bytes c.in-Err.ensures.fault))
