use Rattle.bb_equiv.proofs.laws.care_outputs_require_less.Goals as goal

pub returns : goal.returns
returns c = λ spec imp contents. record {
  less = λ care every x w v is_w has_w is_v has_v requested. every x w v is_w has_w is_v has_v;
  always = λ care requested agree x w v is_w has_w is_v has_v. agree x w v is_w has_w is_v has_v (requested x w is_w has_w);
  never = λ care unasked x w v is_w has_w is_v has_v requested. absurd (unasked x w is_w has_w requested);
  without = ((λ agree x w v is_w has_w is_v has_v. agree x w v is_w has_w is_v has_v tt), (λ every x w v is_w has_w is_v has_v requested. every x w v is_w has_w is_v has_v));
}
