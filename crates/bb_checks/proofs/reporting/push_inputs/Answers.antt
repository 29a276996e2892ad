use Rattle.std.proofs.Common.{◌≡◌, ◌+◌, ◌<◌, ◌++◌, ℕ, Bool, false, List, [], ◌∷◌, length, take, get_or, arith, sym, ◌∙◌, ap}
use Rattle.std.specs.Prelude.{zip}
use Rattle.std.specs.List.{flat_map}
use Rattle.std.proofs.lemmas.List.{take_all, take_more, flat_map_more}
use Rattle.std.proofs.lemmas.Slice.Zip.{get_or-zip, length-zip}
use Rattle.bb_checks.specs.Reports.{printed_input}
use Rattle.bb_checks.proofs.reporting.push_inputs.Goals as goal

-- the text after one more input
inputs_more : (text old : List ℕ) (names : List (List ℕ)) (x : List Bool) (i : ℕ) (name : List ℕ) → i < length names → length x ≡ length names → name ≡ get_or names i name
    → text ≡ old ++ flat_map printed_input (take i (zip names x)) → text ++ printed_input (name, get_or x i false) ≡ old ++ flat_map printed_input (take (i + 1) (zip names x))
inputs_more text old names x i name within same at h =
    let there : i < length (zip names x) = omega (arith, length-zip names x, within, same) in
    let pair : get_or (zip names x) i (name, false) ≡ (name, get_or x i false) =
    get_or-zip names x i (name, false) within (omega (arith, within, same)) ∙ ap (λ n. (n, get_or x i false)) (sym at) in
    ap (λ t. t ++ printed_input (name, get_or x i false)) h
    ∙ flat_map_more printed_input old (take i (zip names x)) (name, get_or x i false)
    ∙ ap (λ ps. old ++ flat_map printed_input ps) (sym (take_more (zip names x) i (name, false) there ∙ ap (λ p. take i (zip names x) ++ p ∷ []) pair))

pub loop-i-preserved : goal.loop-i-preserved
loop-i-preserved c =
    c.in_ok-push_input.ensures.text
    ∙ inputs_more c.loop-i.text.items c.args.text.now.items c.args.names.now c.args.x.now c.loop-i.i c.index-names-i.result c.loop-i-test.true c.requires.bits c.index-names-i.is c.loop-i.invariant

pub returns : goal.returns
returns c = record {
  text =
      c.loop-i.invariant
      ∙ ap (λ ps. c.args.text.now.items ++ flat_map printed_input ps)
      (take_all c.loop-i.i (zip c.args.names.now c.args.x.now) (omega (arith, c.loop-i-test.false, length-zip c.args.names.now c.args.x.now, c.requires.bits)));
}
