use Rattle.std.proofs.Common.{◌≡◌, ℕ, List, length, map, vec_items, Some, None, ap, ◌∙◌, subst, arith}
use Rattle.std.specs.Int.Count.{count_trailing_zeros}
use Rattle.std.proofs.lemmas.List.{length-map}
use Rattle.bb_net.specs.Netlists.{Netlist}
use Rattle.bb_tern.specs.Inside.Lanes.{ReportsAll, FindsFirst}
use Rattle.bb_tern.proofs.Hits.{none_below, one_is_found, hit_there}
use Rattle.bb_tern.proofs.passing.pass.Goals as goal

pub returns-then-k-patterns-clause-none : goal.returns-then-k-patterns-clause-none
returns-then-k-patterns-clause-none c =
    let rows = map vec_items c.args.patterns.now in
    let same : length rows ≡ length c.args.patterns.now = length-map c.args.patterns.now vec_items in
    let spec = c.args.pair.now.spec in
    let imp = c.args.pair.now.imp in
    let wanted = c.fill.new.wanted in
    let known = c.fill.new.known in
    let word = c.wrong_lanes-wrong.result in
    let spec_outs : c.outs-spec_outs.result.now ≡ spec.outs = c.outs-spec_outs.ensures.outs ∙ ap (λ (n : Netlist). n.outs) c.spec.ensures.spec in
    let imp_outs : c.outs-imp_outs.result.now ≡ imp.outs = c.outs-imp_outs.ensures.outs ∙ ap (λ (n : Netlist). n.outs) c.imp.ensures.imp in
    let reports : ReportsAll spec.outs imp.outs wanted known word =
    subst (λ (o : List ℕ). ReportsAll o imp.outs wanted known word) spec_outs (subst (λ (o : List ℕ). ReportsAll c.outs-spec_outs.result.now o wanted known word) imp_outs c.wrong_lanes-wrong.ensures) in
    λ i inside o output.
    none_below spec imp rows wanted known c.fill.ensures.filled word (omega arith) (omega (arith, same, c.requires.count)) reports (length rows) (omega (arith, c.if-k-patterns.true, same)) i inside inside o output

pub returns-in_err-j-clause-none : goal.returns-in_err-j-clause-none
returns-in_err-j-clause-none c =
    let rows = map vec_items c.args.patterns.now in
    let same : length rows ≡ length c.args.patterns.now = length-map c.args.patterns.now vec_items in
    let spec = c.args.pair.now.spec in
    let imp = c.args.pair.now.imp in
    let wanted = c.fill.new.wanted in
    let known = c.fill.new.known in
    let word = c.wrong_lanes-wrong.result in
    let spec_outs : c.outs-spec_outs.result.now ≡ spec.outs = c.outs-spec_outs.ensures.outs ∙ ap (λ (n : Netlist). n.outs) c.spec.ensures.spec in
    let imp_outs : c.outs-imp_outs.result.now ≡ imp.outs = c.outs-imp_outs.ensures.outs ∙ ap (λ (n : Netlist). n.outs) c.imp.ensures.imp in
    let reports : ReportsAll spec.outs imp.outs wanted known word =
    subst (λ (o : List ℕ). ReportsAll o imp.outs wanted known word) spec_outs (subst (λ (o : List ℕ). ReportsAll c.outs-spec_outs.result.now o wanted known word) imp_outs c.wrong_lanes-wrong.ensures) in
    let k = count_trailing_zeros 64 word in
    let finds : FindsFirst spec.outs imp.outs wanted known k (None) =
    subst (λ (o : List ℕ). FindsFirst o imp.outs wanted known k (None)) spec_outs (subst (λ (o : List ℕ). FindsFirst c.outs-spec_outs.result.now o wanted known k (None)) imp_outs c.in_err-j.ensures) in
    absurd (one_is_found spec imp rows wanted known c.fill.ensures.filled word (omega arith) (omega (arith, same, c.requires.count)) reports (omega (arith, same, c.if-k-patterns.false)) finds)

pub returns-clause-hit : goal.returns-clause-hit
returns-clause-hit c =
    let rows = map vec_items c.args.patterns.now in
    let same : length rows ≡ length c.args.patterns.now = length-map c.args.patterns.now vec_items in
    let spec = c.args.pair.now.spec in
    let imp = c.args.pair.now.imp in
    let wanted = c.fill.new.wanted in
    let known = c.fill.new.known in
    let word = c.wrong_lanes-wrong.result in
    let spec_outs : c.outs-spec_outs.result.now ≡ spec.outs = c.outs-spec_outs.ensures.outs ∙ ap (λ (n : Netlist). n.outs) c.spec.ensures.spec in
    let imp_outs : c.outs-imp_outs.result.now ≡ imp.outs = c.outs-imp_outs.ensures.outs ∙ ap (λ (n : Netlist). n.outs) c.imp.ensures.imp in
    let reports : ReportsAll spec.outs imp.outs wanted known word =
    subst (λ (o : List ℕ). ReportsAll o imp.outs wanted known word) spec_outs (subst (λ (o : List ℕ). ReportsAll c.outs-spec_outs.result.now o wanted known word) imp_outs c.wrong_lanes-wrong.ensures) in
    let k = count_trailing_zeros 64 word in
    let finds : FindsFirst spec.outs imp.outs wanted known k (Some c.in_ok-j.j) =
    subst (λ (o : List ℕ). FindsFirst o imp.outs wanted known k (Some c.in_ok-j.j)) spec_outs (subst (λ (o : List ℕ). FindsFirst c.outs-spec_outs.result.now o wanted known k (Some c.in_ok-j.j)) imp_outs c.in_ok-j.ensures) in
    hit_there spec imp rows wanted known c.fill.ensures.filled word (omega arith) (omega (arith, same, c.requires.count)) reports (omega (arith, same, c.if-k-patterns.false)) c.in_ok-j.j finds
