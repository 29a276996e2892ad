-- the boxes quantified, as choices one after another
use Rattle.std.proofs.Common.{◌≡◌, ℕ, zero, suc, ◌+◌, Bool, true, false, ◌&&◌, ◌||◌, List, [], ◌∷◌, ◌++◌, length, take, drop, refl, sym, ap, ◌∙◌, subst, arith, length-append, length-take, length-drop, append-nil, append_assoc, take-append-drop}
use Rattle.std.proofs.lemmas.List.Sums.{sum_by-append, sum_by-cons}
use Rattle.bb_lemmas.proofs.Bits.{never_both}
use Rattle.bb_bits.specs.Truth.{Truth, IsTruthTable, truth_at, quantified_block}
use Rattle.bb_bits.specs.Laws.TruthLaws.{QuantifierLaws, TableLaws}
use Rattle.bb_net.specs.Conditions.{ChoicesSuit, InputsHaveOutputs, SomeChoicesSuit, NoChoicesSuit}
use Rattle.bb_net.specs.Netlists.{Netlist, Pins}
use Rattle.bb_net.specs.Pairs.{pin_count}
use Rattle.bb_sym.specs.Laws.{FunctionLaws}
use Rattle.bb_input.specs.InputFunctions.{pins_and_inputs, point_pins, refutes, refuted, lost, outs_quantified, box_quantified, boxes_quantified}
use Rattle.bb_input.proofs.OrderLemmas.{pins_of}
use Rattle.bb_input.proofs.Points.{bits_push}
use Rattle.bb_input.proofs.Suits.{suits_of_false, false_of_suits}

-- parts of a list
three_parts : (k m : ℕ) (w : List Bool) → w ≡ take k w ++ (take m (drop k w) ++ drop m (drop k w))
three_parts k m w = sym (take-append-drop k w) ∙ ap (λ (v : List Bool). take k w ++ v) (sym (take-append-drop m (drop k w)))

count_push : (done : List Pins) (box : Pins) → pin_count (done ++ box ∷ []) ≡ pin_count done + pins_of box
count_push done box = let e = sum_by-append pins_of done (box ∷ []) in let f = sum_by-cons pins_of box [] in omega (arith, e, f)

module _ (quantifiers : QuantifierLaws) (tables : TableLaws) (functions : FunctionLaws) (spec imp : Netlist) where
  abbrev n : ℕ
  n = pins_and_inputs imp

  block_size : (v k : ℕ) (op : Bool → Bool → Bool) (t : Truth) → IsTruthTable n t → IsTruthTable n (quantified_block op v k t)
  block_size v zero op t h = h
  block_size v (suc k) op t h = tables.quantified_size n v op (quantified_block op (suc v) k t) (block_size (suc v) k op t h)

  boxes_size : (boxes : List Pins) (first : ℕ) → IsTruthTable n (boxes_quantified first boxes (refuted spec imp))
  boxes_size [] first = block_size (pin_count imp.boxes) imp.inputs ◌||◌ _ (functions.size n (refutes spec imp))
  boxes_size (box ∷ boxes) first =
      let inner = boxes_size boxes (first + (length box.ins + length box.outs)) in
      block_size first (length box.ins) ◌||◌ _ (block_size (first + length box.ins) (length box.outs) ◌&&◌ _ inner)

  -- one box, after the bits before it
  module _ (first : ℕ) (box : Pins) (u : Truth) (size : IsTruthTable n u) (pre i z v : List Bool) (e : length pre ≡ first) (ei : length i ≡ length box.ins) (ez : length z ≡ length box.outs) (whole : n ≡ first + (length box.ins + (length box.outs + length v))) where
    outer_size : IsTruthTable (first + (length box.ins + length (z ++ v))) (outs_quantified first box u)
    outer_size =
        subst (λ k. IsTruthTable k (outs_quantified first box u)) (let h : n ≡ first + (length box.ins + length (z ++ v)) = omega (arith, whole, length-append z v, ez) in h)
        (block_size (first + length box.ins) (length box.outs) ◌&&◌ u size)

    inner_size : IsTruthTable ((first + length box.ins) + (length box.outs + length v)) u
    inner_size = subst (λ k. IsTruthTable k u) (let h : n ≡ (first + length box.ins) + (length box.outs + length v) = omega (arith, whole) in h) size

    shifted : (t : Truth) (ins : List Bool) → truth_at t (pre ++ (ins ++ (z ++ v))) ≡ truth_at t ((pre ++ ins) ++ (z ++ v))
    shifted t ins = ap (truth_at t) (sym (append_assoc pre ins (z ++ v)))

    long : (ins : List Bool) → length ins ≡ length box.ins → length (pre ++ ins) ≡ first + length box.ins
    long ins w = omega (arith, length-append pre ins, e, w)

    answers : truth_at (box_quantified first box u) (pre ++ (i ++ (z ++ v))) ≡ false → (ins : List Bool) → length ins ≡ length box.ins → (outs : List Bool) × (length outs ≡ length box.outs) × (truth_at u ((pre ++ ins) ++ (outs ++ v)) ≡ false)
    answers none ins w =
        let each = (quantifiers.some_false first (length box.ins) (outs_quantified first box u) pre i (z ++ v) e ei outer_size).0 none ins w in
        (quantifiers.all_false (first + length box.ins) (length box.outs) u (pre ++ ins) z v (long ins w) ez inner_size).0 (sym (shifted (outs_quantified first box u) ins) ∙ each)

    attack : truth_at (box_quantified first box u) (pre ++ (i ++ (z ++ v))) ≡ true → (ins : List Bool) × (length ins ≡ length box.ins) × ((outs : List Bool) → length outs ≡ length box.outs → truth_at u ((pre ++ ins) ++ (outs ++ v)) ≡ true)
    attack some =
        let found = (quantifiers.some_true first (length box.ins) (outs_quantified first box u) pre i (z ++ v) e ei outer_size).0 some in (
          found.0,
          found.1,
          (quantifiers.all_true (first + length box.ins) (length box.outs) u (pre ++ found.0) z v (long found.0 found.1) ez inner_size).0 (sym (shifted (outs_quantified first box u) found.0) ∙ found.2),
        )

  -- the bits of the next boxes, after those of one more
  next_point : (u : Truth) (pre ins outs v : List Bool) → truth_at u ((pre ++ ins) ++ (outs ++ v)) ≡ truth_at u ((pre ++ (ins ++ outs)) ++ v)
  next_point u pre ins outs v = ap (truth_at u) (sym (append_assoc (pre ++ ins) outs v) ∙ ap (λ (w : List Bool). w ++ v) (append_assoc pre ins outs))

  next_table : (done rest : List Pins) (box : Pins) → boxes_quantified (pin_count done + pins_of box) rest (refuted spec imp) ≡ boxes_quantified (pin_count (done ++ box ∷ [])) rest (refuted spec imp)
  next_table done rest box = ap (λ k. boxes_quantified k rest (refuted spec imp)) (sym (count_push done box))

  next_split : (done rest : List Pins) (box : Pins) → imp.boxes ≡ done ++ (box ∷ rest) → imp.boxes ≡ (done ++ box ∷ []) ++ rest
  next_split done rest box split = split ∙ sym (append_assoc done (box ∷ []) rest)

  all_count : (done rest : List Pins) → imp.boxes ≡ done ++ rest → pin_count imp.boxes ≡ pin_count done + pin_count rest
  all_count done rest split = ap pin_count split ∙ sum_by-append pins_of done rest

  done_all : (done : List Pins) → imp.boxes ≡ done ++ [] → done ≡ imp.boxes
  done_all done split = sym (split ∙ append-nil done)

  pub won : (rest done : List Pins) → imp.boxes ≡ done ++ rest → (pre w : List Bool) → length pre ≡ pin_count done → length w ≡ pin_count rest + imp.inputs →
      truth_at (boxes_quantified (pin_count done) rest (refuted spec imp)) (pre ++ w) ≡ false → InputsHaveOutputs (ChoicesSuit spec imp) rest (point_pins done pre)
  won [] done split pre w e l none =
      let all = done_all done split in
      subst (λ (boxes : List Pins). ChoicesSuit spec imp (point_pins boxes pre)) (sym all) (suits_of_false quantifiers functions spec imp pre w (e ∙ ap pin_count all) (omega (arith, l)) none)
  won (box ∷ rest) done split pre w e l none = λ ins width.
      let k = length box.ins in
      let m = length box.outs in
      let v = drop m (drop k w) in
      let total = all_count done (box ∷ rest) split in
      let sums = sum_by-cons pins_of box rest in
      let u = boxes_quantified (pin_count done + pins_of box) rest (refuted spec imp) in
      let left : length v ≡ pin_count rest + imp.inputs = omega (arith, length-drop m (drop k w), length-drop k w, l, sums) in
      let outs = answers (pin_count done) box u (boxes_size rest (pin_count done + pins_of box)) pre (take k w) (take m (drop k w)) v e (omega (arith, length-take k w, l, sums)) (omega (arith, length-take m (drop k w), length-drop k w, l, sums))
      (omega (arith, left, total, sums)) (ap (λ (y : List Bool). truth_at (box_quantified (pin_count done) box u) (pre ++ y)) (sym (three_parts k m w)) ∙ none) ins width in
      let more = won rest (done ++ box ∷ []) (next_split done rest box split) (pre ++ (ins ++ outs.0)) v (omega (arith, count_push done box, length-append pre (ins ++ outs.0), length-append ins outs.0, e, width, outs.1)) left
      (ap (λ t. truth_at t ((pre ++ (ins ++ outs.0)) ++ v)) (sym (next_table done rest box)) ∙ (sym (next_point u pre ins outs.0 v) ∙ outs.2)) in
      (outs.0, outs.1, subst (InputsHaveOutputs (ChoicesSuit spec imp) rest) (bits_push done box pre ins outs.0 e width outs.1) more)

  pub lost_game : (rest done : List Pins) → imp.boxes ≡ done ++ rest → (pre w : List Bool) → length pre ≡ pin_count done → length w ≡ pin_count rest + imp.inputs →
      truth_at (boxes_quantified (pin_count done) rest (refuted spec imp)) (pre ++ w) ≡ true → InputsHaveOutputs (ChoicesSuit spec imp) rest (point_pins done pre) → ⊥
  lost_game [] done split pre w e l some suit =
      let all = done_all done split in
      never_both (truth_at (refuted spec imp) (pre ++ w)) some
      (false_of_suits quantifiers functions spec imp pre w (e ∙ ap pin_count all) (omega (arith, l)) (subst (λ (boxes : List Pins). ChoicesSuit spec imp (point_pins boxes pre)) all suit))
  lost_game (box ∷ rest) done split pre w e l some wins =
      let k = length box.ins in
      let m = length box.outs in
      let v = drop m (drop k w) in
      let total = all_count done (box ∷ rest) split in
      let sums = sum_by-cons pins_of box rest in
      let u = boxes_quantified (pin_count done + pins_of box) rest (refuted spec imp) in
      let left : length v ≡ pin_count rest + imp.inputs = omega (arith, length-drop m (drop k w), length-drop k w, l, sums) in
      let against = attack (pin_count done) box u (boxes_size rest (pin_count done + pins_of box)) pre (take k w) (take m (drop k w)) v e (omega (arith, length-take k w, l, sums)) (omega (arith, length-take m (drop k w), length-drop k w, l, sums))
      (omega (arith, left, total, sums)) (ap (λ (y : List Bool). truth_at (box_quantified (pin_count done) box u) (pre ++ y)) (sym (three_parts k m w)) ∙ some) in
      let ins = against.0 in
      let reply = wins ins against.1 in
      lost_game rest (done ++ box ∷ []) (next_split done rest box split) (pre ++ (ins ++ reply.0)) v (omega (arith, count_push done box, length-append pre (ins ++ reply.0), length-append ins reply.0, e, against.1, reply.1)) left
      (ap (λ t. truth_at t ((pre ++ (ins ++ reply.0)) ++ v)) (sym (next_table done rest box)) ∙ (sym (next_point u pre ins reply.0 v) ∙ against.2 reply.0 reply.1))
      (subst (InputsHaveOutputs (ChoicesSuit spec imp) rest) (sym (bits_push done box pre ins reply.0 e against.1 reply.1)) reply.2)

  -- at any point, the last function says whether choices suit
  pub lost_reports : (p : List Bool) → length p ≡ n → truth_at (lost spec imp) p ≡ true → NoChoicesSuit spec imp
  lost_reports p e some choices = lost_game imp.boxes [] refl [] p refl e some choices

  pub won_reports : (p : List Bool) → length p ≡ n → truth_at (lost spec imp) p ≡ false → SomeChoicesSuit spec imp
  won_reports p e none = won imp.boxes [] refl [] p refl e none
