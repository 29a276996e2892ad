-- Gates of two operands, one after the other.
use Rattle.std.proofs.Common.{◌≡◌, ◌∙◌, ◌+◌, ◌<◌, ◌≤◌, ℕ, List, [], ◌∷◌, map, length, get_or, drop, refl, sym, ap, subst, arith}
use Rattle.std.specs.Prelude.{All}
use Rattle.std.proofs.lemmas.List.{length-append, drop_more, drop_all}
use Rattle.std.proofs.lemmas.List.Elements.{All-nil, All-cons}
use Rattle.bb_net.specs.Netlists.{Netlist}
use Rattle.bb_word.specs.declared.joint.Joint.{Joint}
use Rattle.bb_word.specs.declared.joint.Joint.TheVariants as joints
use Rattle.bb_word.specs.Circuits.{accumulated, joined_all}
use Rattle.bb_word.specs.Laws.Formulas.{Formula, formulas, cell_formula}
use Rattle.bb_word.specs.Inside.Adding.{Meets, with_cells, nothing, Adds, joint_gate, joint_none, joint_cell}
use Rattle.bb_word.specs.Laws.MapLaws.{made_same}
use Rattle.bb_word.proofs.AddingLemmas.{meets_new, Adds-start, Adds-step, Adds-end}

-- the first bits are joined
pub record IsReduced (joint : Joint) (bits : List ℕ) (old now : Netlist) (so_far i : ℕ) : Type 0 where
  pub made : Adds old now [] (λ part. joined_all (joint_gate formulas joint) (joint_none formulas joint) (map part bits)) (λ part. accumulated (joint_gate formulas joint) (part so_far) (map part (drop i bits)))
  pub there : so_far < length now.cells
  pub count : length now.cells + 1 ≡ length old.cells + i
  pub some : 1 ≤ i

joint_formula : (joint : Joint) (a b : ℕ) (part : ℕ → Formula) → cell_formula part (joint_cell joint a b) ≡ joint_gate formulas joint (part a) (part b)
joint_formula joints.Both a b part = refl
joint_formula joints.Either a b part = refl
joint_formula joints.Differ a b part = refl

pub IsReduced-start : (joint : Joint) (bits : List ℕ) (old : Netlist) (first : ℕ) → 1 ≤ length bits → first ≡ get_or bits 0 0 → All (λ bit. bit < length old.cells) bits → IsReduced joint bits old old first 1
IsReduced-start joint [] old first some is all = absurd (omega arith)
IsReduced-start joint (b ∷ bits) old first some is all = record {
  made = subst (λ f. Adds old old [] (λ part. joined_all (joint_gate formulas joint) (joint_none formulas joint) (map part (b ∷ bits))) (λ part. accumulated (joint_gate formulas joint) (part f) (map part bits))) (sym is) (Adds-start old (λ part. joined_all (joint_gate formulas joint) (joint_none formulas joint) (map part (b ∷ bits))));
  there = omega (arith, is, all 0 0 (omega arith));
  count = refl;
  some = omega arith;
}

pub IsReduced-step : (joint : Joint) (bits : List ℕ) (old now new : Netlist) (so_far i bit place : ℕ) → i < length bits → bit ≡ get_or bits i 0 → new ≡ with_cells now (joint_cell joint so_far bit ∷ []) → place ≡ length now.cells → IsReduced joint bits old now so_far i → IsReduced joint bits old new place (i + 1)
IsReduced-step joint bits old now new so_far i bit place below is grown at before =
    let op = joint_gate formulas joint in
    let added = joint_cell joint so_far bit ∷ [] in
    let long : length new.cells ≡ length now.cells + 1 = ap (λ n. length n.cells) grown ∙ length-append now.cells added in
    record {
      made = Adds-step old now new [] [] added (λ part. joined_all op (joint_none formulas joint) (map part bits)) (λ part. accumulated op (part so_far) (map part (drop i bits))) (λ part. accumulated op (part place) (map part (drop (i + 1) bits))) before.made grown (All-nil (λ p. p < length new.cells))
          (λ part meets.
          let more : drop i bits ≡ bit ∷ drop (i + 1) bits = drop_more bits i 0 below ∙ ap (λ b. b ∷ drop (i + 1) bits) (sym is) in
          let f : part place ≡ op (part so_far) (part bit) =
          ap part (at ∙ (let z : length now.cells ≡ length now.cells + 0 = omega arith in z)) ∙ meets_new now.cells added part (subst (λ n. Meets n.cells part) grown meets) 0 (omega arith) ∙ joint_formula joint so_far bit part in
          let opened : accumulated op (part so_far) (map part (drop i bits)) ≡ accumulated op (part so_far) (part bit ∷ map part (drop (i + 1) bits)) = ap (λ l. accumulated op (part so_far) (map part l)) more in
          opened ∙ made_same _ _ (ap (λ z. (accumulated op z (map part (drop (i + 1) bits))).bits) (sym f))
          (ap (λ z. op (part so_far) (part bit) ∷ (accumulated op z (map part (drop (i + 1) bits))).cells) (sym f) ∙ ap (λ z. z ∷ (accumulated op (part place) (map part (drop (i + 1) bits))).cells) (sym (joint_formula joint so_far bit part))));
      there = omega (arith, long, at);
      count = omega (arith, long, before.count);
      some = omega arith;
    }

pub IsReduced-end : (joint : Joint) (bits : List ℕ) (old now : Netlist) (so_far i : ℕ) → length bits ≤ i → IsReduced joint bits old now so_far i → Adds old now (so_far ∷ []) (λ part. joined_all (joint_gate formulas joint) (joint_none formulas joint) (map part bits)) nothing
IsReduced-end joint bits old now so_far i past done =
    let op = joint_gate formulas joint in
    let none = drop_all i bits past in
    Adds-end old now [] (so_far ∷ []) (λ part. joined_all op (joint_none formulas joint) (map part bits))
    (subst (λ l. Adds old now [] (λ part. joined_all op (joint_none formulas joint) (map part bits)) (λ part. accumulated op (part so_far) (map part l))) none done.made)
    (All-cons (λ p. p < length now.cells) so_far [] done.there (All-nil (λ p. p < length now.cells)))
