-- Shifts, cell by cell.
use Rattle.std.proofs.Common.{◌≡◌, ◌∙◌, ◌+◌, ◌*◌, ◌<◌, ◌≤◌, ℕ, List, [], ◌∷◌, ◌++◌, map, length, get_or, drop, refl, sym, ap, subst, arith}
use Rattle.std.specs.Prelude.{All, min}
use Rattle.std.proofs.Math.Path.{ap₂}
use Rattle.std.proofs.lemmas.List.{length-append, length-map, drop_all}
use Rattle.std.proofs.lemmas.List.Elements.{All-nil, All-cons}
use Rattle.bb_net.specs.declared.cell.Cell.TheVariants as cell
use Rattle.bb_net.specs.Netlists.{Netlist}
use Rattle.bb_word.specs.declared.shifts.Direction.{Direction}
use Rattle.bb_word.specs.declared.shifts.Direction.TheVariants as ways
use Rattle.bb_word.specs.Gates.{Made, after, bits}
use Rattle.bb_word.specs.Circuits.{choices, shifted}
use Rattle.bb_word.specs.Laws.Formulas.{Formula, Mux, formulas}
use Rattle.bb_word.specs.Inside.Adding.{with_cells, nothing, Adds, HasConstants}
use Rattle.bb_word.specs.Inside.Moving.{move, both_choices}
use Rattle.bb_word.specs.Laws.MapLaws.{made_same, plain-up, plain-down}
use Rattle.bb_word.proofs.AddingLemmas.{Adds-start, Adds-step, Adds-end, Adds-bits, Adds-cells}
use Rattle.bb_word.proofs.StepLemmas.{part_new, length_new, parts_more, part_zero, Adds-constants}
use Rattle.bb_word.proofs.MoveLemmas.{move-far}

pub record AreChosen (choice : ℕ) (chosen others : List ℕ) (old now : Netlist) (places : List ℕ) (i : ℕ) : Type 0 where
  pub made : Adds old now places (λ part. both_choices (part choice) (map part chosen) (map part others)) (λ part. both_choices (part choice) (map part (drop i chosen)) (map part (drop i others)))
  pub count : length now.cells ≡ length old.cells + i
  pub long : length places ≡ i

pub AreChosen-start : (choice : ℕ) (chosen others : List ℕ) (old : Netlist) → AreChosen choice chosen others old old [] 0
AreChosen-start choice chosen others old = record { made = Adds-start old (λ part. both_choices (part choice) (map part chosen) (map part others)); count = omega arith; long = refl }

pub AreChosen-step : (choice : ℕ) (chosen others : List ℕ) (old now new : Netlist) (places : List ℕ) (i a b s : ℕ) → i < length chosen → i < length others → a ≡ get_or chosen i 0 → b ≡ get_or others i 0 → new ≡ with_cells now (cell.Mux choice a b ∷ []) → s ≡ length now.cells → AreChosen choice chosen others old now places i → AreChosen choice chosen others old new (places ++ s ∷ []) (i + 1)
AreChosen-step choice chosen others old now new places i a b s in_first in_second is_a is_b grown at before =
    let added = cell.Mux choice a b ∷ [] in
    let long : length new.cells ≡ length now.cells + 1 = length_new now new added grown in
    record {
      made = Adds-step old now new places (s ∷ []) added (λ part. both_choices (part choice) (map part chosen) (map part others)) (λ part. both_choices (part choice) (map part (drop i chosen)) (map part (drop i others))) (λ part. both_choices (part choice) (map part (drop (i + 1) chosen)) (map part (drop (i + 1) others))) before.made grown
          (All-cons (λ p. p < length new.cells) s [] (omega (arith, long, at)) (All-nil (λ p. p < length new.cells)))
          (λ part meets.
          let f : part s ≡ Mux (part choice) (part a) (part b) = part_new now new added part grown meets 0 s (omega arith) (omega (arith, at)) in
          ap₂ (both_choices (part choice)) (parts_more part chosen i a in_first is_a) (parts_more part others i b in_second is_b)
          ∙ made_same _ _ (ap (λ z. z ∷ choices formulas (part choice) (map part (drop (i + 1) chosen)) (map part (drop (i + 1) others))) (sym f)) refl);
      count = omega (arith, long, before.count);
      long = omega (arith, length-append places (s ∷ []), before.long);
    }

pub AreChosen-end : (choice : ℕ) (chosen others : List ℕ) (old now : Netlist) (places : List ℕ) (i : ℕ) → length chosen ≤ i → AreChosen choice chosen others old now places i → Adds old now places (λ part. both_choices (part choice) (map part chosen) (map part others)) nothing
AreChosen-end choice chosen others old now places i past done = subst (λ l. Adds old now places (λ part. both_choices (part choice) (map part chosen) (map part others)) (λ part. both_choices (part choice) (map part l) (map part (drop i others)))) (drop_all i chosen past) done.made

move-map : {A B : Type 0} (f : A → B) (d : Direction) (o : A) (n : ℕ) (xs : List A) → map f (move d o n xs) ≡ move d (f o) n (map f xs)
move-map f ways.Up o n xs = plain-up f o n xs
move-map f ways.Down o n xs = plain-down f o n xs

-- the choices are a stage
pub IsStage : (d : Direction) (choice distance : ℕ) (bits moved : List ℕ) (old new : Netlist) (places : List ℕ) → HasConstants old.cells → moved ≡ move d 0 distance bits
    → Adds old new places (λ part. both_choices (part choice) (map part moved) (map part bits)) nothing
    → Adds old new places (λ part. both_choices (part choice) (move d formulas.zero distance (map part bits)) (map part bits)) nothing
IsStage d choice distance bits moved old new places has is adds =
    let later = Adds-constants old new places (λ part. both_choices (part choice) (map part moved) (map part bits)) nothing has adds in
    record {
      more = adds.more;
      grown = adds.grown;
      there = adds.there;
      made = λ part meets. adds.made part meets ∙ ap (λ l. both_choices (part choice) l (map part bits)) (ap (map part) is ∙ move-map part d 0 distance bits ∙ ap (λ o. move d o distance (map part bits)) (part_zero new.cells part later meets));
    }

pub record IsShifted (d : Direction) (bits amount : List ℕ) (old now : Netlist) (current : List ℕ) (distance i : ℕ) : Type 0 where
  pub n : ℕ
  pub far : distance ≡ min n (length bits)
  pub made : Adds old now [] (λ part. shifted formulas (move d formulas.zero) 1 (map part amount) (map part bits)) (λ part. shifted formulas (move d formulas.zero) n (map part (drop i amount)) (map part current))
  pub there : All (λ p. p < length now.cells) current
  pub long : length current ≡ length bits
  pub count : length now.cells ≡ length old.cells + i * length bits
  pub constants : HasConstants now.cells
  pub later : length old.cells ≤ length now.cells

pub IsShifted-start : (d : Direction) (bits amount current : List ℕ) (old : Netlist) → current ≡ bits → 1 ≤ length bits → HasConstants old.cells → All (λ p. p < length old.cells) bits → IsShifted d bits amount old old current 1 0
IsShifted-start d bits amount current old is some has there = record {
  n = 1;
  far = omega arith;
  made = subst (λ l. Adds old old [] (λ part. shifted formulas (move d formulas.zero) 1 (map part amount) (map part bits)) (λ part. shifted formulas (move d formulas.zero) 1 (map part amount) (map part l))) (sym is) (Adds-start old (λ part. shifted formulas (move d formulas.zero) 1 (map part amount) (map part bits)));
  there = subst (All (λ p. p < length old.cells)) (sym is) there;
  long = ap length is;
  count = omega arith;
  constants = has;
  later = omega arith;
}

pub IsShifted-step : (d : Direction) (bits amount : List ℕ) (old now new : Netlist) (current slice stage : List ℕ) (distance next i choice : ℕ) → slice ≡ current → i < length amount → choice ≡ get_or amount i 0 → next ≡ min (length bits) (2 * distance)
    → Adds now new stage (λ part. both_choices (part choice) (move d formulas.zero distance (map part slice)) (map part slice)) nothing
    → length new.cells ≡ length now.cells + length slice → length stage ≡ length slice
    → IsShifted d bits amount old now current distance i → IsShifted d bits amount old new stage next (i + 1)
IsShifted-step d bits amount old now new current slice stage distance next i choice same below is doubled adds grown wide before =
    let mv = move d formulas.zero in
    let n = before.n in
    let short : length slice ≡ length bits = ap length same ∙ before.long in
    let whole : (ℕ → Formula) → Made Formula = λ part. shifted formulas mv 1 (map part amount) (map part bits) in
    let one : (ℕ → Formula) → Made Formula = λ part. both_choices (part choice) (mv distance (map part slice)) (map part slice) in
    record {
      n = n + n;
      far = omega (arith, before.far, doubled);
      made = Adds-step old now new [] [] adds.more whole (λ part. shifted formulas mv n (map part (drop i amount)) (map part current)) (λ part. shifted formulas mv (n + n) (map part (drop (i + 1) amount)) (map part stage)) before.made adds.grown (All-nil (λ p. p < length new.cells))
          (λ part meets.
          let width : length (map part slice) ≡ length bits = length-map slice part ∙ short in
          let near : mv n (map part slice) ≡ mv distance (map part slice) = move-far d formulas.zero n distance (map part slice) (before.far ∙ ap (min n) (sym width)) in
          let st : choices formulas (part choice) (mv n (map part slice)) (map part slice) ≡ choices formulas (part choice) (mv distance (map part slice)) (map part slice) = ap (λ l. choices formulas (part choice) l (map part slice)) near in
          let rest = map part (drop (i + 1) amount) in
          ap₂ (λ a c. shifted formulas mv n a c) (parts_more part amount i choice below is) (ap (map part) (sym same))
          ∙ ap (λ s. after s (shifted formulas mv (n + n) rest s)) st
          ∙ ap₂ (λ c s. after c (shifted formulas mv (n + n) rest s)) (sym (Adds-cells now new stage one adds part meets)) (sym (Adds-bits now new stage one adds part meets)));
      there = adds.there;
      long = wide ∙ short;
      count = omega (arith, grown, short, before.count);
      constants = Adds-constants now new stage one nothing before.constants adds;
      later = omega (arith, grown, before.later);
    }

pub IsShifted-end : (d : Direction) (bits amount : List ℕ) (old now : Netlist) (current : List ℕ) (distance i : ℕ) → length amount ≤ i → IsShifted d bits amount old now current distance i → Adds old now current (λ part. shifted formulas (move d formulas.zero) 1 (map part amount) (map part bits)) nothing
IsShifted-end d bits amount old now current distance i past done =
    Adds-end old now [] current (λ part. shifted formulas (move d formulas.zero) 1 (map part amount) (map part bits))
    (subst (λ l. Adds old now [] (λ part. shifted formulas (move d formulas.zero) 1 (map part amount) (map part bits)) (λ part. shifted formulas (move d formulas.zero) done.n (map part l) (map part current))) (drop_all i amount past) done.made)
    done.there
