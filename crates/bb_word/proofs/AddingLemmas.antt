-- Cells that are added one after the other.
use Rattle.std.proofs.Common.{◌≡◌, ◌∙◌, ◌+◌, ◌<◌, ℕ, List, [], ◌++◌, map, length, refl, sym, ap, subst, arith, append_assoc}
use Rattle.std.specs.Prelude.{All}
use Rattle.std.proofs.Math.Path.{ap₂}
use Rattle.std.proofs.lemmas.List.{length-append, map-append, append-nil, get_or_append_left, get_or-append-add}
use Rattle.std.proofs.lemmas.List.Elements.{All-append, All-nil}
use Rattle.bb_net.specs.declared.cell.Cell.{Cell}
use Rattle.bb_net.specs.declared.cell.Cell.TheVariants.{Const}
use Rattle.std.specs.Prelude.{false}
use Rattle.bb_net.specs.Netlists.{Netlist, cell_at}
use Rattle.bb_word.specs.Gates.{Made, after}
use Rattle.bb_word.specs.Laws.Formulas.{Formula, cell_formula}
use Rattle.bb_word.specs.Inside.Adding.{Meets, with_cells, nothing, ahead, Adds}
use Rattle.bb_word.specs.Laws.MapLaws.{made_same}

pub meets_prefix : (cells more : List Cell) (part : ℕ → Formula) → Meets (cells ++ more) part → Meets cells part
meets_prefix cells more part meets place below =
    meets place (omega (arith, length-append cells more)) ∙ ap (cell_formula part) (get_or_append_left cells more (Const false) place below)

pub meets_new : (cells more : List Cell) (part : ℕ → Formula) → Meets (cells ++ more) part → (k : ℕ) → k < length more → part (length cells + k) ≡ cell_formula part (cell_at more k)
meets_new cells more part meets k below =
    meets (length cells + k) (omega (arith, length-append cells more)) ∙ ap (cell_formula part) (get_or-append-add cells more k (Const false))

pub with_cells-more : (net : Netlist) (xs ys : List Cell) → with_cells (with_cells net xs) ys ≡ with_cells net (xs ++ ys)
with_cells-more net xs ys = ap {B = Netlist} (λ l. record net { cells = l }) (append_assoc net.cells xs ys)

pub with_cells-none : (net : Netlist) → with_cells net [] ≡ net
with_cells-none net = ap {B = Netlist} (λ l. record net { cells = l }) (append-nil net.cells)

pub below_more : (net : Netlist) (more : List Cell) (places : List ℕ) → All (λ p. p < length net.cells) places → All (λ p. p < length (with_cells net more).cells) places
below_more net more places all k d h = omega (arith, all k d h, length-append net.cells more)

pub Adds-start : (old : Netlist) (circuit : (ℕ → Formula) → Made Formula) → Adds old old [] circuit circuit
Adds-start old circuit = record {
  more = [];
  grown = sym (with_cells-none old);
  there = All-nil (λ p. p < length old.cells);
  made = λ part meets. refl;
}

-- further cells and places, where the rest begins with them
pub Adds-step : (old now new : Netlist) (places more : List ℕ) (added : List Cell) (circuit rest rest' : (ℕ → Formula) → Made Formula)
    → Adds old now places circuit rest → new ≡ with_cells now added → All (λ p. p < length new.cells) more
    → ((part : ℕ → Formula) → Meets new.cells part → rest part ≡ ahead (map part more) (map (cell_formula part) added) (rest' part))
    → Adds old new (places ++ more) circuit rest'
Adds-step old now new places more added circuit rest rest' before is there next =
    let grown : new ≡ with_cells old (before.more ++ added) = is ∙ ap (λ n. with_cells n added) before.grown ∙ with_cells-more old before.more added in
    record {
      more = before.more ++ added;
      grown = grown;
      there = All-append (λ p. p < length new.cells) places more (subst (λ n. All (λ p. p < length n.cells) places) (sym is) (below_more now added places before.there)) there;
      made = λ part meets.
          let prefix : Meets now.cells part = meets_prefix now.cells added part (subst (λ n. Meets n.cells part) is meets) in
          let e = next part meets in
          let b : map part (places ++ more) ++ (rest' part).bits ≡ map part places ++ (rest part).bits =
          ap (λ l. l ++ (rest' part).bits) (map-append part places more) ∙ append_assoc (map part places) (map part more) (rest' part).bits ∙ ap (λ z. map part places ++ z.bits) (sym e) in
          let c : map (cell_formula part) (before.more ++ added) ++ (rest' part).cells ≡ map (cell_formula part) before.more ++ (rest part).cells =
          ap (λ l. l ++ (rest' part).cells) (map-append (cell_formula part) before.more added) ∙ append_assoc (map (cell_formula part) before.more) (map (cell_formula part) added) (rest' part).cells ∙ ap (λ z. map (cell_formula part) before.more ++ z.cells) (sym e) in
          made_same _ _ b c ∙ before.made part prefix;
    }

-- the rest is bits that have their places and need no more cells
pub Adds-end : (old now : Netlist) (places more : List ℕ) (circuit : (ℕ → Formula) → Made Formula) → Adds old now places circuit (λ part. record { bits = map part more; cells = [] }) → All (λ p. p < length now.cells) more → Adds old now (places ++ more) circuit nothing
Adds-end old now places more circuit before there =
    Adds-step old now now places more [] circuit (λ part. record { bits = map part more; cells = [] }) nothing before (sym (with_cells-none now)) there
    (λ part meets. made_same _ _ (sym (append-nil (map part more))) refl)

pub Adds-bits : (old now : Netlist) (places : List ℕ) (circuit : (ℕ → Formula) → Made Formula) → Adds old now places circuit nothing → (part : ℕ → Formula) → Meets now.cells part → map part places ≡ (circuit part).bits
Adds-bits old now places circuit adds part meets = sym (append-nil (map part places)) ∙ ap (λ z. z.bits) (adds.made part meets)

pub Adds-cells : (old now : Netlist) (places : List ℕ) (circuit : (ℕ → Formula) → Made Formula) → (adds : Adds old now places circuit nothing) → (part : ℕ → Formula) → Meets now.cells part → map (cell_formula part) adds.more ≡ (circuit part).cells
Adds-cells old now places circuit adds part meets = sym (append-nil (map (cell_formula part) adds.more)) ∙ ap (λ z. z.cells) (adds.made part meets)

-- one circuit after another
pub Adds-chain : (old mid new : Netlist) (first second : List ℕ) (one other whole : (ℕ → Formula) → Made Formula)
    → Adds old mid first one nothing → Adds mid new second other nothing
    → ((part : ℕ → Formula) → Meets new.cells part → map part first ≡ (one part).bits → after (one part).cells (other part) ≡ whole part)
    → Adds old new second whole nothing
Adds-chain old mid new first second one other whole a b joins = record {
  more = a.more ++ b.more;
  grown = b.grown ∙ ap (λ n. with_cells n b.more) a.grown ∙ with_cells-more old a.more b.more;
  there = b.there;
  made = λ part meets.
      let prefix : Meets mid.cells part = meets_prefix mid.cells b.more part (subst (λ n. Meets n.cells part) b.grown meets) in
      let bits : map part second ++ [] ≡ (other part).bits = append-nil (map part second) ∙ Adds-bits mid new second other b part meets in
      let cells : map (cell_formula part) (a.more ++ b.more) ++ [] ≡ (one part).cells ++ (other part).cells =
      append-nil (map (cell_formula part) (a.more ++ b.more)) ∙ map-append (cell_formula part) a.more b.more ∙ ap₂ (λ p q. p ++ q) (Adds-cells old mid first one a part prefix) (Adds-cells mid new second other b part meets) in
      made_same _ _ bits cells ∙ joins part meets (Adds-bits old mid first one a part prefix);
}
