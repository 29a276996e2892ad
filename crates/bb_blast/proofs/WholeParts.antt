-- Parts as they were before steps were let go: what a part puts after others is what all steps of its expressions would put there.
use Rattle.std.proofs.Common.{◌≡◌, ◌∙◌, ◌-◌, ◌≤◌, ℕ, List, [], ◌∷◌, ◌++◌, map, flat_map, drop, length, All, refl, sym, ap, ap₂, arith}
use Rattle.std.specs.Prelude.{slice_index}
use Rattle.std.specs.List.{AllZip, fold}
use Rattle.std.proofs.lemmas.List.{length-map}
use Rattle.std.proofs.lemmas.List.Elements.{All-head, All-tail}
use Rattle.bb_ast.specs.declared.module.Gate.{Gate}
use Rattle.bb_ast.specs.Syntax.{Expression, PlainModule}
use Rattle.bb_bits.specs.Bits.{low_bits}
use Rattle.bb_expr.specs.declared.step.Lowered.{Lowered}
use Rattle.bb_blast.specs.declared.logic.Logic.{Logic}
use Rattle.bb_blast.specs.declared.logic.Operand.{Operand}
use Rattle.bb_blast.specs.declared.template.Part.{Part}
use Rattle.bb_blast.specs.declared.template.Part.TheVariants as part
use Rattle.bb_net.specs.declared.loose.LooseCell.{LooseCell}
use Rattle.bb_design.specs.NetBits.{written_bits}
use Rattle.bb_design.specs.Contexts.{width_of, context_width}
use Rattle.bb_design.specs.Constructs.{Construct, Assignment, GateInstance, Register, SupplyNet, InputConnection, OutputConnection}
use Rattle.bb_blast.specs.Inside.Counting.{after}
use Rattle.bb_blast.specs.Inside.Listing.{Site, CellList, Terminals, beside, driven_by, gate_on, giving, giving_next, with_part, with_terminal}
use Rattle.bb_blast.specs.Inside.Logic.{kept_of, operand_in, operand_place}
use Rattle.bb_blast.specs.Inside.ModuleTemplates.{AreBitsIn, IsMadeIn, IsPartOf, IsPinIn, IsWholeIn}
use Rattle.bb_blast.proofs.LogicSteps.{with_steps, step_place, bit_places, cells_same, places_same}

-- a part with all steps of its expressions, or one without expressions
pub data Whole : Type 0 where
  Assigned : List ℕ → Lowered → Whole
  Clocked : List ℕ → Lowered → Whole
  Gated : Gate → List ℕ → List Lowered → Whole
  Connected : ℕ → List ℕ → Lowered → Whole
  Other : Part → Whole

abbrev pub with_expression : ℕ → ℕ → List ℕ → CellList → Lowered → CellList
with_expression start bits starts cell_list l = record {
  cells = with_steps start bits starts cell_list.cells l;
  sources = cell_list.sources;
  next = cell_list.next;
}

abbrev after_terminal : Terminals → List LooseCell → ℕ → Terminals
after_terminal t cells place = record { cells = cells; places = t.places ++ place ∷ [] }

abbrev pub step_terminal : ℕ → ℕ → List ℕ → Terminals → Lowered → Terminals
step_terminal start bits starts t l =
    after_terminal t (with_steps start bits starts t.cells l) (step_place start bits starts t.cells l (slice_index l.bits.items 0))

abbrev pub step_terminals : ℕ → ℕ → List ℕ → List LooseCell → List Lowered → Terminals
step_terminals start bits starts cells ins = fold (step_terminal start bits starts) (record { cells = cells; places = [] }) ins

abbrev pub with_whole : ℕ → ℕ → Site → CellList → Whole → CellList
with_whole nets start s cell_list (Assigned left right) =
    giving (with_expression start (after nets s.first) s.starts cell_list right) (beside s.first left (low_bits (length left) (bit_places start (after nets s.first) s.starts cell_list.cells right)))
with_whole nets start s cell_list (Clocked left right) =
    giving_next (with_expression start (after nets s.first) s.starts cell_list right) (beside s.first left (low_bits (length left) (bit_places start (after nets s.first) s.starts cell_list.cells right)))
with_whole nets start s cell_list (Gated gate outs ins) = driven_by cell_list (gate_on start gate (step_terminals start (after nets s.first) s.starts cell_list.cells ins)) s.first outs
with_whole nets start s cell_list (Connected instance pin value) =
    giving (with_expression start (after nets s.first) s.starts cell_list value) (beside (s.inner instance) pin (bit_places start (after nets s.first) s.starts cell_list.cells value))
with_whole nets start s cell_list (Other q) = with_part nets start s cell_list q

-- it implements a construct of a module
abbrev pub IsWholeOf : List PlainModule → PlainModule → Whole → Construct → Type 0
IsWholeOf text m (Assigned left right) (Assignment l r) = AreBitsIn m left (λ s. written_bits s l) × IsMadeIn m right r (λ s. context_width s l r)
IsWholeOf text m (Clocked left right) (Register r) = AreBitsIn m left (λ s. written_bits s r.left) × IsMadeIn m right r.right (λ s. context_width s r.left r.right)
IsWholeOf text m (Gated gate outs ins) (GateInstance g os is) = (gate ≡ g) × AreBitsIn m outs (λ s. flat_map (written_bits s) os)
    × AllZip (λ l e. IsMadeIn m l e (λ s. width_of s e)) ins is
IsWholeOf text m (Connected instance pin value) (InputConnection i port e) = IsPinIn text m instance pin i port × IsMadeIn m value e (λ s. width_of s e)
IsWholeOf text m (Other (part.Supply high bits)) c = IsPartOf text m (part.Supply high bits) c
IsWholeOf text m (Other (part.Output instance pin left)) c = IsPartOf text m (part.Output instance pin left) c
IsWholeOf text m w c = ⊥

-- the gates among constructs have inputs, of one bit each
abbrev pub HasInputs : PlainModule → Construct → Type 0
HasInputs m (GateInstance gate outs ins) = (1 ≤ length ins) × All (λ e. width_of (record { path = []; source = m }) e ≡ 1) ins
HasInputs m c = Unit {0}

low_whole : {A : Type 0} (n : ℕ) (xs : List A) → n ≡ length xs → low_bits n xs ≡ xs
low_whole n xs long = let none : length xs - n ≡ 0 = omega (arith, long) in ap (λ k. drop k xs) none ∙ by xs
  where
    by : {A : Type 0} (xs : List A) → drop 0 xs ≡ xs
    by [] = refl
    by (x ∷ xs) = refl

first_of : (f : ℕ → Operand) (xs : List ℕ) → length xs ≡ 1 → operand_in (map f xs) 0 ≡ f (slice_index xs 0)
first_of f [] one = absurd (omega (arith, one))
first_of f (x ∷ xs) one = refl

-- an input of one bit puts its cells, and has the place of this bit
terminal_same : (m : PlainModule) (g : Logic) (e : Expression) (is : IsWholeIn m g e) → width_of (record { path = []; source = m }) e ≡ 1 → (start bits : ℕ) (starts : List ℕ) (t : Terminals)
    → with_terminal start bits starts t g ≡ step_terminal start bits starts t is.0
terminal_same m g e is one start bits starts t =
    let width = width_of (record { path = []; source = m }) e in
    let result = operand_in (kept_of is.0.steps.items).results in
    let bit : operand_in g.bits.items 0 ≡ result (slice_index is.0.bits.items 0) =
    ap (λ l. operand_in l 0) (is.2.bits ∙ ap (map result) (low_whole width is.0.bits.items (sym is.1.width))) ∙ first_of result is.0.bits.items (is.1.width ∙ one) in
    ap₂ (after_terminal t) (cells_same start bits starts t.cells width is.0 g is.2) (ap (operand_place bits starts (after start (length t.cells))) bit)

record AreInputsOf (m : PlainModule) (gs : List Logic) (es : List Expression) : Type 0 where
  lowereds : List Lowered
  made : AllZip (λ l e. IsMadeIn m l e (λ s. width_of s e)) lowereds es
  same : (start bits : ℕ) (starts : List ℕ) (t : Terminals) → fold (with_terminal start bits starts) t gs ≡ fold (step_terminal start bits starts) t lowereds

inputs_of : (m : PlainModule) (gs : List Logic) (es : List Expression) → AllZip (IsWholeIn m) gs es → All (λ e. width_of (record { path = []; source = m }) e ≡ 1) es → AreInputsOf m gs es
inputs_of m [] [] all narrow = record { lowereds = []; made = tt; same = λ start bits starts t. refl }
inputs_of m [] (e ∷ es) all narrow = absurd all
inputs_of m (g ∷ gs) [] all narrow = absurd all
inputs_of m (g ∷ gs) (e ∷ es) all narrow =
    let rest = inputs_of m gs es all.1 (All-tail (λ e. width_of (record { path = []; source = m }) e ≡ 1) e es narrow) in
    record {
      lowereds = all.0.0 ∷ rest.lowereds;
      made = (all.0.1, rest.made);
      same = λ start bits starts t.
          ap (λ (u : Terminals). fold (with_terminal start bits starts) u gs)
          (terminal_same m g e all.0 (All-head (λ e. width_of (record { path = []; source = m }) e ≡ 1) e es narrow) start bits starts t)
          ∙ rest.same start bits starts (step_terminal start bits starts t all.0.0);
    }

-- what is kept of a part does what all of it did
pub record IsWhole (text : List PlainModule) (m : PlainModule) (q : Part) (c : Construct) : Type 0 where
  pub whole : Whole
  pub occurs : IsWholeOf text m whole c
  pub puts : (nets start : ℕ) (s : Site) (cell_list : CellList) → with_part nets start s cell_list q ≡ with_whole nets start s cell_list whole

put_by : (f : CellList → List (ℕ × ℕ) → CellList) (cell_list : CellList) (first : ℕ) (left : List ℕ) (cells others : List LooseCell) (places more : List ℕ) → cells ≡ others → places ≡ more
    → f (record { cells = cells; sources = cell_list.sources; next = cell_list.next }) (beside first left places) ≡ f (record { cells = others; sources = cell_list.sources; next = cell_list.next }) (beside first left more)
put_by f cell_list first left cells others places more p q =
    ap₂ (λ (c : List LooseCell) (l : List ℕ). f (record { cells = c; sources = cell_list.sources; next = cell_list.next }) (beside first left l)) p q

pub whole_of : (text : List PlainModule) (m : PlainModule) (q : Part) (c : Construct) → IsPartOf text m q c → HasInputs m c → IsWhole text m q c
whole_of text m (part.Assignment left right) (Assignment l r) is some = record {
  whole = Assigned left.items is.1.0;
  occurs = (is.0, is.1.1);
  puts = λ nets start s cell_list. put_by giving cell_list s.first left.items _ _ _ _ (cells_same start (after nets s.first) s.starts cell_list.cells (length left.items) is.1.0 right is.1.2)
      (places_same start (after nets s.first) s.starts cell_list.cells (length left.items) is.1.0 right is.1.2);
}
whole_of text m (part.Gate gate outs ins) (GateInstance g os es) is some =
    let inputs = inputs_of m ins.items es is.2 some.1 in
    record {
      whole = Gated gate outs.items inputs.lowereds;
      occurs = (is.0, is.1, inputs.made);
      puts = λ nets start s cell_list. ap (λ (t : Terminals). driven_by cell_list (gate_on start gate t) s.first outs.items)
          (inputs.same start (after nets s.first) s.starts (record { cells = cell_list.cells; places = [] }));
    }
whole_of text m (part.Register left right clock falling) (Register r) is some = record {
  whole = Clocked left.items is.1.0;
  occurs = (is.0, is.1.1);
  puts = λ nets start s cell_list. put_by giving_next cell_list s.first left.items _ _ _ _ (cells_same start (after nets s.first) s.starts cell_list.cells (length left.items) is.1.0 right is.1.2)
      (places_same start (after nets s.first) s.starts cell_list.cells (length left.items) is.1.0 right is.1.2);
}
whole_of text m (part.Supply high bits) (SupplyNet h n) is some = record { whole = Other (part.Supply high bits); occurs = is; puts = λ nets start s cell_list. refl }
whole_of text m (part.Input instance pin value) (InputConnection i port e) is some = record {
  whole = Connected instance pin.items is.1.0;
  occurs = (is.0, is.1.1);
  puts = λ nets start s cell_list.
      let width = width_of (record { path = []; source = m }) e in
      let place = step_place start (after nets s.first) s.starts cell_list.cells is.1.0 in
      put_by giving cell_list (s.inner instance) pin.items _ _ _ _ (cells_same start (after nets s.first) s.starts cell_list.cells width is.1.0 value is.1.2)
      (places_same start (after nets s.first) s.starts cell_list.cells width is.1.0 value is.1.2
      ∙ low_whole width (map place is.1.0.bits.items) (sym (length-map is.1.0.bits.items place ∙ is.1.1.width)));
}
whole_of text m (part.Output instance pin left) (OutputConnection i port e) is some = record { whole = Other (part.Output instance pin left); occurs = is; puts = λ nets start s cell_list. refl }
whole_of text m q c is some = absurd is
