-- No net is driven twice, and there are as many as are counted.
use Rattle.std.proofs.Common.{◌≡◌, ◌≢◌, ◌∙◌, ◌⊎◌, inl, inr, ℕ, zero, suc, ◌+◌, ◌<◌, ◌≤◌, Bool, true, false, not, List, [], ◌∷◌, ◌++◌, length, length-append, map, refl, sym, ap, subst, arith}
use Rattle.std.specs.Prelude.{AllPairs, Contains}
use Rattle.std.specs.List.{range_with_len}
use Rattle.std.proofs.lemmas.List.{length-map}
use Rattle.std.proofs.lemmas.List.Elements.{Contains-append_cases, Contains-append_left, Contains-append_right}
use Rattle.std.proofs.lemmas.List.FromFn.{get_or-range_with_len, length-range_with_len}
use Rattle.std.proofs.lemmas.List.Kept.{AllPairs-filter}
use Rattle.bb_bits.specs.Earlier.{has_name}
use Rattle.bb_bits.specs.Tables.{TableBits}
use Rattle.bb_lemmas.proofs.Members.{contains_cases, from_flat, from_map, kept_from, none_in_nil}
use Rattle.bb_lemmas.proofs.Orders.{less_or_not}
use Rattle.bb_net.specs.declared.cell.Cell.{Cell}
use Rattle.bb_net.specs.declared.cell.Cell.TheVariants as cells
use Rattle.bb_net.specs.CutPoints.{state_texts}
use Rattle.bb_net.specs.Flats.{FlatNet}
use Rattle.bb_net.specs.Netlists.{cell_at}
use Rattle.bb_fill.specs.Words.{NetWord, Named, CellNet, ChoiceNet}
use Rattle.bb_fill.specs.Trees.{choice_nets}
use Rattle.bb_fill.specs.Filled.{choice_count, first_choice}
use Rattle.bb_fill.specs.Sizes.{net_count, plain_outputs}
use Rattle.bb_fill.specs.Laws.{IsReady, NetsAreDrivenOnce, all_nets}
use Rattle.bb_fill.proofs.Choices.{choices_more}
use Rattle.bb_fill.proofs.Driven.{IsNetOf, cell_nets, cell_nets-length, driven_texts, from_nets, lines-driven, nets_of}
use Rattle.bb_fill.proofs.Lists.{apart_both, apart_map, apart_numbers}
use Rattle.bb_fill.proofs.MetCells.{tables_fit}
use Rattle.bb_fill.proofs.NetNames.{input_apart, plain_apart}

range_apart : (a n : ℕ) → AllPairs ◌≢◌ (range_with_len a n)
range_apart a n i j d less within same =
    let inside : j < n = omega (arith, within, length-range_with_len a n) in
    omega (arith, less, same, get_or-range_with_len a n i d (omega (arith, less, inside)), get_or-range_with_len a n j d inside)

choices_apart : (k n : ℕ) → AllPairs ◌≢◌ (choice_nets k n)
choices_apart k n = apart_map (λ i. ChoiceNet (k + i)) (λ a b e. let same : k + a ≡ k + b = cc e in omega (arith, same)) (range_with_len 0 n) (range_apart 0 n)

module _ (f : FlatNet) where
  -- the nets of one cell

  nets_apart : (k : ℕ) (c : Cell) → AllPairs ◌≢◌ (nets_of f k c)
  nets_apart k c = by c
    where
      none : AllPairs {X = NetWord} ◌≢◌ []
      none = λ i j d less within. absurd (omega (arith, within))

      one : AllPairs ◌≢◌ (CellNet k ∷ [])
      one = λ i j d less within. absurd (omega (arith, less, within))

      never : (d : Cell) (z : NetWord) → Contains (choice_nets (first_choice f k) (choice_count f.net.boxes d)) z → (CellNet k ≡ z) ⊎ Contains [] z → ⊥
      never d z choice (inl is) = let at = from_map (λ i. ChoiceNet (first_choice f k + i)) (range_with_len 0 (choice_count f.net.boxes d)) z choice in let both = at.2 ∙ sym is in cc both
      never d z choice (inr has) = none_in_nil z has

      both : (d : Cell) → AllPairs ◌≢◌ (choice_nets (first_choice f k) (choice_count f.net.boxes d) ++ CellNet k ∷ [])
      both d =
          apart_both (choice_nets (first_choice f k) (choice_count f.net.boxes d)) (CellNet k ∷ []) (choices_apart (first_choice f k) (choice_count f.net.boxes d)) one
          (λ z choice own. never d z choice (contains_cases (CellNet k) [] z own))

      by : (d : Cell) → AllPairs ◌≢◌ (nets_of f k d)
      by (cells.Const b) = none
      by (cells.Input i) = none
      by (cells.Not a) = both (cells.Not a)
      by (cells.And a b) = both (cells.And a b)
      by (cells.Or a b) = both (cells.Or a b)
      by (cells.Xor a b) = both (cells.Xor a b)
      by (cells.Mux a t e) = both (cells.Mux a t e)
      by (cells.BoxOut b p) = both (cells.BoxOut b p)

  -- the choices of a later cell have greater numbers
  first_rises : (i j : ℕ) → i ≤ j → j < length f.net.cells → first_choice f i ≤ first_choice f j
  first_rises i zero le within = let same : i ≡ 0 = omega (arith, le) in let first : first_choice f i ≡ first_choice f 0 = ap (first_choice f) same in omega (arith, first)
  first_rises i (suc j) le within = by (less_or_not j i) (λ more. first_rises i j more (omega (arith, within)))
    where
      by : (j < i) ⊎ (i ≤ j) → (i ≤ j → first_choice f i ≤ first_choice f j) → first_choice f i ≤ first_choice f (suc j)
      by (inl same) rest = let is : i ≡ suc j = omega (arith, same, le) in let first : first_choice f i ≡ first_choice f (suc j) = ap (first_choice f) is in omega (arith, first)
      by (inr more) rest =
          let next : first_choice f (suc j) ≡ first_choice f j + choice_count f.net.boxes (cell_at f.net.cells j) =
          (let one : suc j ≡ j + 1 = omega arith in ap (first_choice f) one) ∙ choices_more f j (omega (arith, within))
          in
          omega (arith, next, rest more)

  -- the nets of two cells
  cells_apart : (i j : ℕ) (z : NetWord) → i < j → j < length f.net.cells → IsNetOf f i (cell_at f.net.cells i) z → IsNetOf f j (cell_at f.net.cells j) z → ⊥
  cells_apart i j z less within (inl a) (inl b) = let e = sym a ∙ b in let same : i ≡ j = cc e in omega (arith, less, same)
  cells_apart i j z less within (inl a) (inr b) = let e = sym a ∙ b.1 in cc e
  cells_apart i j z less within (inr a) (inl b) = let e = sym a.1 ∙ b in cc e
  cells_apart i j z less within (inr a) (inr b) =
      let e = sym a.1 ∙ b.1 in
      let same : a.0 ≡ b.0 = cc e in
      let rises = first_rises (i + 1) j (omega (arith, less)) within in
      omega (arith, same, a.3, b.2, rises, choices_more f i (omega (arith, less, within)))

  cell_nets_apart : AllPairs ◌≢◌ (cell_nets f)
  cell_nets_apart =
      apart_numbers (λ k. nets_of f k (cell_at f.net.cells k)) 0 (length f.net.cells) (λ k within. nets_apart k (cell_at f.net.cells k))
      (λ i j z less within a b. cells_apart i j z less (omega (arith, within)) (from_nets f i (cell_at f.net.cells i) z a) (from_nets f j (cell_at f.net.cells j) z b))

  -- the net of a cell is no port and no register
  not_named : (texts : List (List ℕ)) (z : NetWord) → Contains (map Named texts) z → Contains (cell_nets f) z → ⊥
  not_named texts z named net =
      let text = from_map Named texts z named in
      let at = from_flat (λ k. nets_of f k (cell_at f.net.cells k)) (range_with_len 0 (length f.net.cells)) z net in
      by text.0 text.2 at.0 (from_nets f at.0 (cell_at f.net.cells at.0) z at.2)
    where
      by : (text : List ℕ) → Named text ≡ z → (k : ℕ) → IsNetOf f k (cell_at f.net.cells k) z → ⊥
      by text e k (inl is) = let both = e ∙ is in cc both
      by text e k (inr is) = let both = e ∙ is.1 in cc both

apart_names : (texts : List (List ℕ)) → AllPairs ◌≢◌ texts → AllPairs ◌≢◌ (map Named texts)
apart_names texts apart = apart_map Named (λ a b e. cc e) texts apart

-- an output that is kept is no register
pub plain_is : (f : FlatNet) (text : List ℕ) → Contains (plain_outputs f) text → Contains f.outs text × (has_name text (state_texts f) ≡ false)
plain_is f text has =
    let kept = kept_from (λ t. not (has_name t (state_texts f))) f.outs text has in
    (kept.0, by (has_name text (state_texts f)) kept.1)
  where
    by : (b : Bool) → not b ≡ true → b ≡ false
    by false e = refl
    by true e = sym e

-- all nets: the inputs, those of the cells, and the texts that are driven
pub nets_are : (f : FlatNet) (tables : List TableBits) → IsReady f tables → all_nets f tables ≡ map Named f.ins ++ (cell_nets f ++ map Named (driven_texts f))
nets_are f tables ready = ap (λ l. map Named f.ins ++ l) (lines-driven f tables (tables_fit tables f.net.boxes ready.fit))

module _ (f : FlatNet) (tables : List TableBits) (ready : IsReady f tables) where
  plain_is_apart : (text : List ℕ) → Contains (plain_outputs f) text → Contains (f.ins ++ state_texts f) text → ⊥
  plain_is_apart text plain = let is = plain_is f text plain in plain_apart f ready.names text is.0 is.1

  texts_apart : AllPairs ◌≢◌ (driven_texts f)
  texts_apart =
      apart_both (plain_outputs f) (state_texts f) (AllPairs-filter ◌≢◌ (λ t. not (has_name t (state_texts f))) f.outs ready.flat.apart.outs) ready.flat.apart.regs
      (λ text plain register. plain_is_apart text plain (Contains-append_right f.ins (state_texts f) text register))

  input_is_apart : (text : List ℕ) → Contains f.ins text → Contains (plain_outputs f) text ⊎ Contains (state_texts f) text → ⊥
  input_is_apart text input (inl plain) = plain_is_apart text plain (Contains-append_left f.ins (state_texts f) text input)
  input_is_apart text input (inr register) = (input_apart f ready.names text input).0 register

  after_inputs : (z : NetWord) → Contains (map Named f.ins) z → Contains (cell_nets f) z ⊎ Contains (map Named (driven_texts f)) z → ⊥
  after_inputs z input (inl net) = not_named f f.ins z input net
  after_inputs z input (inr named) =
      let one = from_map Named f.ins z input in
      let other = from_map Named (driven_texts f) z named in
      let e = other.2 ∙ sym one.2 in
      let same : other.0 ≡ one.0 = cc e in
      input_is_apart one.0 one.1 (Contains-append_cases (plain_outputs f) (state_texts f) one.0 (subst (Contains (driven_texts f)) same other.1))

  parts_apart : AllPairs ◌≢◌ (map Named f.ins ++ (cell_nets f ++ map Named (driven_texts f)))
  parts_apart =
      apart_both (map Named f.ins) (cell_nets f ++ map Named (driven_texts f)) (apart_names f.ins ready.flat.apart.ins)
      (apart_both (cell_nets f) (map Named (driven_texts f)) (cell_nets_apart f) (apart_names (driven_texts f) texts_apart) (λ z net named. not_named f (driven_texts f) z named net))
      (λ z input after. after_inputs z input (Contains-append_cases (cell_nets f) (map Named (driven_texts f)) z after))

  parts-length : length (map Named f.ins ++ (cell_nets f ++ map Named (driven_texts f))) ≡ net_count f tables
  parts-length =
      let nets = cell_nets-length f tables (tables_fit tables f.net.boxes ready.fit) in
      let after = length-append (cell_nets f) (map Named (driven_texts f)) in
      let texts = length-append (plain_outputs f) (state_texts f) in
      omega (arith, nets, after, texts, length-append (map Named f.ins) (cell_nets f ++ map Named (driven_texts f)), length-map f.ins Named, length-map (driven_texts f) Named, length-map f.regs (λ q. q.text))

pub nets_are_driven_once : NetsAreDrivenOnce
nets_are_driven_once f tables ready = let are = nets_are f tables ready in (subst (AllPairs ◌≢◌) (sym are) (parts_apart f tables ready), ap length are ∙ parts-length f tables ready)
