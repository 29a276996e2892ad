-- Contents of boxes are tables in the order of a netlist, and tables are contents.
use Rattle.std.proofs.Common.{◌*◌, ◌^◌, ◌≡◌, ◌≢◌, ◌⊎◌, ℕ, zero, suc, ◌+◌, ◌<◌, ◌≤◌, Bool, false, List, [], ◌∷◌, map, find, length, get_or, AllPairs, Contains, Option, Some, None, refl, sym, ap, ◌∙◌, subst, inl, inr, arith}
use Rattle.std.specs.List.{enumerate_from}
use Rattle.std.proofs.lemmas.List.{length-map, get_or-map, length-replicate, get_or_default}
use Rattle.std.proofs.lemmas.List.Elements.{All-contains, Contains-get_or}
use lib.Pointwise.{bytes_decides}
use Rattle.bb_bits.specs.Contents.{Contents, HasShape, output_bit}
use Rattle.bb_bits.specs.Names.{same_name}
use Rattle.bb_bits.specs.Laws.RowLaws.{RowsHaveShape, BitsAreChosen, RowsHaveTable}
use Rattle.bb_bits.specs.Tables.{TableBits, HasAllBits, rows_of, zero_table}
use Rattle.bb_net.specs.Netlists.{Pins, box_at}
use Rattle.bb_net.specs.Orders.{moved_pins}
use Rattle.bb_net.specs.Pairs.{BoxTexts}
use Rattle.bb_net.specs.Values.{bit_of, value_of, table_at, tabled_bit, FitBoxes, ValueGoesByBoxes}
use Rattle.bb_implements.specs.Laws.ContentTables.{AreTablesOf, TablesGiveValues, TablesGiveOutputs}
use Rattle.bb_net.specs.Flats.{FlatNet}
use Rattle.bb_design.specs.Hierarchy.{Design, Scope, root, boxes}
use Rattle.bb_design.specs.NetBits.{Bit, input_bits, output_bits}
use Rattle.bb_implements.specs.Laws.ListLaws.{vector_bits, path_of, given_by_paths, ImplementingNetsGiveOutputs}
use Rattle.bb_implements.specs.Places.{NetBit, BoxPin, pins_of}
use Rattle.bb_design.specs.Refusals.{AreDistinctTexts, box_paths}
use Rattle.bb_implements.specs.Implements.{box_number, box_texts, Implements}
use Rattle.bb_design.specs.Texts.{path_text}
use Rattle.bb_design.specs.Worlds.{FitDesign}
use Rattle.bb_lemmas.proofs.Members.{all_from, from_find, find_there}
use Rattle.bb_lemmas.proofs.Numbered.{enumerated_from, numbered_at, length-enumerated}
use Rattle.bb_lemmas.proofs.Orders.{less_or_same}
use Rattle.bb_implements.proofs.ListedPlaces.{box_is}

pub tables_give_values : ValueGoesByBoxes → BitsAreChosen → TablesGiveValues
tables_give_values by_boxes chosen f contents tables x kept are = by_boxes f.net kept x (tabled_bit tables) (given_by_paths f contents) (λ b p fits pin.
    let value = bit_of (value_of f.net x (tabled_bit tables)) in
    let ins = map value (box_at f.net.boxes b).ins in
    let long = length-map (box_at f.net.boxes b).ins value in
    sym (ap (λ rows. output_bit rows ins p) (are.rows b fits) ∙ chosen (table_at tables b) ins p (long ∙ sym (are.fit.inputs b fits)) (omega (arith, pin, are.fit.outputs b fits))))

pub tables_give_outputs : ImplementingNetsGiveOutputs → TablesGiveValues → TablesGiveOutputs
tables_give_outputs outputs values d f allowed occurs contents tables fit are x w is vector =
    (outputs d f allowed occurs contents x fit).1 w is vector ∙ ap (λ all. map (bit_of all) f.net.outs) (sym (values f contents tables (vector_bits d x) occurs.netlist are))

-- a list with an element for each number
listed_all : {A : Type 0} (P : ℕ → A → Type 0) (a n : ℕ) → ((k : ℕ) → a ≤ k → k < a + n → (t : A) × P k t) → (ts : List A) × (length ts ≡ n) × ((k : ℕ) → k < n → (e : A) → P (a + k) (get_or ts k e))
listed_all P a zero each = ([], refl, λ k fits e. absurd (omega (arith, fits)))
listed_all P a (suc n) each =
    let first = each a (omega arith) (omega arith) in
    let rest = listed_all P (a + 1) n (λ k low high. each k (omega (arith, low)) (omega (arith, high))) in
    (first.0 ∷ rest.0, ap suc rest.1, at first.0 first.1 rest.0 rest.2)
  where
    at : (t : _) → P a t → (ts : List _) → ((k : ℕ) → k < n → (e : _) → P (a + 1 + k) (get_or ts k e)) → (k : ℕ) → k < suc n → (e : _) → P (a + k) (get_or (t ∷ ts) k e)
    at t here ts there zero fits e = subst (λ m. P m t) (omega arith) here
    at t here ts there (suc k) fits e = subst (λ m. P m (get_or ts k e)) (omega arith) (there k (omega (arith, fits)) e)

-- where no two elements are the same, equal elements are at one place
pub one_place : {A : Type 0} (xs : List A) → AllPairs ◌≢◌ xs → (i j : ℕ) (e : A) → i < length xs → j < length xs → get_or xs i e ≡ get_or xs j e → i ≡ j
one_place xs apart i j e p q same = by (less_or_same i j)
  where
    by : (i < j) ⊎ ((j < i) ⊎ (i ≡ j)) → i ≡ j
    by (inl h) = absurd (apart i j e h q same)
    by (inr (inl h)) = absurd (apart j i e h p (sym same))
    by (inr (inr h)) = h

module _ (d : Design) (f : FlatNet) (occurs : Implements d f) where
  abbrev pub none : BoxTexts
  none = record { path = []; «module» = []; ins = []; outs = [] }

  abbrev pub number_of_box : ℕ → ℕ
  number_of_box b = get_or occurs.numbers b 0

  -- the box of the design for which a box of the netlist is
  abbrev pub box_of : ℕ → Scope
  box_of b = box_number d (number_of_box b)

  pub list_count : length occurs.cells.boxes ≡ length (boxes d)
  list_count = ap length occurs.listed.boxes ∙ length-map (enumerate_from 0 (boxes d)) (pins_of occurs.listed.number) ∙ length-enumerated 0 (boxes d)

  pub text_count : length f.boxes ≡ length f.net.boxes
  text_count = ap length occurs.boxes ∙ length-map occurs.numbers (λ b. box_texts d (box_number d b)) ∙ occurs.ordered.number_count ∙ sym occurs.ordered.box_count

  pub number_there : (b : ℕ) → b < length f.net.boxes → number_of_box b < length (boxes d)
  number_there b fits = omega (arith, list_count, (occurs.ordered.boxes b (omega (arith, fits, occurs.ordered.box_count))).0)

  box_there : (b : ℕ) → b < length f.net.boxes → Contains (boxes d) (box_of b)
  box_there b fits = Contains-get_or (boxes d) (number_of_box b) (root d) (number_there b fits)

  pub text_is : (b : ℕ) → b < length f.net.boxes → get_or f.boxes b none ≡ box_texts d (box_of b)
  text_is b fits = ap (λ all. get_or all b none) occurs.boxes ∙ get_or-map (λ b. box_texts d (box_number d b)) occurs.numbers b 0 none (omega (arith, fits, occurs.ordered.box_count, occurs.ordered.number_count))

  pub path_is : (b : ℕ) → b < length f.net.boxes → path_of f b ≡ path_text (box_of b).path
  path_is b fits = ap (λ (t : BoxTexts). t.path) (text_is b fits)

  -- it has as many pins
  pub pins_are : (b : ℕ) → b < length f.net.boxes → (length (box_at f.net.boxes b).ins ≡ length (input_bits (box_of b))) × (length (box_at f.net.boxes b).outs ≡ length (output_bits (box_of b)))
  pins_are b fits =
      let order = occurs.ordered.boxes b (omega (arith, fits, occurs.ordered.box_count)) in
      let has = numbered_at (boxes d) (number_of_box b) (root d) (number_there b fits) in
      let is : box_at f.net.boxes b ≡ moved_pins occurs.ordered.to (pins_of occurs.listed.number (number_of_box b, box_of b)) = order.1 ∙ ap (moved_pins occurs.ordered.to) (box_is d occurs.lowering occurs.cells occurs.listed (number_of_box b) (box_of b) has) in
      let ins : List ℕ = map (λ x. occurs.listed.number (NetBit x)) (input_bits (box_of b)) in
      let outs : List ℕ = map (λ (x : ℕ × Bit). occurs.listed.number (BoxPin (number_of_box b) x.0)) (enumerate_from 0 (output_bits (box_of b))) in (
        ap (λ (q : Pins). length q.ins) is ∙ length-map ins occurs.ordered.to ∙ length-map (input_bits (box_of b)) (λ x. occurs.listed.number (NetBit x)),
        ap (λ (q : Pins). length q.outs) is ∙ length-map outs occurs.ordered.to ∙ length-map (enumerate_from 0 (output_bits (box_of b))) (λ (x : ℕ × Bit). occurs.listed.number (BoxPin (number_of_box b) x.0)) ∙ length-enumerated 0 (output_bits (box_of b)),
      )

  module _ (contents : Contents) where
    -- a table of a box
    pub record IsTableOf (b : ℕ) (t : TableBits) : Type 0 where
      pub inputs : t.inputs ≡ length (box_at f.net.boxes b).ins
      pub outputs : t.outputs ≡ length (box_at f.net.boxes b).outs
      pub whole : HasAllBits t
      pub rows : contents (path_of f b) ≡ rows_of t

    pub find_tables : RowsHaveTable → FitDesign d contents → (tables : List TableBits) × AreTablesOf f contents tables
    find_tables have fit =
        let all = listed_all IsTableOf 0 (length f.net.boxes) (λ b low high. one b (omega (arith, high))) in
        let at : (b : ℕ) → b < length f.net.boxes → IsTableOf b (table_at all.0 b) = λ b fits. subst (λ k. IsTableOf k (table_at all.0 b)) (omega arith) (all.2 b fits _) in (
          all.0,
          record {
            fit = record { count = all.1; inputs = λ b fits. (at b fits).inputs; outputs = λ b fits. (at b fits).outputs; whole = λ b fits. (at b fits).whole };
            rows = λ b fits. (at b fits).rows;
          },
        )
      where
        one : (b : ℕ) → b < length f.net.boxes → (t : TableBits) × IsTableOf b t
        one b fits =
            let s = box_of b in
            let shape = All-contains (λ s. HasShape (length (input_bits s)) (length (output_bits s)) (contents (path_text s.path))) (boxes d) s fit (box_there b fits) in
            let t = have (length (input_bits s)) (length (output_bits s)) (contents (path_text s.path)) shape in
            let pins = pins_are b fits in
            (t.0, record { inputs = t.1 ∙ sym pins.0; outputs = t.2 ∙ sym pins.1; whole = t.3; rows = ap contents (path_is b fits) ∙ sym t.4 })

  module _ (apart : AreDistinctTexts (box_paths d)) where
    path_at : (i : ℕ) → i < length (boxes d) → get_or (box_paths d) i [] ≡ path_text (get_or (boxes d) i (root d)).path
    path_at i fits = get_or-map (λ (s : Scope). path_text s.path) (boxes d) i (root d) [] fits

    path_count : length (box_paths d) ≡ length (boxes d)
    path_count = length-map (boxes d) (λ s. path_text s.path)

    one_number : (i j : ℕ) → i < length (boxes d) → j < length (boxes d) → path_text (get_or (boxes d) i (root d)).path ≡ path_text (get_or (boxes d) j (root d)).path → i ≡ j
    one_number i j p q same = one_place (box_paths d) apart i j [] (omega (arith, p, path_count)) (omega (arith, q, path_count)) (path_at i p ∙ same ∙ sym (path_at j q))

    -- boxes of one path are one
    one_scope : (s u : Scope) → Contains (boxes d) s → Contains (boxes d) u → path_text s.path ≡ path_text u.path → s ≡ u
    one_scope s u p q same =
        let first : get_or (boxes d) p.0 (root d) ≡ s = get_or_default (boxes d) p.0 (root d) s p.1 ∙ p.2 in
        let second : get_or (boxes d) q.0 (root d) ≡ u = get_or_default (boxes d) q.0 (root d) u q.1 ∙ q.2 in
        let number = one_number p.0 q.0 p.1 q.1 (ap (λ (z : Scope). path_text z.path) first ∙ same ∙ ap (λ (z : Scope). path_text z.path) (sym second)) in
        sym first ∙ ap (λ k. get_or (boxes d) k (root d)) number ∙ second

    one_box : (b c : ℕ) → b < length f.net.boxes → c < length f.net.boxes → path_of f b ≡ path_of f c → b ≡ c
    one_box b c p q same =
        let number = one_number (number_of_box b) (number_of_box c) (number_there b p) (number_there c q) (sym (path_is b p) ∙ same ∙ path_is c q) in
        one_place occurs.numbers occurs.ordered.numbers_apart b c 0 (omega (arith, p, occurs.ordered.box_count, occurs.ordered.number_count)) (omega (arith, q, occurs.ordered.box_count, occurs.ordered.number_count)) number

    module _ (shape : RowsHaveShape) (tables : List TableBits) (fit : FitBoxes tables f.net.boxes) where
      abbrev texts : List (ℕ × BoxTexts)
      texts = enumerate_from 0 f.boxes

      -- rows of zeros fit any box
      abbrev zeros : Scope → List (List Bool)
      zeros s = rows_of (zero_table (length (input_bits s)) (length (output_bits s)))

      abbrev of_scope : Option Scope → List (List Bool)
      of_scope None = []
      of_scope (Some s) = zeros s

      abbrev of_box : Option (ℕ × BoxTexts) → List ℕ → List (List Bool)
      of_box (Some z) path = rows_of (table_at tables z.0)
      of_box None path = of_scope (find (λ s. same_name path (path_text s.path)) (boxes d))

      -- the rows of the box of a path
      abbrev table_contents : Contents
      table_contents path = of_box (find (λ z. same_name path z.1.path) texts) path

      -- where a box of the netlist is found, it is the one of that path
      found_box : (path : List ℕ) (z : ℕ × BoxTexts) → find (λ z. same_name path z.1.path) texts ≡ Some z → (z.0 < length f.net.boxes) × (path_of f z.0 ≡ path)
      found_box path z e =
          let at = from_find (λ (z : ℕ × BoxTexts). same_name path z.1.path) texts z e in
          let j = enumerated_from 0 f.boxes z.0 z.1 at.0 in
          let place : z.0 ≡ j.0 = omega (arith, j.1) in
          (omega (arith, j.1, j.2, text_count), ap (λ k. path_of f k) place ∙ ap (λ (t : BoxTexts). t.path) (j.3 none) ∙ sym ((bytes_decides path z.1.path).0 at.1))

      rows_there : (b : ℕ) → b < length f.net.boxes → table_contents (path_of f b) ≡ rows_of (table_at tables b)
      rows_there b fits =
          let path = path_of f b in
          let here = numbered_at f.boxes b none (omega (arith, fits, text_count)) in
          let z = find_there (λ (z : ℕ × BoxTexts). same_name path z.1.path) texts (b, get_or f.boxes b none) here ((bytes_decides path path).1 refl) in
          let found = found_box path z.0 z.1 in
          ap (λ o. of_box o path) z.1 ∙ ap (λ k. rows_of (table_at tables k)) (one_box z.0.0 b found.0 fits found.1)

      abbrev Fits : Scope → List (List Bool) → Type 0
      Fits s rows = HasShape (length (input_bits s)) (length (output_bits s)) rows

      zeros_fit : (s : Scope) → Fits s (zeros s)
      zeros_fit s = shape (zero_table (length (input_bits s)) (length (output_bits s))) (length-replicate (length (output_bits s) * 2 ^ length (input_bits s)) false)

      table_fits : (b : ℕ) → b < length f.net.boxes → Fits (box_of b) (rows_of (table_at tables b))
      table_fits b h =
          let pins = pins_are b h in
          subst (λ n. HasShape n (length (output_bits (box_of b))) (rows_of (table_at tables b))) (fit.inputs b h ∙ pins.0)
          (subst (λ n. HasShape (table_at tables b).inputs n (rows_of (table_at tables b))) (fit.outputs b h ∙ pins.1) (shape (table_at tables b) (fit.whole b h)))

      contents_fit : FitDesign d table_contents
      contents_fit = all_from (λ s. Fits s (table_contents (path_text s.path))) (boxes d) each
        where
          of_scopes : (s : Scope) → Contains (boxes d) s → (o : Option Scope) → find (λ u. same_name (path_text s.path) (path_text u.path)) (boxes d) ≡ o → Fits s (of_scope o)
          of_scopes s has None e = let u = find_there (λ (u : Scope). same_name (path_text s.path) (path_text u.path)) (boxes d) s has ((bytes_decides (path_text s.path) (path_text s.path)).1 refl) in absurd (grind (arith, sym e ∙ u.1))
          of_scopes s has (Some u) e =
              let at = from_find (λ (u : Scope). same_name (path_text s.path) (path_text u.path)) (boxes d) u e in
              let same : u ≡ s = sym (one_scope s u has at.0 ((bytes_decides (path_text s.path) (path_text u.path)).0 at.1)) in
              subst (λ z. Fits z (zeros u)) same (zeros_fit u)

          of_boxes : (s : Scope) → Contains (boxes d) s → (o : Option (ℕ × BoxTexts)) → find (λ z. same_name (path_text s.path) z.1.path) texts ≡ o → Fits s (of_box o (path_text s.path))
          of_boxes s has None e = of_scopes s has (find (λ u. same_name (path_text s.path) (path_text u.path)) (boxes d)) refl
          of_boxes s has (Some z) e =
              let found = found_box (path_text s.path) z e in
              let same : box_of z.0 ≡ s = one_scope (box_of z.0) s (box_there z.0 found.0) has (sym (path_is z.0 found.0) ∙ found.1) in
              subst (λ u. Fits u (rows_of (table_at tables z.0))) same (table_fits z.0 found.0)

          each : (s : Scope) → Contains (boxes d) s → Fits s (table_contents (path_text s.path))
          each s has = of_boxes s has (find (λ z. same_name (path_text s.path) z.1.path) texts) refl

      pub find_contents : (contents : Contents) × FitDesign d contents × AreTablesOf f contents tables
      find_contents = (table_contents, contents_fit, record { fit = fit; rows = rows_there })
