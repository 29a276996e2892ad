-- The lines of tables give back their bits: each line of the same names has the same length, so equal texts have equal lines.
use Rattle.std.proofs.Common.{◌≡◌, ◌≤◌, ◌<◌, ◌+◌, ◌*◌, ◌/◌, ◌%◌, ◌^◌, ℕ, zero, suc, Bool, true, false, List, [], ◌∷◌, ◌++◌, append_assoc, length, map, take, get_or, refl, sym, ap, subst, ◌∙◌, arith, inl, inr}
use Rattle.std.specs.Prelude.{zip, codes}
use Rattle.std.specs.List.{flat_map, range_with_len, AllZip}
use Rattle.std.proofs.lemmas.List.{append_cancel_left, append_cancel_right, length-append, ext_get_or, flat_map_more, take_more, map-id}
use Rattle.std.proofs.Math.Nat.{div-lt_iff_lt-mul, mod-lt, mod-add-div, mul_comm}
use Rattle.std.proofs.lemmas.Bool.{cases_lt}
use Rattle.std.proofs.lemmas.List.FromFn.{length-map-range_with_len, get_or-map-range_with_len, map-range_with_len_more}
use Rattle.std.proofs.lemmas.Slice.Zip.{get_or-zip, length-zip}
use Rattle.bb_bits.specs.Tables.{TableBits, HasAllBits, table_bit}
use Rattle.bb_net.specs.Netlists.{Pins, box_at}
use Rattle.bb_net.specs.Kinds.{representatives}
use Rattle.bb_net.specs.Pairs.{BoxTexts, NamesPins, box_key}
use Rattle.bb_net.specs.Values.{table_at, FitBoxes}
use Rattle.bb_checks.specs.Inside.KindLaws.{KindLaws}
use Rattle.bb_checks.specs.Laws.{LinesFixTables, TextsFixTables}
use Rattle.bb_checks.specs.declared.verdict.Verdict.TheVariants as verdicts
use Rattle.bb_checks.specs.Reports.{rung_line, verdict_line}
use Rattle.bb_checks.specs.TableLines.{printed_bit, pin_column, table_line, printed_pin, box_lines, table_lines}
use Rattle.bb_checks.proofs.ShownBoxes.{named_shown}

abbrev first_byte : List ℕ → ℕ
first_byte [] = 0
first_byte (n ∷ l) = n

abbrev other_bytes : List ℕ → List ℕ
other_bytes [] = []
other_bytes (n ∷ l) = l

-- texts with fronts of one length
pub same_prefixes : (a b c d : List ℕ) → length a ≡ length c → a ++ b ≡ c ++ d → (a ≡ c) × (b ≡ d)
same_prefixes [] b [] d long same = (refl, same)
same_prefixes [] b (y ∷ c) d long same = absurd (omega (arith, long))
same_prefixes (x ∷ a) b [] d long same = absurd (omega (arith, long))
same_prefixes (x ∷ a) b (y ∷ c) d long same =
    let rest = same_prefixes a b c d (omega (arith, long)) (ap other_bytes same) in
    (ap (λ n. n ∷ a) (ap first_byte same) ∙ ap (λ l. y ∷ l) rest.0, rest.1)

-- a bit has one byte
pub one_byte : (b : Bool) → length (printed_bit b) ≡ 1
one_byte true = refl
one_byte false = refl

pub same_bit : (a b : Bool) → printed_bit a ≡ printed_bit b → a ≡ b
same_bit true true e = refl
same_bit false false e = refl
same_bit true false e = absurd (omega (arith, ap first_byte e))
same_bit false true e = absurd (omega (arith, ap first_byte e))

bytes : (bits : List Bool) → length (flat_map printed_bit bits) ≡ length bits
bytes [] = refl
bytes (b ∷ bits) = length-append (printed_bit b) (flat_map printed_bit bits) ∙ omega (arith, one_byte b, bytes bits)

same_bits : (xs ys : List Bool) → length xs ≡ length ys → flat_map printed_bit xs ≡ flat_map printed_bit ys → xs ≡ ys
same_bits [] [] long same = refl
same_bits [] (y ∷ ys) long same = absurd (omega (arith, long))
same_bits (x ∷ xs) [] long same = absurd (omega (arith, long))
same_bits (x ∷ xs) (y ∷ ys) long same =
    let parts = same_prefixes (printed_bit x) (flat_map printed_bit xs) (printed_bit y) (flat_map printed_bit ys) (one_byte x ∙ sym (one_byte y)) same in
    ap (λ b. b ∷ xs) (same_bit x y parts.0) ∙ ap (λ bits. y ∷ bits) (same_bits xs ys (omega (arith, long)) parts.1)

-- the bits at the output pins fix the bits of a row after row
module _ (shared : Bool) (box : BoxTexts) (t u : TableBits) (inputs : t.inputs ≡ u.inputs) where
  abbrev pin_line : TableBits → ℕ → List ℕ
  pin_line v pin = table_line (box_key shared box) (printed_pin box pin) (pin_column v pin)

  long_bits : (v w : TableBits) (pin : ℕ) → v.inputs ≡ w.inputs → length (pin_column v pin) ≡ length (pin_column w pin)
  long_bits v w pin e = length-map-range_with_len (λ row. table_bit v row pin) 0 (2 ^ v.inputs) ∙ ap (λ n. 2 ^ n) e ∙ sym (length-map-range_with_len (λ row. table_bit w row pin) 0 (2 ^ w.inputs))

  -- what precedes the bits, and the bits
  abbrev prefix : ℕ → List ℕ
  prefix pin = codes "table " ++ box_key shared box ++ codes " " ++ printed_pin box pin ++ codes " "

  abbrev text : TableBits → ℕ → List ℕ
  text v pin = flat_map printed_bit (pin_column v pin)

  long_text : (pin : ℕ) → length (prefix pin ++ text t pin) ≡ length (prefix pin ++ text u pin)
  long_text pin =
      length-append (prefix pin) (text t pin)
      ∙ ap (λ n. length (prefix pin) + n) (bytes (pin_column t pin) ∙ long_bits t u pin inputs ∙ sym (bytes (pin_column u pin)))
      ∙ sym (length-append (prefix pin) (text u pin))

  long_line : (pin : ℕ) → length (pin_line t pin) ≡ length (pin_line u pin)
  long_line pin =
      length-append (prefix pin ++ text t pin) (codes "\n") ∙ ap (λ n. n + length (codes "\n")) (long_text pin) ∙ sym (length-append (prefix pin ++ text u pin) (codes "\n"))

  long_pins : (k n : ℕ) → length (flat_map (pin_line t) (range_with_len k n)) ≡ length (flat_map (pin_line u) (range_with_len k n))
  long_pins k zero = refl
  long_pins k (suc n) =
      length-append (pin_line t k) (flat_map (pin_line t) (range_with_len (k + 1) n)) ∙ omega (arith, long_line k, long_pins (k + 1) n, length-append (pin_line u k) (flat_map (pin_line u) (range_with_len (k + 1) n)))

  same_line : (pin : ℕ) (b d : List ℕ) → pin_line t pin ++ b ≡ pin_line u pin ++ d → (pin_column t pin ≡ pin_column u pin) × (b ≡ d)
  same_line pin b d same =
      let parts = same_prefixes (pin_line t pin) b (pin_line u pin) d (long_line pin) same in
      let inner = same_prefixes (prefix pin ++ text t pin) (codes "\n") (prefix pin ++ text u pin) (codes "\n") (long_text pin) parts.0 in
      (same_bits (pin_column t pin) (pin_column u pin) (long_bits t u pin inputs) (append_cancel_left (prefix pin) (text t pin) (text u pin) inner.0), parts.1)

  -- lines from a pin on
  same_lines : (k n : ℕ) (b d : List ℕ) → flat_map (pin_line t) (range_with_len k n) ++ b ≡ flat_map (pin_line u) (range_with_len k n) ++ d
      → ((pin : ℕ) → k ≤ pin → pin < k + n → pin_column t pin ≡ pin_column u pin) × (b ≡ d)
  same_lines k zero b d same = ((λ pin from within. absurd (omega (arith, from, within))), same)
  same_lines k (suc n) b d same =
      let tl = flat_map (pin_line t) (range_with_len (k + 1) n) in
      let ul = flat_map (pin_line u) (range_with_len (k + 1) n) in
      let here = same_line k (tl ++ b) (ul ++ d) (sym (append_assoc (pin_line t k) tl b) ∙ same ∙ append_assoc (pin_line u k) ul d) in
      let rest = same_lines (k + 1) n b d here.1 in (
        (λ pin from within. elim (cases_lt k pin) [
          | inl above ↦ rest.0 pin (omega (arith, above)) (omega (arith, within))
          | inr not_above ↦ subst (λ q. pin_column t q ≡ pin_column u q) (omega (arith, from, not_above)) here.0
        ]),
        rest.1,
      )

-- a bit of the rows is one at an output pin
bit_at_pin : (t : TableBits) (pin row : ℕ) → row < 2 ^ t.inputs → get_or (pin_column t pin) row false ≡ table_bit t row pin
bit_at_pin t pin row within = get_or-map-range_with_len (λ r. table_bit t r pin) 0 (2 ^ t.inputs) row row false within (omega arith)

positive : (m n i : ℕ) → i < m * n → 0 < m
positive zero n i fits = absurd (omega (arith, fits))
positive (suc m) n i fits = omega arith

-- tables with the same numbers of pins
record AreIsomorphic (t u : TableBits) (outs : ℕ) : Type 0 where
  pub inputs : t.inputs ≡ u.inputs
  pub outputs : t.outputs ≡ u.outputs
  pub pins : t.outputs ≡ outs
  pub whole : HasAllBits t
  pub other_whole : HasAllBits u

abbrev parts : ℕ → ℕ → List Bool → TableBits
parts inputs outputs rows = record { inputs = inputs; outputs = outputs; rows = rows }

-- tables with the same bits at each output pin
same_table : (t u : TableBits) → t.inputs ≡ u.inputs → t.outputs ≡ u.outputs → HasAllBits t → HasAllBits u
    → ((pin : ℕ) → pin < t.outputs → pin_column t pin ≡ pin_column u pin) → t ≡ u
same_table t u inputs outputs t_whole u_whole pins = by_rows t u inputs outputs (ext_get_or false t.rows u.rows (t_whole ∙ ap (λ n. n * 2 ^ t.inputs) outputs ∙ ap (λ n. u.outputs * 2 ^ n) inputs ∙ sym u_whole) each)
  where
    by_rows : (t u : TableBits) → t.inputs ≡ u.inputs → t.outputs ≡ u.outputs → t.rows ≡ u.rows → t ≡ u
    by_rows t u a b c = ap (λ n. parts n t.outputs t.rows) a ∙ ap (λ n. parts u.inputs n t.rows) b ∙ ap (λ r. parts u.inputs u.outputs r) c

    each : (i : ℕ) → i < length t.rows → get_or t.rows i false ≡ get_or u.rows i false
    each i within =
        let fits : i < t.outputs * 2 ^ t.inputs = omega (arith, within, t_whole) in
        let some : 0 < t.outputs = positive t.outputs (2 ^ t.inputs) i fits in
        let row = i / t.outputs in
        let pin = i % t.outputs in
        let row_fits : row < 2 ^ t.inputs = (div-lt_iff_lt-mul some).1 (omega (arith, fits, mul_comm t.outputs (2 ^ t.inputs))) in
        let pin_fits : pin < t.outputs = mod-lt i some in
        let at : row * t.outputs + pin ≡ i = omega (arith, mod-add-div i t.outputs, mul_comm t.outputs row) in
        ap (λ k. get_or t.rows k false) (sym at)
        ∙ sym (bit_at_pin t pin row row_fits)
        ∙ ap (λ bits. get_or bits row false) (pins pin pin_fits)
        ∙ bit_at_pin u pin row (omega (arith, row_fits, ap (λ n. 2 ^ n) inputs))
        ∙ ap (λ m. get_or u.rows (row * m + pin) false) (sym outputs)
        ∙ ap (λ k. get_or u.rows k false) at

-- tables of boxes, one after another
same_tables : (shared : Bool) (texts : List BoxTexts) (boxes : List Pins) (tables others : List TableBits) → AllZip NamesPins texts boxes → length tables ≡ length boxes → length others ≡ length boxes
    → ((b : ℕ) → b < length boxes → AreIsomorphic (table_at tables b) (table_at others b) (length (box_at boxes b).outs)) → table_lines shared texts tables ≡ table_lines shared texts others → tables ≡ others
same_tables shared [] [] [] [] named count other alike same = refl
same_tables shared [] [] (t ∷ tables) others named count other alike same = absurd (omega (arith, count))
same_tables shared [] [] [] (u ∷ others) named count other alike same = absurd (omega (arith, other))
same_tables shared [] (q ∷ boxes) tables others named count other alike same = absurd named
same_tables shared (x ∷ texts) [] tables others named count other alike same = absurd named
same_tables shared (x ∷ texts) (q ∷ boxes) [] others named count other alike same = absurd (omega (arith, count))
same_tables shared (x ∷ texts) (q ∷ boxes) (t ∷ tables) [] named count other alike same = absurd (omega (arith, other))
same_tables shared (x ∷ texts) (q ∷ boxes) (t ∷ tables) (u ∷ others) named count other alike same =
    let here = alike 0 (omega arith) in
    let parts = same_lines shared x t u here.inputs 0 (length x.outs) (table_lines shared texts tables) (table_lines shared texts others) same in
    let pins : (pin : ℕ) → pin < t.outputs → pin_column t pin ≡ pin_column u pin = λ pin within. parts.0 pin (omega arith) (omega (arith, within, here.pins, named.0.outs)) in
    ap (λ v. v ∷ tables) (same_table t u here.inputs here.outputs here.whole here.other_whole pins)
    ∙ ap (λ vs. u ∷ vs) (same_tables shared texts boxes tables others named.1 (omega (arith, count)) (omega (arith, other)) (λ b within. alike (suc b) (omega (arith, within))) parts.1)

-- tables that fit the same boxes
alike : (boxes : List Pins) (tables others : List TableBits) → FitBoxes tables boxes → FitBoxes others boxes → (b : ℕ) → b < length boxes
    → AreIsomorphic (table_at tables b) (table_at others b) (length (box_at boxes b).outs)
alike boxes tables others fit fits b within = record {
  inputs = fit.inputs b within ∙ sym (fits.inputs b within);
  outputs = fit.outputs b within ∙ sym (fits.outputs b within);
  pins = fit.outputs b within;
  whole = fit.whole b within;
  other_whole = fits.whole b within;
}

pub lines_fix_tables : KindLaws → LinesFixTables
lines_fix_tables kinds shared p tables others kept fit fits same =
    same_tables shared (representatives p.kinds p.boxes) (representatives p.kinds p.imp.boxes) tables others (named_shown kinds p kept) fit.count fits.count (alike (representatives p.kinds p.imp.boxes) tables others fit fits) same

-- texts with ends of one length
same_ends : (a b c d : List ℕ) → length b ≡ length d → a ++ b ≡ c ++ d → b ≡ d
same_ends a b c d long same = (same_prefixes a b c d (omega (arith, ap length same, length-append a b, length-append c d, long)) same).1

long_lines : (shared : Bool) (texts : List BoxTexts) (boxes : List Pins) (tables others : List TableBits) → AllZip NamesPins texts boxes → length tables ≡ length boxes → length others ≡ length boxes
    → ((b : ℕ) → b < length boxes → AreIsomorphic (table_at tables b) (table_at others b) (length (box_at boxes b).outs)) → length (table_lines shared texts tables) ≡ length (table_lines shared texts others)
long_lines shared [] [] [] [] named count other alike = refl
long_lines shared [] [] (t ∷ tables) others named count other alike = absurd (omega (arith, count))
long_lines shared [] [] [] (u ∷ others) named count other alike = absurd (omega (arith, other))
long_lines shared [] (q ∷ boxes) tables others named count other alike = absurd named
long_lines shared (x ∷ texts) [] tables others named count other alike = absurd named
long_lines shared (x ∷ texts) (q ∷ boxes) [] others named count other alike = absurd (omega (arith, count))
long_lines shared (x ∷ texts) (q ∷ boxes) (t ∷ tables) [] named count other alike = absurd (omega (arith, other))
long_lines shared (x ∷ texts) (q ∷ boxes) (t ∷ tables) (u ∷ others) named count other alike =
    let here : length (box_lines shared (x, t)) ≡ length (box_lines shared (x, u)) = long_pins shared x t u (alike 0 (omega arith)).inputs 0 (length x.outs) in
    let rest = long_lines shared texts boxes tables others named.1 (omega (arith, count)) (omega (arith, other)) (λ b within. alike (suc b) (omega (arith, within))) in
    length-append (box_lines shared (x, t)) (table_lines shared texts tables) ∙ omega (arith, here, rest, length-append (box_lines shared (x, u)) (table_lines shared texts others))

pub texts_fix_tables : KindLaws → TextsFixTables
texts_fix_tables kinds shared p text tables others kept fit fits one other =
    let end = verdict_line verdicts.Repairable in
    let texts = representatives p.kinds p.boxes in
    let all_isomorphic = alike (representatives p.kinds p.imp.boxes) tables others fit fits in
    let long = long_lines shared texts (representatives p.kinds p.imp.boxes) tables others (named_shown kinds p kept) fit.count fits.count all_isomorphic in
    let same : (flat_map rung_line one.lines ++ table_lines shared texts tables) ++ end ≡ (flat_map rung_line other.lines ++ table_lines shared texts others) ++ end = sym one.whole ∙ other.whole in
    let lines : table_lines shared texts tables ≡ table_lines shared texts others =
    same_ends (flat_map rung_line one.lines) (table_lines shared texts tables) (flat_map rung_line other.lines) (table_lines shared texts others) long
    (append_cancel_right (flat_map rung_line one.lines ++ table_lines shared texts tables) (flat_map rung_line other.lines ++ table_lines shared texts others) end same) in
    lines_fix_tables kinds shared p tables others kept fit fits lines

-- one line more
pub one_more_pin : (f : ℕ → List ℕ) (old text : List ℕ) (k : ℕ) → text ≡ old ++ flat_map f (range_with_len 0 k) → text ++ f k ≡ old ++ flat_map f (range_with_len 0 (k + 1))
one_more_pin f old text k h =
    ap (λ t. t ++ f k) h ∙ flat_map_more f old (range_with_len 0 k) k
    ∙ ap (λ ks. old ++ flat_map f ks) (sym (range_more k))
  where
    range_more : (k : ℕ) → range_with_len 0 (k + 1) ≡ range_with_len 0 k ++ k ∷ []
    range_more k = sym (map-id (range_with_len 0 (k + 1))) ∙ map-range_with_len_more (λ n. n) 0 k k (omega arith) ∙ ap (λ l. l ++ k ∷ []) (map-id (range_with_len 0 k))

-- one bit more
pub one_more_row : (g : ℕ → Bool) (old text : List ℕ) (k : ℕ) → text ≡ old ++ flat_map printed_bit (map g (range_with_len 0 k))
    → text ++ printed_bit (g k) ≡ old ++ flat_map printed_bit (map g (range_with_len 0 (k + 1)))
one_more_row g old text k h =
    ap (λ t. t ++ printed_bit (g k)) h ∙ flat_map_more printed_bit old (map g (range_with_len 0 k)) (g k)
    ∙ ap (λ bits. old ++ flat_map printed_bit bits) (sym (map-range_with_len_more g 0 k k (omega arith)))

-- one box more
pub one_more_box : (shared : Bool) (old text : List ℕ) (boxes : List BoxTexts) (tables : List TableBits) (b : ℕ) (box : BoxTexts) (t : TableBits) → b < length boxes → length tables ≡ length boxes
    → box ≡ get_or boxes b box → t ≡ get_or tables b t → text ≡ old ++ flat_map (box_lines shared) (take b (zip boxes tables)) → text ++ box_lines shared (box, t) ≡ old ++ flat_map (box_lines shared) (take (b + 1) (zip boxes tables))
one_more_box shared old text boxes tables b box t within same is_box is_table h =
    let there : b < length (zip boxes tables) = omega (arith, length-zip boxes tables, within, same) in
    let pair : get_or (zip boxes tables) b (box, t) ≡ (box, t) =
    get_or-zip boxes tables b (box, t) within (omega (arith, within, same)) ∙ ap (λ n. (n, get_or tables b t)) (sym is_box) ∙ ap (λ v. (box, v)) (sym is_table) in
    ap (λ l. l ++ box_lines shared (box, t)) h
    ∙ flat_map_more (box_lines shared) old (take b (zip boxes tables)) (box, t)
    ∙ ap (λ ps. old ++ flat_map (box_lines shared) ps) (sym (take_more (zip boxes tables) b (box, t) there ∙ ap (λ p. take b (zip boxes tables) ++ p ∷ []) pair))
