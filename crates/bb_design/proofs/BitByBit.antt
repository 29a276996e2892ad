-- A construct holds where each bit that it drives is what its source gives.
use Rattle.std.proofs.Common.{◌≡◌, ◌↔◌, ℕ, suc, ◌+◌, ◌<◌, ◌≤◌, Bool, true, false, List, [], ◌∷◌, ◌++◌, map, length, drop, get_or, All, zip, flat_map, fold, not, if◌then◌else◌, ◌^◌, refl, sym, ap, ap₂, ◌∙◌, arith}
use Rattle.std.proofs.lemmas.List.{length-map, map-append}
use Rattle.std.proofs.lemmas.List.Elements.{All-nil, All-cons, All-head, All-tail}
use Rattle.std.specs.List.{range_with_len, enumerate_from}
use Rattle.bb_ast.specs.Assignable.{is_assignable}
use Rattle.bb_ast.specs.declared.module.Gate.{Gate}
use Rattle.bb_ast.specs.declared.module.Gate.TheVariants as gates
use Rattle.bb_ast.specs.Syntax.{Expression}
use Rattle.bb_bits.specs.Contents.{Contents, row_at, output_bit}
use Rattle.bb_bits.specs.Numbers.{number_of}
use Rattle.bb_names.specs.Declarations.{range_of}
use Rattle.bb_expr.specs.Laws.{ValuesHaveWidth, MadeHasValue}
use Rattle.bb_expr.specs.Terms.{Term, term_bit}
use Rattle.bb_expr.specs.Terms as term
use Rattle.bb_expr.specs.Values.{Bits}
use Rattle.bb_design.specs.Hierarchy.{Scope, path_to}
use Rattle.bb_design.specs.NetBits.{Bit, bits_from, pin_bits, bits_named, input_bits, output_bits, written_bits}
use Rattle.bb_design.specs.Contexts.{width_of, context_width, value_in, made_in}
use Rattle.bb_bits.specs.Bits.{low_bits}
use Rattle.bb_design.specs.Constructs.{Assignment, GateInstance, Register, SupplyNet, InputConnection, OutputConnection, BoxContents}
use Rattle.bb_design.specs.GateFunctions.{on_bits, on_terms, joins, joined, inverts, gate_gives}
use Rattle.bb_design.specs.Laws.DrivenWorlds.{IsGiven, ConstructsHoldBitByBit}
use Rattle.bb_design.specs.Drivers.{Free, MadeOf, Box, driven, driven_by, terminal_terms}
use Rattle.bb_design.specs.Texts.{path_text}
use Rattle.bb_design.specs.Worlds.{World, bit_in, bits_in}
use Rattle.bb_design.specs.Laws.{WrittenBitsAreValue}
use Rattle.bb_design.proofs.WrittenValue.{written_short}
use Rattle.bb_lemmas.proofs.Ranges.{length-range}
use Rattle.bb_lemmas.proofs.LowBits.{low-map, low-length}

-- lists are equal where their elements are, place by place

zipped : {A B : Type 0} (f : A → Bool) (g : B → Bool) (xs : List A) (ys : List B) → length xs ≡ length ys → (map f xs ≡ map g ys) ↔ All (λ z. f z.0 ≡ g z.1) (zip xs ys)
zipped f g [] [] e = ((λ _. All-nil _), (λ _. refl))
zipped f g [] (y ∷ ys) e = absurd (omega (arith, e))
zipped f g (x ∷ xs) [] e = absurd (omega (arith, e))
zipped f g (x ∷ xs) (y ∷ ys) e =
    let rest = zipped f g xs ys (omega (arith, e)) in (
      (λ same. All-cons (λ z. f z.0 ≡ g z.1) (x, y) (zip xs ys) (ap (λ l. get_or l 0 false) same) (rest.0 (ap (drop 1) same))),
      (λ all. ap₂ ◌∷◌ (All-head (λ z. f z.0 ≡ g z.1) (x, y) (zip xs ys) all) (rest.1 (All-tail (λ z. f z.0 ≡ g z.1) (x, y) (zip xs ys) all))),
    )

numbered : {A : Type 0} (f : A → Bool) (g : ℕ → Bool) (a : ℕ) (xs : List A) (row : List Bool) → length xs ≡ length row → ((k : ℕ) → g (a + k) ≡ get_or row k false)
    → (map f xs ≡ row) ↔ All (λ z. f z.1 ≡ g z.0) (enumerate_from a xs)
numbered f g a [] [] e row = ((λ _. All-nil _), (λ _. refl))
numbered f g a [] (r ∷ rs) e row = absurd (omega (arith, e))
numbered f g a (x ∷ xs) [] e row = absurd (omega (arith, e))
numbered f g a (x ∷ xs) (r ∷ rs) e row =
    let here : g a ≡ r = ap g (omega arith) ∙ row 0 in
    let rest = numbered f g (a + 1) xs rs (omega (arith, e)) (λ k. ap g (omega arith) ∙ row (suc k)) in (
      (λ same. All-cons (λ z. f z.1 ≡ g z.0) (a, x) (enumerate_from (a + 1) xs) (ap (λ l. get_or l 0 false) same ∙ sym here) (rest.0 (ap (drop 1) same))),
      (λ all. ap₂ ◌∷◌ (All-head (λ z. f z.1 ≡ g z.0) (a, x) (enumerate_from (a + 1) xs) all ∙ here) (rest.1 (All-tail (λ z. f z.1 ≡ g z.0) (a, x) (enumerate_from (a + 1) xs) all))),
    )

-- of a list that is mapped
mapped : {A B : Type 0} (P : B → Type 0) (f : A → B) (xs : List A) → All (λ x. P (f x)) xs ↔ All P (map f xs)
mapped P f [] = ((λ _. All-nil _), (λ _. All-nil _))
mapped P f (x ∷ xs) =
    let rest = mapped P f xs in (
      (λ all. All-cons P (f x) (map f xs) (All-head (λ y. P (f y)) x xs all) (rest.0 (All-tail (λ y. P (f y)) x xs all))),
      (λ all. All-cons (λ y. P (f y)) x xs (All-head P (f x) (map f xs) all) (rest.1 (All-tail P (f x) (map f xs) all))),
    )

through : {A B C : Type 0} → A ↔ B → B ↔ C → A ↔ C
through p q = ((λ a. q.0 (p.0 a)), (λ c. p.1 (q.1 c)))

from_same : {A : Type 0} {x y : A} → (z : A) → x ≡ y → (z ≡ x) ↔ (z ≡ y)
from_same z e = ((λ p. p ∙ e), (λ p. p ∙ sym e))

-- what bits are made of in a scope
by_terms : (contents : Contents) (w : World) (path : List (List ℕ)) (bits : List Bit) (terms : List Term) → length bits ≡ length terms
    → (bits_in w bits ≡ map (term_bit (w path)) terms) ↔ All (IsGiven contents w) (driven_by path bits terms)
by_terms contents w path bits terms e = through (zipped (bit_in w) (term_bit (w path)) bits terms e) (mapped (IsGiven contents w) (λ x. driven (MadeOf path x.1) x.0) (zip bits terms))

-- gates of terms and of bits
fold_bits : (env : Bits) (gate : Gate) (a : Term) (rest : List Term) → term_bit env (fold (joins on_terms gate) a rest) ≡ fold (joins on_bits gate) (term_bit env a) (map (term_bit env) rest)
fold_bits env gate a [] = refl
fold_bits env gate a (b ∷ rest) = fold_bits env gate (joins on_terms gate a b) rest ∙ ap (λ x. fold (joins on_bits gate) x (map (term_bit env) rest)) (step gate)
  where
    step : (g : Gate) → term_bit env (joins on_terms g a b) ≡ joins on_bits g (term_bit env a) (term_bit env b)
    step gates.And = refl
    step gates.Nand = refl
    step gates.Or = refl
    step gates.Nor = refl
    step gates.Xor = refl
    step gates.Xnor = refl
    step gates.Buf = refl
    step gates.Not = refl

joined_bits : (env : Bits) (gate : Gate) (ts : List Term) → term_bit env (joined on_terms gate ts) ≡ joined on_bits gate (map (term_bit env) ts)
joined_bits env gate [] = refl
joined_bits env gate (a ∷ rest) = fold_bits env gate a rest

pub gate_bits : (env : Bits) (gate : Gate) (ts : List Term) → term_bit env (gate_gives on_terms gate ts) ≡ gate_gives on_bits gate (map (term_bit env) ts)
gate_bits env gate ts = by (inverts gate)
  where
    by : (b : Bool) → term_bit env (if b then term.Not (joined on_terms gate ts) else joined on_terms gate ts) ≡ (if b then not (joined on_bits gate (map (term_bit env) ts)) else joined on_bits gate (map (term_bit env) ts))
    by true = ap not (joined_bits env gate ts)
    by false = joined_bits env gate ts

terminals : MadeHasValue → (w : World) (s : Scope) (ins : List Expression) → map (term_bit (w s.path)) (terminal_terms s ins) ≡ flat_map (λ e. value_in (w s.path) s e (width_of s e)) ins
terminals law w s [] = refl
terminals law w s (e ∷ rest) = map-append (term_bit (w s.path)) (made_in s e (width_of s e)).bits (terminal_terms s rest) ∙ ap₂ ◌++◌ (law (range_of s.source) (w s.path) e (width_of s e) (omega arith)) (terminals law w s rest)

length-pins : (path : List (List ℕ)) (n : List ℕ) (place count : ℕ) → length (bits_from path n place count) ≡ count
length-pins path n place count = length-map (range_with_len place count) _ ∙ length-range place count

-- bits spell a number below the power of two
abbrev pub NumbersAreBelow : Type 0
NumbersAreBelow = (bits : List Bool) → number_of bits < 2 ^ length bits

module _ (values : ValuesHaveWidth) (cells : MadeHasValue) (written : WrittenBitsAreValue) (below : NumbersAreBelow) where
  made_value : (w : World) (s : Scope) (e : Expression) (n : ℕ) → width_of s e ≤ n → map (term_bit (w s.path)) (made_in s e n).bits ≡ value_in (w s.path) s e n
  made_value w s e n fits = cells (range_of s.source) (w s.path) e n fits

  made_long : (w : World) (s : Scope) (e : Expression) (n : ℕ) → width_of s e ≤ n → length (made_in s e n).bits ≡ n
  made_long w s e n fits = sym (length-map (made_in s e n).bits (term_bit (w s.path))) ∙ ap length (made_value w s e n fits) ∙ values (range_of s.source) (w s.path) e n fits

  written_long : (w : World) (s : Scope) (e : Expression) → is_assignable e ≡ true → length (written_bits s e) ≡ width_of s e
  written_long w s e may = sym (length-map (written_bits s e) (bit_in w)) ∙ ap length (written w s e may) ∙ values (range_of s.source) (w s.path) e (width_of s e) (omega arith)

  -- the low bits of what is made have the low bits of the value
  low_value : (w : World) (s : Scope) (e : Expression) (m n : ℕ) → width_of s e ≤ n → map (term_bit (w s.path)) (low_bits m (made_in s e n).bits) ≡ low_bits m (value_in (w s.path) s e n)
  low_value w s e m n fits = low-map (term_bit (w s.path)) m (made_in s e n).bits ∙ ap (low_bits m) (made_value w s e n fits)

  pub bit_by_bit : ConstructsHoldBitByBit
  bit_by_bit contents w s (Assignment left right) has =
      let n = length (written_bits s left) in
      let wide = context_width s left right in
      let fits : width_of s right ≤ wide = omega arith in
      let long : n ≡ length (low_bits n (made_in s right wide).bits) = sym (low-length n (made_in s right wide).bits (omega (arith, made_long w s right wide fits, written_short s left))) in
      through (from_same (bits_in w (written_bits s left)) (sym (low_value w s right n wide fits))) (by_terms contents w s.path (written_bits s left) (low_bits n (made_in s right wide).bits) long)
  bit_by_bit contents w s (GateInstance gate outs ins) has =
      let same = gate_bits (w s.path) gate (terminal_terms s ins) ∙ ap (gate_gives on_bits gate) (terminals cells w s ins) in
      through (each (flat_map (written_bits s) outs) same) (mapped (IsGiven contents w) (driven (MadeOf s.path (gate_gives on_terms gate (terminal_terms s ins)))) (flat_map (written_bits s) outs))
    where
      each : {x y : Bool} (bits : List Bit) → x ≡ y → All (λ b. bit_in w b ≡ y) bits ↔ All (λ b. bit_in w b ≡ x) bits
      each bits e = ((λ all k d lt. all k d lt ∙ sym e), (λ all k d lt. all k d lt ∙ e))
  bit_by_bit contents w s (Register r) has = ((λ _. always (written_bits s r.left)), (λ _. tt))
    where
      always : (bits : List Bit) → All (IsGiven contents w) (map (driven Free) bits)
      always [] = All-nil _
      always (b ∷ bits) = All-cons (IsGiven contents w) (driven Free b) (map (driven Free) bits) tt (always bits)
  bit_by_bit contents w s (SupplyNet high n) has = mapped (IsGiven contents w) (driven (MadeOf s.path (term.Const high))) (bits_named s n)
  bit_by_bit contents w s (InputConnection i pin e) has =
      let bits = pin_bits (path_to s.path i) pin in
      let long : length bits ≡ length (made_in s e (width_of s e)).bits = length-pins (path_to s.path i) pin.name 0 pin.width ∙ sym has ∙ sym (made_long w s e (width_of s e) (omega arith)) in
      through (from_same (bits_in w bits) (sym (made_value w s e (width_of s e) (omega arith)))) (by_terms contents w s.path bits (made_in s e (width_of s e)).bits long)
  bit_by_bit contents w s (OutputConnection i pin e) has =
      let bits = pin_bits (path_to s.path i) pin in
      let terms = map (λ (b : Bit). term.Net b.net b.place) bits in
      let long : length (written_bits s e) ≡ length terms = written_long w s e has.assignable ∙ has.width ∙ sym (length-pins (path_to s.path i) pin.name 0 pin.width) ∙ sym (length-map bits _) in
      through (from_same (bits_in w (written_bits s e)) (pins_read w (path_to s.path i) (range_with_len 0 pin.width))) (by_terms contents w (path_to s.path i) (written_bits s e) terms long)
    where
      pins_read : (w : World) (path : List (List ℕ)) (ks : List ℕ) → bits_in w (map (λ k. record { path = path; net = pin.name; place = k }) ks) ≡ map (term_bit (w path)) (map (λ (b : Bit). term.Net b.net b.place) (map (λ k. record { path = path; net = pin.name; place = k }) ks))
      pins_read w path [] = refl
      pins_read w path (k ∷ ks) = ap (λ l. w path pin.name k ∷ l) (pins_read w path ks)
  bit_by_bit contents w s BoxContents has =
      let rows = contents (path_text s.path) in
      let ins = bits_in w (input_bits s) in
      let row = row_at rows ins in
      let there : number_of ins < length rows = omega (arith, below ins, ap (λ n. 2 ^ n) (length-map (input_bits s) (bit_in w)), has.count) in
      let long : length (output_bits s) ≡ length row = sym (has.widths (number_of ins) [] there) in
      through (numbered (bit_in w) (output_bit rows ins) 0 (output_bits s) row long (λ k. ap (λ j. get_or row j false) (omega arith))) (mapped (IsGiven contents w) (λ x. driven (Box s x.0) x.1) (enumerate_from 0 (output_bits s)))
