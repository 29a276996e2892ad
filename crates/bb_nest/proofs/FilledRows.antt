-- A row that is filled: the bits up to the input pins, and what the least point after them says.
use Rattle.std.proofs.Common.{◌≡◌, ◌<◌, ◌≤◌, ℕ, ◌+◌, ◌-◌, Bool, false, List, [], ◌∷◌, ◌++◌, length, map, take, drop, get_or, replicate, All, refl, sym, ap, ap₂, ◌∙◌, subst, subst₂, inl, inr, arith, append_assoc, length-append, length-take, length-drop}
use Rattle.std.proofs.lemmas.Bool.{cases_lt}
use Rattle.std.proofs.lemmas.List.{get_or_append_left, get_or-append_right, length-map, length-replicate, take_at, drop_at, take-replicate, take_rest}
use Rattle.std.proofs.lemmas.List.Elements.{All-head, All-tail}
use Rattle.bb_bits.specs.Numbers.{number_of, bits_of}
use Rattle.bb_bits.specs.Tables.{TableBits, row_of}
use Rattle.bb_bits.specs.Truth.{Truth, truth_at}
use Rattle.bb_net.specs.Values.{bit_of}
use Rattle.bb_quant.specs.Inside.LeastPoints.{IsLeastPoint, BeginsAs}
use Rattle.bb_nest.specs.Inside.StageRows.{IsStageRow, AtLeast, AtNone, HasStageRows, prefix_of}

map_same : (f g : ℕ → Bool) (ps : List ℕ) → All (λ p. f p ≡ g p) ps → map f ps ≡ map g ps
map_same f g [] all = refl
map_same f g (p ∷ ps) all = ap₂ (λ (b : Bool) (bs : List Bool). b ∷ bs) (All-head (λ p. f p ≡ g p) p ps all) (map_same f g ps (All-tail (λ p. f p ≡ g p) p ps all))

-- the point after the bits ins are written at the input pins, and those of the readers before them
module _ (readers : List ℕ) (old ins : List Bool) (k : ℕ) (wide : length ins ≡ k) (fit : length readers + k ≤ length old) (below : All (λ p. p < k) readers) where
  abbrev start : ℕ
  start = length readers

  abbrev rest : List Bool
  rest = drop ((start + k) - start) (drop start old)

  abbrev written : List Bool
  written = take start old ++ (ins ++ rest)

  abbrev copied : List Bool
  copied = map (λ p. bit_of written (start + p)) readers ++ drop start written

  before : length (take start old) ≡ start
  before = omega (arith, length-take start old, fit)

  bit_is : (p : ℕ) → p < k → bit_of written (start + p) ≡ bit_of ins p
  bit_is p l =
      get_or-append_right (take start old) (ins ++ rest) start (start + p) false before (omega arith)
      ∙ (ap (λ j. get_or (ins ++ rest) j false) (let h : (start + p) - start ≡ p = omega arith in h) ∙ get_or_append_left ins rest false p (omega (arith, l, wide)))

  copied_is : copied ≡ prefix_of readers ins ++ rest
  copied_is =
      ap₂ (λ (v w : List Bool). v ++ w) (map_same (λ p. bit_of written (start + p)) (bit_of ins) readers (λ j d l. bit_is (get_or readers j d) (below j d l))) (drop_at (take start old) (ins ++ rest) start before)
      ∙ sym (append_assoc (map (bit_of ins) readers) ins rest)

  pub count_prefix : length (prefix_of readers ins) ≡ start + k
  count_prefix = omega (arith, length-append (map (bit_of ins) readers) ins, length-map readers (bit_of ins), wide)

  pub count_copied : length copied ≡ length old
  count_copied = ap length copied_is ∙ omega (arith, length-append (prefix_of readers ins) rest, count_prefix, length-drop ((start + k) - start) (drop start old), length-drop start old, fit)

  pub prefix_copied : take (start + k) copied ≡ prefix_of readers ins
  prefix_copied = ap (take (start + k)) copied_is ∙ take_at (prefix_of readers ins) rest (start + k) count_prefix

-- what is written after a front
pub written_after : (prefix n : ℕ) (p zeros : List Bool) → length p ≡ n → prefix ≤ n → zeros ≡ replicate (length (take (length p - prefix) (drop prefix p))) false →
    let new = take prefix p ++ (zeros ++ drop (length p - prefix) (drop prefix p)) in (take (length new - prefix) (drop prefix new) ≡ zeros) × (zeros ≡ replicate (n - prefix) false)
written_after prefix n p zeros e l z =
    let size : length (take (length p - prefix) (drop prefix p)) ≡ n - prefix = omega (arith, length-take (length p - prefix) (drop prefix p), length-drop prefix p, e) in
    let is : zeros ≡ replicate (n - prefix) false = z ∙ ap (λ k. replicate k false) size in
    let past = drop (length p - prefix) (drop prefix p) in
    let long : length zeros ≡ n - prefix = ap length is ∙ length-replicate (n - prefix) false in
    let head : length (take prefix p) ≡ prefix = omega (arith, length-take prefix p, e, l) in
    let new = take prefix p ++ (zeros ++ past) in
    let count : length new - prefix ≡ n - prefix = omega (arith, length-append (take prefix p) (zeros ++ past), length-append zeros past, head, long, length-drop (length p - prefix) (drop prefix p), length-drop prefix p, e) in
    (ap₂ take count (drop_at (take prefix p) (zeros ++ past) prefix head) ∙ take_at zeros past (n - prefix) long, is)

-- the row after a front
module _ (n m prefix : ℕ) (t : Truth) (bits given new : List Bool) (count : length bits ≡ prefix) (long : length given ≡ n) (begins : take prefix given ≡ bits) (fit : prefix + m ≤ n) where
  pub row_found : IsLeastPoint t false prefix given new → (outs : List Bool) → outs ≡ take m (take (length new - prefix) (drop prefix new)) → IsStageRow n t m bits outs
  row_found found outs is = AtLeast new (found.begins.0 ∙ long) first own (is ∙ (ap (take m) (take_rest new prefix) ∙ ap (λ j. take m (drop j new)) (sym count)))
    where
      first : take (length bits) new ≡ bits
      first = ap (λ j. take j new) count ∙ (found.begins.1 ∙ begins)

      own : IsLeastPoint t false (length bits) new new
      own = subst (λ j. IsLeastPoint t false j new new) (sym count) (record { begins = (refl, refl); bit = found.bit; least = λ q h zero. found.least q (h.0 ∙ found.begins.0, h.1 ∙ found.begins.1) zero })

  pub row_none : ((q : List Bool) → BeginsAs prefix given q → truth_at t q ≡ false → ⊥) → (zeros outs : List Bool) → zeros ≡ replicate (n - prefix) false → outs ≡ take m zeros → IsStageRow n t m bits outs
  row_none none zeros outs z is = AtNone (λ q lq first zero. none q (lq ∙ sym long, ap (λ j. take j q) (sym count) ∙ (first ∙ sym begins)) zero) (is ∙ (ap (take m) z ∙ take-replicate m (n - prefix) false (omega (arith, fit))))

-- bits of one number are one list
pub same_bits : ((bits : List Bool) → bits_of (length bits) (number_of bits) ≡ bits) → (x y : List Bool) → length x ≡ length y → number_of x ≡ number_of y → x ≡ y
same_bits once x y l e = sym (once x) ∙ (ap₂ bits_of l e ∙ once y)

-- one more row
pub rows_more : (n : ℕ) (t : Truth) (readers : List ℕ) (old new : TableBits) (row : ℕ) → new.inputs ≡ old.inputs → new.outputs ≡ old.outputs → HasStageRows n t readers old row →
    ((ins : List Bool) → length ins ≡ old.inputs → number_of ins ≡ row → IsStageRow n t old.outputs (prefix_of readers ins) (row_of new row)) → ((other : ℕ) → other < row → row_of new other ≡ row_of old other) → HasStageRows n t readers new (row + 1)
rows_more n t readers old new row inputs outputs so_far here others ins width below =
    elim (cases_lt (number_of ins) row) [
      | inl before ↦ subst₂ (λ m (outs : List Bool). IsStageRow n t m (prefix_of readers ins) outs) (sym outputs) (sym (others (number_of ins) before)) (so_far ins (width ∙ inputs) before)
      | inr after ↦
          let e : number_of ins ≡ row = omega (arith, below, after) in
          subst₂ (λ m k. IsStageRow n t m (prefix_of readers ins) (row_of new k)) (sym outputs) (sym e) (here ins (width ∙ inputs) e)
    ]
