-- Steps exist that make what some bits and cells ask for, after any steps that are already.
use Rattle.std.proofs.Common.{◌≡◌, ◌≢◌, ℕ, zero, suc, ◌+◌, ◌-◌, ◌<◌, ◌≤◌, Bool, false, List, [], ◌∷◌, ◌++◌, length, map, drop, get_or, replicate, refl, inl, inr, arith}
use Rattle.std.specs.Prelude.{◌⊎◌, slice_get, Some}
use Rattle.std.specs.List.{range_with_len}
use Rattle.bb_ast.specs.declared.expr.Op.{Op}
use Rattle.bb_ast.specs.declared.expr.Op.TheVariants as ops
use Rattle.bb_names.specs.declared.net.NetInfo.{NetInfo}
use Rattle.bb_names.specs.Ranges.{range_width}
use Rattle.bb_expr.specs.declared.step.BitStep.{BitStep}
use Rattle.bb_expr.specs.declared.step.BitStep.TheVariants as steps
use Rattle.bb_expr.specs.Lists.{copies}
use Rattle.bb_expr.specs.Terms.{Const}
use Rattle.bb_expr.specs.Cells.{MadeTerms, without_cells, net_terms, chained, operated, arm_made}
use Rattle.bb_expr.specs.Inside.Growing.{Adds, AddsRow, paired, gate_step, gated, complemented, reduced, widened}
use Rattle.bb_expr.proofs.AddLemmas.{adds-inverted}
use Rattle.bb_expr.proofs.ChoiceLemmas.{adds-arm, adds-copied}
use Rattle.bb_expr.proofs.NetBitLemmas.{adds-constants, adds-net-at}
use Rattle.bb_expr.proofs.OperatorLemmas.{IsOnTheWay, adds-gated, way-first, way-further, way-ended, plain-operated, xnor-operated, read-at}
use Rattle.bb_expr.proofs.PlaceLemmas.{extended-made}

row : (rows old : List BitStep) → AddsRow rows old (old ++ rows) (range_with_len (length old) (length rows))
row rows old = record { grows = refl; numbered = refl }

xnor-or-not : (op : Op) → (op ≡ ops.Xnor) ⊎ (op ≢ ops.Xnor)
xnor-or-not ops.And = inr (λ e. cc e)
xnor-or-not ops.Or = inr (λ e. cc e)
xnor-or-not ops.Xor = inr (λ e. cc e)
xnor-or-not ops.Xnor = inl refl

module _ (nets : List NetInfo) where
  -- there are steps after these, and bits among them
  abbrev pub Lowers : MadeTerms → List BitStep → Type 0
  Lowers m old = (new : List BitStep) × (bits : List ℕ) × Adds nets m old new bits

  pub constants : (bits : List Bool) (old : List BitStep) → Lowers (without_cells (map Const bits)) old
  constants bits old = let rows = map steps.Const bits in (old ++ rows, range_with_len (length old) (length rows), adds-constants nets bits old (old ++ rows) (range_with_len (length old) (length rows)) (row rows old))

  pub net-bits : (n : List ℕ) (net : NetInfo) (k from count : ℕ) (old : List BitStep) → slice_get nets k ≡ Some net → net.name ≡ n → from + count ≤ range_width net.range → Lowers (without_cells (net_terms n from count)) old
  net-bits n net k from count old there name fits =
      let rows = map (steps.Net k) (range_with_len from count) in
      (old ++ rows, range_with_len (length old) (length rows), adds-net-at nets n net k from count old (old ++ rows) (range_with_len (length old) (length rows)) there name fits (row rows old))

  -- with zeros on the left
  pub widen : (w : ℕ) (m : MadeTerms) (old : List BitStep) → Lowers m old → Lowers (widened w m) old
  widen w m old h =
      let missing : ℕ = w - length h.1 in
      let rows : List BitStep = replicate missing (steps.Const false) in
      let places = range_with_len (length h.0) (length rows) in
      (h.0 ++ rows, places ++ h.1, extended-made nets m old h.0 (h.0 ++ rows) h.1 places (places ++ h.1) w missing h.2 (row rows h.0) refl refl)

  pub complement : (m : MadeTerms) (old : List BitStep) → Lowers m old → Lowers (complemented m) old
  complement m old h =
      let rows = map steps.Not h.1 in
      let places = range_with_len (length h.0) (length rows) in
      (h.0 ++ rows, places, adds-inverted nets m old h.0 (h.0 ++ rows) h.1 places h.2 (row rows h.0))

  gate : (op : Op) (m n : MadeTerms) (old mid before : List BitStep) (a b : List ℕ) → Adds nets m old mid a → Adds nets n mid before b → length a ≡ length b → Lowers (gated op m n) old
  gate op m n old mid before a b x y long =
      let rows = paired (gate_step op) a b in
      let places = range_with_len (length before) (length rows) in
      (before ++ rows, places, adds-gated nets op m n old mid before (before ++ rows) a b places x y long (row rows before))

  pub operate : (op : Op) (m n : MadeTerms) (old mid before : List BitStep) (a b : List ℕ) → Adds nets m old mid a → Adds nets n mid before b → length a ≡ length b → Lowers (chained m n (operated op m.bits n.bits)) old
  operate op m n old mid before a b x y long =
      let h = gate op m n old mid before a b x y long in
      elim (xnor-or-not op) [
        | inl same ↦ let c = complement (gated op m n) old h in (c.0, c.1, xnor-operated nets op m n old c.0 c.1 same c.2)
        | inr other ↦ (h.0, h.1, plain-operated nets op m n old h.0 h.1 other h.2)
      ]

  -- whether some bit is 1, on the way to the last bit
  any-on : (m : MadeTerms) (old : List BitStep) (bits : List ℕ) (left i : ℕ) (now : List BitStep) (a : ℕ) → left + i ≡ length bits → IsOnTheWay nets m old now (a ∷ drop i bits) → (new : List BitStep) × (place : ℕ) × Adds nets (reduced m) old new (place ∷ [])
  any-on m old bits zero i now a e way = (now, a, way-ended nets m old now bits i a (omega (arith, e)) way)
  any-on m old bits (suc left) i now a e way =
      let b : ℕ = get_or bits i 0 in
      let new : List BitStep = now ++ steps.Or a b ∷ [] in
      let within : i < length bits = omega (arith, e) in
      any-on m old bits left (i + 1) new (length now) (omega (arith, e)) (way-further nets m old now new bits i a b (length now) within (read-at bits i within) way refl refl)

  pub any : (m : MadeTerms) (old : List BitStep) (h : Lowers m old) → 1 ≤ length h.1 → (new : List BitStep) × (place : ℕ) × Adds nets (reduced m) old new (place ∷ [])
  any m old h some = any-on m old h.1 (length h.1 - 1) 1 h.0 (get_or h.1 0 0) (omega (arith, some)) (way-first nets m old h.0 h.1 some h.2)

  pub choose : (me mc mt : MadeTerms) (old s1 s2 s3 : List BitStep) (e t : List ℕ) (c : ℕ) → Adds nets me old s1 e → Adds nets (reduced mc) s1 s2 (c ∷ []) → Adds nets mt s2 s3 t → length t ≡ length e → 1 ≤ length t → Lowers (arm_made mc mt me) old
  choose me mc mt old s1 s2 s3 e t c x y z long some =
      let rows = paired (steps.Mux c) t e in
      let places = range_with_len (length s3) (length rows) in
      (s3 ++ rows, places, adds-arm nets me mc mt old s1 s2 s3 (s3 ++ rows) e t places c x y z long some (row rows s3))

  pub copy : (k : ℕ) → 1 ≤ k → (m : MadeTerms) (old : List BitStep) → Lowers m old → Lowers (record { bits = copies k m.bits; cells = m.cells }) old
  copy k some m old h = (h.0, copies k h.1, adds-copied nets k some m old h.0 h.1 h.2)
