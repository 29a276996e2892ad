-- Copies are made one after another.
use Rattle.std.proofs.Common.{◌≡◌, ℕ, ◌+◌, ◌-◌, ◌<◌, ◌≤◌, if◌then◌else◌, nat_lt, List, [], ◌∷◌, ◌++◌, length, map, take, drop, refl, sym, ap, ap₂, ◌∙◌, subst, arith, length-append, append-nil, false}
use Rattle.std.proofs.lemmas.List.{get_or-drop, map_more, append_assoc, length-drop, length-map, length-take-le}
use Rattle.bb_subst.specs.Embeddings.{renumbered}
use Rattle.bb_net.specs.declared.cell.Cell.{Cell}
use Rattle.bb_net.specs.declared.cell.Cell.TheVariants.{Const, Input, Not, And, Or, Xor, Mux, BoxOut}
use Rattle.bb_net.specs.Netlists.{Netlist, cell_at, ReadsBefore, MayBeAppended, IsNetlist, with_cell}
use Rattle.bb_care.specs.Constrained.{copy_place}
use Rattle.bb_care.proofs.ConstrainedCells.{inputs_fit, moved_plain, no_pin, copy_after, copy_reads}

-- the netlist with the copies of the first so many cells
abbrev pub with_some : Netlist → Netlist → ℕ → Netlist
with_some spec imp n = record imp { cells = imp.cells ++ map (renumbered (copy_place spec imp)) (take n (drop (spec.inputs + 2) spec.cells)) }

-- a gate that reads cells may follow them
gate_follows : (net : Netlist) (c : Cell) → ((b p : ℕ) → c ≡ BoxOut b p → ⊥) → ReadsBefore net.inputs net.boxes (length net.cells) c → MayBeAppended net c
gate_follows net (Const b) none reads = reads
gate_follows net (Input i) none reads = reads
gate_follows net (Not a) none reads = reads
gate_follows net (And a b) none reads = reads
gate_follows net (Or a b) none reads = reads
gate_follows net (Xor a b) none reads = reads
gate_follows net (Mux c t e) none reads = reads
gate_follows net (BoxOut b p) none reads = absurd (none b p refl)

-- and adds nothing but itself
gate_adds : (net : Netlist) (c : Cell) → ((b p : ℕ) → c ≡ BoxOut b p → ⊥) → with_cell net c ≡ record net { cells = net.cells ++ c ∷ [] }
gate_adds net (Const b) none = refl
gate_adds net (Input i) none = refl
gate_adds net (Not a) none = refl
gate_adds net (And a b) none = refl
gate_adds net (Or a b) none = refl
gate_adds net (Xor a b) none = refl
gate_adds net (Mux c t e) none = refl
gate_adds net (BoxOut b p) none = absurd (none b p refl)

-- before the first copy there is none
pub copies_begin : (spec imp : Netlist) (n : ℕ) → n ≡ 0 → imp ≡ with_some spec imp n
copies_begin spec imp n none =
    ap (λ (l : List Cell). record imp { cells = l }) (sym (append-nil imp.cells)) ∙ ap (λ m. with_some spec imp m) (sym none)

-- the place of a copy, as it is found
pub place_is : (spec imp : Netlist) (first after k place : ℕ) → first ≡ spec.inputs + 2 → after ≡ length imp.cells → place ≡ (if nat_lt k first then k else after + (k - first)) → place ≡ copy_place spec imp k
place_is spec imp first after k place low long is = is ∙ ap₂ (λ n m. if nat_lt k n then k else m + (k - n)) low long

-- the copy of the cell at a place, as it is made
pub copy_is : (spec imp : Netlist) (first after k : ℕ) (cells : List Cell) (d : Cell) → first ≡ spec.inputs + 2 → after ≡ length imp.cells → cells ≡ spec.cells
    → d ≡ renumbered (λ j. if nat_lt j first then j else after + (j - first)) (cell_at cells k) → d ≡ renumbered (copy_place spec imp) (cell_at spec.cells k)
copy_is spec imp first after k cells d low long same is =
    is ∙ ap₂ (λ n m. renumbered (λ j. if nat_lt j n then j else m + (j - n)) (cell_at cells k)) low long ∙ ap (λ l. renumbered (copy_place spec imp) (cell_at l k)) same

module _ (spec imp : Netlist) (kept : IsNetlist spec) (none : spec.boxes ≡ []) (also : IsNetlist imp) (inputs : spec.inputs ≡ imp.inputs) (k : ℕ) (after : spec.inputs + 2 ≤ k) (lt : k < length spec.cells) where
  some_long : length (with_some spec imp (k - (spec.inputs + 2))).cells ≡ copy_place spec imp k
  some_long =
      length-append imp.cells (map (renumbered (copy_place spec imp)) (take (k - (spec.inputs + 2)) (drop (spec.inputs + 2) spec.cells)))
      ∙ ap (λ n. length imp.cells + n) (length-map (take (k - (spec.inputs + 2)) (drop (spec.inputs + 2) spec.cells)) (renumbered (copy_place spec imp)) ∙ length-take-le (k - (spec.inputs + 2)) (drop (spec.inputs + 2) spec.cells) (omega (arith, lt, length-drop (spec.inputs + 2) spec.cells)))
      ∙ sym (copy_after spec imp k after)

  no_box : (b p : ℕ) → renumbered (copy_place spec imp) (cell_at spec.cells k) ≡ BoxOut b p → ⊥
  no_box = moved_plain (copy_place spec imp) (cell_at spec.cells k) (λ b p. no_pin spec kept none k b p lt)

  -- the next copy may be added
  pub copy_follows : (now : Netlist) (d : Cell) → now ≡ with_some spec imp (k - (spec.inputs + 2)) → d ≡ renumbered (copy_place spec imp) (cell_at spec.cells k) → MayBeAppended now d
  copy_follows now d is same =
      let reads = copy_reads spec imp inputs (inputs_fit spec imp also inputs) k (cell_at spec.cells k) (λ b p. no_pin spec kept none k b p lt) (kept.ordered k lt) in
      let here = subst (λ n. ReadsBefore imp.inputs imp.boxes n (renumbered (copy_place spec imp) (cell_at spec.cells k))) (sym some_long) reads in
      subst (λ net. MayBeAppended net d) (sym is)
      (subst (MayBeAppended (with_some spec imp (k - (spec.inputs + 2)))) (sym same) (gate_follows (with_some spec imp (k - (spec.inputs + 2))) (renumbered (copy_place spec imp) (cell_at spec.cells k)) no_box here))

  -- and then there is one more
  pub copy_next : (now new : Netlist) (d : Cell) → now ≡ with_some spec imp (k - (spec.inputs + 2)) → d ≡ renumbered (copy_place spec imp) (cell_at spec.cells k) → new ≡ with_cell now d
      → new ≡ with_some spec imp (k + 1 - (spec.inputs + 2))
  copy_next now new d is same added =
      added ∙ ap₂ with_cell is same ∙ gate_adds (with_some spec imp (k - (spec.inputs + 2))) (renumbered (copy_place spec imp) (cell_at spec.cells k)) no_box
      ∙ ap (λ (l : List Cell). record imp { cells = l }) (append_assoc imp.cells (map (renumbered (copy_place spec imp)) (take (k - (spec.inputs + 2)) rest)) (renumbered (copy_place spec imp) (cell_at spec.cells k) ∷ []) ∙ ap (λ l. imp.cells ++ l) more)
    where
      rest : List Cell
      rest = drop (spec.inputs + 2) spec.cells

      here : cell_at rest (k - (spec.inputs + 2)) ≡ cell_at spec.cells k
      here = get_or-drop (spec.inputs + 2) spec.cells (k - (spec.inputs + 2)) (Const false) ∙ ap (cell_at spec.cells) (omega (arith, after))

      count : k - (spec.inputs + 2) + 1 ≡ k + 1 - (spec.inputs + 2)
      count = omega (arith, after)

      more : map (renumbered (copy_place spec imp)) (take (k - (spec.inputs + 2)) rest) ++ renumbered (copy_place spec imp) (cell_at spec.cells k) ∷ [] ≡ map (renumbered (copy_place spec imp)) (take (k + 1 - (spec.inputs + 2)) rest)
      more =
          ap (λ c. map (renumbered (copy_place spec imp)) (take (k - (spec.inputs + 2)) rest) ++ renumbered (copy_place spec imp) c ∷ []) (sym here)
          ∙ sym (map_more (renumbered (copy_place spec imp)) rest (k - (spec.inputs + 2)) (Const false) (omega (arith, lt, after, length-drop (spec.inputs + 2) spec.cells)))
          ∙ ap (λ n. map (renumbered (copy_place spec imp)) (take n rest)) count
