-- A netlist stays one when a cell, a box or an output is added.
use Rattle.std.proofs.Common.{zero, suc, ◌≡◌, ◌≢◌, ℕ, ◌+◌, ◌<◌, ◌≤◌, ◌^◌, ◌⊎◌, false, List, [], ◌∷◌, ◌++◌, length, get_or, set, refl, sym, ◌∙◌, ap, subst, inl, inr, arith, get_or-set_same, get_or-set_other}
use Rattle.std.specs.Prelude.{All, Contains, OnOk, OnErr, Result, Ok, Err}
use Rattle.std.specs.declared.alloc.AllocError.{AllocError}
use Rattle.std.proofs.lemmas.Bool.{cases_lt, cases_eq}
use Rattle.std.proofs.lemmas.List.{take-append-le, length-take, length_push, get_or_push, get_or_append_left, length-set, get_or_past}
use Rattle.std.proofs.lemmas.List.Elements.{All-weaker, All-nil, All-cons, All-same, All-contains}
use Rattle.bb_net.specs.declared.cell.Cell.{Cell}
use Rattle.bb_net.specs.declared.cell.Cell.TheVariants.{Const, Input, Not, And, Or, Xor, Mux, BoxOut}
use Rattle.bb_net.specs.Netlists.{Netlist, Pins, cell_at, box_at, IsPinAt, ReadsBefore, reads_of, ReadsInSteps, IsOrdered, IsNetlist, MayBeAppended, with_pin, with_cell, with_box}
use Rattle.bb_net.proofs.NetLemmas.{length-first_cells}

-- the box of an output pin is there
abbrev pub IsBoxThere : List Pins → Cell → Type 0
IsBoxThere boxes c = (b p : ℕ) → c ≡ BoxOut b p → (b < length boxes) × (p ≡ length (box_at boxes b).outs)

pub IsBoxThere-follow : (net : Netlist) (c : Cell) → MayBeAppended net c → IsBoxThere net.boxes c
IsBoxThere-follow net (Const v) h b p e = cc e
IsBoxThere-follow net (Input v) h b p e = cc e
IsBoxThere-follow net (Not v) h b p e = cc e
IsBoxThere-follow net (And v w) h b p e = cc e
IsBoxThere-follow net (Or v w) h b p e = cc e
IsBoxThere-follow net (Xor v w) h b p e = cc e
IsBoxThere-follow net (Mux v w u) h b p e = cc e
IsBoxThere-follow net (BoxOut v w) h b p e =
    let eb : v ≡ b = cc e in
    let ep : w ≡ p = cc e in
    subst (λ k. (k < length net.boxes) × (p ≡ length (box_at net.boxes k).outs)) eb (h.0, sym ep ∙ h.1)

reads_there : (net : Netlist) (c : Cell) → IsNetlist net → MayBeAppended net c → ReadsBefore net.inputs net.boxes (length net.cells) c
reads_there net (Const v) kept h = h
reads_there net (Input v) kept h = h
reads_there net (Not v) kept h = h
reads_there net (And v w) kept h = h
reads_there net (Or v w) kept h = h
reads_there net (Xor v w) kept h = h
reads_there net (Mux v w u) kept h = h
reads_there net (BoxOut v w) kept h = kept.pins_there v

-- a cell reads the input pins of a box, and not its output pins
ReadsBefore-ins : (inputs : ℕ) (old new : List Pins) (place : ℕ) (c : Cell) → ((k : ℕ) → (box_at new k).ins ≡ (box_at old k).ins) → ReadsBefore inputs old place c → ReadsBefore inputs new place c
ReadsBefore-ins inputs old new place (Const v) same h = h
ReadsBefore-ins inputs old new place (Input v) same h = h
ReadsBefore-ins inputs old new place (Not v) same h = h
ReadsBefore-ins inputs old new place (And v w) same h = h
ReadsBefore-ins inputs old new place (Or v w) same h = h
ReadsBefore-ins inputs old new place (Xor v w) same h = h
ReadsBefore-ins inputs old new place (Mux v w u) same h = h
ReadsBefore-ins inputs old new place (BoxOut v w) same h = All-same (λ pin. pin < place) _ _ (same v) h

length-with_pin : (boxes : List Pins) (n : ℕ) (c : Cell) → length (with_pin boxes n c) ≡ length boxes
length-with_pin boxes n (Const v) = refl
length-with_pin boxes n (Input v) = refl
length-with_pin boxes n (Not v) = refl
length-with_pin boxes n (And v w) = refl
length-with_pin boxes n (Or v w) = refl
length-with_pin boxes n (Xor v w) = refl
length-with_pin boxes n (Mux v w u) = refl
length-with_pin boxes n (BoxOut v w) = length-set boxes v _

-- the box that got the pin
abbrev pinned : List Pins → ℕ → ℕ → Pins
pinned boxes n b = record (box_at boxes b) { outs = (box_at boxes b).outs ++ n ∷ [] }

box_at-pinned : (boxes : List Pins) (n b k : ℕ) → b < length boxes → ((k ≡ b) × (box_at (set boxes b (pinned boxes n b)) k ≡ pinned boxes n b)) ⊎ ((k ≢ b) × (box_at (set boxes b (pinned boxes n b)) k ≡ box_at boxes k))
box_at-pinned boxes n b k lt = elim (cases_eq k b) [
  | inl e ↦ inl (e, subst (λ j. box_at (set boxes b (pinned boxes n b)) j ≡ pinned boxes n b) (sym e) (get_or-set_same boxes b (pinned boxes n b) _ lt))
  | inr ne ↦ inr (ne, get_or-set_other boxes b k (pinned boxes n b) _ ne)
]

ins-with_pin : (boxes : List Pins) (n : ℕ) (c : Cell) → IsBoxThere boxes c → (k : ℕ) → (box_at (with_pin boxes n c) k).ins ≡ (box_at boxes k).ins
ins-with_pin boxes n (Const v) there k = refl
ins-with_pin boxes n (Input v) there k = refl
ins-with_pin boxes n (Not v) there k = refl
ins-with_pin boxes n (And v w) there k = refl
ins-with_pin boxes n (Or v w) there k = refl
ins-with_pin boxes n (Xor v w) there k = refl
ins-with_pin boxes n (Mux v w u) there k = refl
ins-with_pin boxes n (BoxOut v w) there k = elim (box_at-pinned boxes n v k (there v w refl).0) [
  | inl h ↦ ap (λ (q : Pins). q.ins) h.1 ∙ ap (λ j. (box_at boxes j).ins) (sym h.0)
  | inr h ↦ ap (λ (q : Pins). q.ins) h.1
]

-- a pin is an old one or the new one
pin_cases : (boxes : List Pins) (n : ℕ) (c : Cell) → IsBoxThere boxes c → (b p place : ℕ) → IsPinAt (with_pin boxes n c) b p place → IsPinAt boxes b p place ⊎ ((c ≡ BoxOut b p) × (place ≡ n))
pin_cases boxes n (Const v) there b p place h = inl h
pin_cases boxes n (Input v) there b p place h = inl h
pin_cases boxes n (Not v) there b p place h = inl h
pin_cases boxes n (And v w) there b p place h = inl h
pin_cases boxes n (Or v w) there b p place h = inl h
pin_cases boxes n (Xor v w) there b p place h = inl h
pin_cases boxes n (Mux v w u) there b p place h = inl h
pin_cases boxes n (BoxOut v w) there b p place h =
    let outs : List ℕ = (box_at boxes v).outs in
    let wp : w ≡ length outs = (there v w refl).1 in
    elim (box_at-pinned boxes n v b (there v w refl).0) [
      | inl e ↦
          let pin : (p < length (outs ++ n ∷ [])) × (get_or (outs ++ n ∷ []) p 0 ≡ place) = subst (λ (q : Pins). (p < length q.outs) × (get_or q.outs p 0 ≡ place)) e.1 h in
          let len = length_push outs n in
          elim (cases_lt p (length outs)) [
            | inl below ↦ inl (subst (λ j. IsPinAt boxes j p place) (sym e.0) (below, sym (get_or_append_left outs (n ∷ []) 0 p below) ∙ pin.1))
            | inr past ↦
                let last : length outs ≡ p = omega (arith, pin.0, len) in
                let eb : v ≡ b = sym e.0 in
                let ep : w ≡ p = wp ∙ last in
                inr (cc (eb, ep), sym pin.1 ∙ get_or_push outs n 0 p last)
          ]
      | inr e ↦ inl (subst (λ (q : Pins). (p < length q.outs) × (get_or q.outs p 0 ≡ place)) e.1 h)
    ]

pin_stays : (boxes : List Pins) (n : ℕ) (c : Cell) → IsBoxThere boxes c → (b p place : ℕ) → IsPinAt boxes b p place → IsPinAt (with_pin boxes n c) b p place
pin_stays boxes n (Const v) there b p place h = h
pin_stays boxes n (Input v) there b p place h = h
pin_stays boxes n (Not v) there b p place h = h
pin_stays boxes n (And v w) there b p place h = h
pin_stays boxes n (Or v w) there b p place h = h
pin_stays boxes n (Xor v w) there b p place h = h
pin_stays boxes n (Mux v w u) there b p place h = h
pin_stays boxes n (BoxOut v w) there b p place h =
    let outs : List ℕ = (box_at boxes v).outs in
    elim (box_at-pinned boxes n v b (there v w refl).0) [
      | inl e ↦
          let old : (p < length outs) × (get_or outs p 0 ≡ place) = subst (λ j. IsPinAt boxes j p place) e.0 h in
          let len = length_push outs n in
          let below : p < length (outs ++ n ∷ []) = omega (arith, old.0, len) in
          let at : get_or (outs ++ n ∷ []) p 0 ≡ place = get_or_append_left outs (n ∷ []) 0 p old.0 ∙ old.1 in
          subst (λ (q : Pins). (p < length q.outs) × (get_or q.outs p 0 ≡ place)) (sym e.1) (below, at)
      | inr e ↦ subst (λ (q : Pins). (p < length q.outs) × (get_or q.outs p 0 ≡ place)) (sym e.1) h
    ]

new_pin : (boxes : List Pins) (n : ℕ) (b p : ℕ) → b < length boxes → p ≡ length (box_at boxes b).outs → IsPinAt (set boxes b (pinned boxes n b)) b p n
new_pin boxes n b p lt is =
    let outs : List ℕ = (box_at boxes b).outs in
    let len = length_push outs n in
    let below : p < length (outs ++ n ∷ []) = omega (arith, is, len) in
    subst (λ (q : Pins). (p < length q.outs) × (get_or q.outs p 0 ≡ n)) (sym (get_or-set_same boxes b (pinned boxes n b) _ lt)) (below, get_or_push outs n 0 p (sym is))

cell_at-push : (cells : List Cell) (c : Cell) (place : ℕ) → place < length cells → cell_at (cells ++ c ∷ []) place ≡ cell_at cells place
cell_at-push cells c place lt = get_or_append_left cells (c ∷ []) (Const false) place lt

cell_at-last : (cells : List Cell) (c : Cell) (place : ℕ) → length cells ≡ place → cell_at (cells ++ c ∷ []) place ≡ c
cell_at-last cells c place e = get_or_push cells c (Const false) place e

prefix_within : (net : Netlist) → IsNetlist net → net.inputs + 2 ≤ length net.cells
prefix_within net kept =
    let a = ap length kept.prefix in
    let b = length-take (net.inputs + 2) net.cells in
    let d = length-first_cells net.inputs in
    omega (arith, a, b, d)

-- what a cell reads precedes it
pub reads_before : (inputs : ℕ) (boxes : List Pins) (place : ℕ) (c : Cell) → ReadsBefore inputs boxes place c → All (λ k. k < place) (reads_of boxes c)
reads_before inputs boxes place (Const v) h = All-nil (λ k. k < place)
reads_before inputs boxes place (Input v) h = All-nil (λ k. k < place)
reads_before inputs boxes place (Not a) h = All-cons (λ k. k < place) a [] h (All-nil (λ k. k < place))
reads_before inputs boxes place (And a b) h = All-cons (λ k. k < place) a (b ∷ []) h.0 (All-cons (λ k. k < place) b [] h.1 (All-nil (λ k. k < place)))
reads_before inputs boxes place (Or a b) h = All-cons (λ k. k < place) a (b ∷ []) h.0 (All-cons (λ k. k < place) b [] h.1 (All-nil (λ k. k < place)))
reads_before inputs boxes place (Xor a b) h = All-cons (λ k. k < place) a (b ∷ []) h.0 (All-cons (λ k. k < place) b [] h.1 (All-nil (λ k. k < place)))
reads_before inputs boxes place (Mux c t e) h = All-cons (λ k. k < place) c (t ∷ e ∷ []) h.0 (All-cons (λ k. k < place) t (e ∷ []) h.1 (All-cons (λ k. k < place) e [] h.2 (All-nil (λ k. k < place))))
reads_before inputs boxes place (BoxOut b p) h = h

-- where the cells of a netlist read the same places as before, the same places depend on one another
ReadsInSteps-same : (net : Netlist) (cells : List Cell) (boxes : List Pins) → IsOrdered net → ((k : ℕ) → k < length net.cells → reads_of boxes (cell_at cells k) ≡ reads_of net.boxes (cell_at net.cells k)) → (n from to : ℕ) → from < length net.cells → ReadsInSteps n cells boxes from to → ReadsInSteps n net.cells net.boxes from to × (to < length net.cells)
ReadsInSteps-same net cells boxes ordered same zero from to there e = (e, omega (arith, e))
ReadsInSteps-same net cells boxes ordered same (suc n) from to there h =
    let has = subst (λ xs. Contains xs h.0) (same from there) h.1 in
    let below = All-contains (λ k. k < from) _ h.0 (reads_before net.inputs net.boxes from (cell_at net.cells from) (ordered from there)) has in
    let rest = ReadsInSteps-same net cells boxes ordered same n h.0 to (omega arith) h.2 in
    ((h.0, has, rest.0), rest.1)

reads_of-ins : (old new : List Pins) (c : Cell) → ((k : ℕ) → (box_at new k).ins ≡ (box_at old k).ins) → reads_of new c ≡ reads_of old c
reads_of-ins old new (Const v) same = refl
reads_of-ins old new (Input v) same = refl
reads_of-ins old new (Not v) same = refl
reads_of-ins old new (And v w) same = refl
reads_of-ins old new (Or v w) same = refl
reads_of-ins old new (Xor v w) same = refl
reads_of-ins old new (Mux v w u) same = refl
reads_of-ins old new (BoxOut v w) same = same v

reads_of-box : (boxes : List Pins) (q : Pins) (c : Cell) → ((b p : ℕ) → c ≡ BoxOut b p → b < length boxes) → reads_of (boxes ++ q ∷ []) c ≡ reads_of boxes c
reads_of-box boxes q (Const v) there = refl
reads_of-box boxes q (Input v) there = refl
reads_of-box boxes q (Not v) there = refl
reads_of-box boxes q (And v w) there = refl
reads_of-box boxes q (Or v w) there = refl
reads_of-box boxes q (Xor v w) there = refl
reads_of-box boxes q (Mux v w u) there = refl
reads_of-box boxes q (BoxOut v w) there = ap (λ (r : Pins). r.ins) (get_or_append_left boxes (q ∷ []) _ v (there v w refl))

pub IsNetlist-push : (net : Netlist) (c : Cell) → IsNetlist net → length net.cells + 1 < 2 ^ 32 → MayBeAppended net c → IsNetlist (with_cell net c)
IsNetlist-push net c kept room follows =
    let n : ℕ = length net.cells in
    let there = IsBoxThere-follow net c follows in
    let len : length (net.cells ++ c ∷ []) ≡ n + 1 = length_push net.cells c in
    let ins = ins-with_pin net.boxes n c there in
    record {
      prefix = take-append-le (net.inputs + 2) net.cells (c ∷ []) (prefix_within net kept) ∙ kept.prefix;
      ordered = λ place h. elim (cases_lt place n) [
        | inl below ↦ subst (λ d. ReadsBefore net.inputs (with_pin net.boxes n c) place d) (sym (cell_at-push net.cells c place below))
            (ReadsBefore-ins net.inputs net.boxes (with_pin net.boxes n c) place (cell_at net.cells place) ins (kept.ordered place below))
        | inr past ↦
            let last : n ≡ place = omega (arith, h, len, past) in
            subst (λ d. ReadsBefore net.inputs (with_pin net.boxes n c) place d) (sym (cell_at-last net.cells c place last))
            (subst (λ k. ReadsBefore net.inputs (with_pin net.boxes n c) k c) last
            (ReadsBefore-ins net.inputs net.boxes (with_pin net.boxes n c) n c ins (reads_there net c kept follows)))
      ];
      listed = λ place b p h is. elim (cases_lt place n) [
        | inl below ↦ pin_stays net.boxes n c there b p place (kept.listed place b p below (sym (cell_at-push net.cells c place below) ∙ is))
        | inr past ↦
            let last : n ≡ place = omega (arith, h, len, past) in
            let e : c ≡ BoxOut b p = sym (cell_at-last net.cells c place last) ∙ is in
            let q = there b p e in
            subst (λ k. IsPinAt (with_pin net.boxes n c) b p k) last
            (subst (λ d. IsPinAt (with_pin net.boxes n d) b p n) (sym e) (new_pin net.boxes n b p q.0 q.1))
      ];
      driven = λ b p place pin. elim (pin_cases net.boxes n c there b p place pin) [
        | inl old ↦ let d = kept.driven b p place old in (omega (arith, d.0, len), cell_at-push net.cells c place d.0 ∙ d.1)
        | inr new ↦ (omega (arith, new.1, len), cell_at-last net.cells c place (sym new.1) ∙ new.0)
      ];
      boxes_ordered = λ b d p pin place le has dep is.
          let old = subst (λ xs. Contains xs pin) (ins b) has in
          let below = All-contains (λ k. k < n) _ pin (kept.pins_there b) old in
          let same : (k : ℕ) → k < n → reads_of (with_pin net.boxes n c) (cell_at (net.cells ++ c ∷ []) k) ≡ reads_of net.boxes (cell_at net.cells k) = λ k h.
          ap (reads_of (with_pin net.boxes n c)) (cell_at-push net.cells c k h) ∙ reads_of-ins net.boxes (with_pin net.boxes n c) (cell_at net.cells k) ins in
          let leads = ReadsInSteps-same net (net.cells ++ c ∷ []) (with_pin net.boxes n c) kept.ordered same dep.0 pin place below dep.1 in
          kept.boxes_ordered b d p pin place le old (dep.0, leads.0) (sym (cell_at-push net.cells c place leads.1) ∙ is);
      pins_there = λ b. All-same (λ pin. pin < length (net.cells ++ c ∷ [])) _ _ (ins b) (All-weaker (λ pin. pin < n) (λ pin. pin < length (net.cells ++ c ∷ [])) (λ x h. omega (arith, h, len)) _ (kept.pins_there b));
      outs_there = All-weaker (λ pin. pin < n) (λ pin. pin < length (net.cells ++ c ∷ [])) (λ x h. omega (arith, h, len)) net.outs kept.outs_there;
      cells_fit = omega (arith, len);
      boxes_fit = omega (arith, kept.boxes_fit, length-with_pin net.boxes n c);
    }

pub IsNetlist-append : (net : Netlist) (c : Cell) (cells : List Cell) (boxes : List Pins) (r : Result ℕ AllocError) → IsNetlist net → length net.cells + 1 < 2 ^ 32 → MayBeAppended net c
    → OnOk r (cells ≡ net.cells ++ c ∷ []) → OnOk r (boxes ≡ with_pin net.boxes (length net.cells) c) → OnErr r ((cells ≡ net.cells) × (boxes ≡ net.boxes))
    → IsNetlist (record { inputs = net.inputs; cells = cells; boxes = boxes; outs = net.outs })
IsNetlist-append net c cells boxes (Ok v) kept room follows a b d = rw (a, b) (IsNetlist-push net c kept room follows)
IsNetlist-append net c cells boxes (Err v) kept room follows a b d = rw (d.0, d.1) kept

-- the box after the others, and those before it
box_at-push : (boxes : List Pins) (q : Pins) (b : ℕ) → ((b < length boxes) × (box_at (boxes ++ q ∷ []) b ≡ box_at boxes b)) ⊎ (((b ≡ length boxes) × (box_at (boxes ++ q ∷ []) b ≡ q)) ⊎ (box_at (boxes ++ q ∷ []) b ≡ record { ins = []; outs = [] }))
box_at-push boxes q b = elim (cases_lt b (length boxes)) [
  | inl below ↦ inl (below, get_or_append_left boxes (q ∷ []) _ b below)
  | inr past ↦ elim (cases_eq b (length boxes)) [
    | inl e ↦ inr (inl (e, get_or_push boxes q _ b (sym e)))
    | inr ne ↦ inr (inr (get_or_past (boxes ++ q ∷ []) b _ (omega (arith, length_push boxes q))))
  ]
]

box_there : (net : Netlist) → IsNetlist net → (b p place : ℕ) → IsPinAt net.boxes b p place → b < length net.boxes
box_there net kept b p place pin = elim (cases_lt b (length net.boxes)) [
  | inl below ↦ below
  | inr past ↦
      let none : p < 0 = subst (λ (q : Pins). p < length q.outs) (get_or_past net.boxes b _ past) pin.0 in
      absurd (omega (arith, none))
]

ReadsBefore-box : (inputs : ℕ) (boxes : List Pins) (q : Pins) (place : ℕ) (c : Cell) → ((b p : ℕ) → c ≡ BoxOut b p → b < length boxes) → ReadsBefore inputs boxes place c → ReadsBefore inputs (boxes ++ q ∷ []) place c
ReadsBefore-box inputs boxes q place (Const v) there h = h
ReadsBefore-box inputs boxes q place (Input v) there h = h
ReadsBefore-box inputs boxes q place (Not v) there h = h
ReadsBefore-box inputs boxes q place (And v w) there h = h
ReadsBefore-box inputs boxes q place (Or v w) there h = h
ReadsBefore-box inputs boxes q place (Xor v w) there h = h
ReadsBefore-box inputs boxes q place (Mux v w u) there h = h
ReadsBefore-box inputs boxes q place (BoxOut v w) there h =
    All-same (λ pin. pin < place) _ _ (ap (λ (r : Pins). r.ins) (get_or_append_left boxes (q ∷ []) _ v (there v w refl))) h

pub IsNetlist-box : (net : Netlist) (ins : List ℕ) → IsNetlist net → length net.boxes + 1 < 2 ^ 32 → All (λ pin. pin < length net.cells) ins → IsNetlist (with_box net ins)
IsNetlist-box net ins kept room there =
    let q : Pins = record { ins = ins; outs = [] } in
    let n : ℕ = length net.cells in
    record {
      prefix = kept.prefix;
      ordered = λ place h. ReadsBefore-box net.inputs net.boxes q place (cell_at net.cells place)
          (λ b p e. box_there net kept b p place (kept.listed place b p h e)) (kept.ordered place h);
      listed = λ place b p h is.
          let old = kept.listed place b p h is in
          subst (λ (r : Pins). (p < length r.outs) × (get_or r.outs p 0 ≡ place)) (sym (get_or_append_left net.boxes (q ∷ []) _ b (box_there net kept b p place old))) old;
      driven = λ b p place pin. elim (box_at-push net.boxes q b) [
        | inl e ↦ kept.driven b p place (subst (λ (r : Pins). (p < length r.outs) × (get_or r.outs p 0 ≡ place)) e.1 pin)
        | inr e ↦ elim e [
          | inl f ↦ let none : p < 0 = subst (λ (r : Pins). p < length r.outs) f.1 pin.0 in absurd (omega (arith, none))
          | inr f ↦ let none : p < 0 = subst (λ (r : Pins). p < length r.outs) f pin.0 in absurd (omega (arith, none))
        ]
      ];
      boxes_ordered = λ b d p pin place le has dep is.
          let same : (k : ℕ) → k < n → reads_of (net.boxes ++ q ∷ []) (cell_at net.cells k) ≡ reads_of net.boxes (cell_at net.cells k) = λ k h.
          reads_of-box net.boxes q (cell_at net.cells k) (λ e f is'. box_there net kept e f k (kept.listed k e f h is')) in
          elim (box_at-push net.boxes q b) [
            | inl e ↦
                let old = subst (λ (r : Pins). Contains r.ins pin) e.1 has in
                let below = All-contains (λ k. k < n) _ pin (kept.pins_there b) old in
                let leads = ReadsInSteps-same net net.cells (net.boxes ++ q ∷ []) kept.ordered same dep.0 pin place below dep.1 in
                kept.boxes_ordered b d p pin place le old (dep.0, leads.0) is
            | inr e ↦ elim e [
              | inl f ↦
                  let mine = subst (λ (r : Pins). Contains r.ins pin) f.1 has in
                  let below = All-contains (λ k. k < n) _ pin there mine in
                  let leads = ReadsInSteps-same net net.cells (net.boxes ++ q ∷ []) kept.ordered same dep.0 pin place below dep.1 in
                  let d_there = box_there net kept d p place (kept.listed place d p leads.1 is) in
                  absurd (omega (arith, le, d_there, f.0))
              | inr f ↦
                  let none = subst (λ (r : Pins). Contains r.ins pin) f has in
                  let no : none.0 < 0 = none.1 in
                  absurd (omega (arith, no))
            ]
          ];
      pins_there = λ b. elim (box_at-push net.boxes q b) [
        | inl e ↦ All-same (λ pin. pin < n) _ _ (ap (λ (r : Pins). r.ins) e.1) (kept.pins_there b)
        | inr e ↦ elim e [
          | inl f ↦ All-same (λ pin. pin < n) _ _ (ap (λ (r : Pins). r.ins) f.1) there
          | inr f ↦ All-same (λ pin. pin < n) _ _ (ap (λ (r : Pins). r.ins) f) (All-nil (λ pin. pin < n))
        ]
      ];
      outs_there = kept.outs_there;
      cells_fit = kept.cells_fit;
      boxes_fit = omega (arith, length_push net.boxes q);
    }
