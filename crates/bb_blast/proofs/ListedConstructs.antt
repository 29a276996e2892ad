-- Each part of a module puts after others what its construct has to have there.
use Rattle.std.proofs.Common.{◌≡◌, ℕ, zero, suc, ◌+◌, ◌-◌, ◌≤◌, Bool, List, [], ◌∷◌, ◌++◌, map, flat_map, length, All, Some, refl, sym, ap, ap₂, ◌∙◌, subst, arith, length-append, append_assoc, append-nil}
use Rattle.std.specs.Prelude.{slice_get}
use Rattle.std.specs.List.{AllZip, enumerate_from, range_with_len}
use Rattle.std.proofs.lemmas.List.{length-map, map-append}
use Rattle.std.proofs.lemmas.List.Elements.{All-nil, All-cons}
use Rattle.std.proofs.lemmas.Slice.Zip.{AllZip-long}
use Rattle.bb_ast.specs.declared.module.Gate.{Gate}
use Rattle.bb_ast.specs.Syntax.{Expression}
use Rattle.bb_names.specs.Declarations.{range_of}
use Rattle.bb_names.specs.Nets.{nets_of}
use Rattle.bb_names.specs.Sites.{Pin}
use Rattle.bb_expr.specs.declared.step.Lowered.{Lowered}
use Rattle.bb_expr.specs.Lowered.{IsLowered}
use Rattle.bb_net.specs.declared.loose.LooseCell.{LooseCell}
use Rattle.bb_blast.specs.declared.template.Part.TheVariants as part
use Rattle.bb_design.specs.Hierarchy.{Design, Scope, path_to}
use Rattle.bb_design.specs.NetBits.{Bit, scope_bits, bits_named, pin_bits, written_bits}
use Rattle.bb_design.specs.Contexts.{width_of, context_width}
use Rattle.bb_bits.specs.Bits.{low_bits}
use Rattle.bb_design.specs.Constructs.{Construct, Assignment, GateInstance, Register, SupplyNet, InputConnection, OutputConnection}
use Rattle.bb_blast.specs.Inside.Counting.{after}
use Rattle.bb_blast.specs.Inside.Listing.{Site, CellList, Terminals, gate_on, given_all}
use Rattle.bb_blast.specs.Inside.Logic.{constant_place}
use Rattle.bb_blast.specs.Inside.ModuleTemplates.{IsMadeIn, IsPinIn}
use Rattle.bb_implements.specs.Places.{Constant, NetBit, Step, Numbering, Lowering, Steps, step_places, terminal_place, gate_place, joining_places, inverting_place, places_at, AreSteps}
use Rattle.bb_blast.proofs.BitNumbers.{bit_number, IsSiteOf}
use Rattle.bb_blast.proofs.ListedGates.{GateFits, gate_fits}
use Rattle.bb_blast.proofs.CappedNumbers.{after_first, after_second}
use Rattle.bb_blast.proofs.ListedParts.{lowereds, are_long, Puts, beside_is, all_is, net_place_is, AreLoweredAt, own_bits, inner_bits, one_lowered, one_cells, one_row, one_steps, one_places, low_places}
use Rattle.bb_blast.proofs.ListedSteps.{TerminalsFit, terminals_fit, steps_from, AllOccurWell}
use Rattle.bb_blast.proofs.PlacesInRow.{Entry, AreInRow, both_rows, no_row, cells_in, map-same}
use Rattle.bb_lemmas.proofs.Maps.{map-twice}
use Rattle.bb_blast.proofs.WholeParts.{Whole, Assigned, Clocked, Gated, Connected, Other, with_whole, step_terminals, HasInputs, IsWholeOf}

zipped_left : {A B : Type 0} (R : A → B → Type 0) (xs : List A) (ys : List B) → AllZip R xs ys → (k : ℕ) (x : A) → slice_get xs k ≡ Some x → (y : B) × R x y
zipped_left R [] [] all k x e = absurd (grind (arith, e))
zipped_left R [] (z ∷ ys) all k x e = absurd all
zipped_left R (u ∷ xs) [] all k x e = absurd all
zipped_left R (u ∷ xs) (z ∷ ys) all zero x e = let same : u ≡ x = grind (arith, e) in (z, subst (λ v. R v z) same all.0)
zipped_left R (u ∷ xs) (z ∷ ys) all (suc k) x e = zipped_left R xs ys all.1 k x e

module _ (d : Design) (lowering : Lowering) (number : Numbering) (nets start : ℕ) (constants : (b : Bool) → number (Constant b) ≡ constant_place b) (net_places : (b : Bit) → number (NetBit b) ≡ after nets (bit_number d b))
    (k : ℕ) (s : Scope) (site : Site) (is_site : IsSiteOf d s site) (a : CellList) where
  abbrev AreAtHere : List Lowered → Type 0
  AreAtHere ls = AreLoweredAt d lowering number nets start constants net_places k s site is_site a ls

  -- the inputs of a gate are lowered
  gate_lowered : (i : ℕ) (ls : List Lowered) (es : List Expression) → AllZip (λ l e. IsMadeIn s.source l e (λ s. width_of s e)) ls es
      → ((x : ℕ) (l : Lowered) → slice_get ls x ≡ Some l → lowering k (i + x) ≡ record { all = l.steps.items; bits = l.bits.items })
      → All (λ (x : ℕ × (Expression × ℕ)). IsLowered (nets_of s.source) (range_of s.source) x.1.0 x.1.1 (lowering k x.0).all (lowering k x.0).bits) (enumerate_from i (map (λ e. (e, width_of s e)) es))
  gate_lowered i [] [] all is = All-nil _
  gate_lowered i [] (e ∷ es) all is = absurd all
  gate_lowered i (l ∷ ls) [] all is = absurd all
  gate_lowered i (l ∷ ls) (e ∷ es) all is =
      All-cons (λ (x : ℕ × (Expression × ℕ)). IsLowered (nets_of s.source) (range_of s.source) x.1.0 x.1.1 (lowering k x.0).all (lowering k x.0).bits) (i, (e, width_of s e)) (enumerate_from (i + 1) (map (λ e. (e, width_of s e)) es))
      (subst (λ (z : Steps). IsLowered (nets_of s.source) (range_of s.source) e (width_of s e) z.all z.bits) (sym (ap (lowering k) (omega arith) ∙ is 0 l refl)) all.0)
      (gate_lowered (i + 1) ls es all.1 (λ x m f. ap (lowering k) (omega arith) ∙ is (suc x) m f))

  module _ (gate : Gate) (ins : List Lowered) (es : List Expression) (made : AllZip (λ l e. IsMadeIn s.source l e (λ s. width_of s e)) ins es) (at : AreAtHere ins) (some : 1 ≤ length es) where
    counted : length ins ≡ suc (length ins - 1)
    counted = omega (arith, some, AllZip-long (λ l e. IsMadeIn s.source l e (λ s. width_of s e)) ins es made)

    abbrev terminals : Terminals
    terminals = step_terminals start (after nets site.first) site.starts a.cells ins

    terminals_are : TerminalsFit lowering number k s start (after nets site.first) site.starts constants (net_place_is d lowering number nets start constants net_places k s site is_site a) (record { cells = a.cells; places = [] }) terminals 0 (length ins)
    terminals_are = terminals_fit lowering number k s start (after nets site.first) site.starts constants (net_place_is d lowering number nets start constants net_places k s site is_site a) ins 0 (record { cells = a.cells; places = [] })
        (λ i l e. record {
          is = ap (lowering k) (omega arith) ∙ at.is i l e;
          occurs = λ j. ap (λ x. number (Step k x j)) (omega arith) ∙ at.occurs i l e j;
          earlier = (zipped_left (λ l e. IsMadeIn s.source l e (λ s. width_of s e)) ins es made i l e).1.earlier;
        })

    pub gate_is : GateFits lowering number k gate start terminals.cells (gate_on start gate (step_terminals start (after nets site.first) site.starts a.cells ins)) (joining_places lowering number k gate (suc (length ins - 1)) ++ inverting_place lowering number k gate (suc (length ins - 1))) (gate_place lowering gate k (suc (length ins - 1)))
    gate_is = gate_fits lowering number k gate start (length ins - 1) terminals.cells terminals.places (terminals_are.places ∙ ap (λ n. map (λ x. number (terminal_place lowering k x)) (range_with_len 0 n)) counted)
        at.joins at.inverts

    abbrev gate_entries : List Entry
    gate_entries = joining_places lowering number k gate (suc (length ins - 1)) ++ inverting_place lowering number k gate (suc (length ins - 1))

    abbrev gate_steps : List Entry
    gate_steps = steps_from lowering number k s start (after nets site.first) site.starts constants (net_place_is d lowering number nets start constants net_places k s site is_site a) 0 (length ins)

    gate_cells_are : (gate_on start gate (step_terminals start (after nets site.first) site.starts a.cells ins)).cells ≡ a.cells ++ cells_in (gate_steps ++ gate_entries)
    gate_cells_are = gate_is.cells ∙ ap (λ c. c ++ cells_in gate_entries) terminals_are.cells ∙ append_assoc a.cells (cells_in gate_steps) (cells_in gate_entries) ∙ ap (λ c. a.cells ++ c) (sym (map-append (λ (e : Entry). e.1) gate_steps gate_entries))

    gate_row : AreInRow number (start + length a.cells) (gate_steps ++ gate_entries)
    gate_row =
        let long : length terminals.cells ≡ length a.cells + length gate_steps = ap length terminals_are.cells ∙ length-append a.cells (cells_in gate_steps) ∙ ap (λ n. length a.cells + n) (length-map {B = LooseCell} gate_steps (λ (e : Entry). e.1)) in
        both_rows number (start + length a.cells) gate_steps gate_entries terminals_are.row (subst (λ n. AreInRow number n gate_entries) (omega (arith, long)) gate_is.row)

    gate_steps_are : (outs : List Expression) → AreSteps lowering number (k, (s, GateInstance gate outs es))
    gate_steps_are outs =
        let same : length ins ≡ length es = sym (AllZip-long (λ l e. IsMadeIn s.source l e (λ s. width_of s e)) ins es made) in
        subst (λ n. All (AllOccurWell lowering number k s start (after nets site.first) site.starts constants (net_place_is d lowering number nets start constants net_places k s site is_site a)) (range_with_len 0 n))
        (same ∙ sym (length-map {B = Expression × ℕ} es (λ e. (e, width_of s e)))) terminals_are.steps

    gate_places_are : (outs : List Expression) → gate_steps ++ gate_entries ≡ places_at lowering number (k, (s, GateInstance gate outs es))
    gate_places_are outs =
        let same : length ins ≡ length es = sym (AllZip-long (λ l e. IsMadeIn s.source l e (λ s. width_of s e)) ins es made) in
        ap₂ (λ (n m : ℕ). steps_from lowering number k s start (after nets site.first) site.starts constants (net_place_is d lowering number nets start constants net_places k s site is_site a) 0 n ++ (joining_places lowering number k gate m ++ inverting_place lowering number k gate m))
        (same ∙ sym (length-map {B = Expression × ℕ} es (λ e. (e, width_of s e)))) (sym counted ∙ same)

    gate_place_is : (gate_on start gate (step_terminals start (after nets site.first) site.starts a.cells ins)).place ≡ number (gate_place lowering gate k (length es))
    gate_place_is = gate_is.place ∙ ap (λ n. number (gate_place lowering gate k n)) (sym counted ∙ sym (AllZip-long (λ l e. IsMadeIn s.source l e (λ s. width_of s e)) ins es made))

  abbrev Here : Whole → Construct → Type 0
  Here q c = Puts d lowering number nets start (k, (s, c)) a (with_whole nets start site a q)

  -- the places of the bits of a port
  pin_places : (instance : ℕ) (numbers : List ℕ) (i : List ℕ) (port : Pin) → IsPinIn d.text s.source instance numbers i port
      → map number (map NetBit (pin_bits (path_to s.path i) port)) ≡ map (after (after nets (site.inner instance))) numbers
  pin_places instance numbers i port is =
      map-twice NetBit number (pin_bits (path_to s.path i) port) ∙ map-same (λ b. number (NetBit b)) (λ b. after nets (bit_number d b)) net_places (pin_bits (path_to s.path i) port)
      ∙ sym (map-twice (bit_number d) (after nets) (pin_bits (path_to s.path i) port))
      ∙ ap (map (after nets)) (inner_bits d lowering number nets start constants net_places k s site is_site a instance numbers i port is)
      ∙ map-twice (after (site.inner instance)) (after nets) numbers
      ∙ map-same (λ j. after nets (after (site.inner instance) j)) (after (after nets (site.inner instance))) (λ j. after_second nets (site.inner instance) j ∙ sym (after_first nets (site.inner instance) j)) numbers

  pub part_puts : (q : Whole) (c : Construct) → IsWholeOf d.text s.source q c → AreAtHere (lowereds q) → HasInputs s.source c → Here q c
  part_puts (Assigned left right) (Assignment l r) is at some = record {
    cells = one_cells d lowering number nets start constants net_places k s site is_site a right at r (context_width s l r) is.1;
    row = one_row d lowering number nets start constants net_places k s site is_site a right at r (context_width s l r) is.1;
    sources = ap (given_all a.sources) (sym (beside_is d lowering number nets start (written_bits s l) (low_bits (length (written_bits s l)) (step_places lowering k 0)) site.first left _
        (own_bits d lowering number nets start constants net_places k s site is_site a left (λ s. written_bits s l) is.0)
        (low_places d lowering number nets start constants net_places k s site is_site a right at r (context_width s l r) is.1 (length (written_bits s l)) (length left) (sym (are_long (scope_bits s) left (written_bits s l) (is.0 s.path))))));
    next = refl;
    lowered = one_lowered d lowering number nets start constants net_places k s site is_site a right at r (context_width s l r) is.1;
    steps = one_steps d lowering number nets start constants net_places k s site is_site a right at r (context_width s l r) is.1;
  }
  part_puts (Gated gate outs ins) (GateInstance g os es) is at some =
      subst (λ (z : Gate). Puts d lowering number nets start (k, (s, GateInstance z os es)) a (with_whole nets start site a (Gated gate outs ins))) is.0 (record {
        cells = gate_cells_are gate ins es is.2 at some.0 ∙ ap (λ l. a.cells ++ cells_in l) (gate_places_are gate ins es is.2 at some.0 os);
        row = subst (AreInRow number (start + length a.cells)) (gate_places_are gate ins es is.2 at some.0 os) (gate_row gate ins es is.2 at some.0);
        sources = ap (given_all a.sources) (sym (all_is d lowering number nets start (flat_map (written_bits s) os) (gate_place lowering gate k (length es)) site.first outs (gate_on start gate (step_terminals start (after nets site.first) site.starts a.cells ins)).place
            (own_bits d lowering number nets start constants net_places k s site is_site a outs (λ s. flat_map (written_bits s) os) is.1) (gate_place_is gate ins es is.2 at some.0)));
        next = refl;
        lowered = gate_lowered 0 ins es is.2 (λ x l e. ap (lowering k) (omega arith) ∙ at.is x l e);
        steps = gate_steps_are gate ins es is.2 at some.0 os;
      })
  part_puts (Clocked left right) (Register r) is at some = record {
    cells = one_cells d lowering number nets start constants net_places k s site is_site a right at r.right (context_width s r.left r.right) is.1;
    row = one_row d lowering number nets start constants net_places k s site is_site a right at r.right (context_width s r.left r.right) is.1;
    sources = refl;
    next = ap (given_all a.next) (sym (beside_is d lowering number nets start (written_bits s r.left) (low_bits (length (written_bits s r.left)) (step_places lowering k 0)) site.first left _
        (own_bits d lowering number nets start constants net_places k s site is_site a left (λ s. written_bits s r.left) is.0)
        (low_places d lowering number nets start constants net_places k s site is_site a right at r.right (context_width s r.left r.right) is.1 (length (written_bits s r.left)) (length left) (sym (are_long (scope_bits s) left (written_bits s r.left) (is.0 s.path))))));
    lowered = one_lowered d lowering number nets start constants net_places k s site is_site a right at r.right (context_width s r.left r.right) is.1;
    steps = one_steps d lowering number nets start constants net_places k s site is_site a right at r.right (context_width s r.left r.right) is.1;
  }
  part_puts (Other (part.Supply high bits)) (SupplyNet h n) is at some = record {
    cells = sym (append-nil a.cells);
    row = no_row number (start + length a.cells);
    sources = ap (given_all a.sources) (sym (all_is d lowering number nets start (bits_named s n) (Constant h) site.first bits.items (constant_place high)
        (own_bits d lowering number nets start constants net_places k s site is_site a bits.items (λ s. bits_named s n) is.1) (ap constant_place is.0 ∙ sym (constants h))));
    next = refl;
    lowered = All-nil _;
    steps = All-nil _;
  }
  part_puts (Connected instance pin value) (InputConnection i port e) is at some = record {
    cells = one_cells d lowering number nets start constants net_places k s site is_site a value at e (width_of s e) is.1;
    row = one_row d lowering number nets start constants net_places k s site is_site a value at e (width_of s e) is.1;
    sources = ap (given_all a.sources) (sym (beside_is d lowering number nets start (pin_bits (path_to s.path i) port) (step_places lowering k 0) (site.inner instance) pin _
        (inner_bits d lowering number nets start constants net_places k s site is_site a instance pin i port is.0) (one_places d lowering number nets start constants net_places k s site is_site a value at e (width_of s e) is.1)));
    next = refl;
    lowered = one_lowered d lowering number nets start constants net_places k s site is_site a value at e (width_of s e) is.1;
    steps = one_steps d lowering number nets start constants net_places k s site is_site a value at e (width_of s e) is.1;
  }
  part_puts (Other (part.Output instance pin left)) (OutputConnection i port e) is at some = record {
    cells = sym (append-nil a.cells);
    row = no_row number (start + length a.cells);
    sources = ap (given_all a.sources) (sym (beside_is d lowering number nets start (written_bits s e) (map NetBit (pin_bits (path_to s.path i) port)) site.first left.items _
        (own_bits d lowering number nets start constants net_places k s site is_site a left.items (λ s. written_bits s e) is.1) (pin_places instance pin.items i port is.0)));
    next = refl;
    lowered = All-nil _;
    steps = All-nil _;
  }
  part_puts q c is at some = absurd is
