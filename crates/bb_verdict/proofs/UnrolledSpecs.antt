-- The specification of a pair can be unrolled, and what is found out about its unrolled netlist is an answer to the texts.
use Rattle.std.proofs.Common.{◌≡◌, ℕ, suc, ◌+◌, ◌*◌, ◌∷◌, ◌++◌, ◌∙◌, Bool, true, false, if◌then◌else◌, List, [], map, length, take, drop, zip, Contains, Option, None, Some, codes, refl, sym, ap, ap₂, subst, inl, inr, arith, length-append, append_assoc}
use Rattle.std.specs.Prelude.{IfSome, slice_get}
use Rattle.std.specs.List.{AllZip, flat_map}
use Rattle.std.proofs.lemmas.List.{length-map}
use Rattle.bb_checks.specs.Reports.{printed_input}
use Rattle.bb_design.specs.Hierarchy.{Design}
use Rattle.bb_design.specs.Inside.Allowed.{IsAllowed}
use Rattle.bb_design.specs.NetBits.{top_inputs}
use Rattle.bb_design.specs.Refusals.{input_texts, register_texts}
use Rattle.bb_design.specs.Registers.{RegisterBit, registers}
use Rattle.bb_design.specs.Texts.{bit_text}
use Rattle.bb_equiv.specs.DesignFit.{DesignsFit}
use Rattle.bb_equiv.specs.Laws.DesignRefusals.{NetsAreTakenAsDesigns, PairsImplementExactlyFitting}
use Rattle.bb_equiv.specs.Laws.Invariants.{AreListedIn, BrokenAreBroken, ImplementsInvariant, KeptAreInvariants}
use Rattle.bb_equiv.specs.Laws.Mistakes.{PairsAreNamed}
use Rattle.bb_equiv.specs.Mistakes.{inputs_of}
use Rattle.bb_equiv.specs.Runs.{Event, States, seen_at}
use Rattle.bb_frontend.specs.TextDesigns.{TextDesignsAreOne}
use Rattle.bb_implements.specs.Implements.{Implements, IsRegister}
use Rattle.bb_match.specs.Pairing.{input_text}
use Rattle.bb_match.specs.Refusals.{Box, Care, Fit, SpecClock}
use Rattle.bb_net.specs.CutPoints.{State, TopInput}
use Rattle.bb_net.specs.declared.flat.Reg.{Reg}
use Rattle.bb_net.specs.Flats.{FlatNet, IsFlat}
use Rattle.bb_net.specs.Netlists.{Pins}
use Rattle.bb_net.specs.Pairs.{BoxTexts, NamesPins}
use Rattle.bb_unroll.specs.Events.{CanBeUnrolled, edge_at}
use Rattle.bb_verdict.specs.declared.pair_texts.Made.{Made}
use Rattle.bb_verdict.specs.declared.requested.TextComparison.{TextComparison}
use Rattle.bb_verdict.specs.Inside.BrokenTexts.{broken_bytes, edges_text}
use Rattle.bb_verdict.specs.Inside.Made.{IsMade}
use Rattle.bb_verdict.specs.Inside.Unrolled.{IsFlatOf, MadeCanBeUnrolled, UnrolledAreMeant}
use Rattle.bb_verdict.specs.InvariantAnswers.{broken_text, edge_text}
use Rattle.bb_verdict.specs.Laws.TextPairs.{DesignsAreAllowed}

-- an invariant is named as the care output
pub care_is : (meant : Bool) (care : Option (List ℕ)) (name : List ℕ) → (if meant then care else None) ≡ Some name → care ≡ Some name
care_is true care name is = is
care_is false care name is = cc is

no_pins : (ts : List BoxTexts) (qs : List Pins) → AllZip NamesPins ts qs → ts ≡ [] → qs ≡ []
no_pins [] [] all e = refl
no_pins [] (q ∷ qs) all e = absurd all
no_pins (t ∷ ts) qs all e = cc e

as_many : (d : Design) (rs : List RegisterBit) (gs : List Reg) → AllZip (IsRegister d) rs gs → length rs ≡ length gs
as_many d [] [] all = refl
as_many d [] (g ∷ gs) all = absurd all
as_many d (r ∷ rs) [] all = absurd all
as_many d (r ∷ rs) (g ∷ gs) all = let rest = as_many d rs gs all.1 in omega (arith, rest)

module _ (allowed : DesignsAreAllowed) (one : TextDesignsAreOne) (fits : PairsImplementExactlyFitting) (requested : TextComparison) (spec imp : List ℕ) (made : Made) (f : FlatNet)
    (m : IsMade requested spec imp made) (flat : IsFlatOf requested spec f) where
  pub spec_allowed : IsAllowed m.s
  spec_allowed = allowed requested.spec_top spec m.s m.designs.spec_design

  imp_allowed : IsAllowed m.i
  imp_allowed = allowed requested.imp_top imp m.i m.designs.imp_design

  -- the netlist is one of the same design
  pub spec_implements : Implements m.s f
  spec_implements = subst (λ d. Implements d f) (one requested.spec_top spec flat.0 m.s flat.1 m.designs.spec_design) flat.2

  pub designs_fit : DesignsFit requested.care m.s m.i
  designs_fit = (fits requested.care requested.options.shared m.s m.i spec_allowed imp_allowed).fit made.pair m.pair

  module _ (taken : NetsAreTakenAsDesigns) (is_flat : IsFlat f) where
    nets_fit : Fit requested.care f m.pair.imp_net
    nets_fit = (taken requested.care m.s m.i f m.pair.imp_net spec_allowed imp_allowed (record { spec_implements = spec_implements; imp_implements = m.pair.imp_implements })).fit.1 designs_fit

    pub unrolls : CanBeUnrolled f
    unrolls = record { is_flat = is_flat; no_box = no_pins f.boxes f.net.boxes is_flat.named.boxes (nets_fit Box); clocked = nets_fit SpecClock }

    pub has_output : (name : List ℕ) → requested.care ≡ Some name → Contains f.outs name
    has_output name is = subst (λ c. IfSome c (Contains f.outs)) is (nets_fit Care)

  inputs_counted : length (inputs_of m.s) ≡ length f.ins + length f.regs
  inputs_counted =
      let a = length-append (map TopInput (input_texts m.s)) (map State (register_texts m.s)) in
      let t = length-map (input_texts m.s) TopInput in
      let r = length-map (register_texts m.s) State in
      let q = length-map (registers m.s) (λ (r : RegisterBit). bit_text m.s r.bit) in
      let n = ap length spec_implements.ins in
      let g = as_many m.s (registers m.s) f.regs spec_implements.regs in
      omega (arith, a, t, r, q, n, g)

  pub width_is : IsFlat f → f.net.inputs + 3 * length f.ins ≡ length (registers m.s) + 4 * length (top_inputs m.s)
  width_is is_flat =
      let n = ap length spec_implements.ins in
      let t = length-map (top_inputs m.s) (bit_text m.s) in
      let g = as_many m.s (registers m.s) f.regs spec_implements.regs in
      omega (arith, n, t, g, is_flat.named.inputs)

  pub names_counted : PairsAreNamed → IsFlat f → length made.pair.ins ≡ f.net.inputs
  names_counted named is_flat =
      ap length (named requested.care requested.options.shared m.s m.i made.pair m.pair).ins ∙ length-map (inputs_of m.s) input_text ∙ inputs_counted ∙ sym is_flat.named.inputs

pub made_can_be_unrolled : DesignsAreAllowed → TextDesignsAreOne → PairsImplementExactlyFitting → NetsAreTakenAsDesigns → PairsAreNamed → MadeCanBeUnrolled
made_can_be_unrolled allowed one fits taken named requested spec imp name made f m is flat is_flat = (
  unrolls allowed one fits requested spec imp made f m flat taken is_flat,
  has_output allowed one fits requested spec imp made f m flat taken is_flat name (care_is requested.invariant requested.care name is),
  names_counted allowed one fits requested spec imp made f m flat named is_flat,
)

-- the report of an event, made of the same pieces
same_text : (p e t : List ℕ)
    → codes "invariant broken\ninput" ++ (p ++ (codes "\nedges" ++ (e ++ (codes "\nthen" ++ (t ++ codes "\nverdict open\n")))))
    ≡ codes "invariant broken\n" ++ ((codes "input" ++ (p ++ codes "\n")) ++ ((codes "edges" ++ (e ++ codes "\n")) ++ ((codes "then" ++ (t ++ codes "\n")) ++ codes "verdict open\n")))
same_text p e t =
    ap (λ l. codes "invariant broken\ninput" ++ l)
    (ap (λ l. p ++ (codes "\nedges" ++ l)) (ap (λ l. e ++ (codes "\nthen" ++ l)) (sym (append_assoc t (codes "\n") (codes "verdict open\n")))
    ∙ sym (append_assoc e (codes "\n") (codes "then" ++ ((t ++ codes "\n") ++ codes "verdict open\n"))))
    ∙ sym (append_assoc p (codes "\n") (codes "edges" ++ ((e ++ codes "\n") ++ (codes "then" ++ ((t ++ codes "\n") ++ codes "verdict open\n"))))))

edges_same : (f : FlatNet) (x : List Bool) (event : Event) (i : ℕ) (names : List (List ℕ))
    → ((j : ℕ) (n : List ℕ) → slice_get names j ≡ Some n → event.edges n ≡ edge_at f x (i + j))
    → edges_text f x i names ≡ flat_map (λ n. edge_text n (event.edges n)) names
edges_same f x event i [] each = refl
edges_same f x event i (n ∷ rest) each =
    ap₂ ◌++◌ (ap (edge_text n) (ap (edge_at f x) {x = i} {y = i + 0} (omega arith) ∙ sym (each 0 n refl)))
    (edges_same f x event (suc i) rest (λ j q at. each (suc j) q at ∙ ap (edge_at f x) {x = i + suc j} {y = suc i + j} (omega arith)))

text_is : (s : Design) (f : FlatNet) (x : List Bool) (names : List (List ℕ)) (states : States) (event next : Event) → names ≡ map input_text (inputs_of s)
    → AreListedIn s f x states event next → broken_bytes f names x ≡ broken_text s states event next
text_is s f x names states event next named listed =
    ap₂ (λ p e. codes "invariant broken\ninput" ++ (p ++ (codes "\nedges" ++ (e ++ (codes "\nthen" ++ (then_of f.ins (take (length f.ins) (drop f.net.inputs x)) ++ codes "\nverdict open\n"))))))
    (ap₂ (λ n b. flat_map printed_input (zip n b)) named listed.present) edges
    ∙ ap₂ (λ n b. codes "invariant broken\ninput" ++ (now ++ (codes "\nedges" ++ (edged ++ (codes "\nthen" ++ (then_of n b ++ codes "\nverdict open\n")))))) listed.ins listed.inputs_after
    ∙ same_text now edged (then_of (input_texts s) (map next.inputs (input_texts s)))
  where
    then_of : List (List ℕ) → List Bool → List ℕ
    then_of n b = flat_map printed_input (zip n b)

    now : List ℕ
    now = flat_map printed_input (zip (map input_text (inputs_of s)) (map (seen_at states event) (inputs_of s)))

    edged : List ℕ
    edged = flat_map (λ n. edge_text n (event.edges n)) (input_texts s)

    edges : edges_text f x 0 f.ins ≡ edged
    edges = edges_same f x event 0 f.ins (λ j n at. listed.edges j n at ∙ ap (edge_at f x) {x = j} {y = 0 + j} (omega arith))
        ∙ ap (flat_map (λ n. edge_text n (event.edges n))) listed.ins

pub unrolled_are_meant : DesignsAreAllowed → TextDesignsAreOne → PairsImplementExactlyFitting → PairsAreNamed → KeptAreInvariants → BrokenAreBroken → UnrolledAreMeant
unrolled_are_meant allowed one fits named keeps breaks requested spec imp name made f k m flat can cell = record {
  kept = λ kept. (m.s, m.designs.spec_design, keeps None name m.s f k None meant kept);
  undecided = λ large. record {
    s = m.s;
    design = m.designs.spec_design;
    f = f;
    implements = spec_implements allowed one fits requested spec imp made f m flat;
    k = k;
    cell = cell;
    large = elim large [
      | inl wide ↦ inl (omega (arith, wide, width_is allowed one fits requested spec imp made f m flat can.is_flat))
      | inr many ↦ inr many
    ];
  };
  broken = λ x broken.
      let (states, event, next, listed, by) = breaks None name m.s f k None x meant broken in
      record {
        s = m.s;
        design = m.designs.spec_design;
        states = states;
        event = event;
        next = next;
        broken = by;
        whole = text_is m.s f x made.pair.ins states event next (named requested.care requested.options.shared m.s m.i made.pair m.pair).ins listed;
      };
}
  where
    meant : ImplementsInvariant None name m.s f k None
    meant = record {
      allowed = spec_allowed allowed one fits requested spec imp made f m flat;
      implements = spec_implements allowed one fits requested spec imp made f m flat;
      can = can;
      cell = cell;
      care_cell = tt;
    }
