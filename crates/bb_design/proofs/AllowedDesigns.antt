-- What holds of a design that is not refused, of a well-formed text without faults.
use Rattle.std.proofs.Common.{sym, ◌∙◌, ◌≡◌, ◌⊎◌, ℕ, ◌+◌, ◌≤◌, Bool, true, false, if◌then◌else◌, List, [], ◌∷◌, flat_map, length, All, Contains, Option, Some, None, refl, subst, inl, inr, arith, length-drop, map, ap}
use Rattle.std.specs.List.{enumerate_from}
use Rattle.std.proofs.lemmas.List.Elements.{All-contains}
use Rattle.bb_ast.specs.declared.module.Gate.{Gate}
use Rattle.bb_ast.specs.declared.module.Gate.TheVariants as gates
use Rattle.bb_ast.specs.Inside.Formed.{IsFormed, IsFormedBody, IsFormedGate}
use Rattle.bb_ast.specs.Gates.{output_count}
use Rattle.bb_ast.specs.Syntax.{Expression, Net, PlainConns, Order, Named, PlainBody, Ports, Nets, Regs, Supply, Assign, Gates, Calls, Always, PlainItem, PlainModule}
use Rattle.bb_names.specs.Faults.{is_input}
use Rattle.bb_names.specs.Sites.{Pin, module_named}
use Rattle.bb_bits.specs.Contents.{Contents, HasShape}
use Rattle.bb_design.specs.Hierarchy.{Design, Scope, scopes, is_box, boxes, top_of}
use Rattle.bb_design.specs.NetBits.{input_bits, output_bits}
use Rattle.bb_design.specs.Contexts.{width_of}
use Rattle.bb_design.specs.Constructs.{Construct, Assignment, GateInstance, Register, SupplyNet, InputConnection, OutputConnection, BoxContents, initial_construct, gate_construct, connection, connections, body_constructs, constructs_at, parts}
use Rattle.bb_design.specs.Refusals.{Depth, Size, IsSoundDesign, design_on}
use Rattle.bb_design.specs.Laws.DrivenWorlds.{IsLegal}
use Rattle.bb_design.specs.Laws.{BitsAreThere, ScopesAreEnds}
use Rattle.bb_design.specs.Inside.Allowed.{IsBounded, SoundTextsAreAllowed}
use Rattle.bb_design.specs.Texts.{path_text}
use Rattle.bb_design.specs.Worlds.{FitDesign}
use Rattle.bb_lemmas.proofs.Members.{all_from, from_flat, from_map, contains_cases, none_in_nil, keeps, each_of}
use Rattle.bb_design.specs.Laws.Wired.{IsWired}
use Rattle.bb_design.proofs.ScopeLaws.{paths_lead_to_scopes}
use Rattle.bb_design.proofs.SoundBits.{nets_there, sound_bits_are_there}
use Rattle.bb_design.proofs.SoundConstructs.{sound_constructs_are_legal}
use Rattle.bb_design.proofs.SoundNames.{sound_texts_have_names_apart}
use Rattle.bb_design.proofs.SoundSites.{source_there}
use Rattle.bb_design.proofs.NamedTops.{tops_are_meant}
use Rattle.std.proofs.lemmas.Option.{same_Some}

-- a part is a construct of its scope
pub part_of : (d : Design) (s : Scope) (c : Construct) → Contains (parts d) (s, c) → Contains (scopes d) s × Contains (constructs_at d.text s) c
part_of d s c has =
    let z = from_flat (λ s. map (λ c. (s, c)) (constructs_at d.text s)) (scopes d) (s, c) has in
    let y = from_map {B = Scope × Construct} (λ c. (z.0, c)) (constructs_at d.text z.0) (s, c) z.2 in
    let scope : z.0 ≡ s = ap (λ (u : Scope × Construct). u.0) y.2 in
    let same : y.0 ≡ c = ap (λ (u : Scope × Construct). u.1) y.2 in
    (subst (Contains (scopes d)) scope z.1, subst (λ u. Contains (constructs_at d.text u) c) scope (subst (Contains (constructs_at d.text z.0)) same y.1))

-- what is in an item: no contents of a box, and gates that have inputs
HasInputs : Construct → Type 0
HasInputs (GateInstance gate outs ins) = 1 ≤ length ins
HasInputs (Assignment left right) = Unit {0}
HasInputs (Register r) = Unit {0}
HasInputs (SupplyNet high n) = Unit {0}
HasInputs (InputConnection i pin e) = Unit {0}
HasInputs (OutputConnection i pin e) = Unit {0}
HasInputs BoxContents = ⊥

gate_inputs : (gate : Gate) (terms : List Expression) → 2 ≤ length terms → HasInputs (gate_construct gate terms)
unfolding HasInputs
gate_inputs gate terms two = omega (arith, length-drop (output_count gate (length terms)) terms, outputs gate)
  where
    outputs : (g : Gate) → output_count g (length terms) + 1 ≤ length terms
    outputs gates.And = omega (arith, two)
    outputs gates.Nand = omega (arith, two)
    outputs gates.Or = omega (arith, two)
    outputs gates.Nor = omega (arith, two)
    outputs gates.Xor = omega (arith, two)
    outputs gates.Xnor = omega (arith, two)
    outputs gates.Buf = omega (arith, two)
    outputs gates.Not = omega (arith, two)

connection_inputs : (i : List ℕ) (pin : Option Pin) (e : Option Expression) (c : Construct) → Contains (connection i pin e) c → HasInputs c
unfolding HasInputs
connection_inputs i None e c has = absurd (none_in_nil c has)
connection_inputs i (Some pin) None c has = absurd (none_in_nil c has)
connection_inputs i (Some pin) (Some e) c has = by (contains_cases (if is_input pin.dir then InputConnection i pin e else OutputConnection i pin e) [] c has)
  where
    side : (b : Bool) → HasInputs (if b then InputConnection i pin e else OutputConnection i pin e)
    side true = tt
    side false = tt

    by : ((if is_input pin.dir then InputConnection i pin e else OutputConnection i pin e) ≡ c) ⊎ Contains [] c → HasInputs c
    by (inl e) = subst HasInputs e (side (is_input pin.dir))
    by (inr none) = absurd (none_in_nil c none)

connections_inputs : (target : Option PlainModule) (x : List ℕ × PlainConns) (c : Construct) → Contains (connections target x) c → HasInputs c
connections_inputs target (i, Order places) c has = let y = from_flat _ (enumerate_from 0 places) c has in connection_inputs i _ y.0.1 c y.2
connections_inputs target (i, Named all) c has = let y = from_flat _ all c has in connection_inputs i _ y.0.1 c y.2

initial_inputs : (x : List ℕ × Option Expression) (c : Construct) → Contains (initial_construct x) c → HasInputs c
unfolding HasInputs
initial_inputs (n, None) c has = absurd (none_in_nil c has)
initial_inputs (n, Some e) c has = by (contains_cases (Assignment (Net n) e) [] c has)
  where
    by : (Assignment (Net n) e ≡ c) ⊎ Contains [] c → HasInputs c
    by (inl e) = subst HasInputs e tt
    by (inr none) = absurd (none_in_nil c none)

body_inputs : (text : List PlainModule) (body : PlainBody) → IsFormedBody body → (c : Construct) → Contains (body_constructs text body) c → HasInputs c
unfolding HasInputs
body_inputs text (Ports port names) formed c has = absurd (none_in_nil c has)
body_inputs text (Nets range nets) formed c has = let y = from_flat initial_construct nets c has in initial_inputs y.0 c y.2
body_inputs text (Regs range names) formed c has = absurd (none_in_nil c has)
body_inputs text (Supply high range names) formed c has = let y = from_map (SupplyNet high) names c has in subst HasInputs y.2 tt
body_inputs text (Assign all) formed c has = let y = from_map (λ x. Assignment x.0 x.1) all c has in subst HasInputs y.2 tt
body_inputs text (Gates gate all) formed c has =
    let y = from_map (λ x. gate_construct gate x.1) all c has in
    subst HasInputs y.2 (gate_inputs gate y.0.1 (each_of IsFormedGate all formed.1 y.0 y.1).1)
body_inputs text (Calls target calls) formed c has = let y = from_flat (connections (module_named text target)) calls c has in connections_inputs (module_named text target) y.0 c y.2
body_inputs text (Always r) formed c has = by (contains_cases (Register r) [] c has)
  where
    by : (Register r ≡ c) ⊎ Contains [] c → HasInputs c
    by (inl e) = subst HasInputs e tt
    by (inr none) = absurd (none_in_nil c none)

module _ (d : Design) (bounded : IsBounded d) where
  inputs_there : (s : Scope) (c : Construct) → Contains (parts d) (s, c) → is_box s ≡ false → HasInputs c
  inputs_there s c has plain =
      let p = part_of d s c has in
      let h = subst (λ b. Contains (if b then BoxContents ∷ [] else flat_map (λ item. body_constructs d.text item.body) s.source.items) c) plain p.1 in
      let item = from_flat (λ (item : PlainItem). body_constructs d.text item.body) s.source.items c h in
      let formed = each_of IsFormed d.text bounded.formed s.source (source_there d s bounded.top p.0) in
      body_inputs d.text item.0.body (each_of (λ (item : PlainItem). IsFormedBody item.body) s.source.items formed.2 item.0 item.1) c item.2

  no_contents : Contents
  no_contents path = []

  not_box : (s : Scope) (c : Construct) → (BoxContents ≡ c → ⊥) → Contains (constructs_at d.text s) c → is_box s ≡ false
  not_box s c other has = by (is_box s) refl has
    where
      box : (BoxContents ≡ c) ⊎ Contains [] c → ⊥
      box (inl e) = other e
      box (inr none) = none_in_nil c none

      by : (b : Bool) → is_box s ≡ b → Contains (if b then BoxContents ∷ [] else flat_map (λ item. body_constructs d.text item.body) s.source.items) c → is_box s ≡ false
      by true e h = absurd (box (contains_cases BoxContents [] c h))
      by false e h = e

  gates_there : (s : Scope) (gate : Gate) (outs ins : List Expression) → Contains (parts d) (s, GateInstance gate outs ins) → (1 ≤ length ins) × All (λ e. width_of s e ≡ 1) ins
  unfolding HasInputs
  gates_there s gate outs ins has =
      let p = part_of d s (GateInstance gate outs ins) has in
      let plain = not_box s (GateInstance gate outs ins) (λ e. box_is_gate e) p.1 in
      let legal = sound_constructs_are_legal d.text no_contents s bounded.faultless (source_there d s bounded.top p.0) plain in
      (inputs_there s (GateInstance gate outs ins) has plain, (All-contains (IsLegal no_contents s) (constructs_at d.text s) (GateInstance gate outs ins) legal p.1).1)
    where
      box_is_gate : BoxContents ≡ GateInstance gate outs ins → ⊥
      box_is_gate e = grind (arith, e)

  boxes_there : (s : Scope) → Contains (parts d) (s, BoxContents) → Contains (boxes d) s
  unfolding HasInputs
  boxes_there s has = by (is_box s) refl
    where
      by : (b : Bool) → is_box s ≡ b → Contains (boxes d) s
      by true e = keeps is_box (scopes d) s (part_of d s BoxContents has).0 e
      by false e = absurd (inputs_there s BoxContents has e)

  pub wired : IsWired d
  wired = record {
    pins = λ s i pin e has. let p = part_of d s (OutputConnection i pin e) has in (nets_there d.text d.top bounded.faultless bounded.top bounded.shallow s p.0 (OutputConnection i pin e) p.1).1;
    gates = gates_there;
    boxed = boxes_there;
  }

  pub ends : ScopesAreEnds d
  ends = paths_lead_to_scopes d bounded.top (sound_texts_have_names_apart d.text bounded.faultless)

  pub bits_there : BitsAreThere d
  bits_there = sound_bits_are_there d.text d.top bounded.faultless bounded.top bounded.shallow

  -- every construct is legal, where the contents fit
  pub legal : (contents : Contents) → FitDesign d contents → All (λ x. IsLegal contents x.0 x.1) (parts d)
  legal contents fit = all_from (λ (x : Scope × Construct). IsLegal contents x.0 x.1) (parts d) (λ x has. one x.0 x.1 has)
    where
      one : (s : Scope) (c : Construct) → Contains (parts d) (s, c) → IsLegal contents s c
      one s c has = by (is_box s) refl
        where
          box : is_box s ≡ true → (BoxContents ≡ c) ⊎ Contains [] c → IsLegal contents s c
          box e (inl same) = subst (IsLegal contents s) same (All-contains (λ s. HasShape (length (input_bits s)) (length (output_bits s)) (contents (path_text s.path))) (boxes d) s fit (keeps is_box (scopes d) s (part_of d s c has).0 e))
          box e (inr none) = absurd (none_in_nil c none)

          by : (b : Bool) → is_box s ≡ b → IsLegal contents s c
          by true e = box e (contains_cases BoxContents [] c (subst (λ b. Contains (if b then BoxContents ∷ [] else flat_map (λ item. body_constructs d.text item.body) s.source.items) c) e (part_of d s c has).1))
          by false e = All-contains (IsLegal contents s) (constructs_at d.text s) c (sound_constructs_are_legal d.text contents s bounded.faultless (source_there d s bounded.top (part_of d s c has).0) e) (part_of d s c has).1

pub sound_texts_are_allowed : SoundTextsAreAllowed
sound_texts_are_allowed text name top formed faultless sound named = record {
  bounded = record { formed = formed; faultless = faultless; top = meant name named; shallow = whole Depth; small = whole Size };
  sound = whole;
}
  where
    meant : (name : Option (List ℕ)) → top_of text name ≡ Some top → Contains text top
    meant None e = (tops_are_meant text None top e).there
    meant (Some n) e = (tops_are_meant text (Some n) top e).there

    whole : IsSoundDesign (design_on text top)
    whole = subst (λ t. IsSoundDesign (design_on text t)) (same_Some sound.0 top (sym sound.1 ∙ named)) sound.2
