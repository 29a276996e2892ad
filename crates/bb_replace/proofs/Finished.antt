-- Modules for all boxes that compute contents which make designs equivalent finish the design.
use Rattle.std.proofs.Common.{◌≡◌, ℕ, Bool, false, List, [], ◌∷◌, ◌++◌, map, filter, All, Contains, Option, None, refl, sym, ap, ap₂, ◌∙◌, subst, arith}
use Rattle.std.proofs.lemmas.List.Elements.{All-contains}
use Rattle.bb_ast.specs.Syntax.{PlainModule}
use Rattle.bb_bits.specs.Contents.{Contents}
use Rattle.bb_names.specs.Nets.{is_empty}
use Rattle.bb_lemmas.proofs.Members.{all_from, none_in_nil}
use Rattle.bb_net.specs.CutPoints.{CutOutput, NextState, TopOutput}
use Rattle.bb_design.specs.Constructs.{Assignment, BoxContents, Construct, GateInstance, InputConnection, OutputConnection, Register, SupplyNet, constructs_at, parts}
use Rattle.bb_design.specs.Hierarchy.{Design, Scope, boxes}
use Rattle.bb_design.specs.Inside.Allowed.{IsAllowed}
use Rattle.bb_design.specs.Laws.DesignLaws.{DesignLaws}
use Rattle.bb_design.specs.Laws.Wired.{IsWired}
use Rattle.bb_design.specs.Laws.{ScopesAreEnds}
use Rattle.bb_design.specs.NetBits.{Bit, top_inputs, top_outputs}
use Rattle.bb_design.specs.Refusals.{Cycle, IsShallow, IsSmallDesign, TwoDrivers, input_texts, register_texts}
use Rattle.bb_design.specs.Registers.{RegisterBit, registers}
use Rattle.bb_design.specs.Texts.{bit_text}
use Rattle.bb_design.specs.Worlds.{FitDesign, HasVector, Holds, IsWorld, Vector, World, bit_in, next_bit, outputs_in}
use Rattle.bb_equiv.specs.Comparable.{AreClockedTheSame, AreComparable, AreSameTexts, AreSettled, IsClockedByInput, output_values}
use Rattle.bb_equiv.specs.DesignEquivalence.{AreEquivalentEverywhere, ContentsMakeEquivalent, HaveSameBits}
use Rattle.bb_replace.specs.Laws.{AreFinished, IsWorldToo, KeepsInterface, ReplacedAreAllowed, ReplacedKeepInterface, ReplacedStayEquivalent, ReplacedWorldsAreWorlds}
use Rattle.bb_replace.specs.Laws.Replacement.{AllMayReplace, AreComputed, AreThoseNeeded, StandsAlone, is_unfinished, replaced_design}
use Rattle.bb_replace.proofs.ReadBits.{part_there}
use Rattle.bb_replace.proofs.ReplacedRegisters.{below}
use Rattle.bb_replace.proofs.ReplacedWorlds.{input_text, register_text}

-- contents do not matter but in a box
holds_other : (one other : Contents) (w : World) (s : Scope) (c : Construct) → (c ≡ BoxContents → ⊥) → Holds one w s c → Holds other w s c
holds_other one other w s (Assignment left right) plain h = h
holds_other one other w s (GateInstance gate outs ins) plain h = h
holds_other one other w s (Register r) plain h = h
holds_other one other w s (SupplyNet high n) plain h = h
holds_other one other w s (InputConnection i pin e) plain h = h
holds_other one other w s (OutputConnection i pin e) plain h = h
holds_other one other w s BoxContents plain h = absurd (plain refl)

-- so a design without boxes has the same worlds for all contents
boxless : (d : Design) → ScopesAreEnds d → IsShallow d → IsWired d → boxes d ≡ [] → (one other : Contents) (w : World) → IsWorld d one w → IsWorld d other w
boxless d ends shallow wired none one other w is path m at = all_from (Holds other w s) (constructs_at d.text s) (λ c has. holds_other one other w s c (plain c has) (All-contains (Holds one w s) (constructs_at d.text s) c (is path m at) has))
  where
    s : Scope
    s = record { path = path; source = m }

    plain : (c : Construct) → Contains (constructs_at d.text (record { path = path; source = m })) c → c ≡ BoxContents → ⊥
    plain c has same =
        let part : Contains {X = Scope × Construct} (parts d) (record { path = path; source = m }, BoxContents) = subst (λ z. Contains {X = Scope × Construct} (parts d) (record { path = path; source = m }, z)) same (part_there d (record { path = path; source = m }) c (ends.listed shallow path m at) has) in
        none_in_nil (record { path = path; source = m }) (subst (λ l. Contains l (record { path = path; source = m })) none (wired.boxed (record { path = path; source = m }) part))

-- outputs of worlds with the same values
same_pairs : {A : Type 0} (f : A → CutOutput) (g h : A → Bool) (xs : List A) (ys : List (CutOutput × Bool)) (zs : List (CutOutput × Bool)) → map (λ (o : CutOutput × Bool). o.1) (map {B = CutOutput × Bool} (λ x. (f x, g x)) xs ++ ys) ≡ map (λ (o : CutOutput × Bool). o.1) (map {B = CutOutput × Bool} (λ x. (f x, h x)) xs ++ zs)
    → (map (λ (o : CutOutput × Bool). o.1) ys ≡ map (λ (o : CutOutput × Bool). o.1) zs → ys ≡ zs) → map {B = CutOutput × Bool} (λ x. (f x, g x)) xs ++ ys ≡ map {B = CutOutput × Bool} (λ x. (f x, h x)) xs ++ zs
same_pairs f g h [] ys zs e rest = rest e
same_pairs f g h (x ∷ xs) ys zs e rest =
    let first : g x ≡ h x = heads e in
    ap₂ (λ b l. (f x, b) ∷ l) first (same_pairs f g h xs ys zs (tails e) rest)
  where
    heads : {a b : Bool} {l k : List Bool} → a ∷ l ≡ b ∷ k → a ≡ b
    heads e = grind (arith, e)

    tails : {a b : Bool} {l k : List Bool} → a ∷ l ≡ b ∷ k → l ≡ k
    tails e = grind (arith, e)

same_outputs_in : (d : Design) (w v : World) → output_values d w ≡ output_values d v → outputs_in d w ≡ outputs_in d v
same_outputs_in d w v e =
    same_pairs (λ b. TopOutput (bit_text d b)) (bit_in w) (bit_in v) (top_outputs d) (map {B = CutOutput × Bool} (λ r. (NextState (bit_text d r.bit), next_bit w r)) (registers d)) (map {B = CutOutput × Bool} (λ r. (NextState (bit_text d r.bit), next_bit v r)) (registers d)) e states
  where
    states : map (λ (o : CutOutput × Bool). o.1) (map {B = CutOutput × Bool} (λ r. (NextState (bit_text d r.bit), next_bit w r)) (registers d)) ≡ map (λ (o : CutOutput × Bool). o.1) (map {B = CutOutput × Bool} (λ r. (NextState (bit_text d r.bit), next_bit v r)) (registers d)) → map {B = CutOutput × Bool} (λ r. (NextState (bit_text d r.bit), next_bit w r)) (registers d) ≡ map {B = CutOutput × Bool} (λ r. (NextState (bit_text d r.bit), next_bit v r)) (registers d)
    states f = by (registers d) f
      where
        by : (rs : List RegisterBit) → map (λ (o : CutOutput × Bool). o.1) (map {B = CutOutput × Bool} (λ r. (NextState (bit_text d r.bit), next_bit w r)) rs) ≡ map (λ (o : CutOutput × Bool). o.1) (map {B = CutOutput × Bool} (λ r. (NextState (bit_text d r.bit), next_bit v r)) rs) → map {B = CutOutput × Bool} (λ r. (NextState (bit_text d r.bit), next_bit w r)) rs ≡ map {B = CutOutput × Bool} (λ r. (NextState (bit_text d r.bit), next_bit v r)) rs
        by [] f = refl
        by (r ∷ rs) f = ap₂ (λ b l. (NextState (bit_text d r.bit), b) ∷ l) (grind (arith, f)) (by rs (grind (arith, f)))

module _ (laws : DesignLaws) (worlds : ReplacedWorldsAreWorlds) (equivalent : ReplacedStayEquivalent) (keep : ReplacedKeepInterface) (refused : ReplacedAreAllowed)
    (care : Option (List ℕ)) (modules : List PlainModule) (spec imp : Design) (contents : Contents) (spec_allowed : IsAllowed spec) (imp_allowed : IsAllowed imp) (stands : is_empty imp.top ≡ false) (may : AllMayReplace modules imp.text) (all : All StandsAlone modules) (needed : AreThoseNeeded modules imp)
    (none : filter (is_unfinished modules) (boxes imp) ≡ []) (small : IsSmallDesign (replaced_design modules imp)) (comparable : AreComparable care spec imp) (fits : FitDesign imp contents) (computed : AreComputed modules imp contents) (makes : ContentsMakeEquivalent care spec imp contents) where
  abbrev new : Design
  new = replaced_design modules imp

  new_allowed : IsAllowed new
  new_allowed = refused modules imp may all stands imp_allowed small

  interface : KeepsInterface modules imp
  interface = keep modules imp imp_allowed.bounded may

  complete : boxes new ≡ []
  complete = interface.boxes ∙ none

  of_new : (one other : Contents) (w : World) → IsWorld new one w → IsWorld new other w
  of_new = boxless new (laws.ends new new_allowed.bounded) new_allowed.bounded.shallow (laws.wired new new_allowed.bounded) complete

  of_spec : (one other : Contents) (w : World) → IsWorld spec one w → IsWorld spec other w
  of_spec = boxless spec (laws.ends spec spec_allowed.bounded) spec_allowed.bounded.shallow (laws.wired spec spec_allowed.bounded) comparable.complete

  -- a world with the modules is one under the contents that they compute
  world_of : (other : Contents) (w : World) → IsWorld new other w → IsWorldToo modules imp contents w
  world_of other w is = worlds modules imp contents w imp_allowed.bounded may computed (of_new other contents w is)

  settled_imp : AreSettled imp contents
  settled_imp = (comparable.settled contents fits).1

  -- each vector has a world with them, and one alone as far as outputs go

  settled_new : (other : Contents) → FitDesign new other → AreSettled new other
  settled_new other fit = record { some = some; one = one }
    where
      some : (x : Vector) → (w : World) × IsWorld new other w × HasVector new x w
      some x =
          let w = laws.have_worlds new other x (new_allowed.sound TwoDrivers) (new_allowed.sound Cycle) in
          (w.0, (laws.driven_worlds new other w.0 (laws.ends new new_allowed.bounded) new_allowed.bounded.shallow (laws.legal new new_allowed.bounded other fit)).1 w.1, w.2)

      one : (x : Vector) (w v : World) → IsWorld new other w → HasVector new x w → IsWorld new other v → HasVector new x v → output_values new w ≡ output_values new v
      one x w v is has is_too has_too =
          let a = world_of other w is in
          let b = world_of other v is_too in
          ap (map (λ (o : CutOutput × Bool). o.1)) a.outputs ∙ settled_imp.one x w v a.world ((a.vector x).0 has) b.world ((b.vector x).0 has_too) ∙ sym (ap (map (λ (o : CutOutput × Bool). o.1)) b.outputs)

  settled_spec : (other : Contents) → AreSettled spec other
  settled_spec other = record {
    some = λ x. let w = at.some x in (w.0, of_spec contents other w.0 w.1, w.2);
    one = λ x w v is has is_too has_too. at.one x w v (of_spec other contents w is) has (of_spec other contents v is_too) has_too;
  }
    where
      at : AreSettled spec contents
      at = (comparable.settled contents fits).0

  -- clocks are those of the design with boxes

  clocked : (r q : RegisterBit) → Contains (registers spec) r → Contains (registers new) q → bit_text new q.bit ≡ bit_text spec r.bit → AreClockedTheSame spec new r q
  clocked r q hr hq named =
      let there : Contains (registers imp) q = subst (λ l. Contains l q) interface.registers hq in
      let text : bit_text new q.bit ≡ bit_text imp q.bit = register_text modules imp (below laws imp imp_allowed.bounded) may q there in
      by (comparable.clocks r q hr there (sym text ∙ named))
    where
      by : AreClockedTheSame spec imp r q → AreClockedTheSame spec new r q
      by same = (same.0, (same.1.0, same.1.1, same.1.2, subst (λ l. Contains l same.1.1) (sym interface.inputs) same.1.3, input_named same.1.1 same.1.3 ∙ same.1.4, same.1.5, clock same.1.1 same.1.6))
        where
          input_named : (c : Bit) → Contains (top_inputs imp) c → bit_text new c ≡ bit_text imp c
          input_named = input_text modules imp (below laws imp imp_allowed.bounded) may

          clock : (c : Bit) → IsClockedByInput imp q c → IsClockedByInput new q c
          clock c is other w fit world = is contents w fits (world_of other w world).world

  comparable_new : AreComparable care spec new
  comparable_new = record {
    complete = comparable.complete;
    has_care = comparable.has_care;
    same_inputs = subst (AreSameTexts (input_texts spec)) (sym interface.input_names) comparable.same_inputs;
    same_outputs = subst (AreSameTexts _) (sym interface.output_names) comparable.same_outputs;
    same_registers = subst (AreSameTexts (register_texts spec)) (sym interface.register_names) comparable.same_registers;
    clocks = clocked;
    settled = λ other fit. (settled_spec other, settled_new other fit);
  }

  agree_new : (other : Contents) → ContentsMakeEquivalent care spec new other
  agree_new other x w v spec_world spec_vector new_world new_vector =
      equivalent care modules spec imp contents imp_allowed.bounded may computed makes x w v (of_spec other contents w spec_world) spec_vector (of_new other contents v new_world) new_vector

  same_new : AreEquivalentEverywhere None new imp contents
  same_new x w v new_world new_vector imp_world imp_vector =
      let a = world_of contents w new_world in
      let values = settled_imp.one x w v a.world ((a.vector x).0 new_vector) imp_world imp_vector in
      let pairs = a.outputs ∙ same_outputs_in imp w v values in
      subst (HaveSameBits None (outputs_in new w)) pairs (λ o b all. ((λ h. h), (λ h. h)))

  pub finished : AreFinished care modules spec imp contents
  finished = record { needed = needed; fit = fits; computed = computed; allowed = new_allowed; interface = interface; complete = complete; comparable = comparable_new; agree = agree_new; same = same_new }
