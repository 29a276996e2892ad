-- The order of the list of cells of a design, or the first bit on a loop.
use Rattle.std.proofs.Common.{◌≡◌, ◌^◌, ℕ, ◌+◌, ◌-◌, ◌<◌, ◌≤◌, Bool, List, length, refl, subst, sym, ap, ◌∙◌, ◌⊎◌, inl, inr, arith}
use Rattle.std.proofs.lemmas.Option.{slice_get_within}
use Rattle.std.specs.Prelude.{slice_get, Some, Result, Ok, Err, IfErr, IsErrAnd, MatchResult}
use Rattle.bb_ast.specs.Syntax.{PlainModule}
use Rattle.bb_net.specs.Loose.{LooseList, IsLoose, IsOnClosedWalk, IsLeastOnClosedWalk}
use Rattle.bb_design.specs.declared.fault.ElabFault.{ElabFault}
use Rattle.bb_design.specs.declared.fault.ElabFault.TheVariants.{Loop, Undriven}
use Rattle.bb_elab.specs.declared.elaboration.Elaborated.{Elaborated}
use Rattle.bb_blast.specs.declared.template.ModuleTemplate.{ModuleTemplate}
use Rattle.bb_blast.specs.declared.placed.Placed.{Placed}
use Rattle.bb_blast.specs.declared.stored.Stored.{Stored}
use Rattle.bb_elab.specs.Inside.DrivenNumbers.{IsFirstAt, AreCounts, AreReads}
use Rattle.bb_design.specs.Hierarchy.{Design}
use Rattle.bb_implements.specs.Laws.ListLaws.{ListsAreLoose}
use Rattle.bb_design.specs.Inside.Allowed.{IsBounded}
use Rattle.bb_implements.specs.Laws.LoopLaws.{ListsWithoutWalks, LeastWalksAreFirstLoops}
use Rattle.bb_design.specs.NetBits.{Bit, net_order}
use Rattle.bb_blast.specs.Inside.Placements.{ArePlaced, AreTemplated, AreStored}
use Rattle.bb_design.specs.Refusals.{IsAcyclic, AreDrivenOnce, IsUndriven, AreDriven, TwoDrivers, NoDriver, Cycle, IsRefusalOf}
use Rattle.bb_design.specs.Laws.CauseLaws.{ReportsCause}
use Rattle.bb_elab.specs.Inside.Stages.{IsElaborated, IsListed, IsReadable}
use Rattle.bb_hier.specs.Inside.Finite.{IsFinite}
use Rattle.bb_design.specs.Texts.{bit_text}
use Rattle.bb_elab.proofs.FiniteDesigns.{finite_clear}
use Rattle.bb_design.specs.Laws.DesignLaws.{DesignLaws}

module _ (text : List PlainModule) (g : Elaborated) (l : LooseList) where
  pub is_loose : ListsAreLoose → (x : (d : Design) × IsElaborated text d g × IsListed d l) → IsLoose l
  is_loose law (d, has, (lowering, lowered, listed)) = law d lowering l has.finite.bounded lowered listed

  pub acyclic : ListsWithoutWalks → ((k : ℕ) → IsOnClosedWalk l k → ⊥) → (d : Design) → IsElaborated text d g → IsListed d l → IsAcyclic d
  acyclic law none d has (lowering, lowered, listed) = law d lowering l has.finite.bounded has.elaborated.once lowered listed none

  module _ (law : LeastWalksAreFirstLoops) (place : ℕ) (least : IsLeastOnClosedWalk l place) where
    pub after : (x : (d : Design) × IsElaborated text d g × IsListed d l) → l.inputs + 2 ≤ place
    after (d, has, (lowering, lowered, listed)) = let f = law d lowering l has.finite.bounded has.elaborated.once lowered listed place least in omega (arith, f.2)

    pub loop_there : (inputs : ℕ) → inputs ≡ l.inputs → (x : (d : Design) × IsElaborated text d g × IsListed d l) → place - 2 - inputs < length (net_order x.0)
    loop_there inputs same (d, has, (lowering, lowered, listed)) =
        let f = law d lowering l has.finite.bounded has.elaborated.once lowered listed place least in
        let within = slice_get_within (net_order d) f.0 f.1 f.3 in
        omega (arith, f.2, same, within)

    pub on_loop : (n : List ℕ) (inputs : ℕ) → inputs ≡ l.inputs → ((d : Design) → d.text ≡ text → ArePlaced d g.placed.items → AreTemplated d g.placed.items g.templates.items → (b : Bit) → slice_get (net_order d) (place - 2 - inputs) ≡ Some b → n ≡ bit_text d b)
        → (d : Design) → IsElaborated text d g → IsListed d l → ReportsCause d Cycle (Loop n)
    on_loop n inputs same named d has (lowering, lowered, listed) =
        let f = law d lowering l has.finite.bounded has.elaborated.once lowered listed place least in
        let number : f.0 ≡ place - 2 - inputs = omega (arith, f.2, same) in
        record { name = n; is = refl; reported = (f.1, f.4, named d has.of_text has.elaborated.scopes has.elaborated.templated f.1 (subst (λ m. slice_get (net_order d) m ≡ Some f.1) number f.3)) }

  -- which bits are read
  module _ (read : List Bool) (reads : (d : Design) → IsReadable text d l g.stored.items (length g.counts.items) → AreReads d read) where
    pub reads_at : (d : Design) → IsElaborated text d g → IsListed d l → AreReads d read
    reads_at d has listed = reads d (record { of_text = has.of_text; bounded = has.finite.bounded; once = has.elaborated.once; listed = listed; registers = has.elaborated.registers; count = has.elaborated.counted.count })

    pub as_many : (x : (d : Design) × IsElaborated text d g × IsListed d l) → length read ≡ length g.counts.items
    as_many (d, has, listed) = (reads_at d has listed).count ∙ sym has.elaborated.counted.count

    module _ (k : ℕ) (found : (d : Design) → IsBounded d → AreCounts d g.counts.items → AreReads d read → IsFirstAt d (IsUndriven d) k) where
      pub few : (x : (d : Design) × IsElaborated text d g × IsListed d l) → k < 2 ^ 32
      few (d, has, listed) =
          let b = found d has.finite.bounded has.elaborated.counted (reads_at d has listed) in
          let small = has.finite.bounded.small.0 in
          let fits = slice_get_within (net_order d) k b.0 b.1 in omega (arith, small, fits)

      pub number_there : (x : (d : Design) × IsElaborated text d g × IsListed d l) → k < length (net_order x.0)
      number_there (d, has, listed) = let b = found d has.finite.bounded has.elaborated.counted (reads_at d has listed) in slice_get_within (net_order d) k b.0 b.1

      pub undriven : (n : List ℕ) → ((d : Design) → d.text ≡ text → ArePlaced d g.placed.items → AreTemplated d g.placed.items g.templates.items → (b : Bit) → slice_get (net_order d) k ≡ Some b → n ≡ bit_text d b)
          → (d : Design) → IsElaborated text d g → IsListed d l → ReportsCause d NoDriver (Undriven n)
      undriven n named d has listed =
          let b = found d has.finite.bounded has.elaborated.counted (reads_at d has listed) in
          record { name = n; is = refl; reported = (b.0, b.2, named d has.of_text has.elaborated.scopes has.elaborated.templated b.0 b.1) }

    pub all_are : ((d : Design) → IsBounded d → AreCounts d g.counts.items → AreReads d read → AreDriven d) → (d : Design) → IsElaborated text d g → IsListed d l → AreDriven d
    all_are none d has listed = none d has.finite.bounded has.elaborated.counted (reads_at d has listed)

  module _ (seen : List Stored) (same : seen ≡ g.stored.items) (counts : List ℕ) (counted : counts ≡ g.counts.items) where
    pub for_reads : (x : (d : Design) × IsElaborated text d g × IsListed d l) → (d : Design) × IsReadable text d l seen (length counts)
    for_reads (d, has, listed) =
        (d, record { of_text = has.of_text; bounded = has.finite.bounded; once = has.elaborated.once; listed = listed; registers = subst (AreStored d) (sym same) has.elaborated.registers; count = ap length counted ∙ has.elaborated.counted.count })

    pub reads_seen : (read : List Bool) → ((d : Design) → IsReadable text d l seen (length counts) → AreReads d read) → (d : Design) → IsReadable text d l g.stored.items (length g.counts.items) → AreReads d read
    reads_seen read reads =
        subst (λ all. (d : Design) → IsReadable text d l all (length g.counts.items) → AreReads d read) same
        (subst (λ all. (d : Design) → IsReadable text d l seen (length all) → AreReads d read) counted reads)

module _ (text : List PlainModule) (g : Elaborated) (placed : List Placed) (templates : List ModuleTemplate) (stored : List Stored) (scopes : placed ≡ g.placed.items) (made : templates ≡ g.templates.items) (registers : stored ≡ g.stored.items) where
  seen : (d : Design) → IsElaborated text d g → ArePlaced d placed × AreTemplated d placed templates × AreStored d stored
  seen d has = (
    subst (ArePlaced d) (sym scopes) has.elaborated.scopes,
    subst (λ p. AreTemplated d p templates) (sym scopes) (subst (AreTemplated d g.placed.items) (sym made) has.elaborated.templated),
    subst (AreStored d) (sym registers) has.elaborated.registers,
  )

  pub for_list : (x : (d : Design) × IsElaborated text d g) → (d : Design) × ArePlaced d placed × AreTemplated d placed templates × AreStored d stored × IsBounded d × AreDrivenOnce d
  for_list (d, has) = let all = seen d has in (d, all.0, all.1, all.2, has.finite.bounded, has.elaborated.once)

  pub listed_at : (l : LooseList) → ((d : Design) → ArePlaced d placed → AreTemplated d placed templates → AreStored d stored → IsBounded d → AreDrivenOnce d → IsListed d l) → (d : Design) → IsElaborated text d g → IsListed d l
  listed_at l law d has = let all = seen d has in law d all.0 all.1 all.2 has.finite.bounded has.elaborated.once

module _ (of_designs : DesignLaws) where
  -- the cause that is reported is the first
  pub first_undriven_cause : (d : Design) (fault : ElabFault) → IsFinite d → AreDrivenOnce d → ReportsCause d NoDriver fault → IsRefusalOf d fault
  first_undriven_cause d fault finite once reports = (of_designs.causes d).refused NoDriver fault reports ((of_designs.causes d).next TwoDrivers (finite_clear of_designs d finite) once)

  pub first_loop_cause : (d : Design) (fault : ElabFault) → IsFinite d → AreDrivenOnce d → AreDriven d → ReportsCause d Cycle fault → IsRefusalOf d fault
  first_loop_cause d fault finite once driven reports = (of_designs.causes d).refused Cycle fault reports ((of_designs.causes d).next NoDriver ((of_designs.causes d).next TwoDrivers (finite_clear of_designs d finite) once) driven)

pub reported_on : {A P Q : Type 0} → A ⊎ P → (P → Q) → A ⊎ Q
reported_on (inl none) next = inl none
reported_on (inr reports) next = inr (next reports)

-- what a call refuses is refused
pub if_err : {A E : Type 0} (r : Result A E) (P : E → Type 0) (e : E) → IsErrAnd r (λ x. x ≡ e) → P e → IfErr r P
if_err (Ok x) P e same holds = tt
if_err (Err y) P e same holds = subst P (sym same) holds

pub match_err : {A E : Type 0} (r : Result A E) (P : E → Type 0) (e : E) → IsErrAnd r (λ x. x ≡ e) → P e → MatchResult r (λ x. ⊥) P
match_err (Ok x) P e same holds = same
match_err (Err y) P e same holds = subst P (sym same) holds

pub for_name : (text : List PlainModule) (g : Elaborated) (placed : List Placed) (templates : List ModuleTemplate) → placed ≡ g.placed.items → templates ≡ g.templates.items → (d : Design) → IsElaborated text d g → (k : ℕ) → k < length (net_order d)
    → (d : Design) × (d.text ≡ text) × ArePlaced d placed × AreTemplated d placed templates × (k < length (net_order d))
for_name text g placed templates scopes made d has k there =
    (d, has.of_text, subst (ArePlaced d) (sym scopes) has.elaborated.scopes, subst (λ p. AreTemplated d p templates) (sym scopes) (subst (AreTemplated d g.placed.items) (sym made) has.elaborated.templated), there)
