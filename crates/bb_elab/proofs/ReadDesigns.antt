-- Which bits of a design are read, from the marks of the places in its list of cells.
use Rattle.std.proofs.Common.{◌≡◌, ◌≤◌, ◌<◌, ℕ, ◌+◌, ◌^◌, Bool, true, false, List, All, map, length, get_or, Some, sym, ap, ◌∙◌, subst, arith}
use Rattle.std.proofs.lemmas.List.Elements.{All-contains}
use Rattle.std.proofs.lemmas.Option.{slice_get_within}
use Rattle.std.specs.Prelude.{slice_get, Result, Ok, Err, IfOk}
use Rattle.bb_ast.specs.Syntax.{PlainModule}
use Rattle.bb_names.specs.Inside.Checked.{AreFormedAndSmall}
use Rattle.bb_net.specs.Loose.{LooseList, IsLoose}
use Rattle.bb_blast.specs.declared.stored.Stored.{Stored}
use Rattle.bb_design.specs.Hierarchy.{Design}
use Rattle.bb_implements.specs.Laws.ListLaws.{ListsAreLoose}
use Rattle.bb_design.specs.Inside.Allowed.{IsBounded}
use Rattle.bb_design.specs.NetBits.{Bit, net_order}
use Rattle.bb_blast.specs.Inside.Placements.{IsStoredAt, AreStored}
use Rattle.bb_elab.specs.Inside.DrivenNumbers.{AreReads}
use Rattle.bb_implements.specs.Places.{Lowering, IsLowering, IsListOf}
use Rattle.bb_design.specs.Reading.{IsReadBit}
use Rattle.bb_elab.specs.Inside.StoredNumbers.{AreTimed}
use Rattle.bb_design.specs.Refusals.{AreDrivenOnce}
use Rattle.bb_design.specs.Registers.{registers, cut_bits}
use Rattle.bb_elab.specs.Inside.Stages.{IsReadable}
use Rattle.bb_lemmas.proofs.Members.{all_from}
use Rattle.bb_elab.proofs.ReadBits.{zip_there}
use Rattle.bb_elab.proofs.TimedRegisters.{are_timed}
use Rattle.bb_design.specs.Laws.DesignLaws.{DesignLaws}
use Rattle.bb_implements.specs.Laws.CellLaws.{CellLaws}
use Rattle.bb_blast.specs.Laws.ModuleLaws.{ModuleLaws}

module _ (of_cells : CellLaws) (text : List PlainModule) (l : LooseList) (stored : List Stored) (bits : ℕ) (x : (d : Design) × IsReadable text d l stored bits) (first : ℕ) (is : first ≡ 2 + l.inputs) where
  -- the clocks have their places in the list
  pub clocks_there : All (λ (x : Stored). first + x.clock < length l.cells) stored
  clocks_there = by x
    where
      by : ((d : Design) × IsReadable text d l stored bits) → All (λ (x : Stored). first + x.clock < length l.cells) stored
      by (d, ok) = all_from (λ (x : Stored). first + x.clock < length l.cells) stored (λ x has.
          let r = zip_there (IsStoredAt d) stored (registers d) x ok.registers has in
          let within = slice_get_within (net_order d) x.clock r.2.clock.0 r.2.clock.2 in
          omega (arith, within, is, ok.listed.2.inputs, of_cells.nets_fit d ok.listed.0 l ok.listed.2))

  -- and so have all bits
  pub bits_fit : first + bits ≤ length l.cells
  bits_fit = let ok = x.1 in omega (arith, is, ok.count, ok.listed.2.inputs, of_cells.nets_fit x.0 ok.listed.0 l ok.listed.2)

  module _ (law : ListsAreLoose) where
    pub loose : IsLoose l
    loose = law x.0 x.1.listed.0 l x.1.bounded x.1.listed.1 x.1.listed.2

    pub clocks_few : All (λ (x : Stored). first + x.clock < 2 ^ 32) stored
    clocks_few = all_from (λ (x : Stored). first + x.clock < 2 ^ 32) stored (λ y has. let there = All-contains (λ (x : Stored). first + x.clock < length l.cells) stored y clocks_there has in let few = loose.cells_fit in omega (arith, there, few))

-- what is known of an answer in three ways
pub three : {A E : Type 0} {P Q R S : A → Type 0} (r : Result A E) → IfOk r P → IfOk r Q → IfOk r R → ((x : A) → P x → Q x → R x → S x) → IfOk r S
three (Ok x) p q r next = next x p q r
three (Err e) p q r next = tt

module _ (of_designs : DesignLaws) (of_modules : ModuleLaws) where
  -- a bit is read where its place is marked
  pub reads_are : (text : List PlainModule) (l : LooseList) (stored : List Stored) (bits : ℕ) (first : ℕ) → first ≡ 2 + l.inputs → AreFormedAndSmall text → (reads : List Bool) → length reads ≡ bits
      → ((d : Design) (lowering : Lowering) → IsBounded d → IsLowering d lowering → IsListOf d lowering l → AreStored d stored → first ≡ 2 + length (cut_bits d)
      → (k : ℕ) (b : Bit) → slice_get (net_order d) k ≡ Some b → get_or reads k false ≡ true → IsReadBit d b)
      → ((d : Design) (lowering : Lowering) → IsBounded d → AreDrivenOnce d → IsLowering d lowering → IsListOf d lowering l → first ≡ 2 + length (cut_bits d) → AreTimed d (map (λ (x : Stored). x.clock) stored)
      → (k : ℕ) (b : Bit) → slice_get (net_order d) k ≡ Some b → k < bits → IsReadBit d b → get_or reads k false ≡ true)
      → (d : Design) → IsReadable text d l stored bits → AreReads d reads
  reads_are text l stored bits first is read reads long only all d ok =
      let lowering = ok.listed.0 in
      let list = ok.listed.2 in
      let at : first ≡ 2 + length (cut_bits d) = is ∙ ap (λ n. 2 + n) list.inputs in
      let timed = are_timed of_designs of_modules d ok.bounded ok.once (subst AreFormedAndSmall (sym ok.of_text) read) stored ok.registers in
      record {
        count = long ∙ ok.count;
        each = λ k b there. (
          only d lowering ok.bounded ok.listed.1 list ok.registers at k b there,
          all d lowering ok.bounded ok.once ok.listed.1 list at timed k b there (omega (arith, slice_get_within (net_order d) k b there, ok.count)),
        );
      }
