-- the variables, and the cells of both nets over the inputs alone
use Rattle.std.proofs.Common.{◌≡◌, ℕ, ◌+◌, ◌≤◌, List, [], ◌++◌, length, map, flat_map, sym, ap, ◌∙◌, subst, arith, append_assoc}
use Rattle.bb_bits.specs.Truth.{Truth}
use Rattle.bb_net.specs.Netlists.{Netlist}
use Rattle.bb_net.specs.Values.{bit_of}
use Rattle.bb_net.specs.Pairs.{NetPair, IsPair}
use Rattle.bb_uniq.specs.declared.store.Ref.{Ref}
use Rattle.bb_sym.specs.declared.known_gates.DualRail.{DualRail}
use Rattle.bb_uniq.specs.Inside.Nodes.{NodeStore}
use Rattle.bb_sym.specs.Functions.{spec_bit, known_tables, mismatches, symbolic_functions}
use Rattle.bb_sym.specs.Plain.{Reading, AreVariables, IsReadSo, cell_bit, table, tables, variables, cell_numbers, output_numbers}
use Rattle.bb_sym.specs.Inside.Made.{Makes, AreTooMany, RepresentAll}
use Rattle.bb_sym.specs.Inside.Rails.{HaveAllRails, HaveKnown, known_functions, known_rails}
use Rattle.bb_sym.proofs.MadeLemmas.{within_append_left, too_many_within, too_many_then, Makes-then, RepresentAll-kept}
use Rattle.bb_sym.proofs.PlainCells.{no_pin}

-- a point is the bits of the inputs
abbrev pub inputs_only : Reading
inputs_only = record { inputs = λ x. x; pins = λ x. [] }

pub inputs_read : (p : NetPair) → IsPair p → (n : ℕ) → IsReadSo n 0 [] p.spec inputs_only
inputs_read p pair n = record { inputs = λ i l x e. ap (bit_of x) (let h : i ≡ 0 + i = omega arith in h); pins = λ b pin l. absurd (no_pin p.spec.boxes b pin pair.beside.no_box l) }

pub inputs_fit : (p : NetPair) → IsPair p → (n : ℕ) → n ≡ p.imp.inputs → n ≤ 2048 → AreVariables n 0 [] p.spec
inputs_fit p pair n v few = record { few = few; inputs = omega (arith, pair.beside.inputs, v); pins = λ i pin l. absurd (no_pin p.spec.boxes i pin pair.beside.no_box l) }

module _ (p : NetPair) (pair : IsPair p) (a : NodeStore) (v : p.imp.inputs ≡ a.vars) where
  abbrev bits : List Truth
  bits = tables p.imp.inputs (map (spec_bit p.spec) (cell_numbers p.spec))

  abbrev known : List Truth
  known = flat_map (known_tables p.imp) (cell_numbers p.imp)

  abbrev all_cells : List Truth
  all_cells = known_functions p.spec p.imp

  pub refused_first : AreTooMany a (variables a.vars) → AreTooMany a all_cells
  refused_first many = too_many_within a (variables p.imp.inputs) all_cells (within_append_left (variables p.imp.inputs) (bits ++ known)) (subst (λ n. AreTooMany a (variables n)) (sym v) many)

  module _ (b : NodeStore) (first : Makes a b (variables a.vars)) where
    first_made : Makes a b (variables p.imp.inputs)
    first_made = subst (λ n. Makes a b (variables n)) (sym v) first

    pub b_vars : b.vars ≡ p.imp.inputs
    b_vars = first.kept.vars ∙ sym v

    pub spec_fits : a.vars ≤ 2048 → AreVariables b.vars 0 [] p.spec
    spec_fits few = inputs_fit p pair b.vars b_vars (omega (arith, few, first.kept.vars))

    bits_are : tables b.vars (map (cell_bit inputs_only p.spec) (cell_numbers p.spec)) ≡ bits
    bits_are = ap (λ n. tables n (map (cell_bit inputs_only p.spec) (cell_numbers p.spec))) b_vars

    pub refused_bits : AreTooMany b (tables b.vars (map (cell_bit inputs_only p.spec) (cell_numbers p.spec))) → AreTooMany a all_cells
    refused_bits many =
        too_many_then a b (variables p.imp.inputs) (bits ++ known) first_made (too_many_within b bits (bits ++ known) (within_append_left bits known) (subst (AreTooMany b) bits_are many))

    module _ (mid : NodeStore) (second : Makes b mid (tables b.vars (map (cell_bit inputs_only p.spec) (cell_numbers p.spec)))) where
      second_made : Makes b mid bits
      second_made = subst (Makes b mid) bits_are second

      pub mid_vars : p.imp.inputs ≡ mid.vars
      mid_vars = sym (second.kept.vars ∙ b_vars)

      pub refused_known : AreTooMany mid known → AreTooMany a all_cells
      refused_known many = too_many_then a b (variables p.imp.inputs) (bits ++ known) first_made (too_many_then b mid bits known second_made many)

      module _ (last : NodeStore) (third : Makes mid last known) where
        pub input_cells_made : Makes a last all_cells
        input_cells_made = Makes-then a b last (variables p.imp.inputs) (bits ++ known) first_made (Makes-then b mid last bits known second_made third)

        pub input_cells_occur : (of_spec : List Ref) (of_imp : List DualRail) → (length of_spec ≡ length p.spec.cells) × RepresentAll mid (λ place. table b.vars (cell_bit inputs_only p.spec place)) of_spec → (length of_imp ≡ length p.imp.cells) × HaveAllRails last (known_rails p.imp) of_imp →
            HaveKnown last p.spec p.imp of_spec of_imp
        input_cells_occur of_spec of_imp s i = record {
          spec_whole = s.0;
          imp_whole = i.0;
          spec_cells = λ place l.
              let h = RepresentAll-kept mid last (λ place. table b.vars (cell_bit inputs_only p.spec place)) of_spec third.kept s.1 place l in
              record { ref = h.ref; table = h.table ∙ ap (λ n. table n (cell_bit inputs_only p.spec place)) b_vars };
          imp_cells = i.1;
        }

-- the cells and then the outputs are all functions of the check
pub symbolic_are : (spec imp : Netlist) → known_functions spec imp ++ flat_map (mismatches spec imp) (output_numbers imp) ≡ symbolic_functions spec imp
symbolic_are spec imp =
    let bits = tables imp.inputs (map (spec_bit spec) (cell_numbers spec)) in
    let known = flat_map (known_tables imp) (cell_numbers imp) in
    let last = flat_map (mismatches spec imp) (output_numbers imp) in
    append_assoc (variables imp.inputs) (bits ++ known) last ∙ ap (λ ts. variables imp.inputs ++ ts) (append_assoc bits known last)
