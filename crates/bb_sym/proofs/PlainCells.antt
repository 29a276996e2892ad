-- the variables and the cells of both nets
use Rattle.std.proofs.Common.{◌≡◌, ◌≤◌, ◌<◌, ℕ, ◌+◌, List, [], ◌++◌, length, map, sym, ap, ◌∙◌, subst, subst₂, arith}
use Rattle.std.proofs.lemmas.List.{map-append}
use Rattle.std.proofs.lemmas.List.Sums.{sum_by-le-sum_by}
use Rattle.bb_bits.specs.Truth.{Truth}
use Rattle.bb_net.specs.Netlists.{Netlist, Pins, box_at}
use Rattle.bb_net.specs.Values.{output_pins}
use Rattle.bb_net.specs.Pairs.{NetPair, IsPair, pin_count}
use Rattle.bb_uniq.specs.declared.store.Ref.{Ref}
use Rattle.bb_uniq.specs.Inside.Nodes.{NodeStore}
use Rattle.bb_sym.specs.Functions.{inputs_and_pins}
use Rattle.bb_sym.specs.Plain.{Reading, AreVariables, IsReadSo, cell_bit, without_pins, plain_functions_at, table, tables, variables, cell_numbers}
use Rattle.bb_sym.specs.Inside.Made.{Makes, AreTooMany, RepresentAll, HaveCells}
use Rattle.bb_sym.proofs.MadeLemmas.{within_append_left, too_many_within, too_many_then, Makes-then, RepresentAll-kept}

pub few_variables : (p : NetPair) → IsPair p → inputs_and_pins p.imp ≤ 2048
few_variables p pair =
    let l : output_pins p.imp.boxes ≤ pin_count p.imp.boxes = sum_by-le-sum_by (λ (pins : Pins). length pins.outs) (λ (pins : Pins). length pins.ins + length pins.outs) p.imp.boxes (λ pins. omega arith) in
    omega (arith, l, pair.small.pins)

pub no_pin : (boxes : List Pins) (b pin : ℕ) → boxes ≡ [] → pin < length (box_at boxes b).outs → ⊥
no_pin boxes b pin none l =
    let e = ap (λ (k : List Pins). length (box_at k b).outs) none in
    omega (arith, l, e)

module _ (spec imp : Netlist) (same : spec.inputs ≡ imp.inputs) (none : spec.boxes ≡ []) (n first : ℕ) (starts : List ℕ) where
  -- the specification has no box, so only its inputs count
  pub spec_variables : AreVariables n first starts imp → AreVariables n first starts spec
  spec_variables vars = record { few = vars.few; inputs = omega (arith, vars.inputs, same); pins = λ b pin l. absurd (no_pin spec.boxes b pin none l) }

  pub spec_read : (r : Reading) → IsReadSo n first starts imp r → IsReadSo n first starts spec (without_pins r)
  spec_read r reads = record { inputs = λ i l. reads.inputs i (omega (arith, l, same)); pins = λ b pin l. absurd (no_pin spec.boxes b pin none l) }

pub read_net : (net real : Netlist) → net ≡ real → (n m first : ℕ) (starts : List ℕ) (r : Reading) → n ≡ m → IsReadSo m first starts real r → IsReadSo n first starts net r
read_net net real same n m first starts r e reads = subst₂ (λ k (to : Netlist). IsReadSo k first starts to r) (sym e) (sym same) reads

-- the list by its three parts
parts_are : (n : ℕ) (r : Reading) (spec imp : Netlist) →
    variables n ++ (tables n (map (cell_bit (without_pins r) spec) (cell_numbers spec)) ++ tables n (map (cell_bit r imp) (cell_numbers imp))) ≡ plain_functions_at n r spec imp
parts_are n r spec imp = ap (λ ts. variables n ++ ts) (sym (map-append (table n) (map (cell_bit (without_pins r) spec) (cell_numbers spec)) (map (cell_bit r imp) (cell_numbers imp))))

module _ (spec imp : Netlist) (r : Reading) (a : NodeStore) where
  abbrev spec_part : List Truth
  spec_part = tables a.vars (map (cell_bit (without_pins r) spec) (cell_numbers spec))

  abbrev imp_part : List Truth
  imp_part = tables a.vars (map (cell_bit r imp) (cell_numbers imp))

  pub refused_variables : AreTooMany a (variables a.vars) → AreTooMany a (plain_functions_at a.vars r spec imp)
  refused_variables many = subst (AreTooMany a) (parts_are a.vars r spec imp) (too_many_within a (variables a.vars) (variables a.vars ++ (spec_part ++ imp_part)) (within_append_left (variables a.vars) (spec_part ++ imp_part)) many)

  module _ (b : NodeStore) (made : Makes a b (variables a.vars)) where
    pub refused_spec : AreTooMany b (tables b.vars (map (cell_bit (without_pins r) spec) (cell_numbers spec))) → AreTooMany a (plain_functions_at a.vars r spec imp)
    refused_spec many =
        let here : AreTooMany b spec_part = subst (λ n. AreTooMany b (tables n (map (cell_bit (without_pins r) spec) (cell_numbers spec)))) made.kept.vars many in
        subst (AreTooMany a) (parts_are a.vars r spec imp) (too_many_then a b (variables a.vars) (spec_part ++ imp_part) made (too_many_within b spec_part (spec_part ++ imp_part) (within_append_left spec_part imp_part) here))

    module _ (c : NodeStore) (also : Makes b c (tables b.vars (map (cell_bit (without_pins r) spec) (cell_numbers spec)))) where
      second : Makes b c spec_part
      second = subst (λ n. Makes b c (tables n (map (cell_bit (without_pins r) spec) (cell_numbers spec)))) made.kept.vars also

      pub refused_imp : AreTooMany c (tables c.vars (map (cell_bit r imp) (cell_numbers imp))) → AreTooMany a (plain_functions_at a.vars r spec imp)
      refused_imp many =
          let here : AreTooMany c imp_part = subst (λ n. AreTooMany c (tables n (map (cell_bit r imp) (cell_numbers imp)))) (also.kept.vars ∙ made.kept.vars) many in
          subst (AreTooMany a) (parts_are a.vars r spec imp) (too_many_then a b (variables a.vars) (spec_part ++ imp_part) made (too_many_then b c spec_part imp_part second here))

      pub plain_made : (d : NodeStore) → Makes c d (tables c.vars (map (cell_bit r imp) (cell_numbers imp))) → Makes a d (plain_functions_at a.vars r spec imp)
      plain_made d last =
          let third : Makes c d imp_part = subst (λ n. Makes c d (tables n (map (cell_bit r imp) (cell_numbers imp)))) (also.kept.vars ∙ made.kept.vars) last in
          subst (Makes a d) (parts_are a.vars r spec imp) (Makes-then a b d (variables a.vars) (spec_part ++ imp_part) made (Makes-then b c d spec_part imp_part second third))

      pub plain_occur : (d : NodeStore) (of_spec of_imp : List Ref) → Makes c d (tables c.vars (map (cell_bit r imp) (cell_numbers imp))) → length of_spec ≡ length spec.cells → RepresentAll c (λ place. table b.vars (cell_bit (without_pins r) spec place)) of_spec →
          length of_imp ≡ length imp.cells → RepresentAll d (λ place. table c.vars (cell_bit r imp place)) of_imp → HaveCells d r spec imp of_spec of_imp
      plain_occur d of_spec of_imp last spec_whole specs imp_whole imps = record {
        spec_whole = spec_whole;
        imp_whole = imp_whole;
        spec_cells = λ place l.
            let h = RepresentAll-kept c d (λ place. table b.vars (cell_bit (without_pins r) spec place)) of_spec last.kept specs place l in
            record { ref = h.ref; table = h.table ∙ ap (λ n. table n (cell_bit (without_pins r) spec place)) (sym (last.kept.vars ∙ also.kept.vars)) };
        imp_cells = λ place l. let h = imps place l in record { ref = h.ref; table = h.table ∙ ap (λ n. table n (cell_bit r imp place)) (sym last.kept.vars) };
      }
