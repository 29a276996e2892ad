use Rattle.std.proofs.Common.{◌≡◌, ◌<◌, ℕ, Bool, true, false, List, [], length, map, refl, sym, ap, ◌∙◌, subst, arith, Vec, Global}
use Rattle.std.specs.Prelude.{filter, slice_get}
use Rattle.std.specs.List.{flat_map, slice_index_or}
use Rattle.std.proofs.lemmas.List.{length-map}
use Rattle.std.proofs.lemmas.Option.{slice_get_read, get_or_from_slice_get}
use Rattle.bb_names.specs.declared.net.NetInfo.{NetInfo}
use Rattle.bb_names.specs.Inside.Checked.{module_facts}
use Rattle.bb_names.specs.Nets.{nets_of}
use Rattle.bb_design.specs.Hierarchy.{Path}
use Rattle.bb_design.specs.NetBits.{bits_of_net}
use Rattle.bb_bits.specs.Inside.Places.{AreAt}
use Rattle.bb_blast.specs.Inside.BitBlasting.{module_in, bit_count, is_port_of}
use Rattle.bb_lemmas.proofs.Places.{got-map}
use Rattle.bb_blast.proofs.MakeableConstructs.{all_makeable}
use Rattle.bb_blast.proofs.bit_blasting.template_of.Goals as goal

-- the list that is kept at a place
kept_list : (starts : List (Vec ℕ Global)) (k : ℕ) (v : Vec ℕ Global) → k < length starts → v ≡ slice_index_or starts k v → slice_index_or (map (λ (list : Vec ℕ Global). list.items) starts) k [] ≡ v.items
kept_list starts k v lt is = get_or_from_slice_get (map (λ (list : Vec ℕ Global). list.items) starts) k v.items [] (got-map (λ (list : Vec ℕ Global). list.items) starts k v (slice_get_read starts (length starts) k v refl lt is))

-- the ports of one side, where the nets are seen as those of the module
ports_are : (nets own : List NetInfo) → nets ≡ own → (side : Bool) (numbers : List ℕ) → ((path : Path) → AreAt (flat_map (bits_of_net path) nets) numbers (flat_map (bits_of_net path) (filter (is_port_of side) nets)))
    → (path : Path) → AreAt (flat_map (bits_of_net path) own) numbers (flat_map (bits_of_net path) (filter (is_port_of side) own))
ports_are nets own is side numbers are path = subst (λ l. AreAt (flat_map (bits_of_net path) l) numbers (flat_map (bits_of_net path) (filter (is_port_of side) l))) is (are path)

pub parts_of-requires-clause-makeable : goal.parts_of-requires-clause-makeable
parts_of-requires-clause-makeable c = all_makeable c.laws_of_designs.ensures c.args.checked.now c.scope_at.ensures.checked c.occurrences_are_fit.ensures c.args.place (module_facts c.scope_at.result.now) c.scope_at.ensures.there c.requires.outlinable.modest

pub returns : goal.returns
returns c =
    let m = module_in c.args.checked.now c.args.place in
    let own : c.scope_at.result.now.nets.items ≡ nets_of m = c.scope_at.ensures.nets.nets ∙ ap nets_of (sym c.scope_at.ensures.meant) in
    let starts : c.in_ok-from_slice.field-0.items ≡ slice_index_or (map (λ (list : Vec ℕ Global). list.items) c.args.starts.now) c.args.place [] =
    c.in_ok-from_slice.ensures.items ∙ c.deref-6.ensures.value ∙ sym (kept_list c.args.starts.now c.args.place c.index-starts-place.result (omega (arith, c.requires.outlinable.started.kept, length-map c.args.starts.now (λ (list : Vec ℕ Global). list.items))) c.index-starts-place.is) in
    record {
      template = record {
        starts = λ k lt. ap (λ l. slice_get l k) starts ∙ c.requires.outlinable.started.each.each k lt;
        bits = c.count_bits.ensures.count ∙ ap bit_count (c.deref-7.ensures.value ∙ own);
        inputs = λ path. ports_are c.deref.result.now (nets_of m) (c.deref.ensures.value ∙ own) true c.in_ok-inputs.inputs.items c.in_ok-inputs.ensures.bits path;
        outputs = λ path. ports_are c.deref-3.result.now (nets_of m) (c.deref-3.ensures.value ∙ own) false c.in_ok-outputs.outputs.items c.in_ok-outputs.ensures.bits path;
        parts = c.in_ok-parts.ensures.parts;
      };
    }
