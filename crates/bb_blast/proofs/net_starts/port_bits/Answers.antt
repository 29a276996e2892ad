use Rattle.std.proofs.Common.{◌≡◌, length, refl, ap, sym, ◌∙◌, subst, arith, take}
use Rattle.std.specs.Prelude.{filter}
use Rattle.std.specs.List.{flat_map, slice_index_or}
use Rattle.std.proofs.lemmas.Option.{slice_get_read, slice_get_within, get_or_from_slice_get}
use Rattle.std.proofs.lemmas.List.{take_all}
use Rattle.bb_names.specs.Ranges.{range_width}
use Rattle.bb_design.specs.NetBits.{bits_of_net}
use Rattle.bb_blast.specs.Inside.ModuleTemplates.{net_start}
use Rattle.bb_bits.specs.Inside.Places.{AreAt}
use Rattle.bb_blast.specs.Inside.BitBlasting.{is_port_of}
use Rattle.bb_blast.proofs.NetNumbers.{net_fits, chosen_more, passed_over}
use Rattle.bb_blast.proofs.net_starts.port_bits.Goals as goal
use Rattle.bb_blast.proofs.net_starts.port_bits.Goals.{then-is_port_of+in_ok-add_run, else-is_port_of}

pub bounds-starts-k : goal.bounds-starts-k
bounds-starts-k c = slice_get_within c.args.starts.now c.loop-k.k (net_start c.args.nets.now c.loop-k.k) (c.requires.starts.each c.loop-k.k c.loop-k-test.true)

pub add_run-requires : goal.add_run-requires
add_run-requires c =
    let net = c.index-nets-k in
    let there = slice_get_read c.args.nets.now (length c.args.nets.now) c.loop-k.k net.result refl c.loop-k-test.true net.is in
    let start : slice_index_or c.args.starts.now c.loop-k.k 0 ≡ net_start c.args.nets.now c.loop-k.k = get_or_from_slice_get c.args.starts.now c.loop-k.k (net_start c.args.nets.now c.loop-k.k) 0 (c.requires.starts.each c.loop-k.k c.loop-k-test.true) in
    let width : c.range_width.result ≡ range_width net.result.range = c.range_width.ensures.width in
    record { room = omega (arith, start, width, net_fits c.args.nets.now c.loop-k.k net.result there, c.requires.starts.few) }

pub loop-k-preserved : goal.loop-k-preserved
loop-k-preserved c = λ path. elim c.if-is_port_of.branch [
  | then-is_port_of+in_ok-add_run w ↦
      chosen_more path (is_port_of c.args.input) c.args.nets.now c.args.starts.now c.requires.starts c.loop-k.k c.index-nets-k.result c.loop-k.bits.items c.if-is_port_of.bits.items _ w.range_width.result
      c.loop-k-test.true c.index-nets-k.is (c.loop-k.invariant path) (sym c.is_port_of.ensures.port ∙ w.if-is_port_of.true) refl w.range_width.ensures.width (ap (λ b. b.items) w.bits-is ∙ w.in_ok-add_run.ensures.run)
  | else-is_port_of w ↦
      subst (λ l. AreAt (flat_map (bits_of_net path) c.args.nets.now) c.if-is_port_of.bits.items (flat_map (bits_of_net path) l))
      (sym (passed_over (is_port_of c.args.input) c.args.nets.now c.loop-k.k c.index-nets-k.result c.loop-k-test.true c.index-nets-k.is (sym c.is_port_of.ensures.port ∙ w.if-is_port_of.false)))
      (subst (λ b. AreAt (flat_map (bits_of_net path) c.args.nets.now) b.items (flat_map (bits_of_net path) (filter (is_port_of c.args.input) (take c.loop-k.k c.args.nets.now)))) (sym w.bits-is) (c.loop-k.invariant path))
]

pub returns : goal.returns
returns c = record {
  bits = λ path. subst (λ l. AreAt (flat_map (bits_of_net path) c.args.nets.now) c.loop-k.bits.items (flat_map (bits_of_net path) (filter (is_port_of c.args.input) l)))
      (take_all c.loop-k.k c.args.nets.now c.loop-k-test.false) (c.loop-k.invariant path);
}
