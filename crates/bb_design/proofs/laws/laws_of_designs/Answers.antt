use Rattle.std.proofs.Common.{subst, ◌≡◌, true}
use Rattle.bb_design.specs.NetBits.{Bit, same_bit}
use Rattle.bb_design.proofs.AllowedDesigns.{wired, ends, bits_there, legal, part_of}
use Rattle.bb_design.proofs.BitByBit.{gate_bits}
use Rattle.bb_design.proofs.CalledInstances.{occurs, meant, called_here, children_are}
use Rattle.bb_design.proofs.CauseDecisions.{cycle, depends_driven, recursion}
use Rattle.bb_design.proofs.DistinctBits.{distinct_bits}
use Rattle.bb_design.proofs.KnownNets.{declared_net, filtered_there, header_net}
use Rattle.bb_design.proofs.NetBits.{bits_long}
use Rattle.bb_design.proofs.NextStates.{data_bits, output_bits_in, outputs_same, register_part, stored_by}
use Rattle.bb_design.proofs.PinTexts.{pin_texts_by_modules}
use Rattle.bb_design.proofs.RefusalLaws.{first_refusals_are_one, not_sound_and_refused}
use Rattle.bb_design.proofs.RegisterItems.{always_item}
use Rattle.bb_design.proofs.ScopeLaws.{paths_lead_to_scopes}
use Rattle.bb_design.proofs.SoundConstructs.{body_legal, clock_right, sound_constructs_are_legal, site_sound}
use Rattle.bb_design.proofs.SoundModules.{sound_texts_have_modules_apart}
use Rattle.bb_design.proofs.SoundNames.{sound_texts_have_names_apart}
use Rattle.bb_design.proofs.SoundSites.{net_used, source_there}
use Rattle.bb_design.proofs.StageRefusals.{and_clear, none_clear, refused, sound_design}
use Rattle.bb_design.proofs.TextLaws.{dotted_more}
use Rattle.bb_design.proofs.WalksByPlaces.{walks_are_by_places}
use Rattle.bb_design.proofs.WorldExists.{any_from, any_there, stored_drives, tops_are_first, vectors_have_worlds}
use Rattle.bb_design.proofs.WorldLaws.{free_stored, same_bit_is, same_bit_self, stored_register}
use Rattle.bb_design.proofs.WrittenValue.{written_short}
use Rattle.bb_design.proofs.laws.laws_of_designs.Goals as goal

pub returns : goal.returns
returns c = record {
  distinguished = λ b x. (same_bit_is b x, λ e. subst (λ (y : Bit). same_bit b y ≡ true) e (same_bit_self b));
  found = λ b bits. (any_from b bits, any_there b bits);
  net_bits = bits_long;
  of_scope = filtered_there;
  written_few = written_short;
  distinct = distinct_bits c.net_names_differ.ensures;
  of_text = source_there;
  pin_texts = pin_texts_by_modules;
  part_of = part_of;
  wired = wired;
  bits_there = bits_there;
  ends = ends;
  legal = legal;
  gates = gate_bits;
  tops_driven = tops_are_first;
  dependent_driven = depends_driven;
  stores = λ part. record { driven = stored_drives part; stored = free_stored part; always = stored_by part };
  stored_register = stored_register;
  register_part = register_part;
  always_item = always_item;
  next_states = data_bits c.made_has_value.ensures;
  outputs_in_order = output_bits_in;
  outputs_by_reads = outputs_same c.made_has_value.ensures;
  recursion = recursion;
  cycle = cycle;
  causes = λ d. record { first = none_clear d; next = and_clear d; refused = refused d; sound = sound_design d };
  instances = λ text sound m here. record { occurs = occurs text sound m here; meant = meant text sound m here; called = called_here text sound m here; children = children_are text sound m here };
  paths_grow = dotted_more;
  modules_apart = sound_texts_have_modules_apart;
  walks = walks_are_by_places;
  sound_sites = site_sound;
  items_legal = body_legal;
  clock_width = clock_right;
  used_net = net_used;
  nets = λ m. record { header = header_net m; declared = declared_net m };
  names_apart = sound_texts_have_names_apart;
  scopes_reached = paths_lead_to_scopes;
  constructs_legal = sound_constructs_are_legal;
  one_refusal = first_refusals_are_one;
  not_both = not_sound_and_refused;
  driven_worlds = c.worlds_are_driven.ensures;
  have_worlds = vectors_have_worlds;
  agree_where_read = c.worlds_agree_where_read.ensures;
}
