-- The texts of the ports of a scope are those of its module.
use Rattle.std.proofs.Common.{◌≡◌, ℕ, ◌++◌, Bool, List, [], ◌∷◌, filter, flat_map, map, Contains, Some, refl, sym, ap, ap₂, ◌∙◌, not}
use Rattle.std.specs.Prelude.{option_to_list}
use Rattle.std.specs.List.{list_any, range_with_len}
use Rattle.std.specs.Option.{option_and_then}
use Rattle.std.proofs.lemmas.List.{map-append}
use Rattle.bb_ast.specs.Syntax.{PlainModule}
use Rattle.bb_names.specs.Declarations.{range_of}
use Rattle.bb_names.specs.declared.net.NetInfo.{NetInfo}
use Rattle.bb_names.specs.Faults.{is_input}
use Rattle.bb_names.specs.Nets.{nets_of}
use Rattle.bb_names.specs.Ranges.{range_width}
use Rattle.bb_design.specs.Hierarchy.{Path, Design, Scope, module_at, scopes}
use Rattle.bb_design.specs.Inside.Allowed.{IsBounded}
use Rattle.bb_design.specs.Laws.BitLaws.{PinTextsGoByModules}
use Rattle.bb_design.specs.NetBits.{bits_of_net}
use Rattle.bb_design.specs.Texts.{net_bit_text, pin_text}
use Rattle.bb_design.proofs.AllowedDesigns.{ends}
use Rattle.bb_design.proofs.SoundModules.{sound_texts_have_modules_apart}
use Rattle.bb_design.proofs.SoundSites.{source_there}
use Rattle.bb_lemmas.proofs.Apart.{one_by}
use Rattle.bb_lemmas.proofs.Maps.{map-twice}

-- the texts of the bits of a net, in a module
abbrev net_texts : PlainModule → NetInfo → List (List ℕ)
net_texts m net = map (net_bit_text net.name (range_of m net.name)) (range_with_len 0 (range_width net.range))

module _ (d : Design) (path : Path) (m : PlainModule) (reached : module_at d path ≡ Some m) where
  one_net : (net : NetInfo) → map (pin_text d) (bits_of_net path net) ≡ net_texts m net
  one_net net =
      map-twice (λ k. record { path = path; net = net.name; place = k }) (pin_text d) (range_with_len 0 (range_width net.range))
      ∙ ap (λ o. map (net_bit_text net.name (option_and_then (λ (x : PlainModule). range_of x net.name) o)) (range_with_len 0 (range_width net.range))) reached

  nets_texts : (nets : List NetInfo) → map (pin_text d) (flat_map (bits_of_net path) nets) ≡ flat_map (net_texts m) nets
  nets_texts [] = refl
  nets_texts (net ∷ nets) = map-append (pin_text d) (bits_of_net path net) (flat_map (bits_of_net path) nets) ∙ ap₂ ◌++◌ (one_net net) (nets_texts nets)

module _ (d : Design) (bounded : IsBounded d) (s t : Scope) (s_there : Contains (scopes d) s) (t_there : Contains (scopes d) t) (same : s.source.name ≡ t.source.name) where
  one_module : s.source ≡ t.source
  one_module = one_by (λ (m : PlainModule). m.name) d.text (sound_texts_have_modules_apart d.text bounded.faultless) s.source t.source (source_there d s bounded.top s_there) (source_there d t bounded.top t_there) same

  pub one_pins : (test : NetInfo → Bool) → map (pin_text d) (flat_map (bits_of_net s.path) (filter test (nets_of s.source))) ≡ map (pin_text d) (flat_map (bits_of_net t.path) (filter test (nets_of t.source)))
  one_pins test =
      nets_texts d s.path s.source ((ends d bounded).reached s s_there) (filter test (nets_of s.source))
      ∙ ap (λ m. flat_map (net_texts m) (filter test (nets_of m))) one_module
      ∙ sym (nets_texts d t.path t.source ((ends d bounded).reached t t_there) (filter test (nets_of t.source)))

pub pin_texts_by_modules : PinTextsGoByModules
pin_texts_by_modules d bounded s t s_there t_there same = (
  one_pins d bounded s t s_there t_there same (λ net. list_any is_input (option_to_list net.port)),
  one_pins d bounded s t s_there t_there same (λ net. list_any (λ dir. not (is_input dir)) (option_to_list net.port)),
)
