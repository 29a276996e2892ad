use Rattle.std.proofs.Common.{◌≡◌, ◌-◌, ◌++◌, [], ℕ, List, Some, map, sym, ap, ◌∙◌, arith}
use Rattle.std.specs.Prelude.{slice_get}
use Rattle.std.proofs.lemmas.Result.{IfOk-weaker}
use Rattle.bb_names.specs.Inside.Checked.{syntax}
use Rattle.bb_design.specs.Hierarchy.{Path, Design, scopes}
use Rattle.bb_design.specs.NetBits.{Bit, net_order}
use Rattle.bb_blast.specs.Inside.Placements.{ArePlaced, AreTemplated}
use Rattle.bb_design.specs.Texts.{path_prefix, bit_text, pin_text}
use Rattle.bb_elab.proofs.BitNames.{own_path}
use Rattle.bb_elab.proofs.PlacedPaths.{are_rooted, path_there}
use Rattle.bb_lemmas.proofs.Places.{some_at}
use Rattle.bb_elab.proofs.texts.bit_name.Goals as goal

pub add_prefix-requires-clause-rooted : goal.add_prefix-requires-clause-rooted
add_prefix-requires-clause-rooted c = are_rooted c.requires.design.0 c.args.placed.now c.requires.design.2

-- the text of the bit after nothing
named : (n text items none prefix back whole : List ℕ) → n ≡ text → text ≡ items → none ≡ [] → items ≡ (none ++ prefix) ++ back → prefix ++ back ≡ whole → n ≡ whole
named n text items none prefix back whole is made empty both same = is ∙ made ∙ both ∙ ap (λ l. (l ++ prefix) ++ back) empty ∙ same

pub returns : goal.returns
returns c = record {
  name = IfOk-weaker c.of.result (λ n. n ≡ c.deref.result.now) (λ n. (d : Design) → d.text ≡ map syntax c.args.checked.now → ArePlaced d c.args.placed.now → AreTemplated d c.args.placed.now c.args.templates.now → (b : Bit) → slice_get (net_order d) c.args.number ≡ Some b → n ≡ bit_text d b)
      (λ n is e text are templated b bit.
      let all = c.args.placed.now in
      let k = c.scope_of_bit-scope.result in
      let s = some_at (scopes e) k (omega (arith, c.scope_of_bit-scope.ensures.there, are.count)) in
      let p = some_at all k c.scope_of_bit-scope.ensures.there in
      let path = own_path s.0 (c.args.number - p.0.first) b (c.scope_of_bit-scope.ensures.bit e are s.0 s.1 p.0 p.1 b bit).1 in
      named n c.deref.result.now c.add_pin.new.text.items c.new-text.result.items (path_prefix s.0.path) (pin_text e b) (bit_text e b) is c.deref.ensures.value c.new-text.ensures.items
      (c.in_ok-add_pin.ensures.pin e text are templated b bit ∙ ap (λ l. l ++ pin_text e b) (c.in_ok-add_prefix.ensures s.0.path (path_there e all are k s.0 s.1)))
      (ap (λ (q : Path). path_prefix q ++ pin_text e b) (sym path))) c.of.ensures.ok;
}
