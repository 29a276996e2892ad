-- from the store of no node: the beads are those of the tables that were made, and where they are too many
use Rattle.std.proofs.Common.{◌≡◌, List, [], refl, sym, subst, inl, inr, arith}
use Rattle.std.proofs.lemmas.List.Elements.{All-weaker}
use Rattle.bb_bits.specs.Truth.{Truth, IsBeadOfAny}
use Rattle.bb_bits.specs.TruthSets.{HasMoreThan}
use Rattle.bb_bits.specs.Laws.TruthLaws.{SizeLaws}
use Rattle.bb_uniq.specs.Laws.{SequenceLaws}
use Rattle.bb_uniq.specs.Inside.Nodes.{NodeStore, IsStore, empty_store}
use Rattle.bb_uniq.specs.Inside.Meaning.{IsHeld, HoldsBeadsOf}
use Rattle.bb_sym.specs.Inside.Made.{Makes, AreTooMany, IsHeldWithAny}

none_held : SequenceLaws → (s : NodeStore) → s.nodes ≡ [] → (b : Truth) → IsHeld s b → ⊥
none_held laws s e b h =
    let whole : s ≡ empty_store s.vars s.limit = rw (sym e) refl in
    let listed = (laws.start s.vars s.limit b).0 (subst (λ (k : NodeStore). IsHeld k b) whole h) in
    absurd (omega (arith, listed.1.1))

pub all_refused : SequenceLaws → (s : NodeStore) → s.nodes ≡ [] → (ts : List Truth) → AreTooMany s ts → HasMoreThan (IsBeadOfAny ts) s.limit
all_refused laws s e ts h = (h.0, h.1, All-weaker (IsHeldWithAny s ts) (IsBeadOfAny ts) (λ b held. elim held [ inl before ↦ absurd (none_held laws s e b before) | inr made ↦ made ]) h.0 h.2, h.3)

-- where all were made, they are no more than the limit
pub all_fit : SequenceLaws → SizeLaws → (s now : NodeStore) → s.nodes ≡ [] → IsStore now → (ts : List Truth) → Makes s now ts → HasMoreThan (IsBeadOfAny ts) s.limit → ⊥
all_fit laws sizes s now e sound ts made more =
    let holds : HoldsBeadsOf now ts = λ b. (λ h. elim ((made.beads b).0 h) [ inl before ↦ absurd (none_held laws s e b before) | inr m ↦ m ], λ h. (made.beads b).1 (inr h)) in
    let most = laws.at_most now ts sound holds more.0 more.1 more.2 in
    omega (arith, most, more.3, made.kept.limit)
