-- the laws of stores, by topic
use Rattle.std.proofs.Common.{◌↔◌, ◌<◌, ◌==◌, ℕ, List, ◌∷◌, refl, sym, subst, inl, inr, arith}
use Rattle.std.specs.Prelude.{All, Contains}
use Rattle.std.proofs.lemmas.List.Elements.{All-contains, All-weaker}
use Rattle.bb_bits.specs.Truth.{Truth, Bit, IsBeadOf, IsBeadOfAny, constant}
use Rattle.bb_uniq.specs.Inside.Nodes.{NodeStore, empty_store}
use Rattle.bb_uniq.specs.Inside.Meaning.{truth_of, IsHeldWith, HoldsBeadsOf}
use Rattle.bb_uniq.specs.Laws.{StoreLaws, GrowthLaws, StepLaws, SequenceLaws}
use Rattle.bb_uniq.proofs.Given.{Given}
use Rattle.bb_uniq.proofs.Tables.{IsTruthTable-table}
use Rattle.bb_uniq.proofs.Growth.{Keeps-same, Keeps-then, below_ref}
use Rattle.bb_uniq.proofs.Held.{no_bead, size_of_held}
use Rattle.bb_uniq.proofs.Making.{IsStore-empty, leaf_table, one_ref, view_means, adds}
use Rattle.bb_uniq.proofs.Steps.{below_from_table, too_many_first, too_many_second, parts, too_many_last, adds_joined}
use Rattle.bb_uniq.proofs.Tops.{top_below, inner_top, cofactors}
use Rattle.bb_uniq.proofs.Views.{leaf_seen, children_differ, branch_at_point}

module _ (given : Given) where
  pub store_laws : StoreLaws
  store_laws = record {
    empty = IsStore-empty;
    table_size = λ s r. IsTruthTable-table s s.vars r;
    leaf_table = λ s r l. leaf_table s s.vars r l;
    view_means = view_means given;
    leaf_seen = leaf_seen;
    children_differ = children_differ;
    branch_at_point = branch_at_point given;
    one_ref = one_ref;
    below_is_ref = below_ref;
    top_below = top_below;
    inner_top = inner_top;
    below_from_table = below_from_table;
  }

  pub growth_laws : GrowthLaws
  growth_laws = record {
    keeps_self = Keeps-same;
    keeps_then = Keeps-then;
    beads_are_kept = λ old new kept b held. (held.0, kept.refs held.0 held.1, subst (IsBeadOf b) (sym (kept.tables held.0 held.1)) held.2);
    adds_nothing = λ s sound t r ref e. adds given s s t r sound (Keeps-same s) ref e (λ b held. inl held);
    full_is_exact = λ old new t r added many. let l = added.fits many.0 many.1 many.2 in omega (arith, l, many.3);
  }

  pub step_laws : StepLaws
  step_laws = record {
    cofactors = cofactors given;
    first_refused = too_many_first given;
    second_refused = too_many_second given;
    ready = parts given;
    node_refused = too_many_last given;
    made = adds_joined given;
  }

  -- a store of no node holds no bead
  none_held : (vars limit r : ℕ) (b : Truth) → r < 2 → IsBeadOf b (truth_of (empty_store vars limit) r) → ⊥
  none_held vars limit r b l h =
      let at : IsBeadOf b (constant vars (r == 1)) = subst (IsBeadOf b) (leaf_table (empty_store vars limit) vars r l) h in
      no_bead b (Bit (r == 1)) r ((given.beads.lifted vars b (Bit (r == 1))).0 at) refl

  held_of_list : (s : NodeStore) (t : Truth) (ts : List Truth) → HoldsBeadsOf s ts → (b : Truth) → IsHeldWith s t b ↔ IsBeadOfAny (t ∷ ts) b
  held_of_list s t ts holds b = (
    λ h. (given.beads.first_and_rest t ts b).1 (elim h [ inl before ↦ inr ((holds b).0 before) | inr bead ↦ inl bead ]),
    λ h. elim ((given.beads.first_and_rest t ts b).0 h) [ inl bead ↦ inr bead | inr rest ↦ inl ((holds b).1 rest) ],
  )

  listed_more : (ts us : List Truth) → All (Contains us) ts → (b : Truth) → IsBeadOfAny ts b → IsBeadOfAny us b
  listed_more ts us all b h = (h.0, All-contains (Contains us) ts h.0 all h.1, h.2)

  pub sequence_laws : SequenceLaws
  sequence_laws = record {
    start = λ vars limit b. (λ h. absurd (none_held vars limit h.0 b (omega (arith, h.1)) h.2), λ h. absurd (omega (arith, h.1.1)));
    next = λ old new t r ts holds added b. (
      λ h. (held_of_list old t ts holds b).0 ((added.beads b).0 h),
      λ h. (added.beads b).1 ((held_of_list old t ts holds b).1 h),
    );
    same_tables = λ s ts us there back holds b. (λ h. listed_more ts us there b ((holds b).0 h), λ h. (holds b).1 (listed_more us ts back b h));
    at_most = λ s ts sound holds bs d all.
        let size = size_of_held given s sound in
        let l = given.sizes.fewer_entries bs size.0 d (All-weaker (IsBeadOfAny ts) (Contains size.0) (λ b h. (size.2 b).1 ((holds b).1 h)) bs all) in
        omega (arith, l, size.3, sound.held);
    too_many = λ s t ts us holds many all. (
      many.0,
      many.1,
      All-weaker (IsHeldWith s t) (IsBeadOfAny us) (λ b h. listed_more (t ∷ ts) us all b ((held_of_list s t ts holds b).0 h)) many.0 many.2,
      many.3,
    );
  }
