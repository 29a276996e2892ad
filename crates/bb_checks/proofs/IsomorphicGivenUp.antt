-- More clauses are needed for a pair where they are for one that is alike: forced vectors stay forced and have as many clauses, and
-- tables that are too large stay so, since netlists that are alike have the same bits when they are filled with them.
use Rattle.std.proofs.Common.{All, ◌≡◌, ℕ, ◌*◌, ◌<◌, ◌≤◌, ◌^◌, ◌⊎◌, inl, inr, Bool, List, [], length, sym, ap, ◌∙◌, subst, arith}
use Rattle.std.proofs.lemmas.Bool.{cases_lt}
use Rattle.std.proofs.lemmas.List.{length-map}
use Rattle.std.proofs.lemmas.List.Elements.{All-weaker}
use Rattle.bb_bits.specs.Tables.{TableBits}
use Rattle.bb_expand.specs.ClauseCounts.{clause_total, clauses_per_vector}
use Rattle.bb_expand.specs.Expansions.{expansion}
use Rattle.bb_expand.specs.GivenUp.{FillTooLarge, NeedsMoreClauses, SuitsLargeTables}
use Rattle.bb_subst.specs.Distinguishing.{AreEquivalentAt, AreDistinguishing, FailAt}
use Rattle.bb_subst.specs.Laws.IsomorphismLaws.{HaveSameBits}
use Rattle.bb_iso.specs.Laws.Isomorphism.{AreIsomorphic}
use Rattle.bb_net.specs.Equivalence.{IsVector, out_bit}
use Rattle.bb_net.specs.Completions.{table_bits}
use Rattle.bb_net.specs.Conditions.{all_ins}
use Rattle.bb_net.specs.Kinds.{representatives, per_box}
use Rattle.bb_net.specs.Netlists.{Netlist, Pins, IsNetlist}
use Rattle.bb_net.specs.Pairs.{NetPair, IsPair}
use Rattle.bb_net.specs.Values.{FitBoxes, ValueGoesByBoxes, bit_of, flat, free_bit, tabled_bit, value_of}
use Rattle.bb_input.specs.InputFunctions.{in_places}
use Rattle.bb_sym.specs.Functions.{output_functions}
use Rattle.bb_checks.specs.Inside.IsomorphismLaws.{FunctionsFixTables, GivenLaws}
use Rattle.bb_checks.specs.Inside.KindLaws.{KindLaws}
use Rattle.bb_checks.proofs.IsomorphicBits.{ShareBits, at_same}
use Rattle.bb_checks.proofs.IsomorphicBoxes.{AreAsMany, table_bits_isomorphic}
use Rattle.bb_checks.proofs.IsomorphicFunctions.{ShareAll, output_among}
use Rattle.bb_checks.proofs.IsomorphicTables.{more_among}
use Rattle.bb_checks.proofs.IsomorphicWitnesses.{agree_isomorphic, fail_isomorphic, fit_isomorphic, many_fit}

-- netlists without boxes
module _ (by_boxes : ValueGoesByBoxes) (a b : Netlist) (one : IsNetlist a) (other : IsNetlist b) (same : HaveSameBits a b) (own : a.boxes ≡ []) (also : b.boxes ≡ []) where
  -- have their bits whatever boxes give
  plain : (net : Netlist) → IsNetlist net → net.boxes ≡ [] → (x : List Bool) (f g : ℕ → ℕ → List Bool → Bool) → value_of net x f ≡ value_of net x g
  plain net kept none x f g = by_boxes net kept x f g (λ c p lt there. let count = ap length none in absurd (omega (arith, lt, count)))

  outs_same : (x : List Bool) (f g : ℕ → ℕ → List Bool → Bool) (j : ℕ) → j < length a.outs → out_bit a (value_of a x f) j ≡ out_bit b (value_of b x g) j
  outs_same x f g j l =
      ap (λ (bits : List Bool). out_bit a bits j) (plain a one own x f (free_bit a.boxes []))
      ∙ at_same (bit_of (flat a x [])) (bit_of (flat b x [])) a.outs b.outs (same.outs x) j l
      ∙ ap (λ (bits : List Bool). out_bit b bits j) (plain b other also x (free_bit b.boxes []) g)

  shared : ShareBits a b
  shared = record {
    inputs = same.inputs;
    boxes = subst (λ (ps : List Pins). AreAsMany ps b.boxes) (sym own) (subst (λ (qs : List Pins). AreAsMany [] qs) (sym also) tt);
    outputs = sym (length-map a.outs (bit_of (flat a [] []))) ∙ ap length (same.outs []) ∙ length-map b.outs (bit_of (flat b [] []));
    out_bits = λ x z. outs_same x (free_bit a.boxes z) (free_bit b.boxes z);
    tabled_bits = λ x tables. outs_same x (tabled_bit tables) (tabled_bit tables);
    in_bits = λ x z i l. let none = ap (λ (ps : List Pins). length (in_places ps)) own in absurd (omega (arith, l, none));
    box_bits = λ x z. ap (λ (ps : List Pins). all_ins ps (flat a x z)) own ∙ sym (ap (λ (qs : List Pins). all_ins qs (flat b x z)) also);
    cells = λ k l.
        let found = same.cells k l in (
          found.0,
          found.1,
          λ x z. ap (λ (bits : List Bool). bit_of bits k) (plain a one own x (free_bit a.boxes z) (free_bit a.boxes [])) ∙ found.2 x
              ∙ ap (λ (bits : List Bool). bit_of bits found.0) (plain b other also x (free_bit b.boxes []) (free_bit b.boxes z)),
        );
  }

-- pairs that are alike
module _ (laws : GivenLaws) (shared_laws : KindLaws) (fix : FunctionsFixTables) (p q : NetPair) (share : ShareAll p.spec p.imp q.spec q.imp)
    (firsts : AreAsMany (representatives p.kinds p.imp.boxes) (representatives q.kinds q.imp.boxes)) (kinds : p.kinds ≡ q.kinds) (one : IsPair p) (other : IsPair q) (alike : AreIsomorphic p.imp q.imp) where
  bits_same : table_bits p.imp.boxes ≡ table_bits q.imp.boxes
  bits_same = table_bits_isomorphic p.imp.boxes q.imp.boxes share.imp.boxes

  too_large_isomorphic : (tables : List TableBits) → FitBoxes tables p.imp.boxes → table_bits q.imp.boxes ≤ 2 ^ 20 → FillTooLarge p.spec p.imp tables → FillTooLarge q.spec q.imp tables
  too_large_isomorphic tables fit few (filled, at, kept, is, many) =
      let (new, to, also, are) = laws.exist q.imp tables other.imp (fit_isomorphic p.spec p.imp q.spec q.imp share tables fit) (omega (arith, other.small.imp_cells, few)) in
      let same = laws.same p.imp q.imp filled new tables at to one.imp other.imp kept also alike fit is are in
      let all : ShareAll p.spec filled q.spec new = record {
        spec = share.spec;
        imp = shared laws.boxes filled new kept also same is.boxes are.boxes;
        outputs = share.outputs ∙ sym (ap length is.outs ∙ length-map p.imp.outs at);
      } in
      (new, to, also, are, more_among 1000000 (output_functions p.spec filled) (output_functions q.spec new) (output_among fix p.spec filled q.spec new all) many)

  cause_isomorphic : (tables : List TableBits) → FitBoxes tables p.imp.boxes → (2 ^ 20 < table_bits p.imp.boxes) ⊎ FillTooLarge p.spec p.imp tables → (2 ^ 20 < table_bits q.imp.boxes) ⊎ FillTooLarge q.spec q.imp tables
  cause_isomorphic tables fit (inl many) = inl (subst (λ n. 2 ^ 20 < n) bits_same many)
  cause_isomorphic tables fit (inr large) = elim (cases_lt (2 ^ 20) (table_bits q.imp.boxes)) [
    | inl many ↦ inl many
    | inr few ↦ inr (too_large_isomorphic tables fit few large)
  ]

  -- tables of kinds, spread over all boxes of the one pair and of the other
  fit_shown : (tables : List TableBits) → FitBoxes tables (representatives p.kinds p.imp.boxes) → FitBoxes tables (representatives q.kinds q.imp.boxes)
  fit_shown = many_fit (representatives p.kinds p.imp.boxes) (representatives q.kinds q.imp.boxes) firsts

  agree_spread : (tables : List TableBits) (x : List Bool) → AreEquivalentAt p.spec p.imp (per_box p.kinds tables) x → AreEquivalentAt q.spec q.imp (per_box q.kinds tables) x
  agree_spread tables x agree = subst (λ ks. AreEquivalentAt q.spec q.imp (per_box ks tables) x) kinds (agree_isomorphic p.spec p.imp q.spec q.imp share (per_box p.kinds tables) x agree)

  agree_all : (tables : List TableBits) (vectors : List (List Bool)) → All (AreEquivalentAt p.spec p.imp (per_box p.kinds tables)) vectors → All (AreEquivalentAt q.spec q.imp (per_box q.kinds tables)) vectors
  agree_all tables = All-weaker (AreEquivalentAt p.spec p.imp (per_box p.kinds tables)) (AreEquivalentAt q.spec q.imp (per_box q.kinds tables)) (agree_spread tables)

  suits_isomorphic : (vectors : List (List Bool)) → SuitsLargeTables p.spec p.imp p.kinds vectors → SuitsLargeTables q.spec q.imp q.kinds vectors
  suits_isomorphic vectors (tables, fit, agree, cause) =
      let spread_fit = shared_laws.fit p.kinds p.imp.boxes tables one.beside.kinds fit in (
        tables,
        fit_shown tables fit,
        agree_all tables vectors agree,
        subst (λ ks. (2 ^ 20 < table_bits q.imp.boxes) ⊎ FillTooLarge q.spec q.imp (per_box ks tables)) kinds (cause_isomorphic (per_box p.kinds tables) spread_fit cause),
      )

  distinguishing_isomorphic : (vectors : List (List Bool)) → AreDistinguishing p.spec p.imp p.kinds vectors → AreDistinguishing q.spec q.imp q.kinds vectors
  distinguishing_isomorphic vectors distinguishing = record {
    whole = All-weaker (IsVector p.imp) (IsVector q.imp) (λ x long. long ∙ share.imp.inputs) vectors distinguishing.whole;
    each = λ before after x e.
        let (tables, fit, agree, fail) = distinguishing.each before after x e in (
          tables,
          fit_shown tables fit,
          agree_all tables before agree,
          subst (λ ks. FailAt q.spec q.imp (per_box ks tables) x) kinds (fail_isomorphic p.spec p.imp q.spec q.imp share (per_box p.kinds tables) x fail),
        );
  }

  pub needs_isomorphic : clause_total p.imp ≡ clause_total q.imp → clauses_per_vector p.imp ≡ clauses_per_vector q.imp → (budget : ℕ) → NeedsMoreClauses p.spec p.imp p.kinds budget → NeedsMoreClauses q.spec q.imp q.kinds budget
  needs_isomorphic total each budget h = record {
    many = subst (λ n. budget < n) total h.many;
    samples = h.samples;
    distinguishing = distinguishing_isomorphic h.samples h.distinguishing;
    cause = by h.cause;
  }
    where
      counts : length (expansion p.spec p.imp p.kinds h.samples).clauses ≡ length (expansion q.spec q.imp q.kinds h.samples).clauses
      counts = laws.counted p.spec p.imp p.kinds h.samples ∙ ap (λ n. length h.samples * n) each ∙ sym (laws.counted q.spec q.imp q.kinds h.samples)

      by : (budget < length (expansion p.spec p.imp p.kinds h.samples).clauses) ⊎ SuitsLargeTables p.spec p.imp p.kinds h.samples → (budget < length (expansion q.spec q.imp q.kinds h.samples).clauses) ⊎ SuitsLargeTables q.spec q.imp q.kinds h.samples
      by (inl over) = inl (subst (λ n. budget < n) counts over)
      by (inr suits) = inr (suits_isomorphic h.samples suits)
