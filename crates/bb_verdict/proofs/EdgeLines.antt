-- The edges of an event are printed one after another.
use Rattle.std.proofs.Common.{◌≡◌, ◌+◌, ◌<◌, ◌++◌, ◌∙◌, ℕ, suc, Bool, false, List, [], ◌∷◌, codes, drop, length, take, get_or, arith, sym, ap, ap₂, append_assoc, append-nil}
use Rattle.std.specs.Prelude.{zip}
use Rattle.std.specs.List.{flat_map}
use Rattle.std.proofs.lemmas.List.{length-take-le, take_more}
use Rattle.bb_checks.specs.Reports.{printed_input}
use Rattle.bb_net.specs.Flats.{FlatNet}
use Rattle.bb_unroll.specs.Events.{edge_at}
use Rattle.bb_unroll.specs.Unrolled.{fall_input, rise_input}
use Rattle.bb_verdict.specs.InvariantAnswers.{edge_text}
use Rattle.bb_verdict.specs.Inside.BrokenTexts.{broken_bytes, edge_of, edges_text}

edges_last : (f : FlatNet) (x : List Bool) (k : ℕ) (names : List (List ℕ)) (n : List ℕ)
    → edges_text f x k (names ++ n ∷ []) ≡ edges_text f x k names ++ edge_text n (edge_at f x (k + length names))
edges_last f x k [] n = append-nil (edge_text n (edge_at f x k)) ∙ ap (λ i. edge_text n (edge_at f x i)) {x = k} {y = k + 0} (omega arith)
edges_last f x k (m ∷ names) n =
    ap (λ l. edge_text m (edge_at f x k) ++ l) (edges_last f x (suc k) names n)
    ∙ sym (append_assoc (edge_text m (edge_at f x k)) (edges_text f x (suc k) names) (edge_text n (edge_at f x (suc k + length names))))
    ∙ ap (λ i. (edge_text m (edge_at f x k) ++ edges_text f x (suc k) names) ++ edge_text n (edge_at f x i)) {x = suc k + length names} {y = k + length (m ∷ names)} (omega arith)

-- the text after one more
pub edges_more : (f : FlatNet) (x : List Bool) (names : List (List ℕ)) (i rise fall : ℕ) (n old text new : List ℕ) → i < length names → n ≡ get_or names i n
    → rise ≡ rise_input f i → fall ≡ fall_input f i → text ≡ old ++ edges_text f x 0 (take i names)
    → new ≡ text ++ edge_text n (edge_of (get_or x rise false) (get_or x fall false)) → new ≡ old ++ edges_text f x 0 (take (i + 1) names)
edges_more f x names i rise fall n old text new within is r l before after =
    after
    ∙ ap₂ (λ t e. t ++ edge_text n e) before (ap₂ (λ a b. edge_of (get_or x a false) (get_or x b false)) r l)
    ∙ append_assoc old (edges_text f x 0 (take i names)) (edge_text n (edge_at f x i))
    ∙ ap (λ l. old ++ l) (ap (λ j. edges_text f x 0 (take i names) ++ edge_text n (edge_at f x j)) {x = i} {y = 0 + length (take i names)} (omega (arith, long)) ∙ sym (edges_last f x 0 (take i names) n)
    ∙ ap (edges_text f x 0) (ap (λ m. take i names ++ m ∷ []) is ∙ sym (take_more names i n within)))
  where
    long : length (take i names) ≡ i
    long = length-take-le i names (omega (arith, within))

-- seven pieces, one after another
pub seven : {A : Type 0} (a p b e d q z t0 t1 t2 t3 t4 t5 t6 : List A) → t0 ≡ a → t1 ≡ t0 ++ p → t2 ≡ t1 ++ b → t3 ≡ t2 ++ e → t4 ≡ t3 ++ d → t5 ≡ t4 ++ q → t6 ≡ t5 ++ z
    → t6 ≡ a ++ (p ++ (b ++ (e ++ (d ++ (q ++ z)))))
seven a p b e d q z t0 t1 t2 t3 t4 t5 t6 s0 s1 s2 s3 s4 s5 s6 =
    s6 ∙ ap (λ t. t ++ z) (s5 ∙ ap (λ t. t ++ q) (s4 ∙ ap (λ t. t ++ d) (s3 ∙ ap (λ t. t ++ e) (s2 ∙ ap (λ t. t ++ b) (s1 ∙ ap (λ t. t ++ p) s0)))))
    ∙ append_assoc (((((a ++ p) ++ b) ++ e) ++ d)) q z ∙ append_assoc (((a ++ p) ++ b) ++ e) d (q ++ z) ∙ append_assoc ((a ++ p) ++ b) e (d ++ (q ++ z))
    ∙ append_assoc (a ++ p) b (e ++ (d ++ (q ++ z))) ∙ append_assoc a p (b ++ (e ++ (d ++ (q ++ z))))

-- the report of an event, by the parts of its bits
pub pieces : (f : FlatNet) (names n : List (List ℕ)) (x u v : List Bool) → n ≡ f.ins → u ≡ take f.net.inputs x → v ≡ take (length f.ins) (drop f.net.inputs x)
    → codes "invariant broken\ninput" ++ (flat_map printed_input (zip names u) ++ (codes "\nedges" ++ (edges_text f x 0 f.ins ++ (codes "\nthen" ++ (flat_map printed_input (zip n v) ++ codes "\nverdict open\n")))))
    ≡ broken_bytes f names x
pieces f names n x u v ins first second =
    ap₂ (λ l m. codes "invariant broken\ninput" ++ (flat_map printed_input (zip names l) ++ (codes "\nedges" ++ (edges_text f x 0 f.ins ++ (codes "\nthen" ++ (flat_map printed_input (zip n m) ++ codes "\nverdict open\n")))))) first second
    ∙ ap (λ m. codes "invariant broken\ninput" ++ (flat_map printed_input (zip names (take f.net.inputs x)) ++ (codes "\nedges" ++ (edges_text f x 0 f.ins ++ (codes "\nthen" ++ (flat_map printed_input (zip m (take (length f.ins) (drop f.net.inputs x))) ++ codes "\nverdict open\n")))))) ins
