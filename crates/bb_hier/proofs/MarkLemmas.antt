-- Marks of the bits of nets.
use Rattle.std.proofs.Common.{◌≡◌, ◌≢◌, ◌⊎◌, ℕ, zero, suc, ◌+◌, ◌≤◌, ◌<◌, Bool, true, false, ◌&&◌, ◌||◌, List, [], ◌∷◌, ◌++◌, map, length, take, get_or, set, filter, Option, Some, None, refl, sym, ap, ◌∙◌, subst, inl, inr, arith, true≢false, Vec, Global, length-append, append_assoc, append-nil, map-id}
use Rattle.std.specs.Prelude.{if◌then◌else◌, replicate, sum_by, min, max, nat_le, nat_lt, ◌==◌, slice_get, slice_index_or}
use Rattle.std.specs.List.{flat_map, list_any}
use Rattle.std.specs.Map.{lookup}
use Rattle.std.proofs.lemmas.Bool.Decides.{nat_tests}
use Rattle.std.proofs.lemmas.List.{get_or-set_same, get_or-set_other, length-set, map-set, map_more, take_all, get_or-map, length-map}
use Rattle.std.proofs.lemmas.Grind.{flat_map-append}
use Rattle.std.proofs.lemmas.Simd.{map-map}
use Rattle.std.proofs.lemmas.List.Folds.{list_any-append}
use Rattle.std.proofs.lemmas.List.Elements.{filter-append}
use Rattle.std.proofs.lemmas.List.Sums.{sum_by-cons}
use Rattle.bb_bits.specs.Names.{same_name, placed}
use Rattle.bb_ast.specs.declared.expr.Expr.{Expr}
use Rattle.bb_ast.specs.declared.expr.Expr as of
use Rattle.bb_ast.specs.declared.expr.Expr.TheFolds.{fold_out-Expr}
use Rattle.bb_ast.specs.declared.expr.Expr.TheVariants.{outs-Bit, outs-Concat}
use Rattle.bb_ast.specs.Laws.FoldLaws.{sees_parts}
use Rattle.bb_ast.specs.Syntax.{Expression, Bit as BitOf, Concat, listed_parts, PlainModule}
use Rattle.bb_ast.specs.Inside.Views.{layer, expression}
use Rattle.bb_names.specs.declared.net.NetInfo.{NetInfo}
use Rattle.bb_names.specs.Inside.Checked.{ModuleFacts, syntax, HasNets}
use Rattle.bb_names.specs.Declarations.{range_of}
use Rattle.bb_names.specs.Nets.{net_names, net_of, nets_of}
use Rattle.bb_names.specs.Ranges.{distance, range_width, place_of}
use Rattle.bb_expr.specs.Laws.FitLaws.{NetNamesDiffer}
use Rattle.bb_design.specs.NetBits.{Bit, same_bit, bits_from, bits_of_net, assigned, written_bits}
use Rattle.bb_hier.specs.Inside.Weights.{any_scope, is_among, named_bits, AreMarks, stored_bits, register_count}
use Rattle.bb_lemmas.proofs.Names.{place-holds, holds-place, same_equal, same_self}
use Rattle.bb_lemmas.proofs.Places.{got, got-map}
use Rattle.bb_lemmas.proofs.Orders.{less_or_same}

or_same : (a b c : Bool) → b ≡ c → (a || b) ≡ (a || c)
or_same a b c e = ap (λ x. a || x) e

up_to : (first q p : ℕ) → q ≢ p → (nat_le first q && nat_lt q p) ≡ (nat_le first q && nat_lt q (p + 1))
up_to first q p other = ap (λ b. nat_le first q && b) (by (less_or_same q p))
  where
    by : (q < p) ⊎ ((p < q) ⊎ (q ≡ p)) → nat_lt q p ≡ nat_lt q (p + 1)
    by (inl h) = grind (arith, h)
    by (inr (inl h)) = grind (arith, h)
    by (inr (inr h)) = absurd (other h)

here_true : (a : Bool) (first p : ℕ) → first ≤ p → true ≡ (a || (nat_le first p && nat_lt p (p + 1)))
here_true a first p le = sym (ap (λ b. a || b) is ∙ right a)
  where
    is : (nat_le first p && nat_lt p (p + 1)) ≡ true
    is = grind (arith, le)

    right : (a : Bool) → (a || true) ≡ true
    right true = refl
    right false = refl

-- one mark more
pub mark_more : (before marks now : List Bool) (first p : ℕ) → first ≤ p → p < length marks → now ≡ set marks p true
    → ((q : ℕ) → slice_index_or marks q false ≡ (slice_index_or before q false || (nat_le first q && nat_lt q p)))
    → (q : ℕ) → slice_index_or now q false ≡ (slice_index_or before q false || (nat_le first q && nat_lt q (p + 1)))
mark_more before marks now first p le lt is so_far q = by (less_or_same q p)
  where
    other : q ≢ p → slice_index_or now q false ≡ (slice_index_or before q false || (nat_le first q && nat_lt q (p + 1)))
    other differ = ap (λ l. get_or l q false) is ∙ get_or-set_other marks p q true false differ ∙ so_far q ∙ or_same (slice_index_or before q false) _ _ (up_to first q p differ)

    by : (q < p) ⊎ ((p < q) ⊎ (q ≡ p)) → slice_index_or now q false ≡ (slice_index_or before q false || (nat_le first q && nat_lt q (p + 1)))
    by (inl h) = other (λ e. omega (arith, h, e))
    by (inr (inl h)) = other (λ e. omega (arith, h, e))
    by (inr (inr h)) = subst (λ k. slice_index_or now k false ≡ (slice_index_or before k false || (nat_le first k && nat_lt k (p + 1)))) (sym h)
        (ap (λ l. get_or l p false) is ∙ get_or-set_same marks p true false lt ∙ here_true (slice_index_or before p false) first p le)

pub mark_ends : (before marks : List Bool) (first end p : ℕ) → end ≤ p → p ≤ max first end
    → ((q : ℕ) → slice_index_or marks q false ≡ (slice_index_or before q false || (nat_le first q && nat_lt q p)))
    → (q : ℕ) → slice_index_or marks q false ≡ (slice_index_or before q false || (nat_le first q && nat_lt q end))
mark_ends before marks first end p past most so_far q = so_far q ∙ or_same (slice_index_or before q false) _ _ (by (less_or_same q end))
  where
    by : (q < end) ⊎ ((end < q) ⊎ (q ≡ end)) → (nat_le first q && nat_lt q p) ≡ (nat_le first q && nat_lt q end)
    by (inl h) = let lt : q < p = omega (arith, h, past) in ap (λ b. nat_le first q && b) (grind (arith, h, lt))
    by (inr (inl h)) = after (omega (arith, h))
      where
        after : end ≤ q → (nat_le first q && nat_lt q p) ≡ (nat_le first q && nat_lt q end)
        after h = from (less_or_same first q)
          where
            from : (first < q) ⊎ ((q < first) ⊎ (first ≡ q)) → (nat_le first q && nat_lt q p) ≡ (nat_le first q && nat_lt q end)
            from (inl a) = let afterwards : p ≤ q = omega (arith, most, a, h) in ap (λ b. nat_le first q && b) (grind (arith, afterwards, h))
            from (inr (inl a)) = grind (arith, a)
            from (inr (inr a)) = let afterwards : p ≤ q = omega (arith, most, a, h) in ap (λ b. nat_le first q && b) (grind (arith, afterwards, h))
    by (inr (inr h)) = from (less_or_same first q)
      where
        from : (first < q) ⊎ ((q < first) ⊎ (first ≡ q)) → (nat_le first q && nat_lt q p) ≡ (nat_le first q && nat_lt q end)
        from (inl a) = let afterwards : p ≤ q = omega (arith, most, a, h) in ap (λ b. nat_le first q && b) (grind (arith, afterwards, h))
        from (inr (inl a)) = grind (arith, a)
        from (inr (inr a)) = let afterwards : p ≤ q = omega (arith, most, a, h) in ap (λ b. nat_le first q && b) (grind (arith, afterwards, h))

-- nets by their names

abbrev pub any_bit : List ℕ → ℕ → Bit
any_bit n p = record { path = []; net = n; place = p }

module _ (m : PlainModule) (differ : NetNamesDiffer) (n : List ℕ) where
  pub names_are : map (λ (net : NetInfo). net.name) (nets_of m) ≡ net_names m
  names_are = map-map (λ (net : NetInfo). net.name) (net_of m) (net_names m) ∙ map-id (net_names m)

  pub named_at : (j : ℕ) → lookup (same_name n) (placed 0 (map (λ net. net.name) (nets_of m))) ≡ Some j → slice_get (nets_of m) j ≡ Some (net_of m n)
  named_at j found =
      let p = place-holds (map (λ (net : NetInfo). net.name) (nets_of m)) 0 n j found in
      let is : j ≡ p.0 = omega (arith, p.1) in
      ap (slice_get (nets_of m)) is ∙ got-map (net_of m) (net_names m) p.0 n (ap (λ l. slice_get l p.0) (sym names_are) ∙ p.2)

  found_at : (k : ℕ) (net : NetInfo) → slice_get (nets_of m) k ≡ Some net → net.name ≡ n → lookup (same_name n) (placed 0 (map (λ net. net.name) (nets_of m))) ≡ Some k
  found_at k net at named = holds-place (map (λ (net : NetInfo). net.name) (nets_of m)) 0 n k (differ m) (got-map (λ (net : NetInfo). net.name) (nets_of m) k net at ∙ ap Some named) ∙ ap Some (plus k)
    where
      plus : (k : ℕ) → 0 + k ≡ k
      plus k = omega arith

  pub one_place : (j k : ℕ) (net : NetInfo) → lookup (same_name n) (placed 0 (map (λ net. net.name) (nets_of m))) ≡ Some j → slice_get (nets_of m) k ≡ Some net → net.name ≡ n → k ≡ j
  one_place j k net found at named = let same : Some k ≡ Some j = sym (found_at k net at named) ∙ found in grind (arith, same)

  pub no_place : (k : ℕ) (net : NetInfo) → lookup (same_name n) (placed 0 (map (λ net. net.name) (nets_of m))) ≡ None → slice_get (nets_of m) k ≡ Some net → same_name net.name n ≡ false
  no_place k net none at = by (same_name net.name n) refl
    where
      by : (b : Bool) → same_name net.name n ≡ b → same_name net.name n ≡ false
      by true e = let no : None ≡ Some k = sym none ∙ found_at k net at (same_equal net.name n e) in cc
      by false e = e

-- which bits are among those of a net

any_in : (n : List ℕ) (p a count : ℕ) → list_any (same_bit (any_bit n p)) (bits_from [] n a count) ≡ (nat_le a p && nat_lt p (a + count))
any_in n p a zero = grind arith
any_in n p a (suc count) = ap (λ b. (b && p == a) || list_any (same_bit (any_bit n p)) (bits_from [] n (a + 1) count)) (same_self n) ∙ ap (λ b. p == a || b) (any_in n p (a + 1) count) ∙ by (less_or_same p a)
  where
    by : (p < a) ⊎ ((a < p) ⊎ (p ≡ a)) → (p == a || (nat_le (a + 1) p && nat_lt p (a + 1 + count))) ≡ (nat_le a p && nat_lt p (a + suc count))
    by (inl h) = grind (arith, h, nat_tests)
    by (inr (inl h)) = grind (arith, h, nat_tests)
    by (inr (inr h)) = grind (arith, h, nat_tests)

any_other : (k n : List ℕ) (p a count : ℕ) → same_name k n ≡ false → list_any (same_bit (any_bit k p)) (bits_from [] n a count) ≡ false
any_other k n p a zero other = refl
any_other k n p a (suc count) other = ap (λ b. (b && p == a) || list_any (same_bit (any_bit k p)) (bits_from [] n (a + 1) count)) other ∙ any_other k n p (a + 1) count other

module _ (m : PlainModule) (n : List ℕ) where
  among : (part : Option (ℕ × ℕ)) (p : ℕ) → list_any (same_bit (any_bit n p)) (named_bits m n part) ≡ is_among (range_of m n) part p
  among None p = any_in n p 0 (range_width (range_of m n)) ∙ grind arith
  among (Some x) p = any_in n p (place_of (range_of m n) x.0) (distance x.0 x.1 + 1)

  not_among : (part : Option (ℕ × ℕ)) (k : List ℕ) (p : ℕ) → same_name k n ≡ false → list_any (same_bit (any_bit k p)) (named_bits m n part) ≡ false
  not_among None k p other = any_other k n p 0 (range_width (range_of m n)) other
  not_among (Some x) k p other = any_other k n p (place_of (range_of m n) x.0) (distance x.0 x.1 + 1) other

or_false : (a b : Bool) → b ≡ false → (a || b) ≡ a
or_false true b e = refl
or_false false b e = e

module _ (m : PlainModule) (differ : NetNamesDiffer) (n : List ℕ) (part : Option (ℕ × ℕ)) (rows : List (List Bool)) (bits : List Bit) (are : AreMarks (nets_of m) rows bits) where
  abbrev names : List (List ℕ × ℕ)
  names = placed 0 (map (λ net. net.name) (nets_of m))

  unchanged : (net : NetInfo) (p : ℕ) → same_name net.name n ≡ false → list_any (same_bit (any_bit net.name p)) (bits ++ named_bits m n part) ≡ list_any (same_bit (any_bit net.name p)) bits
  unchanged net p other = list_any-append (same_bit (any_bit net.name p)) bits (named_bits m n part) ∙ or_false (list_any (same_bit (any_bit net.name p)) bits) _ (not_among m n part net.name p other)

  -- a name that no net has
  pub none_marked : lookup (same_name n) names ≡ None → AreMarks (nets_of m) rows (bits ++ named_bits m n part)
  none_marked none = record {
    long = are.long;
    whole = are.whole;
    marked = λ k p net at lt. are.marked k p net at lt ∙ sym (unchanged net p (no_place m differ n k net none at));
  }

  module _ (j : ℕ) (found : lookup (same_name n) names ≡ Some j) where
    pub is_there : j < length rows
    is_there = let g = got (nets_of m) j (net_of m n) (net_of m n) (named_at m differ n j found) in omega (arith, g.0, are.long)

    pub row_whole : (length (slice_index_or rows j []) ≡ 0) ⊎ (length (slice_index_or rows j []) ≡ range_width (range_of m n))
    row_whole = are.whole j (net_of m n) (named_at m differ n j found)

    pub some_marked : (row : List Bool) → length row ≡ range_width (range_of m n)
        → ((p : ℕ) → p < range_width (range_of m n) → slice_index_or row p false ≡ (slice_index_or (slice_index_or rows j []) p false || is_among (range_of m n) part p))
        → AreMarks (nets_of m) (set rows j row) (bits ++ named_bits m n part)
    some_marked row whole set_there = record {
      long = length-set rows j row ∙ are.long;
      whole = λ k net at. whole_at k net at (less_or_same k j);
      marked = λ k p net at lt. marked_at k p net at lt (less_or_same k j);
    }
      where
        here : slice_index_or (set rows j row) j [] ≡ row
        here = get_or-set_same rows j row [] is_there

        there : (k : ℕ) → k ≢ j → slice_index_or (set rows j row) k [] ≡ slice_index_or rows k []
        there k other = get_or-set_other rows j k row [] other

        net_is : (net : NetInfo) → slice_get (nets_of m) j ≡ Some net → net_of m n ≡ net
        net_is net at = let same : Some (net_of m n) ≡ Some net = sym (named_at m differ n j found) ∙ at in grind (arith, same)

        whole_other : (k : ℕ) (net : NetInfo) → slice_get (nets_of m) k ≡ Some net → k ≢ j → (length (slice_index_or (set rows j row) k []) ≡ 0) ⊎ (length (slice_index_or (set rows j row) k []) ≡ range_width net.range)
        whole_other k net at other = subst (λ (r : List Bool). (length r ≡ 0) ⊎ (length r ≡ range_width net.range)) (sym (there k other)) (are.whole k net at)

        whole_at : (k : ℕ) (net : NetInfo) → slice_get (nets_of m) k ≡ Some net → (k < j) ⊎ ((j < k) ⊎ (k ≡ j)) → (length (slice_index_or (set rows j row) k []) ≡ 0) ⊎ (length (slice_index_or (set rows j row) k []) ≡ range_width net.range)
        whole_at k net at (inl h) = whole_other k net at (λ e. omega (arith, h, e))
        whole_at k net at (inr (inl h)) = whole_other k net at (λ e. omega (arith, h, e))
        whole_at k net at (inr (inr h)) = inr (ap (λ i. length (slice_index_or (set rows j row) i [])) h ∙ ap length here ∙ whole ∙ ap (λ (x : NetInfo). range_width x.range) (net_is net (ap (slice_get (nets_of m)) (sym h) ∙ at)))

        marked_other : (k p : ℕ) (net : NetInfo) → slice_get (nets_of m) k ≡ Some net → p < range_width net.range → k ≢ j
            → slice_index_or (slice_index_or (set rows j row) k []) p false ≡ list_any (same_bit (any_bit net.name p)) (bits ++ named_bits m n part)
        marked_other k p net at lt other = ap (λ r. slice_index_or r p false) (there k other) ∙ are.marked k p net at lt ∙ sym (unchanged net p (by (same_name net.name n) refl))
          where
            by : (b : Bool) → same_name net.name n ≡ b → same_name net.name n ≡ false
            by true e = absurd (other (one_place m differ n j k net found at (same_equal net.name n e)))
            by false e = e

        marked_here : (p : ℕ) → p < range_width (range_of m n) → slice_index_or (slice_index_or (set rows j row) j []) p false ≡ list_any (same_bit (any_bit n p)) (bits ++ named_bits m n part)
        marked_here p lt = ap (λ r. slice_index_or r p false) here ∙ set_there p lt
            ∙ ap (λ b. b || is_among (range_of m n) part p) (are.marked j p (net_of m n) (named_at m differ n j found) lt)
            ∙ ap (λ b. list_any (same_bit (any_bit n p)) bits || b) (sym (among m n part p)) ∙ sym (list_any-append (same_bit (any_bit n p)) bits (named_bits m n part))

        marked_at : (k p : ℕ) (net : NetInfo) → slice_get (nets_of m) k ≡ Some net → p < range_width net.range → (k < j) ⊎ ((j < k) ⊎ (k ≡ j))
            → slice_index_or (slice_index_or (set rows j row) k []) p false ≡ list_any (same_bit (any_bit net.name p)) (bits ++ named_bits m n part)
        marked_at k p net at lt (inl h) = marked_other k p net at lt (λ e. omega (arith, h, e))
        marked_at k p net at lt (inr (inl h)) = marked_other k p net at lt (λ e. omega (arith, h, e))
        marked_at k p net at lt (inr (inr h)) =
            let is = net_is net (ap (slice_get (nets_of m)) (sym h) ∙ at) in
            ap (λ i. slice_index_or (slice_index_or (set rows j row) i []) p false) h ∙ marked_here p (subst (λ (x : NetInfo). p < range_width x.range) (sym is) lt)
            ∙ ap (λ (x : NetInfo). list_any (same_bit (any_bit x.name p)) (bits ++ named_bits m n part)) is

-- as the code sees it
module _ (facts : ModuleFacts) (has : HasNets facts) (differ : NetNamesDiffer) (n : List ℕ) (part : Option (ℕ × ℕ)) (rows : List (Vec Bool Global)) where
  abbrev row_lists : List (List Bool)
  row_lists = map (λ row. row.items) rows

  looked_up : (o : Option ℕ) → lookup (same_name n) facts.index ≡ o → lookup (same_name n) (placed 0 (map (λ net. net.name) (nets_of (syntax facts)))) ≡ o
  looked_up o e = ap (λ (nets : List NetInfo). lookup (same_name n) (placed 0 (map (λ net. net.name) nets))) (sym has.nets) ∙ ap (lookup (same_name n)) (sym has.index) ∙ e

  pub none_named : (bits : List Bit) → lookup (same_name n) facts.index ≡ None → AreMarks facts.nets row_lists bits → AreMarks facts.nets row_lists (bits ++ named_bits (syntax facts) n part)
  none_named bits none are = subst (λ nets. AreMarks nets row_lists (bits ++ named_bits (syntax facts) n part)) (sym has.nets)
      (none_marked (syntax facts) differ n part row_lists bits (subst (λ nets. AreMarks nets row_lists bits) has.nets are) (looked_up None none))

  module _ (j : ℕ) (found : lookup (same_name n) facts.index ≡ Some j) where
    pub net_there : j < length facts.nets
    net_there = let g = got (nets_of (syntax facts)) j (net_of (syntax facts) n) (net_of (syntax facts) n) (named_at (syntax facts) differ n j (looked_up (Some j) found)) in omega (arith, g.0, ap length has.nets)

    pub range_there : (net : NetInfo) → net ≡ get_or facts.nets j net → net.range ≡ range_of (syntax facts) n
    range_there net at =
        let g = got (nets_of (syntax facts)) j (net_of (syntax facts) n) net (named_at (syntax facts) differ n j (looked_up (Some j) found)) in
        ap (λ (x : NetInfo). x.range) (at ∙ ap (λ nets. get_or nets j net) has.nets ∙ g.1)

    pub row_there : (bits : List Bit) → AreMarks facts.nets row_lists bits → j < length rows
    row_there bits are = omega (arith, net_there, are.long, length-map rows (λ (row : Vec Bool Global). row.items))

    row_is : (row : Vec Bool Global) → j < length rows → slice_index_or row_lists j [] ≡ (get_or rows j row).items
    row_is row lt = get_or-map (λ (row : Vec Bool Global). row.items) rows j row [] lt

    pub row_fits : (bits : List Bit) → AreMarks facts.nets row_lists bits → (row : Vec Bool Global) (net : NetInfo) → net ≡ get_or facts.nets j net
        → (length (get_or rows j row).items ≡ 0) ⊎ (length (get_or rows j row).items ≡ range_width net.range)
    row_fits bits are row net at =
        subst (λ (r : List Bool). (length r ≡ 0) ⊎ (length r ≡ range_width net.range)) (row_is row (row_there bits are))
        (subst (λ range. (length (slice_index_or row_lists j []) ≡ 0) ⊎ (length (slice_index_or row_lists j []) ≡ range_width range)) (sym (range_there net at))
        (row_whole (syntax facts) differ n part row_lists bits (subst (λ nets. AreMarks nets row_lists bits) has.nets are) j (looked_up (Some j) found)))

    pub one_marked : (bits : List Bit) → AreMarks facts.nets row_lists bits → (row now : Vec Bool Global) (net : NetInfo) → net ≡ get_or facts.nets j net
        → length now.items ≡ range_width net.range
        → ((p : ℕ) → p < range_width net.range → slice_index_or now.items p false ≡ (slice_index_or (get_or rows j row).items p false || is_among net.range part p))
        → AreMarks facts.nets (map (λ row. row.items) (set rows j now)) (bits ++ named_bits (syntax facts) n part)
    one_marked bits are row now net at whole marked =
        let range = range_there net at in
        let lt = row_there bits are in
        subst (λ nets. AreMarks nets (map (λ row. row.items) (set rows j now)) (bits ++ named_bits (syntax facts) n part)) (sym has.nets)
        (subst (λ all. AreMarks (nets_of (syntax facts)) all (bits ++ named_bits (syntax facts) n part)) (sym (map-set (λ (row : Vec Bool Global). row.items) rows j now))
        (some_marked (syntax facts) differ n part row_lists bits (subst (λ nets. AreMarks nets row_lists bits) has.nets are) j (looked_up (Some j) found) now.items
        (whole ∙ ap range_width range)
        (λ p small. marked p (subst (λ r. p < range_width r) (sym range) small)
        ∙ ap (λ r. r || is_among net.range part p) (ap (λ l. slice_index_or l p false) (sym (row_is row lt)))
        ∙ ap (λ r. slice_index_or (slice_index_or row_lists j []) p false || is_among r part p) range)))

-- how many are marked

next_place : (a p : ℕ) → a + suc p ≡ (a + 1) + p
next_place a p = omega arith

first_place : (a : ℕ) → a + 0 ≡ a
first_place a = omega arith

one_more : (q : Bit → Bool) (b c : Bool) (xs : List Bool) (ys : List Bit) (y : Bit) → b ≡ c → length (filter (λ mark. mark) xs) ≡ length (filter q ys) → q y ≡ c → length (filter (λ mark. mark) (b ∷ xs)) ≡ length (filter q (y ∷ ys))
one_more q true true xs ys y e same at = omega (arith, same, ap (λ b. length (if b then y ∷ filter q ys else filter q ys)) at)
one_more q false false xs ys y e same at = same ∙ sym (ap (λ b. length (if b then y ∷ filter q ys else filter q ys)) at)
one_more q true false xs ys y e same at = absurd (true≢false e)
one_more q false true xs ys y e same at = absurd (true≢false (sym e))

count_row : (q : Bit → Bool) (n : List ℕ) (w a : ℕ) (row : List Bool) → length row ≤ w → ((p : ℕ) → p < w → slice_index_or row p false ≡ q (any_bit n (a + p)))
    → length (filter (λ mark. mark) row) ≡ length (filter q (bits_from [] n a w))
count_row q n zero a [] short is = refl
count_row q n zero a (b ∷ row) short is = absurd (omega (arith, short))
count_row q n (suc w) a [] short is =
    let here : q (any_bit n a) ≡ false = ap (λ i. q (any_bit n i)) (sym (first_place a)) ∙ sym (is 0 (omega arith)) in
    count_row q n w (a + 1) [] (omega arith) (λ p lt. is (suc p) (omega (arith, lt)) ∙ ap (λ i. q (any_bit n i)) (next_place a p))
    ∙ sym (ap (λ b. length (if b then any_bit n a ∷ filter q (bits_from [] n (a + 1) w) else filter q (bits_from [] n (a + 1) w))) here)
count_row q n (suc w) a (b ∷ row) short is = one_more q b (q (any_bit n a)) row (bits_from [] n (a + 1) w) (any_bit n a) (is 0 (omega arith) ∙ ap (λ i. q (any_bit n i)) (first_place a))
    (count_row q n w (a + 1) row (omega (arith, short)) (λ p lt. is (suc p) (omega (arith, lt)) ∙ ap (λ i. q (any_bit n i)) (next_place a p))) refl

count_rows : (bits : List Bit) (nets : List NetInfo) (rows : List (List Bool)) → AreMarks nets rows bits
    → sum_by (λ row. length (filter (λ mark. mark) row)) rows ≡ length (filter (λ b. list_any (same_bit b) bits) (flat_map (bits_of_net []) nets))
count_rows bits [] [] are = refl
count_rows bits [] (row ∷ rows) are = absurd (omega (arith, are.long))
count_rows bits (net ∷ nets) [] are = absurd (omega (arith, are.long))
count_rows bits (net ∷ nets) (row ∷ rows) are =
    let q = λ (b : Bit). list_any (same_bit b) bits in
    sum_by-cons (λ (row : List Bool). length (filter (λ mark. mark) row)) row rows
    ∙ ap (λ k. k + sum_by (λ (row : List Bool). length (filter (λ mark. mark) row)) rows) (count_row q net.name (range_width net.range) 0 row (short (are.whole 0 net refl)) (λ p lt. are.marked 0 p net refl lt ∙ ap (λ i. q (any_bit net.name i)) (zero_plus p)))
    ∙ ap (λ k. length (filter q (bits_of_net [] net)) + k) (count_rows bits nets rows (record { long = tail_long; whole = λ k x at. are.whole (suc k) x at; marked = λ k p x at lt. are.marked (suc k) p x at lt }))
    ∙ sym (ap length (filter-append q (bits_of_net [] net) (flat_map (bits_of_net []) nets)) ∙ length-append (filter q (bits_of_net [] net)) (filter q (flat_map (bits_of_net []) nets)))
  where
    zero_plus : (p : ℕ) → p ≡ 0 + p
    zero_plus p = omega arith

    short : (length row ≡ 0) ⊎ (length row ≡ range_width net.range) → length row ≤ range_width net.range
    short (inl h) = omega (arith, h)
    short (inr h) = omega (arith, h)

    tail_long : length rows ≡ length nets
    tail_long = omega (arith, are.long)

unmarked : (n k : ℕ) → get_or {A = List Bool} (replicate n []) k [] ≡ []
unmarked zero k = refl
unmarked (suc n) zero = refl
unmarked (suc n) (suc k) = unmarked n k

long_unmarked : (n : ℕ) → length {A = List Bool} (replicate n []) ≡ n
long_unmarked zero = refl
long_unmarked (suc n) = ap suc (long_unmarked n)

pub nothing_marked : (nets : List NetInfo) (rows : List (List Bool)) → rows ≡ replicate (length nets) [] → AreMarks nets rows []
nothing_marked nets rows is = record {
  long = ap length is ∙ long_unmarked (length nets);
  whole = λ k net at. inl (ap length (here k));
  marked = λ k p net at lt. ap (λ (row : List Bool). slice_index_or row p false) (here k);
}
  where
    here : (k : ℕ) → slice_index_or rows k [] ≡ []
    here k = ap (λ all. get_or all k []) is ∙ unmarked (length nets) k

pub all_counted : (facts : ModuleFacts) → HasNets facts → (rows : List (List Bool)) → AreMarks facts.nets rows (stored_bits (syntax facts)) → sum_by (λ row. length (filter (λ mark. mark) row)) rows ≡ register_count (syntax facts)
all_counted facts has rows are = count_rows (stored_bits (syntax facts)) facts.nets rows are ∙ ap (λ nets. length (filter (λ b. list_any (same_bit b) (stored_bits (syntax facts))) (flat_map (bits_of_net []) nets))) has.nets

pub below_cap : (m here count : ℕ) → here ≡ count → here < m + 1 → here ≡ min m count
below_cap m here count is small = omega (arith, is, small)

-- expressions

pub bit_written : (m : PlainModule) (e : Expr) (n : List ℕ) (i : ℕ) → e ≡ of.Bit n i → written_bits (any_scope m) (expression e) ≡ named_bits m n (Some (i, i))
bit_written m e n i is = ap (written_bits (any_scope m)) view ∙ ap (bits_from [] n (place_of (range_of m n) i)) one
  where
    view : expression e ≡ BitOf n i
    view = rw (fold_out-Expr Expression layer e, is, outs-Bit n i) refl

    one : 1 ≡ distance i i + 1
    one = omega arith

flat_same : {A B : Type 0} (f : A → List B) (xs : List A) → flat_map (λ ys. ys) (map f xs) ≡ flat_map f xs
flat_same f [] = refl
flat_same f (x ∷ xs) = ap (λ ys. f x ++ ys) (flat_same f xs)

pub parts_written : (m : PlainModule) (e : Expr) (all : Vec Expr Global) → e ≡ of.Concat all → written_bits (any_scope m) (expression e) ≡ flat_map (written_bits (any_scope m)) (map expression all.items)
parts_written m e all is = ap (written_bits (any_scope m)) view ∙ ap (flat_map (λ bits. bits)) (sees_parts (λ e a. a) (assigned (any_scope m)) (map expression all.items)) ∙ flat_same (written_bits (any_scope m)) (map expression all.items)
  where
    view : expression e ≡ Concat (listed_parts (map expression all.items))
    view = rw (fold_out-Expr Expression layer e, is, outs-Concat all) refl

-- loops

module _ {X Y Z : Type 0} (h : Y → List Z) (f : X → Y) (xs : List X) (i : ℕ) (bits : List Z) where
  pub flat_more : (x : X) → i < length xs → x ≡ get_or xs i x → (bits ++ flat_map h (map f (take i xs))) ++ h (f x) ≡ bits ++ flat_map h (map f (take (i + 1) xs))
  flat_more x within at =
      append_assoc bits (flat_map h (map f (take i xs))) (h (f x)) ∙ ap (λ l. bits ++ l)
      (sym (ap (flat_map h) (map_more f xs i x within ∙ ap (λ y. map f (take i xs) ++ f y ∷ []) (sym at)) ∙ flat_map-append h (map f (take i xs)) (f x ∷ []) ∙ ap (λ l. flat_map h (map f (take i xs)) ++ l) (append-nil (h (f x)))))

  pub flat_all : length xs ≤ i → bits ++ flat_map h (map f (take i xs)) ≡ bits ++ flat_map h (map f xs)
  flat_all past = ap (λ ys. bits ++ flat_map h (map f ys)) (take_all i xs past)
