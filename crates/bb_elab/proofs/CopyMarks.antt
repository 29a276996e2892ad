-- Marks along copies in a list of cells.
use Rattle.std.proofs.Common.{◌≡◌, ◌≢◌, ◌⊎◌, ℕ, ◌+◌, ◌<◌, Bool, true, false, List, [], ◌∷◌, ◌++◌, length, get_or, set, All, Contains, refl, sym, ap, ◌∙◌, subst, inl, inr, arith, true≢false}
use Rattle.std.specs.Prelude.{if◌then◌else◌, replicate, slice_index_or}
use Rattle.std.proofs.lemmas.List.Elements.{All-contains, Contains-append_cases, Contains-append_left, Contains-append_right}
use Rattle.std.specs.List.{flat_map}
use Rattle.std.proofs.lemmas.List.{get_or_default, get_or-set_same, get_or-set_other, length-set}
use Rattle.bb_net.specs.declared.loose.LooseCell.{LooseCell}
use Rattle.bb_net.specs.declared.loose.LooseCell.TheVariants.{Const, Input, Not, And, Or, Xor, Mux, BoxOut, Copy}
use Rattle.bb_bits.specs.Closures.{Leads, One, More}
use Rattle.bb_implements.specs.Inside.ReadPlaces.{read_by, copy_steps, read_places, FollowsAt, IsReadPlace, AreClosed}
use Rattle.bb_net.specs.Loose.{LooseList, loose_at, operand_places, IsLoose}
use Rattle.bb_net.specs.Netlists.{Pins, box_at}
use Rattle.bb_lemmas.proofs.Members.{from_flat, contains_here, contains_cases, none_in_nil}
use Rattle.bb_lemmas.proofs.Orders.{less_or_same}
use Rattle.bb_lemmas.proofs.Marks.{unmarked_at}
use Rattle.bb_implements.specs.Laws.CellLaws.{CellLaws}

pub leads_on : {A : Type 0} (steps : List (A × A)) (a b c : A) → Leads steps a b → Contains steps (b, c) → Leads steps a c
leads_on steps a b c (One has) step = More has (One step)
leads_on steps a b c (More {y = y} has rest) step = More has (leads_on steps y b c rest step)

-- marks while copies are followed: the place at which the walk is may be not marked yet
pub record AreFollowed (cells : List LooseCell) (before marks : List Bool) (start place : ℕ) : Type 0 where
  pub long : length marks ≡ length cells
  pub closed : (j k : ℕ) → slice_index_or marks j false ≡ true → Contains (copy_steps cells) (j, k) → k < length marks → (slice_index_or marks k false ≡ true) ⊎ (k ≡ place)
  pub kept : (k : ℕ) → slice_index_or before k false ≡ true → slice_index_or marks k false ≡ true
  pub only : (k : ℕ) → slice_index_or marks k false ≡ true → (slice_index_or before k false ≡ true) ⊎ FollowsAt cells start k
  pub begun : (start ≡ place) ⊎ (slice_index_or marks start false ≡ true)
  pub follows : (place < length cells) → slice_index_or marks place false ≡ false → FollowsAt cells start place

pub follow_starts : (cells : List LooseCell) (marks : List Bool) (start : ℕ) → length marks ≡ length cells → AreClosed cells marks → AreFollowed cells marks marks start start
follow_starts cells marks start long closed = record {
  long = long;
  closed = λ j k on step lt. inl (closed j k on step lt);
  kept = λ k on. on;
  only = λ k on. inl on;
  begun = inl refl;
  follows = λ lt off. inl refl;
}

pub follow_goes : (cells : List LooseCell) (before marks now : List Bool) (start place next : ℕ) → AreFollowed cells before marks start place → place < length marks → slice_index_or marks place false ≡ false → now ≡ set marks place true
    → (next ≡ place) ⊎ Contains (copy_steps cells) (place, next) → ((k : ℕ) → Contains (copy_steps cells) (place, k) → k ≡ next) → AreFollowed cells before now start next
follow_goes cells before marks now start place next are lt off is to only = record {
  long = ap length is ∙ length-set marks place true ∙ are.long;
  closed = closed;
  kept = λ k on. on_stays k (are.kept k on);
  only = λ k on. which k on (less_or_same k place);
  begun = inr begun;
  follows = λ small dark. by to dark;
}
  where
    here : slice_index_or now place false ≡ true
    here = ap (λ l. get_or l place false) is ∙ get_or-set_same marks place true false lt

    other : (k : ℕ) → k ≢ place → slice_index_or now k false ≡ slice_index_or marks k false
    other k differ = ap (λ l. get_or l k false) is ∙ get_or-set_other marks place k true false differ

    long : length now ≡ length marks
    long = ap length is ∙ length-set marks place true

    on_stays : (k : ℕ) → slice_index_or marks k false ≡ true → slice_index_or now k false ≡ true
    on_stays k on = other k (λ e. true≢false (sym on ∙ ap (λ j. slice_index_or marks j false) e ∙ off)) ∙ on

    reach : FollowsAt cells start place
    reach = are.follows (omega (arith, lt, are.long)) off

    was_on : (k : ℕ) → k ≢ place → slice_index_or now k false ≡ true → slice_index_or marks k false ≡ true
    was_on k differ on = sym (other k differ) ∙ on

    which : (k : ℕ) → slice_index_or now k false ≡ true → (k < place) ⊎ ((place < k) ⊎ (k ≡ place)) → (slice_index_or before k false ≡ true) ⊎ FollowsAt cells start k
    which k on (inl h) = are.only k (was_on k (λ e. omega (arith, h, e)) on)
    which k on (inr (inl h)) = are.only k (was_on k (λ e. omega (arith, h, e)) on)
    which k on (inr (inr h)) = inr (subst (FollowsAt cells start) (sym h) reach)

    begun : slice_index_or now start false ≡ true
    begun = from are.begun
      where
        from : (start ≡ place) ⊎ (slice_index_or marks start false ≡ true) → slice_index_or now start false ≡ true
        from (inl same) = ap (λ k. slice_index_or now k false) same ∙ here
        from (inr on) = on_stays start on

    by : (next ≡ place) ⊎ Contains (copy_steps cells) (place, next) → slice_index_or now next false ≡ false → FollowsAt cells start next
    by (inl same) dark = absurd (true≢false (sym here ∙ ap (λ k. slice_index_or now k false) (sym same) ∙ dark))
    by (inr step) dark = inr (from reach)
      where
        from : FollowsAt cells start place → Leads (copy_steps cells) start next
        from (inl same) = One (subst (λ j. Contains {X = ℕ × ℕ} (copy_steps cells) (j, next)) (sym same) step)
        from (inr leads) = leads_on (copy_steps cells) start place next leads step

    closed : (j k : ℕ) → slice_index_or now j false ≡ true → Contains (copy_steps cells) (j, k) → k < length now → (slice_index_or now k false ≡ true) ⊎ (k ≡ next)
    closed j k on step small = at (less_or_same j place)
      where
        old : j ≢ place → (slice_index_or now k false ≡ true) ⊎ (k ≡ next)
        old differ = from (are.closed j k (was_on j differ on) step (omega (arith, small, long)))
          where
            from : (slice_index_or marks k false ≡ true) ⊎ (k ≡ place) → (slice_index_or now k false ≡ true) ⊎ (k ≡ next)
            from (inl h) = inl (on_stays k h)
            from (inr h) = inl (ap (λ i. slice_index_or now i false) h ∙ here)

        at : (j < place) ⊎ ((place < j) ⊎ (j ≡ place)) → (slice_index_or now k false ≡ true) ⊎ (k ≡ next)
        at (inl h) = old (λ e. omega (arith, h, e))
        at (inr (inl h)) = old (λ e. omega (arith, h, e))
        at (inr (inr h)) = inr (only k (subst (λ i. Contains {X = ℕ × ℕ} (copy_steps cells) (i, k)) h step))

-- at the end the place is marked, or it is not in the list
pub follow_ends : (cells : List LooseCell) (before marks : List Bool) (start place : ℕ) → AreFollowed cells before marks start place → (place < length marks → slice_index_or marks place false ≡ true)
    → AreClosed cells marks × (start < length cells → slice_index_or marks start false ≡ true)
follow_ends cells before marks start place are marked = (closed, begun are.begun)
  where
    closed : AreClosed cells marks
    closed j k on step lt = from (are.closed j k on step lt)
      where
        from : (slice_index_or marks k false ≡ true) ⊎ (k ≡ place) → slice_index_or marks k false ≡ true
        from (inl h) = h
        from (inr h) = ap (λ i. slice_index_or marks i false) h ∙ marked (omega (arith, lt, h))

    begun : (start ≡ place) ⊎ (slice_index_or marks start false ≡ true) → start < length cells → slice_index_or marks start false ≡ true
    begun (inl same) lt = ap (λ i. slice_index_or marks i false) same ∙ marked (omega (arith, lt, same, are.long))
    begun (inr on) lt = on

-- places from which copies are followed, one after another
pub record AreAllFollowed (cells : List LooseCell) (before marks : List Bool) (starts : List ℕ) : Type 0 where
  pub long : length marks ≡ length cells
  pub closed : AreClosed cells marks
  pub started : (s : ℕ) → Contains starts s → s < length cells → slice_index_or marks s false ≡ true
  pub kept : (k : ℕ) → slice_index_or before k false ≡ true → slice_index_or marks k false ≡ true
  pub only : (k : ℕ) → slice_index_or marks k false ≡ true → (slice_index_or before k false ≡ true) ⊎ ((s : ℕ) × Contains starts s × FollowsAt cells s k)

pub none_followed : (cells : List LooseCell) (marks : List Bool) → length marks ≡ length cells → AreClosed cells marks → AreAllFollowed cells marks marks []
none_followed cells marks long closed = record {
  long = long;
  closed = closed;
  started = λ s has lt. absurd (none_in_nil s has);
  kept = λ k on. on;
  only = λ k on. inl on;
}

pub one_followed : (cells : List LooseCell) (before marks now : List Bool) (starts : List ℕ) (start : ℕ) → AreAllFollowed cells before marks starts → length now ≡ length cells → AreClosed cells now
    → ((k : ℕ) → slice_index_or marks k false ≡ true → slice_index_or now k false ≡ true) → (start < length cells → slice_index_or now start false ≡ true)
    → ((k : ℕ) → slice_index_or now k false ≡ true → (slice_index_or marks k false ≡ true) ⊎ FollowsAt cells start k) → AreAllFollowed cells before now (starts ++ start ∷ [])
one_followed cells before marks now starts start are long closed kept on only = record {
  long = long;
  closed = closed;
  started = λ s has lt. begun s lt (Contains-append_cases starts (start ∷ []) s has);
  kept = λ k h. kept k (are.kept k h);
  only = λ k h. which k (only k h);
}
  where
    begun : (s : ℕ) → s < length cells → Contains starts s ⊎ Contains (start ∷ []) s → slice_index_or now s false ≡ true
    begun s lt (inl h) = kept s (are.started s h lt)
    begun s lt (inr h) = from (contains_cases start [] s h)
      where
        from : (start ≡ s) ⊎ Contains [] s → slice_index_or now s false ≡ true
        from (inl same) = ap (λ i. slice_index_or now i false) (sym same) ∙ on (omega (arith, lt, same))
        from (inr none) = absurd (none_in_nil s none)

    which : (k : ℕ) → (slice_index_or marks k false ≡ true) ⊎ FollowsAt cells start k → (slice_index_or before k false ≡ true) ⊎ ((s : ℕ) × Contains (starts ++ start ∷ []) s × FollowsAt cells s k)
    which k (inr f) = inr (start, Contains-append_right starts (start ∷ []) start (contains_here start []), f)
    which k (inl h) = from (are.only k h)
      where
        from : (slice_index_or before k false ≡ true) ⊎ ((s : ℕ) × Contains starts s × FollowsAt cells s k) → (slice_index_or before k false ≡ true) ⊎ ((s : ℕ) × Contains (starts ++ start ∷ []) s × FollowsAt cells s k)
        from (inl b) = inl b
        from (inr r) = inr (r.0, Contains-append_left starts (start ∷ []) r.0 r.1, r.2)

pub unmarked_closed : (cells : List LooseCell) (marks : List Bool) (n : ℕ) → marks ≡ replicate n false → AreClosed cells marks
unmarked_closed cells marks n is j k on step lt = absurd (unmarked_at n j (ap (λ l. get_or l j false) (sym is) ∙ on))

-- what is followed from marked places is marked, where copies lead to places of the list
pub followed_marked : (cells : List LooseCell) (marks : List Bool) → length marks ≡ length cells → AreClosed cells marks → ((j k : ℕ) → Contains (copy_steps cells) (j, k) → k < length cells) → (j k : ℕ) → slice_index_or marks j false ≡ true → FollowsAt cells j k → slice_index_or marks k false ≡ true
followed_marked cells marks long closed there j k on (inl same) = ap (λ i. slice_index_or marks i false) (sym same) ∙ on
followed_marked cells marks long closed there j k on (inr leads) = along j k on leads
  where
    along : (j k : ℕ) → slice_index_or marks j false ≡ true → Leads (copy_steps cells) j k → slice_index_or marks k false ≡ true
    along j k on (One step) = closed j k on step (omega (arith, there j k step, long))
    along j k on (More {y = y} step rest) = along y k (closed j y on step (omega (arith, there j y step, long))) rest

-- in a list of cells that can be put in order, what is read is in the list

read_operand : (boxes : List Pins) (c : LooseCell) (k : ℕ) → Contains (read_by c) k → Contains (operand_places boxes c) k
read_operand boxes (Const b) k has = has
read_operand boxes (Input i) k has = has
read_operand boxes (Not a) k has = has
read_operand boxes (And a b) k has = has
read_operand boxes (Or a b) k has = has
read_operand boxes (Xor a b) k has = has
read_operand boxes (Mux c t e) k has = has
read_operand boxes (BoxOut b p) k has = absurd (none_in_nil k has)
read_operand boxes (Copy p) k has = absurd (none_in_nil k has)

module _ (of_cells : CellLaws) (l : LooseList) (loose : IsLoose l) where
  copies_there : (j k : ℕ) → Contains (copy_steps l.cells) (j, k) → k < length l.cells
  copies_there j k has =
      let f = (of_cells.copies l.cells j k (Const false)).0 has in
      All-contains (λ k. k < length l.cells) (operand_places l.boxes (loose_at l j)) k (loose.there j f.0) (subst (λ c. Contains (operand_places l.boxes c) k) (sym f.1) (contains_here k []))

  read_there : (clocks : List ℕ) → All (λ p. p < length l.cells) clocks → (j : ℕ) → Contains (read_places l clocks) j → j < length l.cells
  read_there clocks timed j has = by (Contains-append_cases (flat_map read_by l.cells) (flat_map (λ b. b.ins) l.boxes ++ (l.outs ++ clocks)) j has)
    where
      at_end : Contains l.outs j ⊎ Contains clocks j → j < length l.cells
      at_end (inl h) = All-contains (λ p. p < length l.cells) l.outs j loose.outs_there h
      at_end (inr h) = All-contains (λ p. p < length l.cells) clocks j timed h

      after : Contains (flat_map (λ (b : Pins). b.ins) l.boxes) j ⊎ Contains (l.outs ++ clocks) j → j < length l.cells
      after (inl h) =
          let b = from_flat (λ (b : Pins). b.ins) l.boxes j h in
          let at : box_at l.boxes b.1.0 ≡ b.0 = get_or_default l.boxes b.1.0 _ b.0 b.1.1 ∙ b.1.2 in
          All-contains (λ p. p < length l.cells) b.0.ins j (subst (λ (x : Pins). All (λ p. p < length l.cells) x.ins) at (loose.pins_there b.1.0)) b.2
      after (inr h) = at_end (Contains-append_cases l.outs clocks j h)

      by : Contains (flat_map read_by l.cells) j ⊎ Contains (flat_map (λ (b : Pins). b.ins) l.boxes ++ (l.outs ++ clocks)) j → j < length l.cells
      by (inl h) =
          let c = from_flat read_by l.cells j h in
          let at : loose_at l c.1.0 ≡ c.0 = get_or_default l.cells c.1.0 (Const false) c.0 c.1.1 ∙ c.1.2 in
          All-contains (λ p. p < length l.cells) (operand_places l.boxes (loose_at l c.1.0)) j (loose.there c.1.0 c.1.1) (subst (λ u. Contains (operand_places l.boxes u) j) (sym at) (read_operand l.boxes c.0 j c.2))
      by (inr h) = after (Contains-append_cases (flat_map (λ (b : Pins). b.ins) l.boxes) (l.outs ++ clocks) j h)

  pub all_marked : (clocks : List ℕ) → All (λ p. p < length l.cells) clocks → (marks : List Bool) → length marks ≡ length l.cells → AreClosed l.cells marks
      → ((s : ℕ) → Contains (read_places l clocks) s → s < length l.cells → slice_index_or marks s false ≡ true) → (k : ℕ) → IsReadPlace l clocks k → slice_index_or marks k false ≡ true
  all_marked clocks timed marks long closed started k read =
      followed_marked l.cells marks long closed copies_there read.0 k (started read.0 read.1 (read_there clocks timed read.0 read.1)) read.2

-- a copy is one of one place
pub copies_one : (a b : ℕ) → Copy a ≡ Copy b → a ≡ b
copies_one a b e = grind (arith, e)
