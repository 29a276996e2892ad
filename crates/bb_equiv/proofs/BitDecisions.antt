-- What can be reported of bits of a design, and of lists of things of which something can be reported.
use Rattle.std.proofs.Common.{◌≡◌, ◌⊎◌, ℕ, Bool, true, false, true≢false, List, Contains, refl, sym, ap, inl, inr}
use Rattle.std.specs.Prelude.{All}
use Rattle.bb_bits.specs.Closures.{IsFirst}
use Rattle.bb_design.specs.NetBits.{Bit}
use Rattle.bb_lemmas.proofs.Deciding.{Decision, Decides, decide_number, decide_list, decide_both, decide_same, first_or_none}
use Rattle.bb_lemmas.proofs.Firsts.{first_there}
use Rattle.bb_lemmas.proofs.Members.{all_from}

pub decide_name : Decides (List ℕ)
decide_name = decide_list decide_number

pub decide_bit : Decides Bit
decide_bit b c = decide_same (equal, parts) (decide_both (decide_list decide_name b.path c.path) (decide_both (decide_name b.net c.net) (decide_number b.place c.place)))
  where
    equal : (b.path ≡ c.path) × ((b.net ≡ c.net) × (b.place ≡ c.place)) → b ≡ c
    equal h = λ k. record { path = h.0 k; net = h.1.0 k; place = h.1.1 k }

    parts : b ≡ c → (b.path ≡ c.path) × ((b.net ≡ c.net) × (b.place ≡ c.place))
    parts e = (ap (λ (x : Bit). x.path) e, (ap (λ (x : Bit). x.net) e, ap (λ (x : Bit). x.place) e))

pub decide_not : {P : Type 0} → Decision P → Decision (P → ⊥)
decide_not (inl p) = inr (λ n. n p)
decide_not (inr n) = inl n

pub decide_bool : Decides Bool
decide_bool true true = inl refl
decide_bool false false = inl refl
decide_bool true false = inr true≢false
decide_bool false true = inr (λ e. true≢false (sym e))

-- one of a list of which it holds
pub decide_some : {A : Type 0} (Q : A → Type 0) → ((x : A) → Decision (Q x)) → (xs : List A) → Decision ((x : A) × Contains xs x × Q x)
decide_some Q decide xs = from (first_or_none Q decide xs)
  where
    from : ((x : _) → Contains xs x → Q x → ⊥) ⊎ ((x : _) × IsFirst Q xs x) → Decision ((x : _) × Contains xs x × Q x)
    from (inl none) = inr (λ h. none h.0 h.1 h.2)
    from (inr r) = inl (r.0, first_there Q xs r.0 r.1, r.1.holds)

-- what is not false of any is true of all, where it can be reported
pub all_not : {A : Type 0} (Q : A → Type 0) → ((x : A) → Decision (Q x)) → (xs : List A) → ((x : A) → Contains xs x → (Q x → ⊥) → ⊥) → All Q xs
all_not Q decide xs none = all_from Q xs (λ x has. by x has (decide x))
  where
    by : (x : _) → Contains xs x → Decision (Q x) → Q x
    by x has (inl q) = q
    by x has (inr off) = absurd (none x has off)
