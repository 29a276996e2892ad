-- the two bits of a value in three values: known to be 1, known to be 0
use Rattle.std.proofs.Common.{◌≡◌, Bool, true, false, ◌&&◌, ◌||◌, Option, Some, None, refl}
use Rattle.bb_net.specs.Ternary.{not3, and3, or3, xor3, mux3}
use Rattle.bb_sym.specs.Functions.{is_one, is_zero}

pub one_not : (a : Option Bool) → is_one (not3 a) ≡ is_zero a
one_not None = refl
one_not (Some true) = refl
one_not (Some false) = refl

pub zero_not : (a : Option Bool) → is_zero (not3 a) ≡ is_one a
zero_not None = refl
zero_not (Some true) = refl
zero_not (Some false) = refl

pub one_and : (a b : Option Bool) → is_one (and3 a b) ≡ (is_one a && is_one b)
one_and None None = refl
one_and None (Some true) = refl
one_and None (Some false) = refl
one_and (Some true) None = refl
one_and (Some true) (Some true) = refl
one_and (Some true) (Some false) = refl
one_and (Some false) None = refl
one_and (Some false) (Some true) = refl
one_and (Some false) (Some false) = refl

pub zero_and : (a b : Option Bool) → is_zero (and3 a b) ≡ (is_zero a || is_zero b)
zero_and None None = refl
zero_and None (Some true) = refl
zero_and None (Some false) = refl
zero_and (Some true) None = refl
zero_and (Some true) (Some true) = refl
zero_and (Some true) (Some false) = refl
zero_and (Some false) None = refl
zero_and (Some false) (Some true) = refl
zero_and (Some false) (Some false) = refl

pub one_or : (a b : Option Bool) → is_one (or3 a b) ≡ (is_one a || is_one b)
one_or None None = refl
one_or None (Some true) = refl
one_or None (Some false) = refl
one_or (Some true) None = refl
one_or (Some true) (Some true) = refl
one_or (Some true) (Some false) = refl
one_or (Some false) None = refl
one_or (Some false) (Some true) = refl
one_or (Some false) (Some false) = refl

pub zero_or : (a b : Option Bool) → is_zero (or3 a b) ≡ (is_zero a && is_zero b)
zero_or None None = refl
zero_or None (Some true) = refl
zero_or None (Some false) = refl
zero_or (Some true) None = refl
zero_or (Some true) (Some true) = refl
zero_or (Some true) (Some false) = refl
zero_or (Some false) None = refl
zero_or (Some false) (Some true) = refl
zero_or (Some false) (Some false) = refl

pub one_xor : (a b : Option Bool) → is_one (xor3 a b) ≡ ((is_one a && is_zero b) || (is_zero a && is_one b))
one_xor None None = refl
one_xor None (Some true) = refl
one_xor None (Some false) = refl
one_xor (Some true) None = refl
one_xor (Some true) (Some true) = refl
one_xor (Some true) (Some false) = refl
one_xor (Some false) None = refl
one_xor (Some false) (Some true) = refl
one_xor (Some false) (Some false) = refl

pub zero_xor : (a b : Option Bool) → is_zero (xor3 a b) ≡ ((is_one a && is_one b) || (is_zero a && is_zero b))
zero_xor None None = refl
zero_xor None (Some true) = refl
zero_xor None (Some false) = refl
zero_xor (Some true) None = refl
zero_xor (Some true) (Some true) = refl
zero_xor (Some true) (Some false) = refl
zero_xor (Some false) None = refl
zero_xor (Some false) (Some true) = refl
zero_xor (Some false) (Some false) = refl

pub one_mux : (c t e : Option Bool) → is_one (mux3 c t e) ≡ (((is_one c && is_one t) || (is_zero c && is_one e)) || (is_one t && is_one e))
one_mux None None None = refl
one_mux None None (Some true) = refl
one_mux None None (Some false) = refl
one_mux None (Some true) None = refl
one_mux None (Some true) (Some true) = refl
one_mux None (Some true) (Some false) = refl
one_mux None (Some false) None = refl
one_mux None (Some false) (Some true) = refl
one_mux None (Some false) (Some false) = refl
one_mux (Some true) None None = refl
one_mux (Some true) None (Some true) = refl
one_mux (Some true) None (Some false) = refl
one_mux (Some true) (Some true) None = refl
one_mux (Some true) (Some true) (Some true) = refl
one_mux (Some true) (Some true) (Some false) = refl
one_mux (Some true) (Some false) None = refl
one_mux (Some true) (Some false) (Some true) = refl
one_mux (Some true) (Some false) (Some false) = refl
one_mux (Some false) None None = refl
one_mux (Some false) None (Some true) = refl
one_mux (Some false) None (Some false) = refl
one_mux (Some false) (Some true) None = refl
one_mux (Some false) (Some true) (Some true) = refl
one_mux (Some false) (Some true) (Some false) = refl
one_mux (Some false) (Some false) None = refl
one_mux (Some false) (Some false) (Some true) = refl
one_mux (Some false) (Some false) (Some false) = refl

pub zero_mux : (c t e : Option Bool) → is_zero (mux3 c t e) ≡ (((is_one c && is_zero t) || (is_zero c && is_zero e)) || (is_zero t && is_zero e))
zero_mux None None None = refl
zero_mux None None (Some true) = refl
zero_mux None None (Some false) = refl
zero_mux None (Some true) None = refl
zero_mux None (Some true) (Some true) = refl
zero_mux None (Some true) (Some false) = refl
zero_mux None (Some false) None = refl
zero_mux None (Some false) (Some true) = refl
zero_mux None (Some false) (Some false) = refl
zero_mux (Some true) None None = refl
zero_mux (Some true) None (Some true) = refl
zero_mux (Some true) None (Some false) = refl
zero_mux (Some true) (Some true) None = refl
zero_mux (Some true) (Some true) (Some true) = refl
zero_mux (Some true) (Some true) (Some false) = refl
zero_mux (Some true) (Some false) None = refl
zero_mux (Some true) (Some false) (Some true) = refl
zero_mux (Some true) (Some false) (Some false) = refl
zero_mux (Some false) None None = refl
zero_mux (Some false) None (Some true) = refl
zero_mux (Some false) None (Some false) = refl
zero_mux (Some false) (Some true) None = refl
zero_mux (Some false) (Some true) (Some true) = refl
zero_mux (Some false) (Some true) (Some false) = refl
zero_mux (Some false) (Some false) None = refl
zero_mux (Some false) (Some false) (Some true) = refl
zero_mux (Some false) (Some false) (Some false) = refl
