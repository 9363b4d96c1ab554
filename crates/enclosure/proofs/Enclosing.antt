-- The arithmetic of discs encloses the exact numbers.
-- Assumes nothing.
use Rattle.std.proofs.Common.{◌≡◌, ℕ, zero, suc, ◌+◌, ◌*◌, ◌^◌, ◌<◌, Bool, true, cond, pos, ◌+ℤ◌, ◌-ℤ◌, ◌*ℤ◌, neg_ℤ, arith, inl, inr, Ok, Err}
use Rattle.std.proofs.lemmas.Bool.{cases_lt, lt-leb, le-leb}
use Rattle.std.proofs.lemmas.Int.{ints}
use Rattle.exact.specs.Numbers.{Exact, ◌≃◌, whole, nought, add, multiply, subtract, negate, invert}
use Rattle.exact.specs.Vectors.{Within}
use Rattle.exact.proofs.Order.{norm_is}
use Rattle.exact.proofs.Vectors.{nowhere}
use Rattle.enclosure.specs.declared.refusal.Refusal.{Refusal}
use Rattle.enclosure.specs.declared.refusal.Refusal.TheVariants.{OffScale}
use Rattle.enclosure.specs.Discs.{U, Ball, ball, Holds, ranged, scaled, down, up, square, size, real_part, imaginary_part, spread, sum, difference, product, reciprocal_by, reciprocal, touches, origin, one, DiscsEnclose}
use Rattle.enclosure.proofs.Rounding.{down_is, rest, rest_less, room, root_enough}
use Rattle.enclosure.proofs.Holding as H
use Rattle.enclosure.proofs.Reciprocals as R

U_above : zero < U
U_above = omega arith

-- ---- an accepted answer is not refused, and is the disc that was on scale

either : (t : Bool) (k : Refusal) (b c : Ball) → cond t (Ok b) (Err k) ≡ Ok c → b ≡ c
either t k b c e = grind arith

on_scale : (b c : Ball) (x : Exact) → scaled b ≡ Ok c → Holds b x → Holds c x
unfolding ranged
on_scale b c x e h = let p = either _ OffScale b c e in rw p at h

-- ---- 0, 1 and the size

pub zero_held : Holds origin nought
zero_held = nowhere 0

unit_held : Holds one (whole (pos (suc zero)))
unit_held = nowhere 0

size_enough : (a : Ball) → Within a.re a.im (size a)
size_enough a = record { most = omega (arith, ints, norm_is a.re a.im, root_enough (square a)) }

-- ---- sums, differences and products

sum_held : (a b c : Ball) (x y : Exact) → Holds a x → Holds b y → sum a b ≡ Ok c → Holds c (add x y)
unfolding sum
sum_held a b c x y h k e = on_scale _ c (add x y) e (H.sum_holds U a b x y h k)

difference_held : (a b c : Ball) (x y : Exact) → Holds a x → Holds b y → difference a b ≡ Ok c → Holds c (subtract x y)
unfolding difference
difference_held a b c x y h k e = on_scale _ c (subtract x y) e
    (H.sum_holds U a (ball (neg_ℤ b.re) (neg_ℤ b.im) b.radius) x (negate y) h (H.negative_holds U b y k))

product_held : (a b c : Ball) (x y : Exact) → Holds a x → Holds b y → product a b ≡ Ok c → Holds c (multiply x y)
unfolding product
product_held a b c x y h k e =
    let v = real_part a b in let w = imaginary_part a b in
    on_scale _ c (multiply x y) e
    (H.product_holds U a b x y (down v U) (down w U) (size a) (size b) (rest v U) (rest w U) (up (spread a b) U + 2)
    U_above (down_is v U U_above) (down_is w U U_above) (size_enough a) (size_enough b)
    (room (spread a b) U (rest v U + rest w U) 2 U_above (omega (arith, rest_less v U U_above, rest_less w U U_above))) h k)

-- ---- reciprocals

inverse_at : (a c : Ball) (x : Exact) (e : ℕ) → zero < e → a.re *ℤ a.re +ℤ a.im *ℤ a.im ≡ pos e +ℤ pos (a.radius * a.radius)
    → Holds a x → reciprocal_by e a ≡ Ok c → (¬ (x ≃ nought)) × Holds c (invert x)
unfolding reciprocal_by
inverse_at a c x e above e-is h k =
    let v = a.re *ℤ pos (2 ^ 48) in let w = neg_ℤ a.im *ℤ pos (2 ^ 48) in let r = a.radius * 2 ^ 48 in (
      R.not_nought U e above a e-is x h,
      on_scale _ c (invert x) k
          (R.reciprocal_holds U e above a e-is x (down v e) (down w e) (rest v e) (rest w e) (up r e + 2) (down_is v e above) (down_is w e above)
          (room r e (rest v e + rest w e) 2 above (omega (arith, rest_less v e above, rest_less w e above))) h),
    )

inverse_held : (a c : Ball) (x : Exact) → Holds a x → reciprocal a ≡ Ok c → (¬ (x ≃ nought)) × Holds c (invert x)
unfolding reciprocal
inverse_held a c x h k = elim (cases_lt (a.radius * a.radius) (square a)) [
  | inl large ↦ inverse_at a c x _ (omega arith) (omega (arith, ints, norm_is a.re a.im)) h (rw (lt-leb _ _ large) at k)
  | inr small ↦ let refused = rw (le-leb _ _ small) at k in cc
]

-- ---- a common number

common_touch : (a b : Ball) (x : Exact) → Holds a x → Holds b x → touches a b ≡ true
unfolding touches
common_touch a b x h k = le-leb _ _ (omega (arith, ints, (H.near_enough U a b x h k).most, norm_is (a.re -ℤ b.re) (a.im -ℤ b.im)))

pub discs_enclose : DiscsEnclose
discs_enclose = record {
  some_held = λ a. (record { p = a.re; q = a.im; d = U; d_above = U_above }, H.middle_held U a.re a.im (a.radius * U));
  same_held = H.same U;
  unit_held = unit_held;
  sum_held = sum_held;
  difference_held = difference_held;
  product_held = product_held;
  inverse_held = inverse_held;
  common_touch = common_touch;
}
