-- Discs: what each operation answers, and which exact numbers a disc holds.
-- Assumes nothing.
use Rattle.std.specs.Prelude.{ℕ, zero, suc, ◌+◌, ◌-◌, ◌*◌, ◌/◌, ◌%◌, ◌^◌, ◌≤◌, min, Bool, if◌then◌else◌, ◌&&◌, ℤ, pos, negsuc, ◌+ℤ◌, ◌-ℤ◌, ◌*ℤ◌, neg_ℤ, nat_le, nat_lt, unsigned_abs, Ok, Err, Result}
use Rattle.exact.specs.Numbers.{Exact, exacts, invert}
use Rattle.exact.specs.Vectors.{Within}
use Rattle.enclosure.specs.Arithmetic.{Arithmetic, Encloses}
use Rattle.enclosure.specs.declared.refusal.Refusal.{Refusal}
use Rattle.enclosure.specs.declared.refusal.Refusal.TheVariants.{ZeroDivisor, OffScale}

-- one is U units, and no part or radius is larger than L units
abbrev pub U : ℕ
U = 2 ^ 24

abbrev pub L : ℕ
L = 2 ^ 30

-- a disc by its three numbers, the centre and the radius, in units
pub record Ball : Type 0 where
  pub re : ℤ
  pub im : ℤ
  pub radius : ℕ

abbrev pub ball : ℤ → ℤ → ℕ → Ball
ball x y r = record { re = x; im = y; radius = r }

-- (U p - re d)² + (U q - im d)² ≤ (r d)²
abbrev pub Holds : Ball → Exact → Type 0
Holds b x = Within (pos U *ℤ x.p -ℤ b.re *ℤ pos x.d) (pos U *ℤ x.q -ℤ b.im *ℤ pos x.d) (b.radius * x.d)

-- ---- range

abbrev pub in_range : Ball → Bool
in_range b = nat_le (unsigned_abs b.re) L && (nat_le (unsigned_abs b.im) L && nat_le b.radius L)

-- refused by e where one of the numbers is out of range
unfoldable pub ranged : {E : Type 0} → E → Ball → Result Ball E
ranged e b = if in_range b then Ok b else Err e

abbrev pub scaled : Ball → Result Ball Refusal
scaled b = ranged OffScale b

-- ---- rounding

-- z/e rounded down, below zero too: -(a + 1)/e is -(a/e) - 1
abbrev pub down : ℤ → ℕ → ℤ
down (pos a) e = pos (a / e)
down (negsuc a) e = negsuc (a / e)

-- n/e rounded up
abbrev pub up : ℕ → ℕ → ℕ
up n e = n / e + min 1 (n % e)

-- the least n with n² ≥ s: as s counts up, n stays while its square is enough
unfoldable pub root : ℕ → ℕ
root zero = zero
root (suc s) = if nat_lt s (root s * root s) then root s else suc (root s)

pub record LeastRoot (s n : ℕ) : Type 0 where
  pub enough : s ≤ n * n
  pub least : (m : ℕ) → s ≤ m * m → n ≤ m

-- ---- size and operations

-- re² + im²
abbrev pub square : Ball → ℕ
square a = unsigned_abs a.re * unsigned_abs a.re + unsigned_abs a.im * unsigned_abs a.im

abbrev pub size : Ball → ℕ
size a = root (square a)

unfoldable pub sum : Ball → Ball → Result Ball Refusal
sum a b = scaled (ball (a.re +ℤ b.re) (a.im +ℤ b.im) (a.radius + b.radius))

unfoldable pub difference : Ball → Ball → Result Ball Refusal
difference a b = scaled (ball (a.re -ℤ b.re) (a.im -ℤ b.im) (a.radius + b.radius))

-- re re' - im im' and re im' + im re'
abbrev pub real_part : Ball → Ball → ℤ
real_part a b = a.re *ℤ b.re -ℤ a.im *ℤ b.im

abbrev pub imaginary_part : Ball → Ball → ℤ
imaginary_part a b = a.re *ℤ b.im +ℤ a.im *ℤ b.re

-- n r' + n' r + r r'
abbrev pub spread : Ball → Ball → ℕ
spread a b = size a * b.radius + size b * a.radius + a.radius * b.radius

unfoldable pub product : Ball → Ball → Result Ball Refusal
product a b = scaled (ball (down (real_part a b) U) (down (imaginary_part a b) U) (up (spread a b) U + 2))

-- with e for re² + im² - r²
unfoldable pub reciprocal_by : ℕ → Ball → Result Ball Refusal
reciprocal_by e a = scaled (ball (down (a.re *ℤ pos (2 ^ 48)) e) (down (neg_ℤ a.im *ℤ pos (2 ^ 48)) e) (up (a.radius * 2 ^ 48) e + 2))

-- refused where e ≤ 0
unfoldable pub reciprocal : Ball → Result Ball Refusal
reciprocal a = if nat_le (square a) (a.radius * a.radius) then Err ZeroDivisor else reciprocal_by (square a - a.radius * a.radius) a

-- (re - re')² + (im - im')² ≤ (r + r')²
unfoldable pub touches : Ball → Ball → Bool
touches a b = nat_le (square (ball (a.re -ℤ b.re) (a.im -ℤ b.im) 0)) ((a.radius + b.radius) * (a.radius + b.radius))

-- ---- the arithmetic of discs

-- 0 is (0, 0, 0)
abbrev pub origin : Ball
origin = ball (pos 0) (pos 0) 0

-- 1 is (U, 0, 0)
abbrev pub one : Ball
one = ball (pos U) (pos 0) 0

abbrev pub discs : Arithmetic Ball
discs = record { unit = one; plus = sum; minus = difference; times = product; reciprocal = reciprocal; touches = touches }

abbrev pub DiscsEnclose : Type 0
DiscsEnclose = Encloses discs exacts invert Holds
