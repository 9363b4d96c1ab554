-- Division rounded down and up, and the root rounded up.
-- Assumes nothing.
use Rattle.std.proofs.Common.{◌≡◌, ℕ, zero, suc, ◌+◌, ◌-◌, ◌*◌, ◌%◌, ◌<◌, ◌≤◌, ltb, ℤ, pos, negsuc, ◌+ℤ◌, ◌*ℤ◌, mod-lt, div-add-mod', arith}
use Rattle.std.proofs.lemmas.Bool.{cond_both, ltb-true}
use Rattle.std.proofs.lemmas.Bool.Decides.{nat_tests}
use Rattle.std.proofs.lemmas.Grind.{div_ceil_times}
use Rattle.std.proofs.lemmas.Int.{ints}
use Rattle.enclosure.specs.Discs.{down, up, root, LeastRoot}

-- ---- down

-- what rounding down leaves
abbrev pub rest : ℤ → ℕ → ℕ
rest (pos a) e = a % e
rest (negsuc a) e = e - suc (a % e)

-- z is e times z/e rounded down, and the rest
pub down_is : (z : ℤ) (e : ℕ) → zero < e → z ≡ down z e *ℤ pos e +ℤ pos (rest z e)
down_is z e h = grind (arith, ints, div-add-mod', mod-lt)

pub rest_less : (z : ℤ) (e : ℕ) → zero < e → rest z e < e
rest_less z e h = grind (arith, mod-lt)

-- ---- up

pub up_enough : (n e : ℕ) → zero < e → n ≤ e * up n e
up_enough n e h = omega (arith, div_ceil_times n e h)

-- a radius that is rounded up, and room for what the parts have lost
pub room : (t e w s : ℕ) → zero < e → w ≤ e * s → t + w ≤ e * (up t e + s)
room t e w s h k = omega (arith, up_enough t e h)

-- ---- the root

-- the root is the least number whose square is enough
pub root_enough : (s : ℕ) → s ≤ root s * root s
unfolding root
root_enough zero = omega arith
root_enough (suc s) = cond_both (ltb s (root s * root s)) (root s) (suc (root s)) (λ n. suc s ≤ n * n)
    (λ e. omega (arith, ltb-true s (root s * root s) e)) (λ e. omega (arith, root_enough s))

pub root_least : (s m : ℕ) → s ≤ m * m → root s ≤ m
unfolding root
root_least zero m h = omega arith
root_least (suc s) m h = let before : root s ≤ m = root_least s m (omega arith) in grind (arith, nat_tests)

pub root_is_least : (s : ℕ) → LeastRoot s (root s)
root_is_least s = record { enough = root_enough s; least = root_least s }

-- from the root that is rounded down: of a square, and of what is between two squares
pub root_exact : (s q : ℕ) → q * q ≤ s → s ≤ q * q → q ≡ root s
root_exact s q h k = grind (arith, root_enough s, root_least s q)

pub root_above : (s q : ℕ) → q * q < s → s < (q + 1) * (q + 1) → q + 1 ≡ root s
root_above s q h k = grind (arith, root_enough s, root_least s (q + 1))
