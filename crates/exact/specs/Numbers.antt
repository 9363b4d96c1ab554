-- Exact numbers: p/d + i q/d, with whole p and q and a whole d above 0.
-- Assumes nothing.
use Rattle.std.specs.Prelude.{◌≡◌, ℕ, zero, suc, ◌+◌, ◌*◌, ◌<◌, ℤ, pos, neg_ℤ, nat_abs, ◌+ℤ◌, ◌-ℤ◌, ◌*ℤ◌}
use Rattle.std.proofs.Common.{mul-pos, arith}
use Rattle.exact.specs.Ring.{Ops, Laws, Inverts}

pub record Exact : Type 0 where
  pub p : ℤ
  pub q : ℤ
  pub d : ℕ
  pub d_above : zero < d

-- the same number, by cross-multiplication
infix 4 ◌≃◌
pub record ◌≃◌ (x y : Exact) : Type 0 where
  pub real : x.p *ℤ pos y.d ≡ y.p *ℤ pos x.d
  pub imag : x.q *ℤ pos y.d ≡ y.q *ℤ pos x.d

pub suc_above : (n : ℕ) → zero < suc n
suc_above n = omega arith

abbrev pub whole : ℤ → Exact
whole z = record { p = z; q = pos zero; d = suc zero; d_above = suc_above zero }

abbrev pub nought : Exact
nought = whole (pos zero)

abbrev pub add : Exact → Exact → Exact
add x y = record { p = x.p *ℤ pos y.d +ℤ y.p *ℤ pos x.d; q = x.q *ℤ pos y.d +ℤ y.q *ℤ pos x.d; d = x.d * y.d; d_above = mul-pos x.d_above y.d_above }

abbrev pub negate : Exact → Exact
negate x = record { p = neg_ℤ x.p; q = neg_ℤ x.q; d = x.d; d_above = x.d_above }

abbrev pub subtract : Exact → Exact → Exact
subtract x y = add x (negate y)

abbrev pub multiply : Exact → Exact → Exact
multiply x y = record { p = x.p *ℤ y.p -ℤ x.q *ℤ y.q; q = x.p *ℤ y.q +ℤ x.q *ℤ y.p; d = x.d * y.d; d_above = mul-pos x.d_above y.d_above }

-- p² + q²
abbrev pub norm : Exact → ℕ
norm x = nat_abs x.p * nat_abs x.p + nat_abs x.q * nat_abs x.q

-- d (p - i q) / n, where n is p² + q²; 0 where that is 0
abbrev pub invert_by : Exact → ℕ → Exact
invert_by x zero = nought
invert_by x (suc n) = record { p = x.p *ℤ pos x.d; q = neg_ℤ (x.q *ℤ pos x.d); d = suc n; d_above = suc_above n }

abbrev pub invert : Exact → Exact
invert x = invert_by x (norm x)

abbrev pub divide : Exact → Exact → Exact
divide x y = multiply x (invert y)

abbrev pub exacts : Ops
exacts = record { C = Exact; ◌≈◌ = ◌≃◌; 𝟘 = nought; 𝟙 = whole (pos (suc zero)); ◌+◌ = add; ◌*◌ = multiply; neg = negate }

-- the exact numbers are a field
abbrev pub ExactField : Type 0
ExactField = Laws exacts × Inverts exacts invert × (¬ (whole (pos (suc zero)) ≃ nought))
