-- What the parts of an answer come to.
use Rattle.std.proofs.Common.{◌≡◌, ◌*◌, ◌^◌, ◌≤◌, ℕ, ℤ, ◌+ℤ◌, ◌-ℤ◌, ◌*ℤ◌, unsigned_abs, FitsSigned, w64, to_z, of_z, Result, mul-le-mul, arith, Ok, Err, false, is_ok}
use Rattle.std.specs.Result.{OkIff, MatchResult}
use Rattle.std.proofs.lemmas.Int.{ints, to_z-of_z, unsigned_abs-mul}
use Rattle.std.proofs.lemmas.Grind.{common_steps}
use Rattle.enclosure.specs.declared.refusal.Refusal.{Refusal}
use Rattle.enclosure.specs.declared.refusal.Refusal.TheVariants.{OffScale}
use Rattle.enclosure.specs.Discs.{Ball, ball, down, scaled, ranged, real_part, imaginary_part}
use Rattle.disc.specs.Meaning.{meaning}
use Rattle.disc.specs.declared.disc.Disc.{Disc}

-- equal numbers, one answer
pub same_scaled : {r : Result Ball Refusal} {x x' y y' : ℤ} {n n' : ℕ} → r ≡ scaled (ball x y n) → x ≡ x' → y ≡ y' → n ≡ n' → r ≡ scaled (ball x' y' n')
same_scaled e p q s = cc

pub same_down : {z z' : ℤ} {e e' : ℕ} → z ≡ z' → e ≡ e' → down z e ≡ down z' e'
same_down p q = cc

-- a number as 64 bits hold it
abbrev pub held : ℤ → ℤ
held z = to_z w64 (of_z w64 z)

pub product_most : (a b : ℤ) (m n : ℕ) → unsigned_abs a ≤ m → unsigned_abs b ≤ n → unsigned_abs (a *ℤ b) ≤ m * n
product_most a b m n p q = omega (arith, unsigned_abs-mul a b, mul-le-mul p q)

pub product_held : (a b : ℤ) → unsigned_abs a ≤ 2 ^ 30 → unsigned_abs b ≤ 2 ^ 30 → FitsSigned w64 (held a *ℤ held b) × (held (held a *ℤ held b) ≡ a *ℤ b)
product_held a b p q =
    let m = product_most a b (2 ^ 30) (2 ^ 30) p q in
    let f : FitsSigned w64 a = omega (arith, ints) in
    let g : FitsSigned w64 b = omega (arith, ints) in
    let h : FitsSigned w64 (a *ℤ b) = omega (arith, ints) in
    (simp to_z-of_z h, simp to_z-of_z)

-- the parts of a product, before they are rounded
module _ (a b : Disc) where
  pub real_held : FitsSigned w64 (held (held a.re *ℤ held b.re) -ℤ held (held a.im *ℤ held b.im)) × (held (held (held a.re *ℤ held b.re) -ℤ held (held a.im *ℤ held b.im)) ≡ real_part (meaning a) (meaning b))
  real_held =
      let m = product_most a.re b.re (2 ^ 30) (2 ^ 30) a.re_fits b.re_fits in
      let n = product_most a.im b.im (2 ^ 30) (2 ^ 30) a.im_fits b.im_fits in
      rw ((product_held a.re b.re a.re_fits b.re_fits).1, (product_held a.im b.im a.im_fits b.im_fits).1) (omega (arith, ints), omega (arith, ints))

  pub imaginary_held : FitsSigned w64 (held (held a.re *ℤ held b.im) +ℤ held (held a.im *ℤ held b.re)) × (held (held (held a.re *ℤ held b.im) +ℤ held (held a.im *ℤ held b.re)) ≡ imaginary_part (meaning a) (meaning b))
  imaginary_held =
      let m = product_most a.re b.im (2 ^ 30) (2 ^ 30) a.re_fits b.im_fits in
      let n = product_most a.im b.re (2 ^ 30) (2 ^ 30) a.im_fits b.re_fits in
      rw ((product_held a.re b.im a.re_fits b.im_fits).1, (product_held a.im b.re a.im_fits b.re_fits).1) (omega (arith, ints), omega (arith, ints))

-- what a conversion gives that did not fail, behind its own error
pub converted : {T E : Type 0} (D : Type 0) (r : Result T E) (P : Type 0) (v y : T) → OkIff r P v → MatchResult r (λ x. ◌≡◌ {A = Result T D} (Ok y) (Ok x)) (λ _. ⊥) → P × (y ≡ v)
converted D (Ok x) P v y f m = (f.0, cc)
converted D (Err e) P v y f m = absurd m

pub not_converted : {T E : Type 0} (r : Result T E) (P : Type 0) (v : T) → OkIff r P v → false ≡ is_ok r → P → ⊥
not_converted (Ok x) P v f e p = let z : ◌≡◌ {A = ℕ} 0 1 = cc in absurd (omega arith)
not_converted (Err e) P v f g p = f p

-- a part that does not fit is off scale
pub im_off_scale : (x y : ℤ) (n : ℕ) → (FitsSigned w64 y → ⊥) → ◌≡◌ {A = Result Ball Refusal} (Err OffScale) (scaled (ball x y n))
unfolding ranged
im_off_scale x y n h = grind (arith, common_steps)
