-- The exact numbers are a field.
-- Assumes nothing.
use Rattle.std.proofs.Common.{◌≡◌, ℕ, zero, suc, ◌<◌, ℤ, pos, ◌-ℤ◌, ◌*ℤ◌, refl, sym, ◌∙◌, ap, arith}
use Rattle.std.proofs.lemmas.Int.{ints}
use Rattle.exact.specs.Ring.{Laws, Inverts, Ring, Field}
use Rattle.exact.specs.Numbers.{Exact, exacts, ◌≃◌, whole, add, multiply, norm, invert_by, invert, ExactField}
use Rattle.exact.proofs.Normaliser.{E, norm as normal, var, 𝟎, 𝟏, ◌⊕◌, ◌⊗◌, ⊝, ◌⊖◌, solve, lin, done, times, ⟦◌⟧}
use Rattle.exact.proofs.Whole.{ℤR, ◌◃◌, end}
use Rattle.exact.proofs.Order.{norm_is, norm_zero}

-- ---- a positive factor is cancelled

pub cancel : (x y : ℤ) (d : ℕ) → zero < d → x *ℤ pos d ≡ y *ℤ pos d → x ≡ y
cancel x y d lt h =
    let z : (x -ℤ y) *ℤ pos d ≡ pos zero = lin ℤR (x ◃ y ◃ pos d ◃ end) (times 𝟏 (var 0 ⊗ var 2) (var 1 ⊗ var 2) done) (h, tt) ((var 0 ⊖ var 1) ⊗ var 2) 𝟎 refl in
    grind (arith, ints)

-- ---- the operations on expressions, for three unknown numbers

record Quoted : Type 0 where
  p : E
  q : E
  d : E

abbrev plus : Quoted → Quoted → Quoted
plus x y = record { p = x.p ⊗ y.d ⊕ y.p ⊗ x.d; q = x.q ⊗ y.d ⊕ y.q ⊗ x.d; d = x.d ⊗ y.d }

abbrev mult : Quoted → Quoted → Quoted
mult x y = record { p = x.p ⊗ y.p ⊖ x.q ⊗ y.q; q = x.p ⊗ y.q ⊕ x.q ⊗ y.p; d = x.d ⊗ y.d }

abbrev minus : Quoted → Quoted
minus x = record { p = ⊝ x.p; q = ⊝ x.q; d = x.d }

abbrev nil : Quoted
nil = record { p = 𝟎; q = 𝟎; d = 𝟏 }

abbrev unit : Quoted
unit = record { p = 𝟏; q = 𝟎; d = 𝟏 }

abbrev X : Quoted
X = record { p = var 0; q = var 1; d = var 2 }

abbrev Y : Quoted
Y = record { p = var 3; q = var 4; d = var 5 }

abbrev Z : Quoted
Z = record { p = var 6; q = var 7; d = var 8 }

abbrev U : Quoted
U = record { p = var 9; q = var 10; d = var 11 }

abbrev env : Exact → Exact → Exact → Exact → ℕ → ℤ
env x y z u = x.p ◃ x.q ◃ pos x.d ◃ y.p ◃ y.q ◃ pos y.d ◃ z.p ◃ z.q ◃ pos z.d ◃ u.p ◃ u.q ◃ pos u.d ◃ end

-- a law that holds as polynomials
law : (x y z : Exact) (l r : Quoted) → normal (l.p ⊗ r.d) ≡ normal (r.p ⊗ l.d) → normal (l.q ⊗ r.d) ≡ normal (r.q ⊗ l.d)
    → (⟦◌⟧ ℤR (l.p ⊗ r.d) (env x y z x) ≡ ⟦◌⟧ ℤR (r.p ⊗ l.d) (env x y z x)) × (⟦◌⟧ ℤR (l.q ⊗ r.d) (env x y z x) ≡ ⟦◌⟧ ℤR (r.q ⊗ l.d) (env x y z x))
law x y z l r h k = (solve ℤR (env x y z x) (l.p ⊗ r.d) (r.p ⊗ l.d) h, solve ℤR (env x y z x) (l.q ⊗ r.d) (r.q ⊗ l.d) k)

same : {x y : Exact} → (x.p *ℤ pos y.d ≡ y.p *ℤ pos x.d) × (x.q *ℤ pos y.d ≡ y.q *ℤ pos x.d) → x ≃ y
same h = record { real = h.0; imag = h.1 }

-- ---- the equality

-- a/i = c/k where both are b/j
chain : (a b c : ℤ) (i j k : ℕ) → zero < j → a *ℤ pos j ≡ b *ℤ pos i → b *ℤ pos k ≡ c *ℤ pos j → a *ℤ pos k ≡ c *ℤ pos i
chain a b c i j k lt h g = cancel (a *ℤ pos k) (c *ℤ pos i) j lt
    (lin ℤR (a ◃ b ◃ c ◃ pos i ◃ pos j ◃ pos k ◃ end)
    (times (var 5) (var 0 ⊗ var 4) (var 1 ⊗ var 3) (times (var 3) (var 1 ⊗ var 5) (var 2 ⊗ var 4) done))
    (h, (g, tt)) (var 0 ⊗ var 5 ⊗ var 4) (var 2 ⊗ var 3 ⊗ var 4) refl)

q_trans : {x y z : Exact} → x ≃ y → y ≃ z → x ≃ z
q_trans {x} {y} {z} h g = record {
  real = chain x.p y.p z.p x.d y.d z.d y.d_above h.real g.real;
  imag = chain x.q y.q z.q x.d y.d z.d y.d_above h.imag g.imag;
}

-- ---- congruences

-- x = y and z = u, as X = Y and Z = U
add_cong : {x y z u : Exact} → x ≃ y → z ≃ u → add x z ≃ add y u
add_cong {x} {y} {z} {u} h g = record {
  real = lin ℤR (env x y z u)
      (times (Z.d ⊗ U.d) (X.p ⊗ Y.d) (Y.p ⊗ X.d) (times (X.d ⊗ Y.d) (Z.p ⊗ U.d) (U.p ⊗ Z.d) done))
      (h.real, (g.real, tt)) ((plus X Z).p ⊗ (plus Y U).d) ((plus Y U).p ⊗ (plus X Z).d) refl;
  imag = lin ℤR (env x y z u)
      (times (Z.d ⊗ U.d) (X.q ⊗ Y.d) (Y.q ⊗ X.d) (times (X.d ⊗ Y.d) (Z.q ⊗ U.d) (U.q ⊗ Z.d) done))
      (h.imag, (g.imag, tt)) ((plus X Z).q ⊗ (plus Y U).d) ((plus Y U).q ⊗ (plus X Z).d) refl;
}

mul_cong : {x y z u : Exact} → x ≃ y → z ≃ u → multiply x z ≃ multiply y u
mul_cong {x} {y} {z} {u} h g = record {
  real = lin ℤR (env x y z u)
      (times (Z.p ⊗ U.d) (X.p ⊗ Y.d) (Y.p ⊗ X.d) (times (Y.p ⊗ X.d) (Z.p ⊗ U.d) (U.p ⊗ Z.d)
      (times (⊝ (Z.q ⊗ U.d)) (X.q ⊗ Y.d) (Y.q ⊗ X.d) (times (⊝ (Y.q ⊗ X.d)) (Z.q ⊗ U.d) (U.q ⊗ Z.d) done))))
      (h.real, (g.real, (h.imag, (g.imag, tt)))) ((mult X Z).p ⊗ (mult Y U).d) ((mult Y U).p ⊗ (mult X Z).d) refl;
  imag = lin ℤR (env x y z u)
      (times (Z.q ⊗ U.d) (X.p ⊗ Y.d) (Y.p ⊗ X.d) (times (Y.p ⊗ X.d) (Z.q ⊗ U.d) (U.q ⊗ Z.d)
      (times (Z.p ⊗ U.d) (X.q ⊗ Y.d) (Y.q ⊗ X.d) (times (Y.q ⊗ X.d) (Z.p ⊗ U.d) (U.p ⊗ Z.d) done))))
      (h.real, (g.imag, (h.imag, (g.real, tt)))) ((mult X Z).q ⊗ (mult Y U).d) ((mult Y U).q ⊗ (mult X Z).d) refl;
}

-- ---- the ring

pub exact_laws : Laws exacts
exact_laws = record {
  rfl = λ x. record { real = refl; imag = refl };
  symm = λ h. record { real = sym h.real; imag = sym h.imag };
  trans = λ h g. q_trans h g;
  +_cong = λ h g. add_cong h g;
  *_cong = λ h g. mul_cong h g;
  neg_cong = λ h. record { real = grind (arith, ints, h.real); imag = grind (arith, ints, h.imag) };
  +_assoc = λ x y z. same (law x y z (plus (plus X Y) Z) (plus X (plus Y Z)) refl refl);
  +_comm = λ x y. same (law x y x (plus X Y) (plus Y X) refl refl);
  +_zero = λ x. same (law x x x (plus X nil) X refl refl);
  +_neg = λ x. same (law x x x (plus X (minus X)) nil refl refl);
  *_assoc = λ x y z. same (law x y z (mult (mult X Y) Z) (mult X (mult Y Z)) refl refl);
  *_comm = λ x y. same (law x y x (mult X Y) (mult Y X) refl refl);
  *_one = λ x. same (law x x x (mult X unit) X refl refl);
  distr = λ x y z. same (law x y z (mult X (plus Y Z)) (plus (mult X Y) (mult X Z)) refl refl);
}

abbrev pub exact_ring : Ring
exact_ring = record { ops = exacts; laws = exact_laws }

-- ---- inverses

pub exact_inverts : Inverts exacts invert
exact_inverts x ne = go (norm x) refl
  where
    go : (n : ℕ) → norm x ≡ n → multiply x (invert_by x n) ≃ whole (pos (suc zero))
    go zero e =
        let z = norm_zero x.p x.q e in
        absurd (ne (record { real = omega (arith, ints); imag = omega (arith, ints) }))
    go (suc n) e = record {
      real = lin ℤR (x.p ◃ x.q ◃ pos x.d ◃ pos (suc n) ◃ end)
          (times (var 2) (var 0 ⊗ var 0 ⊕ var 1 ⊗ var 1) (var 3) done) (norm_is x.p x.q ∙ ap pos e, tt)
          ((var 0 ⊗ (var 0 ⊗ var 2) ⊖ var 1 ⊗ ⊝ (var 1 ⊗ var 2)) ⊗ 𝟏) (𝟏 ⊗ (var 2 ⊗ var 3)) refl;
      imag = solve ℤR (x.p ◃ x.q ◃ pos x.d ◃ pos (suc n) ◃ end)
          ((var 0 ⊗ ⊝ (var 1 ⊗ var 2) ⊕ var 1 ⊗ (var 0 ⊗ var 2)) ⊗ 𝟏) (𝟎 ⊗ (var 2 ⊗ var 3)) refl;
    }

abbrev pub exact_numbers : Field
exact_numbers = record { ring = exact_ring; inv = invert; inverts = exact_inverts }

pub exact_field : ExactField
exact_field = (exact_laws, exact_inverts, λ e. omega (arith, ints, e.real))
