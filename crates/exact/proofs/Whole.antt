-- The whole numbers are a commutative ring.
-- Assumes nothing.
use Rattle.std.proofs.Common.{◌≡◌, ℕ, zero, suc, ℤ, pos, neg_ℤ, ◌+ℤ◌, ◌*ℤ◌, refl, sym, ◌∙◌, ap, ap₂, arith}
use Rattle.std.proofs.Math.IntN.{+ℤ_assoc, +ℤ_comm, +ℤ_idl, +ℤ_idr, +ℤ_invr, suc_ℤ-+ℤ, pred_ℤ-+ℤ, suc_ℤ-*ℤ, pred_ℤ-*ℤ, zero-*ℤ, *ℤ_comm}
use Rattle.std.proofs.lemmas.Int.{ints}
use Rattle.exact.specs.Ring.{Ops, Laws, Ring}
use Rattle.exact.proofs.Normaliser.{ℤ_step, ◌◂◌, none}

-- products spread over sums, carry signs out, and group as one likes
distl : (a b c : ℤ) → (a +ℤ b) *ℤ c ≡ a *ℤ c +ℤ b *ℤ c
distl a b c = ℤ_step (λ a. (a +ℤ b) *ℤ c ≡ a *ℤ c +ℤ b *ℤ c)
    (simp (+ℤ_idl, zero-*ℤ))
    (λ a h. simp (suc_ℤ-+ℤ, suc_ℤ-*ℤ, h) (omega (arith, ints)))
    (λ a h. simp (pred_ℤ-+ℤ, pred_ℤ-*ℤ, h) (omega (arith, ints)))
    a

neg* : (k c : ℤ) → neg_ℤ k *ℤ c ≡ neg_ℤ (k *ℤ c)
neg* k c = grind (arith, ints)

assoc* : (a b c : ℤ) → (a *ℤ b) *ℤ c ≡ a *ℤ (b *ℤ c)
assoc* a b c = ℤ_step (λ a. (a *ℤ b) *ℤ c ≡ a *ℤ (b *ℤ c))
    (simp zero-*ℤ)
    (λ a h. simp (suc_ℤ-*ℤ, distl, h))
    (λ a h. simp (pred_ℤ-*ℤ, distl, neg*, h))
    a

abbrev pub ℤO : Ops
ℤO = record { C = ℤ; ◌≈◌ = λ x y. x ≡ y; 𝟘 = pos zero; 𝟙 = pos (suc zero); ◌+◌ = ◌+ℤ◌; ◌*◌ = ◌*ℤ◌; neg = neg_ℤ }

pub ℤL : Laws ℤO
ℤL = record {
  rfl = λ x. refl;
  symm = λ p. sym p;
  trans = λ p q. p ∙ q;
  +_cong = λ p q. ap₂ ◌+ℤ◌ p q;
  *_cong = λ p q. ap₂ ◌*ℤ◌ p q;
  neg_cong = λ p. ap neg_ℤ p;
  +_assoc = +ℤ_assoc;
  +_comm = +ℤ_comm;
  +_zero = +ℤ_idr;
  +_neg = +ℤ_invr;
  *_assoc = assoc*;
  *_comm = *ℤ_comm;
  *_one = λ x. omega (arith, ints);
  distr = λ a b c. rw (*ℤ_comm a (b +ℤ c), *ℤ_comm a b, *ℤ_comm a c) (distl b c a);
}

abbrev pub ℤR : Ring
ℤR = record { ops = ℤO; laws = ℤL }

-- values for the unknowns
infixr 40 ◌◃◌
abbrev pub ◌◃◌ : ℤ → (ℕ → ℤ) → ℕ → ℤ
x ◃ ρ = ◌◂◌ ℤR x ρ

abbrev pub end : ℕ → ℤ
end = none ℤR
