-- A normaliser for polynomial expressions, and the proof that it keeps their value in every commutative ring.
-- A normal form is `con c`, or `node p q`, which is p(x₁, x₂, ..) + x₀ q(x₀, x₁, ..).
-- Assumes nothing.
use Rattle.std.proofs.Common.{◌≡◌, ℕ, zero, suc, ℤ, pos, negsuc, neg_ℤ, ◌+ℤ◌, ◌*ℤ◌}
use Rattle.std.proofs.Math.IntN.{suc_ℤ, pred_ℤ, suc-pred, +ℤ_idl, +ℤ_invr, suc_ℤ-+ℤ, pred_ℤ-+ℤ, zero-*ℤ, suc_ℤ-*ℤ, pred_ℤ-*ℤ}
use Rattle.exact.specs.Ring.{Ring}

-- induction over the whole numbers by one up and one down
pub ℤ_step : (P : ℤ → Type 0) → P (pos zero) → ((k : ℤ) → P k → P (suc_ℤ k)) → ((k : ℤ) → P k → P (pred_ℤ k)) → (k : ℤ) → P k
ℤ_step P z s p (pos zero) = z
ℤ_step P z s p (pos (suc n)) = s (pos n) (ℤ_step P z s p (pos n))
ℤ_step P z s p (negsuc zero) = p (pos zero) z
ℤ_step P z s p (negsuc (suc n)) = p (negsuc n) (ℤ_step P z s p (negsuc n))

-- ---- expressions and normal forms

infixl 60 ◌⊕◌ ◌⊖◌
infixl 70 ◌⊗◌
pub data E : Type 0 where
  var : ℕ → E
  num : ℤ → E
  𝟎 𝟏 : E
  ◌⊕◌ ◌⊗◌ : E → E → E
  ⊝ : E → E

abbrev pub ◌⊖◌ : E → E → E
a ⊖ b = a ⊕ ⊝ b

pub data P : Type 0 where
  con : ℤ → P
  node : P → P → P

abbrev pub mk : P → P → P
mk (node a b) q = node (node a b) q
mk (con c) (node a b) = node (con c) (node a b)
mk (con c) (con (pos zero)) = con c
mk (con c) (con (pos (suc n))) = node (con c) (con (pos (suc n)))
mk (con c) (con (negsuc n)) = node (con c) (con (negsuc n))

abbrev pub addk : ℤ → P → P
addk a (con b) = con (a +ℤ b)
addk a (node p q) = node (addk a p) q

abbrev pub addc : ℤ → P → P
addc (pos zero) p = p
addc (pos (suc n)) p = addk (pos (suc n)) p
addc (negsuc n) p = addk (negsuc n) p

abbrev pub add : P → P → P
add (con a) r = addc a r
add (node p q) (con b) = addc b (node p q)
add (node p q) (node r s) = mk (add p r) (add q s)

abbrev pub scalek : ℤ → P → P
scalek c (con a) = con (c *ℤ a)
scalek c (node p q) = mk (scalek c p) (scalek c q)

abbrev pub scale : ℤ → P → P
scale (pos zero) p = con (pos zero)
scale (pos (suc zero)) p = p
scale (pos (suc (suc n))) p = scalek (pos (suc (suc n))) p
scale (negsuc n) p = scalek (negsuc n) p

-- p, which has no x₀, times r; f is the product by p
abbrev pub injmul : P → (P → P) → P → P
injmul p f (con c) = mk (scale c p) (con (pos zero))
injmul p f (node r s) = mk (f r) (injmul p f s)

abbrev pub mul : P → P → P
mul (con c) r = scale c r
mul (node p q) (con c) = scale c (node p q)
mul (node p q) (node r s) = add (injmul p (λ t. mul p t) (node r s)) (mk (con (pos zero)) (mul q (node r s)))

abbrev pub unknown : ℕ → P
unknown zero = node (con (pos zero)) (con (pos (suc zero)))
unknown (suc i) = node (unknown i) (con (pos zero))

abbrev pub norm : E → P
norm (var i) = unknown i
norm (num c) = con c
norm 𝟎 = con (pos zero)
norm 𝟏 = con (pos (suc zero))
norm (a ⊕ b) = add (norm b) (norm a)
norm (a ⊗ b) = mul (norm b) (norm a)
norm (⊝ a) = scale (negsuc zero) (norm a)

-- a sum of multiples c (l - r)
pub data Comb : Type 0 where
  done : Comb
  times : E → E → E → Comb → Comb

abbrev pub total : Comb → E
total done = 𝟎
total (times c l r k) = c ⊗ (l ⊖ r) ⊕ total k

-- ---- their values in a ring

module _ (R : Ring) where
  open R.ops use {C, ◌≈◌, 𝟘, 𝟙, ◌+◌, ◌*◌, neg}
  open R.laws use {rfl, symm, trans, +_cong, *_cong, neg_cong, +_assoc, +_comm, +_zero, +_neg, *_assoc, *_comm, *_one, distr}

  infix 20 ◌≈◌
  infixl 60 ◌+◌
  infixl 70 ◌*◌
  infixr 10 ◌⨾◌
  ◌⨾◌ : {x y z : C} → x ≈ y → y ≈ z → x ≈ z
  p ⨾ q = trans p q

  abbrev pub nat : ℕ → C
  nat zero = 𝟘
  nat (suc n) = nat n + 𝟙

  abbrev pub φ : ℤ → C
  φ (pos n) = nat n
  φ (negsuc n) = neg (nat (suc n))

  abbrev pub ⟦◌⟧ : E → (ℕ → C) → C
  ⟦◌⟧ (var i) ρ = ρ i
  ⟦◌⟧ (num c) ρ = φ c
  ⟦◌⟧ 𝟎 ρ = 𝟘
  ⟦◌⟧ 𝟏 ρ = 𝟙
  ⟦◌⟧ (a ⊕ b) ρ = ⟦◌⟧ a ρ + ⟦◌⟧ b ρ
  ⟦◌⟧ (a ⊗ b) ρ = ⟦◌⟧ a ρ * ⟦◌⟧ b ρ
  ⟦◌⟧ (⊝ a) ρ = neg (⟦◌⟧ a ρ)

  abbrev ev : P → (ℕ → C) → C
  ev (con c) ρ = φ c
  ev (node p q) ρ = ev p (λ n. ρ (suc n)) + ρ zero * ev q ρ

  -- ---- laws of the ring

  left : {x x' : C} (y : C) → x ≈ x' → x + y ≈ x' + y
  left y h = +_cong h (rfl y)

  right : (x : C) {y y' : C} → y ≈ y' → x + y ≈ x + y'
  right x h = +_cong (rfl x) h

  *right : (x : C) {y y' : C} → y ≈ y' → x * y ≈ x * y'
  *right x h = *_cong (rfl x) h

  *left : {x x' : C} (y : C) → x ≈ x' → x * y ≈ x' * y
  *left y h = *_cong h (rfl y)

  zero+ : (x : C) → 𝟘 + x ≈ x
  zero+ x = +_comm 𝟘 x ⨾ +_zero x

  one* : (x : C) → 𝟙 * x ≈ x
  one* x = *_comm 𝟙 x ⨾ *_one x

  distl : (x y z : C) → (x + y) * z ≈ x * z + y * z
  distl x y z = *_comm (x + y) z ⨾ distr z x y ⨾ +_cong (*_comm z x) (*_comm z y)

  swap+ : (x y z : C) → (x + y) + z ≈ (x + z) + y
  swap+ x y z = +_assoc x y z ⨾ right x (+_comm y z) ⨾ symm (+_assoc x z y)

  four : (a b c d : C) → (a + b) + (c + d) ≈ (a + c) + (b + d)
  four a b c d = symm (+_assoc (a + b) c d) ⨾ left d (swap+ a b c) ⨾ +_assoc (a + c) b d

  swap* : (x y z : C) → x * (y * z) ≈ y * (x * z)
  swap* x y z = symm (*_assoc x y z) ⨾ *left z (*_comm x y) ⨾ *_assoc y x z

  drop : (x y : C) → (x + y) + neg y ≈ x
  drop x y = +_assoc x y (neg y) ⨾ right x (+_neg y) ⨾ +_zero x

  uniq : {x y : C} → x + y ≈ 𝟘 → y ≈ neg x
  uniq {x} {y} h = symm (drop y x) ⨾ left (neg x) (+_comm y x ⨾ h) ⨾ zero+ (neg x)

  *zero : (x : C) → x * 𝟘 ≈ 𝟘
  *zero x = symm (drop (x * 𝟘) (x * 𝟘)) ⨾ left (neg (x * 𝟘)) (symm (distr x 𝟘 𝟘) ⨾ *right x (+_zero 𝟘)) ⨾ +_neg (x * 𝟘)

  zero* : (x : C) → 𝟘 * x ≈ 𝟘
  zero* x = *_comm 𝟘 x ⨾ *zero x

  neg* : (x y : C) → neg x * y ≈ neg (x * y)
  neg* x y = uniq (symm (distl x (neg x) y) ⨾ *left y (+_neg x) ⨾ zero* y)

  neg_zero : neg 𝟘 ≈ 𝟘
  neg_zero = symm (uniq (+_zero 𝟘))

  neg_up : (x y : C) → neg (x + y) + y ≈ neg x
  neg_up x y = uniq (right x (+_comm (neg (x + y)) y) ⨾ symm (+_assoc x y (neg (x + y))) ⨾ +_neg (x + y))

  pub zero_diff : {x y : C} → x + neg y ≈ 𝟘 → x ≈ y
  zero_diff {x} {y} h = symm (swap+ x (neg y) y ⨾ drop x y) ⨾ left y h ⨾ zero+ y

  -- ---- the whole numbers in the ring

  φ_suc : (k : ℤ) → φ (suc_ℤ k) ≈ φ k + 𝟙
  φ_suc (pos n) = rfl (nat n + 𝟙)
  φ_suc (negsuc zero) = symm (neg_up 𝟘 𝟙 ⨾ neg_zero)
  φ_suc (negsuc (suc n)) = symm (neg_up (nat (suc n)) 𝟙)

  φ_pred : (k : ℤ) → φ (pred_ℤ k) ≈ φ k + neg 𝟙
  φ_pred k = symm (drop (φ (pred_ℤ k)) 𝟙) ⨾ left (neg 𝟙) (symm (rw suc-pred at (φ_suc (pred_ℤ k))))

  φ_add : (m k : ℤ) → φ (m +ℤ k) ≈ φ m + φ k
  φ_add m k = ℤ_step (λ m. φ (m +ℤ k) ≈ φ m + φ k)
      (rw +ℤ_idl (symm (zero+ (φ k))))
      (λ m h. rw suc_ℤ-+ℤ (φ_suc (m +ℤ k) ⨾ left 𝟙 h ⨾ swap+ (φ m) (φ k) 𝟙 ⨾ left (φ k) (symm (φ_suc m))))
      (λ m h. rw pred_ℤ-+ℤ (φ_pred (m +ℤ k) ⨾ left (neg 𝟙) h ⨾ swap+ (φ m) (φ k) (neg 𝟙) ⨾ left (φ k) (symm (φ_pred m))))
      m

  φ_neg : (k : ℤ) → φ (neg_ℤ k) ≈ neg (φ k)
  φ_neg k = uniq (symm (rw +ℤ_invr at (φ_add k (neg_ℤ k))))

  φ_mul : (m k : ℤ) → φ (m *ℤ k) ≈ φ m * φ k
  φ_mul m k = ℤ_step (λ m. φ (m *ℤ k) ≈ φ m * φ k)
      (rw zero-*ℤ (symm (zero* (φ k))))
      (λ m h. rw suc_ℤ-*ℤ (φ_add (m *ℤ k) k ⨾ +_cong h (symm (one* (φ k))) ⨾ symm (distl (φ m) 𝟙 (φ k)) ⨾ *left (φ k) (symm (φ_suc m))))
      (λ m h. rw pred_ℤ-*ℤ (φ_add (m *ℤ k) (neg_ℤ k) ⨾ +_cong h (φ_neg k ⨾ neg_cong (symm (one* (φ k))) ⨾ symm (neg* 𝟙 (φ k))) ⨾ symm (distl (φ m) (neg 𝟙) (φ k)) ⨾ *left (φ k) (symm (φ_pred m))))
      m

  φ_one : φ (pos (suc zero)) ≈ 𝟙
  φ_one = zero+ 𝟙

  -- ---- each operation on normal forms keeps the value

  ev_mk : (p q : P) (ρ : ℕ → C) → ev (mk p q) ρ ≈ ev p (λ n. ρ (suc n)) + ρ zero * ev q ρ
  ev_mk (node a b) q ρ = rfl _
  ev_mk (con c) (node a b) ρ = rfl _
  ev_mk (con c) (con (pos zero)) ρ = symm (right (φ c) (*zero (ρ zero)) ⨾ +_zero (φ c))
  ev_mk (con c) (con (pos (suc n))) ρ = rfl _
  ev_mk (con c) (con (negsuc n)) ρ = rfl _

  ev_addk : (a : ℤ) (p : P) (ρ : ℕ → C) → ev (addk a p) ρ ≈ φ a + ev p ρ
  ev_addk a (con b) ρ = φ_add a b
  ev_addk a (node p q) ρ = left _ (ev_addk a p (λ n. ρ (suc n))) ⨾ +_assoc _ _ _

  ev_addc : (a : ℤ) (p : P) (ρ : ℕ → C) → ev (addc a p) ρ ≈ φ a + ev p ρ
  ev_addc (pos zero) p ρ = symm (zero+ _)
  ev_addc (pos (suc n)) p ρ = ev_addk (pos (suc n)) p ρ
  ev_addc (negsuc n) p ρ = ev_addk (negsuc n) p ρ

  ev_add : (p r : P) (ρ : ℕ → C) → ev (add p r) ρ ≈ ev p ρ + ev r ρ
  ev_add (con a) r ρ = ev_addc a r ρ
  ev_add (node p q) (con b) ρ = ev_addc b (node p q) ρ ⨾ +_comm _ _
  ev_add (node p q) (node r s) ρ = ev_mk (add p r) (add q s) ρ ⨾ +_cong (ev_add p r (λ n. ρ (suc n))) (*right (ρ zero) (ev_add q s ρ) ⨾ distr _ _ _) ⨾ four _ _ _ _

  ev_scalek : (c : ℤ) (p : P) (ρ : ℕ → C) → ev (scalek c p) ρ ≈ φ c * ev p ρ
  ev_scalek c (con a) ρ = φ_mul c a
  ev_scalek c (node p q) ρ = ev_mk (scalek c p) (scalek c q) ρ ⨾ +_cong (ev_scalek c p (λ n. ρ (suc n))) (*right (ρ zero) (ev_scalek c q ρ) ⨾ swap* _ _ _) ⨾ symm (distr _ _ _)

  ev_scale : (c : ℤ) (p : P) (ρ : ℕ → C) → ev (scale c p) ρ ≈ φ c * ev p ρ
  ev_scale (pos zero) p ρ = symm (zero* _)
  ev_scale (pos (suc zero)) p ρ = symm (*left _ φ_one ⨾ one* _)
  ev_scale (pos (suc (suc n))) p ρ = ev_scalek (pos (suc (suc n))) p ρ
  ev_scale (negsuc n) p ρ = ev_scalek (negsuc n) p ρ

  ev_injmul : (p : P) (f : P → P) → ((r : P) (ρ : ℕ → C) → ev (f r) ρ ≈ ev p ρ * ev r ρ) → (r : P) (ρ : ℕ → C) → ev (injmul p f r) ρ ≈ ev p (λ n. ρ (suc n)) * ev r ρ
  ev_injmul p f h (con c) ρ = ev_mk (scale c p) (con (pos zero)) ρ ⨾ right _ (*zero (ρ zero)) ⨾ +_zero _ ⨾ ev_scale c p (λ n. ρ (suc n)) ⨾ *_comm _ _
  ev_injmul p f h (node r s) ρ = ev_mk (f r) (injmul p f s) ρ ⨾ +_cong (h r (λ n. ρ (suc n))) (*right (ρ zero) (ev_injmul p f h s ρ) ⨾ swap* _ _ _) ⨾ symm (distr _ _ _)

  ev_mul : (p r : P) (ρ : ℕ → C) → ev (mul p r) ρ ≈ ev p ρ * ev r ρ
  ev_mul (con c) r ρ = ev_scale c r ρ
  ev_mul (node p q) (con c) ρ = ev_scale c (node p q) ρ ⨾ *_comm _ _
  ev_mul (node p q) (node r s) ρ = ev_add (injmul p (λ t. mul p t) (node r s)) (mk (con (pos zero)) (mul q (node r s))) ρ
      ⨾ +_cong (ev_injmul p (λ t. mul p t) (λ t σ. ev_mul p t σ) (node r s) ρ) (ev_mk (con (pos zero)) (mul q (node r s)) ρ ⨾ zero+ _ ⨾ *right (ρ zero) (ev_mul q (node r s) ρ) ⨾ symm (*_assoc _ _ _))
      ⨾ symm (distl _ _ _)

  ev_unknown : (i : ℕ) (ρ : ℕ → C) → ev (unknown i) ρ ≈ ρ i
  ev_unknown zero ρ = zero+ _ ⨾ *right (ρ zero) φ_one ⨾ *_one (ρ zero)
  ev_unknown (suc i) ρ = right _ (*zero (ρ zero)) ⨾ +_zero _ ⨾ ev_unknown i (λ n. ρ (suc n))

  ev_norm : (e : E) (ρ : ℕ → C) → ev (norm e) ρ ≈ ⟦◌⟧ e ρ
  ev_norm (var i) ρ = ev_unknown i ρ
  ev_norm (num c) ρ = rfl _
  ev_norm 𝟎 ρ = rfl _
  ev_norm 𝟏 ρ = φ_one
  ev_norm (a ⊕ b) ρ = ev_add (norm b) (norm a) ρ ⨾ +_comm _ _ ⨾ +_cong (ev_norm a ρ) (ev_norm b ρ)
  ev_norm (a ⊗ b) ρ = ev_mul (norm b) (norm a) ρ ⨾ *_comm _ _ ⨾ *_cong (ev_norm a ρ) (ev_norm b ρ)
  ev_norm (⊝ a) ρ = ev_scale (negsuc zero) (norm a) ρ ⨾ *left _ (neg_cong φ_one) ⨾ neg* 𝟙 _ ⨾ neg_cong (one* _ ⨾ ev_norm a ρ)

  -- ---- the theorem: equal normal forms, equal values

  pub solve : (ρ : ℕ → C) (a b : E) → norm a ≡ norm b → ⟦◌⟧ a ρ ≈ ⟦◌⟧ b ρ
  solve ρ a b h = symm (ev_norm a ρ) ⨾ rw h (ev_norm b ρ)

  -- values for the unknowns, the first for 0
  infixr 40 ◌◂◌
  abbrev pub ◌◂◌ : C → (ℕ → C) → ℕ → C
  ◌◂◌ x ρ zero = x
  ◌◂◌ x ρ (suc n) = ρ n

  abbrev pub none : ℕ → C
  none n = 𝟘

  -- ---- from equations: a = b where a - b is a sum of multiples c (l - r) of equations l = r that hold

  abbrev pub Hold : Comb → (ℕ → C) → Type 0
  Hold done ρ = Unit {0}
  Hold (times c l r k) ρ = (⟦◌⟧ l ρ ≈ ⟦◌⟧ r ρ) × Hold k ρ

  total_zero : (k : Comb) (ρ : ℕ → C) → Hold k ρ → ⟦◌⟧ (total k) ρ ≈ 𝟘
  total_zero done ρ h = rfl 𝟘
  total_zero (times c l r k) ρ h = +_cong (*right _ (left _ h.0 ⨾ +_neg _) ⨾ *zero _) (total_zero k ρ h.1) ⨾ +_zero 𝟘

  pub lin : (ρ : ℕ → C) (k : Comb) → Hold k ρ → (a b : E) → norm (a ⊖ b) ≡ norm (total k) → ⟦◌⟧ a ρ ≈ ⟦◌⟧ b ρ
  lin ρ k hs a b h = zero_diff (solve ρ (a ⊖ b) (total k) h ⨾ total_zero k ρ hs)
