-- Commutative rings and fields, each with an equality of its own: operations, and laws.
-- The laws of one given ring are in Type 0, so that a contract has room for them.
-- Assumes nothing.
pub record Ops : Type 1 where
  pub C : Type 0
  pub ◌≈◌ : C → C → Type 0
  pub 𝟘 : C
  pub 𝟙 : C
  pub ◌+◌ : C → C → C
  pub ◌*◌ : C → C → C
  pub neg : C → C

module _ (O : Ops) where
  open O use {C, ◌≈◌, 𝟘, 𝟙, ◌+◌, ◌*◌, neg}

  infix 20 ◌≈◌
  infixl 60 ◌+◌
  infixl 70 ◌*◌
  -- of a commutative ring
  pub record Laws : Type 0 where
    pub rfl : (x : C) → x ≈ x
    pub symm : {x y : C} → x ≈ y → y ≈ x
    pub trans : {x y z : C} → x ≈ y → y ≈ z → x ≈ z
    pub +_cong : {x x' y y' : C} → x ≈ x' → y ≈ y' → x + y ≈ x' + y'
    pub *_cong : {x x' y y' : C} → x ≈ x' → y ≈ y' → x * y ≈ x' * y'
    pub neg_cong : {x x' : C} → x ≈ x' → neg x ≈ neg x'
    pub +_assoc : (x y z : C) → (x + y) + z ≈ x + (y + z)
    pub +_comm : (x y : C) → x + y ≈ y + x
    pub +_zero : (x : C) → x + 𝟘 ≈ x
    pub +_neg : (x : C) → x + neg x ≈ 𝟘
    pub *_assoc : (x y z : C) → (x * y) * z ≈ x * (y * z)
    pub *_comm : (x y : C) → x * y ≈ y * x
    pub *_one : (x : C) → x * 𝟙 ≈ x
    pub distr : (x y z : C) → x * (y + z) ≈ x * y + x * z

  -- every number but zero has an inverse
  abbrev pub Inverts : (C → C) → Type 0
  Inverts inv = (x : C) → ¬ (x ≈ 𝟘) → x * inv x ≈ 𝟙

pub record Ring : Type 1 where
  pub ops : Ops
  pub laws : Laws ops

pub record Field : Type 1 where
  pub ring : Ring
  pub inv : ring.ops.C → ring.ops.C
  pub inverts : Inverts ring.ops inv
