-- The truth at a point of one port, in every arithmetic that encloses a field.
-- Assumes nothing.
use Rattle.std.proofs.Common.{◌≡◌, ℕ, Ok}
use Rattle.exact.specs.Ring.{Ops, Field}
use Rattle.enclosure.specs.Arithmetic.{Arithmetic, Encloses}
use Rattle.equations.specs.Formula.{Term, number, keep}
use Rattle.one_port.specs.Equations.{G1, G2, G3, M1, M2, M3, ED, ES, ER, S, M, solve, correct, embed, from_standards, with_terms, from_raw, from_device, solved, corrected, embedded}
use Rattle.one_port.specs.declared.Sol.{Sol}
use Rattle.one_port.specs.declared.ThreeTerms.{ThreeTerms}
use Rattle.one_port.specs.Truth.{TermsHeld, SolHeld, raws, raw, RawExists, TermsTrue, DeviceTrue, RawTrue, ComesBack}
use Rattle.equations.proofs.Enclosed.{yields, next, yielded, keep_holds, run_holds}
use Rattle.one_port.proofs.Algebra.{terms_are, device_is}

module _ {A : Type 0} (R : Arithmetic A) (F : Field) (◌∋◌ : A → F.ring.ops.C → Type 0) (L : Encloses R F.ring.ops F.inv ◌∋◌) where
  open F.ring.ops use {C, ◌≈◌}
  open L use {some_held, same_held}

  infix 20 ◌∋◌
  abbrev O : Ops
  O = F.ring.ops

  kept : (x : Term) {v : A} {c : C} {ρ : ℕ → A} {ε : ℕ → C} → v ∋ c → ((n : ℕ) → ρ n ∋ ε n) → (n : ℕ) → keep x v ρ n ∋ keep x c ε n
  kept x {v} {c} {ρ} {ε} p h = keep_holds R O F.inv ◌∋◌ L x v c ρ ε p h

  standards_held : (G N : Sol A) (g n : Sol C) → SolHeld O ◌∋◌ G g → SolHeld O ◌∋◌ N n → (k : ℕ) → from_standards G N k ∋ from_standards g n k
  standards_held G N g n h k = kept G1 h.short_held (kept G2 h.open_held (kept G3 h.load_held
      (kept M1 k.short_held (kept M2 k.open_held (kept M3 k.load_held (λ _. k.load_held))))))

  terms_held : {T : ThreeTerms A} {t : ThreeTerms C} {ρ : ℕ → A} {ε : ℕ → C} → TermsHeld O ◌∋◌ T t → ((k : ℕ) → ρ k ∋ ε k) → (k : ℕ) → with_terms T ρ k ∋ with_terms t ε k
  terms_held h k = kept ED h.ed_held (kept ES h.es_held (kept ER h.er_held k))

  pub terms_true : (G N : Sol A) (T : ThreeTerms A) → solved R G N ≡ Ok T → TermsTrue R O F.inv ◌∋◌ G N T
  terms_true G N T a t g exist held read = yielded {P = λ T. TermsHeld O ◌∋◌ T t}
      (next (run_holds R O F.inv ◌∋◌ L solve (from_standards G N) (from_standards g (raws O F.inv t g)) (standards_held G N g _ held read)) λ ρ e.
      -- the divisor of ES, the eleventh equation, is V
      let v = terms_are F t g exist e.0.1.1.1.1.1.1.1.1.1.1.0.2 in
      yields (record {
        ed_held = same_held _ _ _ v.0 (e.1 (number ED));
        es_held = same_held _ _ _ v.1 (e.1 (number ES));
        er_held = same_held _ _ _ v.2 (e.1 (number ER));
      }))
      a

  pub device_true : (T : ThreeTerms A) (r d : A) → corrected R T r ≡ Ok d → DeviceTrue R O F.inv ◌∋◌ T r d
  device_true T r d a t s exists held k = yielded {P = λ d. d ∋ s}
      (next (run_holds R O F.inv ◌∋◌ L correct (from_raw T r) (from_raw t (raw O F.inv t s)) (terms_held held (kept M k (λ _. k)))) λ ρ e.
      yields (same_held _ _ _ (device_is F t s exists e.0.1.0.2) (e.1 (number S))))
      a

  pub raw_true : (T : ThreeTerms A) (s r : A) → embedded R T s ≡ Ok r → RawTrue R O F.inv ◌∋◌ T s r
  raw_true T s r a t x held k = yielded {P = λ r. RawExists O F.inv t x × (r ∋ raw O F.inv t x)}
      (next (run_holds R O F.inv ◌∋◌ L embed (from_device T s) (from_device t x) (terms_held held (kept S k (λ _. k)))) λ ρ e. yields (e.0, e.1 (number M)))
      a

  -- any members of the terms serve
  pub comes_back : (T : ThreeTerms A) (r d : A) → corrected R T r ≡ Ok d → ComesBack R O F.inv ◌∋◌ T r d
  comes_back T r d a s b x h =
      let t : ThreeTerms C = record { ed = (some_held T.ed).0; es = (some_held T.es).0; er = (some_held T.er).0 } in
      let held : TermsHeld O ◌∋◌ T t = record { ed_held = (some_held T.ed).1; es_held = (some_held T.es).1; er_held = (some_held T.er).1 } in
      let seen = raw_true T s r b t x held h in
      device_true T r d a t x seen.0 held seen.1
