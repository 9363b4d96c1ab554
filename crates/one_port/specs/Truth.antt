-- The truth at a point of one port: what the answers hold, for every exact analyser, exact standards and device.
-- Assumes nothing.
use Rattle.std.specs.Prelude.{◌≡◌, Ok}
use Rattle.exact.specs.Ring.{Ops}
use Rattle.enclosure.specs.Arithmetic.{Arithmetic}
use Rattle.equations.specs.Exactly.{run_exactly, AllDefined}
use Rattle.equations.specs.Formula.{at}
use Rattle.one_port.specs.Equations.{M, embed, from_device, embedded}
use Rattle.one_port.specs.declared.Sol.{Sol}
use Rattle.one_port.specs.declared.ThreeTerms.{ThreeTerms}

-- ---- an exact analyser is three exact terms

module _ (O : Ops) (inv : O.C → O.C) where
  open O use {C}

  -- the raw value of a device: the embed equations, nothing rounded ..
  abbrev pub raw : ThreeTerms C → C → C
  raw t s = at (run_exactly O inv embed (from_device t s)) M

  -- .. and every divisor other than zero
  abbrev pub RawExists : ThreeTerms C → C → Type 0
  RawExists t s = AllDefined O inv embed (from_device t s)

  -- of the three standards
  abbrev pub raws : ThreeTerms C → Sol C → Sol C
  raws t g = record { short = raw t g.short; «open» = raw t g.«open»; load = raw t g.load }

  abbrev pub RawsExist : ThreeTerms C → Sol C → Type 0
  RawsExist t g = RawExists t g.short × RawExists t g.«open» × RawExists t g.load

-- ---- values that hold exact numbers

module _ {A : Type 0} (O : Ops) (◌∋◌ : A → O.C → Type 0) where
  infix 20 ◌∋◌
  pub record TermsHeld (T : ThreeTerms A) (t : ThreeTerms O.C) : Type 0 where
    pub ed_held : T.ed ∋ t.ed
    pub es_held : T.es ∋ t.es
    pub er_held : T.er ∋ t.er

  pub record SolHeld (G : Sol A) (g : Sol O.C) : Type 0 where
    pub short_held : G.short ∋ g.short
    pub open_held : G.«open» ∋ g.«open»
    pub load_held : G.load ∋ g.load

-- ---- the truth; a clause names the arithmetic, the exact numbers and ∋ one by one, for it says with them what is meant

module _ {A : Type 0} (R : Arithmetic A) (O : Ops) (inv : O.C → O.C) (◌∋◌ : A → O.C → Type 0) where
  open O use {C}

  infix 20 ◌∋◌
  -- where the listed values G hold the standards and the readings M their raw values, the terms T hold the analyser's
  abbrev pub TermsTrue : Sol A → Sol A → ThreeTerms A → Type 0
  TermsTrue G M T = (t : ThreeTerms C) (g : Sol C) → RawsExist O inv t g
      → SolHeld O ◌∋◌ G g → SolHeld O ◌∋◌ M (raws O inv t g) → TermsHeld O ◌∋◌ T t

  -- where the terms T hold the analyser's and M the device's raw value, S holds the device
  abbrev pub DeviceTrue : ThreeTerms A → A → A → Type 0
  DeviceTrue T M S = (t : ThreeTerms C) (s : C) → RawExists O inv t s → TermsHeld O ◌∋◌ T t → M ∋ raw O inv t s → S ∋ s

  -- where the terms T hold the analyser's and S the device, that has a raw value, and M holds it
  abbrev pub RawTrue : ThreeTerms A → A → A → Type 0
  RawTrue T S M = (t : ThreeTerms C) (s : C) → TermsHeld O ◌∋◌ T t → S ∋ s → RawExists O inv t s × (M ∋ raw O inv t s)

  -- where M is what embedding some value with the terms T answered, S holds every device that the value holds
  abbrev pub ComesBack : ThreeTerms A → A → A → Type 0
  ComesBack T M S = (E : A) → embedded R T E ≡ Ok M → (s : C) → E ∋ s → S ∋ s
