-- The truth at a point of two ports: what the answers hold, for every exact analyser, exact standards and device.
-- Assumes nothing.
use Rattle.std.specs.Prelude.{◌≡◌, Some, None, Option, Ok}
use Rattle.exact.specs.Ring.{Ops}
use Rattle.enclosure.specs.Arithmetic.{Arithmetic}
use Rattle.equations.specs.Exactly.{run_exactly, AllDefined}
use Rattle.one_port.specs.Truth as OnePort
use Rattle.one_port.specs.Truth.{SolHeld}
use Rattle.two_port.specs.Equations.{embed, exchange, both, reflection, from_device, seen_in, embedded}
use Rattle.two_port.specs.declared.Direction.{Direction}
use Rattle.two_port.specs.declared.Readings.{Readings}
use Rattle.two_port.specs.declared.Standards.{Standards}
use Rattle.two_port.specs.declared.TwelveTerms.{TwelveTerms}
use Rattle.two_port.specs.declared.embed.Seen.{Seen}
use Rattle.two_port.specs.declared.parameters.SParameters.{SParameters}

-- ---- an exact analyser is twelve exact terms

module _ (O : Ops) (inv : O.C → O.C) where
  open O use {C}

  -- what one direction sees of a device: the embed equations, nothing rounded ..
  abbrev pub sees : Direction C → SParameters C → Seen C
  sees f s = seen_in (run_exactly O inv embed (from_device f s))

  -- .. and every divisor other than zero
  abbrev pub SeenExists : Direction C → SParameters C → Type 0
  SeenExists f s = AllDefined O inv embed (from_device f s)

  -- the raw values of a device
  abbrev pub raw : TwelveTerms C → SParameters C → SParameters C
  raw t s = both (sees t.forward s) (sees t.reverse (exchange s))

  abbrev pub RawExists : TwelveTerms C → SParameters C → Type 0
  RawExists t s = SeenExists t.forward s × SeenExists t.reverse (exchange s)

  -- of the standards; those of short, open and load follow the one-port equation of their own direction
  pub record RawsExist (t : TwelveTerms C) (g : Standards C) : Type 0 where
    pub port1_exist : OnePort.RawsExist O inv (reflection t.forward) g.port1
    pub port2_exist : OnePort.RawsExist O inv (reflection t.reverse) g.port2
    pub thru_exists : RawExists t g.thru

-- ---- values that hold exact numbers

module _ {A : Type 0} (O : Ops) (◌∋◌ : A → O.C → Type 0) where
  open O use {C, ◌≈◌, 𝟘}

  infix 20 ◌≈◌
  infix 20 ◌∋◌
  pub record SParametersHeld (S : SParameters A) (s : SParameters C) : Type 0 where
    pub s11_held : S.s11 ∋ s.s11
    pub s21_held : S.s21 ∋ s.s21
    pub s12_held : S.s12 ∋ s.s12
    pub s22_held : S.s22 ∋ s.s22

  pub record DirectionHeld (T : Direction A) (t : Direction C) : Type 0 where
    pub ed_held : T.ed ∋ t.ed
    pub es_held : T.es ∋ t.es
    pub er_held : T.er ∋ t.er
    pub ex_held : T.ex ∋ t.ex
    pub el_held : T.el ∋ t.el
    pub et_held : T.et ∋ t.et

  pub record TermsHeld (T : TwelveTerms A) (t : TwelveTerms C) : Type 0 where
    pub forward_held : DirectionHeld T.forward t.forward
    pub reverse_held : DirectionHeld T.reverse t.reverse

  pub record StandardsHeld (G : Standards A) (g : Standards C) : Type 0 where
    pub port1_held : SolHeld O ◌∋◌ G.port1 g.port1
    pub port2_held : SolHeld O ◌∋◌ G.port2 g.port2
    pub thru_held : SParametersHeld G.thru g.thru

  -- the isolation reading holds the leakage, which is zero where none was taken
  abbrev pub LeakageHeld : Option A → C → Type 0
  LeakageHeld (Some X) x = X ∋ x
  LeakageHeld None x = x ≈ 𝟘

  -- the readings hold what the analyser t reads of the standards g
  pub record ReadingsHeld (inv : C → C) (M : Readings A) (t : TwelveTerms C) (g : Standards C) : Type 0 where
    pub port1_read : SolHeld O ◌∋◌ M.port1 (OnePort.raws O inv (reflection t.forward) g.port1)
    pub port2_read : SolHeld O ◌∋◌ M.port2 (OnePort.raws O inv (reflection t.reverse) g.port2)
    pub thru_read : SParametersHeld M.thru (raw O inv t g.thru)
    pub forward_leakage : LeakageHeld M.isolation.forward t.forward.ex
    pub reverse_leakage : LeakageHeld M.isolation.reverse t.reverse.ex

-- ---- the truth; a clause names the arithmetic, the exact numbers and ∋ one by one, for it says with them what is meant

module _ {A : Type 0} (R : Arithmetic A) (O : Ops) (inv : O.C → O.C) (◌∋◌ : A → O.C → Type 0) where
  open O use {C}

  infix 20 ◌∋◌
  -- where the listed values G hold the standards and the readings M what is read of them, the terms T hold the analyser's
  abbrev pub TermsTrue : Standards A → Readings A → TwelveTerms A → Type 0
  TermsTrue G M T = (t : TwelveTerms C) (g : Standards C) → RawsExist O inv t g
      → StandardsHeld O ◌∋◌ G g → ReadingsHeld O ◌∋◌ inv M t g → TermsHeld O ◌∋◌ T t

  -- where the terms T hold the analyser's and M the device's raw values, S holds the device
  abbrev pub DeviceTrue : TwelveTerms A → SParameters A → SParameters A → Type 0
  DeviceTrue T M S = (t : TwelveTerms C) (s : SParameters C) → RawExists O inv t s
      → TermsHeld O ◌∋◌ T t → SParametersHeld O ◌∋◌ M (raw O inv t s) → SParametersHeld O ◌∋◌ S s

  -- where the terms T hold the analyser's and S the device, that has raw values, and M holds them
  abbrev pub RawTrue : TwelveTerms A → SParameters A → SParameters A → Type 0
  RawTrue T S M = (t : TwelveTerms C) (s : SParameters C) → TermsHeld O ◌∋◌ T t → SParametersHeld O ◌∋◌ S s
      → RawExists O inv t s × SParametersHeld O ◌∋◌ M (raw O inv t s)

  -- where M is what embedding some values with the terms T answered, S holds every device that the values hold
  abbrev pub ComesBack : TwelveTerms A → SParameters A → SParameters A → Type 0
  ComesBack T M S = (E : SParameters A) → embedded R T E ≡ Ok M → (s : SParameters C) → SParametersHeld O ◌∋◌ E s → SParametersHeld O ◌∋◌ S s
