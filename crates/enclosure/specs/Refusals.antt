-- The numbers of the causes.
use Rattle.std.specs.Prelude.{ℕ}
use Rattle.enclosure.specs.declared.refusal.Refusal.{Refusal}
use Rattle.enclosure.specs.declared.refusal.Refusal.TheVariants.{ZeroDivisor, OffScale}

abbrev pub cause : Refusal → ℕ
cause ZeroDivisor = 8
cause OffScale = 9
