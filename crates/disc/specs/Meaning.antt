-- What a disc stands for, and the arithmetic of discs.
-- Assumes nothing.
use Rattle.std.specs.Prelude.{◌≡◌, true}
use Rattle.std.proofs.lemmas.Bool.{and_parts, leb-true}
use Rattle.exact.specs.Numbers.{Exact}
use Rattle.enclosure.specs.Arithmetic.{Arithmetic}
use Rattle.enclosure.specs.Discs.{Ball, Holds, L, ball, in_range}
use Rattle.enclosure.specs.Fitted.{fitted}
use Rattle.disc.specs.declared.disc.Disc.{Disc}

-- a disc by its three numbers
abbrev pub meaning : Disc → Ball
meaning d = ball d.re d.im d.radius

abbrev pub Has : Disc → Exact → Type 0
Has d x = Holds (meaning d) x

-- the disc of three numbers that are in range
abbrev pub disc : (b : Ball) → in_range b ≡ true → Disc
disc b h =
    let p = and_parts _ _ h in
    let q = and_parts _ _ p.1 in
    record { re = b.re; im = b.im; radius = b.radius; re_fits = leb-true _ L p.0; im_fits = leb-true _ L q.0; radius_fits = leb-true _ L q.1 }

-- each operation answers the disc of the numbers that it works out
abbrev pub disc_arithmetic : Arithmetic Disc
disc_arithmetic = fitted meaning disc
