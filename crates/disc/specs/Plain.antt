-- Discs as three plain numbers.
use Rattle.std.specs.Prelude.{ℤ, pos, negsuc, Err, Result}
use Rattle.enclosure.specs.Discs.{Ball, ball, ranged}
use Rattle.disc.specs.declared.disc.plain.PlainDisc.{PlainDisc}
use Rattle.disc.specs.declared.disc.plain.OutOfRange.{OutOfRange}

-- three plain numbers are a disc where its parts and its radius are in range, and the radius is not below zero
abbrev pub made_of : ℤ → ℤ → ℤ → Result Ball OutOfRange
made_of x y (pos r) = ranged (record {}) (ball x y r)
made_of x y (negsuc r) = Err (record {})

abbrev pub made : PlainDisc → Result Ball OutOfRange
made p = made_of p.re p.im p.radius

abbrev pub plain : Ball → PlainDisc
plain b = record { re = b.re; im = b.im; radius = pos b.radius }
