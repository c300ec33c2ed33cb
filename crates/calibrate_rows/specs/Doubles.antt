-- Rules, "Calibration": doubles. Each operation is rounded once.
use Rattle.std.specs.Prelude.{ℕ, Bool, true, false, ◌&&◌, pos, Float}
use Rattle.std.specs.Float.{nan, inf, fin, binary64}
use Rattle.std.specs.Float.Ieee.{add, sub, mul, div, le, eq, of_int}
use Rattle.whole.specs.Search.{pick}

infixl 65 ◌⊕◌ ◌⊖◌
infixl 70 ◌⊗◌ ◌⊘◌
abbrev pub ◌⊕◌ : Float → Float → Float
x ⊕ y = add binary64 x y

abbrev pub ◌⊖◌ : Float → Float → Float
x ⊖ y = sub binary64 x y

abbrev pub ◌⊗◌ : Float → Float → Float
x ⊗ y = mul binary64 x y

abbrev pub ◌⊘◌ : Float → Float → Float
x ⊘ y = div binary64 x y

-- the double of a whole number, which is exact up to 2 ^ 53
abbrev pub double : ℕ → Float
double n = of_int binary64 (pos n)

abbrev pub finite : Float → Bool
finite nan = false
finite (inf negative) = false
finite (fin negative m e) = true

-- x is at least low and at most high; no NaN is
abbrev pub between : Float → Float → Float → Bool
between low high x = le low x && le x high

-- zero of either sign
abbrev pub is_zero : Float → Bool
is_zero x = eq x (double 0)

-- minus zero counts as zero
abbrev pub unsigned : Float → Float
unsigned x = pick (is_zero x) (double 0) x
