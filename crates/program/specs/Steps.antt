-- How the checker of prefixes goes on. Internal: what it is for is said in Text.
use Rattle.std.specs.Prelude.{ℕ, ◌+◌, ◌-◌, Bool, true, false, not, ◌&&◌, cond, Some, None, Option, ◌==◌, nat_le}
use Rattle.program.specs.Names.{letter, naming}
use Rattle.program.specs.declared.check.Place.{Place}
use Rattle.program.specs.declared.check.Place.TheVariants.{Due, Name, Behind}
use Rattle.program.specs.declared.check.Prefix.{Prefix}

-- how many parentheses are open, and where among the parts the reader stands
abbrev pub stand : ℕ → Place → Prefix
stand depth place = record { depth = depth; place = place }

-- before the first byte
abbrev pub start : Prefix
start = stand 0 Due

-- whether a factor is due
abbrev pub is_due : Place → Bool
is_due Due = true
is_due (Name len) = false
is_due Behind = false

-- whether the bytes read are a whole program
abbrev pub whole : Prefix → Bool
whole s = not (is_due s.place) && s.depth == 0

-- after a byte that only follows a factor, with the reader at a place
abbrev pub followed : Place → Prefix → Option Prefix
followed place s = cond (is_due s.place) None (Some (stand s.depth place))

-- after a plus or a semicolon: a factor is due again
abbrev pub operated : Prefix → Option Prefix
operated = followed Due

-- after a star
abbrev pub starred : Prefix → Option Prefix
starred = followed Behind

-- after an opening parenthesis, of which at most 8 are open
abbrev pub opened : Prefix → Option Prefix
opened s = cond (is_due s.place) (cond (nat_le 8 s.depth) None (Some (stand (s.depth + 1) Due))) None

-- after a closing parenthesis
abbrev pub shut : Prefix → Option Prefix
shut s = cond (is_due s.place) None (cond (s.depth == 0) None (Some (stand (s.depth - 1) Behind)))

-- after one more byte of a name, of at most 16
abbrev pub longer : ℕ → Place → Option Prefix
longer depth Due = None
longer depth (Name len) = cond (nat_le 16 len) None (Some (stand depth (Name (len + 1))))
longer depth Behind = None

abbrev pub lengthened : Prefix → Option Prefix
lengthened s = longer s.depth s.place

-- after a letter, which begins a name or goes on with one
abbrev pub lettered : Prefix → Option Prefix
lettered s = cond (is_due s.place) (Some (stand s.depth (Name 1))) (lengthened s)

-- after one more byte, or none
abbrev pub stepped : Prefix → ℕ → Option Prefix
stepped s c =
    cond (c == 43) (operated s)
    (cond (c == 59) (operated s)
    (cond (c == 42) (starred s)
    (cond (c == 40) (opened s)
    (cond (c == 41) (shut s)
    (cond (letter c) (lettered s)
    (cond (naming c) (lengthened s) None))))))
