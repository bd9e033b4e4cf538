-- The numbers of a repetition (algorithms 12 and 13 of the submission). Assumes nothing.
use Rattle.std.specs.Prelude.{ℕ}
use Rattle.sets.specs.Sets.{S}
use Rattle.sets.specs.declared.Params.{Params}
use Rattle.group.specs.declared.Rep.{Rep}
use Rattle.biscuit.specs.Room.{groups}

-- of repetition e, with a party left out, or nobody (0)
abbrev pub rep_of : Params → ℕ → ℕ → Rep
rep_of P e hidden = record { s = S P; n = P.n; m = P.m; e = e; hidden = hidden; groups = groups P }
