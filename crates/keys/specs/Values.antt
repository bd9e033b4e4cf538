-- What the making of keys works out before their bytes are written. Assumes nothing.
use Rattle.std.specs.Prelude.{List, ◌≡◌, ℕ}
use Rattle.sets.specs.declared.Params.{Params}
use Rattle.biscuit.specs.Keys.{key_gen}

-- s, t and y of the key that two seeds make
pub record KeyValues (P : Params) (seed_f seedS s t y : List ℕ) : Type 0 where
  pub secret : s ≡ (key_gen P seed_f seedS).s
  pub target : t ≡ (key_gen P seed_f seedS).t
  pub second : y ≡ (key_gen P seed_f seedS).y
